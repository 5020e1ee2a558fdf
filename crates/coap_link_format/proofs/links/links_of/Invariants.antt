use Rattle.std.proofs.Common.{map, option_map}
use Rattle.coap_link_format.specs.BadPlaces.{IsLeft, left_len}
use Rattle.coap_link_format.specs.LinkFormat.{AreLinks}
use Rattle.coap_link_format.proofs.links.links_of.Given as goal

abbrev pub invariant-links : goal.invariant-links
invariant-links g l = record {
  are : AreLinks (map (λ x. x.text.now) l.links.items);
  left : IsLeft l.text (map (λ x. x.text.now) l.links.items) (option_map (λ s. s.now) l.left);
}

abbrev pub decreases-links : goal.decreases-links
decreases-links g l = left_len (option_map (λ s. s.now) l.left)

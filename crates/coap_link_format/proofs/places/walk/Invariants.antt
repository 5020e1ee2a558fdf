use Rattle.std.proofs.Common.{◌≡◌, ◌+◌, ◌≤◌, ℕ, length}
use Rattle.coap_link_format.specs.Places.{walked}
use Rattle.coap_link_format.specs.declared.places.Place.{Place}
use Rattle.coap_link_format.specs.declared.places.Place.TheVariants as place
use Rattle.coap_link_format.proofs.places.walk.Given as goal

abbrev pub invariant-bytes : goal.invariant-bytes
invariant-bytes l = record {
  all : ◌≡◌ {A = ℕ × Place} (l.len + (walked l.place l.left).0, (walked l.place l.left).1) (walked place.Begin l.text);
  within : l.len + length l.left ≡ length l.text;
}

abbrev pub decreases-bytes : goal.decreases-bytes
decreases-bytes l = length l.left

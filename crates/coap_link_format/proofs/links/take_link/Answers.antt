use Rattle.std.proofs.Common.{◌≡◌, List, ℕ, Option, map, option_map, subst, sym}
use Rattle.coap_link_format.specs.BadPlaces.{IsBadAt, IsLeft}
use Rattle.coap_link_format.specs.LinkFormat.{AreLinks}
use Rattle.coap_link_format.proofs.Lists.{are_on, bad_left, left_on}
use Rattle.coap_link_format.proofs.links.take_link.Goals as goal

pub returns-in-Ok-add-clause-are : goal.returns-in-Ok-add-clause-are
returns-in-Ok-add-clause-are g c =
    subst AreLinks (sym c.in-Ok-add.ensures) (are_on _ _ c.requires.are c.in-Ok.ensures.ok.0)

pub returns-in-Ok-add-clause-left : goal.returns-in-Ok-add-clause-left
returns-in-Ok-add-clause-left g c =
    let after : Option (List ℕ) = option_map (λ s. s.now) c.in-Ok.after in
    subst (λ (d : List (List ℕ)). IsLeft c.args.text.now d after) (sym c.in-Ok-add.ensures)
    (left_on c.args.text.now (map (λ l. l.text.now) c.args.links.now.items) c.args.rest.now c.in-Ok.link.now after
    c.requires.left c.in-Ok.ensures.ok.1)

pub returns-in-Err-clause-bad : goal.returns-in-Err-clause-bad
returns-in-Err-clause-bad g c n is =
    let same : c.place_in.result ≡ n = cc is in
    subst (λ (k : ℕ). IsBadAt k c.args.text.now) same
    (bad_left c.args.text.now _ c.args.rest.now c.in-Err.at c.place_in.result c.requires.are c.requires.left
    c.in-Err.ensures.bad c.place_in.ensures)

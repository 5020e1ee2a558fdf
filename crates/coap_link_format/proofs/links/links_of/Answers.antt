use Rattle.std.proofs.Common.{◌≡◌, ◌∙◌, ℕ, List, Err, None, Option, map, ap, option_map, subst, sym}
use Rattle.std.specs.Borrow.{Bor}
use Rattle.coap_link_format.specs.BadPlaces.{IsLeft}
use Rattle.coap_link_format.specs.declared.links.LinksRefusal.TheVariants.{Bad}
use Rattle.coap_link_format.proofs.Lists.{only_list}
use Rattle.coap_link_format.proofs.links.links_of.Goals as goal

pub returns-clause-ok : goal.returns-clause-ok
returns-clause-ok g c =
    let none : c.links.left ≡ None = cc in
    record {
      each = c.links.invariant.are;
      joins = subst (λ (o : Option (Bor (List ℕ))). IsLeft c.args.text.now (map
          (λ x. x.text.now) c.links.links.items) (option_map (λ s. s.now) o)) none c.links.invariant.left;
    }

pub returns-clause-only : goal.returns-clause-only
returns-clause-only g c others spells =
    let none : c.links.left ≡ None = cc in
    only_list (map (λ x. x.text.now) c.links.links.items) others c.links.invariant.are spells.each
    (sym (subst (λ (o : Option (Bor (List ℕ))). IsLeft c.args.text.now (map (λ x. x.text.now) c.links.links.items)
    (option_map (λ s. s.now) o)) none c.links.invariant.left)
    ∙ spells.joins)

pub returns-in-Err-clause-bad : goal.returns-in-Err-clause-bad
returns-in-Err-clause-bad g c n is =
    c.in-Err.ensures.bad n (let same : c.in-Err.refusal ≡ Bad n = cc is in ap Err same)

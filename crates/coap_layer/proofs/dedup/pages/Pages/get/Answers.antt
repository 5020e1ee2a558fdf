use Rattle.std.proofs.Common.{rules, arith, ◌≡◌, ℕ, ◌+◌, ◌-◌, ◌*◌, ◌/◌, ◌%◌, ◌++◌, None, Some, length, option_copied}
use Rattle.std.proofs.Common.{slice_get, ap, sym, subst, refl, ◌∙◌}
use Rattle.std.proofs.lemmas.Bool.{ltb-false, ltb-true}
use Rattle.std.proofs.lemmas.Option.{slice_get_past, slice_get_read}
use Rattle.coap_layer.specs.Machine.Paged.{Paged, items_on}
use Rattle.coap_layer.specs.declared.dedup.pages.TheConstants.{PAGE as page}
use Rattle.coap_layer.proofs.Calls.OnPages.{lent_at, on_full, on_last}
use Rattle.coap_layer.proofs.dedup.pages.Pages.get.Goals as goal

pub returns-in-Some : goal.returns-in-Some
returns-in-Some g c =
    let s = c.self.inside in
    let p = c.args.place in
    let base = ap (λ (v : Paged g.row.T.Denot). slice_get v.items p) (sym c.self.view_is) in
    let full = slice_get_read s.full.items (length s.full.items) (p / page) c.in-Some.page.now refl
    (ltb-true (p / page) (length s.full.items) (sym c.in-Some.ensures.item.0)) c.in-Some.ensures.item.1 in
    let there = lent_at c.deref.result.now (p % page) c.get-in-Some.result c.get-in-Some.ensures.lookup in
    there ∙ (ap (λ xs. slice_get xs (p % page)) c.deref.ensures.value
    ∙ sym (base ∙ on_full s.full.items s.last.items p c.in-Some.page.now c.self.invariant.0 full))

pub returns-in-None : goal.returns-in-None
returns-in-None g c =
    let s = c.self.inside in
    let p = c.args.place in
    let base = ap (λ (v : Paged g.row.T.Denot). slice_get v.items p) (sym c.self.view_is) in
    let past = c.in-None.ensures.item.3 in
    let len = c.len.ensures in
    let ok = s.full.ok.0 in
    let j : ℕ = p - length s.full.items * page in
    let at : length s.full.items * page + j ≡ p = omega (arith, past) in
    let same : p - c.len.result * page ≡ j = omega (arith, len, ok) in
    let there = lent_at c.deref-in-None.result.now (p - c.len.result * page) c.get-in-None.result
    c.get-in-None.ensures.lookup in
    there ∙ (ap (λ xs. slice_get xs (p - c.len.result * page)) c.deref-in-None.ensures.value
    ∙ (ap (slice_get s.last.items) same
    ∙ sym (base ∙ on_last s.full.items s.last.items p j c.self.invariant.0 at)))

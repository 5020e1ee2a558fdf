use Rattle.std.proofs.Common.{◌≡◌, None, Some, length, option_copied, slice_get, ap, sym, subst, refl, ◌∙◌}
use Rattle.std.proofs.lemmas.Bool.{ltb-false, ltb-true}
use Rattle.std.proofs.lemmas.Option.{slice_get_past, slice_get_read}
use Rattle.slab.specs.Slab.{get}
use Rattle.coap_operations.specs.Listed.{Listed}
use Rattle.coap_operations.proofs.KeyLists.{living_at, look_live}
use Rattle.coap_operations.proofs.operations.Operations.live.Goals as goal

pub returns-in_err-get : goal.returns-in_err-get
returns-in_err-get g c =
    let s = c.self.inside in
    let at = get s.entries in
    let p = c.args.place in
    let base = ap (λ (v : Listed g.row.W.Denot g.row.O.Denot). slice_get v.live p) (sym c.self.view_is)
    ∙ living_at at s.queue.items s.running s.live.items c.self.invariant p in
    let none = subst (λ xs. slice_get xs p ≡ None) c.deref.ensures.value
    (slice_get_past c.deref.result.now p (ltb-false p (length c.deref.result.now)
    (sym c.in_err-get.ensures.lookup.0))) in
    ap option_copied c.from_residual.ensures ∙ sym (base ∙ ap (look_live at) none)

pub returns : goal.returns
returns g c =
    let s = c.self.inside in
    let at = get s.entries in
    let p = c.args.place in
    let base = ap (λ (v : Listed g.row.W.Denot g.row.O.Denot). slice_get v.live p) (sym c.self.view_is)
    ∙ living_at at s.queue.items s.running s.live.items c.self.invariant p in
    let found = subst (λ xs. slice_get xs p ≡ Some c.in_ok-get.field-0.now) c.deref.ensures.value
    (slice_get_read c.deref.result.now (length c.deref.result.now) p c.in_ok-get.field-0.now refl
    (ltb-true p (length c.deref.result.now) (sym c.in_ok-get.ensures.lookup.0)) c.in_ok-get.ensures.lookup.1) in
    c.observation.ensures ∙ sym (base ∙ ap (look_live at) found)

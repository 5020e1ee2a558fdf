use Rattle.std.proofs.Common.{◌≡◌, None, Some, length, option_map, slice_get, Bor, ap, sym, subst, refl, ◌∙◌}
use Rattle.std.proofs.lemmas.Bool.{ltb-false, ltb-true}
use Rattle.std.proofs.lemmas.Option.{slice_get_past, slice_get_read}
use Rattle.slab.specs.Slab.{get}
use Rattle.coap_operations.specs.Listed.{Listed, queued_map}
use Rattle.coap_operations.specs.declared.queued.Queued.TheVariants.{Starts}
use Rattle.coap_operations.proofs.KeyLists.{look, waiting_at}
use Rattle.coap_operations.proofs.operations.Operations.waiting.Goals as goal

pub returns-in_err-number : goal.returns-in_err-number
returns-in_err-number g c =
    let s = c.self.inside in
    let at = get s.entries in
    let p = c.args.place in
    let base = ap (λ (v : Listed g.row.W.Denot g.row.O.Denot). slice_get v.queue p) (sym c.self.view_is)
    ∙ waiting_at at s.queue.items s.running s.live.items c.self.invariant p in
    let none = subst (λ xs. slice_get xs p ≡ None) c.deref.ensures.0
    (slice_get_past c.deref.result.now p (ltb-false p (length c.deref.result.now)
    (sym c.in_err-number.ensures.lookup.0))) in
    ap (option_map (queued_map (λ (w : Bor g.row.W.Denot). w.now))) c.from_residual.ensures
    ∙ sym (base ∙ ap (look at) none)

pub returns-in-Cancels : goal.returns-in-Cancels
returns-in-Cancels g c =
    let s = c.self.inside in
    let at = get s.entries in
    let p = c.args.place in
    let base = ap (λ (v : Listed g.row.W.Denot g.row.O.Denot). slice_get v.queue p) (sym c.self.view_is)
    ∙ waiting_at at s.queue.items s.running s.live.items c.self.invariant p in
    let found = subst (λ xs. slice_get xs p ≡ Some c.in_ok-number.field-0.now) c.deref.ensures.0
    (slice_get_read c.deref.result.now (length c.deref.result.now) p c.in_ok-number.field-0.now refl
    (ltb-true p (length c.deref.result.now) (sym c.in_ok-number.ensures.lookup.0)) c.in_ok-number.ensures.lookup.1)
    in
    sym (base ∙ ap (look at) (found ∙ ap (λ x. Some x) c.in-Cancels.is))

pub returns-in_err-operation-in-Starts : goal.returns-in_err-operation-in-Starts
returns-in_err-operation-in-Starts g c =
    let s = c.self.inside in
    let at = get s.entries in
    let p = c.args.place in
    let base = ap (λ (v : Listed g.row.W.Denot g.row.O.Denot). slice_get v.queue p) (sym c.self.view_is)
    ∙ waiting_at at s.queue.items s.running s.live.items c.self.invariant p in
    let found = subst (λ xs. slice_get xs p ≡ Some c.in_ok-number.field-0.now) c.deref.ensures.0
    (slice_get_read c.deref.result.now (length c.deref.result.now) p c.in_ok-number.field-0.now refl
    (ltb-true p (length c.deref.result.now) (sym c.in_ok-number.ensures.lookup.0)) c.in_ok-number.ensures.lookup.1)
    in
    ap (option_map (queued_map (λ (w : Bor g.row.W.Denot). w.now))) c.from_residual-in_err-operation-in-Starts.ensures
    ∙ sym (base ∙ (ap (look at) (found ∙ ap (λ x. Some x) c.in-Starts.is)
    ∙ ap (option_map (λ w. Starts w)) (sym c.in_err-operation-in-Starts.ensures)))

pub returns-in_ok-operation-in-Starts : goal.returns-in_ok-operation-in-Starts
returns-in_ok-operation-in-Starts g c =
    let s = c.self.inside in
    let at = get s.entries in
    let p = c.args.place in
    let base = ap (λ (v : Listed g.row.W.Denot g.row.O.Denot). slice_get v.queue p) (sym c.self.view_is)
    ∙ waiting_at at s.queue.items s.running s.live.items c.self.invariant p in
    let found = subst (λ xs. slice_get xs p ≡ Some c.in_ok-number.field-0.now) c.deref.ensures.0
    (slice_get_read c.deref.result.now (length c.deref.result.now) p c.in_ok-number.field-0.now refl
    (ltb-true p (length c.deref.result.now) (sym c.in_ok-number.ensures.lookup.0)) c.in_ok-number.ensures.lookup.1)
    in
    sym (base ∙ (ap (look at) (found ∙ ap (λ x. Some x) c.in-Starts.is)
    ∙ ap (option_map (λ w. Starts w)) (sym c.in_ok-operation-in-Starts.ensures)))

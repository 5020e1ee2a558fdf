use Rattle.std.proofs.Common.{rules, ap, sym, ◌∙◌, ◌++◌, ℕ, filter, subst, refl, max, false, [], ◌≡◌, Some}
use Rattle.std.proofs.lemmas.List.{append-nil}
use Rattle.std.specs.List.{filter_map}
use Rattle.std.specs.Option.{option_to_list}
use Rattle.coap_layer.specs.Machine.Entries.{IsUpTo, arrivals_in}
use Rattle.coap_layer.specs.Machine.Parts.{awaited, held}
use Rattle.coap_layer.specs.Machine.Sound.{IsUnknown}
use Rattle.coap_layer.specs.Machine.Sendings.{answer_for, open_now}
use Rattle.coap_layer.specs.Machine.State.{copies, State, is_live, tick_of}
use Rattle.coap_layer.specs.Trace.{Ticks}
use Rattle.coap_layer.specs.Words.{left_by}
use Rattle.coap_layer.proofs.Calls.CallsAreSteps.{step_of, ticked_left}
use Rattle.coap_layer.proofs.Calls.Remembered.{on_err, same_arrivals}
use Rattle.coap_layer.proofs.Calls.Places.{within_pushed}
use Rattle.coap_layer.proofs.Calls.TakenIn.{none_of, room_kept}
use Rattle.coap_layer.proofs.layer.Layer.tick.Goals as goal

pub returns-clause-step : goal.returns-clause-step
returns-clause-step g c =
    let h : State = held c.self.inside.most c.self.inside.clock.0 c.self.inside.awaits c.self.inside.ids
    c.self.inside.lists in
    let at : ℕ = c.later.result.0 in
    let due = c.take_tick-due.result.1 in
    let out = option_to_list c.in_ok-sent.sent in
    let sendings = c.in_ok-grow.ensures.sendings in (
      answer_for due,
      c.ticked.ensures,
      step_of h c.args.self.now.state _ c.args.now.0 at Ticks (answer_for due) out (ap (λ s. s.state) c.self.view_is) tt
          (search rules)
          (c.take_tick-due.ensures.due ∙ ap (λ cs. tick_of at (open_now cs)) sendings) (sym c.in_ok-sent.ensures.copy)
          (ticked_left h at due out (arrivals_in c.take_tick-due.new.lists.entries)
          (open_now c.take_tick-due.new.lists.sendings.items) c.take_tick-due.new.lists.waiting.items
          (search rules)
          (c.take_tick-due.ensures.arrived ∙ ap (filter (is_live c.self.inside.clock.0))
          (same_arrivals c.in_ok-grow.ensures.settled c.in_ok-grow.ensures.newest))
          (c.take_tick-due.ensures.open out ∙ ap (λ cs. filter_map
          (left_by (record { at = at; call = Ticks; answer = answer_for due; out = out })) (open_now cs)) sendings)
          (c.take_tick-due.ensures.waiting ∙ ap (λ q. q ++ out) c.in_ok-grow.ensures.waiting)),
    )

pub take_tick-due-requires-clause-up_to : goal.take_tick-due-requires-clause-up_to
take_tick-due-requires-clause-up_to g c = subst (IsUpTo c.self.inside.clock.0)
    (sym (same_arrivals c.in_ok-grow.ensures.settled c.in_ok-grow.ensures.newest)) c.self.invariant.2.0

pub take_tick-due-requires-clause-place : goal.take_tick-due-requires-clause-place
take_tick-due-requires-clause-place g c some = c.in_ok-grow.ensures.place (c.is_some.ensures ∙ some)

pub returns-clause-kept : goal.returns-clause-kept
returns-clause-kept g c has = c.in_ok-grow.ensures.kept (ap (λ s. s.has_room) c.self.view_is ∙ has)

pub returns-in_err-grow-clause-quiet : goal.returns-in_err-grow-clause-quiet
returns-in_err-grow-clause-quiet g c idle =
    let cs = open_now c.self.inside.lists.sendings.items in
    let here : copies (max c.self.inside.clock.0 c.args.now.0) cs ≡ [] =
    subst (λ (x : State). copies (max x.clock c.args.now.0) x.open_cons ≡ [])
    (sym (ap (λ s. s.state) c.self.view_is)) idle in
    let moment : c.later.result.0 ≡ max c.self.inside.clock.0 c.args.now.0 = search rules in
    let unsent : c.is_some.result ≡ false = c.is_some.ensures
    ∙ none_of c.in_ok-sent.sent (c.in_ok-sent.ensures.copy ∙ (ap (λ t. copies t cs) moment ∙ here)) in
    absurd (cc (c.in_err-grow.ensures.idle refl refl unsent))

pub returns-in_err-sent-clause-quiet : goal.returns-in_err-sent-clause-quiet
returns-in_err-sent-clause-quiet g c idle =
    let cs = open_now c.self.inside.lists.sendings.items in
    let here : copies (max c.self.inside.clock.0 c.args.now.0) cs ≡ [] =
    subst (λ (x : State). copies (max x.clock c.args.now.0) x.open_cons ≡ [])
    (sym (ap (λ s. s.state) c.self.view_is)) idle in
    let moment : c.later.result.0 ≡ max c.self.inside.clock.0 c.args.now.0 = search rules in
    absurd (cc (c.in_err-sent.ensures.idle (ap (λ t. copies t cs) moment ∙ here)))

pub invariant_of-self : goal.invariant_of-self
invariant_of-self g c =
    let i = c.self.invariant in
    let old = c.self.inside.lists in (
      within_pushed c.self.inside.mark old.entries.settled c.grow.new.lists.entries.settled old.waiting.items
          c.grow.new.lists.waiting.items [] i.0 c.in_err-grow.ensures.settled
          (c.in_err-grow.ensures.waiting ∙ sym (append-nil old.waiting.items)),
      c.in_err-grow.ensures.room,
      (
        subst (IsUpTo c.self.inside.clock.0) (sym (same_arrivals c.in_err-grow.ensures.settled
            c.in_err-grow.ensures.newest)) i.2.0,
        subst (IsUnknown c.self.inside.clock.0 (awaited c.self.inside.awaits) c.self.inside.replies)
            (sym c.in_err-grow.ensures.settled) i.2.1,
      ),
    )

pub returns-in_err-grow-clause-err : goal.returns-in_err-grow-clause-err
returns-in_err-grow-clause-err g c =
    let settled = c.in_err-grow.ensures.settled in
    let newest = c.in_err-grow.ensures.newest in
    let sendings = c.in_err-grow.ensures.sendings in
    let waiting = c.in_err-grow.ensures.waiting in
    let room = c.in_err-grow.ensures.err in
    on_err _ (cc (settled, newest, sendings, waiting, room) ∙ c.self.view_is)

pub invariant_of-self-2 : goal.invariant_of-self-2
invariant_of-self-2 g c = (
  c.take_tick-due.ensures.within,
  room_kept c.grow.new.room c.grow.new.lists c.take_tick-due.new.lists c.in_ok-grow.ensures.room
      c.take_tick-due.ensures.sendings_len c.take_tick-due.ensures.sendings_capacity
      c.take_tick-due.ensures.waiting_room,
  c.take_tick-due.ensures.kept,
)

pub returns-clause-before : goal.returns-clause-before
returns-clause-before g c =
    let before = c.take_tick-due.ensures.before c.self.inside.most c.self.inside.ids in
    let arrived = same_arrivals c.in_ok-grow.ensures.settled c.in_ok-grow.ensures.newest in
    let sendings = c.in_ok-grow.ensures.sendings in
    let waiting = c.in_ok-grow.ensures.waiting in
    let shown = ap (λ s. Some s.state) c.self.view_is in
    cc (before, arrived, sendings, waiting, shown)

pub returns-in_err-grow-clause-kept : goal.returns-in_err-grow-clause-kept
returns-in_err-grow-clause-kept g c has = c.in_err-grow.ensures.kept (ap (λ s. s.has_room) c.self.view_is ∙ has)

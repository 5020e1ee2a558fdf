use Rattle.std.proofs.Common.{rules, ◌≡◌, ap, sym, subst, ◌∙◌, ◌++◌, ℕ, refl, true, false, filter, None, Some}
use Rattle.std.specs.Option.{option_to_list}
use Rattle.coap_layer.specs.Arrivals.{arrival_at}
use Rattle.coap_layer.specs.Machine.Arriving.{IsArriving, newly_by, open_by}
use Rattle.coap_layer.specs.Machine.Entries.{IsUpTo, arrivals_in}
use Rattle.coap_layer.specs.Machine.Parts.{held}
use Rattle.coap_layer.specs.Machine.Sendings.{open_now}
use Rattle.coap_layer.specs.Machine.Sound.{IsKept}
use Rattle.coap_layer.specs.Machine.State.{State, answer_to, is_live, is_remembered}
use Rattle.coap_layer.specs.Trace.{Becomes}
use Rattle.coap_layer.proofs.Calls.Remembered.{on_err, same_arrivals}
use Rattle.coap_layer.proofs.Calls.Received.{received, awaited_so, quiet_so}
use Rattle.coap_layer.proofs.Calls.TakenIn.{none_of, room_kept, same_found}
use Rattle.coap_layer.proofs.layer.Layer.receive.Goals as goal

pub take_in-mark-requires-clause-place : goal.take_in-mark-requires-clause-place
take_in-mark-requires-clause-place g c some = c.in_ok-grow.ensures.place (c.is_some.ensures ∙ some)

pub take_in-mark-requires-clause-up_to : goal.take_in-mark-requires-clause-up_to
take_in-mark-requires-clause-up_to g c = subst (IsUpTo c.self.inside.clock.0)
    (sym (same_arrivals c.in_ok-grow.ensures.settled c.in_ok-grow.ensures.newest)) c.self.invariant.2.0

pub take_in-mark-requires-clause-unknown : goal.take_in-mark-requires-clause-unknown
take_in-mark-requires-clause-unknown g c up =
    let h : State = held c.self.inside.most c.self.inside.clock.0 c.self.inside.awaits c.self.inside.ids
    c.self.inside.lists in
    let at : ℕ = c.later.result.0 in
    let a = c.judge-arriving.result in
    let judged = c.judge-arriving.ensures h refl refl refl (sym c.would_give-free.ensures) in
    let arrives : IsArriving h at c.args.from (arrival_at c.args.bytes.now) a =
    subst (λ x. IsArriving h at c.args.from x a) c.read-datagram.ensures judged.0 in
    ap (is_remembered at c.args.from a.id.0) (same_arrivals c.in_ok-grow.ensures.settled c.in_ok-grow.ensures.newest)
    ∙ arrives.new up

pub returns-clause-step : goal.returns-clause-step
returns-clause-step g c =
    let h : State = held c.self.inside.most c.self.inside.clock.0 c.self.inside.awaits c.self.inside.ids
    c.self.inside.lists in
    let at : ℕ = c.later.result.0 in
    let a = c.judge-arriving.result in
    let shows = c.read-datagram.ensures in
    let judged = c.judge-arriving.ensures h refl refl refl (sym c.would_give-free.ensures) in
    received h c.args.now.0 c.args.from c.args.bytes.now a at (search rules) c.args.self.now.state _
    (arrivals_in c.take_in-mark.new.lists.entries) (open_now c.take_in-mark.new.lists.sendings.items)
    (option_to_list c.in_ok-sent.sent) c.take_in-mark.new.lists.waiting.items _
    (ap (λ s. s.state) c.self.view_is)
    (subst (λ x. IsArriving h at c.args.from x a) shows judged.0)
    (ap Becomes (c.told.ensures ∙ (judged.1 ∙ ap (answer_to h at c.args.from) shows)))
    (c.take_in-mark.ensures.arrived ∙ ap (λ es. filter (is_live at)
    (filter (is_live c.self.inside.clock.0) es ++ newly_by at c.args.from a))
    (same_arrivals c.in_ok-grow.ensures.settled c.in_ok-grow.ensures.newest))
    (c.take_in-mark.ensures.open ∙ ap (λ cs. open_by c.args.from a (open_now cs)) c.in_ok-grow.ensures.sendings)
    c.in_ok-sent.ensures.sent
    (c.take_in-mark.ensures.waiting ∙ ap (λ q. q ++ option_to_list c.in_ok-sent.sent) c.in_ok-grow.ensures.waiting)
    c.awaiting-self-inside.ensures

pub returns-in_err-sent-clause-quiet : goal.returns-in_err-sent-clause-quiet
returns-in_err-sent-clause-quiet g c quiet =
    let h : State = held c.self.inside.most c.self.inside.clock.0 c.self.inside.awaits c.self.inside.ids
    c.self.inside.lists in
    let at : ℕ = c.later.result.0 in
    let a = c.judge-arriving.result in
    let judged = c.judge-arriving.ensures h refl refl refl (sym c.would_give-free.ensures) in
    let arrives : IsArriving h at c.args.from (arrival_at c.args.bytes.now) a =
    subst (λ x. IsArriving h at c.args.from x a) c.read-datagram.ensures judged.0 in
    let none = quiet_so h c.args.now.0 c.args.from c.args.bytes.now a at c.args.self.now.state (search rules)
    (ap (λ s. s.state) c.self.view_is) arrives quiet in
    absurd (cc (c.in_err-sent.ensures.silent none.2))

pub returns-in_err-grow-clause-quiet : goal.returns-in_err-grow-clause-quiet
returns-in_err-grow-clause-quiet g c quiet =
    let h : State = held c.self.inside.most c.self.inside.clock.0 c.self.inside.awaits c.self.inside.ids
    c.self.inside.lists in
    let at : ℕ = c.later.result.0 in
    let a = c.judge-arriving.result in
    let judged = c.judge-arriving.ensures h refl refl refl (sym c.would_give-free.ensures) in
    let arrives : IsArriving h at c.args.from (arrival_at c.args.bytes.now) a =
    subst (λ x. IsArriving h at c.args.from x a) c.read-datagram.ensures judged.0 in
    let none = quiet_so h c.args.now.0 c.args.from c.args.bytes.now a at c.args.self.now.state (search rules)
    (ap (λ s. s.state) c.self.view_is) arrives quiet in
    let unsent : c.is_some.result ≡ false = c.is_some.ensures
    ∙ none_of c.in_ok-sent.sent (c.in_ok-sent.ensures.sent ∙ none.2) in
    absurd (cc (c.in_err-grow.ensures.idle (c.keeps.ensures ∙ none.1) (c.hands.ensures ∙ none.0) unsent))

pub returns-in_err-grow-clause-err : goal.returns-in_err-grow-clause-err
returns-in_err-grow-clause-err g c =
    let settled = c.in_err-grow.ensures.settled in
    let newest = c.in_err-grow.ensures.newest in
    let sendings = c.in_err-grow.ensures.sendings in
    let waiting = c.in_err-grow.ensures.waiting in
    let room = c.in_err-grow.ensures.err in
    on_err _ (cc (settled, newest, sendings, waiting, room) ∙ c.self.view_is)

pub invariant_of-self-2 : goal.invariant_of-self-2
invariant_of-self-2 g c =
    let at : ℕ = c.later.result.0 in (
      c.take_in-mark.ensures.within,
      room_kept c.grow.new.room c.grow.new.lists c.take_in-mark.new.lists c.in_ok-grow.ensures.room
          c.take_in-mark.ensures.sendings_len c.take_in-mark.ensures.sendings_capacity
          c.take_in-mark.ensures.waiting_room,
      subst (λ w. IsKept at w true c.take_in-mark.new.lists.entries)
          (sym c.awaiting-self-inside.ensures) c.take_in-mark.ensures.kept,
    )

pub returns-clause-may_reply : goal.returns-clause-may_reply
returns-clause-may_reply g c m up =
    let h : State = held c.self.inside.most c.self.inside.clock.0 c.self.inside.awaits c.self.inside.ids
    c.self.inside.lists in
    let at : ℕ = c.later.result.0 in
    let a = c.judge-arriving.result in
    let shows = c.read-datagram.ensures in
    let judged = c.judge-arriving.ensures h refl refl refl (sym c.would_give-free.ensures) in
    let arrives : IsArriving h at c.args.from (arrival_at c.args.bytes.now) a =
    subst (λ x. IsArriving h at c.args.from x a) shows judged.0 in
    let there = awaited_so h c.args.now.0 c.args.from c.args.bytes.now a at None _ m arrives
    (ap Becomes (c.told.ensures ∙ (judged.1 ∙ ap (answer_to h at c.args.from) shows))) up in
    record {
      awaited = c.awaiting-self-inside.ensures ∙ there.0;
      room = c.in_ok-grow.ensures.there (c.hands.ensures ∙ there.1);
      replies = refl;
    }

pub returns-clause-kept : goal.returns-clause-kept
returns-clause-kept g c has = c.in_ok-grow.ensures.kept (ap (λ s. s.has_room) c.self.view_is ∙ has)

pub returns-clause-before : goal.returns-clause-before
returns-clause-before g c =
    c.take_in-mark.ensures.before c.self.inside.most c.self.inside.ids
    ∙ (same_found c.self.inside.most c.self.inside.clock.0 _ c.self.inside.ids _ _ _ _ _ _
    (same_arrivals c.in_ok-grow.ensures.settled c.in_ok-grow.ensures.newest)
    (ap open_now c.in_ok-grow.ensures.sendings) c.in_ok-grow.ensures.waiting
    ∙ ap (λ s. Some s.state) c.self.view_is)

use Rattle.std.proofs.Common.{Option, ◌≡◌, ◌<◌, max, true, Ok, refl, sym, rules, ap, ◌∙◌, subst}
use Rattle.std.specs.Vec.{vec_len, vec_capacity}
use Rattle.std.specs.Option.{option_map}
use Rattle.coap_layer.specs.Machine.State as L
use Rattle.coap_layer.specs.Machine.State.{answer_of, copies}
use Rattle.coap_layer.specs.Machine.Steps.{Steps}
use Rattle.coap_layer.specs.Trace as T
use Rattle.coap_exchange.specs.declared.separate.Deferred.{Deferred}
use Rattle.coap_exchange.specs.Machine.AnswererShown.{Shown, own_with, sending_as}
use Rattle.coap_exchange.specs.Machine.WhatIsDue.{takes_con, takes_response}
use Rattle.coap_exchange.specs.AnswererSteps.{asking_room, due_of, failed_by, ready_at, ready_if, separate_unless}
use Rattle.coap_exchange.specs.Machine.Listed.{listed}
use Rattle.coap_exchange.proofs.Calls.ServerTicks.{asks_freely, asking_clock, may_respond, placed, readied, ticked}
use Rattle.coap_exchange.proofs.Calls.ServerTicks.{waits_its_turn}
use Rattle.coap_exchange.proofs.Calls.RoomIsKept.{may_still, ticked_confirms}
use Rattle.coap_exchange.proofs.Calls.WhatIsDue.{expires, ticked_ready, ticked_same}
use Rattle.coap_layer.proofs.Facts.CallsOfLayer.{step_clock}
use Rattle.coap_exchange.proofs.answerer.Answerer.tick.Given.{Over}
use Rattle.coap_exchange.proofs.answerer.Answerer.tick.Goals.{After-due_of}
use Rattle.coap_exchange.proofs.answerer.Answerer.tick.Goals as goal

-- the first request whose delay has passed
abbrev first : (g : Over) → After-due_of g → Option Deferred
first g c =
    let i = c.self.inside in
    ready_at (own_with i.layer.state.clock i.findings.pending i.deferred (listed i.separate.items) i.findings.ended
    (sending_as i.findings.unmatched)) c.args.now.0

-- .. is ready, where nothing comes before it
is_ready : (g : Over) (c : After-due_of g) → c.unless_due-ready.result
    ≡ option_map (λ (x : Deferred). x.asked) (ready_if c.in_ok-tick.ensures.step.0 (first g c))
is_ready g c =
    let i = c.self.inside in
    let step = c.in_ok-tick.ensures.step in
    let found : c.ready.result ≡ option_map (λ (x : Deferred). x.asked) (first g c) =
    search (rules, c.ready.ensures.first, c.max.ensures, c.clock.ensures, c.deref.ensures.value) in
    readied i.layer.state c.make_room.new.layer.state c.tick.new.self.state c.args.now.0 c.in_ok-tick.tick step.0
    c.in_ok-make_room.ensures.state step.1 step.2 c.would_tick-due.result c.ready.result c.unless_due-ready.result
    (first g c) c.would_tick-due.ensures.idle c.would_tick-due.ensures.due c.unless_due-ready.ensures found

-- so the layer was asked whether its response can be sent, and that is what the tick did
asks : (g : Over) (c : After-due_of g)
    → Steps c.tick.new.self.state (asking_room c.args.now.0 (ready_if c.in_ok-tick.ensures.step.0 (first g c))
    c.is_sendable-room.result) c.is_sendable-room.new.layer.state
asks g c = c.is_sendable-room.ensures.steps (ready_if c.in_ok-tick.ensures.step.0 (first g c)) (is_ready g c)

due_is : (g : Over) (c : After-due_of g)
    → c.due_of.result ≡ due_of c.in_ok-tick.ensures.step.0 (first g c) c.is_sendable-room.result
due_is g c = c.due_of.ensures.due c.in_ok-tick.ensures.step.0 (first g c) c.in_ok-tick.ensures.step.1 (is_ready g c)

pub is_sendable-room-requires : goal.is_sendable-room-requires
is_sendable-room-requires g c =
    let step = c.in_ok-tick.ensures.step in
    asks_freely c.make_room.new.layer c.tick.new.self c.args.now.0 c.in_ok-tick.tick step.0 step.1 step.2
    c.unless_due-ready.result
    (waits_its_turn c.self.inside.layer.state c.make_room.new.layer.state c.tick.new.self.state c.args.now.0
    c.in_ok-tick.tick step.0 c.in_ok-make_room.ensures.state step.1 step.2 c.would_tick-due.result c.ready.result
    c.unless_due-ready.result c.would_tick-due.ensures.idle c.unless_due-ready.ensures)
    c.in_ok-tick.ensures.kept c.in_ok-make_room.ensures.room

pub invariant_of-self-2 : goal.invariant_of-self-2
invariant_of-self-2 g c = (
  λ h. absurd (cc h),
  λ may.
      let step = c.in_ok-tick.ensures.step in
      let sends = c.is_sendable-room.ensures in
      let which = waits_its_turn c.self.inside.layer.state c.make_room.new.layer.state c.tick.new.self.state
      c.args.now.0 c.in_ok-tick.tick step.0 c.in_ok-make_room.ensures.state step.1 step.2 c.would_tick-due.result
      c.ready.result c.unless_due-ready.result c.would_tick-due.ensures.idle c.unless_due-ready.ensures in
      let place : c.is_sendable-room.result ≡ true
      → vec_len c.make_room.new.separate < vec_capacity c.make_room.new.separate =
      λ now. placed c.make_room.new.layer c.tick.new.self c.args.now.0 c.in_ok-tick.tick step.0 step.1 step.2
      (vec_len c.make_room.new.separate < vec_capacity c.make_room.new.separate) c.unless_due-ready.result
      which (sends.some now) c.in_ok-make_room.ensures.place (sends.may now) in
      search rules,
)

pub returns-clause-step : goal.returns-clause-step
returns-clause-step g c =
    let i = c.self.inside in
    let found = c.replace-self-inside.new.dest in
    let is = c.replace-self-inside.ensures.after in
    let step = c.in_ok-tick.ensures.step in
    let k = (goal.at.returns-clause-step g c).After-due_of in
    let list = c.settle_down.ensures.now ∙ ap listed c.in_ok-make_room.ensures.items in (
      step.0,
      c.is_sendable-room.result,
      ticked i.layer.state i.findings.pending i.deferred (listed i.separate.items) i.findings.ended
          (sending_as i.findings.unmatched) c.args.self.now.state (ap (λ s. s.state) c.self.view_is)
          c.make_room.new.layer.state c.tick.new.self.state
          c.is_sendable-room.new.layer.state c.args.now.0 step.0 c.is_sendable-room.result c.due_of.result
          found.pending (listed c.unless_failed.new.separate.items) found.ended (sending_as found.unmatched)
          c.in_ok-make_room.ensures.state step.2 (asks g k) (due_is g k) (search rules)
          (c.unless_failed.ensures.now step.0 step.1 ∙ ap (separate_unless step.0) list)
          (ap (λ x. x.ended) is ∙ c.of_tick-found.ensures.ended step.0 step.1
          ∙ ap (failed_by step.0) (ap listed c.deref-2.ensures.value ∙ list))
          (ap (λ x. sending_as x.unmatched) is ∙ ap sending_as c.of_tick-found.ensures.unmatched),
    )

pub returns-clause-ready : goal.returns-clause-ready
returns-clause-ready g c a h =
    let i = c.self.inside in
    let step = c.in_ok-tick.ensures.step in
    let now = c.args.now.0 in
    let k = (goal.at.returns-clause-ready g c).After-due_of in
    let list = c.settle_down.ensures.now ∙ ap listed c.in_ok-make_room.ensures.items in
    let tick : L.Step i.layer.state now T.Ticks step.0 c.tick.new.self.state =
    subst (λ x. L.Step x now T.Ticks step.0 c.tick.new.self.state) c.in_ok-make_room.ensures.state step.2 in
    let clock = asking_clock now (ready_if step.0 (first g k)) c.is_sendable-room.result c.tick.new.self.state
    c.is_sendable-room.new.layer.state i.layer.state.clock
    (step_clock i.layer.state c.tick.new.self.state now T.Ticks step.0 tick) (asks g k) in
    let found = c.replace-self-inside.new.dest in
    may_respond i.layer.state i.findings.pending i.deferred (listed i.separate.items) i.findings.ended
    (sending_as i.findings.unmatched) c.tick.new.self.state c.is_sendable-room.new.layer.state now step.0
    c.is_sendable-room.result c.due_of.result
    found.pending (listed c.unless_failed.new.separate.items) found.ended (sending_as found.unmatched) _ a refl
    (λ sends. search rules) clock (due_is g k)
    (c.unless_failed.ensures.now step.0 step.1 ∙ ap (separate_unless step.0) list) (asks g k) h

pub returns-clause-kept : goal.returns-clause-kept
returns-clause-kept g c at there may =
    let i = c.self.inside in
    let step = c.in_ok-tick.ensures.step in
    let k = (goal.at.returns-clause-kept g c).After-due_of in
    may_still c.args.self.now _ i.layer.state c.is_sendable-room.new.layer.state at there
    (sym (ap (λ s. s.state.layer) c.self.view_is)) refl (λ h. search rules)
    (ticked_confirms i.layer.state c.make_room.new.layer.state c.tick.new.self.state c.is_sendable-room.new.layer.state
    c.args.now.0 c.in_ok-tick.tick step.0 (ready_if step.0 (first g k)) c.is_sendable-room.result
    c.in_ok-make_room.ensures.state step.1 step.2 (asks g k) at there) may

pub returns-clause-only : goal.returns-clause-only
returns-clause-only g c a h =
    let step = c.in_ok-tick.ensures.step in
    let k = (goal.at.returns-clause-only g c).After-due_of in
    sym (ap (λ s. takes_response s.state c.args.now.0) c.self.view_is)
    ∙ ticked_ready c.self.inside.layer.state c.make_room.new.layer.state c.tick.new.self.state
    c.is_sendable-room.new.layer.state c.args.now.0 c.in_ok-tick.tick step.0 (first g k) c.is_sendable-room.result
    c.in_ok-make_room.ensures.state step.1 step.2 a (asks g k) (sym (due_is g k) ∙ h)

pub returns-clause-same : goal.returns-clause-same
returns-clause-same g c h there =
    let step = c.in_ok-tick.ensures.step in
    let k = (goal.at.returns-clause-same g c).After-due_of in
    ticked_same c.self.inside.layer.state c.make_room.new.layer.state c.tick.new.self.state
    c.is_sendable-room.new.layer.state c.args.now.0 c.in_ok-tick.tick step.0 (first g k) c.is_sendable-room.result
    c.in_ok-make_room.ensures.state step.1 step.2 (asks g k) (sym (due_is g k) ∙ h) there
    ∙ ap (λ s. takes_con s.state c.args.now.0 there) c.self.view_is

pub returns-clause-fails : goal.returns-clause-fails
returns-clause-fails g c none due =
    let step = c.in_ok-tick.ensures.step in
    let now = c.args.now.0 in
    let k = (goal.at.returns-clause-fails g c).After-due_of in
    ap Ok (due_is g k
    ∙ expires c.self.inside.layer.state c.make_room.new.layer.state c.tick.new.self.state now step.0 (first g k)
    c.is_sendable-room.result c.in_ok-make_room.ensures.state step.2
    (ap (λ (s : Shown). copies (max s.state.own.clock now) s.state.layer.open_cons) c.self.view_is ∙ none)
    (λ e. due (sym (ap (λ (s : Shown). answer_of s.state.layer (max s.state.own.clock now) T.Ticks) c.self.view_is)
    ∙ e)))

use Rattle.std.proofs.Common.{rules, ap, sym, ◌∙◌, [], ◌∷◌, ◌++◌, List}
use Rattle.coap_types.specs.declared.message.Kind.TheVariants.{Non}
use Rattle.coap_codec.specs.Spelling.{message_bytes}
use Rattle.coap_layer.specs.Machine.Entries.{arrivals_in}
use Rattle.coap_layer.specs.Machine.Parts.{held, open_before}
use Rattle.coap_layer.specs.Machine.Sendings.{open_now}
use Rattle.coap_layer.specs.Machine.State.{State}
use Rattle.coap_layer.specs.Trace.{Packet, with_head}
use Rattle.coap_layer.proofs.Calls.Places.{before_same}
use Rattle.coap_layer.proofs.Calls.Sent.{non_left, non_refused, not_without}
use Rattle.coap_layer.proofs.layer.Layer.plain.Goals as goal

pub returns-in-Some-clause-step : goal.returns-in-Some-clause-step
returns-in-Some-clause-step g c _ =
    let h : State = held c.self.inside.most c.self.inside.clock.0 c.self.inside.awaits c.self.inside.ids
    c.self.inside.lists in
    non_refused h c.args.self.now.state c.args.now.0 c.later-at.result.0 c.args.to c.args.content.now
    (ap (λ s. s.state) c.self.view_is) c.requires.spelled (search rules)
    c.would_give.result c.in-Some.refusal c.would_give.ensures (sym c.refusal.ensures ∙ c.in-Some.is)

pub returns-clause-step : goal.returns-clause-step
returns-clause-step g c _ =
    let h : State = held c.self.inside.most c.self.inside.clock.0 c.self.inside.awaits c.self.inside.ids
    c.self.inside.lists in
    let out : List Packet = record {
      to = c.args.to;
      bytes = message_bytes (with_head Non c.give-id.result.0 c.args.content.now);
    } ∷ [] in
    non_left h c.args.self.now.state c.args.now.0 c.later-at.result.0 c.args.to c.args.content.now
    (ap (λ s. s.state) c.self.view_is) c.requires.spelled (search rules)
    c.would_give.result c.give-id.result _ _ _ _ _ c.would_give.ensures
    (sym c.refusal.ensures ∙ c.in_default.is) c.give-id.ensures.id
    (ap (λ s. s.upcoming) c.give-id.ensures.new) (ap (λ s. s.last_used) c.give-id.ensures.new)
    (ap arrivals_in (c.send_non.ensures.entries ∙ c.make_room.ensures.entries))
    (ap (λ v. open_now v.items) c.send_non.ensures.sendings ∙ ap open_now c.make_room.ensures.sendings)
    (c.send_non.ensures.waiting ∙ ap (λ (q : List Packet). q ++ out) c.make_room.ensures.waiting)

pub returns-in_default-make_room-clause-quiet : goal.returns-in_default-make_room-clause-quiet
returns-in_default-make_room-clause-quiet g c quiet _ =
    let h : State = held c.self.inside.most c.self.inside.clock.0 c.self.inside.awaits c.self.inside.ids
    c.self.inside.lists in
    not_without h c.args.self.now.state c.args.now.0 c.later-at.result.0 c.would_give.result
    (ap (λ s. s.state) c.self.view_is) (search rules) c.would_give.ensures
    (sym c.refusal.ensures ∙ c.in_default.is) quiet

pub returns-clause-before : goal.returns-clause-before
returns-clause-before g c =
    let out : List Packet = record {
      to = c.args.to;
      bytes = message_bytes (with_head Non c.give-id.result.0 c.args.content.now);
    } ∷ [] in
    before_same c.self.inside.most c.self.inside.mark _ _ c.self.inside.lists.entries.settled
    c.send_non.new.lists.entries.settled c.self.inside.lists.sendings.items c.send_non.new.lists.sendings.items
    c.self.inside.lists.waiting.items c.send_non.new.lists.waiting.items out
    c.self.invariant.0 (ap (λ m. m.settled) (c.send_non.ensures.entries ∙ c.make_room.ensures.entries))
    (ap (λ v. open_before v.items) c.send_non.ensures.sendings ∙ ap open_before c.make_room.ensures.sendings)
    (c.send_non.ensures.waiting ∙ ap (λ (q : List Packet). q ++ out) c.make_room.ensures.waiting)
    (c.note.ensures c.give-id.new.self)
    ∙ ap (λ s. s.before) c.self.view_is

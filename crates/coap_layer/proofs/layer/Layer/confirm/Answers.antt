use Rattle.std.proofs.Common.{rules, ◌≡◌, ap, sym, subst, ◌∙◌, [], ◌∷◌, ◌++◌, ◌+◌, ◌%◌, is_some, ◌&&◌, List}
use Rattle.std.proofs.lemmas.List.{append-nil}
use Rattle.std.specs.List.{list_any}
use Rattle.coap_types.specs.declared.message.Kind.TheVariants.{Con}
use Rattle.coap_types.specs.SameEndpoint.{same_endpoint}
use Rattle.coap_codec.specs.Spelling.{message_bytes}
use Rattle.coap_layer.specs.Machine.Entries.{IsUpTo, arrivals_in}
use Rattle.coap_layer.specs.Machine.Parts.{awaited, held, open_before}
use Rattle.coap_layer.specs.Machine.Sendings.{open_now}
use Rattle.coap_layer.specs.Machine.Sound.{IsKept}
use Rattle.coap_layer.specs.Machine.State.{State, is_busy}
use Rattle.coap_layer.specs.Trace.{Packet, with_head}
use Rattle.coap_layer.specs.Words.{Open}
use Rattle.coap_types.specs.declared.transmission.TheConstants.{ACK_TIMEOUT_MS as ack_timeout}
use Rattle.coap_types.specs.declared.transmission.TheConstants.{TIMEOUT_VALUES as timeout_values}
use Rattle.coap_layer.proofs.Calls.Remembered.{upto_later}
use Rattle.coap_layer.proofs.Calls.Outstanding.{busy_is}
use Rattle.coap_layer.proofs.Calls.Places.{before_same, within_pushed}
use Rattle.coap_layer.proofs.Calls.Sent.{con_left, con_refused, not_refused}
use Rattle.coap_layer.proofs.layer.Layer.confirm.Goals as goal

pub returns-in-Some-clause-step : goal.returns-in-Some-clause-step
returns-in-Some-clause-step g c _ =
    let h : State = held c.self.inside.most c.self.inside.clock.0 c.self.inside.awaits c.self.inside.ids
    c.self.inside.lists in
    let busy : c.is_busy-busy.result ≡ is_busy c.args.to h.open_cons
    = c.is_busy-busy.ensures ∙ (ap (λ cs. list_any (λ x. is_some x.last && same_endpoint x.to c.args.to) cs)
    c.deref.ensures.value ∙ busy_is c.args.to c.self.inside.lists.sendings.items) in
    con_refused h c.args.self.now.state c.args.now.0 c.later-at.result.0 c.args.to c.args.content.now
    (ap (λ s. s.state) c.self.view_is) c.requires.spelled (search rules)
    c.args.word c.is_busy-busy.result c.would_give.result c.in-Some.refusal busy c.would_give.ensures
    (sym c.refusal.ensures ∙ c.in-Some.is)

pub returns-in_default-make_room-clause-room : goal.returns-in_default-make_room-clause-room
returns-in_default-make_room-clause-room g c has same =
    absurd (cc (c.in_default-make_room.ensures.had (ap (λ s. s.has_room) c.self.view_is ∙ has)))

pub invariant_of-self : goal.invariant_of-self
invariant_of-self g c =
    let i = c.self.invariant in (i.0, i.1, (upto_later _ _ _ (search rules) i.2.0, tt))

pub invariant_of-self-in_default-make_room : goal.invariant_of-self-in_default-make_room
invariant_of-self-in_default-make_room g c =
    let i = c.self.invariant in
    let entries = c.make_room.ensures.entries in (
      within_pushed c.self.inside.mark c.self.inside.lists.entries.settled c.make_room.new.lists.entries.settled
          c.self.inside.lists.waiting.items c.make_room.new.lists.waiting.items [] i.0 (ap (λ m. m.settled) entries)
          (c.make_room.ensures.waiting ∙ sym (append-nil c.self.inside.lists.waiting.items)),
      c.make_room.ensures.room,
      subst (IsKept c.self.inside.clock.0 (awaited c.self.inside.awaits) c.self.inside.replies) (sym entries) i.2,
    )

pub invariant_of-self-2 : goal.invariant_of-self-2
invariant_of-self-2 g c =
    let out : List Packet = record {
      to = c.args.to;
      bytes = message_bytes (with_head Con c.give-id.result.0 c.args.content.now);
    } ∷ [] in (
      within_pushed c.self.inside.mark c.self.inside.lists.entries.settled c.send_con.new.lists.entries.settled
          c.self.inside.lists.waiting.items c.send_con.new.lists.waiting.items out c.self.invariant.0
          (ap (λ m. m.settled) (c.send_con.ensures.entries ∙ c.make_room.ensures.entries))
          (c.send_con.ensures.waiting ∙ ap (λ (q : List Packet). q ++ out) c.make_room.ensures.waiting),
      search rules,
      (
        subst (λ m. IsUpTo c.later-at.result.0 (arrivals_in m))
            (sym (c.send_con.ensures.entries ∙ c.make_room.ensures.entries))
            (upto_later _ _ _ (search rules) c.self.invariant.2.0),
        tt,
      ),
    )

pub returns-clause-step : goal.returns-clause-step
returns-clause-step g c _ =
    let h : State = held c.self.inside.most c.self.inside.clock.0 c.self.inside.awaits c.self.inside.ids
    c.self.inside.lists in
    let busy : c.is_busy-busy.result ≡ is_busy c.args.to h.open_cons
    = c.is_busy-busy.ensures ∙ (ap (λ cs. list_any (λ x. is_some x.last && same_endpoint x.to c.args.to) cs)
    c.deref.ensures.value ∙ busy_is c.args.to c.self.inside.lists.sendings.items) in
    let out : List Packet = record {
      to = c.args.to;
      bytes = message_bytes (with_head Con c.give-id.result.0 c.args.content.now);
    } ∷ [] in
    let begun : List Open = record {
      to = c.args.to;
      id = c.give-id.result.0;
      bytes = message_bytes (with_head Con c.give-id.result.0 c.args.content.now);
      timeout = ack_timeout + c.args.word % timeout_values;
      first = c.later-at.result.0;
      last = c.later-at.result.0;
    }
    ∷ [] in
    con_left h c.args.self.now.state c.args.now.0 c.later-at.result.0 c.args.to c.args.content.now
    (ap (λ s. s.state) c.self.view_is) c.requires.spelled (search rules)
    c.args.word c.is_busy-busy.result c.would_give.result c.give-id.result _ _ _ _ _ busy c.would_give.ensures
    (sym c.refusal.ensures ∙ c.in_default.is) c.give-id.ensures.id
    (ap (λ s. s.upcoming) c.give-id.ensures.new) (ap (λ s. s.last_used) c.give-id.ensures.new)
    (ap arrivals_in (c.send_con.ensures.entries ∙ c.make_room.ensures.entries))
    (c.send_con.ensures.open ∙ ap (λ cs. open_now cs ++ begun) c.make_room.ensures.sendings)
    (c.send_con.ensures.waiting ∙ ap (λ (q : List Packet). q ++ out) c.make_room.ensures.waiting)

pub returns-clause-before : goal.returns-clause-before
returns-clause-before g c =
    let out : List Packet = record {
      to = c.args.to;
      bytes = message_bytes (with_head Con c.give-id.result.0 c.args.content.now);
    } ∷ [] in
    before_same c.self.inside.most c.self.inside.mark _ _ c.self.inside.lists.entries.settled
    c.send_con.new.lists.entries.settled
    c.self.inside.lists.sendings.items c.send_con.new.lists.sendings.items c.self.inside.lists.waiting.items
    c.send_con.new.lists.waiting.items out
    c.self.invariant.0 (ap (λ m. m.settled) (c.send_con.ensures.entries ∙ c.make_room.ensures.entries))
    (c.send_con.ensures.before ∙ ap open_before c.make_room.ensures.sendings)
    (c.send_con.ensures.waiting ∙ ap (λ (q : List Packet). q ++ out) c.make_room.ensures.waiting)
    (c.note.ensures c.give-id.new.self)
    ∙ ap (λ s. s.before) c.self.view_is

pub returns-in_default-make_room-clause-quiet : goal.returns-in_default-make_room-clause-quiet
returns-in_default-make_room-clause-quiet g c quiet _ =
    let h : State = held c.self.inside.most c.self.inside.clock.0 c.self.inside.awaits c.self.inside.ids
    c.self.inside.lists in
    let busy : c.is_busy-busy.result ≡ is_busy c.args.to h.open_cons
    = c.is_busy-busy.ensures ∙ (ap (λ cs. list_any (λ x. is_some x.last && same_endpoint x.to c.args.to) cs)
    c.deref.ensures.value ∙ busy_is c.args.to c.self.inside.lists.sendings.items) in
    not_refused h c.args.self.now.state c.args.to c.args.now.0 c.later-at.result.0 c.is_busy-busy.result
    c.would_give.result (ap (λ s. s.state) c.self.view_is) (search rules) busy c.would_give.ensures
    (sym c.refusal.ensures ∙ c.in_default.is) quiet

use Rattle.std.proofs.Common.{rules, ◌≡◌, ap, sym, subst, ◌∙◌, refl, [], ◌∷◌, ◌++◌, filter, option_to_list}
use Rattle.std.specs.Option.{option_map}
use Rattle.coap_layer.specs.Machine.Entries.{IsUpTo, arrivals_in, storing}
use Rattle.coap_layer.specs.Machine.Parts.{awaited, held}
use Rattle.coap_layer.specs.Machine.State.{State, is_live}
use Rattle.coap_layer.specs.Trace.{Nothing, Reply}
use Rattle.coap_layer.proofs.Calls.CallsAreSteps.{step_of, replied_left}
use Rattle.coap_layer.proofs.Calls.Remembered.{same_arrivals, upto_back, upto_front, upto_more}
use Rattle.coap_layer.proofs.Calls.Places.{before_same, unknown_there, within_more}
use Rattle.coap_layer.proofs.Calls.Stored.{stored_newest, upto_stored}
use Rattle.coap_layer.proofs.layer.Layer.reply.Goals as goal

pub invariant_of-self : goal.invariant_of-self
invariant_of-self g c =
    let old = c.self.inside.lists.entries in (
      within_more c.self.inside.mark old.settled c.store_reply.new.self.settled _ _ c.self.invariant.0
          c.store_reply.ensures.settled (search rules),
      search rules,
      (
        subst (IsUpTo c.self.inside.clock.0) (sym (same_arrivals c.store_reply.ensures.settled
            c.store_reply.ensures.newest))
            (upto_more c.self.inside.clock.0 old.settled _
            (upto_front c.self.inside.clock.0 old.settled _ c.self.invariant.2.0)
            (upto_stored c.self.inside.clock.0 c.args.to c.args.id.0 c.copied-stored.result.items old.newest
            (upto_back c.self.inside.clock.0 old.settled _ c.self.invariant.2.0))),
        tt,
      ),
    )

pub returns-clause-step : goal.returns-clause-step
returns-clause-step g c =
    let h : State = held c.self.inside.most c.self.inside.clock.0 c.self.inside.awaits c.self.inside.ids
    c.self.inside.lists in
    let old = c.self.inside.lists.entries in
    let id = c.args.id.0 in
    let bytes = c.args.bytes.now in
    let unknown = unknown_there c.self.inside.clock.0 (awaited c.self.inside.awaits) _ c.self.inside.replies old.settled
    (ap (λ s. s.state.awaits) c.self.view_is ∙ c.requires.may.awaited)
    (ap (λ s. s.replies) c.self.view_is ∙ c.requires.may.replies) c.self.invariant.2.1 in
    let stored : arrivals_in c.store_reply.new.self ≡ old.settled
    ++ option_to_list (option_map (storing c.args.to id bytes) old.newest) =
    same_arrivals c.store_reply.ensures.settled
    (c.store_reply.ensures.newest ∙ ap (λ b. option_map (storing c.args.to id b) old.newest) c.copied-stored.ensures) in
    step_of h c.args.self.now.state _ 0 h.clock (Reply c.args.to id bytes) Nothing
    (record { to = c.args.to; bytes = bytes } ∷ []) (ap (λ s. s.state) c.self.view_is)
    (ap (λ s. s.state.awaits) c.self.view_is ∙ c.requires.may.awaited) refl refl refl
    (replied_left h c.args.to id bytes (arrivals_in c.store_reply.new.self) c.push_within.new.waiting.items
    (ap (filter (is_live c.self.inside.clock.0)) stored
    ∙ stored_newest c.self.inside.clock.0 c.args.to id bytes old.settled old.newest unknown)
    (c.push_within.ensures.items ∙ ap (λ b. h.queue ++ record { to = c.args.to; bytes = b } ∷ [])
    c.copied-sent.ensures))

pub returns-clause-before : goal.returns-clause-before
returns-clause-before g c =
    before_same c.self.inside.most c.self.inside.mark _ _ c.self.inside.lists.entries.settled
    c.store_reply.new.self.settled
    c.self.inside.lists.sendings.items c.self.inside.lists.sendings.items c.self.inside.lists.waiting.items
    c.push_within.new.waiting.items _
    c.self.invariant.0 c.store_reply.ensures.settled refl c.push_within.ensures.items refl
    ∙ ap (λ s. s.before) c.self.view_is

use Rattle.std.proofs.Common.{rules, ◌≡◌, ap, sym, subst, ◌∙◌, refl, [], ℕ, false}
use Rattle.std.proofs.lemmas.List.{append-nil}
use Rattle.coap_layer.specs.Machine.Entries.{IsUpTo, arrivals_in}
use Rattle.coap_layer.specs.Machine.Parts.{awaited, held}
use Rattle.coap_layer.specs.Machine.Sound.{IsUnknown}
use Rattle.coap_layer.specs.Machine.Sendings.{open_now}
use Rattle.coap_layer.specs.Machine.State.{State}
use Rattle.coap_layer.specs.Trace.{Is, Room}
use Rattle.coap_layer.proofs.Calls.CallsAreSteps.{step_of, still}
use Rattle.coap_layer.proofs.Calls.Remembered.{same_arrivals, upto_later}
use Rattle.coap_layer.proofs.Calls.Places.{unknown_later, within_pushed}
use Rattle.coap_layer.proofs.Calls.Sent.{so_told}
use Rattle.coap_layer.proofs.layer.Layer.room.Goals as goal

pub returns-clause-step : goal.returns-clause-step
returns-clause-step g c =
    let h : State = held c.self.inside.most c.self.inside.clock.0 c.self.inside.awaits c.self.inside.ids
    c.self.inside.lists in
    let at : ℕ = c.later-at.result.0 in
    let told = so_told h c.args.self.now.state c.args.to c.args.now.0 at c.would_confirm-may.result
    (ap (λ s. s.state) c.self.view_is) (search rules) c.would_confirm-may.ensures in
    let entries : arrivals_in c.grow.new.lists.entries
    ≡ arrivals_in c.self.inside.lists.entries =
    same_arrivals c.in_ok-grow.ensures.settled c.in_ok-grow.ensures.newest in
    let sendings = ap open_now c.in_ok-grow.ensures.sendings in
    let waiting = c.in_ok-grow.ensures.waiting in
    step_of h c.args.self.now.state _ c.args.now.0 at (Room c.args.to) (Is c.would_confirm-may.result) []
    (ap (λ s. s.state) c.self.view_is) tt (search rules) told refl
    (cc (
      entries,
      sendings,
      waiting,
      still h at (Room c.args.to) (Is c.would_confirm-may.result) h.awaits (λ a. refl)
          (λ x. refl) refl refl refl refl refl,
    ))

pub returns-in_err-grow-clause-quiet : goal.returns-in_err-grow-clause-quiet
returns-in_err-grow-clause-quiet g c quiet =
    let none : c.would_confirm-may.result ≡ false = cc (quiet, c.would_confirm-may.ensures) in
    absurd (cc (c.in_err-grow.ensures.idle refl none refl))

pub invariant_of-self-2 : goal.invariant_of-self-2
invariant_of-self-2 g c =
    let i = c.self.invariant in
    let entries : arrivals_in c.grow.new.lists.entries
    ≡ arrivals_in c.self.inside.lists.entries =
    same_arrivals c.in_ok-grow.ensures.settled c.in_ok-grow.ensures.newest in (
      within_pushed c.self.inside.mark c.self.inside.lists.entries.settled c.grow.new.lists.entries.settled
          c.self.inside.lists.waiting.items c.grow.new.lists.waiting.items [] i.0 c.in_ok-grow.ensures.settled
          (c.in_ok-grow.ensures.waiting ∙ sym (append-nil c.self.inside.lists.waiting.items)),
      c.in_ok-grow.ensures.room,
      (
        subst (IsUpTo c.later-at.result.0) (sym entries) (upto_later _ _ _ (search rules) i.2.0),
        subst (IsUnknown c.later-at.result.0 (awaited c.self.inside.awaits) c.self.inside.replies)
            (sym c.in_ok-grow.ensures.settled) (unknown_later _ _ _ _ _ (search rules) i.2.1),
      ),
    )

pub returns-clause-kept : goal.returns-clause-kept
returns-clause-kept g c has = c.in_ok-grow.ensures.kept (ap (λ s. s.has_room) c.self.view_is ∙ has)

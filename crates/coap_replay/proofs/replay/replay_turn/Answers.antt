use Rattle.std.proofs.Common.{ap, refl, ◌∷◌, ◌++◌, ℕ, List, ◌∙◌}
use Rattle.coap_journal.specs.Numbers.{number}
use Rattle.coap_journal.specs.Records.{Turn}
use Rattle.coap_replay.proofs.Chains.{passed_up}
use Rattle.coap_replay.specs.Refusing.{no_inputs}
use Rattle.coap_replay.proofs.replay.replay_turn.Goals as goal

pub returns-in_ok-replay_inputs-in-Some-clause-done : goal.returns-in_ok-replay_inputs-in-Some-clause-done
returns-in_ok-replay_inputs-in-Some-clause-done g c =
    let given = c.in_ok-take_out-in-Some.ensures.done in
    let taken = c.in_ok-replay_inputs-in-Some.ensures.done in (
      Turn c.in-Some.moment.0 c.in-Some.taken taken.0,
      given.0,
      ap (λ (xs : List ℕ). 9 ∷ xs) (c.in-Some.ensures.some
          ∙ ap (λ (xs : List ℕ). number c.in-Some.moment.0 ++ (number c.in-Some.taken ++ xs)) taken.1),
      record { between = _; gives = given.2; counted = given.1; takes = taken.2 },
      refl,
      λ latest. refl,
    )

pub returns-in_err-take_out-in-Some-clause-other : goal.returns-in_err-take_out-in-Some-clause-other
returns-in_err-take_out-in-Some-clause-other g c =
    passed_up c.from_residual.result c.in_err-take_out-in-Some.field-0.0 _ c.from_residual.ensures.1 (λ is. record {
      moment = c.in-Some.moment.0;
      taken = c.in-Some.taken;
      inputs = c.in-Some.inputs.now;
      turn_is = ap (λ (xs : List ℕ). 9 ∷ xs) c.in-Some.ensures.some;
      few = c.in_err-take_out-in-Some.ensures.few is;
    })

pub returns-in_err-replay_inputs-in-Some-clause-unread : goal.returns-in_err-replay_inputs-in-Some-clause-unread
returns-in_err-replay_inputs-in-Some-clause-unread g c =
    let given = c.in_ok-take_out-in-Some.ensures.done in
    passed_up c.from_residual-in_err-replay_inputs-in-Some.result c.in_err-replay_inputs-in-Some.field-0.0 _
    c.from_residual-in_err-replay_inputs-in-Some.ensures.1
    (λ is. no_inputs c.in-Some.moment.0 c.in-Some.taken c.in-Some.inputs.now given.0 _
    (ap (λ (xs : List ℕ). 9 ∷ xs) c.in-Some.ensures.some) given.2 given.1
    (c.in_err-replay_inputs-in-Some.ensures.unread is))

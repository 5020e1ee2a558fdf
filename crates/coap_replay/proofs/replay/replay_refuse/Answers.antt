use Rattle.std.proofs.Common.{ap, sym, List, ℕ, ◌∷◌, ◌∙◌}
use Rattle.coap_journal.specs.Input.{Refuse}
use Rattle.coap_replay.proofs.RefusedTakes.{brings_none, isnt_true, refused_takes}
use Rattle.coap_replay.specs.Refusing.{no_error}
use Rattle.coap_replay.proofs.replay.replay_refuse.Goals as goal

pub returns-then-refused-clause-done : goal.returns-then-refused-clause-done
returns-then-refused-clause-done g c =
    let s = c.in_ok-refused.ensures.step in
    let fed = c.in-Some.fed in
    let number = c.in-Some.number in (
      Refuse fed.now.0 fed.from fed.bytes.now fed.word number,
      ap (λ (xs : List ℕ). 10 ∷ xs) c.in-Some.ensures.some,
      refused_takes _ _ fed.now.0 fed.from fed.bytes.now fed.word _ number s.0 s.1 s.2 s.3
          (sym c.if-refused.true ∙ s.4) c.in-Some-of.ensures.1 s.5,
    )

pub returns-in_default-of-clause-unread : goal.returns-in_default-of-clause-unread
returns-in_default-of-clause-unread g c is =
    let fed = c.in-Some.fed in
    no_error fed.now.0 fed.from fed.bytes.now fed.word c.in-Some.number c.in-Some.rest.now
    (ap (λ (xs : List ℕ). 10 ∷ xs) c.in-Some.ensures.some) (isnt_true _ c.in_default-of.ensures)

pub returns-else-refused-clause-unread : goal.returns-else-refused-clause-unread
returns-else-refused-clause-unread g c is =
    let s = c.in_ok-refused.ensures.step in
    let fed = c.in-Some.fed in
    brings_none _ (10 ∷ c.args.bytes.now) _ fed.now.0 fed.from fed.bytes.now fed.word c.in-Some.number _
    c.in-Some.rest.now s.0 s.1 s.2 s.3 (ap (λ (xs : List ℕ). 10 ∷ xs) c.in-Some.ensures.some)
    (sym c.if-refused.false ∙ s.4) s.5

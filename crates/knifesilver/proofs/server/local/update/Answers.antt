use Rattle.std.proofs.Common.{ℕ, inr, pos, sym, subst, w32, Some}
use Rattle.std.proofs.Math.Facts.{to_z-of_z}
use Rattle.coap_journal.specs.Input.{Set}
use Rattle.knifesilver.specs.Answers.{IsAnswered}
use Rattle.knifesilver.specs.ServerCalls.{HoldsThat, IsSet}
use Rattle.knifesilver.specs.ServerHeld.{IsNoted, IsServerIn, Made}
use Rattle.knifesilver.specs.declared.held.Held.TheVariants.{Server}
use Rattle.knifesilver.proofs.server.local.update.Goals as goal

pub returns-in-None-clause-led : goal.returns-in-None-clause-led
returns-in-None-clause-led c = λ answered.
    let given = c.args in
    let set = c.replace in
    let same = to_z-of_z {w = w32} {z = set.result} (record { sfits = set.type_inv }) in
    inr (
      subst (IsServerIn (λ s. (n : ℕ) → HoldsThat given.path.now given.format given.body.now n s → ⊥))
          (sym c.in-Server.is) c.in-None.ensures.other,
      subst (λ n. Made (IsSet given.now given.path.now given.format given.body.now (pos 1) n set.new.version)
          (Some given.held.now) (Some (Server set.new.server))) (sym same)
          (subst (λ h. Made (IsSet given.now given.path.now given.format given.body.now (pos 1) set.result set.new.version)
          (Some h) (Some (Server set.new.server))) (sym c.in-Server.is)
          (set.ensures.led (subst IsAnswered same answered))),
      subst (λ h. IsNoted (Set given.now given.path.now given.format given.body.now) given.now (Some h)
          (Some (Server set.new.server))) (sym c.in-Server.is) (set.ensures.noted (subst IsAnswered same answered)),
    )

pub returns-in-None-clause-held : goal.returns-in-None-clause-held
returns-in-None-clause-held c n holds =
    let given = c.args in
    absurd (c.in-None.ensures.other n
    (subst (IsServerIn (HoldsThat given.path.now given.format given.body.now n)) c.in-Server.is holds))

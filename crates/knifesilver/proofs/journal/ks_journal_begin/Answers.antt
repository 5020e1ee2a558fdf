use Rattle.std.proofs.Common.{rules, ◌≡◌, ◌⊎◌, inr, subst, sym, w32}
use Rattle.std.proofs.Math.Facts.{to_z-of_z}
use Rattle.knifesilver.specs.Answers.{IsAnswered, IsRefused}
use Rattle.knifesilver.specs.declared.answers.TheConstants.{BAD_ARGUMENT, NO_MEMORY, SMALL_ROOM}
use Rattle.knifesilver.proofs.NeverBoth.{never_both}
use Rattle.knifesilver.proofs.journal.ks_journal_begin.Goals as goal

pub returns-in-Err-clause-taken : goal.returns-in-Err-clause-taken
returns-in-Err-clause-taken c = λ answered.
    let same = to_z-of_z {w = w32} {z = c.in-Err.answer} (record { sfits = search rules }) in
    never_both c.in-Err.answer c.in-Err.ensures.refused (subst IsAnswered same answered)

pub returns-in-Ok-begun_bytes-clause-why : goal.returns-in-Ok-begun_bytes-clause-why
returns-in-Ok-begun_bytes-clause-why c = λ refused.
    let put = c.put_frame in
    let same = to_z-of_z {w = w32} {z = put.result} (record { sfits = put.type_inv }) in
    inr (subst (λ n. (n ≡ SMALL_ROOM) ⊎ (n ≡ BAD_ARGUMENT) ⊎ (n ≡ NO_MEMORY)) (sym same)
    (put.ensures.why (subst IsRefused same refused)))

use Rattle.std.proofs.Common.{rules, subst, w32}
use Rattle.std.proofs.Math.Facts.{to_z-of_z}
use Rattle.knifesilver.specs.Answers.{IsAnswered}
use Rattle.knifesilver.proofs.NeverBoth.{never_both}
use Rattle.knifesilver.proofs.server.made.ks_server_new.Goals as goal

pub returns-in-Err-clause-taken : goal.returns-in-Err-clause-taken
returns-in-Err-clause-taken c = λ answered.
    let same = to_z-of_z {w = w32} {z = c.in-Err.answer} (record { sfits = search rules }) in
    never_both c.in-Err.answer c.in-Err.ensures.refused (subst IsAnswered same answered)

pub returns-in-Err-clause-bare : goal.returns-in-Err-clause-bare
returns-in-Err-clause-bare c = λ answered.
    let same = to_z-of_z {w = w32} {z = c.in-Err.answer} (record { sfits = search rules }) in
    never_both c.in-Err.answer c.in-Err.ensures.refused (subst IsAnswered same answered)

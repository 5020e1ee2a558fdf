use Rattle.std.proofs.Common.{arith, rules, sym, ap, ◌∙◌, ◌≡◌, ◌++◌, ℕ}
use Rattle.coap_journal.specs.Numbers.{short}
use Rattle.coap_journal.proofs.Beginnings.{no_format, no_law, other_format, other_law}
use Rattle.coap_journal.proofs.Written.{short_first}
use Rattle.coap_journal.proofs.beginning.read_versions.Goals as goal

pub returns-then-format-ne-FORMAT-clause-written : goal.returns-then-format-ne-FORMAT-clause-written
returns-then-format-ne-FORMAT-clause-written c rest e =
    absurd (c.if-format-ne-FORMAT.true
    (short_first c.in-Some.format 1 c.in-Some.behind.now (short 1 ++ rest) (search rules) (omega arith)
    (sym c.in-Some.ensures.some ∙ e)).0)

pub returns-then-law-ne-LAW-clause-written : goal.returns-then-law-ne-LAW-clause-written
returns-then-law-ne-LAW-clause-written c rest e =
    let behind = (short_first c.in-Some.format 1 c.in-Some.behind.now (short 1 ++ rest) (search rules) (omega arith)
    (sym c.in-Some.ensures.some ∙ e)).1 in
    absurd (c.if-law-ne-LAW.true
    (short_first c.in-Some-read_short.law 1 c.in-Some-read_short.rest.now rest (search rules) (omega arith)
    (sym c.in-Some-read_short.ensures.some ∙ behind)).0)

pub returns-in_default-clause-err : goal.returns-in_default-clause-err
returns-in_default-clause-err c = no_format c.args.bytes.now c.in_default.ensures.none

pub returns-then-format-ne-FORMAT-clause-err : goal.returns-then-format-ne-FORMAT-clause-err
returns-then-format-ne-FORMAT-clause-err c =
    other_format c.args.bytes.now c.in-Some.behind.now c.in-Some.format (search rules) c.if-format-ne-FORMAT.true
    c.in-Some.ensures.some

pub returns-in_default-read_short-clause-err : goal.returns-in_default-read_short-clause-err
returns-in_default-read_short-clause-err c =
    let is : c.args.bytes.now ≡ short 1 ++ c.in-Some.behind.now =
    c.in-Some.ensures.some ∙ ap (λ (n : ℕ). short n ++ c.in-Some.behind.now) c.if-format-ne-FORMAT.false in
    no_law c.args.bytes.now c.in-Some.behind.now is c.in_default-read_short.ensures.none

pub returns-then-law-ne-LAW-clause-err : goal.returns-then-law-ne-LAW-clause-err
returns-then-law-ne-LAW-clause-err c =
    let is : c.args.bytes.now ≡ short 1 ++ c.in-Some.behind.now =
    c.in-Some.ensures.some ∙ ap (λ (n : ℕ). short n ++ c.in-Some.behind.now) c.if-format-ne-FORMAT.false in
    other_law c.args.bytes.now c.in-Some.behind.now c.in-Some-read_short.rest.now c.in-Some-read_short.law
    (search rules) c.if-law-ne-LAW.true is c.in-Some-read_short.ensures.some

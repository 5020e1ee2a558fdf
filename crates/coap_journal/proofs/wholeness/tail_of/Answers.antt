use Rattle.std.proofs.Common.{rules, ◌+◌, arith, inl, inr}
use Rattle.std.proofs.lemmas.Bool.{cases_lt}
use Rattle.coap_journal.proofs.Seals.{head_in, none_past, not_true}
use Rattle.coap_journal.proofs.wholeness.tail_of.Goals as goal

pub returns-then-is_empty-clause-damaged : goal.returns-then-is_empty-clause-damaged
returns-then-is_empty-clause-damaged c =
    (λ e. absurd cc, λ d. absurd (none_past (c.args.place + d.0) d.0 c.args.bytes.now (search rules) d.2))

pub loop-n-preserved : goal.loop-n-preserved
loop-n-preserved c n pos lt h = elim (cases_lt n c.loop-n.n) [
  | inl before ↦ c.loop-n.invariant n pos before h
  | inr at ↦
      not_true c.begins_head.result c.if-begins_head.false
      (c.begins_head.ensures.1 (head_in c.args.place n c.loop-n.n c.args.bytes.now (omega (arith, at, lt)) h))
]

pub returns-clause-damaged : goal.returns-clause-damaged
returns-clause-damaged c = (
  λ e. absurd cc,
  λ d. absurd (elim (cases_lt d.0 c.loop-n.n) [
    | inl before ↦ c.loop-n.invariant d.0 d.1 before d.2
    | inr at ↦ none_past (c.args.place + d.0) d.0 c.args.bytes.now (omega (arith, at)) d.2
  ]),
)

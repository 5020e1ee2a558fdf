use Rattle.std.proofs.Common.{ap, ℕ, ◌∙◌, length}
use Rattle.coap_journal.proofs.Written.{length-parts}
use Rattle.coap_journal.proofs.beginning.read_parts.Goals as goal

pub returns-then-bytes-ne-PARTS_LEN-clause-none : goal.returns-then-bytes-ne-PARTS_LEN-clause-none
returns-then-bytes-ne-PARTS_LEN-clause-none c b l ok e =
    absurd (c.if-bytes-ne-PARTS_LEN.true (ap (length {A = ℕ}) e ∙ length-parts b l))

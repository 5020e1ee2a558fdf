use Rattle.std.proofs.Common.{IfErr, List, ℕ, rules, subst}
use Rattle.coap_journal.specs.Records.{IsUnread}
use Rattle.coap_journal.proofs.Beginnings.{front_is}
use Rattle.coap_journal.proofs.beginning.read_begun.Goals as goal

pub returns-in-7-clause-err : goal.returns-in-7-clause-err
returns-in-7-clause-err c =
    subst (λ (bytes : List ℕ). IfErr c.read_begun_parts.result (IsUnread bytes))
    (front_is c.args.bytes.now 7 c.in-7.len_at_least (search rules)) c.read_begun_parts.ensures.err

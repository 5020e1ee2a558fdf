use Rattle.std.proofs.Common.{◌≡◌, IfErr, List, ℕ, rules, subst}
use Rattle.coap_server.specs.Object.Shown.{state_of}
use Rattle.coap_journal.proofs.Facts.{front_is}
use Rattle.coap_replay.specs.Refusing.{IsNoInput}
use Rattle.coap_replay.specs.declared.replay.ReplayError.TheVariants.{Unreadable}
use Rattle.coap_replay.proofs.replay.replay_input.Goals as goal

pub returns-in-10-clause-unread : goal.returns-in-10-clause-unread
returns-in-10-clause-unread g c =
    subst
    (λ (bytes : List ℕ). IfErr c.replay_refuse.result
    (λ why. why ≡ Unreadable → IsNoInput (state_of g.S.Store.content c.args.server.now) bytes))
    (front_is c.args.bytes.now 10 c.in-10.len_at_least (search rules)) c.replay_refuse.ensures.unread

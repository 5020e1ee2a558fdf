use Rattle.std.proofs.Common.{ℕ, subst}
use Rattle.coap_resource.specs.Entries.{content_of}
use Rattle.coap_server.specs.Object.Shown.{state_of}
use Rattle.coap_journal.specs.Records.{Begun, record_bytes}
use Rattle.coap_kept.specs.Revival.{IsReplayed}
use Rattle.coap_kept.proofs.GoingOn.{behind_first}
use Rattle.coap_kept.proofs.revival.revive.Goals as goal

pub returns-in-Ok-replay_all-clause-revived : goal.returns-in-Ok-replay_all-clause-revived
returns-in-Ok-replay_all-clause-revived g c =
    let begun = c.in-Ok.begun in
    let first = state_of content_of c.in-Some-fresh_server.server in
    let done = c.in-Ok-replay_all in
    record {
      born = begun.1;
      rest = begun.2.now;
      first = first;
      bytes_are = c.in-Ok.ensures.ok;
      agrees = c.in_default.ensures.none;
      begins = c.in-Some-fresh_server.ensures.some;
      replayed = subst (λ (place : ℕ). IsReplayed place begun.2.now begun.1 first done.replayed
          (state_of content_of done.server))
          (behind_first c.args.bytes.now (record_bytes (Begun begun.0 begun.1)) begun.2.now c.in-Ok.ensures.ok)
          done.ensures.ok;
    }

use Rattle.std.proofs.Common.{ℕ, [], subst}
use Rattle.coap_resource.specs.Entries.{content_of}
use Rattle.coap_resource.specs.Limits.{Limits}
use Rattle.coap_server.specs.Led.{Led}
use Rattle.coap_server.specs.Object.Shown.{state_of}
use Rattle.coap_kept.specs.Revival.{setup_of}
use Rattle.coap_kept.proofs.revival.fresh_server.Goals as goal

pub returns-clause-some : goal.returns-clause-some
returns-clause-some g c =
    let configuration = c.args.beginning.now.configuration in
    let limits : ℕ → Limits = λ base. record {
      changes = configuration.changes;
      body = configuration.limit;
      base = base;
    } in
    subst (λ (base : ℕ). Led (limits base) configuration.szx (setup_of c.args.beginning.now) []
    (state_of content_of c.with_setup.result)) c.in_ok-base.ensures.some
    (c.with_setup.ensures.led (limits c.in_ok-base.base) c.in_ok-store.ensures.empty)

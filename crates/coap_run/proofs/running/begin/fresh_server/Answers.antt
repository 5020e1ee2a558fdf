use Rattle.std.proofs.Common.{[], subst}
use Rattle.coap_server.specs.Object.Shown.{state_of}
use Rattle.coap_server.specs.Led.{Led}
use Rattle.coap_record.specs.Events.{Config}
use Rattle.coap_run.proofs.running.begin.fresh_server.Goals as goal

pub returns : goal.returns
returns g c =
    subst (λ (k : Config). Led k.limits k.server_szx k.server_setup [] (state_of g.S.Store.content c.with_setup.result))
    c.config.view_is (c.with_setup.ensures.led _ c.in-Some.ensures.empty)

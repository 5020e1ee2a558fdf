use Rattle.std.proofs.Common.{◌≡◌, [], subst}
use Rattle.coap_server.specs.Led.{Led, fresh_state}
use Rattle.coap_server.specs.Object.Shown.{state_of}
use Rattle.coap_server.proofs.server.Server.with_hasher.Goals as goal

pub returns-clause-led : goal.returns-clause-led
returns-clause-led g c limits empty =
    subst (λ setup. Led limits c.args.szx setup [] (state_of g.S.Store.content c.with_setup.result)) c.new.ensures
    (c.with_setup.ensures.led limits empty)

pub returns-clause-start : goal.returns-clause-start
returns-clause-start g c limits empty =
    subst (λ setup. state_of g.S.Store.content c.with_setup.result ≡ fresh_state limits c.args.szx setup) c.new.ensures
    (c.with_setup.ensures.start limits empty)

use Rattle.std.proofs.Common.{rules}
use Rattle.coap_run.proofs.Recording.Delaying.{still_config}
use Rattle.coap_run.proofs.running.config.WorldConfig.delay.Goals as goal

pub invariant_of-self : goal.invariant_of-self
invariant_of-self g c =
    let d = c.self.inside in
    still_config d.addresses d.client_setup (record { szx = d.client_szx; limit = d.client_limit }) d.server_setup
    d.server_szx
    (record { changes = d.changes; body = d.server_limit; base = d.base }) d.delays.items
    c.give_delay.new.delays.items d.plains.items c.args.path.now c.args.ms c.give_delay.result
    c.self.invariant (record { bounds = c.segments-path.ensures.bounds; bytes = c.segments-path.ensures.bytes })
    (search rules) c.give_delay.ensures.given c.give_delay.ensures.err

use Rattle.coap_run.proofs.Recording.PlainPaths.{still_plain}
use Rattle.coap_run.proofs.running.config.WorldConfig.plain.Goals as goal

pub invariant_of-self : goal.invariant_of-self
invariant_of-self g c =
    let d = c.self.inside in
    still_plain d.addresses d.client_setup (record { szx = d.client_szx; limit = d.client_limit }) d.server_setup
    d.server_szx
    (record { changes = d.changes; body = d.server_limit; base = d.base }) d.delays.items d.plains.items
    c.give_plain.new.plains.items c.args.path.now c.give_plain.result
    c.self.invariant (record { bounds = c.segments-path.ensures.bounds; bytes = c.segments-path.ensures.bytes })
    c.give_plain.ensures.given c.give_plain.ensures.err

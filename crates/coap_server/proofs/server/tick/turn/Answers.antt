use Rattle.coap_server.proofs.server.tick.turn.Goals as goal

pub respond_ready-requires-clause-may : goal.respond_ready-requires-clause-may
respond_ready-requires-clause-may g c = c.requires.ready c.in-Ready.asked c.in-Ready.is

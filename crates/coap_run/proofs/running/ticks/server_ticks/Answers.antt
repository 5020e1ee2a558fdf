use Rattle.std.proofs.Common.{[], refl, rules, subst}
use Rattle.coap_server.specs.Object.Shown.{state_of}
use Rattle.coap_server.specs.Turns.Idle.{IsIdle}
use Rattle.coap_record.specs.Record.{OfServer, ServerTick}
use Rattle.coap_run.specs.Run.Ends.{ServerLed}
use Rattle.coap_run.specs.Run.Log.{server_lines}
use Rattle.coap_run.specs.Run.Senders.{sender_in}
use Rattle.coap_run.proofs.Recording.Acting.{acts_none, told_more, told_last}
use Rattle.coap_run.proofs.Recording.Serving.{server_ticked}
use Rattle.coap_run.proofs.running.ticks.server_ticks.Goals as goal

pub ticks-init : goal.ticks-init
ticks-init g c = (
  [],
  tt,
  acts_none c.args.addresses (ServerLed g.S.Store.content) OfServer
      (server_lines c.args.addresses (sender_in c.args.senders.now)) c.args.at.0 _ _ _ refl,
)

pub ticks-preserved : goal.ticks-preserved
ticks-preserved g c =
    told_more c.args.addresses (ServerLed g.S.Store.content) OfServer
    (server_lines c.args.addresses (sender_in c.args.senders.now)) c.args.at.0
    (ServerTick c.args.at.0 c.args.word) _ _ _ _ _ _ c.in-Ok.did
    (search (rules, c.if-not-did.false)) c.ticks.invariant
    (server_ticked c.args.addresses g.S.Store.content (sender_in c.args.senders.now) c.args.at.0 c.args.word c.in-Ok.did
    c.ticks.end
    (record { server = c.tick.new.self; version = c.ticks.end.version }) c.tell.new.self c.ticks.log _
    c.in-Ok.ensures.step refl c.in_ok-tell-in-Ok.ensures.same c.in_ok-tell-in-Ok.ensures.told
    c.in_ok-tell-in-Ok.ensures.version)

pub returns-then-not-did-clause-ticked : goal.returns-then-not-did-clause-ticked
returns-then-not-did-clause-ticked g c =
    told_last c.args.addresses (ServerLed g.S.Store.content) OfServer
    (server_lines c.args.addresses (sender_in c.args.senders.now)) c.args.at.0
    (ServerTick c.args.at.0 c.args.word) _ _ _ _ _ _ c.in-Ok.did (search (rules, c.if-not-did.true)) c.ticks.invariant
    (server_ticked c.args.addresses g.S.Store.content (sender_in c.args.senders.now) c.args.at.0 c.args.word c.in-Ok.did
    c.ticks.end
    (record { server = c.tick.new.self; version = c.ticks.end.version }) c.tell.new.self c.ticks.log _
    c.in-Ok.ensures.step refl c.in_ok-tell-in-Ok.ensures.same c.in_ok-tell-in-Ok.ensures.told
    c.in_ok-tell-in-Ok.ensures.version)

pub returns-in-Err-clause-idle : goal.returns-in-Err-clause-idle
returns-in-Err-clause-idle g c _ idle =
    let was : IsIdle (state_of g.S.Store.content c.ticks.end.server) c.args.at.0 =
    subst (λ server. IsIdle (state_of g.S.Store.content server) c.args.at.0) c.in-Err.ensures.err idle in
    absurd (cc (c.in-Err.ensures.quiet was))

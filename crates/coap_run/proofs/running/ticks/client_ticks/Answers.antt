use Rattle.std.proofs.Common.{refl, rules, subst}
use Rattle.coap_client.specs.Turns.Quiet.{IsIdle}
use Rattle.coap_record.specs.Record.{ClientTick}
use Rattle.coap_run.specs.Run.Ends.{ClientLed}
use Rattle.coap_run.proofs.Recording.Acting.{tick_more, tick_last}
use Rattle.coap_run.proofs.Recording.Asking.{client_ticked}
use Rattle.coap_run.proofs.running.ticks.client_ticks.Goals as goal

pub ticks-preserved : goal.ticks-preserved
ticks-preserved g c =
    tick_more ClientLed (ClientTick c.args.at.0 c.args.word) _ _ _ c.in-Ok.did
    (search (rules, c.if-not-did.false)) c.ticks.invariant
    (client_ticked c.args.at.0 c.args.word c.in-Ok.did c.ticks.end
    (record { client = c.tick.new.self; senders = c.ticks.end.senders }) c.note_asked.new.self
    c.in-Ok.ensures.step refl c.in_ok-note_asked-in-Ok.ensures.same c.in_ok-note_asked-in-Ok.ensures.noted)

pub returns-then-not-did-clause-passed : goal.returns-then-not-did-clause-passed
returns-then-not-did-clause-passed g c =
    tick_last ClientLed (ClientTick c.args.at.0 c.args.word) _ _ _ c.in-Ok.did
    (search (rules, c.if-not-did.true)) c.ticks.invariant
    (client_ticked c.args.at.0 c.args.word c.in-Ok.did c.ticks.end
    (record { client = c.tick.new.self; senders = c.ticks.end.senders }) c.note_asked.new.self
    c.in-Ok.ensures.step refl c.in_ok-note_asked-in-Ok.ensures.same c.in_ok-note_asked-in-Ok.ensures.noted)

pub returns-in-Err-clause-idle : goal.returns-in-Err-clause-idle
returns-in-Err-clause-idle g c _ idle =
    let ok = c.in-Err.ensures.quiet (subst (λ client. IsIdle client c.args.at.0) c.in-Err.ensures.err idle) in
    absurd (cc ok)

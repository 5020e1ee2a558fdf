use Rattle.std.proofs.Common.{refl, subst}
use Rattle.coap_server.specs.Object.Shown.{state_of}
use Rattle.coap_journal.specs.Input.{Set}
use Rattle.coap_replay.specs.Replaying.{Takes}
use Rattle.coap_journaled.specs.Journal.{Journal}
use Rattle.coap_journaled.proofs.server_calls.Journaled+Server+S+A+H+F+A.set.Goals as goal

pub returns-clause-taken : goal.returns-clause-taken
returns-clause-taken g c other =
    let content = g.S.Store.content in
    let input = Set c.args.now.0 c.args.path.now c.args.format c.args.body.now in
    subst (λ (v : Journal _ _). Takes (state_of content v.end) input (state_of content c.set-done.new.self))
    c.self.view_is (record { call = _; handed = refl; step = c.set-done.ensures.step other })

pub returns-clause-memory : goal.returns-clause-memory
returns-clause-memory g c is = absurd (c.set_lacked.ensures.other c.if-set_lacked.false is)

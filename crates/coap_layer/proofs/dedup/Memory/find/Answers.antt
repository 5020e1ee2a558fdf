use Rattle.std.proofs.Common.{ap, ◌∙◌, is_some}
use Rattle.std.specs.Option.{option_and_then}
use Rattle.coap_layer.specs.Machine.State.{is_remembered, reply_of}
use Rattle.coap_layer.proofs.Calls.Remembered.{found_any, found_reply, items_of, some_copied}
use Rattle.coap_layer.specs.Machine.Entries.{live_of}
use Rattle.coap_layer.proofs.dedup.Memory.find.Goals as goal

pub returns-clause-there : goal.returns-clause-there
returns-clause-there g c =
    let es = c.self.inside.settled.entries in
    some_copied c.while_live.result
    ∙ (ap is_some (c.while_live.ensures ∙ ap (live_of c.args.now.0) c.find.ensures.value)
    ∙ (found_any c.args.now.0 c.args.key es
    c.find.ensures.distinct
    ∙ ap (λ m. is_remembered c.args.now.0 c.args.key.from c.args.key.id.0 m.settled) c.self.view_is))

pub returns-clause-reply : goal.returns-clause-reply
returns-clause-reply g c =
    let es = c.self.inside.settled.entries in
    ap (option_and_then items_of) (c.while_live.ensures ∙ ap (live_of c.args.now.0) c.find.ensures.value)
    ∙ (found_reply c.args.now.0 c.args.key es
    c.find.ensures.distinct
    ∙ ap (λ m. reply_of c.args.now.0 c.args.key.from c.args.key.id.0 m.settled) c.self.view_is)

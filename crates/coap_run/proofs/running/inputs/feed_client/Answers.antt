use Rattle.std.proofs.Common.{refl}
use Rattle.coap_run.proofs.Recording.Asking.{client_fed}
use Rattle.coap_run.proofs.running.inputs.feed_client.Goals as goal

pub returns-clause-fed : goal.returns-clause-fed
returns-clause-fed g c =
    client_fed c.args.at.0 c.args.word c.args.from c.args.bytes.now c.args.end.now
    (record { client = c.feed.new.self; senders = c.args.end.now.senders }) c.note_asked.new.self
    c.in-Ok.ensures.step refl c.in_ok-note_asked.ensures.same c.in_ok-note_asked.ensures.noted

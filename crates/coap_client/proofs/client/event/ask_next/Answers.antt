use Rattle.std.proofs.Common.{ap, refl}
use Rattle.coap_client.specs.Own.{Calling}
use Rattle.coap_client.specs.Object.Held.{own_of}
use Rattle.coap_client.proofs.Calls.FetchingLemmas.{closed_as}
use Rattle.coap_client.proofs.client.event.ask_next.Goals as goal

pub returns-in-Ok-clause-happens : goal.returns-in-Ok-clause-happens
returns-in-Ok-clause-happens g c =
    closed_as _ _ _ _ _ _ _ (ap (λ o. own_of (record c.args.parts.now.held { operations = o })) c.run.ensures)
    c.note_sending.ensures.closes (Calling c.args.number c.args.call.request c.args.call.transfer)
    c.args.parts.now.asker.state
    c.args.now.word refl
    (c.in-Ok.ensures.sends (own_of c.args.parts.now.held).observations c.args.number)

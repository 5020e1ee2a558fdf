use Rattle.std.proofs.Common.{refl}
use Rattle.coap_client.specs.Object.Held.{own_of}
use Rattle.coap_client.specs.Object.Shown.{shown_asked}
use Rattle.coap_client.proofs.client.scheduler.begin.Goals as goal

pub returns-clause-begun : goal.returns-clause-begun
returns-clause-begun g c op behind setup runs sends =
    record {
      asked = shown_asked c.note_sending-parts.result;
      own = own_of c.note_sending-parts.new.parts.held;
      happens = c.note_sending-parts.ensures.closes op behind setup runs sends;
      own_is = refl;
    }

-- What a path holds has a version of 64 bits.
use Rattle.std.proofs.Common.{List, [], ◌∷◌, refl}
use Rattle.coap_server.specs.Trace as S
use Rattle.coap_server_laws.proofs.Facts.Laws as server_facts
use Rattle.coap_server_laws.proofs.Facts.EachCall.{held_small}
use Rattle.coap_record.specs.Events.{Config}
use Rattle.coap_record.specs.Record.{Entry, server_trace}
use Rattle.coap_promise.proofs.Any.Requests.OfACall.{Lawful, lawful_back}
use Rattle.coap_promise.specs.Rising.{HeldAreNamed}

pub all_named : (config : Config) (all : List Entry) → Lawful config all → HeldAreNamed config all
all_named config [] law = tt
all_named config (e ∷ past) law = (
  λ path held h. (
      let t : List S.Call = server_trace config (e ∷ past) in
      record {
        small = held_small config.limits config.server_szx path held t
            (server_facts.stamped config.limits config.server_szx config.server_setup t law.server) h;
        is = refl;
      }),
  all_named config past (lawful_back config past e law),
)

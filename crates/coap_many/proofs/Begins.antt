-- The record of no event.
use Rattle.std.proofs.Common.{List, [], ◌∷◌, refl}
use Rattle.coap_client.specs.Law.{ClientLaw}
use Rattle.coap_server.specs.Law.{ServerLaw}
use Rattle.coap_record.specs.Events as E
use Rattle.coap_promise.specs.GoesOn.{HasRecord}
use Rattle.coap_record.specs.Legal as L
use Rattle.coap_record.specs.Record as W
use Rattle.coap_many.specs.GoesOn.{Begins}
use Rattle.coap_many.specs.Clients.{world_of}

-- the laws of two ends to which nothing has happened
record Both (config : E.Config) : Type 0 where
  client : ClientLaw config.addresses.server config.client_sizes config.client_setup []
  server : ServerLaw config.limits config.server_szx config.server_setup (W.begun_with config)

of_none : (config : E.Config) (turns : List W.Turn) → W.RecordOf config [] turns → Both config
of_none config [] run = record { client = run.client; server = run.server }
of_none config (t ∷ turns) run = absurd (let e = run.events_are in cc e)

pub begins : ((config : E.Config) → L.IsConfig config → HasRecord config []) → Begins
begins runs config range = record {
  events_are = refl;
  made = tt;
  clients = λ k client. (let r = runs (world_of config k) (range.each k client) in
      (of_none (world_of config k) r.0 r.1.made).client);
  server = let k = range.some in let r = runs (world_of config k.0) (range.each k.0 k.1) in
      (of_none (world_of config k.0) r.0 r.1.made).server;
}

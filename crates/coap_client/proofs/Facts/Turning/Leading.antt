-- One call more, for all calls of a client; and the calls before some.
use Rattle.std.proofs.Common.{List, [], ◌∷◌, ◌++◌, refl, subst}
use Rattle.std.proofs.lemmas.List.{append-nil}
use Rattle.coap_types.specs.declared.endpoint.Endpoint.{Endpoint}
use Rattle.coap_layer.specs.Rows.{LayerLaw}
use Rattle.coap_layer.specs.declared.setup.Setup.{Setup}
use Rattle.coap_block.specs.Sizes.{Sizes}
use Rattle.coap_exchange.specs.AskerLaw as X
use Rattle.coap_exchange.proofs.Facts.Above.{led_call}
use Rattle.coap_exchange.proofs.Facts.ClientSide.{exchanged_join, led_exchanged, led_law, led_start, layer_stands}
use Rattle.coap_client.proofs.Exact.LawOfAPast.{exchange_back}
use Rattle.coap_client.specs.Trace.{Call}
use Rattle.coap_client.specs.Own.{start}
use Rattle.coap_client.specs.Steps.{lower, IsRight, after}
use Rattle.coap_client.specs.Law.{ClientLaw, own_of, lower_of, layer_of}
use Rattle.coap_client.specs.Led.{State, Step, Led, fresh_state}

pub client_start : (server : Endpoint) (sizes : Sizes) (setup : Setup)
    → Led server sizes setup [] (fresh_state server sizes setup)
client_start server sizes setup = record { rows = tt; own_is = refl; layer = refl }

pub led_client : (server : Endpoint) (sizes : Sizes) (setup : Setup) (t : List Call) (c : Call) (old new : State)
    → Led server sizes setup t old → Step old c new → Led server sizes setup (c ∷ t) new
led_client server sizes setup t c old new led step =
    led_call IsRight after lower X.Exchanged (start sizes)
    (X.fresh_state server setup) exchanged_join t c old new led step

pub client_stands : (server : Endpoint) (sizes : Sizes) (setup : Setup) (t : List Call) (s : State)
    → Led server sizes setup t s
    → ClientLaw server sizes setup t
client_stands server sizes setup t s led =
    let calls = lower_of sizes t in
    record {
      rows = led.rows;
      exchanges = led_law server setup calls s.layer
          (subst (λ cs. X.Led server setup cs s.layer) (append-nil calls)
          (led_exchanged server setup [] calls (X.fresh_state server setup) s.layer
          (led_start server setup) led.layer));
    }

pub client_layer : (server : Endpoint) (sizes : Sizes) (setup : Setup) (t : List Call) → ClientLaw server sizes setup t
    → LayerLaw setup (layer_of server sizes setup t)
client_layer server sizes setup t law = layer_stands server setup (lower_of sizes t) law.exchanges

pub client_back : (server : Endpoint) (sizes : Sizes) (setup : Setup) (calls t : List Call)
    → ClientLaw server sizes setup (calls ++ t)
    → ClientLaw server sizes setup t
client_back server sizes setup [] t law = law
client_back server sizes setup (c ∷ calls) t law =
    let past : List Call = calls ++ t in
    client_back server sizes setup calls t (record {
      rows = law.rows.1;
      exchanges = exchange_back server setup (lower (own_of sizes past) c) (lower_of sizes past) law.exchanges;
    })

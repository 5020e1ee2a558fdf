-- The client and the server of a run, as its ends.
use Rattle.std.proofs.Common.{◌≡◌, ◌⊎◌, inl, inr, ℕ, Option, List, [], ◌++◌, map, refl, ap, ◌∙◌, append_assoc}
use Rattle.coap_layer.specs.Channel.{Near, Far}
use Rattle.coap_layer.specs.Trace.{Packet}
use Rattle.coap_client.specs.Trace as C
use Rattle.coap_server.specs.Trace as S
use Rattle.coap_record.specs.Events.{Config}
use Rattle.coap_promise.specs.Hops.{client_asks, client_asked, server_asks, server_asked}
use Rattle.coap_record.specs.Record.{Entry, OfClient, OfServer, client_of, server_of, server_trace, begun_with}
use Rattle.coap_record.specs.Record.{given_by}
use Rattle.coap_promise.proofs.Facts.Delivery.ClientInTime as client
use Rattle.coap_promise.proofs.Facts.Delivery.End.{End}
use Rattle.coap_promise.proofs.Facts.Delivery.HopsAreEntries.{client_asked_next, server_asked_next}
use Rattle.coap_record.proofs.Facts.CallsOfEnds.{client_client, server_server}
use Rattle.coap_promise.proofs.Facts.Delivery.ServerInTime as server
use Rattle.coap_record.specs.declared.addresses.Addresses.{Addresses}

pub client_gives : (addresses : Addresses) (t : ℕ) (c : C.Call)
    → ((answer : Option Packet) × (c ≡ C.NextOut answer)) ⊎ (given_by addresses t (OfClient c) ≡ [])
client_gives addresses t (C.NextOut answer) = inl (answer, refl)
client_gives addresses t _ = inr refl

pub server_gives : (addresses : Addresses) (t : ℕ) (c : S.Call)
    → ((answer : Option Packet) × (c ≡ S.NextOut answer)) ⊎ (given_by addresses t (OfServer c) ≡ [])
server_gives addresses t (S.NextOut answer) = inl (answer, refl)
server_gives addresses t _ = inr refl

module _ (config : Config) where
  pub trace_is : (cs : List S.Call) (es : List Entry)
      → server_trace config (map OfServer cs ++ es) ≡ cs ++ server_trace config es
  trace_is cs es = ap (λ s. s ++ begun_with config) (server_server cs es)
      ∙ append_assoc cs (server_of es) (begun_with config)

  abbrev pub client_side : End config C.Call
  client_side = record {
    of = OfClient;
    trace = client_of;
    trace_is = client_client;
    setup = config.client_setup;
    asks = client_asks config;
    asked = client_asked config;
    asked_next = client_asked_next config;
    mark = Near;
    hops = λ es c. refl;
    place = config.addresses.client;
    out = C.NextOut;
    takes = λ past answer. refl;
    gives = λ t answer. refl;
    others_give = client_gives config.addresses;
    IsBy = client.IsBy config;
    IsAt = client.IsAt;
    Fed = client.Fed;
    next_by = client.next_by config;
    timely = client.adds_timely config;
  }

  abbrev pub server_side : End config S.Call
  server_side = record {
    of = OfServer;
    trace = server_trace config;
    trace_is = trace_is;
    setup = config.server_setup;
    asks = server_asks config;
    asked = server_asked config;
    asked_next = server_asked_next config;
    mark = Far;
    hops = λ es c. refl;
    place = config.addresses.server;
    out = S.NextOut;
    takes = λ past answer. refl;
    gives = λ t answer. refl;
    others_give = server_gives config.addresses;
    IsBy = server.IsBy config;
    IsAt = server.IsAt;
    Fed = server.Fed;
    next_by = server.next_by config;
    timely = server.adds_timely config;
  }

-- When the input of an event may be refused memory: only where the law of its end lets it take some.
use Rattle.std.specs.Prelude.{◌≡◌, ◌⊎◌, ℕ, max, true, None, List, ◌++◌, length, is_ok}
use Rattle.coap_types.specs.Past.{Always}
use Rattle.coap_types.specs.declared.endpoint.Endpoint.{Endpoint}
use Rattle.coap_layer.specs.Machine.State.{made}
use Rattle.coap_layer.specs.Machine.Ups.{IsQuiet}
use Rattle.coap_layer.specs.Trace.{Receive}
use Rattle.coap_resource.specs.Content.{put_refusal}
use Rattle.coap_client.specs.Led as client
use Rattle.coap_client.specs.Queue.{call_answer, observe_answer}
use Rattle.coap_client.specs.Trace as C
use Rattle.coap_client.specs.Turns.Quiet.{IsIdle, TellsNothing}
use Rattle.coap_server.specs.Led as server
use Rattle.coap_server.specs.Trace as S
use Rattle.coap_server.specs.Turns.Idle.{IsIdle as IsServerIdle}
use Rattle.coap_record.specs.Events.{Config, What, Calls, Observes, Cancels, Forgets, Sets, Removes, TickClient}
use Rattle.coap_record.specs.Events.{TickServer, Deliver, StrangerToClient, StrangerToServer}
use Rattle.coap_record.specs.Record.{Entry, Given, Turn, IsNumber, AreTicks, ClientTick, ServerTick, OnClient, OnServer}
use Rattle.coap_record.specs.Record.{entries_of, client_of, server_trace}

-- A state that these calls leave of an end is such. (By the laws of the ends they leave one alone.)

abbrev pub ClientLeft : Config → List C.Call → (client.State → Type 0) → Type 0
ClientLeft config t Is = (s : client.State)
    × client.Led config.addresses.server config.client_sizes config.client_setup t s × Is s

abbrev pub ServerLeft : Config → List S.Call → (server.State → Type 0) → Type 0
ServerLeft config t Is = (s : server.State)
    × server.Led config.limits config.server_szx config.server_setup t s × Is s

-- An end does more with a datagram than to drop it (RFC 7252, sections 4.2 and 5.3.2).

abbrev pub ClientHeeds : ℕ → Endpoint → List ℕ → client.State → Type 0
ClientHeeds at from bytes s = TellsNothing s at from bytes → ⊥

abbrev pub ServerHeeds : ℕ → Endpoint → List ℕ → server.State → Type 0
ServerHeeds at from bytes s = IsQuiet (made s.layer (max s.own.clock at) (Receive from bytes)) → ⊥

module _ (config : Config) (past : List Turn) (at word : ℕ) where
  -- as the turns before leave it

  abbrev pub ClientIs : (client.State → Type 0) → Type 0
  ClientIs Is = ClientLeft config (client_of (entries_of past)) Is

  abbrev pub ServerIs : (server.State → Type 0) → Type 0
  ServerIs Is = ServerLeft config (server_trace config (entries_of past)) Is

  -- A call, an observation or a local change is refused for no other reason. Of its ticks an end has done these, and
  -- then something is due still. It heeds a datagram. A cancel, a forgetting and a removal take no memory.
  abbrev pub MayLack : What → List Entry → Type 0
  MayLack (Calls r) entries = ClientIs (λ s. is_ok (call_answer s.own r) ≡ true)
  MayLack (Observes path) entries = ClientIs (λ s. is_ok (observe_answer s.own path) ≡ true)
  MayLack (Cancels number) entries = ⊥
  MayLack (Forgets number) entries = ⊥
  MayLack (Sets path format body) entries = ServerIs (λ s.
      put_refusal s.own.store (max s.own.clock at) path (length body) ≡ None)
  MayLack (Removes path) entries = ⊥
  MayLack TickClient entries = (ticks : List C.Call) × AreTicks (ClientTick at word) true ticks × OnClient ticks entries
      × ClientLeft config (ticks ++ client_of (entries_of past)) (λ s. IsIdle s at → ⊥)
  MayLack TickServer entries = (ticks : List S.Call) × AreTicks (ServerTick at word) true ticks × OnServer ticks entries
      × ServerLeft config (ticks ++ server_trace config (entries_of past)) (λ s. IsServerIdle s at → ⊥)
  MayLack (Deliver number) entries = (g : Given) × IsNumber config.addresses number g past
      × (((g.packet.to ≡ config.addresses.server) × ServerIs (ServerHeeds at g.from g.packet.bytes))
      ⊎ ((g.packet.to ≡ config.addresses.client) × ClientIs (ClientHeeds at g.from g.packet.bytes)))
  MayLack (StrangerToClient from bytes) entries = ClientIs (ClientHeeds at from bytes)
  MayLack (StrangerToServer from bytes) entries = ServerIs (ServerHeeds at from bytes)

-- where an input met want of memory, it is one that may
abbrev pub LacksWhereItMay : Config → List Turn → Type 0
LacksWhereItMay config turns = Always (λ past t. t.refused ≡ true
    → MayLack config past t.event.at t.event.word t.event.what t.entries) turns

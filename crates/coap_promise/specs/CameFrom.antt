-- Whose request it is that the server hands up (RFC 7252, sections 4.2, 5.2 and 5.3.1).
use Rattle.std.specs.Prelude.{◌≡◌, ℕ, Some, List}
use Rattle.coap_types.specs.Past.{Ever, Always}
use Rattle.coap_types.specs.declared.message.Kind.TheVariants.{Con}
use Rattle.coap_codec.specs.Message.{Message, Spells}
use Rattle.coap_layer.specs.Channel.{OnFar, near_of}
use Rattle.coap_layer.specs.Clocks.{Clocks}
use Rattle.coap_layer.specs.Paced.{ChannelLaw, HandsUpAs}
use Rattle.coap_layer.specs.Trace.{with_head}
use Rattle.coap_layer.specs.Words.{Open, begun}
use Rattle.coap_exchange.specs.declared.answerer.Asked.{Asked}
use Rattle.coap_exchange.specs.AskerRequests.{content_of}
use Rattle.coap_exchange.specs.AnswererSteps.{asked_of}
use Rattle.coap_client_laws.specs.Follows.Begins.{WasSent, IsRequestOf}
use Rattle.coap_client.specs.Sendings.{Sending}
use Rattle.coap_server.specs.Checks.{Verdict, verdict_on}
use Rattle.coap_server.specs.Follows.Brings.{Comes}
use Rattle.coap_record.specs.Events.{Config}
use Rattle.coap_promise.specs.Hops.{hops_at, hops_in}
use Rattle.coap_record.specs.Record.{Entry, OfClient, OfServer, client_of, server_trace}

-- the message that carries a request, under this Message ID
abbrev pub request_of : ℕ → Sending → Message
request_of id x = with_head Con id (content_of x.token x.request)

-- no datagram is older than 100,000 ms by the clock of the end that gave it out, the clocks keep pace, and each layer
-- replies at once
abbrev pub IsChannel : Clocks → Config → List Entry → Type 0
IsChannel c config all = ChannelLaw c config.client_setup config.server_setup config.addresses.client
    config.addresses.server (hops_in config all)

module _ (config : Config) where
  -- here the server's message layer hands up this request, and it comes to this
  abbrev pub ComesAt : Asked → Verdict → List Entry → Entry → Type 0
  ComesAt a v past (OfClient c) = ⊥
  ComesAt a v past (OfServer c) = Comes config.limits config.server_szx config.server_setup
      (server_trace config past) c a v

  -- It is a request that the client sent before, as a CON.
  pub record CameFrom (past : List Entry) (e : Entry) (a : Asked) (v : Verdict) : Type 0 where
    pub sending : Sending
    pub sent : WasSent config.client_sizes sending (client_of past)
    pub con : Open
    pub begun_before : Ever (λ b. begun b ≡ Some con) (near_of (hops_in config past))
    pub is : IsRequestOf config.addresses.server con sending
    pub spells : Spells con.bytes (request_of con.id sending)
    pub asked : a ≡ asked_of config.addresses.client (request_of con.id sending)
    pub verdict : verdict_on config.server_szx (request_of con.id sending) ≡ v

  -- Each request from the client's address that is handed up is one that the client sent.
  abbrev pub CamesFrom : List Entry → Type 0
  CamesFrom all = Always (λ past e. (a : Asked) (v : Verdict) → ComesAt a v past e → a.from ≡ config.addresses.client
      → CameFrom past e a v) all

  -- .. and it arrives here, at most 147,000 ms after it was sent first, by the client's clock.
  abbrev pub ComesIn : Clocks → List Entry → Type 0
  ComesIn c all = Always (λ past e. (a : Asked) (v : Verdict) → ComesAt a v past e → a.from ≡ config.addresses.client
      → (k : CameFrom past e a v) × Ever (OnFar (HandsUpAs c config.addresses.client k.con)) (hops_at config past e))
      all

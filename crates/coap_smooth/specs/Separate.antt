-- A response that a server sends in a CON of its own: what it carries, and that in a smooth run it ends the exchange
-- that it answers within 1,000 ms (RFC 7252, section 5.2.2).
use Rattle.std.specs.Prelude.{◌≡◌, ◌<◌, ℕ, ◌+◌, Bool, false, Some, List}
use Rattle.coap_types.specs.Past.{Ever, Always}
use Rattle.coap_types.specs.Recognised.{lacks_critical}
use Rattle.coap_types.specs.Roles.{role_of}
use Rattle.coap_types.specs.declared.direction.Direction.TheVariants.{Response}
use Rattle.coap_types.specs.declared.message.Kind.TheVariants.{Con}
use Rattle.coap_types.specs.declared.role.Role.TheVariants as role
use Rattle.coap_codec.specs.Message.{Message, Spells}
use Rattle.coap_layer.specs.Channel.{far_of}
use Rattle.coap_layer.specs.Words.{Open, begun}
use Rattle.coap_exchange.specs.declared.answerer.Asked.{Asked}
use Rattle.coap_client_laws.specs.Follows.Open.{IsOpenSince}
use Rattle.coap_client.specs.Sendings.{Sending, last_sent}
use Rattle.coap_server.specs.Follows.Attended.{AnswersIt}
use Rattle.coap_server.specs.Follows.Rests.{IsTick}
use Rattle.coap_server.specs.Trace as S
use Rattle.coap_record.specs.Events.{Config}
use Rattle.coap_promise.specs.Hops.{server_adds, hops_of}
use Rattle.coap_record.specs.Record.{Entry, OfServer, Turn, entries_of, client_of, server_trace}
use Rattle.coap_smooth.specs.Smooth.{max_age}
use Rattle.coap_record.specs.declared.addresses.Addresses.{Addresses}

-- it carries a response to this request, each critical option of which a client recognises
pub record CarriesAnswer (addresses : Addresses) (x : Sending) (con : Open) : Type 0 where
  pub to : con.to ≡ addresses.client
  pub message : Message
  pub spells : Spells con.bytes message
  pub kind : message.kind ≡ Con
  pub class : role_of message.code ≡ role.Response
  pub token : message.token ≡ x.token
  pub understood : lacks_critical Response message.options ≡ false

-- At an event more than 1,000 ms behind its first sending the exchange is open no more.
abbrev pub SeparateEnds : Config → List Turn → Type 0
SeparateEnds config turns =
    Always (λ past turn. (at : ℕ) → IsOpenSince config.client_sizes at (client_of (entries_of past)) → (x : Sending)
    → last_sent config.client_sizes (client_of (entries_of past)) ≡ Some x → (con : Open)
    → Ever (λ b. begun b ≡ Some con) (far_of (hops_of config past)) → CarriesAnswer config.addresses x con
    → con.first + max_age < turn.event.at → ⊥) turns

-- What a tick of the server answers to the client goes out in such a CON, which begins in that call.
abbrev pub TicksAnswer : Config → List Entry → Type 0
TicksAnswer config es =
    Always (λ past e. (c : S.Call) (now : ℕ) (answer : Bool) (a : Asked) (x : Sending) → e ≡ OfServer c
    → IsTick now answer c
    → AnswersIt config.limits config.server_szx (server_trace config past) c a → a.from ≡ config.addresses.client
    → a.token ≡ x.token
    → (con : Open) × Ever (λ b. begun b ≡ Some con) (server_adds config (server_trace config past) c)
    × CarriesAnswer config.addresses x con) es

-- Which Confirmable messages a client's message layer begins: the requests that its calls send, alone (RFC 7252,
-- sections 4.2 and 5.2).
use Rattle.std.specs.Prelude.{◌≡◌, Some, List}
use Rattle.coap_types.specs.Past.{Ever, Sometime, Always}
use Rattle.coap_types.specs.declared.endpoint.Endpoint.{Endpoint}
use Rattle.coap_types.specs.declared.message.Kind.TheVariants.{Con}
use Rattle.coap_codec.specs.Spelling.{message_bytes}
use Rattle.coap_layer.specs.Rows.{IsSpelled}
use Rattle.coap_layer.specs.Trace.{with_head}
use Rattle.coap_layer.specs.Words.{Open, begun}
use Rattle.coap_layer.specs.declared.setup.Setup.{Setup}
use Rattle.coap_block.specs.Sizes.{Sizes}
use Rattle.coap_exchange.specs.AskerRequests.{content_of}
use Rattle.coap_client.specs.Trace.{Call}
use Rattle.coap_client.specs.Law.{own_of, layer_of}
use Rattle.coap_client.specs.Sendings.{Sending, sends}
use Rattle.coap_client_laws.specs.Follows.Adds.{call_adds}

-- this request was sent for the first time
abbrev pub WasSent : Sizes → Sending → List Call → Type 0
WasSent sizes x t = Sometime (λ past c. sends (own_of sizes past) c ≡ Some x) t

-- the CON carries the request, under its token, to the server
pub record IsRequestOf (server : Endpoint) (con : Open) (x : Sending) : Type 0 where
  pub to : con.to ≡ server
  pub bytes : con.bytes ≡ message_bytes (with_head Con con.id (content_of x.token x.request))
  pub spelled : IsSpelled (content_of x.token x.request)

-- the call sends the request that the CON carries
pub record SendsNow (server : Endpoint) (sizes : Sizes) (con : Open) (past : List Call) (c : Call) : Type 0 where
  pub sending : Sending
  pub sends_it : sends (own_of sizes past) c ≡ Some sending
  pub is : IsRequestOf server con sending

-- A CON begins in the entries that the very call adds which sends its request.
abbrev pub BeginAtOnce : Endpoint → (sizes : Sizes) (setup : Setup) → List Call → Type 0
BeginAtOnce server sizes setup t = Always (λ past c. (con : Open)
    → Ever (λ b. begun b ≡ Some con) (call_adds server sizes setup past c) → SendsNow server sizes con past c) t

-- Each CON is a request that was sent.
abbrev pub ConsAreRequests : Endpoint → (sizes : Sizes) (setup : Setup) → List Call → Type 0
ConsAreRequests server sizes setup t = (con : Open) → Ever (λ b. begun b ≡ Some con) (layer_of server sizes setup t)
    → (x : Sending) × WasSent sizes x t × IsRequestOf server con x

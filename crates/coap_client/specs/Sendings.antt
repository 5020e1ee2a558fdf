-- What the calls of a client take, send and hear, in words on a trace (RFC 7252, sections 5.2 and 5.3).
use Rattle.std.specs.Prelude.{◌≡◌, ℕ, ◌==◌, Bool, false, Option, Some, None, List, [], ◌∷◌, Result, Ok}
use Rattle.coap_types.specs.Past.{Ever}
use Rattle.coap_codec.specs.Message.{Message}
use Rattle.coap_block.specs.Sizes.{Sizes}
use Rattle.coap_exchange.specs.declared.asker.AskRefusal.{AskRefusal}
use Rattle.coap_exchange.specs.declared.asker.Event.TheVariants as event
use Rattle.coap_exchange.specs.AskerTrace as E
use Rattle.coap_client.specs.Trace.{Request, Call, Calls, Feeds, Ticks}
use Rattle.coap_client.specs.Own.{Operation, Calling, Fetching, Own}
use Rattle.coap_client.specs.Requests.{message_of}
use Rattle.coap_client.specs.Effects.{Deed, Asks, Effect}
use Rattle.coap_client.specs.Deeds.{effect}
use Rattle.coap_client.specs.Law.{own_of}

-- a call that is taken
pub record Taken : Type 0 where
  pub number : ℕ
  pub request : Request

abbrev pub takes : Call → Option Taken
takes (Calls now r (Ok number)) = Some (record { number = number; request = r })
takes c = None

abbrev pub WasTaken : Taken → List Call → Type 0
WasTaken x t = Ever (λ c. takes c ≡ Some x) t

-- a request that is sent for the first time: for which operation, as it is then, under which token, and as which
-- message
pub record Sending : Type 0 where
  pub operation : Operation
  pub token : List ℕ
  pub request : E.Request

abbrev pub sent_by : Effect → Deed → Result (List ℕ) AskRefusal → Option Sending
sent_by e (Asks op) (Ok token) = Some (record
    { operation = op; token = token; request = message_of e.own.observations op })
sent_by e _ token = None

abbrev pub sends : Own → Call → Option Sending
sends s (Feeds now from bytes word up settled event sent token kept) = let e =
    effect s (Feeds now from bytes word up settled event sent token kept) in sent_by e e.deed token
sends s (Ticks now word below t sent token kept answer) = let e =
    effect s (Ticks now word below t sent token kept answer) in sent_by e e.deed token
sends s c = None

-- the response that a call takes as the answer to the request that runs
abbrev pub hears : Call → Option Message
hears (Feeds now from bytes word up settled (Some (event.Answer m)) sent token kept) = Some m
hears c = None

-- the operation that runs is of this call, of this observation's fetch
abbrev pub runs_call : ℕ → Option Operation → Bool
runs_call number (Some (Calling other r t)) = other == number
runs_call number op = false

abbrev pub runs_fetch : ℕ → Option Operation → Bool
runs_fetch number (Some (Fetching other)) = other == number
runs_fetch number op = false

module _ (sizes : Sizes) where
  -- the request that was sent last
  abbrev pub last_sent : List Call → Option Sending
  last_sent [] = None
  last_sent (c ∷ past) = elim (sends (own_of sizes past) c) [ Some x ↦ Some x | None ↦ last_sent past ]

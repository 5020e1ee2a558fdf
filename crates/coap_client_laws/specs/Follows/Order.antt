-- In which order the requests of calls and observations are sent, and that each of a call is answered once (RFC 7252,
-- sections 4.7, 5.2 and 5.3).
use Rattle.std.specs.Prelude.{◌≡◌, ◌≤◌, ℕ, Bool, true, false, not, Option, Some, None, List, ◌∷◌}
use Rattle.coap_types.specs.Past.{Ever, Always}
use Rattle.coap_codec.specs.Message.{Message}
use Rattle.coap_block.specs.Sizes.{Sizes}
use Rattle.coap_block.specs.UploadStep.{more_follows}
use Rattle.coap_client.specs.Trace.{Call}
use Rattle.coap_client.specs.Own.{Fetches, Uploads, Single, Operation, Calling, Registering}
use Rattle.coap_client.specs.Steps.{reports}
use Rattle.coap_client.specs.Law.{own_of}
use Rattle.coap_client.specs.Sendings.{Sending, sends, hears}
use Rattle.coap_client_laws.specs.Follows.Begins.{WasSent}

-- the number of a call, and of a call or a registration: these take their turns
abbrev pub call_of : Operation → Option ℕ
call_of (Calling number r t) = Some number
call_of op = None

abbrev pub turn_of : Operation → Option ℕ
turn_of (Calling number r t) = Some number
turn_of (Registering number path) = Some number
turn_of op = None

-- No further request of the call can follow it: that of a DELETE, and the last block of a body.
abbrev pub is_last : Operation → Bool
is_last (Calling number r (Fetches f)) = false
is_last (Calling number r (Uploads u)) = not (more_follows u)
is_last (Calling number r Single) = true
is_last op = false

-- a response with this token is taken as the answer
abbrev pub HearsBy : List ℕ → Call → Type 0
HearsBy token c = (m : Message) × (hears c ≡ Some m) × (m.token ≡ token)

module _ (sizes : Sizes) where
  pub record InOrder (past : List Call) (c : Call) : Type 0 where
    -- Calls and registrations take their turns, in the order of their numbers.
    pub in_turn : (x y : Sending) (i j : ℕ) → sends (own_of sizes past) c ≡ Some y → WasSent sizes x past
        → turn_of x.operation ≡ Some i → turn_of y.operation ≡ Some j → i ≤ j
    -- Nothing is reported where a request is sent.
    pub none_with : (y : Sending) → sends (own_of sizes past) c ≡ Some y → reports (own_of sizes past) c ≡ None
    -- Nothing is sent for a call behind its last request.
    pub none_behind : (x y : Sending) (k : ℕ) → sends (own_of sizes past) c ≡ Some y → WasSent sizes x past
        → call_of x.operation ≡ Some k → call_of y.operation ≡ Some k → is_last x.operation ≡ true → ⊥
    -- A further request of a call is sent where each before it was answered.
    pub one_by_one : (x y : Sending) (k : ℕ) → sends (own_of sizes past) c ≡ Some y → WasSent sizes x past
        → call_of x.operation ≡ Some k → call_of y.operation ≡ Some k → Ever (HearsBy x.token) (c ∷ past)

  abbrev pub AreInOrder : List Call → Type 0
  AreInOrder trace = Always InOrder trace

  -- A request of a call is answered once.
  abbrev pub HeardOnce : List Call → Type 0
  HeardOnce trace = Always (λ past c. (x : Sending) (k : ℕ) → WasSent sizes x past → call_of x.operation ≡ Some k
      → HearsBy x.token c → Ever (HearsBy x.token) past → ⊥) trace

  -- A call has one last request.
  abbrev pub OneLast : List Call → Type 0
  OneLast trace = (x y : Sending) (k : ℕ) → WasSent sizes x trace → WasSent sizes y trace → call_of x.operation ≡ Some k
      → call_of y.operation ≡ Some k → is_last x.operation ≡ true → is_last y.operation ≡ true → x ≡ y

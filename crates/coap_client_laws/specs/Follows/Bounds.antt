-- How many requests a call sends at most, and an observation (RFC 7641, sections 2 and 3.6; RFC 7959, sections 2.4 and
-- 2.5; the bounds are a profile).
use Rattle.std.specs.Prelude.{◌≡◌, ◌⊎◌, ◌≤◌, ℕ, ◌+◌, ◌-◌, ◌*◌, ◌/◌, ◌==◌, nat_lt, Option, Some, None, List, [], ◌∷◌}
use Rattle.std.specs.Prelude.{length, if◌then◌else◌}
use Rattle.coap_types.specs.declared.request.Method.{Method}
use Rattle.coap_types.specs.declared.request.Method.TheVariants.{Get, Post, Put, Delete}
use Rattle.coap_types.specs.Past.{Always}
use Rattle.coap_types.specs.Piece.{size_of}
use Rattle.coap_block.specs.Sizes.{Sizes}
use Rattle.coap_block.specs.declared.fetch_judging.TheConstants.{MAX_RESTARTS as max_restarts}
use Rattle.coap_client.specs.Trace.{Request, Call}
use Rattle.coap_client_laws.specs.Follows.Begins.{WasSent}
use Rattle.coap_client.specs.Law.{own_of}
use Rattle.coap_client_laws.specs.Follows.Order.{call_of}
use Rattle.coap_client.specs.Own.{Operation, Registering, Cancelling}
use Rattle.coap_client.specs.Sendings.{Taken, WasTaken, Sending, sends}

-- the blocks of the longest body, of the smallest size: one at least
abbrev pub max_blocks : ℕ → ℕ
max_blocks limit = (limit - 1) / size_of 0 + 1

-- A GET asks for the blocks of a body, anew each time that the body changed, and at last for one behind them. A body
-- that is longer than a block of the client's size is sent block by block. Each other call asks once.
abbrev pub most_requests : Sizes → Request → Method → ℕ
most_requests sizes r Get = (max_restarts + 1) * max_blocks sizes.limit + 1
most_requests sizes r Post = if nat_lt (size_of sizes.szx) (length r.body) then max_blocks sizes.limit else 1
most_requests sizes r Put = if nat_lt (size_of sizes.szx) (length r.body) then max_blocks sizes.limit else 1
most_requests sizes r Delete = 1

-- how many requests of a call were sent

abbrev pub one_of : ℕ → Option ℕ → ℕ
one_of number None = 0
one_of number (Some n) = if n == number then 1 else 0

abbrev pub one_sent : ℕ → Option Sending → ℕ
one_sent number None = 0
one_sent number (Some x) = one_of number (call_of x.operation)

module _ (sizes : Sizes) where
  abbrev pub requests : ℕ → List Call → ℕ
  requests number [] = 0
  requests number (c ∷ past) = one_sent number (sends (own_of sizes past) c) + requests number past

  abbrev pub AreBounded : List Call → Type 0
  AreBounded t = (x : Taken) → WasTaken x t → requests x.number t ≤ most_requests sizes x.request x.request.method

-- the observation that an operation registers, and the one that it cancels

abbrev pub registers : Operation → Option ℕ
registers (Registering number path) = Some number
registers op = None

abbrev pub cancels : Operation → Option ℕ
cancels (Cancelling number) = Some number
cancels op = None

-- both do this for one observation
abbrev pub BothDo : (Operation → Option ℕ) → Sending → Sending → Type 0
BothDo does x y = (number : ℕ) × (does x.operation ≡ Some number) × (does y.operation ≡ Some number)

-- An observation is registered once, and cancelled once.
abbrev pub AskOnce : Sizes → List Call → Type 0
AskOnce sizes t = Always (λ past c. (x y : Sending) → sends (own_of sizes past) c ≡ Some y → WasSent sizes x past
    → (BothDo registers x y ⊎ BothDo cancels x y) → ⊥) t

-- What a call does to the exchange that runs, and what a request is answered.
use Rattle.std.specs.Prelude.{◌≡◌, ℕ, true, false, Option, Some, None, List, Result, Ok, Err}
use Rattle.coap_codec.specs.Message.{Message}
use Rattle.coap_layer.specs.Trace as L
use Rattle.coap_layer.specs.Words.{sent_by}
use Rattle.coap_exchange.specs.declared.asker.AskRefusal.{AskRefusal}
use Rattle.coap_exchange.specs.declared.matching.Opening.TheVariants.{Sends}
use Rattle.coap_exchange.specs.declared.asker.Exchange.{Exchange}
use Rattle.coap_exchange.specs.AskerTrace.{Request, Own, Call}
use Rattle.coap_exchange.specs.AskerRequests.{opening_of, sent_as, request_token}
use Rattle.coap_exchange.specs.AskerFollows.{begun, answered, ends}

abbrev pub token_in : Option Exchange → Option (List ℕ)
token_in None = None
token_in (Some x) = Some x.token

-- of the exchange: a call begins it, ends it, or leaves it
pub data Moves (before now : Option Exchange) (c : Call) : Type 0 where
  starts : (x : Exchange) → begun c ≡ Some x.token → ends c ≡ false → answered c ≡ None → before ≡ None → now ≡ Some x
      → Moves before now c
  stops : (x : Exchange) → begun c ≡ None → ends c ≡ true → ((m : Message) → answered c ≡ Some m → m.token ≡ x.token)
      → before ≡ Some x → now ≡ None → Moves before now c
  keeps : begun c ≡ None → ends c ≡ false → answered c ≡ None → token_in now ≡ token_in before → Moves before now c

-- it was refused, or sent: then none runs, and a fresh token is not the last
pub data AskRow (s : Own) (r : Request) (below : L.Answer) (answer : Result (List ℕ) AskRefusal) : Type 0 where
  refused : (e : AskRefusal) → answer ≡ Err e → sent_as (opening_of s r) below ≡ None → AskRow s r below answer
  sent : (id : ℕ) → answer ≡ Ok (request_token s r) → sent_as (opening_of s r) below ≡ Some id → opening_of s r ≡ Sends
      → sent_by below ≡ Some id → AskRow s r below answer

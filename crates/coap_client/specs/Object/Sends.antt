-- A request that a client sends (RFC 7252, sections 4.2 and 5.3.1).
use Rattle.std.specs.Prelude.{◌≡◌, ℕ, Option, Some, None, List, [], ◌∷◌, Result, Ok, Err}
use Rattle.coap_layer.specs.Trace as L
use Rattle.coap_exchange.specs.declared.asker.AskRefusal.{AskRefusal}
use Rattle.coap_exchange.specs.AskerTrace as E
use Rattle.coap_exchange.specs.AskerLaw as X
use Rattle.coap_exchange.specs.AskerLaw.{Exchanged}

-- the token that a request was given, if it was sent
abbrev pub token_in : Result (List ℕ) AskRefusal → Option (List ℕ)
token_in (Ok token) = Some token
token_in (Err why) = None

-- a request is sent, with this token, or no Message ID or no token is free for it
pub record Sends (old : X.State) (now : ℕ) (r : E.Request) (word : ℕ) (given : Option (List ℕ))
    (new : X.State) : Type 0 where
  pub sent : L.Answer
  pub token : Result (List ℕ) AskRefusal
  pub step : Exchanged old (E.Ask now r word sent token ∷ []) new
  pub given_is : token_in token ≡ given

-- The live observations of a client (RFC 7641, sections 3.2 and 3.6).
use Rattle.std.specs.Prelude.{ℕ, ◌==◌, Bool, false, not, Option, Some, None, is_some, List, [], ◌∷◌, ◌++◌, filter, map}
use Rattle.std.specs.Prelude.{if◌then◌else◌, option_to_list}
use Rattle.std.specs.List.{list_any}
use Rattle.std.specs.Option.{option_map}
use Rattle.coap_block.specs.declared.fetch_progress.Asked.{Asked}
use Rattle.coap_exchange.specs.Tokens.{same_token}
use Rattle.coap_client.specs.Own.{Operation, Fetching, Cancelling, Dropped, Notified, Observation, Own}

-- found by its number, and by its token

abbrev pub observation_of : ℕ → List Observation → Option Observation
observation_of number [] = None
observation_of number (o ∷ os) = if o.number == number then Some o else observation_of number os

abbrev pub observation_with : List ℕ → List Observation → Option Observation
observation_with token [] = None
observation_with token (o ∷ os) = if same_token token o.token then Some o else observation_with token os

abbrev pub observed_path : ℕ → List Observation → List (List ℕ)
observed_path number os = elim (observation_of number os) [ None ↦ [] | Some o ↦ o.path ]

abbrev pub token_of : ℕ → List Observation → Option (List ℕ)
token_of number os = option_map (λ o. o.token) (observation_of number os)

abbrev pub rest_of : ℕ → List Observation → Option Notified
rest_of number os = elim (observation_of number os) [ None ↦ None | Some o ↦ o.rest ]

abbrev pub fetch_of : ℕ → List Observation → Option Asked
fetch_of number os = elim (rest_of number os) [ None ↦ None | Some n ↦ n.fetch.asked ]

-- the first, the one with the lowest number, for which something is to be fetched
abbrev pub to_fetch : List Observation → Option ℕ
to_fetch [] = None
to_fetch (o ∷ os) = if is_some o.rest then Some o.number else to_fetch os

abbrev pub with_rest : ℕ → Option Notified → List Observation → List Observation
with_rest number rest os = map (λ (o : Observation). if o.number == number then record o { rest = rest } else o) os

-- a cancel of the observation waits or runs

abbrev pub is_cancel_of : ℕ → Operation → Bool
is_cancel_of number (Cancelling other) = other == number
is_cancel_of number op = false

abbrev pub is_cancelled : ℕ → Own → Bool
is_cancelled number s = list_any (is_cancel_of number) (option_to_list s.running ++ s.queue)

abbrev pub is_live : ℕ → Own → Bool
is_live number s = is_some (observation_of number s.observations)

-- what is fetched for the observation no longer counts: the exchange goes on to its end
abbrev pub dropped : ℕ → Option Operation → Option Operation
dropped number (Some (Fetching other)) = if other == number then Some Dropped else Some (Fetching other)
dropped number running = running

-- the observation is over: it is not there, its cancel leaves the queue, and what is fetched for it is dropped
abbrev pub over : ℕ → Own → Own
over number s =
    record s {
      queue = filter (λ op. not (is_cancel_of number op)) s.queue;
      running = dropped number s.running;
      observations = filter (λ o. not (o.number == number)) s.observations;
    }

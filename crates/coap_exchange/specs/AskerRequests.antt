-- How a client takes a request, and what it asks of the message layer for it (RFC 7252, sections 4.2, 4.7 and 5.3.1).
use Rattle.std.specs.Prelude.{ℕ, ◌+◌, Bool, true, false, Option, Some, None, List, Result, Ok, Err, is_some}
use Rattle.std.specs.Prelude.{if◌then◌else◌}
use Rattle.coap_types.specs.declared.endpoint.Endpoint.{Endpoint}
use Rattle.coap_layer.specs.Trace as L
use Rattle.coap_layer.specs.Words.{sent_by}
use Rattle.coap_layer.specs.Machine.Steps.{Asked}
use Rattle.coap_exchange.specs.declared.asker.AskRefusal.{AskRefusal}
use Rattle.coap_exchange.specs.declared.asker.AskRefusal.TheVariants as refusal
use Rattle.coap_exchange.specs.declared.matching.Opening.{Opening}
use Rattle.coap_exchange.specs.declared.matching.Opening.TheVariants.{Running, Spent, Sends}
use Rattle.coap_exchange.specs.AskerTrace.{Request, Own}
use Rattle.coap_exchange.specs.Tokens.{token_of, is_spent}

abbrev pub asked : ℕ → L.Call → L.Answer → Asked
asked now call answer = record { now = now; call = call; answer = answer }

-- one exchange runs at a time (NSTART is 1), and no token is given twice; a cancel has its own
abbrev pub opening : (running spent cancel : Bool) → Opening
opening true spent cancel = Running
opening false true false = Spent
opening false true true = Sends
opening false false cancel = Sends

abbrev pub opening_of : Own → Request → Opening
opening_of s r = opening (is_some s.running) (is_spent s.given) (is_some r.token)

abbrev pub token_or : Option (List ℕ) → List ℕ → List ℕ
token_or None next = next
token_or (Some token) next = token

abbrev pub request_token : Own → Request → List ℕ
request_token s r = token_or r.token (token_of s.word s.given)

abbrev pub content_of : List ℕ → Request → L.Content
content_of token r = record { code = r.code; token = token; options = r.options; payload = r.payload }

-- a refused request moves the clock alone; the lack of a Message ID is told before that of a token
abbrev pub beneath : Opening → Endpoint → L.Content → ℕ → L.Call
beneath Running server content word = L.Pass
beneath Spent server content word = L.AsksFree
beneath Sends server content word = L.Confirm server content word

abbrev pub is_busied : L.Answer → Bool
is_busied L.Busied = true
is_busied _ = false

abbrev pub is_yes : L.Answer → Bool
is_yes (L.Is true) = true
is_yes _ = false

-- why no Message ID was given, and why no token is
abbrev pub send_refusal : L.Answer → AskRefusal
send_refusal below = if is_busied below then refusal.Running else refusal.NoIds

abbrev pub spent_refusal : L.Answer → AskRefusal
spent_refusal below = if is_yes below then refusal.TokensSpent else refusal.NoIds

-- the Message ID that the request is sent with
abbrev pub sent_as : Opening → L.Answer → Option ℕ
sent_as Running below = None
sent_as Spent below = None
sent_as Sends below = sent_by below

abbrev pub sent_answer : Option ℕ → AskRefusal → List ℕ → Result (List ℕ) AskRefusal
sent_answer None why token = Err why
sent_answer (Some id) why token = Ok token

abbrev pub ask_answer : Opening → L.Answer → List ℕ → Result (List ℕ) AskRefusal
ask_answer Running below token = Err refusal.Running
ask_answer Spent below token = Err (spent_refusal below)
ask_answer Sends below token = sent_answer (sent_by below) (send_refusal below) token

abbrev pub opened : Own → Request → Option ℕ → Own
opened s r None = s
opened s r (Some id) =
    record s {
      given = if is_some r.token then s.given else s.given + 1;
      running =
          Some (record { token = request_token s r; id = record { 0 = id }; acked = None; cancel = is_some r.token });
    }

-- What becomes of the request that an input makes a client ask for: it is sent, or no Message ID or token is free for
-- it (RFC 7252, sections 4.4 and 5.3.1).
use Rattle.std.specs.Prelude.{◌≡◌, ℕ, Some, None, List, Result, Ok, Err}
use Rattle.coap_exchange.specs.declared.asker.AskRefusal.{AskRefusal}
use Rattle.coap_client.specs.Trace.{NoIds}
use Rattle.coap_client.specs.Own.{Operation}
use Rattle.coap_client.specs.Requests.{message_of}
use Rattle.coap_client.specs.Effects.{Asks, Effect, has_sent}
use Rattle.coap_client.specs.Events.{failed, closed}
use Rattle.coap_client.specs.Sendings.{Sending, sent_by}

-- the operation's request, under this token
abbrev pub sending_of : Effect → Operation → List ℕ → Sending
sending_of e op key = record { operation = op; token = key; request = message_of e.own.observations op }

pub data Closing (now : ℕ) (e : Effect) (token : Result (List ℕ) AskRefusal) : Type 0 where
  -- no request is asked for
  quiet :
      ((op : Operation) → e.deed ≡ Asks op → ⊥) → sent_by e e.deed token ≡ None
      → (closed now e e.deed token).own ≡ e.own → (closed now e e.deed token).report ≡ e.report
      → Closing now e token
  -- it is sent
  goes_out :
      (op : Operation) (key : List ℕ) → e.deed ≡ Asks op → token ≡ Ok key
      → sent_by e e.deed token ≡ Some (sending_of e op key)
      → (closed now e e.deed token).own ≡ record e.own { sent = now } → (closed now e e.deed token).report ≡ None
      → Closing now e token
  -- no Message ID or token is free for it
  is_refused :
      (op : Operation) (why : AskRefusal) → e.deed ≡ Asks op → token ≡ Err why → sent_by e e.deed token ≡ None
      → closed now e e.deed token ≡ failed has_sent NoIds e.own (Some op) → Closing now e token

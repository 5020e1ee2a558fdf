-- Scenes of an observation whose representations come in blocks, of a cancel, of a forgotten one, and of a GET that
-- begins anew (RFC 7641, sections 3.2 to 3.6; RFC 7959, sections 2.4 and 2.6).
use Rattle.std.specs.Prelude.{◌≡◌, ℕ, ◌+◌, true, false, Some, None, List, [], ◌∷◌, ◌++◌, Ok}
use Rattle.std.specs.Prelude.{replicate, codes}
use Rattle.coap_types.specs.CoapOption.{CoapOption, option}
use Rattle.coap_types.specs.declared.message.TheConstants.Code as code
use Rattle.coap_types.specs.declared.option_number.TheConstants.{ETAG as etag, OBSERVE as observe, URI_PATH as uri_path}
use Rattle.coap_types.specs.declared.option_number.TheConstants.{BLOCK2 as block2}
use Rattle.coap_types.specs.declared.message.Kind.TheVariants.{Ack}
use Rattle.coap_types.specs.declared.request.Method.TheVariants.{Get}
use Rattle.coap_codec.specs.Message.{Message}
use Rattle.coap_layer.specs.Trace as L
use Rattle.coap_block.specs.Sizes.{Sizes, usual_sizes}
use Rattle.coap_exchange.specs.AskerTrace as E
use Rattle.coap_exchange.specs.declared.asker.Event.{Event}
use Rattle.coap_exchange.specs.declared.asker.Event.TheVariants as event
use Rattle.coap_exchange.specs.declared.asker.Turn.TheVariants as turn
use Rattle.coap_client.specs.Trace.{Request, Body, Changed, Value, Cancelled, Ended, Call, Calls}
use Rattle.coap_client.specs.Trace.{Observes, Cancels, Forgets, Feeds, Ticks}
use Rattle.coap_client.specs.Own.{Dropped}
use Rattle.coap_client.specs.Observations.{fetch_of}
use Rattle.coap_client.specs.Requests.{get}
use Rattle.coap_client.specs.Steps.{lower, reports}
use Rattle.coap_client.specs.Law.{own_of}
use Rattle.coap_client_laws.specs.Examples.Histories.{server, path, token, second_token}

abbrev pub response : ℕ → List CoapOption → List ℕ → Message
response number options payload = record {
  kind = Ack;
  code = number;
  id = 0;
  token = token;
  options = options;
  payload = payload;
}

abbrev pub comes : ℕ → Event → Call
comes now e = Feeds now server [] 0 L.Nothing true (Some e) (L.Sent 1) (Ok second_token) true

abbrev pub starts : ℕ → List ℕ → Call
starts now t = Ticks now 0 L.Idle turn.Idle (L.Sent 1) (Ok t) true true

abbrev pub tag : ℕ → CoapOption
tag n = option etag (n ∷ [])

-- blocks of 16 bytes
abbrev pub sizes : Sizes
sizes = usual_sizes 0

-- a notification has the first of two, and the fetch the second
abbrev pub first : ℕ → Message
first n = response code.CONTENT.0 (tag n ∷ option observe (n ∷ []) ∷ option block2 (0x08 ∷ []) ∷ []) (replicate 16 0x61)

abbrev pub second : ℕ → Message
second n = response code.CONTENT.0 (tag n ∷ option block2 (0x10 ∷ []) ∷ []) (codes "b")

abbrev pub observed : List Call
observed = comes 2 (event.Answer (first 1)) ∷ starts 0 token ∷ Observes 0 path (Ok 0) ∷ []

abbrev pub to_path : List CoapOption
to_path = option uri_path (codes "t") ∷ []

abbrev pub fetching : List Call
fetching = starts 3 second_token ∷ observed

-- a newer notification replaces what is fetched; the exchange goes on, and its answer is dropped
abbrev pub replaced : List Call
replaced = comes 4 (event.Notice (first 2)) ∷ fetching

-- a cancel: its request has Observe 1 and the token, any answer ends it, and the token is released
abbrev pub cancelled : List Call
cancelled = Cancels 6 0 None ∷ comes 4 (event.Answer (second 1)) ∷ fetching

abbrev pub request : Request
request = record {
  method = Get;
  path = path;
  format = None;
  body = [];
  etags = [];
  if_match = [];
  if_none_match = false;
  accept = None;
}

abbrev pub part : ℕ → Event
part n = event.Answer (response code.CONTENT.0 (tag n ∷ option block2 (0x08 ∷ []) ∷ []) (replicate 16 0x61))

abbrev pub pass : ℕ → List Call
pass n = comes 1 (event.Answer (second (n + 1))) ∷ comes 1 (part n) ∷ []

abbrev pub passes : List Call
passes = pass 3 ++ (pass 2 ++ (pass 1 ++ (starts 0 token ∷ Calls 0 request (Ok 0) ∷ [])))

pub record Scenes : Type 0 where
  -- the answer to the registration begins a fetch, which starts at the next tick, and asks for block 1 without Observe
  pub waits : fetch_of 0 (own_of sizes observed).observations ≡ Some (record { num = 1; szx = 0 })
  pub kept : lower (own_of sizes (starts 0 token ∷ Observes 0 path (Ok 0) ∷ [])) (comes 2 (event.Answer (first 1)))
      ≡ E.Keep token true ∷ E.Receive 2 server [] L.Nothing true (Some (event.Answer (first 1))) ∷ []
  pub fetches : lower (own_of sizes observed) (starts 3 second_token)
      ≡ E.Ask 3 (get None (to_path ++ option block2 (0x10 ∷ []) ∷ [])) 0 (L.Sent 1)
      (Ok second_token) ∷ E.Ticks 3 L.Idle turn.Idle ∷ []
  pub shows : reports (own_of sizes fetching) (comes 4 (event.Answer (second 1)))
      ≡ Some (record { number = 0; report = Value 1 (Some (1 ∷ [])) None (replicate 16 0x61 ++ codes "b") })
  -- another ETag: no value, and the observation stays
  pub differs : reports (own_of sizes fetching) (comes 4 (event.Answer (second 7))) ≡ None
  pub stays : fetch_of 0 (own_of sizes (comes 4 (event.Answer (second 7)) ∷ fetching)).observations ≡ None
  pub drops : (own_of sizes replaced).running ≡ Some Dropped
  pub dropped : reports (own_of sizes replaced) (comes 5 (event.Answer (second 1))) ≡ None
  pub anew : fetch_of 0 (own_of sizes replaced).observations ≡ Some (record { num = 1; szx = 0 })
  pub asks : lower (own_of sizes cancelled) (starts 6 token)
      ≡ E.Ask 6 (get (Some token) (option observe (1 ∷ []) ∷ to_path)) 0 (L.Sent 1)
      (Ok token) ∷ E.Ticks 6 L.Idle turn.Idle ∷ []
  pub over : reports (own_of sizes (starts 6 token ∷ cancelled))
      (comes 7 (event.Answer (response code.NOT_FOUND.0 [] [])))
      ≡ Some (record { number = 0; report = Cancelled })
  pub released : lower (own_of sizes (starts 6 token ∷ cancelled))
      (comes 7 (event.Answer (response code.NOT_FOUND.0 [] [])))
      ≡ E.Release token true ∷ E.Receive 7 server [] L.Nothing true
      (Some (event.Answer (response code.NOT_FOUND.0 [] []))) ∷ []
  -- the server ends it before the cancel starts: the cancel leaves the queue
  pub ended : reports (own_of sizes cancelled) (comes 7 (event.Notice (response code.NOT_FOUND.0 [] [])))
      ≡ Some (record { number = 0; report = Ended code.NOT_FOUND.0 })
  pub gone : (own_of sizes (comes 7 (event.Notice (response code.NOT_FOUND.0 [] [])) ∷ cancelled)).queue ≡ []
  -- forgotten while a fetch runs
  pub forgets : (own_of sizes (Forgets 0 true true ∷ fetching)).running ≡ Some Dropped
  -- A GET whose ETag changes asks again without Block2, three times; the fourth difference is Changed.
  pub again : lower (own_of sizes (comes 1 (part 1) ∷ starts 0 token ∷ Calls 0 request (Ok 0) ∷ []))
      (comes 1 (event.Answer (second 2)))
      ≡ E.Ask 1 (record { code = code.GET.0; token = None; options = to_path; payload = [] }) 0 (L.Sent 1)
      (Ok second_token) ∷ E.Receive 1 server [] L.Nothing true (Some (event.Answer (second 2))) ∷ []
  pub changed : reports (own_of sizes (comes 1 (part 4) ∷ passes)) (comes 1 (event.Answer (second 5)))
      ≡ Some (record { number = 0; report = Changed })
  pub whole : reports (own_of sizes (comes 1 (part 4) ∷ passes)) (comes 1 (event.Answer (second 4)))
      ≡ Some (record { number = 0; report = Body (Some (4 ∷ [])) None (replicate 16 0x61 ++ codes "b") })

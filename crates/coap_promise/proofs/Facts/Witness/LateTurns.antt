-- The turns of uploads of which a block comes late: their calls, the newest first (RFC 7252, section 4.2; RFC 7959,
-- section 2.5).
use Rattle.std.proofs.Common.{ℕ, true, false, Some, None, List, [], ◌∷◌, Ok, arith}
use Rattle.std.specs.Prelude.{codes}
use Rattle.coap_types.specs.Bytes.{AreBytes}
use Rattle.coap_types.specs.declared.message.Kind.TheVariants.{Con, Ack}
use Rattle.coap_codec.specs.Message.{Message}
use Rattle.coap_layer.specs.Trace as L
use Rattle.coap_exchange.specs.AnswererSteps.{asked_of}
use Rattle.coap_exchange.specs.declared.asker.Event.TheVariants as event
use Rattle.coap_exchange.specs.declared.asker.Turn.TheVariants as turn
use Rattle.coap_client.specs.Trace as C
use Rattle.coap_server.specs.Trace as S
use Rattle.coap_record.specs.Events.{client_end, server_end}
use Rattle.coap_record.specs.Legal.{IsConfig, IsRequest}
use Rattle.coap_promise.specs.LateRuns.{key, by_16, answer_bytes, block_bytes, uploading, continue}
use Rattle.coap_promise.proofs.Facts.Witness.InWords.{config_range, t_is, no_tags}
use Rattle.coap_promise.proofs.Facts.Witness.TurnsMade.{client_turn, server_turn, to_server, to_client, asks, rests}

-- of the client: a call is taken; a tick sends its first request

abbrev pub called : ℕ → ℕ → List ℕ → List C.Call
called at number body = C.Calls at (uploading body) (Ok number) ∷ []

abbrev pub begins : ℕ → ℕ → List C.Call
begins at id = rests at ∷ asks at id (key id) ∷ []

-- a response; a 2.31 comes, and the next block is sent; the last response comes

abbrev pub answer : ℕ → ℕ → ℕ → Message
answer code n block = record {
  kind = Ack;
  code = code;
  id = n;
  token = key n;
  options = record { number = 27; value = block ∷ [] } ∷ [];
  payload = [];
}

abbrev pub goes_on : ℕ → ℕ → ℕ → ℕ → C.Call
goes_on at id value next =
    C.Feeds at server_end (answer_bytes continue id value) 0 (L.Becomes (L.Response (answer continue id value))) true
    (Some (event.Answer (answer continue id value))) (L.Sent next) (Ok (key next)) false

abbrev pub ends : ℕ → List ℕ → Message → C.Call
ends at bytes m = C.Feeds at server_end bytes 0 (L.Becomes (L.Response m)) true (Some (event.Answer m)) L.Nothing
    (Ok []) false

-- the second block is copied, and fails; the response to it comes too late

abbrev pub copies : ℕ → List C.Call
copies at = rests at ∷ C.Ticks at 0 (L.Copied server_end 1) turn.Copied L.Nothing (Ok []) false true ∷ []

abbrev pub copied : List ℕ → ℕ → List C.Call
copied bytes at = client_turn [] (to_server bytes ∷ []) (copies at)

abbrev pub expires : List C.Call
expires = rests 62000 ∷ C.Ticks 62000 0 (L.Expired server_end 1) (turn.End event.Timeout) L.Nothing (Ok []) false true ∷
    []

abbrev pub drops : List ℕ → C.Call
drops bytes = C.Feeds 130000 server_end bytes 0 (L.Becomes L.Dropped) false None L.Nothing (Ok []) false

-- of the server: a block is taken, and the next one is asked for

abbrev pub block : ℕ → ℕ → List ℕ → Message
block id value payload = record {
  kind = Con;
  code = 3;
  id = id;
  token = key id;
  options = record { number = 11; value = codes "t" } ∷ record { number = 27; value = value ∷ [] } ∷ [];
  payload = payload;
}

abbrev pub takes : ℕ → ℕ → ℕ → List ℕ → S.Call
takes at id value payload =
    S.Feeds at client_end (block_bytes id value payload) 0 (L.Becomes (L.Request (block id value payload) true))
    (Some (asked_of client_end (block id value payload), block id value payload))
    (S.Replies (record { code = continue; options = record { number = 27; value = value ∷ [] } ∷ []; payload = [] }))
    L.Nothing

abbrev pub answers : List ℕ → S.Call → List S.Call
answers bytes c = server_turn (to_client bytes ∷ []) (c ∷ [])

-- words and sizes, and a request, are in range

pub by_16_range : IsConfig by_16
by_16_range = record {
  addresses = config_range.addresses;
  client_setup = config_range.client_setup;
  client_szx = omega arith;
  client_limit = (omega arith, omega arith);
  server_setup = config_range.server_setup;
  server_szx = omega arith;
  some = omega arith;
  limit = config_range.limit;
  server_limit = config_range.server_limit;
  base = config_range.base;
  delays = config_range.delays;
  few = omega arith;
  plains = config_range.plains;
  few_plains = omega arith;
}

pub range : (body : List ℕ) → AreBytes body → IsRequest (uploading body)
range body bytes = record { path = t_is; format = tt; body = bytes; etags = no_tags; if_match = no_tags; accept = tt }

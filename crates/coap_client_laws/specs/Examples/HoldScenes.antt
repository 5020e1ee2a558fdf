-- What an upload holds back whose last datagram was sent at 45,000, and when (MAX_LATENCY: RFC 7252, section 4.8.2).
use Rattle.std.specs.Prelude.{◌≡◌, ℕ, ◌+◌, false, Some, None, List, [], ◌∷◌, replicate}
use Rattle.coap_types.specs.declared.request.Method.TheVariants.{Put}
use Rattle.coap_types.specs.declared.transmission.TheConstants.{MAX_LATENCY_MS as max_latency}
use Rattle.coap_block.specs.Sizes.{Sizes, usual_sizes}
use Rattle.coap_exchange.specs.declared.asker.Turn.TheVariants as turn
use Rattle.coap_client.specs.Trace.{Request}
use Rattle.coap_client.specs.Own.{Own, start, Operation}
use Rattle.coap_client.specs.Queue.{calling}
use Rattle.coap_client.specs.Effects.{Asks, Rests}
use Rattle.coap_client.specs.Events.{passes}

abbrev pub request : List ℕ → Request
request body = record {
  method = Put;
  path = [];
  format = None;
  body = body;
  etags = [];
  if_match = [];
  if_none_match = false;
  accept = None;
}

abbrev pub sizes : Sizes
sizes = usual_sizes 3

abbrev pub holding : List Operation → Own
holding ops = record (start sizes) { queue = ops; hold = Some 45000 }

abbrev pub long : Operation
long = calling sizes 1 (request (replicate 300 0))

abbrev pub short : Operation
short = calling sizes 2 (request (replicate 10 0))

-- A body in several blocks is held back, and what waits behind it; a request in one message is not.
pub record HoldScenes : Type 0 where
  pub held : (passes (holding (long ∷ short ∷ [])) (45000 + max_latency) turn.Idle).deed ≡ Rests
  pub free : (passes (holding (long ∷ short ∷ [])) (45000 + max_latency + 1) turn.Idle).deed ≡ Asks long
  pub not_held : (passes (holding (short ∷ long ∷ [])) (45000 + max_latency) turn.Idle).deed ≡ Asks short

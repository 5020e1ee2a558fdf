-- The calls of a turn of the server.
use Rattle.std.proofs.Common.{inl, inr, ℕ, Some, None, List, [], ◌∷◌, ◌++◌, map}
use Rattle.coap_types.specs.Past.{Ever}
use Rattle.coap_types.specs.declared.endpoint.Endpoint.{Endpoint}
use Rattle.coap_layer.specs.Trace.{Packet}
use Rattle.coap_server.specs.Trace.{Call, NextOut}
use Rattle.coap_promise.specs.Delivery.{FedToServer}
use Rattle.coap_record.specs.Events.{Config}
use Rattle.coap_record.specs.Record.{OfServer}
use Rattle.coap_promise.proofs.Facts.Delivery.BothEnds.{server_side}
use Rattle.coap_promise.proofs.Facts.Delivery.End as end
use Rattle.coap_promise.proofs.Facts.Delivery.End.{every_front}
use Rattle.coap_promise.proofs.Facts.Delivery.EntriesInTime.{Every}
use Rattle.coap_promise.proofs.Facts.Delivery.ServerInTime.{IsAt, Fed}

abbrev pub outs_after : List Packet → List Call → List Call
outs_after outs calls = map (λ p. NextOut (Some p)) outs ++ calls

abbrev pub turn_calls : List Packet → List Call → List Call
turn_calls outs calls = NextOut None ∷ outs_after outs calls

pub all_at : (t : ℕ) (outs : List Packet) (calls : List Call) → Every (IsAt t) calls
    → Every (IsAt t) (turn_calls outs calls)
all_at t outs calls at = (tt, every_front (IsAt t) (λ (p : Packet). NextOut (Some p)) (λ p. tt) outs calls at)

pub to_entries : (from : Endpoint) (bytes : List ℕ) (cs : List Call) → Ever (λ c. Fed c from bytes) cs
    → Ever (FedToServer from bytes) (map OfServer cs)
to_entries from bytes [] h = h
to_entries from bytes (c ∷ cs) (inl h) = inl h
to_entries from bytes (c ∷ cs) (inr h) = inr (to_entries from bytes cs h)

module _ (config : Config) where
  abbrev pub IsGood : List Call → Type 0
  IsGood past = end.IsGood (server_side config) past

  pub down : (past : List Call) (c : Call) → IsGood (c ∷ past) → IsGood past
  down past c good = end.down (server_side config) past c good

-- The calls of a turn of the client.
use Rattle.std.proofs.Common.{inl, inr, ◌≡◌, ℕ, Some, None, List, [], ◌∷◌, ◌++◌, map, refl}
use Rattle.coap_types.specs.Past.{Ever}
use Rattle.coap_types.specs.declared.endpoint.Endpoint.{Endpoint}
use Rattle.coap_layer.specs.Trace.{Packet}
use Rattle.coap_client.specs.Trace.{Call, NextOut, NextReport, Reported}
use Rattle.coap_promise.specs.Delivery.{FedToClient}
use Rattle.coap_record.specs.Events.{Config}
use Rattle.coap_record.specs.Record.{OfClient}
use Rattle.coap_promise.proofs.Facts.Delivery.BothEnds.{client_side}
use Rattle.coap_promise.proofs.Facts.Delivery.ClientInTime.{IsAt, Fed}
use Rattle.coap_promise.proofs.Facts.Delivery.End as end
use Rattle.coap_promise.proofs.Facts.Delivery.End.{every_front}
use Rattle.coap_promise.proofs.Facts.Delivery.EntriesInTime.{Every}
use Rattle.coap_promise.proofs.Facts.Delivery.HopsAreEntries.{client_layer}

-- the calls of a turn, with what is taken after them
abbrev pub taken_after : List Packet → List Call → List Call
taken_after outs calls = NextOut None ∷ (map (λ p. NextOut (Some p)) outs ++ calls)

abbrev pub told_after : List Reported → List Call → List Call
told_after reports calls = map (λ r. NextReport (Some r)) reports ++ calls

abbrev pub turn_calls : List Packet → List Reported → List Call → List Call
turn_calls outs reports calls = NextReport None ∷ told_after reports (taken_after outs calls)

-- .. have its moment
pub all_at : (t : ℕ) (outs : List Packet) (reports : List Reported) (calls : List Call) → Every (IsAt t) calls
    → Every (IsAt t) (turn_calls outs reports calls)
all_at t outs reports calls at = (
  tt,
  every_front (IsAt t) (λ (r : Reported). NextReport (Some r)) (λ r. tt) reports (taken_after outs calls)
      (tt, every_front (IsAt t) (λ (p : Packet). NextOut (Some p)) (λ p. tt) outs calls at),
)

pub to_entries : (from : Endpoint) (bytes : List ℕ) (cs : List Call) → Ever (λ c. Fed c from bytes) cs
    → Ever (FedToClient from bytes) (map OfClient cs)
to_entries from bytes [] h = h
to_entries from bytes (c ∷ cs) (inl h) = inl h
to_entries from bytes (c ∷ cs) (inr h) = inr (to_entries from bytes cs h)

module _ (config : Config) where
  abbrev pub IsGood : List Call → Type 0
  IsGood past = end.IsGood (client_side config) past

  pub down : (past : List Call) (c : Call) → IsGood (c ∷ past) → IsGood past
  down past c good = end.down (client_side config) past c good

  pub told_same : (reports : List Reported) (calls past : List Call)
      → client_layer config (told_after reports calls ++ past) ≡ client_layer config (calls ++ past)
  told_same [] calls past = refl
  told_same (r ∷ reports) calls past = told_same reports calls past

  pub told_good : (reports : List Reported) (calls past : List Call) → IsGood (told_after reports calls ++ past)
      → IsGood (calls ++ past)
  told_good [] calls past good = good
  told_good (r ∷ reports) calls past good = told_good reports calls past
      (down (told_after reports calls ++ past) (NextReport (Some r)) good)

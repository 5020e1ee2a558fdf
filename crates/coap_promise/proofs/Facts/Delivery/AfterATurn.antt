-- What a turn leaves: no clock is past it, and nothing waits.
use Rattle.std.proofs.Common.{◌≡◌, inl, inr, ℕ, List, [], ◌∷◌, ◌++◌, map}
use Rattle.coap_types.specs.Past.{Ever}
use Rattle.coap_layer.specs.Trace.{Entry}
use Rattle.coap_layer.specs.Channel.{Hop, Near, Far, OnNear, OnFar}
use Rattle.coap_record.specs.Events.{Config}
use Rattle.coap_layer.specs.Words.{waiting}
use Rattle.coap_record.specs.Record.{client_of, server_trace}
use Rattle.coap_promise.proofs.Facts.Delivery.HopsAreEntries.{client_layer, server_layer}
use Rattle.coap_record.specs.Record as W
use Rattle.coap_promise.proofs.Facts.Delivery.ClientInTime as client
use Rattle.coap_promise.proofs.Facts.Delivery.ServerInTime as server

-- hops of one end over what was before

pub on_near : (P : Entry → Type 0) (xs : List Entry) (hs : List Hop) → Ever P xs → Ever (OnNear P) (map Near xs ++ hs)
on_near P [] hs h = absurd h
on_near P (x ∷ xs) hs (inl h) = inl h
on_near P (x ∷ xs) hs (inr h) = inr (on_near P xs hs h)

pub on_far : (P : Entry → Type 0) (xs : List Entry) (hs : List Hop) → Ever P xs → Ever (OnFar P) (map Far xs ++ hs)
on_far P [] hs h = absurd h
on_far P (x ∷ xs) hs (inl h) = inl h
on_far P (x ∷ xs) hs (inr h) = inr (on_far P xs hs h)

module _ (config : Config) (t : ℕ) where
  pub record Still (es : List W.Entry) : Type 0 where
    pub client : client.IsBy config t (client_of es)
    pub server : server.IsBy config t (server_trace config es)
    pub client_none : waiting (client_layer config (client_of es)) ≡ []
    pub server_none : waiting (server_layer config (server_trace config es)) ≡ []

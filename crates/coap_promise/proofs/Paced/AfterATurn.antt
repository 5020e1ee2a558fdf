-- What a turn leaves, by two clocks: no clock of an end is past its own, nothing waits, what was given out is in the
-- hops, and the hops are fair.
use Rattle.std.proofs.Common.{◌≡◌, ◌≤◌, ℕ, List, [], ◌∷◌, ◌++◌, map, sym, subst, arith}
use Rattle.coap_types.specs.Past.{Ever, Always, all_of}
use Rattle.coap_types.proofs.Facts.Traces.{Ever_back}
use Rattle.coap_types.specs.declared.endpoint.Endpoint.{Endpoint}
use Rattle.coap_layer.specs.Channel.{Hop, Near, Far, near_of, far_of, OnNear, OnFar, GaveOut}
use Rattle.coap_layer.specs.AtAnyTime as any_time
use Rattle.coap_layer.specs.AtAnyTime.{WasOut}
use Rattle.coap_layer.specs.Paced.{IsFair}
use Rattle.coap_layer.specs.Trace.{Receive, Entry}
use Rattle.coap_layer.specs.Words.{clock, waiting}
use Rattle.coap_promise.specs.Clocks.{Clocks, of_layers}
use Rattle.coap_record.specs.Events.{Config}
use Rattle.coap_promise.specs.Hops.{hops_in, SentIn}
use Rattle.coap_record.specs.Record as W
use Rattle.coap_record.specs.Record.{client_of, server_trace, Given, given_by}
use Rattle.coap_promise.proofs.Facts.Delivery.ClientInTime as client
use Rattle.coap_promise.proofs.Facts.Delivery.EntriesInTime.{Every, Timely}
use Rattle.coap_promise.proofs.Facts.Delivery.HopsAreEntries.{client_layer, server_layer, near_far, far_near}
use Rattle.coap_promise.proofs.Facts.Delivery.ServerInTime as server
use Rattle.coap_record.specs.declared.addresses.Addresses.{Addresses}

same_moment : (t : ℕ) (G : Endpoint → List ℕ → Type 0) (e : Entry) → Timely t G e → (from : Endpoint) (bytes : List ℕ)
    → e.call ≡ Receive from bytes → t ≡ e.at
same_moment t G e k from bytes is = let a = (k.fed from bytes is).1 in let b = k.till in omega (arith, a, b)

-- the clock is not past this moment behind these entries
pub clock_by : (t : ℕ) (G : Endpoint → List ℕ → Type 0) (xs past : List Entry) → Every (Timely t G) xs → clock past ≤ t
    → clock (xs ++ past) ≤ t
clock_by t G [] past h by = by
clock_by t G (x ∷ xs) past h by = h.0.till

module _ (addresses : Addresses) (c : Clocks) (n : ℕ) (G : Endpoint → List ℕ → Type 0) (hs : List Hop)
    (old : Always (IsFair (of_layers c) addresses.client addresses.server) hs) where
  pub near_fair : clock (far_of hs) ≤ c.server n
      → ((bytes : List ℕ) → G addresses.server bytes → Ever (OnFar (GaveOut addresses.client bytes (c.server n))) hs)
      → (xs : List Entry) → Every (Timely (c.client n) G) xs
      → Always (IsFair (of_layers c) addresses.client addresses.server) (map Near xs ++ hs)
  near_fair by f [] h = old
  near_fair by f (x ∷ xs) h = (
    (λ bytes is. record {
      instant = n;
      shown = same_moment (c.client n) G x h.0 addresses.server bytes is;
      later = subst (λ l. clock l ≤ c.server n) (sym (far_near xs hs)) by;
      so = Ever_back (OnFar (GaveOut addresses.client bytes (c.server n))) (map Near xs) hs
          (f bytes (h.0.fed addresses.server bytes is).0);
    }),
    near_fair by f xs h.1,
  )

  pub far_fair : clock (near_of hs) ≤ c.client n
      → ((bytes : List ℕ) → G addresses.client bytes → Ever (OnNear (GaveOut addresses.server bytes (c.client n))) hs)
      → (xs : List Entry) → Every (Timely (c.server n) G) xs
      → Always (IsFair (of_layers c) addresses.client addresses.server) (map Far xs ++ hs)
  far_fair by f [] h = old
  far_fair by f (x ∷ xs) h = (
    (λ bytes is. record {
      instant = n;
      shown = same_moment (c.server n) G x h.0 addresses.client bytes is;
      later = subst (λ l. clock l ≤ c.client n) (sym (near_far xs hs)) by;
      so = Ever_back (OnNear (GaveOut addresses.server bytes (c.client n))) (map Far xs) hs
          (f bytes (h.0.fed addresses.client bytes is).0);
    }),
    far_fair by f xs h.1,
  )

module _ (c : Clocks) (config : Config) (n : ℕ) where
  -- by the event of this number
  pub record Still (es : List W.Entry) : Type 0 where
    pub client : client.IsBy config (c.client n) (client_of es)
    pub server : server.IsBy config (c.server n) (server_trace config es)
    pub client_none : waiting (client_layer config (client_of es)) ≡ []
    pub server_none : waiting (server_layer config (server_trace config es)) ≡ []
    pub near_by : clock (near_of (hops_in config es)) ≤ c.client n
    pub far_by : clock (far_of (hops_in config es)) ≤ c.server n

  pub record Leaves (at : ℕ) (entries es : List W.Entry) : Type 0 where
    pub still : Still (entries ++ es)
    pub sent : (g : Given) → Ever (λ h. h ≡ g) (all_of (given_by config.addresses at) entries)
        → SentIn config.addresses (hops_in config (entries ++ es)) g

  pub record Goes (at : ℕ) (entries es : List W.Entry) : Type 0 where
    pub leaves : Leaves at entries es
    pub fair : Always (IsFair (of_layers c) config.addresses.client config.addresses.server)
        (hops_in config (entries ++ es))

-- at any time
module _ (addresses : Addresses) (t : ℕ) (G : Endpoint → List ℕ → Type 0) (hs : List Hop)
    (old : Always (any_time.IsFair addresses.client addresses.server) hs) where
  pub near_any : ((bytes : List ℕ) → G addresses.server bytes → Ever (OnFar (WasOut addresses.client bytes)) hs)
      → (xs : List Entry) → Every (Timely t G) xs → Always (any_time.IsFair addresses.client addresses.server)
      (map Near xs ++ hs)
  near_any f [] h = old
  near_any f (x ∷ xs) h = (
    (λ bytes is. Ever_back (OnFar (WasOut addresses.client bytes)) (map Near xs) hs
        (f bytes (h.0.fed addresses.server bytes is).0)),
    near_any f xs h.1,
  )

  pub far_any : ((bytes : List ℕ) → G addresses.client bytes → Ever (OnNear (WasOut addresses.server bytes)) hs)
      → (xs : List Entry) → Every (Timely t G) xs → Always (any_time.IsFair addresses.client addresses.server)
      (map Far xs ++ hs)
  far_any f [] h = old
  far_any f (x ∷ xs) h = (
    (λ bytes is. Ever_back (OnNear (WasOut addresses.server bytes)) (map Far xs) hs
        (f bytes (h.0.fed addresses.client bytes is).0)),
    far_any f xs h.1,
  )

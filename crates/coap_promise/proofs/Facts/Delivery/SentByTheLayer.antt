-- What an end gave out was sent by its layer, and stays so.
use Rattle.std.proofs.Common.{◌≡◌, inl, inr, ◌≤◌, ℕ, List, [], ◌∷◌, ◌++◌, refl, sym, subst, ◌∙◌, arith, map}
use Rattle.coap_types.specs.Past.{Ever}
use Rattle.coap_types.proofs.Facts.Traces.{Ever_back, Ever_map}
use Rattle.coap_types.specs.declared.endpoint.Endpoint.{Endpoint}
use Rattle.coap_layer.specs.Channel.{Hop, Near, Far, OnNear, OnFar, GaveOut}
use Rattle.coap_layer.specs.Trace as L
use Rattle.coap_server.specs.Law as server_law
use Rattle.coap_promise.specs.Delivery as D
use Rattle.coap_record.specs.Events.{Config}
use Rattle.coap_promise.specs.Hops.{SendsAt, SentIn, client_adds, server_adds, hops_in}
use Rattle.coap_record.specs.Record.{Given, Entry, OfClient, OfServer, client_of, server_trace, Setting}
use Rattle.coap_record.specs.Record.{DelayOf, PlainOf, gives_it}
use Rattle.coap_record.specs.declared.addresses.Addresses.{Addresses}
use Rattle.coap_promise.proofs.Facts.Delivery.ClientTurns as client_turns
use Rattle.coap_promise.proofs.Facts.Delivery.ServerTurns as server_turns

-- what was sent there

sent_there : (from to : Endpoint) (bytes : List ℕ) (when : ℕ) (g : Given) (e : L.Entry) → D.GaveOut from to bytes when g
    → SendsAt g.at g.packet e → GaveOut to bytes when e
sent_there from to bytes when g e gave sends =
    let a = sends.at in
    let b = gave.early in
    let c = gave.young in
    record {
      out = subst (λ p. Ever (λ q. q ≡ p) e.out) gave.packet sends.out;
      from = omega (arith, a, b);
      till = omega (arith, a, c);
    }

pub by_server : (addresses : Addresses) → (addresses.client ≡ addresses.server → ⊥)
    → (hs : List Hop) (bytes : List ℕ) (when : ℕ) (g : Given) → D.GaveOut addresses.server addresses.client bytes when g
    → SentIn addresses hs g → Ever (OnFar (GaveOut addresses.client bytes when)) hs
by_server addresses two hs bytes when g gave (inl h) = absurd (two (sym h.0 ∙ gave.by))
by_server addresses two hs bytes when g gave (inr h) = Ever_map (OnFar (SendsAt g.at g.packet))
    (OnFar (GaveOut addresses.client bytes when)) each hs h.1
  where
    each : (e : Hop) → OnFar (SendsAt g.at g.packet) e → OnFar (GaveOut addresses.client bytes when) e
    each (Near e) k = absurd k
    each (Far e) k = sent_there addresses.server addresses.client bytes when g e gave k

pub by_client : (addresses : Addresses) → (addresses.client ≡ addresses.server → ⊥)
    → (hs : List Hop) (bytes : List ℕ) (when : ℕ) (g : Given) → D.GaveOut addresses.client addresses.server bytes when g
    → SentIn addresses hs g → Ever (OnNear (GaveOut addresses.server bytes when)) hs
by_client addresses two hs bytes when g gave (inr h) = absurd (two (sym gave.by ∙ h.0))
by_client addresses two hs bytes when g gave (inl h) = Ever_map (OnNear (SendsAt g.at g.packet))
    (OnNear (GaveOut addresses.server bytes when)) each hs h.1
  where
    each : (e : Hop) → OnNear (SendsAt g.at g.packet) e → OnNear (GaveOut addresses.server bytes when) e
    each (Near e) k = sent_there addresses.client addresses.server bytes when g e gave k
    each (Far e) k = absurd k

-- some element, with its finding
pub found_in : {X : Type 0} (P : X → Type 0) (xs : List X) → Ever P xs → (x : X) × P x × Ever (λ y. y ≡ x) xs
found_in P [] h = absurd h
found_in P (x ∷ xs) (inl h) = (x, h, inl refl)
found_in P (x ∷ xs) (inr h) = let k = found_in P xs h in (k.0, k.1, inr k.2)

pub sent_later : (addresses : Addresses) (front hs : List Hop) (g : Given) → SentIn addresses hs g
    → SentIn addresses (front ++ hs) g
sent_later addresses front hs g (inl h) = inl (h.0, Ever_back (OnNear (SendsAt g.at g.packet)) front hs h.1)
sent_later addresses front hs g (inr h) = inr (h.0, Ever_back (OnFar (SendsAt g.at g.packet)) front hs h.1)

module _ (config : Config) where
  -- the hops of later entries stand in front
  pub sent_still : (g : Given) (later es : List Entry) → SentIn config.addresses (hops_in config es) g
      → SentIn config.addresses (hops_in config (later ++ es)) g
  sent_still g [] es h = h
  sent_still g (OfClient c ∷ later) es h = sent_later config.addresses
      (map Near (client_adds config (client_of (later ++ es)) c))
      (hops_in config (later ++ es)) g (sent_still g later es h)
  sent_still g (OfServer c ∷ later) es h = sent_later config.addresses
      (map Far (server_adds config (server_trace config (later ++ es)) c)) (hops_in config (later ++ es)) g
      (sent_still g later es h)

  -- a server begins at moment 0
  pub begins_by : (t : ℕ) (ss : List Setting) → (server_law.own_of config.limits config.server_szx
      (map gives_it ss)).clock ≤ t
  begins_by t [] = omega arith
  begins_by t (DelayOf d ∷ ss) = begins_by t ss
  begins_by t (PlainOf p ∷ ss) = begins_by t ss

  pub client_down : (later es : List Entry) → client_turns.IsGood config (client_of (later ++ es))
      → client_turns.IsGood config (client_of es)
  client_down [] es good = good
  client_down (OfClient c ∷ later) es good = client_down later es
      (client_turns.down config (client_of (later ++ es)) c good)
  client_down (OfServer c ∷ later) es good = client_down later es good

  pub server_down : (later es : List Entry) → server_turns.IsGood config (server_trace config (later ++ es))
      → server_turns.IsGood config (server_trace config es)
  server_down [] es good = good
  server_down (OfClient c ∷ later) es good = server_down later es good
  server_down (OfServer c ∷ later) es good = server_down later es
      (server_turns.down config (server_trace config (later ++ es)) c good)

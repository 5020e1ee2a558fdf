-- The table of arrivals and what the trace says of it.
use Rattle.std.proofs.Common.{◌≡◌, ℕ, ◌+◌, nat_le, Bool, true, false, Option, Some, None, List, [], ◌∷◌, length, filter}
use Rattle.std.proofs.Common.{map, refl, ap, sym, ◌∙◌, arith, ◌&&◌, ◌||◌, cond, if◌then◌else◌}
use Rattle.std.specs.List.{list_any}
use Rattle.coap_types.specs.declared.endpoint.Endpoint.{Endpoint}
use Rattle.coap_layer.specs.Trace.{Entry}
use Rattle.coap_layer.specs.Words.{Incoming, taken, is_from, hands_up, HandsUpSince, Remembered, remembered, is_con}
use Rattle.coap_layer.specs.Words.{reply_in}
use Rattle.coap_layer.specs.Machine.State.{arrivals, Arrived, stores, newly, is_live, is_of, is_remembered}
use Rattle.coap_types.specs.declared.transmission.TheConstants.{EXCHANGE_LIFETIME_MS as exchange_lifetime}
use Rattle.coap_layer.proofs.ListLemmas.{le_true, true_le, and_left, and_right, both, or_comm, any_append, any_changed}
use Rattle.coap_layer.proofs.ListLemmas.{filter_more, filter_changed, length_map, length_append, any_ever, ever_any}

-- a reply changes nothing of an arrival but its reply
module _ (e : Entry) (a : Arrived) where
  stored_is : (o : Option (List ℕ)) → reply_in a.from a.id e.call ≡ o
      → ((stores e a).from ≡ a.from) × ((stores e a).id ≡ a.id) × ((stores e a).at ≡ a.at) × ((stores e a).con ≡ a.con)
  stored_is (Some b) h = rw (stores, h) (refl, refl, refl, refl)
  stored_is None h = rw (stores, h) (refl, refl, refl, refl)

  pub same_of : (now : ℕ) (from : Endpoint) (id : ℕ) → is_of now from id (stores e a) ≡ is_of now from id a
  same_of now from id = let s = stored_is _ refl in cc (s.0, s.1, s.2)

  pub same_live : (now : ℕ) → is_live now (stores e a) ≡ is_live now a
  same_live now = let s = stored_is _ refl in cc (s.2)

  pub same_at : (stores e a).at ≡ a.at
  same_at = (stored_is _ refl).2

  pub same_con : (stores e a).con ≡ a.con
  same_con = (stored_is _ refl).3

-- the same test, over the trace
abbrev pub known : ℕ → Endpoint → ℕ → List Entry → Bool
known now from id t = list_any (λ e. nat_le now (e.at + exchange_lifetime) && hands_up from id e) t

known_step : (now : ℕ) (from : Endpoint) (id : ℕ) (at : ℕ) (o : Option Incoming)
    → list_any (is_of now from id) (newly at o) ≡ (nat_le now (at + exchange_lifetime)
    && elim o [ Some m ↦ is_from from id m | None ↦ false ])
known_step now from id at None = go (nat_le now (at + exchange_lifetime))
  where
    go : (b : Bool) → false ≡ (b && false)
    go true = refl
    go false = refl
known_step now from id at (Some m) = go _
  where
    go : (b : Bool) → (b || false) ≡ b
    go true = refl
    go false = refl

pub known_is : (now : ℕ) (from : Endpoint) (id : ℕ) (t : List Entry)
    → is_remembered now from id (arrivals t) ≡ known now from id t
known_is now from id [] = refl
known_is now from id (e ∷ past) =
    any_append (is_of now from id) (map (stores e) (arrivals past)) (newly e.at (taken e))
    ∙ (or_comm (list_any (is_of now from id) (map (stores e) (arrivals past)))
    (list_any (is_of now from id) (newly e.at (taken e)))
    ∙ cc (
      known_step now from id e.at (taken e),
      any_changed (is_of now from id) (stores e) (λ a. same_of e a now from id) (arrivals past),
      known_is now from id past,
    ))

pub remembered_of : (now : ℕ) (from : Endpoint) (id : ℕ) (t : List Entry)
    → is_remembered now from id (arrivals t) ≡ true → Remembered t now from id
remembered_of now from id t h =
    any_ever _ (HandsUpSince now from id) (λ e k. record { up = and_right _ _ k; young = le_true _ _ (and_left _ _ k) })
    t (sym (known_is now from id t) ∙ h)

pub of_remembered : (now : ℕ) (from : Endpoint) (id : ℕ) (t : List Entry) → Remembered t now from id
    → is_remembered now from id (arrivals t) ≡ true
of_remembered now from id t h = known_is now from id t
    ∙ ever_any _ (HandsUpSince now from id) (λ e k. both _ _ (true_le _ _ k.young) k.up) t h

count_step : (now at n : ℕ) (o : Option Incoming)
    → n + length (filter (is_live now) (newly at o))
    ≡ elim o [ Some m ↦ (if nat_le now (at + exchange_lifetime) then 1 + n else n) | None ↦ n ]
count_step now at n None = omega arith
count_step now at n (Some m) = go (nat_le now (at + exchange_lifetime))
  where
    new : Arrived
    new = record { from = m.from; id = m.message.id; at = at; con = is_con m.message.kind; reply = None }

    go : (b : Bool) → n + length (cond b (new ∷ []) []) ≡ cond b (1 + n) n
    go true = omega arith
    go false = omega arith

pub count_is : (now : ℕ) (t : List Entry) → length (filter (is_live now) (arrivals t)) ≡ remembered now t
count_is now [] = refl
count_is now (e ∷ past) =
    ap length (filter_more (is_live now) (map (stores e) (arrivals past)) (newly e.at (taken e)))
    ∙ (length_append (filter (is_live now) (map (stores e) (arrivals past))) _
    ∙ (ap (λ n. n + length (filter (is_live now) (newly e.at (taken e))))
    (ap length (filter_changed (is_live now) (stores e) (λ a. same_live e a now) (arrivals past))
    ∙ (length_map (stores e) (filter (is_live now) (arrivals past)) ∙ count_is now past))
    ∙ count_step now e.at (remembered now past) (taken e)))

-- The stored reply, in the table and in the trace.
use Rattle.coap_layer.specs.Trace.{Setup}
use Rattle.std.proofs.Common.{◌≡◌, inl, inr, ℕ, ◌+◌, ◌≤◌, nat_le, Bool, true, false, Option, Some, None, List, [], ◌∷◌}
use Rattle.std.proofs.Common.{◌++◌, map, refl, ap, sym, ◌∙◌, subst, arith, ◌&&◌, ◌||◌, cond, if◌then◌else◌}
use Rattle.std.specs.List.{list_any}
use Rattle.coap_types.specs.declared.endpoint.Endpoint.{Endpoint}
use Rattle.coap_types.specs.SameEndpoint.{same_endpoint}
use Rattle.coap_types.proofs.Facts.Endpoints.{same_endpoint_is}
use Rattle.coap_layer.specs.Trace.{Entry}
use Rattle.coap_layer.specs.Words.{Incoming, clock, taken, is_from, Remembered, is_con, was_con, reply_in, replied}
use Rattle.coap_layer.specs.Machine.State.{arrivals, Arrived, stores, newly, is_live, is_of, is_remembered, reply_of}
use Rattle.coap_layer.specs.Rows.{Stands, LayerLaw}
use Rattle.coap_types.specs.declared.transmission.TheConstants.{EXCHANGE_LIFETIME_MS as exchange_lifetime}
use Rattle.coap_layer.proofs.ListLemmas.{same_nat, and_left, and_right, not_true, any_append, any_changed}
use Rattle.coap_layer.proofs.Machine.WhatIsRemembered.{same_of, same_con, remembered_of}
use Rattle.coap_layer.proofs.Arrivals.HandedUpOnce.{new_only}

-- the first arrival of this source and Incoming ID
abbrev pub con_of : ℕ → Endpoint → ℕ → List Arrived → Bool
con_of now from id [] = false
con_of now from id (a ∷ es) = if is_of now from id a then a.con else con_of now from id es

module _ (now : ℕ) (from : Endpoint) (id : ℕ) where
  con_append : (xs ys : List Arrived) (b : Bool) → list_any (is_of now from id) xs ≡ b
      → con_of now from id (xs ++ ys) ≡ cond b (con_of now from id xs) (con_of now from id ys)
  con_append [] ys true h = absurd (cc h)
  con_append [] ys false h = refl
  con_append (x ∷ xs) ys b h = go (is_of now from id x) b h (con_append xs ys b)
    where
      go : (c b : Bool) → (c || list_any (is_of now from id) xs) ≡ b
          → (list_any (is_of now from id) xs ≡ b → con_of now from id (xs ++ ys)
          ≡ cond b (con_of now from id xs) (con_of now from id ys))
          → cond c x.con (con_of now from id (xs ++ ys))
          ≡ cond b (cond c x.con (con_of now from id xs)) (con_of now from id ys)
      go true true k f = refl
      go true false k f = absurd (cc k)
      go false true k f = f k
      go false false k f = f k

  reply_append : (xs ys : List Arrived) (b : Bool) → list_any (is_of now from id) xs ≡ b
      → reply_of now from id (xs ++ ys) ≡ cond b (reply_of now from id xs) (reply_of now from id ys)
  reply_append [] ys true h = absurd (cc h)
  reply_append [] ys false h = refl
  reply_append (x ∷ xs) ys b h = go (is_of now from id x) b h (reply_append xs ys b)
    where
      go : (c b : Bool) → (c || list_any (is_of now from id) xs) ≡ b
          → (list_any (is_of now from id) xs ≡ b → reply_of now from id (xs ++ ys)
          ≡ cond b (reply_of now from id xs) (reply_of now from id ys))
          → cond c x.reply (reply_of now from id (xs ++ ys))
          ≡ cond b (cond c x.reply (reply_of now from id xs)) (reply_of now from id ys)
      go true true k f = refl
      go true false k f = absurd (cc k)
      go false true k f = f k
      go false false k f = f k

  con_stored : (e : Entry) (xs : List Arrived) → con_of now from id (map (stores e) xs) ≡ con_of now from id xs
  con_stored e [] = refl
  con_stored e (x ∷ xs) = let a = same_of e x now from id in let b = same_con e x in let c =
      con_stored e xs in cc (a, b, c)

  -- what an entry makes of the stored reply
  abbrev replied_by : Option (List ℕ) → Bool → Option (List ℕ) → Option (List ℕ)
  replied_by (Some bytes) con old = if con then Some bytes else None
  replied_by None con old = old

  store_here : (e : Entry) (a : Arrived) → is_of now from id a ≡ true
      → (stores e a).reply ≡ replied_by (reply_in from id e.call) a.con a.reply
  store_here e a h =
      let from_is : a.from ≡ from = same_endpoint_is a.from from (and_left _ _ (and_right (is_live now a) _ h)) in
      let id_is : a.id ≡ id = same_nat a.id id (and_right (same_endpoint a.from from) _ (and_right (is_live now a) _ h))
      in
      let is : reply_in a.from a.id e.call ≡ reply_in from id e.call = ap (λ f. reply_in f a.id e.call) from_is
      ∙ ap (λ i. reply_in from i e.call) id_is in
      go (reply_in a.from a.id e.call) refl ∙ ap (λ o. replied_by o a.con a.reply) is
    where
      go : (o : Option (List ℕ)) → reply_in a.from a.id e.call ≡ o
          → (stores e a).reply ≡ replied_by (reply_in a.from a.id e.call) a.con a.reply
      go (Some b) k = rw (stores, k) refl
      go None k = rw (stores, k) refl

  reply_stored : (e : Entry) (xs : List Arrived) → list_any (is_of now from id) xs ≡ true
      → reply_of now from id (map (stores e) xs) ≡ replied_by (reply_in from id e.call) (con_of now from id xs)
      (reply_of now from id xs)
  reply_stored e [] h = absurd (cc h)
  reply_stored e (x ∷ xs) h = go (is_of now from id x) (is_of now from id (stores e x)) refl (same_of e x now from id) h
      (store_here e x) (reply_stored e xs)
    where
      go : (b c : Bool) → is_of now from id x ≡ b → c ≡ is_of now from id x
          → (b || list_any (is_of now from id) xs) ≡ true
          → (is_of now from id x ≡ true → (stores e x).reply ≡ replied_by (reply_in from id e.call) x.con x.reply)
          → (list_any (is_of now from id) xs ≡ true → reply_of now from id (map (stores e) xs)
          ≡ replied_by (reply_in from id e.call) (con_of now from id xs) (reply_of now from id xs))
          → cond c (stores e x).reply (reply_of now from id (map (stores e) xs))
          ≡ replied_by (reply_in from id e.call) (cond b x.con (con_of now from id xs))
          (cond b x.reply (reply_of now from id xs))
      go true true hb hc k f g = f hb
      go false false hb hc k f g = g k
      go true false hb hc k f g = absurd (cc (hb, hc))
      go false true hb hc k f g = absurd (cc (hb, hc))

  -- what is found in the table is what the trace says
  abbrev Found : List Entry → Type 0
  Found t = (con_of now from id (arrivals t) ≡ was_con from id t)
      × (reply_of now from id (arrivals t) ≡ (if was_con from id t then replied from id t else None))

  shape : (r : Option (List ℕ)) (con : Bool) (old : Option (List ℕ))
      → replied_by r con (cond con old None) ≡ cond con (elim r [ Some bytes ↦ Some bytes | None ↦ old ]) None
  shape (Some b) true old = refl
  shape (Some b) false old = refl
  shape None true old = refl
  shape None false old = refl

  younger : (past : List Entry) (at : ℕ) → at ≤ now → Remembered past now from id → Remembered past at from id
  younger [] at le h = h
  younger (e ∷ past) at le (inl k) = inl (record { up = k.up; young = omega (arith, k.young, le) })
  younger (e ∷ past) at le (inr k) = inr (younger past at le k)

  module _ (e : Entry) (past : List Entry) where
    abbrev stored_xs : List Arrived
    stored_xs = map (stores e) (arrivals past)

    any_stored : list_any (is_of now from id) stored_xs ≡ is_remembered now from id (arrivals past)
    any_stored = any_changed (is_of now from id) (stores e) (λ a. same_of e a now from id) (arrivals past)

    -- what was in the table
    kept_found : (ys : List Arrived) → list_any (is_of now from id) stored_xs ≡ true
        → (is_remembered now from id (arrivals past) ≡ true → Found past)
        → (con_of now from id (stored_xs ++ ys) ≡ was_con from id past)
        × (reply_of now from id (stored_xs ++ ys) ≡ cond (was_con from id past)
        (elim (reply_in from id e.call) [ Some bytes ↦ Some bytes | None ↦ replied from id past ]) None)
    kept_found ys h found =
        let there : is_remembered now from id (arrivals past) ≡ true = sym any_stored ∙ h in
        let f : Found past = found there in (
          con_append stored_xs ys true h ∙ (con_stored e (arrivals past) ∙ f.0),
          reply_append stored_xs ys true h
              ∙ (reply_stored e (arrivals past) there
              ∙ (ap (λ c. replied_by (reply_in from id e.call) c (reply_of now from id (arrivals past))) f.0
              ∙ (ap (λ r. replied_by (reply_in from id e.call) (was_con from id past) r) f.1
              ∙ shape (reply_in from id e.call) (was_con from id past) (replied from id past)))),
        )

    new_found : (setup : Setup) (m : Incoming) (b : Bool) → is_from from id m ≡ b → taken e ≡ Some m
        → Stands setup past e
        → e.at ≤ now
        → list_any (is_of now from id) (stored_xs ++ newly e.at (Some m)) ≡ true
        → (is_remembered now from id (arrivals past) ≡ true → Found past)
        → (con_of now from id (stored_xs ++ newly e.at (Some m))
        ≡ cond b (is_con m.message.kind) (was_con from id past))
        × (reply_of now from id (stored_xs ++ newly e.at (Some m))
        ≡ cond (cond b (is_con m.message.kind) (was_con from id past))
        (cond b None (elim (reply_in from id e.call) [ Some bytes ↦ Some bytes | None ↦ replied from id past ]))
        None)
    new_found setup m false is up law le h found =
        kept_found (newly e.at (Some m)) (go (list_any (is_of now from id) stored_xs)
        (sym (any_append (is_of now from id) stored_xs (newly e.at (Some m))) ∙ h)
        (quiet (nat_le now (e.at + exchange_lifetime)))) found
      where
        quiet : (c : Bool) → ((c && is_from from id m) || false) ≡ false
        quiet true = rw is refl
        quiet false = refl

        go : (c : Bool) → (c || list_any (is_of now from id) (newly e.at (Some m))) ≡ true
            → list_any (is_of now from id) (newly e.at (Some m)) ≡ false → c ≡ true
        go true k q = refl
        go false k q = absurd (cc (k, q))
    new_found setup m true is up law le h found =
        (con_append stored_xs new false gone ∙ only.0, reply_append stored_xs new false gone ∙ only.1)
      where
        no : Option (List ℕ)
        no = None

        new : List Arrived
        new = newly e.at (Some m)

        not_there : list_any (is_of now from id) stored_xs ≡ true → ⊥
        not_there k =
            let from_is : m.from ≡ from = same_endpoint_is m.from from (and_left _ _ is) in
            let id_is : m.message.id ≡ id = same_nat m.message.id id (and_right (same_endpoint m.from from) _ is) in
            let r : Remembered past e.at from id = younger past e.at le
            (remembered_of now from id past (sym any_stored ∙ k)) in
            new_only setup past e m law up (subst (λ f. Remembered past e.at f m.message.id) (sym from_is)
            (subst (λ i. Remembered past e.at from i) (sym id_is) r))

        gone : list_any (is_of now from id) stored_xs ≡ false
        gone = not_true _ not_there

        look : (c : Bool) → (c || false) ≡ true → (cond c (is_con m.message.kind) false ≡ is_con m.message.kind)
            × (cond c no no ≡ cond (is_con m.message.kind) no no)
        look true k = (refl, none (is_con m.message.kind))
          where
            none : (d : Bool) → no ≡ cond d no no
            none true = refl
            none false = refl
        look false k = absurd (cc k)

        here : list_any (is_of now from id) new ≡ true
        here = go (list_any (is_of now from id) stored_xs) (sym (any_append (is_of now from id) stored_xs new) ∙ h) gone
          where
            go : (c : Bool) → (c || list_any (is_of now from id) new) ≡ true → c ≡ false
                → list_any (is_of now from id) new ≡ true
            go true k q = absurd (cc q)
            go false k q = k

        only : (con_of now from id new ≡ is_con m.message.kind)
            × (reply_of now from id new ≡ cond (is_con m.message.kind) no no)
        only = look _ here

    found_step : (setup : Setup) (o : Option Incoming) → taken e ≡ o → Stands setup past e → e.at ≤ now
        → list_any (is_of now from id) (stored_xs ++ newly e.at o) ≡ true
        → (is_remembered now from id (arrivals past) ≡ true → Found past)
        → (con_of now from id (stored_xs ++ newly e.at o)
        ≡ elim o [
          | Some m ↦ (if is_from from id m then is_con m.message.kind else was_con from id past)
          | None ↦
              was_con from id past
        ])
        × (reply_of now from id (stored_xs ++ newly e.at o)
        ≡ cond (elim o [
          | Some m ↦ (if is_from from id m then is_con m.message.kind else was_con from id past)
          | None
              ↦ was_con from id past
        ])
        (cond (elim o [ Some m ↦ is_from from id m | None ↦ false ]) None
        (elim (reply_in from id e.call) [ Some bytes ↦ Some bytes | None ↦ replied from id past ])) None)
    found_step setup None up law le h found = kept_found []
        (go (list_any (is_of now from id) stored_xs) (sym (any_append (is_of now from id) stored_xs []) ∙ h)) found
      where
        go : (c : Bool) → (c || false) ≡ true → c ≡ true
        go true k = refl
        go false k = k
    found_step setup (Some m) up law le h found = new_found setup m (is_from from id m) refl up law le h found

  pub found_is : (setup : Setup) (t : List Entry) → LayerLaw setup t → clock t ≤ now
      → is_remembered now from id (arrivals t) ≡ true → Found t
  found_is setup [] law le h = absurd (cc h)
  found_is setup (e ∷ past) law le h = found_step e past setup (taken e) refl law.0 le h
      (found_is setup past law.1 (omega (arith, law.0.time, le)))

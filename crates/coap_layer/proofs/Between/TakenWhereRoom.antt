-- A CON that arrives where there is room is taken, or was taken before.
use Rattle.coap_layer.specs.Trace.{Setup}
use Rattle.std.proofs.Common.{◌≡◌, ◌⊎◌, inl, inr, ⊎_elim, ℕ, ◌+◌, ◌≤◌, ◌<◌, Some, List, [], ◌∷◌, ◌++◌, refl, ap}
use Rattle.std.proofs.Common.{sym, ◌∙◌, subst, arith, append_assoc}
use Rattle.coap_types.specs.Past.{Ever, Always}
use Rattle.coap_types.specs.Roles.{role_of}
use Rattle.coap_types.specs.declared.endpoint.Endpoint.{Endpoint}
use Rattle.coap_types.specs.declared.message.Kind.TheVariants.{Con}
use Rattle.coap_types.specs.declared.role.Role.TheVariants as role
use Rattle.coap_types.specs.declared.transmission.TheConstants.{LAST_ARRIVAL_MS as last_arrival}
use Rattle.coap_codec.specs.Message.{Message}
use Rattle.coap_layer.specs.Arrivals.{Whole}
use Rattle.coap_layer.specs.Channel.{Hop, Near, Far, near_of, far_of, OnFar, OnFarThen, Takes}
use Rattle.coap_layer.specs.OneClock.{ChannelLaw}
use Rattle.coap_layer.specs.Machine.Calls.{IsBegun, IsTaken}
use Rattle.coap_layer.specs.Rows.{LayerLaw, Row, Arrives, Sorts, Ignores, ignores_non, ignores_reset, ignores_ack}
use Rattle.coap_layer.specs.Rows.{ignores_unmatched, ignores_new, rejects, drops, takes_ack, takes_reset, takes_answer}
use Rattle.coap_layer.specs.Rows.{passes_reset, replays, hands_over}
use Rattle.coap_layer.specs.Sends.{SpellsCon}
use Rattle.coap_layer.specs.Taking.{IsTold, ArrivesInRoom, ConsTaken}
use Rattle.coap_layer.specs.Trace.{Receive, Entry}
use Rattle.coap_layer.specs.Words.{clock, Incoming, handed, handed_by, handed_in, from_there, HandsUpSince, Remembered}
use Rattle.coap_layer.specs.Words.{remembered, Open}
use Rattle.coap_layer.specs.Words as words
use Rattle.coap_types.proofs.Facts.Traces.{Ever_by_law, forget}
use Rattle.coap_layer.proofs.Between.WhatIsTaken.{kept_by}
use Rattle.coap_layer.proofs.Facts.Hops.{near_later}
use Rattle.coap_layer.proofs.Paced.AtOneClock.{earlier, takes_it}
use Rattle.coap_layer.proofs.Arrivals.HandedUpOnce.{handed_up, taken_handed}
use Rattle.coap_layer.proofs.Between.WhatComesByType.{one_message}
use Rattle.coap_layer.proofs.Facts.Arrivals.{one_arrival}
use Rattle.coap_layer.proofs.Out.EachGoesOut.{cons_spelled}

-- a message of its class
abbrev IsOfClass : Incoming → Type 0
IsOfClass n = (role_of n.message.code ≡ role.Request) ⊎ (role_of n.message.code ≡ role.Response)

not_ignored : (setup : Setup) (past : List Entry) (e : Entry) (n : Incoming) → n.message.kind ≡ Con
    → remembered e.at past < setup.remembered → Ignores setup past e n → ⊥
not_ignored setup past e n kind room (ignores_non k) = let a = k.kind in cc (kind, a)
not_ignored setup past e n kind room (ignores_reset k) = let a = k.kind in cc (kind, a)
not_ignored setup past e n kind room (ignores_ack k) = let a = k.kind in cc (kind, a)
not_ignored setup past e n kind room (ignores_unmatched k) = let a = k.kind in cc (kind, a)
not_ignored setup past e n kind room (ignores_new k) = let a = k.full in omega (arith, a, room)

sorted_in : (setup : Setup) (past : List Entry) (e : Entry) (n : Incoming) → n.message.kind ≡ Con → IsOfClass n
    → remembered e.at past < setup.remembered → Sorts setup past e n
    → (handed_by e.answer ≡ Some n.message) ⊎ Remembered past e.at n.from n.message.id
sorted_in setup past e n kind class room (rejects r) = absurd (⊎_elim
    (λ a. ⊎_elim (λ b. cc (a, b)) (λ b. cc (a, b)) r.class)
    (λ a. ⊎_elim (λ b. cc (a, b)) (λ b. cc (a, b)) r.class) class)
sorted_in setup past e n kind class room (drops r) = absurd (not_ignored setup past e n kind room r.why)
sorted_in setup past e n kind class room (takes_ack r) = let a = r.kind in absurd (cc (kind, a))
sorted_in setup past e n kind class room (takes_reset r) = let a = r.kind in absurd (cc (kind, a))
sorted_in setup past e n kind class room (passes_reset r) = let a = r.kind in absurd (cc (kind, a))
sorted_in setup past e n kind class room (takes_answer r) = let a = r.kind in absurd (cc (kind, a))
sorted_in setup past e n kind class room (replays r) = inr r.old
sorted_in setup past e n kind class room (hands_over r) = inl (handed_up setup past e n r.kind r.answer)

module _ (one other : Setup) (near far : Endpoint) (con : Open) where
  -- what was remembered under its Message ID is that CON
  took : (at : ℕ) (whole : List Hop) → LayerLaw one (near_of whole) → Ever (IsBegun con) (near_of whole)
      → (r later : List Hop) → whole ≡ later ++ r → ChannelLaw one other near far r → clock (far_of r) ≤ at
      → con.first ≤ at → at ≤ con.first + last_arrival → Ever (HandsUpSince at near con.id) (far_of r)
      → Ever (OnFar (Takes near con)) r
  took at whole near_law begun [] later is law le from till h = absurd h
  took at whole near_law begun (Near e ∷ r) later is law le from till h =
      inr (took at whole near_law begun r (later ++ Near e ∷ []) (is ∙ sym (append_assoc later (Near e ∷ []) r))
      (earlier one other near far r (Near e) law) le from till h)
  took at whole near_law begun (Far x ∷ r) later is law le from till (inl u) =
      let k : IsTaken near con.id x = kept_by near con.id x u.up in
      let young = u.young in
      inl (takes_it one other near far whole r x con near_law law
      (λ P h. near_later P whole (later ++ Far x ∷ []) r (is ∙ sym (append_assoc later (Far x ∷ []) r)) h) begun
      k.message (taken_handed x k.message k.is) k.from_is k.id_is (omega (arith, le, till))
      (omega (arith, young, from)))
  took at whole near_law begun (Far x ∷ r) later is law le from till (inr h) =
      let time : clock (far_of r) ≤ x.at = law.far_law.0.time in
      inr (took at whole near_law begun r (later ++ Far x ∷ []) (is ∙ sym (append_assoc later (Far x ∷ []) r))
      (earlier one other near far r (Far x) law) (omega (arith, time, le)) from till h)

  -- at the entry at which it arrives
  here : (whole : List Hop) → LayerLaw one (near_of whole) → Ever (IsBegun con) (near_of whole) → IsTold con.bytes
      → (r : List Hop) (x : Entry) (later : List Hop) → whole ≡ later ++ Far x ∷ r
      → ChannelLaw one other near far (Far x ∷ r) → ArrivesInRoom other.remembered near con (far_of r) x
      → Takes near con x ⊎ Ever (OnFar (Takes near con)) r
  here whole near_law begun told r x later is law a = ⊎_elim new old
      (sorted_in other (far_of r) x n (ap (λ (m : Message). m.kind) same ∙ spelled.2) told.class a.room sorts)
    where
      n : Incoming
      n = record { from = near; message = told.message }

      row : Row other (far_of r) x (Receive near con.bytes)
      row = subst (Row other (far_of r) x) a.call law.far_law.0.row

      spelled : SpellsCon con
      spelled = forget (SpellsCon con) (near_of whole) (Ever_by_law
          (λ past e. (c : Open) → words.begun e ≡ Some c → SpellsCon c) (IsBegun con) (λ e. SpellsCon con)
          (λ past e l p. l.0 con p) (near_of whole) (cons_spelled one (near_of whole) near_law) begun)

      same : told.message ≡ spelled.0
      same = one_message con.bytes told.message spelled.0 told.spells spelled.1

      sorts : Sorts other (far_of r) x n
      sorts = subst (Arrives other (far_of r) x near)
          (one_arrival con.bytes row.0 row.1 ∙ sym (one_arrival con.bytes (Whole told.message) told.spells)) row.2

      before : whole ≡ (later ++ Far x ∷ []) ++ r
      before = is ∙ sym (append_assoc later (Far x ∷ []) r)

      id_is : told.message.id ≡ con.id
      id_is = ap (λ (m : Message). m.id) same ∙ spelled.3

      new : handed_by x.answer ≡ Some told.message → Takes near con x ⊎ Ever (OnFar (Takes near con)) r
      new h = let from = a.from in let till = a.till in
          inl (takes_it one other near far whole r x con near_law law
          (λ P k. near_later P whole (later ++ Far x ∷ []) r before k) begun n
          (ap (λ c. handed_in c x.answer) a.call ∙ ap (from_there near) h) refl id_is (omega (arith, till))
          (omega (arith, from)))

      old : Remembered (far_of r) x.at near told.message.id → Takes near con x ⊎ Ever (OnFar (Takes near con)) r
      old h = inr (took x.at whole near_law begun r (later ++ Far x ∷ []) before
          (earlier one other near far r (Far x) law) law.far_law.0.time a.from a.till
          (subst (λ (i : ℕ). Remembered (far_of r) x.at near i) id_is h))

  in_all : (whole : List Hop) → LayerLaw one (near_of whole) → Ever (IsBegun con) (near_of whole) → IsTold con.bytes
      → (r later : List Hop) → whole ≡ later ++ r → ChannelLaw one other near far r
      → Always (λ past h. OnFarThen (ArrivesInRoom other.remembered near con) past h
      → OnFar (Takes near con) h ⊎ Ever (OnFar (Takes near con)) past) r
  in_all whole near_law begun told [] later is law = tt
  in_all whole near_law begun told (Near e ∷ r) later is law = (
    (λ u. absurd u),
    in_all whole near_law begun told r (later ++ Near e ∷ []) (is ∙ sym (append_assoc later (Near e ∷ []) r))
        (earlier one other near far r (Near e) law),
  )
  in_all whole near_law begun told (Far x ∷ r) later is law = (
    (λ u. here whole near_law begun told r x later is law u),
    in_all whole near_law begun told r (later ++ Far x ∷ []) (is ∙ sym (append_assoc later (Far x ∷ []) r))
        (earlier one other near far r (Far x) law),
  )

pub cons_taken : (one other : Setup) (near far : Endpoint) (all : List Hop) → ChannelLaw one other near far all
    → ConsTaken other.remembered near all
cons_taken one other near far all law con begun told =
    in_all one other near far con all law.near_law begun told all [] refl law

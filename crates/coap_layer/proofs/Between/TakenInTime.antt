-- Where no datagram is late, each CON is taken in time.
use Rattle.coap_layer.specs.Trace.{Setup}
use Rattle.std.proofs.Common.{◌≡◌, ◌⊎◌, inl, inr, ⊎_elim, ℕ, ◌+◌, ◌≤◌, List, [], ◌∷◌, refl, sym}
use Rattle.std.proofs.Common.{subst, arith}
use Rattle.coap_types.specs.Past.{Ever, Always}
use Rattle.coap_types.specs.declared.endpoint.Endpoint.{Endpoint}
use Rattle.coap_types.specs.declared.transmission.TheConstants.{LAST_ARRIVAL_MS as last_arrival}
use Rattle.coap_layer.specs.Channel.{Hop, Near, Far, near_of, far_of, OnNear, OnFar, OnFarThen}
use Rattle.coap_layer.specs.Channel.{Takes}
use Rattle.coap_layer.specs.OneClock.{ChannelLaw}
use Rattle.coap_layer.specs.Machine.Calls.{IsBegun}
use Rattle.coap_layer.specs.Rows.{LayerLaw}
use Rattle.coap_layer.specs.Sends.{IsIn, packet_of, GoesAlike}
use Rattle.coap_layer.specs.Taking.{ArrivesInRoom, FewCome, ArrivesWithin, TakesWithin}
use Rattle.coap_layer.specs.Taking.{ConsTakenWithin}
use Rattle.coap_layer.specs.Trace.{Entry}
use Rattle.coap_layer.specs.Words.{clock, Open, begun}
use Rattle.coap_layer.proofs.Arrivals.RoomWhenFewCome.{has_room, few_before}
use Rattle.coap_layer.proofs.Between.TakenWhereRoom.{cons_taken}
use Rattle.coap_layer.proofs.Paced.AtOneClock.{earlier}
use Rattle.coap_layer.proofs.Out.EachGoesOut.{all_alike}
use Rattle.coap_layer.proofs.Numbers.OneEntryForAnId.{begins_of}

-- the entry that begins it
begins_at : (setup : Setup) (con : Open) (all : List Hop) → LayerLaw setup (near_of all)
    → Ever (IsBegun con) (near_of all)
    → (x : Entry) × Ever (OnNear (λ y. y ≡ x)) all × (x.at ≡ con.first) × IsIn (packet_of con) x.out
begins_at setup con [] law h = absurd h
begins_at setup con (Near e ∷ past) law (inl h) =
    let g : GoesAlike con e = (all_alike setup (e ∷ near_of past) law con).0 (inl h) in
    (e, inl refl, sym (begins_of e con h).first_is, subst (IsIn (packet_of con)) (sym g.out) (inl refl))
begins_at setup con (Near e ∷ past) law (inr h) =
    let k = begins_at setup con past law.1 h in (k.0, inr k.1, k.2, k.3)
begins_at setup con (Far e ∷ past) law h = let k = begins_at setup con past law h in (k.0, inr k.1, k.2, k.3)

module _ (one other : Setup) (near far : Endpoint) (most : ℕ) (con : Open) (short : most ≤ last_arrival) where
  -- what was taken before an entry, was taken no later
  no_later : (past : List Hop) → LayerLaw other (far_of past) → (at : ℕ) → clock (far_of past) ≤ at
      → at ≤ con.first + most → Ever (OnFar (Takes near con)) past → Ever (OnFar (TakesWithin most near con)) past
  no_later [] law at le till h = absurd h
  no_later (Near e ∷ past) law at le till (inl h) = absurd h
  no_later (Near e ∷ past) law at le till (inr h) = inr (no_later past law at le till h)
  no_later (Far e ∷ past) law at le till (inl h) = inl (record { takes = h; soon = omega (arith, le, till) })
  no_later (Far e ∷ past) law at le till (inr h) =
      let time : clock (far_of past) ≤ e.at = law.0.time in
      inr (no_later past law.1 at (omega (arith, time, le)) till h)

  -- where it arrives
  at_arrival : (all : List Hop) → ChannelLaw one other near far all
      → Always (λ past h. OnFarThen (ArrivesInRoom other.remembered near con) past h
      → OnFar (Takes near con) h ⊎ Ever (OnFar (Takes near con)) past) all → FewCome other.remembered (far_of all)
      → Ever (OnFar (ArrivesWithin most near con.bytes con.first)) all → Ever (OnFar (TakesWithin most near con)) all
  at_arrival [] law taken few h = absurd h
  at_arrival (Near e ∷ past) law taken few (inl h) = absurd h
  at_arrival (Near e ∷ past) law taken few (inr h) =
      inr (at_arrival past (earlier one other near far past (Near e) law) taken.1 few h)
  at_arrival (Far e ∷ past) law taken few (inl h) =
      let till = h.till in
      ⊎_elim (λ t. inl (record { takes = t; soon = till }))
      (λ t. inr (no_later past law.far_law.1 e.at law.far_law.0.time till t)) (taken.0 (record {
        call = h.call;
        from = h.from;
        till = omega (arith, till, short);
        room = has_room other other.remembered (far_of past) law.far_law.1
            (few_before other.remembered e (far_of past) few) e.at law.far_law.0.time;
      }))
  at_arrival (Far e ∷ past) law taken few (inr h) =
      inr (at_arrival past (earlier one other near far past (Far e) law) taken.1
      (few_before other.remembered e (far_of past) few) h)

pub cons_taken_within : (one other : Setup) (near far : Endpoint) (all : List Hop) → ChannelLaw one other near far all
    → ConsTakenWithin other.remembered near far all
cons_taken_within one other near far all law most now con short prompt few begun to told late =
    let b = begins_at one con all law.near_law begun in
    let at = b.2 in
    at_arrival one other near far most con short all law (cons_taken one other near far all law con begun told) few
    (subst (λ (t : ℕ). Ever (OnFar (ArrivesWithin most near con.bytes t)) all) b.2 (prompt b.0 con.bytes b.1
    (subst (λ (f : Endpoint). IsIn (record { to = f; bytes = con.bytes }) b.0.out) to b.3) (omega (arith, at, late))))

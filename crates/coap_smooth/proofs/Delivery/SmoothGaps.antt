-- The events of a run in which both ends tick each 1,000 ms follow each other closely; and the run in which a POST
-- times out is not smooth: its last datagram comes late, and did not come before.
use Rattle.std.proofs.Common.{◌≡◌, inl, inr, ⊎_elim, ℕ, ◌+◌, ◌≤◌, List, [], ◌∷◌, map, ap, subst, arith}
use Rattle.coap_types.specs.Past.{Ever, Always, all_of}
use Rattle.coap_types.proofs.Facts.Traces.{Ever_map, Ever_of_Sometime}
use Rattle.coap_record.specs.Events.{Event, Deliver, TickClient, usual_addresses}
use Rattle.coap_record.specs.Legal.{AllLegal, MayCome}
use Rattle.coap_record.specs.LegalEvents.{event}
use Rattle.coap_promise.specs.LegalRuns.{config, times_out}
use Rattle.coap_record.specs.Record.{Turn, given_in}
use Rattle.coap_smooth.specs.Smooth.{max_age, GoesSmoothly, TicksOften}
use Rattle.coap_smooth.specs.SmoothGaps.{AreClose, TimesOutRoughly}
use Rattle.coap_promise.proofs.Facts.Delivery.GivenOutBefore.{not_later}
use Rattle.coap_record.specs.declared.addresses.Addresses.{Addresses}

abbrev IsYoung : ℕ → Turn → Type 0
IsYoung at turn = at ≤ turn.event.at + max_age

-- the newest is the youngest
youngest : (addresses : Addresses) (at : ℕ) (turn : Turn) (past : List Turn) → AllLegal addresses (turn ∷ past)
    → Ever (IsYoung at) (turn ∷ past)
    → at ≤ turn.event.at + max_age
youngest addresses at turn past legal (inl h) = h
youngest addresses at turn [] legal (inr h) = absurd h
youngest addresses at turn (older ∷ past) legal (inr h) =
    let k = youngest addresses at older past legal.1 h in let later = legal.0.later in omega (arith, k, later)

pub are_close : (addresses : Addresses) (turns : List Turn) → AllLegal addresses turns → TicksOften turns
    → AreClose (map (λ (t : Turn). t.event) turns)
are_close addresses [] legal often = tt
are_close addresses (turn ∷ []) legal often = (tt, tt)
are_close addresses (turn ∷ older ∷ past) legal often = (
  ⊎_elim (λ h. youngest addresses turn.event.at older past legal.1
      (Ever_map _ (IsYoung turn.event.at) (λ t k. k.1) (older ∷ past) h)) (λ h. h.0) often.0.0,
  are_close addresses (older ∷ past) legal.1 often.1,
)

abbrev Delivers : Event → Type 0
Delivers e = e.what ≡ Deliver 4

-- the events before that delivery
abbrev before_it : List Event → List Event
before_it [] = []
before_it (e ∷ past) = past

none_before : Ever Delivers (before_it times_out) → ⊥
none_before (inl h) = cc h
none_before (inr (inl h)) = cc h
none_before (inr (inr (inl h))) = cc h
none_before (inr (inr (inr (inl h)))) = cc h
none_before (inr (inr (inr (inr (inl h))))) = cc h
none_before (inr (inr (inr (inr (inr (inl h)))))) = cc h
none_before (inr (inr (inr (inr (inr (inr (inl h))))))) = cc h
none_before (inr (inr (inr (inr (inr (inr (inr (inl h)))))))) = cc h
none_before (inr (inr (inr (inr (inr (inr (inr (inr h)))))))) = h

in_events : (us : List Turn) → Ever (λ (t : Turn). t.event.what ≡ Deliver 4) us
    → Ever Delivers (map (λ (t : Turn). t.event) us)
in_events [] h = h
in_events (u ∷ us) (inl h) = inl h
in_events (u ∷ us) (inr h) = inr (in_events us h)

not_smooth : (turns : List Turn) → map (λ (t : Turn). t.event) turns ≡ times_out → AllLegal usual_addresses turns
    → Always (GoesSmoothly config) turns → ⊥
not_smooth [] is legal goes = cc is
not_smooth (turn ∷ []) is legal goes = let rest : [] ≡ before_it times_out = ap before_it is in cc rest
not_smooth (turn ∷ last ∷ past) is legal goes =
    let event_is : turn.event ≡ event 130000 (Deliver 4) = cc is in
    let rest : map (λ (t : Turn). t.event) (last ∷ past) ≡ before_it times_out = ap before_it is in
    let last_is : last.event ≡ event 62000 TickClient = cc rest in
    let at : turn.event.at ≡ 130000 = ap (λ (e : Event). e.at) event_is in
    let then : last.event.at ≡ 62000 = ap (λ (e : Event). e.at) last_is in
    let comes : MayCome usual_addresses (last ∷ past) turn.event.at (Deliver 4) =
    subst (MayCome usual_addresses (last ∷ past) turn.event.at) (ap (λ (e : Event). e.what) event_is) legal.0.comes in
    let early = not_later usual_addresses (last ∷ past) last.event.at comes.0 legal.1 (omega arith)
    (Ever_of_Sometime _ (λ h. h ≡ comes.0) (λ b h k. inl k.0) (all_of (given_in usual_addresses) (last ∷ past))
    comes.1) in
    none_before (subst (Ever Delivers) rest
    (in_events (last ∷ past)
    (goes.0.in_time 4 comes.0 comes.1 comes.2 (omega (arith, at, then, early)))))

pub times_out_roughly : TimesOutRoughly
times_out_roughly given run smooth = not_smooth run.turns run.made.events_are run.legal.events smooth.goes

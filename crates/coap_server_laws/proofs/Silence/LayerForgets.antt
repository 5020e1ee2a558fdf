-- A message layer remembers nothing of a peer from which nothing has come for EXCHANGE_LIFETIME.
use Rattle.std.proofs.Common.{◌≡◌, ◌≤◌, ◌<◌, ◌⊎◌, inl, inr, ℕ, ◌+◌, Bool, true, false, Option, Some, None, List}
use Rattle.std.proofs.Common.{[], ◌∷◌, ◌++◌, filter, map, refl, sym, subst, cond, arith, if◌then◌else◌}
use Rattle.std.proofs.lemmas.Bool.{leb-true}
use Rattle.coap_types.specs.declared.endpoint.Endpoint.{Endpoint}
use Rattle.coap_types.specs.declared.transmission.TheConstants.{EXCHANGE_LIFETIME_MS as exchange_lifetime}
use Rattle.coap_codec.specs.Message.{Message}
use Rattle.coap_layer.specs.Machine.State as S
use Rattle.coap_layer.specs.Machine.State.{Arrived}
use Rattle.coap_layer.specs.Machine.Steps.{Asked, Steps}
use Rattle.coap_layer.specs.Trace as L
use Rattle.coap_layer.specs.Words.{Incoming, from_there, kept_by, reply_in, taken, taken_in}
use Rattle.coap_block.specs.Whole.{Each}
use Rattle.coap_server.proofs.Facts.Calls.EachOf.{each_join, each_kept, each_map}
use Rattle.coap_server_laws.proofs.Silence.LayerApart.{Else}

-- each of those that are kept passes the test
each_passes : {X : Type 0} (p : X → Bool) (xs : List X) → Each (λ x. p x ≡ true) (filter p xs)
each_passes p [] = tt
each_passes p (x ∷ xs) = by (p x) refl (each_passes p xs)
  where
    by : (b : Bool) → p x ≡ b → Each (λ y. p y ≡ true) (filter p xs)
        → Each (λ y. p y ≡ true) (cond b (x ∷ filter p xs) (filter p xs))
    by true e k = (e, k)
    by false e k = k

module _ (peer : Endpoint) (since : ℕ) where
  -- the call brings nothing from the peer
  abbrev pub HeardElse : L.Call → Type 0
  HeardElse (L.Receive from bytes) = Else peer from
  HeardElse _ = Unit {0}

  -- it is another's, or came no later than then
  abbrev IsOld : Arrived → Type 0
  IsOld a = Else peer a.from ⊎ (a.at ≤ since)

  abbrev pub AreOld : S.State → Type 0
  AreOld s = Each IsOld s.arrived

  stored_old : (e : L.Entry) (a : Arrived) → IsOld a → IsOld (S.stores e a)
  stored_old e a k = by (reply_in a.from a.id e.call)
    where
      by : (o : Option (List ℕ))
          → IsOld (elim o [ Some bytes ↦ record a { reply = if a.con then Some bytes else None } | None ↦ a ])
      by None = k
      by (Some bytes) = k

  newly_old : (at : ℕ) (call : L.Call) (answer : L.Answer) → HeardElse call
      → Each IsOld (S.newly at (taken_in call answer))
  newly_old at (L.Receive from bytes) answer e = by (kept_by answer)
    where
      by : (o : Option Message) → Each IsOld (S.newly at (from_there from o))
      by None = tt
      by (Some m) = (inl e, tt)
  newly_old at _ answer e = tt

  step_old : (old new : S.State) (now : ℕ) (call : L.Call) (answer : L.Answer) → S.Step old now call answer new
      → HeardElse call → AreOld old → AreOld new
  step_old old new now call answer step e k =
      let m : L.Entry = S.made old now call in
      let all : Each IsOld (map (S.stores m) old.arrived ++ S.newly m.at (taken m)) =
      each_join IsOld (map (S.stores m) old.arrived) (S.newly m.at (taken m))
      (each_map IsOld (S.stores m) (λ a o. stored_old m a o) old.arrived k) (newly_old m.at m.call m.answer e) in
      let left : AreOld (S.forgotten (S.after old m)) =
      each_kept IsOld (S.is_live m.at) (map (S.stores m) old.arrived ++ S.newly m.at (taken m)) all in
      subst AreOld (sym step.new_is) left

  pub steps_old : (old new : S.State) (calls : List Asked) → Steps old calls new
      → Each (λ (a : Asked). HeardElse a.call) calls → AreOld old → AreOld new
  steps_old old new [] h e k = subst AreOld (sym h) k
  steps_old old new (a ∷ earlier) h e k =
      step_old h.0 new a.now a.call a.answer h.2 e.0 (steps_old old h.0 earlier h.1 e.1 k)

  -- what is remembered is live
  abbrev pub AreLive : S.State → Type 0
  AreLive s = Each (λ a. S.is_live s.clock a ≡ true) s.arrived

  pub steps_live : (old new : S.State) (calls : List Asked) → Steps old calls new → AreLive old → AreLive new
  steps_live old new [] h k = subst AreLive (sym h) k
  steps_live old new (a ∷ earlier) h k =
      let m : L.Entry = S.made h.0 a.now a.call in
      let left : AreLive (S.forgotten (S.after h.0 m)) =
      each_passes (S.is_live m.at) (map (S.stores m) h.0.arrived ++ S.newly m.at (taken m)) in
      subst AreLive (sym h.2.new_is) left

  -- .. so nothing is of the peer
  pub none_left : (clock : ℕ) (xs : List Arrived) → since + exchange_lifetime < clock
      → Each IsOld xs → Each (λ a. S.is_live clock a ≡ true) xs → Each (λ (a : Arrived). Else peer a.from) xs
  none_left clock [] late k l = tt
  none_left clock (a ∷ xs) late k l = (by k.0, none_left clock xs late k.1 l.1)
    where
      by : IsOld a → Else peer a.from
      by (inl e) = e
      by (inr at) = let young = leb-true clock (a.at + exchange_lifetime) l.0 in absurd (omega (arith, late, at, young))

-- all that a layer has was remembered by its moment

abbrev pub AreBehind : S.State → Type 0
AreBehind s = Each (λ (a : Arrived). a.at ≤ s.clock) s.arrived

later_moment : (s : S.State) (now : ℕ) (call : L.Call) → s.clock ≤ S.moment s now call
later_moment s now (L.Reply to id bytes) = omega arith
later_moment s now (L.Settle to id) = omega arith
later_moment s now L.Take = omega arith
later_moment s now _ = omega arith

abbrev CameBy : ℕ → Arrived → Type 0
CameBy to a = a.at ≤ to

still_behind : (from to : ℕ) (e : L.Entry) (xs : List Arrived) → from ≤ to
    → Each (λ (a : Arrived). a.at ≤ from) xs → Each (λ (a : Arrived). a.at ≤ to) (map (S.stores e) xs)
still_behind from to e [] less k = tt
still_behind from to e (a ∷ xs) less k =
    (by (reply_in a.from a.id e.call), still_behind from to e xs less k.1)
  where
    by : (o : Option (List ℕ))
        → CameBy to (elim o [ Some bytes ↦ record a { reply = if a.con then Some bytes else None } | None ↦ a ])
    by None = let at = k.0 in omega (arith, less, at)
    by (Some bytes) = let at = k.0 in omega (arith, less, at)

newly_behind : (at : ℕ) (o : Option Incoming) → Each (λ (a : Arrived). a.at ≤ at) (S.newly at o)
newly_behind at None = tt
newly_behind at (Some m) = (omega arith, tt)

step_behind : (old new : S.State) (now : ℕ) (call : L.Call) (answer : L.Answer) → S.Step old now call answer new
    → AreBehind old → AreBehind new
step_behind old new now call answer step k =
    let m : L.Entry = S.made old now call in
    let all : Each (λ (a : Arrived). a.at ≤ m.at) (map (S.stores m) old.arrived ++ S.newly m.at (taken m)) =
    each_join (λ (a : Arrived). a.at ≤ m.at) (map (S.stores m) old.arrived) (S.newly m.at (taken m))
    (still_behind old.clock m.at m old.arrived (later_moment old now call) k) (newly_behind m.at (taken m)) in
    let left : AreBehind (S.forgotten (S.after old m)) =
    each_kept (λ (a : Arrived). a.at ≤ m.at) (S.is_live m.at)
    (map (S.stores m) old.arrived ++ S.newly m.at (taken m)) all in
    subst AreBehind (sym step.new_is) left

pub steps_behind : (old new : S.State) (calls : List Asked) → Steps old calls new → AreBehind old → AreBehind new
steps_behind old new [] h k = subst AreBehind (sym h) k
steps_behind old new (a ∷ earlier) h k =
    step_behind h.0 new a.now a.call a.answer h.2 (steps_behind old h.0 earlier h.1 k)

-- what came by a moment
pub old_then : (peer : Endpoint) (since : ℕ) (xs : List Arrived) → Each (λ (a : Arrived). a.at ≤ since) xs
    → Each (λ (a : Arrived). Else peer a.from ⊎ (a.at ≤ since)) xs
old_then peer since [] k = tt
old_then peer since (a ∷ xs) k = (inr k.0, old_then peer since xs k.1)

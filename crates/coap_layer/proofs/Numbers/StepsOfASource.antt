-- What each call leaves of a source.
use Rattle.std.proofs.Common.{◌≡◌, ◌≢◌, ℕ, ◌+◌, ◌/◌, ◌%◌, ◌<◌, ◌==◌, max, Option, Some, Bool, true, false, List}
use Rattle.std.proofs.Common.{[], ◌∷◌, length, refl, ap, sym, ◌∙◌, subst, arith, cond, slice_get, slice_set, zero, suc}
use Rattle.std.proofs.lemmas.Bool.Decides.{nat_tests}
use Rattle.std.proofs.lemmas.Option.{slice_get_within}
use Rattle.coap_types.specs.declared.message.Id.{Id}
use Rattle.coap_layer.specs.Ids.{Issued, last_use, MayGive, Withholds, IdEntry, clock, numbers, IdRow, IsFree}
use Rattle.coap_layer.specs.Machine.IdState.{IdState, AreUses, Led, next_entry, free_entry}
use Rattle.coap_layer.specs.declared.message_id.TheConstants.{GROUP_SIZE as group_size}
use Rattle.coap_types.specs.declared.message.TheConstants.{MESSAGE_IDS as message_ids}

get_set : {X : Type 0} (xs : List X) (i : ℕ) (w : X) → i < length xs → slice_get (slice_set xs i w) i ≡ Some w
get_set [] i w h = absurd (omega (arith, h))
get_set (x ∷ xs) zero w h = refl
get_set (x ∷ xs) (suc i) w h = get_set xs i w (omega (arith, h))

get_other : {X : Type 0} (xs : List X) (i j : ℕ) (w : X) → j ≢ i → slice_get (slice_set xs i w) j ≡ slice_get xs j
get_other [] i j w h = refl
get_other (x ∷ xs) zero zero w h = absurd (h refl)
get_other (x ∷ xs) zero (suc j) w h = refl
get_other (x ∷ xs) (suc i) zero w h = refl
get_other (x ∷ xs) (suc i) (suc j) w h = get_other xs i j w (λ e. h (ap suc e))

-- a number more
pub uses_more : (past : List Issued) (uses : List (Option ℕ)) (g : Issued) → g.id < 65536 → AreUses past uses
    → AreUses (g ∷ past) (slice_set uses (g.id / group_size) (Some g.at))
uses_more past uses g small h group le = go (g.id / group_size == group) refl
  where
    go : (b : Bool) → (g.id / group_size == group) ≡ b
        → slice_get (slice_set uses (g.id / group_size) (Some g.at)) group
        ≡ Some (cond b (Some g.at) (last_use past group))
    go true k =
        let same : g.id / group_size ≡ group = grind (arith, nat_tests, k) in
        subst (λ (x : ℕ). slice_get (slice_set uses (g.id / group_size) (Some g.at)) x ≡ Some (Some g.at)) same
        (get_set uses (g.id / group_size) (Some g.at)
        (slice_get_within uses (g.id / group_size) _ (h (g.id / group_size) (omega (arith, small)))))
    go false k = get_other uses (g.id / group_size) group (Some g.at) (λ e. absurd (grind (arith, nat_tests, k, e)))
        ∙ h group le

pub free_led : (word : ℕ) (t : List IdEntry) (s : IdState) (now : ℕ) (b : Bool) → Led word t s
    → (b ≡ true → MayGive word (numbers t) (max s.clock now))
    → (b ≡ false → Withholds word (numbers t) (max s.clock now))
    → Led word (free_entry t now b ∷ t) (record s { clock = max s.clock now })
free_led word t s now b led may held = record {
  law = (record { time = omega arith; row = go b may held }, led.law);
  kept = record {
    clock = ap (λ (x : ℕ). max x now) led.kept.clock;
    upcoming = led.kept.upcoming;
    last_used = led.kept.last_used;
  };
}
  where
    go : (b : Bool) → (b ≡ true → MayGive word (numbers t) (max s.clock now))
        → (b ≡ false → Withholds word (numbers t) (max s.clock now))
        → IdRow word (numbers t) (max (clock t) now) (IsFree b)
    go true may held = subst (λ (x : ℕ). MayGive word (numbers t) (max x now)) led.kept.clock (may refl)
    go false may held = subst (λ (x : ℕ). Withholds word (numbers t) (max x now)) led.kept.clock (held refl)

pub next_led : (word : ℕ) (t : List IdEntry) (s : IdState) (now : ℕ) → s.upcoming < message_ids → Led word t s
    → MayGive word (numbers t) (max s.clock now)
    → Led word (next_entry t now (Some (record { 0 = s.upcoming })) ∷ t)
    (record {
      clock = max s.clock now;
      upcoming = (s.upcoming + 1) % message_ids;
      last_used = slice_set s.last_used (s.upcoming / group_size) (Some (max s.clock now));
    })
next_led word t s now small led may = record {
  law = (
    record {
      time = omega arith;
      row = record {
        next = led.kept.upcoming;
        may = subst (λ (x : ℕ). MayGive word (numbers t) (max x now)) led.kept.clock may;
      };
    },
    led.law,
  );
  kept = record {
    clock = ap (λ (x : ℕ). max x now) led.kept.clock;
    upcoming = refl;
    last_used = subst (λ (x : ℕ). AreUses (record { at = max (clock t) now; id = s.upcoming } ∷ numbers t)
        (slice_set s.last_used (s.upcoming / group_size) (Some (max x now)))) (sym led.kept.clock)
        (uses_more (numbers t) s.last_used (record { at = max (clock t) now; id = s.upcoming }) small
        led.kept.last_used);
  };
}

-- the same, by what a number's giving leaves
pub gave_led : (word : ℕ) (t : List IdEntry) (s new : IdState) (now at : ℕ) (id : Id) → at ≡ max s.clock now
    → s.upcoming < message_ids → Led word t s → MayGive word (numbers t) at
    → id.0 ≡ s.upcoming → new ≡ record {
      clock = at;
      upcoming = (s.upcoming + 1) % message_ids;
      last_used = slice_set s.last_used (s.upcoming / group_size) (Some at);
    }
    → Led word (next_entry t now (Some id) ∷ t) new
gave_led word t s new now at id moment small led may is new_is =
    rw (new_is, moment, is) (next_led word t s now small led (subst (λ (x : ℕ). MayGive word (numbers t) x) moment may))

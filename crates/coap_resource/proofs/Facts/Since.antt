-- How far a version has gone since it was made.
use Rattle.std.proofs.Common.{◌≡◌, ◌≢◌, ◌⊎◌, inl, inr, ◌≤◌, ◌<◌, ℕ, Bool, true, false, ◌+◌, ◌*◌, ◌==◌, max, Some, None}
use Rattle.std.proofs.Common.{refl, arith, if◌then◌else◌}
use Rattle.std.proofs.lemmas.Grind.{common_steps}
use Rattle.coap_resource.specs.Rate.{Tally, counted, rate_refusal, used, waited, window}
use Rattle.coap_resource.specs.Since.{IsMade, IsSince, RisesLittle, StaysSince}

room : (t : Tally) (at : ℕ) → rate_refusal t at ≡ None → used t at < t.limits.changes
room t at none = grind (arith, common_steps)

same_by : (m n : ℕ) → (m == n) ≡ true → m ≡ n
same_by m n h = search arith

other_by : (m n : ℕ) → (m == n) ≡ false → m ≢ n
other_by m n h = search arith

-- what the window has taken, where it is still that of the last moment, and where it is a later one
used_cases : (t : Tally) (now : ℕ)
    → ((window (max t.clock now) ≡ window t.clock) × (used t now ≡ t.changes))
    ⊎ ((window t.clock < window (max t.clock now)) × (used t now ≡ 0))
used_cases t now = by (window (max t.clock now) == window t.clock) refl
  where
    by : (b : Bool) → (window (max t.clock now) == window t.clock) ≡ b
        → ((window (max t.clock now) ≡ window t.clock) × ((if b then t.changes else 0) ≡ t.changes))
        ⊎ ((window t.clock < window (max t.clock now)) × ((if b then t.changes else 0) ≡ 0))
    by true e = inl (same_by (window (max t.clock now)) (window t.clock) e, refl)
    by false e = let ne = other_by (window (max t.clock now)) (window t.clock) e in inr (omega (arith, ne), refl)

few_used : (t : Tally) (now : ℕ) → t.changes ≤ t.limits.changes → used t now ≤ t.limits.changes
few_used t now few = elim (used_cases t now) [
  | inl k ↦ (let e = k.1 in omega (arith, e, few))
  | inr k ↦ (let e = k.1 in omega (arith, e))
]

-- the same window, or a later one: no version is made, or one
module _ (version moment : ℕ) (t : Tally) (now : ℕ) (s : IsSince version moment t) where
  abbrev at : ℕ
  at = max t.clock now

  here_kept : window at ≡ window moment → t.version ≤ version + used t now
  here_kept h = elim (used_cases t now) [
    | inl k ↦ (let w = k.0 in let e = k.1 in let old = s.here (omega (arith, w, h)) in omega (arith, e, old))
    | inr k ↦ (let w = k.0 in let f = s.from in absurd (omega (arith, w, h, f)))
  ]

  next_kept : window at ≡ window moment + 1 → t.version ≤ version + (t.limits.changes + used t now)
  next_kept h = elim (used_cases t now) [
    | inl k ↦ (let w = k.0 in let e = k.1 in let old = s.next (omega (arith, w, h)) in omega (arith, e, old))
    | inr k ↦ (
        let w = k.0 in
        let e = k.1 in
        let f = s.from in
        let few = s.few in
        let old = s.here (omega (arith, w, h, f)) in
        omega (arith, e, old, few)
        )
  ]

  waits : IsSince version moment (waited t now)
  waits = record {
    from = (let f = s.from in omega (arith, f));
    few = few_used t now s.few;
    here = here_kept;
    next = next_kept;
  }

  counts : rate_refusal t now ≡ None → IsSince version moment (counted t now)
  counts none =
      let free = room t now none in
      record {
        from = (let f = s.from in omega (arith, f));
        few = omega (arith, free);
        here = λ h. (let k = here_kept h in omega (arith, k));
        next = λ h. (let k = next_kept h in omega (arith, k));
      }

pub stays_since : StaysSince
stays_since version moment t now s = (waits version moment t now s, counts version moment t now s)

pub is_made : IsMade
is_made t now none =
    let free = room t now none in
    record {
      from = omega arith;
      few = omega (arith, free);
      here = λ h. omega arith;
      next = λ h. absurd (omega (arith, h));
    }

window_near : (from m : ℕ) → from ≤ m → m ≤ from + 256000 → (window m ≡ window from) ⊎ (window m ≡ window from + 1)
window_near from m low high = by (window m == window from) refl
  where
    by : (b : Bool) → (window m == window from) ≡ b → (window m ≡ window from) ⊎ (window m ≡ window from + 1)
    by true e = inl (same_by (window m) (window from) e)
    by false e = let ne = other_by (window m) (window from) e in inr (omega (arith, low, high, ne))

pub rises_little : RisesLittle
rises_little version moment t s till = elim (window_near moment t.clock s.from till) [
  | inl w ↦ (let k = s.here w in let few = s.few in omega (arith, k, few))
  | inr w ↦ (let k = s.next w in let few = s.few in omega (arith, k, few))
]

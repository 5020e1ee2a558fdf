-- What a tally has counted are the changes among the calls, and any 256 s hold at most twice the changes that a window
-- takes.
use Rattle.std.proofs.Common.{◌≡◌, ◌≢◌, ◌≤◌, ◌<◌, ℕ, Bool, true, false, ◌&&◌, ◌+◌, ◌==◌, ◌∙◌, max, ◌↔◌, List, [], ◌∷◌}
use Rattle.std.proofs.Common.{refl, sym, ap, arith, Some, None, if◌then◌else◌, leb}
use Rattle.std.proofs.lemmas.Grind.{common_steps}
use Rattle.coap_resource.specs.Limits.{Limits}
use Rattle.coap_resource.specs.Rate.{Tally, window, used, rate_refusal, waited, counted}
use Rattle.coap_resource.specs.Content.{Content, nothing}
use Rattle.coap_resource.specs.declared.refusal.StoreRefusal.TheVariants.{RateExceeded, VersionsSpent}
use Rattle.coap_resource.specs.RateLaw.{Goes, Leads, last, changes_between, changes_in, CountLaw, ExceededLaw, RateLaw}

-- what a tally says of the calls
pub record Counts (limit : ℕ) (calls : List (ℕ × Bool)) (t : Tally) : Type 0 where
  pub clock : t.clock ≡ last calls
  pub limited : t.limits.changes ≡ limit
  pub now : t.changes ≡ changes_in (window (last calls)) calls
  pub each : (w : ℕ) → changes_in w calls ≤ limit
  pub ahead : (w : ℕ) → window (last calls) < w → changes_in w calls ≡ 0

later_window : (m n : ℕ) → m ≤ n → window m ≢ window n → window m < window n
later_window m n le ne = omega arith

near : (from m : ℕ) → from ≤ m → m ≤ from + 256000 → window m ≢ window from → window m ≡ window from + 1
near from m low high ne = omega arith

same_by : (m n : ℕ) → (m == n) ≡ true → m ≡ n
same_by m n h = search arith

other_by : (m n : ℕ) → (m == n) ≡ false → m ≢ n
other_by m n h = search arith

self_same : (n : ℕ) → (n == n) ≡ true
self_same n = search arith

used_by : (b : Bool) (changes k : ℕ) → (b ≡ true → changes ≡ k) → (b ≡ false → 0 ≡ k) → (if b then changes else 0) ≡ k
used_by true changes k same other = same refl
used_by false changes k same other = other refl

used_is : (limit : ℕ) (past : List (ℕ × Bool)) (t : Tally) (at : ℕ) → Counts limit past t
    → used t at ≡ changes_in (window (max (last past) at)) past
used_is limit past t at counts =
    rw counts.clock (used_by (window (max (last past) at) == window (last past)) t.changes _
    (λ e. counts.now ∙ ap (λ w. changes_in w past) (sym (same_by (window (max (last past) at)) (window (last past)) e)))
    (λ e. let ne = other_by (window (max (last past) at)) (window (last past)) e in
    sym (counts.ahead _ (later_window (last past) (max (last past) at) (omega arith) (λ same. ne (sym same))))))

room : (t : Tally) (at : ℕ) → rate_refusal t at ≡ None → used t at < t.limits.changes
room t at none = grind (arith, common_steps)

start : (limits : Limits) → Counts limits.changes [] (nothing limits).tally
start limits = record { clock = refl; limited = refl; now = refl; each = λ w. omega arith; ahead = λ w h. refl }

waits : (limit : ℕ) (past : List (ℕ × Bool)) (t : Tally) (at : ℕ) → Counts limit past t
    → Counts limit ((at, false) ∷ past) (waited t at)
waits limit past t at counts = record {
  clock = ap (λ c. max c at) counts.clock;
  limited = counts.limited;
  now = omega (arith, used_is limit past t at counts);
  each = λ w. omega (arith, counts.each w);
  ahead = λ w h. omega (arith, counts.ahead w (omega arith));
}

one_more : (b : Bool) (n limit : ℕ) → (b ≡ true → n < limit) → n ≤ limit → (if b then 1 else 0) + n ≤ limit
one_more true n limit room most = omega (arith, room refl)
one_more false n limit room most = omega arith

no_more : (b : Bool) (n : ℕ) → b ≡ false → n ≡ 0 → (if b then 1 else 0) + n ≡ 0
no_more b n none zero = rw none (omega arith)

apart : (m n : ℕ) → m < n → (m == n) ≡ false
apart m n h = search arith

adds : (limit : ℕ) (past : List (ℕ × Bool)) (t : Tally) (at : ℕ) → used t at < t.limits.changes → Counts limit past t
    → Counts limit ((at, true) ∷ past) (counted t at)
adds limit past t at room counts =
    let m : ℕ = max (last past) at in
    let was : used t at ≡ changes_in (window m) past = used_is limit past t at counts in
    let limited : t.limits.changes ≡ limit = counts.limited in
    record {
      clock = ap (λ c. max c at) counts.clock;
      limited = limited;
      now = rw (self_same (window m)) (omega (arith, was));
      each = λ w. one_more (window m == w) (changes_in w past) limit
          (λ e. let same = same_by (window m) w e in let here =
          ap (λ v. changes_in v past) same in omega (arith, was, here, room, limited))
          (counts.each w);
      ahead = λ w h. no_more (window m == w) (changes_in w past) (apart (window m) w h)
          (counts.ahead w (omega (arith, h)));
    }

goes : (limit : ℕ) (past : List (ℕ × Bool)) (changed : Bool) (old new : Content) (at : ℕ) → Counts limit past old.tally
    → Goes changed old at new → Counts limit ((at, changed) ∷ past) new.tally
goes limit past true old new at counts step =
    let tally = step.1.2.tally in rw tally (adds limit past old.tally at (room old.tally at step.0) counts)
goes limit past false old new at counts step =
    let tally = ap (λ (s : Content). s.tally) step in rw tally (waits limit past old.tally at counts)

leads : (limits : Limits) (calls : List (ℕ × Bool)) (s : Content) → Leads limits calls s
    → Counts limits.changes calls s.tally
leads limits [] s led = let tally = ap (λ (s : Content). s.tally) led in rw tally (start limits)
leads limits (call ∷ past) s led =
    goes limits.changes past call.1 led.0 s call.0 (leads limits past led.0 led.1.0) led.1.1

covered : (a b c : Bool) → (a ≡ true → b ≡ false → c ≡ true)
    → (if a then 1 else 0) ≤ (if b then 1 else 0) + (if c then 1 else 0)
covered true true c h = omega arith
covered true false c h = rw (h refl refl) (omega arith)
covered false b c h = omega arith

both : (a b : Bool) → (a && b) ≡ true → (a ≡ true) × (b ≡ true)
both true b h = (refl, h)
both false b h = absurd (cc)

equal_is : (m n : ℕ) → m ≡ n → (m == n) ≡ true
equal_is m n h = search arith

at_most : (m n : ℕ) → leb m n ≡ true → m ≤ n
at_most m n h = search arith

one : (c : Bool) (from m : ℕ)
    → (if c && (leb from m && leb m (from + 256000)) then 1 else 0)
    ≤ (if c && (window m == window from) then 1 else 0) + (if c && (window m == window from + 1) then 1 else 0)
one false from m = omega arith
one true from m = covered (leb from m && leb m (from + 256000)) (window m == window from) (window m == window from + 1)
    (λ within other. let b = both (leb from m) (leb m (from + 256000)) within in
    equal_is (window m) (window from + 1)
    (near from m (at_most from m b.0) (at_most m (from + 256000) b.1) (other_by (window m) (window from) other)))

spread : (from : ℕ) (calls : List (ℕ × Bool))
    → changes_between from (from + 256000) calls ≤ changes_in (window from) calls + changes_in (window from + 1) calls
spread from [] = omega arith
spread from (call ∷ past) = omega (arith, one call.1 from (last (call ∷ past)), spread from past)

pub rate : RateLaw
rate limits calls s led from =
    let counts = leads limits calls s led in
    omega (arith, spread from calls, counts.each (window from), counts.each (window from + 1))

pub count : CountLaw
count limits calls s led now = used_is limits.changes calls s.tally now (leads limits calls s led)

full_by : (b c : Bool) → (if b then Some RateExceeded else if c then Some VersionsSpent else None) ≡ Some RateExceeded
    → b ≡ true
full_by true c h = refl
full_by false true h = absurd cc
full_by false false h = absurd cc

as_test : (m n : ℕ) → m ≤ n → leb m n ≡ true
as_test m n h = search arith

-- the window is full where so many changes were counted in it
full : (t : Tally) (at : ℕ) → (rate_refusal t at ≡ Some RateExceeded) ↔ (t.limits.changes ≤ used t at)
full t at = (
  λ h. at_most t.limits.changes (used t at) (full_by (leb t.limits.changes (used t at))
      (leb 18446744073709551615 t.version) h),
  λ h. let most = as_test t.limits.changes (used t at) h in rw most refl,
)

pub exceeded : ExceededLaw
exceeded limits calls s led now =
    let counts = leads limits calls s led in
    let was = used_is limits.changes calls s.tally now counts in
    let each = counts.each (window (max (last calls) now)) in
    let limited = counts.limited in
    let iff = full s.tally now in
    (λ h. omega (arith, iff.0 h, was, each, limited), λ h. iff.1 (omega (arith, h, was, limited)))

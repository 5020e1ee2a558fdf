-- The first moment at which a CON has a step, and one of several.
use Rattle.std.proofs.Common.{◌≡◌, ◌≢◌, ℕ, ◌+◌, ◌-◌, ◌*◌, ◌≤◌, ◌<◌, ◌^◌, nat_le, nat_lt, Bool, true, false, Option}
use Rattle.std.proofs.Common.{Some}
use Rattle.std.proofs.Common.{None, List, [], ◌∷◌, ◌++◌, take, length, refl, ap, sym, ◌∙◌, ◌&&◌, ◌||◌, arith, subst}
use Rattle.std.proofs.Common.{get_or, add-one, max, IfNone, IfSome}
use Rattle.std.proofs.lemmas.List.{append-nil}
use Rattle.std.proofs.Math.Seq.{take-suc}
use Rattle.std.proofs.lemmas.Bool.Decides.{nat_tests}
use Rattle.std.proofs.lemmas.List.Folds.{list_any-append}
use Rattle.std.specs.List.{list_any}
use Rattle.coap_types.specs.declared.endpoint.Moment.{Moment}
use Rattle.coap_types.specs.declared.transmission.TheConstants.{LAST_RETRANSMISSION_MS as last_retransmission}
use Rattle.coap_types.specs.declared.transmission.TheConstants.{MAX_RETRANSMIT as max_retransmit}
use Rattle.coap_layer.specs.BackOff.{factors}
use Rattle.coap_types.specs.FirstMoment.{IsFirstMoment}
use Rattle.coap_layer.specs.Trace.{Idle}
use Rattle.coap_layer.specs.Words.{Open}
use Rattle.coap_layer.specs.Machine.State.{is_copy_due, tick_of}
use Rattle.coap_layer.specs.declared.retransmission.Sending.{Sending}
use Rattle.coap_layer.specs.Machine.Sendings.{open_now}
use Rattle.coap_layer.specs.Machine.Waits.{has_step, any_has_step}
use Rattle.coap_types.proofs.Facts.FirstMoments.{same_first}
use Rattle.coap_layer.proofs.Facts.FirstMoments.{idle_is, step_is}
use Rattle.coap_layer.proofs.ListLemmas.{both, true_le, le_true}
use Rattle.coap_layer.proofs.Calls.Outstanding.{more_open}

-- a copy is due when this wait is over, where that is early enough
pub copy_first : (c : Open) (from wait : ℕ) (m : Option Moment)
    → ((gone : ℕ) → list_any (λ k. nat_lt (c.last - c.first) (c.timeout * k) && nat_le (c.timeout * k) gone)
    (factors max_retransmit) ≡ nat_le wait gone)
    → from - c.first < wait → wait ≤ last_retransmission
    → IsFirstMoment (λ now. nat_le wait (now - c.first)) from m → IsFirstMoment (λ now. is_copy_due now c) from m
copy_first c from wait None any later early h =
    λ now le less. no_copy (nat_le (now - c.first) last_retransmission) _ (any (now - c.first) ∙ h now le less)
  where
    no_copy : (b d : Bool) → d ≡ false → (b && d) ≡ false
    no_copy true d e = e
    no_copy false d e = refl
copy_first c from wait (Some at) any later early h = record {
  from_on = h.from_on;
  does = both _ _ (true_le _ _ in_time) (any (at.0 - c.first) ∙ h.does);
  not_before = λ now le less.
      no_copy (nat_le (now - c.first) last_retransmission) _ (any (now - c.first) ∙ h.not_before now le less);
}
  where
    no_copy : (b d : Bool) → d ≡ false → (b && d) ≡ false
    no_copy true d e = e
    no_copy false d e = refl

    comes_then : wait ≤ at.0 - c.first
    comes_then = le_true _ _ h.does

    from_on : from ≤ at.0
    from_on = h.from_on

    in_time : at.0 - c.first ≤ last_retransmission
    in_time = go (nat_le (at.0 - c.first) last_retransmission) refl
      where
        go : (b : Bool) → nat_le (at.0 - c.first) last_retransmission ≡ b → at.0 - c.first ≤ last_retransmission
        go true e = le_true _ _ e
        go false e =
            let late : last_retransmission < at.0 - c.first = grind (arith, nat_tests, e) in
            let before : nat_le wait (at.0 - 1 - c.first) ≡ false =
            h.not_before (at.0 - 1) (omega (arith, later, early, late)) (omega (arith, late)) in
            let there : nat_le wait (at.0 - 1 - c.first) ≡ true = true_le _ _ (omega (arith, early, late)) in
            absurd (cc (before, there))

or_false : (b : Bool) → (b || false) ≡ b
or_false true = refl
or_false false = refl

-- .. and of a list with one more
pub grown : (xs ys : List Open) (c : Open) (from : ℕ) (m : Option Moment) → ys ≡ xs ++ c ∷ []
    → IsFirstMoment (λ now. any_has_step now xs || has_step now c) from m
    → IsFirstMoment (λ now. any_has_step now ys) from m
grown xs ys c from m more h = same_first (λ now. any_has_step now xs || has_step now c) (λ now. any_has_step now ys)
    from m
    (λ now le. sym (ap (any_has_step now) more ∙ (list_any-append (has_step now) xs (c ∷ [])
    ∙ ap (λ b. any_has_step now xs || b) (or_false (has_step now c))))) h

module _ {Z : Type 0} where
  -- what the first of a list stand for, with the next one
  pub taken_more : (cs : List (Sending Z)) (i : ℕ) (c : Sending Z) → i < length cs → c ≡ get_or cs i c
      → open_now (take (i + 1) cs) ≡ open_now (take i cs) ++ open_now (c ∷ [])
  taken_more cs i c less is =
      let more : take (i + 1) cs ≡ take i cs ++ c ∷ [] =
      rw (add-one, take-suc cs i c less, ← is) refl in
      ap open_now more ∙ more_open (take i cs) (c ∷ [])

  pub taken_open : (cs : List (Sending Z)) (i : ℕ) (c : Sending Z) (l : Moment) → i < length cs → c ≡ get_or cs i c
      → c.last ≡ Some l
      → open_now (take (i + 1) cs) ≡ open_now (take i cs) ++ record {
        to = c.to;
        id = c.id.0;
        bytes = c.bytes.items;
        timeout = c.timeout;
        first = c.first.0;
        last = l.0;
      } ∷ []
  taken_open cs i c l less is last = taken_more cs i c less is ∙ rw last refl

  pub taken_ended : (cs : List (Sending Z)) (i : ℕ) (c : Sending Z) → i < length cs → c ≡ get_or cs i c
      → c.last ≡ None → open_now (take i cs) ≡ open_now (take (i + 1) cs)
  taken_ended cs i c less is last =
      sym (taken_more cs i c less is ∙ (rw last (append-nil (open_now (take i cs)))))

-- what a tick would answer, before that moment, at it, and where there is none
pub none_of : (clock now : ℕ) (cs : List Open) (m : Option Moment) → max clock now < 2 ^ 64
    → IsFirstMoment (λ later. any_has_step later cs) (max clock now) m
    → IfNone m ((later : ℕ) → now ≤ later → later < 2 ^ 64 → tick_of (max clock later) cs ≡ Idle)
none_of clock now cs (Some at) range h = tt
none_of clock now cs None range h = λ later le less. idle_is (max clock later) cs
    (h (max clock later) (omega (arith, le)) (omega (arith, range, less)))

pub some_of : (clock now : ℕ) (cs : List Open) (m : Option Moment)
    → IsFirstMoment (λ later. any_has_step later cs) (max clock now) m
    → IfSome m (λ at. (later : ℕ) → now ≤ later → max clock later < at.0 → tick_of (max clock later) cs ≡ Idle)
some_of clock now cs None h = tt
some_of clock now cs (Some at) h = λ later le less. idle_is (max clock later) cs
    (h.not_before (max clock later) (omega (arith, le)) less)

pub does_of : (clock now : ℕ) (cs : List Open) (m : Option Moment)
    → IsFirstMoment (λ later. any_has_step later cs) (max clock now) m
    → IfSome m (λ at. tick_of (max clock at.0) cs ≢ Idle)
does_of clock now cs None h = tt
does_of clock now cs (Some at) h =
    let le : max clock now ≤ at.0 = h.from_on in
    let is : at.0 ≡ max clock at.0 = omega (arith, le) in
    subst (λ (n : ℕ). tick_of n cs ≢ Idle) is (step_is at.0 cs h.does)

pub from_of : (from : ℕ) (cs : List Open) (m : Option Moment) → IsFirstMoment (λ now. any_has_step now cs) from m
    → IfSome m (λ at. from ≤ at.0)
from_of from cs None h = tt
from_of from cs (Some at) h = h.from_on

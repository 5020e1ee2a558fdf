-- The messages that are remembered, and the one of them that a reply may be given to.
use Rattle.std.proofs.Common.{◌≡◌, ◌≤◌, ◌+◌, sym, ℕ, Bool, true, false, Option, Some, None, List, [], ◌∷◌, ◌||◌, ◌++◌}
use Rattle.std.proofs.Common.{length, take, refl, ap, subst, ◌∙◌, arith}
use Rattle.std.proofs.lemmas.List.{take-append-le}
use Rattle.coap_types.specs.declared.endpoint.Endpoint.{Endpoint}
use Rattle.coap_layer.specs.declared.mark.Mark.{Mark}
use Rattle.coap_layer.specs.declared.retransmission.Sending.{Sending}
use Rattle.coap_layer.specs.Machine.Entries.{IsUpTo, Memory, arrivals_in}
use Rattle.coap_layer.specs.Machine.IdState.{IdState}
use Rattle.coap_layer.specs.Machine.Parts.{before_of, open_before}
use Rattle.coap_layer.specs.Machine.Sound.{IsKept, IsUnknown, IsWithin}
use Rattle.coap_layer.specs.Machine.State.{Arrived, is_of, is_remembered}
use Rattle.coap_layer.specs.Trace.{Packet}
use Rattle.coap_layer.specs.Words.{Awaited}
use Rattle.coap_layer.proofs.Machine.Forgetting.{live_before, of_live}
use Rattle.coap_layer.proofs.ListLemmas.{and_right, both, length_append}
use Rattle.coap_layer.proofs.Calls.Remembered.{upto_later}

-- what is not remembered is not remembered later
module _ (now later : ℕ) (le : now ≤ later) (from : Endpoint) (id : ℕ) where
  of_before : (a : Arrived) → is_of later from id a ≡ true → is_of now from id a ≡ true
  of_before a h = both _ _ (live_before now later a le (of_live later from id a h)) (and_right _ _ h)

  neither : (b c d e : Bool) → (c ≡ true → b ≡ true) → (d ≡ false → e ≡ false) → (b || d) ≡ false → (c || e) ≡ false
  neither false false d e f g h = g h
  neither false true d e f g h = absurd (cc (f refl))
  neither true c d e f g h = absurd (cc h)

  still_none : (es : List Arrived) → is_remembered now from id es ≡ false → is_remembered later from id es ≡ false
  still_none [] h = h
  still_none (a ∷ es) h = neither (is_of now from id a) (is_of later from id a) (is_remembered now from id es)
      (is_remembered later from id es) (of_before a) (still_none es) h

pub unknown_later : (now later : ℕ) (w : Option Awaited) (replies : Bool) (es : List Arrived) → now ≤ later
    → IsUnknown now w replies es → IsUnknown later w replies es
unknown_later now later None replies es le h = tt
unknown_later now later (Some w) false es le h = tt
unknown_later now later (Some w) true es le h = still_none now later le w.from w.id es h

pub kept_later : (now later : ℕ) (w : Option Awaited) (replies : Bool) (m : Memory) → now ≤ later
    → IsKept now w replies m → IsKept later w replies m
kept_later now later w replies m le h = (
  upto_later now later (arrivals_in m) le h.0,
  unknown_later now later w replies m.settled le h.1,
)

-- .. and where no reply may be given
pub unknown_not : (now : ℕ) (w : Option Awaited) (es : List Arrived) → IsUnknown now w false es
unknown_not now None es = tt
unknown_not now (Some w) es = tt

pub unknown_there : (now : ℕ) (w : Option Awaited) (x : Awaited) (replies : Bool) (es : List Arrived) → w ≡ Some x
    → replies ≡ true → IsUnknown now w replies es → is_remembered now x.from x.id es ≡ false
unknown_there now None x replies es e f h = absurd (cc e)
unknown_there now (Some w) x false es e f h = absurd (cc f)
unknown_there now (Some w) x true es e f h =
    let same : w ≡ x = cc e in
    ap (λ (y : Awaited). is_remembered now y.from y.id es) (sym same) ∙ h

-- what `undo` would leave asks only for what the last input found
pub before_same : {Z : Type 0} (most : ℕ) (m : Option Mark) (ids jds : IdState) (es fs : List Arrived)
    (cs ds : List (Sending Z)) (q r d : List Packet)
    → IsWithin m es (length q)
    → fs ≡ es → open_before ds ≡ open_before cs → r ≡ q ++ d → jds ≡ ids
    → before_of most m jds fs ds r ≡ before_of most m ids es cs q
before_same most None ids jds es fs cs ds q r d w a b e i = refl
before_same most (Some m) ids jds es fs cs ds q r d w a b e i =
    let queue : take m.queued r ≡ take m.queued q = ap (take m.queued) e ∙ take-append-le m.queued q d w.0 in
    cc (a, b, queue, i)

pub before_ended : {Z : Type 0} (most : ℕ) (m : Option Mark) (ids : IdState) (es : List Arrived)
    (cs ds : List (Sending Z)) (q : List Packet)
    → open_before ds ≡ open_before cs → before_of most m ids es ds q ≡ before_of most m ids es cs q
before_ended most None ids es cs ds q e = refl
before_ended most (Some m) ids es cs ds q e = cc e

-- a list of what waits that is as long as before, or longer
pub within_more : (m : Option Mark) (es fs : List Arrived) (queued waiting : ℕ) → IsWithin m es queued → fs ≡ es
    → queued ≤ waiting → IsWithin m fs waiting
within_more None es fs queued waiting w a b = tt
within_more (Some m) es fs queued waiting w a b = let old =
    w.0 in (omega (arith, old, b), subst (IsUpTo m.clock.0) (sym a) w.1)

pub within_pushed : {Y : Type 0} (m : Option Mark) (es fs : List Arrived) (q r d : List Y) → IsWithin m es (length q)
    → fs ≡ es → r ≡ q ++ d → IsWithin m fs (length r)
within_pushed m es fs q r d w a b =
    let f : length r ≡ length q + length d = ap length b ∙ length_append q d in
    within_more m es fs _ _ w a (omega (arith, f))

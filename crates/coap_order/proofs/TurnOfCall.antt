-- In which turn of a record a call stands.
use Rattle.std.proofs.Common.{◌≡◌, ◌⊎◌, inl, inr, ⊎_elim, ◌≤◌, ◌<◌, ℕ, ◌+◌, nat_le, Bool, true, false, List, [], ◌∷◌}
use Rattle.std.proofs.Common.{◌++◌}
use Rattle.std.proofs.Common.{length, length-append, refl, ap, sym, ◌∙◌, arith, if◌then◌else◌}
use Rattle.std.proofs.lemmas.Bool.{cases_lt, le-leb, leb-true}
use Rattle.coap_layer.specs.Clocks.{KeepsPace}
use Rattle.coap_promise.specs.Clocks.{AreClocks, Clocks}
use Rattle.coap_record.specs.Record.{Turn, entries_of}
use Rattle.coap_order.specs.OfRecords.{at_calls, turn_at}

not_le : (a b : ℕ) → b < a → nat_le a b ≡ false
not_le a b less = by (nat_le a b) refl
  where
    by : (w : Bool) → nat_le a b ≡ w → w ≡ false
    by true e = let k = leb-true a b e in absurd (omega (arith, k, less))
    by false e = refl

pub here : (t : Turn) (past : List Turn) (n : ℕ) → length (entries_of past) ≤ n → turn_at (t ∷ past) n ≡ length past
here t past n le = ap (λ (b : Bool). if b then length past else turn_at past n) (le-leb (length (entries_of past)) n le)

pub before : (t : Turn) (past : List Turn) (n : ℕ) → n < length (entries_of past) → turn_at (t ∷ past) n
    ≡ turn_at past n
before t past n less = ap (λ (b : Bool). if b then length past else turn_at past n)
    (not_le (length (entries_of past)) n less)

till : (turns : List Turn) (n : ℕ) → turn_at turns n ≤ length turns
till [] n = omega arith
till (t ∷ past) n = ⊎_elim
    (λ less. let k = before t past n less in let r = till past n in omega (arith, k, r))
    (λ le. let k = here t past n le in omega (arith, k)) (cases_lt n (length (entries_of past)))

rises : (turns : List Turn) (i j : ℕ) → i ≤ j → turn_at turns i ≤ turn_at turns j
rises [] i j le = omega arith
rises (t ∷ past) i j le = by (rises past i j le) (cases_lt i (length (entries_of past)))
    (cases_lt j (length (entries_of past)))
  where
    by : turn_at past i ≤ turn_at past j → (i < length (entries_of past)) ⊎ (length (entries_of past) ≤ i)
        → (j < length (entries_of past)) ⊎ (length (entries_of past) ≤ j)
        → turn_at (t ∷ past) i ≤ turn_at (t ∷ past) j
    by r (inl early) (inl soon) =
        let a = before t past i early in let b = before t past j soon in omega (arith, a, b, r)
    by r (inl early) (inr late) =
        let a = before t past i early in let b = here t past j late in
        let k = till past i in omega (arith, a, b, k)
    by r (inr behind) q =
        let a = here t past i behind in let b = here t past j (omega (arith, behind, le)) in omega (arith, a, b)

paced : (turns : List Turn) (one other : ℕ → ℕ) → KeepsPace one other
    → KeepsPace (λ n. one (turn_at turns n)) (λ n. other (turn_at turns n))
paced turns one other keeps = record {
  rises = λ i j le. keeps.rises (turn_at turns i) (turn_at turns j) (rises turns i j le);
  pace = λ i j passed le short is. keeps.pace (turn_at turns i) (turn_at turns j) passed (rises turns i j le) short is;
}

-- the clocks keep pace at the calls, too
pub paced_at : (c : Clocks) (turns : List Turn) → AreClocks c → AreClocks (at_calls c turns)
paced_at c turns clocks = record {
  near = paced turns c.client c.server clocks.near;
  far = paced turns c.server c.client clocks.far;
}

-- the calls of these turns stand in the same turns of the whole record
abbrev pub Same : List Turn → List Turn → Type 0
Same whole turns = (n : ℕ) → n < length (entries_of turns) → turn_at whole n ≡ turn_at turns n

pub same_before : (whole : List Turn) (t : Turn) (past : List Turn) → Same whole (t ∷ past) → Same whole past
same_before whole t past same n less =
    let e = length-append t.entries (entries_of past) in
    same n (omega (arith, e, less)) ∙ before t past n less

pub stands : (whole : List Turn) (t : Turn) (past : List Turn) → Same whole (t ∷ past) → (n : ℕ)
    → length (entries_of past) ≤ n → n < length (t.entries ++ entries_of past) → turn_at whole n ≡ length past
stands whole t past same n le less = same n less ∙ here t past n le

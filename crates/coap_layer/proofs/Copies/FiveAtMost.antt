-- A CON goes out at most five times: each copy passes one of four due moments.
use Rattle.coap_layer.specs.Trace.{Setup}
use Rattle.std.proofs.Common.{◌≡◌, ◌⊎◌, inl, inr, ⊎_elim, ℕ, zero, suc, ◌+◌, ◌-◌, ◌≤◌, true, false, Some, List, [], ◌∷◌}
use Rattle.std.proofs.Common.{ap, sym, ◌∙◌, subst, arith, option_to_list}
use Rattle.std.specs.List.{filter_map}
use Rattle.coap_types.specs.Past.{Ever, Sometime}
use Rattle.coap_types.specs.declared.transmission.TheConstants.{MAX_RETRANSMIT as max_retransmit}
use Rattle.coap_types.proofs.Facts.Traces.{Ever_append, Ever_of_Sometime, Sometime_map}
use Rattle.coap_layer.specs.Trace.{Call, Answer, Copied, Entry}
use Rattle.coap_layer.specs.Words.{Open, copies_in, left_by, begun, outstanding}
use Rattle.coap_layer.specs.Rows.{LayerLaw, HasStep, Fails, Copies}
use Rattle.coap_layer.specs.Sends.{AtLeast, IsIn, as_begun, SendsIt, FiveAtMost}
use Rattle.coap_layer.proofs.Copies.CopiesInTime.{in_option, in_filter_map, left_same, was_begun, in_first, copies_row}
use Rattle.coap_layer.proofs.Copies.DueMoments.{passed, passed_more, at_most_all, due_passed}
use Rattle.coap_layer.proofs.Copies.WhatIsOpen.{some_in, first_has, one_open, copied_by, Left, left_of, last_by}
use Rattle.coap_layer.specs.Machine.Calls.{IsBegun}
use Rattle.coap_layer.proofs.Numbers.OneEntryForAnId.{begun_once, begins_of}

-- how many of them the last sending of an outstanding CON has passed
abbrev count : Open → ℕ
count c = passed c.timeout (c.last - c.first)

-- the sending of a CON comes with its begin, or behind it
was_sent : (c : Open) (t : List Entry) → Sometime (λ past e. SendsIt c past e) t → Ever (IsBegun c) t
was_sent c t h = Ever_of_Sometime (λ past e. SendsIt c past e) (IsBegun c) go t h
  where
    go : (past : List Entry) (e : Entry) → SendsIt c past e → Ever (IsBegun c) (e ∷ past)
    go past e (inl b) = inl b
    go past e (inr k) = let q = some_in (λ x. as_begun x ≡ c) (outstanding past) k.0 in inr
        (subst (λ (d : Open). Ever (IsBegun d) past) q.2 (was_begun past q.0 q.1))

least_begun : (c : Open) (n : ℕ) (t : List Entry) → AtLeast (suc n) (SendsIt c) t → Ever (IsBegun c) t
least_begun c n t h = was_sent c t (Sometime_map _ _ (λ past e k. k.0) t h)

-- a CON that is begun now was not sent before
none_before : (setup : Setup) (past : List Entry) (e : Entry) (c : Open) (n : ℕ) → LayerLaw setup (e ∷ past)
    → begun e ≡ Some c → AtLeast n (SendsIt c) past → n ≤ 0
none_before setup past e c zero law b h = omega arith
none_before setup past e c (suc n) law b h = absurd (begun_once setup past e c law b (least_begun c n past h))

-- each sending but the first passes a due moment
copy_step : (setup : Setup) (past : List Entry) (e : Entry) (c x : Open) → LayerLaw setup (e ∷ past)
    → IsIn x (outstanding past) → as_begun x ≡ c → e.answer ≡ Copied c.to c.id
    → count x + 1 ≤ passed x.timeout (e.at - x.first)
copy_step setup past e c x law there is answer =
    due (subst (HasStep e.at) same (first_has (HasStep e.at) r.con (outstanding past) r.first))
  where
    r : Copies past e
    r = copies_row setup past e e.call c.to c.id law.0.row answer

    con_to : r.con.to ≡ c.to
    con_to = let k = r.answer in cc (k, answer)

    same : r.con ≡ x
    same = one_open setup past law.1 r.con x (in_first (HasStep e.at) r.con (outstanding past) r.first) there
        (con_to ∙ sym (ap (λ (y : Open). y.to) is))

    later : x.last ≤ e.at
    later = let k = last_by setup past x law.1 there in omega (arith, k, law.0.time)

    due : HasStep e.at x → count x + 1 ≤ passed x.timeout (e.at - x.first)
    due (inl f) = absurd (r.alive (subst (Fails e.at) (sym same) f))
    due (inr d) = due_passed x.timeout (x.last - x.first) (e.at - x.first) (omega (arith, later)) d.due

copies_this : (call : Call) (answer : Answer) (c x : Open) → as_begun x ≡ c
    → copies_in call answer c.to c.id ≡ copies_in call answer x.to x.id
copies_this call answer c x is = ap (λ (y : Open). copies_in call answer y.to y.id) (sym is)

-- what an outstanding CON's sendings have come to
abbrev Counted : List Entry → Open → Type 0
Counted t c = (x : Open) (n : ℕ) → IsIn x (outstanding t) → as_begun x ≡ c → AtLeast n (SendsIt c) t → n ≤ count x + 1

more : (n a b : ℕ) → n ≤ a + 1 → a ≤ b → n ≤ b + 1
more n a b h k = omega (arith, h, k)

suc_more : (n a b : ℕ) → n ≤ a + 1 → a + 1 ≤ b → suc n ≤ b + 1
suc_more n a b h k = omega (arith, h, k)

suc_first : (n a : ℕ) → n ≤ 0 → suc n ≤ a + 1
suc_first n a h = omega (arith, h)

-- an entry's sending, and the entries before it
module _ (setup : Setup) (past : List Entry) (e : Entry) (c : Open) (law : LayerLaw setup (e ∷ past))
    (counted : Counted past c) where
  -- of a CON that goes on
  went_on : (x y : Open) (n : ℕ) → IsIn x (outstanding past) → as_begun x ≡ c → Left e x y
      → AtLeast n (SendsIt c) (e ∷ past) → n ≤ count y + 1
  went_on x y zero there is left h = omega arith
  went_on x y (suc n) there is left h = go h
    where
      first_is : y.last - y.first ≡ y.last - x.first
      first_is = ap (λ k. y.last - k) left.first_is

      count_is : count y ≡ passed x.timeout (y.last - x.first)
      count_is = ap (λ k. passed k (y.last - y.first)) left.timeout_is ∙ ap (passed x.timeout) first_is

      before : x.last ≤ e.at
      before = let k = last_by setup past x law.1 there in omega (arith, k, law.0.time)

      grows : ((y.last ≡ x.last) × (copies_in e.call e.answer x.to x.id ≡ false)) ⊎ (y.last ≡ e.at) → count x ≤ count y
      grows (inl k) = subst (λ z. count x ≤ z) (sym count_is)
          (passed_more x.timeout (x.last - x.first) (y.last - x.first) (let l = k.0 in omega (arith, l)))
      grows (inr k) = subst (λ z. count x ≤ z) (sym count_is)
          (passed_more x.timeout (x.last - x.first) (y.last - x.first) (omega (arith, k, before)))

      steps : copies_in e.call e.answer c.to c.id ≡ true
          → ((y.last ≡ x.last) × (copies_in e.call e.answer x.to x.id ≡ false)) ⊎ (y.last ≡ e.at)
          → count x + 1 ≤ count y
      steps k (inl l) = let a = copies_this e.call e.answer c x is in let b = l.1 in absurd (cc (a, b, k))
      steps k (inr l) =
          subst (λ z. count x + 1 ≤ z) (sym count_is)
          (subst (λ z. count x + 1 ≤ passed x.timeout (z - x.first)) (sym l)
          (copy_step setup past e c x law there is (copied_by e.call e.answer c.to c.id k)))

      go : AtLeast (suc n) (SendsIt c) (e ∷ past) → suc n ≤ count y + 1
      go (inl (inl b, k)) = suc_first n (count y) (none_before setup past e c n law b k)
      go (inl (inr s, k)) = suc_more n (count x) (count y) (counted x n there is k) (steps s.1 left.last_is)
      go (inr k) = more (suc n) (count x) (count y) (counted x (suc n) there is k) (grows left.last_is)

  begun_here : (y : Open) (n : ℕ) → begun e ≡ Some c → AtLeast n (SendsIt c) (e ∷ past) → n ≤ count y + 1
  begun_here y zero b h = omega arith
  begun_here y (suc n) b (inl k) = suc_first n (count y) (none_before setup past e c n law b k.1)
  begun_here y (suc n) b (inr k) = absurd (begun_once setup past e c law b (least_begun c n past k))

counted_in : (setup : Setup) (t : List Entry) (c : Open) → LayerLaw setup t → Counted t c
counted_in setup [] c law x n there is h = absurd there
counted_in setup (e ∷ past) c law x n there is h =
    ⊎_elim (old (counted_in setup past c law.1)) (new (counted_in setup past c law.1))
    (Ever_append (λ y. y ≡ x) (filter_map (left_by e) (outstanding past)) (option_to_list (begun e)) there)
  where
    old : Counted past c → IsIn x (filter_map (left_by e) (outstanding past)) → n ≤ count x + 1
    old f k =
        let q = in_filter_map (left_by e) x (outstanding past) k in
        went_on setup past e c law f q.0 x n q.1 (left_same e q.0 x q.2 ∙ is) (left_of e q.0 x q.2) h

    new : Counted past c → IsIn x (option_to_list (begun e)) → n ≤ count x + 1
    new f k =
        let b = in_option x (begun e) k in
        let at = begins_of e x b in
        begun_here setup past e c law f x n (b ∙ ap Some
        (ap (λ (m : ℕ). record x { last = m }) (at.last_is ∙ sym at.first_is) ∙ is)) h

five_by : (setup : Setup) (t : List Entry) (c : Open) (n : ℕ) → LayerLaw setup t → AtLeast n (SendsIt c) t
    → n ≤ 1 + max_retransmit
five_by setup t c zero law h = omega arith
five_by setup [] c (suc n) law h = absurd h
five_by setup (e ∷ past) c (suc n) law (inr h) = five_by setup past c (suc n) law.1 h
five_by setup (e ∷ past) c (suc n) law (inl (inl b, h)) = let k = none_before setup past e c n law b h in omega
    (arith, k)
five_by setup (e ∷ past) c (suc n) law (inl (inr s, h)) =
    let q = some_in (λ x. as_begun x ≡ c) (outstanding past) s.0 in
    let k = counted_in setup past c law.1 q.0 n q.1 q.2 h in
    let l = copy_step setup past e c q.0 law q.1 q.2 (copied_by e.call e.answer c.to c.id s.1) in
    let m = at_most_all q.0.timeout (e.at - q.0.first) in
    sum_up n (count q.0) (passed q.0.timeout (e.at - q.0.first)) k l m
  where
    sum_up : (n a b : ℕ) → n ≤ a + 1 → a + 1 ≤ b → b ≤ max_retransmit → suc n ≤ 1 + max_retransmit
    sum_up n a b h k l = omega (arith, h, k, l)

pub five_at_most : (setup : Setup) (t : List Entry) → LayerLaw setup t → FiveAtMost t
five_at_most setup t law c h = let k = five_by setup t c (2 + max_retransmit) law h in absurd (omega (arith, k))

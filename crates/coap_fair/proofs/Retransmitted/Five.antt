-- Each copy of a CON passes one due moment alone, where none is overdue.
use Rattle.std.proofs.Common.{◌≡◌, ◌⊎◌, inl, inr, ℕ, zero, suc, ◌+◌, ◌*◌, ◌-◌, ◌%◌, ◌≤◌, ◌<◌, nat_le, Bool, true}
use Rattle.std.proofs.Common.{false, cond, Option, Some, None, List, [], ◌∷◌, refl, ap, sym, ◌∙◌, subst, arith}
use Rattle.std.proofs.Common.{option_to_list}
use Rattle.std.proofs.lemmas.Bool.{cases_lt, le-leb, leb-true}
use Rattle.std.proofs.lemmas.Nat.{mod_below}
use Rattle.std.specs.List.{filter_map}
use Rattle.coap_types.specs.Past.{Ever, Always}
use Rattle.coap_types.proofs.Facts.Traces.{Ever_append, Ever_map}
use Rattle.coap_types.specs.declared.endpoint.Endpoint.{Endpoint}
use Rattle.coap_types.specs.declared.message.Kind.TheVariants.{Con}
use Rattle.coap_types.specs.declared.transmission.TheConstants.{ACK_TIMEOUT_MS as ack_timeout}
use Rattle.coap_types.specs.declared.transmission.TheConstants.{MAX_RETRANSMIT as max_retransmit}
use Rattle.coap_types.specs.declared.transmission.TheConstants.{TIMEOUT_VALUES as timeout_values}
use Rattle.coap_codec.specs.Spelling.{message_bytes}
use Rattle.coap_layer.specs.BackOff.{factors}
use Rattle.coap_layer.specs.Rows.{LayerLaw}
use Rattle.coap_layer.specs.Sends.{AtLeast, IsIn, as_begun, SendsIt}
use Rattle.coap_layer.specs.Trace.{Content, with_head, Call, Confirm, Answer, Entry}
use Rattle.coap_layer.specs.Words.{Open, begun, begun_in, copies_in, ends_in, left_by, open_of, outstanding, sent_by}
use Rattle.coap_layer.specs.declared.setup.Setup.{Setup}
use Rattle.coap_layer.proofs.Copies.CopiesInTime.{begun_fresh, in_filter_map, in_option, left_same, was_begun}
use Rattle.coap_fair.specs.FiveCopies.{max_age, NoneOverdue, GoOutFiveTimes}

-- the initial timeouts

timeout_of : (at : ℕ) (to : Endpoint) (content : Content) (wish : ℕ) (o : Option ℕ) (c : Open)
    → open_of at to content wish o ≡ Some c → (2000 ≤ c.timeout) × (c.timeout ≤ 3000)
timeout_of at to content wish None c h = absurd (cc h)
timeout_of at to content wish (Some id) c h =
    let new : Open = record {
      to = to;
      id = id;
      bytes = message_bytes (with_head Con id content);
      timeout = ack_timeout + wish % timeout_values;
      first = at;
      last = at;
    } in
    let e : new ≡ c = cc h in
    let same : ack_timeout + wish % timeout_values ≡ c.timeout = ap (λ (x : Open). x.timeout) e in
    let small : wish % timeout_values < timeout_values = mod_below wish timeout_values (omega arith) in
    (omega (arith, same), omega (arith, same, small))

begun_timeout : (at : ℕ) (call : Call) (answer : Answer) (c : Open) → begun_in at call answer ≡ Some c
    → (2000 ≤ c.timeout) × (c.timeout ≤ 3000)
begun_timeout at (Confirm to content wish) answer c h = timeout_of at to content wish (sent_by answer) c h
begun_timeout at _ answer c h = absurd (cc h)

was_timeout : (t : List Entry) (c : Open) → Ever (λ b. begun b ≡ Some c) t → (2000 ≤ c.timeout) × (c.timeout ≤ 3000)
was_timeout [] c h = absurd h
was_timeout (e ∷ past) c (inl h) = begun_timeout e.at e.call e.answer c h
was_timeout (e ∷ past) c (inr h) = was_timeout past c h

timeouts : (t : List Entry) (c : Open) → IsIn c (outstanding t) → (2000 ≤ c.timeout) × (c.timeout ≤ 3000)
timeouts t c h = was_timeout t (as_begun c) (was_begun t c h)

-- how many due moments have passed

abbrev one : ℕ → ℕ → ℕ
one due gone = cond (nat_le due gone) 1 0

abbrev gone_by : ℕ → ℕ → ℕ
gone_by t x = one (t * 1) x + (one (t * 3) x + (one (t * 7) x + one (t * 15) x))

below : (due x : ℕ) → x < due → one due x ≡ 0
below due x less = by (nat_le due x) refl
  where
    by : (b : Bool) → nat_le due x ≡ b → one due x ≡ 0
    by true is = let k = leb-true due x is in absurd (omega (arith, k, less))
    by false is = ap (λ b. cond b 1 0) is

above : (due x : ℕ) → due ≤ x → one due x ≡ 1
above due x le = ap (λ b. cond b 1 0) (le-leb due x le)

at_most : (due x : ℕ) → one due x ≤ 1
at_most due x = by (nat_le due x)
  where
    by : (b : Bool) → cond b 1 0 ≤ 1
    by true = omega arith
    by false = omega arith

-- what passed is one more at most in 1,000 ms
module _ (t x y : ℕ) (long : 2000 ≤ t) (near : x ≤ y + 1000) where
  third : (x < t * 15) ⊎ (t * 15 ≤ x) → t * 7 ≤ x → gone_by t x ≤ gone_by t y + 1
  third (inl less) le =
      let a = below (t * 15) x less in
      let b = above (t * 1) y (omega (arith, le, near, long)) in
      let d = above (t * 3) y (omega (arith, le, near, long)) in
      let p = at_most (t * 1) x in
      let q = at_most (t * 3) x in
      let r = at_most (t * 7) x in
      omega (arith, a, b, d, p, q, r)
  third (inr le) also =
      let b = above (t * 1) y (omega (arith, le, near, long)) in
      let d = above (t * 3) y (omega (arith, le, near, long)) in
      let e = above (t * 7) y (omega (arith, le, near, long)) in
      let p = at_most (t * 1) x in
      let q = at_most (t * 3) x in
      let r = at_most (t * 7) x in
      let s = at_most (t * 15) x in
      omega (arith, b, d, e, p, q, r, s)

  second : (x < t * 7) ⊎ (t * 7 ≤ x) → t * 3 ≤ x → gone_by t x ≤ gone_by t y + 1
  second (inl less) le =
      let a = below (t * 15) x (omega (arith, less)) in
      let f = below (t * 7) x less in
      let b = above (t * 1) y (omega (arith, le, near, long)) in
      let p = at_most (t * 1) x in
      let q = at_most (t * 3) x in
      omega (arith, a, f, b, p, q)
  second (inr le) also = third (cases_lt x (t * 15)) le

  first_one : (x < t * 3) ⊎ (t * 3 ≤ x) → gone_by t x ≤ gone_by t y + 1
  first_one (inl less) =
      let a = below (t * 15) x (omega (arith, less)) in
      let f = below (t * 7) x (omega (arith, less)) in
      let g = below (t * 3) x less in
      let p = at_most (t * 1) x in
      omega (arith, a, f, g, p)
  first_one (inr le) = second (cases_lt x (t * 7)) le

  one_more : gone_by t x ≤ gone_by t y + 1
  one_more = first_one (cases_lt x (t * 3))

-- all that are gone by were passed by the last sending
one_by : (due last x : ℕ) → ((last < due) × (due ≤ x) → ⊥) → one due x ≤ one due last
one_by due last x none = by (cases_lt x due) (cases_lt last due)
  where
    by : (x < due) ⊎ (due ≤ x) → (last < due) ⊎ (due ≤ last) → one due x ≤ one due last
    by (inl less) q = let a = below due x less in omega (arith, a)
    by (inr le) (inl less) = absurd (none (less, le))
    by (inr le) (inr le_last) =
        let a = above due last le_last in let b = at_most due x in omega (arith, a, b)

all_by : (t last x : ℕ) → (Ever (λ (k : ℕ). (last < t * k) × (t * k ≤ x)) (factors max_retransmit) → ⊥)
    → gone_by t x ≤ gone_by t last
all_by t last x none =
    let a = one_by (t * 1) last x (λ h. none (inl h)) in
    let b = one_by (t * 3) last x (λ h. none (inr (inl h))) in
    let c = one_by (t * 7) last x (λ h. none (inr (inr (inl h)))) in
    let d = one_by (t * 15) last x (λ h. none (inr (inr (inr (inl h))))) in
    omega (arith, a, b, c, d)

abbrev count : Open → ℕ
count c = gone_by c.timeout (c.last - c.first)

-- it went out so often
abbrev Reached : List Entry → Open → Type 0
Reached t d = (n : ℕ) → n ≤ count d + 1 → AtLeast n (SendsIt (as_begun d)) t

lifted : (c : Open) (n : ℕ) (e : Entry) (t : List Entry) → AtLeast n (SendsIt c) t → AtLeast n (SendsIt c) (e ∷ t)
lifted c zero e t h = tt
lifted c (suc n) e t h = inr h

module _ (setup : Setup) (past : List Entry) (e : Entry) (law : LayerLaw setup (e ∷ past)) where
  -- it begins
  begins : (d : Open) → begun e ≡ Some d → Reached (e ∷ past) d
  begins d is zero le = tt
  begins d is (suc n) le =
      let f = begun_fresh e.at e.call e.answer d is in
      let t = begun_timeout e.at e.call e.answer d is in
      let long = t.0 in
      let first_is = f.0 in
      let last_is = f.1 in
      let a = below (d.timeout * 1) (d.last - d.first) (omega (arith, long, first_is, last_is)) in
      let b = below (d.timeout * 3) (d.last - d.first) (omega (arith, long, first_is, last_is)) in
      let g = below (d.timeout * 7) (d.last - d.first) (omega (arith, long, first_is, last_is)) in
      let h = below (d.timeout * 15) (d.last - d.first) (omega (arith, long, first_is, last_is)) in
      inl (
        inl (is ∙ ap (λ (m : ℕ). Some (record d { last = m })) (last_is ∙ sym first_is)),
        none_left n (omega (arith, le, a, b, g, h)),
      )
    where
      none_left : (m : ℕ) → m ≤ 0 → AtLeast m (SendsIt (as_begun d)) past
      none_left zero z = tt
      none_left (suc m) z = absurd (omega (arith, z))

  -- it goes on
  module _ (q d : Open) (there : IsIn q (outstanding past)) (left : left_by e q ≡ Some d) (old : Reached past q)
      (none : NoneOverdue past e.at) where
    same : as_begun q ≡ as_begun d
    same = left_same e q d left

    copied : copies_in e.call e.answer q.to q.id ≡ true → record q { last = e.at } ≡ d → Reached (e ∷ past) d
    copied is d_is zero le = tt
    copied is d_is (suc n) le = subst (λ c. AtLeast (suc n) (SendsIt c) (e ∷ past)) same (inl (
      inr (
        Ever_map (λ y. y ≡ q) (λ x. as_begun x ≡ as_begun q) (λ y h. ap as_begun h) (outstanding past) there,
        is,
      ),
      old n (enough n le),
    ))
      where
        count_is : count d ≡ gone_by q.timeout (e.at - q.first)
        count_is = sym (ap count d_is)

        enough : (m : ℕ) → suc m ≤ count d + 1 → m ≤ count q + 1
        enough m short =
            let t = timeouts past q there in
            let overdue = all_by q.timeout (q.last - q.first) ((e.at - q.first) - max_age) (λ h. none q there h) in
            let more = one_more q.timeout (e.at - q.first) ((e.at - q.first) - max_age) t.0 (omega arith) in
            omega (arith, short, count_is, overdue, more)

    kept : q ≡ d → Reached (e ∷ past) d
    kept d_is n le = subst (λ c. AtLeast n (SendsIt c) (e ∷ past)) same
        (lifted (as_begun q) n e past (old n (let k : count q ≡ count d = ap count d_is in omega (arith, le, k))))

    goes_on : Reached (e ∷ past) d
    goes_on = by (ends_in e.call e.answer q.to q.id) (copies_in e.call e.answer q.to q.id) refl left
      where
        by : (x y : Bool) → copies_in e.call e.answer q.to q.id ≡ y
            → cond x None (cond y (Some (record q { last = e.at })) (Some q)) ≡ Some d → Reached (e ∷ past) d
        by true y is h = absurd (cc h)
        by false true is h = copied is (cc h)
        by false false is h = kept (cc h)

reached : (setup : Setup) (t : List Entry) → LayerLaw setup t → Always (λ past e. NoneOverdue past e.at) t → (d : Open)
    → IsIn d (outstanding t) → Reached t d
reached setup [] law up d h = absurd h
reached setup (e ∷ past) law up d h =
    elim (Ever_append (λ y. y ≡ d) (filter_map (left_by e) (outstanding past)) (option_to_list (begun e)) h) [
      | inl old ↦
          (let q = in_filter_map (left_by e) d (outstanding past) old in
          goes_on setup past e law q.0 d q.1 q.2 (reached setup past law.1 up.1 q.0 q.1) up.0)
      | inr new ↦ begins setup past e law d (in_option d (begun e) new)
    ]

pub five_times : (setup : Setup) (t : List Entry) → LayerLaw setup t → GoOutFiveTimes t
five_times setup t law up con there now none late =
    let k = timeouts t con there in
    let short = k.1 in
    let x : ℕ = (now - con.first) - max_age in
    let overdue = all_by con.timeout (con.last - con.first) x (λ h. none con there h) in
    let a = above (con.timeout * 1) x (omega (arith, short, late)) in
    let b = above (con.timeout * 3) x (omega (arith, short, late)) in
    let c = above (con.timeout * 7) x (omega (arith, short, late)) in
    let d = above (con.timeout * 15) x (omega (arith, short, late)) in
    reached setup t law up con there (1 + max_retransmit) (omega (arith, overdue, a, b, c, d))

-- Where no option begins: what the bytes there are, and which fault.
use Rattle.std.proofs.Common.{◌≡◌, ◌≢◌, ℕ, ◌+◌, ◌/◌, ◌%◌, ◌^◌, ◌<◌, ◌≤◌, ◌⊎◌, cond, ltb, eqb, List, [], ◌∷◌, ◌++◌}
use Rattle.std.proofs.Common.{length, take, drop, Result, Ok, Err, refl, sym, ap, subst, ◌∙◌, arith, inl, inr}
use Rattle.std.proofs.lemmas.Bool.{ltb-true, ltb-false, eqb-true, eqb-false, lt-ltb, le-ltb, eq-eqb, ne_eqb}
use Rattle.std.proofs.lemmas.List.{length-append}
use Rattle.coap_types.specs.CoapOption.{CoapOption}
use Rattle.coap_codec.specs.declared.fault.Reason.{Reason}
use Rattle.coap_codec.specs.declared.fault.Reason.TheVariants.{Short, Version, TokenLength, TokenCut, EmptyNotBare}
use Rattle.coap_codec.specs.declared.fault.Reason.TheVariants.{DeltaReserved, LengthReserved, OptionCut, NumberTooLarge}
use Rattle.coap_codec.specs.declared.fault.Reason.TheVariants.{NoPayload}
use Rattle.coap_codec.specs.Extension.{Ext}
use Rattle.coap_types.specs.Bytes.{AreBytes}
use Rattle.coap_codec.specs.Message.{marked}
use Rattle.coap_codec.specs.Faulty.{needs, HeadsOption, BadRest}
use Rattle.coap_codec.specs.Reading.{◌>>=◌, one_more, two_more, extended, value_at, nibbles_at, option_at, payload_at}
use Rattle.coap_types.proofs.Facts.Bytes.{byte_at}
use Rattle.coap_types.proofs.Facts.Bytes.{AreBytes-rest, AreBytes-tail}
use Rattle.coap_codec.proofs.OneOption.IsRead.{chosen, cases_result, done, ok_is, extended_reads, extended_again}

abbrev pub fault : {A : Type 0} → Reason → Result A Reason
fault r = Err r

pub err_is : {A : Type 0} (r s : Reason) → fault {A = A} r ≡ fault s → r ≡ s
err_is r s e = cc

bind_err : {A B E : Type 0} (r : Result A E) (f : A → Result B E) (d : E) → (r >>= f) ≡ Err d
    → (r ≡ Err d) ⊎ ((x : A) × (r ≡ Ok x) × (f x ≡ Err d))
bind_err (Ok x) f d e = inr (x, refl, e)
bind_err (Err c) f d e = inl cc

Ext-needs : (n nibble : ℕ) (more : List ℕ) → Ext n nibble more → length more ≡ needs nibble
Ext-needs n nibble [] p = rw (ne_eqb nibble 13 (λ e. omega arith), ne_eqb nibble 14 (λ e. omega arith)) refl
Ext-needs n nibble (b ∷ []) p = rw p.2 refl
Ext-needs n nibble (a ∷ b ∷ []) p = rw p.3 refl
Ext-needs n nibble (a ∷ b ∷ c ∷ more) p = absurd p

one_missing : (bytes : List ℕ) (d : Reason) → one_more bytes ≡ Err d → (d ≡ OptionCut) × (length bytes < 1)
one_missing [] d e = (sym (err_is OptionCut d e), omega arith)
one_missing (b ∷ bytes) d e = absurd cc

two_missing : (bytes : List ℕ) (d : Reason) → two_more bytes ≡ Err d → (d ≡ OptionCut) × (length bytes < 2)
two_missing [] d e = (sym (err_is OptionCut d e), omega arith)
two_missing (a ∷ []) d e = (sym (err_is OptionCut d e), omega arith)
two_missing (a ∷ b ∷ bytes) d e = absurd cc

extended_missing : (nibble : ℕ) (bytes : List ℕ) (d : Reason) → nibble < 15 → extended nibble bytes ≡ Err d
    → (d ≡ OptionCut) × (length bytes < needs nibble)
unfolding extended
extended_missing nibble bytes d small e =
    elim (chosen (ltb nibble 13) (done {A = ℕ × List ℕ} (nibble, bytes))
    (cond (eqb nibble 13) (one_more bytes) (two_more bytes)) (Err d) e) [
      | inl p ↦ absurd cc
      | inr p ↦ elim (chosen (eqb nibble 13) (one_more bytes) (two_more bytes) (Err d) p.1) [
        | inl q ↦ let m = one_missing bytes d q.1 in (m.0, rw q.0 m.1)
        | inr q ↦
            let m = two_missing bytes d q.1 in
            let above : 13 ≤ nibble = ltb-false nibble 13 p.0 in
            let other : nibble ≢ 13 = eqb-false nibble 13 q.0 in
            let is : nibble ≡ 14 = omega arith in
            (m.0, rw (q.0, eq-eqb nibble 14 is) m.1)
      ]
    ]

value_bad : (number len : ℕ) (bytes : List ℕ) (d : Reason) → value_at number len bytes ≡ Err d
    → ((d ≡ NumberTooLarge) × (2 ^ 16 ≤ number)) ⊎ ((d ≡ OptionCut) × (number < 2 ^ 16) × (length bytes < len))
unfolding value_at
value_bad number len bytes d e =
    let whole : CoapOption × List ℕ = (record { number = number; value = take len bytes }, drop len bytes) in
    elim (chosen (ltb 65535 number) (fault NumberTooLarge) (cond (ltb (length bytes) len) (fault OptionCut) (Ok whole))
    (Err d) e) [
      | inl p ↦ let big : 65535 < number = ltb-true 65535 number p.0 in inl
          (sym (err_is NumberTooLarge d p.1), omega arith)
      | inr p ↦ elim (chosen (ltb (length bytes) len) (fault OptionCut) (Ok whole) (Err d) p.1) [
        | inl q ↦ let small : number ≤ 65535 = ltb-false 65535 number p.0 in inr
            (sym (err_is OptionCut d q.1), omega arith, ltb-true (length bytes) len q.0)
        | inr q ↦ absurd cc
      ]
    ]

-- what is wrong behind the first byte
abbrev pub BadNibbles : ℕ → ℕ → List ℕ → Reason → Type 0
BadNibbles base first bytes reason = (first / 16 ≢ 15) → (first % 16 ≢ 15) → BadRest base (first ∷ bytes) reason

nibbles_bad : (base first : ℕ) (bytes : List ℕ) (d : Reason) → AreBytes bytes → first < 256 → first / 16 ≢ 15
    → first % 16 ≢ 15 → nibbles_at base (first / 16) (first % 16) bytes ≡ Err d → BadRest base (first ∷ bytes) d
unfolding nibbles_at
nibbles_bad base first bytes r fits byte delta len e =
    let bad = BadRest base (first ∷ bytes) in
    let small : first / 16 < 15 = omega arith in
    let small' : first % 16 < 15 = omega arith in
    elim (bind_err (extended (first / 16) bytes)
    (λ d. extended (first % 16) d.1 >>= λ l. value_at (base + d.0) l.0 l.1) r e) [
      | inl p ↦
          let m = extended_missing (first / 16) bytes r small p in
          subst bad (sym m.0) (delta, len, inl (omega (arith, m.1)))
      | inr p ↦
          let d = p.0 in
          let said = extended_reads (first / 16) bytes d.0 d.1 fits small p.1 in
          let n = Ext-needs d.0 (first / 16) said.more said.says in
          let whole : length bytes ≡ length said.more + length d.1 = ap length said.parts
          ∙ length-append said.more d.1 in
          elim (bind_err (extended (first % 16) d.1) (λ l. value_at (base + d.0) l.0 l.1) r p.2) [
            | inl q ↦
                let m = extended_missing (first % 16) d.1 r small' q in
                subst bad (sym m.0) (delta, len, inl (omega (arith, m.1, n)))
            | inr q ↦
                let l = q.0 in
                let said' = extended_reads (first % 16) d.1 l.0 l.1
                (AreBytes-rest said.more d.1 (subst AreBytes said.parts fits)) small' q.1 in
                let says : HeadsOption first bytes d.0 l.0 l.1 = record {
                  more_delta = said.more;
                  more_len = said'.more;
                  number = said.says;
                  value = said'.says;
                  parts = said.parts ∙ ap (λ (t : List ℕ). said.more ++ t) said'.parts;
                } in
                elim (value_bad (base + d.0) l.0 l.1 r q.2) [
                  | inl v ↦ subst bad (sym v.0) (delta, len, (d.0, l.0, l.1, says, v.1))
                  | inr v ↦ subst bad (sym v.0) (delta, len, inr (d.0, l.0, l.1, says, v.1, v.2))
                ]
          ]
    ]

pub option_bad : (base first : ℕ) (bytes : List ℕ) (d : Reason) → AreBytes (first ∷ bytes) → first ≢ 255
    → option_at base (first ∷ bytes) ≡ Err d → BadRest base (first ∷ bytes) d
unfolding option_at
option_bad base first bytes d fits unmarked e =
    let read = nibbles_at base (first / 16) (first % 16) bytes in
    let bad = BadRest base (first ∷ bytes) in
    elim (chosen (eqb (first / 16) 15) (fault DeltaReserved) (cond (eqb (first % 16) 15) (fault LengthReserved) read)
    (Err d) e) [
      | inl p ↦ subst bad (err_is DeltaReserved d p.1) (eqb-true (first / 16) 15 p.0, unmarked)
      | inr p ↦
          let delta : first / 16 ≢ 15 = eqb-false (first / 16) 15 p.0 in
          elim (chosen (eqb (first % 16) 15) (fault LengthReserved) read (Err d) p.1) [
            | inl q ↦ subst bad (err_is LengthReserved d q.1) (eqb-true (first % 16) 15 q.0, delta)
            | inr q ↦ nibbles_bad base first bytes d (AreBytes-tail first bytes fits)
                (byte_at (first ∷ bytes) fits 0) delta (eqb-false (first % 16) 15 q.0) q.1
          ]
    ]

-- ---- and back

value_large : (number len : ℕ) (bytes : List ℕ) → 2 ^ 16 ≤ number → value_at number len bytes ≡ Err NumberTooLarge
unfolding value_at
value_large number len bytes p = rw (lt-ltb 65535 number (omega arith)) refl

value_cut : (number len : ℕ) (bytes : List ℕ) → number < 2 ^ 16 → length bytes < len
    → value_at number len bytes ≡ Err OptionCut
unfolding value_at
value_cut number len bytes p q = rw (le-ltb 65535 number (omega arith), lt-ltb (length bytes) len q) refl

nibbles_say : (base first : ℕ) (bytes : List ℕ) (delta len : ℕ) (rest : List ℕ) → HeadsOption first bytes delta len rest
    → nibbles_at base (first / 16) (first % 16) bytes ≡ value_at (base + delta) len rest
unfolding nibbles_at
nibbles_say base first bytes delta len rest s =
    rw (
      s.parts,
      extended_again delta (first / 16) s.more_delta (s.more_len ++ rest) s.number,
      extended_again len (first % 16) s.more_len rest s.value,
    ) refl

nibbles_short : (base delta len : ℕ) (bytes : List ℕ) → AreBytes bytes → delta < 15 → len < 15
    → length bytes < needs delta + needs len → nibbles_at base delta len bytes ≡ Err OptionCut
unfolding nibbles_at
nibbles_short base delta len bytes fits small small' p =
    elim (cases_result (extended delta bytes)) [
      | inr h ↦ rw h.1 (ap fault (extended_missing delta bytes h.0 small h.1).0)
      | inl h ↦
          let d = h.0 in
          let said = extended_reads delta bytes d.0 d.1 fits small h.1 in
          let n = Ext-needs d.0 delta said.more said.says in
          let whole : length bytes ≡ length said.more + length d.1 = ap length said.parts
          ∙ length-append said.more d.1 in
          elim (cases_result (extended len d.1)) [
            | inr k ↦ rw (h.1, k.1) (ap fault (extended_missing len d.1 k.0 small' k.1).0)
            | inl k ↦
                let said' = extended_reads len d.1 k.0.0 k.0.1
                (AreBytes-rest said.more d.1 (subst AreBytes said.parts fits)) small' k.1 in
                let n' = Ext-needs k.0.0 len said'.more said'.says in
                let whole' : length d.1 ≡ length said'.more + length k.0.1 = ap length said'.parts
                ∙ length-append said'.more k.0.1 in
                absurd (omega (arith, n, n'))
          ]
    ]

-- a rest that is bad begins no option, for that reason
pub option_bad_again : (base first : ℕ) (bytes : List ℕ) (d : Reason) → AreBytes (first ∷ bytes) → d ≢ NoPayload
    → BadRest base (first ∷ bytes) d → (option_at base (first ∷ bytes) ≡ Err d) × (first ≢ 255)
unfolding option_at
option_bad_again base first bytes Short fits n h = absurd h
option_bad_again base first bytes Version fits n h = absurd h
option_bad_again base first bytes TokenLength fits n h = absurd h
option_bad_again base first bytes TokenCut fits n h = absurd h
option_bad_again base first bytes EmptyNotBare fits n h = absurd h
option_bad_again base first bytes DeltaReserved fits n h = (rw (eq-eqb (first / 16) 15 h.0) refl, h.1)
option_bad_again base first bytes LengthReserved fits n h =
    (rw (ne_eqb (first / 16) 15 h.1, eq-eqb (first % 16) 15 h.0) refl, λ e. h.1 (omega arith))
option_bad_again base first bytes OptionCut fits n h =
    let byte : first < 256 = byte_at (first ∷ bytes) fits 0 in
    let unmarked : first ≢ 255 = λ e. h.0 (omega arith) in
    elim h.2 [
      | inl s ↦ (
        rw (ne_eqb (first / 16) 15 h.0, ne_eqb (first % 16) 15 h.1)
            (nibbles_short base (first / 16) (first % 16) bytes (AreBytes-tail first bytes fits) (omega arith)
            (omega arith) s),
        unmarked,
      )
      | inr s ↦ (
        rw (ne_eqb (first / 16) 15 h.0, ne_eqb (first % 16) 15 h.1)
            (nibbles_say base first bytes s.0 s.1 s.2 s.3 ∙ value_cut (base + s.0) s.1 s.2 s.4 s.5),
        unmarked,
      )
    ]
option_bad_again base first bytes NumberTooLarge fits n h =
    let s = h.2 in (
      rw (ne_eqb (first / 16) 15 h.0, ne_eqb (first % 16) 15 h.1)
          (nibbles_say base first bytes s.0 s.1 s.2 s.3 ∙ value_large (base + s.0) s.1 s.2 s.4),
      λ e. h.0 (omega arith),
    )
option_bad_again base first bytes NoPayload fits n h = absurd (n refl)

-- ---- payloads

pub payload_reads : (reason : Reason) (rest payload : List ℕ) → payload_at reason rest ≡ Ok payload
    → rest ≡ marked payload
unfolding payload_at
payload_reads reason [] payload e = ap marked (ok_is [] payload e)
payload_reads reason (first ∷ []) payload e =
    elim (chosen (eqb first 255) (fault NoPayload) (fault reason) (Ok payload) e)
    [ inl p ↦ absurd cc | inr p ↦ absurd cc ]
payload_reads reason (first ∷ b ∷ bytes) payload e =
    elim (chosen (eqb first 255) (done (b ∷ bytes)) (fault reason) (Ok payload) e) [
      | inl p ↦ rw (eqb-true first 255 p.0) (ap marked (ok_is (b ∷ bytes) payload p.1))
      | inr p ↦ absurd cc
    ]

pub payload_again : (reason : Reason) (payload : List ℕ) → payload_at reason (marked payload) ≡ Ok payload
unfolding payload_at
payload_again reason [] = refl
payload_again reason (b ∷ bytes) = refl

pub marked_ends : (base : ℕ) (payload : List ℕ) → (r : Reason) × (option_at base (marked payload) ≡ Err r)
unfolding option_at
marked_ends base [] = (OptionCut, refl)
marked_ends base (b ∷ bytes) = (DeltaReserved, refl)

pub payload_bad : (base : ℕ) (reason : Reason) (rest : List ℕ) (d : Reason) → AreBytes rest
    → option_at base rest ≡ Err reason → payload_at reason rest ≡ Err d → BadRest base rest d
unfolding payload_at
payload_bad base reason [] d fits e p = absurd cc
payload_bad base reason (first ∷ []) d fits e p =
    elim (chosen (eqb first 255) (fault NoPayload) (fault reason) (Err d) p) [
      | inl q ↦ subst (BadRest base (first ∷ [])) (err_is NoPayload d q.1) (eqb-true first 255 q.0, refl)
      | inr q ↦ subst (BadRest base (first ∷ [])) (err_is reason d q.1)
          (option_bad base first [] reason fits (eqb-false first 255 q.0) e)
    ]
payload_bad base reason (first ∷ b ∷ bytes) d fits e p =
    elim (chosen (eqb first 255) (done (b ∷ bytes)) (fault reason) (Err d) p) [
      | inl q ↦ absurd cc
      | inr q ↦ subst (BadRest base (first ∷ b ∷ bytes)) (err_is reason d q.1)
          (option_bad base first (b ∷ bytes) reason fits (eqb-false first 255 q.0) e)
    ]

cases_no_payload : (d : Reason) → (d ≡ NoPayload) ⊎ (d ≢ NoPayload)
cases_no_payload NoPayload = inl refl
cases_no_payload Short = inr (λ e. cc)
cases_no_payload Version = inr (λ e. cc)
cases_no_payload TokenLength = inr (λ e. cc)
cases_no_payload TokenCut = inr (λ e. cc)
cases_no_payload EmptyNotBare = inr (λ e. cc)
cases_no_payload DeltaReserved = inr (λ e. cc)
cases_no_payload LengthReserved = inr (λ e. cc)
cases_no_payload OptionCut = inr (λ e. cc)
cases_no_payload NumberTooLarge = inr (λ e. cc)

payload_unmarked : (reason : Reason) (first : ℕ) (bytes : List ℕ) → first ≢ 255
    → payload_at reason (first ∷ bytes) ≡ Err reason
unfolding payload_at
payload_unmarked reason first [] n = rw (ne_eqb first 255 n) refl
payload_unmarked reason first (b ∷ bytes) n = rw (ne_eqb first 255 n) refl

payload_none : (reason : Reason) (first : ℕ) (bytes : List ℕ) → first ≡ 255 → bytes ≡ []
    → payload_at reason (first ∷ bytes) ≡ Err NoPayload
unfolding payload_at
payload_none reason first [] e f = rw e refl
payload_none reason first (b ∷ bytes) e f = absurd cc

pub payload_bad_again : (base : ℕ) (reason : Reason) (rest : List ℕ) (d : Reason) → AreBytes rest
    → option_at base rest ≡ Err reason → BadRest base rest d → payload_at reason rest ≡ Err d
payload_bad_again base reason [] d fits e h = absurd h
payload_bad_again base reason (first ∷ bytes) d fits e h =
    elim (cases_no_payload d) [
      | inl is ↦ let h' : BadRest base (first ∷ bytes) NoPayload =
          subst (BadRest base (first ∷ bytes)) is h in rw is (payload_none reason first bytes h'.0 h'.1)
      | inr other ↦
          let a = option_bad_again base first bytes d fits other h in
          let same : reason ≡ d = err_is {A = CoapOption × List ℕ} reason d (sym e ∙ a.0) in
          payload_unmarked reason first bytes a.1 ∙ ap fault same
    ]

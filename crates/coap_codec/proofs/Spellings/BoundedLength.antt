-- A message that can be spelled has a spelling of bounded length.
use Rattle.std.proofs.Common.{ℕ, ◌+◌, ◌-◌, ◌≤◌, List, [], ◌∷◌, length, arith, inl, inr}
use Rattle.std.proofs.lemmas.Bool.{cases_lt, lt-ltb, le-ltb}
use Rattle.std.proofs.lemmas.List.{length-append}
use Rattle.coap_types.specs.CoapOption.{CoapOption}
use Rattle.coap_codec.specs.Message.{marked}
use Rattle.coap_codec.specs.BoundedSpelling.{most_bytes, BoundedSpelling}
use Rattle.coap_codec.specs.Spelling.{more, option_bytes, options_bytes, message_bytes}
use Rattle.coap_codec.proofs.Spellings.WhatIsWritten.{spelled_by}

length-more : (n : ℕ) → length (more n) ≤ 2
length-more n =
    elim (cases_lt n 13) [
      | inl p ↦ rw (lt-ltb n 13 p) (omega arith)
      | inr p ↦ elim (cases_lt n 269) [
        | inl q ↦ rw (le-ltb n 13 p, lt-ltb n 269 q) (omega arith)
        | inr q ↦ rw (le-ltb n 13 p, le-ltb n 269 q) (omega arith)
      ]
    ]

length-option : (base : ℕ) (o : CoapOption) → length (option_bytes base o) ≤ 5 + length o.value
unfolding option_bytes
length-option base o =
    let delta = length-more (o.number - base) in
    let len = length-more (length o.value) in
    simp length-append (omega (arith, delta, len))

options_bounded : (os : List CoapOption) (base : ℕ) → length (options_bytes base os) ≤ most_bytes os
unfolding options_bytes
options_bounded [] base = omega arith
options_bounded (o ∷ os) base = omega (
  arith,
  length-append (option_bytes base o) (options_bytes o.number os),
  length-option base o,
  options_bounded os o.number,
)

length-marked : (payload : List ℕ) → length (marked payload) ≤ 1 + length payload
length-marked [] = omega arith
length-marked (b ∷ bytes) = omega arith

pub bounded_spelling : BoundedSpelling
bounded_spelling m can = (
  message_bytes m,
  spelled_by m can,
  let last = length-marked m.payload in let most =
      options_bounded m.options 0 in simp length-append (omega (arith, last, most)),
)

-- What is newer within 128 s is a later version.
use Rattle.std.proofs.Common.{inl, inr, arith}
use Rattle.coap_observe.specs.Versions.{NewerIsLater}

pub newer_is_later : NewerIsLater
newer_is_later v w s t near young newer =
    let a = near.0 in let b = near.1 in elim newer [
      | inl up ↦ (let x = up.0 in let y = up.1 in omega (arith, a, b, x, y))
      | inr other ↦ elim other [
        | inl wrapped ↦ (let x = wrapped.0 in let y = wrapped.1 in omega (arith, a, b, x, y))
        | inr late ↦ absurd (omega (arith, young, late))
      ]
    ]

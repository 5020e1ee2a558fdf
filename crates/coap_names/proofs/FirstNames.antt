-- The first names are in 0.0.0.0/8.
use Rattle.std.proofs.Common.{◌≡◌, ℕ, ◌/◌, ◌^◌, ◌<◌, [], ◌∷◌, take, ap, ◌∙◌, arith}
use Rattle.std.specs.Int.{to_be_bytes, byte_at, w32}
use Rattle.coap_types.specs.declared.endpoint.Endpoint.{Endpoint}
use Rattle.coap_names.specs.declared.numbering.Numbering.TheVariants.{ThisNetwork}
use Rattle.coap_names.specs.declared.numbering.TheConstants.{PORTS as ports}
use Rattle.coap_names.specs.Numbered.{IsOf}

first_byte : (m : ℕ) → m < 2 ^ 24 → take 1 (to_be_bytes w32 m) ≡ 0 ∷ []
first_byte m small = let first : byte_at 3 m ≡ 0 = omega arith in ap (λ b. b ∷ []) first

pub in_this_network : (name : Endpoint) → IsOf ThisNetwork name → take 1 name.ip ≡ 0 ∷ []
in_this_network name it =
    let within = it.within in
    let small : it.number / ports < 2 ^ 24 = omega arith in
    ap (λ (e : Endpoint). take 1 e.ip) it.is ∙ first_byte (it.number / ports) small

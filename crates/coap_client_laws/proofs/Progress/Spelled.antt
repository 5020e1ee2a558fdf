-- The request of a call that is taken has a spelling.
use Rattle.std.proofs.Common.{◌≡◌, ◌≤◌, ◌<◌, ◌-◌, ℕ, true, false, nat_lt, List, [], ◌∷◌, ◌++◌, length, refl, arith}
use Rattle.std.specs.List.{list_all}
use Rattle.std.proofs.lemmas.List.{length-append}
use Rattle.std.proofs.lemmas.Bool.Decides.{nat_tests}
use Rattle.coap_types.specs.CoapOption.{CoapOption}
use Rattle.coap_types.specs.MethodCode.{method_code}
use Rattle.coap_types.specs.declared.request.Method.{Method}
use Rattle.coap_types.specs.declared.request.Method.TheVariants.{Get, Post, Put, Delete}
use Rattle.coap_codec.specs.Refused.{is_short}
use Rattle.coap_codec.specs.Spelling.{more, option_bytes, options_bytes}
use Rattle.std.proofs.lemmas.Bool.{le-leb, and_from}
use Rattle.coap_client.specs.declared.limits.TheConstants.{MAX_OPTIONS_LEN as max_options}

-- options whose bytes are few are short
pub short_front : (os tail : List CoapOption) (base : ℕ) → length (options_bytes base (os ++ tail)) ≤ 115
    → list_all is_short os ≡ true
unfolding option_bytes options_bytes
short_front [] tail base h = refl
short_front (o ∷ os) tail base h =
    let rest : List ℕ = options_bytes o.number (os ++ tail) in
    let all = length-append (option_bytes base o) rest in
    let delta = length-append (more (o.number - base)) (more (length o.value) ++ o.value) in
    let value = length-append (more (length o.value)) o.value in
    let here : length o.value ≤ 65804 = omega (arith, h, all, delta, value) in
    let there : length rest ≤ 115 = omega (arith, h, all) in
    and_from _ _ (le-leb (length o.value) 65804 here) (short_front os tail o.number there)

-- the code of a method is one byte other than 0.00
pub code_of : (m : Method) → ((method_code m).0 < 256) × (0 < (method_code m).0)
code_of Get = (omega arith, omega arith)
code_of _ = (omega arith, omega arith)

pub not_more : (n : ℕ) → nat_lt max_options n ≡ false → n ≤ 115
not_more n h = grind (arith, nat_tests)

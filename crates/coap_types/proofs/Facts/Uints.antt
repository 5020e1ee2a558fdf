-- Numbers in the uint format: each of 32 bits has one spelling, which is read back.
use Rattle.std.proofs.Common.{◌≡◌, ℕ, ◌^◌, ◌<◌, ◌≤◌, List, length, Some}
use Rattle.coap_types.specs.Uint.{IsSpelling, uint, uint_value}
use Rattle.coap_types.proofs.Values.UintsHaveOneSpelling as U

pub one_spelling : (xs ys : List ℕ) (number : ℕ) → IsSpelling xs number → IsSpelling ys number → xs ≡ ys
one_spelling = U.one_spelling

pub uint_spells : (number : ℕ) → number < 2 ^ 32 → IsSpelling (uint number) number
uint_spells = U.uint_spells

pub uint_read : (number : ℕ) → number < 2 ^ 32 → uint_value (uint number) ≡ Some number
uint_read = U.uint_read

pub few_bytes : (bytes : List ℕ) (number most : ℕ) → IsSpelling bytes number → number < 256 ^ most → length bytes ≤ most
few_bytes = U.few_bytes

-- Tokens of the counter differ, and the tests on tokens decide.
use Rattle.std.proofs.Common.{◌≡◌, ℕ, ◌+◌, ◌%◌, ◌^◌, ◌<◌, [], ◌++◌, ap, sym, ◌∙◌, arith}
use Rattle.byteorder.specs.Endian.{big_bytes, big_from}
use Rattle.byteorder.specs.Numbers.{big_number-reads_back}
use Rattle.coap_exchange.specs.Tokens.{token_of}

number_below : (x : ℕ) → x % 2 ^ 64 < 256 ^ 8
number_below x = omega arith

numbers_same : (x y : ℕ) → big_bytes 8 (x % 2 ^ 64) ≡ big_bytes 8 (y % 2 ^ 64) → x % 2 ^ 64 ≡ y % 2 ^ 64
numbers_same x y e =
    sym (big_number-reads_back 8 (x % 2 ^ 64) [] (number_below x))
    ∙ (ap (λ z. big_from 0 8 (z ++ [])) e ∙ big_number-reads_back 8 (y % 2 ^ 64) [] (number_below y))

-- two counts of fewer than 2^64 tokens give two tokens
pub tokens_apart : (word k g : ℕ) → k < g → g < 2 ^ 64 → token_of word k ≡ token_of word g → ⊥
tokens_apart word k g lt small e = let n = numbers_same (word + k) (word + g) e in omega (arith, n, lt, small)

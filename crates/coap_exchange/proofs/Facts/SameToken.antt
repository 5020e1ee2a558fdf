-- The test on tokens decides.
use Rattle.std.proofs.Common.{◌≡◌, ℕ, true, List, refl}
use Rattle.std.specs.Cmp.Lexicographic.{bytes_decides}
use Rattle.coap_exchange.specs.Tokens.{same_token}

pub same_token_is : (a b : List ℕ) → same_token a b ≡ true → a ≡ b
same_token_is a b h = (bytes_decides a b).0 h

pub same_token_self : (a : List ℕ) → same_token a a ≡ true
same_token_self a = (bytes_decides a a).1 refl

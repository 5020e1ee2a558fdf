-- The tokens of a client's requests (RFC 7252, section 5.3.1), and those that it keeps for its observations (RFC 7641,
-- section 3.2).
use Rattle.std.specs.Prelude.{ℕ, ◌+◌, ◌-◌, ◌%◌, ◌^◌, ◌==◌, nat_eq, nat_lt, Bool, List, [], ◌∷◌, ◌++◌, length, filter}
use Rattle.std.specs.Prelude.{if◌then◌else◌, ◌||◌, not}
use Rattle.std.specs.List.{list_any}
use Rattle.std.specs.Cmp.Lexicographic.{pointwise}
use Rattle.coap_exchange.specs.declared.kept_tokens.TheConstants.{MAX_KEPT as most_kept}
use Rattle.byteorder.specs.Endian.{big_bytes}
use Rattle.coap_types.specs.declared.token.TheConstants.{MAX_TOKEN_LEN as max_token_len}

abbrev pub same_token : List ℕ → List ℕ → Bool
same_token = pointwise nat_eq

-- the token that is given next: 8 bytes, most significant first, of a counter that begins at the word and wraps
-- (profile)
abbrev pub token_of : (word given : ℕ) → List ℕ
token_of word given = big_bytes max_token_len ((word + given) % 2 ^ 64)

-- no further token is given
abbrev pub is_spent : ℕ → Bool
is_spent given = given == 2 ^ 64 - 1

-- the kept tokens, at most so many (profile)
abbrev pub max_kept : ℕ
max_kept = most_kept

abbrev pub is_kept : List ℕ → List (List ℕ) → Bool
is_kept token kept = list_any (same_token token) kept

-- whether a token is kept from now on: it was, or there is a place
abbrev pub may_keep : List ℕ → List (List ℕ) → Bool
may_keep token kept = is_kept token kept || nat_lt (length kept) max_kept

abbrev pub kept_with : List ℕ → List (List ℕ) → List (List ℕ)
kept_with token kept =
    if is_kept token kept then kept else if nat_lt (length kept) max_kept then kept ++ token ∷ [] else kept

abbrev pub kept_without : List ℕ → List (List ℕ) → List (List ℕ)
kept_without token kept = filter (λ other. not (same_token token other)) kept

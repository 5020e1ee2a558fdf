-- How many calls of a kind there were: from a moment on, and in EXCHANGE_LIFETIME (RFC 7252, section 4.8.2).
use Rattle.std.specs.Prelude.{ℕ, ◌+◌, ◌<◌, nat_le, Bool, ◌&&◌, List, [], ◌∷◌, if◌then◌else◌}
use Rattle.coap_layer.specs.Taking.{is_then}

-- the moment of a call is that at which the calls have come with it
module _ {Call : Type 0} (clock : List Call → ℕ) (counted : Call → Bool) where
  -- from this moment on
  abbrev pub count_since : ℕ → List Call → ℕ
  count_since u [] = 0
  count_since u (c ∷ past) =
      if counted c && nat_le u (clock (c ∷ past)) then 1 + count_since u past else count_since u past

  -- .. for EXCHANGE_LIFETIME
  abbrev pub count_then : ℕ → List Call → ℕ
  count_then u [] = 0
  count_then u (c ∷ past) =
      if counted c && is_then u (clock (c ∷ past)) then 1 + count_then u past else count_then u past

  -- fewer than so many, whenever that is
  abbrev pub AreFew : ℕ → List Call → Type 0
  AreFew most t = (since : ℕ) → count_then since t < most

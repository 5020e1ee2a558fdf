-- What a store is made with (RFC 7641, section 4.4; RFC 7959, section 7).
use Rattle.std.specs.Prelude.{ℕ}
use Rattle.coap_types.specs.declared.body_limit.TheConstants.{DEFAULT_BODY_LIMIT as default_limit}

-- how many changes a window takes, the longest body that is held, and after which version the versions begin
pub record Limits : Type 0 where
  pub changes : ℕ
  pub body : ℕ
  pub base : ℕ

-- .. where the first version is 1
abbrev pub sized_limits : ℕ → ℕ → Limits
sized_limits changes body = record { changes = changes; body = body; base = 0 }

-- .. and no other length is chosen
abbrev pub usual_limits : ℕ → Limits
usual_limits changes = sized_limits changes default_limit

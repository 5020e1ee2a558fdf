-- The version after which the versions of a store begin (RFC 7641, section 3.4, for the sequence numbers).
use Rattle.std.specs.Prelude.{◌≡◌, ◌<◌, ℕ, ◌*◌, ◌/◌, ◌%◌}
use Rattle.coap_resource.specs.declared.version_base.TheConstants.{BASE_STEP as base_step, BASE_BOUND as base_bound}

-- a multiple of 2 ^ 24, since a sequence number is a version modulo 2 ^ 24, and below 2 ^ 63
pub record IsBase (base : ℕ) : Type 0 where
  pub multiple : base % base_step ≡ 0
  pub below : base < base_bound

-- the base that a word chooses, each one equally often
abbrev pub base_of_word : ℕ → ℕ
base_of_word word = (word % (base_bound / base_step)) * base_step

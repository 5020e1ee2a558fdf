-- The sizes that an end is made with (RFC 7959, sections 2.4, 2.5 and 7).
use Rattle.std.specs.Prelude.{ℕ}
use Rattle.coap_types.specs.declared.body_limit.TheConstants.{DEFAULT_BODY_LIMIT as default_limit}

-- the block size of an end, and the longest body that it joins, RFC 7959 section 7
pub record Sizes : Type 0 where
  pub szx : ℕ
  pub limit : ℕ

-- where no other limit is chosen
abbrev pub usual_sizes : ℕ → Sizes
usual_sizes szx = record { szx = szx; limit = default_limit }

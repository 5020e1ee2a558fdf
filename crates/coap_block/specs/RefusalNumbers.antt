-- The numbers of the refusals of a part of a body (RFC 7959, section 2.4).
use Rattle.std.specs.Prelude.{ℕ}
use Rattle.coap_block.specs.declared.fetch_step.FetchRefusal.{FetchRefusal}
use Rattle.coap_block.specs.declared.fetch_step.FetchRefusal.TheVariants as fetch

-- the number of the refusal of a part
abbrev pub fetch_refusal_number : FetchRefusal → ℕ
fetch_refusal_number fetch.BadBlock = 1
fetch_refusal_number fetch.NoTag = 2
fetch_refusal_number fetch.TooLarge = 3
fetch_refusal_number fetch.Changed = 4

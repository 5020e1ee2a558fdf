-- What a request asks, and which block it uploads, is what its message says (RFC 7252, section 5.8; RFC 7959, section
-- 2.2).
use Rattle.std.specs.Prelude.{◌≡◌, ℕ, Some, None}
use Rattle.coap_codec.specs.Message.{Message}
use Rattle.coap_resource.specs.Serves.{Question}
use Rattle.coap_server.specs.Checks.{Verdict, Asks, Uploads, verdict_on, question, asks}
use Rattle.coap_types.specs.MethodCode.{method_of}
use Rattle.coap_types.specs.declared.option_number.TheConstants.{BLOCK1 as block1}
use Rattle.coap_types.specs.OptionValues.{uint_at}
use Rattle.coap_types.specs.BlockValue.{block_by}

-- what a request asks, of its message: the method by its code, its options, and its payload as the body
pub record ReadsAs (szx : ℕ) (m : Message) (q : Question) : Type 0 where
  pub method : method_of m.code ≡ Some q.method
  pub is : q ≡ question szx q.method m

-- without Block1 it is asked as it came; with Block1 it uploads that block
abbrev pub ReadsOf : ℕ → Message → Verdict → Type 0
ReadsOf szx m (Asks q) = ReadsAs szx m q × (uint_at block1 (asks m) ≡ None)
ReadsOf szx m (Uploads q b) = ReadsAs szx m q × ((n : ℕ) × (uint_at block1 (asks m) ≡ Some n) × (block_by n ≡ Some b))
ReadsOf szx m _ = Unit {0}

abbrev pub VerdictsRead : Type 0
VerdictsRead = (szx : ℕ) (m : Message) → ReadsOf szx m (verdict_on szx m)

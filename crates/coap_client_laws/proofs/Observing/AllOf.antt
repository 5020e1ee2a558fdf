-- A message that has all of a representation is the last part of it.
use Rattle.std.proofs.Common.{◌≡◌, ◌≤◌, inl, inr, ℕ, ◌+◌, ◌*◌, Bool, true, false, cond, not, ◌&&◌, ◌||◌, Option, Some}
use Rattle.std.proofs.Common.{None}
use Rattle.std.proofs.Common.{List, refl, ap, ◌∙◌, arith, length}
use Rattle.std.specs.Prelude.{nat_lt, nat_le}
use Rattle.std.proofs.lemmas.Bool.{le-leb, le-ltb}
use Rattle.coap_types.specs.OptionValues.{value_of}
use Rattle.coap_types.specs.BlockValue.{block_in}
use Rattle.coap_types.specs.Piece.{size_of}
use Rattle.coap_types.specs.declared.block.Block.{Block}
use Rattle.coap_types.specs.declared.option_number.TheConstants.{BLOCK2 as block2}
use Rattle.coap_codec.specs.Message.{Message}
use Rattle.coap_block.specs.Sizes.{Sizes}
use Rattle.coap_block.specs.FetchStep as F
use Rattle.coap_block.specs.declared.fetch_step.FetchRefusal.TheVariants as refusal
use Rattle.coap_block.specs.declared.fetch_verdict.Verdict.TheVariants as verdict
use Rattle.coap_client.specs.Trace.{Value}
use Rattle.coap_client.specs.Effects.{of}
use Rattle.coap_client.specs.Fetching.{value}
use Rattle.coap_client.specs.Observing.{first_value}
use Rattle.coap_client.specs.Responses.{said, part_by, part, sequence_in, tag_in, format_in}
use Rattle.coap_client_laws.specs.Follows.Noticed.{IsAllOf}
use Rattle.coap_client_laws.proofs.Fetching.FetchUnchanged.{or_right as or_true}

done_if : (sized over : Bool) → sized ≡ true → over ≡ false
    → cond (not sized) (verdict.Refuse refusal.BadBlock) (cond over (verdict.Refuse refusal.TooLarge) verdict.Done)
    ≡ verdict.Done
done_if false over p q = absurd (cc p)
done_if true true p q = absurd (cc q)
done_if true false p q = refl

module _ (sizes : Sizes) (tag : Option (List ℕ)) (len : ℕ) (short : len ≤ sizes.limit) where
  -- the first block, and no more
  one_block : (szx : ℕ) → len ≤ size_of szx
      → F.verdict (F.start sizes 0) (Some (record { num = 0; more = false; szx = szx })) tag len ≡ verdict.Done
  one_block szx fits =
      let sized : (nat_le len (size_of szx) && (nat_lt 0 len || true)) ≡ true =
      ap (λ b. b && (nat_lt 0 len || true)) (le-leb len (size_of szx) fits) ∙ or_true (nat_lt 0 len) in
      done_if (nat_le len (size_of szx) && (nat_lt 0 len || true)) (nat_lt sizes.limit (0 * size_of szx + len)) sized
      (le-ltb sizes.limit (0 * size_of szx + len) (omega (arith, short)))

  block_done : (b : Block) → b.num ≡ 0 → b.more ≡ false → len ≤ size_of b.szx
      → F.verdict (F.start sizes 0) (Some b) tag len ≡ verdict.Done
  block_done b first last fits =
      let same : b ≡ record { num = 0; more = false; szx = b.szx } =
      ap (λ n. record { num = n; more = b.more; szx = b.szx }) first
      ∙ ap (λ x. record { num = 0; more = x; szx = b.szx }) last in
      ap (λ x. F.verdict (F.start sizes 0) (Some x) tag len) same ∙ one_block b.szx fits

  part_done : (o : Option (List ℕ)) → (b : Block) → elim o [ None ↦ None | Some v ↦ block_in v ] ≡ Some b
      → b.num ≡ 0 → b.more ≡ false → len ≤ size_of b.szx → part_by (F.start sizes 0) tag len o ≡ verdict.Done
  part_done None b is first last fits = absurd (cc is)
  part_done (Some v) b is first last fits =
      ap (λ x. elim x [
        | None ↦ verdict.Refuse refusal.BadBlock
        | Some y ↦ F.verdict (F.start sizes 0) (Some y) tag len
      ]) is
      ∙ block_done b first last fits

all_done : (sizes : Sizes) (m : Message) → IsAllOf m → length m.payload ≤ sizes.limit
    → part (F.start sizes 0) m ≡ verdict.Done
all_done sizes m (inl none) short =
    ap (part_by (F.start sizes 0) (tag_in m) (length m.payload)) none
    ∙ ap (λ b. cond b (verdict.Refuse refusal.TooLarge) verdict.Done) (le-ltb sizes.limit (length m.payload) short)
all_done sizes m (inr b) short =
    part_done sizes (tag_in m) (length m.payload) short (value_of block2 (said m)) b.block b.is b.first b.last b.fits

-- so it is a value
pub all_shown : (sizes : Sizes) (number : ℕ) (m : Message) → IsAllOf m → length m.payload ≤ sizes.limit
    → first_value number sizes m ≡ of number (Value (sequence_in m) (tag_in m) (format_in m) m.payload)
all_shown sizes number m all short =
    ap (value number (sequence_in m) (F.start sizes 0) m) (all_done sizes m all short)

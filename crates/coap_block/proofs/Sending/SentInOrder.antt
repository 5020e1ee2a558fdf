-- The parts that an upload sends are its body in order.
use Rattle.std.proofs.Common.{◌≡◌, inl, inr, ℕ, Bool, true, false, ◌&&◌, ◌||◌, ◌==◌, nat_le, nat_lt, ◌+◌, ◌<◌, ◌≤◌}
use Rattle.std.proofs.Common.{◌++◌, ◌∙◌, List, [], ◌∷◌, length, take, drop, refl, ap, arith, length-append}
use Rattle.std.proofs.lemmas.Bool.Decides.{nat_tests}
use Rattle.std.proofs.lemmas.List.{length-take, length-drop}
use Rattle.coap_types.specs.declared.block.TheConstants.{MAX_NUM as max_num}
use Rattle.coap_types.specs.Piece.{size_of, offset_of, part_of, Begins}
use Rattle.coap_block.specs.Whole.{Part, joined, IsPieceOf, Chained}
use Rattle.coap_block.specs.UploadStep.{UploadState, more_follows, number_after, KeepsSize, keeps_size}
use Rattle.coap_block.specs.UploadStep.{ContinuesIsTested}
use Rattle.coap_block.specs.Sent.{part_to_send, Sent, SentByPart, WholeBySent}
use Rattle.coap_block.proofs.Facts.Parts.{each_behind, chained_behind, joined_behind, ends_behind}
use Rattle.coap_block.proofs.Facts.Sizes.{aligned_to}
use Rattle.coap_block.proofs.Fetching.WholeByParts.{and_left, and_right, same_number}

keeps_at_most : (s : UploadState) (szx : ℕ) → KeepsSize s szx → szx ≤ s.szx
keeps_at_most s szx (inl e) = omega (arith, e)
keeps_at_most s szx (inr h) = let lt = h.1 in omega (arith, lt)

sent_is_piece : (s : UploadState) → Begins s.body s.num s.szx → IsPieceOf s.body (part_to_send s)
sent_is_piece s b = record {
  bytes = refl;
  begins = b;
  reaches_end = ((λ h. grind (arith, nat_tests)), (λ h. grind (arith, nat_tests)));
}

sent_chained : (parts : List Part) (s : UploadState) → Sent parts s → Chained 0 (parts ++ part_to_send s ∷ [])
sent_chained parts s w = chained_behind 0 parts (part_to_send s) w.chained (let at = w.at in omega (arith, at))

pub whole_by_sent : WholeBySent
whole_by_sent parts s w last = record {
  pieces = each_behind (IsPieceOf s.body) parts (part_to_send s) w.pieces (sent_is_piece s w.begins);
  chained = sent_chained parts s w;
  ends = ends_behind parts (part_to_send s) last;
}

more_is : (a b : ℕ) → nat_lt a b ≡ true → a < b
more_is a b h = grind (arith, nat_tests)

full_len : (body : List ℕ) (at size : ℕ) → at + size < length body → length (take size (drop at body)) ≡ size
full_len body at size h = omega (arith, length-take size (drop at body), length-drop at body, h)

pub sent_by_part : SentByPart
sent_by_part parts s answer w k =
    let lt = more_is (offset_of s.num s.szx + size_of s.szx) (length s.body) k.0 in
    let full = full_len s.body (offset_of s.num s.szx) (size_of s.szx) lt in
    let next = aligned_to s.num s.szx answer.szx (keeps_at_most s answer.szx k.3) in
    let len = ap length (joined_behind parts (part_to_send s))
    ∙ length-append (joined parts) (part_of s.body s.num s.szx) in
    let at = w.at in
    record {
      pieces = each_behind (IsPieceOf s.body) parts (part_to_send s) w.pieces (sent_is_piece s w.begins);
      chained = sent_chained parts s w;
      at = omega (arith, next, len, at, full);
      begins = inl (omega (arith, next, lt));
    }

-- the test of an answer
and_parts : (a b c d e : Bool) → (a && (b && (c && (d && e)))) ≡ true
    → (a ≡ true) × (b ≡ true) × (c ≡ true) × (d ≡ true) × (e ≡ true)
and_parts true true true true true h = (refl, refl, refl, refl, refl)
and_parts a b c d e h = absurd cc

and_all : (a b c d e : Bool) → a ≡ true → b ≡ true → c ≡ true → d ≡ true → e ≡ true
    → (a && (b && (c && (d && e)))) ≡ true
and_all a b c d e ha hb hc hd he = rw (ha, hb, hc, hd, he) refl

keeps_tested : (s : UploadState) (szx : ℕ) → keeps_size s szx ≡ true → KeepsSize s szx
keeps_tested s szx h = by (szx == s.szx) ((s.num == 0) && nat_lt szx s.szx) refl refl h
  where
    by : (a b : Bool) → (szx == s.szx) ≡ a → ((s.num == 0) && nat_lt szx s.szx) ≡ b → (a || b) ≡ true → KeepsSize s szx
    by true b ha hb h = inl (same_number szx s.szx ha)
    by false true ha hb h =
        let z = same_number s.num 0 (and_left (s.num == 0) (nat_lt szx s.szx) hb) in
        inr (z, more_is szx s.szx (and_right (s.num == 0) (nat_lt szx s.szx) hb))
    by false false ha hb h = absurd cc

tests_equal : (a b : ℕ) → a ≡ b → (a == b) ≡ true
tests_equal a b h = grind (arith, nat_tests)

tests_less : (a b : ℕ) → a < b → nat_lt a b ≡ true
tests_less a b h = grind (arith, nat_tests)

tests_most : (a b : ℕ) → a ≤ b → nat_le a b ≡ true
tests_most a b h = grind (arith, nat_tests)

at_most : (a b : ℕ) → nat_le a b ≡ true → a ≤ b
at_most a b h = grind (arith, nat_tests)

tested_keeps : (s : UploadState) (szx : ℕ) → KeepsSize s szx → keeps_size s szx ≡ true
tested_keeps s szx (inl e) = let t = tests_equal szx s.szx e in rw t refl
tested_keeps s szx (inr h) = by (szx == s.szx) ((s.num == 0) && nat_lt szx s.szx)
    (both (s.num == 0) (nat_lt szx s.szx) (tests_equal s.num 0 h.0) (tests_less szx s.szx h.1))
  where
    both : (a b : Bool) → a ≡ true → b ≡ true → (a && b) ≡ true
    both a b ha hb = rw (ha, hb) refl

    by : (a b : Bool) → b ≡ true → (a || b) ≡ true
    by true b hb = refl
    by false b hb = hb

pub continues_is_tested : ContinuesIsTested
continues_is_tested s answer = (
  λ h.
      let all = and_parts (more_follows s) (answer.num == s.num) answer.more (keeps_size s answer.szx)
      (nat_le (number_after s answer.szx) max_num) h in (
        all.0,
        same_number answer.num s.num all.1,
        all.2,
        keeps_tested s answer.szx all.3,
        at_most (number_after s answer.szx) max_num all.4,
      ),
  λ k.
      and_all (more_follows s) (answer.num == s.num) answer.more (keeps_size s answer.szx)
      (nat_le (number_after s answer.szx) max_num)
      k.0 (tests_equal answer.num s.num k.1) k.2 (tested_keeps s answer.szx k.3)
      (tests_most (number_after s answer.szx) max_num k.4),
)

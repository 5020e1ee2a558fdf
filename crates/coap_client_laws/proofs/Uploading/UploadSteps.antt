-- The steps of an upload, by their tests.
use Rattle.std.proofs.Common.{◌≡◌, inl, inr, ◌≤◌, ◌<◌, ℕ, ◌+◌, ◌*◌, Bool, true, false, ◌&&◌, nat_lt, length, refl, ap}
use Rattle.std.proofs.Common.{◌∙◌, arith}
use Rattle.std.proofs.lemmas.Bool.Decides.{nat_tests}
use Rattle.std.proofs.Math.Pow.{pow_mono}
use Rattle.coap_types.specs.declared.block.Block.{Block}
use Rattle.coap_types.specs.Piece.{size_of}
use Rattle.coap_block.specs.UploadStep.{UploadState, number_after, KeepsSize, Continues, moved, continues}
use Rattle.coap_block.proofs.Facts.Laws.{continues_is_tested}
use Rattle.coap_block.proofs.Facts.Sizes.{size_some, aligned_to}
use Rattle.coap_client.specs.Requests.{is_longer}
pub use Rattle.std.proofs.lemmas.Bool.{and_parts}

lt_is : (a b : ℕ) → nat_lt a b ≡ true → a < b
lt_is a b h = grind (arith, nat_tests)

is_lt : (a b : ℕ) → a < b → nat_lt a b ≡ true
is_lt a b h = grind (arith, nat_tests)

pub continues_is : (u : UploadState) (b : Block) → continues u b ≡ true → Continues u b
continues_is u b h = (continues_is_tested u b).0 h

pub at_most : (u : UploadState) (szx : ℕ) → KeepsSize u szx → szx ≤ u.szx
at_most u szx (inl e) = omega (arith, e)
at_most u szx (inr h) = let lt = h.1 in omega (arith, lt)

-- the body stays longer than a block, and the next block is not the first
pub longer_moved : (u : UploadState) (b : Block) → continues u b ≡ true → is_longer u ≡ true
    → is_longer (moved u b) ≡ true
longer_moved u b h k =
    let le = at_most u b.szx (continues_is u b h).3 in
    let size : size_of b.szx ≤ size_of u.szx = pow_mono {i = b.szx + 4} {j = u.szx + 4} (omega (arith, le)) in
    let lt = lt_is (size_of u.szx) (length u.body) k in
    is_lt (size_of b.szx) (length u.body) (omega (arith, size, lt))

not_zero : (a b : ℕ) → a ≡ 0 → a * b ≡ 0
not_zero a b h = ap (λ x. x * b) h ∙ zero_times b
  where
    zero_times : (b : ℕ) → 0 * b ≡ 0
    zero_times b = omega arith

pub number_moved : (u : UploadState) (b : Block) → continues u b ≡ true → (moved u b).num ≡ 0 → ⊥
number_moved u b h zero =
    let e = aligned_to u.num u.szx b.szx (at_most u b.szx (continues_is u b h).3) in
    let z = not_zero (number_after u b.szx) (size_of b.szx) zero in
    let some = size_some u.szx in
    absurd (omega (arith, e, z, some))

pub later_moved : (u : UploadState) (b : Block) → continues u b ≡ true → nat_lt 0 (moved u b).num ≡ true
later_moved u b h = is_lt 0 (moved u b).num (let n = number_moved u b h in some_if (moved u b).num n)
  where
    some_if : (n : ℕ) → (n ≡ 0 → ⊥) → 0 < n
    some_if n f = omega (arith, f)

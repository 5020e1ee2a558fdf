-- Blocks of a smaller size begin where one of a greater size ends (RFC 7959, section 2.4).
use Rattle.std.proofs.Common.{◌≡◌, ◌∙◌, ℕ, ◌+◌, ◌-◌, ◌*◌, ◌/◌, ◌^◌, ◌<◌, ◌≤◌, ap, sym, subst, arith, pow_pos, min}
use Rattle.std.proofs.lemmas.Nat.{pow-add}
use Rattle.std.proofs.Math.Nat.{mul-div_cancel}
use Rattle.coap_types.specs.Piece.{size_of, offset_of}

pub size_some : (szx : ℕ) → 0 < size_of szx
size_some szx = pow_pos (szx + 4)

multiple : (num s c d : ℕ) → s ≡ c * d → 0 < d → (num * s + s) / d * d ≡ num * s + s
multiple num s c d e pos =
    let t : num * s + s ≡ (num * c + c) * d = rw e (omega arith) in
    rw t (ap (λ (q : ℕ). q * d) (mul-div_cancel (num * c + c) pos))

pub aligned : (num szx m : ℕ) → (offset_of num szx + size_of szx) / size_of (min szx m) * size_of (min szx m)
    ≡ offset_of num szx + size_of szx
aligned num szx m =
    let e0 : (szx - min szx m) + (min szx m + 4) ≡ szx + 4 = omega arith in
    let e : size_of szx ≡ 2 ^ (szx - min szx m) * size_of (min szx m) =
    ap (λ (n : ℕ). 2 ^ n) (sym e0) ∙ pow-add 2 (szx - min szx m) (min szx m + 4) in
    multiple num (size_of szx) (2 ^ (szx - min szx m)) (size_of (min szx m)) e (size_some (min szx m))

pub aligned_to : (num szx m : ℕ) → m ≤ szx
    → (offset_of num szx + size_of szx) / size_of m * size_of m ≡ offset_of num szx + size_of szx
aligned_to num szx m le =
    let e : min szx m ≡ m = omega (arith, le) in
    subst (λ (k : ℕ). (offset_of num szx + size_of szx) / size_of k * size_of k ≡ offset_of num szx + size_of szx) e
    (aligned num szx m)

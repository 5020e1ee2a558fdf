-- The payload of a 2.05 is a piece of what the path holds, or all of it (RFC 7959, sections 2.2 and 2.4).
use Rattle.std.proofs.Common.{◌≡◌, ◌⊎◌, ◌↔◌, inl, inr, ℕ, zero, suc, ◌+◌, ◌*◌, ◌/◌, ◌-◌, ◌^◌, ◌<◌, ◌≤◌, min, nat_lt}
use Rattle.std.proofs.Common.{nat_le, Bool, true, false, ◌&&◌, Option, Some, None, is_some, List, [], length, take}
use Rattle.std.proofs.Common.{drop, refl, ap, sym, subst, if◌then◌else◌, arith, ◌∙◌}
use Rattle.std.proofs.lemmas.Bool.Decides.{nat_tests}
use Rattle.std.proofs.lemmas.List.{take_all, nil_from_length}
use Rattle.std.proofs.lemmas.Nat.{pow-add}
use Rattle.std.proofs.Math.Nat.{min-le_left, mul-div_cancel, pow-le-pow_right}
use Rattle.coap_types.specs.declared.block.Block.{Block}
use Rattle.coap_resource.specs.Content.{Held}
use Rattle.coap_types.specs.Piece.{Piece}
use Rattle.coap_resource.specs.RequestOptions.{block_of, offset_by, szx_by}
use Rattle.coap_resource.specs.ServedLaw.{IsPart, PartLaw}
use Rattle.coap_resource.specs.Serves.{Reply, content_reply}
use Rattle.coap_resource.proofs.ServedContent.{content_law}

size_some : (szx : ℕ) → 0 < 2 ^ (szx + 4)
size_some szx = let powers : 2 ^ 0 ≤ 2 ^ (szx + 4) =
    pow-le-pow_right {n = 2} (omega arith) (let e : 0 ≤ szx + 4 = omega arith in e) in omega (arith, powers)

-- a block of the response begins where one that is asked for begins: its size divides the other
asked_is : (num asked szx : ℕ) → szx ≤ asked → num * 2 ^ (asked + 4) ≡ (num * 2 ^ (asked - szx)) * 2 ^ (szx + 4)
asked_is num asked szx least =
    let exponent : asked + 4 ≡ (asked - szx) + (szx + 4) = omega (arith, least) in
    let powers = ap (λ e. 2 ^ e) exponent ∙ pow-add 2 (asked - szx) (szx + 4) in
    ap (λ n. num * n) powers ∙ grind arith

begins : (body : List ℕ) (offset num size : ℕ) → offset ≡ num * size → 0 < size
    → (nat_lt 0 offset && nat_le (length body) offset) ≡ false → (offset < length body) ⊎ ((num ≡ 0) × (body ≡ []))
begins body offset num size is some within = by (nat_lt 0 offset) (nat_le (length body) offset) refl refl within
  where
    by : (a b : Bool) → nat_lt 0 offset ≡ a → nat_le (length body) offset ≡ b → (a && b) ≡ false
        → (offset < length body) ⊎ ((num ≡ 0) × (body ≡ []))
    by true true p q h = absurd (cc h)
    by a false p q h = inl (grind (arith, nat_tests))
    by false true p q h =
        let first : offset ≡ 0 = grind (arith, nat_tests) in
        let none : length body ≡ 0 = grind (arith, nat_tests) in
        inr (zero_times num size some (sym is ∙ first), nil_from_length body none)
      where
        zero_times : (n m : ℕ) → 0 < m → n * m ≡ 0 → n ≡ 0
        zero_times zero m some h = refl
        zero_times (suc n) m some h = absurd (omega (arith, h, some))

ends : (len end : ℕ) → (nat_lt end len ≡ false) ↔ (len ≤ end)
ends len end = (λ h. grind (arith, nat_tests), λ h. grind (arith, nat_tests))

-- a part of a body from this place on
piece_at : (body : List ℕ) (offset num szx : ℕ) → offset ≡ num * 2 ^ (szx + 4)
    → (nat_lt 0 offset && nat_le (length body) offset) ≡ false
    → Piece body num (nat_lt (offset + 2 ^ (szx + 4)) (length body)) szx (take (2 ^ (szx + 4)) (drop offset body))
piece_at body offset num szx is within = record {
  bytes = ap (λ at. take (2 ^ (szx + 4)) (drop at body)) is;
  begins = subst (λ at. (at < length body) ⊎ ((num ≡ 0) × (body ≡ []))) is
      (begins body offset num (2 ^ (szx + 4)) is (size_some szx) within);
  reaches_end = subst (λ at. (nat_lt (offset + 2 ^ (szx + 4)) (length body) ≡ false)
      ↔ (length body ≤ at + 2 ^ (szx + 4))) is (ends (length body) (offset + 2 ^ (szx + 4)));
}

num_is : (offset num size : ℕ) → 0 < size → offset ≡ num * size → offset / size ≡ num
num_is offset num size some is = ap (λ n. n / size) is ∙ mul-div_cancel num some

sent : (body : List ℕ) (offset num szx : ℕ) → offset ≡ num * 2 ^ (szx + 4)
    → (nat_lt 0 offset && nat_le (length body) offset) ≡ false
    → Piece body (offset / 2 ^ (szx + 4)) (nat_lt (offset + 2 ^ (szx + 4)) (length body)) szx
    (take (2 ^ (szx + 4)) (drop offset body))
sent body offset num szx is within =
    subst (λ n. Piece body n (nat_lt (offset + 2 ^ (szx + 4)) (length body)) szx
    (take (2 ^ (szx + 4)) (drop offset body)))
    (sym (num_is offset num (2 ^ (szx + 4)) (size_some szx) is)) (piece_at body offset num szx is within)

not_longer : (a b : ℕ) → nat_lt a b ≡ false → b ≤ a
not_longer a b is = grind (arith, nat_tests)

-- without Block2 in the request
first : (held : Held) (szx : ℕ) (longer : Bool) → nat_lt (2 ^ (szx + 4)) (length held.body) ≡ longer
    → IsPart (if longer then Some (record {
      num = 0 / 2 ^ (szx + 4);
      more = nat_lt (0 + 2 ^ (szx + 4)) (length held.body);
      szx = szx;
    }) else None)
    held.body (take (2 ^ (szx + 4)) held.body)
first held szx true is = sent held.body 0 0 szx (let none : 0 ≡ 0 * 2 ^ (szx + 4) = omega arith in none) refl
first held szx false is = take_all (2 ^ (szx + 4)) held.body (not_longer (2 ^ (szx + 4)) (length held.body) is)

part : (held : Held) (block : Option Block) (szx : ℕ)
    → (nat_lt 0 (offset_by block) && nat_le (length held.body) (offset_by block)) ≡ false
    → IsPart (content_reply held (is_some block) (offset_by block) (szx_by block szx)).block2 held.body
    (content_reply held (is_some block) (offset_by block) (szx_by block szx)).part
part held None szx within = first held szx (nat_lt (2 ^ (szx + 4)) (length held.body)) refl
part held (Some b) szx within =
    let least = min-le_left b.szx szx in
    sent held.body (b.num * 2 ^ (b.szx + 4)) (b.num * 2 ^ (b.szx - min b.szx szx)) (min b.szx szx)
    (asked_is b.num b.szx (min b.szx szx) least) within

pub part_law : PartLaw
part_law old new at q reply h k =
    let is = content_law old new at q reply h k in (
      is.held,
      is.is_held,
      subst (λ (r : Reply). IsPart r.block2 is.held.body r.part) (sym is.is)
          (part is.held (block_of q.options) q.szx is.within),
    )

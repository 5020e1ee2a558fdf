-- A fetch of a representation that does not change comes to its end.
use Rattle.std.proofs.Common.{◌≡◌, ◌⊎◌, inl, inr, ⊎_elim, ℕ, ◌+◌, ◌-◌, ◌/◌, ◌≤◌, ◌<◌, ◌==◌, min, Bool, true, false}
use Rattle.std.proofs.Common.{◌&&◌, ◌||◌, not, nat_lt, Some, None, is_some, List, [], ◌++◌, length, take, drop, refl}
use Rattle.std.proofs.Common.{ap, sym, ◌∙◌, subst, arith, cond, if◌then◌else◌, length-append}
use Rattle.std.proofs.lemmas.Bool.{le-leb}
use Rattle.std.proofs.lemmas.Bool.Decides.{nat_tests}
use Rattle.std.proofs.lemmas.List.{length-take, length-drop, take_all}
use Rattle.std.proofs.lemmas.Slice.Eq.{bytes_eq-Decides}
use Rattle.std.proofs.Math.Nat.{zero-div, mul-div_cancel}
use Rattle.std.proofs.Math.Seq.{take-add}
use Rattle.coap_types.specs.Piece.{size_of, offset_of}
use Rattle.coap_types.specs.declared.block.Block.{Block}
use Rattle.coap_block.specs.FetchStep.{FetchState, fits, is_sized, same_tag, differs, next_num, next_szx, verdict}
use Rattle.coap_block.specs.declared.fetch_progress.Asked.{Asked}
use Rattle.coap_block.specs.declared.fetch_verdict.Verdict.TheVariants.{Done, Ask}
use Rattle.coap_block.proofs.Facts.Sizes.{size_some, aligned}
use Rattle.coap_resource.specs.Content.{Held}
use Rattle.coap_resource.specs.RequestOptions.{tag_of}
use Rattle.coap_resource.specs.Serves.{content_reply}
use Rattle.coap_client_laws.specs.Follows.Unchanged.{reply_to, IsBehind, GoesOnBy, GoesOn, FetchesUnchanged}

-- the tests, where each is passed
passed : {V : Type 0} (a b c d e : Bool) (p q r s y : V) → a ≡ true → b ≡ true → c ≡ false → d ≡ false → e ≡ false
    → cond (not (a && b)) p (cond c q (cond d r (cond e s y))) ≡ y
passed true true false false false p q r s y h1 h2 h3 h4 h5 = refl
passed false b c d e p q r s y h1 h2 h3 h4 h5 = absurd (cc h1)
passed true false c d e p q r s y h1 h2 h3 h4 h5 = absurd (cc h2)
passed true true true d e p q r s y h1 h2 h3 h4 h5 = absurd (cc h3)
passed true true false true e p q r s y h1 h2 h3 h4 h5 = absurd (cc h4)
passed true true false false true p q r s y h1 h2 h3 h4 h5 = absurd (cc h5)

alone : {V : Type 0} (a b : Bool) (p q y : V) → a ≡ false → b ≡ false → cond a p (cond b q y) ≡ y
alone false false p q y h k = refl
alone true b p q y h k = absurd (cc h)
alone false true p q y h k = absurd (cc k)

judged : (f : FetchState) (b : Block) (t : List ℕ) (len : ℕ) → fits f.asked b.num b.szx ≡ true
    → is_sized b.more b.num b.szx len ≡ true → offset_of b.num b.szx + len ≤ f.limit
    → differs f (Some t) ≡ false
    → verdict f (Some b) (Some t) len ≡ (if b.more then Ask (next_num f b) (next_szx f b) else Done)
judged f b t len fit sized short same =
    let fits_in : nat_lt f.limit (offset_of b.num b.szx + len) ≡ false = grind (arith, nat_tests, short) in
    passed _ _ _ _ _ _ _ _ _ _ fit sized fits_in (lacks (b.more || nat_lt 0 b.num)) same
  where
    lacks : (x : Bool) → (x && false) ≡ false
    lacks true = refl
    lacks false = refl

same_self : (t : List ℕ) → same_tag (Some t) (Some t) ≡ true
same_self t = (bytes_eq-Decides t t).1 refl

-- the part of a block
part_len : (body : List ℕ) (size offset : ℕ) → length (take size (drop offset body)) ≡ min size (length body - offset)
part_len body size offset = length-take size (drop offset body) ∙ ap (min size) (length-drop offset body)

-- what was gathered and the next part
joins : (body gathered : List ℕ) (size : ℕ) → gathered ≡ take (length gathered) body
    → gathered ++ take size (drop (length gathered) body) ≡ take (length gathered + size) body
joins body gathered size is = ap (λ l. l ++ take size (drop (length gathered) body)) is
    ∙ sym (take-add (length gathered) size body)

pub or_right : (b : Bool) → (b || true) ≡ true
or_right true = refl
or_right false = refl

and_both : (b c : Bool) → b ≡ true → c ≡ true → (b && c) ≡ true
and_both true true h k = refl
and_both true false h k = absurd (cc k)
and_both false c h k = absurd (cc h)

-- a reply with Block2, from an offset on that the block begins at, where the fetch asks for that block
module _ (held : Held) (szx : ℕ) (f : FetchState) (small : length held.body ≤ f.limit) (tag : List ℕ)
    (tag_is : tag ≡ tag_of held.version) (num k offset : ℕ) (le : k ≤ szx) (at : offset ≡ offset_of num k)
    (place : offset ≡ length f.gathered) (low : offset ≤ length held.body) (fit : fits f.asked num k ≡ true)
    (same : differs f (Some tag) ≡ false) (bytes : f.gathered ≡ take (length f.gathered) held.body)
    (left : (offset < length held.body) ⊎ (num ≡ 0)) where
  abbrev here : List ℕ
  here = take (size_of k) (drop offset held.body)

  len : length here ≡ min (size_of k) (length held.body - offset)
  len = part_len held.body (size_of k) offset

  whole_is : f.gathered ++ here ≡ take (length f.gathered + size_of k) held.body
  whole_is = subst (λ (o : ℕ). f.gathered ++ take (size_of k) (drop o held.body)
      ≡ take (length f.gathered + size_of k) held.body) (sym place) (joins held.body f.gathered (size_of k) bytes)

  short : offset_of num k + length here ≤ f.limit
  short = let l = len in omega (arith, l, at, low, small)

  by_more : (more : Bool) → nat_lt (offset + size_of k) (length held.body) ≡ more
      → GoesOnBy held szx f (Some (record { num = num; more = more; szx = k })) (Some tag) here
  by_more true is =
      let lt : offset + size_of k < length held.body = grind (arith, nat_tests, is) in
      let l = len in
      let full : length here ≡ size_of k = omega (arith, l, lt) in
      let b : Block = record { num = num; more = true; szx = k } in
      let v = judged f b tag (length here) fit (grind (arith, nat_tests, full)) short same in
      let a = aligned num k f.szx in
      let both_len : length (f.gathered ++ here) ≡ length f.gathered + length here = length-append f.gathered here in
      let n : length f.gathered + size_of k ≡ length (f.gathered ++ here) = omega (arith, both_len, full) in
      inr (
        next_num f b,
        next_szx f b,
        v,
        inr (
          record { num = next_num f b; szx = next_szx f b },
          record {
            asked = refl;
            small = omega (arith, le);
            place = a ∙ omega (arith, at, place, n);
            left = omega (arith, place, n, lt);
            bytes = whole_is ∙ ap (λ (m : ℕ). take m held.body) n;
            tag = ap (λ (t : List ℕ). Some t) tag_is;
          },
        ),
      )
  by_more false is =
      let ge : length held.body ≤ offset + size_of k = grind (arith, nat_tests, is) in
      let l = len in
      let b : Block = record { num = num; more = false; szx = k } in
      let some : (nat_lt 0 (length here) || (num == 0)) ≡ true = ⊎_elim
      (λ (x : offset < length held.body). let pos = size_some k in
      let more : 0 < length here = omega (arith, l, x, pos) in
      let t : nat_lt 0 (length here) ≡ true = grind (arith, nat_tests, more) in
      ap (λ c. c || (num == 0)) t)
      (λ (z : num ≡ 0). let t : (num == 0) ≡ true = grind (arith, nat_tests, z) in
      ap (λ c. nat_lt 0 (length here) || c) t ∙ or_right (nat_lt 0 (length here))) left
      in
      inl (
        judged f b tag (length here) fit (and_both _ _ (le-leb (length here) (size_of k) (omega (arith, l))) some)
            short same,
        whole_is ∙ take_all (length f.gathered + size_of k) held.body (omega (arith, ge, place)),
      )

module _ (held : Held) (szx : ℕ) (f : FetchState) (small : length held.body ≤ f.limit) where
  -- the first block
  first : f.asked ≡ None → f.gathered ≡ []
      → GoesOn held szx f (content_reply held false 0 szx)
  first none empty = by (nat_lt (size_of szx) (length held.body)) refl
    where
      by : (x : Bool) → nat_lt (size_of szx) (length held.body) ≡ x
          → GoesOnBy held szx f (cond (false || x)
          (Some (record {
            num = 0 / size_of szx;
            more = nat_lt (0 + size_of szx) (length held.body);
            szx = szx;
          })) None) (Some (tag_of held.version))
          (take (size_of szx) (drop 0 held.body))
      by true is = subst (λ (n : ℕ). GoesOnBy held szx f
          (Some (record { num = n; more = nat_lt (0 + size_of szx) (length held.body); szx = szx }))
          (Some (tag_of held.version)) (take (size_of szx) (drop 0 held.body))) (sym (zero-div (size_of szx)))
          (by_more held szx f small (tag_of held.version) refl 0 szx 0 (omega arith) (omega arith)
          (sym (ap (λ (l : List ℕ). length l) empty)) (omega arith)
          (ap (λ o. fits o 0 szx) none)
          (ap (λ o. is_some o && not (same_tag (Some (tag_of held.version)) f.tag)) none)
          (empty ∙ sym (ap (λ (l : List ℕ). take (length l) held.body) empty)) (inr refl)
          (nat_lt (0 + size_of szx) (length held.body)) refl)
      by false is =
          let le : length held.body ≤ size_of szx = grind (arith, nat_tests, is) in
          let l = part_len held.body (size_of szx) 0 in
          let fits_in : nat_lt f.limit (length (take (size_of szx) (drop 0 held.body))) ≡ false =
          grind (arith, nat_tests, l, small) in
          inl (
            alone _ _ _ _ _ (ap (λ o. is_some o) none) fits_in,
            ap (λ (l : List ℕ). l ++ take (size_of szx) (drop 0 held.body)) empty ∙ take_all (size_of szx) held.body le,
          )

  -- a further one
  further : (a : Asked) → IsBehind held szx f a → GoesOn held szx f (content_reply held true (offset_of a.num a.szx)
      a.szx)
  further a b =
      let t : (a.num == a.num) ≡ true = grind (arith, nat_tests) in
      let u : (a.szx == a.szx) ≡ true = grind (arith, nat_tests) in
      let place = b.place in
      let left = b.left in
      subst (λ (n : ℕ). GoesOnBy held szx f
      (Some (record {
        num = n;
        more = nat_lt (offset_of a.num a.szx + size_of a.szx) (length held.body);
        szx = a.szx;
      }))
      (Some (tag_of held.version)) (take (size_of a.szx) (drop (offset_of a.num a.szx) held.body)))
      (sym (mul-div_cancel a.num (size_some a.szx)))
      (by_more held szx f small (tag_of held.version) refl a.num a.szx (offset_of a.num a.szx) b.small refl b.place
      (omega (arith, place, left)) (ap (λ o. fits o a.num a.szx) b.asked ∙ and_both _ _ t u)
      (ap (λ o. is_some o && not (same_tag (Some (tag_of held.version)) f.tag)) b.asked
      ∙ ap (λ o. not (same_tag (Some (tag_of held.version)) o)) b.tag ∙ ap not (same_self (tag_of held.version)))
      b.bytes (inl (omega (arith, place, left)))
      (nat_lt (offset_of a.num a.szx + size_of a.szx) (length held.body)) refl)

pub fetches_unchanged : FetchesUnchanged
fetches_unchanged held szx f small (inl h) = subst (λ o. GoesOn held szx f (reply_to held szx o)) (sym h.0)
    (first held szx f small h.0 h.1)
fetches_unchanged held szx f small (inr h) =
    let a = h.0 in
    let b = h.1 in
    let le = b.small in
    let k : min a.szx szx ≡ a.szx = omega (arith, le) in
    subst (λ o. GoesOn held szx f (reply_to held szx o)) (sym b.asked)
    (subst (λ (z : ℕ). GoesOn held szx f (content_reply held true (offset_of a.num a.szx) z)) (sym k)
    (further held szx f small a b))

-- The parts since the start are whole at the last one.
use Rattle.std.proofs.Common.{◌≡◌, ◌⊎◌, inl, inr, ℕ, Bool, true, false, not, ◌&&◌, ◌||◌, nat_lt, nat_le, ◌==◌}
use Rattle.std.proofs.Common.{if◌then◌else◌, ◌+◌, ◌<◌, ◌≤◌, ◌++◌, ◌∙◌, List, [], ◌∷◌, length, refl, ap, sym, subst}
use Rattle.std.proofs.Common.{arith, append_assoc, length-append, Option, Some, None, is_some}
use Rattle.std.proofs.lemmas.Grind.{common_steps}
use Rattle.std.proofs.lemmas.Bool.Decides.{nat_tests}
use Rattle.std.proofs.lemmas.List.{take_all}
use Rattle.std.proofs.lemmas.Slice.Eq.{bytes_eq-Decides}
use Rattle.std.proofs.Math.Seq.{drop-append_seam, take-append_seam}
use Rattle.coap_types.specs.declared.block.Block.{Block}
use Rattle.coap_block.specs.declared.fetch_verdict.Verdict.TheVariants.{Refuse, Again, Done, Ask}
use Rattle.coap_block.specs.declared.fetch_step.FetchRefusal.TheVariants.{BadBlock, NoTag, TooLarge, Changed}
use Rattle.coap_types.specs.Piece.{size_of, offset_of, Begins, Piece}
use Rattle.coap_block.specs.Whole.{Part, Each, joined, IsPieceOf, HasTag, Chained, OneTag, Whole, Blocks}
use Rattle.coap_block.specs.FetchStep.{FetchState, fits, is_sized, same_tag, differs, verdict, next_num, next_szx}
use Rattle.coap_block.specs.Gathered.{part, IsFull, Awaits, Gathered, GatheredByPart, WholeByParts}
use Rattle.coap_block.specs.declared.fetch_progress.Asked.{Asked}
use Rattle.coap_block.specs.declared.fetch_judging.TheConstants.{MAX_RESTARTS as max_restarts}
use Rattle.coap_block.proofs.Facts.Parts.{chained_behind, each_behind, ends_behind, joined_behind, some_there}
use Rattle.coap_block.proofs.Facts.Sizes.{aligned, size_some}

-- a full part in front of more bytes is a piece
pub full_piece : (front bytes rest : List ℕ) (num szx : ℕ) → offset_of num szx ≡ length front
    → length bytes ≡ size_of szx → 0 < length bytes → 0 < length rest
    → Piece (front ++ (bytes ++ rest)) num true szx bytes
full_piece front bytes rest num szx at full some more = record {
  bytes = rw (at, ← full, drop-append_seam, take-append_seam) refl;
  begins = inl (omega (arith, length-append front (bytes ++ rest), length-append bytes rest));
  reaches_end = (
    (λ h. absurd (cc)),
    (λ h. absurd
        (omega (arith, length-append front (bytes ++ rest), length-append bytes rest))),
  );
}

-- a last part at the end is a piece
last_piece : (front bytes : List ℕ) (num szx : ℕ) → offset_of num szx ≡ length front → length bytes ≤ size_of szx
    → (0 < length bytes) ⊎ ((num ≡ 0) × (front ++ bytes ≡ []))
    → Piece (front ++ bytes) num false szx bytes
last_piece front bytes num szx at short some = record {
  bytes = rw (at, drop-append_seam) (sym (take_all (size_of szx) bytes short));
  begins = elim some as (λ x. Begins (front ++ bytes) num szx)
      [ inl h ↦ inl (omega (arith, length-append front bytes)) | inr h ↦ inr h ];
  reaches_end = ((λ h. omega (arith, length-append front bytes)), (λ h. refl));
}

pieces_of : (front : List ℕ) (ps : List Part) (l : Part) → Each IsFull ps → Chained (length front) (ps ++ l ∷ [])
    → 0 < length l.bytes
    → l.more ≡ false → length l.bytes ≤ size_of l.szx
    → Each (IsPieceOf (front ++ (joined ps ++ l.bytes))) (ps ++ l ∷ [])
pieces_of front [] l full chained some last short = (
  subst (λ (m : Bool). Piece (front ++ l.bytes) l.num m l.szx l.bytes) (sym last)
      (last_piece front l.bytes l.num l.szx chained.0 short (inl some)),
  tt,
)
pieces_of front (p ∷ ps) l full chained some last short =
    let e1 : front ++ (p.bytes ++ (joined ps ++ l.bytes)) ≡ front
    ++ ((p.bytes ++ joined ps) ++ l.bytes) = ap (λ (x : List ℕ). front ++ x)
    (sym (append_assoc p.bytes (joined ps) l.bytes)) in
    let e2 : (front ++ p.bytes) ++ (joined ps ++ l.bytes) ≡ front
    ++ (p.bytes ++ (joined ps ++ l.bytes)) = append_assoc front p.bytes (joined ps ++ l.bytes) in
    let here : Piece (front ++ (p.bytes ++ (joined ps ++ l.bytes))) p.num true p.szx p.bytes =
    full_piece front p.bytes (joined ps ++ l.bytes) p.num p.szx chained.0 full.0.full
    (let s = size_some p.szx in let f = full.0.full in omega arith)
    (omega (arith, length-append (joined ps) l.bytes)) in
    let behind : Chained (length (front ++ p.bytes)) (ps ++ l ∷ []) =
    subst (λ (n : ℕ). Chained n (ps ++ l ∷ [])) (sym (length-append front p.bytes)) chained.1 in
    let more = pieces_of (front ++ p.bytes) ps l full.1 behind some last short in (
      subst (λ (m : Bool). Piece (front ++ ((p.bytes ++ joined ps) ++ l.bytes)) p.num m p.szx p.bytes) (sym full.0.more)
          (subst (λ (body : List ℕ). Piece body p.num true p.szx p.bytes) e1 here),
      subst (λ (body : List ℕ). Each (IsPieceOf body) (ps ++ l ∷ [])) (e2 ∙ e1) more,
    )

one_tag_of : (t : List ℕ) (ps : List Part) → Each (HasTag t) ps → OneTag ps
one_tag_of t [] e = tt
one_tag_of t (p ∷ []) e = tt
one_tag_of t (p ∷ q ∷ ps) e = (t, e)

-- what the tests say of the last part
pub done_says : (fit big lacks differ least more : Bool) (num szx : ℕ)
    → (if not fit then Refuse BadBlock else if big then Refuse TooLarge else if lacks then Refuse NoTag
    else if differ then (if least then Refuse Changed else Again) else if more then Ask num szx else Done) ≡ Done
    → (fit ≡ true) × (differ ≡ false) × (more ≡ false) × (big ≡ false)
done_says true false false false least false num szx h = (refl, refl, refl, refl)
done_says true false false true true more num szx h = absurd cc
done_says fit big lacks differ least more num szx h = absurd cc

pub ask_says : (fit big lacks differ least more : Bool) (num szx num' szx' : ℕ)
    → (if not fit then Refuse BadBlock else if big then Refuse TooLarge else if lacks then Refuse NoTag
    else if differ then (if least then Refuse Changed else Again) else if more then Ask num szx else Done)
    ≡ Ask num' szx'
    → (fit ≡ true) × (lacks ≡ false) × (differ ≡ false) × (more ≡ true) × (num ≡ num') × (szx ≡ szx') × (big ≡ false)
ask_says true false false false least true num szx num' szx' h = (refl, refl, refl, refl, cc, cc, refl)
ask_says true false false true true more num szx num' szx' h = absurd cc
ask_says fit big lacks differ least more num szx num' szx' h = absurd cc

pub and_left : (a b : Bool) → (a && b) ≡ true → a ≡ true
and_left true b h = refl
and_left false b h = h

pub and_right : (a b : Bool) → (a && b) ≡ true → b ≡ true
and_right true b h = h
and_right false b h = absurd cc

same_is : (a b : Option (List ℕ)) → not (same_tag a b) ≡ false → a ≡ b
same_is (Some a) (Some b) h = ap (λ (x : List ℕ). Some x) (grind (arith, bytes_eq-Decides a b, common_steps))
same_is (Some a) None h = absurd cc
same_is None b h = absurd cc

or_says : (a b : Bool) → (a || b) ≡ true → (a ≡ true) ⊎ (b ≡ true)
or_says true b h = inl refl
or_says false b h = inr h

last_fits : (len size num : ℕ) → (nat_le len size && (nat_lt 0 len || (num == 0))) ≡ true
    → (len ≤ size) × ((0 < len) ⊎ (num ≡ 0))
last_fits len size num h =
    let a = and_left (nat_le len size) (nat_lt 0 len || (num == 0)) h in
    let o = or_says (nat_lt 0 len) (num == 0) (and_right (nat_le len size) (nat_lt 0 len || (num == 0)) h) in (
      grind (arith, nat_tests),
      elim o as (λ x. (0 < len) ⊎ (num ≡ 0)) [
        | inl e ↦ inl (grind (arith, nat_tests))
        | inr e ↦ inr
            (grind (arith, nat_tests))
      ],
    )

is_zero : (n : ℕ) → (n == 0) ≡ true → n ≡ 0
is_zero n h = grind (arith, nat_tests)

pub same_number : (a b : ℕ) → (a == b) ≡ true → a ≡ b
same_number a b h = grind (arith, nat_tests)

-- where a part that fits begins, and that it has the tag
pub begins_at : (asked : Option Asked) (old tag : Option (List ℕ)) (parts : List Part) (num szx : ℕ)
    → Awaits asked old parts
    → fits asked num szx ≡ true → offset_of num szx ≡ length (joined parts)
begins_at None old tag parts num szx w f =
    let z = is_zero num f in
    subst (λ (ps : List Part). offset_of num szx ≡ length (joined ps)) (sym w)
    (subst (λ (n : ℕ). offset_of n szx ≡ 0) (sym z) (omega arith))
begins_at (Some asked) old tag parts num szx w f =
    let n = same_number num asked.num (and_left (num == asked.num) (szx == asked.szx) f) in
    let z = same_number szx asked.szx (and_right (num == asked.num) (szx == asked.szx) f) in
    subst (λ (k : ℕ). offset_of k szx ≡ length (joined parts)) (sym n)
    (subst (λ (k : ℕ). offset_of asked.num k ≡ length (joined parts)) (sym z) w.0)

all_tagged : (t : List ℕ) (asked : Option Asked) (old tag : Option (List ℕ)) (parts : List Part)
    → Awaits asked old parts
    → (is_some asked && not (same_tag tag old)) ≡ false → tag ≡ Some t → Each (HasTag t) parts
all_tagged t None old tag parts w d e = subst (λ (ps : List Part). Each (HasTag t) ps) (sym w) tt
all_tagged t (Some asked) old tag parts w d e =
    let same = same_is tag old d in
    let is : w.2.0 ≡ t = cc in
    subst (λ (x : List ℕ). Each (HasTag x) parts) is w.2.2

tags_of : (asked : Option Asked) (old tag : Option (List ℕ)) (parts : List Part) (b : Block) (payload : List ℕ)
    → Awaits asked old parts
    → (is_some asked && not (same_tag tag old)) ≡ false → OneTag (parts ++ part b tag payload ∷ [])
tags_of None old tag parts b payload w d = subst (λ (ps : List Part). OneTag (ps ++ part b tag payload ∷ [])) (sym w) tt
tags_of (Some asked) old tag parts b payload w d =
    let same = same_is tag old d in
    one_tag_of w.2.0 (parts ++ part b tag payload ∷ [])
    (each_behind (HasTag w.2.0) parts (part b tag payload) w.2.2 (same ∙ w.2.1))

some_or_none : (bytes : List ℕ) (num : ℕ) → num ≡ 0 → (0 < length bytes) ⊎ ((num ≡ 0) × (bytes ≡ []))
some_or_none [] num e = inr (e, refl)
some_or_none (x ∷ xs) num e = inl (omega arith)

chained_last : (at : ℕ) (ps : List Part) (l : Part) → Chained at (ps ++ l ∷ [])
    → offset_of l.num l.szx ≡ at + length (joined ps)
chained_last at [] l c = omega (arith, c.0)
chained_last at (p ∷ ps) l c = omega (
  arith,
  chained_last (at + length p.bytes) ps l c.1,
  length-append p.bytes (joined ps),
)

-- the pieces of the whole, the first part of several or one alone
pub pieces_whole : (parts : List Part) (l : Part) → Each IsFull parts → Chained 0 (parts ++ l ∷ []) → l.more ≡ false
    → length l.bytes ≤ size_of l.szx
    → ((0 < length l.bytes) ⊎ (l.num ≡ 0)) → Each (IsPieceOf (joined parts ++ l.bytes)) (parts ++ l ∷ [])
pieces_whole [] l full chained last short (inl some) = pieces_of [] [] l full chained some last short
pieces_whole [] l full chained last short (inr zero_num) = (
  subst (λ (m : Bool). Piece l.bytes l.num m l.szx l.bytes) (sym last)
      (last_piece [] l.bytes l.num l.szx chained.0 short (some_or_none l.bytes l.num zero_num)),
  tt,
)
pieces_whole (p ∷ ps) l full chained last short (inl some) = pieces_of [] (p ∷ ps) l full chained some last short
pieces_whole (p ∷ ps) l full chained last short (inr zero_num) =
    let at = chained_last 0 (p ∷ ps) l chained in
    let none : offset_of l.num l.szx ≡ 0 = subst (λ (n : ℕ). offset_of n l.szx ≡ 0) (sym zero_num) (omega arith) in
    let some = size_some p.szx in
    let long = full.0.full in
    absurd (omega (arith, at, none, some, long, length-append p.bytes (joined ps)))

whole_by_blocks : (parts : List Part) (s : FetchState) (b : Block) (tag : Option (List ℕ)) (payload : List ℕ)
    → Gathered parts s → verdict s (Some b) tag (length payload) ≡ Done
    → Whole (Blocks (parts ++ part b tag payload ∷ [])) (s.gathered ++ payload)
whole_by_blocks parts s b tag payload g h =
    let says = done_says (fits s.asked b.num b.szx && is_sized b.more b.num b.szx (length payload))
    (nat_lt s.limit (offset_of b.num b.szx + length payload)) ((b.more || nat_lt 0 b.num) && not (is_some tag))
    (differs s tag) (nat_le max_restarts s.restarts) b.more (next_num s b) (next_szx s b) h in
    let fit = and_left (fits s.asked b.num b.szx) (is_sized b.more b.num b.szx (length payload)) says.0 in
    let sized = and_right (fits s.asked b.num b.szx) (is_sized b.more b.num b.szx (length payload)) says.0 in
    let sized' : is_sized false b.num b.szx (length payload)
    ≡ true = subst (λ (m : Bool). is_sized m b.num b.szx (length payload) ≡ true) says.2 sized in
    let size = last_fits (length payload) (size_of b.szx) b.num sized' in
    let chained = chained_behind 0 parts (part b tag payload) g.chained
    (let at = begins_at s.asked s.tag tag parts b.num b.szx g.awaits fit in omega (arith, at)) in
    subst (λ (x : List ℕ). Whole (Blocks (parts ++ part b tag payload ∷ [])) (x ++ payload)) (sym g.bytes) (
      record {
        pieces = pieces_whole parts (part b tag payload) g.full chained says.2 size.0 size.1;
        chained = chained;
        ends = ends_behind parts (part b tag payload) says.2;
      },
      tags_of s.asked s.tag tag parts b payload g.awaits says.1,
    )

pub none_is_start : (asked : Option Asked) (tag : Option (List ℕ)) (parts : List Part) (big : Bool)
    → Awaits asked tag parts
    → (if is_some asked then Refuse BadBlock else if big then Refuse TooLarge else Done) ≡ Done → parts ≡ []
none_is_start None tag parts big w h = w
none_is_start (Some asked) tag parts big w h = absurd cc

pub whole_by_parts : WholeByParts
whole_by_parts parts s None tag payload g h =
    let none = none_is_start s.asked s.tag parts (nat_lt s.limit (length payload)) g.awaits h in
    sym (ap (λ (x : List ℕ). x ++ payload) (g.bytes ∙ ap joined none))
whole_by_parts parts s (Some b) tag payload g h = whole_by_blocks parts s b tag payload g h

tag_there : (more over : Bool) (tag : Option (List ℕ)) → more ≡ true → ((more || over) && not (is_some tag)) ≡ false
    → (t : List ℕ) × (tag ≡ Some t)
tag_there more over (Some t) m h = (t, refl)
tag_there true over None m h = absurd cc
tag_there false over None m h = absurd cc

pub gathered_by_part : GatheredByPart
gathered_by_part parts s b tag payload num szx g h =
    let says = ask_says (fits s.asked b.num b.szx && is_sized b.more b.num b.szx (length payload))
    (nat_lt s.limit (offset_of b.num b.szx + length payload)) ((b.more || nat_lt 0 b.num) && not (is_some tag))
    (differs s tag) (nat_le max_restarts s.restarts) b.more (next_num s b) (next_szx s b) num szx h in
    let fit = and_left (fits s.asked b.num b.szx) (is_sized b.more b.num b.szx (length payload)) says.0 in
    let sized = and_right (fits s.asked b.num b.szx) (is_sized b.more b.num b.szx (length payload)) says.0 in
    let sized' : (length payload == size_of b.szx)
    ≡ true = subst (λ (m : Bool). is_sized m b.num b.szx (length payload) ≡ true) says.3 sized in
    let full : length payload ≡ size_of b.szx = same_number (length payload) (size_of b.szx) sized' in
    let at = begins_at s.asked s.tag tag parts b.num b.szx g.awaits fit in
    let t = tag_there b.more (nat_lt 0 b.num) tag says.3 says.1 in
    let len = ap length (joined_behind parts (part b tag payload)) ∙ length-append (joined parts) payload in
    let next : offset_of num szx ≡ offset_of b.num b.szx + size_of b.szx =
    subst (λ (z : ℕ). offset_of num z ≡ offset_of b.num b.szx + size_of b.szx) says.5
    (subst (λ (n : ℕ). offset_of n (next_szx s b) ≡ offset_of b.num b.szx + size_of b.szx) says.4
    (aligned b.num b.szx s.szx)) in
    record {
      bytes = ap (λ (x : List ℕ). x ++ payload) g.bytes ∙ sym (joined_behind parts (part b tag payload));
      chained = chained_behind 0 parts (part b tag payload) g.chained (omega (arith, at));
      full = each_behind IsFull parts (part b tag payload) g.full (record { more = says.3; full = full });
      awaits = (
        omega (arith, next, len, at, full),
        some_there parts (part b tag payload),
        (
          t.0,
          t.1,
          each_behind (HasTag t.0) parts (part b tag payload)
              (all_tagged t.0 s.asked s.tag tag parts g.awaits says.2 t.1) t.1,
        ),
      );
    }

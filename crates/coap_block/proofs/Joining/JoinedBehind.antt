-- Blocks that are joined one behind the other at a server.
use Rattle.std.proofs.Common.{◌≡◌, ◌≢◌, inl, inr, ◌∙◌, ℕ, true, false, ◌+◌, ◌<◌, ◌≤◌, ◌++◌, List, [], ◌∷◌, length, None}
use Rattle.std.proofs.Common.{refl, ap, sym, subst, arith, append-nil, append_assoc, length-append}
use Rattle.std.proofs.Math.Seq.{drop-append_seam, take-append_seam}
use Rattle.coap_types.specs.declared.block.Block.{Block}
use Rattle.coap_types.specs.Piece.{size_of, offset_of}
use Rattle.coap_block.specs.Whole.{Part, Each, joined, Chained, InOrder, ShowsMore, WholeAtServer}
use Rattle.coap_block.specs.Gathered.{part, IsFull}
use Rattle.coap_block.specs.AssemblyState.{Key, PartialBody}
use Rattle.coap_block.specs.AssemblyTrace.{JoinedFrom, IsWholeBody}
use Rattle.coap_block.proofs.Facts.Parts.{chained_behind, each_behind, ends_behind, joined_behind, some_there}
use Rattle.coap_block.proofs.Facts.Sizes.{size_some}
use Rattle.coap_block.proofs.Fetching.WholeByParts.{pieces_whole}

offset_zero : (num szx : ℕ) → num ≡ 0 → offset_of num szx ≡ 0
offset_zero num szx e = subst (λ (n : ℕ). offset_of n szx ≡ 0) (sym e) (omega arith)

pub join_first : (limit : ℕ) (b : Block) (payload : List ℕ) (key : Key) (t : ℕ) → b.num ≡ 0 → b.more ≡ true
    → length payload ≡ size_of b.szx
    → offset_of b.num b.szx + length payload ≤ limit
    → JoinedFrom limit (part b None payload ∷ []) (record { key = key; bytes = [] ++ payload; last = t })
join_first limit b payload key t zero_num more full short = record {
  bytes = sym (append-nil payload);
  some = λ e. absurd cc;
  chained = (offset_zero b.num b.szx zero_num, tt);
  full = (record { more = more; full = full }, tt);
  short = omega (arith, short);
}

pub join_next : (limit : ℕ) (parts : List Part) (p : PartialBody) (b : Block) (payload : List ℕ) (key : Key) (t : ℕ)
    → JoinedFrom limit parts p
    → length p.bytes ≡ offset_of b.num b.szx → b.more ≡ true → length payload ≡ size_of b.szx
    → offset_of b.num b.szx + length payload ≤ limit
    → JoinedFrom limit (parts ++ part b None payload ∷ []) (record { key = key; bytes = p.bytes ++ payload; last = t })
join_next limit parts p b payload key t j at more full short =
    let n = ap length j.bytes in
    record {
      bytes = ap (λ (x : List ℕ). x ++ payload) j.bytes ∙ sym (joined_behind parts (part b None payload));
      some = some_there parts (part b None payload);
      chained = chained_behind 0 parts (part b None payload) j.chained (omega (arith, at, n));
      full = each_behind IsFull parts (part b None payload) j.full (record { more = more; full = full });
      short = omega (arith, short, at, length-append p.bytes payload);
    }

pub whole_first : (limit : ℕ) (b : Block) (payload : List ℕ) → b.num ≡ 0 → b.more ≡ false
    → length payload ≤ size_of b.szx
    → offset_of b.num b.szx + length payload ≤ limit → IsWholeBody limit (part b None payload ∷ []) ([] ++ payload)
whole_first limit b payload zero_num last fits short = record {
  whole = inl (record {
    pieces = pieces_whole [] (part b None payload) tt (offset_zero b.num b.szx zero_num, tt) last fits (inr zero_num);
    chained = (offset_zero b.num b.szx zero_num, tt);
    ends = last;
  });
  joined_is = sym (append-nil payload);
  short = omega (arith, short);
}

-- full parts in front of an empty last one
shown_of : (front : List ℕ) (ps : List Part) → Each IsFull ps → Chained (length front) ps
    → Each (ShowsMore (front ++ joined ps)) ps
shown_of front [] full chained = tt
shown_of front (p ∷ ps) full chained =
    let at = chained.0 in
    let long = full.0.full in
    let some = size_some p.szx in
    let e : (front ++ p.bytes) ++ joined ps ≡ front
    ++ (p.bytes ++ joined ps) = append_assoc front p.bytes (joined ps) in
    let behind : Chained (length (front ++ p.bytes)) ps =
    subst (λ (n : ℕ). Chained n ps) (sym (length-append front p.bytes)) chained.1 in (
      record {
        bytes = rw (at, ← long, drop-append_seam, take-append_seam) refl;
        begins = inl (omega (
          arith,
          at,
          long,
          some,
          length-append front (p.bytes ++ joined ps),
          length-append p.bytes (joined ps),
        ));
        more = full.0.more;
      },
      subst (λ (body : List ℕ). Each (ShowsMore body) ps) e (shown_of (front ++ p.bytes) ps full.1 behind),
    )

whole_of : (parts : List Part) (l : Part) (body : List ℕ) → body ≡ joined parts → parts ≢ [] → Each IsFull parts
    → Chained 0 parts
    → Chained 0 (parts ++ l ∷ []) → offset_of l.num l.szx ≡ length body → l.more ≡ false
    → length l.bytes ≤ size_of l.szx
    → (bytes : List ℕ) → l.bytes ≡ bytes → WholeAtServer (parts ++ l ∷ []) (body ++ bytes)
whole_of parts l body is some full before chained at last fits [] empty =
    inr (record {
      front = parts;
      last = l;
      split = refl;
      some = some;
      shown = subst (λ (x : List ℕ). Each (ShowsMore x) parts) (sym (append-nil body ∙ is))
          (shown_of [] parts full before);
      chained = chained;
      at_end = at ∙ ap length (sym (append-nil body));
      empty = empty;
      closes = last;
    })
whole_of parts l body is some full before chained at last fits (x ∷ xs) there =
    let long : 0 < length l.bytes = subst (λ (y : List ℕ). 0 < length y) (sym there) (omega arith) in
    let same : joined parts ++ l.bytes ≡ body ++ (x ∷ xs) = ap (λ (y : List ℕ). y ++ l.bytes) (sym is)
    ∙ ap (λ (y : List ℕ). body ++ y) there in
    inl (subst (λ (y : List ℕ). InOrder (parts ++ l ∷ []) y) same (record {
      pieces = pieces_whole parts l full chained last fits (inl long);
      chained = chained;
      ends = ends_behind parts l last;
    }))

pub whole_next : (limit : ℕ) (parts : List Part) (p : PartialBody) (b : Block) (payload : List ℕ)
    → JoinedFrom limit parts p
    → length p.bytes ≡ offset_of b.num b.szx → b.more ≡ false → length payload ≤ size_of b.szx
    → offset_of b.num b.szx + length payload ≤ limit
    → IsWholeBody limit (parts ++ part b None payload ∷ []) (p.bytes ++ payload)
whole_next limit parts p b payload j at last fits short =
    let n = ap length j.bytes in
    record {
      whole = whole_of parts (part b None payload) p.bytes j.bytes j.some j.full j.chained
          (chained_behind 0 parts (part b None payload) j.chained (omega (arith, at, n)))
          (sym at) last fits payload refl;
      joined_is = ap (λ (x : List ℕ). x ++ payload) j.bytes ∙ sym (joined_behind parts (part b None payload));
      short = omega (arith, short, at, length-append p.bytes payload);
    }

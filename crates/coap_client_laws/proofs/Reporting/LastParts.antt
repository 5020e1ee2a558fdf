-- Where the parts that a transfer gathered and the one that comes are whole, that is the last one to the transfer.
use Rattle.std.proofs.Common.{◌≡◌, ◌≢◌, ◌≤◌, ◌<◌, ◌⊎◌, inl, inr, ℕ, ◌+◌, ◌-◌, min, Bool, true, false, cond, not, ◌&&◌}
use Rattle.std.proofs.Common.{◌||◌, Option, Some, None, is_some, List, [], ◌∷◌, ◌++◌, length, drop, refl, ap, sym}
use Rattle.std.proofs.Common.{◌∙◌, arith}
use Rattle.std.specs.Prelude.{◌==◌, nat_lt, nat_le}
use Rattle.std.proofs.lemmas.Bool.{lt-ltb}
use Rattle.std.proofs.lemmas.Bool.Decides.{nat_tests}
use Rattle.std.proofs.lemmas.List.{length-take, length-drop}
use Rattle.std.proofs.lemmas.Slice.Eq.{bytes_eq-Decides}
use Rattle.coap_types.specs.OptionValues.{value_of}
use Rattle.coap_types.specs.BlockValue.{block_in}
use Rattle.coap_types.specs.Piece.{size_of, offset_of, Begins, Piece}
use Rattle.coap_types.specs.declared.block.Block.{Block}
use Rattle.coap_types.specs.declared.option_number.TheConstants.{BLOCK2 as block2}
use Rattle.coap_codec.specs.Message.{Message}
use Rattle.coap_block.specs.declared.fetch_progress.Asked.{Asked}
use Rattle.coap_block.specs.declared.fetch_step.FetchRefusal.TheVariants as refusal
use Rattle.coap_block.specs.declared.fetch_verdict.Verdict.{Verdict}
use Rattle.coap_block.specs.declared.fetch_verdict.Verdict.TheVariants as verdict
use Rattle.coap_block.specs.FetchStep.{FetchState, fits, is_sized, same_tag, differs_from, lacks_tag}
use Rattle.coap_block.specs.FetchStep as F
use Rattle.coap_block.specs.Gathered.{part as part_of_block, payloads_of, Gathered, Awaits}
use Rattle.coap_block.specs.Whole.{Part, Each, joined, Chained, Ends, HasTag, OneTag, Blocks, Whole}
use Rattle.coap_block.proofs.Facts.Laws.{one_body, whole_by_parts}
use Rattle.coap_client.specs.Responses.{said, tag_in, part, part_by}
use Rattle.coap_client_laws.specs.Follows.Bodies.{ComesLast}
use Rattle.coap_client_laws.specs.Follows.Whole.{IsAsked, MakesWhole}
use Rattle.coap_client.proofs.Facts.Places.PlaceLemmas.{number_self}
use Rattle.coap_client_laws.proofs.Fetching.FetchUnchanged.{or_right as or_true}

-- the last of some parts

each_last : {X : Type 0} (P : X → Type 0) (xs : List X) (x : X) → Each P (xs ++ x ∷ []) → P x
each_last P [] x h = h.0
each_last P (y ∷ xs) x h = each_last P xs x h.1

ends_last : (ps : List Part) (l : Part) → Ends (ps ++ l ∷ []) → l.more ≡ false
ends_last [] l h = h
ends_last (p ∷ []) l h = h
ends_last (p ∷ q ∷ ps) l h = ends_last (q ∷ ps) l h

-- a piece at the end of the body

record AtEnd (len whole offset size num : ℕ) : Type 0 where
  short : len ≤ size
  sum : offset + len ≡ whole
  some : (0 < len) ⊎ (num ≡ 0)

at_end : (len whole offset size num : ℕ) → len ≡ min size (whole - offset) → whole ≤ offset + size
    → (offset < whole) ⊎ ((num ≡ 0) × ((whole ≡ 0) × (offset ≡ 0))) → AtEnd len whole offset size num
at_end len whole offset size num is reaches (inl before) = record {
  short = omega (arith, is);
  sum = omega (arith, is, reaches, before);
  some = inl (omega (arith, is, reaches, before));
}
at_end len whole offset size num is reaches (inr h) =
    let none = h.1.0 in
    let start = h.1.1 in
    record {
      short = omega (arith, is);
      sum = omega (arith, is, none, start);
      some = inr h.0;
    }

end_piece : (body bytes : List ℕ) (num szx : ℕ) (more : Bool) → more ≡ false → Piece body num more szx bytes
    → AtEnd (length bytes) (length body) (offset_of num szx) (size_of szx) num
end_piece body bytes num szx more last p =
    at_end (length bytes) (length body) (offset_of num szx) (size_of szx) num
    (ap length p.bytes ∙ (length-take (size_of szx) (drop (offset_of num szx) body)
    ∙ ap (min (size_of szx)) (length-drop (offset_of num szx) body))) (p.reaches_end.0 last) (by p.begins)
  where
    by : Begins body num szx
        → (offset_of num szx < length body) ⊎ ((num ≡ 0) × ((length body ≡ 0) × (offset_of num szx ≡ 0)))
    by (inl before) = inl before
    by (inr h) =
        let start : offset_of num szx ≡ offset_of 0 szx = ap (λ n. offset_of n szx) h.0 in
        let zero_is : offset_of 0 szx ≡ 0 = omega arith in
        inr (h.0, (ap length h.1, start ∙ zero_is))

-- the tests of a transfer, in their order

done_by : (a l n d more : Bool) (v w : Verdict) → a ≡ true → l ≡ false → n ≡ false → d ≡ false → more ≡ false
    → cond (not a) (verdict.Refuse refusal.BadBlock) (cond l (verdict.Refuse refusal.TooLarge)
    (cond n (verdict.Refuse refusal.NoTag) (cond d v (cond more w verdict.Done)))) ≡ verdict.Done
done_by false l n d more v w p q r s t = absurd (cc p)
done_by true true n d more v w p q r s t = absurd (cc q)
done_by true false true d more v w p q r s t = absurd (cc r)
done_by true false false true more v w p q r s t = absurd (cc s)
done_by true false false false true v w p q r s t = absurd (cc t)
done_by true false false false false v w p q r s t = refl

le_true : (a b : ℕ) → a ≤ b → nat_le a b ≡ true
le_true a b h = grind (arith, nat_tests, h)

lt_false : (a b : ℕ) → b ≤ a → nat_lt a b ≡ false
lt_false a b h = grind (arith, nat_tests, h)

and_false : (b : Bool) → (b && false) ≡ false
and_false true = refl
and_false false = refl

sized : (num szx len : ℕ) → len ≤ size_of szx → (0 < len) ⊎ (num ≡ 0) → is_sized false num szx len ≡ true
sized num szx len short some =
    ap (λ b. b && (nat_lt 0 len || (num == 0))) (le_true len (size_of szx) short) ∙ by some
  where
    by : (0 < len) ⊎ (num ≡ 0) → (nat_lt 0 len || (num == 0)) ≡ true
    by (inl h) = ap (λ b. b || (num == 0)) (lt-ltb 0 len h)
    by (inr h) = ap (λ n. nat_lt 0 len || (n == 0)) h ∙ or_true (nat_lt 0 len)

asked_fits : (asked : Option Asked) (b : Block) → IsAsked asked (Some b) → fits asked b.num b.szx ≡ true
asked_fits None b h = ap (λ n. n == 0) h
asked_fits (Some a) b h =
    ap (λ n. (n == a.num) && (b.szx == a.szx)) h.0
    ∙ (ap (λ x. x && (b.szx == a.szx)) (number_self a.num) ∙ (ap (λ n. n == a.szx) h.1 ∙ number_self a.szx))

-- several parts have one ETag

tag_of_last : (ps : List Part) (l : Part) → ps ≢ [] → OneTag (ps ++ l ∷ []) → (t : List ℕ)
    × (l.tag ≡ Some t) × Each (HasTag t) (ps ++ l ∷ [])
tag_of_last [] l some h = absurd (some refl)
tag_of_last (p ∷ []) l some h = (h.0, each_last (HasTag h.0) (p ∷ []) l h.1, h.1)
tag_of_last (p ∷ q ∷ ps) l some h = (h.0, each_last (HasTag h.0) (p ∷ q ∷ ps) l h.1, h.1)

same_first : (ps : List Part) (l : Part) (s t : List ℕ) → ps ≢ [] → Each (HasTag s) ps
    → Each (HasTag t) (ps ++ l ∷ []) → t ≡ s
same_first [] l s t some a b = absurd (some refl)
same_first (p ∷ ps) l s t some a b = let e : Some t ≡ Some s = sym b.0 ∙ a.0 in cc e

tag_same : (t : List ℕ) → same_tag (Some t) (Some t) ≡ true
tag_same t = (bytes_eq-Decides t t).1 refl

record TagFits (asked : Option Asked) (old : Option (List ℕ)) (b : Block) (tag : Option (List ℕ)) : Type 0 where
  has : lacks_tag b tag ≡ false
  same : differs_from asked old tag ≡ false

tag_fits : (asked : Option Asked) (old : Option (List ℕ)) (b : Block) (tag : Option (List ℕ)) (payload : List ℕ)
    (parts : List Part) → Awaits asked old parts → IsAsked asked (Some b) → b.more ≡ false
    → OneTag (parts ++ part_of_block b tag payload ∷ []) → TagFits asked old b tag
tag_fits None old b tag payload parts w is last one = record {
  has =
      ap (λ x. (x || nat_lt 0 b.num) && not (is_some tag)) last
      ∙ ap (λ x. x && not (is_some tag)) (lt_false 0 b.num (omega (arith, is)));
  same = refl;
}
tag_fits (Some asked) old b tag payload parts w is last one =
    let z = tag_of_last parts (part_of_block b tag payload) w.1 one in
    let t : List ℕ = w.2.0 in
    let same : z.0 ≡ t = same_first parts (part_of_block b tag payload) t z.0 w.1 w.2.2 z.2 in
    let tag_is : tag ≡ Some t = z.1 ∙ ap (λ x. Some x) same in
    record {
      has = ap (λ (x : Option (List ℕ)). (b.more || nat_lt 0 b.num) && not (is_some x)) tag_is
          ∙ and_false (b.more || nat_lt 0 b.num);
      same = ap (λ (x : Option (List ℕ)). not (same_tag x old)) tag_is
          ∙ (ap (λ (x : Option (List ℕ)). not (same_tag (Some t) x)) w.2.1 ∙ ap not (tag_same t));
    }

-- a block; a message without a block

last_block : (parts : List Part) (f : FetchState) (b : Block) (tag : Option (List ℕ)) (payload body : List ℕ)
    → Gathered parts f → IsAsked f.asked (Some b) → Whole (payloads_of parts (Some b) tag payload) body
    → length body ≤ f.limit → F.verdict f (Some b) tag (length payload) ≡ verdict.Done
last_block parts f b tag payload body g is whole short =
    let l : Part = part_of_block b tag payload in
    let last : b.more ≡ false = ends_last parts l whole.0.ends in
    let piece = each_last (Rattle.coap_block.specs.Whole.IsPieceOf body) parts l whole.0.pieces in
    let e = end_piece body payload b.num b.szx b.more last piece in
    let sum = e.sum in
    let tags = tag_fits f.asked f.tag b tag payload parts g.awaits is last whole.1 in
    done_by (fits f.asked b.num b.szx && is_sized b.more b.num b.szx (length payload))
    (nat_lt f.limit (offset_of b.num b.szx + length payload)) (lacks_tag b tag) (F.differs f tag) b.more
    (F.changed f.restarts) (verdict.Ask (F.next_num f b) (F.next_szx f b))
    (ap (λ x. x && is_sized b.more b.num b.szx (length payload)) (asked_fits f.asked b is)
    ∙ (ap (λ x. is_sized x b.num b.szx (length payload)) last ∙ sized b.num b.szx (length payload) e.short e.some))
    (lt_false f.limit (offset_of b.num b.szx + length payload) (omega (arith, sum, short))) tags.has tags.same last

last_alone : (parts : List Part) (f : FetchState) (tag : Option (List ℕ)) (payload body : List ℕ) → Gathered parts f
    → parts ≡ [] → payload ≡ body → length body ≤ f.limit
    → F.verdict f None tag (length payload) ≡ verdict.Done
last_alone parts f tag payload body g none whole short = by f.asked g.awaits
  where
    by : (o : Option Asked) → Awaits o f.tag parts
        → cond (is_some o) (verdict.Refuse refusal.BadBlock)
        (cond (nat_lt f.limit (length payload)) (verdict.Refuse refusal.TooLarge) verdict.Done) ≡ verdict.Done
    by None w = let len : length payload ≡ length body = ap length whole in
        ap (λ b. cond b (verdict.Refuse refusal.TooLarge) verdict.Done)
        (lt_false f.limit (length payload) (omega (arith, len, short)))
    by (Some asked) w = absurd (w.1 none)

-- what comes last is the last part to the transfer

block_part : (f : FetchState) (tag : Option (List ℕ)) (len : ℕ) (b : Block) (o : Option (List ℕ))
    → elim o [ None ↦ None | Some value ↦ block_in value ] ≡ Some b → part_by f tag len o ≡ F.verdict f (Some b) tag len
block_part f tag len b None h = absurd (cc h)
block_part f tag len b (Some v) h = ap (λ x. elim x [
  | None ↦ verdict.Refuse refusal.BadBlock
  | Some y ↦ F.verdict f (Some y) tag len
]) h

last_done : (f : FetchState) (m : Message) (body : List ℕ) (parts : List Part) (block : Option Block)
    → Gathered parts f → ComesLast parts m block → IsAsked f.asked block
    → Whole (payloads_of parts block (tag_in m) m.payload) body → length body ≤ f.limit
    → (part f m ≡ verdict.Done) × (F.verdict f block (tag_in m) (length m.payload) ≡ verdict.Done)
last_done f m body parts None g last is whole short =
    let d = last_alone parts f (tag_in m) m.payload body g last.1 whole short in
    (ap (part_by f (tag_in m) (length m.payload)) last.0 ∙ d, d)
last_done f m body parts (Some b) g last is whole short =
    let d = last_block parts f b (tag_in m) m.payload body g is whole short in
    (block_part f (tag_in m) (length m.payload) b (value_of block2 (said m)) last ∙ d, d)

pub record IsLast (f : FetchState) (m : Message) (body : List ℕ) : Type 0 where
  pub done : part f m ≡ verdict.Done
  pub body_is : f.gathered ++ m.payload ≡ body

pub last_part : (f : FetchState) (m : Message) (body : List ℕ) → MakesWhole f.limit f m body → IsLast f m body
last_part f m body w =
    let d = last_done f m body w.parts w.block w.gathered w.last w.asked w.whole w.short in
    record {
      done = d.0;
      body_is = one_body (payloads_of w.parts w.block (tag_in m) m.payload) (f.gathered ++ m.payload) body
          (whole_by_parts w.parts f w.block (tag_in m) m.payload w.gathered d.1) w.whole;
    }

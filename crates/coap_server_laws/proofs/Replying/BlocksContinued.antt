-- A block that others follow is answered with 2.31 and a size that fits, or with an error.
use Rattle.std.proofs.Common.{◌≡◌, ◌≤◌, ◌<◌, inl, inr, ℕ, ◌==◌, ◌+◌, min, nat_le, nat_lt, Bool, true, false, ◌&&◌}
use Rattle.std.proofs.Common.{not, Option, Some, None, List, [], ◌∷◌, length, refl, ap, sym, subst, ◌∙◌, cond, arith}
use Rattle.std.proofs.lemmas.Bool.Decides.{nat_tests}
use Rattle.coap_types.specs.Piece.{offset_of}
use Rattle.coap_types.specs.declared.block.Block.{Block}
use Rattle.coap_types.specs.declared.endpoint.Endpoint.{Endpoint}
use Rattle.coap_codec.specs.Message.{Message}
use Rattle.coap_layer.specs.Trace as L
use Rattle.coap_layer.specs.declared.setup.Setup.{Setup}
use Rattle.coap_block.specs.AssemblyAnswer.{refusal_code}
use Rattle.coap_block.specs.AssemblyState.{AssemblyState, reached, without_key}
use Rattle.coap_block.specs.AssemblyStep.{answered_szx, fills, goes_on, ruling, there_at}
use Rattle.coap_block.specs.Sizes.{Sizes}
use Rattle.coap_block.specs.declared.assembly_step.AssemblyRefusal.{AssemblyRefusal}
use Rattle.coap_block.specs.declared.assembly_step.AssemblyRefusal.TheVariants.{BadRequest, EntityIncomplete}
use Rattle.coap_block.specs.declared.assembly_step.AssemblyRefusal.TheVariants.{EntityTooLarge, Unavailable}
use Rattle.coap_block.specs.declared.block_verdict.BlockVerdict.{BlockVerdict}
use Rattle.coap_block.specs.declared.block_verdict.BlockVerdict.TheVariants.{Refuse, Join, Done}
use Rattle.coap_resource.specs.Serves.{Question}
use Rattle.coap_resource.specs.Limits.{Limits}
use Rattle.coap_exchange.specs.declared.answerer.Asked.{Asked}
use Rattle.coap_exchange.specs.AnswererTrace as E
use Rattle.coap_server.specs.Trace.{Own, Handling, Replies, Call, Feeds}
use Rattle.coap_server.specs.Checks.{Verdict, Uploads, bad_request, verdict_on}
use Rattle.coap_server.specs.Responses.{bare}
use Rattle.coap_server.specs.Uploads.{key_of, ruling_of, continuing}
use Rattle.coap_server.specs.Handling.{incoming, heard, HandlesBlock, Handles}
use Rattle.coap_server.specs.Law.{ServerLaw, own_of}
use Rattle.coap_server.specs.Follows.Attended.{came_in}
use Rattle.coap_server_laws.specs.Follows.Continues.{KeepsSize, IsForBlock, continues, refuses, AnswersBlock}
use Rattle.coap_server_laws.specs.Follows.Continues.{AllContinuesFit}
use Rattle.coap_server_laws.specs.Follows.Gives.{size_by, size_of, size_in}
use Rattle.coap_server.specs.Follows.Takes.{Took, took, took_by, taken_by, takes_block}
use Rattle.coap_server.proofs.Facts.Serving.Brought.{server_back, szx_is}
use Rattle.coap_server_laws.proofs.Telling.ResponsesMade.{last_none, pair_of}

-- the size that is answered

number_is : (n m : ℕ) → (n == m) ≡ true → n ≡ m
number_is n m h = grind (arith, nat_tests, h)

smaller : (num size szx : ℕ) → num ≡ 0 → KeepsSize num size (min size szx)
smaller num size szx first = by (nat_le size szx) refl
  where
    by : (b : Bool) → nat_le size szx ≡ b → KeepsSize num size (min size szx)
    by true h = inl (grind (arith, nat_tests, h))
    by false h = let less : szx < size = grind (arith, nat_tests, h) in inr (first, omega (arith, less))

answered_keeps : (szx : ℕ) (b : Block) → KeepsSize b.num b.szx (answered_szx szx b)
answered_keeps szx b = by (b.num == 0) refl
  where
    by : (c : Bool) → (b.num == 0) ≡ c → KeepsSize b.num b.szx (cond c (min b.szx szx) b.szx)
    by true h = smaller b.num b.szx szx (number_is b.num 0 h)
    by false h = inl refl

-- what the tests come to

joins_size : (sizes : Sizes) (there : Option ℕ) (others : ℕ) (b : Block) (len n : ℕ)
    → ruling sizes there others b len ≡ Join n → n ≡ answered_szx sizes.szx b
joins_size sizes there others b len n h = by (not (fills b.more b.szx len)) (not (goes_on there b.num b.szx))
    (nat_lt sizes.limit (offset_of b.num b.szx + len)) (b.more && (b.num == 0) && nat_le 16 others) b.more h
  where
    by : (f g l u m : Bool) → cond f (Refuse BadRequest)
        (cond g (Refuse EntityIncomplete) (cond l (Refuse EntityTooLarge)
        (cond u (Refuse Unavailable) (cond m (Join (answered_szx sizes.szx b)) Done)))) ≡ Join n
        → n ≡ answered_szx sizes.szx b
    by true g l u m k = absurd (cc k)
    by false true l u m k = absurd (cc k)
    by false false true u m k = absurd (cc k)
    by false false false true m k = absurd (cc k)
    by false false false false true k = let e : answered_szx sizes.szx b ≡ n = cc k in sym e
    by false false false false false k = absurd (cc k)

more_not_done : (sizes : Sizes) (there : Option ℕ) (others : ℕ) (b : Block) (len : ℕ) → b.more ≡ true
    → ruling sizes there others b len ≡ Done → ⊥
more_not_done sizes there others b len more h = by (not (fills b.more b.szx len)) (not (goes_on there b.num b.szx))
    (nat_lt sizes.limit (offset_of b.num b.szx + len)) (b.more && (b.num == 0) && nat_le 16 others) b.more more h
  where
    by : (f g l u m : Bool) → m ≡ true → cond f (Refuse BadRequest)
        (cond g (Refuse EntityIncomplete) (cond l (Refuse EntityTooLarge)
        (cond u (Refuse Unavailable) (cond m (Join (answered_szx sizes.szx b)) Done)))) ≡ Done → ⊥
    by true g l u m e k = cc k
    by false true l u m e k = cc k
    by false false true u m e k = cc k
    by false false false true m e k = cc k
    by false false false false true e k = cc k
    by false false false false false e k = cc e

refusal_high : (why : AssemblyRefusal) → bad_request ≤ (refusal_code why).0
refusal_high BadRequest = omega arith
refusal_high _ = omega arith

-- what becomes of the block
record Replied (b : Block) (h : Handling) : Type 0 where
  response : E.Response
  is : h ≡ Replies response
  fits : IsForBlock b response

block_replied : (v : BlockVerdict) (s : Own) (a : Asked) (q : Question) (b : Block) (h : Handling) → b.more ≡ true
    → ruling_of s.uploads s.clock a q b ≡ v → HandlesBlock v s a q b h → Replied b h
block_replied (Refuse why) s a q b h more e k = record {
  response = bare (refusal_code why).0;
  is = k;
  fits = refuses (refusal_code why).0 (refusal_high why) refl;
}
block_replied (Join n) s a q b h more e k =
    let u : AssemblyState = s.uploads in
    let size : n ≡ answered_szx u.szx b = joins_size (record { szx = u.szx; limit = u.limit })
    (reached (key_of a q) (there_at u s.clock)) (length (without_key (key_of a q) (there_at u s.clock))) b
    (length q.body) n e in
    record {
      response = continuing n b;
      is = k;
      fits = continues n (subst (KeepsSize b.num b.szx) (sym size) (answered_keeps u.szx b)) refl;
    }
block_replied Done s a q b h more e k =
    let u : AssemblyState = s.uploads in
    absurd (more_not_done (record { szx = u.szx; limit = u.limit }) (reached (key_of a q) (there_at u s.clock))
    (length (without_key (key_of a q) (there_at u s.clock))) b (length q.body) more e)

replied : (s : Own) (a : Asked) (v : Verdict) (q : Question) (b : Block) (h : Handling) → b.more ≡ true
    → v ≡ Uploads q b → Handles s a v h → Replied b h
replied s a v q b h more is k =
    let on : HandlesBlock (ruling_of s.uploads s.clock a q b) s a q b h = subst (λ w. Handles s a w h) is k in
    block_replied (ruling_of s.uploads s.clock a q b) s a q b h more refl on

-- the size that is asked for
size_keeps : (u : AssemblyState) (at : ℕ) (a : Asked) (v : Verdict) (x : Took) (size : ℕ) → taken_by u at a v ≡ Some x
    → size_of u at a v ≡ Some size → KeepsSize x.part.num x.part.szx size
size_keeps u at a (Uploads q b) x size h k = by (ruling_of u at a q b) refl h k
  where
    by : (r : BlockVerdict) → ruling_of u at a q b ≡ r → took_by r (took a q b) ≡ Some x → size_by r ≡ Some size
        → KeepsSize x.part.num x.part.szx size
    by (Refuse why) is t s = absurd (cc t)
    by Done is t s = absurd (cc s)
    by (Join n) is t s =
        let same : took a q b ≡ x = cc t in
        let asked : n ≡ size = cc s in
        let answered : n ≡ answered_szx u.szx b = joins_size (record { szx = u.szx; limit = u.limit })
        (reached (key_of a q) (there_at u at)) (length (without_key (key_of a q) (there_at u at))) b (length q.body) n
        is in
        subst (λ (y : Took). KeepsSize y.part.num y.part.szx size) same
        (subst (KeepsSize b.num b.szx) (sym answered ∙ asked) (answered_keeps u.szx b))
size_keeps u at a _ x size h k = absurd (cc h)

module _ (limits : Limits) (szx : ℕ) (setup : Setup) (t : List Call) where
  abbrev own : Own
  own = own_of limits szx t

  module _ (now : ℕ) (from : Endpoint) (bytes : List ℕ) (w : ℕ) (up : L.Answer) (below : L.Answer) where
    -- where the request is replied to, that is all
    answers : (p : Asked × Message) (b : Block) (r : E.Response) → IsForBlock b r
        → AnswersBlock limits szx t (Feeds now from bytes w up (Some p) (Replies r) below) p.0 b
    answers p b r fits = record {
      response = r;
      sends = inl refl;
      fits = fits;
      only = λ x y k. elim k [
        | inl e ↦ (let same = pair_of p.0 x r y e in (sym same.0, sym same.1))
        | inr n ↦ absurd (last_none x y (incoming own now from bytes up (Some p)) (λ z. cc z) n)
      ];
      unserved = refl;
      none_waits = refl;
    }

    answers_so : (p : Asked × Message) (b : Block) (h : Handling) → Replied b h
        → AnswersBlock limits szx t (Feeds now from bytes w up (Some p) h below) p.0 b
    answers_so p b h k = subst (λ g. AnswersBlock limits szx t (Feeds now from bytes w up (Some p) g below) p.0 b)
        (sym k.is) (answers p b k.response k.fits)

    fed : (came : Option (Asked × Message)) (h : Handling)
        → ServerLaw limits szx setup (Feeds now from bytes w up came h below ∷ t)
        → (p : Asked × Message) (q : Question) (b : Block) → came ≡ Some p → verdict_on szx p.1 ≡ Uploads q b
        → b.more ≡ true → AnswersBlock limits szx t (Feeds now from bytes w up came h below) p.0 b
    fed None h law p q b is v more = absurd (cc is)
    fed (Some o) h law p q b is v more =
        let s : Own = heard own now (incoming own now from bytes up (Some o)) in
        let same : o ≡ p = cc is in
        let verdict : verdict_on s.szx o.1 ≡ Uploads q b =
        ap (λ n. verdict_on n o.1) (szx_is limits szx t) ∙ (ap (λ (z : Asked × Message). verdict_on szx z.1) same
        ∙ v) in
        let k : Replied b h = replied s o.0 (verdict_on s.szx o.1) q b h more verdict law.rows.0 in
        subst (λ (z : Asked × Message). AnswersBlock limits szx t (Feeds now from bytes w up (Some o) h below) z.0 b)
        same
        (answers_so o b h k)

  blocks : (c : Call) → ServerLaw limits szx setup (c ∷ t) → (p : Asked × Message) (q : Question) (b : Block)
      → came_in c ≡ Some p → verdict_on szx p.1 ≡ Uploads q b → b.more ≡ true → AnswersBlock limits szx t c p.0 b
  blocks (Feeds now from bytes w up came h below) law p q b is v more =
      fed now from bytes w up below came h law p q b is v more
  blocks _ law p q b is v more = absurd (cc is)

  pub sizes : (c : Call) (x : Took) (size : ℕ) → takes_block own c ≡ Some x → size_in own c ≡ Some size
      → KeepsSize x.part.num x.part.szx size
  sizes (Feeds now from bytes w up (Some p) h below) x size e k =
      let s : Own = heard own now (incoming own now from bytes up (Some p)) in
      size_keeps own.uploads s.clock p.0 (verdict_on own.szx p.1) x size e k
  sizes _ x size e k = absurd (cc e)

pub all_continues_fit : (limits : Limits) (szx : ℕ) (setup : Setup) (t : List Call) → ServerLaw limits szx setup t
    → AllContinuesFit limits szx t
all_continues_fit limits szx setup [] law = tt
all_continues_fit limits szx setup (c ∷ t) law = (
  record { blocks = blocks limits szx setup t c law; sizes = sizes limits szx setup t c },
  all_continues_fit limits szx setup t (server_back limits szx setup c t law),
)

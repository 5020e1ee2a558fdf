-- More requests than all passes over the longest body have blocks are sent only where a body is heard to go on behind
-- that.
use Rattle.std.proofs.Common.{◌≡◌, ◌≤◌, ◌⊎◌, inl, inr, ℕ, ◌+◌, ◌*◌, Bool, true, false, cond, nat_lt}
use Rattle.std.proofs.Common.{Some, List, [], ◌∷◌, length, refl, ap, subst, ◌∙◌, arith}
use Rattle.std.proofs.lemmas.Bool.{ltb-true}
use Rattle.coap_types.specs.Piece.{size_of}
use Rattle.coap_types.specs.declared.block.Block.{Block}
use Rattle.coap_types.specs.declared.endpoint.Endpoint.{Endpoint}
use Rattle.coap_layer.specs.declared.setup.Setup.{Setup}
use Rattle.coap_codec.specs.Message.{Message}
use Rattle.coap_block.specs.Sizes.{Sizes}
use Rattle.coap_block.specs.declared.fetch_verdict.Verdict.TheVariants as verdict
use Rattle.coap_block.specs.FetchStep.{FetchState}
use Rattle.coap_block.specs.FetchStep as F
use Rattle.coap_client.specs.Trace.{Request, Call}
use Rattle.coap_client.specs.Own.{Transfer, Fetches, Uploads, Single, Calling}
use Rattle.coap_client.specs.Responses.{content, tag_in, part}
use Rattle.coap_client.specs.Calls.{answer}
use Rattle.coap_client.specs.Calls as calls
use Rattle.coap_client_laws.specs.Follows.AnswersLastRequest.{Answers, AnswersLast}
use Rattle.coap_client_laws.proofs.Facts.WhatIsBeyond.{all_passes, GoesBeyond, HearsBeyond, IsWithin}
use Rattle.coap_client_laws.specs.Follows.Bounds.{max_blocks, one_of, one_sent, requests}
use Rattle.coap_client.specs.Law.{ClientLaw, ClientRows, own_of}
use Rattle.coap_client_laws.specs.Follows.Order.{call_of}
use Rattle.coap_client.specs.Sendings.{Sending, sends, hears}
use Rattle.coap_client.proofs.Facts.Places.PlaceLemmas.{number_self}
use Rattle.coap_client_laws.proofs.Reporting.Bodies.{heard_for}
use Rattle.coap_client_laws.proofs.Reporting.FetchedParts.{FetchNext, fetch_next, part_asks}
use Rattle.coap_client_laws.proofs.Counting.Blocks.{blocks_hold, one_block}
use Rattle.coap_client_laws.proofs.Counting.Bounds.{sent_or_not, the_call, at_most_one, started, runs_within}
use Rattle.coap_client_laws.proofs.Counting.BoundedTransfers.{Within}
use Rattle.coap_client_laws.proofs.Queueing.OneByOne.{sent_now}
use Rattle.coap_client_laws.proofs.Turning.Origins.{Origin, kept, begins, follows, origin}
use Rattle.coap_client_laws.proofs.Uploading.Pieces.{answers_last}
use Rattle.coap_client_laws.proofs.Uploading.TransferSteps.{FetchWithin, asks_more, at_gathered, size_least}
use Rattle.coap_client_laws.proofs.Uploading.TransferSteps.{upload_bound}
use Rattle.coap_client_laws.proofs.Uploading.TransferSteps.{few_passes, lt_not}

-- all passes are over but the last, which has gathered as many blocks as hold the longest body
is_beyond : (n all old len blocks limit : ℕ) → 16 * n ≤ 16 * all + old + 16 → all ≤ 3 * blocks → n ≡ 4 * blocks
    → limit ≤ 16 * blocks → 16 ≤ len → limit ≤ old + len
is_beyond n all old len blocks limit few passes is hold least = omega (arith, few, passes, is, hold, least)

last_asks : (limit : ℕ) (f : FetchState) (m : Message) (n num size : ℕ) → part f m ≡ verdict.Ask num size
    → FetchWithin limit f n → n ≡ all_passes limit → GoesBeyond limit m
last_asks limit f m n num size h w is =
    let k = part_asks f m num size h in
    let b : Block = k.0 in
    let a = asks_more f b (tag_in m) (length m.payload) num size k.2 in
    let at = at_gathered f.asked (length f.gathered) b.num b.szx w.begins a.fits_it in
    let reached = is_beyond n (f.restarts * max_blocks limit) (length f.gathered) (size_of b.szx) (max_blocks limit)
    limit w.few (few_passes f.restarts (max_blocks limit) w.restarts) is (blocks_hold limit) (size_least b.szx) in
    record { block = b; says = k.1; more = a.more; beyond = omega (arith, at, reached) }

few_blocks : (b : Bool) (blocks n : ℕ) → 1 ≤ blocks → n ≤ cond b blocks 1 → n ≤ blocks
few_blocks true blocks n some h = h
few_blocks false blocks n some h = omega (arith, h, some)

-- a pass that begins anew is none of the last
not_anew : (n all blocks : ℕ) → 16 * (1 + n) ≤ 16 * all + 0 + 16 → all ≤ 3 * blocks → n ≡ 4 * blocks → 1 ≤ blocks → ⊥
not_anew n all blocks few passes full some = omega (arith, few, passes, full, some)

module _ (sizes : Sizes) (p q r : Request) (m : Message) (n : ℕ) (full : n ≡ all_passes sizes.limit) where
  -- a GET that goes on
  goes_on : (old : Transfer) (f : FetchState) → FetchNext old m f → Within sizes p old n
      → Within sizes q (Fetches f) (1 + n) → (m.code ≡ content) × GoesBeyond sizes.limit m
  goes_on old f next w v = elim next.next [
    | inl again ↦ (
        let k : FetchWithin sizes.limit (F.after next.before (tag_in m) m.payload verdict.Again) (1 + n) =
        subst (λ z. FetchWithin sizes.limit z (1 + n)) again v.1 in
        absurd (not_anew n ((next.before.restarts + 1) * max_blocks sizes.limit) (max_blocks sizes.limit) k.few
        (few_passes (next.before.restarts + 1) (max_blocks sizes.limit) k.restarts) full (one_block sizes.limit)))
    | inr more ↦ (
      next.code,
      last_asks sizes.limit next.before m n more.0 more.1 more.2
          (subst (λ z. Within sizes p z n) next.old_is w).1 full,
    )
  ]

  -- no other call sends so many
  follows_on : (old tr : Transfer) → answer r old m ≡ calls.Asks tr → Within sizes p old n → length q.body ≤ sizes.limit
      → Within sizes q tr (1 + n) → (m.code ≡ content) × GoesBeyond sizes.limit m
  follows_on old (Fetches f) asks w small v = goes_on old f (fetch_next r old m f asks) w v
  follows_on old (Uploads u) asks w small v =
      let some = one_block sizes.limit in
      let few = few_blocks (nat_lt (size_of sizes.szx) (length q.body)) (max_blocks sizes.limit) (1 + n) some
      (upload_bound sizes q.body u (1 + n) small v.1) in absurd (omega (arith, full, few, some))
  follows_on old Single asks w small v = let some = one_block sizes.limit in absurd (omega (arith, full, v, some))

module _ (sizes : Sizes) where
  module _ (t : List Call) (c : Call) (k : ℕ) (rows : ClientRows sizes (c ∷ t))
      (answers : (m : Message) → hears c ≡ Some m → Answers sizes t c m)
      (full : requests sizes k t ≡ all_passes sizes.limit) where
    by_origin : (x : Sending) → sends (own_of sizes t) c ≡ Some x → (r : Request) (tr : Transfer)
        → x.operation ≡ Calling k r tr → (own_of sizes (c ∷ t)).running ≡ Some (Calling k r tr)
        → Origin sizes t c k r tr
        → HearsBeyond sizes k t c
    by_origin x is r tr op runs (kept before none) = absurd (cc (is, none))
    by_origin x is r tr op runs (begins queue waits) =
        let none = started sizes t rows.1 k r tr queue waits in
        let some = one_block sizes.limit in
        absurd (omega (arith, none, full, some))
    by_origin x is r tr op runs (follows old m y before heard asks sends_it op_is) =
        let g = runs_within sizes t rows.1 k r old before in
        let v = runs_within sizes (c ∷ t) rows k r tr runs in
        let one : one_sent k (sends (own_of sizes t) c) ≡ 1 = ap (one_sent k) is
        ∙ (ap (λ o. one_of k (call_of o)) op ∙ ap (λ b. cond b 1 0) (number_self k)) in
        let more : requests sizes k (c ∷ t) ≡ 1 + requests sizes k t = omega (arith, one) in
        let z = follows_on sizes g.request v.request r m (requests sizes k t) full old tr asks g.within v.small
        (subst (Within sizes v.request tr) more v.within) in
        record {
          message = m;
          heard = heard_for sizes t c m k r old (answers m heard) before heard;
          code = z.0;
          part = z.1;
        }

    hears_beyond : (x : Sending) → sends (own_of sizes t) c ≡ Some x → call_of x.operation ≡ Some k
        → HearsBeyond sizes k t c
    hears_beyond x is of =
        let op = the_call x.operation k of in
        let runs = (sent_now sizes t c x is).runs ∙ ap (λ o. Some o) op.2 in
        by_origin x is op.0 op.1 op.2 runs (origin sizes t c k op.0 op.1 runs)

  step : (t : List Call) (c : Call) (k : ℕ) → ClientRows sizes (c ∷ t)
      → ((m : Message) → hears c ≡ Some m → Answers sizes t c m) → IsWithin sizes k t → IsWithin sizes k (c ∷ t)
  step t c k rows answers (inr h) = inr (inr h)
  step t c k rows answers (inl few) = by (sent_or_not k (sends (own_of sizes t) c))
    where
      by_count : (x : Sending) → sends (own_of sizes t) c ≡ Some x → call_of x.operation ≡ Some k → (b : Bool)
          → nat_lt (requests sizes k t) (all_passes sizes.limit) ≡ b → IsWithin sizes k (c ∷ t)
      by_count x is of true less = let one = at_most_one k (sends (own_of sizes t) c) in let l =
          ltb-true (requests sizes k t) (all_passes sizes.limit) less in inl (omega (arith, one, l))
      by_count x is of false not_less =
          let l = lt_not (requests sizes k t) (all_passes sizes.limit) not_less in
          inr (inl (hears_beyond t c k rows answers (omega (arith, few, l)) x is of))

      by : (one_sent k (sends (own_of sizes t) c) ≡ 0)
          ⊎ ((x : Sending) × (sends (own_of sizes t) c ≡ Some x) × (call_of x.operation ≡ Some k))
          → IsWithin sizes k (c ∷ t)
      by (inl none) = inl (omega (arith, few, none))
      by (inr h) = by_count h.0 h.1 h.2 (nat_lt (requests sizes k t) (all_passes sizes.limit)) refl

  all_within : (t : List Call) → ClientRows sizes t → AnswersLast sizes t → (k : ℕ) → IsWithin sizes k t
  all_within [] rows answers k = inl (omega arith)
  all_within (c ∷ t) rows answers k = step t c k rows answers.0 (all_within t rows.1 answers.1 k)

pub within_or_beyond : (server : Endpoint) (sizes : Sizes) (setup : Setup) (t : List Call)
    → ClientLaw server sizes setup t
    → (number : ℕ)
    → IsWithin sizes number t
within_or_beyond server sizes setup t law number = all_within sizes t law.rows
    (answers_last sizes server setup t law) number

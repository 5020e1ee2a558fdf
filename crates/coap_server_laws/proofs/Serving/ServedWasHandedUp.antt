-- What a server serves was handed up, and asks what was asked, with the whole body of its upload.
use Rattle.std.proofs.Common.{◌≡◌, inl, inr, ℕ, max, ◌==◌, ◌&&◌, ◌-◌, ◌+◌, nat_le, nat_lt, not, Bool, true, false}
use Rattle.std.proofs.Common.{Option, Some, None, List, [], ◌∷◌, ◌++◌, map, length, refl, ap, sym, subst, ◌∙◌, cond}
use Rattle.coap_types.specs.Past.{Sometime}
use Rattle.coap_types.specs.declared.endpoint.Endpoint.{Endpoint}
use Rattle.coap_codec.specs.Message.{Message}
use Rattle.coap_layer.specs.Trace as L
use Rattle.coap_types.specs.declared.block.Block.{Block}
use Rattle.coap_block.specs.declared.block_verdict.BlockVerdict.{BlockVerdict}
use Rattle.coap_block.specs.declared.block_verdict.BlockVerdict.TheVariants.{Refuse, Join, Done}
use Rattle.coap_block.specs.declared.assembly_step.AssemblyRefusal.TheVariants.{BadRequest, EntityIncomplete}
use Rattle.coap_block.specs.declared.assembly_step.AssemblyRefusal.TheVariants.{EntityTooLarge, Unavailable}
use Rattle.coap_types.specs.Piece.{offset_of}
use Rattle.coap_block.specs.Sizes.{Sizes}
use Rattle.coap_block.specs.AssemblyState.{AssemblyState, reached, without_key}
use Rattle.coap_block.specs.AssemblyStep.{ruling, fills, goes_on, answered_szx, with_block, there_at}
use Rattle.coap_block.specs.AssemblyTrace as A
use Rattle.coap_block.specs.AssemblyTrace.{Arrived, IsWholeBody}
use Rattle.coap_block.specs.Whole.{Part}
use Rattle.coap_block.proofs.Facts.Laws.{whole_by_blocks}
use Rattle.coap_resource.specs.Content.{Content}
use Rattle.coap_resource.specs.Serves.{Question}
use Rattle.coap_resource.specs.Limits.{Limits}
use Rattle.coap_exchange.specs.declared.answerer.Asked.{Asked}
use Rattle.coap_exchange.specs.declared.answerer.Due.{Due}
use Rattle.coap_exchange.specs.declared.answerer.Due.TheVariants as due
use Rattle.coap_exchange.specs.AnswererFollows.{same_asked}
use Rattle.coap_exchange.specs.AnswererSteps.{may_defer}
use Rattle.std.proofs.lemmas.Bool.{and_parts}
use Rattle.coap_layer.specs.declared.setup.Setup.{Setup}
use Rattle.coap_server.specs.Trace.{Waiting, Own, Handling, Serves, Waits}
use Rattle.coap_server.specs.Trace.{Call, Sets, Removes, Delays, Plains, Feeds, Refuses, Ticks, NextOut, Gets}
use Rattle.coap_server.specs.Trace.{TellsApplied}
use Rattle.coap_server.specs.Checks.{Verdict, Ignored, Refused, Asks, Uploads, verdict_on}
use Rattle.coap_server.specs.Uploads.{key_of, ruling_of, whole}
use Rattle.coap_server.specs.Deferring.{WaitsBy, AnswersWaiting, delay_for, is_of, question_of}
use Rattle.coap_server.specs.Deferring.{without_waiting as others}
use Rattle.coap_server.specs.Handling.{incoming, ticking, heard, HandlesBlock, Handles}
use Rattle.coap_server.specs.Steps.{waiting_due, ready_in}
use Rattle.coap_server.specs.Law.{ServerLaw, own_of}
use Rattle.coap_server.specs.Follows.Serves.{Serving, serving, serving_of}
use Rattle.coap_server.specs.Follows.Takes.{Took, took, took_by, taken_by, takes_block, blocks_since}
use Rattle.coap_server.specs.Follows.Brings.{Comes, Completes, AsksBy, Brings, AreHandedUp, ComesIn}
use Rattle.coap_server.specs.Follows.Brings.{BlocksCome}
use Rattle.coap_server.proofs.Facts.Serving.Brought.{server_back, szx_is, comes_here}
use Rattle.coap_server_laws.proofs.Serving.BlocksTaken.{history, arrived, limit_is, uploads_is, since_is}
use Rattle.coap_server.proofs.Facts.Serving.SameAsked.{same_asked_is}
use Rattle.coap_types.specs.SameEndpoint.{same_endpoint}
use Rattle.coap_server.specs.Deferring.{waiting_elsewhere}
use Rattle.coap_server.specs.Trace.{Forgets}

-- only a last block is Done
done_last : (sizes : Sizes) (there : Option ℕ) (others : ℕ) (b : Block) (len : ℕ)
    → ruling sizes there others b len ≡ Done
    → b.more ≡ false
done_last sizes there others b len h = by (not (fills b.more b.szx len)) (not (goes_on there b.num b.szx))
    (nat_lt sizes.limit (offset_of b.num b.szx + len)) (b.more && (b.num == 0) && nat_le 16 others) b.more h
  where
    by : (f g l u m : Bool) → cond f (Refuse BadRequest)
        (cond g (Refuse EntityIncomplete) (cond l (Refuse EntityTooLarge)
        (cond u (Refuse Unavailable) (cond m (Join (answered_szx sizes.szx b)) Done)))) ≡ Done → m ≡ false
    by true g l u m k = absurd (cc k)
    by false true l u m k = absurd (cc k)
    by false false true u m k = absurd (cc k)
    by false false false true m k = absurd (cc k)
    by false false false false true k = absurd (cc k)
    by false false false false false k = refl

-- and only a block with more behind it is joined
pub joins_more : (sizes : Sizes) (there : Option ℕ) (others : ℕ) (b : Block) (len n : ℕ)
    → ruling sizes there others b len ≡ Join n → b.more ≡ true
joins_more sizes there others b len n h = by (not (fills b.more b.szx len)) (not (goes_on there b.num b.szx))
    (nat_lt sizes.limit (offset_of b.num b.szx + len)) (b.more && (b.num == 0) && nat_le 16 others) b.more h
  where
    by : (f g l u m : Bool) → cond f (Refuse BadRequest)
        (cond g (Refuse EntityIncomplete) (cond l (Refuse EntityTooLarge)
        (cond u (Refuse Unavailable) (cond m (Join (answered_szx sizes.szx b)) Done)))) ≡ Join n → m ≡ true
    by true g l u m k = absurd (cc k)
    by false true l u m k = absurd (cc k)
    by false false true u m k = absurd (cc k)
    by false false false true m k = absurd (cc k)
    by false false false false true k = refl
    by false false false false false k = absurd (cc k)

-- what is served, and what waits, is what is asked
abbrev question_in : Handling → Option Question
question_in (Serves q reply left) = Some q
question_in (Waits q d) = Some q
question_in _ = None

one_question : (p q : Question) → Some p ≡ Some q → p ≡ q
one_question p q h = cc h

served_asks : (h : Handling) (p q : Question) → question_in h ≡ Some p → question_in h ≡ Some q → q ≡ p
served_asks h p q is e = one_question q p (sym e ∙ is)

whole_asks : (o : Option ℕ) (place : Bool) (old : Content) (at : ℕ) (p : Question) (h : Handling) (q : Question)
    → WaitsBy o place old at p h → question_in h ≡ Some q → q ≡ p
whole_asks (Some d) true old at p h q right is = served_asks h p q (ap question_in right) is
whole_asks (Some d) false old at p h q right is = served_asks h p q (ap question_in right.is) is
whole_asks None place old at p h q right is = served_asks h p q (ap question_in right.is) is

nothing_asked : (X : Type 0) (h : Handling) (q : Question) → question_in h ≡ None → question_in h ≡ Some q → X
nothing_asked X h q none is = let e : None ≡ Some q = sym none ∙ is in absurd (cc e)

module _ (limits : Limits) (szx : ℕ) (setup : Setup) where
  abbrev own : List Call → Own
  own t = own_of limits szx t

  -- the request that arrives
  module _ (t : List Call) (now : ℕ) (from : Endpoint) (bytes : List ℕ) (w : ℕ) (up : L.Answer) (p : Asked × Message)
      (h : Handling) (below : L.Answer) where
    abbrev call : Call
    call = Feeds now from bytes w up (Some p) h below

    abbrev moment : ℕ
    moment = max (own t).clock now

    abbrev here : Own
    here = heard (own t) now (incoming (own t) now from bytes up (Some p))

    pub completes : (q : Question) (b : Block) → verdict_on (own t).szx p.1 ≡ Uploads q b
        → ruling_of (own t).uploads moment p.0 q b ≡ Done
        → Completes limits szx t call p.0 q b (whole (own t).uploads moment p.0 q b)
    completes q b is done =
        let u : AssemblyState = (own t).uploads in
        let hist : history limits szx (call ∷ t) ≡ Arrived (history limits szx t) moment (key_of p.0 q) b q.body =
        ap (λ v. arrived (history limits szx t) moment p.0 v) is in
        let parts = since_is limits szx (key_of p.0 q) (call ∷ t) ∙ ap (A.blocks_since (key_of p.0 q)) hist in
        let blocks : List Part = map (λ x. x.part) (blocks_since limits szx (key_of p.0 q) (call ∷ t)) in
        record {
          takes = ap (λ v. taken_by u moment p.0 v) is ∙ ap (λ r. took_by r (took p.0 q b)) done;
          last = done_last (record { szx = u.szx; limit = u.limit }) (reached (key_of p.0 q) (there_at u moment))
              (length (without_key (key_of p.0 q) (there_at u moment))) b (length q.body) done;
          whole = subst (λ n. IsWholeBody n blocks (with_block u moment (key_of p.0 q) b q.body))
              (limit_is limits szx t)
              (subst (λ ps. IsWholeBody u.limit ps (with_block u moment (key_of p.0 q) b q.body)) (sym parts)
              (whole_by_blocks (history limits szx t) u moment (key_of p.0 q) b q.body (uploads_is limits szx t) done));
          question = refl;
        }

    block_asks : (v : BlockVerdict) (q : Question) (b : Block) (asked : Question)
        → verdict_on (own t).szx p.1 ≡ Uploads q b → ruling_of (own t).uploads moment p.0 q b ≡ v
        → HandlesBlock v here p.0 q b h → question_in h ≡ Some asked
        → Completes limits szx t call p.0 q b asked
    block_asks (Refuse why) q b asked is rule right e = nothing_asked _ h asked (ap question_in right) e
    block_asks (Join n) q b asked is rule right e = nothing_asked _ h asked (ap question_in right) e
    block_asks Done q b asked is rule right e =
        let it : Question = whole (own t).uploads moment p.0 q b in
        let same : asked ≡ it = whole_asks (delay_for p.0.kind q.path here.delays)
        (may_defer here.exchanges.deferred) here.store here.clock it h asked right e in
        subst (Completes limits szx t call p.0 q b) (sym same) (completes q b is rule)

    pub asks_by : (v : Verdict) (q : Question) → verdict_on (own t).szx p.1 ≡ v → Handles here p.0 v h
        → question_in h ≡ Some q → AsksBy limits szx t call p.0 q v
    asks_by Ignored q is right e = nothing_asked _ h q (ap question_in right) e
    asks_by (Refused code) q is right e = nothing_asked _ h q (ap question_in right) e
    asks_by (Asks asked) q is right e = whole_asks (delay_for p.0.kind asked.path here.delays)
        (may_defer here.exchanges.deferred) here.store here.clock asked h q right e
    asks_by (Uploads asked b) q is right e = block_asks
        (ruling_of (own t).uploads moment p.0 asked b) asked b q is refl right e

    pub brings_here : ServerLaw limits szx setup (call ∷ t) → (q : Question) → question_in h ≡ Some q
        → Brings limits szx setup t call p.0 q
    brings_here law q e =
        let v : Verdict = verdict_on (own t).szx p.1 in
        let same : verdict_on szx p.1 ≡ v = ap (λ n. verdict_on n p.1) (sym (szx_is limits szx t)) in
        record {
          verdict = v;
          comes = subst (Comes limits szx setup t call p.0) same
              (comes_here limits szx setup t now from bytes w up p h below law);
          handed = refl;
          taken = refl;
          asks = asks_by v q refl law.rows.0 e;
        }

    takes_by : (v : Verdict) (x : Took) → taken_by (own t).uploads moment p.0 v ≡ Some x
        → (q : Question) × (b : Block) × (v ≡ Uploads q b) × (took p.0 q b ≡ x)
    takes_by (Uploads q b) x e = (q, b, refl, by (ruling_of (own t).uploads moment p.0 q b) e)
      where
        by : (v : BlockVerdict) → took_by v (took p.0 q b) ≡ Some x → took p.0 q b ≡ x
        by (Refuse why) k = absurd (cc k)
        by (Join n) k = cc k
        by Done k = cc k
    takes_by _ x e = absurd (cc e)

    pub block_comes : ServerLaw limits szx setup (call ∷ t) → (x : Took) → takes_block (own t) call ≡ Some x
        → ComesIn limits szx setup t call x
    block_comes law x e =
        let v : Verdict = verdict_on (own t).szx p.1 in
        let k = takes_by v x e in
        let from_is : p.0 ≡ x.asked = ap (λ (y : Took). y.asked) k.3 in
        let same : verdict_on szx p.1 ≡ Uploads k.0 k.1 = ap (λ n. verdict_on n p.1) (sym (szx_is limits szx t))
        ∙ k.2 in
        record {
          question = k.0;
          block = k.1;
          is = sym k.3 ∙ ap (λ a. took a k.0 k.1) from_is;
          comes = subst (λ a. Comes limits szx setup t call a (Uploads k.0 k.1)) from_is
              (subst (Comes limits szx setup t call p.0) same
              (comes_here limits szx setup t now from bytes w up p h below law));
        }

  -- what waits came so
  abbrev WasBrought : Asked → Question → List Call → Type 0
  WasBrought a q t = Sometime (λ old b. Brings limits szx setup old b a q) t

  abbrev AllFrom : List Call → List Waiting → Type 0
  AllFrom t [] = Unit {0}
  AllFrom t (w ∷ ws) = WasBrought w.asked w.question t × AllFrom t ws

  from_later : (c : Call) (t : List Call) (ws : List Waiting) → AllFrom t ws → AllFrom (c ∷ t) ws
  from_later c t [] h = tt
  from_later c t (w ∷ ws) h = (inr h.0, from_later c t ws h.1)

  from_with : (t : List Call) (ws : List Waiting) (w : Waiting) → AllFrom t ws → WasBrought w.asked w.question t
      → AllFrom t (ws ++ w ∷ [])
  from_with t [] w h k = (k, tt)
  from_with t (v ∷ ws) w h k = (h.0, from_with t ws w h.1 k)

  from_without : (t : List Call) (at : ℕ) (a : Asked) (ws : List Waiting) → AllFrom t ws → AllFrom t (others at a ws)
  from_without t at a [] h = tt
  from_without t at a (w ∷ ws) h = by (is_of at a w) (from_without t at a ws h.1)
    where
      by : (b : Bool) → AllFrom t (others at a ws) → AllFrom t (cond b ws (w ∷ others at a ws))
      by true k = h.1
      by false k = (h.0, k)

  from_elsewhere : (t : List Call) (peer : Endpoint) (ws : List Waiting) → AllFrom t ws
      → AllFrom t (waiting_elsewhere peer ws)
  from_elsewhere t peer [] h = tt
  from_elsewhere t peer (w ∷ ws) h = by (not (same_endpoint w.asked.from peer)) (from_elsewhere t peer ws h.1)
    where
      by : (b : Bool) → AllFrom t (waiting_elsewhere peer ws)
          → AllFrom t (cond b (w ∷ waiting_elsewhere peer ws) (waiting_elsewhere peer ws))
      by true k = (h.0, k)
      by false k = k

  from_question : (t : List Call) (at : ℕ) (a : Asked) (ws : List Waiting) (q : Question) → AllFrom t ws
      → question_of at a ws ≡ Some q → WasBrought a q t
  from_question t at a [] q h is = absurd (cc is)
  from_question t at a (w ∷ ws) q h is = by (is_of at a w) refl (λ e. from_question t at a ws q h.1 e) is
    where
      by : (b : Bool) → is_of at a w ≡ b → (question_of at a ws ≡ Some q → WasBrought a q t)
          → cond b (Some w.question) (question_of at a ws) ≡ Some q → WasBrought a q t
      by true k z e =
          let same = same_asked_is a w.asked (and_parts (same_asked a w.asked) (nat_le w.delay (at - w.at)) k).0 in
          let asks : w.question ≡ q = cc e in
          subst (λ x. WasBrought a x t) asks (subst (λ x. WasBrought x w.question t) (sym same) h.0)
      by false k z e = z e

  waits_fed : (t : List Call) (now : ℕ) (from : Endpoint) (bytes : List ℕ) (w : ℕ) (up : L.Answer)
      (came : Option (Asked × Message)) (h : Handling) (below : L.Answer)
      → ServerLaw limits szx setup (Feeds now from bytes w up came h below ∷ t)
      → AllFrom (Feeds now from bytes w up came h below ∷ t) (own t).waiting
      → AllFrom (Feeds now from bytes w up came h below ∷ t)
      (own (Feeds now from bytes w up came h below ∷ t)).waiting
  waits_fed t now from bytes w up (Some p) (Waits q d) below law k =
      from_with (Feeds now from bytes w up (Some p) (Waits q d) below ∷ t) (own t).waiting
      (record { asked = p.0; at = max (own t).clock now; delay = d; question = q }) k
      (inl (brings_here t now from bytes w up p (Waits q d) below law q refl))
  waits_fed t now from bytes w up _ _ below law k = k

  waits_ticked : (t : List Call) (at : ℕ) (d : Due) (ws : List Waiting) → AllFrom t ws
      → AllFrom t (waiting_due at (ready_in d) ws)
  waits_ticked t at (due.Ready a) ws k = from_without t at a ws k
  waits_ticked t at _ ws k = k

  pub waits : (t : List Call) → ServerLaw limits szx setup t → AllFrom t (own t).waiting
  waits [] law = tt
  waits (c ∷ t) law = by c law (from_later c t (own t).waiting (waits t (server_back limits szx setup c t law)))
    where
      by : (c : Call) → ServerLaw limits szx setup (c ∷ t) → AllFrom (c ∷ t) (own t).waiting
          → AllFrom (c ∷ t) (own (c ∷ t)).waiting
      by (Sets now path format body answer left) law k = k
      by (Removes now path answer left) law k = k
      by (Delays path ms answer) law k = k
      by (Plains path answer) law k = k
      by (Gets path answer) law k = k
      by (TellsApplied answer) law k = k
      by (Refuses now from bytes w code up p response below) law k = k
      by (Feeds now from bytes w up came h below) law k = waits_fed t now from bytes w up came h below law k
      by (Ticks now w below room d passed h id answer) law k =
          waits_ticked (Ticks now w below room d passed h id answer ∷ t) (max (own t).clock now) d (own t).waiting k
      by (NextOut answer) law k = k
      by (Forgets peer) law k = from_elsewhere (Forgets peer ∷ t) peer (own t).waiting k

  answers_by : (o : Option Question) (old : Content) (at : ℕ) (h : Handling) (q : Question) → AnswersWaiting o old at h
      → question_in h ≡ Some q → o ≡ Some q
  answers_by None old at h q right is = nothing_asked _ h q (ap question_in right) is
  answers_by (Some p) old at h q right is = sym (ap question_in right.is) ∙ is

  served_from : (t : List Call) (c : Call) → ServerLaw limits szx setup (c ∷ t) → (x : Serving)
      → serving (own t) c ≡ Some x → WasBrought x.asked x.question (c ∷ t)
  served_from t (Feeds now from bytes w up (Some p) (Serves q reply left) below) law x h =
      let same : ◌≡◌ {A = Serving} (serving_of (heard (own t) now (incoming (own t) now from bytes up (Some p))) p.0 q
      reply left) x = cc h in
      subst (λ (y : Serving). WasBrought y.asked y.question
      (Feeds now from bytes w up (Some p) (Serves q reply left) below ∷ t)) same
      (inl (brings_here t now from bytes w up p (Serves q reply left) below law q refl))
  served_from t (Ticks now w below room (due.Ready a) passed (Serves q reply left) id answer) law x h =
      let same : ◌≡◌ {A = Serving} (serving_of (heard (own t) now (ticking (own t) now below room (due.Ready a))) a q
      reply left) x = cc h in
      let at : ℕ = max (own t).clock now in
      let is = answers_by (question_of at a (own t).waiting) (own t).store at
      (Serves q reply left) q law.rows.0.0 refl in
      let c : Call = Ticks now w below room (due.Ready a) passed (Serves q reply left) id answer in
      inr (subst (λ (y : Serving). WasBrought y.asked y.question t) same
      (from_question t at a (own t).waiting q (waits t (server_back limits szx setup c t law)) is))
  served_from t _ law x e = absurd (cc e)

  pub handed_up : (t : List Call) → ServerLaw limits szx setup t → AreHandedUp limits szx setup t
  handed_up [] law = tt
  handed_up (c ∷ t) law = (λ x is. served_from t c law x is, handed_up t (server_back limits szx setup c t law))

  taken_from : (t : List Call) (c : Call) → ServerLaw limits szx setup (c ∷ t) → (x : Took)
      → takes_block (own t) c ≡ Some x → ComesIn limits szx setup t c x
  taken_from t (Feeds now from bytes w up (Some p) h below) law x e =
      block_comes t now from bytes w up p h below law x e
  taken_from t _ law x e = absurd (cc e)

  pub blocks_come : (t : List Call) → ServerLaw limits szx setup t → BlocksCome limits szx setup t
  blocks_come [] law = tt
  blocks_come (c ∷ t) law = (λ x is. taken_from t c law x is, blocks_come t (server_back limits szx setup c t law))

-- What is asked has no fault, and each method without one is asked, and served or waits; so the last block of an
-- upload.
use Rattle.std.proofs.Common.{◌≡◌, inl, inr, ◌≤◌, ◌<◌, ℕ, nat_lt, ◌||◌, Bool, true, false, Option, Some, None}
use Rattle.std.proofs.Common.{List, [], ◌∷◌, length, refl, ap, sym, subst, ◌∙◌, cond, arith}
use Rattle.std.proofs.lemmas.Bool.{ltb-true, lt-ltb}
use Rattle.coap_types.specs.MethodCode.{method_of}
use Rattle.coap_types.specs.OptionValues.{has, uint_at}
use Rattle.coap_types.specs.Recognised.{lacks_critical}
use Rattle.coap_types.specs.RequestPath.{path_of}
use Rattle.coap_types.specs.declared.block.Block.{Block}
use Rattle.coap_types.specs.declared.direction.Direction.TheVariants as direction
use Rattle.coap_types.specs.declared.endpoint.Endpoint.{Endpoint}
use Rattle.coap_types.specs.declared.message.Kind.{Kind}
use Rattle.coap_types.specs.declared.message.Kind.TheVariants.{Con, Non, Ack, Rst}
use Rattle.coap_types.specs.declared.option_number.TheConstants.{BLOCK1 as block1, BLOCK2 as block2}
use Rattle.coap_layer.specs.Machine.State.{usual}
use Rattle.coap_types.specs.declared.option_number.TheConstants.{PROXY_URI as proxy_uri, PROXY_SCHEME as proxy_scheme}
use Rattle.coap_types.specs.declared.path.TheConstants.{MAX_SEGMENTS as max_segments}
use Rattle.coap_types.specs.declared.request.Method.{Method}
use Rattle.coap_types.specs.declared.request.Method.TheVariants.{Get, Post, Put, Delete}
use Rattle.coap_codec.specs.Message.{Message}
use Rattle.coap_layer.specs.Trace as L
use Rattle.coap_resource.specs.RequestOptions.{block_said}
use Rattle.coap_resource.specs.Serves.{Question}
use Rattle.coap_resource.specs.Limits.{Limits}
use Rattle.coap_exchange.specs.declared.answerer.Asked.{Asked}
use Rattle.coap_exchange.specs.AnswererSteps.{may_defer}
use Rattle.coap_block.specs.AssemblyState.{reached, without_key}
use Rattle.coap_block.specs.AssemblyStep.{there_at}
use Rattle.coap_block.specs.declared.block_verdict.BlockVerdict.{BlockVerdict}
use Rattle.coap_block.specs.declared.block_verdict.BlockVerdict.TheVariants.{Refuse, Join, Done}
use Rattle.coap_server.specs.Trace.{Own, Handling, Waits, Call, Feeds}
use Rattle.coap_server.specs.Checks.{Verdict, Refused, Asks, Uploads, verdict_on, bad_by, asked_by}
use Rattle.coap_server.specs.Checks.{uploading, question, asks, is_reserved, bad_request}
use Rattle.coap_server.specs.Checks.{proxying_not_supported}
use Rattle.coap_server.specs.Uploads.{key_of, ruling_of, whole}
use Rattle.coap_server.specs.Serving.{IsServed}
use Rattle.coap_server.specs.Deferring.{WaitsBy, HandlesWhole, delay_for}
use Rattle.coap_server.specs.Handling.{incoming, heard, HandlesBlock, Handles}
use Rattle.coap_server.specs.Law.{ServerRows, own_of}
use Rattle.coap_server.specs.Follows.Attended.{HasToWait}
use Rattle.coap_server.specs.Follows.Brings.{Completes}
use Rattle.coap_server.specs.Follows.Serves.{serving_of}
use Rattle.coap_server_laws.specs.Follows.Table.{HasNoFault, NoFaultIn, VerdictsAsk, IsAttended}
use Rattle.coap_server_laws.specs.Follows.Table.{MethodsHere}
use Rattle.coap_server_laws.specs.Follows.Table.{AllMethods, UploadsHere, AllUploads}
use Rattle.coap_server.specs.Follows.Takes.{took, took_by, taken_by, takes_block}
use Rattle.coap_server_laws.proofs.Serving.ServedWasHandedUp.{joins_more, completes}
use Rattle.coap_server.proofs.Facts.Serving.Brought.{szx_is}
use Rattle.coap_server_laws.proofs.Serving.WaitsByDelay.{delay_is, has_delay}

at_most : (n : ℕ) → nat_lt max_segments n ≡ false → n ≤ 16
at_most n h = by_not (λ k. cc (lt-ltb 16 n k, h))
  where
    by_not : (16 < n → ⊥) → n ≤ 16
    by_not k = omega (arith, k)

not_over : (n : ℕ) → n ≤ 16 → nat_lt max_segments n ≡ false
not_over n h = by (nat_lt max_segments n) refl
  where
    by : (b : Bool) → nat_lt max_segments n ≡ b → b ≡ false
    by true e = let k = ltb-true max_segments n e in absurd (omega (arith, h, k))
    by false e = refl

module _ (szx : ℕ) (m : Message) where
  bad_none : (k : Kind) → NoFaultIn m (bad_by k)
  bad_none Con = tt
  bad_none Non = tt
  bad_none Ack = tt
  bad_none Rst = tt

  of_good : (x : Method) (q : Question) (o : Option Block) → HasNoFault m → NoFaultIn m (uploading x q o)
  of_good x q None g = g
  of_good Get q (Some b) g = tt
  of_good Delete q (Some b) g = tt
  of_good _ q (Some b) g = g

  asked_good : lacks_critical direction.Request m.options ≡ false → has proxy_uri (asks m) ≡ false
      → has proxy_scheme (asks m) ≡ false → (o : Option Method) → NoFaultIn m (asked_by szx o m)
  asked_good l u s None = tt
  asked_good l u s (Some method) = by (nat_lt max_segments (length (path_of (asks m))))
      (is_reserved (uint_at block1 (asks m))) (is_reserved (uint_at block2 (asks m))) refl refl refl
    where
      by : (a b c : Bool) → nat_lt max_segments (length (path_of (asks m))) ≡ a
          → is_reserved (uint_at block1 (asks m)) ≡ b → is_reserved (uint_at block2 (asks m)) ≡ c
          → NoFaultIn m (cond a (Refused bad_request)
          (cond (b || c) (Refused bad_request) (uploading method (question szx method m)
          (block_said (uint_at block1 (asks m))))))
      by true b c n r z = tt
      by false true c n r z = tt
      by false false true n r z = tt
      by false false false n r z =
          of_good method (question szx method m) (block_said (uint_at block1 (asks m)))
          (record {
            critical = l;
            uri = u;
            scheme = s;
            segments = at_most (length (path_of (asks m))) n;
            upload_size = r;
            size = z;
          })

  faultless : NoFaultIn m (verdict_on szx m)
  faultless = by (lacks_critical direction.Request m.options) (has proxy_uri (asks m))
      (has proxy_scheme (asks m)) refl refl refl
    where
      by : (a b c : Bool) → lacks_critical direction.Request m.options ≡ a → has proxy_uri (asks m) ≡ b
          → has proxy_scheme (asks m) ≡ c
          → NoFaultIn m (cond a (bad_by m.kind) (cond (b || c) (Refused proxying_not_supported)
          (asked_by szx (method_of m.code) m)))
      by true b c l u s = bad_none m.kind
      by false true c l u s = tt
      by false false true l u s = tt
      by false false false l u s = asked_good l u s (method_of m.code)

  -- .. and what has no fault is asked
  comes_to : (method : Method) (o : Option Block) → method_of m.code ≡ Some method → HasNoFault m
      → block_said (uint_at block1 (asks m)) ≡ o → verdict_on szx m ≡ uploading method (question szx method m) o
  comes_to method o code good said =
      ap (λ l. cond l (bad_by m.kind) rest) good.critical
      ∙ (ap (λ u. cond (u || has proxy_scheme (asks m)) (Refused proxying_not_supported)
      (asked_by szx (method_of m.code) m)) good.uri
      ∙ (ap (λ s. cond s (Refused proxying_not_supported) (asked_by szx (method_of m.code) m)) good.scheme
      ∙ (ap (λ x. asked_by szx x m) code
      ∙ (ap (λ a. cond a (Refused bad_request) (cond
      (is_reserved (uint_at block1 (asks m)) || is_reserved (uint_at block2 (asks m))) (Refused bad_request) last))
      (not_over (length (path_of (asks m))) good.segments)
      ∙ (ap (λ b. cond (b || is_reserved (uint_at block2 (asks m))) (Refused bad_request) last) good.upload_size
      ∙ (ap (λ b. cond b (Refused bad_request) last) good.size
      ∙ ap (uploading method (question szx method m)) said))))))
    where
      rest : Verdict
      rest = cond (has proxy_uri (asks m) || has proxy_scheme (asks m)) (Refused proxying_not_supported)
          (asked_by szx (method_of m.code) m)

      last : Verdict
      last = uploading method (question szx method m) (block_said (uint_at block1 (asks m)))

pub verdicts_ask : VerdictsAsk
verdicts_ask = record {
  faultless = faultless;
  each = λ szx m method code good none. comes_to szx m method None code good (ap block_said none);
  puts = λ szx m n b code good is by. comes_to szx m Put (Some b) code good (ap block_said is ∙ by);
  posts = λ szx m n b code good is by. comes_to szx m Post (Some b) code good (ap block_said is ∙ by);
}

-- what is asked is served here, or waits
one_came : (x y : Asked × Message) → Some x ≡ Some y → x ≡ y
one_came x y h = cc h

module _ (limits : Limits) (szx : ℕ) where
  module _ (t : List Call) (now : ℕ) (from : Endpoint) (bytes : List ℕ) (w : ℕ) (up : L.Answer) (p : Asked × Message)
      (below : L.Answer) where
    abbrev s : Own
    s = heard (own_of limits szx t) now (incoming (own_of limits szx t) now from bytes up (Some p))

    abbrev call : Handling → Call
    call h = Feeds now from bytes w up (Some p) h below

    abbrev Attended : Handling → Question → Type 0
    Attended h q = IsAttended limits szx t (call h) p.0 q

    served_so : (q : Question) (h : Handling) → ((delay : ℕ) → HasToWait limits szx t p.0 q delay → ⊥)
        → IsServed s.store s.clock q h → Attended h q
    served_so q h free k = subst (λ z. Attended z q) (sym k.is)
        (inl ((serving_of s p.0 q k.reply k.left, refl, refl, refl), free))

    waits_here : (q : Question) (delay : ℕ) → HasToWait limits szx t p.0 q delay → Attended (Waits q delay) q
    waits_here q delay has = inr (record { delay = delay; has_to = has; behind = refl })

    by_delay : (q : Question) (h : Handling) (o : Option ℕ) (place : Bool) → delay_for p.0.kind q.path s.delays ≡ o
        → may_defer s.exchanges.deferred ≡ place → WaitsBy o place s.store s.clock q h → Attended h q
    by_delay q h (Some delay) true is place k =
        let d = delay_is p.0.kind q.path s.delays delay is in
        subst (λ z. Attended z q) (sym k) (waits_here q delay (record { kind = d.0; has_delay = d.1; place = place }))
    by_delay q h (Some delay) false is place k =
        served_so q h (λ e z. (let no : true ≡ false = sym z.place ∙ place in cc no)) k
    by_delay q h None place is same k = served_so q h
        (λ e z. (let no : Some e ≡ None = sym (has_delay p.0.kind q.path s.delays e z.kind z.has_delay) ∙ is in cc no))
        k

    by_whole : (q : Question) (h : Handling) → HandlesWhole s p.0 q h → Attended h q
    by_whole q h k = by_delay q h (delay_for p.0.kind q.path s.delays) (may_defer s.exchanges.deferred) refl refl k

    asks_whole : (h : Handling) (q : Question) → Handles s p.0 (verdict_on s.szx p.1) h → verdict_on s.szx p.1 ≡ Asks q
        → Attended h q
    asks_whole h q right is = by_whole q h (subst (λ v. Handles s p.0 v h) is right)

    -- the last block
    abbrev Completed : Handling → Question → Block → Type 0
    Completed h q b = (r : Question) × Completes limits szx t (call h) p.0 q b r × Attended h r

    by_ruling : (h : Handling) (q : Question) (b : Block) (v : BlockVerdict) → verdict_on s.szx p.1 ≡ Uploads q b
        → ruling_of s.uploads s.clock p.0 q b ≡ v → HandlesBlock v s p.0 q b h
        → took_by v (took p.0 q b) ≡ Some (took p.0 q b) → b.more ≡ false
        → Completed h q b
    by_ruling h q b (Refuse why) is rule k takes last = absurd (cc takes)
    by_ruling h q b (Join n) is rule k takes last =
        let u = s.uploads in
        let more : b.more ≡ true = joins_more (record { szx = u.szx; limit = u.limit })
        (reached (key_of p.0 q) (there_at u s.clock))
        (length (without_key (key_of p.0 q) (there_at u s.clock))) b (length q.body) n rule in
        absurd (cc (more, last))
    by_ruling h q b Done is rule k takes last = (
      whole s.uploads s.clock p.0 q b,
      completes limits szx (usual 0) t now from bytes w up p h below q b is rule,
      by_whole (whole s.uploads s.clock p.0 q b) h k,
    )

    takes_last : (h : Handling) (q : Question) (b : Block) → Handles s p.0 (verdict_on s.szx p.1) h
        → verdict_on s.szx p.1 ≡ Uploads q b → takes_block (own_of limits szx t) (call h) ≡ Some (took p.0 q b)
        → b.more ≡ false → Completed h q b
    takes_last h q b right is takes last =
        by_ruling h q b (ruling_of s.uploads s.clock p.0 q b) is refl (subst (λ v. Handles s p.0 v h) is right)
        (ap (taken_by s.uploads s.clock p.0) (sym is) ∙ takes) last

  there : (t : List Call) (m : Message) (v : Verdict) → verdict_on szx m ≡ v
      → verdict_on (own_of limits szx t).szx m ≡ v
  there t m v is = ap (λ n. verdict_on n m) (szx_is limits szx t) ∙ is

  methods_here : (t : List Call) (c : Call) → ServerRows limits szx (c ∷ t) → MethodsHere limits szx t c
  methods_here t (Feeds now from bytes w up (Some r) h below) rows p q is asked =
      let same = one_came p r (sym is) in
      let verdict : verdict_on szx r.1 ≡ Asks q =
      subst (λ (z : Asked × Message). verdict_on szx z.1 ≡ Asks q) same asked in
      subst (λ (z : Asked × Message). IsAttended limits szx t (Feeds now from bytes w up (Some r) h below) z.0 q)
      (sym same)
      (asks_whole t now from bytes w up r below h q rows.0 (there t r.1 (Asks q) verdict))
  methods_here t _ rows p q is asked = absurd (cc is)

  pub all_methods : (t : List Call) → ServerRows limits szx t → AllMethods limits szx t
  all_methods [] rows = tt
  all_methods (c ∷ t) rows = (methods_here t c rows, all_methods t rows.1)

  uploads_here : (t : List Call) (c : Call) → ServerRows limits szx (c ∷ t) → UploadsHere limits szx t c
  uploads_here t (Feeds now from bytes w up (Some r) h below) rows p q b is asked =
      let c : Call = Feeds now from bytes w up (Some r) h below in
      let same = one_came p r (sym is) in
      let verdict : verdict_on szx r.1 ≡ Uploads q b =
      subst (λ (z : Asked × Message). verdict_on szx z.1 ≡ Uploads q b) same asked in
      subst (λ (z : Asked × Message). takes_block (own_of limits szx t) c ≡ Some (took z.0 q b) → b.more ≡ false
      → (v : Question) × Completes limits szx t c z.0 q b v × IsAttended limits szx t c z.0 v) (sym same)
      (takes_last t now from bytes w up r below h q b rows.0 (there t r.1 (Uploads q b) verdict))
  uploads_here t _ rows p q b is asked = absurd (cc is)

  pub all_uploads : (t : List Call) → ServerRows limits szx t → AllUploads limits szx t
  all_uploads [] rows = tt
  all_uploads (c ∷ t) rows = (uploads_here t c rows, all_uploads t rows.1)

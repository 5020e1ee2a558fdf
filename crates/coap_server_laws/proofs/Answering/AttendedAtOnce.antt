-- A request that is handed up is answered in that call, or waits, or is ignored.
use Rattle.std.proofs.Common.{◌≡◌, ◌≢◌, ◌⊎◌, inl, inr, ℕ, nat_lt, ◌||◌, Bool, true, false, Option, Some, None}
use Rattle.std.proofs.Common.{List, [], ◌∷◌, length, refl, subst, cond}
use Rattle.coap_types.specs.Recognised.{lacks_critical}
use Rattle.coap_types.specs.RequestPath.{path_of}
use Rattle.coap_types.specs.MethodCode.{method_of}
use Rattle.coap_types.specs.OptionValues.{has, uint_at}
use Rattle.coap_types.specs.declared.block.Block.{Block}
use Rattle.coap_types.specs.declared.direction.Direction.TheVariants as direction
use Rattle.coap_types.specs.declared.endpoint.Endpoint.{Endpoint}
use Rattle.coap_types.specs.declared.message.Kind.{Kind}
use Rattle.coap_types.specs.declared.message.Kind.TheVariants.{Con}
use Rattle.coap_types.specs.declared.option_number.TheConstants.{BLOCK1 as block1, BLOCK2 as block2}
use Rattle.coap_types.specs.declared.option_number.TheConstants.{PROXY_URI as proxy_uri, PROXY_SCHEME as proxy_scheme}
use Rattle.coap_types.specs.declared.path.TheConstants.{MAX_SEGMENTS as max_segments}
use Rattle.coap_types.specs.declared.request.Method.{Method}
use Rattle.coap_types.specs.declared.request.Method.TheVariants.{Get, Post, Put, Delete}
use Rattle.coap_codec.specs.Message.{Message}
use Rattle.coap_layer.specs.Trace as L
use Rattle.coap_layer.specs.declared.setup.Setup.{Setup}
use Rattle.coap_resource.specs.RequestOptions.{block_said}
use Rattle.coap_resource.specs.Serves.{Question}
use Rattle.coap_resource.specs.Limits.{Limits}
use Rattle.coap_exchange.specs.declared.answerer.Asked.{Asked}
use Rattle.coap_server.specs.Trace.{Own, Handling, Waits, Call}
use Rattle.coap_server.specs.Trace.{Feeds}
use Rattle.coap_server.specs.Checks.{Ignored, Refused, verdict_on, bad_by}
use Rattle.coap_server.specs.Checks.{asked_by, uploading, question, asks, is_reserved, bad_request}
use Rattle.coap_server.specs.Checks.{proxying_not_supported}
use Rattle.coap_server.specs.Handling.{incoming, heard}
use Rattle.coap_server.specs.Law.{ServerLaw, own_of}
use Rattle.coap_server.specs.Follows.Attended.{came_in, IsIgnored, AnswersIt, WaitsToAsk, AllAttended}
use Rattle.coap_server.specs.Follows.Brings.{AsksBy}
use Rattle.coap_server_laws.proofs.Serving.ServedWasHandedUp.{asks_by}
use Rattle.coap_server.proofs.Facts.Serving.Brought.{server_back, szx_is}
use Rattle.coap_server_laws.proofs.Serving.WaitsByDelay.{delay_is}
use Rattle.coap_server.proofs.Facts.Observing.Outcomes.{Came, came, ignored, replied, served, waits}

-- what is ignored

never_ignored : (szx : ℕ) (o : Option Method) (m : Message) → asked_by szx o m ≡ Ignored → ⊥
never_ignored szx None m h = cc h
never_ignored szx (Some method) m h =
    by (nat_lt max_segments (length (path_of (asks m))))
    (is_reserved (uint_at block1 (asks m)) || is_reserved (uint_at block2 (asks m)))
    (block_said (uint_at block1 (asks m))) h
  where
    one : (x : Method) (q : Question) (b : Option Block) → uploading x q b ≡ Ignored → ⊥
    one x q None k = cc k
    one Put q (Some b) k = cc k
    one Post q (Some b) k = cc k
    one Get q (Some b) k = cc k
    one Delete q (Some b) k = cc k

    by : (b c : Bool) (o : Option Block) → cond b (Refused bad_request)
        (cond c (Refused bad_request) (uploading method (question szx method m) o)) ≡ Ignored → ⊥
    by true c o k = cc k
    by false true o k = cc k
    by false false o k = one method (question szx method m) o k

bad_kind : (k : Kind) → bad_by k ≡ Ignored → k ≢ Con
bad_kind k h e = let z : bad_by Con ≡ Ignored = subst (λ x. bad_by x ≡ Ignored) e h in cc z

is_ignored : (szx : ℕ) (m : Message) → verdict_on szx m ≡ Ignored → IsIgnored m
is_ignored szx m h = by (lacks_critical direction.Request m.options)
    (has proxy_uri (asks m) || has proxy_scheme (asks m)) refl h
  where
    by : (b c : Bool) → lacks_critical direction.Request m.options ≡ b
        → cond b (bad_by m.kind) (cond c (Refused proxying_not_supported) (asked_by szx (method_of m.code) m)) ≡ Ignored
        → IsIgnored m
    by true c is k = record { kind = bad_kind m.kind k; option = is }
    by false true is k = absurd (cc k)
    by false false is k = absurd (never_ignored szx (method_of m.code) m k)

one_came : {X : Type 0} (x y : X) → Some x ≡ Some y → x ≡ y
one_came x y h = cc h

module _ (limits : Limits) (szx : ℕ) (setup : Setup) where
  abbrev Attended : List Call → Call → Asked × Message → Type 0
  Attended t c p = AnswersIt limits szx t c p.0 ⊎ (WaitsToAsk limits szx t c p ⊎ IsIgnored p.1)

  fed : (t : List Call) (now : ℕ) (from : Endpoint) (bytes : List ℕ) (w : ℕ) (up : L.Answer) (p : Asked × Message)
      (h : Handling) (below : L.Answer)
      → Came (heard (own_of limits szx t) now (incoming (own_of limits szx t) now from bytes up (Some p))) (Some p) h
      → ServerLaw limits szx setup (Feeds now from bytes w up (Some p) h below ∷ t)
      → Attended t (Feeds now from bytes w up (Some p) h below) p
  fed t now from bytes w up p h below (ignored _ is) law = inr (inr (is_ignored (own_of limits szx t).szx p.1 is))
  fed t now from bytes w up p h below (replied _ r) law = inl (inl refl)
  fed t now from bytes w up p h below (served _ q reply left k unplaced) law = inl (inl refl)
  fed t now from bytes w up p h below (waits _ q d has place) law =
      let s : Own = heard (own_of limits szx t) now (incoming (own_of limits szx t) now from bytes up (Some p)) in
      let k = delay_is p.0.kind q.path s.delays d has in
      let asks = asks_by limits szx setup t now from bytes w up p (Waits q d) below (verdict_on s.szx p.1) q refl
      law.rows.0 refl in
      let waits : WaitsToAsk limits szx t (Feeds now from bytes w up (Some p) (Waits q d) below) p = record {
        question = q;
        asks = subst (λ n. AsksBy limits szx t (Feeds now from bytes w up (Some p) (Waits q d) below) p.0 q
            (verdict_on n p.1)) (szx_is limits szx t) asks;
        waits = record { delay = d; has_to = record { kind = k.0; has_delay = k.1; place = place }; behind = refl };
      } in
      inr (inl waits)

  here : (t : List Call) (c : Call) → ServerLaw limits szx setup (c ∷ t) → (p : Asked × Message) → came_in c ≡ Some p
      → Attended t c p
  here t (Feeds now from bytes w up (Some q) h below) law p is =
      subst (Attended t (Feeds now from bytes w up (Some q) h below)) (one_came q p is)
      (fed t now from bytes w up q h below
      (came (heard (own_of limits szx t) now (incoming (own_of limits szx t) now from bytes up (Some q))) (Some q) h
      law.rows.0) law)
  here t _ law p is = absurd (cc is)

  pub all_attended : (t : List Call) → ServerLaw limits szx setup t → AllAttended limits szx t
  all_attended [] law = tt
  all_attended (c ∷ t) law = (here t c law, all_attended t (server_back limits szx setup c t law))

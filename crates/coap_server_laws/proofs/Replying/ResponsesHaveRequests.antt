-- What a server sends beside Empty messages carries a response to a request that was handed up, or a notification.
use Rattle.std.proofs.Common.{◌≡◌, ◌≢◌, ◌≤◌, ◌⊎◌, inl, inr, ℕ, zero, suc, Bool, true, false, Option}
use Rattle.std.proofs.Common.{Some, None, List, [], ◌∷◌, ◌++◌, length, refl, ap, sym, subst, ◌∙◌, arith}
use Rattle.coap_types.specs.Past.{Ever, Sometime}
use Rattle.coap_types.proofs.Facts.Traces.{Ever_append}
use Rattle.coap_types.specs.declared.endpoint.Endpoint.{Endpoint}
use Rattle.coap_codec.specs.Message.{Message}
use Rattle.coap_layer.specs.Machine.State as S
use Rattle.coap_layer.specs.Trace as L
use Rattle.coap_types.specs.declared.block.Block.{Block}
use Rattle.coap_layer.specs.declared.setup.Setup.{Setup}
use Rattle.coap_block.specs.declared.block_verdict.BlockVerdict.{BlockVerdict}
use Rattle.coap_block.specs.declared.block_verdict.BlockVerdict.TheVariants.{Refuse, Join, Done}
use Rattle.coap_block.specs.AssemblyAnswer.{refusal_code}
use Rattle.coap_block.specs.AssemblyState.{AssemblyState, reached, without_key}
use Rattle.coap_block.specs.AssemblyStep.{there_at}
use Rattle.coap_observe.specs.Observers.{Observer}
use Rattle.coap_resource.specs.Content.{Content, Held}
use Rattle.coap_resource.specs.Serves.{Question, got}
use Rattle.coap_resource.specs.Limits.{Limits}
use Rattle.coap_exchange.specs.declared.answerer.Asked.{Asked}
use Rattle.coap_exchange.specs.declared.answerer.Due.{Due}
use Rattle.coap_exchange.specs.declared.answerer.Due.TheVariants as due
use Rattle.coap_exchange.specs.AnswererSteps.{may_defer}
use Rattle.coap_exchange.specs.AnswererTrace as E
use Rattle.coap_exchange.specs.AnswererLaw as W
use Rattle.coap_exchange.proofs.Facts.ServerSide.{layer_stands}
use Rattle.coap_server.specs.Trace.{Own, Handling, Replies, Serves, Waits, Call}
use Rattle.coap_server.specs.Trace.{Feeds, Refuses, Ticks, NextOut}
use Rattle.coap_server.specs.Responses.{bare, response_with}
use Rattle.coap_server.specs.Checks.{Verdict, Ignored, Refused, Asks, Uploads, verdict_on}
use Rattle.coap_server.specs.Checks.{bad_request}
use Rattle.coap_server.specs.Uploads.{key_of, ruling_of, whole, continue, continuing}
use Rattle.coap_server.specs.Observers.{sequence}
use Rattle.coap_server.specs.Deferring.{WaitsBy, deferral, deferral_by, delay_for}
use Rattle.coap_server.specs.Notifying.{marked, notification, readies, asks_for}
use Rattle.coap_server.specs.Handling.{incoming, ticking, heard, HandlesBlock, Handles}
use Rattle.coap_server.specs.Asks.{lower}
use Rattle.coap_server.specs.Law.{ServerLaw, own_of, lower_of}
use Rattle.coap_server.specs.Follows.Serves.{serving_of}
use Rattle.coap_server.specs.Follows.Takes.{took, took_by, taken_by}
use Rattle.coap_server_laws.specs.Follows.Gives.{Carries, refusal_by, refusal_of, size_by, size_of}
use Rattle.coap_server_laws.specs.Follows.Gives.{NoticeOf}
use Rattle.coap_server_laws.specs.Follows.Gives.{CarriesResponse, SentResponses, SendsResponses}
use Rattle.coap_server.proofs.Facts.Serving.Brought.{server_back, comes_here, comes_refused}
use Rattle.coap_server_laws.proofs.Serving.ServedWasHandedUp.{joins_more}
use Rattle.coap_server.proofs.Facts.Observing.ObserversWereMade.{notified_made}
use Rattle.coap_server.proofs.Facts.Observing.Outcomes.{Turned, turned, copied, expired, lost, responded, rests}
use Rattle.coap_server.proofs.Facts.Observing.Outcomes.{noticed}
use Rattle.coap_server_laws.proofs.Replying.LayerSendsResponses.{called, CarriesIn, made}
use Rattle.coap_server_laws.proofs.Replying.RefusalsAreErrors.{refused_with, refusals_are_errors}
use Rattle.coap_server_laws.proofs.Replying.Sources.{Source}
use Rattle.coap_server_laws.proofs.Facts.Sources.{sourced}
use Rattle.coap_server.specs.Asks.{notifies_by}
use Rattle.coap_server.specs.Plain.{by_plain}
use Rattle.coap_server.specs.Trace.{Forgets}

not_continue : (code : ℕ) → bad_request ≤ code → code ≢ continue
not_continue code h is = omega (arith, h, is)

-- a response that refuses without the store, or asks for the next block
pub record IsRefusal (s : Own) (a : Asked) (v : Verdict) (r : E.Response) : Type 0 where
  pub code : ℕ
  pub refuses : refusal_of s.uploads s.clock a v ≡ Some code
  pub is : r ≡ bare code

pub record IsContinue (s : Own) (a : Asked) (v : Verdict) (r : E.Response) : Type 0 where
  pub question : Question
  pub block : Block
  pub size : ℕ
  pub verdict : v ≡ Uploads question block
  pub joins : ruling_of s.uploads s.clock a question block ≡ Join size
  pub is : r ≡ continuing size block

one_response : (r k : E.Response) → Replies r ≡ Replies k → r ≡ k
one_response r k e = cc e

pub never_replies : (o : Option ℕ) (place : Bool) (old : Content) (at : ℕ) (q : Question) (r : E.Response)
    → WaitsBy o place old at q (Replies r) → ⊥
never_replies (Some d) true old at q r h = cc h
never_replies (Some d) false old at q r h = let e = h.is in cc e
never_replies None place old at q r h = let e = h.is in cc e

block_replies : (v : BlockVerdict) (s : Own) (a : Asked) (q : Question) (b : Block) (r : E.Response)
    → ruling_of s.uploads s.clock a q b ≡ v → HandlesBlock v s a q b (Replies r)
    → IsRefusal s a (Uploads q b) r ⊎ IsContinue s a (Uploads q b) r
block_replies (Refuse why) s a q b r e h = inl
    (record {
      code = (refusal_code why).0;
      refuses = ap refusal_by e;
      is = one_response r _ h;
    })
block_replies (Join n) s a q b r e h = inr (record
    { question = q; block = b; size = n; verdict = refl; joins = e; is = one_response r _ h })
block_replies Done s a q b r e h =
    let it : Question = whole s.uploads s.clock a q b in
    absurd (never_replies (delay_for a.kind q.path s.delays) (may_defer s.exchanges.deferred) s.store s.clock it r h)

pub replies : (v : Verdict) (s : Own) (a : Asked) (r : E.Response) → Handles s a v (Replies r)
    → IsRefusal s a v r ⊎ IsContinue s a v r
replies Ignored s a r h = absurd (cc h)
replies (Refused code) s a r h = inl (record { code = code; refuses = refl; is = one_response r _ h })
replies (Asks q) s a r h = absurd (never_replies (delay_for a.kind q.path s.delays)
    (may_defer s.exchanges.deferred) s.store s.clock q r h)
replies (Uploads q b) s a r h = block_replies (ruling_of s.uploads s.clock a q b) s a q b r refl h

-- a notification

shows_held : (o : Observer) (held : Option Held)
    → NoticeOf o.szx held (response_with (got held (asks_for o)) (sequence held) None)
shows_held o None = refl
shows_held o (Some held) = refl

module _ (limits : Limits) (szx : ℕ) (setup : Setup) (p : L.Packet) where
  abbrev own : List Call → Own
  own t = own_of limits szx t

  abbrev In : List E.Call → Type 0
  In cs = Ever (CarriesIn p) cs

  deferred_none : (o : Option ℕ) (place : Bool) (at : ℕ) (a : Asked) (first : E.Call) → (CarriesIn p first → ⊥)
      → In (deferral_by o place at a ++ first ∷ []) → ⊥
  deferred_none None place at a first n (inl k) = n k
  deferred_none None place at a first n (inr k) = k
  deferred_none (Some d) place at a first n (inl k) = k
  deferred_none (Some d) place at a first n (inr (inl k)) = n k
  deferred_none (Some d) place at a first n (inr (inr k)) = k

  deferral_none : (s : Own) (a : Asked) (q : Question) (first : E.Call) → (CarriesIn p first → ⊥)
      → In (deferral s a q ++ first ∷ []) → ⊥
  deferral_none s a q first n h = deferred_none (delay_for a.kind q.path s.delays)
      (may_defer s.exchanges.deferred) s.clock a first n h

  readies_none : (at n : ℕ) (os : List Observer) → In (readies at n os) → ⊥
  readies_none at n [] h = h
  readies_none at zero (o ∷ os) (inl k) = k
  readies_none at zero (o ∷ os) (inr k) = k
  readies_none at (suc n) (o ∷ os) h = elim (Ever_append (CarriesIn p) (readies at n os) (E.Ready at o.to false ∷ []) h)
      [ inl k ↦ readies_none at n os k | inr k ↦ elim k [ inl z ↦ z | inr z ↦ z ] ]

  idle_none : (at n : ℕ) (os : List Observer) (first : E.Call) → (CarriesIn p first → ⊥)
      → In (readies at n os ++ first ∷ []) → ⊥
  idle_none at n os first f h = elim (Ever_append (CarriesIn p) (readies at n os) (first ∷ []) h)
      [ inl k ↦ readies_none at n os k | inr k ↦ elim k [ inl z ↦ f z | inr z ↦ z ] ]

  notice_carries : (plain : Bool) (at : ℕ) (o : Observer) (r : E.Response) (w id : ℕ)
      → CarriesIn p (notifies_by plain at o r w id) → Carries p o.to o.token r
  notice_carries true at o r w id k = k
  notice_carries false at o r w id k = k

  module _ (t : List Call) where
    came_none : (now : ℕ) (from : Endpoint) (bytes : List ℕ) (up : L.Answer) (came : Option (Asked × Message))
        → In (incoming (own t) now from bytes up came ∷ []) → ⊥
    came_none now from bytes up came (inl k) = k
    came_none now from bytes up came (inr k) = k

    fed : (now : ℕ) (from : Endpoint) (bytes : List ℕ) (w : ℕ) (up : L.Answer) (came : Option (Asked × Message))
        (h : Handling) (below : L.Answer) → ServerLaw limits szx setup (Feeds now from bytes w up came h below ∷ t)
        → In (lower (own t) (Feeds now from bytes w up came h below))
        → CarriesResponse limits szx setup p t (Feeds now from bytes w up came h below)
    fed now from bytes w up (Some a) (Waits q delay) below law k =
        absurd (deferral_none (heard (own t) now (incoming (own t) now from bytes up (Some a))) a.0 q
        (incoming (own t) now from bytes up (Some a)) (λ z. z) k)
    fed now from bytes w up (Some a) (Serves q reply left) below law (inl k) =
        inl (record {
          request = serving_of (heard (own t) now (incoming (own t) now from bytes up (Some a))) a.0 q reply
              left;
          here = refl;
          carries = k;
        })
    fed now from bytes w up (Some a) (Serves q reply left) below law (inr k) =
        absurd (deferral_none (heard (own t) now (incoming (own t) now from bytes up (Some a))) a.0 q
        (incoming (own t) now from bytes up (Some a)) (λ z. z) k)
    fed now from bytes w up (Some a) (Replies r) below law (inr k) = absurd (came_none now from bytes up (Some a) k)
    fed now from bytes w up (Some a) (Replies r) below law (inl k) =
        let s : Own = heard (own t) now (incoming (own t) now from bytes up (Some a)) in
        elim (replies (verdict_on s.szx a.1) s a.0 r law.rows.0) [
          | inl f ↦ inr (inr (inl (record {
            asked = a.0;
            verdict = verdict_on szx a.1;
            code = f.code;
            comes = comes_here limits szx setup t now from bytes w up a (Replies r) below law;
            handed = refl;
            unserved = refl;
            refuses = f.refuses;
            not_continue = not_continue f.code (refused_with s.szx a.1 s.uploads s.clock a.0 f.code f.refuses);
            carries = subst (Carries p a.0.from a.0.token) f.is k;
          })))
          | inr f ↦ (
              let u : AssemblyState = s.uploads in
              inr (inl (record {
                block = took a.0 f.question f.block;
                taken = ap (λ v. taken_by u s.clock a.0 v) f.verdict
                    ∙ ap (λ v. took_by v (took a.0 f.question f.block)) f.joins;
                more =
                    joins_more (record { szx = u.szx; limit = u.limit })
                    (reached (key_of a.0 f.question) (there_at u s.clock))
                    (length (without_key (key_of a.0 f.question) (there_at u s.clock))) f.block
                    (length f.question.body) f.size f.joins;
                size = f.size;
                asks = ap (λ v. size_of u s.clock a.0 v) f.verdict ∙ ap size_by f.joins;
                carries = subst (Carries p a.0.from a.0.token) f.is k;
              }))
              )
        ]
    fed now from bytes w up came _ below law k = absurd (came_none now from bytes up came k)

    tick_none : (now : ℕ) (below : L.Answer) (room : Bool) (d : Due) → In (ticking (own t) now below room d ∷ []) → ⊥
    tick_none now below room d (inl k) = k
    tick_none now below room d (inr k) = k

    idle : (now : ℕ) (below : L.Answer) (room : Bool) (passed : ℕ)
        → In (readies (heard (own t) now (ticking (own t) now below room due.Idle)).clock passed
        (marked (heard (own t) now (ticking (own t) now below room due.Idle)).observers)
        ++ ticking (own t) now below room due.Idle ∷ []) → ⊥
    idle now below room passed k =
        let s : Own = heard (own t) now (ticking (own t) now below room due.Idle) in
        idle_none s.clock passed (marked s.observers) (ticking (own t) now below room due.Idle) (λ z. z) k

    ticked : (now w : ℕ) (below : L.Answer) (room : Bool) (d : Due) (passed : ℕ) (h : Handling) (id : ℕ) (answer : Bool)
        → Turned (heard (own t) now (ticking (own t) now below room d)) passed d h
        → In (lower (own t) (Ticks now w below room d passed h id answer))
        → CarriesResponse limits szx setup p t (Ticks now w below room d passed h id answer)
    ticked now w below room d passed h id answer (responded a q reply left asks serves) (inl k) =
        inl (record {
          request = serving_of (heard (own t) now (ticking (own t) now below room (due.Ready a))) a q reply
              left;
          here = refl;
          carries = k;
        })
    ticked now w below room d passed h id answer (responded a q reply left asks serves) (inr k) =
        absurd (tick_none now below room (due.Ready a) k)
    ticked now w below room d passed h id answer (noticed o reply found is) (inl k) =
        let s : Own = heard (own t) now (ticking (own t) now below room due.Idle) in
        inr (inr (inr (record {
          observer = o;
          reply = reply;
          here = refl;
          made = notified_made limits szx t now below room passed o found;
          shows = subst (λ z. NoticeOf o.szx (s.store.holds o.path)
              (response_with z (sequence (s.store.holds o.path)) None)) (sym is) (shows_held o (s.store.holds o.path));
          carries = notice_carries (by_plain s o) s.clock o (notification s.store o reply) w id k;
        })))
    ticked now w below room d passed h id answer (noticed o reply found is) (inr k) = absurd
        (idle now below room passed k)
    ticked now w below room d passed h id answer (rests none) k = absurd (idle now below room passed k)
    ticked now w below room d passed h id answer copied k = absurd (tick_none now below room due.Copied k)
    ticked now w below room d passed h id answer expired k = absurd (tick_none now below room due.Expired k)
    ticked now w below room d passed h id answer (lost a none) k = absurd (tick_none now below room (due.Ready a) k)

    pub here : (c : Call) → ServerLaw limits szx setup (c ∷ t) → In (lower (own t) c)
        → CarriesResponse limits szx setup p t c
    here (Feeds now from bytes w up came h below) law k = fed now from bytes w up came h below law k
    here (Refuses now from bytes w code up p None below) law k = absurd (came_none now from bytes up (Some p) k)
    here (Refuses now from bytes w code up p (Some n) below) law (inr k) =
        absurd (came_none now from bytes up (Some p) k)
    here (Refuses now from bytes w code up p (Some n) below) law (inl k) =
        let c : Call = Refuses now from bytes w code up p (Some n) below in
        inr (inr (inl (record {
          asked = p.0;
          verdict = verdict_on szx p.1;
          code = n;
          comes = comes_refused limits szx setup t now from bytes w code up p (Some n) below law;
          handed = refl;
          unserved = refl;
          refuses = refl;
          not_continue = not_continue n (refusals_are_errors (own t) c law.rows.0 n refl);
          carries = k;
        })))
    here (Ticks now w below room d passed h id answer) law k =
        ticked now w below room d passed h id answer
        (turned (heard (own t) now (ticking (own t) now below room d)) passed d h law.rows.0.0) k
    here (NextOut answer) law k = elim k [ inl z ↦ absurd z | inr z ↦ absurd z ]
    here (Forgets peer) law k = elim k [ inl z ↦ absurd z | inr z ↦ absurd z ]
    here _ law k = absurd k

  carried : (t : List Call) → ServerLaw limits szx setup t → In (lower_of limits szx t)
      → Sometime (CarriesResponse limits szx setup p) t
  carried [] law h = absurd h
  carried (c ∷ t) law h =
      elim (Ever_append (CarriesIn p) (lower (own t) c) (lower_of limits szx t) h) [
        | inl k ↦ inl (here t c law k)
        | inr k ↦ inr (carried t (server_back limits szx setup c t law) k)
      ]

pub sent_responses : (limits : Limits) (szx : ℕ) (setup : Setup) (t : List Call) → ServerLaw limits szx setup t
    → SentResponses limits szx setup t
sent_responses limits szx setup t law p h =
    let calls : List E.Call = lower_of limits szx t in
    elim (sourced setup p (W.below_of setup calls) (layer_stands setup calls law.exchanges) h) [
      | inl k ↦ inl k
      | inr k ↦ elim (made p calls law.exchanges.rows (called (Source p) (S.start setup) (W.lower_of calls) k))
          [ inl x ↦ inl x | inr x ↦ inr (carried limits szx setup p t law x) ]
    ]

pub sends_responses : (limits : Limits) (szx : ℕ) (setup : Setup) (t : List Call) → ServerLaw limits szx setup t
    → SendsResponses limits szx setup t
sends_responses limits szx setup [] law = tt
sends_responses limits szx setup (c ∷ t) law = (
  sent_responses limits szx setup (c ∷ t) law,
  sends_responses limits szx setup t (server_back limits szx setup c t law),
)

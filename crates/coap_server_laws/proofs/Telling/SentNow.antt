-- A notification that a server's message layer is given in a call, that very call tells.
use Rattle.std.proofs.Common.{◌≡◌, inl, inr, ℕ, zero, suc, ◌<◌, ◌^◌, Bool, true, false, Option, Some, None, is_some}
use Rattle.std.proofs.Common.{List, [], ◌∷◌, ◌++◌, refl, ap}
use Rattle.std.proofs.Common.{sym, subst, ◌∙◌, cond}
use Rattle.coap_types.specs.CoapOption.{CoapOption}
use Rattle.coap_types.specs.OptionValues.{value_of, option_with, uint_option}
use Rattle.coap_types.specs.Past.{Ever}
use Rattle.coap_types.specs.Path.{same_path}
use Rattle.coap_types.specs.Recognised.{recognised}
use Rattle.coap_types.specs.declared.block.Block.{Block}
use Rattle.coap_types.specs.declared.direction.Direction.TheVariants.{Response}
use Rattle.coap_types.specs.declared.endpoint.Endpoint.{Endpoint}
use Rattle.coap_types.specs.declared.option_number.TheConstants.{ETAG as etag, OBSERVE as observe}
use Rattle.coap_types.specs.declared.option_number.TheConstants.{CONTENT_FORMAT as content_format, BLOCK2 as block2}
use Rattle.coap_types.specs.declared.option_number.TheConstants.{BLOCK1 as block1}
use Rattle.coap_codec.specs.Message.{Message}
use Rattle.coap_layer.specs.Trace as L
use Rattle.coap_layer.specs.declared.setup.Setup.{Setup}
use Rattle.coap_block.specs.declared.block_verdict.BlockVerdict.{BlockVerdict}
use Rattle.coap_block.specs.declared.block_verdict.BlockVerdict.TheVariants.{Refuse, Join, Done}
use Rattle.coap_block.specs.Whole.{Each}
use Rattle.coap_observe.specs.Observers.{Observer}
use Rattle.coap_resource.specs.Content.{Content, Held}
use Rattle.coap_resource.specs.RequestOptions.{tag_of}
use Rattle.coap_resource.specs.ResponseOptions.{block_number}
use Rattle.coap_resource.specs.Serves.{Question, Reply, got}
use Rattle.coap_resource.specs.Serves as R
use Rattle.coap_resource.proofs.Facts.Served.{content_law}
use Rattle.coap_resource.specs.Limits.{Limits}
use Rattle.coap_exchange.specs.declared.answerer.Asked.{Asked}
use Rattle.coap_exchange.specs.declared.answerer.Due.{Due}
use Rattle.coap_exchange.specs.declared.answerer.Due.TheVariants as due
use Rattle.coap_exchange.specs.AnswererSteps.{may_defer}
use Rattle.coap_exchange.specs.AnswererTrace as E
use Rattle.coap_exchange.specs.SuccessCodes.{content}
use Rattle.coap_server.specs.Trace.{Own, Handling, Replies, Serves, Waits, Notifies, Call}
use Rattle.coap_server.specs.Trace.{Feeds, Refuses}
use Rattle.coap_server.specs.Trace.{Ticks, NextOut}
use Rattle.coap_server.specs.Responses.{bare, response_with}
use Rattle.coap_server.specs.Serving.{response_to}
use Rattle.coap_server.specs.Checks.{Verdict, Ignored, Refused, Asks, Uploads, verdict_on}
use Rattle.coap_server.specs.Uploads.{ruling_of, whole, last_block}
use Rattle.coap_server.specs.Observers.{registers, sequence, sequence_if}
use Rattle.coap_server.specs.Deferring.{deferral, deferral_by, delay_for, question_of}
use Rattle.coap_server.specs.Notifying.{marked, behind, readies, told, asks_for, notification}
use Rattle.coap_server.specs.Handling.{incoming, ticking, heard, HandlesBlock, Handles}
use Rattle.coap_server.specs.Asks.{lower, answering, notifies_by, responding}
use Rattle.coap_server.specs.Plain.{by_plain}
use Rattle.coap_server.specs.Law.{ServerLaw, own_of}
use Rattle.coap_server.specs.Follows.Holds.{Change, change, held_then, held_at}
use Rattle.coap_server.specs.Follows.Serves.{Serving, serving, serving_of}
use Rattle.coap_server.specs.Follows.Tags.{AreStamped}
use Rattle.coap_server.specs.Follows.Tells.{InCon, InNon, InReply, Telling, Way, answer_tells, notice_tells}
use Rattle.coap_server.specs.Follows.Tells.{telling, telling_of, tells, tells_if, way_of}
use Rattle.coap_server.proofs.Facts.Holds as facts
use Rattle.coap_server_laws.proofs.Facts.Laws as facts_2
use Rattle.coap_server.proofs.Facts.Calls.EachOf.{each_join}
use Rattle.coap_server.proofs.Facts.Observing.Outcomes.{next_one, serves_came, serves_waited}
use Rattle.coap_server_laws.proofs.Telling.NotedOptions.{none_recognised, tag_recognised}
use Rattle.coap_server_laws.proofs.Replying.ResponsesHaveRequests.{never_replies}
use Rattle.coap_server.specs.Trace.{Forgets}

-- the response is a 2.05 with Observe
pub record Notes (r : E.Response) : Type 0 where
  pub code : r.code ≡ content
  pub observe_there : is_some (value_of observe (recognised Response r.options)) ≡ true

-- without Observe it is none
silent : (X : Type 0) (r : E.Response) → value_of observe r.options ≡ None → Notes r → X
silent X r none n = let e = n.observe_there in let k =
    ap is_some (none_recognised observe r.options none) in absurd (cc (e, k))

abbrev options : Option (List ℕ) → Option ℕ → Option ℕ → Option ℕ → Option ℕ → List CoapOption
options tag sequence format block last = option_with etag tag
    ++ (uint_option observe sequence ++ (uint_option content_format format
    ++ (uint_option block2 block ++ uint_option block1 last)))

none_there : (tag : Option (List ℕ)) (format block last : Option ℕ)
    → value_of observe (options tag None format block last) ≡ None
none_there None None None None = refl
none_there None None None (Some l) = refl
none_there None None (Some b) None = refl
none_there None None (Some b) (Some l) = refl
none_there None (Some f) None None = refl
none_there None (Some f) None (Some l) = refl
none_there None (Some f) (Some b) None = refl
none_there None (Some f) (Some b) (Some l) = refl
none_there (Some t) None None None = refl
none_there (Some t) None None (Some l) = refl
none_there (Some t) None (Some b) None = refl
none_there (Some t) None (Some b) (Some l) = refl
none_there (Some t) (Some f) None None = refl
none_there (Some t) (Some f) None (Some l) = refl
none_there (Some t) (Some f) (Some b) None = refl
none_there (Some t) (Some f) (Some b) (Some l) = refl

unobserved : (reply : Reply) (last : Option ℕ) → value_of observe (response_with reply None last).options ≡ None
unobserved reply last = none_there reply.tag reply.format (block_number reply.block2) last

-- a version that is held has 64 bits
module _ (limits : Limits) (szx : ℕ) where
  pub held_small : (path : List (List ℕ)) (held : Held) (t : List Call) → AreStamped limits szx t
      → held_at limits szx path t ≡ Some held → held.version < 2 ^ 64
  held_small path held [] st h = absurd (cc h)
  held_small path held (c ∷ t) st h = by (change (own_of limits szx t) c) refl h (λ k. held_small path held t st.1 k)
    where
      put : (x : Change) → change (own_of limits szx t) c ≡ Some x → x.held ≡ Some held → held.version < 2 ^ 64
      put x is k = subst (λ n. n < 2 ^ 64) (sym (st.0.held x held is k)) (st.0.version x is)

      placed : (x : Change) → change (own_of limits szx t) c ≡ Some x → (b : Bool)
          → cond b x.held (held_at limits szx path t) ≡ Some held
          → (held_at limits szx path t ≡ Some held → held.version < 2 ^ 64) → held.version < 2 ^ 64
      placed x is true k f = put x is k
      placed x is false k f = f k

      by : (o : Option Change) → change (own_of limits szx t) c ≡ o
          → held_then path o (held_at limits szx path t) ≡ Some held
          → (held_at limits szx path t ≡ Some held → held.version < 2 ^ 64) → held.version < 2 ^ 64
      by None is k f = f k
      by (Some x) is k f = placed x is (same_path x.path path) k f

  -- the call tells what the response says
  pub record Says (past : List Call) (c : Call) (way : Way) (to : Endpoint) (token : List ℕ)
      (r : E.Response) : Type 0 where
    pub told_here : Telling
    pub here : telling (own_of limits szx past) c ≡ Some told_here
    pub way_is : told_here.way ≡ way
    pub to_is : told_here.to ≡ to
    pub token_is : told_here.token ≡ token
    pub tag_is : value_of etag (recognised Response r.options) ≡ Some (tag_of told_here.version)
    pub small : told_here.version < 2 ^ 64

  one_held : (x y : Held) → Some x ≡ Some y → x ≡ y
  one_held x y h = cc h

  module _ (t : List Call) (c : Call) (stamped : AreStamped limits szx t)
      (kept : (path : List (List ℕ)) → (own_of limits szx t).store.holds path ≡ held_at limits szx path t) where
    -- what a GET is answered that shows what the path holds
    shows_tag : (reply : Reply) (seq last : Option ℕ) (held : Held) → reply.tag ≡ Some (tag_of held.version)
        → value_of etag (recognised Response (response_with reply seq last).options) ≡ Some (tag_of held.version)
    shows_tag reply seq last held e =
        let rest = uint_option observe seq ++ (uint_option content_format reply.format
        ++ (uint_option block2 (block_number reply.block2) ++ uint_option block1 last)) in
        ap (λ g. value_of etag (recognised Response (option_with etag g ++ rest))) e
        ∙ tag_recognised (tag_of held.version) rest refl

    said : (to : Endpoint) (token : List ℕ) (path : List (List ℕ)) (way : Way) (at : ℕ) (first : Bool) (reply : Reply)
        (seq last : Option ℕ) (held : Held) → (own_of limits szx t).store.holds path ≡ Some held
        → telling (own_of limits szx t) c ≡ tells to token path way at first (Some held)
        → reply.tag ≡ Some (tag_of held.version) → Says t c way to token (response_with reply seq last)
    said to token path way at first reply seq last held there is tag =
        record {
          told_here = telling_of to token path way at first held;
          here = is;
          way_is = refl;
          to_is = refl;
          token_is = refl;
          tag_is = shows_tag reply seq last held tag;
          small = held_small path held t stamped (sym (kept path) ∙ there);
        }

    -- .. of a request that is served
    served : (s : Own) → s.store ≡ (own_of limits szx t).store
        → (a : Asked) (q : Question) (reply : Reply) (left : Content) (way : Way)
        → telling (own_of limits szx t) c ≡ answer_tells s a q reply way
        → R.Serves s.store s.clock q reply left → Notes (response_to s.store s.observers a q reply)
        → Says t c way a.from a.token (response_to s.store s.observers a q reply)
    served s same a q reply left way is serves n = by (registers a q reply s.observers) (s.store.holds q.path) refl is n
      where
        by : (b : Bool) (h : Option Held) → s.store.holds q.path ≡ h
            → telling (own_of limits szx t) c ≡ tells_if b s.clock s.store a q way
            → Notes (response_with reply (sequence_if b (s.store.holds q.path)) (last_block q))
            → Says t c way a.from a.token (response_with reply (sequence_if b (s.store.holds q.path)) (last_block q))
        by false h e tell k = silent _ (response_with reply None (last_block q)) (unobserved reply (last_block q)) k
        by true None e tell k = silent _ (response_with reply (sequence (s.store.holds q.path)) (last_block q))
            (ap (λ z. value_of observe (response_with reply (sequence z) (last_block q)).options) e
            ∙ unobserved reply (last_block q)) k
        by true (Some held) e tell k =
            let w = content_law s.store left s.clock q reply serves k.code in
            let one : w.held ≡ held = one_held w.held held (sym w.is_held ∙ e) in
            said a.from a.token q.path way s.clock true reply (sequence (s.store.holds q.path)) (last_block q) held
            (ap (λ (z : Content). z.holds q.path) (sym same) ∙ e)
            (tell ∙ ap (tells a.from a.token q.path way s.clock true) e)
            (ap (λ (x : Reply). x.tag) w.is ∙ ap (λ (x : Held). Some (tag_of x.version)) one)

    -- .. and of a notification
    noticed : (s : Own) → s.store ≡ (own_of limits szx t).store → (o : Observer) (reply : Reply) (way : Way)
        → telling (own_of limits szx t) c ≡ notice_tells s o way → reply ≡ told s.store o
        → Notes (notification s.store o reply) → Says t c way o.to o.token (notification s.store o reply)
    noticed s same o reply way is so n = by (s.store.holds o.path) refl is n
      where
        by : (h : Option Held) → s.store.holds o.path ≡ h
            → telling (own_of limits szx t) c ≡ notice_tells s o way
            → Notes (response_with reply (sequence (s.store.holds o.path)) None)
            → Says t c way o.to o.token (response_with reply (sequence (s.store.holds o.path)) None)
        by None e tell k = silent _ (response_with reply (sequence (s.store.holds o.path)) None)
            (ap (λ z. value_of observe (response_with reply (sequence z) None).options) e ∙ unobserved reply None) k
        by (Some held) e tell k =
            said o.to o.token o.path way s.clock false reply (sequence (s.store.holds o.path)) None held
            (ap (λ (z : Content). z.holds o.path) (sym same) ∙ e)
            (tell ∙ ap (tells o.to o.token o.path way s.clock false) e)
            (ap (λ (x : Reply). x.tag) so ∙ ap (λ z. (got z (asks_for o)).tag) e)

-- A response without the store has no Observe.

none_by : (r k : E.Response) → Replies r ≡ Replies k → value_of observe k.options ≡ None
    → value_of observe r.options ≡ None
none_by r k e none = let same : r ≡ k = cc e in ap (λ (z : E.Response). value_of observe z.options) same ∙ none

block_replies : (v : BlockVerdict) (s : Own) (a : Asked) (q : Question) (b : Block) (r : E.Response)
    → HandlesBlock v s a q b (Replies r) → value_of observe r.options ≡ None
block_replies (Refuse why) s a q b r h = none_by r _ h refl
block_replies (Join n) s a q b r h = none_by r _ h refl
block_replies Done s a q b r h =
    let it : Question = whole s.uploads s.clock a q b in
    absurd (never_replies (delay_for a.kind q.path s.delays) (may_defer s.exchanges.deferred) s.store s.clock it r h)

replies : (v : Verdict) (s : Own) (a : Asked) (r : E.Response) → Handles s a v (Replies r)
    → value_of observe r.options ≡ None
replies Ignored s a r h = absurd (cc h)
replies (Refused code) s a r h = none_by r _ h refl
replies (Asks q) s a r h = absurd (never_replies (delay_for a.kind q.path s.delays)
    (may_defer s.exchanges.deferred) s.store s.clock q r h)
replies (Uploads q b) s a r h = block_replies (ruling_of s.uploads s.clock a q b) s a q b r h

-- what the exchanges are asked in a call

module _ (limits : Limits) (szx : ℕ) (t : List Call) (c : Call) where
  -- the request is served here
  abbrev pub Serving_of : Asked → Type 0
  Serving_of a = (y : Serving) × (serving (own_of limits szx t) c ≡ Some y) × (y.asked ≡ a)

  abbrev pub Means : E.Call → Type 0
  Means (E.Answers a r below) = Notes r → Says limits szx t c InReply a.from a.token r × Serving_of a
  Means (E.Responds now a r word id) = Notes r → Says limits szx t c (InCon id) a.from a.token r
  Means (E.Notifies now to token r word id) = Notes r → Says limits szx t c (InCon id) to token r
  Means (E.NotifiesPlain now to token r id) = Notes r → Says limits szx t c InNon to token r
  Means _ = Unit {0}

  readies_mean : (at n : ℕ) (os : List Observer) → Each Means (readies at n os)
  readies_mean at n [] = tt
  readies_mean at zero (o ∷ os) = (tt, tt)
  readies_mean at (suc n) (o ∷ os) = each_join Means (readies at n os) (E.Ready at o.to false ∷ [])
      (readies_mean at n os) (tt, tt)

  deferral_mean : (o : Option ℕ) (place : Bool) (at : ℕ) (a : Asked) → Each Means (deferral_by o place at a)
  deferral_mean None place at a = tt
  deferral_mean (Some d) place at a = (tt, tt)

  deferred_mean : (s : Own) (a : Asked) (q : Question) → Each Means (deferral s a q)
  deferred_mean s a q = deferral_mean (delay_for a.kind q.path s.delays) (may_defer s.exchanges.deferred) s.clock a

  notice_means : (plain : Bool) (at : ℕ) (o : Observer) (r : E.Response) (w id : ℕ)
      → (Notes r → Says limits szx t c (way_of plain id) o.to o.token r) → Means (notifies_by plain at o r w id)
  notice_means true at o r w id f = f
  notice_means false at o r w id f = f

  pub meant : (e : E.Call) (cs : List E.Call) → Each Means cs → Ever (λ d. d ≡ e) cs → Means e
  meant e [] m h = absurd h
  meant e (d ∷ cs) m (inl h) = subst Means h m.0
  meant e (d ∷ cs) m (inr h) = meant e cs m.1 h

module _ (limits : Limits) (szx : ℕ) (setup : Setup) (t : List Call) where
  abbrev own : Own
  own = own_of limits szx t

  abbrev Mean : Call → List E.Call → Type 0
  Mean c cs = Each (Means limits szx t c) cs

  module _ (c : Call) (law : ServerLaw limits szx setup (c ∷ t)) where
    pub stamped : AreStamped limits szx t
    stamped = (facts_2.stamped limits szx setup (c ∷ t) law).1

    pub kept : (path : List (List ℕ)) → own.store.holds path ≡ held_at limits szx path t
    kept path = facts.held_is limits szx t law.rows.1 path

  fed : (now : ℕ) (from : Endpoint) (bytes : List ℕ) (w : ℕ) (up : L.Answer) (came : Option (Asked × Message))
      (h : Handling) (below : L.Answer) → ServerLaw limits szx setup (Feeds now from bytes w up came h below ∷ t)
      → Mean (Feeds now from bytes w up came h below)
      (answering (heard own now (incoming own now from bytes up came)) came h below)
  fed now from bytes w up (Some p) (Waits q d) below law =
      deferred_mean limits szx t (Feeds now from bytes w up (Some p) (Waits q d) below)
      (heard own now (incoming own now from bytes up (Some p))) p.0 q
  fed now from bytes w up (Some p) (Replies r) below law =
      let s : Own = heard own now (incoming own now from bytes up (Some p))
      in (λ n. silent _ r (replies (verdict_on s.szx p.1) s p.0 r law.rows.0) n, tt)
  fed now from bytes w up (Some p) (Serves q reply left) below law =
      let s : Own = heard own now (incoming own now from bytes up (Some p)) in
      let c : Call = Feeds now from bytes w up (Some p) (Serves q reply left) below in (
        λ n. (
          served limits szx t c (stamped c law) (kept c law) s refl p.0 q reply left InReply refl
              (serves_came s p q reply left law.rows.0) n,
          (serving_of s p.0 q reply left, refl, refl),
        ),
        deferred_mean limits szx t c s p.0 q,
      )
  fed now from bytes w up _ _ below law = tt

  ticked : (now w : ℕ) (below : L.Answer) (room : Bool) (d : Due) (passed : ℕ) (h : Handling) (id : ℕ) (answer : Bool)
      → ServerLaw limits szx setup (Ticks now w below room d passed h id answer ∷ t)
      → Mean (Ticks now w below room d passed h id answer)
      (responding (heard own now (ticking own now below room d)) d passed h w id)
  ticked now w below room (due.Ready a) passed (Serves q reply left) id answer law =
      let s : Own = heard own now (ticking own now below room (due.Ready a)) in
      let c : Call = Ticks now w below room (due.Ready a) passed (Serves q reply left) id answer in (
        λ n. served limits szx t c (stamped c law) (kept c law) s refl a q reply left (InCon id) refl
            (serves_waited (question_of s.clock a s.waiting) s.store s.clock q reply left law.rows.0.0) n,
        tt,
      )
  ticked now w below room due.Idle passed (Notifies o reply) id answer law =
      let s : Own = heard own now (ticking own now below room due.Idle) in
      let c : Call = Ticks now w below room due.Idle passed (Notifies o reply) id answer in (
        notice_means limits szx t c (by_plain s o) s.clock o (notification s.store o reply) w id
            (λ n. noticed limits szx t c (stamped c law) (kept c law) s refl o reply (way_of (by_plain s o) id) refl
            (next_one (behind passed (marked s.observers)) s.store o reply law.rows.0.0).1 n),
        readies_mean limits szx t c s.clock passed (marked s.observers),
      )
  ticked now w below room due.Idle passed _ id answer law = let s : Own = heard own now
      (ticking own now below room due.Idle) in readies_mean limits szx t _ s.clock passed (marked s.observers)
  ticked now w below room _ passed _ id answer law = tt

  -- what each call of the exchanges means that a call makes
  pub mean : (c : Call) → ServerLaw limits szx setup (c ∷ t) → Mean c (lower own c)
  mean (Feeds now from bytes w up came h below) law =
      let first : E.Call = incoming own now from bytes up came in
      each_join (Means limits szx t (Feeds now from bytes w up came h below)) (answering
      (heard own now first) came h below)
      (first ∷ []) (fed now from bytes w up came h below law) (tt, tt)
  mean (Refuses now from bytes w code up p None below) law = (tt, tt)
  mean (Refuses now from bytes w code up p (Some n) below) law = ((λ x. silent _ (bare n) refl x), (tt, tt))
  mean (Ticks now w below room d passed h id answer) law =
      let first : E.Call = ticking own now below room d in
      each_join (Means limits szx t (Ticks now w below room d passed h id answer)) (responding
      (heard own now first) d passed h w id)
      (first ∷ []) (ticked now w below room d passed h id answer law) (tt, tt)
  mean (NextOut answer) law = (tt, tt)
  mean (Forgets peer) law = (tt, tt)
  mean _ law = tt

-- What stands in the law of a server goes on.
use Rattle.std.proofs.Common.{◌≡◌, ◌≤◌, ℕ, ◌+◌, max, Bool, true, false, Option, Some, None}
use Rattle.std.proofs.Common.{List, [], ◌∷◌, ◌++◌, length, map, Result, Ok, Err, refl, ap, sym, subst, ◌∙◌}
use Rattle.std.proofs.Common.{arith}
use Rattle.coap_types.specs.declared.block.Block.{Block}
use Rattle.coap_types.specs.declared.endpoint.Endpoint.{Endpoint}
use Rattle.coap_types.specs.declared.message.Kind.{Kind}
use Rattle.coap_types.specs.declared.message.Kind.TheVariants.{Con}
use Rattle.coap_codec.specs.Message.{Message}
use Rattle.coap_layer.specs.Trace as L
use Rattle.coap_layer.specs.declared.setup.Setup.{Setup}
use Rattle.coap_block.specs.declared.block_verdict.BlockVerdict.{BlockVerdict}
use Rattle.coap_block.specs.declared.block_verdict.BlockVerdict.TheVariants.{Refuse, Join, Done}
use Rattle.coap_block.specs.AssemblyAnswer.{refusal_code}
use Rattle.coap_observe.specs.Observers.{Observer}
use Rattle.coap_resource.specs.declared.refusal.StoreRefusal.{StoreRefusal}
use Rattle.coap_resource.specs.Content.{Content, Held, put_refusal, later}
use Rattle.coap_resource.specs.Rate.{rate_refusal}
use Rattle.coap_resource.specs.Serves.{Question, Reply}
use Rattle.coap_resource.specs.Limits.{Limits}
use Rattle.coap_exchange.specs.declared.answerer.Asked.{Asked}
use Rattle.coap_exchange.specs.declared.answerer.Due.{Due}
use Rattle.coap_exchange.specs.declared.answerer.Due.TheVariants as due
use Rattle.coap_exchange.specs.AnswererTrace as E
use Rattle.coap_exchange.specs.AnswererSteps as P
use Rattle.coap_exchange.specs.AnswererSteps.{may_defer}
use Rattle.coap_exchange.specs.AnswererLaw as W
use Rattle.coap_exchange.specs.AnswererLaw.{ResponseLaw}
use Rattle.coap_server.specs.Trace.{Own, Handling, Silent, Replies, Serves, Waits, Notifies, Call}
use Rattle.coap_server.specs.Trace.{Sets}
use Rattle.coap_server.specs.Trace.{Removes, Feeds, Ticks}
use Rattle.coap_server.specs.Responses.{bare}
use Rattle.coap_server.specs.Checks.{Verdict, Ignored, Refused, Asks, Uploads, verdict_on}
use Rattle.coap_server.specs.Uploads.{ruling_of, whole, continuing, last_block}
use Rattle.coap_server.specs.Observers.{registers, sequence_if, sequence}
use Rattle.coap_server.specs.Serving.{IsServed, response_to}
use Rattle.coap_server.specs.Deferring.{WaitsBy, AnswersWaiting, delay_for, may_delay, deferral_by}
use Rattle.coap_server.specs.Notifying.{marked, behind, readies, told, asks_for, notification}
use Rattle.coap_server.specs.Notifying.{NotifiesNext}
use Rattle.coap_server.specs.Local.{SetsBy, RemovesBy}
use Rattle.coap_server.specs.Handling.{heard, HandlesBlock, Handles, HandlesCame, HandlesDue, is_done}
use Rattle.coap_server.specs.Asks.{answering, responding}
use Rattle.coap_server.specs.Law.{ServerLaw, own_of, lower_of}
use Rattle.coap_server.specs.Refusing.{is_error, refusal, refused_or_fed}
use Rattle.coap_server.proofs.Facts.Refusing.ErrorsRespond.{refusal_says}
use Rattle.coap_server_laws.specs.Follows.GoesOn.{GoesOn}
use Rattle.coap_server.specs.Follows.Waits.{deferred_as}
use Rattle.coap_server_laws.proofs.Progress.AnswererGoing.{Takes, takes, answers, defers, responds}
use Rattle.coap_server_laws.proofs.Progress.AnswererComing.{Receives, receives}
use Rattle.coap_server_laws.proofs.Progress.AnswererTiming.{TimePasses, passes_time}
use Rattle.coap_server_laws.proofs.Progress.StoreCountsPaths.{AreCounted, can_change, store_counted}
use Rattle.coap_server.proofs.Facts.Exact.Asked.{joined}
use Rattle.coap_server.proofs.Facts.Exact.Leads.{exchanges_kept}
use Rattle.coap_server_laws.proofs.Observing.LatestRegistration.{each_ended}
use Rattle.coap_server.proofs.Facts.Observing.MarkedObservers.{behind_there, marked_there, each_there}
use Rattle.coap_server_laws.proofs.Progress.ExchangesGo.{defers_not, notifies, Walked, walks}
use Rattle.coap_server_laws.proofs.Progress.RefusalsSpelled.{IsRefusal, block_refusal, is_refusal}
use Rattle.coap_server_laws.proofs.Progress.ResponsesSpelled.{bare_response, continue_response, reply_response}
use Rattle.coap_server_laws.proofs.Progress.StoreReplies.{is_answered, got_good}
use Rattle.coap_server_laws.proofs.Progress.TokensShort.{asked_short, waiting_short, observers_short}
use Rattle.coap_server.proofs.Facts.Serving.Waiting.{Mirrors, mirrors, taken}
use Rattle.coap_server.proofs.Facts.Serving.FoundReady.{found_ready}
use Rattle.coap_server.specs.Asks.{notifies_by}
use Rattle.coap_server.specs.Plain.{by_plain, may_be_plain}
use Rattle.coap_server_laws.proofs.Progress.ExchangesGo.{notifies_plain}
use Rattle.coap_server_laws.proofs.Progress.AnswererGoing.{TakesCon}

-- only a CON waits
delayed_con : (kind : Kind) (path : List (List ℕ)) (s : Own) (delay : ℕ) → delay_for kind path s.delays ≡ Some delay
    → kind ≡ Con
delayed_con Con path s delay h = refl
delayed_con _ path s delay h = absurd (cc h)

module _ (limits : Limits) (szx : ℕ) (setup : Setup) (t : List Call) (law : ServerLaw limits szx setup t) where
  abbrev mine : Own
  mine = own_of limits szx t

  abbrev under : List E.Call
  under = lower_of limits szx t

  counted : AreCounted mine.store
  counted = store_counted limits szx t law.rows

  mirrored : Mirrors limits szx setup t
  mirrored = mirrors limits szx setup t law

  kept : mine.exchanges ≡ W.own_of under
  kept = exchanges_kept limits szx t

  -- local changes

  sets_on : (now : ℕ) (path : List (List ℕ)) (format : Option ℕ) (body : List ℕ)
      → (answer : Result ℕ StoreRefusal) × (left : Content)
      × ServerLaw limits szx setup (Sets now path format body answer left ∷ t)
  sets_on now path format body =
      let k = by (put_refusal mine.store at path (length body)) in
      (k.0, k.1, record { rows = (k.2, law.rows); exchanges = law.exchanges })
    where
      at : ℕ
      at = max mine.clock now

      by : (o : Option StoreRefusal) → (answer : Result ℕ StoreRefusal) × (left : Content)
          × SetsBy o mine.store at path format body answer left
      by (Some why) = (Err why, later mine.store at, (refl, refl))
      by None =
          let new : Held = record { version = mine.store.tally.version + 1; format = format; body = body } in
          let k = can_change mine.store at path (Some new) counted in
          (Ok (mine.store.tally.version + 1), k.0, (refl, k.1))

  removes_on : (now : ℕ) (path : List (List ℕ))
      → (answer : Result Bool StoreRefusal) × (left : Content)
      × ServerLaw limits szx setup (Removes now path answer left ∷ t)
  removes_on now path =
      let k = by (mine.store.holds path) (rate_refusal mine.store.tally at) in
      (k.0, k.1, record { rows = (k.2, law.rows); exchanges = law.exchanges })
    where
      at : ℕ
      at = max mine.clock now

      by : (o : Option Held) (why : Option StoreRefusal)
          → (answer : Result Bool StoreRefusal) × (left : Content) × RemovesBy o why mine.store at path answer left
      by None why = (Ok false, later mine.store at, (refl, refl))
      by (Some held) (Some why) = (Err why, later mine.store at, (refl, refl))
      by (Some held) None = let k = can_change mine.store at path None counted in (Ok true, k.0, (refl, k.1))

  -- the store serves a request
  record Served (s : Own) (a : Asked) (q : Question) : Type 0 where
    reply : Reply
    left : Content
    is_served : IsServed s.store s.clock q (Serves q reply left)
    may : P.IsResponseWith a.token (response_to s.store s.observers a q reply)

  served : (s : Own) (a : Asked) (q : Question) → AreCounted s.store → length a.token ≤ 8 → Served s a q
  served s a q many few =
      let k = is_answered s.store s.clock q many in
      record {
        reply = k.reply;
        left = k.left;
        is_served = record { reply = k.reply; left = k.left; serves = k.serves; is = refl };
        may = reply_response a.token k.reply (sequence_if (registers a q k.reply s.observers) (s.store.holds q.path))
            (last_block q) few k.good;
      }

  -- a datagram
  module _ (now : ℕ) (from : Endpoint) (bytes : List ℕ) where
    abbrev at : ℕ
    at = max mine.clock now

    late : (W.own_of under).clock ≤ at
    late = let k = mirrored.clock in let e = ap (λ (z : E.Own). z.clock) kept in omega (arith, k, e)

    abbrev came_first : L.Answer → Option (Asked × Message) → E.Call
    came_first up came = E.Incoming at from bytes up came

    abbrev stage : L.Answer → Option (Asked × Message) → Own
    stage up came = heard mine now (came_first up came)

    abbrev Handled : L.Answer → Option (Asked × Message) → (Handling → Type 0) → Type 0
    Handled up came Is = (h : Handling) × (below : L.Answer) × Is h
        × ResponseLaw setup ((answering (stage up came) came h below ++ came_first up came ∷ []) ++ under)

    module _ (up : L.Answer) (p : Asked × Message)
        (r : Receives setup under law.exchanges at from bytes late up (Some p)) where
      abbrev s : Own
      s = stage up (Some p)

      abbrev first : E.Call
      first = came_first up (Some p)

      can : Takes r.law_of.left (W.own_of (first ∷ under)).clock p.0
      can = r.takes_it p refl

      same_deferred : s.exchanges.deferred ≡ (W.own_of (first ∷ under)).deferred
      same_deferred = ap (λ (z : E.Own). z.deferred) kept

      abbrev AsIs : (Handling → Type 0) → Type 0
      AsIs = Handled up (Some p)

      asked : (q : Question) → AsIs (λ h. WaitsBy (delay_for p.0.kind q.path s.delays)
          (may_defer s.exchanges.deferred) s.store s.clock q h)
      asked q = by (delay_for p.0.kind q.path s.delays) (may_defer s.exchanges.deferred) refl refl
        where
          k : Served s p.0 q
          k = served s p.0 q counted can.short

          by : (o : Option ℕ) (place : Bool) → delay_for p.0.kind q.path s.delays ≡ o
              → may_defer s.exchanges.deferred ≡ place
              → AsIs (λ h. WaitsBy (delay_for p.0.kind q.path s.delays)
              (may_defer s.exchanges.deferred) s.store s.clock q h)
          by None place is room =
              let a = answers setup (first ∷ under) r.law_of p.0
              (response_to s.store s.observers p.0 q k.reply) refl k.may can in (
                Serves q k.reply k.left,
                a.0,
                subst (λ o. WaitsBy o (may_defer s.exchanges.deferred) s.store s.clock q (Serves q k.reply k.left))
                    (sym is) k.is_served,
                subst (λ o. ResponseLaw setup ((E.Answers p.0
                    (response_to s.store s.observers p.0 q k.reply) a.0 ∷ deferral_by o
                    (may_defer s.exchanges.deferred) s.clock p.0 ++ first ∷ []) ++ under)) (sym is) a.1,
              )
          by (Some delay) false is room =
              let d = defers_not setup (first ∷ under) r.law_of at p.0 delay refl
              (delayed_con p.0.kind q.path s delay is) (ap may_defer (sym same_deferred) ∙ room) can in
              let a = answers setup (E.Defers at p.0 delay false ∷ first ∷ under) d.law_of p.0
              (response_to s.store s.observers p.0 q k.reply) refl k.may d.can in (
                Serves q k.reply k.left,
                a.0,
                subst (λ o. WaitsBy o (may_defer s.exchanges.deferred) s.store s.clock q (Serves q k.reply k.left))
                    (sym is)
                    (subst (λ b. WaitsBy (Some delay) b s.store s.clock q (Serves q k.reply k.left))
                    (sym room) k.is_served),
                subst (λ o. ResponseLaw setup ((E.Answers p.0
                    (response_to s.store s.observers p.0 q k.reply) a.0 ∷ deferral_by o
                    (may_defer s.exchanges.deferred) s.clock p.0 ++ first ∷ []) ++ under)) (sym is)
                    (subst (λ b. ResponseLaw setup ((E.Answers p.0
                    (response_to s.store s.observers p.0 q k.reply) a.0 ∷ deferral_by (Some delay) b s.clock p.0
                    ++ first ∷ []) ++ under)) (sym room) a.1),
              )
          by (Some delay) true is room = (
            Waits q delay,
            L.Nothing,
            subst (λ o. WaitsBy o (may_defer s.exchanges.deferred) s.store s.clock q (Waits q delay)) (sym is)
                (subst (λ b. WaitsBy (Some delay) b s.store s.clock q (Waits q delay)) (sym room) refl),
            subst (λ o. ResponseLaw setup ((deferral_by o (may_defer s.exchanges.deferred) s.clock p.0 ++ first ∷ [])
                ++ under)) (sym is)
                (subst (λ b. ResponseLaw setup ((deferral_by (Some delay) b s.clock p.0 ++ first ∷ []) ++ under))
                (sym room)
                (defers setup (first ∷ under) r.law_of at p.0 delay refl (delayed_con p.0.kind q.path s delay is)
                (ap may_defer (sym same_deferred) ∙ room) can.awaits)),
          )

      replied : (response : E.Response) → P.IsResponseWith p.0.token response → (Is : Handling → Type 0)
          → Is (Replies response) → AsIs Is
      replied response may Is is =
          let a = answers setup (first ∷ under) r.law_of p.0 response refl may can in
          (Replies response, a.0, is, a.1)

      blocked : (q : Question) (b : Block) → AsIs (λ h. HandlesBlock (ruling_of s.uploads s.clock p.0 q b) s p.0 q b h)
      blocked q b = by (ruling_of s.uploads s.clock p.0 q b)
        where
          by : (v : BlockVerdict) → AsIs (λ h. HandlesBlock v s p.0 q b h)
          by (Refuse why) = replied (bare (refusal_code why).0) (block_refusal p.0.token why can.short)
              (λ h. HandlesBlock (Refuse why) s p.0 q b h) refl
          by (Join size) = replied (continuing size b) (continue_response p.0.token size b can.short)
              (λ h. HandlesBlock (Join size) s p.0 q b h) refl
          by Done = asked (whole s.uploads s.clock p.0 q b)

      by_verdict : (v : Verdict) → IsRefusal v → AsIs (λ h. Handles s p.0 v h)
      by_verdict Ignored good = (Silent, L.Nothing, refl, r.law_of)
      by_verdict (Refused code) good = replied (bare code) (bare_response p.0.token code can.short good.0 good.1 good.2)
          (λ h. Handles s p.0 (Refused code) h) refl
      by_verdict (Asks q) good = asked q
      by_verdict (Uploads q b) good = blocked q b

    handled : (up : L.Answer) (came : Option (Asked × Message))
        → Receives setup under law.exchanges at from bytes late up came
        → Handled up came (λ h. HandlesCame (stage up came) came h)
    handled up None r = (Silent, L.Nothing, refl, r.law_of)
    handled up (Some p) r = by_verdict up p r (verdict_on mine.szx p.1) (is_refusal mine.szx p.1)

    feeds_on : (w : ℕ) → (up : L.Answer) × (came : Option (Asked × Message)) × (handling : Handling)
        × (below : L.Answer) × ServerLaw limits szx setup (Feeds now from bytes w up came handling below ∷ t)
    feeds_on w =
        let r = receives setup under law.exchanges at from bytes late in
        let h = handled r.0 r.1 r.2 in
        (r.0, r.1, h.0, h.1, record { rows = (h.2, law.rows); exchanges = h.3 })

    -- .. and one whose request is refused
    module _ (w code : ℕ) (error : is_error code ≡ true) where
      abbrev Refusal : Type 0
      Refusal =
          (up : L.Answer) × (came : Option (Asked × Message)) × (response : Option ℕ) × (below : L.Answer)
          × ServerLaw limits szx setup (refused_or_fed now from bytes w code up came response below ∷ t)

      answered : (up : L.Answer) (p : Asked × Message)
          → Receives setup under law.exchanges at from bytes late up (Some p) → (response : Option ℕ)
          → response ≡ refusal code p.1 → Refusal
      answered up p r None is = (
        up,
        Some p,
        None,
        L.Nothing,
        record {
          rows = (record { error = error; is = is }, law.rows);
          exchanges = r.law_of;
        },
      )
      answered up p r (Some n) is =
          let can = r.takes_it p refl in
          let e = refusal_says code p.1 error n (sym is) in
          let least = e.least in
          let most = e.most in
          let good = bare_response p.0.token n can.short e.responds (omega (arith, least)) (omega (arith, most)) in
          let a = answers setup (came_first up (Some p) ∷ under) r.law_of p.0 (bare n) refl good can in (
            up,
            Some p,
            Some n,
            a.0,
            record { rows = (record { error = error; is = is }, law.rows); exchanges = a.1 },
          )

      refused : (up : L.Answer) (came : Option (Asked × Message))
          → Receives setup under law.exchanges at from bytes late up came → Refusal
      refused up None r = (up, None, None, L.Nothing, record { rows = (refl, law.rows); exchanges = r.law_of })
      refused up (Some p) r = answered up p r (refusal code p.1) refl

      refuses_on : Refusal
      refuses_on = let r = receives setup under law.exchanges at from bytes late in refused r.0 r.1 r.2

  -- time passes
  module _ (now w : ℕ) where
    abbrev moment : ℕ
    moment = max mine.clock now

    abbrev turn : L.Answer → Bool → Due → Own
    turn below room d = heard mine now (E.Ticks moment below room d)

    abbrev Dues : L.Answer → Bool → Due → Type 0
    Dues below room d =
        (passed : ℕ) × (h : Handling) × (id : ℕ) × HandlesDue (turn below room d) d passed h
        × ResponseLaw setup ((responding (turn below room d) d passed h w id ++ E.Ticks moment below room d ∷ [])
        ++ under)

    -- the observer that can be notified is one of those that there are
    noticed : (o : Observer) → length o.token ≤ 8
        → P.IsResponseWith o.token (notification mine.store o (told mine.store o))
    noticed o few = reply_response o.token (told mine.store o) (sequence (mine.store.holds o.path)) None few
        (got_good (mine.store.holds o.path) (asks_for o))

    -- in a NON, or in a CON
    noticed_by : (plain : Bool) (o : Observer) (r : E.Response) (w : ℕ) (calls : List E.Call)
        → (law : ResponseLaw setup calls) → P.IsResponseWith o.token r → TakesCon law.left moment o.to
        → ResponseLaw setup (notifies_by plain moment o r w law.left.upcoming ∷ calls)
    noticed_by true o r w calls law is can = notifies_plain setup calls law moment o.to o.token r is can
    noticed_by false o r w calls law is can = notifies setup calls law moment o.to o.token r w is can

    idled : (below : L.Answer) (room : Bool) → TimePasses setup under law.exchanges moment below room due.Idle
        → Dues below room due.Idle
    idled below room k = by (behind x.passed (marked os)) refl
      where
        first : E.Call
        first = E.Ticks moment below room due.Idle

        os : List Observer
        os = (turn below room due.Idle).observers

        x : Walked setup moment (marked os) (first ∷ under)
        x = walks setup moment (marked os) (first ∷ under) k.law_of

        short : (o : Observer) → behind x.passed (marked os) ≡ Some o → length o.token ≤ 8
        short o is =
            each_there (λ (y : Observer). length y.token ≤ 8) os o
            (each_ended (λ (y : Observer). length y.token ≤ 8) (P.after mine.exchanges first).ended mine.observers
            (observers_short limits szx setup t law))
            (marked_there os o (behind_there x.passed (marked os) o is)).0

        by : (o : Option Observer) → behind x.passed (marked os) ≡ o → Dues below room due.Idle
        by None is = (
          x.passed,
          Silent,
          0,
          subst (λ o. NotifiesNext o mine.store Silent) (sym is) refl,
          subst (ResponseLaw setup) (sym (joined (readies moment x.passed (marked os)) first under)) x.law_of,
        )
        by (Some o) is =
            let calls : List E.Call = readies moment x.passed (marked os) ++ first ∷ under in
            let s : Own = turn below room due.Idle in
            let r : E.Response = notification mine.store o (told mine.store o) in
            let n = noticed_by (by_plain s o) o r w calls x.law_of (noticed o (short o is)) (x.can o is) in (
              x.passed,
              Notifies o (told mine.store o),
              x.law_of.left.upcoming,
              subst (λ y. NotifiesNext y mine.store (Notifies o (told mine.store o))) (sym is) refl,
              subst (λ z. ResponseLaw setup (notifies_by (by_plain s o) moment o r w x.law_of.left.upcoming ∷ z))
                  (sym (joined (readies moment x.passed (marked os)) first under)) n,
            )

    due_on : (below : L.Answer) (room : Bool) (d : Due) → TimePasses setup under law.exchanges moment below room d
        → Dues below room d
    due_on below room due.Idle k = idled below room k
    due_on below room due.Copied k = (0, Silent, 0, refl, k.law_of)
    due_on below room due.Expired k = (0, Silent, 0, refl, k.law_of)
    due_on below room (due.Ready a) k =
        let same_moment : max (W.own_of under).clock moment
        ≡ moment = (let c = mirrored.clock in let e = ap (λ (z : E.Own). z.clock) kept in omega (arith, c, e)) in
        let f = found_ready below (P.ready_at (W.own_of under) moment) room a k.is_due in
        let first : P.first_ready moment (W.own_of under).separate (map deferred_as mine.waiting) ≡ Some f.deferred =
        ap (λ ds. P.first_ready moment (W.own_of under).separate ds)
        (mirrored.lists ∙ ap (λ (z : E.Own). z.deferred) kept)
        ∙ (ap (λ n. P.first_ready n (W.own_of under).separate (W.own_of under).deferred) (sym same_moment) ∙ f.first) in
        let asks = taken moment (W.own_of under).separate a mine.waiting f.deferred first f.asked in
        let s : Own = turn below room (due.Ready a) in
        let v = served s a asks.question counted (asked_short moment a mine.waiting asks.question
        (waiting_short limits szx setup t law) asks.asks) in
        let twice : max (max (W.own_of under).clock moment) moment ≡ max (W.own_of under).clock moment = omega arith in
        let ready : P.ready_at (W.own_of (E.Ticks moment below room (due.Ready a) ∷ under)) moment ≡ Some f.deferred =
        ap (λ u. P.first_ready (max (max (W.own_of under).clock moment) moment)
        (P.separate_unless u (W.own_of under).separate) (W.own_of under).deferred) f.idle
        ∙ (ap (λ n. P.first_ready n (W.own_of under).separate (W.own_of under).deferred) twice ∙ f.first) in (
          0,
          Serves asks.question v.reply v.left,
          k.law_of.left.upcoming,
          subst (λ o. AnswersWaiting o mine.store moment (Serves asks.question v.reply v.left)) {x = Some asks.question}
              (sym asks.asks) v.is_served,
          responds setup (E.Ticks moment below room (due.Ready a) ∷ under) k.law_of moment a
              (response_to s.store s.observers a asks.question v.reply) w f.deferred ready f.asked v.may
              (k.can_respond a refl),
        )

    ticks_on :
        (below : L.Answer) × (room : Bool) × (due : Due) × (passed : ℕ) × (handling : Handling) × (id : ℕ)
        × (answer : Bool)
        × ServerLaw limits szx setup (Ticks now w below room due passed handling id answer ∷ t)
    ticks_on =
        let k = passes_time setup under law.exchanges moment in
        let h = due_on k.0 k.1 k.2 k.3 in
        (k.0, k.1, k.2, h.0, h.1, h.2, is_done k.2 h.1, record { rows = ((h.3, refl), law.rows); exchanges = h.4 })

  pub goes_on : GoesOn limits szx setup t
  goes_on = record {
    sets = sets_on;
    removes = removes_on;
    delays = λ path ms. (may_delay path mine.delays, record { rows = (refl, law.rows); exchanges = law.exchanges });
    plains = λ path. (may_be_plain path mine.plains, record { rows = (refl, law.rows); exchanges = law.exchanges });
    feeds = λ now from bytes w. feeds_on now from bytes w;
    refuses = λ now from bytes w code error. refuses_on now from bytes w code error;
    ticks = ticks_on;
    next_out = let k = takes setup under law.exchanges in (k.0, record { rows = (tt, law.rows); exchanges = k.1 });
    gets = λ path. (mine.store.holds path, record { rows = (refl, law.rows); exchanges = law.exchanges });
    tells_applied = (mine.applied, record { rows = (refl, law.rows); exchanges = law.exchanges });
    forgets = λ peer. record {
      rows = (tt, law.rows);
      exchanges = record {
        rows = (tt, law.exchanges.rows);
        left = law.exchanges.left;
        layer = law.exchanges.layer;
      };
    };
  }

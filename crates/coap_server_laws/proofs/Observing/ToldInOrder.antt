-- What is told under one registration follows on: from the first to the next.
use Rattle.std.proofs.Common.{◌≡◌, inl, inr, ℕ, Bool, true, false, Option, Some, None, List}
use Rattle.std.proofs.Common.{[], ◌∷◌, ◌++◌, refl, ap, sym, subst, ◌∙◌, ◌≤◌, ◌+◌, ◌*◌, arith}
use Rattle.coap_types.specs.Past.{Ever}
use Rattle.coap_layer.specs.Trace as L
use Rattle.coap_observe.specs.Observers.{Observer, registration}
use Rattle.coap_resource.specs.Content.{Held}
use Rattle.coap_resource.specs.Serves.{Question, Reply}
use Rattle.coap_resource.specs.Limits.{Limits}
use Rattle.coap_exchange.specs.declared.answerer.Asked.{Asked}
use Rattle.coap_exchange.specs.declared.answerer.Due.TheVariants as due
use Rattle.coap_exchange.specs.AnswererTrace as E
use Rattle.coap_exchange.specs.AnswererSteps.{is_waited_for}
use Rattle.coap_server.specs.Trace.{Own, Serves, Notifies, Call}
use Rattle.coap_server.specs.Trace.{Feeds, Ticks}
use Rattle.coap_server.specs.Observers.{registers}
use Rattle.coap_server.specs.Notifying.{marked}
use Rattle.coap_server.specs.Handling.{incoming, ticking, heard}
use Rattle.coap_server.specs.Steps.{exchanges_after}
use Rattle.coap_server.specs.Law.{ServerLaw, own_of}
use Rattle.coap_server.specs.Follows.Tells.{FollowsOn, HearsAck, InCon, InNon, InReply, Telling, Way, telling}
use Rattle.coap_server.specs.Follows.Tells.{Follows, telling_of, tells, tells_if, way_of}
use Rattle.coap_server_laws.proofs.Observing.LivesOn.{Lives, LivesAt}
use Rattle.coap_server.proofs.Facts.Observing.StoreSteps.{are_low, clocks_rise, store_timed}
use Rattle.coap_server_laws.proofs.Observing.ToldAt.{told_at}
use Rattle.coap_server.specs.Plain.{by_plain}
use Rattle.coap_server.proofs.Facts.Holding.Holds.{limits_are}
use Rattle.coap_resource.proofs.Facts.Since.{rises_little}
use Rattle.coap_types.specs.declared.transmission.TheConstants.{MAX_LATENCY_MS as max_latency}
use Rattle.coap_layer.specs.declared.setup.Setup.{Setup}
use Rattle.coap_server_laws.proofs.Observing.ConsAreAcknowledged.{later, not_flying}
use Rattle.coap_server.proofs.Facts.Serving.Brought.{server_back}
use Rattle.coap_server_laws.proofs.Observing.Flights.{FlightOf, readies_later}
use Rattle.coap_server_laws.proofs.Observing.VersionsRise.{At, heard_ticked, steps}
use Rattle.coap_server_laws.proofs.Observing.TellsBegin.{Told, asks, begins_at, free, one, stage, told_here}

module _ (limits : Limits) (szx : ℕ) (setup : Setup) where
  abbrev own : List Call → Own
  own t = own_of limits szx t

  -- the later of the two
  module _ (t after : List Call) (x y : Telling) (lives : At x limits szx setup t after) (to : y.to ≡ x.to)
      (token : y.token ≡ x.token) (before : x.at ≤ (own t).clock) where
    next : (now w : ℕ) (below : L.Answer) (room : Bool) (passed id : ℕ) (answer : Bool) (o : Observer) (reply : Reply)
        → ServerLaw limits szx setup (Ticks now w below room due.Idle passed (Notifies o reply) id answer ∷ t)
        → telling (own t) (Ticks now w below room due.Idle passed (Notifies o reply) id answer) ≡ Some y
        → FollowsOn limits.changes after x y
    next now w below room passed id answer o reply law h =
        by (s.store.holds o.path) refl h (heard_ticked x limits szx setup t after now w below room passed id answer
        due.Idle lives)
      where
        s : Own
        s = stage limits szx setup t now w below room passed id answer o reply

        told : Told limits szx setup t s o
        told = told_here limits szx setup t now w below room passed id answer o reply law

        way : Way
        way = way_of (by_plain s o) id

        grounded : (way : Way) (n : ℕ) → way ≡ InCon n → o.to ≡ x.to → FlightOf x way s.exchanges.separate after
            → Ever (HearsAck x.to n) after
        grounded InReply n e there f = absurd (cc e)
        grounded InNon n e there f = absurd (cc e)
        grounded (InCon m) n e there (inr k) = let same : m
            ≡ n = cc e in subst (λ z. Ever (HearsAck x.to z) after) same k
        grounded (InCon m) n e there (inl f) =
            let cs : List E.Call = asks limits szx setup t now w below room passed id answer o reply in
            let idle = ap (λ z. is_waited_for z (exchanges_after s.exchanges cs).separate) (sym there)
            ∙ free limits szx setup t now w below room passed id answer o reply law in
            absurd (not_flying x.to m x.token (exchanges_after s.exchanges cs).separate idle
            (later x.to m x.token s.exchanges cs (readies_later x m s.clock passed (marked s.observers)) f))

        past_law : ServerLaw limits szx setup t
        past_law = server_back limits szx setup
            (Ticks now w below room due.Idle passed (Notifies o reply) id answer) t law

        -- within the window of its making and the next one the store made no more versions than two windows take
        near_by : (a : LivesAt x (FlightOf x x.way s.exchanges.separate after) s.store s.observers) (held : Held)
            → s.store.holds o.path ≡ Some held → x.way ≡ InNon → s.clock ≤ x.at + max_latency
            → held.version ≤ x.version + 2 * limits.changes
        near_by a held is w soon =
            let f = a.young w in
            let young = f.young in
            let timed = store_timed limits szx setup t past_law in
            let most = rises_little x.version f.made s.store.tally f.since (omega (arith, timed, soon, young)) in
            let size = ap (λ (z : Limits). z.changes) (limits_are limits szx t past_law.rows) in
            let low = are_low limits szx setup t past_law o.path held is in
            omega (arith, most, size, low)

        by : (held : Option Held) → s.store.holds o.path ≡ held
            → tells o.to o.token o.path way s.clock false held ≡ Some y
            → Lives x (FlightOf x x.way s.exchanges.separate after) s.store s.observers
            → FollowsOn limits.changes after x y
        by None is k l = absurd (cc k)
        by (Some held) is k l =
            let same : telling_of o.to o.token o.path way s.clock false held ≡ y = one _ y k in
            let there : o.to ≡ x.to = ap (λ (z : Telling). z.to) same ∙ to in
            let mine : o.token ≡ x.token = ap (λ (z : Telling). z.token) same ∙ token in
            let found : registration x.to x.token s.observers
            ≡ Some o = ap (λ z. registration z x.token s.observers) (sym there)
            ∙ (ap (λ z. registration o.to z s.observers) (sym mine) ∙ told.is) in
            elim l [
              | inl n ↦ absurd (cc (n, found))
              | inr a ↦ (
                  let entry : a.entry ≡ o = (let i = a.is in cc (i, found)) in
                  let path : o.path ≡ x.path = ap (λ (z : Observer). z.path) (sym entry) ∙ a.path in
                  let marked_is = ap (λ (z : Observer). z.marked) entry ∙ told.marked_is in
                  let at_path = ap s.store.holds (sym path) ∙ is in
                  subst (FollowsOn limits.changes after x) same
                  (record {
                    path = path;
                    version = a.fresh marked_is held at_path;
                    later = omega (arith, before);
                    acknowledged = λ n e. grounded x.way n e there a.flies;
                    near = λ w soon. near_by a held is w soon;
                  })
                  )
            ]

    not_held : y.registers ≡ false → (a : Asked) (q : Question) (way : Way) (at : ℕ) (o : Option Held)
        → tells a.from a.token q.path way at true o ≡ Some y → ⊥
    not_held first a q way at None e = cc e
    not_held first a q way at (Some held) e =
        let same : telling_of a.from a.token q.path way at true held ≡ y = cc e in
        let z : true ≡ false = ap (λ (k : Telling). k.registers) same ∙ first in
        cc z

    not_first : y.registers ≡ false → (b : Bool) (s : Own) (a : Asked) (q : Question) (way : Way)
        → tells_if b s.clock s.store a q way ≡ Some y → ⊥
    not_first first true s a q way e = not_held first a q way s.clock (s.store.holds q.path) e
    not_first first false s a q way e = cc e

    follows_at : (d : Call) → ServerLaw limits szx setup (d ∷ t) → telling (own t) d ≡ Some y → y.registers ≡ false
        → FollowsOn limits.changes after x y
    follows_at (Ticks now w below room due.Idle passed (Notifies o reply) id answer) law h first =
        next now w below room passed id answer o reply law h
    follows_at (Feeds now from bytes w up (Some p) (Serves q reply left) below) law h first =
        let s : Own = heard (own t) now (incoming (own t) now from bytes up (Some p)) in absurd
        (not_first first (registers p.0 q reply s.observers) s p.0 q InReply h)
    follows_at (Ticks now w below room (due.Ready a) passed (Serves q reply left) id answer) law h first =
        let s : Own = heard (own t) now (ticking (own t) now below room (due.Ready a)) in absurd
        (not_first first (registers a q reply s.observers) s a q (InCon id) h)
    follows_at _ law e first = absurd (cc e)

  behind_back : (after base : List Call) → ServerLaw limits szx setup (after ++ base) → ServerLaw limits szx setup base
  behind_back [] base law = law
  behind_back (c ∷ after) base law = behind_back after base (server_back limits szx setup c (after ++ base) law)

  pub follows : (t : List Call) → ServerLaw limits szx setup t → Follows limits szx t
  follows t law after older c d x y split is next_is later to token none =
      let here : ServerLaw limits szx setup (d ∷ (after ++ c ∷ older)) = subst (ServerLaw limits szx setup) split law in
      let past = server_back limits szx setup d (after ++ c ∷ older) here in
      let first = begins_at limits szx setup older x c (behind_back after (c ∷ older) past) is in
      let at = told_at limits szx older c x is in
      let more = clocks_rise limits szx after (c ∷ older) in
      follows_at (after ++ c ∷ older) after x y (steps x limits szx setup after (c ∷ older) past none first) to token
      (omega (arith, at, more)) d here next_is later

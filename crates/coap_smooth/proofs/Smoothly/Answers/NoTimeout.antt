-- In a smooth run in which nothing is observed no exchange ends by a Timeout: its request was acknowledged within 2,000
-- ms.
use Rattle.std.proofs.Common.{◌≡◌, ◌≢◌, ◌⊎◌, inl, inr, ⊎_elim, ◌<◌, ℕ, max, Bool, Some, List, []}
use Rattle.std.proofs.Common.{◌∷◌, ◌++◌, refl, ap, sym, subst, ◌∙◌, arith, Result}
use Rattle.coap_types.specs.Past.{Ever, Always}
use Rattle.coap_types.specs.declared.endpoint.Endpoint.{Endpoint}
use Rattle.coap_layer.specs.Machine.State.{State, start, made, tick_of, moment}
use Rattle.coap_layer.specs.Machine.Steps.{Steps, left_after}
use Rattle.coap_layer.specs.Sends.{as_begun, IsOpen}
use Rattle.coap_layer.specs.Trace as L
use Rattle.coap_layer.specs.Words.{Open, outstanding}
use Rattle.coap_layer.specs.declared.setup.Setup.{Setup}
use Rattle.coap_block.specs.Sizes.{Sizes}
use Rattle.coap_exchange.specs.AskerLaw as X
use Rattle.coap_exchange.specs.AskerSteps as P
use Rattle.coap_exchange.specs.AskerTrace as E
use Rattle.coap_exchange.specs.declared.asker.AskRefusal.{AskRefusal}
use Rattle.coap_exchange.specs.declared.asker.Event.TheVariants as event_is
use Rattle.coap_exchange.specs.declared.asker.Turn.TheVariants as turn_is
use Rattle.coap_exchange.proofs.Facts.Verdicts.{TurnFits, turn_fits}
use Rattle.coap_client.specs.Deeds.{close, deeds, effect}
use Rattle.coap_client_laws.specs.Follows.Adds.{all_asked}
use Rattle.coap_client_laws.specs.Follows.Clock.{moment_of}
use Rattle.coap_client_laws.specs.Follows.Ends.{ends_as}
use Rattle.coap_client_laws.specs.Follows.Open.{AllEndInTime}
use Rattle.coap_client.specs.Sendings.{Sending, sends}
use Rattle.coap_client.specs.Law.{ClientLaw, own_of, lower_of, layer_of}
use Rattle.coap_client.specs.Trace as C
use Rattle.coap_client.specs.Trace.{Timeout}
use Rattle.coap_client_laws.proofs.Facts.Laws as client_facts
use Rattle.coap_client_laws.proofs.Facts.Laws.{clock_is}
use Rattle.coap_server.specs.Trace as S
use Rattle.coap_record.specs.Events.{Config}
use Rattle.coap_promise.specs.Hops.{client_asks, client_asked}
use Rattle.coap_record.specs.Record.{Turn, entries_of, client_of}
use Rattle.coap_smooth.specs.Smooth.{TakesNoObservation}
use Rattle.coap_promise.proofs.Facts.Delivery.ClientInTime as client
use Rattle.coap_promise.proofs.Facts.Delivery.ClientTurns.{all_at as client_at, turn_calls as client_turn_calls}
use Rattle.coap_promise.proofs.Facts.Delivery.EntriesInTime.{Every}
use Rattle.coap_promise.proofs.Facts.Delivery.HopsAreEntries.{client_asked_next, near_is}
use Rattle.coap_promise.proofs.Facts.Delivery.OneEndATurn.{ClientTurn, ServerTurn}
use Rattle.coap_record.proofs.Facts.CallsOfEnds.{client_client, client_server}
use Rattle.coap_promise.proofs.Facts.Delivery.ServerTurns.{turn_calls as server_turn_calls}
use Rattle.coap_smooth.proofs.Smoothly.Arriving.AllTaken.{Goes, goes_before}
use Rattle.coap_smooth.proofs.Smoothly.Requests.AtOnce.{Laws, con_is_over}
use Rattle.coap_smooth.proofs.Smoothly.Answers.ConsOfOpen.{calls_before}
use Rattle.coap_smooth.proofs.Smoothly.Answers.EndsByTime.{at_input, open_at_end}
use Rattle.coap_smooth.proofs.Smoothly.Answers.ExchangeOpen.{OpenOf, open_of, open_since, open_kept, runs_of, Lonely}
use Rattle.coap_smooth.proofs.Smoothly.Answers.ExchangeOpen.{Waited}
use Rattle.coap_smooth.proofs.Smoothly.Answers.ExchangeOpen.{lonely}
use Rattle.coap_smooth.proofs.Smoothly.Arriving.FewArrive.{last_answer}
use Rattle.coap_smooth.proofs.Smoothly.Arriving.OthersTakeNone.{Behind, client_ticks}
use Rattle.coap_smooth.proofs.Smoothly.Requests.RequestOpen.{has_con, alone_now, still_open}
use Rattle.coap_smooth.proofs.Smoothly.Ticks.NothingIsLeft.{turned, side_of}

module _ (config : Config) where
  abbrev Law : List C.Call → Type 0
  Law t = ClientLaw config.addresses.server config.client_sizes config.client_setup t

  abbrev layer : List C.Call → List L.Entry
  layer t = layer_of config.addresses.server config.client_sizes config.client_setup t

  abbrev OpenAt : ℕ → Sending → List C.Call → Type 0
  OpenAt at x t = OpenOf config.addresses.server config.client_sizes config.client_setup at x t

  abbrev NoTimeout : List C.Call → C.Call → Type 0
  NoTimeout past c = ends_as c ≢ Some Timeout

  -- a Timeout is of a CON that is outstanding
  none_expires : (t : List C.Call) (now w : ℕ) (below : L.Answer) (sent : L.Answer) (token : Result (List ℕ) AskRefusal)
      (kept answer : Bool)
      → Law (C.Ticks now w below (turn_is.End event_is.Timeout) sent token kept answer ∷ t)
      → outstanding (layer t) ≡ [] → ⊥
  none_expires t now w below sent token kept answer law none =
      let c : C.Call = C.Ticks now w below (turn_is.End event_is.Timeout) sent token kept answer in
      let m : ℕ = max (own_of config.client_sizes t).clock now in
      let f = effect (own_of config.client_sizes t) c in
      let input : E.Call = E.Ticks m below (turn_is.End event_is.Timeout) in
      let s : E.Own = X.own_of config.addresses.server config.client_setup (lower_of config.client_sizes t) in
      let right = at_input (λ p d. P.IsRight (X.own_of config.addresses.server config.client_setup p) d)
      (deeds (close m f token).deed (close m f token).own m w sent token kept)
      (deeds f.deed f.own m w sent token kept) input (lower_of config.client_sizes t) law.exchanges.rows in
      let fits : TurnFits s (max s.clock m) below (turn_is.End event_is.Timeout) =
      subst (TurnFits s (max s.clock m) below) (sym right.0) (turn_fits s (max s.clock m) below) in
      let b : Behind L.Ticks below (client_asks config t c) =
      client_ticks config t now w below (turn_is.End event_is.Timeout) sent token kept answer in
      let first : State = left_after (start config.client_setup) (client_asked config t) in
      let answered : (made first b.now L.Ticks).answer ≡ below =
      last_answer (start config.client_setup) (client_asks config t c) (client_asked config t) law.exchanges.left
      (subst (λ a. Steps (start config.client_setup) a law.exchanges.left) (client_asked_next config t c)
      law.exchanges.layer) L.Ticks below b in
      let quiet : first.open_cons ≡ [] =
      open_kept config.client_setup (all_asked config.addresses.server config.client_sizes config.client_setup t)
      ∙ none in
      let idle : L.Idle ≡ L.Expired fits.0 fits.1 =
      sym (ap (tick_of (moment first b.now L.Ticks)) quiet) ∙ (answered ∙ fits.2) in
      cc idle

  module _ (laws : Laws) (turn : Turn) (past : List Turn) (g : Goes config (turn ∷ past))
      (none : Always (λ p c. TakesNoObservation c) (client_of (entries_of past))) where
    abbrev old : List C.Call
    old = client_of (entries_of past)

    law_old : Law old
    law_old = (goes_before config turn past g).stands.client

    -- what is open since long was so before the turn, and what is outstanding was so
    record Before (at : ℕ) (x : Sending) (t : List C.Call) : Type 0 where
      is_open : OpenAt at x old
      stays : (y : Open) → IsOpen (layer t) y → IsOpen (layer old) y

    open_before : (at : ℕ) (x : Sending) (cs : List C.Call) → Law (cs ++ old) → client.IsBy config turn.event.at old
        → Every (client.IsAt turn.event.at) cs → at < turn.event.at → OpenAt at x (cs ++ old)
        → client.IsBy config turn.event.at (cs ++ old) × Before at x (cs ++ old)
    open_before at x [] law by at_t early o = (by, record { is_open = o; stays = λ y h. h })
    open_before at x (c ∷ cs) law by at_t early (inr o) =
        let before = client_facts.back config.addresses.server config.client_sizes config.client_setup (c ∷ [])
        (cs ++ old) law in
        let k = open_before at x cs before by at_t.1 early o.3 in (
          client.next_by config turn.event.at (cs ++ old) c k.0 at_t.0,
          record {
            is_open = k.1.is_open;
            stays = λ y h. k.1.stays y
                (still_open config.addresses.server config.client_sizes config.client_setup c (cs ++ old) law o.0 y h);
          },
        )
    open_before at x (c ∷ cs) law by at_t early (inl o) = absurd (began c (cs ++ old) at_t.0 o)
      where
        began : (d : C.Call) (t : List C.Call) → client.IsAt turn.event.at d
            → (sends (own_of config.client_sizes t) d ≡ Some x) × (moment_of (own_of config.client_sizes t) d ≡ at) → ⊥
        began (C.Feeds now from bytes w up settled event sent token kept) t is b =
            let m = b.1 in omega (arith, is, m, early)
        began (C.Ticks now w below turn sent token kept answer) t is b =
            let m = b.1 in omega (arith, is, m, early)
        began _ t is b = absurd (cc (b.0))

    -- one call of the turn
    here : (c : C.Call) (cs : List C.Call) → Law (c ∷ (cs ++ old)) → client.IsBy config turn.event.at old
        → Every (client.IsAt turn.event.at) (c ∷ cs) → AllEndInTime config.client_sizes (c ∷ (cs ++ old))
        → NoTimeout (cs ++ old) c
    here (C.Ticks now w below (turn_is.End event_is.Timeout) sent token kept answer) cs law by at_t in_time is =
        let c : C.Call = C.Ticks now w below (turn_is.End event_is.Timeout) sent token kept answer in
        let t : List C.Call = cs ++ old in
        let before : Law t = client_facts.back config.addresses.server config.client_sizes config.client_setup (c ∷ [])
        t law in
        let k = open_at_end config.addresses.server config.client_sizes config.client_setup t c law Timeout is
        (inl refl) in
        let at : ℕ = k.0 in
        let late = (in_time.0 at k.1).timeout is in
        let o = open_of config.addresses.server config.client_sizes config.client_setup at t before k.1 in
        let x : Sending = o.0 in
        let by_then = all_by cs at_t.1 in
        let now_is = at_t.0 in
        let clock = by_then.own in
        let b = open_before at x cs before by at_t.1 (omega (arith, late, now_is, clock)) o.1 in
        let h = has_con config.addresses.server config.client_sizes config.client_setup at x old law_old b.1.is_open in
        let r = runs_of config.addresses.server config.client_sizes config.client_setup at x t before o.1 in
        ⊎_elim
        (λ (l : Lonely config.addresses.server config.client_sizes config.client_setup at x r.exchange t).
        (let stays : IsOpen (layer t) (as_begun l.con) =
        subst (Ever (λ z. as_begun z ≡ as_begun l.con)) (sym l.only) (inl refl) in
        let stayed = b.1.stays (as_begun l.con) stays in
        let same = alone_now config.addresses.server config.client_sizes config.client_setup h.con at x old b.1.is_open
        h.alone
        (as_begun l.con) stayed in
        con_is_over config laws turn past g none at
        (open_since config.addresses.server config.client_sizes config.client_setup at x old b.1.is_open)
        (omega (arith, late, now_is, clock)) x b.1.is_open h
        (subst (λ z. IsOpen z h.con) (sym (near_is config (entries_of past)))
        (subst (IsOpen (layer old)) same stayed))))
        (λ (l : Waited config.addresses.server config.client_sizes config.client_setup r.exchange t).
        none_expires t now w below sent token kept answer law l.none)
        (lonely config.addresses.server config.client_sizes config.client_setup at x t before r)
      where
        all_by : (ds : List C.Call) → Every (client.IsAt turn.event.at) ds
            → client.IsBy config turn.event.at (ds ++ old)
        all_by [] h = by
        all_by (d ∷ ds) h = client.next_by config turn.event.at (ds ++ old) d (all_by ds h.1) h.0
    here (C.Feeds now from bytes w up settled (Some event_is.Reset) sent token kept) cs law by at_t in_time is = cc is
    here _ cs law by at_t in_time is = cc is

    in_turn : (cs : List C.Call) → Law (cs ++ old) → client.IsBy config turn.event.at old
        → Every (client.IsAt turn.event.at) cs → AllEndInTime config.client_sizes (cs ++ old) → Always NoTimeout old
        → Always NoTimeout (cs ++ old)
    in_turn [] law by at_t in_time older = older
    in_turn (c ∷ cs) law by at_t in_time older = (
      here c cs law by at_t in_time,
      in_turn cs (client_facts.back config.addresses.server config.client_sizes config.client_setup (c ∷ []) (cs ++ old)
          law) by at_t.1
          in_time.1 older,
    )

    pub in_this_turn : AllEndInTime config.client_sizes (client_of (entries_of (turn ∷ past))) → Always NoTimeout old
        → Always NoTimeout (client_of (entries_of (turn ∷ past)))
    in_this_turn in_time older = by (side_of config turn past g.stands)
      where
        by : ClientTurn turn.event.at turn.entries ⊎ ServerTurn turn.event.at turn.entries
            → Always NoTimeout (client_of (turn.entries ++ entries_of past))
        by (inr on) =
            let cs : List S.Call = server_turn_calls on.on.outs on.calls in
            let is : client_of (turn.entries ++ entries_of past) ≡ client_of (entries_of past) =
            ap (λ z. client_of (z ++ entries_of past)) on.on.is ∙ client_server cs (entries_of past) in
            subst (Always NoTimeout) (sym is) older
        by (inl on) =
            let cs : List C.Call = client_turn_calls on.on.outs on.on.reports on.calls in
            let is : client_of (turn.entries ++ entries_of past) ≡ cs ++ client_of (entries_of past) =
            ap (λ z. client_of (z ++ entries_of past)) on.on.is ∙ client_client cs (entries_of past) in
            subst (Always NoTimeout) (sym is)
            (in_turn cs (subst Law is g.stands.client) (turned config turn past g.stands).still.client
            (client_at turn.event.at on.on.outs on.on.reports on.calls on.at)
            (subst (AllEndInTime config.client_sizes) is in_time) older)

  pub no_timeouts : (laws : Laws)
      → ((server : Endpoint) (sizes : Sizes) (setup : Setup) (t : List C.Call) → ClientLaw server sizes setup t
      → AllEndInTime sizes t)
      → (turns : List Turn) → Goes config turns → Always (λ p c. TakesNoObservation c) (client_of (entries_of turns))
      → Always NoTimeout (client_of (entries_of turns))
  no_timeouts laws in_time [] g none = tt
  no_timeouts laws in_time (turn ∷ past) g none =
      let before_it = calls_before _ turn.entries (entries_of past) none in
      in_this_turn laws turn past g before_it
      (in_time config.addresses.server config.client_sizes config.client_setup (client_of (entries_of (turn ∷ past)))
      g.stands.client)
      (no_timeouts laws in_time past (goes_before config turn past g) before_it)

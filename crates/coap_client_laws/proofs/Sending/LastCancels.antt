-- Whether the exchange that runs is of a cancel: as the request that was sent last.
use Rattle.std.proofs.Common.{◌≡◌, ℕ, max, Bool, true, false, Option, Some, None, is_some, List, [], ◌∷◌, ◌++◌, refl}
use Rattle.std.proofs.Common.{ap, sym, ◌∙◌, Result, Ok, Err}
use Rattle.std.proofs.lemmas.List.{append_assoc}
use Rattle.coap_types.specs.declared.endpoint.Endpoint.{Endpoint}
use Rattle.coap_layer.specs.Trace as L
use Rattle.coap_layer.specs.declared.setup.Setup.{Setup}
use Rattle.coap_block.specs.Sizes.{Sizes}
use Rattle.coap_exchange.specs.declared.asker.AskRefusal.{AskRefusal}
use Rattle.coap_exchange.specs.declared.asker.Exchange.{Exchange}
use Rattle.coap_exchange.specs.declared.asker.Turn.{Turn}
use Rattle.coap_exchange.specs.declared.asker.Turn.TheVariants as turn_is
use Rattle.coap_exchange.specs.declared.matching.Verdict.{Verdict}
use Rattle.coap_exchange.specs.declared.matching.Verdict.TheVariants.{AnswerCon, Answer, Await, EndByReset}
use Rattle.coap_exchange.specs.AskerArrivals.{running_after, running_unless, verdict_on}
use Rattle.coap_exchange.specs.AskerRequests.{request_token}
use Rattle.coap_exchange.specs.AskerTrace as E
use Rattle.coap_exchange.specs.AskerLaw as X
use Rattle.coap_exchange.proofs.Facts.Moves as move
use Rattle.coap_client.specs.Trace.{NoIds, Call, Calls, Observes, Cancels, Forgets, Feeds, Ticks, NextOut, NextReport}
use Rattle.coap_client.specs.Trace.{Asked}
use Rattle.coap_client.specs.Own.{Transfer, Operation, Cancelling, Observation, Own}
use Rattle.coap_client.specs.Observations.{observation_of}
use Rattle.coap_client.specs.Observing.{releases}
use Rattle.coap_client.specs.Effects.{Deed, Rests, Asks, Effect, has_sent}
use Rattle.coap_client.specs.Events.{failed, happened, passes, closed}
use Rattle.coap_client.specs.Deeds.{at, deeds}
use Rattle.coap_client.specs.Law.{own_of, lower_of}
use Rattle.coap_client.specs.Sendings.{Sending, sent_by, last_sent}
use Rattle.coap_client.proofs.Facts.Turning.Moves.{releases_none}

-- what fails or is forgotten asks for no request

pub failed_quiet : (u : Transfer → Bool) (s : Own) (running : Option Operation) (op : Operation)
    → (failed u NoIds s running).deed ≡ Asks op → ⊥
failed_quiet u s (Some (Cancelling k)) op h = releases_none (observation_of k s.observations) op h
failed_quiet u s _ op h = cc h

-- the request that was asked for last is a cancel
abbrev pub last_cancels : List E.Call → Bool
last_cancels [] = false
last_cancels (E.Ask now r w below (Ok token) ∷ past) = is_some r.token
last_cancels (c ∷ past) = last_cancels past

abbrev CancelsAs : Option Exchange → Exchange → Type 0
CancelsAs before x = (y : Exchange) × (before ≡ Some y) × (x.cancel ≡ y.cancel)

-- what runs behind a call is what ran
received_as : (at : ℕ) (v : Verdict) (before : Option Exchange) (x : Exchange) → running_after at v before ≡ Some x
    → CancelsAs before x
received_as at AnswerCon before x h = absurd (cc h)
received_as at Answer before x h = absurd (cc h)
received_as at EndByReset before x h = absurd (cc h)
received_as at Await None x h = absurd (cc h)
received_as at Await (Some y) x h =
    let e : ◌≡◌ {A = Exchange} (record y { acked = Some (record { 0 = at }) }) x = cc h in
    (y, refl, sym (ap (λ (z : Exchange). z.cancel) e))
received_as at _ before x h = (x, h, refl)

ticked_as : (turn : Turn) (before : Option Exchange) (x : Exchange) → running_unless turn before ≡ Some x
    → before ≡ Some x
ticked_as (turn_is.End e) before x h = absurd (cc h)
ticked_as _ before x h = h

module _ (server : Endpoint) (setup : Setup) where
  pub cancels_last : (t : List E.Call) → X.AskerLaw server setup t → (x : Exchange)
      → (X.own_of server setup t).running ≡ Some x → x.cancel ≡ last_cancels t
  cancels_last [] law x runs = absurd (cc runs)
  cancels_last (E.Ask now r w below (Ok token) ∷ t) law x runs =
      by (move.ask_row (X.own_of server setup t) r below (Ok token) law.0)
    where
      by : move.AskRow (X.own_of server setup t) r below (Ok token) → x.cancel ≡ is_some r.token
      by (move.refused why is none) = absurd (cc is)
      by (move.sent id is some opens sent_id) =
          let e = sym (ap (λ (o : E.Own). o.running) (move.opened_some (X.own_of server setup t) r below id some))
          ∙ runs in
          let same : ◌≡◌ {A = Exchange} (record {
            token = request_token (X.own_of server setup t) r;
            id = record { 0 = id };
            acked = None;
            cancel = is_some r.token;
          }) x = cc e in
          sym (ap (λ (z : Exchange). z.cancel) same)
  cancels_last (E.Ask now r w below (Err why) ∷ t) law x runs =
      cancels_last t law.1 x (by (move.ask_row (X.own_of server setup t) r below (Err why) law.0))
    where
      by : move.AskRow (X.own_of server setup t) r below (Err why) → (X.own_of server setup t).running ≡ Some x
      by (move.refused e is none) =
          sym (ap (λ (o : E.Own). o.running) (move.opened_none (X.own_of server setup t) r below none)) ∙ runs
      by (move.sent id is some opens sent_id) = absurd (cc is)
  cancels_last (E.Receive now from bytes up settled answer ∷ t) law x runs =
      let s : E.Own = X.own_of server setup t in
      let k = received_as (max s.clock now) (verdict_on s from up) s.running x runs in
      k.2 ∙ cancels_last t law.1 k.0 k.1
  cancels_last (E.Ticks now below answer ∷ t) law x runs =
      cancels_last t law.1 x (ticked_as answer (X.own_of server setup t).running x runs)
  cancels_last (_ ∷ t) law x runs = cancels_last t law.1 x runs

-- what asks for no request leaves it
quiet_cancels : (d : Deed) (o : Own) (m w : ℕ) (sent : L.Answer) (token : Result (List ℕ) AskRefusal) (kept : Bool)
    (past : List E.Call) → ((op : Operation) → d ≡ Asks op → ⊥)
    → last_cancels (deeds d o m w sent token kept ++ past) ≡ last_cancels past
quiet_cancels (Asks op) o m w sent token kept past f = absurd (f op refl)
quiet_cancels _ o m w sent token kept past f = refl

module _ (e : Effect) (m w : ℕ) (sent : L.Answer) (kept : Bool) (input : E.Call) (past : List E.Call) where
  abbrev cancels_by : Option Sending → Bool
  cancels_by (Some x) = is_some x.request.token
  cancels_by None = last_cancels (input ∷ past)

  abbrev behind : Deed → Result (List ℕ) AskRefusal → List E.Call
  behind d token = (deeds (closed m e d token).deed (closed m e d token).own m w sent token kept
      ++ (deeds d e.own m w sent token kept ++ input ∷ [])) ++ past

  done_cancels : (d : Deed) (token : Result (List ℕ) AskRefusal) → e.deed ≡ d
      → last_cancels (behind d token) ≡ cancels_by (sent_by e d token)
  done_cancels Rests token is =
      ap last_cancels (append_assoc (deeds e.deed e.own m w sent token kept) (input ∷ []) past)
      ∙ quiet_cancels e.deed e.own m w sent token kept (input ∷ past) (λ op h. cc (h, is))
  done_cancels (Asks op) (Err why) is =
      let c : Effect = closed m e (Asks op) (Err why) in
      let own : List E.Call = deeds (Asks op) e.own m w sent (Err why) kept ++ input ∷ [] in
      ap last_cancels (append_assoc (deeds c.deed c.own m w sent (Err why) kept) own past)
      ∙ quiet_cancels c.deed c.own m w sent (Err why) kept (own ++ past) (failed_quiet has_sent e.own (Some op))
  done_cancels _ _ is = refl

  by_sending : (o : Option Sending) (z : Sending) (before : Option Sending)
      → elim o [ Some x ↦ Some x | None ↦ before ] ≡ Some z
      → (before ≡ Some z → last_cancels (input ∷ past) ≡ is_some z.request.token)
      → cancels_by o ≡ is_some z.request.token
  by_sending (Some x) z before h f =
      let same : x ≡ z = cc h in ap (λ (y : Sending). is_some y.request.token) same
  by_sending None z before h f = f h

module _ (sizes : Sizes) where
  -- .. and that is as the request that was sent last
  pub cancels_sent : (t : List Call) (z : Sending) → last_sent sizes t ≡ Some z
      → last_cancels (lower_of sizes t) ≡ is_some z.request.token
  cancels_sent [] z h = absurd (cc h)
  cancels_sent (Forgets number kept true ∷ t) z h =
      let o = observation_of number (own_of sizes t).observations in
      quiet_cancels (releases o) (own_of sizes t) 0 0 L.Nothing (Ok []) kept (lower_of sizes t) (releases_none o)
      ∙ cancels_sent t z h
  cancels_sent (Feeds now from bytes w up settled event sent token kept ∷ t) z h =
      let m : ℕ = max (own_of sizes t).clock now in
      let e : Effect = happened (at now (own_of sizes t)) m event in
      let input : E.Call = E.Receive m from bytes up settled event in
      done_cancels e m w sent kept input (lower_of sizes t) e.deed token refl
      ∙ by_sending e m w sent kept input (lower_of sizes t) (sent_by e e.deed token) z (last_sent sizes t) h
      (cancels_sent t z)
  cancels_sent (Ticks now w below turn sent token kept answer ∷ t) z h =
      let m : ℕ = max (own_of sizes t).clock now in
      let e : Effect = passes (at now (own_of sizes t)) m turn in
      let input : E.Call = E.Ticks m below turn in
      done_cancels e m w sent kept input (lower_of sizes t) e.deed token refl
      ∙ by_sending e m w sent kept input (lower_of sizes t) (sent_by e e.deed token) z (last_sent sizes t) h
      (cancels_sent t z)
  cancels_sent (_ ∷ t) z h = cancels_sent t z h

pub exchange_cancels : (server : Endpoint) (sizes : Sizes) (setup : Setup) (t : List Call)
    → X.AskerLaw server setup (lower_of sizes t) → (x : Exchange)
    → (X.own_of server setup (lower_of sizes t)).running ≡ Some x → (z : Sending) → last_sent sizes t ≡ Some z
    → x.cancel ≡ is_some z.request.token
exchange_cancels server sizes setup t law x runs z last =
    cancels_last server setup (lower_of sizes t) law x runs ∙ cancels_sent sizes t z last

-- Where each exchange ends by an answer, that of a request that was sent is open, or its answer was heard.
use Rattle.std.proofs.Common.{◌≡◌, ◌⊎◌, inl, inr, ℕ, max, Bool, true, false, not, cond, Option, Some, None, List, []}
use Rattle.std.proofs.Common.{◌∷◌, Result, refl, ap, sym, ◌∙◌}
use Rattle.coap_types.specs.Past.{Ever, Always}
use Rattle.coap_types.specs.declared.endpoint.Endpoint.{Endpoint}
use Rattle.coap_layer.specs.declared.setup.Setup.{Setup}
use Rattle.coap_codec.specs.Message.{Message}
use Rattle.coap_block.specs.Sizes.{Sizes}
use Rattle.coap_exchange.specs.declared.asker.AskRefusal.{AskRefusal}
use Rattle.coap_exchange.specs.declared.asker.Event.{Event}
use Rattle.coap_exchange.specs.declared.asker.Event.TheVariants as event_is
use Rattle.coap_exchange.specs.declared.asker.Turn.{Turn}
use Rattle.coap_exchange.specs.declared.asker.Turn.TheVariants as turn_is
use Rattle.coap_client.specs.Deeds.{at}
use Rattle.coap_client.specs.Effects.{Deed, Asks, Effect, stays}
use Rattle.coap_client.specs.Events.{failed, happened, idle, passes}
use Rattle.coap_client_laws.specs.Follows.Begins.{WasSent}
use Rattle.coap_client_laws.specs.Follows.Clock.{moment_of}
use Rattle.coap_client_laws.specs.Follows.Ends.{ends_as}
use Rattle.coap_client_laws.specs.Follows.Open.{HearsOfOpen}
use Rattle.coap_client_laws.specs.Follows.Order.{HearsBy}
use Rattle.coap_client.specs.Sendings.{Sending, sends, sent_by, hears}
use Rattle.coap_client.specs.Law.{ClientLaw, own_of}
use Rattle.coap_client.specs.Observations.{observation_of, observation_with, to_fetch}
use Rattle.coap_client.specs.Reports.{lapse}
use Rattle.coap_client.specs.Responses.{is_notification, sequence_in}
use Rattle.coap_observe.specs.Newer.{is_newer}
use Rattle.coap_client.specs.Observing.{releases, is_over, renewed, passed, noticed_by}
use Rattle.coap_client.specs.Own.{Operation, Cancelling, Observation, Own, Transfer}
use Rattle.coap_client.specs.Trace as C
use Rattle.coap_client_laws.proofs.Facts.Exchanges.{open_runs}
use Rattle.coap_client_laws.proofs.Facts.Laws.{back}
use Rattle.coap_smooth.proofs.Smoothly.Answers.ExchangeOpen.{OpenOf, open_since, last_of}

-- what asks for no request

abbrev AsksNone : Deed → Type 0
AsksNone (Asks op) = ⊥
AsksNone d = Unit {0}

none_sent : (e : Effect) (d : Deed) (token : Result (List ℕ) AskRefusal) (x : Sending) → AsksNone d
    → sent_by e d token ≡ Some x → ⊥
none_sent e (Asks op) token x none h = none
none_sent e _ token x none h = cc h

of_either : (b : Bool) (x y : Effect) → AsksNone x.deed → AsksNone y.deed → AsksNone (cond b x y).deed
of_either true x y h k = h
of_either false x y h k = k

of_release : (o : Option Observation) → AsksNone (releases o)
of_release None = tt
of_release (Some o) = tt

of_failure : (u : Transfer → Bool) (report : C.Report) (s : Own) (o : Option Operation)
    → AsksNone (failed u report s o).deed
of_failure u report s (Some (Cancelling number)) = of_release (observation_of number s.observations)
of_failure u report s _ = tt

of_notice : (o : Option Observation) (s : Own) (now : ℕ) (m : Message) → AsksNone (noticed_by o s now m).deed
of_notice None s now m = tt
of_notice (Some o) s now m =
    of_either (not (is_notification m)) (is_over o.number (C.Ended m.code) s)
    (cond (is_newer o.watch.mark (sequence_in m) now) (renewed o s now m) (stays (passed o s now m)))
    (of_release (observation_of o.number s.observations))
    (of_either (is_newer o.watch.mark (sequence_in m) now) (renewed o s now m) (stays (passed o s now m)) tt tt)

-- A request is sent where an answer is heard, or where nothing runs.

fails : (s : Own) (report : C.Report) (token : Result (List ℕ) AskRefusal) (x : Sending)
    → sent_by (failed (λ t. true) report s s.running) (failed (λ t. true) report s s.running).deed token ≡ Some x → ⊥
fails s report token x h =
    none_sent (failed (λ t. true) report s s.running) (failed (λ t. true) report s s.running).deed token x
    (of_failure (λ t. true) report s s.running) h

with_event : (s : Own) (now : ℕ) (e : Option Event) (token : Result (List ℕ) AskRefusal) (x : Sending)
    → sent_by (happened s now e) (happened s now e).deed token ≡ Some x → (m : Message) × (e ≡ Some (event_is.Answer m))
with_event s now None token x h = absurd (cc h)
with_event s now (Some (event_is.Answer m)) token x h = (m, refl)
with_event s now (Some (event_is.Notice m)) token x h =
    absurd (none_sent (happened s now (Some (event_is.Notice m))) (happened s now (Some (event_is.Notice m))).deed token
    x
    (of_notice (observation_with m.token s.observations) s now m) h)
with_event s now (Some event_is.Timeout) token x h =
    absurd (fails s (lapse event_is.Timeout) token x h)
with_event s now (Some event_is.Reset) token x h =
    absurd (fails s (lapse event_is.Reset) token x h)
with_event s now (Some event_is.NoResponse) token x h =
    absurd (fails s (lapse event_is.NoResponse) token x h)

with_idle : (s : Own) (now : ℕ) (o : Option Operation) (number : Option ℕ) (token : Result (List ℕ) AskRefusal)
    (x : Sending) → sent_by (idle s now o number) (idle s now o number).deed token ≡ Some x → o ≡ None
with_idle s now None number token x h = refl
with_idle s now (Some op) number token x h = absurd (cc h)

with_turn : (s : Own) (now : ℕ) (t : Turn) (token : Result (List ℕ) AskRefusal) (x : Sending)
    → sent_by (passes s now t) (passes s now t).deed token ≡ Some x → s.running ≡ None
with_turn s now turn_is.Idle token x h = with_idle s now s.running (to_fetch s.observations) token x h
with_turn s now turn_is.Copied token x h = absurd (cc h)
with_turn s now (turn_is.End e) token x h =
    absurd (fails s (lapse e) token x h)

pub sends_where : (s : Own) (c : C.Call) (x : Sending) → sends s c ≡ Some x → hears c ≡ None → s.running ≡ None
sends_where s (C.Feeds now from bytes word up settled e sent token kept) x h none =
    let k = with_event (at now s) (max s.clock now) e token x h in
    let there = ap (λ z. hears (C.Feeds now from bytes word up settled z sent token kept)) k.1 in
    absurd (cc (none, there))
sends_where s (C.Ticks now word below t sent token kept answer) x h none =
    with_turn (at now s) (max s.clock now) t token x h
sends_where s _ x h none = absurd (cc h)

module _ (server : Endpoint) (sizes : Sizes) (setup : Setup) where
  pub record IsOpenOf (x : Sending) (t : List C.Call) : Type 0 where
    pub at : ℕ
    pub is_open : OpenOf server sizes setup at x t

  -- while one is open no other is sent, but where its answer is heard
  none_beside : (t : List C.Call) (c : C.Call) → ClientLaw server sizes setup t → (at : ℕ) (x y : Sending)
      → OpenOf server sizes setup at x t → sends (own_of sizes t) c ≡ Some y → hears c ≡ None → ⊥
  none_beside t c law at x y o is none =
      let r = (open_runs server sizes setup t law).runs at (open_since server sizes setup at x t o) in
      let idle_then = sym r.operates ∙ sends_where (own_of sizes t) c y is none in
      cc idle_then

  heard_token : (t : List C.Call) (c : C.Call) → ClientLaw server sizes setup t → HearsOfOpen server sizes setup (c ∷ t)
      → (at : ℕ) (x : Sending) → OpenOf server sizes setup at x t → (m : Message) → hears c ≡ Some m
      → m.token ≡ x.token
  heard_token t c law of_open at x o m is =
      let k = of_open.0 m is in
      let both : Some k.runs.sending ≡ Some x = sym k.runs.last_sent ∙ last_of server sizes setup at x t o in
      let same : k.runs.sending ≡ x = cc both in
      k.token ∙ k.runs.token ∙ ap (λ (z : Sending). z.token) same

  pub heard_or_open : (t : List C.Call) → ClientLaw server sizes setup t → HearsOfOpen server sizes setup t
      → Always (λ past c. ends_as c ≡ None) t → (x : Sending) → WasSent sizes x t
      → IsOpenOf x t ⊎ Ever (HearsBy x.token) t
  heard_or_open [] law of_open ends x sent = absurd sent
  heard_or_open (c ∷ t) law of_open ends x (inl now) =
      inl (record { at = moment_of (own_of sizes t) c; is_open = inl (now, refl) })
  heard_or_open (c ∷ t) law of_open ends x (inr before) =
      by (heard_or_open t (back server sizes setup (c ∷ []) t law) of_open.1 ends.1 x before)
    where
      still : IsOpenOf x t → (h : Option Message) → hears c ≡ h → (s : Option Sending) → sends (own_of sizes t) c ≡ s
          → IsOpenOf x (c ∷ t) ⊎ Ever (HearsBy x.token) (c ∷ t)
      still k (Some m) is s sends_it =
          inr (inl (m, is, heard_token t c (back server sizes setup (c ∷ []) t law) of_open k.at x k.is_open m is))
      still k None is (Some y) sends_it =
          absurd (none_beside t c (back server sizes setup (c ∷ []) t law) k.at x y k.is_open sends_it is)
      still k None is None sends_it = inl (record { at = k.at; is_open = inr (sends_it, is, ends.0, k.is_open) })

      by : IsOpenOf x t ⊎ Ever (HearsBy x.token) t → IsOpenOf x (c ∷ t) ⊎ Ever (HearsBy x.token) (c ∷ t)
      by (inr heard) = inr (inr heard)
      by (inl k) = still k (hears c) refl (sends (own_of sizes t) c) refl

-- In a smooth run the request of an exchange that is open for more than 2,000 ms has to wait at the server.
use Rattle.std.proofs.Common.{◌≡◌, ◌⊎◌, inl, inr, ⊎_elim, ◌<◌, ℕ, ◌+◌, Some, List, [], ◌∷◌, ◌++◌, map, refl}
use Rattle.std.proofs.Common.{ap, sym, subst, ◌∙◌, arith, append_assoc}
use Rattle.std.proofs.lemmas.List.{map-append}
use Rattle.coap_types.specs.Past.{Ever, Sometime, Always}
use Rattle.coap_types.proofs.Facts.Traces.{Ever_append, Sometime_back}
use Rattle.coap_types.specs.declared.endpoint.Endpoint.{Endpoint}
use Rattle.coap_layer.specs.Channel.{Hop, Far, near_of, OnNear, OnFarThen, RepliesTo, AcksReplied}
use Rattle.coap_layer.specs.OneClock.{ChannelLaw}
use Rattle.coap_layer.specs.Rows.{LayerLaw}
use Rattle.coap_layer.specs.Sends.{IsIn, IsOpen}
use Rattle.coap_layer.specs.Taking.{AllTakeAcks, ArrivesWithin, EndsWithin, RepliedOnce}
use Rattle.coap_layer.specs.Trace as L
use Rattle.coap_layer.specs.Words.{Open, begun}
use Rattle.coap_layer.specs.declared.setup.Setup.{Setup}
use Rattle.coap_block.specs.Sizes.{Sizes}
use Rattle.coap_client_laws.specs.Follows.Begins.{WasSent}
use Rattle.coap_client_laws.specs.Follows.OfObservations.{AreOfObservations}
use Rattle.coap_client_laws.specs.Follows.Open.{IsOpenSince, AnswersAreHeard}
use Rattle.coap_client_laws.specs.Follows.Tokens.{OwnTokens}
use Rattle.coap_client.specs.Sendings.{Sending}
use Rattle.coap_client.specs.Law.{ClientLaw}
use Rattle.coap_client.specs.Trace as C
use Rattle.coap_client_laws.proofs.Facts.Laws as client_facts
use Rattle.coap_resource.specs.Limits.{Limits}
use Rattle.coap_server.specs.Follows.Attended.{AllHandedOn}
use Rattle.coap_server.specs.Law.{ServerLaw}
use Rattle.coap_server.specs.Trace as S
use Rattle.coap_smooth.specs.AtOnce.{WaitsIn, LastWaits, OldWait}
use Rattle.coap_record.specs.Events.{Config}
use Rattle.coap_promise.specs.Hops.{server_adds, hops_at, hops_in, hops_of}
use Rattle.coap_record.specs.Record.{Entry, OfClient, OfServer, Turn, entries_of, client_of, server_trace}
use Rattle.coap_smooth.specs.Smooth.{max_age, TakesNoObservation}
use Rattle.coap_promise.proofs.Facts.Delivery.HopsAreAChannel as joined
use Rattle.coap_promise.proofs.Facts.Delivery.HopsAreEntries.{far_far, near_is, far_is}
use Rattle.coap_promise.proofs.Facts.Requests.Promised.{lawful}
use Rattle.coap_promise.proofs.Facts.Requests.Traced.{sent_later}
use Rattle.coap_smooth.proofs.Smoothly.Arriving.AllTaken.{Beneath, Goes, goes_before, taken_here}
use Rattle.coap_smooth.proofs.Smoothly.Answers.AnswerTaken.{IsAckWith, acked_before, to_calls, ArrivesBehind}
use Rattle.coap_smooth.proofs.Smoothly.Arriving.ArrivesInTime.{arrive_in_time, to_client}
use Rattle.coap_smooth.proofs.Smoothly.Answers.ConsCarry.{request_spelled, is_request, was_message}
use Rattle.coap_smooth.proofs.Smoothly.Requests.DelaysAreShort.{none_set}
use Rattle.coap_smooth.proofs.Smoothly.Answers.ExchangeOpen.{OpenOf, open_of, last_of}
use Rattle.coap_smooth.proofs.Smoothly.Requests.LastWasSent.{was_sent}
use Rattle.coap_smooth.proofs.Smoothly.Answers.OneReply.{one_reply}
use Rattle.coap_smooth.proofs.Smoothly.Arriving.OnTime.{on_time}
use Rattle.coap_smooth.proofs.Smoothly.Requests.PlainRequests.{was_plain}
use Rattle.coap_smooth.proofs.Smoothly.Requests.RequestOpen.{HasCon, has_con}
use Rattle.coap_smooth.proofs.Smoothly.Requests.RequestTaken.{RepliedAt, IsReplied, ComesTo, request_taken}
use Rattle.coap_smooth.proofs.Smoothly.Requests.RequestTaken.{request_acknowledged}
use Rattle.coap_promise.proofs.Facts.Delivery.End.{front, front_is}
use Rattle.coap_smooth.proofs.Smoothly.Ticks.NothingIsLeft.{legal_of, record_of}
use Rattle.coap_smooth.proofs.Smoothly.Requests.WaitsNow.{WaitsNow, waits_now}
use Rattle.coap_smooth.proofs.Smoothly.Arriving.WhereItArrives.{no_near}

-- what the laws beneath say
pub record Laws : Type 0 where
  pub beneath : Beneath
  pub acks : (setup : Setup) (t : List L.Entry) → LayerLaw setup t → AllTakeAcks t
  pub acks_replied : (one other : Setup) (near far : Endpoint) (all : List Hop) → ChannelLaw one other near far all
      → AcksReplied near far all
  pub replied_once : (one other : Setup) (near far : Endpoint) (all : List Hop) → ChannelLaw one other near far all
      → RepliedOnce near all
  pub heard : (server : Endpoint) (sizes : Sizes) (setup : Setup) (t : List C.Call) → ClientLaw server sizes setup t
      → AnswersAreHeard server sizes setup t
  pub own : (server : Endpoint) (sizes : Sizes) (setup : Setup) (t : List C.Call) → ClientLaw server sizes setup t
      → OwnTokens sizes t
  pub observed : (server : Endpoint) (sizes : Sizes) (setup : Setup) (t : List C.Call) → ClientLaw server sizes setup t
      → AreOfObservations sizes t
  pub handed_on : (limits : Limits) (szx : ℕ) (setup : Setup) (t : List S.Call) → ServerLaw limits szx setup t
      → AllHandedOn limits szx setup t

module _ (config : Config) (con : Open) (x : Sending) where
  -- it waits, or is answered somewhere
  record Answered (es : List Entry) : Type 0 where
    newer : List Entry
    call : S.Call
    past : List Entry
    is : es ≡ newer ++ OfServer call ∷ past
    replied : RepliedAt config con x past call

  either : (es : List Entry) → Sometime (ComesTo config con x) es → Sometime (WaitsIn config (con.first + max_age) x) es
      ⊎ Answered es
  either [] h = absurd h
  either (OfServer c ∷ past) (inl (inl r)) = inr (record {
    newer = [];
    call = c;
    past = past;
    is = refl;
    replied = r;
  })
  either (OfServer c ∷ past) (inl (inr w)) = inl (inl w)
  either (OfClient c ∷ past) (inl h) = absurd h
  either (e ∷ past) (inr h) = ⊎_elim (λ l. inl (inr l)) (λ k. inr (record {
    newer = e ∷ k.newer;
    call = k.call;
    past = k.past;
    is = ap (λ l. e ∷ l) k.is;
    replied = k.replied;
  })) (either past h)

module _ (config : Config) where
  -- what the hops of newer entries hold is in those of one of them, behind what was sent before
  in_front : (P : Hop → Type 0) (y : Sending) (newer es : List Entry) → WasSent config.client_sizes y (client_of es)
      → Ever P (front config newer es)
      → Sometime (λ q e. Ever P (hops_at config q e) × WasSent config.client_sizes y (client_of q)) (newer ++ es)
  in_front P y [] es sent h = absurd h
  in_front P y (e ∷ newer) es sent h =
      ⊎_elim (λ l. inl (l, sent_in newer)) (λ r. inr (in_front P y newer es sent r))
      (Ever_append P (hops_at config (newer ++ es) e) (front config newer es) h)
    where
      sent_in : (later : List Entry) → WasSent config.client_sizes y (client_of (later ++ es))
      sent_in [] = sent
      sent_in (e ∷ later) = sent_later config y (later ++ es) e (sent_in later)

  module _ (laws : Laws) (turn : Turn) (past : List Turn) (g : Goes config (turn ∷ past))
      (none : Always (λ p c. TakesNoObservation c) (client_of (entries_of past))) (at : ℕ)
      (is_open : IsOpenSince config.client_sizes at (client_of (entries_of past)))
      (late : at + max_age + max_age < turn.event.at) where
    old : Goes config past
    old = goes_before config turn past g

    calls : List C.Call
    calls = client_of (entries_of past)

    channel : ChannelLaw config.client_setup config.server_setup config.addresses.client config.addresses.server
        (hops_of config past)
    channel = joined.channel config _ past (record_of config past old.stands) (legal_of config past old.stands)

    module _ (x : Sending) (o : OpenOf config.addresses.server config.client_sizes config.client_setup at x
        (client_of (entries_of past)))
        (h : HasCon config.addresses.server config.client_sizes config.client_setup at x (client_of (entries_of past))
        o) where
      abbrev es : List Entry
      es = entries_of past

      abbrev con : Open
      con = h.con

      sent : WasSent config.client_sizes x (client_of (entries_of past))
      sent = was_sent config.addresses.server config.client_sizes config.client_setup at x (client_of (entries_of past))
          o

      begun_there : Ever (λ b. begun b ≡ Some con) (near_of (hops_of config past))
      begun_there = subst (Ever (λ b. begun b ≡ Some con)) (sym (near_is config es)) h.begun_before

      comes : Sometime (ComesTo config con x) (entries_of past)
      comes =
          let first = h.first in
          let taken = (taken_here config laws.beneath turn past g).by_server con begun_there
          (omega (arith, first, late)) in
          let spells = request_spelled config.addresses config.client_setup (near_of (hops_of config past)) con x
          channel.near_law
          begun_there h.is in
          request_taken config old.stands.range
          (λ t law. laws.handed_on config.limits config.server_szx config.server_setup t law) con x spells
          (is_request x (was_message config.client_sizes x (client_of (entries_of past)) sent)) (entries_of past)
          (lawful config _ past (record_of config past old.stands)
          (record { range = old.stands.range; events = old.stands.legal })) (on_time config past old.stands) taken

      never : Answered config con x (entries_of past) → ⊥
      never k =
          let r = k.replied in
          let P = OnNear (ArrivesWithin max_age config.addresses.server r.bytes r.reply.at) in
          let adds = server_adds config (server_trace config k.past) k.call in
          let inner : map Far adds ++ hops_in config k.past
          ≡ map Far r.newer ++ (Far r.reply ∷ (map Far r.older ++ hops_in config k.past)) =
          ap (λ l. map Far l ++ hops_in config k.past) r.adds
          ∙ ap (λ l. l ++ hops_in config k.past) (map-append Far r.newer (r.reply ∷ r.older))
          ∙ append_assoc (map Far r.newer) (Far r.reply ∷ map Far r.older) (hops_in config k.past) in
          let behind = front config k.newer (OfServer k.call ∷ k.past) in
          let all : hops_of config past
          ≡ (behind ++ map Far r.newer) ++ (Far r.reply ∷ (map Far r.older ++ hops_in config k.past)) =
          ap (hops_in config) k.is ∙ front_is config k.newer (OfServer k.call ∷ k.past) ∙ ap (λ l. behind ++ l) inner
          ∙ sym (append_assoc behind (map Far r.newer) (Far r.reply ∷ (map Far r.older ++ hops_in config k.past))) in
          let out : IsIn (record { to = config.addresses.client; bytes = r.bytes }) r.reply.out =
          subst (IsIn (record { to = config.addresses.client; bytes = r.bytes })) (sym r.out) (inl refl) in
          let soon = r.soon in
          let first = h.first in
          let got = to_client config past turn g.stands (behind ++ map Far r.newer)
          (map Far r.older ++ hops_in config k.past) r.reply r.bytes all out (omega (arith, soon, first, late)) in
          let newer : Ever P behind =
          ⊎_elim (λ w. w) (λ w. absurd (no_near (ArrivesWithin max_age config.addresses.server r.bytes r.reply.at)
          r.newer w))
          (Ever_append P behind (map Far r.newer) got) in
          let ack : IsAckWith con x r.bytes r.message =
          record {
            spells = r.spells;
            kind = r.kind;
            class = r.class;
            id = r.id;
            token = r.token;
            understood = r.understood;
          } in
          let there = subst (Sometime (ArrivesBehind config con x r.bytes r.message ack max_age r.reply.at r.sending
          r.same
          (λ t law. laws.acks config.client_setup _
          (client_facts.layer config.addresses.server config.client_sizes config.client_setup t law)))) (sym k.is)
          (in_front P r.sending k.newer (OfServer k.call ∷ k.past) r.sent newer) in
          let called = to_calls config con x r.bytes r.message ack max_age r.reply.at r.sending r.same
          (λ t law. laws.acks config.client_setup _
          (client_facts.layer config.addresses.server config.client_sizes config.client_setup t law)) (entries_of past)
          old.stands.client there in
          let plain = was_plain config.client_sizes x (client_of (entries_of past))
          (laws.observed config.addresses.server config.client_sizes config.client_setup (client_of (entries_of past))
          old.stands.client)
          none sent in
          let acked = acked_before config con x r.bytes r.message ack at (client_of (entries_of past)) old.stands.client
          (laws.heard config.addresses.server config.client_sizes config.client_setup (client_of (entries_of past))
          old.stands.client)
          (laws.own config.addresses.server config.client_sizes config.client_setup (client_of (entries_of past))
          old.stands.client)
          plain h.is.to o h.alone called in
          let given : Sometime (OnFarThen (RepliesTo config.addresses.client con r.bytes)) (hops_of config past) =
          subst (Sometime (OnFarThen (RepliesTo config.addresses.client con r.bytes))) (sym all)
          (Sometime_back _ (behind ++ map Far r.newer) (Far r.reply ∷ (map Far r.older ++ hops_in config k.past))
          (inl (subst (λ l. RepliesTo config.addresses.client con r.bytes l r.reply)
          (ap (λ l. r.older ++ l) (sym (far_is config k.past)) ∙ sym (far_far r.older (hops_in config k.past)))
          r.replies))) in
          one_reply config.addresses config.client_setup con acked.con r.bytes r.message (hops_of config past) acked.is
          h.is.to
          begun_there channel.near_law
          (laws.acks_replied config.client_setup config.server_setup config.addresses.client config.addresses.server
          (hops_of config past) channel)
          (laws.replied_once config.client_setup config.server_setup config.addresses.client config.addresses.server
          (hops_of config past) channel)
          r.spells r.class given
          (subst (Sometime _) (sym (near_is config es)) acked.taken)

      -- its CON is over
      over : IsOpen (near_of (hops_of config past)) h.con → ⊥
      over stays =
          let first = h.first in
          let taken = (taken_here config laws.beneath turn past g).by_server con begun_there
          (omega (arith, first, late)) in
          let spells = request_spelled config.addresses config.client_setup (near_of (hops_of config past)) con x
          channel.near_law
          begun_there h.is in
          by (request_acknowledged config old.stands.range
          (λ t law. laws.handed_on config.limits config.server_szx config.server_setup t law) con x spells
          (is_request x (was_message config.client_sizes x (client_of (entries_of past)) sent)) (entries_of past)
          (lawful config _ past (record_of config past old.stands)
          (record { range = old.stands.range; events = old.stands.legal })) taken)
        where
          replied_in : (es : List Entry) → Sometime (IsReplied config con x) es → Answered config con x es
          replied_in [] k = absurd k
          replied_in (OfServer c ∷ es) (inl r) =
              record { newer = []; call = c; past = es; is = refl; replied = r }
          replied_in (OfClient c ∷ es) (inl r) = absurd r
          replied_in (e ∷ es) (inr k) =
              let a = replied_in es k in
              record {
                newer = e ∷ a.newer;
                call = a.call;
                past = a.past;
                is = ap (λ l. e ∷ l) a.is;
                replied = a.replied;
              }

          by : Sometime (IsReplied config con x) (entries_of past)
              ⊎ Sometime (OnFarThen (EndsWithin max_age config.addresses.client con)) (hops_of config past) → ⊥
          by (inl k) = never (replied_in (entries_of past) k)
          by (inr k) =
              let first = h.first in
              laws.beneath.ended config.client_setup config.server_setup config.addresses.client config.addresses.server
              (hops_of config past) channel
              max_age turn.event.at con (arrive_in_time config past turn g.stands).back_to_client begun_there h.is.to k
              (omega (arith, first, late)) stays

      waits : LastWaits config at past
      waits = record {
        sending = x;
        last = last_of config.addresses.server config.client_sizes config.client_setup at x
            (client_of (entries_of past)) o;
        waiting = now.waiting;
        from = now.from;
        token = now.token;
        since = (let since = now.since in let first = h.first in omega (arith, since, first));
        delay = now.delay;
        waits = now.waits;
      }
        where
          now : WaitsNow config (h.con.first + max_age) x (entries_of past)
          now = waits_now config (h.con.first + max_age) x (entries_of past) old.stands.server
              (none_set config.addresses past old.stands.made)
              (⊎_elim (λ w. w) (λ k. absurd (never k)) (either config con x (entries_of past) comes))

    pub con_is_over : (x : Sending)
        (o : OpenOf config.addresses.server config.client_sizes config.client_setup at x (client_of (entries_of past)))
        (h : HasCon config.addresses.server config.client_sizes config.client_setup at x (client_of (entries_of past))
        o)
        → IsOpen (near_of (hops_of config past)) h.con → ⊥
    con_is_over x o h = over x o h

    pub last_waits : LastWaits config at past
    last_waits =
        let k = open_of config.addresses.server config.client_sizes config.client_setup at (client_of (entries_of past))
        old.stands.client is_open in
        waits k.0 k.1 (has_con config.addresses.server config.client_sizes config.client_setup at k.0
        (client_of (entries_of past))
        old.stands.client k.1)

-- nothing was observed before either
pub none_before : (later older : List Entry) → Always (λ p c. TakesNoObservation c) (client_of (later ++ older))
    → Always (λ p c. TakesNoObservation c) (client_of older)
none_before [] older h = h
none_before (OfClient c ∷ later) older h = none_before later older h.1
none_before (OfServer c ∷ later) older h = none_before later older h

pub old_wait : (config : Config) (laws : Laws) (turns : List Turn) → Goes config turns
    → Always (λ p c. TakesNoObservation c) (client_of (entries_of turns)) → OldWait config turns
old_wait config laws [] g none = tt
old_wait config laws (turn ∷ past) g none =
    let before_it = none_before turn.entries (entries_of past) none in (
      λ at is_open late. last_waits config laws turn past g before_it at is_open late,
      old_wait config laws past (goes_before config turn past g) before_it,
    )

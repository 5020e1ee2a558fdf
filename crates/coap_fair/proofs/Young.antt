-- No exchange of a fair run is open for more than 46,000 ms and twice the longest way: a copy of its request comes, is
-- answered in the acknowledgement, and that comes.
use Rattle.std.proofs.Common.{◌≡◌, inl, inr, ⊎_elim, ◌≤◌, ◌<◌, ℕ, ◌+◌, ◌*◌, Bool, true, false, cond, Some, None, List}
use Rattle.std.proofs.Common.{[], ◌∷◌, ◌++◌, map, refl, ap, sym, subst, ◌∙◌, arith, append_assoc}
use Rattle.std.proofs.Math.Decide.{dec_le}
use Rattle.std.proofs.lemmas.List.{map-append}
use Rattle.coap_types.specs.Past.{Ever, Sometime, Always, Since}
use Rattle.coap_types.proofs.Facts.Traces.{Ever_append, Sometime_back}
use Rattle.coap_types.specs.Roles.{role_of}
use Rattle.coap_types.specs.declared.endpoint.Endpoint.{Endpoint}
use Rattle.coap_types.specs.declared.role.Role.TheVariants as role
use Rattle.coap_types.specs.declared.transmission.TheConstants.{LAST_ARRIVAL_MS as last_arrival}
use Rattle.coap_types.specs.declared.transmission.TheConstants.{MAX_RETRANSMIT as max_retransmit}
use Rattle.coap_codec.specs.Message.{Spells}
use Rattle.coap_layer.specs.Channel.{Hop, Near, Far, near_of, far_of, OnNear, OnFar, OnFarThen, Takes, RepliesTo}
use Rattle.coap_layer.specs.Channel.{AcksReplied}
use Rattle.coap_layer.specs.OneClock.{ChannelLaw}
use Rattle.coap_layer.specs.Rows.{LayerLaw}
use Rattle.coap_layer.specs.Sends.{AtLeast, IsIn, as_begun, IsOpen, SendsIt}
use Rattle.coap_layer.specs.Taking.{AllTakeAcks, ArrivesWithin, ConsTaken, IsTold, RepliedOnce, TakesWithin}
use Rattle.coap_layer.specs.Trace as L
use Rattle.coap_layer.specs.Words.{Open, begun, handed, outstanding}
use Rattle.coap_layer.specs.declared.setup.Setup.{Setup}
use Rattle.coap_block.specs.Sizes.{Sizes}
use Rattle.coap_client.specs.Law.{ClientLaw}
use Rattle.coap_client.specs.Sendings.{Sending}
use Rattle.coap_client.specs.Trace as C
use Rattle.coap_client_laws.specs.Follows.Begins.{WasSent}
use Rattle.coap_client_laws.specs.Follows.OfObservations.{AreOfObservations}
use Rattle.coap_client_laws.specs.Follows.Open.{IsOpenSince, AnswersAreHeard}
use Rattle.coap_client_laws.specs.Follows.Tokens.{OwnTokens}
use Rattle.coap_client_laws.proofs.Facts.Laws as client_facts
use Rattle.coap_resource.specs.Limits.{Limits}
use Rattle.coap_server.specs.Follows.Attended.{AllHandedOn}
use Rattle.coap_server.specs.Law.{ServerLaw}
use Rattle.coap_server.specs.Trace as S
use Rattle.coap_record.specs.Events.{Config}
use Rattle.coap_record.specs.Record.{Entry, OfClient, OfServer, Turn, entries_of, client_of, server_of, server_trace}
use Rattle.coap_promise.specs.CameFrom.{request_of}
use Rattle.coap_promise.specs.Hops.{server_adds, hops_at, hops_in, hops_of}
use Rattle.coap_promise.proofs.Facts.Delivery.End.{front, front_is}
use Rattle.coap_promise.proofs.Facts.Delivery.HopsAreAChannel as joined
use Rattle.coap_promise.proofs.Facts.Delivery.HopsAreEntries.{client_layer, far_far, near_is, far_is}
use Rattle.coap_promise.proofs.Facts.Requests.Promised.{lawful}
use Rattle.coap_promise.proofs.Facts.Requests.Traced.{sent_later}
use Rattle.coap_smooth.specs.Smooth as W
use Rattle.coap_smooth.specs.Smooth.{TakesNoObservation, to_server, count_came, is_then}
use Rattle.coap_smooth.specs.Young.{AreYoungBy}
use Rattle.coap_smooth.proofs.Smoothly.Answers.AnswerTaken.{IsAckWith, acked_before, to_calls, ArrivesBehind}
use Rattle.coap_smooth.proofs.Smoothly.Answers.ConsCarry.{request_spelled, is_request, was_message}
use Rattle.coap_smooth.proofs.Smoothly.Answers.ExchangeOpen.{OpenOf, open_of, Runs, runs_of, Lonely, Waited, lonely}
use Rattle.coap_smooth.proofs.Smoothly.Answers.OneReply.{one_reply}
use Rattle.coap_smooth.proofs.Smoothly.Arriving.AckTaken.{AckIn, TakesEmpty, ack_in}
use Rattle.coap_smooth.proofs.Smoothly.Arriving.ArrivesInTime.{far_each}
use Rattle.coap_smooth.proofs.Smoothly.Arriving.WhereItArrives.{no_near}
use Rattle.coap_smooth.proofs.Smoothly.Requests.AtOnce.{none_before}
use Rattle.coap_smooth.proofs.Smoothly.Requests.DelaysAreShort.{none_set}
use Rattle.coap_smooth.proofs.Smoothly.Requests.LastWasSent.{was_sent}
use Rattle.coap_smooth.proofs.Smoothly.Requests.PlainRequests.{was_plain}
use Rattle.coap_smooth.proofs.Smoothly.Requests.RequestOpen.{HasCon, alone_now, has_con}
use Rattle.coap_fair.specs.FairLoss.{last_copy, longest_way, FairLoss, CopiesInTime}
use Rattle.coap_fair.specs.FiveCopies.{NoneOverdue}
use Rattle.coap_fair.proofs.Retransmitted.Five.{five_times}
use Rattle.coap_fair.proofs.Retransmitted.TakenSoon.{taken_soon}
use Rattle.coap_fair.proofs.Requests.RequestTaken.{RepliedAt, IsReplied, request_taken}
use Rattle.coap_fair.proofs.Runs.CopiesInTime.{all_up}
use Rattle.coap_fair.proofs.Runs.FewArrive.{few_at_server}
use Rattle.coap_fair.proofs.Runs.Stands.{Stands, before, legal_of, record_of}

-- what the laws beneath say
pub record Laws : Type 0 where
  pub taking : (one other : Setup) (near far : Endpoint) (all : List Hop) → ChannelLaw one other near far all
      → ConsTaken other.remembered near all
  pub acks : (setup : Setup) (t : List L.Entry) → LayerLaw setup t → AllTakeAcks t
  pub acks_replied : (one other : Setup) (near far : Endpoint) (all : List Hop) → ChannelLaw one other near far all
      → AcksReplied near far all
  pub replied_once : (one other : Setup) (near far : Endpoint) (all : List Hop) → ChannelLaw one other near far all
      → RepliedOnce near all
  pub heard : (server : Endpoint) (sizes : Sizes) (setup : Setup) (t : List C.Call) → ClientLaw server sizes setup t
      → AnswersAreHeard server sizes setup t
  pub own : (server : Endpoint) (sizes : Sizes) (setup : Setup) (t : List C.Call) → ClientLaw server sizes setup t
      → OwnTokens sizes t
  pub observed : (server : Endpoint) (sizes : Sizes) (setup : Setup) (t : List C.Call) → ClientLaw server sizes setup t
      → AreOfObservations sizes t
  pub handed_on : (limits : Limits) (szx : ℕ) (setup : Setup) (t : List S.Call) → ServerLaw limits szx setup t
      → AllHandedOn limits szx setup t

-- few come in all, so few come before

more : (b : Bool) (m n : ℕ) → m ≤ n → m ≤ cond b (1 + n) n
more true m n h = omega (arith, h)
more false m n h = h

server_less : (since : ℕ) (later es : List Entry)
    → count_came to_server since (server_of es) ≤ count_came to_server since (server_of (later ++ es))
server_less since [] es = omega arith
server_less since (OfClient c ∷ later) es = server_less since later es
server_less since (OfServer c ∷ later) es = more (is_then since (to_server c)) _ _ (server_less since later es)

few_still : (m n a b : ℕ) → m ≤ n → (n < a) × (n < b) → (m < a) × (m < b)
few_still m n a b le few = (let k = few.0 in omega (arith, le, k), let k = few.1 in omega (arith, le, k))

-- a reply is given to what was taken

since_taken : (near : Endpoint) (con : Open) (at : ℕ) (hs : List Hop)
    → Since (λ y. Takes near con y × (y.at ≡ at)) (λ y. handed y ≡ None) (far_of hs) → Ever (OnFar (Takes near con)) hs
since_taken near con at [] s = absurd s
since_taken near con at (Near e ∷ hs) s = inr (since_taken near con at hs s)
since_taken near con at (Far e ∷ hs) (inl s) = inl s.0
since_taken near con at (Far e ∷ hs) (inr s) = inr (since_taken near con at hs s.1)

replied_taken : (near : Endpoint) (con : Open) (bytes : List ℕ) (hs : List Hop)
    → Sometime (OnFarThen (RepliesTo near con bytes)) hs → Ever (OnFar (Takes near con)) hs
replied_taken near con bytes [] h = absurd h
replied_taken near con bytes (Near e ∷ hs) (inl h) = absurd h
replied_taken near con bytes (Near e ∷ hs) (inr h) = inr (replied_taken near con bytes hs h)
replied_taken near con bytes (Far e ∷ hs) (inl h) = inr (since_taken near con e.at hs h.to_it)
replied_taken near con bytes (Far e ∷ hs) (inr h) = inr (replied_taken near con bytes hs h)

-- .. so what is acknowledged was taken
acked_taken : (near far : Endpoint) (con : Open) → con.to ≡ far → (hs : List Hop) → AcksReplied near far hs
    → Sometime (TakesEmpty con) (near_of hs) → Ever (OnFar (Takes near con)) hs
acked_taken near far con to [] acks h = absurd h
acked_taken near far con to (Near e ∷ hs) acks (inl h) =
    inr (replied_taken near con h.hears.bytes hs (acks.0 e con refl to h.hears))
acked_taken near far con to (Near e ∷ hs) acks (inr h) = inr (acked_taken near far con to hs acks.1 h)
acked_taken near far con to (Far e ∷ hs) acks h = inr (acked_taken near far con to hs acks.1 h)

module _ (ms : ℕ) (config : Config) where
  pub record Goes (turns : List Turn) : Type 0 where
    pub stands : Stands config turns
    pub fair : FairLoss ms config turns
    pub in_time : CopiesInTime ms config turns
    pub few : W.FewCome config.server_setup to_server (server_of (entries_of turns))

  goes_before : (turn : Turn) (past : List Turn) → Goes (turn ∷ past) → Goes past
  goes_before turn past g = record {
    stands = before config turn past g.stands;
    fair = g.fair.1;
    in_time = g.in_time.1;
    few = λ since. (let a = g.few since in
        let b = server_less since turn.entries (entries_of past) in few_still _ _ _ _ b a);
  }

  -- it is answered somewhere
  record Answered (con : Open) (x : Sending) (es : List Entry) : Type 0 where
    newer : List Entry
    call : S.Call
    past : List Entry
    is : es ≡ newer ++ OfServer call ∷ past
    replied : RepliedAt config last_arrival con x past call

  answered : (con : Open) (x : Sending) (es : List Entry) → Sometime (IsReplied config last_arrival con x) es
      → Answered con x es
  answered con x [] h = absurd h
  answered con x (OfServer c ∷ es) (inl r) = record { newer = []; call = c; past = es; is = refl; replied = r }
  answered con x (OfClient c ∷ es) (inl r) = absurd r
  answered con x (e ∷ es) (inr h) =
      let k = answered con x es h in
      record {
        newer = e ∷ k.newer;
        call = k.call;
        past = k.past;
        is = ap (λ l. e ∷ l) k.is;
        replied = k.replied;
      }

  -- what the hops of newer entries hold is in those of one of them, behind what was sent before
  in_front : (P : Hop → Type 0) (y : Sending) (newer es : List Entry) → WasSent config.client_sizes y (client_of es)
      → Ever P (front config newer es)
      → Sometime (λ q e. Ever P (hops_at config q e) × WasSent config.client_sizes y (client_of q)) (newer ++ es)
  in_front P y [] es sent h = absurd h
  in_front P y (e ∷ newer) es sent h =
      ⊎_elim (λ l. inl (l, sent_in newer)) (λ r. inr (in_front P y newer es sent r))
      (Ever_append P (hops_at config (newer ++ es) e) (front config newer es) h)
    where
      sent_in : (later : List Entry) → WasSent config.client_sizes y (client_of (later ++ es))
      sent_in [] = sent
      sent_in (e ∷ later) = sent_later config y (later ++ es) e (sent_in later)

  module _ (laws : Laws) (no_delays : config.delays ≡ []) (soon : ms ≤ longest_way) (turn : Turn) (past : List Turn)
      (g : Goes (turn ∷ past)) (none : Always (λ p c. TakesNoObservation c) (client_of (entries_of past))) (at : ℕ)
      (is_open : IsOpenSince config.client_sizes at (client_of (entries_of past)))
      (late : at + (last_copy + 2 * ms) < turn.event.at) where
    abbrev es : List Entry
    es = entries_of past

    abbrev calls : List C.Call
    calls = client_of (entries_of past)

    abbrev hops : List Hop
    hops = hops_of config past

    old : Goes past
    old = goes_before turn past g

    s : Stands config past
    s = old.stands

    channel : ChannelLaw config.client_setup config.server_setup config.addresses.client config.addresses.server hops
    channel = joined.channel config _ past (record_of config past s) (legal_of config past s)

    module _ (x : Sending)
        (o : OpenOf config.addresses.server config.client_sizes config.client_setup at x calls)
        (h : HasCon config.addresses.server config.client_sizes config.client_setup at x calls o) where
      abbrev con : Open
      con = h.con

      sent : WasSent config.client_sizes x calls
      sent = was_sent config.addresses.server config.client_sizes config.client_setup at x calls o

      begun_there : Ever (λ b. begun b ≡ Some con) (near_of hops)
      begun_there = subst (Ever (λ b. begun b ≡ Some con)) (sym (near_is config es)) h.begun_before

      spells : Spells con.bytes (request_of con.id x)
      spells = request_spelled config.addresses config.client_setup (near_of hops) con x channel.near_law begun_there
          h.is

      class : role_of (request_of con.id x).code ≡ role.Request
      class = is_request x (was_message config.client_sizes x calls sent)

      -- where it was taken, it was answered in its acknowledgement
      replied_if : Ever (OnFar (Takes config.addresses.client con)) hops → Answered con x es
      replied_if taken =
          answered con x es
          (request_taken config last_arrival s.range no_delays
          (λ t law. laws.handed_on config.limits config.server_szx config.server_setup t law) con x spells class es
          (lawful config _ past (record_of config past s) (legal_of config past s))
          (none_set config.addresses past s.made)
          (far_each (Takes config.addresses.client con) (TakesWithin last_arrival config.addresses.client con)
          (λ e t. record { takes = t; soon = t.till }) hops taken))

      module _ (k : Answered con x es) where
        abbrev r : RepliedAt config last_arrival con x k.past k.call
        r = k.replied

        abbrev behind : List Hop
        behind = front config k.newer (OfServer k.call ∷ k.past)

        abbrev before_it : List Hop
        before_it = map Far r.older ++ hops_in config k.past

        all : hops ≡ (behind ++ map Far r.newer) ++ (Far r.reply ∷ before_it)
        all =
            let adds = server_adds config (server_trace config k.past) k.call in
            let inner : map Far adds ++ hops_in config k.past ≡ map Far r.newer ++ (Far r.reply ∷ before_it) =
            ap (λ l. map Far l ++ hops_in config k.past) r.adds
            ∙ ap (λ l. l ++ hops_in config k.past) (map-append Far r.newer (r.reply ∷ r.older))
            ∙ append_assoc (map Far r.newer) (Far r.reply ∷ map Far r.older) (hops_in config k.past) in
            ap (hops_in config) k.is ∙ front_is config k.newer (OfServer k.call ∷ k.past) ∙ ap (λ l. behind ++ l) inner
            ∙ sym (append_assoc behind (map Far r.newer) (Far r.reply ∷ before_it))

        replies : RepliesTo config.addresses.client con r.bytes (far_of before_it) r.reply
        replies = subst (λ l. RepliesTo config.addresses.client con r.bytes l r.reply)
            (ap (λ l. r.older ++ l) (sym (far_is config k.past)) ∙ sym (far_far r.older (hops_in config k.past)))
            r.replies

        given : Sometime (OnFarThen (RepliesTo config.addresses.client con r.bytes)) hops
        given = subst (Sometime (OnFarThen (RepliesTo config.addresses.client con r.bytes))) (sym all)
            (Sometime_back _ (behind ++ map Far r.newer) (Far r.reply ∷ before_it) (inl replies))

        -- .. and no Empty acknowledgement was taken
        clash : AckIn config con calls → ⊥
        clash a =
            one_reply config.addresses config.client_setup con a.con r.bytes r.message hops a.is h.is.to begun_there
            channel.near_law
            (laws.acks_replied config.client_setup config.server_setup config.addresses.client config.addresses.server
            hops channel)
            (laws.replied_once config.client_setup config.server_setup config.addresses.client config.addresses.server
            hops channel)
            r.spells r.class given (subst (Sometime _) (sym (near_is config es)) a.taken)

        -- where it came back it was heard
        never : Ever (OnNear (ArrivesWithin (last_copy + 2 * ms) config.addresses.server r.bytes r.reply.at))
            (behind ++ map Far r.newer) → ⊥
        never got =
            let most : ℕ = last_copy + 2 * ms in
            let P = OnNear (ArrivesWithin most config.addresses.server r.bytes r.reply.at) in
            let newer : Ever P behind =
            ⊎_elim (λ w. w) (λ w. absurd (no_near (ArrivesWithin most config.addresses.server r.bytes r.reply.at)
            r.newer w))
            (Ever_append P behind (map Far r.newer) got) in
            let ack : IsAckWith con x r.bytes r.message =
            record {
              spells = r.spells;
              kind = r.kind;
              class = r.class;
              id = r.id;
              token = r.token;
              understood = r.understood;
            } in
            let acks : (t : List C.Call)
            → ClientLaw config.addresses.server config.client_sizes config.client_setup t
            → AllTakeAcks (client_layer config t) =
            λ t law. laws.acks config.client_setup _
            (client_facts.layer config.addresses.server config.client_sizes config.client_setup t law) in
            let there = subst (Sometime (ArrivesBehind config con x r.bytes r.message ack most r.reply.at r.sending
            r.same acks)) (sym k.is) (in_front P r.sending k.newer (OfServer k.call ∷ k.past) r.sent newer) in
            let called = to_calls config con x r.bytes r.message ack most r.reply.at r.sending r.same acks es s.client
            there in
            let plain = was_plain config.client_sizes x calls
            (laws.observed config.addresses.server config.client_sizes config.client_setup calls s.client) none sent in
            clash (acked_before config con x r.bytes r.message ack at calls s.client
            (laws.heard config.addresses.server config.client_sizes config.client_setup calls s.client)
            (laws.own config.addresses.server config.client_sizes config.client_setup calls s.client)
            plain h.is.to o h.alone called)

      -- an Empty acknowledgement was taken
      not_waited : (w : Runs config.addresses.server config.client_sizes config.client_setup at x calls)
          → Waited config.addresses.server config.client_sizes config.client_setup w.exchange calls → ⊥
      not_waited w waited =
          let a = ack_in config con h.is.to at x calls s.client o h.alone w waited in
          let to : a.con.to ≡ config.addresses.server = ap (λ (z : Open). z.to) a.is ∙ h.is.to in
          let taken = acked_taken config.addresses.client config.addresses.server a.con to hops
          (laws.acks_replied config.client_setup config.server_setup config.addresses.client config.addresses.server
          hops channel) (subst (Sometime _) (sym (near_is config es)) a.taken) in
          let same : Ever (OnFar (Takes config.addresses.client (as_begun a.con))) hops =
          far_each (Takes config.addresses.client a.con) (Takes config.addresses.client (as_begun a.con))
          (λ e t. record { call = t.call; up = t.up; from = t.from; till = t.till }) hops taken in
          clash (replied_if (subst (λ z. Ever (OnFar (Takes config.addresses.client z)) hops) a.is same)) a

      -- it is outstanding
      not_outstanding : (w : Runs config.addresses.server config.client_sizes config.client_setup at x calls)
          → Lonely config.addresses.server config.client_sizes config.client_setup at x w.exchange calls → ⊥
      not_outstanding w z =
          let is : near_of hops ≡ client_layer config calls = near_is config es in
          let stays : IsOpen (client_layer config calls) (as_begun z.con) =
          subst (Ever (λ y. as_begun y ≡ as_begun z.con)) (sym z.only) (inl refl) in
          let same : as_begun z.con ≡ con =
          alone_now config.addresses.server config.client_sizes config.client_setup con at x calls o h.alone
          (as_begun z.con) stays in
          let there : IsIn z.con (outstanding (client_layer config calls)) =
          subst (Ever (λ y. y ≡ z.con)) (sym z.only) (inl refl) in
          let first = z.first in
          let five = five_times config.client_setup (client_layer config calls)
          (client_facts.layer config.addresses.server config.client_sizes config.client_setup calls s.client)
          (all_up config ms past s old.in_time) z.con there turn.event.at
          (subst (λ l. NoneOverdue l turn.event.at) is g.in_time.0) (omega (arith, first, late)) in
          let five_here : AtLeast (1 + max_retransmit) (SendsIt con) (near_of hops) =
          subst (AtLeast (1 + max_retransmit) (SendsIt con)) (sym is)
          (subst (λ c. AtLeast (1 + max_retransmit) (SendsIt c) (client_layer config calls)) same five) in
          let began = h.first in
          let through = g.fair.0 con begun_there five_here (omega (arith, began, late)) in
          let told : IsTold con.bytes =
          record { message = request_of con.id x; spells = spells; class = inl class } in
          let taken = taken_soon config.client_setup config.server_setup config.addresses.client
          config.addresses.server hops
          (laws.taking config.client_setup config.server_setup config.addresses.client config.addresses.server hops
          channel) channel (last_copy + ms) con (omega (arith, soon)) (few_at_server config past s old.few) begun_there
          told through.there in
          let k = replied_if (far_each (TakesWithin (last_copy + ms) config.addresses.client con)
          (Takes config.addresses.client con) (λ e t. t.takes) hops taken) in
          never k (through.back (behind k ++ map Far k.replied.newer) (before_it k) k.replied.reply k.replied.bytes
          (all k) (replies k))

      not_so : ⊥
      not_so =
          let w = runs_of config.addresses.server config.client_sizes config.client_setup at x calls s.client o in
          ⊎_elim (not_outstanding w) (not_waited w)
          (lonely config.addresses.server config.client_sizes config.client_setup at x calls s.client w)

    too_old : ⊥
    too_old =
        let k = open_of config.addresses.server config.client_sizes config.client_setup at calls s.client is_open in
        not_so k.0 k.1 (has_con config.addresses.server config.client_sizes config.client_setup at k.0 calls s.client
        k.1)

  pub are_young : Laws → config.delays ≡ [] → ms ≤ longest_way → (turns : List Turn) → Goes turns
      → Always (λ p c. TakesNoObservation c) (client_of (entries_of turns))
      → AreYoungBy config (last_copy + 2 * ms) turns
  are_young laws no_delays soon [] g none = tt
  are_young laws no_delays soon (turn ∷ past) g none =
      let none_then = none_before turn.entries (entries_of past) none in (
        λ at is_open. (elim (dec_le turn.event.at (at + (last_copy + 2 * ms))) [
          | yes h ↦ h
          | no h ↦ absurd (too_old laws no_delays soon turn past g none_then at is_open (omega (arith, h)))
        ]),
        are_young laws no_delays soon past (goes_before turn past g) none_then,
      )

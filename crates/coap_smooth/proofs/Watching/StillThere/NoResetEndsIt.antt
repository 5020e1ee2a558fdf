-- No Reset ends an observation that goes on: a Reset is the reply to a message that the client rejected, and it rejects
-- none of these (RFC 7641, section 3.6).
use Rattle.std.proofs.Common.{◌≡◌, ◌≤◌, ◌+◌, inl, inr, ℕ, max, Some, List, [], ◌∷◌, ◌++◌, map, refl, ap, sym, subst}
use Rattle.std.proofs.Common.{◌∙◌, append_assoc, arith}
use Rattle.std.proofs.lemmas.List.{map-append}
use Rattle.coap_types.specs.Past.{Ever, Sometime}
use Rattle.coap_types.specs.declared.endpoint.Endpoint.{Endpoint}
use Rattle.coap_types.specs.declared.message.Kind.TheVariants.{Non}
use Rattle.coap_types.specs.declared.transmission.TheConstants.{EXCHANGE_LIFETIME_MS as exchange_lifetime}
use Rattle.coap_types.proofs.Facts.Traces.{Always_back, Ever_map, forget}
use Rattle.coap_layer.specs.Channel.{Hop, Near, OnFarThen, RepliesTo, near_of, far_of}
use Rattle.coap_layer.specs.OneClock.{ChannelLaw}
use Rattle.coap_layer.specs.Rows.{LayerLaw}
use Rattle.coap_layer.specs.Sends.{IsOpen, as_begun}
use Rattle.coap_layer.specs.Taking.{HearsReset, ResetsMeant}
use Rattle.coap_layer.specs.Trace as L
use Rattle.coap_layer.specs.Trace.{with_head}
use Rattle.coap_layer.specs.Words.{Open, outstanding}
use Rattle.coap_observe.specs.Observers.{Observer, rejected}
use Rattle.coap_exchange.specs.declared.answerer.Ended.{Ended}
use Rattle.coap_exchange.specs.AnswererSteps.{unmatched_by}
use Rattle.coap_exchange.specs.AnswererTrace as R
use Rattle.coap_client_laws.specs.Follows.Notified.{WasRegistered}
use Rattle.coap_client_laws.specs.Follows.OfObservations.{Observed}
use Rattle.coap_client_laws.proofs.Facts.Laws as client_facts
use Rattle.coap_server.specs.Follows.Observes.{ends_in, rejects_in}
use Rattle.coap_server_laws.specs.Follows.Ways.{LastNon, clock_at}
use Rattle.coap_server.specs.Law.{own_of}
use Rattle.coap_server.specs.Trace as S
use Rattle.coap_record.specs.Events.{Config}
use Rattle.coap_promise.specs.Hops.{across, hops_in, server_adds}
use Rattle.coap_record.specs.Legal.{IsConfig}
use Rattle.coap_record.specs.Record.{Entry, OfServer, client_of, server_trace}
use Rattle.coap_promise.proofs.Facts.Delivery.ChannelAcross.{near_across, far_across}
use Rattle.coap_promise.proofs.Facts.Paced.ChannelAcross.{once_across as channel_across, once_back as channel_back}
use Rattle.coap_promise.proofs.Facts.Delivery.End.{front, front_is}
use Rattle.coap_promise.proofs.Facts.Delivery.EntriesInTime.{Every, Timely}
use Rattle.coap_promise.proofs.Facts.Delivery.HopsAreEntries.{client_layer, server_layer, near_is, far_is}
use Rattle.coap_promise.proofs.Facts.Observations.Acknowledged.{before_now}
use Rattle.coap_promise.proofs.Facts.Observations.Positions.{across_far}
use Rattle.coap_promise.proofs.Facts.Requests.OfACall.{Lawful, lawful_back}
use Rattle.coap_smooth.specs.NoticesCome.{NoticesAreOfIt}
use Rattle.coap_smooth.proofs.Watching.StillThere.Premises.{AreServedFor, IsHeard}
use Rattle.coap_smooth.proofs.Watching.StillThere.FirstEntry.{BeginsWith, reset_begins, unmatched_begins}
use Rattle.coap_smooth.proofs.Watching.StillThere.NonReset.{IsPlain, IsReplied, reset_of_non}
use Rattle.coap_smooth.proofs.Watching.StillThere.NonSent.{non_told}
use Rattle.coap_smooth.proofs.Watching.StillThere.OpenYoung.{IsTimely}
use Rattle.coap_smooth.proofs.Watching.StillThere.Rejected.{IsMessage, never_replied}
use Rattle.coap_smooth.proofs.Watching.StillThere.ResetLaws.{ResetLaws}
use Rattle.coap_smooth.proofs.Watching.StillThere.RepliesFed.{Gives, replied_at}
use Rattle.coap_smooth.proofs.Watching.StillThere.ResetCases.{IsOut, TakesReset, takes_it, out_of, is_open, gives_of}
use Rattle.coap_smooth.proofs.Watching.StillThere.ResetCases.{far_sometime}
use Rattle.coap_smooth.proofs.Watching.StillThere.ToldToken.{Carries, reset_told}
use Rattle.coap_smooth.proofs.Watching.Values.SmoothBefore.{lawful_before}
use Rattle.coap_smooth.proofs.Watching.StillThere.LastNon.{recognised, NonOf, non_in}

-- what isn't outstanding
unmatched_is : (from : Endpoint) (up : L.Answer) (s : R.Sending) → unmatched_by from up ≡ Some s
    → (up ≡ L.Becomes (L.Unmatched s.id)) × (s.to ≡ from)
unmatched_is from (L.Becomes (L.Unmatched id)) s h =
    let same : record { to = from; id = id } ≡ s = cc h in
    (ap (λ (z : R.Sending). L.Becomes (L.Unmatched z.id)) same, sym (ap (λ (z : R.Sending). z.to) same))
unmatched_is from _ s h = absurd (cc h)

module _ (laws : ResetLaws) (config : Config) (range : IsConfig config) (x : Observed) (all : List Entry)
    (law : Lawful config all)
    (channels : ChannelLaw config.client_setup config.server_setup config.addresses.client config.addresses.server
    (hops_in config all))
    (served : AreServedFor config x all) (of_it : NoticesAreOfIt config x all)
    (is_heard : IsHeard config x all) (token : List ℕ)
    (registered : WasRegistered config.client_sizes x.number token (client_of all)) where
  module _ (later past : List Entry) (now : ℕ) (from : Endpoint) (bytes : List ℕ) (w id : ℕ) (what : L.Answer)
      (came : _)
      (h : S.Handling) (below : L.Answer)
      (is : all ≡ later ++ OfServer (S.Feeds now from bytes w what came h below) ∷ past)
      (timely : IsTimely config past (S.Feeds now from bytes w what came h below)) where
    abbrev c : S.Call
    c = S.Feeds now from bytes w what came h below

    abbrev t : List S.Call
    t = server_trace config past

    abbrev whole : List Hop
    whole = across (hops_in config past)

    is_past : all ≡ (later ++ OfServer c ∷ []) ++ past
    is_past = is ∙ sym (append_assoc later (OfServer c ∷ []) past)

    law_here : Lawful config (OfServer c ∷ past)
    law_here = lawful_before config later (OfServer c ∷ past) (subst (Lawful config) is law)

    law_past : Lawful config past
    law_past = lawful_back config past (OfServer c) law_here

    near_there : near_of whole ≡ server_layer config t
    near_there = near_across (hops_in config past) ∙ far_is config past

    far_there : far_of whole ≡ client_layer config (client_of past)
    far_there = far_across (hops_in config past) ∙ near_is config past

    client_law : LayerLaw config.client_setup (client_layer config (client_of past))
    client_law = client_facts.layer config.addresses.server config.client_sizes config.client_setup (client_of past)
        law_past.client

    hops : (newer : List L.Entry) (e : L.Entry) → server_adds config t c ≡ newer ++ e ∷ []
        → across (hops_in config (OfServer c ∷ past)) ≡ map Near newer ++ (Near e ∷ whole)
    hops newer e adds =
        across_far (server_adds config t c) (hops_in config past)
        ∙ (ap (λ l. map Near l ++ whole) adds
        ∙ (ap (λ l. l ++ whole) (map-append Near newer (e ∷ []))
        ∙ append_assoc (map Near newer) (Near e ∷ []) whole))

    channel : ChannelLaw config.server_setup config.client_setup config.addresses.server config.addresses.client
        (across (hops_in config (OfServer c ∷ past)))
    channel = channel_across config.client_setup config.server_setup config.addresses.client config.addresses.server
        (hops_in config (OfServer c ∷ past))
        (channel_back config.client_setup config.server_setup config.addresses.client config.addresses.server
        (front config later (OfServer c ∷ past)) (hops_in config (OfServer c ∷ past))
        (subst (ChannelLaw config.client_setup config.server_setup config.addresses.client config.addresses.server)
        (ap (hops_in config) is ∙ front_is config later (OfServer c ∷ past)) channels))

  -- a Reset of a CON
  con_reset : (later past : List Entry) (now : ℕ) (from : Endpoint) (bytes : List ℕ) (w id : ℕ) (came : _)
      (h : S.Handling) (below : L.Answer)
      (is : all ≡ later ++ OfServer (S.Feeds now from bytes w (L.Becomes (L.Reset id)) came h below) ∷ past)
      (timely : IsTimely config past (S.Feeds now from bytes w (L.Becomes (L.Reset id)) came h below))
      → from ≡ config.addresses.client → (y : Ended) → y.token ≡ token
      → ((con : Open) → IsOpen (server_layer config (server_trace config past)) con → con.to ≡ from
      → Carries config.server_setup y (record { to = from; id = id }) con) → ⊥
  con_reset later past now from bytes w id came h below is timely place y same carries =
      never_replied laws.acked config x all law served of_it is_heard token registered (later ++ OfServer call ∷ [])
      past
      (is_past later past now from bytes w id up came h below is timely) k.message reset.message
      (record { kind = inl k.kind; class = k.class; same = k.token ∙ same; understood = k.understood })
      o.con.id bytes reset.spells reset.kind
      (replied_at config config.addresses.server o.con.id bytes (IsMessage config.addresses k.message) past
      (law_past later past now from bytes w id up came h below is timely).client
      (gives_of config.addresses config.client_setup o.con k.message k.spells k.kind k.class bytes
      (client_layer config (client_of past)) (client_law later past now from bytes w id up came h below is timely)
      (subst (Sometime (RepliesTo config.addresses.server o.con bytes))
      (far_there later past now from bytes w id up came h below is timely)
      (far_sometime (RepliesTo config.addresses.server o.con bytes) (across (hops_in config past)) given))))
    where
      up : L.Answer
      up = L.Becomes (L.Reset id)

      call : S.Call
      call = S.Feeds now from bytes w up came h below

      t : List S.Call
      t = server_trace config past

      here : Lawful config (OfServer call ∷ past)
      here = law_here later past now from bytes w id up came h below is timely

      b : BeginsWith config t call (L.Receive from bytes) up
      b = reset_begins config t now from bytes w id came h below here.server

      reset : TakesReset (server_layer config t) from bytes id
      reset = takes_it config.server_setup (server_layer config t) b.entry from bytes id b.law.0 b.call_is b.answer_is

      o : IsOut from id (server_layer config t)
      o = out_of from id (server_layer config t) reset.matches

      k : Carries config.server_setup y (record { to = from; id = id }) (as_begun o.con)
      k = carries (as_begun o.con) (is_open (server_layer config t) o.con o.is_in) o.to_is

      to_client : o.con.to ≡ config.addresses.client
      to_client = o.to_is ∙ place

      hears : HearsReset o.con (near_of (across (hops_in config past))) b.entry
      hears =
          let near = near_there later past now from bytes w id up came h below is timely in
          let young = timely.young (as_begun o.con) to_client (is_open (server_layer config t) o.con o.is_in) in
          let till = (Always_back _ b.newer (b.entry ∷ []) (subst (Every (Timely timely.at _)) b.adds
          timely.timely)).0.till in
          record {
            is_outstanding = subst (λ l. Ever (λ z. z ≡ o.con) (outstanding l)) (sym near) o.is_in;
            bytes = bytes;
            call = b.call_is ∙ ap (λ p. L.Receive p bytes) (sym o.to_is);
            answer = b.answer_is ∙ ap (λ i. L.Becomes (L.Reset i)) (sym o.id_is);
            young = omega (arith, young, till);
          }

      given : Sometime (OnFarThen (RepliesTo config.addresses.server o.con bytes)) (across (hops_in config past))
      given =
          let all_meant = laws.meant config.server_setup config.client_setup config.addresses.server
          config.addresses.client
          (across (hops_in config (OfServer call ∷ past))) (channel later past now from bytes w id up came h below is
          timely) in
          let hop_list = hops later past now from bytes w id up came h below is timely b.newer b.entry b.adds in
          (Always_back _ (map Near b.newer) (Near b.entry ∷ across (hops_in config past))
          (subst (λ l. ResetsMeant config.addresses.server config.addresses.client l) hop_list all_meant)).0 b.entry
          o.con refl to_client
          (record { message = k.message; spells = k.spells; class = inr k.class }) hears

  -- what is told to have ended by a Reset
  pub not_told : (later past : List Entry) (now : ℕ) (from : Endpoint) (bytes : List ℕ) (w : ℕ) (up : L.Answer)
      (came : _)
      (h : S.Handling) (below : L.Answer) → all ≡ later ++ OfServer (S.Feeds now from bytes w up came h below) ∷ past
      → IsTimely config past (S.Feeds now from bytes w up came h below) → (y : Ended)
      → ends_in (own_of config.limits config.server_szx (server_trace config past))
      (S.Feeds now from bytes w up came h below)
      ≡ Some y → y.to ≡ config.addresses.client → y.token ≡ token → ⊥
  not_told later past now from bytes w up came h below is timely y ends place same =
      let calls : List S.Call = server_trace config past in
      let c : S.Call = S.Feeds now from bytes w up came h below in
      let here = lawful_before config later (OfServer c ∷ past) (subst (Lawful config) is law) in
      let old = lawful_back config past (OfServer c) here in
      let told = reset_told laws.says config.limits config.server_szx config.server_setup calls old.server
      (recognised config range calls old.server) now from bytes w up came h below here.server y ends in
      by told.id told.up_is (sym told.to_is ∙ place) told.carries
    where
      by : (id : ℕ) → up ≡ L.Becomes (L.Reset id) → from ≡ config.addresses.client
          → ((con : Open) → IsOpen (server_layer config (server_trace config past)) con
          → con.to ≡ from
          → Carries config.server_setup y (record { to = from; id = id }) con) → ⊥
      by id up_is there carries =
          con_reset later past now from bytes w id came h below
          (subst (λ u. all ≡ later ++ OfServer (S.Feeds now from bytes w u came h below) ∷ past) up_is is)
          (subst (λ u. IsTimely config past (S.Feeds now from bytes w u came h below)) up_is timely) there y same
          carries

  -- a Reset of it
  non_reset : (later past : List Entry) (now : ℕ) (from : Endpoint) (bytes : List ℕ) (w id : ℕ) (came : _)
      (h : S.Handling) (below : L.Answer)
      (is : all ≡ later ++ OfServer (S.Feeds now from bytes w (L.Becomes (L.Unmatched id)) came h below) ∷ past)
      (timely : IsTimely config past (S.Feeds now from bytes w (L.Becomes (L.Unmatched id)) came h below))
      → from ≡ config.addresses.client → (since : ℕ) → NonOf laws config range token (server_trace config past) id since
      → clock_at config.limits config.server_szx
      (S.Feeds now from bytes w (L.Becomes (L.Unmatched id)) came h below ∷ server_trace config past)
      ≤ since + exchange_lifetime → ⊥
  non_reset later past now from bytes w id came h below is timely place since n young =
      never_replied laws.acked config x all law served of_it is_heard token registered (later ++ OfServer call ∷ [])
      past
      (is_past later past now from bytes w id up came h below is timely) (with_head Non id n.content) r.message
      (record { kind = inr refl; class = n.class; same = n.same; understood = n.understood })
      id r.bytes r.spells r.kind
      (replied_at config config.addresses.server id r.bytes (IsMessage config.addresses (with_head Non id n.content))
      past
      (law_past later past now from bytes w id up came h below is timely).client
      (subst (Sometime (Gives config.addresses.server id r.bytes
      (IsMessage config.addresses (with_head Non id n.content))))
      (far_there later past now from bytes w id up came h below is timely)
      (far_sometime (Gives config.addresses.server id r.bytes (IsMessage config.addresses (with_head Non id n.content)))
      (across (hops_in config past))
      r.given_there)))
    where
      up : L.Answer
      up = L.Becomes (L.Unmatched id)

      call : S.Call
      call = S.Feeds now from bytes w up came h below

      t : List S.Call
      t = server_trace config past

      here : Lawful config (OfServer call ∷ past)
      here = law_here later past now from bytes w id up came h below is timely

      b : BeginsWith config t call (L.Receive from bytes) up
      b = unmatched_begins config t now from bytes w id came h below here.server

      both : ChannelLaw config.server_setup config.client_setup config.addresses.server config.addresses.client
          (Near b.entry ∷ across (hops_in config past))
      both = channel_back config.server_setup config.client_setup config.addresses.server config.addresses.client
          (map Near b.newer)
          (Near b.entry ∷ across (hops_in config past))
          (subst (ChannelLaw config.server_setup config.client_setup config.addresses.server config.addresses.client)
          (hops later past now from bytes w id up came h below is timely b.newer b.entry b.adds)
          (channel later past now from bytes w id up came h below is timely))

      late : n.at ≤ b.entry.at
      late =
          let P : L.Entry → Type 0 = λ e. (e.answer ≡ L.Sent id) × (e.at ≡ n.at) × IsPlain n.content e in
          forget (n.at ≤ b.entry.at) (server_layer config t)
          (Ever_map (λ e. P e × (e.at ≤ b.entry.at)) (λ e. n.at ≤ b.entry.at)
          (λ e k. (let a = k.0.1 in let till = k.1 in omega (arith, a, till))) (server_layer config t)
          (before_now config.server_setup P (server_layer config t) b.entry.at b.law.1 b.law.0.time n.there))

      soon : b.entry.at ≤ n.at + exchange_lifetime
      soon =
          let till = (Always_back _ b.newer (b.entry ∷ []) (subst (Every (Timely timely.at _)) b.adds
          timely.timely)).0.till in
          let is_at : now ≡ timely.at = timely.is_at in
          let moves : max (own_of config.limits config.server_szx t).clock now
          ≡ clock_at config.limits config.server_szx (call ∷ t) = refl in
          let after = n.since_then in
          omega (arith, till, is_at, moves, young, after)

      sent_near : Ever (λ (e : L.Entry). (e.answer ≡ L.Sent id) × (e.at ≡ n.at) × IsPlain n.content e)
          (near_of (across (hops_in config past)))
      sent_near = subst (Ever (λ (e : L.Entry). (e.answer ≡ L.Sent id) × (e.at ≡ n.at) × IsPlain n.content e))
          (sym (near_there later past now from bytes w id up came h below is timely)) n.there

      r : IsReplied laws.sent config.server_setup config.client_setup
          config.addresses.server config.addresses.client (across (hops_in config past)) b.entry both n.content id n.at
          sent_near late soon
      r = reset_of_non laws.sent config.server_setup config.client_setup config.addresses.server config.addresses.client
          (across (hops_in config past)) b.entry both n.content id n.at sent_near late soon bytes
          (b.call_is ∙ ap (λ p. L.Receive p bytes) place) b.answer_is

  -- what is rejected of the last NON
  pub not_rejected : (later past : List Entry) (now : ℕ) (from : Endpoint) (bytes : List ℕ) (w : ℕ) (up : L.Answer)
      (came : _)
      (h : S.Handling) (below : L.Answer) → all ≡ later ++ OfServer (S.Feeds now from bytes w up came h below) ∷ past
      → IsTimely config past (S.Feeds now from bytes w up came h below) → (s : R.Sending) (o : Observer)
      → rejects_in (S.Feeds now from bytes w up came h below) ≡ Some s
      → rejected (own_of config.limits config.server_szx
      (S.Feeds now from bytes w up came h below ∷ server_trace config past)).clock s.to s.id
      (own_of config.limits config.server_szx (server_trace config past)).observers ≡ Some o
      → o.to ≡ config.addresses.client → o.token ≡ token → ⊥
  not_rejected later past now from bytes w up came h below is timely s o rejects found place same =
      let calls : List S.Call = server_trace config past in
      let c : S.Call = S.Feeds now from bytes w up came h below in
      let here = lawful_before config later (OfServer c ∷ past) (subst (Lawful config) is law) in
      let old = lawful_back config past (OfServer c) here in
      let k = unmatched_is from up s rejects in
      let ends = ((laws.on_reset config.limits config.server_szx config.server_setup (c ∷ calls) here.server).0 s
      rejects).rejects o
      found in
      let last = subst (λ z. LastNon config.limits config.server_szx s.to z s.id
      (clock_at config.limits config.server_szx (c ∷ calls)) calls) same ends.1 in
      let n = non_in laws config range token calls old.server s.to last.non
      (non_told config.limits config.server_szx s.to token last.non calls last.last) in
      by s.id k.0 (sym k.1 ∙ (sym ends.0 ∙ place)) last.non.at
      (subst (λ i. NonOf laws config range token calls i last.non.at) last.id_is n) last.young
    where
      by : (id : ℕ) → up ≡ L.Becomes (L.Unmatched id) → from ≡ config.addresses.client → (since : ℕ)
          → NonOf laws config range token (server_trace config past) id since
          → clock_at config.limits config.server_szx (S.Feeds now from bytes w up came h below ∷ server_trace config
          past)
          ≤ since + exchange_lifetime → ⊥
      by id up_is there since n young =
          non_reset later past now from bytes w id came h below
          (subst (λ u. all ≡ later ++ OfServer (S.Feeds now from bytes w u came h below) ∷ past) up_is is)
          (subst (λ u. IsTimely config past (S.Feeds now from bytes w u came h below)) up_is timely) there since n
          (subst (λ u. clock_at config.limits config.server_szx (S.Feeds now from bytes w u came h below
          ∷ server_trace config past) ≤ since + exchange_lifetime) up_is young)

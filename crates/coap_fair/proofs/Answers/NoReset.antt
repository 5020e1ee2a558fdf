-- Where each exchange is young, none ends by a Reset: the server rejects no request.
use Rattle.std.proofs.Common.{◌≡◌, ◌≢◌, inl, inr, ⊎_elim, ◌≤◌, ◌<◌, ℕ, ◌+◌, max, Bool, true, Some, None, List, [], ◌∷◌}
use Rattle.std.proofs.Common.{◌++◌}
use Rattle.std.proofs.Common.{map, refl, ap, sym, subst, ◌∙◌, arith, append_assoc, Result}
use Rattle.std.proofs.lemmas.List.{map-append}
use Rattle.coap_types.specs.Past.{Ever, Sometime, Always, Since}
use Rattle.coap_types.proofs.Facts.Endpoints.{same_endpoint_is}
use Rattle.coap_types.proofs.Facts.Traces.{Always_back}
use Rattle.coap_types.specs.Roles.{role_of}
use Rattle.coap_types.specs.declared.endpoint.Endpoint.{Endpoint}
use Rattle.coap_types.specs.declared.message.Kind.TheVariants.{Con, Rst}
use Rattle.coap_types.specs.declared.role.Role.TheVariants as role
use Rattle.coap_codec.specs.Message.{Message, Spells}
use Rattle.coap_codec.proofs.Facts.EveryDatagram.{one_message}
use Rattle.coap_layer.specs.Arrivals.{Arrival, Faulted, Whole, Shows}
use Rattle.coap_layer.specs.Channel.{Hop, Near, Far, near_of, far_of, OnFarThen, Takes, RepliesTo, IsLatest}
use Rattle.coap_layer.specs.Machine.State.{State, start, made}
use Rattle.coap_layer.specs.Machine.Steps.{Steps, left_after}
use Rattle.coap_layer.specs.Rows.{LayerLaw, Stands, Row, Sorts, HandedAs, Arrives, Outstanding, rejects, drops}
use Rattle.coap_layer.specs.Rows.{takes_ack, takes_reset, passes_reset, takes_answer, replays, hands_over}
use Rattle.coap_layer.specs.Sends.{as_begun, IsIn, IsOpen}
use Rattle.coap_layer.specs.Taking.{IsTold, HearsReset, ResetsMeant}
use Rattle.coap_layer.specs.Trace as L
use Rattle.coap_layer.specs.Words.{Incoming, Open, handed, handed_in, is_to, outstanding}
use Rattle.coap_layer.specs.declared.setup.Setup.{Setup}
use Rattle.coap_exchange.specs.declared.asker.Turn.TheVariants as turn_is
use Rattle.coap_exchange.specs.AskerArrivals.{told, verdict_on}
use Rattle.coap_exchange.specs.AskerLaw as X
use Rattle.coap_exchange.specs.AskerSteps as P
use Rattle.coap_exchange.specs.AskerTrace as E
use Rattle.coap_exchange.specs.declared.asker.AskRefusal.{AskRefusal}
use Rattle.coap_exchange.specs.declared.asker.Event.TheVariants as event_is
use Rattle.coap_exchange.specs.declared.asker.Exchange.{Exchange}
use Rattle.coap_exchange.specs.declared.matching.Verdict.{Verdict}
use Rattle.coap_exchange.specs.declared.matching.Verdict.TheVariants.{AnswerCon, Answer, NoticeCon, Notice, EndByReset}
use Rattle.coap_exchange.proofs.Facts.ClientSide.{server_is}
use Rattle.coap_exchange.proofs.Facts.Verdicts.{Fits, OfRequest, verdict_fits}
use Rattle.coap_client.specs.Deeds.{close, deeds, effect}
use Rattle.coap_client_laws.specs.Follows.Ends.{ends_as}
use Rattle.coap_client_laws.specs.Follows.Open.{IsOpenSince}
use Rattle.coap_client.specs.Sendings.{Sending}
use Rattle.coap_client.specs.Law.{ClientLaw, own_of, lower_of, layer_of}
use Rattle.coap_client.specs.Trace as C
use Rattle.coap_client.specs.Trace.{Reset}
use Rattle.coap_client_laws.proofs.Facts.Exchanges.{open_runs}
use Rattle.coap_client_laws.proofs.Facts.Laws as client_facts
use Rattle.coap_server_laws.specs.Follows.Rejects.{RejectsSo}
use Rattle.coap_server_laws.proofs.Facts.Laws as server_facts
use Rattle.coap_promise.specs.CameFrom.{request_of}
use Rattle.coap_record.specs.Events.{Config}
use Rattle.coap_promise.specs.Hops.{client_asks, client_asked, client_adds, server_adds, hops_in}
use Rattle.coap_record.specs.Record.{Entry, OfClient, OfServer, client_of, server_trace}
use Rattle.coap_promise.proofs.Facts.Delivery.EntriesInTime.{Every}
use Rattle.coap_promise.proofs.Facts.Delivery.HopsAreEntries.{client_asked_next, near_is, far_is}
use Rattle.coap_smooth.proofs.Smoothly.Answers.ConsCarry.{request_spelled, is_request, was_message}
use Rattle.coap_smooth.proofs.Smoothly.Answers.EndsByTime.{at_input}
use Rattle.coap_smooth.proofs.Smoothly.Answers.ExchangeOpen.{OpenOf, open_of, Runs, runs_of, Lonely, Waited, lonely}
use Rattle.coap_smooth.proofs.Smoothly.Arriving.FewArrive.{last_answer, newer, parts}
use Rattle.coap_smooth.proofs.Smoothly.Arriving.HandedAs.{as_request}
use Rattle.coap_smooth.proofs.Smoothly.Requests.LastWasSent.{was_sent}
use Rattle.coap_smooth.proofs.Smoothly.Arriving.OnTime.{every_last}
use Rattle.coap_smooth.proofs.Smoothly.Arriving.OthersTakeNone.{Behind, client_feeds}
use Rattle.coap_smooth.proofs.Smoothly.Requests.RequestOpen.{HasCon, has_con, alone_now}
use Rattle.coap_fair.proofs.Runs.Stands.{ForClient, ForServer, client_behind, server_behind}
use Rattle.coap_fair.proofs.Runs.YoungCalls.{YoungAt}
use Rattle.coap_record.specs.declared.addresses.Addresses.{Addresses}

-- A Reset that is told was handed up, for the request of the exchange that runs.
record IsReset (s : E.Own) (from : Endpoint) (up : L.Answer) : Type 0 where
  id : ℕ
  is : up ≡ L.Becomes (L.Reset id)
  of : OfRequest s from id

reset_by : (s : E.Own) (from : Endpoint) (up : L.Answer) (v : Verdict) → Fits s from up v
    → Some event_is.Reset ≡ told v up → IsReset s from up
reset_by s from up EndByReset f h = record { id = f.0; is = f.1; of = f.2 }
reset_by s from up AnswerCon f h =
    let k : Some event_is.Reset ≡ Some (event_is.Answer f.message) = h ∙ ap (told AnswerCon) f.is in absurd (cc k)
reset_by s from up Answer f h =
    let k : Some event_is.Reset ≡ Some (event_is.Answer f.message) = h ∙ ap (told Answer) f.is in absurd (cc k)
reset_by s from up NoticeCon f h =
    let k : Some event_is.Reset ≡ Some (event_is.Notice f.message) = h ∙ ap (told NoticeCon) f.is in absurd (cc k)
reset_by s from up Notice f h =
    let k : Some event_is.Reset ≡ Some (event_is.Notice f.message) = h ∙ ap (told Notice) f.is in absurd (cc k)
reset_by s from up _ f h = absurd (cc h)

-- .. and taken as an Empty message of what is outstanding
record TakesIt (past : List L.Entry) (from : Endpoint) (bytes : List ℕ) (id : ℕ) : Type 0 where
  message : Message
  spells : Spells bytes message
  kind : message.kind ≡ Rst
  matches : Outstanding past from id

module _ (setup : Setup) (past : List L.Entry) (e : L.Entry) (from : Endpoint) (bytes : List ℕ) (id : ℕ)
    (up : e.answer ≡ L.Becomes (L.Reset id)) where
  sorted : (n : Message) → Spells bytes n → Sorts setup past e (record { from = from; message = n })
      → TakesIt past from bytes id
  sorted n s (takes_reset r) =
      let k : L.Becomes (L.Reset n.id) ≡ L.Becomes (L.Reset id) = sym r.answer ∙ up in
      let same : n.id ≡ id = cc k in
      record { message = n; spells = s; kind = r.kind; matches = subst (Outstanding past from) same r.matches }
  sorted n s (takes_ack r) = absurd (cc (r.answer, up))
  sorted n s (rejects r) = absurd (cc (r.answer, up))
  sorted n s (drops r) = absurd (cc (r.answer, up))
  sorted n s (passes_reset r) = absurd (cc (r.answer, up))
  sorted n s (takes_answer r) = absurd (cc (r.answer, up))
  sorted n s (replays r) = absurd (cc (r.answer, up))
  sorted n s (hands_over r) = go r.answer
    where
      go : HandedAs setup past e (record { from = from; message = n }) → TakesIt past from bytes id
      go (inl a) = absurd (cc (a.2, up))
      go (inr (inl a)) = absurd (cc (a.3, up))
      go (inr (inr a)) = absurd (cc (a.1, up))

  arrived : (what : Arrival) → Shows bytes what → Arrives setup past e from what → TakesIt past from bytes id
  arrived (Whole n) s r = sorted n s r
  arrived (Faulted Con i) s r = absurd (cc (r.0, up))
  arrived _ s r = absurd (cc (r.0, up))

takes_it : (setup : Setup) (past : List L.Entry) (e : L.Entry) (from : Endpoint) (bytes : List ℕ) (id : ℕ)
    → Stands setup past e → e.call ≡ L.Receive from bytes → e.answer ≡ L.Becomes (L.Reset id)
    → TakesIt past from bytes id
takes_it setup past e from bytes id here call up =
    let row : Row setup past e (L.Receive from bytes) = subst (Row setup past e) call here.row in
    arrived setup past e from bytes id up row.0 row.1 row.2

-- At the other end this request was handed up, and no request is rejected.
module _ (addresses : Addresses) (setup : Setup) (con : Open) (n : Message) (spells : Spells con.bytes n)
    (kind : n.kind ≡ Con)
    (class : role_of n.code ≡ role.Request) where
  up_as : (past : List L.Entry) (y : L.Entry) → Stands setup past y → Takes addresses.client con y
      → handed y ≡ Some (record { from = addresses.client; message = n })
  up_as past y here k =
      let answer = as_request setup past y addresses.client con.id con.bytes n here k.call spells kind k.up class in
      ap (λ d. handed_in d y.answer) k.call ∙ ap (λ z. handed_in (L.Receive addresses.client con.bytes) z) answer

  latest_is : (t : List L.Entry) (m : Incoming) (at : ℕ) → LayerLaw setup t
      → Since (λ y. Takes addresses.client con y × (y.at ≡ at)) (λ y. handed y ≡ None) t → IsLatest t at m → m.message
      ≡ n
  latest_is [] m at law a b = absurd a
  latest_is (y ∷ t) m at law (inl a) (inl b) =
      let first : Incoming = record { from = addresses.client; message = n } in
      let both : Some first ≡ Some m = sym (up_as t y law.0 a.0) ∙ b.0 in
      let same : first ≡ m = cc both in
      ap (λ (z : Incoming). z.message) (sym same)
  latest_is (y ∷ t) m at law (inl a) (inr b) = let k = sym b.0 ∙ up_as t y law.0 a.0 in absurd (cc k)
  latest_is (y ∷ t) m at law (inr a) (inl b) = let k = sym a.0 ∙ b.0 in absurd (cc k)
  latest_is (y ∷ t) m at law (inr a) (inr b) = latest_is t m at law.1 a.1 b.1

  module _ (bytes : List ℕ) (reset : Message) (spelled : Spells bytes reset)
      (is_reset : reset.kind ≡ Rst) where
    never_rejected : (hs : List Hop) → LayerLaw setup (far_of hs) → Always RejectsSo (far_of hs)
        → Sometime (OnFarThen (RepliesTo addresses.client con bytes)) hs → ⊥
    never_rejected [] law so h = h
    never_rejected (Near e ∷ hs) law so (inl h) = h
    never_rejected (Near e ∷ hs) law so (inr h) = never_rejected hs law so h
    never_rejected (Far e ∷ hs) law so (inr h) = never_rejected hs law.1 so.1 h
    never_rejected (Far e ∷ hs) law so (inl h) =
        let k = so.0 addresses.client con.id bytes h.call in
        let same = latest_is (far_of hs) k.at_once.to_what e.at law.1 h.to_it k.at_once.latest in
        let alike : reset ≡ k.at_once.reply = one_message bytes reset k.at_once.reply spelled k.at_once.spells in
        let rst : k.at_once.reply.kind ≡ Rst = ap (λ (z : Message). z.kind) (sym alike) ∙ is_reset in
        let z = sym (k.class rst) ∙ ap (λ (y : Message). role_of y.code) same ∙ class in
        cc z

module _ (config : Config) (most : ℕ) where
  abbrev Law : List C.Call → Type 0
  Law t = ClientLaw config.addresses.server config.client_sizes config.client_setup t

  abbrev layer : List C.Call → List L.Entry
  layer t = layer_of config.addresses.server config.client_sizes config.client_setup t

  abbrev Meant : List Entry → Type 0
  Meant es = ResetsMeant config.addresses.client config.addresses.server (hops_in config es)

  module _ (es : List Entry) (now : ℕ) (from : Endpoint) (bytes : List ℕ) (w : ℕ) (up : L.Answer) (settled : Bool)
      (sent : L.Answer) (token : Result (List ℕ) AskRefusal) (kept : Bool) where
    abbrev c : C.Call
    c = C.Feeds now from bytes w up settled (Some event_is.Reset) sent token kept

    abbrev t : List C.Call
    t = client_of es

    abbrev here : E.Own
    here = X.own_of config.addresses.server config.client_setup (lower_of config.client_sizes t)

    module _ (law : Law (c ∷ t)) where
      told_here : IsReset here from up
      told_here =
          let m : ℕ = max (own_of config.client_sizes t).clock now in
          let f = effect (own_of config.client_sizes t) c in
          let input : E.Call = E.Receive m from bytes up settled (Some event_is.Reset) in
          let right = at_input (λ p d. P.IsRight (X.own_of config.addresses.server config.client_setup p) d)
          (deeds (close m f token).deed (close m f token).own m w sent token kept)
          (deeds f.deed f.own m w sent token kept) input (lower_of config.client_sizes t) law.exchanges.rows in
          reset_by here from up (verdict_on here from up) (verdict_fits here from up) right.0

      old : Law t
      old = client_facts.back config.addresses.server config.client_sizes config.client_setup (c ∷ []) t law

      there : from ≡ config.addresses.server
      there = same_endpoint_is from here.server told_here.of.there
          ∙ server_is config.addresses.server config.client_setup (lower_of config.client_sizes t)

      -- the arrival is the oldest of what the call adds
      b : Behind (L.Receive from bytes) up (client_asks config t c)
      b = client_feeds config t now from bytes w up settled (Some event_is.Reset) sent token kept

      abbrev first : State
      first = left_after (start config.client_setup) (client_asked config t)

      abbrev e : L.Entry
      e = made first b.now (L.Receive from bytes)

      abbrev newest : List L.Entry
      newest = newer first (client_asks config t c) (L.Receive from bytes) up b

      answer : e.answer ≡ up
      answer = last_answer (start config.client_setup) (client_asks config t c) (client_asked config t)
          law.exchanges.left
          (subst (λ a. Steps (start config.client_setup) a law.exchanges.left) (client_asked_next config t c)
          law.exchanges.layer) (L.Receive from bytes) up b

      adds : client_adds config t c ≡ newest ++ e ∷ []
      adds = parts first (client_asks config t c) (L.Receive from bytes) up b

      whole : layer (c ∷ t) ≡ newest ++ (e ∷ layer t)
      whole = client_facts.layer_next config.addresses.server config.client_sizes config.client_setup t c
          ∙ ap (λ a. a ++ layer t) adds
          ∙ append_assoc newest (e ∷ []) (layer t)

      taken : TakesIt (layer t) from bytes told_here.id
      taken =
          let stands = (Always_back (Stands config.client_setup) newest (e ∷ layer t)
          (subst (LayerLaw config.client_setup) whole
          (client_facts.layer config.addresses.server config.client_sizes config.client_setup (c ∷ t) law))).0 in
          takes_it config.client_setup (layer t) e from bytes told_here.id stands refl (answer ∙ told_here.is)

      hops : hops_in config (OfClient c ∷ es) ≡ map Near newest ++ (Near e ∷ hops_in config es)
      hops = ap (λ l. map Near l ++ hops_in config es) adds
          ∙ ap (λ l. l ++ hops_in config es) (map-append Near newest (e ∷ []))
          ∙ append_assoc (map Near newest) (Near e ∷ []) (hops_in config es)

      module _ (server : ForServer config es) (young : YoungAt config most t c) (meant : Meant (OfClient c ∷ es))
          (at : ℕ) (is_open : IsOpenSince config.client_sizes at t) (x : Sending)
          (o : OpenOf config.addresses.server config.client_sizes config.client_setup at x t)
          (r : Runs config.addresses.server config.client_sizes config.client_setup at x t)
          (short : most < 247000) where
        soon : e.at ≤ at + most
        soon = every_last (λ (y : L.Entry). y.at ≤ at + most) newest e
            (subst (Every (λ (y : L.Entry). y.at ≤ at + most)) adds (young.adds at is_open))

        by_wait : Waited config.addresses.server config.client_sizes config.client_setup r.exchange t → ⊥
        by_wait k = subst (Ever (λ z. is_to from told_here.id z ≡ true)) k.none taken.matches

        by_con : HasCon config.addresses.server config.client_sizes config.client_setup at x t o
            → Lonely config.addresses.server config.client_sizes config.client_setup at x r.exchange t → ⊥
        by_con h k =
            let con : Open = k.con in
            let stays : IsOpen (layer t) (as_begun con) =
            subst (Ever (λ z. as_begun z ≡ as_begun con)) (sym k.only) (inl refl) in
            let same : as_begun con ≡ h.con =
            alone_now config.addresses.server config.client_sizes config.client_setup h.con at x t o h.alone
            (as_begun con) stays in
            let to : con.to ≡ config.addresses.server = ap (λ (z : Open). z.to) same ∙ h.is.to in
            let n : Message = request_of h.con.id x in
            let spells : Spells con.bytes n =
            subst (λ b. Spells b n) (sym (ap (λ (z : Open). z.bytes) same))
            (request_spelled config.addresses config.client_setup (layer t) h.con x
            (client_facts.layer config.addresses.server config.client_sizes config.client_setup t old) h.begun_before
            h.is) in
            let class : role_of n.code ≡ role.Request =
            is_request x (was_message config.client_sizes x t (was_sent config.addresses.server config.client_sizes
            config.client_setup at x t o)) in
            let is_told : IsTold con.bytes = record { message = n; spells = spells; class = inl class } in
            let both : Some told_here.of.exchange ≡ Some r.exchange = sym told_here.of.runs ∙ r.runs in
            let alike : told_here.of.exchange ≡ r.exchange = cc both in
            let id : told_here.id ≡ con.id =
            told_here.of.id_is ∙ ap (λ (y : Exchange). y.id.0) alike ∙ sym k.id in
            let begun_at : con.first ≡ at = k.first in
            let in_time = soon in
            let is_near : near_of (hops_in config es) ≡ layer t = near_is config es in
            let hears : HearsReset con (near_of (hops_in config es)) e =
            record {
              is_outstanding = subst (λ l. IsIn con (outstanding l)) (sym is_near)
                  (subst (Ever (λ z. z ≡ con)) (sym k.only) (inl refl));
              bytes = bytes;
              call = ap (λ p. L.Receive p bytes) (there ∙ sym to);
              answer = answer ∙ told_here.is ∙ ap (λ z. L.Becomes (L.Reset z)) id;
              young = omega (arith, begun_at, in_time, short);
            } in
            let given = (Always_back _ (map Near newest) (Near e ∷ hops_in config es)
            (subst (Always (λ past z. (y : L.Entry) (d : Open) → z ≡ Near y → d.to ≡ config.addresses.server
            → IsTold d.bytes
            → (q : HearsReset d (near_of past) y) → Sometime (OnFarThen (RepliesTo config.addresses.client d q.bytes))
            past)) hops
            meant)).0 e con refl to is_told hears in
            never_rejected config.addresses config.server_setup con n spells refl class bytes taken.message taken.spells
            taken.kind (hops_in config es)
            (subst (LayerLaw config.server_setup) (sym (far_is config es))
            (server_facts.layer config.limits config.server_szx config.server_setup (server_trace config es) server))
            (subst (Always RejectsSo) (sym (far_is config es))
            (server_facts.rejects_responses config.limits config.server_szx config.server_setup (server_trace config es)
            server)) given

        not_so : ⊥
        not_so = ⊎_elim
            (by_con (has_con config.addresses.server config.client_sizes config.client_setup at x t old o)) by_wait
            (lonely config.addresses.server config.client_sizes config.client_setup at x t old r)

      never : most < 247000 → ForServer config es → YoungAt config most t c → Meant (OfClient c ∷ es) → ⊥
      never short server young meant =
          let k = (open_runs config.addresses.server config.client_sizes config.client_setup t old).is_open
          told_here.of.exchange
          told_here.of.runs in
          let o = open_of config.addresses.server config.client_sizes config.client_setup k.0 t old k.1 in
          let r = runs_of config.addresses.server config.client_sizes config.client_setup k.0 o.0 t old o.1 in
          not_so server young meant k.0 k.1 o.0 o.1 r short

  no_reset : most < 247000 → (es : List Entry) (c : C.Call) → Law (c ∷ client_of es) → ForServer config es
      → YoungAt config most (client_of es) c
      → Meant (OfClient c ∷ es) → ends_as c ≢ Some Reset
  no_reset short es (C.Feeds now from bytes w up settled (Some event_is.Reset) sent token kept) law server young meant
      is =
      never es now from bytes w up settled sent token kept law short server young meant
  no_reset short es (C.Ticks now w below (turn_is.End event_is.Timeout) sent token kept answer) law server young meant
      is = cc is
  no_reset short es _ law server young meant is = cc is

  pub never_reset : most < 247000 → (es : List Entry) → ForClient config es → ForServer config es
      → Always (YoungAt config most) (client_of es) → Meant es
      → Always (λ past c. ends_as c ≢ Some Reset) (client_of es)
  never_reset short [] law server young meant = tt
  never_reset short (OfServer c ∷ es) law server young meant =
      never_reset short es (client_behind config (OfServer c ∷ []) es law)
      (server_behind config (OfServer c ∷ []) es server)
      young (Always_back _ (map Far (server_adds config (server_trace config es) c)) (hops_in config es) meant)
  never_reset short (OfClient c ∷ es) law server young meant = (
    no_reset short es c law (server_behind config (OfClient c ∷ []) es server) young.0 meant,
    never_reset short es (client_behind config (OfClient c ∷ []) es law)
        (server_behind config (OfClient c ∷ []) es server)
        young.1 (Always_back _ (map Near (client_adds config (client_of es) c)) (hops_in config es) meant),
  )

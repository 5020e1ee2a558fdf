-- What a client hears the server made not long before: the entry that made it is young.
use Rattle.std.proofs.Common.{◌≡◌, ◌≤◌, ◌⊎◌, inl, inr, ℕ, ◌+◌, ◌<◌, Some, List, [], ◌∷◌, ◌++◌, map, refl, ap, sym}
use Rattle.std.proofs.Common.{subst}
use Rattle.std.proofs.Common.{◌∙◌, arith}
use Rattle.coap_types.specs.Past.{Ever, Sometime}
use Rattle.coap_types.proofs.Facts.Traces.{Ever_append, Ever_back, Ever_map, Sometime_map, by_suffix}
use Rattle.coap_types.specs.Roles.{role_of}
use Rattle.coap_types.specs.declared.message.Kind.TheVariants.{Con, Non, Ack}
use Rattle.coap_types.specs.declared.role.Role.TheVariants as role
use Rattle.coap_types.specs.declared.transmission.TheConstants.{EXCHANGE_LIFETIME_MS as exchange_lifetime}
use Rattle.coap_types.specs.declared.transmission.TheConstants.{LAST_ARRIVAL_MS as last_arrival}
use Rattle.coap_types.specs.declared.transmission.TheConstants.{MAX_LATENCY_MS as max_latency}
use Rattle.coap_types.specs.declared.transmission.TheConstants.{MAX_TRANSMIT_WAIT_MS as max_transmit_wait}
use Rattle.coap_codec.specs.Message.{Message, Spells}
use Rattle.coap_layer.specs.Channel.{Hop, Near, Far, near_of, far_of, OnFar, PlainSent}
use Rattle.coap_layer.specs.Clocks.{Clocks, turned}
use Rattle.coap_layer.specs.Paced.{Meanwhile, CanArrive, Lately, ChannelLaw, RepliedBehind}
use Rattle.coap_layer.specs.Rested.{RestsFrom}
use Rattle.coap_layer.specs.Rows.{LayerLaw}
use Rattle.coap_layer.specs.Sends.{PlainOut}
use Rattle.coap_layer.specs.Trace as T
use Rattle.coap_layer.specs.Words.{Open, begun, clock}
use Rattle.coap_layer.proofs.Facts.Laws.{acks_heard, responses_spelled}
use Rattle.coap_layer.proofs.Facts.Paced.{earlier, begun_as, nons_sent, acks_lately, acks_behind, rested_since}
use Rattle.coap_layer.specs.declared.setup.Setup.{Setup}
use Rattle.coap_client_laws.specs.Follows.Noted.{HeardAt}
use Rattle.coap_client.specs.Trace as C
use Rattle.coap_client_laws.proofs.Facts.Laws as client_facts
use Rattle.coap_server.specs.Trace as S
use Rattle.coap_server_laws.proofs.Facts.EachCall.{Made, con_made, plain_made, reply_made}
use Rattle.coap_promise.specs.Answers.{AnswersAt}
use Rattle.coap_record.specs.Events.{Config}
use Rattle.coap_promise.specs.Fresh.{age_in}
use Rattle.coap_promise.specs.Hops.{hops_in, across, client_adds, server_adds}
use Rattle.coap_record.specs.Record.{Entry, OfClient, OfServer, client_of, server_trace}
use Rattle.coap_promise.proofs.Facts.Delivery.ChannelAcross.{near_across}
use Rattle.coap_promise.proofs.Facts.Delivery.HopsAreEntries.{client_layer, client_next, near_near, near_far, far_near}
use Rattle.coap_promise.proofs.Facts.Delivery.HopsAreEntries.{far_far}
use Rattle.coap_promise.proofs.Facts.Paced.ChannelAcross.{channel_across}
use Rattle.coap_promise.proofs.Facts.Requests.OfACall.{Lawful, lawful_back}
use Rattle.coap_promise.proofs.Facts.Observations.Positions.{across_near}
use Rattle.coap_promise.proofs.Facts.Observations.ToldThen.{begun_then, sent_then}
use Rattle.coap_promise.proofs.Facts.Reports.Answered.{answers_at, not_empty}
use Rattle.coap_promise.proofs.Reports.HeardWasSent.{Reads, reads}
use Rattle.coap_promise.proofs.Age.Young.{Young, by_ack, by_open, by_own, And, Covers}
use Rattle.coap_record.specs.declared.addresses.Addresses.{Addresses}

-- in a CON of the near layer, which can arrive at this moment
record ConCame (addresses : Addresses) (clocks : Clocks) (m : Message) (at : ℕ) (hs : List Hop) : Type 0 where
  pub con : Open
  pub begun_before : Ever (λ b. begun b ≡ Some con) (near_of hs)
  pub to_is : con.to ≡ addresses.client
  pub spells : Spells con.bytes m
  pub then : CanArrive clocks con.first at

-- .. a NON that it sent at most MAX_LATENCY before
record NonCame (addresses : Addresses) (clocks : Clocks) (m : Message) (at : ℕ) (hs : List Hop) : Type 0 where
  pub bytes : List ℕ
  pub spells : Spells bytes m
  pub sent : Meanwhile clocks at (near_of hs) (λ when. Ever (PlainSent addresses.client bytes when) (near_of hs))

-- .. or an acknowledgement that is taken lately, which the far layer was given behind the CON's beginning
abbrev GivenBehind : Addresses → ℕ → ℕ → List ℕ → List Hop → Hop → Type 0
GivenBehind addresses first id bytes past h = OnFar (λ b. b.call ≡ T.Reply addresses.client id bytes) h
    × (first ≤ clock (near_of past))

record AckCame (addresses : Addresses) (clocks : Clocks) (m : Message) (at : ℕ) (hs : List Hop) : Type 0 where
  pub bytes : List ℕ
  pub spells : Spells bytes m
  pub first : ℕ
  pub lately : Lately clocks first at
  pub rested : (rest : ℕ) → Ever (RestsFrom rest) (near_of hs) → rest < first + max_transmit_wait
  pub given : Sometime (GivenBehind addresses first m.id bytes) hs

given_by : (addresses : Addresses) (clocks : Clocks) (con : Open) (id : ℕ) (bytes other : List ℕ) → con.id ≡ id → bytes
    ≡ other → (past : List Hop) (h : Hop)
    → RepliedBehind clocks addresses.client con bytes past h → GivenBehind addresses con.first id other past h
given_by addresses clocks con id bytes other is same past (Near e) k = absurd k.0
given_by addresses clocks con id bytes other is same past (Far e) k = (
  k.0.call ∙ (ap (λ n. T.Reply addresses.client n bytes) is ∙ ap (λ z. T.Reply addresses.client id z) same),
  k.1,
)

-- not in the near layer's own entries
far_only : (addresses : Addresses) (first id : ℕ) (bytes : List ℕ) (xs : List T.Entry) (hs : List Hop)
    → Sometime (GivenBehind addresses first id bytes) (map Near xs ++ hs)
    → Sometime (GivenBehind addresses first id bytes) hs
far_only addresses first id bytes [] hs h = h
far_only addresses first id bytes (x ∷ xs) hs (inl h) = absurd h.0
far_only addresses first id bytes (x ∷ xs) hs (inr h) = far_only addresses first id bytes xs hs h

module _ (addresses : Addresses) (clocks : Clocks) (one other : Setup) (m : Message) (at : ℕ) (hs : List Hop) where
  -- the message in the bytes that arrive
  record Spelled (from : T.Entry) : Type 0 where
    pub bytes : List ℕ
    pub call : from.call ≡ T.Receive addresses.server bytes
    pub spells : Spells bytes m

  spelled : (setup : Setup) (x : T.Entry) (past : List T.Entry) → LayerLaw setup (x ∷ past)
      → HeardAt addresses.server m at x
      → Spelled x
  spelled setup x past law h =
      let s = (responses_spelled setup (x ∷ past) law).0 m h.hears.answer in
      let calls : T.Receive s.from s.bytes ≡ T.Receive addresses.server h.hears.bytes = sym s.call ∙ h.hears.call in
      let place : s.from ≡ addresses.server = cc calls in
      record { bytes = s.bytes; call = s.call ∙ ap (λ z. T.Receive z s.bytes) place; spells = s.spells }

  con_came : (adds : List T.Entry) → ChannelLaw clocks one other addresses.server addresses.client (map Far adds ++ hs)
      → Ever (HeardAt addresses.server m at) adds → m.kind ≡ Con → ConCame addresses clocks m at hs
  con_came [] law h kind = absurd h
  con_came (x ∷ adds) law (inr h) kind = con_came adds
      (earlier clocks one other addresses.server addresses.client (map Far adds ++ hs) (Far x) law) h kind
  con_came (x ∷ adds) law (inl h) kind =
      let past = map Far adds ++ hs in
      let s = spelled other x (far_of past) law.far_law h in
      let w = begun_as clocks one other addresses.server addresses.client past x s.bytes law s.call m s.spells kind in
      let b = w.so in
      record {
        con = b.con;
        begun_before = subst (Ever (λ e. begun e ≡ Some b.con)) (near_far adds hs) b.begun;
        to_is = b.to_is;
        spells = subst (λ z. Spells z m) (sym b.bytes_are) s.spells;
        then = record { instant = w.instant; shown = w.shown ∙ h.at_is; from = b.from; till = b.till };
      }

  non_came : (adds : List T.Entry) → ChannelLaw clocks one other addresses.server addresses.client (map Far adds ++ hs)
      → Ever (HeardAt addresses.server m at) adds → m.kind ≡ Non → NonCame addresses clocks m at hs
  non_came [] law h kind = absurd h
  non_came (x ∷ adds) law (inr h) kind = non_came adds
      (earlier clocks one other addresses.server addresses.client (map Far adds ++ hs) (Far x) law) h kind
  non_came (x ∷ adds) law (inl h) kind =
      let past = map Far adds ++ hs in
      let s = spelled other x (far_of past) law.far_law h in
      let sent = (nons_sent clocks one other addresses.server addresses.client (Far x ∷ past) law).0 x s.bytes m refl
      s.call s.spells kind
      in
      record {
        bytes = s.bytes;
        spells = s.spells;
        sent = subst (λ n. Meanwhile clocks n (near_of hs) (λ when. Ever (PlainSent addresses.client s.bytes when)
            (near_of hs)))
            h.at_is
            (subst (λ l. Meanwhile clocks x.at l (λ when. Ever (PlainSent addresses.client s.bytes when) l))
            (near_far adds hs) sent);
      }

  ack_came : (adds : List T.Entry) → ChannelLaw clocks one other addresses.client addresses.server (map Near adds ++ hs)
      → Ever (HeardAt addresses.server m at) adds → m.kind ≡ Ack → AckCame addresses clocks m at hs
  ack_came [] law h kind = absurd h
  ack_came (x ∷ adds) law (inr h) kind = ack_came adds
      (earlier clocks one other addresses.client addresses.server (map Near adds ++ hs) (Near x) law) h kind
  ack_came (x ∷ adds) law (inl h) kind =
      let past = map Near adds ++ hs in
      let near = x ∷ near_of past in
      let s = spelled one x (near_of past) law.near_law h in
      let a = (acks_heard one near law.near_law).0 addresses.server h.hears.bytes m.id h.hears.call
      (inr (m, h.hears.answer, kind, refl)) in
      let late = (acks_lately clocks one other addresses.client addresses.server (Near x ∷ past) law).0 x a.0 refl a.1
      a.3 in
      let behind = (acks_behind clocks one other addresses.client addresses.server (Near x ∷ past) law).0 x a.0 refl a.1
      a.3 in
      let calls : T.Receive addresses.server s.bytes ≡ T.Receive a.0.to a.3.bytes = sym s.call ∙ a.3.call in
      let there : s.bytes ≡ a.3.bytes = cc calls in
      let bytes : a.3.bytes ≡ s.bytes = sym there in
      record {
        bytes = s.bytes;
        spells = s.spells;
        first = a.0.first;
        lately = subst (Lately clocks a.0.first) h.at_is late;
        rested = λ rest r. rested_since one (near_of past) law.near_law.1 a.0 rest a.3.is_outstanding
            (subst (Ever (RestsFrom rest)) (sym (near_near adds hs)) (Ever_back (RestsFrom rest) adds (near_of hs) r));
        given = far_only addresses a.0.first m.id s.bytes adds hs
            (Sometime_map (RepliedBehind clocks addresses.client a.0 a.3.bytes)
            (GivenBehind addresses a.0.first m.id s.bytes)
            (given_by addresses clocks a.0 m.id a.3.bytes s.bytes a.2 bytes) past behind);
      }

-- what is handed up is a response
role_heard : (addresses : Addresses) (setup : Setup) (m : Message) (at : ℕ) (xs past : List T.Entry)
    → LayerLaw setup (xs ++ past)
    → Ever (HeardAt addresses.server m at) xs → role_of m.code ≡ role.Response
role_heard addresses setup m at [] past law h = absurd h
role_heard addresses setup m at (x ∷ xs) past law (inr h) = role_heard addresses setup m at xs past law.1 h
role_heard addresses setup m at (x ∷ xs) past law (inl h) =
    (reads setup (xs ++ past) x addresses.server h.hears.bytes m law.0 h.hears.call h.hears.answer).role

module _ (config : Config) where
  -- the server's layer has such an entry from this call
  abbrev AddsAt : (T.Entry → Type 0) → List Entry → Entry → Type 0
  AddsAt K past (OfClient c) = ⊥
  AddsAt K past (OfServer c) = Ever K (server_adds config (server_trace config past) c)

  -- in which entry of the record the server's layer has it
  located : (K : T.Entry → Type 0) (all : List Entry) → Ever K (far_of (hops_in config all)) → Sometime (AddsAt K) all
  located K [] h = absurd h
  located K (OfClient c ∷ past) h = inr (located K past
      (subst (Ever K) (far_near (client_adds config (client_of past) c) (hops_in config past)) h))
  located K (OfServer c ∷ past) h =
      let adds = server_adds config (server_trace config past) c in
      elim (Ever_append K adds (far_of (hops_in config past)) (subst (Ever K) (far_far adds (hops_in config past)) h)) [
        | inl k ↦ inl k
        | inr k ↦ inr (located K past k)
      ]

  -- .. and how far the client's layer had come
  abbrev IsGiven : ℕ → List ℕ → T.Entry → Type 0
  IsGiven id bytes b = b.call ≡ T.Reply config.addresses.client id bytes

  abbrev GivenAt : ℕ → ℕ → List ℕ → List Entry → Entry → Type 0
  GivenAt first id bytes past e = AddsAt (IsGiven id bytes) past e × (first ≤ clock (near_of (hops_in config past)))

  in_far : (first id : ℕ) (bytes : List ℕ) (xs : List T.Entry) (hs : List Hop)
      → Sometime (GivenBehind config.addresses first id bytes) (map Far xs ++ hs)
      → (Ever (IsGiven id bytes) xs × (first ≤ clock (near_of hs)))
      ⊎ Sometime (GivenBehind config.addresses first id bytes) hs
  in_far first id bytes [] hs h = inr h
  in_far first id bytes (x ∷ xs) hs (inl k) = inl
      (inl k.0, subst (λ l. first ≤ clock l) (near_far xs hs) k.1)
  in_far first id bytes (x ∷ xs) hs (inr h) = elim (in_far first id bytes xs hs h)
      [ inl k ↦ inl (inr k.0, k.1) | inr k ↦ inr k ]

  given_at : (first id : ℕ) (bytes : List ℕ) (all : List Entry)
      → Sometime (GivenBehind config.addresses first id bytes) (hops_in config all)
      → Sometime (GivenAt first id bytes) all
  given_at first id bytes [] h = h
  given_at first id bytes (OfClient c ∷ past) h = inr (given_at first id bytes past
      (far_only config.addresses first id bytes (client_adds config (client_of past) c) (hops_in config past) h))
  given_at first id bytes (OfServer c ∷ past) h =
      elim (in_far first id bytes (server_adds config (server_trace config past) c) (hops_in config past) h) [
        | inl k ↦ inl k
        | inr k ↦ inr (given_at first id bytes past k)
      ]

  module _ (m : Message) (is_response : role_of m.code ≡ role.Response) where
    -- the call that gave it to the layer made it
    answers : (past : List Entry) (c : S.Call)
        → Made config.limits config.server_szx config.server_setup config.addresses.client m (server_trace config past)
        c
        → AnswersAt config m past (OfServer c)
    answers past c k =
        let r : Reads k.packet.bytes m = record { spells = k.spells; role = is_response } in
        elim k.made [
          | inl none ↦ absurd (not_empty config m k.packet r k.there none)
          | inr made ↦ answers_at config m k.packet r k.there past (OfServer c) made
        ]

    module _ (clocks : Clocks) (gain max_age at : ℕ) where
      abbrev IsYoung : List Entry → Entry → Type 0
      IsYoung = And (AnswersAt config m) (Young config clocks gain max_age at)

      con_young : last_arrival + gain ≤ max_age → (con : Open) → con.to ≡ config.addresses.client → Spells con.bytes m
          → CanArrive (turned clocks) con.first at
          → (past : List Entry) (e : Entry) → Lawful config (e ∷ past) → AddsAt (λ b. begun b ≡ Some con) past e
          → IsYoung past e
      con_young enough con place spells then past (OfClient c) law h = absurd h
      con_young enough con place spells then past (OfServer c) law h =
          let t = server_trace config past in
          let first = begun_then config t c con h in
          let till = then.till in (
            answers past c (con_made config.limits config.server_szx config.server_setup config.addresses.client m t c
                law.server con h
                place spells),
            by_own tt last_arrival enough (omega arith) then.instant then.shown (omega (arith, first, till)),
          )

      non_young : max_latency + gain ≤ max_age → (bytes : List ℕ) → Spells bytes m → (i : ℕ) → clocks.near i ≡ at
          → (past : List Entry) (e : Entry) → Lawful config (e ∷ past)
          → AddsAt (PlainSent config.addresses.client bytes (clocks.far i)) past e → IsYoung past e
      non_young enough bytes spells i shown past (OfClient c) law h = absurd h
      non_young enough bytes spells i shown past (OfServer c) law h =
          let t = server_trace config past in
          let till = sent_then config t c config.addresses.client bytes (clocks.far i) h in (
            answers past c (plain_made config.limits config.server_szx config.server_setup config.addresses.client m t c
                law.server bytes
                (Ever_map (PlainSent config.addresses.client bytes (clocks.far i))
                (λ b. PlainOut b (record { to = config.addresses.client; bytes = bytes })) (λ b k. k.goes)
                (server_adds config t c) h)
                spells),
            by_own tt max_latency enough (omega arith) i shown till,
          )

      -- taken lately, or so soon after the CON's beginning
      abbrev Soon : ℕ → Type 0
      Soon first = ((exchange_lifetime + gain ≤ max_age) × Lately clocks first at) ⊎ (at ≤ first + max_age)

      ack_young : (bytes : List ℕ) → Spells bytes m → (first : ℕ) → Soon first
          → (past : List Entry) (e : Entry) → Lawful config (e ∷ past) → GivenAt first m.id bytes past e
          → IsYoung past e
      ack_young bytes spells first soon past (OfClient c) law h = absurd h.0
      ack_young bytes spells first soon past (OfServer c) law h =
          let t = server_trace config past in (
            answers past c (reply_made config.limits config.server_szx config.server_setup config.addresses.client m t c
                law.server bytes
                h.0 spells),
            elim soon [ inl k ↦ by_ack tt k.0 first h.1 k.1 | inr k ↦ by_open tt first h.1 k ],
          )

  -- what the message layer of the client hands up at this moment
  pub came_young : (past : List Entry) (c : C.Call) → (law : Lawful config (OfClient c ∷ past)) → (m : Message)
      (gain max_age at : ℕ) → Covers config gain max_age at past m
      → Ever (HeardAt config.addresses.server m at) (client_adds config (client_of past) c)
      → (m.kind ≡ Con) ⊎ ((m.kind ≡ Non) ⊎ (m.kind ≡ Ack))
      → Sometime (And (AnswersAt config m) (Young config law.clocks gain max_age at)) past
  came_young past c law m gain max_age at covers heard kind = by kind covers
    where
      adds : List T.Entry
      adds = client_adds config (client_of past) c

      before : Lawful config past
      before = lawful_back config past (OfClient c) law

      back : (w : List Entry) (e : Entry) → Lawful config (e ∷ w) → Lawful config w
      back w e l = lawful_back config w e l

      response : role_of m.code ≡ role.Response
      response = role_heard config.addresses config.client_setup m at adds (client_layer config (client_of past))
          (subst (LayerLaw config.client_setup) (client_next config (client_of past) c)
          (client_facts.layer config.addresses.server config.client_sizes config.client_setup
          (client_of (OfClient c ∷ past)) law.client))
          heard

      law_across : ChannelLaw (turned law.clocks) config.server_setup config.client_setup config.addresses.server
          config.addresses.client
          (map Far adds ++ across (hops_in config past))
      law_across =
          subst (ChannelLaw (turned law.clocks) config.server_setup config.client_setup config.addresses.server
          config.addresses.client)
          (across_near adds (hops_in config past))
          (channel_across law.clocks config.client_setup config.server_setup config.addresses.client
          config.addresses.server
          (hops_in config (OfClient c ∷ past)) law.channel)

      IsSo : List Entry → Entry → Type 0
      IsSo = And (AnswersAt config m) (Young config law.clocks gain max_age at)

      in_con : m.kind ≡ Con → last_arrival + gain ≤ max_age → Sometime IsSo past
      in_con is enough =
          let k = con_came config.addresses (turned law.clocks) config.server_setup config.client_setup m at
          (across (hops_in config past)) adds
          law_across heard is in
          by_suffix (Lawful config) (AddsAt (λ b. begun b ≡ Some k.con)) IsSo back
          (con_young m response law.clocks gain max_age at enough k.con k.to_is k.spells k.then) past before
          (located (λ b. begun b ≡ Some k.con) past
          (subst (Ever (λ b. begun b ≡ Some k.con)) (near_across (hops_in config past)) k.begun_before))

      in_non : m.kind ≡ Non → max_latency + gain ≤ max_age → Sometime IsSo past
      in_non is enough =
          let k = non_came config.addresses (turned law.clocks) config.server_setup config.client_setup m at
          (across (hops_in config past)) adds
          law_across heard is in
          let w = k.sent in
          let K : T.Entry → Type 0 = PlainSent config.addresses.client k.bytes (law.clocks.far w.instant) in
          by_suffix (Lawful config) (AddsAt K) IsSo back
          (non_young m response law.clocks gain max_age at enough k.bytes k.spells w.instant w.shown) past before
          (located K past (subst (Ever K) (near_across (hops_in config past)) w.so))

      in_ack : m.kind ≡ Ack
          → (exchange_lifetime + gain ≤ max_age)
          ⊎ ((rest : ℕ) × Ever (RestsFrom rest) (near_of (hops_in config past))
          × (at + max_transmit_wait ≤ rest + max_age))
          → Sometime IsSo past
      in_ack is why =
          let k = ack_came config.addresses law.clocks config.client_setup config.server_setup m at
          (hops_in config past) adds law.channel heard
          is in
          let soon : Soon m response law.clocks gain max_age at k.first = elim why [
            | inl enough ↦ inl (enough, k.lately)
            | inr r ↦ inr (let less = k.rested r.0 r.1 in let till = r.2 in omega (arith, less, till))
          ] in
          by_suffix (Lawful config) (GivenAt k.first m.id k.bytes) IsSo back
          (ack_young m response law.clocks gain max_age at k.bytes k.spells k.first soon) past before
          (given_at k.first m.id k.bytes past k.given)

      by : (m.kind ≡ Con) ⊎ ((m.kind ≡ Non) ⊎ (m.kind ≡ Ack)) → Covers config gain max_age at past m
          → Sometime IsSo past
      by (inl is) (inl enough) = in_con is (let age : age_in m.kind
          ≡ last_arrival = ap age_in is in omega (arith, age, enough))
      by (inl is) (inr r) = let ack = r.0 in absurd (cc (is, ack))
      by (inr (inl is)) (inl enough) = in_non is
          (let age : age_in m.kind ≡ max_latency = ap age_in is in omega (arith, age, enough))
      by (inr (inl is)) (inr r) = let ack = r.0 in absurd (cc (is, ack))
      by (inr (inr is)) (inl enough) = in_ack is
          (inl (let age : age_in m.kind ≡ exchange_lifetime = ap age_in is in omega (arith, age, enough)))
      by (inr (inr is)) (inr r) = in_ack is (inr r.1)

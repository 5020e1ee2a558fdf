-- What a client takes of an observation the server told before, and when it was taken.
use Rattle.std.proofs.Common.{◌≡◌, ◌≤◌, ◌⊎◌, inl, inr, ℕ, true, Some, List, [], ◌∷◌, ◌++◌, map, refl, sym, subst, ◌∙◌}
use Rattle.std.proofs.Common.{arith}
use Rattle.coap_types.specs.Past.{Ever, Sometime}
use Rattle.coap_types.proofs.Facts.Traces.{Ever_back, Ever_front, Ever_map, forget}
use Rattle.coap_types.specs.declared.message.Kind.TheVariants.{Con, Non, Ack}
use Rattle.coap_codec.specs.Message.{Message}
use Rattle.coap_layer.specs.Channel.{Hop, Far, far_of, OnFar, near_of}
use Rattle.coap_layer.specs.Clocks.{Clocks, turned}
use Rattle.coap_layer.specs.Paced.{Meanwhile, ChannelLaw, HandsUpAs}
use Rattle.coap_layer.specs.declared.setup.Setup.{Setup}
use Rattle.coap_layer.specs.Trace as T
use Rattle.coap_layer.specs.Words.{Open, clock}
use Rattle.coap_layer.proofs.Facts.Hops.{far_ever}
use Rattle.coap_layer.proofs.Facts.Paced.{earlier}
use Rattle.coap_layer.specs.Rows.{LayerLaw}
use Rattle.coap_observe.specs.Versions.{sequence_number}
use Rattle.coap_block.specs.Sizes.{Sizes}
use Rattle.coap_client.specs.Law as C
use Rattle.coap_client_laws.specs.Follows.Newer.{Newly, notifies}
use Rattle.coap_client_laws.specs.Follows.Noted.{HeardAt}
use Rattle.coap_client_laws.specs.Follows.Notified.{WasRegistered, IsFirst, IsLater, IsTaken}
use Rattle.coap_client_laws.specs.Follows.Types.{IsOfType}
use Rattle.coap_client.specs.Responses.{is_notification, tag_in}
use Rattle.coap_client.specs.Trace.{Call}
use Rattle.coap_client_laws.proofs.Facts.EachCall.{are_noted_at, are_of_types, are_taken}
use Rattle.coap_record.specs.Events.{Config}
use Rattle.coap_promise.specs.Hops.{hops_at, hops_in, across, client_adds, server_adds}
use Rattle.coap_record.specs.Record.{Entry, OfClient, OfServer, client_of, server_trace}
use Rattle.coap_promise.specs.Rising.{Names}
use Rattle.coap_promise.proofs.Facts.Observations.Acknowledged.{before_now}
use Rattle.coap_server_laws.specs.Follows.Told.{ServesNon}
use Rattle.coap_promise.proofs.Facts.Observations.Heard.{Behind, TellsCon, TellsAck, TellsNon, con_told, ack_told}
use Rattle.coap_promise.proofs.Facts.Observations.Heard.{non_told}
use Rattle.coap_promise.proofs.Facts.Delivery.ChannelAcross.{near_across}
use Rattle.coap_promise.proofs.Facts.Delivery.HopsAreEntries.{far_far, far_near}
use Rattle.coap_promise.proofs.Facts.Observations.OneRegistration.{no_non}
use Rattle.coap_promise.proofs.Facts.Observations.OneVersion.{says_number}
use Rattle.coap_promise.proofs.Facts.Observations.Positions.{across_append, across_near, AtClient, server_more}
use Rattle.coap_promise.proofs.Facts.Reports.FormatsSet.{FormatsIn}
use Rattle.coap_promise.proofs.Facts.Reports.HeldThere.{some_shown}
use Rattle.coap_promise.proofs.Facts.Reports.ValuesShown.{taken_shown}
use Rattle.coap_promise.proofs.Facts.Requests.OfACall.{Lawful, lawful_back}
use Rattle.coap_promise.proofs.Facts.Requests.Traced.{sent_later}
use Rattle.coap_record.specs.declared.addresses.Addresses.{Addresses}
use Rattle.coap_promise.proofs.Facts.Requests.AtAnyTime.{at_any_time}

pub far_there : (P : T.Entry → Type 0) (adds : List T.Entry) → Ever P adds → Ever (OnFar P) (map Far adds)
far_there P [] h = h
far_there P (x ∷ adds) (inl h) = inl h
far_there P (x ∷ adds) (inr h) = inr (far_there P adds h)

pub formats_back : (past : List Entry) (e : Entry) → FormatsIn (e ∷ past) → FormatsIn past
formats_back past (OfClient c) h = h
formats_back past (OfServer c) h = h.1

pub formats_before : (later es : List Entry) → FormatsIn (later ++ es) → FormatsIn es
formats_before [] es h = h
formats_before (e ∷ later) es h = formats_before later es (formats_back (later ++ es) e h)

-- what is heard here was not heard before what was heard in the past
pub not_earlier : (addresses : Addresses) (clocks : Clocks) (one other : Setup) (m n : Message) (before now : ℕ)
    (hs : List Hop) (adds : List T.Entry)
    → ChannelLaw clocks one other addresses.server addresses.client (map Far adds ++ hs)
    → Ever (HeardAt addresses.server n now) adds
    → Ever (OnFar (HeardAt addresses.server m before)) hs → before ≤ now
not_earlier addresses clocks one other m n before now hs [] law up h = absurd up
not_earlier addresses clocks one other m n before now hs (x ∷ adds) law (inr up) h = not_earlier addresses clocks one
    other m n before now hs adds
    (earlier clocks one other addresses.server addresses.client (map Far adds ++ hs) (Far x) law) up h
not_earlier addresses clocks one other m n before now hs (x ∷ adds) law (inl up) h =
    let past = map Far adds ++ hs in
    let P : T.Entry → Type 0 = HeardAt addresses.server m before in
    let there = far_ever P past (Ever_back (OnFar P) (map Far adds) hs h) in
    let till = before_now other P (far_of past) x.at law.far_law.1 law.far_law.0.time there in
    let here = up.at_is in
    forget (before ≤ now) (far_of past) (Ever_map (λ e. P e × (e.at ≤ x.at)) (λ e. before ≤ now)
    (λ e k. (let a = k.0.at_is in let b = k.1 in omega (arith, a, b, here))) (far_of past) till)

-- where the one never happened the other did
other_one : {E : Type 0} (A B : List E → E → Type 0) (t : List E) → (Sometime A t → ⊥)
    → Sometime (λ p b. A p b ⊎ B p b) t → Sometime B t
other_one A B [] none h = h
other_one A B (e ∷ t) none (inl (inl a)) = absurd (none (inl a))
other_one A B (e ∷ t) none (inl (inr b)) = inl b
other_one A B (e ∷ t) none (inr h) = inr (other_one A B t (λ k. none (inr k)) h)

module _ (config : Config) where
  abbrev pub sizes : Sizes
  sizes = config.client_sizes

  -- in a NON: at an instant at which the client's clock shows this moment, and the server's one at most MAX_LATENCY
  -- after it was told; the server's layer has come as far
  pub record NonTold (clocks : Clocks) (m : Message) (at : ℕ) (t : List Entry) : Type 0 where
    pub instant : ℕ
    pub shown : clocks.far instant ≡ at
    pub now : ℕ
    pub before : now ≤ clock (near_of (across (hops_in config t)))
    pub told : Sometime (TellsNon config m (clocks.near instant) now) (server_trace config t)

  -- what was heard of an observation, as the server told it: in a CON that began no later and was handed up, in an
  -- acknowledgement, or in a NON
  pub data HeardTold (clocks : Clocks) (m : Message) (at : ℕ) (t : List Entry) : Type 0 where
    in_con : (con : Open) → Behind clocks (across (hops_in config t)) con.first at
        → Ever (OnFar (HandsUpAs clocks config.addresses.server con)) (across (hops_in config t))
        → Sometime (TellsCon config con m) (server_trace config t) → HeardTold clocks m at t
    in_ack : Sometime (TellsAck config m) (server_trace config t) → HeardTold clocks m at t
    in_non : NonTold clocks m at t → HeardTold clocks m at t

  -- the server's layer comes further
  grows : (setup : Setup) (xs past : List T.Entry) → LayerLaw setup (xs ++ past) → clock past ≤ clock (xs ++ past)
  grows setup [] past law = omega arith
  grows setup (x ∷ xs) past law = let k = grows setup xs past law.1 in let l = law.0.time in omega (arith, k, l)

  on_far : (e : Entry) (t : List Entry) → Lawful config (e ∷ t)
      → clock (far_of (hops_in config t)) ≤ clock (far_of (hops_in config (e ∷ t)))
  on_far (OfClient c) t law = subst (λ l. clock (far_of (hops_in config t)) ≤ clock l)
      (sym (far_near (client_adds config (client_of t) c) (hops_in config t))) (omega arith)
  on_far (OfServer c) t law =
      let is = far_far (server_adds config (server_trace config t) c) (hops_in config t) in
      subst (λ l. clock (far_of (hops_in config t)) ≤ clock l) (sym is)
      (grows config.server_setup (server_adds config (server_trace config t) c) (far_of (hops_in config t))
      (subst (LayerLaw config.server_setup) is law.channel.far_law))

  further : (e : Entry) (t : List Entry) → Lawful config (e ∷ t)
      → clock (near_of (across (hops_in config t))) ≤ clock (near_of (across (hops_in config (e ∷ t))))
  further e t law =
      subst (λ l. clock l ≤ clock (near_of (across (hops_in config (e ∷ t))))) (sym (near_across (hops_in config t)))
      (subst (λ l. clock (far_of (hops_in config t)) ≤ clock l) (sym (near_across (hops_in config (e ∷ t))))
      (on_far e t law))

  hops_more : (P : Hop → Type 0) (e : Entry) (t : List Entry) → Ever P (across (hops_in config t))
      → Ever P (across (hops_in config (e ∷ t)))
  hops_more P e t h = subst (Ever P) (sym (across_append (hops_at config t e) (hops_in config t)))
      (Ever_back P (across (hops_at config t e)) (across (hops_in config t)) h)

  hops_here : (P : T.Entry → Type 0) (past : List Entry) (c : Call) → Ever P (client_adds config (client_of past) c)
      → Ever (OnFar P) (across (hops_in config (OfClient c ∷ past)))
  hops_here P past c h =
      let adds = client_adds config (client_of past) c in
      subst (Ever (OnFar P)) (sym (across_near adds (hops_in config past)))
      (Ever_front (OnFar P) (map Far adds) (across (hops_in config past)) (far_there P adds h))

  behind_more : (clocks : Clocks) (sent at : ℕ) (e : Entry) (t : List Entry) → Lawful config (e ∷ t)
      → Behind clocks (across (hops_in config t)) sent at → Behind clocks (across (hops_in config (e ∷ t))) sent at
  behind_more clocks sent at e t law b = let f = further e t law in let k = b.before in
      record { instant = b.instant; shown = b.shown; from = b.from; before = omega (arith, f, k) }

  heard_more : (clocks : Clocks) (m : Message) (at : ℕ) (e : Entry) (t : List Entry) → Lawful config (e ∷ t)
      → HeardTold clocks m at t → HeardTold clocks m at (e ∷ t)
  heard_more clocks m at e t law (in_con con from up told) = in_con con (behind_more clocks con.first at e t law from)
      (hops_more (OnFar (HandsUpAs clocks config.addresses.server con)) e t up)
      (server_more config (TellsCon config con m) e t told)
  heard_more clocks m at e t law (in_ack told) = in_ack (server_more config (TellsAck config m) e t told)
  heard_more clocks m at e t law (in_non k) =
      let f = further e t law in
      let b = k.before in
      in_non (record {
        instant = k.instant;
        shown = k.shown;
        now = k.now;
        before = omega (arith, f, b);
        told = server_more config (TellsNon config m (clocks.near k.instant) k.now) e t k.told;
      })

  registered_more : (number : ℕ) (token : List ℕ) (e : Entry) (t : List Entry)
      → WasRegistered sizes number token (client_of t) → WasRegistered sizes number token (client_of (e ∷ t))
  registered_more number token e t r = record {
    path = r.path;
    sending = r.sending;
    sent = sent_later config r.sending t e r.sent;
    registers = r.registers;
    token_is = r.token_is;
  }

  -- it is heard here
  module _ (past : List Entry) (c : Call) (law : Lawful config (OfClient c ∷ past)) (m : Message) (at : ℕ)
      (hears_it : Ever (HeardAt config.addresses.server m at) (client_adds config (client_of past) c))
      (note : is_notification m ≡ true) where
    -- the server's clock is the near one
    abbrev back : Clocks
    back = turned law.clocks

    abbrev now : ℕ
    now = clock (near_of (across (hops_in config past)))

    -- in a NON that is no answer, since the client sends no NON
    pub non_here : m.kind ≡ Non → Meanwhile back at (near_of (across (hops_in config past)))
        (λ when. Sometime (TellsNon config m when now) (server_trace config past))
    non_here kind =
        let w = non_told config past c law m at hears_it note kind in
        record {
          instant = w.instant;
          shown = w.shown;
          later = w.later;
          so = other_one (ServesNon config.limits config.server_szx config.addresses.client)
              (TellsNon config m (back.near w.instant) now)
              (server_trace config past) (no_non config past (lawful_back config past (OfClient c) law)) w.so;
        }

    heard_here : (m.kind ≡ Con) ⊎ ((m.kind ≡ Non) ⊎ (m.kind ≡ Ack)) → HeardTold back m at (OfClient c ∷ past)
    heard_here (inr (inl kind)) =
        let w = non_here kind in
        let f : now ≤ clock (near_of (across (hops_in config (OfClient c ∷ past)))) = further (OfClient c) past law in
        in_non (record { instant = w.instant; shown = w.shown; now = now; before = f; told = w.so })
    heard_here (inr (inr kind)) = in_ack (ack_told config past c law m at hears_it note kind)
    heard_here (inl kind) =
        let k = con_told config past c law m at hears_it note kind in
        in_con k.con (behind_more back k.con.first at (OfClient c) past law k.behind)
        (hops_here (HandsUpAs back config.addresses.server k.con) past c k.up) k.told

  -- what is taken of an observation was heard so, at the moment that its mark has, under the token of its registration;
  -- and its mark has the number of the version that it shows
  pub record TakenTold (clocks : Clocks) (n : Newly) (t : List Entry) : Type 0 where
    pub told : HeardTold clocks n.message n.mark.at t
    pub heard : Ever (OnFar (HeardAt config.addresses.server n.message n.mark.at)) (across (hops_in config t))
    pub registered : WasRegistered sizes n.number n.message.token (client_of t)
    pub numbered : (v : ℕ) → Names v (tag_in n.message) → n.mark.number ≡ sequence_number v

  module _ (small : config.server_szx ≤ 6) where
    number_here : (past : List Entry) (c : Call) → Lawful config (OfClient c ∷ past) → FormatsIn past → (n : Newly)
        → notifies (C.own_of sizes (client_of past)) c ≡ Some n → IsTaken sizes n (client_of past) c
        → (v : ℕ) → Names v (tag_in n.message) → n.mark.number ≡ sequence_number v
    number_here past c law formats n is k v names =
        let before = lawful_back config past (OfClient c) law in
        let shown = some_shown config n.message past (taken_shown config small n.number n past c
        (at_any_time law) formats is refl).shown
        in
        k.sequence ∙ says_number config past before n.message shown k.notification v names

    pub taken_here : (past : List Entry) (c : Call) → (law : Lawful config (OfClient c ∷ past)) → FormatsIn past
        → (n : Newly) → notifies (C.own_of sizes (client_of past)) c ≡ Some n
        → TakenTold (turned law.clocks) n (OfClient c ∷ past)
    taken_here past c law formats n is =
        let t : List Call = client_of (OfClient c ∷ past) in
        let k = (are_taken config.addresses.server sizes config.client_setup t law.client).0 n is in
        let types = (are_of_types config.addresses.server sizes config.client_setup t law.client).0 in
        let hears = (are_noted_at config.addresses.server sizes config.client_setup t law.client).0 n is in
        record {
          told = heard_here past c law n.message n.mark.at hears k.notification (by types k.comes);
          heard = hops_here (HeardAt config.addresses.server n.message n.mark.at) past c hears;
          registered = registered_more n.number n.message.token (OfClient c) past k.registered;
          numbered = number_here past c law formats n is k;
        }
      where
        by : IsOfType c → IsFirst sizes n (client_of past) c ⊎ IsLater sizes n (client_of past) c
            → (n.message.kind ≡ Con) ⊎ ((n.message.kind ≡ Non) ⊎ (n.message.kind ≡ Ack))
        by types (inl f) = types.heard n.message f.heard
        by types (inr l) = elim (types.noted n.message l.noted) [ inl z ↦ inl z | inr z ↦ inr (inl z) ]

    pub taken_told : (t : List Entry) → (law : Lawful config t) → FormatsIn t → (n : Newly)
        → Sometime (AtClient config (λ p b. notifies (C.own_of sizes p) b ≡ Some n)) t
        → TakenTold (turned law.clocks) n t
    taken_told [] law formats n h = absurd h
    taken_told (OfServer c ∷ past) law formats n (inl h) = absurd h
    taken_told (OfClient c ∷ past) law formats n (inl h) = taken_here past c law formats n h
    taken_told (e ∷ past) law formats n (inr h) =
        let k = taken_told past (lawful_back config past e law) (formats_back past e formats) n h in
        record {
          told = heard_more (turned law.clocks) n.message n.mark.at e past law k.told;
          heard = hops_more (OnFar (HeardAt config.addresses.server n.message n.mark.at)) e past k.heard;
          registered = registered_more n.number n.message.token e past k.registered;
          numbered = k.numbered;
        }

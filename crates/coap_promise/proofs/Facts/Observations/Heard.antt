-- What a client hears of an observation the server told before, in which call, and when.
use Rattle.std.proofs.Common.{◌≡◌, ◌⊎◌, ◌≤◌, inl, inr, ℕ, ◌+◌, true, Option, Some, None, List, [], ◌∷◌, ◌++◌, map, refl}
use Rattle.std.proofs.Common.{ap, sym, subst, ◌∙◌, cond, arith}
use Rattle.coap_types.specs.Past.{Ever, Sometime, Always}
use Rattle.coap_types.specs.declared.transmission.TheConstants.{MAX_LATENCY_MS as max_latency}
use Rattle.coap_types.proofs.Facts.Traces.{by_law, Ever_map, Ever_of_Sometime}
use Rattle.coap_types.specs.declared.message.Kind.TheVariants.{Con, Non, Ack}
use Rattle.coap_codec.specs.Message.{Message, Spells}
use Rattle.coap_layer.specs.Channel.{Hop, Near, Far, near_of, far_of, OnFar, HandedBy, PlainSent, OnFarThen}
use Rattle.coap_layer.specs.Clocks.{Clocks, turned}
use Rattle.coap_layer.specs.Paced.{Meanwhile, ChannelLaw, HandsUpAs, RepliesTo}
use Rattle.coap_layer.specs.Rows.{LayerLaw}
use Rattle.coap_layer.specs.Sends.{PlainOut}
use Rattle.coap_layer.specs.Trace as T
use Rattle.coap_layer.specs.Words.{Open, begun, clock, handed, handed_in, Incoming, is_kept}
use Rattle.coap_layer.proofs.Facts.Hops.{far_ever}
use Rattle.coap_layer.proofs.Facts.Paced.{earlier, acks_replied, begun_as, begun_by_clock, nons_sent}
use Rattle.coap_layer.proofs.Facts.Laws.{acks_heard, handed_spelled}
use Rattle.coap_layer.proofs.Facts.Laws.{responses_spelled}
use Rattle.coap_layer.specs.declared.setup.Setup.{Setup}
use Rattle.coap_client_laws.specs.Follows.Hears.{Hears}
use Rattle.coap_client_laws.specs.Follows.Noted.{HeardAt}
use Rattle.coap_client.specs.Responses.{is_notification}
use Rattle.coap_client.specs.Trace as C
use Rattle.coap_server.specs.Law.{layer_of}
use Rattle.coap_server.specs.Trace as S
use Rattle.coap_server_laws.specs.Follows.Adds.{call_adds}
use Rattle.coap_server.specs.Follows.Tells.{InCon, InNon, InReply}
use Rattle.coap_server_laws.specs.Follows.Told.{TellsIn, ServesNon, TellsSent}
use Rattle.coap_server_laws.proofs.Facts.EachCall.{all_tell_sent}
use Rattle.coap_record.specs.Events.{Config}
use Rattle.coap_promise.specs.Hops.{hops_in, across, client_adds}
use Rattle.coap_record.specs.Record.{Entry, OfClient, client_of, server_trace}
use Rattle.coap_promise.proofs.Facts.Delivery.ChannelAcross.{near_across}
use Rattle.coap_promise.proofs.Facts.Paced.ChannelAcross.{channel_across}
use Rattle.coap_promise.proofs.Facts.Delivery.HopsAreEntries.{near_far, far_near, far_is}
use Rattle.coap_promise.proofs.Facts.Requests.OfACall.{Lawful}
use Rattle.coap_promise.proofs.Facts.Observations.Positions.{across_near, located}
use Rattle.coap_promise.proofs.Facts.Observations.Acknowledged.{before_now}
use Rattle.coap_promise.proofs.Facts.Observations.ToldThen.{told_in_non, told_before}
use Rattle.coap_record.specs.declared.addresses.Addresses.{Addresses}

-- What the near layer sent at this moment of its clock comes as the far one shows that: no sooner by the near clock,
-- and the near layer has come as far.
pub record Behind (clocks : Clocks) (hs : List Hop) (sent at : ℕ) : Type 0 where
  pub instant : ℕ
  pub shown : clocks.far instant ≡ at
  pub from : sent ≤ clocks.near instant
  pub before : sent ≤ clock (near_of hs)

-- a CON is in the bytes of an entry of the near layer, and it is handed up here, at this moment
pub record ConHeard (addresses : Addresses) (clocks : Clocks) (m : Message) (at : ℕ) (adds : List T.Entry)
    (hs : List Hop) : Type 0 where
  pub con : Open
  pub begun_before : Ever (λ b. begun b ≡ Some con) (near_of hs)
  pub to_is : con.to ≡ addresses.client
  pub spells : Spells con.bytes m
  pub up : Ever (HandsUpAs clocks addresses.server con) adds
  pub behind : Behind clocks hs con.first at

-- a NON was sent by the near layer, at most MAX_LATENCY before this moment; an acknowledgement given by the far one

pub record NonHeard (addresses : Addresses) (clocks : Clocks) (m : Message) (at : ℕ) (hs : List Hop) : Type 0 where
  pub bytes : List ℕ
  pub spells : Spells bytes m
  pub sent : Meanwhile clocks at (near_of hs) (λ when. Ever (PlainSent addresses.client bytes when) (near_of hs))

pub record AckHeard (addresses : Addresses) (m : Message) (hs : List Hop) : Type 0 where
  pub bytes : List ℕ
  pub spells : Spells bytes m
  pub given : Ever (λ e. e.call ≡ T.Reply addresses.client m.id bytes) (far_of hs)

module _ (addresses : Addresses) (clocks : Clocks) (one other : Setup) (m : Message) where
  module _ (past : List Hop) (x : T.Entry) (law : ChannelLaw clocks one other addresses.server addresses.client
      (Far x ∷ past))
      (h : Hears addresses.server m x) (kept : is_kept m.kind ≡ true) where
    abbrev incoming : Incoming
    incoming = record { from = addresses.server; message = m }

    is_handed : handed x ≡ Some incoming
    is_handed =
        ap (λ c. handed_in c x.answer) h.call ∙ (ap (λ a. handed_in (T.Receive addresses.server h.bytes) a) h.answer
        ∙ ap (λ b. elim (cond {A = Option Message} b (Some m) None)
        [ Some n ↦ Some (record { from = addresses.server; message = n }) | None ↦ None ]) kept)

    handed_by : HandedBy x incoming
    handed_by = (handed_spelled other (x ∷ far_of past) law.far_law).0 incoming is_handed

  module _ (hs : List Hop) where
    con_heard : (at : ℕ) (adds : List T.Entry) → ChannelLaw clocks one other addresses.server addresses.client
        (map Far adds ++ hs)
        → Ever (HeardAt addresses.server m at) adds → m.kind ≡ Con → ConHeard addresses clocks m at adds hs
    con_heard at [] law h kind = absurd h
    con_heard at (x ∷ adds) law (inr h) kind =
        let k = con_heard at adds (earlier clocks one other addresses.server addresses.client (map Far adds ++ hs)
        (Far x) law) h kind in
        record {
          con = k.con;
          begun_before = k.begun_before;
          to_is = k.to_is;
          spells = k.spells;
          up = inr k.up;
          behind = k.behind;
        }
    con_heard at (x ∷ adds) law (inl h) kind =
        let past = map Far adds ++ hs in
        let kept : is_kept m.kind ≡ true = ap is_kept kind in
        let by = handed_by past x law h.hears kept in
        let w = begun_as clocks one other addresses.server addresses.client past x by.bytes law by.call m by.spells
        kind in
        let b = w.so in
        let there = subst (Ever (λ e. begun e ≡ Some b.con)) (near_far adds hs) b.begun in
        record {
          con = b.con;
          begun_before = there;
          to_is = b.to_is;
          spells = subst (λ z. Spells z m) (sym b.bytes_are) by.spells;
          up = inl (record {
            message = incoming past x law h.hears kept;
            up = is_handed past x law h.hears kept;
            from_is = refl;
            id_is = sym b.id_is;
            then = record { instant = w.instant; shown = w.shown; from = b.from; till = b.till };
          });
          behind = record {
            instant = w.instant;
            shown = w.shown ∙ h.at_is;
            from = b.from;
            before = begun_by_clock one b.con (near_of hs) (subst (LayerLaw one) (near_far adds hs) law.near_law) there;
          };
        }

    non_heard : (at : ℕ) (adds : List T.Entry) → ChannelLaw clocks one other addresses.server addresses.client
        (map Far adds ++ hs)
        → Ever (HeardAt addresses.server m at) adds → m.kind ≡ Non → NonHeard addresses clocks m at hs
    non_heard at [] law h kind = absurd h
    non_heard at (x ∷ adds) law (inr h) kind = non_heard at adds
        (earlier clocks one other addresses.server addresses.client (map Far adds ++ hs) (Far x) law) h kind
    non_heard at (x ∷ adds) law (inl h) kind =
        let past = map Far adds ++ hs in
        let kept : is_kept m.kind ≡ true = ap is_kept kind in
        let by = handed_by past x law h.hears kept in
        let sent = (nons_sent clocks one other addresses.server addresses.client (Far x ∷ past) law).0 x by.bytes m refl
        by.call by.spells
        kind in
        record {
          bytes = by.bytes;
          spells = by.spells;
          sent = subst (λ n. Meanwhile clocks n (near_of hs) (λ when. Ever (PlainSent addresses.client by.bytes when)
              (near_of hs)))
              h.at_is
              (subst (λ l. Meanwhile clocks x.at l (λ when. Ever (PlainSent addresses.client by.bytes when) l))
              (near_far adds hs) sent);
        }

    replies_there : (con : Open) (bytes : List ℕ) (past : List Hop) (h : Hop)
        → OnFarThen (RepliesTo clocks addresses.client con bytes) past h
        → OnFar (λ b. b.call ≡ T.Reply addresses.client con.id bytes) h
    replies_there con bytes past (Near e) k = absurd k
    replies_there con bytes past (Far e) k = k.call

    ack_heard : (at : ℕ) (adds : List T.Entry) → ChannelLaw clocks one other addresses.client addresses.server
        (map Near adds ++ hs)
        → Ever (HeardAt addresses.server m at) adds → m.kind ≡ Ack → AckHeard addresses m hs
    ack_heard at [] law h kind = absurd h
    ack_heard at (x ∷ adds) law (inr h) kind = ack_heard at adds
        (earlier clocks one other addresses.client addresses.server (map Near adds ++ hs) (Near x) law) h kind
    ack_heard at (x ∷ adds) law (inl h) kind =
        let past = map Near adds ++ hs in
        let near = x ∷ near_of past in
        let c = (responses_spelled one near law.near_law).0 m h.hears.answer in
        let a = (acks_heard one near law.near_law).0 addresses.server h.hears.bytes m.id h.hears.call
        (inr (m, h.hears.answer, kind, refl)) in
        let r = (acks_replied clocks one other addresses.client addresses.server (Near x ∷ past) law).0 x a.0 refl a.1
        a.3 in
        let calls : T.Receive c.from c.bytes ≡ T.Receive a.0.to a.3.bytes = let p = c.call in let q =
        a.3.call in cc (p, q) in
        let bytes : c.bytes ≡ a.3.bytes = cc calls in
        let there = Ever_of_Sometime (OnFarThen (RepliesTo clocks addresses.client a.0 a.3.bytes))
        (OnFar (λ b. b.call ≡ T.Reply addresses.client a.0.id a.3.bytes))
        (λ p e k. inl (replies_there a.0 a.3.bytes p e k)) past r in
        let given = subst (Ever (λ b. b.call ≡ T.Reply addresses.client a.0.id a.3.bytes)) (far_near adds hs)
        (far_ever (λ b. b.call ≡ T.Reply addresses.client a.0.id a.3.bytes) past there) in
        record {
          bytes = c.bytes;
          spells = c.spells;
          given = subst (λ z. Ever (λ b. b.call ≡ T.Reply addresses.client m.id z) (far_of hs)) (sym bytes)
              (subst (λ z. Ever (λ b. b.call ≡ T.Reply addresses.client z a.3.bytes) (far_of hs)) a.2 given);
        }

module _ (config : Config) where
  abbrev pub trace : List Entry → List S.Call
  trace t = server_trace config t

  -- the server tells it in this CON
  abbrev pub TellsCon : Open → Message → List S.Call → S.Call → Type 0
  TellsCon con m past c = TellsIn config.limits config.server_szx (InCon con.id) config.addresses.client m past c
      × Ever (λ b. begun b ≡ Some con) (call_adds config.limits config.server_szx config.server_setup past c)

  abbrev pub TellsAck : Message → List S.Call → S.Call → Type 0
  TellsAck m past c = TellsIn config.limits config.server_szx InReply config.addresses.client m past c

  -- .. in a NON, at most MAX_LATENCY before this moment, and by another one
  pub record TellsNon (m : Message) (when now : ℕ) (past : List S.Call) (c : S.Call) : Type 0 where
    pub tells : TellsIn config.limits config.server_szx InNon config.addresses.client m past c
    pub from : tells.told.at ≤ when
    pub till : when ≤ tells.told.at + max_latency
    pub before : tells.told.at ≤ now

  -- a CON that was begun before this moment, handed up here, and the call of the server that told it
  pub record ConTold (clocks : Clocks) (m : Message) (at : ℕ) (past : List Entry) (adds : List T.Entry) : Type 0 where
    pub con : Open
    pub to_is : con.to ≡ config.addresses.client
    pub begun_before : Ever (λ b. begun b ≡ Some con) (near_of (across (hops_in config past)))
    pub up : Ever (HandsUpAs clocks config.addresses.server con) adds
    pub told : Sometime (TellsCon con m) (trace past)
    pub behind : Behind clocks (across (hops_in config past)) con.first at

  module _ (past : List Entry) (c : C.Call) (law : Lawful config (OfClient c ∷ past)) (m : Message)
      (at : ℕ) (hears : Ever (HeardAt config.addresses.server m at) (client_adds config (client_of past) c))
      (note : is_notification m ≡ true) where
    abbrev adds : List T.Entry
    adds = client_adds config (client_of past) c

    -- the server's clock is the near one
    abbrev pub back : Clocks
    back = turned law.clocks

    -- as far as the server's layer has come
    abbrev pub now : ℕ
    now = clock (near_of (across (hops_in config past)))

    pub law_across : ChannelLaw back config.server_setup config.client_setup config.addresses.server
        config.addresses.client
        (map Far adds ++ across (hops_in config past))
    law_across =
        subst (ChannelLaw back config.server_setup config.client_setup config.addresses.server config.addresses.client)
        (across_near adds (hops_in config past))
        (channel_across law.clocks config.client_setup config.server_setup config.addresses.client
        config.addresses.server
        (hops_in config (OfClient c ∷ past)) law.channel)

    near_there : near_of (across (hops_in config past))
        ≡ layer_of config.limits config.server_szx config.server_setup (trace past)
    near_there = near_across (hops_in config past) ∙ far_is config past

    abbrev Added : (T.Entry → Type 0) → List S.Call → S.Call → Type 0
    Added P p b = Ever P (call_adds config.limits config.server_szx config.server_setup p b)

    told : Always (TellsSent config.limits config.server_szx config.server_setup) (trace past)
    told = all_tell_sent config.limits config.server_szx config.server_setup (trace past) law.server

    -- in a CON
    pub con_told : m.kind ≡ Con → ConTold back m at past adds
    con_told kind =
        let k = con_heard config.addresses back config.server_setup config.client_setup m
        (across (hops_in config past)) at adds law_across hears kind in
        let P : T.Entry → Type 0 = λ b. begun b ≡ Some k.con in
        let there = located config.limits config.server_szx config.server_setup P (trace past)
        (subst (Ever P) near_there k.begun_before) in
        record {
          con = k.con;
          to_is = k.to_is;
          begun_before = k.begun_before;
          up = k.up;
          told = by_law (TellsSent config.limits config.server_szx config.server_setup) (Added P) (TellsCon k.con m)
              (λ p b l h. (
                subst (λ z. TellsIn config.limits config.server_szx (InCon k.con.id) z m p b) k.to_is
                    (l.0.begun_now k.con m h k.spells note),
                h,
              )) (trace past) told there;
          behind = k.behind;
        }

    -- in an acknowledgement
    pub ack_told : m.kind ≡ Ack → Sometime (TellsAck m) (trace past)
    ack_told kind =
        let k = ack_heard config.addresses law.clocks config.client_setup config.server_setup m (hops_in config past) at
        adds
        law.channel hears kind in
        let P : T.Entry → Type 0 = λ b. b.call ≡ T.Reply config.addresses.client m.id k.bytes in
        let there = located config.limits config.server_szx config.server_setup P (trace past)
        (subst (Ever P) (far_is config past) k.given) in
        by_law (TellsSent config.limits config.server_szx config.server_setup) (Added P) (TellsAck m)
        (λ p b l h. l.0.replied config.addresses.client k.bytes m h k.spells note) (trace past) told there

    abbrev SentBy : List ℕ → ℕ → T.Entry → Type 0
    SentBy bytes when e = PlainSent config.addresses.client bytes when e × (e.at ≤ now)

    -- in a NON, which the server's layer sent in that call, at most MAX_LATENCY before
    pub non_sent : m.kind ≡ Non → (bytes : List ℕ) × Spells bytes m
        × Meanwhile back at (near_of (across (hops_in config past)))
        (λ when. Sometime (Added (SentBy bytes when)) (trace past))
    non_sent kind =
        let k = non_heard config.addresses back config.server_setup config.client_setup m
        (across (hops_in config past)) at adds law_across hears kind in
        let w = k.sent in
        let near_law = subst (LayerLaw config.server_setup) (near_far adds (across (hops_in config past)))
        law_across.near_law in
        let there = before_now config.server_setup (PlainSent config.addresses.client k.bytes (back.near w.instant))
        (near_of (across (hops_in config past))) now near_law (omega arith) w.so in
        let P : T.Entry → Type 0 = SentBy k.bytes (back.near w.instant) in (
          k.bytes,
          k.spells,
          record {
            instant = w.instant;
            shown = w.shown;
            later = w.later;
            so = located config.limits config.server_szx config.server_setup P (trace past)
                (subst (Ever P) near_there there);
          },
        )

    -- that was the answer to a request in a NON, or it was told so
    pub non_told : m.kind ≡ Non
        → Meanwhile back at (near_of (across (hops_in config past))) (λ when.
        Sometime (λ p b. ServesNon config.limits config.server_szx config.addresses.client p b
        ⊎ TellsNon m when now p b) (trace past))
    non_told kind =
        let sent = non_sent kind in
        let bytes : List ℕ = sent.0 in
        let w = sent.2 in
        let when : ℕ = back.near w.instant in
        let P : T.Entry → Type 0 = SentBy bytes when in
        record {
          instant = w.instant;
          shown = w.shown;
          later = w.later;
          so = by_law (TellsSent config.limits config.server_szx config.server_setup) (Added P)
              (λ p b. ServesNon config.limits config.server_szx config.addresses.client p b ⊎ TellsNon m when now p b)
              (λ p b l h.
              elim (l.0.plain config.addresses.client bytes m
              (Ever_map P (λ e. PlainOut e (record { to = config.addresses.client; bytes = bytes })) (λ e z. z.0.goes)
              (call_adds config.limits config.server_szx config.server_setup p b) h) sent.1 note) [
                | inl z ↦ inl z.1
                | inr z ↦ (let then = told_in_non config p b z.told config.addresses.client bytes when z.here
                    (Ever_map P (PlainSent config.addresses.client bytes when) (λ e y. y.0)
                    (call_adds config.limits config.server_szx config.server_setup p b) h) in
                    let early = told_before config p b z.told config.addresses.client bytes when now z.here h in
                    inr (record { tells = z; from = then.0; till = then.1; before = early }))
              ])
              (trace past) told w.so;
        }

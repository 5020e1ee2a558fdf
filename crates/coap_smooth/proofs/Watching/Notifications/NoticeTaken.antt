-- A notification that was sent more than 1,000 ms ago the client's message layer hands up within 1,000 ms (RFC 7252,
-- sections 4.2 and 4.3).
use Rattle.std.proofs.Common.{◌≡◌, inl, inr, ◌<◌, ℕ, ◌+◌, ◌%◌, Some, List, [], ◌∷◌, ◌++◌, refl, ap, sym, subst, ◌∙◌}
use Rattle.std.proofs.Common.{arith}
use Rattle.coap_types.specs.Past.{Ever}
use Rattle.coap_types.proofs.Facts.Traces.{Ever_back}
use Rattle.coap_types.specs.Roles.{role_of}
use Rattle.coap_types.specs.declared.endpoint.Endpoint.{Endpoint}
use Rattle.coap_types.specs.declared.message.Kind.{Kind}
use Rattle.coap_types.specs.declared.message.Kind.TheVariants.{Con, Non}
use Rattle.coap_types.specs.declared.role.Role.TheVariants as role
use Rattle.coap_types.specs.declared.transmission.TheConstants.{ACK_TIMEOUT_MS as ack_timeout}
use Rattle.coap_types.specs.declared.transmission.TheConstants.{TIMEOUT_VALUES as timeout_values}
use Rattle.coap_codec.specs.Message.{Message, Spells}
use Rattle.coap_codec.specs.Spelling.{message_bytes}
use Rattle.coap_codec.proofs.Facts.EveryDatagram.{one_message}
use Rattle.coap_codec.proofs.Facts.Spelling.{one_spelling}
use Rattle.coap_layer.specs.Channel.{Hop, Near, Far, near_of, far_of, OnNear, OnFar}
use Rattle.coap_layer.specs.OneClock.{ChannelLaw}
use Rattle.coap_layer.specs.Rows.{LayerLaw}
use Rattle.coap_layer.specs.Taking.{came, NonsTakenWithin, HandsUpWithin, SendsNon, SentNon, TakesWithin}
use Rattle.coap_layer.specs.Trace as L
use Rattle.coap_layer.specs.Trace.{with_head}
use Rattle.coap_layer.specs.Words.{Open, begun, begun_in, handed}
use Rattle.coap_layer.specs.declared.setup.Setup.{Setup}
use Rattle.coap_layer.proofs.Facts.Hops.{far_ever}
use Rattle.coap_layer.proofs.Facts.Laws.{handed_spelled}
use Rattle.coap_server.specs.Follows.Observes.{Notice}
use Rattle.coap_server.specs.Trace as S
use Rattle.coap_record.specs.Events.{Config}
use Rattle.coap_promise.specs.Hops.{server_adds, hops_at, hops_in, hops_of, across}
use Rattle.coap_record.specs.Record.{Entry, OfServer, Turn, entries_of, server_trace}
use Rattle.coap_smooth.specs.Smooth.{max_age}
use Rattle.coap_promise.proofs.Facts.Delivery.AfterATurn.{on_far}
use Rattle.coap_promise.proofs.Facts.Delivery.ChannelAcross.{near_across, far_across}
use Rattle.coap_promise.proofs.Facts.Paced.ChannelAcross.{once_across as channel_across}
use Rattle.coap_promise.proofs.Facts.Delivery.HopsAreAChannel as joined
use Rattle.coap_smooth.proofs.Smoothly.Arriving.AllTaken.{Beneath, Goes, goes_before, taken_here}
use Rattle.coap_smooth.proofs.Smoothly.Arriving.ArrivesInTime.{arrive_in_time}
use Rattle.coap_smooth.proofs.Smoothly.Arriving.FewArrive.{few_arrive}
use Rattle.coap_smooth.proofs.Smoothly.Arriving.HandedAs.{as_response}
use Rattle.coap_smooth.proofs.Smoothly.Answers.SeparateEnds.{ever_at}
use Rattle.coap_smooth.proofs.Smoothly.Ticks.NothingIsLeft.{legal_of, record_of}
use Rattle.coap_smooth.specs.NoticesCome.{server_moment, notice_message}
use Rattle.coap_smooth.proofs.Watching.Notifications.BehindSending.{HandsUpSoon}
use Rattle.coap_smooth.proofs.Watching.Notifications.NoticeSent.{NoticeSent, Way, confirms, plain, content_of}
use Rattle.coap_smooth.proofs.Watching.Notifications.ResponsesUp.{up_as_response}
use Rattle.coap_smooth.proofs.Smoothly.Arriving.TakenInTime.{near_back}
use Rattle.coap_record.specs.declared.addresses.Addresses.{Addresses}

-- the near layer's law, where something happened there
near_by_law : (setup : Setup) (P Q : L.Entry → Type 0)
    → ((past : List L.Entry) (e : L.Entry) → LayerLaw setup (e ∷ past) → P e → Q e) → (hs : List Hop)
    → LayerLaw setup (near_of hs) → Ever (OnNear P) hs → Ever (OnNear Q) hs
near_by_law setup P Q f [] law h = h
near_by_law setup P Q f (Near e ∷ hs) law (inl h) = inl (f (near_of hs) e law h)
near_by_law setup P Q f (Near e ∷ hs) law (inr h) = inr (near_by_law setup P Q f hs law.1 h)
near_by_law setup P Q f (Far e ∷ hs) law (inl h) = absurd h
near_by_law setup P Q f (Far e ∷ hs) law (inr h) = inr (near_by_law setup P Q f hs law h)

-- what is taken is handed up as that response

module _ (addresses : Addresses) (setup : Setup) (m : Message) (response : role_of m.code ≡ role.Response)
    (past : List L.Entry) (e : L.Entry)
    (law : LayerLaw setup (e ∷ past)) where
  con_up : (con : Open) → Spells con.bytes m → m.kind ≡ Con → TakesWithin max_age addresses.server con e
      → HandsUpSoon addresses m con.first e
  con_up con spells kind k =
      record {
        bytes = con.bytes;
        spells = spells;
        call = k.takes.call;
        answer = as_response setup past e addresses.server con.id con.bytes m law.0 k.takes.call spells kind k.takes.up
            response;
        from = k.takes.from;
        till = k.soon;
      }

  non_up : (non : SentNon) → Spells non.bytes m → HandsUpWithin max_age addresses.server non e
      → HandsUpSoon addresses m non.at e
  non_up non spells k =
      let by = (handed_spelled setup (e ∷ past) law).0 _ k.up.up in
      let bytes_are : non.bytes ≡ by.bytes = one_spelling k.up.message non.bytes by.bytes k.up.spells by.spells in
      let same : k.up.message ≡ m = one_message by.bytes k.up.message m by.spells
      (subst (λ b. Spells b m) bytes_are spells) in
      let up : handed e ≡ Some (record { from = addresses.server; message = m }) =
      subst (λ x. handed e ≡ Some (record { from = addresses.server; message = x })) same k.up.up in
      record {
        bytes = by.bytes;
        spells = subst (λ b. Spells b m) bytes_are spells;
        call = by.call;
        answer = up_as_response setup past e addresses.server by.bytes m law.0 by.call
            (subst (λ b. Spells b m) bytes_are spells) up response;
        from = k.up.from;
        till = k.soon;
      }

module _ (config : Config) (beneath : Beneath)
    (within_nons : (one other : Setup) (near far : Endpoint) (all : List Hop) → ChannelLaw one other near far all
    → NonsTakenWithin other.remembered near far all) where
  -- what is in the hops of some entries is in those of more
  hops_later : (P : Hop → Type 0) (newer es : List Entry) → Ever P (hops_in config es)
      → Ever P (hops_in config (newer ++ es))
  hops_later P [] es h = h
  hops_later P (e ∷ newer) es h =
      Ever_back P (hops_at config (newer ++ es) e) (hops_in config (newer ++ es)) (hops_later P newer es h)

  module _ (turn : Turn) (past : List Turn) (g : Goes config (turn ∷ past)) (newer older : List Entry) (c : S.Call)
      (split : entries_of past ≡ newer ++ OfServer c ∷ older) (n : Notice)
      (to : n.observer.to ≡ config.addresses.client)
      (sent : NoticeSent config n older c) (late : server_moment config older c + max_age < turn.event.at) where
    abbrev hs : List Hop
    hs = hops_of config past

    abbrev content : L.Content
    content = content_of config older n

    abbrev message : Message
    message = notice_message config sent.kind sent.id older n

    abbrev y : L.Entry
    y = sent.entry

    old : Goes config past
    old = goes_before config turn past g

    channel : ChannelLaw config.client_setup config.server_setup config.addresses.client config.addresses.server hs
    channel = joined.channel config _ past (record_of config past old.stands) (legal_of config past old.stands)

    late_entry : y.at + max_age < turn.event.at
    late_entry = let k = sent.at_is in omega (arith, k, late)

    -- it is in the server's layer
    in_layer : (P : L.Entry → Type 0) → P y → Ever P (far_of hs)
    in_layer P p =
        let adds = server_adds config (server_trace config older) c in
        far_ever P hs (subst (λ es. Ever (OnFar P) (hops_in config es)) (sym split)
        (hops_later (OnFar P) newer (OfServer c ∷ older)
        (on_far P adds (hops_in config older) (ever_at P y adds sent.among p))))

    in_con : (word : ℕ) → y.call ≡ L.Confirm n.observer.to content word → sent.kind ≡ Con
        → Ever (OnNear (HandsUpSoon config.addresses message y.at)) hs
    in_con word call kind =
        let con : Open =
        record {
          to = n.observer.to;
          id = sent.id;
          bytes = message_bytes (with_head Con sent.id content);
          timeout = ack_timeout + word % timeout_values;
          first = y.at;
          last = y.at;
        } in
        let begins : begun y ≡ Some con =
        ap (λ d. begun_in y.at d y.answer) call
        ∙ ap (λ z. begun_in y.at (L.Confirm n.observer.to content word) z) sent.answer in
        let spells : Spells con.bytes message =
        subst (λ (k : Kind). Spells (message_bytes (with_head k sent.id content)) message) kind sent.spells in
        near_by_law config.client_setup (TakesWithin max_age config.addresses.server con)
        (HandsUpSoon config.addresses message y.at)
        (λ before e law k. con_up config.addresses config.client_setup message sent.response before e law con spells
        kind k)
        hs channel.near_law
        ((taken_here config beneath turn past g).by_client con (in_layer (λ b. begun b ≡ Some con) begins) to
        late_entry)

    in_non : y.call ≡ L.Plain n.observer.to content → sent.kind ≡ Non
        → Ever (OnNear (HandsUpSoon config.addresses message y.at)) hs
    in_non call kind =
        let non : SentNon =
        record { to = n.observer.to; id = sent.id; bytes = message_bytes (with_head Non sent.id content); at = y.at } in
        let sends : SendsNon non y =
        record { content = content; call = call; answer = sent.answer; at_is = refl; bytes_are = refl } in
        let spells : Spells non.bytes message =
        subst (λ (k : Kind). Spells (message_bytes (with_head k sent.id content)) message) kind sent.spells in
        let few = few_arrive config past old.stands old.few_client old.few_server in
        let up = within_nons config.server_setup config.client_setup config.addresses.server config.addresses.client
        (across hs)
        (channel_across config.client_setup config.server_setup config.addresses.client config.addresses.server hs
        channel)
        max_age turn.event.at non (omega arith) (arrive_in_time config past turn g.stands).to_client
        (λ since. (let a = few.at_client since in let b = ap (came since) (far_across hs) in omega (arith, a, b)))
        (subst (Ever (SendsNon non)) (sym (near_across hs)) (in_layer (SendsNon non) sends)) to
        (record { message = message; spells = spells; class = inr sent.response }) late_entry in
        near_by_law config.client_setup (HandsUpWithin max_age config.addresses.server non)
        (HandsUpSoon config.addresses message y.at)
        (λ before e law k. non_up config.addresses config.client_setup message sent.response before e law non spells k)
        hs
        channel.near_law (near_back (HandsUpWithin max_age config.addresses.server non) hs up)

    pub notice_taken : Ever (OnNear (HandsUpSoon config.addresses message y.at)) hs
    notice_taken = by sent.way
      where
        by : Way n.observer.to content y.call sent.kind → Ever (OnNear (HandsUpSoon config.addresses message y.at)) hs
        by (confirms word call kind) = in_con word call kind
        by (plain call kind) = in_non call kind

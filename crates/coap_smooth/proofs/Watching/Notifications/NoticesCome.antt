-- In a smooth run each notification that was sent more than 1,000 ms ago came to the client within 1,000 ms, behind its
-- sending (RFC 7641, sections 3.2 and 4.5).
use Rattle.std.proofs.Common.{◌≡◌, ◌⊎◌, inl, inr, ⊎_elim, ◌<◌, ℕ, ◌+◌, Some, List, [], ◌∷◌, ◌++◌, ap, subst, ◌∙◌, arith}
use Rattle.std.proofs.Common.{append_assoc}
use Rattle.coap_types.specs.Past.{Ever, Always}
use Rattle.coap_types.proofs.Facts.Traces.{Always_back, Ever_append}
use Rattle.coap_types.specs.declared.endpoint.Endpoint.{Endpoint}
use Rattle.coap_types.specs.declared.message.Kind.{Kind}
use Rattle.coap_types.specs.declared.message.Kind.TheVariants.{Con, Non}
use Rattle.coap_codec.specs.Message.{Message}
use Rattle.coap_layer.specs.Channel.{Hop, OnNear, ConsBegun, NonsSent}
use Rattle.coap_layer.specs.OneClock.{ChannelLaw}
use Rattle.coap_layer.specs.Follows.{IdsSmall}
use Rattle.coap_layer.specs.Rows.{LayerLaw}
use Rattle.coap_layer.specs.Taking.{NonsTakenWithin}
use Rattle.coap_layer.specs.Trace as L
use Rattle.coap_layer.specs.declared.setup.Setup.{Setup}
use Rattle.coap_client.specs.Trace as C
use Rattle.coap_server.specs.Follows.Observes.{Notice, notice}
use Rattle.coap_server.specs.Trace as S
use Rattle.coap_record.specs.Events.{Config}
use Rattle.coap_promise.specs.Hops.{client_adds, server_adds, hops_at, hops_in, hops_of, across}
use Rattle.coap_record.specs.Record.{Entry, OfClient, OfServer, Turn, entries_of, client_of, server_trace}
use Rattle.coap_smooth.specs.Smooth.{max_age}
use Rattle.coap_promise.proofs.Facts.Paced.ChannelAcross.{once_across as channel_across}
use Rattle.coap_promise.proofs.Facts.Delivery.ClientInTime as client
use Rattle.coap_promise.proofs.Facts.Delivery.ClientTurns as client_turns
use Rattle.coap_promise.proofs.Facts.Delivery.HopsAreAChannel as joined
use Rattle.coap_smooth.proofs.Smoothly.Arriving.AllTaken.{Beneath, Goes, goes_before}
use Rattle.coap_smooth.proofs.Smoothly.Ticks.NothingIsLeft.{ForClient, ForServer, client_behind, server_behind}
use Rattle.coap_smooth.proofs.Smoothly.Ticks.NothingIsLeft.{legal_of}
use Rattle.coap_smooth.proofs.Smoothly.Ticks.NothingIsLeft.{record_of}
use Rattle.coap_smooth.proofs.Smoothly.Arriving.WhereItArrives.{at_client, no_near}
use Rattle.coap_smooth.specs.NoticesCome.{AllNoticesCome, IsFed, NoticeComes, notice_message, server_moment}
use Rattle.coap_smooth.proofs.Watching.Notifications.AtItsMoment.{AtMoment, ClientAt, ServerAt, at_moments}
use Rattle.coap_smooth.proofs.Watching.Notifications.BehindSending.{Behind, HandsUpSoon, behind, hops_before}
use Rattle.coap_smooth.proofs.Watching.Notifications.BehindSending.{not_before}
use Rattle.coap_smooth.proofs.Watching.Notifications.NoticeSent.{NoticeSent, Way, confirms, plain, always_in}
use Rattle.coap_smooth.proofs.Watching.Notifications.NoticeSent.{content_of, notice_sent}
use Rattle.coap_smooth.proofs.Watching.Notifications.NoticeTaken.{notice_taken}

-- what the laws beneath say
pub record Laws : Type 0 where
  pub beneath : Beneath
  pub within_nons : (one other : Setup) (near far : Endpoint) (all : List Hop) → ChannelLaw one other near far all
      → NonsTakenWithin other.remembered near far all
  pub begun : (one other : Setup) (near far : Endpoint) (all : List Hop) → ChannelLaw one other near far all
      → ConsBegun near far all
  pub nons : (one other : Setup) (near far : Endpoint) (all : List Hop) → ChannelLaw one other near far all
      → NonsSent near far all
  pub small : (setup : Setup) (t : List L.Entry) → LayerLaw setup t → IdsSmall t

con_or_non : (to : Endpoint) (content : L.Content) (call : L.Call) (kind : Kind) → Way to content call kind
    → (kind ≡ Con) ⊎ (kind ≡ Non)
con_or_non to content call kind (confirms word is con) = inl con
con_or_non to content call kind (plain is non) = inr non

module _ (config : Config) where
  -- the call of the client in which a response is handed up is fed it, at that moment
  fed_so : (m : Message) (since : ℕ) (past : List C.Call) (c : C.Call) → client_turns.IsGood config (c ∷ past)
      → ClientAt config past c → (e : L.Entry) → Ever (λ z. z ≡ e) (client_adds config past c)
      → HandsUpSoon config.addresses m since e
      → IsFed config.addresses m since c
  fed_so m since past c good at e among up =
      let f = (at_client config past c good config.addresses.server up.bytes e among up.call).fed in
      let k = (always_in _ (client_adds config past c) e at.timely among).1 in
      let now_is : f.now ≡ at.moment = subst (client.IsAt at.moment) f.is at.at in
      let till = k.till in
      let least = (k.fed config.addresses.server up.bytes up.call).1 in
      let from = up.from in
      let late = up.till in
      record {
        now = f.now;
        bytes = up.bytes;
        word = f.word;
        settled = f.settled;
        event = f.event;
        sent = f.sent;
        token = f.token;
        kept = f.kept;
        is = f.is
            ∙ ap (λ u. C.Feeds f.now config.addresses.server up.bytes f.word u f.settled f.event f.sent f.token f.kept)
            up.answer;
        from = omega (arith, now_is, till, least, from);
        till = omega (arith, now_is, till, least, late);
      }

  module _ (laws : Laws) (turn : Turn) (past : List Turn) (g : Goes config (turn ∷ past)) (newer older : List Entry)
      (c : S.Call) (n : Notice) (split : entries_of past ≡ newer ++ OfServer c ∷ older) (is : notice c ≡ Some n)
      (to : n.observer.to ≡ config.addresses.client) (late : server_moment config older c + max_age < turn.event.at)
    where
      abbrev rest : List Entry
      rest = OfServer c ∷ older

      old : Goes config past
      old = goes_before config turn past g

      back : ChannelLaw config.server_setup config.client_setup config.addresses.server config.addresses.client
          (across (hops_of config past))
      back = channel_across config.client_setup config.server_setup config.addresses.client config.addresses.server
          (hops_of config past)
          (joined.channel config _ past (record_of config past old.stands) (legal_of config past old.stands))

      moments : Always (AtMoment config) (newer ++ rest)
      moments = subst (Always (AtMoment config)) split (at_moments config past old.stands)

      server_law : ForServer config rest
      server_law = server_behind config newer rest (subst (ForServer config) split old.stands.server)

      at_server : ServerAt config (server_trace config older) c
      at_server = (Always_back (AtMoment config) newer rest moments).0

      sent : NoticeSent config n older c
      sent = notice_sent config (laws.small config.server_setup) older c server_law at_server n is

      abbrev message : Message
      message = notice_message config sent.kind sent.id older n

      abbrev Up : L.Entry → Type 0
      Up = HandsUpSoon config.addresses message sent.entry.at

      kind_is : (sent.kind ≡ Con) ⊎ (sent.kind ≡ Non)
      kind_is = con_or_non n.observer.to (content_of config older n) sent.entry.call sent.kind sent.way

      -- not before it is sent

      cons : ConsBegun config.addresses.server config.addresses.client (across (hops_in config older))
      cons = hops_before config _ (OfServer c ∷ []) older (hops_before config _ newer rest
          (subst (λ es. ConsBegun config.addresses.server config.addresses.client (across (hops_in config es))) split
          (laws.begun config.server_setup config.client_setup config.addresses.server config.addresses.client
          (across (hops_of config past)) back)))

      nons : NonsSent config.addresses.server config.addresses.client (across (hops_in config older))
      nons = hops_before config _ (OfServer c ∷ []) older (hops_before config _ newer rest
          (subst (λ es. NonsSent config.addresses.server config.addresses.client (across (hops_in config es))) split
          (laws.nons config.server_setup config.client_setup config.addresses.server config.addresses.client
          (across (hops_of config past)) back)))

      none : Ever (OnNear Up) (hops_in config rest) → ⊥
      none h = ⊎_elim (λ l. no_near Up (server_adds config (server_trace config older) c) l)
          (λ r. not_before config older c server_law cons nons message kind_is sent.entry sent.among sent.answer r)
          (Ever_append (OnNear Up) (hops_at config older (OfServer c)) (hops_in config older) h)

      came_behind : Behind config Up newer rest
      came_behind = behind config Up newer rest
          (subst (λ es. Ever (OnNear Up) (hops_in config es)) split
          (notice_taken config laws.beneath laws.within_nons turn past g newer older c split n to sent late)) none

      -- so in a call of the client behind it
      comes : Behind config Up newer rest → NoticeComes config n newer older c
      comes b =
          let behind_it : List Entry = b.between ++ rest in
          let whole : newer ++ rest ≡ b.newest ++ (OfClient b.call ∷ behind_it) =
          ap (λ l. l ++ rest) b.split ∙ append_assoc b.newest (OfClient b.call ∷ b.between) rest in
          let law : ForClient config (OfClient b.call ∷ behind_it) =
          client_behind config b.newest (OfClient b.call ∷ behind_it)
          (subst (ForClient config) (split ∙ whole) old.stands.client) in
          let at : ClientAt config (client_of behind_it) b.call =
          (Always_back (AtMoment config) b.newest (OfClient b.call ∷ behind_it)
          (subst (Always (AtMoment config)) whole moments)).0 in
          record {
            kind = sent.kind;
            kind_is = kind_is;
            id = sent.id;
            newest = b.newest;
            call = b.call;
            between = b.between;
            split = b.split;
            fed = subst (λ (since : ℕ). IsFed config.addresses message since b.call) sent.at_is
                (fed_so message sent.entry.at (client_of behind_it) b.call (law.exchanges.left, law.exchanges.layer) at
                b.entry b.among b.is);
          }

      comes_here : NoticeComes config n newer older c
      comes_here = comes came_behind

  pub notices_come : (laws : Laws) (turns : List Turn) → Goes config turns → AllNoticesCome config turns
  notices_come laws [] g = tt
  notices_come laws (turn ∷ past) g = (
    λ newer older c n split is to late. comes_here laws turn past g newer older c n split is to late,
    notices_come laws past (goes_before config turn past g),
  )

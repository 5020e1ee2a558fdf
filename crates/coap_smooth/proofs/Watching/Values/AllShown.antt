-- Each notification that is taken of an observation that runs alone shows all of what its path held as the server told
-- it, where that fits one block (RFC 7641, sections 3.2 and 4.2; RFC 7959, section 2.2).
use Rattle.std.proofs.Common.{◌≡◌, ◌≤◌, inl, inr, ℕ, Option, Some, List, [], ◌∷◌, ◌++◌, length, refl, ap, sym, subst}
use Rattle.std.proofs.Common.{◌∙◌}
use Rattle.std.proofs.Common.{arith, false}
use Rattle.coap_types.specs.Past.{Sometime}
use Rattle.coap_types.specs.Recognised.{lacks_critical}
use Rattle.coap_types.specs.declared.direction.Direction.TheVariants.{Response}
use Rattle.coap_types.proofs.Facts.Traces.{Sometime_map}
use Rattle.coap_codec.specs.Message.{Message}
use Rattle.coap_observe.specs.Versions.{sequence_number}
use Rattle.coap_resource.specs.Content.{Held}
use Rattle.coap_resource.specs.RequestOptions.{tag_of}
use Rattle.coap_client_laws.specs.Follows.LastValue.{HaveAll}
use Rattle.coap_client_laws.specs.Follows.Newer.{Newly, notifies}
use Rattle.coap_client_laws.specs.Follows.OfObservations.{Observed}
use Rattle.coap_client.specs.Law.{own_of}
use Rattle.coap_client.specs.Responses.{sequence_in, tag_in, format_in}
use Rattle.coap_client.specs.Trace as C
use Rattle.coap_client.specs.Trace.{Report, Value}
use Rattle.coap_client_laws.proofs.Facts.EachCall.{are_taken}
use Rattle.coap_server.specs.Follows.Tells.{Way, InCon, InReply, InNon}
use Rattle.coap_server_laws.specs.Follows.Told.{TellsIn}
use Rattle.coap_server.specs.Law as servers
use Rattle.coap_server.specs.Trace as S
use Rattle.coap_server_laws.proofs.Facts.Laws as server_facts
use Rattle.coap_smooth.specs.Current.{FitsABlock, Alone}
use Rattle.coap_record.specs.Events.{Config}
use Rattle.coap_record.specs.Record.{Entry, OfClient, OfServer, client_of, server_trace}
use Rattle.coap_record.specs.Record.{Setting, DelayOf, PlainOf, gives_it}
use Rattle.coap_promise.specs.Words.{holds_at}
use Rattle.coap_layer.specs.Clocks.{Clocks, turned}
use Rattle.coap_promise.proofs.Facts.Observations.Heard.{TellsCon, TellsAck, TellsNon}
use Rattle.coap_promise.proofs.Facts.Observations.Positions.{AtServer, server_entries}
use Rattle.coap_promise.proofs.Facts.Observations.Taken.{HeardTold, in_con, in_ack, in_non, taken_here}
use Rattle.coap_promise.proofs.Facts.Reports.FormatsSet.{FormatsIn}
use Rattle.coap_promise.proofs.Facts.Reports.HeldThere.{HeldIn, held_later, within_self}
use Rattle.coap_promise.proofs.Facts.Reports.Shown.{formats_back}
use Rattle.coap_promise.proofs.Facts.Reports.Understood.{heard_understood, noted_understood}
use Rattle.coap_promise.proofs.Facts.Reports.ValuesShown.{notification_code, taken_shown}
use Rattle.coap_promise.proofs.Facts.Requests.OfACall.{Lawful, lawful_back}
use Rattle.coap_smooth.specs.ShowsHeld.{ShowsAllHeld, AllShown}
use Rattle.coap_smooth.proofs.Watching.Values.HeldVersions.{last_of}
use Rattle.coap_smooth.proofs.Watching.Values.ShownWhole.{shown_whole}
use Rattle.coap_smooth.proofs.Watching.Ticks.TellingHeld.{held_then}
use Rattle.coap_promise.proofs.Facts.Requests.AtAnyTime.{at_any_time}

same_value : (a b : ℕ) (t u : Option (List ℕ)) (f g : Option ℕ) (p q : List ℕ) → a ≡ b → t ≡ u → f ≡ g → p ≡ q
    → Value a t f p ≡ Value b u g q
same_value a b t u f g p q i j k l = cc (i, j, k, l)

module _ (config : Config) where
  -- the server tells it here, in whatever way
  abbrev Tells : Message → List S.Call → S.Call → Type 0
  Tells m past c = (way : Way) × TellsIn config.limits config.server_szx way config.addresses.client m past c

  not_first : (m : Message) (past : List S.Call) (s : Setting) → Tells m past (gives_it s) → ⊥
  not_first m past (DelayOf d) k = let here = k.1.here in cc here
  not_first m past (PlainOf p) k = let here = k.1.here in cc here

  tells_it : (clocks : Clocks) (m : Message) (at : ℕ) (t : List Entry) → HeardTold config clocks m at t
      → Sometime (Tells m) (server_trace config t)
  tells_it clocks m at t (in_con con from up told) =
      Sometime_map (TellsCon config con m) (Tells m) (λ past c k. (InCon con.id, k.0)) (server_trace config t) told
  tells_it clocks m at t (in_ack told) =
      Sometime_map (TellsAck config m) (Tells m) (λ past c k. (InReply, k)) (server_trace config t) told
  tells_it clocks m at t (in_non told) =
      Sometime_map (TellsNon config m (clocks.near told.instant) told.now) (Tells m) (λ past c k. (InNon, k.tells))
      (server_trace config t) told.told

  -- where it does
  record ToldThere (m : Message) (t : List Entry) : Type 0 where
    between : List Entry
    call : S.Call
    oldest : List Entry
    split : t ≡ between ++ OfServer call ∷ oldest
    law : Lawful config (OfServer call ∷ oldest)
    tells : Tells m (server_trace config oldest) call
    later : (path : List (List ℕ)) (held : Held) → HeldIn config path held (OfServer call ∷ oldest)
        → HeldIn config path held t

  told_there : (m : Message) (t : List Entry) → Lawful config t → Sometime (AtServer config (Tells m)) t → ToldThere m t
  told_there m [] law h = absurd h
  told_there m (OfClient c ∷ past) law (inl h) = absurd h
  told_there m (OfServer c ∷ past) law (inl h) = record {
    between = [];
    call = c;
    oldest = past;
    split = refl;
    law = law;
    tells = h;
    later = λ path held was. was;
  }
  told_there m (e ∷ past) law (inr h) =
      let k = told_there m past (lawful_back config past e law) h in
      record {
        between = e ∷ k.between;
        call = k.call;
        oldest = k.oldest;
        split = ap (λ l. e ∷ l) k.split;
        law = k.law;
        tells = k.tells;
        later = λ path held was. held_later config path held past e (k.later path held was);
      }

module _ (config : Config) (small : config.server_szx ≤ 6) (x : Observed)
    (limit : config.limits.body ≤ config.client_sizes.limit) where
  pub record Stands (t : List Entry) : Type 0 where
    pub law : Lawful config t
    pub formats : FormatsIn t
    pub fits : FitsABlock config x.path t
    pub alone : Alone x (client_of t)

  alone_back : (e : Entry) (past : List Entry) → Alone x (client_of (e ∷ past)) → Alone x (client_of past)
  alone_back (OfClient c) past h = h.1
  alone_back (OfServer c) past h = h

  stands_back : (e : Entry) (past : List Entry) → Stands (e ∷ past) → Stands past
  stands_back e past s = record {
    law = lawful_back config past e s.law;
    formats = formats_back config past e s.formats;
    fits = s.fits.1;
    alone = alone_back e past s.alone;
  }

  stands_behind : (newer older : List Entry) → Stands (newer ++ older) → Stands older
  stands_behind [] older s = s
  stands_behind (e ∷ newer) older s = stands_behind newer older (stands_back e (newer ++ older) s)

  understood : (past : List Entry) (c : C.Call) → Lawful config (OfClient c ∷ past) → (n : Newly)
      → notifies (own_of config.client_sizes (client_of past)) c ≡ Some n
      → lacks_critical Response n.message.options ≡ false
  understood past c law n is =
      let t : List C.Call = client_of past in
      elim ((are_taken config.addresses.server config.client_sizes config.client_setup (c ∷ t) law.client).0 n is).comes [
        | inl first ↦ heard_understood config.addresses.server config.client_sizes config.client_setup t c law.client
            n.message first.heard
        | inr later ↦ noted_understood config.addresses.server config.client_sizes config.client_setup t c law.client
            n.message later.noted
      ]

  pub shows_here : (past : List Entry) (c : C.Call) → Stands (OfClient c ∷ past) → (n : Newly)
      → notifies (own_of config.client_sizes (client_of past)) c ≡ Some n → n.number ≡ x.number
      → ShowsAllHeld config x.path n past
  shows_here past c s n is of =
      let m : Message = n.message in
      let before = stands_back (OfClient c) past s in
      let first = taken_shown config small x.number n past c (at_any_time s.law) before.formats is of in
      let taken = taken_here config small past c s.law before.formats n is in
      let k = told_there config m past before.law
      (server_entries config (Tells config m) (not_first config m) past
      (tells_it config (turned s.law.clocks) m n.mark.at (OfClient c ∷ past) taken.told)) in
      let shown = shown_whole config small past before.law x before.alone m first.registered
      (notification_code m first.notification) (understood past c s.law n is) past (within_self config past) before.law
      before.formats before.fits first.shown in
      let held : Held = shown.held in
      let t = k.tells.1 in
      let then = held_then config.limits config.server_szx config.server_setup (server_trace config k.oldest) k.call
      k.law.server t.told t.here in
      let there = k.later t.told.path then.held (inl (last_of config t.told.path then.held (OfServer k.call ∷ k.oldest)
      k.law.server then.behind)) in
      let tags : Some (tag_of t.told.version) ≡ Some (tag_of held.version) = sym t.conveys.tag_is ∙ shown.shown.tag in
      let tag : tag_of t.told.version ≡ tag_of held.version = cc tags in
      let one = server_facts.tags config.limits config.server_szx config.server_setup (server_trace config past)
      before.law.server t.told.path x.path then.held held there shown.was (ap tag_of (sym then.version) ∙ tag) in
      let store = (servers.own_of config.limits config.server_szx (server_trace config k.oldest)).store in
      let behind : holds_at config x.path (OfServer k.call ∷ k.oldest) ≡ Some held =
      ap (λ path. holds_at config path (OfServer k.call ∷ k.oldest)) (sym one.1)
      ∙ (then.behind ∙ ap (λ (h : Held). Some h) one.0) in
      let payload : m.payload ≡ held.body = shown.shown.part.alone shown.none in
      record {
        held = held;
        between = k.between;
        call = k.call;
        oldest = k.oldest;
        split = k.split;
        told = record {
          told = t.told;
          here = t.here;
          to_is = t.conveys.to_is;
          token_is = t.conveys.token_is;
          path_is = one.1;
          version_is = then.version ∙ ap (λ (h : Held). h.version) one.0;
          before = ap store.holds (sym one.1) ∙ (then.before ∙ ap (λ (h : Held). Some h) one.0);
          behind = behind;
        };
        shown = same_value (sequence_in m) (sequence_number held.version) (tag_in m) (Some (tag_of held.version))
            (format_in m) held.format m.payload held.body (shown.shown.sequence first.notification) shown.shown.tag
            shown.shown.format payload;
        all = inl shown.none;
        short = (
            let low = server_facts.short config.limits config.server_szx config.server_setup
            (server_trace config (OfServer k.call ∷ k.oldest)) k.law.server x.path held behind in
            let long = ap (λ (l : List ℕ). length l) payload in
            omega (arith, low, long, limit));
      }

  pub all_shown : (all : List Entry) → Stands all → AllShown config x all
  all_shown all s newer older c n split is of =
      shows_here older c (stands_behind newer (OfClient c ∷ older) (subst Stands split s)) n is of

  pub have_all : (all : List Entry) → Stands all → HaveAll config.client_sizes x.number (client_of all)
  have_all [] s = tt
  have_all (OfServer c ∷ past) s = have_all past (stands_back (OfServer c) past s)
  have_all (OfClient c ∷ past) s = (
    λ n is of. (let k = shows_here past c s n is of in (k.all, k.short)),
    have_all past (stands_back (OfClient c) past s),
  )

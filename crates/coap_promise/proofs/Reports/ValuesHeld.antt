-- A value that a client reports of an observation was held by the server at the observed path, after the observation
-- was taken and before the report.
use Rattle.std.proofs.Common.{◌≡◌, ◌≤◌, inl, inr, ℕ, true, Option, Some, List, [], ◌∷◌, ap, sym, subst, ◌∙◌}
use Rattle.coap_types.specs.Past.{Sometime, Always}
use Rattle.coap_types.specs.RequestPath.{path_of}
use Rattle.coap_codec.specs.Message.{Message}
use Rattle.coap_block.specs.Whole.{Part, Each}
use Rattle.coap_observe.specs.Versions.{sequence_number}
use Rattle.coap_resource.specs.Content.{Held}
use Rattle.coap_resource.specs.RequestOptions.{tag_of}
use Rattle.coap_client_laws.specs.Follows.Begins.{WasSent}
use Rattle.coap_client_laws.specs.Follows.Newer.{Newly}
use Rattle.coap_client_laws.specs.Follows.OfObservations.{observation_for}
use Rattle.coap_client.specs.Responses.{is_notification}
use Rattle.coap_client.specs.Trace as C
use Rattle.coap_client.specs.Trace.{Value}
use Rattle.coap_client_laws.specs.Follows.Values.{TookRest, IsAlone, IsFetchedFor, IsObserved}
use Rattle.coap_client.specs.Sendings.{Sending}
use Rattle.coap_client_laws.proofs.Facts.EachCall.{values_are_whole}
use Rattle.coap_server_laws.proofs.Facts.Laws as server_facts
use Rattle.coap_record.specs.Events.{Config}
use Rattle.coap_record.specs.Record.{Entry, OfClient, OfServer, client_of, server_trace}
use Rattle.coap_promise.specs.Words.{ReportsAt, last_at}
use Rattle.coap_promise.proofs.Any.Requests.OfACall.{Lawful, lawful_back}
use Rattle.coap_promise.specs.Held.{ValueSince, EachValue}
use Rattle.coap_promise.proofs.Reports.BodiesHeld.{heard_shown, PartHeld, part_later}
use Rattle.coap_promise.proofs.Facts.Reports.ContentRead.{IsShown}
use Rattle.coap_promise.proofs.Facts.Reports.FormatsSet.{FormatsIn}
use Rattle.coap_promise.proofs.Facts.Reports.HeldThere.{HeldIn, held_later, Within, within_back, within_self, ShownIn}
use Rattle.coap_promise.proofs.Facts.Reports.HeldThere.{shown_there, some_shown, each_within}
use Rattle.coap_promise.proofs.Facts.Reports.OfObservations.{of_observation, one_of_observation}
use Rattle.coap_promise.proofs.Reports.PartsOfOne.{part_held, body_held, tags_of, same_held}
use Rattle.coap_promise.proofs.Facts.Reports.Shown.{ShownAt}
use Rattle.coap_promise.proofs.Facts.Reports.ValuesShown.{TakesAt, taken_shown, newest_shown}

module _ (config : Config) (small : config.server_szx ≤ 6) where
  -- each part that was fetched
  rest_held : (number : ℕ) (p : Part) (w : List Entry) → Lawful config w → FormatsIn w
      → TookRest config.client_sizes number p (client_of w) → PartHeld config small w p
  rest_held number p [] law formats h = absurd h
  rest_held number p (OfServer c ∷ past) law formats h =
      part_later config small p past (OfServer c)
      (rest_held number p past (lawful_back config past (OfServer c) law) formats.1 h)
  rest_held number p (OfClient c ∷ past) law formats (apart, inr h) =
      rest_held number p past (lawful_back config past (OfClient c) law) formats h
  rest_held number p (OfClient c ∷ past) law formats (apart, inl h) =
      let k = some_shown config h.message past (heard_shown config small past c law formats h.message h.heard.heard
      h.part.code) in
      part_held config.limits config.server_szx (server_trace config past) p h.message k.path k.held h.part k.was
      k.shown

  each_rest : (number : ℕ) (w : List Entry) → Lawful config w → FormatsIn w → (ps : List Part)
      → Each (λ p. TookRest config.client_sizes number p (client_of w)) ps → Each (PartHeld config small w) ps
  each_rest number w law formats [] h = tt
  each_rest number w law formats (p ∷ ps) h = (
    rest_held number p w law formats h.0,
    each_rest number w law formats ps h.1,
  )

  -- the notification
  first_shown : (number : ℕ) (n : Newly) (w : List Entry) → Sometime (TakesAt config small number n) w
      → ShownIn config n.message w
  first_shown number n [] h = absurd h
  first_shown number n (OfServer c ∷ past) (inl h) = absurd h
  first_shown number n (OfClient c ∷ past) (inl h) = let k =
      some_shown config n.message past h.shown in record { path = k.path; held = k.held; was = k.was; shown = k.shown }
  first_shown number n (e ∷ past) (inr h) = let k =
      first_shown number n past h in record {
        path = k.path;
        held = k.held;
        was = held_later config k.path k.held past e k.was;
        shown = k.shown;
      }

  first_notifies : (number : ℕ) (n : Newly) (w : List Entry) → Sometime (TakesAt config small number n) w
      → is_notification n.message ≡ true
  first_notifies number n [] h = absurd h
  first_notifies number n (OfServer c ∷ past) (inl h) = absurd h
  first_notifies number n (OfClient c ∷ past) (inl h) = h.notification
  first_notifies number n (e ∷ past) (inr h) = first_notifies number n past h

  module _ (number sequence : ℕ) (tag : Option (List ℕ)) (format : Option ℕ) (body : List ℕ) (all : List Entry)
      (law : Lawful config all) (c : C.Call) (f : IsObserved config.client_sizes number sequence tag format body
      (client_of all) c)
      (x : Sending) (sent : WasSent config.client_sizes x (client_of all))
      (of : observation_for x.operation ≡ Some number) (token : x.token ≡ f.last.token)
      (parts : Each (PartHeld config small all) f.parts)
      (numbered : (path : List (List ℕ)) (held : Held) → HeldIn config path held all → IsShown held f.last
      → sequence ≡ sequence_number held.version) where
    -- the last part shows it
    value_here : (past : List Entry) (e : Entry) → Lawful config (e ∷ past) → Within config (e ∷ past) all
        → ShownAt config f.last past e → ValueSince config number sequence tag format body past e
    value_here past e here in_all k =
        let path = path_of k.sending.request.options in
        let was = in_all.held path k.held (shown_there config f.last past e k) in
        let before = within_back config all past e in_all in
        let mine = one_of_observation config all law k.sending x number (before.sent k.sending k.sent) sent of
        (k.token ∙ sym token) in
        let g = of_observation config number k.sending past (lawful_back config past e here) k.sent mine in
        let tags = server_facts.tags config.limits config.server_szx config.server_setup
        (server_trace config all) law.server in
        let body_is : body ≡ k.held.body = body_held config.limits config.server_szx
        (server_trace config all) tags path k.held was f.parts f.last f.block body parts k.shown f.comes_last
        f.whole in
        let format_is : format ≡ k.held.format = f.format_is ∙ k.shown.format in
        let there : last_at config path (e ∷ past)
        ≡ Some (record { version = k.held.version; format = format; body = body }) =
        k.is_held ∙ (ap (λ b. Some (record { version = k.held.version; format = k.held.format; body = b }))
        (sym body_is) ∙ ap (λ o. Some (record { version = k.held.version; format = o; body = body }))
        (sym format_is))
        in
        record {
          path = g.path;
          observed = g.observed;
          version = k.held.version;
          sequence_is = numbered path k.held was k.shown;
          holds = record {
            tag_is = f.tag_is ∙ k.shown.tag;
            there = subst (λ p. last_at config p (e ∷ past)
                ≡ Some (record { version = k.held.version; format = format; body = body })) g.asks there;
          };
        }

  pub first_number : (number : ℕ) (n : Newly) (w : List Entry) → Sometime (TakesAt config small number n) w
      → n.number ≡ number
  first_number number n [] h = absurd h
  first_number number n (OfServer c ∷ past) (inl h) = absurd h
  first_number number n (OfClient c ∷ past) (inl h) = h.number_is
  first_number number n (e ∷ past) (inr h) = first_number number n past h

  module _ (number sequence : ℕ) (tag : Option (List ℕ)) (format : Option ℕ) (body : List ℕ) (past : List Entry)
      (c : C.Call) (law : Lawful config (OfClient c ∷ past)) (formats : FormatsIn past)
      (f : IsObserved config.client_sizes number sequence tag format body (client_of past) c) where
    abbrev before : Lawful config past
    before = lawful_back config past (OfClient c) law

    taken : Sometime (TakesAt config small number f.first) (OfClient c ∷ past)
    taken = newest_shown config small number f.first (OfClient c ∷ past) law formats f.is_newest

    -- what shows the last part, shows the value
    abbrev AtEach : Type 0
    AtEach = (p : List Entry) (e : Entry) → Lawful config (e ∷ p) → Within config (e ∷ p) past
        → ShownAt config f.last p e → ValueSince config number sequence tag format body p e

    at_one : IsAlone config.client_sizes f.first f.parts f.last (client_of past) c → AtEach
    at_one a =
        let k = taken_shown config small number f.first past c law formats a.now
        (first_number number f.first (OfClient c ∷ past) taken) in
        let r = k.registered in
        value_here number sequence tag format body past before c f r.sending r.sent (ap observation_for r.registers)
        (r.token_is ∙ ap (λ (m : Message). m.token) (sym a.is))
        (subst (Each (PartHeld config small past)) (sym a.none) tt)
        (λ path held was shown. f.sequence_is ∙ (subst (IsShown held) a.is shown).sequence k.notification)

    at_more : IsFetchedFor config.client_sizes number f.first f.parts f.last (client_of past) c → AtEach
    at_more b =
        let t = server_trace config past in
        let tags = server_facts.tags config.limits config.server_szx config.server_setup t before.server in
        let k = first_shown number f.first (OfClient c ∷ past) taken in
        let begins = part_held config.limits config.server_szx t b.part f.first.message k.path k.held b.begins k.was
        k.shown in
        let parts = subst (Each (PartHeld config small past)) (sym b.split)
        (begins, each_rest number past before formats b.rest b.took) in
        let numbered : (path : List (List ℕ)) (held : Held) → HeldIn config path held past → IsShown held f.last
        → sequence ≡ sequence_number held.version =
        λ path held was shown. (
        let alike = subst (Each (λ p. p.tag ≡ Some (tag_of held.version))) b.split
        (tags_of config.limits config.server_szx t tags path held was f.parts f.last f.block body shown f.comes_last
        f.whole) in
        let same : k.held ≡ held = same_held config.limits config.server_szx t tags path held was k.path k.held k.was
        (sym k.shown.tag ∙ (sym (ap (λ (p : Part). p.tag) b.begins.is) ∙ alike.0)) in
        f.sequence_is ∙ (k.shown.sequence (first_notifies number f.first (OfClient c ∷ past) taken)
        ∙ ap (λ (h : Held). sequence_number h.version) same))
        in
        value_here number sequence tag format body past before c f b.heard.sending b.heard.sent
        (ap observation_for b.heard.fetches) b.heard.token parts numbered

    pub value_at : AtEach
    value_at = elim f.comes [ inl a ↦ at_one a | inr b ↦ at_more b ]

    pub last_shown : Sometime (ShownAt config f.last) past
    last_shown = elim f.comes [
      | inl a ↦ subst (λ m. Sometime (ShownAt config m) past) (sym a.is)
          (taken_shown config small number f.first past c law formats a.now
          (first_number number f.first (OfClient c ∷ past) taken)).shown
      | inr b ↦ heard_shown config small past c law formats f.last b.heard.heard f.code
    ]

    value_held : Sometime (ValueSince config number sequence tag format body) past
    value_held = each_within config (ShownAt config f.last) (ValueSince config number sequence tag format body) past
        value_at
        past before (within_self config past) last_shown

  pub each_value : (all : List Entry) → Lawful config all → FormatsIn all → EachValue config all
  each_value all law formats number sequence tag format body = go all law formats
    where
      go : (t : List Entry) → Lawful config t → FormatsIn t
          → Always (λ past e. ReportsAt config (record { number = number; report = Value sequence tag format body })
          past e → Sometime (ValueSince config number sequence tag format body) past) t
      go [] law formats = tt
      go (OfServer c ∷ past) law formats = (
        λ made. absurd made,
        go past (lawful_back config past (OfServer c) law) formats.1,
      )
      go (OfClient c ∷ past) law formats = (
        λ made. value_held number sequence tag format body past c law formats
            ((values_are_whole config.client_sizes config.addresses.server config.client_setup (c ∷ client_of past)
            law.client).0 number
            sequence tag format body made),
        go past (lawful_back config past (OfClient c) law) formats,
      )

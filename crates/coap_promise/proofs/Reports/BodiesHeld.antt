-- A body that a client reports was held by the server at the path of the call, between the call and the report.
use Rattle.std.proofs.Common.{◌≡◌, ◌≤◌, inl, inr, ℕ, Option, Some, List, [], ◌∷◌, ap, sym, subst, ◌∙◌}
use Rattle.coap_types.specs.Past.{Sometime, Always}
use Rattle.coap_types.specs.RequestPath.{path_of}
use Rattle.coap_codec.specs.Message.{Message}
use Rattle.coap_block.specs.Whole.{Part, Each}
use Rattle.coap_client_laws.specs.Follows.Bodies.{TookPart, IsFetched}
use Rattle.coap_client.specs.Responses.{content}
use Rattle.coap_client.specs.Trace as C
use Rattle.coap_client.specs.Trace.{Body}
use Rattle.coap_client.specs.Sendings.{hears}
use Rattle.coap_client_laws.proofs.Facts.Laws as client_facts
use Rattle.coap_server_laws.proofs.Facts.Laws as server_facts
use Rattle.coap_record.specs.Events.{Config}
use Rattle.coap_record.specs.Record.{Entry, OfClient, OfServer, client_of, server_trace}
use Rattle.coap_promise.specs.Words.{ReportsAt, last_at}
use Rattle.coap_promise.proofs.Facts.Reports.Answered.{all_answered}
use Rattle.coap_promise.proofs.Any.Requests.OfACall.{Lawful, lawful_back}
use Rattle.coap_promise.specs.Held.{HeldSince, EachHeld}
use Rattle.coap_promise.proofs.Facts.Reports.FormatsSet.{FormatsIn}
use Rattle.coap_promise.proofs.Facts.Reports.HeldThere.{held_later, Within, within_back, within_self, shown_there}
use Rattle.coap_promise.proofs.Facts.Reports.HeldThere.{some_shown}
use Rattle.coap_promise.proofs.Facts.Reports.HeldThere.{of_call, one_of_call, each_within}
use Rattle.coap_promise.proofs.Reports.PartsOfOne.{IsPartHeld, part_held, body_held}
use Rattle.coap_promise.proofs.Facts.Reports.Shown.{ShownAt, shown_in}
use Rattle.coap_promise.proofs.Facts.Reports.Understood.{heard_understood}

module _ (config : Config) (small : config.server_szx ≤ 6) where
  -- what is heard here was shown before
  pub heard_shown : (past : List Entry) (c : C.Call) → Lawful config (OfClient c ∷ past) → FormatsIn past
      → (m : Message) → hears c ≡ Some m
      → m.code ≡ content → Sometime (ShownAt config m) past
  heard_shown past c law formats m heard code =
      shown_in config m code (heard_understood config.addresses.server config.client_sizes config.client_setup
      (client_of past) c law.client m heard) small past (lawful_back config past (OfClient c) law) formats
      ((all_answered config (OfClient c ∷ past) law).0 m heard)

  abbrev pub PartHeld : List Entry → Part → Type 0
  PartHeld w p = IsPartHeld config.limits config.server_szx (server_trace config w) p

  pub part_later : (p : Part) (w : List Entry) (e : Entry) → PartHeld w p → PartHeld (e ∷ w) p
  part_later p w e k = record {
    path = k.path;
    held = k.held;
    was = held_later config k.path k.held w e k.was;
    tag = k.tag;
    piece = k.piece;
  }

  -- each part that was taken
  took_held : (number : ℕ) (p : Part) (w : List Entry) → Lawful config w → FormatsIn w
      → TookPart config.client_sizes number p (client_of w) → PartHeld w p
  took_held number p [] law formats h = absurd h
  took_held number p (OfServer c ∷ past) law formats h =
      part_later p past (OfServer c) (took_held number p past (lawful_back config past (OfServer c) law) formats.1 h)
  took_held number p (OfClient c ∷ past) law formats (first, inr h) =
      took_held number p past (lawful_back config past (OfClient c) law) formats h
  took_held number p (OfClient c ∷ past) law formats (first, inl h) =
      let k = some_shown config h.message past (heard_shown past c law formats h.message h.heard.heard h.part.code) in
      part_held config.limits config.server_szx (server_trace config past) p h.message k.path k.held h.part k.was
      k.shown

  module _ (number : ℕ) (tag : Option (List ℕ)) (format : Option ℕ) (body : List ℕ) (all : List Entry)
      (law : Lawful config all) (c : C.Call) (f : IsFetched config.client_sizes number tag format body (client_of all)
      c)
      (parts : Each (PartHeld all) f.parts) where
    -- the last part shows it
    pub held_here : (past : List Entry) (e : Entry) → Lawful config (e ∷ past) → Within config (e ∷ past) all
        → ShownAt config f.message past e → HeldSince config number tag format body past e
    held_here past e here in_all k =
        let path = path_of k.sending.request.options in
        let was = in_all.held path k.held (shown_there config f.message past e k) in
        let before = within_back config all past e in_all in
        let of = one_of_call config all law k.sending f.heard.sending number
        (before.sent k.sending k.sent) f.heard.sent f.heard.of_call (k.token ∙ sym f.heard.token) in
        let g = of_call config number k.sending past k.sent of in
        let tags = server_facts.tags config.limits config.server_szx config.server_setup
        (server_trace config all) law.server in
        let body_is : body ≡ k.held.body = body_held config.limits config.server_szx
        (server_trace config all) tags path k.held was f.parts f.message f.block body parts k.shown f.last f.whole
        in
        let format_is : format ≡ k.held.format = f.format_is ∙ k.shown.format in
        let there : last_at config path (e ∷ past)
        ≡ Some (record { version = k.held.version; format = format; body = body }) =
        k.is_held ∙ (ap (λ b. Some (record { version = k.held.version; format = k.held.format; body = b }))
        (sym body_is) ∙ ap (λ o. Some (record { version = k.held.version; format = o; body = body }))
        (sym format_is))
        in
        record {
          request = g.request;
          called = g.called;
          version = k.held.version;
          holds = record {
            tag_is = f.tag_is ∙ k.shown.tag;
            there = subst (λ p. last_at config p (e ∷ past)
                ≡ Some (record { version = k.held.version; format = format; body = body })) g.path there;
          };
        }

  pub each_took : (number : ℕ) (w : List Entry) → Lawful config w → FormatsIn w → (ps : List Part)
      → Each (λ p. TookPart config.client_sizes number p (client_of w)) ps → Each (PartHeld w) ps
  each_took number w law formats [] h = tt
  each_took number w law formats (p ∷ ps) h = (
    took_held number p w law formats h.0,
    each_took number w law formats ps h.1,
  )

  pub each_held : (all : List Entry) → Lawful config all → FormatsIn all → EachHeld config all
  each_held all law formats number tag format body = go all law formats
    where
      go : (t : List Entry) → Lawful config t → FormatsIn t
          → Always (λ past e. ReportsAt config (record { number = number; report = Body tag format body }) past e
          → Sometime (HeldSince config number tag format body) past) t
      go [] law formats = tt
      go (OfServer c ∷ past) law formats = (
        λ made. absurd made,
        go past (lawful_back config past (OfServer c) law) formats.1,
      )
      go (OfClient c ∷ past) law formats = (
        λ made. (
            let before = lawful_back config past (OfClient c) law in
            let f = (client_facts.bodies config.addresses.server config.client_sizes config.client_setup
            (c ∷ client_of past) law.client).0 number tag format body made in
            each_within config (ShownAt config f.message) (HeldSince config number tag format body) past
            (held_here number tag format body past before c f (each_took number past before formats f.parts f.took))
            past
            before (within_self config past) (heard_shown past c law formats f.message f.heard.heard f.code)),
        go past (lawful_back config past (OfClient c) law) formats,
      )

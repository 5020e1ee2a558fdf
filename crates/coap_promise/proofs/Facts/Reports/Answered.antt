-- What a client takes as an answer the server made before, for it, under that token.
use Rattle.std.proofs.Common.{◌≡◌, inl, inr, ℕ, Some, List, [], ◌∷◌, map, refl, ap, sym, subst, ◌∙◌}
use Rattle.coap_types.specs.Past.{Ever, Sometime}
use Rattle.coap_types.proofs.Facts.Traces.{Ever_front}
use Rattle.coap_types.specs.Roles.{role_of}
use Rattle.coap_types.specs.declared.endpoint.Endpoint.{Endpoint}
use Rattle.coap_types.specs.declared.role.Role.TheVariants as role
use Rattle.coap_codec.specs.Message.{Message}
use Rattle.coap_codec.proofs.Facts.EveryDatagram.{one_message}
use Rattle.coap_layer.specs.Trace as T
use Rattle.coap_layer.specs.Trace.{with_head}
use Rattle.coap_layer.proofs.Facts.Hops.{far_ever}
use Rattle.coap_exchange.specs.AnswererSteps.{content_with}
use Rattle.coap_exchange.specs.AnswererTrace as R
use Rattle.coap_client_laws.specs.Follows.Hears.{Hears}
use Rattle.coap_client.specs.Trace as C
use Rattle.coap_client.specs.Sendings.{hears}
use Rattle.coap_server_laws.specs.Follows.Gives.{Carries, IsEmpty, CarriesResponse}
use Rattle.coap_client_laws.proofs.Facts.Laws as client_facts
use Rattle.coap_server_laws.proofs.Facts.Laws as server_facts
use Rattle.coap_promise.specs.Answers.{IsResponse, replies, continues, refuses, notifies, AnswersAt, AllAnswered}
use Rattle.coap_record.specs.Events.{Config}
use Rattle.coap_promise.specs.Hops.{hops_in, client_adds}
use Rattle.coap_record.specs.Record.{Entry, OfClient, OfServer, client_of, server_trace, Setting, DelayOf, PlainOf}
use Rattle.coap_record.specs.Record.{gives_it, settings}
use Rattle.coap_promise.proofs.Reports.HeardWasSent.{Reads, SendsTo, was_given}
use Rattle.coap_promise.proofs.Facts.Delivery.HopsAreEntries.{client_layer, client_next, near_is, far_is}
use Rattle.coap_promise.proofs.Any.Requests.OfACall.{Lawful, lawful_back}
use Rattle.coap_promise.proofs.Facts.Reports.BegunWith.{none_made}

module _ (config : Config) where
  -- the response that a datagram carries was made here
  abbrev pub CarriesAt : T.Packet → List Entry → Entry → Type 0
  CarriesAt p past (OfClient c) = ⊥
  CarriesAt p past (OfServer c) = CarriesResponse config.limits config.server_szx config.server_setup p
      (server_trace config past) c

  none_begun : (p : T.Packet) (ss : List Setting)
      → Sometime (λ past c. CarriesResponse config.limits config.server_szx config.server_setup p past c)
      (map gives_it ss)
      → ⊥
  none_begun p [] h = h
  none_begun p (s ∷ ss) (inr h) = none_begun p ss h
  none_begun p (DelayOf d ∷ ss) (inl (inl k)) = let here = k.here in cc here
  none_begun p (DelayOf d ∷ ss) (inl (inr (inl k))) = let here = k.taken in cc here
  none_begun p (DelayOf d ∷ ss) (inl (inr (inr (inl k)))) = let here = k.handed in cc here
  none_begun p (PlainOf q ∷ ss) (inl (inl k)) = let here = k.here in cc here
  none_begun p (PlainOf q ∷ ss) (inl (inr (inl k))) = let here = k.taken in cc here
  none_begun p (PlainOf q ∷ ss) (inl (inr (inr (inl k)))) = let here = k.handed in cc here
  none_begun p (s ∷ ss) (inl (inr (inr (inr k)))) = none_made config k.observer ss k.made

  in_entries : (p : T.Packet) (all : List Entry)
      → Sometime (λ past c. CarriesResponse config.limits config.server_szx config.server_setup p past c)
      (server_trace config all) → Sometime (CarriesAt p) all
  in_entries p [] h = absurd (none_begun p (settings config) h)
  in_entries p (OfClient c ∷ past) h = inr (in_entries p past h)
  in_entries p (OfServer c ∷ past) (inl h) = inl h
  in_entries p (OfServer c ∷ past) (inr h) = inr (in_entries p past h)

  module _ (m : Message) (p : T.Packet) (reads : Reads p.bytes m) (to : p.to ≡ config.addresses.client) where
    -- what the datagram carries is what it spells
    response : (there : Endpoint) (token : List ℕ) (r : R.Response) → Carries p there token r
        → IsResponse config.addresses m there token r
    response there token r k =
        let is : m ≡ with_head k.kind k.id (content_with token r) =
        one_message p.bytes m (with_head k.kind k.id (content_with token r)) reads.spells k.spells
        in
        record {
          to_client = sym k.there ∙ to;
          token_is = sym (ap (λ (x : Message). x.token) is);
          code = ap (λ (x : Message). x.code) is;
          options = ap (λ (x : Message). x.options) is;
          payload = ap (λ (x : Message). x.payload) is;
        }

    pub answers_at : (past : List Entry) (e : Entry) → CarriesAt p past e → AnswersAt config m past e
    answers_at past (OfClient c) k = absurd k
    answers_at past (OfServer c) (inl k) = replies k.request k.here
        (response k.request.asked.from k.request.asked.token _ k.carries)
    answers_at past (OfServer c) (inr (inl k)) =
        continues k.block k.size k.taken k.more k.asks (response k.block.asked.from k.block.asked.token _ k.carries)
    answers_at past (OfServer c) (inr (inr (inl k))) =
        refuses k.asked k.verdict k.code k.comes k.handed k.unserved k.refuses
        (response k.asked.from k.asked.token _ k.carries)
    answers_at past (OfServer c) (inr (inr (inr k))) =
        notifies k.observer k.reply k.here k.made k.shows (response k.observer.to k.observer.token _ k.carries)

    answers_in : (w : List Entry) → Sometime (CarriesAt p) w → Sometime (AnswersAt config m) w
    answers_in [] h = h
    answers_in (e ∷ past) (inl h) = inl (answers_at past e h)
    answers_in (e ∷ past) (inr h) = inr (answers_in past h)

    pub not_empty : IsEmpty p → ⊥
    not_empty k =
        let is : m ≡ k.0 = one_message p.bytes m k.0 reads.spells k.1 in
        let none : role_of m.code ≡ role.Empty = ap role_of (ap (λ (y : Message). y.code) is ∙ k.2) in
        cc (none, reads.role)

  -- what the message layer of the client hands up here
  pub came_answered : (past : List Entry) (c : C.Call) → Lawful config (OfClient c ∷ past) → (m : Message)
      → Ever (Hears config.addresses.server m) (client_adds config (client_of past) c)
      → Sometime (AnswersAt config m) past
  came_answered past c law m heard =
      let e : Entry = OfClient c in
      let layer = subst (Ever (Hears config.addresses.server m)) (sym (client_next config (client_of past) c))
      (Ever_front (Hears config.addresses.server m) (client_adds config (client_of past) c)
      (client_layer config (client_of past)) heard) in
      let near = subst (Ever (Hears config.addresses.server m)) (sym (near_is config (e ∷ past))) layer in
      let g = was_given config.client_setup config.server_setup config.addresses.client config.addresses.server m
      (hops_in config (e ∷ past)) law.fair near in
      let p : T.Packet = record { to = config.addresses.client; bytes = g.bytes } in
      let far = subst (Ever (SendsTo config.addresses.client g.bytes)) (far_is config (e ∷ past))
      (far_ever (SendsTo config.addresses.client g.bytes) (hops_in config (e ∷ past)) g.sent) in
      elim (server_facts.gives config.limits config.server_szx config.server_setup
      (server_trace config past) law.server p far) [
        | inl none ↦ absurd (not_empty m p g.reads refl none)
        | inr made ↦ answers_in m p g.reads refl past (in_entries p past made)
      ]

  -- what is heard here
  answered : (past : List Entry) (c : C.Call) → Lawful config (OfClient c ∷ past) → (m : Message) → hears c ≡ Some m
      → Sometime (AnswersAt config m) past
  answered past c law m is = came_answered past c law m
      ((client_facts.handed_up config.addresses.server config.client_sizes config.client_setup
      (client_of (OfClient c ∷ past)) law.client).0 m is)

  pub all_answered : (all : List Entry) → Lawful config all → AllAnswered config all
  all_answered [] law = tt
  all_answered (OfClient c ∷ past) law = (
    λ m h. answered past c law m h,
    all_answered past (lawful_back config past (OfClient c) law),
  )
  all_answered (OfServer c ∷ past) law = (λ m h. absurd h, all_answered past (lawful_back config past (OfServer c) law))

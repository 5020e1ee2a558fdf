-- Where the client takes on one observation alone, the server serves its registration and fetches for it alone, and
-- each notification to the client is of it, under the token of that registration (RFC 7641, sections 3.1 and 4.1).
use Rattle.std.proofs.Common.{◌≡◌, inl, inr, ℕ, ◌==◌, false, Option, Some, None, List, [], ◌∷◌, ◌++◌, map, refl}
use Rattle.std.proofs.Common.{ap, sym, subst, ◌∙◌}
use Rattle.coap_types.specs.CoapOption.{CoapOption, option}
use Rattle.coap_types.specs.declared.option_number.TheConstants.{OBSERVE as observe, URI_PATH as uri_path}
use Rattle.coap_block.specs.declared.fetch_progress.Asked.{Asked}
use Rattle.coap_observe.specs.Observers.{Observer}
use Rattle.coap_client_laws.specs.Follows.Notified.{WasRegistered}
use Rattle.coap_client_laws.specs.Follows.OfObservations.{Observed, observation_for}
use Rattle.coap_client.specs.Observations.{fetch_of, observed_path}
use Rattle.coap_client.specs.Own.{Operation, Fetching, Observation}
use Rattle.coap_client.specs.Requests.{path_options, block2_option, message_of}
use Rattle.coap_server.specs.Follows.Observes.{AreObservers, Notice, notice, WasMade}
use Rattle.coap_server.specs.Follows.Serves.{Serving}
use Rattle.coap_server.specs.Trace as S
use Rattle.coap_smooth.specs.Current.{Alone}
use Rattle.coap_record.specs.Events.{Config}
use Rattle.coap_record.specs.Record.{Entry, OfClient, OfServer, Turn, entries_of, client_of, server_trace}
use Rattle.coap_promise.specs.Words.{ServesAt}
use Rattle.coap_promise.proofs.Facts.Delivery.EntriesInTime.{Every, every_join}
use Rattle.coap_promise.proofs.Facts.Reports.AskedBy.{asked_by, registered_by}
use Rattle.coap_promise.proofs.Facts.Reports.OfObservations.{of_observation}
use Rattle.coap_promise.proofs.Facts.Requests.OfACall.{Lawful, lawful_back}
use Rattle.coap_promise.proofs.Facts.Requests.Promised.{lawful}
use Rattle.coap_smooth.proofs.Smoothly.Answers.ConsCarry.{IsMessage, was_message}
use Rattle.coap_smooth.proofs.Smoothly.Answers.ConsOfOpen.{calls_before}
use Rattle.coap_smooth.proofs.Smoothly.Requests.NoObservers.{observes_none}
use Rattle.coap_smooth.proofs.Smoothly.Ticks.NothingIsLeft.{Stands, record_of}
use Rattle.coap_smooth.specs.NoticesCome.{IsOfIt, NoticesAreOfIt}
use Rattle.coap_smooth.specs.NoticesTaken.{IsForIt, IsRequestOfIt, RequestsAreOfIt}
use Rattle.coap_smooth.proofs.Watching.Values.SmoothBefore.{lawful_before, registered_before}
use Rattle.coap_smooth.proofs.Watching.Requests.NoticesToClient.{notified_made}
use Rattle.coap_smooth.proofs.Watching.Requests.SentForOne.{one_observed, sent_for_it}
use Rattle.coap_promise.proofs.Facts.Requests.AtAnyTime.{at_any_time}

-- a fetch has no Observe

abbrev AreOther : List CoapOption → Type 0
AreOther os = Every (λ (o : CoapOption). (o.number == observe) ≡ false) os

no_path : (vs : List (List ℕ)) → AreOther (map (option uri_path) vs)
no_path [] = tt
no_path (v ∷ vs) = (refl, no_path vs)

no_block : (o : Option Asked) → AreOther (block2_option o)
no_block None = tt
no_block (Some a) = (refl, tt)

fetch_other : (os : List Observation) (n : ℕ) → AreOther (message_of os (Fetching n)).options
fetch_other os n = every_join (λ (o : CoapOption). (o.number == observe) ≡ false) (path_options (observed_path n os))
    (block2_option (fetch_of n os)) (no_path (observed_path n os)) (no_block (fetch_of n os))

module _ (config : Config) (x : Observed) where
  -- requests that are served

  number_of : (op : Operation) → IsForIt x op → observation_for op ≡ Some x.number
  number_of op (inl h) = ap observation_for h
  number_of op (inr h) = ap observation_for h

  pub request_of_it : (past : List Entry) (c : S.Call) → Lawful config (OfServer c ∷ past) → Alone x (client_of past)
      → (s : Serving) → ServesAt config s past (OfServer c) → s.asked.from ≡ config.addresses.client
      → IsRequestOfIt config x past s
  request_of_it past c law alone s here from =
      let old = lawful_back config past (OfServer c) law in
      let k = asked_by config past c (at_any_time law) s here from in
      let f = sent_for_it config.addresses.server config.client_sizes config.client_setup x (client_of past) old.client
      alone k.sending
      k.sent in
      let o = of_observation config x.number k.sending past (at_any_time old) k.sent
      (number_of k.sending.operation f.for_it) in
      let same = one_observed x (record { number = x.number; path = o.path }) (client_of past) alone o.observed in
      record {
        sending = k.sending;
        sent = k.sent;
        for_it = f.for_it;
        token_is = k.token;
        options_are = k.options;
        path_is = k.path ∙ (o.asks ∙ ap (λ (z : Observed). z.path) same);
      }

  -- what was registered is so for good
  -- observers

  record IsMadeOfIt (o : Observer) (w : List Entry) : Type 0 where
    path_is : o.path ≡ x.path
    registered : WasRegistered config.client_sizes x.number o.token (client_of w)

  made_later : (o : Observer) (e : Entry) (w : List Entry) → IsMadeOfIt o w → IsMadeOfIt o (e ∷ w)
  made_later o e w k =
      record { path_is = k.path_is; registered = registered_before config x.number o.token (e ∷ []) w k.registered }

  made_of_it : (o : Observer) (w : List Entry) → Lawful config w → Alone x (client_of w) → o.to
      ≡ config.addresses.client
      → WasMade config.limits config.server_szx (server_trace config w) o → IsMadeOfIt o w
  made_of_it o [] law alone to h = absurd (registered_by config o [] (at_any_time law) to h).sent
  made_of_it o (OfClient c ∷ past) law alone to h =
      made_later o (OfClient c) past (made_of_it o past (lawful_back config past (OfClient c) law) alone.1 to h)
  made_of_it o (OfServer c ∷ past) law alone to (inr h) =
      made_later o (OfServer c) past (made_of_it o past (lawful_back config past (OfServer c) law) alone to h)
  made_of_it o (OfServer c ∷ past) law alone to (inl h) =
      by (request_of_it past c law alone h.made.request h.made.here (h.made.from ∙ to))
    where
      by : IsRequestOfIt config x past h.made.request → IsMadeOfIt o (OfServer c ∷ past)
      by k = record { path_is = sym h.made.path_is ∙ k.path_is; registered = of_op k.for_it }
        where
          of_op : IsForIt x k.sending.operation → WasRegistered config.client_sizes x.number o.token (client_of past)
          of_op (inl is) = record {
            path = x.path;
            sending = k.sending;
            sent = k.sent;
            registers = is;
            token_is = k.token_is ∙ h.made.token_is;
          }
          of_op (inr is) =
              let m : IsMessage k.sending = was_message config.client_sizes k.sending (client_of past) k.sent in
              let r = m.is ∙ ap (message_of m.observations) is in
              absurd (observes_none h.made.request.question k.sending.request.options k.options_are
              (subst (λ q. AreOther q.options) (sym r) (fetch_other m.observations x.number)) h.made.observe)

  module _ (observers : (t : List S.Call) → AreObservers config.limits config.server_szx t) where
    notice_here : (past : List Entry) (c : S.Call) → Lawful config (OfServer c ∷ past) → Alone x (client_of past)
        → (n : Notice) → notice c ≡ Some n → n.observer.to ≡ config.addresses.client
        → IsOfIt config x past n
    notice_here past c law alone n is to =
        let t : List S.Call = server_trace config past in
        let old = lawful_back config past (OfServer c) law in
        let made = notified_made config observers t c n is law.server in
        let k = made_of_it n.observer past old alone to made in
        record { to_is = to; path_is = k.path_is; registered = k.registered }

    module _ (turns : List Turn) (s : Stands config turns)
        (alone : Alone x (client_of (entries_of turns))) where
      law_there : (newer older : List Entry) → entries_of turns ≡ newer ++ older → Lawful config older
      law_there newer older split = lawful_before config newer older (subst (Lawful config) split
          (lawful config _ turns (record_of config turns s) (record { range = s.range; events = s.legal })))

      alone_there : (newer older : List Entry) → entries_of turns ≡ newer ++ older → Alone x (client_of older)
      alone_there newer older split = calls_before _ newer older (subst (λ es. Alone x (client_of es)) split alone)

      pub notices_are_of_it : NoticesAreOfIt config x (entries_of turns)
      notices_are_of_it newer older c n split is to =
          notice_here older c (law_there newer (OfServer c ∷ older) split)
          (alone_there newer (OfServer c ∷ older) split) n is to

      pub requests_are_of_it : RequestsAreOfIt config x (entries_of turns)
      requests_are_of_it newer older c r split here from =
          request_of_it older c (law_there newer (OfServer c ∷ older) split)
          (alone_there newer (OfServer c ∷ older) split) r here from

-- While the one observation of a client goes on, it takes in each response under the token of the registration, and so
-- each notification that comes (RFC 7641, section 3.2).
use Rattle.std.proofs.Common.{◌≡◌, ◌⊎◌, inl, inr, ℕ, true, false, Some, List, [], ◌∷◌, ◌++◌, ap, sym, subst, ◌∙◌}
use Rattle.std.proofs.Common.{append_assoc, is_some}
use Rattle.coap_types.proofs.Facts.Endpoints.{same_endpoint_self}
use Rattle.coap_types.specs.Past.{Always}
use Rattle.coap_types.specs.Recognised.{lacks_critical}
use Rattle.coap_types.specs.declared.direction.Direction.TheVariants.{Response}
use Rattle.coap_types.specs.declared.endpoint.Endpoint.{Endpoint}
use Rattle.coap_types.specs.declared.message.Kind.TheVariants.{Con, Non}
use Rattle.coap_layer.specs.declared.setup.Setup.{Setup}
use Rattle.coap_block.specs.Sizes.{Sizes}
use Rattle.coap_codec.specs.Message.{Message}
use Rattle.coap_exchange.specs.AskerResponses.{IsSound}
use Rattle.coap_client_laws.specs.Follows.Answered.{HasReport}
use Rattle.coap_client_laws.specs.Follows.Ended.{WasForgotten}
use Rattle.coap_client_laws.specs.Follows.Live.{IsLive}
use Rattle.coap_client_laws.specs.Follows.Noticed.{NoticesAreHeard}
use Rattle.coap_client_laws.specs.Follows.Notified.{WasRegistered}
use Rattle.coap_client_laws.specs.Follows.OfObservations.{Observed}
use Rattle.coap_client_laws.specs.Follows.Open.{AnswersAreHeard}
use Rattle.coap_client.specs.Law.{ClientLaw}
use Rattle.coap_client.specs.Own.{Operation, Registering, Fetching}
use Rattle.coap_client.specs.Requests.{message_of}
use Rattle.coap_client.specs.Trace as C
use Rattle.coap_client.specs.Trace.{Report, is_value}
use Rattle.coap_client_laws.proofs.Facts.Laws as client_facts
use Rattle.coap_client_laws.proofs.Facts.Watches.{cancels_are_taken, IsAwaited, registered}
use Rattle.coap_server.specs.Follows.Observes.{AreObservers, Notice, notice}
use Rattle.coap_server.specs.Trace as S
use Rattle.coap_server_laws.proofs.Facts.Laws as server_facts
use Rattle.coap_client_laws.specs.Follows.Gives.{forgotten}
use Rattle.coap_smooth.specs.Current.{Watches, Alone}
use Rattle.coap_record.specs.Events.{Config}
use Rattle.coap_record.specs.Record.{Entry, OfClient, OfServer, Turn, entries_of, client_of, server_trace}
use Rattle.coap_promise.specs.Words.{ReportsAt}
use Rattle.coap_smooth.proofs.Smoothly.Answers.ConsCarry.{IsMessage, was_message}
use Rattle.coap_smooth.proofs.Smoothly.Answers.ConsOfOpen.{calls_before}
use Rattle.coap_smooth.proofs.Smoothly.Ticks.NothingIsLeft.{Stands, before, client_behind, ForClient, ForServer}
use Rattle.coap_smooth.proofs.Smoothly.Ticks.NothingIsLeft.{server_behind}
use Rattle.coap_smooth.specs.NoticesCome.{AllNoticesCome, IsFed, NoticeComes, notice_message, server_moment}
use Rattle.coap_smooth.specs.NoticesTaken.{IsForIt, IsTakenIn, NoticesAreTaken, NoticeIsTaken, ResponsesAreTakenIn}
use Rattle.coap_smooth.proofs.Watching.Requests.SentForOne.{no_cancel, SentForIt, sent_for_it}
use Rattle.coap_smooth.proofs.Watching.Requests.OfIt.{notices_are_of_it}
use Rattle.coap_smooth.proofs.Watching.Values.SmoothBefore.{registered_before, watched_before}

-- the observation goes on, in the client's words

pub never_forgotten : (number : ℕ) (t : List C.Call) → Always (λ past c. forgotten c ≡ Some number → ⊥) t
    → WasForgotten number t → ⊥
never_forgotten number [] kept h = h
never_forgotten number (c ∷ t) kept (inl h) = kept.0 h
never_forgotten number (c ∷ t) kept (inr h) = never_forgotten number t kept.1 h

module _ (config : Config) where
  abbrev Goes : ℕ → List Entry → Type 0
  Goes number es = Always (λ past e. (report : Report)
      → ReportsAt config (record { number = number; report = report }) past e
      → is_value report ≡ true) es

  none_final : (number : ℕ) (es : List Entry) → Goes number es
      → HasReport config.addresses.server config.client_sizes config.client_setup number (client_of es) → ⊥
  none_final number [] goes h = h
  none_final number (OfServer c ∷ past) goes h = none_final number past goes.1 h
  none_final number (OfClient c ∷ past) goes (inr h) = none_final number past goes.1 h
  none_final number (OfClient c ∷ past) goes (inl h) =
      let r = h.0 in
      let value = goes.0 r.report (h.2.made ∙ ap (λ n. Some (record { number = n; report = r.report })) h.1) in
      let final = h.2.final in
      cc (value, final)

module _ (config : Config) (x : Observed)
    (answers : (server : Endpoint) (sizes : Sizes) (setup : Setup) (t : List C.Call) → ClientLaw server sizes setup t
    → AnswersAreHeard server sizes setup t)
    (notices : (server : Endpoint) (sizes : Sizes) (setup : Setup) (t : List C.Call) → ClientLaw server sizes setup t
    → NoticesAreHeard server sizes setup t) where
  abbrev Law : List C.Call → Type 0
  Law t = ClientLaw config.addresses.server config.client_sizes config.client_setup t

  registers_it : (op : Operation) (path : List (List ℕ)) → IsForIt x op → op ≡ Registering x.number path
      → op ≡ Registering x.number x.path
  registers_it op path (inl h) is = h
  registers_it op path (inr h) is = let e : Registering x.number path ≡ Fetching x.number = sym is ∙ h in absurd (cc e)

  taken_here : (t : List C.Call) (d : C.Call) → Law (d ∷ t) → Alone x t → (WasForgotten x.number t → ⊥)
      → (HasReport config.addresses.server config.client_sizes config.client_setup x.number t → ⊥)
      → (m : Message) (since : ℕ)
      → IsFed config.addresses m since d → (m.kind ≡ Con) ⊎ (m.kind ≡ Non)
      → WasRegistered config.client_sizes x.number m.token t
      → lacks_critical Response m.options ≡ false → IsTakenIn config x m t d
  taken_here t d law alone kept none m since fed kind w understood =
      by (registered config.addresses.server config.client_sizes config.client_setup t old x it.taken kept none
      w.sending w.sent op)
    where
      old : Law t
      old = client_facts.back config.addresses.server config.client_sizes config.client_setup (d ∷ []) t law

      it : SentForIt config.addresses.server config.client_sizes config.client_setup x w.sending t
      it = sent_for_it config.addresses.server config.client_sizes config.client_setup x t old alone w.sending w.sent

      op : w.sending.operation ≡ Registering x.number x.path
      op = registers_it w.sending.operation w.path it.for_it w.registers

      sound : IsSound config.addresses.server config.client_setup config.addresses.server m
      sound = record { there = same_endpoint_self config.addresses.server; understood = understood }

      -- a registration has no token of its own
      no_cancel_of : is_some w.sending.request.token ≡ false
      no_cancel_of =
          let k : IsMessage w.sending = was_message config.client_sizes w.sending t w.sent in
          ap (λ r. is_some r.token) (k.is ∙ ap (message_of k.observations) op)

      by : IsAwaited config.addresses.server config.client_sizes config.client_setup w.sending t
          ⊎ IsLive config.client_sizes x.number x.path w.sending.token t → IsTakenIn config x m t d
      by (inl a) = inl (
        a.operates ∙ ap (λ o. Some o) op,
        (answers config.addresses.server config.client_sizes config.client_setup (d ∷ t) law).0 fed.now
            config.addresses.server
            fed.bytes fed.word m fed.settled fed.event fed.sent fed.token fed.kept a.exchange fed.is sound a.runs
            (sym w.token_is ∙ sym a.token) (inr (kind, inl (a.cancel ∙ no_cancel_of))),
      )
      by (inr live) = inr (
        subst (λ k. IsLive config.client_sizes x.number x.path k t) w.token_is live,
        (notices config.addresses.server config.client_sizes config.client_setup (d ∷ t) law).0 fed.now
            config.addresses.server
            fed.bytes fed.word m fed.settled fed.event fed.sent fed.token fed.kept x.number x.path fed.is sound
            (subst (λ k. IsLive config.client_sizes x.number x.path k t) w.token_is live)
            (λ runs. no_cancel x x.number t alone
            (cancels_are_taken config.client_sizes config.addresses.server config.client_setup t old x.number runs))
            kind,
      )

  pub responses_are_taken : (turns : List Turn) → Stands config turns → Alone x (client_of (entries_of turns))
      → ResponsesAreTakenIn config x (entries_of turns)
  responses_are_taken turns s alone newer older d m since split watches fed kind w understood =
      let there : List Entry = OfClient d ∷ older in
      let law = client_behind config newer there (subst (ForClient config) split s.client) in
      let alone_there = calls_before _ newer there (subst (λ es. Alone x (client_of es)) split alone) in
      taken_here (client_of older) d law alone_there.1 (never_forgotten x.number (client_of older) watches.kept)
      (none_final config x.number older watches.still) m since fed kind w understood

  module _ (observers : (t : List S.Call) → AreObservers config.limits config.server_szx t) where
    taken_there : (past : List Turn) → Stands config past → Alone x (client_of (entries_of past))
        → Watches config x.number (entries_of past) → (newer older : List Entry) (c : S.Call) (n : Notice)
        → entries_of past ≡ newer ++ OfServer c ∷ older
        → notice c ≡ Some n → n.observer.to ≡ config.addresses.client → NoticeComes config n newer older c
        → NoticeIsTaken config x n newer older c
    taken_there past s alone watches newer older c n split is to k =
        record {
          comes = k;
          taken = responses_are_taken past s alone k.newest behind k.call (notice_message config k.kind k.id older n)
              (server_moment config older c) parts
              (watched_before config x.number (k.newest ++ OfClient k.call ∷ []) behind
              (subst (Watches config x.number) (parts ∙ sym (append_assoc k.newest (OfClient k.call ∷ []) behind))
              watches))
              k.fed k.kind_is (registered_before config x.number n.observer.token k.between (OfServer c ∷ older) there)
              understood;
        }
      where
        behind : List Entry
        behind = k.between ++ OfServer c ∷ older

        parts : entries_of past ≡ k.newest ++ OfClient k.call ∷ behind
        parts = split ∙ (ap (λ l. l ++ OfServer c ∷ older) k.split
            ∙ append_assoc k.newest (OfClient k.call ∷ k.between) (OfServer c ∷ older))

        there : WasRegistered config.client_sizes x.number n.observer.token (client_of older)
        there = (notices_are_of_it config x observers past s alone newer older c n split is to).registered

        understood : lacks_critical Response (notice_message config k.kind k.id older n).options ≡ false
        understood =
            let law = server_behind config newer (OfServer c ∷ older) (subst (ForServer config) split s.server) in
            (server_facts.recognised config.limits config.server_szx config.server_setup (c ∷ server_trace config older)
            law s.range.server_szx s.range.server_limit.1).0.notices n is

    pub notices_are_taken : (turns : List Turn) → Stands config turns
        → Alone x (client_of (entries_of turns)) → AllNoticesCome config turns → Always (NoticesAreTaken config x) turns
    notices_are_taken [] s alone come = tt
    notices_are_taken (turn ∷ past) s alone come =
        let old = before config turn past s in
        let alone_there = calls_before _ turn.entries (entries_of past) alone in (
          λ watches newer older c n split is to late. taken_there past old alone_there watches newer older c n split
              is to (come.0 newer older c n split is to late),
          notices_are_taken past old alone_there come.1,
        )

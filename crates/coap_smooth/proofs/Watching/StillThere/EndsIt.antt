-- A response under the token of the registration that is no notification with 2.05 ends the observation where it is
-- heard or noted (RFC 7641, sections 3.2 and 4.2).
use Rattle.std.proofs.Common.{◌≡◌, ◌⊎◌, inl, inr, ℕ, true, false, is_some, Option, Some, None, List, [], ◌∷◌}
use Rattle.std.proofs.Common.{◌++◌, refl, ap, sym, subst, ◌∙◌, append_assoc}
use Rattle.coap_types.specs.Past.{Sometime, Always}
use Rattle.coap_types.proofs.Facts.Endpoints.{same_endpoint_self}
use Rattle.coap_types.proofs.Facts.Traces.{Always_back}
use Rattle.coap_types.specs.Recognised.{lacks_critical}
use Rattle.coap_types.specs.declared.direction.Direction.TheVariants.{Response}
use Rattle.coap_types.specs.declared.endpoint.Endpoint.{Endpoint}
use Rattle.coap_types.specs.declared.message.Kind.TheVariants.{Con, Non}
use Rattle.coap_layer.specs.declared.setup.Setup.{Setup}
use Rattle.coap_codec.specs.Message.{Message}
use Rattle.coap_block.specs.Sizes.{Sizes}
use Rattle.coap_exchange.specs.AskerTrace as E
use Rattle.coap_client.specs.Effects.{of}
use Rattle.coap_client_laws.specs.Follows.Answered.{HasReport, IsFinal, IsSentFor}
use Rattle.coap_client_laws.specs.Follows.Begins.{WasSent}
use Rattle.coap_client_laws.specs.Follows.Live.{IsLive}
use Rattle.coap_client_laws.specs.Follows.Newer.{Newly}
use Rattle.coap_client_laws.specs.Follows.Notified.{newest, notes, IsTaken, IsFirst, IsLater, WasRegistered}
use Rattle.coap_client_laws.specs.Follows.OfObservations.{Observed}
use Rattle.coap_client_laws.specs.Follows.Open.{AnswersAreHeard}
use Rattle.coap_client_laws.specs.Follows.Tokens.{Deregisters, OwnTokens}
use Rattle.coap_client.specs.Sendings.{Sending, hears}
use Rattle.coap_client.specs.Law.{ClientLaw, own_of}
use Rattle.coap_client.specs.Own.{Operation, Registering, Cancelling}
use Rattle.coap_client.specs.Requests.{message_of}
use Rattle.coap_client.specs.Responses.{is_notification}
use Rattle.coap_client.specs.Steps.{reports}
use Rattle.coap_client.specs.Trace as C
use Rattle.coap_client.specs.Trace.{Ended, Report, Reported, is_value}
use Rattle.coap_client_laws.proofs.Facts.EachCall.{are_of_observations, are_taken}
use Rattle.coap_client_laws.proofs.Facts.Exchanges.{hears_of_open, open_runs}
use Rattle.coap_client_laws.proofs.Facts.Laws as client_facts
use Rattle.coap_client_laws.proofs.Facts.Watches.{are_answered, are_noticed, are_watched, cancels_are_taken}
use Rattle.coap_client_laws.proofs.Facts.Watches.{registered_once}
use Rattle.coap_smooth.specs.Current.{Watches, Alone}
use Rattle.coap_record.specs.Events.{Config}
use Rattle.coap_record.specs.Record.{Entry, OfClient, OfServer, client_of}
use Rattle.coap_promise.specs.Words.{ReportsAt}
use Rattle.coap_promise.proofs.Facts.Observations.Positions.{AtClient, client_entries}
use Rattle.coap_promise.proofs.Facts.Requests.OfACall.{Lawful}
use Rattle.coap_smooth.proofs.Smoothly.Answers.ConsCarry.{was_message}
use Rattle.coap_smooth.proofs.Smoothly.Answers.ConsOfOpen.{calls_before}
use Rattle.coap_smooth.proofs.Smoothly.Answers.ExchangeOpen.{open_of, open_since, last_of, runs_of}
use Rattle.coap_smooth.specs.NoticesCome.{IsFed}
use Rattle.coap_smooth.proofs.Watching.StillThere.OneObservation.{one_sending, last_there, registers_so, cancels_so}
use Rattle.coap_smooth.proofs.Watching.StillThere.OneObservation.{first_taken, observed_of, opened_before}
use Rattle.coap_smooth.proofs.Watching.StillThere.OneObservation.{client_append, FirstTaken}
use Rattle.coap_smooth.proofs.Watching.Notifications.Newest.{newest_registered}
use Rattle.coap_smooth.proofs.Watching.Values.SmoothBefore.{lawful_before, sent_before}
use Rattle.coap_smooth.proofs.Watching.Requests.TakenIn.{never_forgotten}
use Rattle.coap_smooth.proofs.Watching.Requests.SentForOne as one
use Rattle.coap_client_laws.specs.Follows.Gives.{forgotten}

abbrev pub AllHeard : Type 0
AllHeard = (server : Endpoint) (sizes : Sizes) (setup : Setup) (t : List C.Call) → ClientLaw server sizes setup t
    → AnswersAreHeard server sizes setup t

abbrev pub AllOwn : Type 0
AllOwn = (server : Endpoint) (sizes : Sizes) (setup : Setup) (t : List C.Call) → ClientLaw server sizes setup t
    → OwnTokens sizes t

module _ (heard : AllHeard) (own : AllOwn) (config : Config) (x : Observed) (all : List Entry) (law : Lawful config all)
    (alone : Alone x (client_of all)) (watches : Watches config x.number all) (token : List ℕ)
    (registered : WasRegistered config.client_sizes x.number token (client_of all)) where
  abbrev sizes : Sizes
  sizes = config.client_sizes

  abbrev Law : List C.Call → Type 0
  Law t = ClientLaw config.addresses.server sizes config.client_setup t

  law_of : (later es : List Entry) → all ≡ later ++ es → Law (client_of es)
  law_of later es is = (lawful_before config later es (subst (Lawful config) is law)).client

  -- one registration has one token
  same_token : (later es : List Entry) → all ≡ later ++ es → (key : List ℕ)
      → WasRegistered sizes x.number key (client_of es)
      → key ≡ token
  same_token later es is key r =
      let there : WasSent sizes r.sending (client_of all) =
      subst (λ z. WasSent sizes r.sending (client_of z)) (sym is) (sent_before config later es r.sending r.sent) in
      let same = registered_once config.addresses.server sizes config.client_setup (client_of all) law.client r.sending
      registered.sending
      x.number r.path registered.path there registered.sent r.registers registered.registers in
      sym r.token_is ∙ (ap (λ (z : Sending). z.token) same ∙ registered.token_is)

  -- no cancel runs
  no_cancel : (later es : List Entry) → all ≡ later ++ es → (n : ℕ)
      → (own_of sizes (client_of es)).running ≡ Some (Cancelling n) → ⊥
  no_cancel later es is n runs =
      one.no_cancel x n (client_of es) (calls_before _ later es (subst (λ z. Alone x (client_of z)) is alone))
      (cancels_are_taken sizes config.addresses.server config.client_setup (client_of es) (law_of later es is) n runs)

  -- what runs under the token is the registration
  op_of : (later es : List Entry) → all ≡ later ++ es → (op : Operation) → (own_of sizes (client_of es)).running
      ≡ Some op
      → (s : Sending) → WasSent sizes s (client_of es) → IsSentFor op s → s.token ≡ token
      → s.operation ≡ Registering x.number registered.path
  op_of later es is op runs s sent sent_for same =
      by (client_facts.tokens config.addresses.server sizes config.client_setup (client_of all) law.client s
      registered.sending
      (subst (λ z. WasSent sizes s (client_of z)) (sym is) (sent_before config later es s sent)) registered.sent
      (same ∙ sym registered.token_is))
    where
      by : (s ≡ registered.sending) ⊎ (Deregisters s registered.sending ⊎ Deregisters registered.sending s)
          → s.operation ≡ Registering x.number registered.path
      by (inl e) = ap (λ (z : Sending). z.operation) e ∙ registered.registers
      by (inr (inl d)) = let z = sym d.cancels ∙ registered.registers in absurd (cc z)
      by (inr (inr d)) =
          absurd (no_cancel later es is d.number (runs ∙ ap (λ z. Some z)
          (cancels_so op s d.number sent_for d.cancels)))

  module _ (later older : List Entry) (d : C.Call) (split : all ≡ later ++ OfClient d ∷ older) (m : Message)
      (other : is_notification m ≡ false) (same : m.token ≡ token) where
    abbrev t : List C.Call
    t = client_of older

    behind : all ≡ (later ++ OfClient d ∷ []) ++ older
    behind = split ∙ sym (append_assoc later (OfClient d ∷ []) older)

    law_here : Law (d ∷ t)
    law_here = law_of later (OfClient d ∷ older) split

    law_t : Law t
    law_t = law_of (later ++ OfClient d ∷ []) older behind

    not_ended : reports (own_of sizes t) d ≡ of x.number (Ended m.code) → ⊥
    not_ended is =
        let z = (Always_back _ later (OfClient d ∷ older)
        (subst (λ e. Always (λ past e. (report : Report)
        → ReportsAt config (record { number = x.number; report = report }) past e → is_value report ≡ true) e) split
        watches.still)).0 (Ended m.code) is in
        cc z

    not_heard : hears d ≡ Some m → ⊥
    not_heard h =
        let k = (hears_of_open config.addresses.server sizes config.client_setup (d ∷ t) law_here).0 m h in
        let r = k.runs in
        let sent = last_there sizes r.sending t r.last_sent in
        let key : r.sending.token ≡ token = sym r.token ∙ (sym k.token ∙ same) in
        let op = op_of (later ++ OfClient d ∷ []) older behind r.operation r.operates r.sending sent r.sent_for key in
        let runs : (own_of sizes t).running ≡ Some (Registering x.number registered.path) =
        r.operates ∙ ap (λ z. Some z) (registers_so r.operation r.sending x.number registered.path r.sent_for op) in
        not_ended (((are_answered config.addresses.server sizes config.client_setup (d ∷ t) law_here).0 m x.number
        registered.path h runs).ends
        other)

    not_reported : HasReport config.addresses.server sizes config.client_setup x.number t → ⊥
    not_reported h =
        go older (Always_back _ (later ++ OfClient d ∷ []) older
        (subst (λ e. Always (λ past e. (report : Report)
        → ReportsAt config (record { number = x.number; report = report }) past e → is_value report ≡ true) e) behind
        watches.still))
        (client_entries config (λ past c. (r : Reported) × (r.number ≡ x.number)
        × IsFinal config.addresses.server sizes config.client_setup past c r)
        older h)
      where
        go : (es : List Entry)
            → Always (λ past e. (report : Report)
            → ReportsAt config (record { number = x.number; report = report }) past e → is_value report ≡ true) es
            → Sometime (AtClient config (λ past c. (r : Reported) × (r.number ≡ x.number)
            × IsFinal config.addresses.server sizes config.client_setup past c r)) es → ⊥
        go [] still k = k
        go (OfServer c ∷ es) still (inl k) = k
        go (OfServer c ∷ es) still (inr k) = go es still.1 k
        go (OfClient c ∷ es) still (inr k) = go es still.1 k
        go (OfClient c ∷ es) still (inl k) =
            let r : Reported = k.0 in
            let made = k.2.made ∙ ap (λ i. Some (record { number = i; report = r.report })) k.1 in
            let z = sym (still.0 r.report made) ∙ k.2.final in
            cc z

    -- where a notification was taken before, it is live
    not_noted : (n : Newly) → newest sizes x.number t ≡ Some n → notes d ≡ Some m → ⊥
    not_noted n is h =
        let r = newest_registered config.addresses.server sizes config.client_setup x.number n t law_t is in
        let o = observed_of sizes x.number r.path r.sending t
        (are_of_observations sizes config.addresses.server config.client_setup t law_t) r.registers r.sent in
        let key : n.message.token ≡ m.token =
        same_token (later ++ OfClient d ∷ []) older behind n.message.token r ∙ sym same in
        let live = are_watched config.addresses.server sizes config.client_setup t law_t
        (record { number = x.number; path = o.0 }) n o.1 is
        (never_forgotten x.number t (calls_before _ (later ++ OfClient d ∷ []) older
        (subst (λ e. Always (λ past c. forgotten c ≡ Some x.number → ⊥) (client_of e)) behind watches.kept)))
        not_reported in
        not_ended (((are_noticed config.addresses.server sizes config.client_setup (d ∷ t) law_here).0 m x.number o.0 h
        (subst (λ k. IsLive sizes x.number o.0 k t) key live)).ends other)

    -- .. and where none was, the exchange of the registration is open, so it is heard
    module _ (n : Newly) (newest_is : newest sizes x.number (client_of all) ≡ Some n) (since : ℕ)
        (fed : IsFed config.addresses m since d)
        (kind : (m.kind ≡ Con) ⊎ (m.kind ≡ Non)) (understood : lacks_critical Response m.options ≡ false)
        (before : WasRegistered sizes x.number token t) where
      whole : client_of all ≡ (client_of later ++ d ∷ []) ++ t
      whole = ap client_of split ∙ (client_append later (OfClient d ∷ older)
          ∙ sym (append_assoc (client_of later) (d ∷ []) t))

      opens : (f : FirstTaken sizes x.number (client_of later ++ d ∷ []) t) → hears d ≡ Some m
      opens f = by taken.comes
        where
          calls : List C.Call
          calls = f.mid ++ t

          all_is : client_of all ≡ f.newer ++ (f.call ∷ calls)
          all_is = whole ∙ (ap (λ l. l ++ t) f.split ∙ append_assoc f.newer (f.call ∷ f.mid) t)

          law_f : Law (f.call ∷ calls)
          law_f = client_facts.back config.addresses.server sizes config.client_setup f.newer (f.call ∷ calls)
              (subst Law all_is law.client)

          law_calls : Law calls
          law_calls = client_facts.back config.addresses.server sizes config.client_setup (f.call ∷ []) calls law_f

          taken : IsTaken sizes f.taken calls f.call
          taken = (are_taken config.addresses.server sizes config.client_setup (f.call ∷ calls) law_f).0 f.taken f.takes

          more : (xs : List C.Call) (y : List C.Call) (s : Sending) → WasSent sizes s y → WasSent sizes s (xs ++ y)
          more [] y s h = h
          more (c ∷ xs) y s h = inr (more xs y s h)

          -- the first one has the token of the registration
          key : f.taken.message.token ≡ token
          key =
              let r = taken.registered in
              let there : WasSent sizes r.sending (client_of all) =
              subst (WasSent sizes r.sending) (sym all_is) (more f.newer (f.call ∷ calls) r.sending (inr r.sent)) in
              let one = registered_once config.addresses.server sizes config.client_setup (client_of all) law.client
              r.sending
              registered.sending x.number r.path registered.path there registered.sent
              (r.registers ∙ ap (λ i. Registering i r.path) f.number_is) registered.registers in
              sym r.token_is ∙ (ap (λ (z : Sending). z.token) one ∙ registered.token_is)

          heard_first : hears f.call ≡ Some f.taken.message → hears d ≡ Some m
          heard_first h =
              let k = (hears_of_open config.addresses.server sizes config.client_setup (f.call ∷ calls) law_f).0
              f.taken.message h in
              let o = open_of config.addresses.server sizes config.client_setup k.since calls law_calls k.is_open in
              let both : Some k.runs.sending ≡ Some o.0 =
              sym k.runs.last_sent ∙ last_of config.addresses.server sizes config.client_setup k.since o.0 calls o.1 in
              let same_s : k.runs.sending ≡ o.0 = one_sending k.runs.sending o.0 both in
              let s_token : o.0.token ≡ token =
              ap (λ (z : Sending). z.token) (sym same_s) ∙ (sym k.runs.token ∙ (sym k.token ∙ key)) in
              let old = opened_before config.addresses.server sizes config.client_setup k.since before.sending o.0 f.mid
              t
              (own config.addresses.server sizes config.client_setup calls law_calls) before.sent
              (before.token_is ∙ sym s_token)
              (λ z. no_cancel_calls z.number (k.runs.operates ∙ ap (λ w. Some w)
              (cancels_so k.runs.operation k.runs.sending z.number k.runs.sent_for
              (ap (λ (w : Sending). w.operation) same_s ∙ z.cancels)))) o.1 in
              let r = runs_of config.addresses.server sizes config.client_setup k.since o.0 t law_t old in
              let q = (open_runs config.addresses.server sizes config.client_setup t law_t).runs k.since
              (open_since config.addresses.server sizes config.client_setup k.since o.0 t old) in
              let s_there = last_there sizes o.0 t (last_of config.addresses.server sizes config.client_setup k.since
              o.0 t old) in
              let both_q : Some q.sending ≡ Some o.0 =
              sym q.last_sent ∙ last_of config.addresses.server sizes config.client_setup k.since o.0 t old in
              let same_q : q.sending ≡ o.0 = one_sending q.sending o.0 both_q in
              let op = op_of (later ++ OfClient d ∷ []) older behind q.operation q.operates o.0 s_there
              (subst (IsSentFor q.operation) same_q q.sent_for) s_token in
              let w = was_message sizes o.0 t s_there in
              let no_token : o.0.request.token ≡ None =
              ap (λ (y : E.Request). y.token) w.is ∙ ap (λ z. (message_of w.observations z).token) op in
              (heard config.addresses.server sizes config.client_setup (d ∷ t) law_here).0 fed.now
              config.addresses.server fed.bytes fed.word m fed.settled
              fed.event fed.sent fed.token fed.kept r.exchange fed.is
              (record { there = same_endpoint_self config.addresses.server; understood = understood }) r.runs
              (same ∙ (sym s_token ∙ sym r.token)) (inr (kind, inl (r.cancel ∙ ap is_some no_token)))
            where
              no_cancel_calls : (i : ℕ) → (own_of sizes calls).running ≡ Some (Cancelling i) → ⊥
              no_cancel_calls i runs =
                  one.no_cancel x i calls
                  (Always_back _ (f.newer ++ f.call ∷ []) calls
                  (subst (Alone x) (all_is ∙ sym (append_assoc f.newer (f.call ∷ []) calls)) alone))
                  (cancels_are_taken sizes config.addresses.server config.client_setup calls law_calls i runs)

          by : IsFirst sizes f.taken calls f.call ⊎ IsLater sizes f.taken calls f.call → hears d ≡ Some m
          by (inl first) = heard_first first.heard
          by (inr later_one) =
              let z = sym f.none ∙ (ap (λ i. newest sizes i calls) (sym f.number_is) ∙ later_one.last) in
              absurd (cc z)

      -- so it is not taken in, where the observation goes on
      pub never_taken : (hears d ≡ Some m) ⊎ (notes d ≡ Some m) → ⊥
      never_taken (inl h) = not_heard h
      never_taken (inr h) = by (newest sizes x.number t) refl
        where
          by : (o : Option Newly) → newest sizes x.number t ≡ o → ⊥
          by (Some first) is = not_noted first is h
          by None is =
              not_heard (opens (first_taken sizes x.number n (client_of later ++ d ∷ []) t
              (ap (newest sizes x.number) (sym whole) ∙ newest_is) is))

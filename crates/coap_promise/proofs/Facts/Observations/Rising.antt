-- Of two values of one observation the later one has the later version.
use Rattle.std.proofs.Common.{◌≡◌, ◌<◌, ◌≤◌, ◌⊎◌, inl, inr, ℕ, ◌+◌, Option, Some, List, [], ◌∷◌, ◌++◌, map, refl, ap}
use Rattle.std.proofs.Common.{arith, sym, subst, ◌∙◌}
use Rattle.coap_types.specs.Past.{Ever, Sometime, Always}
use Rattle.coap_types.proofs.Facts.Traces.{Sometime_map}
use Rattle.coap_types.specs.declared.transmission.TheConstants.{MAX_LATENCY_MS as max_latency}
use Rattle.coap_types.specs.declared.message.Kind.TheVariants.{Con, Non}
use Rattle.coap_codec.specs.Message.{Message}
use Rattle.coap_layer.specs.Channel.{Hop, Far, near_of, OnFar}
use Rattle.coap_layer.specs.Clocks.{Clocks, turned}
use Rattle.coap_layer.specs.Paced.{Meanwhile, ChannelLaw, HandsUpAs}
use Rattle.coap_layer.specs.Words.{Open, begun, clock}
use Rattle.coap_layer.proofs.Facts.Paced.{far_gap}
use Rattle.coap_resource.specs.declared.tally.TheConstants.{MAX_CHANGES_PER_WINDOW as max_changes}
use Rattle.coap_client_laws.specs.Follows.Ended.{WasCancelled}
use Rattle.coap_client_laws.specs.Follows.Newer.{Newly, notifies}
use Rattle.coap_client_laws.specs.Follows.Noted.{HeardAt}
use Rattle.coap_client_laws.specs.Follows.Notified.{WasRegistered, IsLater, IsTaken}
use Rattle.coap_client_laws.specs.Follows.Rising.{Shows}
use Rattle.coap_client.specs.Sendings.{Sending}
use Rattle.coap_client.specs.Law as C
use Rattle.coap_client.specs.Responses.{tag_in}
use Rattle.coap_client.specs.Trace.{Call}
use Rattle.coap_client_laws.proofs.Facts.EachCall.{are_noted_at, are_of_types, are_over, are_taken, ask_once}
use Rattle.coap_client_laws.proofs.Facts.EachCall.{values_are_whole, values_rise}
use Rattle.coap_server.specs.Follows.Tells.{InCon, InNon, InReply, Telling, Way}
use Rattle.coap_server_laws.specs.Follows.Told.{Conveys, TellsIn, TellsSent}
use Rattle.coap_server.specs.Trace as S
use Rattle.coap_server_laws.proofs.Facts.EachCall.{all_tell_sent}
use Rattle.coap_record.specs.Events.{Config}
use Rattle.coap_promise.specs.Hops.{hops_in, across, client_adds}
use Rattle.coap_record.specs.Record.{Entry, OfClient, OfServer, client_of, server_trace}
use Rattle.coap_promise.specs.Rising.{Names, AreRising, ShowsValue, ValuesRise}
use Rattle.coap_promise.proofs.Facts.Observations.Acknowledged.{taken_before, not_after, not_again}
use Rattle.coap_promise.proofs.Facts.Observations.Chain.{Rise, RisesNext, newest_taken, chained}
use Rattle.coap_promise.proofs.Facts.Observations.Following.{OnceOf, acked_in, follows_in, reply_first}
use Rattle.coap_promise.proofs.Facts.Observations.Heard.{Behind, TellsCon, TellsAck, TellsNon, con_told, law_across}
use Rattle.coap_promise.proofs.Observations.NonsRise.{Told, FollowsNon, Meets, Renews, not_behind, not_at_once}
use Rattle.coap_promise.proofs.Facts.Observations.OneRegistration.{serves_once}
use Rattle.coap_promise.proofs.Facts.Observations.OneVersion.{one_version}
use Rattle.coap_promise.proofs.Facts.Observations.Positions.{behind, client_entries}
use Rattle.coap_promise.proofs.Facts.Observations.ToldThen.{told_in_con}
use Rattle.coap_promise.proofs.Facts.Observations.TagOfAValue.{tag_of_first, shown_of, newest_number, one_registration}
use Rattle.coap_promise.proofs.Facts.Observations.Taken.{sizes, NonTold, HeardTold, in_con, in_ack, in_non, non_here}
use Rattle.coap_promise.proofs.Facts.Observations.Taken.{TakenTold, formats_back, taken_here, taken_told}
use Rattle.coap_promise.proofs.Facts.Reports.FormatsSet.{FormatsIn}
use Rattle.coap_promise.proofs.Facts.Requests.OfACall.{Lawful, lawful_back}

rising_by : (v w : ℕ) (first second : Option (List ℕ)) → Names v first → Names w second → v < w → AreRising first second
rising_by v w first second a b less = record {
  older = v;
  newer = w;
  first_is = a;
  second_is = b;
  rises = less;
  always = λ x y p q. subst (λ z. z < y) (one_version v x first a p)
      (subst (λ z. v < z) (one_version w y second b q) less);
}

module _ (config : Config) (small : config.server_szx ≤ 6) (few : config.limits.changes ≤ max_changes) where
  named : (x : Telling) (m : Message) → Conveys x config.addresses.client m → Names x.version (tag_in m)
  named x m k = record { small = k.small; is = k.tag_is }

  -- one that is taken, and the newest before it
  module _ (past : List Entry) (c : Call) (law : Lawful config (OfClient c ∷ past)) (formats : FormatsIn past)
      (number : ℕ) (second : Newly) (of_second : second.number ≡ number)
      (comes : notifies (C.own_of (sizes config) (client_of past)) c ≡ Some second)
      (later : IsLater (sizes config) second (client_of past) c)
      (none : WasCancelled (sizes config) number (client_of past) → ⊥) where
    abbrev prior : Newly
    prior = later.before

    abbrev m : Message
    m = prior.message

    abbrev n : Message
    n = second.message

    abbrev before : Lawful config past
    before = lawful_back config past (OfClient c) law

    abbrev calls : List S.Call
    calls = server_trace config past

    -- the server's clock is the near one
    abbrev back : Clocks
    back = turned law.clocks

    taken : IsTaken (sizes config) second (client_of past) c
    taken = (are_taken config.addresses.server (sizes config) config.client_setup (client_of (OfClient c ∷ past))
        law.client).0 second
        comes

    told_here : TakenTold config back second (OfClient c ∷ past)
    told_here = taken_here config small past c law formats second comes

    earlier : TakenTold config back prior past
    earlier = taken_told config small past before formats prior (client_entries config
        (λ p b. notifies (C.own_of (sizes config) p) b ≡ Some prior) past
        (newest_taken (sizes config) second.number (client_of past) prior later.last))

    of_prior : prior.number ≡ number
    of_prior = newest_number (sizes config) second.number (client_of past) prior later.last ∙ of_second

    abbrev Registered : ℕ → Message → Type 0
    Registered k x = WasRegistered (sizes config) k x.token (client_of past)

    prior_registered : Registered number m
    prior_registered = subst (λ k. Registered k m) of_prior earlier.registered

    second_registered : Registered number n
    second_registered = subst (λ k. Registered k n) of_second taken.registered

    -- under one token
    token : m.token ≡ n.token
    token =
        let r = prior_registered in
        let s = second_registered in
        let same = one_registration (sizes config) number r.path s.path r.sending s.sending (client_of past)
        (ask_once config.addresses.server (sizes config) config.client_setup (client_of past) before.client) r.sent
        s.sent r.registers
        s.registers in
        sym r.token_is ∙ (ap (λ (x : Sending). x.token) same ∙ s.token_is)

    once : OnceOf config.limits config.server_szx config.server_setup
        (record { to = config.addresses.client; token = n.token }) calls
    once =
        let s = second_registered in
        serves_once config past before number n.token s.sending s.sent s.path s.registers s.token_is none

    abbrev Heard : Type 0
    Heard = Ever (HeardAt config.addresses.server n second.mark.at) (client_adds config (client_of past) c)

    heard : Heard
    heard = (are_noted_at config.addresses.server (sizes config) config.client_setup (client_of (OfClient c ∷ past))
        law.client).0
        second comes

    abbrev hops : List Hop
    hops = across (hops_in config past)

    across_here : ChannelLaw back config.server_setup config.client_setup config.addresses.server
        config.addresses.client
        (map Far (client_adds config (client_of past) c) ++ hops)
    across_here = law_across config past c law n second.mark.at heard taken.notification

    -- the mark moves on
    renews : Renews prior.mark second.mark
    renews = record { newer = later.newer }

    -- what is told of the prior one, behind which that was taken

    pub record ToldPrior (x : Told) : Type 0 where
      pub names : Names x.version (tag_in m)
      pub behind : Behind back hops x.at prior.mark.at

    abbrev now : ℕ
    now = clock (near_of hops)

    -- the second one comes in a NON
    module _ (w : Meanwhile back second.mark.at (near_of hops) (λ when. Sometime (TellsNon config n when now) calls))
      where
        abbrev when : ℕ
        when = back.near w.instant

        -- what is told of it, at most MAX_LATENCY before by the server's clock
        pub record ToldNon (x : Told) : Type 0 where
          pub names : Names x.version (tag_in n)
          pub from : x.at ≤ when
          pub till : when ≤ x.at + max_latency

        -- the prior one was told while the NON could come: the server's layer had come as far
        meets : (x y : Told) → x.at ≤ y.at → ToldNon x → ToldPrior y → Meets x y prior.mark second.mark
        meets x y le a b =
            let told = b.behind.before in
            let late = w.later in
            let till = a.till in
            let from = b.behind.from in
            let prior_shown = b.behind.shown in
            let second_shown = w.shown in
            let gap = far_gap back across_here.pace b.behind.instant w.instant max_latency (omega arith)
            (omega (arith, till, le, from)) in
            record {
              near = omega (arith, told, late, till);
              soon = omega (arith, gap, prior_shown, second_shown);
            }

        -- the second was not told before the prior one ..
        pub none_crosses : (x y : Told) → FollowsNon config.limits.changes x y → ToldNon x → ToldPrior y → ⊥
        none_crosses x y f a b = not_behind config.limits.changes x y second.mark prior.mark few f
            (record { number = told_here.numbered x.version a.names })
            (record { number = earlier.numbered y.version b.names }) (meets x y f.later a b) renews

        -- .. nor in the same call
        pub none_at_once : (x : Told) → ToldNon x → ToldPrior x → ⊥
        none_at_once x a b = not_at_once x second.mark prior.mark
            (record { number = told_here.numbered x.version a.names })
            (record { number = earlier.numbered x.version b.names }) (meets x x (omega arith) a b) renews

    abbrev Says : Way → Message → List S.Call → S.Call → Type 0
    Says k x p b = TellsIn config.limits config.server_szx k config.addresses.client x p b

    -- what the server told behind the prior one rises over it
    rises_behind : (k l : Way) (A B : List S.Call → S.Call → Type 0)
        → ((p : List S.Call) (b : S.Call) → A p b → Says k m p b)
        → ((p : List S.Call) (b : S.Call) → B p b → Says l n p b)
        → Sometime (λ p b. B p b × Sometime A p) calls → Rise prior second
    rises_behind k l A B is_prior is_second h =
        let f = follows_in config.limits config.server_szx config.server_setup config.addresses.client n.token k l m n
        token refl A B
        is_prior is_second calls before.server once h in
        let x = is_prior f.older f.call f.one in
        let y = is_second (f.after ++ f.call ∷ f.older) f.next f.other in
        rising_by x.told.version y.told.version (tag_in m) (tag_in n) (named x.told m x.conveys)
        (named y.told n y.conveys) f.follows.version

    -- one call tells one thing, in one way
    same_told : (k l : Way) (p : List S.Call) (b : S.Call) (x : Says k m p b) (y : Says l n p b) → x.told ≡ y.told
    same_told k l p b x y = let same : Some x.told ≡ Some y.told = sym x.here ∙ y.here in cc same

    apart : (k l : Way) (A B : List S.Call → S.Call → Type 0) → ((p : List S.Call) (b : S.Call) → A p b → Says k m p b)
        → ((p : List S.Call) (b : S.Call) → B p b → Says l n p b) → (k ≡ l → ⊥) → (t : List S.Call)
        → Sometime (λ p b. A p b × B p b) t → ⊥
    apart k l A B is_prior is_second differ [] h = h
    apart k l A B is_prior is_second differ (b ∷ p) (inr h) = apart k l A B is_prior is_second differ p h
    apart k l A B is_prior is_second differ (b ∷ p) (inl h) =
        let x = is_prior p b h.0 in
        let y = is_second p b h.1 in
        differ (sym x.way_is ∙ (ap (λ (z : Telling). z.way) (same_told k l p b x y) ∙ y.way_is))

    module _ (con : Open) (up : Ever (HandsUpAs back config.addresses.server con)
        (client_adds config (client_of past) c))
        (told : Sometime (TellsCon config con n) calls) (begun_before : Ever (λ b. begun b ≡ Some con) (near_of hops))
        (to : con.to ≡ config.addresses.client) where
      -- the prior one was not told behind this CON, which was acknowledged before
      not_sooner : (k : Way) (A : List S.Call → S.Call → Type 0)
          → ((p : List S.Call) (b : S.Call) → A p b → Says k m p b)
          → Sometime (λ p b. A p b × Sometime (TellsCon config con n) p) calls → ⊥
      not_sooner k A is_prior h =
          let acked = acked_in config.limits config.server_szx config.server_setup config.addresses.client n.token con k
          n m refl
          token calls before.server once
          (Sometime_map (λ p b. A p b × Sometime (TellsCon config con n) p)
          (λ p b. Says k m p b × Sometime (TellsCon config con n) p)
          (λ p b x. (is_prior p b x.0, x.1)) calls h) in
          not_after config.addresses back config.server_setup config.client_setup con to hops begun_before
          (client_adds config (client_of past) c) across_here up (taken_before config con to past before acked)

      decide : (k : Way) (A : List S.Call → S.Call → Type 0)
          → ((p : List S.Call) (b : S.Call) → A p b → Says k m p b)
          → (Sometime (λ p b. A p b × TellsCon config con n p b) calls → ⊥) → Sometime A calls → Rise prior second
      decide k A is_prior apart h =
          rises_behind k (InCon con.id) A (TellsCon config con n) is_prior (λ p b x. x.0)
          (behind A (TellsCon config con n) calls h told apart (not_sooner k A is_prior))

      -- one call begins one CON
      one_begun : (other : Open) (t : List S.Call)
          → Always (TellsSent config.limits config.server_szx config.server_setup) t
          → Sometime (λ p b. TellsCon config other m p b × TellsCon config con n p b) t → other ≡ con
      one_begun other [] told h = absurd h
      one_begun other (b ∷ p) told (inl h) = told.0.one other con h.0.1 h.1.1
      one_begun other (b ∷ p) told (inr h) = one_begun other p told.1 h

      rises_by_con : Rise prior second
      rises_by_con = by earlier.told
        where
          by : HeardTold config back m prior.mark.at past → Rise prior second
          by (in_ack x) = decide InReply (TellsAck config m) (λ p b h. h)
              (apart InReply (InCon con.id) (TellsAck config m) (TellsCon config con n) (λ p b h. h) (λ p b h. h.0)
              (λ e. cc e) calls) x
          by (in_non x) = decide InNon (TellsNon config m (back.near x.instant) x.now) (λ p b h. h.tells)
              (apart InNon (InCon con.id) (TellsNon config m (back.near x.instant) x.now) (TellsCon config con n)
              (λ p b h. h.tells) (λ p b h. h.0) (λ e. cc e) calls) x.told
          by (in_con other from before_up x) =
              decide (InCon other.id) (TellsCon config other m) (λ p b h. h.0)
              (λ same.
              let e = one_begun other calls (all_tell_sent config.limits config.server_szx config.server_setup calls
              before.server) same in
              not_again config.addresses back config.server_setup config.client_setup con to hops begun_before
              (client_adds config (client_of past) c) across_here up
              (subst (λ z. Ever (OnFar (HandsUpAs back config.addresses.server z)) hops) e before_up)) x

    module _ (w : Meanwhile back second.mark.at (near_of hops) (λ when. Sometime (TellsNon config n when now) calls))
      where
        abbrev ByNon : List S.Call → S.Call → Type 0
        ByNon = TellsNon config n (back.near w.instant) now

        non_says : (p : List S.Call) (b : S.Call) → ByNon p b → Says InNon n p b
        non_says p b x = x.tells

        by_non : (k : Way) (A : List S.Call → S.Call → Type 0)
            → ((p : List S.Call) (b : S.Call) → A p b → Says k m p b)
            → (Sometime (λ p b. A p b × ByNon p b) calls → ⊥)
            → (Sometime (λ p b. A p b × Sometime ByNon p) calls → ⊥) → Sometime A calls → Rise prior second
        by_non k A is_prior apart_so not_sooner h =
            rises_behind k InNon A ByNon is_prior non_says (behind A ByNon calls h w.so apart_so not_sooner)

        abbrev told_as : Telling → Told
        told_as x = record { version = x.version; at = x.at }

        -- the prior one, which was taken no earlier than it was told, was not told behind it
        crosses_none : (k : Way) (A : List S.Call → S.Call → Type 0)
            → (is_prior : (p : List S.Call) (b : S.Call) → A p b → Says k m p b)
            → ((p : List S.Call) (b : S.Call) (x : A p b) → Behind back hops (is_prior p b x).told.at prior.mark.at)
            → Sometime (λ p b. A p b × Sometime ByNon p) calls → ⊥
        crosses_none k A is_prior from h =
            let f = follows_in config.limits config.server_szx config.server_setup config.addresses.client n.token InNon k
            n m refl token
            ByNon A (λ p b z. z.tells) is_prior calls before.server once h in
            let x = f.one.tells in
            let y = is_prior (f.after ++ f.call ∷ f.older) f.next f.other in
            none_crosses w (told_as x.told) (told_as y.told)
            (record { version = f.follows.version; later = f.follows.later; near = f.follows.near x.way_is })
            (record { names = named x.told n x.conveys; from = f.one.from; till = f.one.till })
            (record { names = named y.told m y.conveys; behind = from (f.after ++ f.call ∷ f.older) f.next f.other })

        behind_non : (k : NonTold config back m prior.mark.at past) (p : List S.Call) (b : S.Call)
            → (h : TellsNon config m (back.near k.instant) k.now p b) → Behind back hops h.tells.told.at prior.mark.at
        behind_non k p b h = let early = h.before in let far = k.before in
            record { instant = k.instant; shown = k.shown; from = h.from; before = omega (arith, early, far) }

        at_once_none : (k : NonTold config back m prior.mark.at past) (t : List S.Call)
            → Sometime (λ p b. TellsNon config m (back.near k.instant) k.now p b × ByNon p b) t → ⊥
        at_once_none k [] h = h
        at_once_none k (b ∷ p) (inr h) = at_once_none k p h
        at_once_none k (b ∷ p) (inl h) =
            let x = h.1.tells in
            let y = h.0.tells in
            let same = same_told InNon InNon p b y x in
            none_at_once w (told_as x.told)
            (record { names = named x.told n x.conveys; from = h.1.from; till = h.1.till })
            (record {
              names = subst (λ (z : Telling). Names z.version (tag_in m)) same (named y.told m y.conveys);
              behind = subst (λ (z : Telling). Behind back hops z.at prior.mark.at) same (behind_non k p b h.0);
            })

        rises_by_non : Rise prior second
        rises_by_non = by earlier.told
          where
            by : HeardTold config back m prior.mark.at past → Rise prior second
            by (in_ack x) = by_non InReply (TellsAck config m) (λ p b h. h)
                (apart InReply InNon (TellsAck config m) ByNon (λ p b h. h) non_says (λ e. cc e) calls)
                (λ h. reply_first config.limits config.server_szx config.server_setup config.addresses.client n.token
                InNon InReply n m
                refl token refl calls before.server once
                (Sometime_map (λ p b. TellsAck config m p b × Sometime ByNon p)
                (λ p b. TellsAck config m p b × Sometime (Says InNon n) p)
                (λ p b k. (k.0, Sometime_map ByNon (Says InNon n) non_says p k.1)) calls h)) x
            by (in_non x) = by_non InNon (TellsNon config m (back.near x.instant) x.now) (λ p b h. h.tells)
                (at_once_none x calls)
                (crosses_none InNon (TellsNon config m (back.near x.instant) x.now) (λ p b h. h.tells) (behind_non x))
                x.told
            by (in_con other first before_up x) = by_non (InCon other.id) (TellsCon config other m) (λ p b h. h.0)
                (apart (InCon other.id) InNon (TellsCon config other m) ByNon (λ p b h. h.0) non_says (λ e. cc e) calls)
                (crosses_none (InCon other.id) (TellsCon config other m) (λ p b h. h.0)
                (λ p b h. subst (λ k. Behind back hops k prior.mark.at)
                (sym (told_in_con config p b h.0.told other h.0.here h.1))
                first)) x

    rises_here : Rise prior second
    rises_here = by ((are_of_types config.addresses.server (sizes config) config.client_setup
        (client_of (OfClient c ∷ past))
        law.client).0.noted n later.noted)
      where
        by : (n.kind ≡ Con) ⊎ (n.kind ≡ Non) → Rise prior second
        by (inr kind) = rises_by_non (non_here config past c law n second.mark.at heard taken.notification kind)
        by (inl kind) =
            let k = con_told config past c law n second.mark.at heard taken.notification kind in
            rises_by_con k.con k.up k.told k.begun_before k.to_is

  -- each that is taken of an observation that is not cancelled rises over the newest before it
  pub each_next : (number : ℕ) (t : List Entry) → Lawful config t → FormatsIn t
      → (WasCancelled (sizes config) number (client_of t) → ⊥) → Always (RisesNext (sizes config) number) (client_of t)
  each_next number [] law formats none = tt
  each_next number (OfServer c ∷ past) law formats none =
      each_next number past (lawful_back config past (OfServer c) law) formats.1 none
  each_next number (OfClient c ∷ past) law formats none =
      let still : WasCancelled (sizes config) number (client_of past) → ⊥ =
      λ k. none (record { sending = k.sending; sent = inr k.sent; cancels = k.cancels }) in (
        λ n of is later. rises_here past c law formats number n of is later still,
        each_next number past (lawful_back config past (OfClient c) law) formats still,
      )

  -- a value that was reported earlier
  record Earlier (number : ℕ) (tag : Option (List ℕ)) (t : List Call) : Type 0 where
    first : Newly
    tag_is : tag ≡ tag_in first.message
    number_is : first.number ≡ number
    shown : Sometime (Shows (sizes config) number first) t

  earlier_value : (t : List Entry) → Lawful config t → (number : ℕ) (tag : Option (List ℕ))
      → Sometime (ShowsValue config number tag) t → Earlier number tag (client_of t)
  earlier_value [] law number tag h = absurd h
  earlier_value (OfServer c ∷ past) law number tag (inl h) = absurd h.here
  earlier_value (OfServer c ∷ past) law number tag (inr h) =
      earlier_value past (lawful_back config past (OfServer c) law) number tag h
  earlier_value (OfClient c ∷ past) law number tag (inr h) =
      let k = earlier_value past (lawful_back config past (OfClient c) law) number tag h in record
      { first = k.first; tag_is = k.tag_is; number_is = k.number_is; shown = inr k.shown }
  earlier_value (OfClient c ∷ past) law number tag (inl h) =
      let v = (values_are_whole (sizes config) config.addresses.server config.client_setup
      (client_of (OfClient c ∷ past))
      law.client).0 number h.sequence tag h.format h.body h.here in
      record {
        first = v.first;
        tag_is = tag_of_first (sizes config) number h.sequence tag h.format h.body (client_of past) c v;
        number_is = newest_number (sizes config) number (client_of (OfClient c ∷ past)) v.first v.is_newest;
        shown = inl (shown_of (sizes config) number h.sequence tag h.format h.body (client_of past) c v h.here);
      }

  rises_at : (past : List Entry) (e : Entry) → Lawful config (e ∷ past) → FormatsIn (e ∷ past) → (number : ℕ)
      → (first second : Option (List ℕ)) → ShowsValue config number second past e
      → Sometime (ShowsValue config number first) past → AreRising first second
  rises_at past (OfServer c) law formats number first second h sooner = absurd h.here
  rises_at past (OfClient c) law formats number first second h sooner =
      let t : List Call = client_of (OfClient c ∷ past) in
      let v = (values_are_whole (sizes config) config.addresses.server config.client_setup t law.client).0 number
      h.sequence second
      h.format h.body h.here in
      let shows = shown_of (sizes config) number h.sequence second h.format h.body (client_of past) c v h.here in
      let k = earlier_value past (lawful_back config past (OfClient c) law) number first sooner in
      let comes = (values_rise (sizes config) config.addresses.server config.client_setup t law.client).0 number k.first
      v.first shows
      k.shown in
      let none : WasCancelled (sizes config) number (client_of past) → ⊥ =
      λ x. (are_over (sizes config) config.addresses.server config.client_setup t law.client).0.cancelled number x
      shows.value in
      let next : Always (RisesNext (sizes config) number) t = (
        λ n of is later. rises_here past c law formats number n of is later none,
        each_next number past (lawful_back config past (OfClient c) law) formats none,
      ) in
      let number_is = newest_number (sizes config) number t v.first v.is_newest in
      let taken = are_taken config.addresses.server (sizes config) config.client_setup t law.client in
      let rising = chained (sizes config) number t taken next k.first v.first k.number_is number_is comes in
      subst (λ z. AreRising z second) (sym k.tag_is)
      (subst (λ z. AreRising (tag_in k.first.message) z)
      (sym (tag_of_first (sizes config) number h.sequence second h.format h.body (client_of past) c v)) rising)

pub all_rise : (config : Config) → config.server_szx ≤ 6 → config.limits.changes ≤ max_changes → (all : List Entry)
    → Lawful config all → FormatsIn all → ValuesRise config all
all_rise config small few [] law formats = tt
all_rise config small few (e ∷ past) law formats = (
  rises_at config small few past e law formats,
  all_rise config small few past (lawful_back config past e law) (formats_back past e formats),
)

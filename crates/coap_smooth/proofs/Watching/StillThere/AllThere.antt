-- In a smooth run the server has the registration under which a notification was taken, while the observation goes on,
-- or sent a notification that is no 2.05 at most 1,000 ms before (RFC 7641, sections 3.6, 4.1 and 4.2).
use Rattle.std.proofs.Common.{◌≡◌, ◌≢◌, ◌<◌, ◌+◌, ◌==◌, ◌&&◌, inl, inr, ℕ, Bool, true, false, Some, List, [], ◌∷◌, ◌++◌}
use Rattle.std.proofs.Common.{is_some, refl, ap, sym, subst, ◌∙◌, append_assoc, arith}
use Rattle.std.proofs.Math.Decide.{dec_le}
use Rattle.std.specs.Cmp.{unsigned_Decides}
use Rattle.coap_types.specs.OptionValues.{value_of}
use Rattle.coap_types.specs.Past.{Sometime, Always}
use Rattle.coap_types.specs.Recognised.{lacks_critical}
use Rattle.coap_types.specs.declared.direction.Direction.TheVariants.{Response}
use Rattle.coap_types.specs.declared.option_number.TheConstants.{OBSERVE as observe}
use Rattle.coap_types.proofs.Facts.Traces.{Always_back, Sometime_map}
use Rattle.coap_layer.specs.OneClock.{ChannelLaw}
use Rattle.coap_layer.specs.Clocks.{turned}
use Rattle.coap_layer.specs.declared.setup.Setup.{Setup}
use Rattle.coap_codec.specs.Message.{Message}
use Rattle.coap_exchange.specs.SuccessCodes.{content}
use Rattle.coap_resource.specs.Limits.{Limits}
use Rattle.coap_client_laws.specs.Follows.Newer.{Newly, notifies}
use Rattle.coap_client_laws.specs.Follows.Notified.{newest, WasRegistered}
use Rattle.coap_client_laws.specs.Follows.OfObservations.{Observed, observes}
use Rattle.coap_client.specs.Law as clients
use Rattle.coap_client.specs.Responses.{is_notification, said}
use Rattle.coap_server.specs.Follows.Observes.{AreObservers, EndsSo}
use Rattle.coap_server_laws.specs.Follows.Told.{TellsIn}
use Rattle.coap_server.specs.Follows.Tells.{Pair, Way}
use Rattle.coap_server.specs.Law.{ServerLaw}
use Rattle.coap_server.specs.Trace as S
use Rattle.coap_server_laws.proofs.Facts.EachCall.{are_under}
use Rattle.coap_server_laws.proofs.Facts.Laws as server_facts
use Rattle.coap_smooth.specs.Current as current
use Rattle.coap_smooth.specs.Current.{Watches, Alone}
use Rattle.coap_record.specs.Events.{Config}
use Rattle.coap_record.specs.Legal.{IsConfig}
use Rattle.coap_promise.specs.Hops.{hops_of}
use Rattle.coap_promise.proofs.Facts.Delivery.HopsAreAChannel as joined
use Rattle.coap_smooth.proofs.Smoothly.Ticks.NothingIsLeft.{record_of, legal_of}
use Rattle.coap_record.specs.Record.{Entry, OfClient, OfServer, Turn, entries_of, client_of, server_trace}
use Rattle.coap_smooth.specs.Smooth.{max_age}
use Rattle.coap_promise.proofs.Facts.Observations.Heard.{TellsCon, TellsAck}
use Rattle.coap_promise.proofs.Facts.Observations.Positions.{AtClient}
use Rattle.coap_promise.proofs.Facts.Observations.Taken.{HeardTold, TakenTold, formats_before, in_con, in_ack, in_non}
use Rattle.coap_promise.proofs.Facts.Observations.Taken.{taken_told}
use Rattle.coap_promise.proofs.Facts.Reports.FormatsSet.{FormatsIn}
use Rattle.coap_promise.proofs.Facts.Reports.ValuesShown.{TakesAt, newest_shown}
use Rattle.coap_promise.proofs.Facts.Requests.OfACall.{Lawful}
use Rattle.coap_smooth.proofs.Smoothly.Arriving.AllTaken.{Beneath, Goes, goes_before}
use Rattle.coap_smooth.proofs.Smoothly.Answers.ConsOfOpen.{calls_before}
use Rattle.coap_smooth.specs.NoticesCome.{AllNoticesCome, NoticeComes, NoticesAreOfIt, NoticesCome, notice_message}
use Rattle.coap_smooth.specs.NoticesCome.{server_moment}
use Rattle.coap_smooth.specs.StillThere.{AreStillThere, StillThere}
use Rattle.coap_smooth.proofs.Watching.StillThere.Premises.{AreHeard, AreServedFor, IsHeard}
use Rattle.coap_smooth.proofs.Watching.StillThere.EndsIt.{AllHeard, AllOwn, never_taken}
use Rattle.coap_smooth.proofs.Watching.StillThere.IsMade.{TellsOf, told_under}
use Rattle.coap_smooth.proofs.Watching.StillThere.ResetLaws.{ResetLaws}
use Rattle.coap_smooth.proofs.Watching.StillThere.OpenYoung.{AtMoment, all_moments}
use Rattle.coap_smooth.proofs.Watching.StillThere.Stays.{Stays, WasEnded, found_path, stays}
use Rattle.coap_smooth.proofs.Watching.Notifications.Newest.{newest_registered}
use Rattle.coap_smooth.proofs.Watching.Values.SmoothBefore.{lawful_before, registered_before}
use Rattle.coap_promise.proofs.Facts.Requests.AtAnyTime.{at_any_time}

-- what the laws beneath say
pub record ThereLaws : Type 0 where
  pub reset : ResetLaws
  pub stays : (limits : Limits) (szx : ℕ) (setup : Setup) (t : List S.Call) → ServerLaw limits szx setup t
      → EndsSo limits szx t
  pub observers : (limits : Limits) (szx : ℕ) (t : List S.Call) → AreObservers limits szx t
  pub heard : AllHeard
  pub own : AllOwn
  pub beneath : Beneath

-- what is no 2.05 is no notification that is taken
not_notice : (m : Message) → m.code ≢ content → is_notification m ≡ false
not_notice m other = by (m.code == content) refl
  where
    by : (b : Bool) → (m.code == content) ≡ b → (b && is_some (value_of observe (said m))) ≡ false
    by true is = absurd (other ((unsigned_Decides m.code content).0 is))
    by false is = refl

module _ (laws : ThereLaws) (config : Config) (range : IsConfig config) (x : Observed) where
  -- what is so of a run in which the client observes alone
  pub record Observing (turns : List Turn) : Type 0 where
    pub goes : Goes config turns
    pub law : Lawful config (entries_of turns)
    pub formats : FormatsIn (entries_of turns)
    pub alone : Alone x (client_of (entries_of turns))
    pub of_it : NoticesAreOfIt config x (entries_of turns)
    pub served : AreServedFor config x (entries_of turns)

  observing_before : (turn : Turn) (past : List Turn) → Observing (turn ∷ past) → Observing past
  observing_before turn past o = record {
    goes = goes_before config turn past o.goes;
    law = lawful_before config turn.entries (entries_of past) o.law;
    formats = formats_before turn.entries (entries_of past) o.formats;
    alone = calls_before (λ p c. current.is_taken c ≡ true → (observes c ≡ Some x)
        × Always (λ before b. current.is_taken b ≡ false) p) turn.entries (entries_of past) o.alone;
    of_it = λ newer older c n split here to. o.of_it (turn.entries ++ newer) older c n
        (ap (λ l. turn.entries ++ l) split ∙ sym (append_assoc turn.entries newer (OfServer c ∷ older))) here to;
    served = Always_back _ turn.entries (entries_of past) o.served;
  }

  module _ (past : List Turn) (turn : Turn) (o : Observing past) (comes : NoticesCome config past turn)
      (is_heard : IsHeard config x (entries_of past)) (watches : Watches config x.number (entries_of past)) (n : Newly)
      (newest_is : newest config.client_sizes x.number (client_of (entries_of past)) ≡ Some n) where
    abbrev all : List Entry
    all = entries_of past

    abbrev token : List ℕ
    token = n.message.token

    abbrev trace : List S.Call
    trace = server_trace config all

    abbrev pair : Pair
    pair = record { to = config.addresses.client; token = token }

    registered : WasRegistered config.client_sizes x.number token (client_of all)
    registered = newest_registered config.addresses.server config.client_sizes config.client_setup x.number n
        (client_of all) o.law.client
        newest_is

    channels : ChannelLaw config.client_setup config.server_setup config.addresses.client config.addresses.server
        (hops_of config past)
    channels = joined.channel config _ past (record_of config past o.goes.stands) (legal_of config past o.goes.stands)

    taken : TakenTold config (turned o.law.clocks) n all
    taken = taken_told config range.server_szx all o.law o.formats n
        (Sometime_map (TakesAt config range.server_szx x.number n)
        (AtClient config (λ p b. notifies (clients.own_of config.client_sizes p) b ≡ Some n)) as_taken all
        (newest_shown config range.server_szx x.number n all (at_any_time o.law) o.formats newest_is))
      where
        as_taken : (p : List Entry) (e : Entry) → TakesAt config range.server_szx x.number n p e
            → AtClient config (λ q b. notifies (clients.own_of config.client_sizes q) b ≡ Some n) p e
        as_taken p (OfClient c) k = k.takes
        as_taken p (OfServer c) k = k

    tells_of : (way : Way) (p : List S.Call) (c : S.Call)
        → TellsIn config.limits config.server_szx way config.addresses.client n.message p c
        → TellsOf config.limits config.server_szx pair p c
    tells_of way p c k = record { told = k.told; here = k.here; to_is = k.conveys.to_is; token_is = k.conveys.token_is }

    told : Sometime (TellsOf config.limits config.server_szx pair) trace
    told = by taken.told
      where
        by : HeardTold config (turned o.law.clocks) n.message n.mark.at all
            → Sometime (TellsOf config.limits config.server_szx pair) trace
        by (in_con con from up k) = Sometime_map (TellsCon config con n.message)
            (TellsOf config.limits config.server_szx pair) (λ p c h. tells_of _ p c h.0) trace k
        by (in_ack k) = Sometime_map (TellsAck config n.message) (TellsOf config.limits config.server_szx pair)
            (λ p c h. tells_of _ p c h) trace k
        by (in_non k) = Sometime_map _ (TellsOf config.limits config.server_szx pair)
            (λ p c h. tells_of _ p c h.tells) trace k.told

    moments : Always (AtMoment config) all
    moments = all_moments config laws.beneath past o.goes

    stays_there : Stays laws.reset laws.stays laws.observers config range x all o.law channels moments o.served o.of_it
        is_heard token
        registered all
    stays_there = stays laws.reset laws.stays laws.observers config range x all o.law channels moments o.served o.of_it
        is_heard token
        registered [] all refl
        (told_under config.limits config.server_szx pair trace
        (are_under config.limits config.server_szx config.server_setup trace o.law.server) told)

    -- what was sent earlier came, and ended the observation
    not_earlier : (e : WasEnded config.addresses token all) → server_moment config e.older e.call + max_age <
        turn.event.at → ⊥
    not_earlier e late =
        never_taken laws.heard laws.own config x all o.law o.alone watches token registered k.newest
        (k.between ++ OfServer e.call ∷ e.older) k.call split m other e.token_is n newest_is
        (server_moment config e.older e.call) k.fed k.kind_is understood there
        (is_heard k.newest (k.between ++ OfServer e.call ∷ e.older) k.call m (server_moment config e.older e.call) split
        k.fed
        k.kind_is (subst (λ t. WasRegistered config.client_sizes x.number t
        (client_of (k.between ++ OfServer e.call ∷ e.older)))
        (sym e.token_is) there) understood)
      where
        k : NoticeComes config e.told e.newer e.older e.call
        k = comes e.newer e.older e.call e.told e.split e.here e.to_is late

        m : Message
        m = notice_message config k.kind k.id e.older e.told

        other : is_notification m ≡ false
        other = not_notice m e.gone

        split : all ≡ k.newest ++ OfClient k.call ∷ (k.between ++ OfServer e.call ∷ e.older)
        split = e.split ∙ (ap (λ l. l ++ OfServer e.call ∷ e.older) k.split
            ∙ append_assoc k.newest (OfClient k.call ∷ k.between) (OfServer e.call ∷ e.older))

        there : WasRegistered config.client_sizes x.number token (client_of (k.between ++ OfServer e.call ∷ e.older))
        there = subst (λ t. WasRegistered config.client_sizes x.number t
            (client_of (k.between ++ OfServer e.call ∷ e.older)))
            e.token_is
            (registered_before config x.number e.told.observer.token k.between (OfServer e.call ∷ e.older)
            (o.of_it e.newer e.older e.call e.told e.split e.here e.to_is).registered)

        understood : lacks_critical Response m.options ≡ false
        understood =
            let law = (lawful_before config e.newer (OfServer e.call ∷ e.older)
            (subst (Lawful config) e.split o.law)).server in
            (server_facts.recognised config.limits config.server_szx config.server_setup
            (e.call ∷ server_trace config e.older) law range.server_szx range.server_limit.1).0.notices e.told e.here

    still_there : StillThere config x token turn.event.at all
    still_there = by stays_there
      where
        by : Stays laws.reset laws.stays laws.observers config range x all o.law channels moments o.served o.of_it
            is_heard token
            registered all → StillThere config x token turn.event.at all
        by (inl k) = inl (
          k.0,
          k.1,
          found_path laws.reset laws.stays laws.observers config range x all o.law channels moments o.served o.of_it
              is_heard token
              registered k.0 k.1,
        )
        by (inr e) =
            elim (dec_le turn.event.at (server_moment config e.older e.call + max_age)) [
              | yes soon ↦ inr (record {
                newer = e.newer;
                older = e.older;
                call = e.call;
                told = e.told;
                split = e.split;
                here = e.here;
                to = e.to_is;
                gone = e.gone;
                soon = soon;
              })
              | no late ↦ absurd (not_earlier e (omega (arith, late)))
            ]

  pub all_there : (turns : List Turn) → Observing turns → AllNoticesCome config turns → AreHeard config x turns
      → AreStillThere config x turns
  all_there [] o comes heard = tt
  all_there (turn ∷ past) o comes heard =
      let old = observing_before turn past o in (
        λ n newest_is watches. still_there past turn old comes.0 (heard.0 watches) watches n newest_is,
        all_there past old comes.1 heard.1,
      )

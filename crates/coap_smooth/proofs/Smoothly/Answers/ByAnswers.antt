-- Where each exchange is young, each ends by an answer.
use Rattle.std.proofs.Common.{◌≡◌, ◌≢◌, ◌<◌, Some, None, List, [], ◌∷◌, refl}
use Rattle.coap_types.specs.Past.{Always}
use Rattle.coap_layer.specs.Taking.{ResetsMeant}
use Rattle.coap_exchange.specs.declared.asker.Event.TheVariants as event_is
use Rattle.coap_exchange.specs.declared.asker.Turn.TheVariants as turn_is
use Rattle.coap_client_laws.specs.Follows.Ends.{ends_as}
use Rattle.coap_client_laws.specs.Follows.Open.{AllEndInTime}
use Rattle.coap_client.specs.Trace as C
use Rattle.coap_client.specs.Trace.{Timeout, Reset, NoResponse}
use Rattle.coap_record.specs.Events.{Config}
use Rattle.coap_promise.specs.Hops.{hops_of}
use Rattle.coap_record.specs.Record.{Turn, entries_of, client_of}
use Rattle.coap_smooth.specs.SmoothAnswers.{EndByAnswers}
use Rattle.coap_smooth.specs.Young.{max_open, AreYoung}
use Rattle.coap_smooth.proofs.Smoothly.Answers.EndsByTime.{NotLate, never_late}
use Rattle.coap_smooth.proofs.Smoothly.Answers.NoReset.{never_reset}
use Rattle.coap_smooth.proofs.Smoothly.Ticks.NothingIsLeft.{Stands}
use Rattle.coap_smooth.proofs.Smoothly.Answers.YoungCalls.{young_calls}

none_left : (c : C.Call) → ends_as c ≢ Some Timeout → ends_as c ≢ Some NoResponse → ends_as c ≢ Some Reset
    → ends_as c ≡ None
none_left (C.Feeds now from bytes w up settled (Some event_is.Reset) sent token kept) t n r = absurd (r refl)
none_left (C.Ticks now w below (turn_is.End event_is.Timeout) sent token kept answer) t n r = absurd (t refl)
none_left (C.Ticks now w below (turn_is.End event_is.NoResponse) sent token kept answer) t n r = absurd (n refl)
none_left _ t n r = refl

module _ (config : Config) where
  each : (t : List C.Call) → Always (λ past c. ends_as c ≢ Some Timeout) t → Always (NotLate config) t
      → Always (λ past c. ends_as c ≢ Some Reset) t
      → Always (λ past c. ends_as c ≡ None) t
  each [] timeout late reset = tt
  each (c ∷ t) timeout late reset = (none_left c timeout.0 late.0 reset.0, each t timeout.1 late.1 reset.1)

  pub by_answers : max_open config < 247000 → (turns : List Turn) → Stands config turns → AreYoung config turns
      → Always (λ past c. ends_as c ≢ Some Timeout) (client_of (entries_of turns))
      → AllEndInTime config.client_sizes (client_of (entries_of turns))
      → ResetsMeant config.addresses.client config.addresses.server (hops_of config turns)
      → EndByAnswers config (entries_of turns)
  by_answers short turns s young timeout in_time meant =
      let calls = young_calls config turns s young in
      each (client_of (entries_of turns)) timeout (never_late config short (client_of (entries_of turns)) s.client
      in_time calls)
      (never_reset config short (entries_of turns) s.client s.server calls meant)

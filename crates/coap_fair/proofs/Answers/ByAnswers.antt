-- Where each exchange is young, each ends by an answer.
use Rattle.std.proofs.Common.{◌≡◌, ◌≢◌, inl, inr, ◌<◌, ℕ, Some, None, List, [], ◌∷◌, refl, arith}
use Rattle.coap_types.specs.Past.{Always}
use Rattle.coap_layer.specs.Taking.{ResetsMeant}
use Rattle.coap_exchange.specs.declared.asker.Event.TheVariants as event_is
use Rattle.coap_exchange.specs.declared.asker.Turn.TheVariants as turn_is
use Rattle.coap_client_laws.specs.Follows.Ends.{ends_as}
use Rattle.coap_client_laws.specs.Follows.Open.{AllEndInTime}
use Rattle.coap_client.specs.Law.{ClientLaw}
use Rattle.coap_client_laws.proofs.Facts.Laws.{back}
use Rattle.coap_client.specs.Trace as C
use Rattle.coap_client.specs.Trace.{Timeout, Reset, NoResponse}
use Rattle.coap_record.specs.Events.{Config}
use Rattle.coap_promise.specs.Hops.{hops_of}
use Rattle.coap_record.specs.Record.{Turn, entries_of, client_of}
use Rattle.coap_smooth.specs.SmoothAnswers.{EndByAnswers}
use Rattle.coap_smooth.specs.Young.{AreYoungBy}
use Rattle.coap_smooth.proofs.Smoothly.Answers.EndsByTime.{open_at_end}
use Rattle.coap_fair.proofs.Answers.NoReset.{never_reset}
use Rattle.coap_fair.proofs.Runs.Stands.{Stands}
use Rattle.coap_fair.proofs.Runs.YoungCalls.{YoungAt, young_calls}

none_left : (c : C.Call) → ends_as c ≢ Some Timeout → ends_as c ≢ Some NoResponse → ends_as c ≢ Some Reset
    → ends_as c ≡ None
none_left (C.Feeds now from bytes w up settled (Some event_is.Reset) sent token kept) t n r = absurd (r refl)
none_left (C.Ticks now w below (turn_is.End event_is.Timeout) sent token kept answer) t n r = absurd (t refl)
none_left (C.Ticks now w below (turn_is.End event_is.NoResponse) sent token kept answer) t n r = absurd (n refl)
none_left _ t n r = refl

module _ (config : Config) (most : ℕ) where
  each : (t : List C.Call) → Always (λ past c. ends_as c ≢ Some Timeout) t
      → Always (λ past c. ends_as c ≢ Some NoResponse) t → Always (λ past c. ends_as c ≢ Some Reset) t
      → Always (λ past c. ends_as c ≡ None) t
  each [] timeout late reset = tt
  each (c ∷ t) timeout late reset = (none_left c timeout.0 late.0 reset.0, each t timeout.1 late.1 reset.1)

  abbrev Law : List C.Call → Type 0
  Law t = ClientLaw config.addresses.server config.client_sizes config.client_setup t

  -- a Timeout comes 62,000 ms after the request, or later
  never_out : most < 62000 → (t : List C.Call) → Law t → AllEndInTime config.client_sizes t
      → Always (YoungAt config most) t → Always (λ past c. ends_as c ≢ Some Timeout) t
  never_out short [] law in_time young = tt
  never_out short (c ∷ t) law in_time young = (
    λ is. (let k = open_at_end config.addresses.server config.client_sizes config.client_setup t c law Timeout is
        (inl refl) in
        let late = (in_time.0 k.0 k.1).timeout is in
        let old = young.0.moment k.0 k.1 in
        absurd (omega (arith, late, old, short))),
    never_out short t (back config.addresses.server config.client_sizes config.client_setup (c ∷ []) t law) in_time.1
        young.1,
  )

  -- .. and NoResponse
  never_late : most < 62000 → (t : List C.Call) → Law t → AllEndInTime config.client_sizes t
      → Always (YoungAt config most) t → Always (λ past c. ends_as c ≢ Some NoResponse) t
  never_late short [] law in_time young = tt
  never_late short (c ∷ t) law in_time young = (
    λ is. (let k = open_at_end config.addresses.server config.client_sizes config.client_setup t c law NoResponse is
        (inr refl) in
        let late = (in_time.0 k.0 k.1).no_response is in
        let old = young.0.moment k.0 k.1 in
        absurd (omega (arith, late, old, short))),
    never_late short t (back config.addresses.server config.client_sizes config.client_setup (c ∷ []) t law) in_time.1
        young.1,
  )

  pub by_answers : most < 62000 → (turns : List Turn) → Stands config turns → AreYoungBy config most turns
      → AllEndInTime config.client_sizes (client_of (entries_of turns))
      → ResetsMeant config.addresses.client config.addresses.server (hops_of config turns)
      → EndByAnswers config (entries_of turns)
  by_answers short turns s young in_time meant =
      let calls = young_calls config most turns s young in
      each (client_of (entries_of turns))
      (never_out short (client_of (entries_of turns)) s.client in_time calls)
      (never_late short (client_of (entries_of turns)) s.client in_time calls)
      (never_reset config most (omega (arith, short)) (entries_of turns) s.client s.server calls meant)

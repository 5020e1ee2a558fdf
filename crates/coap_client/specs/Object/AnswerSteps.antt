-- What a call, and a fetch for a notification, make of an answer (RFC 7252, section 5.8; RFC 7959, sections 2.4 to
-- 2.6).
use Rattle.std.specs.Prelude.{◌≡◌, ℕ, ◌==◌, Option, Some, None, ◌++◌, if◌then◌else◌}
use Rattle.coap_codec.specs.Message.{Message}
use Rattle.coap_block.specs.declared.fetch_step.Step.{Step}
use Rattle.coap_block.specs.declared.fetch_step.Step.TheVariants.{Next, Whole, Restart, Refused}
use Rattle.coap_block.specs.declared.fetch_step.FetchRefusal.TheVariants as refusal
use Rattle.coap_block.specs.declared.fetch_verdict.Verdict.{Verdict}
use Rattle.coap_block.specs.declared.fetch_verdict.Verdict.TheVariants as verdict
use Rattle.coap_block.specs.FetchAnswer.{answer_of}
use Rattle.coap_block.specs.FetchState.{FetchValue}
use Rattle.coap_block.specs.FetchStep.{FetchState, after}
use Rattle.coap_block.specs.UploadStep.{UploadState, UploadValue}
use Rattle.coap_client.specs.Trace.{Reported}
use Rattle.coap_client.specs.Own.{Fetches, Uploads, Notified}
use Rattle.coap_client.specs.Calls as calls
use Rattle.coap_client.specs.Effects.{is_upload, of}
use Rattle.coap_client.specs.Responses.{content, tag_in, part}
use Rattle.coap_client.specs.declared.client.heard.Heard as H
use Rattle.coap_client.specs.declared.client.heard.Heard.TheVariants as heard
use Rattle.coap_client.specs.declared.client.heard.Part as P
use Rattle.coap_client.specs.declared.client.heard.Part.TheVariants as part_of
use Rattle.coap_client.specs.Object.CallShown.{CallState}
use Rattle.coap_client.specs.Object.Shown.{shown_report}

module _ {A : Type 0} where
  -- what a 2.05 is to a fetch
  pub record Takes (f : FetchState) (m : Message) (step : Step A) (new : FetchState) : Type 0 where
    pub answer_is : step ≡ answer_of (f.gathered ++ m.payload) (part f m)
    pub new_is : new ≡ after f (tag_in m) m.payload (part f m)

  -- where a request follows, the part can be taken back
  abbrev pub CanGoBack : Step A → FetchState → FetchValue → Type 0
  CanGoBack (Next block) old new = new.before ≡ Some old
  CanGoBack Restart old new = new.before ≡ Some old
  CanGoBack (Whole body) old new = Unit {0}
  CanGoBack (Refused why) old new = Unit {0}

  -- what a call makes of an answer, by what it is to make of it
  abbrev pub Hears : CallState → calls.Next → H.Heard A → CallState → Type 0
  Hears old next heard.Asks new = (new.request ≡ old.request) × (next ≡ calls.Asks new.transfer)
      × (new.before ≡ Some old.transfer)
  Hears old next (heard.Over final report) new =
      (next ≡ calls.Ends final (shown_report report)) × (is_upload new.transfer ≡ is_upload old.transfer)

  -- what is left to be fetched, and what is reported, of a part
  abbrev pub rest_by : P.Part A → Notified → Option Notified
  rest_by part_of.Asks new = Some new
  rest_by (part_of.Whole report) new = None
  rest_by part_of.Useless new = None

  abbrev pub value_by : ℕ → P.Part A → Option Reported
  value_by number part_of.Asks = None
  value_by number (part_of.Whole report) = of number (shown_report report)
  value_by number part_of.Useless = None

  abbrev pub HearsFetch : FetchState → calls.Next → H.Heard A → FetchValue → Type 0
  HearsFetch old next heard.Asks new = (next ≡ calls.Asks (Fetches new.state)) × (new.before ≡ Some old)
  HearsFetch old next (heard.Over final report) new = next ≡ calls.Ends final (shown_report report)

  abbrev pub HearsUpload : UploadState → calls.Next → H.Heard A → UploadValue → Type 0
  HearsUpload old next heard.Asks new = (next ≡ calls.Asks (Uploads new.state)) × (new.before ≡ Some old)
  HearsUpload old next (heard.Over final report) new =
      (next ≡ calls.Ends final (shown_report report)) × (new.state ≡ old)

  -- where the next block is asked for, the part can be taken back
  abbrev pub CanTakeBack : P.Part A → FetchState → FetchValue → Type 0
  CanTakeBack part_of.Asks old new = new.before ≡ Some old
  CanTakeBack (part_of.Whole report) old new = Unit {0}
  CanTakeBack part_of.Useless old new = Unit {0}

-- what the answer to a fetch is to it: a part is a 2.05
abbrev pub verdict_on : FetchState → Message → Verdict
verdict_on f m = if m.code == content then part f m else verdict.Refuse refusal.BadBlock

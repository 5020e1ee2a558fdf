-- What a client reports of a response: the table of its reports, line by line, for what the response answers (RFC 7252,
-- sections 5.8 and 5.9; RFC 7641, sections 3.2 to 3.6; RFC 7959, sections 2.4 to 2.6).
use Rattle.std.specs.Prelude.{◌≡◌, ℕ, ◌==◌, ◌&&◌, not, Bool, true, false, Option, Some, None, List, [], ◌∷◌, ◌++◌}
use Rattle.std.specs.Prelude.{if◌then◌else◌}
use Rattle.std.specs.Option.{option_map}
use Rattle.coap_types.specs.Past.{Always}
use Rattle.coap_types.specs.declared.option_number.TheConstants.{BLOCK1 as block1}
use Rattle.coap_types.specs.declared.request.Method.{Method}
use Rattle.coap_codec.specs.Message.{Message}
use Rattle.coap_block.specs.Sizes.{Sizes}
use Rattle.coap_block.specs.declared.fetch_step.FetchRefusal.TheVariants as refusal
use Rattle.coap_block.specs.declared.fetch_verdict.Verdict.{Verdict}
use Rattle.coap_block.specs.declared.fetch_verdict.Verdict.TheVariants as verdict
use Rattle.coap_block.specs.FetchStep.{FetchState}
use Rattle.coap_block.specs.FetchStep as F
use Rattle.coap_block.specs.UploadStep.{UploadState, more_follows, continues}
use Rattle.coap_observe.specs.Newer.{is_newer}
use Rattle.coap_client.specs.Trace.{Request, Report, Body, Valid, Done, Value, Ended, Cancelled, Failed, Changed}
use Rattle.coap_client.specs.Trace.{BadBlock}
use Rattle.coap_client.specs.Trace.{NoTag, TooLarge, Reported, Call}
use Rattle.coap_client.specs.Own.{Fetches, Uploads, Single, Operation, Calling, Registering, Fetching, Cancelling}
use Rattle.coap_client.specs.Own.{Dropped}
use Rattle.coap_client.specs.Own.{Notified, Observation}
use Rattle.coap_client.specs.Observations.{rest_of, observation_with}
use Rattle.coap_client.specs.Requests.{is_longer}
use Rattle.coap_client.specs.Responses.{content, valid, continue, tag_in, format_in, sequence_in, block_at, part}
use Rattle.coap_client.specs.Responses.{is_notification}
use Rattle.coap_client.specs.Reports.{is_success}
use Rattle.coap_client.specs.Calls.{has_tags, is_below_errors}
use Rattle.coap_client.specs.Steps.{reports}
use Rattle.coap_client.specs.Law.{own_of}
use Rattle.coap_client_laws.specs.Follows.Clock.{moment_of}
use Rattle.coap_client_laws.specs.Follows.Ends.{ends_as, unsent}
use Rattle.coap_client_laws.specs.Follows.Notified.{notes}
use Rattle.coap_client.specs.Sendings.{hears}

-- a line of the table: what is reported where it holds
pub record Line : Type 0 where
  pub holds : Bool
  pub report : Report

abbrev pub line : Bool → Report → Line
line holds report = record { holds = holds; report = report }

-- the first that holds decides; where none does, nothing is reported
abbrev pub first_of : List Line → Option Report
first_of [] = None
first_of (l ∷ ls) = if l.holds then Some l.report else first_of ls

-- what a 2.05 is to a Block2 transfer: its last part, or all of it; or refused, for one of four reasons (RFC 7959,
-- section 2.4)

abbrev pub is_whole : Verdict → Bool
is_whole verdict.Done = true
is_whole v = false

abbrev pub is_changed : Verdict → Bool
is_changed (verdict.Refuse refusal.Changed) = true
is_changed v = false

abbrev pub is_bad : Verdict → Bool
is_bad (verdict.Refuse refusal.BadBlock) = true
is_bad v = false

abbrev pub is_without_tag : Verdict → Bool
is_without_tag (verdict.Refuse refusal.NoTag) = true
is_without_tag v = false

abbrev pub is_too_large : Verdict → Bool
is_too_large (verdict.Refuse refusal.TooLarge) = true
is_too_large v = false

-- a GET; where no line holds, its next block is asked for, or it begins anew
abbrev pub get_lines : Request → FetchState → Message → List Line
get_lines r f m =
    line ((m.code == content) && is_whole (part f m)) (Body (tag_in m) (format_in m) (f.gathered ++ m.payload))
    ∷ line ((m.code == valid) && has_tags r.etags) (Valid (tag_in m))
    ∷ line (not (m.code == content)) (Failed m.code)
    ∷ line (is_changed (part f m)) Changed
    ∷ line (is_bad (part f m)) BadBlock
    ∷ line (is_without_tag (part f m)) NoTag
    ∷ line (is_too_large (part f m)) TooLarge ∷ []

-- A POST or a PUT. A 2.31 to a block that others follow lets the next one be sent, where its Block1 fits; else it is a
-- bad block, as is any other code below 4.00 there, and a 2.31 to the last block.

abbrev pub is_continue : UploadState → Message → Bool
is_continue u m = (m.code == continue) && is_longer u

abbrev pub goes_on : UploadState → Message → Bool
goes_on u m = is_continue u m && elim (block_at block1 m) [ None ↦ false | Some b ↦ continues u b ]

abbrev pub fails : Method → UploadState → Message → Bool
fails method u m =
    if more_follows u then not (is_below_errors m.code)
    else not (is_success method m.code) && not (is_continue u m)

abbrev pub upload_lines : Method → UploadState → Message → List Line
upload_lines method u m =
    line (not (more_follows u) && is_success method m.code) (Done m.code)
    ∷ line (fails method u m) (Failed m.code)
    ∷ line (not (goes_on u m)) BadBlock ∷ []

-- a DELETE
abbrev pub single_lines : Method → Message → List Line
single_lines method m = line (is_success method m.code) (Done m.code)
    ∷ line (not (is_success method m.code)) (Failed m.code) ∷ []

-- a notification, and the answer to a registration, where it is taken: its representation where it is whole, or the end
abbrev pub notified_lines : Sizes → Bool → Message → List Line
notified_lines sizes taken m =
    line (is_notification m && (taken && is_whole (part (F.start sizes 0) m)))
    (Value (sequence_in m) (tag_in m) (format_in m) m.payload)
    ∷ line (not (is_notification m)) (Ended m.code) ∷ []

-- the last part of what is fetched for a notification
abbrev pub fetched_lines : Option Notified → Message → List Line
fetched_lines None m = []
fetched_lines (Some n) m = line ((m.code == content) && is_whole (part n.fetch m))
    (Value n.sequence (tag_in m) (format_in m) (n.fetch.gathered ++ m.payload)) ∷ []

-- by the operation whose request is answered; any answer to a cancel ends the observation
abbrev pub answer_lines : Sizes → List Observation → Operation → Message → List Line
answer_lines sizes os (Calling number r (Fetches f)) m = get_lines r f m
answer_lines sizes os (Calling number r (Uploads u)) m = upload_lines r.method u m
answer_lines sizes os (Calling number r Single) m = single_lines r.method m
answer_lines sizes os (Registering number path) m = notified_lines sizes true m
answer_lines sizes os (Fetching number) m = fetched_lines (rest_of number os) m
answer_lines sizes os (Cancelling number) m = line true Cancelled ∷ []
answer_lines sizes os Dropped m = []

-- the number that a report is of
abbrev pub number_in : Operation → ℕ
number_in (Calling number r t) = number
number_in (Registering number path) = number
number_in (Fetching number) = number
number_in (Cancelling number) = number
number_in Dropped = 0

abbrev pub reported_as : ℕ → Option Report → Option Reported
reported_as number report = option_map (λ (r : Report). record { number = number; report = r }) report

module _ (sizes : Sizes) where
  pub record ReportsLines (past : List Call) (c : Call) : Type 0 where
    -- the answer to the request of what runs, unless its next request can't be sent
    pub answer : (m : Message) (op : Operation) → hears c ≡ Some m → (own_of sizes past).running ≡ Some op
        → unsent (own_of sizes past) c ≡ None
        → reports (own_of sizes past) c
        ≡ reported_as (number_in op) (first_of (answer_lines sizes (own_of sizes past).observations op m))
    -- a notification under the token of a live observation; it is taken where it is newer
    pub notice : (m : Message) (o : Observation) → notes c ≡ Some m
        → observation_with m.token (own_of sizes past).observations ≡ Some o
        → reports (own_of sizes past) c ≡ reported_as o.number (first_of (notified_lines sizes
        (is_newer o.watch.mark (sequence_in m) (moment_of (own_of sizes past) c)) m))
    -- Where neither comes, no exchange ends and no request can't be sent, nothing is reported.
    pub none : ((m : Message) → hears c ≡ Some m → (own_of sizes past).running ≡ None)
        → ((m : Message) → notes c ≡ Some m → observation_with m.token (own_of sizes past).observations ≡ None)
        → ends_as c ≡ None → unsent (own_of sizes past) c ≡ None → reports (own_of sizes past) c ≡ None

  abbrev pub ReportsByTable : List Call → Type 0
  ReportsByTable trace = Always ReportsLines trace

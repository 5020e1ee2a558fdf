-- What a call makes of the answer to its request: its next block, or its last report (RFC 7252, section 5.8; RFC 7959,
-- sections 2.4 and 2.5).
use Rattle.std.specs.Prelude.{ℕ, ◌==◌, ◌&&◌, nat_lt, Bool, true, false, Option, Some, None, List, [], ◌∷◌, ◌++◌}
use Rattle.std.specs.Prelude.{if◌then◌else◌}
use Rattle.coap_types.specs.declared.message.TheConstants.Code as codes
use Rattle.coap_types.specs.declared.request.Method.{Method}
use Rattle.coap_codec.specs.Message.{Message}
use Rattle.coap_types.specs.declared.block.Block.{Block}
use Rattle.coap_block.specs.declared.fetch_verdict.Verdict.{Verdict}
use Rattle.coap_block.specs.declared.fetch_verdict.Verdict.TheVariants as verdict
use Rattle.coap_block.specs.FetchStep.{FetchState}
use Rattle.coap_block.specs.FetchStep as F
use Rattle.coap_block.specs.UploadStep.{UploadState, more_follows, continues, moved}
use Rattle.coap_types.specs.declared.option_number.TheConstants.{BLOCK1 as block1}
use Rattle.coap_client.specs.Trace.{Request, Report, Body, Valid, Failed, BadBlock}
use Rattle.coap_client.specs.Own.{Transfer, Fetches, Uploads, Single}
use Rattle.coap_client.specs.Requests.{is_longer}
use Rattle.coap_client.specs.Reports.{done, refused}
use Rattle.coap_client.specs.Responses.{valid, content, continue, tag_in, format_in, block_at, part}

-- it asks for, or sends, its next block; or it is over, with a report, by a final response or not
pub data Next : Type 0 where
  Asks : (transfer : Transfer) → Next
  Ends : (final : Bool) (report : Report) → Next

-- GET

abbrev pub has_tags : List (List ℕ) → Bool
has_tags [] = false
has_tags (tag ∷ tags) = true

abbrev pub fetched : FetchState → Message → Verdict → Next
fetched f m (verdict.Refuse why) = Ends true (refused why)
fetched f m verdict.Again = Asks (Fetches (F.after f (tag_in m) m.payload verdict.Again))
fetched f m verdict.Done = Ends true (Body (tag_in m) (format_in m) (f.gathered ++ m.payload))
fetched f m (verdict.Ask num szx) = Asks (Fetches (F.after f (tag_in m) m.payload (verdict.Ask num szx)))

abbrev pub got : Request → FetchState → Message → Next
got r f m =
    if m.code == content then fetched f m (part f m)
    else (if (m.code == valid) && has_tags r.etags then Ends true (Valid (tag_in m))
    else Ends true (Failed m.code))

-- POST and PUT. A 2.31 is no final response.

abbrev pub continued : UploadState → Option Block → Next
continued u None = Ends false BadBlock
continued u (Some b) = if continues u b then Asks (Uploads (moved u b)) else Ends false BadBlock

-- code 0.00 to 3.31
abbrev pub is_below_errors : ℕ → Bool
is_below_errors code = nat_lt code codes.BAD_REQUEST.0

abbrev pub sent : Method → UploadState → Message → Next
sent method u m =
    if (m.code == continue) && is_longer u then continued u (block_at block1 m)
    else (if more_follows u && is_below_errors m.code then Ends true BadBlock
    else Ends true (done method m.code))

-- each call
abbrev pub answer : Request → Transfer → Message → Next
answer r (Fetches f) m = got r f m
answer r (Uploads u) m = sent r.method u m
answer r Single m = Ends true (done r.method m.code)

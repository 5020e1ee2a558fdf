-- What is told of a report of a client: its name, and the members that the table in docs/PROGRAM.md has for it.
use Rattle.std.specs.Prelude.{ℕ, List, [], ◌∷◌, ◌++◌, codes, Option}
use Rattle.json.specs.Json.{Json, string}
use Rattle.coap_types.specs.Text.{code_text}
use Rattle.coap_types.specs.declared.message.Code.{Code}
use Rattle.coap_client.specs.Trace.{Report, Body, Valid, Done, Value, Ended, Cancelled, Failed, Timeout, Reset}
use Rattle.coap_client.specs.Trace.{NoResponse, Changed, BadBlock, NoTag, TooLarge, NoIds}
use Rattle.coap_client.specs.Responses.{content, valid}
use Rattle.coap_json.specs.Objects.{Field, bytes_fields, hex_or_null, told_object, whole, whole_or_null}

abbrev pub report_name : Report → List ℕ
report_name (Body tag format body) = codes "body"
report_name (Valid tag) = codes "valid"
report_name (Done code) = codes "done"
report_name (Value sequence tag format body) = codes "value"
report_name (Ended code) = codes "ended"
report_name Cancelled = codes "cancelled"
report_name (Failed code) = codes "failed"
report_name Timeout = codes "timeout"
report_name Reset = codes "reset"
report_name NoResponse = codes "no-response"
report_name Changed = codes "changed"
report_name BadBlock = codes "bad-block"
report_name NoTag = codes "no-tag"
report_name TooLarge = codes "too-large"
report_name NoIds = codes "no-ids"

-- a code as it is written (RFC 7252, section 3)
abbrev pub code_field : ℕ → Field
code_field code = (codes "code", string (code_text (record { 0 = code })))

-- the entity-tag and the format of a representation, null where it has none, and its bytes
abbrev pub fetched_fields : Option (List ℕ) → Option ℕ → List ℕ → List Field
fetched_fields tag format body =
    (codes "etag", hex_or_null tag) ∷ (codes "format", whole_or_null format) ∷ bytes_fields body

-- a representation comes with 2.05 Content; that the client's is valid is said by 2.03 Valid (RFC 7252, sections
-- 5.9.1.4 and 5.9.1.3)
abbrev pub report_fields : Report → List Field
report_fields (Body tag format body) = code_field content ∷ fetched_fields tag format body
report_fields (Valid tag) = code_field valid ∷ (codes "etag", hex_or_null tag) ∷ []
report_fields (Done code) = code_field code ∷ []
report_fields (Value sequence tag format body) =
    code_field content ∷ (codes "sequence", whole sequence) ∷ fetched_fields tag format body
report_fields (Ended code) = code_field code ∷ []
report_fields Cancelled = []
report_fields (Failed code) = code_field code ∷ []
report_fields Timeout = []
report_fields Reset = []
report_fields NoResponse = []
report_fields Changed = []
report_fields BadBlock = []
report_fields NoTag = []
report_fields TooLarge = []
report_fields NoIds = []

-- the object that tells of a report at this moment
abbrev pub report_object : ℕ → Report → Json
report_object ms report = told_object ms (report_name report) (report_fields report)

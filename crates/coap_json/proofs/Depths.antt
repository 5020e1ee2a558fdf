-- Objects of lines nest three deep at most.
use Rattle.std.proofs.Common.{◌≡◌, ◌≤◌, ℕ, Bool, true, false, if◌then◌else◌, List, [], ◌∷◌, Option, Some, None}
use Rattle.std.proofs.Common.{codes, refl, arith, lit≤}
use Rattle.std.specs.Option.{option_map}
use Rattle.std.specs.Str.{is_utf8}
use Rattle.json.specs.Json.{string}
use Rattle.json.specs.Tree.{depth, items_depth, members_depth}
use Rattle.coap_client.specs.Trace.{Report, Body, Valid, Done, Value, Ended, Cancelled, Failed, Timeout, Reset}
use Rattle.coap_client.specs.Trace.{NoResponse, Changed, BadBlock, NoTag, TooLarge, NoIds}
use Rattle.coap_json.specs.declared.links.Parameter.{Parameter}
use Rattle.coap_json.specs.LinkObjects.{link_fields, parameter_items, value_field}
use Rattle.coap_json.specs.Objects.{Field, bytes_fields, content_field, hex, hex_or_null, members_of, whole_or_null}
use Rattle.coap_json.specs.OtherObjects.{applied_fields}
use Rattle.coap_json.specs.ReportObjects.{report_fields}
use Rattle.coap_types.specs.declared.request.Method.{Method}

pub content-depth : (bytes : List ℕ) → depth (content_field bytes).1 ≡ 0
content-depth bytes =
    let choice : Bool → Field = λ b. if b then (codes "text", string bytes) else (codes "hex", hex bytes) in
    elim (is_utf8 bytes) as (λ b. depth (choice b).1 ≡ 0) [ true ↦ refl | false ↦ refl ]

hex-depth : (o : Option (List ℕ)) → depth (hex_or_null o) ≡ 0
hex-depth None = refl
hex-depth (Some bytes) = refl

whole-depth : (o : Option ℕ) → depth (whole_or_null o) ≡ 0
whole-depth None = refl
whole-depth (Some n) = refl

value-depth : (o : Option (List ℕ)) → depth (value_field o).1 ≡ 0
value-depth None = refl
value-depth (Some bytes) = content-depth bytes

pub bytes-depth : (bytes : List ℕ) → members_depth (members_of (bytes_fields bytes)) ≤ 0
bytes-depth bytes = omega (arith, content-depth bytes)

pub report-depth : (r : Report) → members_depth (members_of (report_fields r)) ≤ 2
report-depth (Body tag format body) = omega (arith, hex-depth tag, whole-depth format, content-depth body)
report-depth (Valid tag) = omega (arith, hex-depth tag)
report-depth (Done code) = lit≤ tt
report-depth (Value sequence tag format body) = omega (arith, hex-depth tag, whole-depth format, content-depth body)
report-depth (Ended code) = lit≤ tt
report-depth Cancelled = lit≤ tt
report-depth (Failed code) = lit≤ tt
report-depth Timeout = lit≤ tt
report-depth Reset = lit≤ tt
report-depth NoResponse = lit≤ tt
report-depth Changed = lit≤ tt
report-depth BadBlock = lit≤ tt
report-depth NoTag = lit≤ tt
report-depth TooLarge = lit≤ tt
report-depth NoIds = lit≤ tt

pub parameters-depth : (ps : List Parameter) → items_depth (parameter_items ps) ≤ 1
parameters-depth [] = lit≤ tt
parameters-depth (p ∷ ps) =
    let value : Option (List ℕ) = option_map (λ v. v.now) p.value in
    omega (arith, parameters-depth ps, value-depth value)

pub applied-depth : (method : Method) (path : List ℕ) (version : ℕ) (body : List ℕ)
    → members_depth (members_of (applied_fields method path version body)) ≤ 2
applied-depth method path version body = omega (arith, content-depth body)

pub link-depth : (target : List ℕ) (ps : List Parameter) → members_depth (members_of (link_fields target ps)) ≤ 2
link-depth target ps = omega (arith, parameters-depth ps)

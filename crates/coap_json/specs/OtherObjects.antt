-- What is told besides the reports of a client: that a call is refused or given up, what came of a ping, and what a
-- server applied.
use Rattle.std.specs.Prelude.{ℕ, List, [], ◌∷◌, codes}
use Rattle.json.specs.Json.{Json, string}
use Rattle.coap_types.specs.declared.request.Method.{Method}
use Rattle.coap_types.specs.declared.request.Method.TheVariants.{Get, Post, Put, Delete}
use Rattle.coap_client.specs.declared.refusals.CallRefusal.{CallRefusal}
use Rattle.coap_client.specs.RefusalNumbers.{call_refusal_number}
use Rattle.coap_json.specs.Objects.{Field, bytes_fields, told_object, whole}
use Rattle.coap_json.specs.declared.others.PingEnd.{PingEnd}
use Rattle.coap_json.specs.declared.others.PingEnd.TheVariants as end

-- a call that a client does not take
abbrev pub refused_object : ℕ → CallRefusal → Json
refused_object ms refusal = told_object ms (codes "refused") ((
  codes "number",
  whole
      (call_refusal_number refusal),
) ∷ [])

-- .. that is given up, after so many seconds
abbrev pub gave_up_object : ℕ → ℕ → Json
gave_up_object ms seconds = told_object ms (codes "gave-up") ((codes "seconds", whole seconds) ∷ [])

-- what came of an Empty Confirmable message: its Reset, or nothing (RFC 7252, section 4.3)
abbrev pub ping_name : PingEnd → List ℕ
ping_name end.Reset = codes "reset"
ping_name end.Timeout = codes "timeout"

-- .. and so many milliseconds after it was first sent
abbrev pub ping_object : ℕ → PingEnd → ℕ → Json
ping_object ms end took = told_object ms (ping_name end) ((codes "took", whole took) ∷ [])

-- the name of a method (RFC 7252, section 12.1.1)
abbrev pub method_name : Method → List ℕ
method_name Get = codes "GET"
method_name Post = codes "POST"
method_name Put = codes "PUT"
method_name Delete = codes "DELETE"

-- a request that a server applied: its method and its path, the version that it made, and what the path holds then
abbrev pub applied_fields : Method → List ℕ → ℕ → List ℕ → List Field
applied_fields method path version body =
    (codes "method", string (method_name method)) ∷ (codes "path", string path) ∷ (codes "version", whole version)
    ∷ bytes_fields body

abbrev pub applied_object : ℕ → Method → List ℕ → ℕ → List ℕ → Json
applied_object ms method path version body =
    told_object ms (codes "applied") (applied_fields method path version body)

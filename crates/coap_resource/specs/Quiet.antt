-- When a request is answered without any growth, so that no memory is refused for it.
use Rattle.std.specs.Prelude.{◌≡◌, ℕ, Bool, true, false, [], length, Option, Some, None, is_some}
use Rattle.coap_types.specs.declared.request.Method.{Method}
use Rattle.coap_types.specs.declared.request.Method.TheVariants.{Get, Post, Put, Delete}
use Rattle.coap_resource.specs.Content.{Content, Held, append_refusal, put_refusal}
use Rattle.coap_resource.specs.RequestOptions.{precondition_fails}
use Rattle.coap_resource.specs.Serves.{Question, got}

-- a POST to a path that holds nothing, or one that the store refuses
abbrev pub IsQuietPost : Option Held → Content → ℕ → Question → Type 0
IsQuietPost None old now q = Unit {0}
IsQuietPost (Some held) old now q = is_some (append_refusal old now held (length q.body)) ≡ true

-- a GET whose response has no payload, such a POST, a PUT that the store refuses, and each DELETE
abbrev pub IsQuietBy : Method → Content → ℕ → Question → Type 0
IsQuietBy Get old now q = (got (old.holds q.path) q).part ≡ []
IsQuietBy Post old now q = IsQuietPost (old.holds q.path) old now q
IsQuietBy Put old now q = is_some (put_refusal old now q.path (length q.body)) ≡ true
IsQuietBy Delete old now q = Unit {0}

abbrev pub IsQuietUnless : Bool → Content → ℕ → Question → Type 0
IsQuietUnless true old now q = Unit {0}
IsQuietUnless false old now q = IsQuietBy q.method old now q

-- a 4.12, and what is quiet by its method
abbrev pub IsQuiet : Content → ℕ → Question → Type 0
IsQuiet old now q = IsQuietUnless (precondition_fails (old.holds q.path) q.options) old now q

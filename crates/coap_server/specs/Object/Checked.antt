-- What the code's checks say, as a verdict (RFC 7252, section 5).
use Rattle.std.specs.Prelude.{◌≡◌, ◌≤◌, ℕ, List}
use Rattle.coap_codec.specs.Message.{Message}
use Rattle.coap_types.specs.Roles.{role_of}
use Rattle.coap_types.specs.declared.block.TheConstants.{MAX_NUM as max_num}
use Rattle.coap_types.specs.declared.request.Method.{Method}
use Rattle.coap_types.specs.declared.role.Role.TheVariants as role
use Rattle.coap_resource.specs.Serves.{Question}
use Rattle.coap_server.specs.declared.server.request_checks.Checked.{Checked}
use Rattle.coap_server.specs.declared.server.request_checks.Checked.TheVariants as checked
use Rattle.coap_server.specs.Checks.{Verdict, Ignored, Refused, Asks, Uploads, asks}

abbrev pub asked_as : ℕ → Message → Method → List (List ℕ) → Question
asked_as szx m method path = record { method = method; path = path; options = asks m; body = m.payload; szx = szx }

abbrev pub verdict_as : {A : Type 0} → ℕ → Message → Checked A → Verdict
verdict_as szx m checked.Ignored = Ignored
verdict_as szx m (checked.Refused code) = Refused code.0
verdict_as szx m (checked.Asks method path) = Asks (asked_as szx m method path)
verdict_as szx m (checked.Uploads method path block) = Uploads (asked_as szx m method path) block

-- the code is that of a response, and the number of the block has 20 bits
abbrev pub CanBeAnswered : {A : Type 0} → Checked A → Type 0
CanBeAnswered (checked.Refused code) = role_of code.0 ≡ role.Response
CanBeAnswered (checked.Uploads method path block) = block.num ≤ max_num
CanBeAnswered _ = Unit {0}

-- A refusal of a server has a code of a response (RFC 7252, section 5.9).
use Rattle.std.proofs.Common.{◌≡◌, ◌≤◌, ◌<◌, ℕ, nat_lt, Bool, true, false, ◌||◌, Option, Some, None, List, length, refl}
use Rattle.std.proofs.Common.{cond, arith}
use Rattle.coap_types.specs.Roles.{role_of}
use Rattle.coap_types.specs.Recognised.{lacks_critical}
use Rattle.coap_types.specs.RequestPath.{path_of}
use Rattle.coap_types.specs.MethodCode.{method_of}
use Rattle.coap_types.specs.OptionValues.{has, uint_at}
use Rattle.coap_types.specs.declared.block.Block.{Block}
use Rattle.coap_types.specs.declared.direction.Direction.TheVariants as direction
use Rattle.coap_types.specs.declared.message.Kind.{Kind}
use Rattle.coap_types.specs.declared.message.Kind.TheVariants.{Con}
use Rattle.coap_types.specs.declared.option_number.TheConstants.{BLOCK1 as block1, BLOCK2 as block2}
use Rattle.coap_types.specs.declared.option_number.TheConstants.{PROXY_URI as proxy_uri, PROXY_SCHEME as proxy_scheme}
use Rattle.coap_types.specs.declared.path.TheConstants.{MAX_SEGMENTS as max_segments}
use Rattle.coap_types.specs.declared.request.Method.{Method}
use Rattle.coap_types.specs.declared.request.Method.TheVariants.{Get, Delete}
use Rattle.coap_types.specs.declared.role.Role.TheVariants as role
use Rattle.coap_codec.specs.Message.{Message}
use Rattle.coap_block.specs.declared.assembly_step.AssemblyRefusal.{AssemblyRefusal}
use Rattle.coap_block.specs.declared.assembly_step.AssemblyRefusal.TheVariants.{BadRequest, EntityIncomplete}
use Rattle.coap_block.specs.declared.assembly_step.AssemblyRefusal.TheVariants.{EntityTooLarge, Unavailable}
use Rattle.coap_block.specs.AssemblyAnswer.{refusal_code}
use Rattle.coap_resource.specs.RequestOptions.{block_said}
use Rattle.coap_resource.specs.Serves.{Question}
use Rattle.coap_exchange.specs.AnswererSteps as P
use Rattle.coap_server.specs.Responses.{bare}
use Rattle.coap_server.specs.Checks.{Verdict, Refused, verdict_on, bad_by}
use Rattle.coap_server.specs.Checks.{asked_by, uploading, question, asks, is_reserved, bad_request}
use Rattle.coap_server.specs.Checks.{proxying_not_supported}
use Rattle.coap_server_laws.proofs.Progress.ResponsesSpelled.{bare_response}

abbrev pub IsRefusal : Verdict → Type 0
IsRefusal (Refused code) = (role_of code ≡ role.Response) × (0 < code) × (code < 256)
IsRefusal _ = Unit {0}

bad_refusal : (kind : Kind) → IsRefusal (bad_by kind)
bad_refusal Con = (refl, omega arith, omega arith)
bad_refusal _ = tt

uploading_refusal : (m : Method) (q : Question) (o : Option Block) → IsRefusal (uploading m q o)
uploading_refusal m q None = tt
uploading_refusal Get q (Some b) = (refl, omega arith, omega arith)
uploading_refusal Delete q (Some b) = (refl, omega arith, omega arith)
uploading_refusal _ q (Some b) = tt

asked_refusal : (szx : ℕ) (o : Option Method) (m : Message) → IsRefusal (asked_by szx o m)
asked_refusal szx None m = (refl, omega arith, omega arith)
asked_refusal szx (Some method) m = by (nat_lt max_segments (length (path_of (asks m))))
    (is_reserved (uint_at block1 (asks m)) || is_reserved (uint_at block2 (asks m)))
  where
    by : (a b : Bool) → IsRefusal (cond a (Refused bad_request)
        (cond b (Refused bad_request) (uploading method (question szx method m)
        (block_said (uint_at block1 (asks m))))))
    by true b = (refl, omega arith, omega arith)
    by false true = (refl, omega arith, omega arith)
    by false false = uploading_refusal method (question szx method m) (block_said (uint_at block1 (asks m)))

pub is_refusal : (szx : ℕ) (m : Message) → IsRefusal (verdict_on szx m)
is_refusal szx m = by (lacks_critical direction.Request m.options) (has proxy_uri (asks m) || has proxy_scheme (asks m))
  where
    by : (a b : Bool) → IsRefusal (cond a (bad_by m.kind)
        (cond b (Refused proxying_not_supported) (asked_by szx (method_of m.code) m)))
    by true b = bad_refusal m.kind
    by false true = (refl, omega arith, omega arith)
    by false false = asked_refusal szx (method_of m.code) m

pub block_refusal : (token : List ℕ) (why : AssemblyRefusal) → length token ≤ 8
    → P.IsResponseWith token (bare (refusal_code why).0)
block_refusal token BadRequest few = bare_response token 128 few refl (omega arith) (omega arith)
block_refusal token EntityIncomplete few = bare_response token 136 few refl (omega arith) (omega arith)
block_refusal token EntityTooLarge few = bare_response token 141 few refl (omega arith) (omega arith)
block_refusal token Unavailable few = bare_response token 163 few refl (omega arith) (omega arith)

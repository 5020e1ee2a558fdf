-- What is sent for a call is what that call asks for (RFC 7252, sections 5.2 and 5.8; RFC 7959, sections 2.4 and 2.5).
use Rattle.std.specs.Prelude.{◌≡◌, ◌≤◌, ℕ, Some, None, List, []}
use Rattle.coap_types.specs.Past.{Always}
use Rattle.coap_types.specs.MethodCode.{method_code}
use Rattle.coap_types.specs.declared.request.Method.{Method}
use Rattle.coap_types.specs.declared.request.Method.TheVariants.{Get, Post, Put, Delete}
use Rattle.coap_types.specs.declared.block.TheConstants.{MAX_NUM as max_num}
use Rattle.coap_block.specs.Sizes.{Sizes}
use Rattle.coap_block.specs.FetchStep as F
use Rattle.coap_block.specs.UploadStep.{UploadState}
use Rattle.coap_client.specs.Trace.{Request, Call}
use Rattle.coap_client.specs.Own.{Transfer, Fetches, Uploads, Single, Calling}
use Rattle.coap_client.specs.Requests.{message_of}
use Rattle.coap_client.specs.Law.{own_of}
use Rattle.coap_client.specs.Sendings.{WasTaken, Sending, sends}
use Rattle.coap_client_laws.specs.Follows.Order.{call_of}

-- the body is sent in blocks of the client's size or of smaller ones, and each has a number
pub record SendsBody (sizes : Sizes) (body : List ℕ) (u : UploadState) : Type 0 where
  pub body_is : u.body ≡ body
  pub num : u.num ≤ max_num
  pub size : u.szx ≤ sizes.szx

-- a GET fetches a body in the client's sizes, a POST and a PUT send theirs, a DELETE has none
abbrev pub CarriesBody : Sizes → Method → List ℕ → Transfer → Type 0
CarriesBody sizes Get body (Fetches f) = F.sizes_of f ≡ sizes
CarriesBody sizes Get body (Uploads u) = ⊥
CarriesBody sizes Get body Single = ⊥
CarriesBody sizes Post body (Fetches f) = ⊥
CarriesBody sizes Post body (Uploads u) = SendsBody sizes body u
CarriesBody sizes Post body Single = ⊥
CarriesBody sizes Put body (Fetches f) = ⊥
CarriesBody sizes Put body (Uploads u) = SendsBody sizes body u
CarriesBody sizes Put body Single = ⊥
CarriesBody sizes Delete body (Fetches f) = ⊥
CarriesBody sizes Delete body (Uploads u) = ⊥
CarriesBody sizes Delete body Single = Unit {0}

-- The call was taken before, and the message is that of its request, with its body or the block that is due.
pub record IsOfCall (sizes : Sizes) (number : ℕ) (x : Sending) (past : List Call) : Type 0 where
  pub request : Request
  pub taken : WasTaken (record { number = number; request = request }) past
  pub transfer : Transfer
  pub operation : x.operation ≡ Calling number (record request { body = [] }) transfer
  pub carries : CarriesBody sizes request.method request.body transfer
  pub message : x.request ≡ message_of [] (Calling number (record request { body = [] }) transfer)

abbrev pub AreOfCalls : Sizes → List Call → Type 0
AreOfCalls sizes trace = Always (λ past c. (x : Sending) (number : ℕ) → sends (own_of sizes past) c ≡ Some x
    → call_of x.operation ≡ Some number → IsOfCall sizes number x past) trace

-- What is sent for no call asks for a representation: a GET.
abbrev pub OthersAreGets : Sizes → List Call → Type 0
OthersAreGets sizes trace = Always (λ past c. (x : Sending) → sends (own_of sizes past) c ≡ Some x
    → call_of x.operation ≡ None → x.request.code ≡ (method_code Get).0) trace

-- Which reports the answers to the requests of a call give (RFC 7252, section 5.8; RFC 7959, sections 2.4 and 2.5).
use Rattle.std.specs.Prelude.{◌≡◌, ◌≢◌, ◌⊎◌, ◌<◌, ℕ, Bool, true, false, Some, List}
use Rattle.coap_types.specs.Past.{Always}
use Rattle.coap_types.specs.declared.block.Block.{Block}
use Rattle.coap_types.specs.declared.message.TheConstants.Code as codes
use Rattle.coap_types.specs.declared.option_number.TheConstants.{BLOCK1 as block1}
use Rattle.coap_codec.specs.Message.{Message}
use Rattle.coap_block.specs.Sizes.{Sizes}
use Rattle.coap_block.specs.UploadStep.{UploadState, more_follows, Continues}
use Rattle.coap_client.specs.Trace.{Request, Report, Body, Valid, Done, Failed, Changed, BadBlock, NoTag, TooLarge}
use Rattle.coap_client.specs.Trace.{Call}
use Rattle.coap_client.specs.Own.{Transfer, Fetches, Uploads, Calling}
use Rattle.coap_client.specs.Requests.{is_longer}
use Rattle.coap_client.specs.Responses.{continue, block_at}
use Rattle.coap_client.specs.Effects.{of}
use Rattle.coap_client.specs.Steps.{reports}
use Rattle.coap_client.specs.Law.{own_of}
use Rattle.coap_client_laws.specs.Follows.AnswersLastRequest.{Answers}
use Rattle.coap_client_laws.specs.Follows.OfCalls.{CarriesBody}
use Rattle.coap_client.specs.Sendings.{hears}

-- these are given by an answer to a call alone
abbrev pub is_by_answer : Report → Bool
is_by_answer (Body tag format body) = true
is_by_answer (Valid tag) = true
is_by_answer (Done code) = true
is_by_answer (Failed code) = true
is_by_answer Changed = true
is_by_answer BadBlock = true
is_by_answer NoTag = true
is_by_answer TooLarge = true
is_by_answer report = false

-- a 2.31 that doesn't fit the block that was sent, or another code below 4.00 to a block that others follow
abbrev pub IsBadFor : UploadState → Message → Type 0
IsBadFor u m =
    ((m.code ≡ continue) × (is_longer u ≡ true) × ((b : Block) → block_at block1 m ≡ Some b → Continues u b → ⊥))
    ⊎ ((more_follows u ≡ true) × (m.code < codes.BAD_REQUEST.0) × (m.code ≢ continue))

-- Success and failure have the code of the answer. A body, a 2.03, and what is no body are of a GET alone; a bad block
-- is of that, and of a body that is sent in blocks.
abbrev pub MayReport : Transfer → Message → Report → Type 0
MayReport tr m (Done code) = m.code ≡ code
MayReport tr m (Failed code) = m.code ≡ code
MayReport (Fetches f) m report = is_by_answer report ≡ true
MayReport (Uploads u) m BadBlock = IsBadFor u m
MayReport tr m report = ⊥

module _ (sizes : Sizes) where
  -- It is heard here as the answer to the request that was sent last, which is one of the call, and that may give the
  -- report.
  pub record IsByAnswer (number : ℕ) (report : Report) (past : List Call) (c : Call) : Type 0 where
    pub message : Message
    pub heard : hears c ≡ Some message
    pub answers : Answers sizes past c message
    pub request : Request
    pub transfer : Transfer
    pub runs : (own_of sizes past).running ≡ Some (Calling number request transfer)
    pub operation : answers.sending.operation ≡ Calling number request transfer
    pub body : List ℕ
    pub carries : CarriesBody sizes request.method body transfer
    pub may : MayReport transfer message report

  abbrev pub AreByAnswers : List Call → Type 0
  AreByAnswers trace =
      Always (λ past c. (number : ℕ) (report : Report) → reports (own_of sizes past) c ≡ of number report
      → is_by_answer report ≡ true → IsByAnswer number report past c) trace

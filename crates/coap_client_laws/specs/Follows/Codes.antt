-- Which responses to a call a client reports as success, and which as failure (RFC 7252, sections 5.8 and 5.9; RFC
-- 7959, section 2.5).
use Rattle.std.specs.Prelude.{◌≡◌, ◌≢◌, ◌≤◌, ◌⊎◌, ℕ, Bool, true, false, Some, List, []}
use Rattle.coap_types.specs.Past.{Always}
use Rattle.coap_types.specs.declared.message.TheConstants.Code as codes
use Rattle.coap_codec.specs.Message.{Message}
use Rattle.coap_block.specs.Sizes.{Sizes}
use Rattle.coap_block.specs.UploadStep.{UploadState, more_follows}
use Rattle.coap_client.specs.Trace.{Request, Done, Failed, Call}
use Rattle.coap_client.specs.Own.{Transfer, Fetches, Uploads, Single, Operation, Calling}
use Rattle.coap_client.specs.Requests.{is_longer}
use Rattle.coap_client.specs.Responses.{created, deleted, valid, changed, content, continue}
use Rattle.coap_client.specs.Effects.{of}
use Rattle.coap_client.specs.Steps.{reports}
use Rattle.coap_client.specs.Law.{own_of}
use Rattle.coap_client.specs.Sendings.{hears, last_sent}
use Rattle.coap_client_laws.specs.Follows.Bodies.{HeardFor}

-- Success, by the request that is answered: of a DELETE 2.02; of a POST and a PUT 2.01 and 2.04, where no block is left
-- to be sent.
abbrev pub Succeeds : Operation → ℕ → Type 0
Succeeds (Calling number r Single) code = code ≡ deleted
Succeeds (Calling number r (Uploads u)) code = (more_follows u ≡ false) × ((code ≡ created) ⊎ (code ≡ changed))
Succeeds op code = ⊥

-- A block behind which others follow fails by an error alone (4.00 and above); the last one, or a body in one message,
-- by what is no success; a 2.31 to a block is no response that counts.
abbrev pub FailsBlock : Bool → UploadState → ℕ → Type 0
FailsBlock true u code = codes.BAD_REQUEST.0 ≤ code
FailsBlock false u code = (code ≢ created) × (code ≢ changed) × (is_longer u ≡ true → code ≢ continue)

-- Failure: of a GET, each block of it, what is no 2.05, and no 2.03 where the call carries ETags; of the others as
-- above.
abbrev pub Fails : Operation → ℕ → Type 0
Fails (Calling number r (Fetches f)) code = (code ≢ content) × (code ≡ valid → r.etags ≡ [])
Fails (Calling number r (Uploads u)) code = FailsBlock (more_follows u) u code
Fails (Calling number r Single) code = code ≢ deleted
Fails op code = ⊥

module _ (sizes : Sizes) where
  -- A response with this code is heard in this very call, as the answer to the request that was sent last, which is one
  -- of the call; and that means this for that request.
  pub record IsOfCode (Means : Operation → ℕ → Type 0) (number code : ℕ) (past : List Call) (c : Call) : Type 0 where
    pub message : Message
    pub heard : HeardFor sizes number message past c
    pub last : last_sent sizes past ≡ Some heard.sending
    pub code_is : message.code ≡ code
    pub means : Means heard.sending.operation code

  pub record ReportsCode (past : List Call) (c : Call) : Type 0 where
    -- Success and failure of a call are reported where such a response is heard,
    pub done : (number code : ℕ) → reports (own_of sizes past) c ≡ of number (Done code)
        → IsOfCode Succeeds number code past c
    pub failed : (number code : ℕ) → reports (own_of sizes past) c ≡ of number (Failed code)
        → IsOfCode Fails number code past c
    -- and wherever it is, for the call that runs.
    pub each_done : (number : ℕ) (r : Request) (t : Transfer) (m : Message)
        → (own_of sizes past).running ≡ Some (Calling number r t) → hears c ≡ Some m
        → Succeeds (Calling number r t) m.code → reports (own_of sizes past) c ≡ of number (Done m.code)
    pub each_failed : (number : ℕ) (r : Request) (t : Transfer) (m : Message)
        → (own_of sizes past).running ≡ Some (Calling number r t) → hears c ≡ Some m → Fails (Calling number r t) m.code
        → reports (own_of sizes past) c ≡ of number (Failed m.code)

  abbrev pub ReportsCodes : List Call → Type 0
  ReportsCodes trace = Always ReportsCode trace

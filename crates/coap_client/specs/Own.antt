-- What a client keeps: its operations and its observations (RFC 7252, section 5.2; RFC 7641, section 3; RFC 7959,
-- section 2).
use Rattle.std.specs.Prelude.{ℕ, Option, Some, None, List, []}
use Rattle.coap_block.specs.Sizes.{Sizes}
use Rattle.coap_block.specs.FetchStep.{FetchState}
use Rattle.coap_block.specs.UploadStep.{UploadState}
use Rattle.coap_observe.specs.Newer.{Watched}
use Rattle.coap_client.specs.Trace.{Request, Reported, Requested}

-- how far a call is: the Block2 transfer of a GET; the Block1 transfer of a POST or a PUT, which has the body; a DELETE
-- has none
pub data Transfer : Type 0 where
  Fetches : (fetch : FetchState) → Transfer
  Uploads : (upload : UploadState) → Transfer
  Single : Transfer

-- An operation, by its role: a call, whose request has no body here; the registration of an observation; the fetch of
-- the rest of an observation's representation; the cancel of an observation; a fetch that no longer counts, whose
-- exchange goes on.
pub data Operation : Type 0 where
  Calling : (number : ℕ) (request : Request) (transfer : Transfer) → Operation
  Registering : (number : ℕ) (path : List (List ℕ)) → Operation
  Fetching : (number : ℕ) → Operation
  Cancelling : (number : ℕ) → Operation
  Dropped : Operation

-- the number of its call or observation; a fetch that no longer counts has none
abbrev pub operation_number : Operation → Option ℕ
operation_number (Calling number request transfer) = Some number
operation_number (Registering number path) = Some number
operation_number (Fetching number) = Some number
operation_number (Cancelling number) = Some number
operation_number Dropped = None

-- what is fetched for a notification: its sequence number, and the Block2 transfer that its own part began
pub record Notified : Type 0 where
  pub sequence : ℕ
  pub fetch : FetchState

-- a live observation: its number, path and token, how fresh it is, and what waits to be fetched or is being fetched
pub record Observation : Type 0 where
  pub number : ℕ
  pub path : List (List ℕ)
  pub token : List ℕ
  pub watch : Watched
  pub rest : Option Notified

-- the latest moment; the client's block size and its longest body; how many numbers were given; what waits, and what
-- runs; the live observations, in the order of their numbers; when the last datagram of the running operation was sent;
-- that of the upload that holds back others; the reports that wait to be taken; the request that the last datagram or
-- tick sent
pub record Own : Type 0 where
  pub clock : ℕ
  pub sizes : Sizes
  pub taken : ℕ
  pub queue : List Operation
  pub running : Option Operation
  pub observations : List Observation
  pub sent : ℕ
  pub hold : Option ℕ
  pub reports : List Reported
  pub asked : Option Requested

abbrev pub start : Sizes → Own
start sizes = record {
  clock = 0;
  sizes = sizes;
  taken = 0;
  queue = [];
  running = None;
  observations = [];
  sent = 0;
  hold = None;
  reports = [];
  asked = None;
}

-- a moment counts
abbrev pub clocked : ℕ → Own → Own
clocked now s = record s { clock = now }

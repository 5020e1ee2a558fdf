-- Which calls, observations and cancels a client takes (the bounds are a profile).
use Rattle.std.specs.Prelude.{ℕ, ◌+◌, ◌-◌, ◌==◌, ◌^◌, ◌&&◌, ◌||◌, not, nat_le, nat_lt, Bool, true, false, Option, Some}
use Rattle.std.specs.Prelude.{None, List, [], ◌∷◌, ◌++◌, length, filter, Result, Ok, Err, if◌then◌else◌, option_to_list}
use Rattle.coap_types.specs.CoapOption.{CoapOption, option}
use Rattle.coap_types.specs.declared.request.Method.{Method}
use Rattle.coap_types.specs.declared.request.Method.TheVariants.{Get, Post, Put, Delete}
use Rattle.coap_codec.specs.Spelling.{options_bytes}
use Rattle.coap_block.specs.Sizes.{Sizes}
use Rattle.coap_block.specs.FetchStep as F
use Rattle.coap_block.specs.UploadStep.{upload_start}
use Rattle.coap_types.specs.declared.option_number.TheConstants.{BLOCK2 as block2, BLOCK1 as block1}
use Rattle.coap_client.specs.declared.limits.TheConstants.{MAX_WAITING_CALLS as max_waiting}
use Rattle.coap_client.specs.declared.limits.TheConstants.{MAX_OBSERVATIONS as max_observations}
use Rattle.coap_client.specs.declared.limits.TheConstants.{MAX_OPTIONS_LEN as max_options}
use Rattle.coap_client.specs.declared.refusals.CallRefusal.{CallRefusal}
use Rattle.coap_client.specs.declared.refusals.CallRefusal.TheVariants.{QueueFull, BodyTooLarge, BadPath, WatchesFull}
use Rattle.coap_client.specs.declared.refusals.CallRefusal.TheVariants.{CallsSpent}
use Rattle.coap_client.specs.declared.refusals.CancelRefusal.{CancelRefusal}
use Rattle.coap_client.specs.declared.refusals.CancelRefusal.TheVariants as cancel
use Rattle.coap_client.specs.Trace.{Request}
use Rattle.coap_client.specs.Own.{Transfer, Fetches, Uploads, Single, Operation, Calling, Registering}
use Rattle.coap_client.specs.Own.{Cancelling, Own}
use Rattle.coap_types.specs.CoapOption.{option}
use Rattle.coap_client.specs.Requests.{path_options, options_of}
use Rattle.coap_client.specs.Observations.{is_live, is_cancelled}

-- the numbers of operations have 64 bits
abbrev pub max_numbers : ℕ
max_numbers = 2 ^ 64 - 1

-- the longest message of an operation carries a Block option of three bytes
abbrev pub are_long : ℕ → List CoapOption → Bool
are_long block options = nat_lt max_options (length
    (options_bytes 0 (options ++ option block (255 ∷ 255 ∷ 255 ∷ []) ∷ [])))

abbrev pub block_option_number : Method → ℕ
block_option_number Get = block2
block_option_number method = block1

abbrev pub is_full : Own → Bool
is_full s = nat_le max_waiting (length s.queue)

abbrev pub is_registration : Operation → Bool
is_registration (Registering number path) = true
is_registration op = false

-- the observations that wait, run or are live
abbrev pub observed : Own → ℕ
observed s = length (filter is_registration (option_to_list s.running ++ s.queue)) + length s.observations

-- the first test that holds decides

abbrev pub taken_by : Own → Result ℕ CallRefusal
taken_by s = if s.taken == max_numbers then Err CallsSpent else Ok s.taken

abbrev pub call_answer : Own → Request → Result ℕ CallRefusal
call_answer s r =
    if is_full s then Err QueueFull
    else (if nat_lt s.sizes.limit (length r.body) then Err BodyTooLarge
    else (if are_long (block_option_number r.method) (options_of r) then Err BadPath
    else taken_by s))

abbrev pub observe_answer : Own → List (List ℕ) → Result ℕ CallRefusal
observe_answer s path =
    if is_full s then Err QueueFull
    else (if are_long block2 (path_options path) then Err BadPath
    else (if nat_le max_observations (observed s) then Err WatchesFull
    else taken_by s))

-- it has to be live, and not yet to be cancelled
abbrev pub cancel_answer : Own → ℕ → Option CancelRefusal
cancel_answer s number =
    if not (is_live number s) || is_cancelled number s then Some cancel.Unknown
    else (if is_full s then Some cancel.QueueFull
    else None)

abbrev pub may_forget : Own → ℕ → Bool
may_forget s number = is_live number s && not (is_cancelled number s)

-- what is taken waits, behind what waits already

abbrev pub transfer_of : Sizes → Request → Method → Transfer
transfer_of sizes r Get = Fetches (F.start sizes 0)
transfer_of sizes r Post = Uploads (upload_start r.body sizes.szx)
transfer_of sizes r Put = Uploads (upload_start r.body sizes.szx)
transfer_of sizes r Delete = Single

abbrev pub calling : Sizes → ℕ → Request → Operation
calling sizes number r = Calling number (record r { body = [] }) (transfer_of sizes r r.method)

abbrev pub numbered : (ℕ → Operation) → Result ℕ CallRefusal → Own → Own
numbered op (Ok number) s = record s { taken = s.taken + 1; queue = s.queue ++ op number ∷ [] }
numbered op (Err why) s = s

abbrev pub cancelling : ℕ → Option CancelRefusal → Own → Own
cancelling number None s = record s { queue = s.queue ++ Cancelling number ∷ [] }
cancelling number (Some why) s = s

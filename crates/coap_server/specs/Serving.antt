-- A request is served by the store: its response, and what it leaves (RFC 7252, section 5.8; RFC 7641, section 4.1).
use Rattle.std.specs.Prelude.{◌≡◌, ℕ, ◌==◌, Bool, ◌||◌, List, [], ◌∷◌, if◌then◌else◌}
use Rattle.coap_observe.specs.Observers.{Observer}
use Rattle.coap_resource.specs.Content.{Content}
use Rattle.coap_resource.specs.Serves.{Question, Reply}
use Rattle.coap_resource.specs.Serves as R
use Rattle.coap_exchange.specs.declared.answerer.Asked.{Asked}
use Rattle.coap_exchange.specs.AnswererTrace as E
use Rattle.coap_exchange.specs.SuccessCodes.{created, deleted, changed}
use Rattle.coap_server.specs.Trace.{Applied, Handling, Serves}
use Rattle.coap_server.specs.Responses.{response_with}
use Rattle.coap_server.specs.Uploads.{last_block}
use Rattle.coap_server.specs.Observers.{registers, observers_with, marked_if, sequence_if}

pub record IsServed (old : Content) (at : ℕ) (q : Question) (h : Handling) : Type 0 where
  pub reply : Reply
  pub left : Content
  pub serves : R.Serves old at q reply left
  pub is : h ≡ Serves q reply left

-- The response has Observe where the request is registered, and Block1 where its body came in blocks.
abbrev pub response_to : Content → List Observer → Asked → Question → Reply → E.Response
response_to old os a q reply = response_with reply (sequence_if (registers a q reply os) (old.holds q.path))
    (last_block q)

abbrev pub observers_served : ℕ → Content → Asked → Question → Reply → Content → List Observer → List Observer
observers_served at old a q reply left os = marked_if at q.path old left (observers_with at a q reply os)

-- A request is applied where its response says so: 2.01, 2.02 or 2.04.
abbrev pub is_applied : ℕ → Bool
is_applied code = (code == created) || ((code == deleted) || (code == changed))

abbrev pub version_made : Content → Content → ℕ
version_made old left = if left.tally.version == old.tally.version then 0 else left.tally.version

abbrev pub applied_by : Content → Asked → Question → Reply → Content → List Applied
applied_by old a q reply left =
    if is_applied reply.code then record {
      from = a.from;
      token = a.token;
      path = q.path;
      method = q.method;
      version = version_made old left;
    } ∷ []
    else []

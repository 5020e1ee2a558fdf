use Rattle.std.proofs.Common.{◌≡◌, ◌-◌, ℕ, length}
use Rattle.coap_server.specs.Deferring.{question_of, without_waiting}
use Rattle.coap_server.specs.Object.Shown.{waiting_as}
use Rattle.coap_server.proofs.Calls.WaitingLists.{question_behind, left_behind}
use Rattle.coap_server.proofs.server.separate_response.ready_place.Given as goal
use Rattle.std.proofs.Common.{map}

abbrev pub invariant-requests : goal.invariant-requests
invariant-requests g l = (szx : ℕ)
    → (question_behind (waiting_as szx) l.at.0 l.asked l.i l.waiting
    ≡ question_of l.at.0 l.asked (map (waiting_as szx) l.waiting))
    × (left_behind (waiting_as szx) l.at.0 l.asked l.i l.waiting
    ≡ without_waiting l.at.0 l.asked (map (waiting_as szx) l.waiting))

abbrev pub decreases-requests : goal.decreases-requests
decreases-requests g l = length l.waiting - l.i

-- What a datagram would be, by the row of the table of arrivals that it would take (RFC 7252, sections 4.2, 4.3 and
-- 4.5).
use Rattle.std.specs.Prelude.{ℕ, max, false, true, List}
use Rattle.coap_types.specs.Roles.{role_of}
use Rattle.coap_types.specs.declared.endpoint.Endpoint.{Endpoint}
use Rattle.coap_layer.specs.Arrivals.{Arrival, Unreadable, Faulted, Whole, arrival_at}
use Rattle.coap_layer.specs.Machine.State.{State, answer_to, is_free, is_outstanding, is_remembered}
use Rattle.coap_layer.specs.Machine.Table.{up_of}
use Rattle.coap_layer.specs.Trace.{Disposition, Dropped, Replayed, Rejected, Request, Response, Acked, Reset}
use Rattle.coap_layer.specs.Trace.{Unmatched}
use Rattle.coap_layer.specs.declared.would.Would.{Would}
use Rattle.coap_layer.specs.declared.would.Would.TheVariants as would

-- what becomes of an arrival where a place to remember it is left
abbrev pub placed_to : State → ℕ → Endpoint → Arrival → Disposition
placed_to s at from (Whole m) =
    up_of m.kind (role_of m.code) m (is_outstanding from m.id s.open_cons) (is_remembered at from m.id s.arrived) false
    (is_free at s.upcoming s.last_used)
placed_to s at from Unreadable = answer_to s at from Unreadable
placed_to s at from (Faulted kind id) = answer_to s at from (Faulted kind id)

-- what is dropped: for want of a place alone, or because it says nothing
abbrev pub dropped_by : (could : Disposition) → Would
dropped_by (Request m kept) = would.NoPlace
dropped_by (Response m) = would.NoPlace
dropped_by Dropped = would.Ignored
dropped_by Replayed = would.Ignored
dropped_by Rejected = would.Ignored
dropped_by (Acked id) = would.Ignored
dropped_by (Reset id) = would.Ignored
dropped_by (Unmatched id) = would.Ignored

-- by what would become of it with a place, and by what becomes of it
abbrev pub would_by : (could : Disposition) → Disposition → Would
would_by could Dropped = dropped_by could
would_by could Replayed = would.Repeated
would_by could Rejected = would.Rejected
would_by could (Request m true) = would.Taken
would_by could (Request m false) = would.NoId
would_by could (Response m) = would.Taken
would_by could (Acked id) = would.Acknowledges
would_by could (Reset id) = would.Resets
would_by could (Unmatched id) = would.Resets

abbrev pub would_at : State → ℕ → Endpoint → Arrival → Would
would_at s at from what = would_by (placed_to s at from what) (answer_to s at from what)

-- .. of these bytes from there, at a moment
abbrev pub would_of : State → ℕ → Endpoint → List ℕ → Would
would_of s now from bytes = would_at s (max s.clock now) from (arrival_at bytes)

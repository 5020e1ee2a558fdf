-- What the CONs that a layer keeps stand for, and what becomes of them (RFC 7252, section 4.2).
use Rattle.std.specs.Prelude.{ℕ, Option, Some, None, List, ◌&&◌, ◌==◌, if◌then◌else◌, is_some}
use Rattle.std.specs.List.{filter_map}
use Rattle.coap_types.specs.declared.endpoint.Endpoint.{Endpoint}
use Rattle.coap_types.specs.declared.endpoint.Moment.{Moment}
use Rattle.coap_types.specs.SameEndpoint.{same_endpoint}
use Rattle.coap_layer.specs.declared.retransmission.Sending.{Sending}
use Rattle.coap_layer.specs.declared.retransmission.Due.{Due}
use Rattle.coap_layer.specs.declared.retransmission.Due.TheVariants as due
use Rattle.coap_layer.specs.Trace.{Answer, Idle, Copied, Expired}
use Rattle.coap_layer.specs.Words.{Open}

-- one that has ended stands for nothing
abbrev pub open_at : {Z : Type 0} → Sending Z → Option Moment → Option Open
open_at c None = None
open_at c (Some last) =
    Some (record {
      to = c.to;
      id = c.id.0;
      bytes = c.bytes.items;
      timeout = c.timeout;
      first = c.first.0;
      last = last.0;
    })

abbrev pub open_now : {Z : Type 0} → List (Sending Z) → List Open
open_now cs = filter_map (λ c. open_at c c.last) cs

-- the one to this place with this id has ended
abbrev pub ended : {Z : Type 0} → Endpoint → ℕ → Sending Z → Sending Z
ended to id c = record c { last = if same_endpoint c.to to && (c.id.0 == id) then None else c.last }

-- .. was sent again
abbrev pub marked : {Z : Type 0} → Endpoint → ℕ → Moment → Sending Z → Sending Z
marked to id at c =
    record c { last = if is_some c.last && (same_endpoint c.to to && (c.id.0 == id)) then Some at else c.last }

abbrev pub answer_for : Due → Answer
answer_for due.Nothing = Idle
answer_for (due.Copy to id) = Copied to id.0
answer_for (due.Failure to id) = Expired to id.0

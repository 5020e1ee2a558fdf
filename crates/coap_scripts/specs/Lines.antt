-- What a line of a record says, as it is told and drawn.
use Rattle.std.specs.Prelude.{ℕ, Bool, false, true, ◌==◌, ◌&&◌, nat_eq, is_some, List, Option, Some, None, Result}
use Rattle.std.specs.Prelude.{Ok, Err}
use Rattle.std.specs.Cmp.Lexicographic.{pointwise}
use Rattle.std.specs.Int.{w64, to_be_bytes}
use Rattle.coap_client.specs.RefusalNumbers.{call_refusal_number, cancel_refusal_number}
use Rattle.coap_client.specs.declared.client.report.Report.{Report}
use Rattle.coap_client.specs.declared.client.report.Report.TheVariants as report
use Rattle.coap_resource.specs.Content.{refusal_number}
use Rattle.coap_types.specs.declared.endpoint.Moment.{Moment}
use Rattle.coap_run.specs.Run.Log as log
use Rattle.coap_run.specs.declared.running.event.Side.{Side}
use Rattle.coap_run.specs.declared.running.event.Side.TheVariants.{Client, Server}
use Rattle.coap_run.specs.declared.running.event.What.{What}
use Rattle.coap_run.specs.declared.running.event.What.TheVariants as what
use Rattle.coap_run.specs.declared.running.record.Change.{Change}
use Rattle.coap_run.specs.declared.running.record.Kind.{Kind}
use Rattle.coap_run.specs.declared.running.record.Kind.TheVariants as kind
use Rattle.coap_scripts.specs.declared.chart.age.Holding.{Holding}
use Rattle.coap_scripts.specs.declared.chart.age.Holding.TheVariants.{NotYet, Now, Until}

-- an event begins
abbrev pub is_begin : log.Line → Bool
is_begin (log.Begins at) = true
is_begin other = false

-- a call or an observation is taken under this number
abbrev pub is_taken : {E : Type 0} → ℕ → Result ℕ E → Bool
is_taken number (Ok taken) = taken == number
is_taken number (Err refusal) = false

abbrev pub takes : ℕ → log.Line → Bool
takes number (log.Takes answer) = is_taken number answer
takes number other = false

-- the number of a refusal, where there is one
abbrev pub number_if : {X E : Type 0} → (E → ℕ) → Result X E → Option ℕ
number_if number (Ok x) = None
number_if number (Err refusal) = Some (number refusal)

-- behind a change, which makes what is looked for or something else
abbrev pub holding_after : Bool → Moment → Holding → Holding
holding_after true at before = Now
holding_after false at Now = Until at
holding_after false at NotYet = NotYet
holding_after false at (Until replaced) = Until replaced

module _ {A : Type 0} where
  -- the number of the refusal that a line tells
  abbrev pub refused : Kind A → Option ℕ
  refused (kind.Takes answer) = number_if call_refusal_number answer
  refused (kind.Cancels answer) = number_if cancel_refusal_number answer
  refused (kind.Puts answer) = number_if refusal_number answer
  refused (kind.Removes answer) = number_if refusal_number answer
  refused other = None

  -- the end beside whose line it is drawn, where it has a row; a refusal for want of memory, at that of its event
  abbrev pub side_beside : Side → Kind A → Option Side
  side_beside side (kind.Takes answer) = Some Client
  side_beside side (kind.Cancels answer) = Some Client
  side_beside side (kind.Forgets answer) = Some Client
  side_beside side (kind.Reports id report) = Some Client
  side_beside side (kind.Puts answer) = Some Server
  side_beside side (kind.Removes answer) = Some Server
  side_beside side (kind.Applies request) = Some Server
  side_beside side kind.Refused = Some side
  side_beside side other = None

  -- the path that a call or an observation asks for
  abbrev pub asked_path : What A → Option (List (List ℕ))
  asked_path (what.Call request) = Some request.path
  asked_path (what.Observe path) = Some path
  asked_path other = None

  -- the entity-tag of the representation that a report shows
  abbrev pub shown_tag : Report A → Option (List ℕ)
  shown_tag (report.Body fetched) = fetched.tag
  shown_tag (report.Value number fetched) = fetched.tag
  shown_tag (report.Valid tag) = tag
  shown_tag other = None

  -- the change makes the representation of this entity-tag (RFC 7252, section 5.10.6)
  abbrev pub makes : List ℕ → Change A → Bool
  makes tag change = is_some change.held && pointwise nat_eq tag (to_be_bytes w64 change.version)

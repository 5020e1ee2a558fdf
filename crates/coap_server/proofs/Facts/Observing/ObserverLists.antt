-- What a Reset of a NON and a notification leave of the observers, by cases.
use Rattle.std.proofs.Common.{ℕ, Bool, true, false, Option, Some, None, List}
use Rattle.coap_observe.specs.Observers.{Observer, noted_to, rejected, removed, sent_to, without}
use Rattle.coap_resource.specs.Content.{Held}
use Rattle.coap_exchange.specs.AnswererTrace.{Sending}
use Rattle.coap_server.specs.Notifying.{notified}
use Rattle.coap_server.specs.Observers.{unless_rejected}
use Rattle.coap_types.specs.declared.endpoint.Endpoint.{Endpoint}

module _ (P : List Observer → Type 0) where
  -- all are left, or one registration is removed
  pub rejected_left : (at : ℕ) (r : Option Sending) (os : List Observer) → P os
      → ((to : Endpoint) (token : List ℕ) → P (removed to token os)) → P (unless_rejected at r os)
  rejected_left at None os all less = all
  rejected_left at (Some x) os all less = by (rejected at x.to x.id os)
    where
      by : (o : Option Observer) → P (without o os)
      by None = all
      by (Some o) = less o.to o.token

  -- the path holds nothing; a NON; a CON
  pub notified_left : (plain : Bool) (at id : ℕ) (held : Option Held) (o : Observer) (os : List Observer)
      → P (removed o.to o.token os) → P (sent_to at o.to o.token false (noted_to at o.to o.token id os))
      → P (sent_to at o.to o.token true os) → P (notified plain at id held o os)
  notified_left plain at id None o os gone non con = gone
  notified_left true at id (Some held) o os gone non con = non
  notified_left false at id (Some held) o os gone non con = con

-- What becomes of a request that arrives, and what is done as time passes (RFC 7252, sections 4.8 and 5.2; RFC 7641,
-- section 4.5; RFC 7959, section 2.9; the order is a profile).
use Rattle.std.specs.Prelude.{◌≡◌, ℕ, max, Bool, true, false, Option, Some, None, List}
use Rattle.coap_types.specs.declared.endpoint.Endpoint.{Endpoint}
use Rattle.coap_codec.specs.Message.{Message}
use Rattle.coap_layer.specs.Trace as L
use Rattle.coap_types.specs.declared.block.Block.{Block}
use Rattle.coap_block.specs.declared.block_verdict.BlockVerdict.{BlockVerdict}
use Rattle.coap_block.specs.declared.block_verdict.BlockVerdict.TheVariants.{Refuse, Join, Done}
use Rattle.coap_block.specs.AssemblyAnswer.{refusal_code}
use Rattle.coap_resource.specs.Serves.{Question}
use Rattle.coap_exchange.specs.declared.answerer.Asked.{Asked}
use Rattle.coap_exchange.specs.declared.answerer.Due.{Due}
use Rattle.coap_exchange.specs.declared.answerer.Due.TheVariants as due
use Rattle.coap_exchange.specs.AnswererSteps as P
use Rattle.coap_exchange.specs.AnswererSteps.{unmatched_by}
use Rattle.coap_exchange.specs.AnswererTrace as E
use Rattle.coap_exchange.specs.AnswererTrace.{Sending}
use Rattle.coap_server.specs.Trace.{Own, Handling, Silent, Replies}
use Rattle.coap_server.specs.Responses.{bare}
use Rattle.coap_server.specs.Checks.{Verdict, Ignored, Refused, Asks, Uploads, verdict_on}
use Rattle.coap_server.specs.Uploads.{ruling_of, whole, continuing}
use Rattle.coap_server.specs.Observers.{unless_ended, unless_rejected}
use Rattle.coap_server.specs.Deferring.{HandlesWhole, AnswersWaiting, question_of}
use Rattle.coap_server.specs.Notifying.{marked, behind, NotifiesNext}

-- what an input first asks of the exchanges: a datagram came, or time passes
abbrev pub incoming : Own → ℕ → Endpoint → List ℕ → L.Answer → Option (Asked × Message) → E.Call
incoming s now from bytes up came = E.Incoming (max s.clock now) from bytes up came

abbrev pub ticking : Own → ℕ → L.Answer → Bool → Due → E.Call
ticking s now below room d = E.Ticks (max s.clock now) below room d

-- the Reset of what isn't outstanding that arrives
abbrev pub rejected_in : E.Call → Option Sending
rejected_in (E.Incoming now from bytes up answer) = unmatched_by from up
rejected_in _ = None

-- The moment counts, and where what carried Observe is told to have ended, by a Reset or because it was given up, or
-- the last NON of an observer is rejected by a Reset, the observer is removed.
abbrev pub heard : Own → ℕ → E.Call → Own
heard s now c =
    record s {
      clock = max s.clock now;
      exchanges = P.after s.exchanges c;
      observers = unless_rejected (max s.clock now) (rejected_in c)
          (unless_ended (P.after s.exchanges c).ended s.observers);
    }

-- a request: by the checks, and then by the block that it uploads

abbrev pub HandlesBlock : BlockVerdict → Own → Asked → Question → Block → Handling → Type 0
HandlesBlock (Refuse why) s a q b h = h ≡ Replies (bare (refusal_code why).0)
HandlesBlock (Join szx) s a q b h = h ≡ Replies (continuing szx b)
HandlesBlock Done s a q b h = HandlesWhole s a (whole s.uploads s.clock a q b) h

abbrev pub Handles : Own → Asked → Verdict → Handling → Type 0
Handles s a Ignored h = h ≡ Silent
Handles s a (Refused code) h = h ≡ Replies (bare code)
Handles s a (Asks q) h = HandlesWhole s a q h
Handles s a (Uploads q b) h = HandlesBlock (ruling_of s.uploads s.clock a q b) s a q b h

abbrev pub HandlesCame : Own → Option (Asked × Message) → Handling → Type 0
HandlesCame s None h = h ≡ Silent
HandlesCame s (Some p) h = Handles s p.0 (verdict_on s.szx p.1) h

-- the first that is due: an expiry, a retransmission, the request that is ready, a notification

abbrev pub HandlesDue : Own → Due → ℕ → Handling → Type 0
HandlesDue s due.Idle passed h = NotifiesNext (behind passed (marked s.observers)) s.store h
HandlesDue s (due.Ready a) passed h = AnswersWaiting (question_of s.clock a s.waiting) s.store s.clock h
HandlesDue s _ passed h = h ≡ Silent

-- whether something was done
abbrev pub is_done : Due → Handling → Bool
is_done due.Idle Silent = false
is_done _ _ = true

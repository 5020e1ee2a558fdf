-- A separate response or a notification that a Reset rejects, or that is given up, is said to have ended
-- (RFC 7252, sections 4.2 and 5.2.2; RFC 7641, sections 3.6 and 4.5).
use Rattle.std.specs.Prelude.{◌≡◌, ◌≢◌, Option, Some, None, List, [], ◌∷◌, IfSome}
use Rattle.coap_types.specs.Past.{Since, Always}
use Rattle.coap_types.specs.declared.endpoint.Endpoint.{Endpoint}
use Rattle.coap_layer.specs.Trace as L
use Rattle.coap_exchange.specs.declared.answerer.Ended.{Ended}
use Rattle.coap_exchange.specs.AnswererTrace.{Call, Sending, Incoming, Ticks, Responds, Notifies}
use Rattle.coap_exchange.specs.AnswererSteps.{unmatched_by}
use Rattle.coap_exchange.specs.AnswererFollows.{hands, sends, end_told}
use Rattle.coap_exchange.specs.AnswererLaw.{own_of}
use Rattle.coap_exchange.specs.AnswererSends.{begins}

abbrev pub reset_from : Endpoint → L.Answer → Option Sending
reset_from from (L.Becomes (L.Reset id)) = Some (record { to = from; id = id })
reset_from from _ = None

abbrev pub failed_in : L.Answer → Option Sending
failed_in (L.Expired to id) = Some (record { to = to; id = id })
failed_in _ = None

-- the CON that a Reset rejects, or that the layer gives up
abbrev pub fails : Call → Option Sending
fails (Incoming now from bytes up answer) = reset_from from up
fails (Ticks now below room answer) = failed_in below
fails _ = None

-- the CON that a separate response or a notification is sent in
abbrev pub sends_in : Call → Option Sending
sends_in (Responds now a r word id) = Some (record { to = a.from; id = id })
sends_in (Notifies now to token r word id) = Some (record { to = to; id = id })
sends_in _ = None

pub record SentIn (con : Sending) (x : Ended) (c : Call) : Type 0 where
  pub there : sends_in c ≡ Some con
  pub sent : sends c ≡ Some x

-- what is said is what was sent in this CON, the last one to its endpoint
pub record Tells (past : List Call) (c : Call) (con : Sending) : Type 0 where
  pub ended : Ended
  pub said : end_told past c ≡ Some ended
  pub last : Since (SentIn con ended) (λ b. begins b ≢ Some con.to) past

-- It is said at once; and nothing is said of an acknowledgement, or otherwise.
abbrev pub TellsIf : List Call → Call → Option Sending → Type 0
TellsIf past c None = end_told past c ≡ None
TellsIf past c (Some con) = Tells past c con

-- What hands up a request ends none.
abbrev pub HandsOrEnds : List Call → Type 0
HandsOrEnds trace =
    Always (λ past c. IfSome (hands c) (λ asked. (end_told past c ≡ None) × ((own_of (c ∷ past)).ended ≡ None))) trace

abbrev pub EndsTold : List Call → Type 0
EndsTold trace = Always (λ past c. TellsIf past c (fails c)) trace

-- the Reset that the last datagram was, of what isn't outstanding
abbrev pub rejected_last : List Call → Option Sending
rejected_last [] = None
rejected_last (Incoming now from bytes up answer ∷ past) = unmatched_by from up
rejected_last (c ∷ past) = rejected_last past

-- That is what is told of.
abbrev pub UnmatchedTold : List Call → Type 0
UnmatchedTold trace = (own_of trace).unmatched ≡ rejected_last trace

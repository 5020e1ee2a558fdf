-- Which request a response belongs to, at a client, and how it is answered (RFC 7252, sections 4.2, 4.3, 5.2 and 5.3.2;
-- RFC 7641, section 3.2). The order of the rows, and a Reset to a NON, are a profile.
use Rattle.std.specs.Prelude.{Bool, true, false, List, [], ◌∷◌, ◌&&◌, ◌||◌, not, if◌then◌else◌}
use Rattle.coap_types.specs.declared.message.Kind.{Kind}
use Rattle.coap_types.specs.declared.message.Kind.TheVariants.{Con, Non, Ack, Rst}
use Rattle.coap_exchange.specs.declared.matching.Known.{Known}
use Rattle.coap_exchange.specs.declared.matching.Verdict.{Verdict}
use Rattle.coap_exchange.specs.declared.matching.Verdict.TheVariants.{Ignore, Reject, Acknowledge, AnswerCon, Answer}
use Rattle.coap_exchange.specs.declared.matching.Verdict.TheVariants.{NoticeCon, Notice}

abbrev pub is_ack : Kind → Bool
is_ack Ack = true
is_ack _ = false

-- a row of the table: where this holds, what becomes of a CON, a NON and an ACK
pub record Row : Type 0 where
  pub holds : Bool
  pub con : Verdict
  pub non : Verdict
  pub ack : Verdict

abbrev pub row : Bool → (con non ack : Verdict) → Row
row holds con non ack = record { holds = holds; con = con; non = non; ack = ack }

-- The table. A CON or a NON meets no row that asks for an ACK, and an ACK none that asks for a CON or a NON, nor the
-- last.
abbrev pub table : Kind → Known → List Row
table kind k =
    -- a response to no request of this client's (section 5.3.2)
    row (not k.from_server || not (k.of_exchange || k.kept)) Reject Reject Ignore ∷
    -- a piggybacked response that doesn't match in Message ID and token (section 5.3.2)
    row (is_ack kind && not (k.of_exchange && k.same_id)) Ignore Ignore Ignore ∷
    -- a critical option that is not recognised (section 5.4.1)
    row k.bad_option Reject Ignore Ignore ∷
    -- a notification that was under way when the observation was cancelled (RFC 7641, section 3.6)
    row (not (is_ack kind) && k.cancelled) Acknowledge Ignore Ignore ∷
    -- the response to the request of the exchange
    row k.of_exchange AnswerCon Answer Answer ∷
    -- a notification
    row k.kept NoticeCon Notice Ignore ∷
    []

abbrev pub in_row : Kind → Row → Verdict
in_row Con r = r.con
in_row Non r = r.non
in_row Ack r = r.ack
in_row Rst r = Ignore

-- the first row that holds decides
abbrev pub first_of : Kind → List Row → Verdict
first_of kind [] = Ignore
first_of kind (r ∷ rows) = if r.holds then in_row kind r else first_of kind rows

abbrev pub judged : Kind → Known → Verdict
judged kind k = first_of kind (table kind k)

-- a request at a client is rejected, a NON by silence (section 4.3)
abbrev pub request_judged : Kind → Verdict
request_judged Con = Reject
request_judged _ = Ignore

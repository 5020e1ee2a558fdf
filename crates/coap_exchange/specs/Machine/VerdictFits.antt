-- What the verdicts of the client's table rest on: the exchange that runs, the kept tokens, and where a message comes
-- from.
use Rattle.std.specs.Prelude.{◌≡◌, ◌≢◌, ℕ, true, false, Some}
use Rattle.coap_types.specs.declared.endpoint.Endpoint.{Endpoint}
use Rattle.coap_types.specs.declared.message.Kind.{Kind}
use Rattle.coap_types.specs.declared.message.Kind.TheVariants.{Con, Non, Ack}
use Rattle.coap_types.specs.SameEndpoint.{same_endpoint}
use Rattle.coap_codec.specs.Message.{Message}
use Rattle.coap_layer.specs.Trace as L
use Rattle.coap_layer.specs.Words as words
use Rattle.coap_exchange.specs.declared.matching.Known.{Known}
use Rattle.coap_exchange.specs.declared.matching.Verdict.{Verdict}
use Rattle.coap_exchange.specs.declared.matching.Verdict.TheVariants.{Ignore, Reject, Acknowledge, AnswerCon, Answer}
use Rattle.coap_exchange.specs.declared.matching.Verdict.TheVariants.{NoticeCon, Notice, Await, EndByReset}
use Rattle.coap_exchange.specs.declared.asker.Turn.{Turn}
use Rattle.coap_exchange.specs.declared.asker.Turn.TheVariants as turn
use Rattle.coap_exchange.specs.declared.asker.Event.TheVariants as event
use Rattle.coap_exchange.specs.declared.asker.Exchange.{Exchange}
use Rattle.coap_exchange.specs.AskerTrace.{Own}
use Rattle.coap_exchange.specs.AskerArrivals.{has_waited}
use Rattle.coap_exchange.specs.Tokens.{is_kept}

-- what a response has that is taken
pub record Taken (kind : Kind) (k : Known) : Type 0 where
  pub there : k.from_server ≡ true
  pub understood : k.bad_option ≡ false
  pub matches : kind ≡ Ack → (k.of_exchange ≡ true) × (k.same_id ≡ true)
  pub current : kind ≢ Ack → k.cancelled ≡ false

-- what the table's verdict on a response rests on
abbrev pub Judged : Kind → Known → Verdict → Type 0
Judged kind k AnswerCon = (kind ≡ Con) × (k.of_exchange ≡ true) × Taken kind k
Judged kind k Answer = (kind ≢ Con) × (k.of_exchange ≡ true) × Taken kind k
Judged kind k NoticeCon = (kind ≡ Con) × (k.kept ≡ true) × Taken kind k
Judged kind k Notice = (kind ≡ Non) × (k.kept ≡ true) × Taken kind k
Judged kind k Reject = words.is_kept kind ≡ true
Judged kind k Acknowledge = kind ≡ Con
Judged kind k Ignore = Unit {0}
Judged kind k Await = ⊥
Judged kind k EndByReset = ⊥

-- what was handed up, and to which exchange it goes

pub record Answers (s : Own) (from : Endpoint) (up : L.Answer) : Type 0 where
  pub message : Message
  pub is : up ≡ L.Becomes (L.Response message)
  pub there : same_endpoint from s.server ≡ true
  pub exchange : Exchange
  pub runs : s.running ≡ Some exchange
  pub token : message.token ≡ exchange.token

pub record Notices (s : Own) (from : Endpoint) (up : L.Answer) : Type 0 where
  pub message : Message
  pub is : up ≡ L.Becomes (L.Response message)
  pub there : same_endpoint from s.server ≡ true
  pub kept : is_kept message.token s.kept ≡ true

pub record OfRequest (s : Own) (from : Endpoint) (id : ℕ) : Type 0 where
  pub there : same_endpoint from s.server ≡ true
  pub exchange : Exchange
  pub runs : s.running ≡ Some exchange
  pub id_is : (id ≡ exchange.id.0)

abbrev pub Fits : Own → Endpoint → L.Answer → Verdict → Type 0
Fits s from up AnswerCon = Answers s from up
Fits s from up Answer = Answers s from up
Fits s from up NoticeCon = Notices s from up
Fits s from up Notice = Notices s from up
Fits s from up Await = (id : ℕ) × (up ≡ L.Becomes (L.Acked id)) × OfRequest s from id
Fits s from up EndByReset = (id : ℕ) × (up ≡ L.Becomes (L.Reset id)) × OfRequest s from id
Fits s from up Ignore = Unit {0}
Fits s from up Reject = Unit {0}
Fits s from up Acknowledge = Unit {0}

-- what a turn rests on
abbrev pub TurnFits : Own → ℕ → L.Answer → Turn → Type 0
TurnFits s at below turn.Idle = Unit {0}
TurnFits s at below turn.Copied = (to : Endpoint) × (id : ℕ) × (below ≡ L.Copied to id)
TurnFits s at below (turn.End event.Timeout) = (to : Endpoint) × (id : ℕ) × (below ≡ L.Expired to id)
    × OfRequest s to id
TurnFits s at below (turn.End event.NoResponse) = (x : Exchange) × (s.running ≡ Some x) × (has_waited at x.acked ≡ true)
TurnFits s at below (turn.End event.Reset) = ⊥
TurnFits s at below (turn.End (event.Answer m)) = ⊥
TurnFits s at below (turn.End (event.Notice m)) = ⊥

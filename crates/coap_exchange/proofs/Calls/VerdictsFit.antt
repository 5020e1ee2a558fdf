-- What the verdicts of the client's table rest on.
use Rattle.std.proofs.Common.{◌≡◌, ◌≢◌, ℕ, Bool, true, false, Option, Some, None, List, refl, cond}
use Rattle.std.specs.Cmp.{unsigned_Decides}
use Rattle.coap_types.specs.declared.endpoint.Endpoint.{Endpoint}
use Rattle.coap_types.specs.declared.message.Kind.{Kind}
use Rattle.coap_types.specs.declared.message.Kind.TheVariants.{Con, Non, Ack, Rst}
use Rattle.coap_types.specs.SameEndpoint.{same_endpoint}
use Rattle.coap_codec.specs.Message.{Message}
use Rattle.coap_layer.specs.Trace as L
use Rattle.coap_exchange.specs.declared.matching.Known.{Known}
use Rattle.coap_exchange.specs.declared.matching.Verdict.{Verdict}
use Rattle.coap_exchange.specs.declared.matching.Verdict.TheVariants.{Ignore, AnswerCon, Answer}
use Rattle.coap_exchange.specs.declared.matching.Verdict.TheVariants.{NoticeCon, Notice, Await, EndByReset}
use Rattle.coap_exchange.specs.declared.asker.Turn.TheVariants as turn
use Rattle.coap_exchange.specs.declared.asker.Event.TheVariants as event
use Rattle.coap_exchange.specs.declared.asker.Exchange.{Exchange}
use Rattle.coap_exchange.specs.AskerTrace.{Own}
use Rattle.coap_exchange.specs.AskerArrivals.{has_token, has_id, known_of, is_of_request, verdict_on, has_waited}
use Rattle.coap_exchange.specs.AskerArrivals.{acked_in, turn_of}
use Rattle.coap_exchange.specs.Matching.{judged, request_judged}
use Rattle.coap_exchange.proofs.Facts.SameToken.{same_token_is}
use Rattle.coap_exchange.specs.Machine.VerdictFits.{Answers, OfRequest, Fits, Judged, Taken, TurnFits}
use Rattle.std.proofs.lemmas.Bool.{and_parts as both}

-- each verdict of the table, by type

abbrev known : (f o i p b c : Bool) → Known
known f o i p b c = record { from_server = f; of_exchange = o; same_id = i; kept = p; bad_option = b; cancelled = c }

separate : (kind : Kind) (o i p : Bool) → kind ≢ Ack → Taken kind (known true o i p false false)
separate kind o i p other =
    record { there = refl; understood = refl; matches = λ e. absurd (other e); current = λ e. refl }

of_con : (f o i p b c : Bool) → Judged Con (known f o i p b c) (judged Con (known f o i p b c))
of_con true false i true false false = (refl, refl, separate Con false i true (λ e. cc e))
of_con true true i p false false = (refl, refl, separate Con true i p (λ e. cc e))
of_con f o i p b c = refl

of_non : (f o i p b c : Bool) → Judged Non (known f o i p b c) (judged Non (known f o i p b c))
of_non true false i true false false = (refl, refl, separate Non false i true (λ e. cc e))
of_non true true i p false false = ((λ e. cc e), refl, separate Non true i p (λ e. cc e))
of_non true false i false b c = refl
of_non false o i p b c = refl
of_non f o i p b c = tt

of_ack : (f o i p b c : Bool) → Judged Ack (known f o i p b c) (judged Ack (known f o i p b c))
of_ack true true true p false c = (
  (λ e. cc e),
  refl,
  record { there = refl; understood = refl; matches = λ e. (refl, refl); current = λ other. absurd (other refl) },
)
of_ack true false i true b c = tt
of_ack f o i p b c = tt

of_rst : (f o i p b c : Bool) → Judged Rst (known f o i p b c) (judged Rst (known f o i p b c))
of_rst true false i true false false = tt
of_rst true true i p false false = tt
of_rst f o i p b c = tt

pub judged_by : (kind : Kind) (k : Known) → Judged kind k (judged kind k)
judged_by Con k = of_con k.from_server k.of_exchange k.same_id k.kept k.bad_option k.cancelled
judged_by Non k = of_non k.from_server k.of_exchange k.same_id k.kept k.bad_option k.cancelled
judged_by Ack k = of_ack k.from_server k.of_exchange k.same_id k.kept k.bad_option k.cancelled
judged_by Rst k = of_rst k.from_server k.of_exchange k.same_id k.kept k.bad_option k.cancelled

with_token : (running : Option Exchange) (token : List ℕ) → has_token running token ≡ true
    → (x : Exchange) × (running ≡ Some x) × (token ≡ x.token)
with_token None token h = absurd (cc h)
with_token (Some x) token h = (x, refl, same_token_is token x.token h)

with_id : (running : Option Exchange) (id : ℕ) → has_id running id ≡ true
    → (x : Exchange) × (running ≡ Some x) × (id ≡ x.id.0)
with_id None id h = absurd (cc h)
with_id (Some x) id h = (x, refl, (unsigned_Decides id x.id.0).0 h)

pub of_request : (s : Own) (from : Endpoint) (id : ℕ) → is_of_request s from id ≡ true → OfRequest s from id
of_request s from id h =
    let b = both (same_endpoint from s.server) (has_id s.running id) h in
    let w = with_id s.running id b.1 in
    record { there = b.0; exchange = w.0; runs = w.1; id_is = w.2 }

answers_by : (s : Own) (from : Endpoint) (m : Message) → (known_of s from m).from_server ≡ true
    → (known_of s from m).of_exchange ≡ true → Answers s from (L.Becomes (L.Response m))
answers_by s from m f o = let w = with_token s.running m.token o in record
    { message = m; is = refl; there = f; exchange = w.0; runs = w.1; token = w.2 }

response_fits : (s : Own) (from : Endpoint) (m : Message) (v : Verdict) → Judged m.kind (known_of s from m) v
    → Fits s from (L.Becomes (L.Response m)) v
response_fits s from m AnswerCon r = answers_by s from m r.2.there r.1
response_fits s from m Answer r = answers_by s from m r.2.there r.1
response_fits s from m NoticeCon r = record { message = m; is = refl; there = r.2.there; kept = r.1 }
response_fits s from m Notice r = record { message = m; is = refl; there = r.2.there; kept = r.1 }
response_fits s from m Await r = absurd r
response_fits s from m EndByReset r = absurd r
response_fits s from m _ r = tt

request_fits : (s : Own) (from : Endpoint) (up : L.Answer) (kind : Kind) → Fits s from up (request_judged kind)
request_fits s from up Con = tt
request_fits s from up _ = tt

acked_fits : (s : Own) (from : Endpoint) (id : ℕ) (b : Bool) → is_of_request s from id ≡ b
    → Fits s from (L.Becomes (L.Acked id)) (cond b Await Ignore)
acked_fits s from id true h = (id, refl, of_request s from id h)
acked_fits s from id false h = tt

reset_fits : (s : Own) (from : Endpoint) (id : ℕ) (b : Bool) → is_of_request s from id ≡ b
    → Fits s from (L.Becomes (L.Reset id)) (cond b EndByReset Ignore)
reset_fits s from id true h = (id, refl, of_request s from id h)
reset_fits s from id false h = tt

pub verdict_fits : (s : Own) (from : Endpoint) (up : L.Answer) → Fits s from up (verdict_on s from up)
verdict_fits s from (L.Becomes (L.Response m)) = response_fits s from m _ (judged_by m.kind (known_of s from m))
verdict_fits s from (L.Becomes (L.Request m remembered)) = request_fits s from _ m.kind
verdict_fits s from (L.Becomes (L.Acked id)) = acked_fits s from id (is_of_request s from id) refl
verdict_fits s from (L.Becomes (L.Reset id)) = reset_fits s from id (is_of_request s from id) refl
verdict_fits s from _ = tt

expired_fits : (s : Own) (at : ℕ) (to : Endpoint) (id : ℕ) (b : Bool) → is_of_request s to id ≡ b
    → TurnFits s at (L.Expired to id) (cond b (turn.End event.Timeout) turn.Idle)
expired_fits s at to id true h = (to, id, refl, of_request s to id h)
expired_fits s at to id false h = tt

runs_if_waited : (running : Option Exchange) (at : ℕ) → has_waited at (acked_in running) ≡ true
    → (x : Exchange) × (running ≡ Some x) × (has_waited at x.acked ≡ true)
runs_if_waited None at h = absurd (cc h)
runs_if_waited (Some x) at h = (x, refl, h)

waited_fits : (s : Own) (at : ℕ) (b : Bool) → has_waited at (acked_in s.running) ≡ b
    → TurnFits s at L.Idle (cond b (turn.End event.NoResponse) turn.Idle)
waited_fits s at true h = runs_if_waited s.running at h
waited_fits s at false h = tt

pub turn_fits : (s : Own) (at : ℕ) (below : L.Answer) → TurnFits s at below (turn_of s at below)
turn_fits s at (L.Expired to id) = expired_fits s at to id (is_of_request s to id) refl
turn_fits s at (L.Copied to id) = (to, id, refl)
turn_fits s at L.Idle = waited_fits s at (has_waited at (acked_in s.running)) refl
turn_fits s at _ = tt

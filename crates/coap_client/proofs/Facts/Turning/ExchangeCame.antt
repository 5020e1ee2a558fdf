-- What an arrival tells of the exchange that runs.
use Rattle.std.proofs.Common.{◌≡◌, ℕ, Bool, true, false, Option, Some, None, refl, sym, subst}
use Rattle.std.specs.Option.{option_map}
use Rattle.coap_types.specs.declared.endpoint.Endpoint.{Endpoint}
use Rattle.coap_types.specs.declared.message.Kind.{Kind}
use Rattle.coap_types.specs.declared.message.Kind.TheVariants.{Con, Non, Ack, Rst}
use Rattle.coap_codec.specs.Message.{Message}
use Rattle.coap_layer.specs.Trace as L
use Rattle.coap_exchange.specs.declared.asker.Event.{Event}
use Rattle.coap_exchange.specs.declared.asker.Event.TheVariants as event
use Rattle.coap_exchange.specs.declared.asker.Exchange.{Exchange}
use Rattle.coap_exchange.specs.declared.matching.Known.{Known}
use Rattle.coap_exchange.specs.declared.matching.Verdict.{Verdict}
use Rattle.coap_exchange.specs.declared.matching.Verdict.TheVariants.{AnswerCon, Answer}
use Rattle.coap_exchange.specs.declared.matching.Verdict.TheVariants.{NoticeCon, Notice, Await, EndByReset}
use Rattle.coap_exchange.specs.AskerTrace.{Own}
use Rattle.coap_exchange.specs.AskerArrivals.{has_token, known_of, verdict_on, told, running_after}
use Rattle.coap_exchange.specs.Matching.{judged}
use Rattle.coap_exchange.proofs.Facts.Moves.{token_in}
use Rattle.coap_exchange.proofs.Facts.Verdicts.{Fits, verdict_fits}

-- A notification has not the token of the exchange that runs: that would be its answer.

abbrev Aside : Known → Verdict → Type 0
Aside k NoticeCon = k.of_exchange ≡ false
Aside k Notice = k.of_exchange ≡ false
Aside k v = Unit {0}

abbrev known : (f o i p b c : Bool) → Known
known f o i p b c = record { from_server = f; of_exchange = o; same_id = i; kept = p; bad_option = b; cancelled = c }

aside_known : (kind : Kind) (f o i p b c : Bool) → Aside (known f o i p b c) (judged kind (known f o i p b c))
aside_known Con false o i p b c = tt
aside_known Non false o i p b c = tt
aside_known Ack false o i p b c = tt
aside_known Rst false o i p b c = tt
aside_known Con true false i false b c = tt
aside_known Non true false i false b c = tt
aside_known Ack true false i false b c = tt
aside_known Rst true false i false b c = tt
aside_known Con true false i true true c = tt
aside_known Con true false i true false true = tt
aside_known Con true false i true false false = refl
aside_known Non true false i true true c = tt
aside_known Non true false i true false true = tt
aside_known Non true false i true false false = refl
aside_known Ack true false i true b c = tt
aside_known Rst true false i true true c = tt
aside_known Rst true false i true false true = tt
aside_known Rst true false i true false false = tt
aside_known Con true true i p true c = tt
aside_known Con true true i p false true = tt
aside_known Con true true i p false false = tt
aside_known Non true true i p true c = tt
aside_known Non true true i p false true = tt
aside_known Non true true i p false false = tt
aside_known Ack true true false p b c = tt
aside_known Ack true true true p true c = tt
aside_known Ack true true true p false c = tt
aside_known Rst true true i p true c = tt
aside_known Rst true true i p false true = tt
aside_known Rst true true i p false false = tt

abbrev IsAside : Own → L.Answer → Verdict → Type 0
IsAside s (L.Becomes (L.Response m)) NoticeCon = has_token s.running m.token ≡ false
IsAside s (L.Becomes (L.Response m)) Notice = has_token s.running m.token ≡ false
IsAside s up v = Unit {0}

response_aside : (s : Own) (from : Endpoint) (m : Message) (v : Verdict) → Aside (known_of s from m) v
    → IsAside s (L.Becomes (L.Response m)) v
response_aside s from m NoticeCon h = h
response_aside s from m Notice h = h
response_aside s from m _ h = tt

verdict_aside : (s : Own) (from : Endpoint) (up : L.Answer) → IsAside s up (verdict_on s from up)
verdict_aside s from (L.Becomes (L.Response m)) =
    let k = known_of s from m in response_aside s from m _
    (aside_known m.kind k.from_server k.of_exchange k.same_id k.kept k.bad_option k.cancelled)
verdict_aside s from _ = tt

-- what the event says of the exchange before it and behind it
abbrev pub Came : Option Exchange → Option Exchange → Option Event → Type 0
Came before now None = token_in now ≡ token_in before
Came before now (Some (event.Answer m)) = (x : Exchange) × (before ≡ Some x) × (m.token ≡ x.token) × (now ≡ None)
Came before now (Some (event.Notice m)) = (has_token before m.token ≡ false) × (now ≡ before)
Came before now (Some event.Reset) = (x : Exchange) × (before ≡ Some x) × (now ≡ None)
Came before now _ = ⊥

acked_token : (running : Option Exchange) (at : ℕ)
    → token_in (option_map (λ (x : Exchange). record x { acked = Some (record { 0 = at }) }) running) ≡ token_in running
acked_token None at = refl
acked_token (Some x) at = refl

module _ (s : Own) (from : Endpoint) (at : ℕ) where
  abbrev Tells : Verdict → L.Answer → Type 0
  Tells v up = Came s.running (running_after at v s.running) (told v up)

  came_by : (v : Verdict) (up : L.Answer) → Fits s from up v → IsAside s up v → Tells v up
  came_by Await up f a = acked_token s.running at
  came_by EndByReset up f a = (f.2.exchange, f.2.runs, refl)
  came_by AnswerCon up f a = subst (Tells AnswerCon) (sym f.is) (f.exchange, f.runs, f.token, refl)
  came_by Answer up f a = subst (Tells Answer) (sym f.is) (f.exchange, f.runs, f.token, refl)
  came_by NoticeCon up f a = subst (Tells NoticeCon) (sym f.is) (subst (λ u. IsAside s u NoticeCon) f.is a, refl)
  came_by Notice up f a = subst (Tells Notice) (sym f.is) (subst (λ u. IsAside s u Notice) f.is a, refl)
  came_by _ up f a = refl

  pub came : (up : L.Answer) (e : Option Event) → e ≡ told (verdict_on s from up) up
      → Came s.running (running_after at (verdict_on s from up) s.running) e
  came up e right = subst (Came s.running (running_after at (verdict_on s from up) s.running)) (sym right)
      (came_by (verdict_on s from up) up (verdict_fits s from up) (verdict_aside s from up))

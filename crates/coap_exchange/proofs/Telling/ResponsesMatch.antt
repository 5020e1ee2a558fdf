-- What a response has that the client's side tells, by the table.
use Rattle.std.proofs.Common.{◌≡◌, ◌≢◌, ℕ, Bool, true, false, Option, Some, None, List, [], ◌∷◌, refl, ap, sym, subst}
use Rattle.std.proofs.Common.{◌∙◌, ◌&&◌}
use Rattle.std.specs.Cmp.{unsigned_Decides}
use Rattle.coap_types.specs.Recognised.{lacks_critical, carries}
use Rattle.coap_types.specs.declared.direction.Direction.TheVariants.{Response}
use Rattle.coap_types.specs.declared.endpoint.Endpoint.{Endpoint}
use Rattle.coap_types.specs.declared.message.Kind.TheVariants.{Ack}
use Rattle.coap_codec.specs.Message.{Message}
use Rattle.coap_layer.specs.Trace as T
use Rattle.coap_exchange.specs.declared.asker.Event.{Event}
use Rattle.coap_exchange.specs.declared.asker.Event.TheVariants as event
use Rattle.coap_exchange.specs.declared.asker.Exchange.{Exchange}
use Rattle.coap_exchange.specs.declared.matching.Verdict.{Verdict}
use Rattle.coap_exchange.specs.declared.matching.Verdict.TheVariants.{AnswerCon, Answer}
use Rattle.coap_exchange.specs.declared.matching.Verdict.TheVariants.{NoticeCon, Notice, EndByReset}
use Rattle.coap_exchange.specs.AskerTrace.{Own, Call, Receive}
use Rattle.coap_exchange.specs.AskerSteps.{IsRight}
use Rattle.coap_exchange.specs.AskerArrivals.{observe, has_id, has_token, is_cancel, known_of, told, verdict_on}
use Rattle.coap_exchange.specs.AskerLaw.{own_of, AskerLaw}
use Rattle.coap_exchange.specs.AskerFollows.{answered, carried}
use Rattle.coap_exchange.specs.AskerResponses.{Answers, AreMatched}
use Rattle.coap_exchange.proofs.Exchanges.OneAtATime as held
use Rattle.coap_exchange.proofs.Facts.Moves.{token_in}
use Rattle.coap_exchange.proofs.Facts.Verdicts.{Fits, Judged, Taken, judged_by, verdict_fits}
use Rattle.coap_exchange.proofs.Facts.SameToken.{same_token_is, same_token_self}
use Rattle.coap_layer.specs.declared.setup.Setup.{Setup}

-- the call that tells it
module _ (s : Own) (now : ℕ) (from : Endpoint) (bytes : List ℕ) (up : T.Answer) (settled : Bool) (answer : Option Event)
    (m : Message) where
  abbrev told_in : Option Event → Option Message
  told_in a = carried (Receive now from bytes up settled a)

  none_told : (a : Option Event) → answer ≡ a → told_in a ≡ None → told_in answer ≡ Some m
      → Taken m.kind (known_of s from m)
  none_told a is none h = let e : told_in answer ≡ None = ap told_in is ∙ none in absurd (cc (e, h))

  one_told : (a : Option Event) (n : Message) → answer ≡ a → told_in a ≡ Some n → Taken n.kind (known_of s from n)
      → told_in answer ≡ Some m → Taken m.kind (known_of s from m)
  one_told a n is one has h =
      let e : Some n ≡ Some m = sym (ap told_in is ∙ one)
      ∙ h in let same : n ≡ m = cc e in subst (λ (x : Message). Taken x.kind (known_of s from x)) same has

  told_of : (v : Verdict) → verdict_on s from up ≡ v → (n : Message) → up ≡ T.Becomes (T.Response n)
      → Judged n.kind (known_of s from n) v
  told_of v is n up_is = subst (Judged n.kind (known_of s from n)) (ap (verdict_on s from) (sym up_is) ∙ is)
      (judged_by n.kind (known_of s from n))

  told_by : (v : Verdict) → verdict_on s from up ≡ v → Fits s from up v → answer ≡ told v up → told_in answer ≡ Some m
      → Taken m.kind (known_of s from m)
  told_by EndByReset is f right h = none_told (Some event.Reset) right refl h
  told_by AnswerCon is f right h = one_told (Some (event.Answer f.message)) f.message
      (right ∙ ap (told AnswerCon) f.is) refl (told_of AnswerCon is f.message f.is).2 h
  told_by Answer is f right h = one_told (Some (event.Answer f.message)) f.message (right ∙ ap (told Answer) f.is) refl
      (told_of Answer is f.message f.is).2 h
  told_by NoticeCon is f right h = one_told (Some (event.Notice f.message)) f.message
      (right ∙ ap (told NoticeCon) f.is) refl (told_of NoticeCon is f.message f.is).2 h
  told_by Notice is f right h = one_told (Some (event.Notice f.message)) f.message (right ∙ ap (told Notice) f.is) refl
      (told_of Notice is f.message f.is).2 h
  told_by _ is f right h = none_told None right refl h

-- .. and where: from an endpoint
record IsTold (s : Own) (m : Message) : Type 0 where
  pub from : Endpoint
  pub has : Taken m.kind (known_of s from m)

is_told : (s : Own) (c : Call) (m : Message) → IsRight s c → carried c ≡ Some m → IsTold s m
is_told s (Receive now from bytes up settled answer) m right h =
    record {
      from = from;
      has = told_by s now from bytes up settled answer m (verdict_on s from up) refl
          (verdict_fits s from up) right h;
    }
is_told s _ m right h = absurd (cc h)

answered_in : (now : ℕ) (from : Endpoint) (bytes : List ℕ) (up : T.Answer) (settled : Bool) (a : Option Event)
    (m : Message) → answered (Receive now from bytes up settled a) ≡ Some m
    → carried (Receive now from bytes up settled a) ≡ Some m
answered_in now from bytes up settled (Some (event.Answer n)) m h = h
answered_in now from bytes up settled _ m h = absurd (cc h)

answered_carried : (c : Call) (m : Message) → answered c ≡ Some m → carried c ≡ Some m
answered_carried (Receive now from bytes up settled a) m h = answered_in now from bytes up settled a m h
answered_carried _ m h = absurd (cc h)

-- of the exchange that runs
record OfExchange (running : Option Exchange) (token : List ℕ) (id : ℕ) : Type 0 where
  pub exchange : Exchange
  pub runs : running ≡ Some exchange
  pub token_is : token ≡ exchange.token
  pub id_is : id ≡ exchange.id.0

of_exchange : (running : Option Exchange) (token : List ℕ) (id : ℕ) → has_token running token ≡ true
    → has_id running id ≡ true → OfExchange running token id
of_exchange None token id t i = absurd (cc t)
of_exchange (Some x) token id t i = record {
  exchange = x;
  runs = refl;
  token_is = same_token_is token x.token t;
  id_is = (unsigned_Decides id x.id.0).0 i;
}

has_it : (running : Option Exchange) (token : List ℕ) → token_in running ≡ Some token → has_token running token ≡ true
has_it None token h = absurd (cc h)
has_it (Some x) token h = let same : x.token ≡ token =
    cc h in subst (λ k. has_token (Some x) k ≡ true) same (same_token_self x.token)

last_false : (a b c : Bool) → a ≡ true → b ≡ true → (a && (b && c)) ≡ false → c ≡ false
last_false true true c p q h = h
last_false true false c p q h = absurd (cc q)
last_false false b c p q h = absurd (cc p)

module _ (server : Endpoint) (setup : Setup) where
  module _ (c : Call) (t : List Call) (law : AskerLaw server setup (c ∷ t)) (m : Message) where
    abbrev s : Own
    s = own_of server setup t

    understood : carried c ≡ Some m → lacks_critical Response m.options ≡ false
    understood h = (is_told s c m law.0 h).has.understood

    piggybacked : carried c ≡ Some m → m.kind ≡ Ack → Answers server setup t m
    piggybacked h ack =
        let matches = (is_told s c m law.0 h).has.matches ack in
        let of = of_exchange s.running m.token m.id matches.0 matches.1 in
        record { exchange = of.exchange; runs = of.runs; token = of.token_is; id = of.id_is }

    cancelled : (x : Exchange) → answered c ≡ Some m → s.running ≡ Some x → x.cancel ≡ true → m.kind ≢ Ack
        → carries Response observe m.options ≡ false
    cancelled x h runs cancel other =
        let current = (is_told s c m law.0 (answered_carried c m h)).has.current other in
        let of_open = (held.known server setup (c ∷ t) law).0.0.answer m h in
        let has = has_it s.running m.token ((held.known server setup t law.1).1.runs.runs_it m.token of_open) in
        last_false (has_token s.running m.token) (is_cancel s.running) (carries Response observe m.options) has
        (ap is_cancel runs ∙ cancel) current

  pub matched : (t : List Call) → AskerLaw server setup t → AreMatched server setup t
  matched [] law = tt
  matched (c ∷ t) law = (
    record {
      understood = understood c t law;
      piggybacked = piggybacked c t law;
      cancelled = cancelled c t law;
    },
    matched t law.1,
  )

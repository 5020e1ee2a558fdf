-- What a deed leaves of the numbers that a client keeps, and of the exchange beneath, call by call.
use Rattle.std.proofs.Common.{◌≡◌, ◌≤◌, ℕ, ◌+◌, Bool, Option, Some, None, List, [], ◌∷◌, ◌++◌, refl, ap, sym, subst}
use Rattle.std.proofs.Common.{◌∙◌, arith, Result, Ok, Err}
use Rattle.coap_exchange.specs.declared.asker.AskRefusal.{AskRefusal}
use Rattle.coap_exchange.specs.declared.asker.Exchange.{Exchange}
use Rattle.coap_client.specs.Trace.{Report, Reported, NoIds}
use Rattle.coap_client.specs.Own.{Transfer, Operation, Cancelling, Observation, Own}
use Rattle.coap_client.specs.Observations.{observation_of}
use Rattle.coap_layer.specs.Trace as L
use Rattle.coap_exchange.specs.AskerTrace as E
use Rattle.coap_exchange.specs.AskerSteps as P
use Rattle.coap_exchange.specs.AskerRequests as Q
use Rattle.coap_exchange.specs.Tokens as K
use Rattle.coap_exchange.proofs.Facts.Moves as move
use Rattle.coap_exchange.proofs.Facts.Moves.{refused, sent as sent_it}
use Rattle.coap_client.specs.Observing.{releases}
use Rattle.coap_client.specs.Requests.{message_of}
use Rattle.coap_client.specs.Deeds.{deeds}
use Rattle.coap_client.proofs.Facts.Places.PlaceLemmas.{token_there}
use Rattle.coap_client.specs.Effects.{Deed, Rests, Asks, Effect, of, has_sent}
use Rattle.coap_client.specs.Events.{failed, closed}
use Rattle.coap_client.specs.Places.{places, final_of}
use Rattle.coap_client.proofs.Facts.Places.PlaceEffects.{AllWait, RunsOn, IfRuns, Sound, HasToken, Linked, Leaves, Goes}
use Rattle.coap_client.proofs.Facts.Places.PlaceEvents.{failed_goes}

-- the exchanges, call by call

abbrev pub ran : E.Own → List E.Call → E.Own
ran x [] = x
ran x (c ∷ cs) = P.after (ran x cs) c

abbrev pub AreRight : E.Own → List E.Call → Type 0
AreRight x [] = Unit {0}
AreRight x (c ∷ cs) = P.IsRight (ran x cs) c × AreRight x cs

pub ran_append : (x : E.Own) (later first : List E.Call) → ran x (later ++ first) ≡ ran (ran x first) later
ran_append x [] first = refl
ran_append x (c ∷ later) first = ap (λ y. P.after y c) (ran_append x later first)

pub are_right_back : (x : E.Own) (later first : List E.Call) → AreRight x (later ++ first) → AreRight x first
are_right_back x [] first h = h
are_right_back x (c ∷ later) first h = are_right_back x later first h.1

pub are_right_front : (x : E.Own) (later first : List E.Call) → AreRight x (later ++ first)
    → AreRight (ran x first) later
are_right_front x [] first h = tt
are_right_front x (c ∷ later) first h = (
  subst (λ y. P.IsRight y c) (ran_append x later first) h.0,
  are_right_front x later first h.1,
)

-- what the sending makes of an effect
pub record Closes (s : Own) (c : Effect) (x : Option Exchange) : Type 0 where
  pub conserved : (n : ℕ) → places n c.own + final_of n c.report ≡ places n s
  pub waits : AllWait c.own.observations c.own.queue
  pub runs_on : IfRuns c.own.observations c.own.running
  pub taken_is : c.own.taken ≡ s.taken
  pub source : (r : Reported) → c.report ≡ Some r → 1 ≤ places r.number s
  pub linked : Linked c.own.running c.own.observations x

not_asks : (u : Transfer → Bool) (report : Report) (s : Own) (running : Option Operation) (op : Operation)
    → (failed u report s running).deed ≡ Asks op → ⊥
not_asks u report s (Some (Cancelling k)) op h = by (observation_of k s.observations) h
  where
    by : (o : Option Observation) → releases o ≡ Asks op → ⊥
    by None h = cc h
    by (Some o) h = cc h
not_asks u report s _ op h = cc h

pub linked_of : (d : Deed) (e : Effect) (x : Option Exchange) → ((op : Operation) → d ≡ Asks op → ⊥) → Leaves d e x
    → Linked e.own.running e.own.observations x
linked_of (Asks op) e x f h = absurd (f op refl)
linked_of _ e x f h = h

-- a deed that asks nothing leaves the exchange
pub quiet_deeds : (at word : ℕ) (sent : L.Answer) (kept : Bool) (token : Result (List ℕ) AskRefusal) (d : Deed)
    (o : Own) (y : E.Own) → ((op : Operation) → d ≡ Asks op → ⊥)
    → (ran y (deeds d o at word sent token kept)).running ≡ y.running
quiet_deeds at word sent kept token (Asks op) o y f = absurd (f op refl)
quiet_deeds at word sent kept token _ o y f = refl

module _ (s : Own) (e : Effect) (x : E.Own) (sound : Sound s) (g : Goes s x.running e) (at word : ℕ) (sent : L.Answer)
    (kept : Bool) where
  plainly : (y : Option Exchange) → Linked e.own.running e.own.observations y → Closes s e y
  plainly y l = record {
    conserved = g.conserved;
    waits = g.waits;
    runs_on = g.runs_on;
    taken_is = g.taken_is;
    source = g.source;
    linked = l;
  }

  effect_sound : (op : Operation) → e.deed ≡ Asks op → Sound e.own
  effect_sound op is = record {
    at_most = λ n. let a = g.conserved n in let b = ap (final_of n) (g.asks op is).0 in let c =
        sound.at_most n in omega (arith, a, b, c);
    waits = g.waits;
    runs_on = g.runs_on;
  }

  same_places : (op : Operation) → e.deed ≡ Asks op → (n : ℕ) → places n e.own ≡ places n s
  same_places op is n = let a = g.conserved n in let b = ap (final_of n) (g.asks op is).0 in omega (arith, a, b)

  -- the token that is sent is that of the observation, where it is cancelled
  has_its : (op : Operation) → RunsOn e.own.observations op
      → HasToken e.own.observations op (Q.request_token x (message_of e.own.observations op))
  has_its (Cancelling k) live =
      let t = token_there k e.own.observations live in t.1
      ∙ ap (λ y. Some y) (sym (ap (λ o. Q.token_or o (K.token_of x.word x.given)) t.1))
  has_its _ live = tt

  asked_for : (op : Operation) → e.deed ≡ Asks op → (token : Result (List ℕ) AskRefusal)
      → token ≡ Q.ask_answer (Q.opening_of x (message_of e.own.observations op)) sent
      (Q.request_token x (message_of e.own.observations op))
      → Closes s (closed at e (Asks op) token) (ran x
      (deeds (closed at e (Asks op) token).deed (closed at e (Asks op) token).own at word sent token kept
      ++ deeds (Asks op) e.own at word sent token kept)).running
  asked_for op is (Ok token) right = by (move.ask_row x (message_of e.own.observations op) sent (Ok token) right)
    where
      by : move.AskRow x (message_of e.own.observations op) sent (Ok token)
          → Closes s (closed at e (Asks op) (Ok token))
          (Q.opened x (message_of e.own.observations op)
          (Q.sent_as (Q.opening_of x (message_of e.own.observations op)) sent)).running
      by (refused why no_answer gone) = absurd (cc no_answer)
      by (sent_it id answer_is some opens sent_id) =
          let a = g.asks op is in
          record {
            conserved = λ n. let b = same_places op is n in omega (arith, b);
            waits = g.waits;
            runs_on = g.runs_on;
            taken_is = g.taken_is;
            source = λ y h. absurd (cc h);
            linked = subst (λ y. Linked y e.own.observations
                (Q.opened x (message_of e.own.observations op)
                (Q.sent_as (Q.opening_of x (message_of e.own.observations op)) sent)).running) (sym a.1) (
                  _,
                  ap (λ (y : E.Own). y.running) (move.opened_some x (message_of e.own.observations op) sent id some),
                  has_its op (subst (IfRuns e.own.observations) a.1 g.runs_on),
                );
          }
  asked_for op is (Err why) right = by (move.ask_row x (message_of e.own.observations op) sent (Err why) right)
    where
      by : move.AskRow x (message_of e.own.observations op) sent (Err why)
          → Closes s (failed has_sent NoIds e.own (Some op))
          (ran x (deeds (failed has_sent NoIds e.own (Some op)).deed
          (failed has_sent NoIds e.own (Some op)).own at word sent (Err why) kept
          ++ deeds (Asks op) e.own at word sent (Err why) kept)).running
      by (sent_it id answer_is some opens sent_id) = absurd (cc answer_is)
      by (refused other answer_is gone) =
          let c : Effect = failed has_sent NoIds e.own (Some op) in
          let f = failed_goes e.own None (effect_sound op is) refl has_sent NoIds refl (Some op) (g.asks op is).1 in
          let none : x.running ≡ None = subst (λ d. Leaves d e x.running) is g.leaves in
          let x2 : E.Own = ran x (deeds (Asks op) e.own at word sent (Err why) kept) in
          let still : x2.running ≡ None = ap (λ (o : E.Own). o.running)
          (move.opened_none x (message_of e.own.observations op) sent gone) ∙ none in
          let quiet = quiet_deeds at word sent kept (Err why) c.deed c.own x2
          (not_asks has_sent NoIds e.own (Some op)) in
          let split = ap (λ (o : E.Own). o.running) (ran_append x (deeds c.deed c.own at word sent (Err why) kept)
          (deeds (Asks op) e.own at word sent (Err why) kept)) in
          record {
            conserved = λ n. f.conserved n ∙ same_places op is n;
            waits = f.waits;
            runs_on = f.runs_on;
            taken_is = f.taken_is ∙ g.taken_is;
            source = λ y h. let a = f.source y h in let b = same_places op is y.number in omega (arith, a, b);
            linked = subst (Linked c.own.running c.own.observations) (sym (split ∙ (quiet ∙ still)))
                (linked_of c.deed c None (not_asks has_sent NoIds e.own (Some op)) f.leaves);
          }

  abbrev Closing : Result (List ℕ) AskRefusal → Deed → Type 0
  Closing token d =
      AreRight x (deeds (closed at e d token).deed (closed at e d token).own at word sent token kept
      ++ deeds d e.own at word sent token kept)
      → Closes s (closed at e d token) (ran x (deeds (closed at e d token).deed
      (closed at e d token).own at word sent token kept ++ deeds d e.own at word sent token kept)).running

  closing : (token : Result (List ℕ) AskRefusal) (d : Deed) → e.deed ≡ d → Closing token d
  closing token Rests is right =
      let rests : (op : Operation) → e.deed ≡ Asks op → ⊥ = λ op h. cc (h, is) in
      let split = ap (λ (o : E.Own). o.running) (ran_append x (deeds e.deed e.own at word sent token kept) []) in
      let quiet = quiet_deeds at word sent kept token e.deed e.own x rests in
      plainly _ (subst (Linked e.own.running e.own.observations) (sym (split ∙ quiet))
      (linked_of e.deed e x.running rests g.leaves))
  closing token (Asks op) is right =
      asked_for op is token (are_right_back x (deeds (closed at e (Asks op) token).deed
      (closed at e (Asks op) token).own at word sent token kept)
      (deeds (Asks op) e.own at word sent token kept) right).0
  closing token _ is right = let l = linked_of e.deed e x.running (λ op h. cc (h, is)) g.leaves in
      record {
        conserved = g.conserved;
        waits = g.waits;
        runs_on = g.runs_on;
        taken_is = g.taken_is;
        source = g.source;
        linked = l;
      }

  pub closes : (token : Result (List ℕ) AskRefusal) → Closing token e.deed
  closes token = closing token e.deed refl

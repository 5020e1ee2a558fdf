-- A Reset that the client's side tells came from the server, and rejects the request of the exchange that runs.
use Rattle.std.proofs.Common.{◌≡◌, ℕ, ◌/◌, ◌==◌, ◌&&◌, nat_le, Bool, true, false, Option, Some, List, [], ◌∷◌}
use Rattle.std.proofs.Common.{refl, ap, sym, subst, ◌∙◌, cond}
use Rattle.coap_types.specs.Roles.{role_of}
use Rattle.coap_types.specs.declared.endpoint.Endpoint.{Endpoint}
use Rattle.coap_types.specs.declared.role.Role.TheVariants as role
use Rattle.coap_types.specs.SameEndpoint.{same_endpoint}
use Rattle.coap_codec.specs.Message.{Message}
use Rattle.std.proofs.lemmas.Bool.{eqb-true}
use Rattle.coap_layer.specs.Machine.State as L
use Rattle.coap_layer.specs.Machine.Steps.{Steps}
use Rattle.coap_layer.specs.Trace as T
use Rattle.coap_exchange.specs.declared.asker.Event.{Event}
use Rattle.coap_exchange.specs.declared.asker.Event.TheVariants as event
use Rattle.coap_exchange.specs.declared.matching.Verdict.{Verdict}
use Rattle.coap_exchange.specs.declared.matching.Verdict.TheVariants.{AnswerCon, Answer}
use Rattle.coap_exchange.specs.declared.matching.Verdict.TheVariants.{NoticeCon, Notice, EndByReset}
use Rattle.coap_exchange.specs.AskerTrace.{Own, Call, Receive}
use Rattle.coap_exchange.specs.AskerSteps.{lower}
use Rattle.coap_exchange.specs.AskerRequests.{asked}
use Rattle.coap_exchange.specs.AskerArrivals.{told, verdict_on, acts}
use Rattle.coap_exchange.specs.AskerLaw.{own_of, lower_of, AskerLaw}
use Rattle.coap_exchange.specs.AskerTells.{Rejects, AreRejected}
use Rattle.coap_exchange.proofs.Calls.WhatArrived.{arrived}
use Rattle.coap_exchange.proofs.Telling.FromServer.{server_is}
use Rattle.coap_layer.proofs.Facts.StepsOfLayer.{steps_split}
use Rattle.coap_exchange.proofs.Facts.Verdicts.{Fits, OfRequest, verdict_fits}
use Rattle.coap_layer.specs.declared.setup.Setup.{Setup}

-- an Empty message has code 0.00
code_zero : (code : ℕ) (a b c : Bool) → (code == 0) ≡ a
    → cond a role.Empty (cond b role.Request (cond c role.Response role.Reserved)) ≡ role.Empty → code ≡ 0
code_zero code true b c is h = eqb-true code 0 is
code_zero code false true c is h = absurd (cc h)
code_zero code false false true is h = absurd (cc h)
code_zero code false false false is h = absurd (cc h)

is_empty : (m : Message) → role_of m.code ≡ role.Empty → m.code ≡ 0
is_empty m h = code_zero m.code (m.code == 0) (m.code / 32 == 0)
    (nat_le 2 (m.code / 32) && nat_le (m.code / 32) 5) refl h

-- what is told of it

record OfReset (s : Own) (from : Endpoint) (up : T.Answer) : Type 0 where
  pub id : ℕ
  pub is : up ≡ T.Becomes (T.Reset id)
  pub of : OfRequest s from id

abbrev is_told : Option Event → Bool
is_told (Some event.Reset) = true
is_told _ = false

of_reset : (s : Own) (from : Endpoint) (up : T.Answer) (v : Verdict) → Fits s from up v → told v up ≡ Some event.Reset
    → OfReset s from up
of_reset s from up EndByReset f h = record { id = f.0; is = f.1; of = f.2 }
of_reset s from up AnswerCon f h = let k : is_told (told AnswerCon up)
    ≡ false = ap (λ u. is_told (told AnswerCon u)) f.is in absurd (cc (k, ap is_told h))
of_reset s from up Answer f h = let k : is_told (told Answer up)
    ≡ false = ap (λ u. is_told (told Answer u)) f.is in absurd (cc (k, ap is_told h))
of_reset s from up NoticeCon f h = let k : is_told (told NoticeCon up)
    ≡ false = ap (λ u. is_told (told NoticeCon u)) f.is in absurd (cc (k, ap is_told h))
of_reset s from up Notice f h = let k : is_told (told Notice up)
    ≡ false = ap (λ u. is_told (told Notice u)) f.is in absurd (cc (k, ap is_told h))
of_reset s from up _ f h = absurd (cc h)

module _ (server : Endpoint) (setup : Setup) where
  rejects : (t : List Call) (now : ℕ) (from : Endpoint) (bytes : List ℕ) (up : T.Answer) (settled : Bool)
      → AskerLaw server setup (Receive now from bytes up settled (Some event.Reset) ∷ t)
      → (h : L.State) → Steps (L.start setup) (lower_of server setup
      (Receive now from bytes up settled (Some event.Reset) ∷ t)) h → Rejects server setup t from bytes
  rejects t now from bytes up settled law h steps =
      let s : Own = own_of server setup t in
      let parts = steps_split (L.start setup) h (lower s (Receive now from bytes up settled (Some event.Reset)))
      (lower_of server setup t) steps in
      let first = steps_split parts.0 h (acts s from up settled (verdict_on s from up))
      (asked now (T.Receive from bytes) up ∷ []) parts.2 in
      let r = of_reset s from up (verdict_on s from up) (verdict_fits s from up) (sym law.0) in
      let m = arrived first.1.0 first.0 now from bytes (T.Reset r.id)
      (subst (λ u. L.Step first.1.0 now (T.Receive from bytes) u first.0) r.is first.1.2) in
      record {
        exchange = r.of.exchange;
        runs = r.of.runs;
        there = subst (λ e. same_endpoint from e ≡ true) (server_is server setup t) r.of.there;
        message = m.message;
        spelled = m.spelled;
        kind = m.kind;
        code = is_empty m.message m.class;
        id = m.id_is ∙ r.of.id_is;
      }

  pub rejected : (t : List Call) → AskerLaw server setup t → (h : L.State)
      → Steps (L.start setup) (lower_of server setup t) h → AreRejected server setup t
  rejected [] law h steps = tt
  rejected (c ∷ t) law h steps =
      let parts = steps_split (L.start setup) h (lower (own_of server setup t) c) (lower_of server setup t) steps in (
        (λ now from bytes up settled is.
            rejects t now from bytes up settled (subst (λ d. AskerLaw server setup (d ∷ t)) is law) h
            (subst (λ d. Steps (L.start setup) (lower_of server setup (d ∷ t)) h) is steps)),
        rejected t law.1 parts.0 parts.1,
      )

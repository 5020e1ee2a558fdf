-- Which call of the exchanges begins a CON.
use Rattle.std.proofs.Common.{◌≡◌, inl, inr, ℕ, Bool, true, false, Option, Some, None, List, [], ◌∷◌, ◌++◌, ap}
use Rattle.std.proofs.Common.{sym, subst, ◌∙◌, Result, Ok}
use Rattle.coap_types.specs.Past.{Ever}
use Rattle.coap_types.proofs.Facts.Traces.{Ever_append}
use Rattle.coap_types.specs.declared.endpoint.Endpoint.{Endpoint}
use Rattle.coap_types.specs.declared.message.Kind.TheVariants.{Con}
use Rattle.coap_codec.specs.Spelling.{message_bytes}
use Rattle.coap_layer.specs.Trace as L
use Rattle.coap_layer.specs.Trace.{with_head}
use Rattle.coap_layer.specs.Words.{Open}
use Rattle.coap_layer.specs.Rows.{IsSpelled}
use Rattle.coap_layer.specs.Machine.State as S
use Rattle.coap_layer.specs.Machine.Steps.{Asked, Steps, left_after}
use Rattle.coap_layer.specs.declared.setup.Setup.{Setup}
use Rattle.coap_exchange.specs.declared.asker.AskRefusal.{AskRefusal}
use Rattle.coap_exchange.specs.declared.asker.Exchange.{Exchange}
use Rattle.coap_exchange.specs.declared.matching.Opening.{Opening}
use Rattle.coap_exchange.specs.declared.matching.Opening.TheVariants.{Running, Spent, Sends}
use Rattle.coap_exchange.specs.declared.matching.Verdict.{Verdict}
use Rattle.coap_exchange.specs.AskerTrace as E
use Rattle.coap_exchange.specs.AskerRequests as Q
use Rattle.coap_exchange.specs.AskerArrivals as R
use Rattle.coap_exchange.specs.AskerSteps as P
use Rattle.coap_exchange.specs.AskerLaw as W
use Rattle.coap_exchange.proofs.Facts.ClientSide.{server_is}
use Rattle.coap_exchange.specs.Adds.{asked_by_client}
use Rattle.coap_client_laws.proofs.Sending.ConsAreRequests.{Asks, Begins}
pub use Rattle.coap_client_laws.proofs.Sending.ConsAreRequests.{left_is}

-- the steps' states are those that the calls leave
one_of : (con : Open) (a : Asked) → Ever (Asks con) (a ∷ []) → Asks con a
one_of con a (inl h) = h
one_of con a (inr h) = absurd h

no_reply : (con : Open) (from : Endpoint) (id : ℕ) (o : Option (List ℕ)) → Ever (Asks con) (R.replying from id o) → ⊥
no_reply con from id None h = h
no_reply con from id (Some bytes) (inl h) = cc (h.call)
no_reply con from id (Some bytes) (inr h) = h

no_settle : (con : Open) (b : Bool) (server : Endpoint) (o : Option Exchange) (settled : Bool)
    → Ever (Asks con) (R.settling b server o settled) → ⊥
no_settle con true server (Some x) settled (inl h) = cc (h.call)
no_settle con true server (Some x) settled (inr h) = h
no_settle con true server None settled h = h
no_settle con false server o settled h = h

module _ (server : Endpoint) (setup : Setup) where
  abbrev own : List E.Call → E.Own
  own t = W.own_of server setup t

  opens : (con : Open) (s : E.Own) (o : Opening) (now w : ℕ) (r : E.Request) (below : L.Answer)
      (answer : Result (List ℕ) AskRefusal)
      → s.server ≡ server → answer ≡ Q.ask_answer o below (Q.request_token s r)
      → Asks con (Q.asked now (Q.beneath o s.server (Q.content_of (Q.request_token s r) r) w) below)
      → Begins server con (E.Ask now r w below answer)
  opens con s Sends now w r below answer at right h =
      let token : List ℕ = Q.request_token s r in
      let content_is : Q.content_of token r ≡ h.content = cc (h.call) in
      let to_is : s.server ≡ con.to = cc (h.call) in
      let below_is : below ≡ L.Sent con.id = h.answer in
      let ok : answer ≡ Ok token = right ∙ ap (λ b. Q.ask_answer Sends b token) below_is in
      record {
        now = now;
        word = w;
        request = r;
        below = below;
        token = token;
        is = ap (λ z. E.Ask now r w below z) ok;
        to = sym to_is ∙ at;
        bytes = h.bytes ∙ ap (λ k. message_bytes (with_head Con con.id k)) (sym content_is);
        spelled = subst IsSpelled (sym content_is) h.spelled;
      }
  opens con s _ now w r below answer at right h = absurd (cc (h.call))

  pub begins_here : (con : Open) (t : List E.Call) (c : E.Call) → P.IsRight (own t) c
      → Ever (Asks con) (P.lower (own t) c) → Begins server con c
  begins_here con t (E.Ask now r w below answer) right h =
      opens con (own t) (Q.opening_of (own t) r) now w r below answer (server_is server setup t) right (one_of con _ h)
  begins_here con t (E.Receive now from bytes up settled answer) right h =
      let s : E.Own = own t in
      let v : Verdict = R.verdict_on s from up in
      absurd (elim (Ever_append (Asks con) (R.acts s from up settled v)
      (Q.asked now (L.Receive from bytes) up ∷ []) h) [
        | inl p ↦ elim (Ever_append (Asks con) (R.settling (R.settles v) s.server s.running settled)
            (R.replying from (R.id_in up) (R.reply_by v (R.id_in up))) p) [
              | inl x ↦ no_settle con (R.settles v) s.server s.running settled x
              | inr y ↦ no_reply con from (R.id_in up) (R.reply_by v (R.id_in up)) y
            ]
        | inr q ↦ cc ((one_of con _ q).call)
      ])
  begins_here con t (E.Keep token answer) right h = absurd h
  begins_here con t (E.Release token answer) right h = absurd h
  begins_here con t _ right h = absurd (cc ((one_of con _ h).call))

  pub in_exchange : (con : Open) (later past : List E.Call) → W.AskerLaw server setup (later ++ past)
      → Ever (Asks con) (asked_by_client server setup past later) → Ever (Begins server con) later
  in_exchange con [] past law h = h
  in_exchange con (c ∷ later) past law h = elim
      (Ever_append (Asks con) (P.lower (W.own_of server setup (later ++ past)) c)
      (asked_by_client server setup past later) h) [
        | inl k ↦ inl (begins_here con (later ++ past) c law.0 k)
        | inr k ↦ inr (in_exchange con later past law.1 k)
      ]

-- A client sends no Non-confirmable message.
use Rattle.std.proofs.Common.{◌≡◌, inl, inr, ℕ, Bool, true, false, Option, Some, None, List, [], ◌∷◌}
use Rattle.coap_types.specs.Past.{Ever}
use Rattle.coap_types.proofs.Facts.Traces.{Ever_append}
use Rattle.coap_types.specs.declared.endpoint.Endpoint.{Endpoint}
use Rattle.coap_layer.specs.Trace as L
use Rattle.coap_layer.specs.Machine.State as S
use Rattle.coap_layer.specs.Machine.Steps.{Asked, entries}
use Rattle.coap_layer.specs.declared.setup.Setup.{Setup}
use Rattle.coap_exchange.specs.declared.asker.Exchange.{Exchange}
use Rattle.coap_exchange.specs.declared.matching.Opening.{Opening}
use Rattle.coap_exchange.specs.declared.matching.Opening.TheVariants.{Running, Spent, Sends}
use Rattle.coap_exchange.specs.declared.matching.Verdict.{Verdict}
use Rattle.coap_exchange.specs.AskerTrace as E
use Rattle.coap_exchange.specs.AskerRequests as Q
use Rattle.coap_exchange.specs.AskerArrivals as R
use Rattle.coap_exchange.specs.AskerSteps as P
use Rattle.coap_exchange.specs.AskerLaw as W
use Rattle.coap_client_laws.specs.Follows.Sendings.{SendsNon, NoNons}

abbrev AsksNon : Asked → Type 0
AsksNon a = (to : Endpoint) × (content : L.Content) × (a.call ≡ L.Plain to content)

asked_for : (old : S.State) (calls : List Asked) → Ever SendsNon (entries old calls) → Ever AsksNon calls
asked_for old [] h = h
asked_for old (a ∷ earlier) (inl h) = inl h
asked_for old (a ∷ earlier) (inr h) = inr (asked_for old earlier h)

no_opening : (o : Opening) (server : Endpoint) (content : L.Content) (now word : ℕ) (below : L.Answer)
    → Ever AsksNon (Q.asked now (Q.beneath o server content word) below ∷ []) → ⊥
no_opening Running server content now word below (inl h) = cc (h.2)
no_opening Spent server content now word below (inl h) = cc (h.2)
no_opening Sends server content now word below (inl h) = cc (h.2)
no_opening o server content now word below (inr h) = h

no_reply : (from : Endpoint) (id : ℕ) (o : Option (List ℕ)) → Ever AsksNon (R.replying from id o) → ⊥
no_reply from id None h = h
no_reply from id (Some bytes) (inl h) = cc (h.2)
no_reply from id (Some bytes) (inr h) = h

no_settle : (b : Bool) (server : Endpoint) (o : Option Exchange) (settled : Bool)
    → Ever AsksNon (R.settling b server o settled) → ⊥
no_settle true server (Some x) settled (inl h) = cc (h.2)
no_settle true server (Some x) settled (inr h) = h
no_settle true server None settled h = h
no_settle false server o settled h = h

none_here : (s : E.Own) (c : E.Call) → Ever AsksNon (P.lower s c) → ⊥
none_here s (E.Ask now r w below answer) h = no_opening (Q.opening_of s r) s.server
    (Q.content_of (Q.request_token s r) r) now w below h
none_here s (E.Receive now from bytes up settled answer) h =
    let v : Verdict = R.verdict_on s from up in
    elim (Ever_append AsksNon (R.acts s from up settled v) (Q.asked now (L.Receive from bytes) up ∷ []) h) [
      | inl p ↦ elim (Ever_append AsksNon (R.settling (R.settles v) s.server s.running settled)
          (R.replying from (R.id_in up) (R.reply_by v (R.id_in up))) p) [
            | inl x ↦ no_settle (R.settles v) s.server s.running settled x
            | inr y ↦ no_reply from (R.id_in up) (R.reply_by v (R.id_in up)) y
          ]
      | inr q ↦ one q
    ]
  where
    one : Ever AsksNon (Q.asked now (L.Receive from bytes) up ∷ []) → ⊥
    one (inl k) = cc (k.2)
    one (inr k) = k
none_here s (E.Ticks now below answer) (inr h) = h
none_here s (E.Keep token answer) h = h
none_here s (E.Release token answer) h = h
none_here s (E.Take answer) (inr h) = h
none_here s _ (inl h) = cc (h.2)

none_in : (server : Endpoint) (setup : Setup) (t : List E.Call) → Ever AsksNon (W.lower_of server setup t) → ⊥
none_in server setup [] h = h
none_in server setup (c ∷ t) h = elim (Ever_append AsksNon (P.lower (W.own_of server setup t) c)
    (W.lower_of server setup t) h) [
      | inl p ↦ none_here (W.own_of server setup t) c p
      | inr q ↦ none_in server setup t q
    ]

pub no_nons : (server : Endpoint) (setup : Setup) (t : List E.Call) → NoNons (W.below_of server setup t)
no_nons server setup t h = none_in server setup t (asked_for (S.start setup) (W.lower_of server setup t) h)

-- What a client takes as an answer its message layer hands up in that very call.
use Rattle.std.proofs.Common.{◌≡◌, inl, inr, ℕ, true, Some, List, [], ◌∷◌, ◌++◌, ap, sym, subst, ◌∙◌}
use Rattle.coap_types.specs.Past.{Ever}
use Rattle.coap_types.proofs.Facts.Traces.{Ever_front, Ever_back, Ever_map}
use Rattle.coap_types.specs.declared.endpoint.Endpoint.{Endpoint}
use Rattle.coap_types.specs.SameEndpoint.{same_endpoint}
use Rattle.coap_types.proofs.Facts.Endpoints.{same_endpoint_is}
use Rattle.coap_codec.specs.Message.{Message}
use Rattle.coap_layer.specs.Trace as L
use Rattle.coap_layer.specs.Machine.Steps as G
use Rattle.coap_layer.specs.Machine.Steps.{entries}
use Rattle.coap_layer.specs.declared.setup.Setup.{Setup}
use Rattle.coap_block.specs.Sizes.{Sizes}
use Rattle.coap_exchange.specs.declared.asker.Event.TheVariants as event
use Rattle.coap_exchange.specs.declared.matching.Verdict.{Verdict}
use Rattle.coap_exchange.specs.declared.matching.Verdict.TheVariants.{AnswerCon, Answer, NoticeCon, Notice}
use Rattle.coap_exchange.specs.AskerTrace as E
use Rattle.coap_exchange.specs.AskerArrivals.{told, verdict_on, acts}
use Rattle.coap_exchange.specs.AskerFollows as F
use Rattle.coap_exchange.specs.AskerRequests.{asked}
use Rattle.coap_exchange.specs.AskerSteps as P
use Rattle.coap_exchange.specs.AskerLaw as W
use Rattle.coap_exchange.proofs.Facts.ClientSide.{server_is}
use Rattle.coap_exchange.proofs.Facts.Verdicts.{Fits, verdict_fits}
use Rattle.coap_exchange.specs.Adds.{asked_by_client}
use Rattle.coap_client_laws.specs.Follows.Hears.{Hears}
use Rattle.coap_client.specs.Trace.{Call}
use Rattle.coap_client.specs.Steps.{lower}
use Rattle.coap_client.specs.Law.{ClientLaw, own_of, lower_of}
use Rattle.coap_client.specs.Sendings.{hears}
use Rattle.coap_exchange.proofs.Facts.ComesUp.{entry_of}
use Rattle.coap_client.proofs.Facts.Turning.Leading.{client_back}
use Rattle.coap_client_laws.specs.Follows.Adds.{call_asks, call_adds}
use Rattle.coap_client_laws.specs.Follows.HandedUp.{AreHandedUp}
use Rattle.coap_client_laws.proofs.Sending.Begun.{steps_here}
use Rattle.coap_client_laws.proofs.Hearing.HeardOnce.{heard_beneath}

abbrev Is : E.Own → Endpoint → L.Answer → Message → Type 0
Is s from up m = (same_endpoint from s.server ≡ true) × (up ≡ L.Becomes (L.Response m))

response_of : (s : E.Own) (from : Endpoint) (up : L.Answer) (m : Message) (v : Verdict) → Fits s from up v
    → told v up ≡ Some (event.Answer m) → Is s from up m
response_of s from up m AnswerCon f h =
    let e : Some (event.Answer f.message) ≡ Some (event.Answer m) = sym (ap (told AnswerCon) f.is)
    ∙ h in let same : f.message ≡ m = cc e in (f.there, f.is ∙ ap (λ x. L.Becomes (L.Response x)) same)
response_of s from up m Answer f h =
    let e : Some (event.Answer f.message) ≡ Some (event.Answer m) = sym (ap (told Answer) f.is)
    ∙ h in let same : f.message ≡ m = cc e in (f.there, f.is ∙ ap (λ x. L.Becomes (L.Response x)) same)
response_of s from up m NoticeCon f h = let e : Some (event.Notice f.message)
    ≡ Some (event.Answer m) = sym (ap (told NoticeCon) f.is) ∙ h in absurd (cc e)
response_of s from up m Notice f h = let e : Some (event.Notice f.message)
    ≡ Some (event.Answer m) = sym (ap (told Notice) f.is) ∙ h in absurd (cc e)
response_of s from up m _ f h = absurd (cc h)

abbrev Comes : Endpoint → Message → L.Call → L.Answer → Type 0
Comes server m call answer = (bytes : List ℕ) × (call ≡ L.Receive server bytes) × (answer ≡ L.Becomes (L.Response m))

module _ (server : Endpoint) (setup : Setup) (m : Message) where
  abbrev Told : List G.Asked → Type 0
  Told calls = Ever (λ (b : G.Asked). Comes server m b.call b.answer) calls

  arrives_here : (t : List E.Call) (c : E.Call) → P.IsRight (W.own_of server setup t) c → F.answered c ≡ Some m
      → Told (P.lower (W.own_of server setup t) c)
  arrives_here t (E.Receive now from bytes up settled (Some (event.Answer n))) right h =
      let s : E.Own = W.own_of server setup t in
      let same : n ≡ m = cc h in
      let k = response_of s from up m (verdict_on s from up) (verdict_fits s from up)
      (sym right ∙ ap (λ x. Some (event.Answer x)) same) in
      let there : from ≡ server = same_endpoint_is from s.server k.0 ∙ server_is server setup t in
      Ever_back (λ (b : G.Asked). Comes server m b.call b.answer) (acts s from up settled (verdict_on s from up))
      (asked now (L.Receive from bytes) up ∷ []) (inl (bytes, ap (λ f. L.Receive f bytes) there, k.1))
  arrives_here t _ right h = absurd (cc h)

  arrives : (later past : List E.Call) → W.AskerLaw server setup (later ++ past)
      → Ever (λ b. F.answered b ≡ Some m) later → Told (asked_by_client server setup past later)
  arrives [] past law h = absurd h
  arrives (c ∷ later) past law (inl h) = Ever_front (λ (b : G.Asked). Comes server m b.call b.answer)
      (P.lower (W.own_of server setup (later ++ past)) c) (asked_by_client server setup past later)
      (arrives_here (later ++ past) c law.0 h)
  arrives (c ∷ later) past law (inr h) = Ever_back (λ (b : G.Asked). Comes server m b.call b.answer)
      (P.lower (W.own_of server setup (later ++ past)) c) (asked_by_client server setup past later)
      (arrives later past law.1 h)

handed_up_here : (server : Endpoint) (sizes : Sizes) (setup : Setup) (t : List Call) (c : Call)
    → ClientLaw server sizes setup (c ∷ t)
    → (m : Message) → hears c ≡ Some m → Ever (Hears server m) (call_adds server sizes setup t c)
handed_up_here server sizes setup t c law m is =
    let k = steps_here server sizes setup t c law in
    let asks = call_asks server sizes setup t c in
    let there = arrives server setup m (lower (own_of sizes t) c) (lower_of sizes t) law.exchanges.rows
    (heard_beneath (own_of sizes t) c m is) in
    Ever_map (λ (e : L.Entry). Comes server m e.call e.answer) (Hears server m)
    (λ e z. record { bytes = z.0; call = z.1; answer = z.2 }) (call_adds server sizes setup t c)
    (subst (Ever (λ (e : L.Entry). Comes server m e.call e.answer)) (sym k.3)
    (entry_of (Comes server m) k.0 k.1 asks k.2 there))

pub are_handed_up : (server : Endpoint) (sizes : Sizes) (setup : Setup) (t : List Call) → ClientLaw server sizes setup t
    → AreHandedUp server sizes setup t
are_handed_up server sizes setup [] law = tt
are_handed_up server sizes setup (c ∷ t) law = (
  handed_up_here server sizes setup t c law,
  are_handed_up server sizes setup t (client_back server sizes setup (c ∷ []) t law),
)

-- A request that a call of a client sends begins a CON in its message layer.
use Rattle.std.proofs.Common.{◌≡◌, inl, inr, ℕ, Some, List, [], ◌∷◌, ◌++◌, refl, ap, sym, subst, ◌∙◌, Result, Ok, Err}
use Rattle.coap_types.specs.Past.{Ever}
use Rattle.coap_types.proofs.Facts.Traces.{Ever_map, Ever_front, Ever_back}
use Rattle.coap_types.specs.declared.endpoint.Endpoint.{Endpoint}
use Rattle.coap_layer.specs.Machine.Steps.{Asked, entries}
use Rattle.coap_layer.specs.Trace as L
use Rattle.coap_layer.specs.Words.{begun_in, open_of, sent_by}
use Rattle.coap_layer.specs.declared.setup.Setup.{Setup}
use Rattle.coap_block.specs.Sizes.{Sizes}
use Rattle.coap_exchange.specs.declared.asker.AskRefusal.{AskRefusal}
use Rattle.coap_exchange.specs.AskerTrace as E
use Rattle.coap_exchange.specs.AskerRequests as Q
use Rattle.coap_exchange.specs.AskerSteps as P
use Rattle.coap_exchange.specs.AskerLaw as W
use Rattle.coap_exchange.proofs.Facts.ClientSide.{server_is}
use Rattle.coap_exchange.proofs.Facts.Moves as move
use Rattle.coap_exchange.specs.Adds.{asked_by_client}
use Rattle.coap_client.specs.Trace.{Call}
use Rattle.coap_client.specs.Steps.{lower}
use Rattle.coap_client.specs.Law.{ClientLaw, own_of, lower_of}
use Rattle.coap_client.specs.Sendings.{Sending, sends}
use Rattle.coap_client_laws.specs.Follows.Adds.{call_asks, call_adds}
use Rattle.coap_exchange.proofs.Facts.ComesUp.{entry_of}
use Rattle.coap_client_laws.proofs.Sending.Asked.{AsksFor, asked_if_sent}
use Rattle.coap_client_laws.proofs.Sending.Begun.{steps_here}
use Rattle.coap_client_laws.proofs.Sending.StaysOpen.{BeginsTo}

-- a CON to this place is asked for, and sent
pub record Confirms (to : Endpoint) (call : L.Call) (answer : L.Answer) : Type 0 where
  pub content : L.Content
  pub word : ℕ
  pub id : ℕ
  pub call_is : call ≡ L.Confirm to content word
  pub sent : sent_by answer ≡ Some id

abbrev AsksCon : Endpoint → Asked → Type 0
AsksCon server a = Confirms server a.call a.answer

module _ (server : Endpoint) (setup : Setup) (r : E.Request) (token : List ℕ) where
  row : (s : E.Own) (q : E.Request) (now w : ℕ) (below : L.Answer) (answer : Result (List ℕ) AskRefusal)
      → s.server ≡ server → move.AskRow s q below answer → answer ≡ Ok token
      → Ever (AsksCon server) (P.lower s (E.Ask now q w below answer))
  row s q now w below answer at (move.refused why is none) ok = let e : Err why ≡ Ok token = sym is
      ∙ ok in absurd (cc e)
  row s q now w below answer at (move.sent id is some opens by) ok = inl (record {
    content = Q.content_of (Q.request_token s q) q;
    word = w;
    id = id;
    call_is = ap (λ o. Q.beneath o s.server (Q.content_of (Q.request_token s q) q) w) opens
        ∙ ap (λ to. L.Confirm to (Q.content_of (Q.request_token s q) q) w) at;
    sent = by;
  })

  asks_here : (t : List E.Call) (c : E.Call) → P.IsRight (W.own_of server setup t) c → AsksFor r token c
      → Ever (AsksCon server) (P.lower (W.own_of server setup t) c)
  asks_here t (E.Ask now q w below answer) right h =
      row (W.own_of server setup t) q now w below answer (server_is server setup t)
      (move.ask_row (W.own_of server setup t) q below answer right) (let e : answer ≡ Ok token = cc (h.is) in e)
  asks_here t _ right h = absurd (cc (h.is))

  asks_con : (later past : List E.Call) → W.AskerLaw server setup (later ++ past) → Ever (AsksFor r token) later
      → Ever (AsksCon server) (asked_by_client server setup past later)
  asks_con [] past law h = absurd h
  asks_con (c ∷ later) past law (inl h) = Ever_front (AsksCon server) (P.lower (W.own_of server setup (later ++ past))
      c)
      (asked_by_client server setup past later) (asks_here (later ++ past) c law.0 h)
  asks_con (c ∷ later) past law (inr h) = Ever_back (AsksCon server) (P.lower (W.own_of server setup (later ++ past)) c)
      (asked_by_client server setup past later) (asks_con later past law.1 h)

begins_to : (to : Endpoint) (e : L.Entry) → Confirms to e.call e.answer → BeginsTo to e
begins_to to e h =
    let is = ap (λ (c : L.Call). begun_in e.at c e.answer) h.call_is ∙ ap (open_of e.at to h.content h.word) h.sent in
    record { con = _; is = is; to_is = refl }

pub sends_begin : (server : Endpoint) (sizes : Sizes) (setup : Setup) (past : List Call) (c : Call)
    → ClientLaw server sizes setup (c ∷ past) → (x : Sending) → sends (own_of sizes past) c ≡ Some x
    → Ever (BeginsTo server) (call_adds server sizes setup past c)
sends_begin server sizes setup past c law x h =
    let k = steps_here server sizes setup past c law in
    let asks = call_asks server sizes setup past c in
    let there = asks_con server setup x.request x.token (lower (own_of sizes past) c)
    (lower_of sizes past) law.exchanges.rows (asked_if_sent (own_of sizes past) c x h) in
    subst (Ever (BeginsTo server)) (sym k.3) (Ever_map (λ (e : L.Entry). Confirms server e.call e.answer)
    (BeginsTo server) (begins_to server) (entries k.0 asks) (entry_of (Confirms server) k.0 k.1 asks k.2 there))

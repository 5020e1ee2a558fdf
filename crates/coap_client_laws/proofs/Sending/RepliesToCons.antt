-- A client replies to a response that comes in a CON in the next entry of its message layer.
use Rattle.std.proofs.Common.{◌≡◌, ◌⊎◌, inl, inr, ℕ, max, Bool, true, false, Option, Some, List, [], ◌∷◌, ◌++◌, refl}
use Rattle.std.proofs.Common.{ap, sym, subst, ◌∙◌, Result, append-nil}
use Rattle.std.proofs.lemmas.List.{append_assoc}
use Rattle.coap_types.specs.declared.endpoint.Endpoint.{Endpoint}
use Rattle.coap_types.specs.declared.message.Kind.{Kind}
use Rattle.coap_types.specs.declared.message.Kind.TheVariants.{Con}
use Rattle.coap_codec.specs.Message.{Message}
use Rattle.coap_layer.specs.EmptyMessages.{ack_bytes, reset_bytes}
use Rattle.coap_layer.specs.Trace as L
use Rattle.coap_layer.specs.Machine.State as S
use Rattle.coap_layer.specs.Machine.Steps as G
use Rattle.coap_layer.specs.Machine.Steps.{Steps, entries, left_after}
use Rattle.coap_layer.proofs.Facts.StepsOfLayer.{steps_split}
use Rattle.coap_layer.specs.declared.setup.Setup.{Setup}
use Rattle.coap_block.specs.Sizes.{Sizes}
use Rattle.coap_exchange.specs.declared.asker.AskRefusal.{AskRefusal}
use Rattle.coap_exchange.specs.declared.asker.Event.{Event}
use Rattle.coap_exchange.specs.declared.matching.Known.{Known}
use Rattle.coap_exchange.specs.declared.matching.Verdict.{Verdict}
use Rattle.coap_exchange.specs.AskerTrace as E
use Rattle.coap_exchange.specs.AskerArrivals.{known_of, verdict_on, reply_by, replying, settling, settles}
use Rattle.coap_exchange.specs.AskerRequests.{asked}
use Rattle.coap_exchange.specs.AskerSteps as P
use Rattle.coap_exchange.specs.AskerLaw as X
use Rattle.coap_exchange.specs.Matching.{judged}
use Rattle.coap_exchange.specs.Adds.{asked_by_client}
use Rattle.coap_exchange.proofs.Facts.Adds.{entries_append}
use Rattle.coap_client.specs.Trace.{Call, Feeds}
use Rattle.coap_client.specs.Effects.{Effect}
use Rattle.coap_client.specs.Events.{happened}
use Rattle.coap_client.specs.Deeds.{at, close, deeds}
use Rattle.coap_client.specs.Law.{ClientLaw, own_of, lower_of}
use Rattle.coap_client_laws.specs.Follows.Adds.{call_asks, call_adds}
use Rattle.coap_client_laws.specs.Follows.Replied.{RepliesNext, RepliesToCons}
use Rattle.coap_client_laws.proofs.Sending.Begun.{steps_here}
use Rattle.coap_client.proofs.Facts.Turning.Leading.{client_back}

-- a CON is replied to, whatever is known of it
abbrev Replies : ℕ → Verdict → Type 0
Replies id v = (b : List ℕ) × (reply_by v id ≡ Some b) × ((b ≡ ack_bytes id) ⊎ (b ≡ reset_bytes id))

abbrev known : (f o i p b c : Bool) → Known
known f o i p b c = record { from_server = f; of_exchange = o; same_id = i; kept = p; bad_option = b; cancelled = c }

replied_known : (id : ℕ) (f o i p b c : Bool) → Replies id (judged Con (known f o i p b c))
replied_known id true false i true false true = (ack_bytes id, refl, inl refl)
replied_known id true false i true false false = (ack_bytes id, refl, inl refl)
replied_known id true true i p false true = (ack_bytes id, refl, inl refl)
replied_known id true true i p false false = (ack_bytes id, refl, inl refl)
replied_known id _ _ i _ _ c = (reset_bytes id, refl, inr refl)

replied_con : (s : E.Own) (from : Endpoint) (m : Message) → m.kind ≡ Con
    → Replies m.id (verdict_on s from (L.Becomes (L.Response m)))
replied_con s from m con =
    let k = known_of s from m in
    subst (λ (kind : Kind). Replies m.id (judged kind k)) (sym con)
    (replied_known m.id k.from_server k.of_exchange k.same_id k.kept k.bad_option k.cancelled)

module _ (server : Endpoint) (setup : Setup) where
  -- what was asked first stands behind
  asked_behind : (past later first : List E.Call)
      → (front : List G.Asked) × (asked_by_client server setup past (later ++ first)
      ≡ front ++ asked_by_client server setup past first)
  asked_behind past [] first = ([], refl)
  asked_behind past (c ∷ later) first =
      let k = asked_behind past later first in
      let here : List G.Asked = P.lower (X.own_of server setup ((later ++ first) ++ past)) c in (
        here ++ k.0,
        ap (λ l. here ++ l) k.1 ∙ sym (append_assoc here k.0 (asked_by_client server setup past first)),
      )

  module _ (past : List E.Call) (now : ℕ) (from : Endpoint) (bytes : List ℕ) (m : Message) (settled : Bool)
      (event : Option Event) (con : m.kind ≡ Con) where
    abbrev up : L.Answer
    up = L.Becomes (L.Response m)

    abbrev s : E.Own
    s = X.own_of server setup past

    abbrev arrival : G.Asked
    arrival = asked now (L.Receive from bytes) up

    abbrev reply : List ℕ → G.Asked
    reply b = asked 0 (L.Reply from m.id b) L.Nothing

    replied : Replies m.id (verdict_on s from up)
    replied = replied_con s from m con

    received : asked_by_client server setup past (E.Receive now from bytes up settled event ∷ [])
        ≡ settling (settles (verdict_on s from up)) s.server s.running settled ++ reply replied.0 ∷ arrival ∷ []
    received =
        let z : List G.Asked = settling (settles (verdict_on s from up)) s.server s.running settled in
        append-nil (P.lower s (E.Receive now from bytes up settled event))
        ∙ (ap (λ o. (z ++ replying from m.id o) ++ arrival ∷ []) replied.1
        ∙ append_assoc z (reply replied.0 ∷ []) (arrival ∷ []))

module _ (server : Endpoint) (sizes : Sizes) (setup : Setup) where
  module _ (past : List Call) (now : ℕ) (from : Endpoint) (bytes : List ℕ) (w : ℕ) (m : Message) (settled : Bool)
      (event : Option Event) (sent : L.Answer) (token : Result (List ℕ) AskRefusal) (kept : Bool)
      (con : m.kind ≡ Con) where
    abbrev feed : Call
    feed = Feeds now from bytes w (L.Becomes (L.Response m)) settled event sent token kept

    abbrev moment : ℕ
    moment = max (own_of sizes past).clock now

    abbrev beneath : List E.Call
    beneath = lower_of sizes past

    abbrev effect : Effect
    effect = happened (at now (own_of sizes past)) moment event

    abbrev later : List E.Call
    later = deeds (close moment effect token).deed (close moment effect token).own moment w sent token kept

    abbrev first : List E.Call
    first = deeds effect.deed effect.own moment w sent token kept

    abbrev input : E.Call
    input = E.Receive moment from bytes (L.Becomes (L.Response m)) settled event

    -- the arrival and the reply are asked first
    asks : (front : List G.Asked) × (b : List ℕ) × ((b ≡ ack_bytes m.id) ⊎ (b ≡ reset_bytes m.id))
        × (call_asks server sizes setup past feed
        ≡ front ++ asked 0 (L.Reply from m.id b) L.Nothing
        ∷ asked moment (L.Receive from bytes) (L.Becomes (L.Response m)) ∷ [])
    unfolding asked_behind replied
    asks =
        let k = asked_behind server setup beneath later (first ++ input ∷ []) in
        let j = asked_behind server setup beneath first (input ∷ []) in
        let r = replied server setup beneath now from bytes m settled event con in
        let s : E.Own = X.own_of server setup beneath in
        let z : List G.Asked = settling (settles (verdict_on s from (L.Becomes (L.Response m)))) s.server s.running
        settled in
        let y : List G.Asked = asked 0 (L.Reply from m.id r.0) L.Nothing
        ∷ asked moment (L.Receive from bytes) (L.Becomes (L.Response m)) ∷ [] in (
          k.0 ++ (j.0 ++ z),
          r.0,
          r.2,
          k.1 ∙ (ap (λ l. k.0 ++ l) (j.1
              ∙ (ap (λ l. j.0 ++ l) (received server setup beneath moment from bytes m settled event con)
              ∙ sym (append_assoc j.0 z y))) ∙ sym (append_assoc k.0 (j.0 ++ z) y)),
        )

    replies_next : ClientLaw server sizes setup (feed ∷ past)
        → RepliesNext from bytes m (call_adds server sizes setup past feed)
    replies_next law =
        let k = steps_here server sizes setup past feed law in
        let a = asks in
        let old : S.State = k.0 in
        let last : G.Asked = asked moment (L.Receive from bytes) (L.Becomes (L.Response m)) in
        let reply : G.Asked = asked 0 (L.Reply from m.id a.1) L.Nothing in
        let steps = subst (λ (l : List G.Asked). Steps old l k.1) a.3 k.2 in
        let parts = steps_split old k.1 a.0 (reply ∷ last ∷ []) steps in
        let step = parts.1.1 in
        let right : L.Becomes (L.Response m) ≡ S.answer_of old (S.moment old moment (L.Receive from bytes))
        (L.Receive from bytes) = subst (λ (z : S.State). L.Becomes (L.Response m)
        ≡ S.answer_of z (S.moment z moment (L.Receive from bytes)) (L.Receive from bytes)) step.1 step.2.right in
        record {
          later = entries (left_after old (reply ∷ last ∷ [])) a.0;
          reply = S.made (left_after old (last ∷ [])) 0 (L.Reply from m.id a.1);
          arrival = S.made old moment (L.Receive from bytes);
          adds_are = k.3 ∙ (ap (entries old) a.3 ∙ entries_append old a.0 (reply ∷ last ∷ []));
          came = refl;
          up = sym right;
          empty = a.1;
          replies = refl;
          is_empty = a.2;
          at_once = refl;
        }

  here : (past : List Call) (c : Call) → ClientLaw server sizes setup (c ∷ past) → (now : ℕ) (from : Endpoint)
      (bytes : List ℕ) (w : ℕ) (m : Message) (settled : Bool) (event : Option Event) (sent : L.Answer)
      (token : Result (List ℕ) AskRefusal) (kept : Bool)
      → c ≡ Feeds now from bytes w (L.Becomes (L.Response m)) settled event sent token kept → m.kind ≡ Con
      → RepliesNext from bytes m (call_adds server sizes setup past c)
  here past c law now from bytes w m settled event sent token kept is con =
      subst (λ (d : Call). RepliesNext from bytes m (call_adds server sizes setup past d)) (sym is)
      (replies_next past now from bytes w m settled event sent token kept con
      (subst (λ (d : Call). ClientLaw server sizes setup (d ∷ past)) is law))

  pub replies_to_cons : (t : List Call) → ClientLaw server sizes setup t → RepliesToCons server sizes setup t
  replies_to_cons [] law = tt
  replies_to_cons (c ∷ t) law = (here t c law, replies_to_cons t (client_back server sizes setup (c ∷ []) t law))

-- Two CONs of a client have one token where they are an observation and its cancel, alone.
use Rattle.std.proofs.Common.{◌≡◌, ◌⊎◌, ◌<◌, inl, inr, ℕ, max, Bool, true, false, Option, Some, None, List, ◌∷◌, ◌++◌}
use Rattle.std.proofs.Common.{[], refl, ap, sym, subst, ◌∙◌, Result, Ok, Err, arith}
use Rattle.coap_types.specs.Past.{Ever, Always}
use Rattle.coap_types.proofs.Facts.Traces.{Ever_append, Ever_map}
use Rattle.coap_types.specs.declared.endpoint.Endpoint.{Endpoint}
use Rattle.coap_types.specs.declared.message.Kind.TheVariants.{Con}
use Rattle.coap_codec.specs.Message.{Message, Spells}
use Rattle.coap_codec.proofs.Facts.EveryDatagram.{one_message}
use Rattle.coap_layer.specs.Trace as L
use Rattle.coap_layer.specs.declared.setup.Setup.{Setup}
use Rattle.coap_layer.specs.Trace.{with_head}
use Rattle.coap_layer.specs.Words.{Open, begun}
use Rattle.coap_layer.specs.Rows.{LayerLaw}
use Rattle.coap_layer.specs.Sends.{SpellsCon}
use Rattle.coap_layer.specs.Machine.State as S
use Rattle.coap_layer.specs.Machine.Steps.{Asked, Steps, entries}
use Rattle.coap_layer.proofs.Facts.Laws.{spelled_begun}
use Rattle.coap_block.specs.Sizes.{Sizes}
use Rattle.coap_exchange.specs.declared.asker.AskRefusal.{AskRefusal}
use Rattle.coap_exchange.specs.declared.asker.Exchange.{Exchange}
use Rattle.coap_exchange.specs.declared.matching.Verdict.{Verdict}
use Rattle.coap_exchange.specs.AskerTrace as E
use Rattle.coap_exchange.specs.AskerRequests as Q
use Rattle.coap_exchange.specs.AskerArrivals as R
use Rattle.coap_exchange.specs.AskerSteps as P
use Rattle.coap_exchange.specs.AskerLaw as W
use Rattle.coap_exchange.specs.Adds.{asked_by_client}
use Rattle.coap_client.specs.Trace.{Call, Calls, Observes, Cancels, Forgets, Feeds, Ticks, NextOut, NextReport}
use Rattle.coap_client.specs.Trace as C
use Rattle.coap_client.specs.Own.{Operation, Cancelling, Own, Observation}
use Rattle.coap_client.specs.Observations.{observation_of}
use Rattle.coap_client.specs.Requests.{message_of}
use Rattle.coap_client.specs.Effects.{Deed, Rests, Asks, Keeps, Releases, Effect, has_sent}
use Rattle.coap_client.specs.Observing.{releases}
use Rattle.coap_client.specs.Events.{failed, happened, passes, closed}
use Rattle.coap_client.specs.Deeds.{at, deeds}
use Rattle.coap_client.specs.Steps.{lower}
use Rattle.coap_client.specs.Law.{ClientLaw, own_of, lower_of, layer_of}
use Rattle.coap_client.specs.Sendings.{Sending}
use Rattle.coap_client_laws.proofs.Sending.ConsAreRequests.{Asks as BeginsCon, asks_at, asked_for}
use Rattle.coap_client.proofs.Facts.Turning.Leading.{client_back, client_layer}
use Rattle.coap_client_laws.specs.Follows.Adds.{call_asks, call_adds}
use Rattle.coap_client_laws.specs.Follows.Begins.{IsRequestOf}
use Rattle.coap_client_laws.specs.Follows.Tokens.{Ends, OneConOrCancel}
use Rattle.coap_client_laws.proofs.Sending.Begun.{layer_next, steps_here, begins_now, cons_are_requests}
use Rattle.coap_client_laws.proofs.Sending.Tokens.{own_tokens}

-- a call of the layer that begins a CON, and a request that is asked
abbrev Confirms : Asked → Type 0
Confirms a = (to : Endpoint) × (content : L.Content) × (word : ℕ) × (a.call ≡ L.Confirm to content word)

abbrev IsAsk : E.Call → Type 0
IsAsk (E.Ask now r w below answer) = Unit {0}
IsAsk c = ⊥

-- at most one of them
abbrev Single : {X : Type 0} → (X → Type 0) → List X → Type 0
Single P xs = Always (λ past e. P e → Ever P past → ⊥) xs

single_none : {X : Type 0} (P : X → Type 0) (xs ys : List X) → (Ever P xs → ⊥) → Single P ys → Single P (xs ++ ys)
single_none P [] ys none h = h
single_none P (x ∷ xs) ys none h = (λ is before. none (inl is), single_none P xs ys (λ e. none (inr e)) h)

no_confirm_reply : (from : Endpoint) (id : ℕ) (o : Option (List ℕ)) → Ever Confirms (R.replying from id o) → ⊥
no_confirm_reply from id None h = h
no_confirm_reply from id (Some bytes) (inl h) = cc (h.3)
no_confirm_reply from id (Some bytes) (inr h) = h

no_confirm_settle : (b : Bool) (server : Endpoint) (o : Option Exchange) (settled : Bool)
    → Ever Confirms (R.settling b server o settled) → ⊥
no_confirm_settle true server (Some x) settled (inl h) = cc (h.3)
no_confirm_settle true server (Some x) settled (inr h) = h
no_confirm_settle true server None settled h = h
no_confirm_settle false server o settled h = h

-- what is no request begins none
quiet_call : (s : E.Own) (c : E.Call) → (IsAsk c → ⊥) → Ever Confirms (P.lower s c) → ⊥
quiet_call s (E.Ask now r w below answer) apart h = apart tt
quiet_call s (E.Receive now from bytes up settled answer) apart h =
    let v : Verdict = R.verdict_on s from up in
    elim (Ever_append Confirms (R.acts s from up settled v) (Q.asked now (L.Receive from bytes) up ∷ []) h) [
      | inl p ↦ elim (Ever_append Confirms (R.settling (R.settles v) s.server s.running settled)
          (R.replying from (R.id_in up) (R.reply_by v (R.id_in up))) p) [
            | inl x ↦ no_confirm_settle (R.settles v) s.server s.running settled x
            | inr y ↦ no_confirm_reply from (R.id_in up) (R.reply_by v (R.id_in up)) y
          ]
      | inr q ↦ elim q [ inl x ↦ cc (x.3) | inr y ↦ y ]
    ]
quiet_call s (E.Ticks now below answer) apart (inr h) = h
quiet_call s (E.Keep token answer) apart h = h
quiet_call s (E.Release token answer) apart h = h
quiet_call s (E.Take answer) apart (inr h) = h
quiet_call s _ apart (inl h) = cc (h.3)

module _ (server : Endpoint) (setup : Setup) where
  abbrev beneath_of : List E.Call → List E.Call → List Asked
  beneath_of past later = asked_by_client server setup past later

  quiet_all : (past later : List E.Call) → (Ever IsAsk later → ⊥) → Ever Confirms (beneath_of past later) → ⊥
  quiet_all past [] none h = h
  quiet_all past (c ∷ later) none h = elim (Ever_append Confirms (P.lower (W.own_of server setup (later ++ past)) c)
      (beneath_of past later) h) [
        | inl p ↦ quiet_call (W.own_of server setup (later ++ past)) c (λ is. none (inl is)) p
        | inr q ↦ quiet_all past later (λ e. none (inr e)) q
      ]

  single_beneath : (past later : List E.Call) → Single IsAsk later → Single Confirms (beneath_of past later)
  single_beneath past [] h = tt
  single_beneath past (E.Ask now r w below answer ∷ later) h =
      (λ is before. quiet_all past later (λ e. h.0 tt e) before, single_beneath past later h.1)
  single_beneath past (E.Receive now from bytes up settled answer ∷ later) h =
      let c : E.Call = E.Receive now from bytes up settled answer in
      single_none Confirms (P.lower (W.own_of server setup (later ++ past)) c) (beneath_of past later)
      (quiet_call (W.own_of server setup (later ++ past)) c (λ z. z)) (single_beneath past later h.1)
  single_beneath past (E.Ticks now below answer ∷ later) h =
      let c : E.Call = E.Ticks now below answer in
      single_none Confirms (P.lower (W.own_of server setup (later ++ past)) c) (beneath_of past later)
      (quiet_call (W.own_of server setup (later ++ past)) c (λ z. z)) (single_beneath past later h.1)
  single_beneath past (E.Take answer ∷ later) h =
      let c : E.Call = E.Take answer in
      single_none Confirms (P.lower (W.own_of server setup (later ++ past)) c) (beneath_of past later)
      (quiet_call (W.own_of server setup (later ++ past)) c (λ z. z)) (single_beneath past later h.1)
  single_beneath past (_ ∷ later) h = single_beneath past later h.1

-- a call of the client asks for one request at most

no_ask_release : (o : Option Observation) (s : Own) (now w : ℕ) (sent : L.Answer) (token : Result (List ℕ) AskRefusal)
    (kept : Bool) → Ever IsAsk (deeds (releases o) s now w sent token kept) → ⊥
no_ask_release None s now w sent token kept h = h
no_ask_release (Some o) s now w sent token kept (inl h) = h
no_ask_release (Some o) s now w sent token kept (inr h) = h

no_ask_failed : (e : Effect) (o : Operation) (now w : ℕ) (sent : L.Answer) (token : Result (List ℕ) AskRefusal)
    (kept : Bool) → Ever IsAsk (deeds (failed has_sent C.NoIds e.own (Some o)).deed
    (failed has_sent C.NoIds e.own (Some o)).own now w sent token kept) → ⊥
no_ask_failed e (Cancelling k) now w sent token kept h =
    no_ask_release (observation_of k e.own.observations) _ now w sent token kept h
no_ask_failed e _ now w sent token kept h = h

single_asked : (now w : ℕ) (sent : L.Answer) (kept : Bool) (input : E.Call) → (IsAsk input → ⊥)
    → (e : Effect) (token : Result (List ℕ) AskRefusal) (d : Deed) → e.deed ≡ d
    → Single IsAsk (deeds (closed now e d token).deed (closed now e d token).own now w sent token kept
    ++ (deeds d e.own now w sent token kept ++ input ∷ []))
single_asked now w sent kept input apart e token Rests is =
    single_none IsAsk (deeds e.deed e.own now w sent token kept) (input ∷ [])
    (λ h. subst (λ d. Ever IsAsk (deeds d e.own now w sent token kept)) is h) (λ a b. b, tt)
single_asked now w sent kept input apart e (Ok key) (Asks op) is =
    (λ a b. (elim b [ inl x ↦ apart x | inr y ↦ y ]), (λ a b. b, tt))
single_asked now w sent kept input apart e (Err why) (Asks op) is =
    single_none IsAsk (deeds (failed has_sent C.NoIds e.own (Some op)).deed
    (failed has_sent C.NoIds e.own (Some op)).own now w sent (Err why) kept)
    (E.Ask now (message_of e.own.observations op) w sent (Err why) ∷ input ∷ [])
    (no_ask_failed e op now w sent (Err why) kept) (λ a b. (elim b [ inl x ↦ apart x | inr y ↦ y ]), (λ a b. b, tt))
single_asked now w sent kept input apart e token _ is = (λ a b. a, (λ a b. b, tt))

single_lower : (s : Own) (c : Call) → Single IsAsk (lower s c)
single_lower s (Feeds now from bytes w up settled event sent token kept) =
    let m : ℕ = max s.clock now in
    let e : Effect = happened (at now s) m event in
    single_asked m w sent kept (E.Receive m from bytes up settled event) (λ z. z) e token e.deed refl
single_lower s (Ticks now w below turn sent token kept answer) =
    let m : ℕ = max s.clock now in
    let e : Effect = passes (at now s) m turn in
    single_asked m w sent kept (E.Ticks m below turn) (λ z. z) e token e.deed refl
single_lower s (Forgets k kept true) = released (observation_of k s.observations)
  where
    released : (o : Option Observation) → Single IsAsk (deeds (releases o) s 0 0 L.Nothing (Ok []) kept)
    released None = tt
    released (Some o) = (λ a b. a, tt)
single_lower s (NextOut answer) = (λ a b. a, tt)
single_lower s _ = tt

-- where one is begun at most, two are one
begun_once : (a b : Open) (old new : S.State) (calls : List Asked) → Single Confirms calls → Steps old calls new
    → Ever (λ e. begun e ≡ Some a) (entries old calls) → Ever (λ e. begun e ≡ Some b) (entries old calls) → a ≡ b
begun_once a b old new [] once steps h k = absurd h
begun_once a b old new (c ∷ earlier) once steps (inl h) (inl k) = cc (h, k)
begun_once a b old new (c ∷ earlier) once steps (inl h) (inr k) =
    let x = asks_at a old new c earlier steps h in
    absurd (once.0 (a.to, x.content, x.word, x.call)
    (Ever_map (BeginsCon b) Confirms (λ e g. (b.to, g.content, g.word, g.call)) earlier
    (asked_for b old steps.0 earlier steps.1 k)))
begun_once a b old new (c ∷ earlier) once steps (inr h) (inl k) =
    let x = asks_at b old new c earlier steps k in
    absurd (once.0 (b.to, x.content, x.word, x.call)
    (Ever_map (BeginsCon a) Confirms (λ e g. (a.to, g.content, g.word, g.call)) earlier
    (asked_for a old steps.0 earlier steps.1 h)))
begun_once a b old new (c ∷ earlier) once steps (inr h) (inr k) = begun_once a b old steps.0 earlier once.1 steps.1 h k

-- the token of what it spells
token_of_con : (server : Endpoint) (con : Open) (m : Message) (x : Sending) → Spells con.bytes m
    → con.id < 65536 → IsRequestOf server con x → m.token ≡ x.token
token_of_con server con m x s small h =
    let whole = with_head Con con.id (Q.content_of x.token x.request) in
    let same : m ≡ whole = one_message con.bytes m whole s
    (subst (λ z. Spells z whole) (sym h.bytes) (h.spelled Con con.id small)) in
    ap (λ (z : Message). z.token) same

small_id : (setup : Setup) (t : List L.Entry) (con : Open) → LayerLaw setup t → Ever (λ e. begun e ≡ Some con) t
    → con.id < 65536
small_id setup t con law h = let k : SpellsCon con = spelled_begun setup t con law h in let low = k.1.id in let e =
    k.3 in omega (arith, low, e)

module _ (server : Endpoint) (sizes : Sizes) (setup : Setup) (a b : Open) (x y : Message)
    (sa : Spells a.bytes x) (sb : Spells b.bytes y) (same : x.token ≡ y.token) (small_a : a.id < 65536)
    (small_b : b.id < 65536) where
  abbrev OfOne : List Call → Type 0
  OfOne t = (a ≡ b) ⊎ (Ends server sizes t a b ⊎ Ends server sizes t b a)

  ends_later : (t : List Call) (c : Call) (p q : Open) → Ends server sizes t p q → Ends server sizes (c ∷ t) p q
  ends_later t c p q k = record {
    first = k.first;
    second = k.second;
    first_sent = inr k.first_sent;
    second_sent = inr k.second_sent;
    begins = k.begins;
    ends = k.ends;
    deregisters = k.deregisters;
  }

  one_later : (t : List Call) (c : Call) → OfOne t → OfOne (c ∷ t)
  one_later t c (inl k) = inl k
  one_later t c (inr (inl k)) = inr (inl (ends_later t c a b k))
  one_later t c (inr (inr k)) = inr (inr (ends_later t c b a k))

  same_token : (u v : Sending) → IsRequestOf server a u → IsRequestOf server b v → u.token ≡ v.token
  same_token u v h k = sym (token_of_con server a x u sa small_a h)
      ∙ (same ∙ token_of_con server b y v sb small_b k)

  con_here : (t : List Call) (c : Call) → ClientLaw server sizes setup (c ∷ t)
      → Ever (λ e. begun e ≡ Some a) (call_adds server sizes setup t c)
      → Ever (λ e. begun e ≡ Some b) (call_adds server sizes setup t c) → a ≡ b
  con_here t c law h k =
      let z = steps_here server sizes setup t c law in
      begun_once a b z.0 z.1 (call_asks server sizes setup t c)
      (single_beneath server setup (lower_of sizes t) (lower (own_of sizes t) c) (single_lower (own_of sizes t) c)) z.2
      (subst (Ever (λ e. begun e ≡ Some a)) z.3 h) (subst (Ever (λ e. begun e ≡ Some b)) z.3 k)

  two_cons : (t : List Call) → ClientLaw server sizes setup t → Ever (λ e. begun e
      ≡ Some a) (layer_of server sizes setup t)
      → Ever (λ e. begun e ≡ Some b) (layer_of server sizes setup t) → OfOne t
  two_cons [] law h k = absurd h
  two_cons (c ∷ t) law h k =
      by (Ever_append (λ e. begun e ≡ Some a) (call_adds server sizes setup t c) (layer_of server sizes setup t)
      (subst (Ever (λ e. begun e ≡ Some a)) (layer_next server sizes setup t c) h))
      (Ever_append (λ e. begun e ≡ Some b) (call_adds server sizes setup t c) (layer_of server sizes setup t)
      (subst (Ever (λ e. begun e ≡ Some b)) (layer_next server sizes setup t c) k))
      (client_back server sizes setup (c ∷ []) t law) (two_cons t (client_back server sizes setup (c ∷ []) t law))
    where
      by : Ever (λ e. begun e ≡ Some a) (call_adds server sizes setup t c)
          ⊎ Ever (λ e. begun e ≡ Some a) (layer_of server sizes setup t)
          → Ever (λ e. begun e ≡ Some b) (call_adds server sizes setup t c)
          ⊎ Ever (λ e. begun e ≡ Some b) (layer_of server sizes setup t)
          → ClientLaw server sizes setup t → (Ever (λ e. begun e ≡ Some a) (layer_of server sizes setup t)
          → Ever (λ e. begun e ≡ Some b) (layer_of server sizes setup t) → OfOne t) → OfOne (c ∷ t)
      by (inl now) (inl here) past ih = inl (con_here t c law now here)
      by (inl now) (inr before) past ih =
          let u = begins_now server sizes setup t c law a now in
          let v = cons_are_requests server sizes setup t past b before in
          let d = (own_tokens sizes server setup (c ∷ t) law).0 u.sending v.0 u.sends_it v.1
          (sym (same_token u.sending v.0 u.is v.2)) in
          inr (inr (record {
            first = v.0;
            second = u.sending;
            first_sent = inr v.1;
            second_sent = inl u.sends_it;
            begins = v.2;
            ends = u.is;
            deregisters = d;
          }))
      by (inr before) (inl now) past ih =
          let u = begins_now server sizes setup t c law b now in
          let v = cons_are_requests server sizes setup t past a before in
          let d = (own_tokens sizes server setup (c ∷ t) law).0 u.sending v.0 u.sends_it v.1
          (same_token v.0 u.sending v.2 u.is) in
          inr (inl (record {
            first = v.0;
            second = u.sending;
            first_sent = inr v.1;
            second_sent = inl u.sends_it;
            begins = v.2;
            ends = u.is;
            deregisters = d;
          }))
      by (inr p) (inr q) past ih = one_later t c (ih p q)

pub one_con : (server : Endpoint) (sizes : Sizes) (setup : Setup) (t : List Call) → ClientLaw server sizes setup t
    → OneConOrCancel server sizes setup t
one_con server sizes setup t law a b h k x y sa sb same =
    let layer = client_layer server sizes setup t law in
    two_cons server sizes setup a b x y sa sb same (small_id setup
    (layer_of server sizes setup t) a layer h)
    (small_id setup (layer_of server sizes setup t) b layer k) t law h k

-- The request of the exchange that is open is a CON that began with it, and is not acknowledged as it begins.
use Rattle.std.proofs.Common.{◌≡◌, ◌⊎◌, inl, inr, ⊎_elim, ℕ, max, Bool, Option, Some, None, List, [], ◌∷◌}
use Rattle.std.proofs.Common.{◌++◌, refl, ap, sym, subst, ◌∙◌, Result, Ok, Err}
use Rattle.coap_types.specs.Past.{Ever}
use Rattle.coap_types.proofs.Facts.Traces.{Ever_append, Ever_back}
use Rattle.coap_types.specs.declared.endpoint.Endpoint.{Endpoint}
use Rattle.coap_layer.specs.Rows.{LayerLaw}
use Rattle.coap_layer.specs.Sends.{as_begun, IsOpen}
use Rattle.coap_layer.specs.Trace as L
use Rattle.coap_layer.specs.Words.{Open, begun, outstanding}
use Rattle.coap_layer.proofs.Facts.Sendings.{was_begun}
use Rattle.coap_layer.specs.declared.setup.Setup.{Setup}
use Rattle.coap_block.specs.Sizes.{Sizes}
use Rattle.coap_exchange.specs.AskerArrivals.{acked_in}
use Rattle.coap_exchange.specs.AskerLaw as X
use Rattle.coap_exchange.specs.AskerTrace as E
use Rattle.coap_exchange.specs.declared.asker.AskRefusal.{AskRefusal}
use Rattle.coap_exchange.specs.declared.asker.Exchange.{Exchange}
use Rattle.coap_exchange.proofs.Facts.Moves as move
use Rattle.coap_exchange.proofs.Facts.Moves.{opened_some, ask_row}
use Rattle.coap_client.specs.Deeds.{effect, deeds}
use Rattle.coap_client.specs.Effects.{Deed, Asks, Effect}
use Rattle.coap_client.specs.Events.{closed}
use Rattle.coap_client_laws.specs.Follows.Adds.{call_adds}
use Rattle.coap_client_laws.specs.Follows.Begins.{IsRequestOf, SendsNow}
use Rattle.coap_client.specs.Sendings.{Sending, sends, sent_by}
use Rattle.coap_client.specs.Law.{ClientLaw, own_of, lower_of, layer_of}
use Rattle.coap_client.specs.Own.{Operation}
use Rattle.coap_client.specs.Requests.{message_of}
use Rattle.coap_client.specs.Trace as C
use Rattle.coap_client_laws.proofs.Facts.Laws.{back, begins_now, layer, layer_next}
use Rattle.coap_client_laws.proofs.Facts.Exchanges.{open_before}
use Rattle.coap_smooth.proofs.Smoothly.Answers.ExchangeOpen.{OpenOf, Runs, runs_of, Lonely, Waited, lonely, last_of}
use Rattle.coap_smooth.proofs.Smoothly.Answers.ExchangeOpen.{is_last}

-- what is outstanding was begun
pub open_was_begun : (t : List L.Entry) (y : Open) → IsOpen t y → Ever (λ b. begun b ≡ Some y) t
open_was_begun t y o = found (outstanding t) (λ z k. was_begun t z k) o
  where
    found : (cs : List Open) → ((z : Open) → Ever (λ w. w ≡ z) cs → Ever (λ b. begun b ≡ Some (as_begun z)) t)
        → Ever (λ z. as_begun z ≡ y) cs → Ever (λ b. begun b ≡ Some y) t
    found [] f h = absurd h
    found (z ∷ cs) f (inl h) = subst (λ w. Ever (λ b. begun b ≡ Some w) t) h (f z (inl refl))
    found (z ∷ cs) f (inr h) = found cs (λ w k. f w (inr k)) h

-- what is sent is asked for, and taken
record IsAsked (e : Effect) (d : Deed) (token : Result (List ℕ) AskRefusal) : Type 0 where
  operation : Operation
  key : List ℕ
  asks : d ≡ Asks operation
  given : token ≡ Ok key

asked_by : (e : Effect) (d : Deed) (token : Result (List ℕ) AskRefusal) (x : Sending) → sent_by e d token ≡ Some x
    → IsAsked e d token
asked_by e (Asks op) (Ok key) x h = record { operation = op; key = key; asks = refl; given = refl }
asked_by e _ _ x h = absurd (cc h)

module _ (server : Endpoint) (setup : Setup) where
  abbrev running : List E.Call → Option Exchange
  running t = (X.own_of server setup t).running

  abbrev Fresh : List E.Call → Type 0
  Fresh t = (y : Exchange) → running t ≡ Some y → y.acked ≡ None

  module _ (e : Effect) (m w : ℕ) (sent : L.Answer) (kept : Bool) (input : E.Call) (past : List E.Call) where
    abbrev behind : Deed → Result (List ℕ) AskRefusal → List E.Call
    behind d token = (deeds (closed m e d token).deed (closed m e d token).own m w sent token kept
        ++ (deeds d e.own m w sent token kept ++ input ∷ [])) ++ past

    asked_fresh : (op : Operation) (key : List ℕ) → X.AskerLaw server setup (behind (Asks op) (Ok key))
        → Fresh (behind (Asks op) (Ok key))
    asked_fresh op key law y runs = by (ask_row mid r sent (Ok key) law.0)
      where
        mid : E.Own
        mid = X.own_of server setup (input ∷ past)

        r : E.Request
        r = message_of e.own.observations op

        by : move.AskRow mid r sent (Ok key) → y.acked ≡ None
        by (move.refused why is none) = let k : Ok key ≡ Err why = is in absurd (cc k)
        by (move.sent id is some opens by_id) =
            let z = sym (ap (λ (o : E.Own). o.running) (opened_some mid r sent id some)) ∙ runs in
            ap acked_in (sym z)

    fresh_for : (d : Deed) (token : Result (List ℕ) AskRefusal) → IsAsked e d token
        → X.AskerLaw server setup (behind d token) → Fresh (behind d token)
    fresh_for d token k law =
        let a : behind d token ≡ behind (Asks k.operation) (Ok k.key) =
        ap (λ z. behind z token) k.asks ∙ ap (behind (Asks k.operation)) k.given in
        subst Fresh (sym a) (asked_fresh k.operation k.key (subst (X.AskerLaw server setup) a law))

module _ (server : Endpoint) (sizes : Sizes) (setup : Setup) where
  pub fresh : (t : List C.Call) (c : C.Call) → ClientLaw server sizes setup (c ∷ t) → (x : Sending)
      → sends (own_of sizes t) c ≡ Some x → Fresh server setup (lower_of sizes (c ∷ t))
  fresh t (C.Feeds now from bytes w up settled event sent token kept) law x h =
      let c : C.Call = C.Feeds now from bytes w up settled event sent token kept in
      let m : ℕ = max (own_of sizes t).clock now in
      let e = effect (own_of sizes t) c in
      fresh_for server setup e m w sent kept (E.Receive m from bytes up settled event) (lower_of sizes t) e.deed token
      (asked_by e e.deed token x h) law.exchanges.rows
  fresh t (C.Ticks now w below turn sent token kept answer) law x h =
      let c : C.Call = C.Ticks now w below turn sent token kept answer in
      let m : ℕ = max (own_of sizes t).clock now in
      let e = effect (own_of sizes t) c in
      fresh_for server setup e m w sent kept (E.Ticks m below turn) (lower_of sizes t) e.deed token
      (asked_by e e.deed token x h) law.exchanges.rows
  fresh t _ law x h = absurd (cc h)

  -- Since the exchange began nothing is outstanding but this CON.
  abbrev pub Alone : Open → (at : ℕ) (x : Sending) (t : List C.Call) → OpenOf server sizes setup at x t → Type 0
  Alone con at x [] o = ⊥
  Alone con at x (c ∷ t) (inl o) = (y : Open) → IsOpen (layer_of server sizes setup (c ∷ t)) y → y ≡ con
  Alone con at x (c ∷ t) (inr o) =
      ((y : Open) → IsOpen (layer_of server sizes setup (c ∷ t)) y → y ≡ con) × Alone con at x t o.3

  pub alone_now : (con : Open) (at : ℕ) (x : Sending) (t : List C.Call) (o : OpenOf server sizes setup at x t)
      → Alone con at x t o → (y : Open) → IsOpen (layer_of server sizes setup t) y → y ≡ con
  alone_now con at x [] o a = absurd o
  alone_now con at x (c ∷ t) (inl o) a = a
  alone_now con at x (c ∷ t) (inr o) a = a.0

  -- its CON
  pub record HasCon (at : ℕ) (x : Sending) (t : List C.Call) (o : OpenOf server sizes setup at x t) : Type 0 where
    pub con : Open
    pub begun_before : Ever (λ b. begun b ≡ Some con) (layer_of server sizes setup t)
    pub first : con.first ≡ at
    pub is : IsRequestOf server con x
    pub alone : Alone con at x t o

  -- what is outstanding behind a call that sends nothing was so before
  pub still_open : (c : C.Call) (t : List C.Call) → ClientLaw server sizes setup (c ∷ t) → sends (own_of sizes t) c
      ≡ None
      → (y : Open) → IsOpen (layer_of server sizes setup (c ∷ t)) y → IsOpen (layer_of server sizes setup t) y
  still_open c t law none y o =
      let adds = call_adds server sizes setup t c in
      let past = layer_of server sizes setup t in
      let next = layer_next server sizes setup t c in
      let here = subst (λ l. IsOpen l y) next o in
      let law_here = subst (LayerLaw setup) next (layer server sizes setup (c ∷ t) law) in
      let there = open_was_begun (adds ++ past) y here in
      ⊎_elim (λ now. absurd (never ((begins_now server sizes setup (c ∷ t) law).0 y now)))
      (λ b. open_before setup adds past y law_here b here)
      (Ever_append (λ b. begun b ≡ Some y) adds past there)
    where
      never : SendsNow server sizes y t c → ⊥
      never k = let z : None ≡ Some k.sending = sym none ∙ k.sends_it in cc z

  pub has_con : (at : ℕ) (x : Sending) (t : List C.Call) → ClientLaw server sizes setup t
      → (o : OpenOf server sizes setup at x t) → HasCon at x t o
  has_con at x [] law o = absurd o
  has_con at x (c ∷ t) law (inr o) =
      let k = has_con at x t (back server sizes setup (c ∷ []) t law) o.3 in
      record {
        con = k.con;
        begun_before = subst (Ever (λ b. begun b ≡ Some k.con)) (sym (layer_next server sizes setup t c))
            (Ever_back (λ b. begun b ≡ Some k.con) _ (layer_of server sizes setup t) k.begun_before);
        first = k.first;
        is = k.is;
        alone = (
          λ y w. alone_now k.con at x t o.3 k.alone y (still_open c t law o.0 y w),
          k.alone,
        );
      }
  has_con at x (c ∷ t) law (inl o) =
      let r = runs_of server sizes setup at x (c ∷ t) law (inl o) in
      by r (lonely server sizes setup at x (c ∷ t) law r)
    where
      by : (r : Runs server sizes setup at x (c ∷ t)) → Lonely server sizes setup at x r.exchange (c ∷ t)
          ⊎ Waited server sizes setup r.exchange (c ∷ t) → HasCon at x (c ∷ t) (inl o)
      by r (inr k) = absurd (k.acked (fresh t c law x o.0 r.exchange r.runs))
      by r (inl k) =
          let all = layer_of server sizes setup (c ∷ t) in
          let there = was_begun all k.con (subst (Ever (λ y. y ≡ k.con)) (sym k.only) (inl refl)) in
          let stays : IsOpen all (as_begun k.con) =
          subst (Ever (λ y. as_begun y ≡ as_begun k.con)) (sym k.only) (inl refl) in
          let l = is_last server sizes setup (as_begun k.con) (c ∷ t) law there stays in
          let both : Some l.sending ≡ Some x = sym l.last ∙ last_of server sizes setup at x (c ∷ t) (inl o) in
          let same : l.sending ≡ x = cc both in
          record {
            con = as_begun k.con;
            begun_before = there;
            first = k.first;
            is = subst (IsRequestOf server (as_begun k.con)) same l.is;
            alone = λ y w. elim (subst (Ever (λ z. as_begun z ≡ y)) k.only w) [
              | inl z ↦ sym z
              | inr z ↦ absurd z
            ];
          }

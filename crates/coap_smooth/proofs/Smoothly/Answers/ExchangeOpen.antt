-- The exchange that is open at a client: the request that was sent last, which no call since then answered or ended.
use Rattle.std.proofs.Common.{◌≡◌, ◌⊎◌, inl, inr, ℕ, Option, Some, None, List, [], ◌∷◌, ◌++◌}
use Rattle.std.proofs.Common.{refl, ap, sym, subst, ◌∙◌, option_to_list, is_some}
use Rattle.std.specs.List.{filter_map}
use Rattle.coap_types.specs.Past.{Ever}
use Rattle.coap_types.proofs.Facts.Traces.{Ever_append}
use Rattle.coap_types.specs.declared.endpoint.Endpoint.{Endpoint}
use Rattle.coap_layer.specs.Machine.State.{State, start, made}
use Rattle.coap_layer.specs.Machine.Steps.{Asked, left_after, entries}
use Rattle.coap_layer.specs.Rows.{LayerLaw}
use Rattle.coap_layer.specs.Sends.{IsOpen}
use Rattle.coap_layer.specs.Trace as L
use Rattle.coap_layer.specs.Words.{Open, begun, left_by, outstanding}
use Rattle.coap_layer.proofs.Facts.Calls.{steps_left}
use Rattle.coap_layer.specs.declared.setup.Setup.{Setup}
use Rattle.coap_block.specs.Sizes.{Sizes}
use Rattle.coap_exchange.specs.AskerLaw as X
use Rattle.coap_exchange.specs.AskerFollows.{Begun, last_begun}
use Rattle.coap_exchange.specs.Machine.Outstanding.{Lone}
use Rattle.coap_exchange.specs.declared.asker.Exchange.{Exchange}
use Rattle.coap_exchange.proofs.Facts.Exchanges.{fits}
use Rattle.coap_client_laws.specs.Follows.Adds.{all_asked, call_adds}
use Rattle.coap_client_laws.specs.Follows.Begins.{IsRequestOf}
use Rattle.coap_client_laws.specs.Follows.Clock.{moment_of}
use Rattle.coap_client_laws.specs.Follows.Ends.{ends_as}
use Rattle.coap_client_laws.specs.Follows.Open.{IsOpenSince, RunsSince}
use Rattle.coap_client.specs.Sendings.{Sending, sends, hears, last_sent}
use Rattle.coap_client.specs.Law.{ClientLaw, own_of, lower_of, layer_of}
use Rattle.coap_client.specs.Trace.{Call}
use Rattle.coap_client_laws.proofs.Facts.Exchanges.{open_runs, sends_begin, BeginsTo, open_before, closed_by}
use Rattle.coap_client_laws.proofs.Facts.Laws.{back, layer, layer_next, begins_now}

-- what the layer's calls leave outstanding is what their entries say
pub open_kept : (setup : Setup) (calls : List Asked) → (left_after (start setup) calls).open_cons
    ≡ outstanding (entries (start setup) calls)
open_kept setup [] = refl
open_kept setup (a ∷ earlier) =
    let e : L.Entry = made (left_after (start setup) earlier) a.now a.call in
    ap (λ cs. filter_map (left_by e) cs ++ option_to_list (begun e)) (open_kept setup earlier)

module _ (server : Endpoint) (sizes : Sizes) (setup : Setup) where
  -- This request was sent at this moment, and since then no request was sent, no answer was heard, and nothing ended.
  abbrev pub OpenOf : ℕ → Sending → List Call → Type 0
  OpenOf at x [] = ⊥
  OpenOf at x (c ∷ t) = ((sends (own_of sizes t) c ≡ Some x) × (moment_of (own_of sizes t) c ≡ at))
      ⊎ ((sends (own_of sizes t) c ≡ None) × (hears c ≡ None) × (ends_as c ≡ None) × OpenOf at x t)

  pub open_since : (at : ℕ) (x : Sending) (t : List Call) → OpenOf at x t → IsOpenSince sizes at t
  open_since at x [] o = o
  open_since at x (c ∷ t) (inl o) = inl (record { sending = x; sends_it = o.0; moment = o.1 })
  open_since at x (c ∷ t) (inr o) = inr (o.1, o.2, open_since at x t o.3)

  -- it began last
  same_moment : (at other : ℕ) (t : List Call) → RunsSince server sizes setup at t
      → RunsSince server sizes setup other t
      → at ≡ other
  same_moment at other t r q =
      let both : Some r.begun ≡ Some q.begun = sym r.last_begun ∙ q.last_begun in
      let same : r.begun ≡ q.begun = cc both in
      sym r.moment ∙ ap (λ (b : Begun). b.at) same ∙ q.moment

  pub open_of : (at : ℕ) (t : List Call) → ClientLaw server sizes setup t → IsOpenSince sizes at t
      → (x : Sending) × OpenOf at x t
  open_of at [] law o = absurd o
  open_of at (c ∷ t) law o =
      by (λ k. open_of at t (back server sizes setup (c ∷ []) t law) k) (sends (own_of sizes t) c) refl o
    where
      runs : (when : ℕ) → IsOpenSince sizes when (c ∷ t) → RunsSince server sizes setup when (c ∷ t)
      runs when h = (open_runs server sizes setup (c ∷ t) law).runs when h

      by : (IsOpenSince sizes at t → (x : Sending) × OpenOf at x t) → (s : Option Sending)
          → sends (own_of sizes t) c ≡ s → IsOpenSince sizes at (c ∷ t) → (x : Sending) × OpenOf at x (c ∷ t)
      by older (Some x) is h =
          let now : IsOpenSince sizes (moment_of (own_of sizes t) c) (c ∷ t) =
          inl (record { sending = x; sends_it = is; moment = refl }) in
          (x, inl (is, same_moment (moment_of (own_of sizes t) c) at (c ∷ t) (runs _ now) (runs at h)))
      by older None is (inl b) = let k : None ≡ Some b.sending = sym is ∙ b.sends_it in absurd (cc k)
      by older None is (inr h) = let k = older h.2 in (k.0, inr (is, h.0, h.1, k.1))

  pub last_of : (at : ℕ) (x : Sending) (t : List Call) → OpenOf at x t → last_sent sizes t ≡ Some x
  last_of at x [] o = absurd o
  last_of at x (c ∷ t) (inl o) =
      ap (λ (s : Option Sending). elim s as (λ w. Option Sending) [ Some y ↦ Some y | None ↦ last_sent sizes t ]) o.0
  last_of at x (c ∷ t) (inr o) =
      ap (λ (s : Option Sending). elim s as (λ w. Option Sending) [ Some y ↦ Some y | None ↦ last_sent sizes t ]) o.0
      ∙ last_of at x t o.3

  -- what runs
  pub record Runs (at : ℕ) (x : Sending) (t : List Call) : Type 0 where
    pub exchange : Exchange
    pub runs : (X.own_of server setup (lower_of sizes t)).running ≡ Some exchange
    pub token : exchange.token ≡ x.token
    pub cancel : exchange.cancel ≡ is_some x.request.token
    pub begun : Begun
    pub last : last_begun server setup (lower_of sizes t) ≡ Some begun
    pub moment : begun.at ≡ at

  pub runs_of : (at : ℕ) (x : Sending) (t : List Call) → ClientLaw server sizes setup t → OpenOf at x t → Runs at x t
  runs_of at x t law o =
      let r = (open_runs server sizes setup t law).runs at (open_since at x t o) in
      let both : Some r.sending ≡ Some x = sym r.last_sent ∙ last_of at x t o in
      let same : r.sending ≡ x = cc both in
      record {
        exchange = r.exchange;
        runs = r.runs;
        token = r.token ∙ ap (λ (y : Sending). y.token) same;
        cancel = r.cancel ∙ ap (λ (y : Sending). is_some y.request.token) same;
        begun = r.begun;
        last = r.last_begun;
        moment = r.moment;
      }

  -- what is outstanding for it, or nothing where it was acknowledged
  pub record Lonely (at : ℕ) (x : Sending) (y : Exchange) (t : List Call) : Type 0 where
    pub con : Open
    pub only : outstanding (layer_of server sizes setup t) ≡ con ∷ []
    pub id : con.id ≡ y.id.0
    pub first : con.first ≡ at
    pub unheard : y.acked ≡ None

  pub record Waited (y : Exchange) (t : List Call) : Type 0 where
    pub none : outstanding (layer_of server sizes setup t) ≡ []
    pub acked : (y.acked ≡ None) → ⊥

  pub lonely : (at : ℕ) (x : Sending) (t : List Call) → ClientLaw server sizes setup t → (r : Runs at x t)
      → Lonely at x r.exchange t ⊎ Waited r.exchange t
  lonely at x t law r =
      let calls = lower_of sizes t in
      let f = fits server setup calls law.exchanges.rows law.exchanges.left law.exchanges.layer in
      let left = steps_left (start setup) (all_asked server sizes setup t) law.exchanges.left law.exchanges.layer in
      let all : outstanding (layer_of server sizes setup t) ≡ (law.exchanges.left).open_cons =
      sym (open_kept setup (all_asked server sizes setup t)) ∙ ap (λ (s : State). s.open_cons) (sym left) in
      by (X.own_of server setup calls).server all (subst (λ o. Lone (X.own_of server setup calls).server o
      (last_begun server setup calls)
      (law.exchanges.left).open_cons) r.runs f.lone)
    where
      by : (s : Endpoint) → outstanding (layer_of server sizes setup t) ≡ (law.exchanges.left).open_cons
          → Lone s (Some r.exchange) (last_begun server setup (lower_of sizes t)) (law.exchanges.left).open_cons
          → Lonely at x r.exchange t ⊎ Waited r.exchange t
      by s all (inl k) =
          let both : Some k.begun ≡ Some r.begun = sym k.last ∙ r.last in
          let same : k.begun ≡ r.begun = cc both in
          inl (record {
            con = k.con;
            only = all ∙ k.only;
            id = k.id_is;
            unheard = k.unheard;
            first = k.first ∙ ap (λ (b : Begun). b.at) same ∙ r.moment;
          })
      by s all (inr k) = inr (record {
        none = all ∙ k.none;
        acked = λ none. (let z : None ≡ Some k.at = sym none ∙ k.since in cc z);
      })

  -- A CON that is outstanding is the request that was sent last.
  pub record IsLast (con : Open) (t : List Call) : Type 0 where
    pub sending : Sending
    pub last : last_sent sizes t ≡ Some sending
    pub is : IsRequestOf server con sending

  pub is_last : (con : Open) (t : List Call) → ClientLaw server sizes setup t
      → Ever (λ b. begun b ≡ Some con) (layer_of server sizes setup t) → IsOpen (layer_of server sizes setup t) con
      → IsLast con t
  is_last con [] law h o = absurd h
  is_last con (c ∷ t) law h o =
      elim (Ever_append (λ b. begun b ≡ Some con) adds past
      (subst (Ever (λ b. begun b ≡ Some con)) (layer_next server sizes setup t c) h)) [
        | inl now ↦ (let k = (begins_now server sizes setup (c ∷ t) law).0 con now in
            record {
              sending = k.sending;
              last = ap (λ (s : Option Sending). elim s as (λ w. Option Sending) [
                | Some y ↦ Some y
                | None ↦ last_sent sizes t
              ]) k.sends_it;
              is = k.is;
            })
        | inr before ↦ by (λ a b. is_last con t (back server sizes setup (c ∷ []) t law) a b) before
            (sends (own_of sizes t) c) refl
      ]
    where
      adds : List L.Entry
      adds = call_adds server sizes setup t c

      past : List L.Entry
      past = layer_of server sizes setup t

      law_here : LayerLaw setup (adds ++ past)
      law_here = subst (LayerLaw setup) (layer_next server sizes setup t c) (layer server sizes setup (c ∷ t) law)

      open_here : IsOpen (adds ++ past) con
      open_here = subst (λ l. IsOpen l con) (layer_next server sizes setup t c) o

      by : (Ever (λ b. begun b ≡ Some con) past → IsOpen past con → IsLast con t)
          → Ever (λ b. begun b ≡ Some con) past → (s : Option Sending) → sends (own_of sizes t) c ≡ s
          → IsLast con (c ∷ t)
      by older before None is =
          let k = older before (open_before setup adds past con law_here before open_here) in
          record {
            sending = k.sending;
            last = ap (λ (s : Option Sending). elim s as (λ w. Option Sending) [
              | Some y ↦ Some y
              | None ↦ last_sent sizes t
            ]) is ∙ k.last;
            is = k.is;
          }
      by older before (Some x) is =
          let k = older before (open_before setup adds past con law_here before open_here) in
          absurd (closed_by setup adds past con law_here before
          (subst (λ to. Ever (BeginsTo to) adds) (sym k.is.to) (sends_begin server sizes setup t c law x is)) open_here)

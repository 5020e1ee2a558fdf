-- What a server hands up, its message layer hands up in the same call.
use Rattle.std.proofs.Common.{◌≡◌, inl, inr, ℕ, max, true, Option, Some, List, [], ◌∷◌, ◌++◌, refl, ap, sym, subst, ◌∙◌}
use Rattle.std.proofs.Common.{append_assoc}
use Rattle.coap_types.specs.Past.{Ever}
use Rattle.coap_types.proofs.Facts.Traces.{Ever_front, Ever_back, Ever_map}
use Rattle.coap_types.specs.declared.endpoint.Endpoint.{Endpoint}
use Rattle.coap_codec.specs.Message.{Message}
use Rattle.coap_layer.specs.Trace as L
use Rattle.coap_layer.specs.Machine.State as S
use Rattle.coap_layer.specs.Machine.Steps.{Steps, entries, left_after}
use Rattle.coap_layer.specs.Machine.Steps as G
use Rattle.coap_layer.specs.declared.setup.Setup.{Setup}
use Rattle.coap_resource.specs.Limits.{Limits}
use Rattle.coap_exchange.specs.declared.answerer.Asked.{Asked}
use Rattle.coap_exchange.specs.AnswererTrace as E
use Rattle.coap_exchange.specs.AnswererSteps as P
use Rattle.coap_exchange.specs.AnswererSteps.{asked_of}
use Rattle.coap_exchange.specs.AnswererLaw as W
use Rattle.coap_exchange.specs.AskerRequests.{asked}
use Rattle.coap_exchange.specs.AskerArrivals.{id_in, replying}
use Rattle.coap_server.specs.Trace.{Own, Handling, Call, Feeds, Refuses}
use Rattle.coap_server.specs.Checks.{Verdict, verdict_on}
use Rattle.coap_server.specs.Handling.{incoming, heard}
use Rattle.coap_server.specs.Refusing.{refusing}
use Rattle.coap_server.specs.Asks.{lower, answering}
use Rattle.coap_server.specs.Law.{ServerLaw, own_of, lower_of}
use Rattle.coap_server.specs.Follows.Brings.{HandsUp, Comes}
use Rattle.coap_server.proofs.Facts.Exact.Asked.{back}

-- the law of a past
pub server_back : (limits : Limits) (szx : ℕ) (setup : Setup) (c : Call) (t : List Call)
    → ServerLaw limits szx setup (c ∷ t)
    → ServerLaw limits szx setup t
server_back limits szx setup c t law = record {
  rows = law.rows.1;
  exchanges = back setup (lower (own_of limits szx t) c) (lower_of limits szx t) law.exchanges;
}

pub servers_back : (limits : Limits) (szx : ℕ) (setup : Setup) (calls t : List Call)
    → ServerLaw limits szx setup (calls ++ t)
    → ServerLaw limits szx setup t
servers_back limits szx setup [] t law = law
servers_back limits szx setup (c ∷ calls) t law =
    servers_back limits szx setup calls t (server_back limits szx setup c (calls ++ t) law)

-- the size of blocks stays
pub szx_is : (limits : Limits) (szx : ℕ) (t : List Call) → (own_of limits szx t).szx ≡ szx
szx_is limits szx [] = refl
szx_is limits szx (Feeds now from bytes word up came h below ∷ t) = szx_is limits szx t
szx_is limits szx (_ ∷ t) = szx_is limits szx t

-- what several calls of the exchanges ask of the layer, and the entries of that
abbrev under : List E.Call → List E.Call → List G.Asked
under [] calls = []
under (x ∷ xs) calls = P.lower (W.own_of (xs ++ calls)) x ++ under xs calls

under_is : (xs calls : List E.Call) → W.lower_of (xs ++ calls) ≡ under xs calls ++ W.lower_of calls
under_is [] calls = refl
under_is (x ∷ xs) calls =
    ap (λ z. P.lower (W.own_of (xs ++ calls)) x ++ z) (under_is xs calls)
    ∙ sym (append_assoc (P.lower (W.own_of (xs ++ calls)) x) (under xs calls) (W.lower_of calls))

abbrev news : S.State → List G.Asked → List G.Asked → List L.Entry
news begin [] zs = []
news begin (a ∷ ys) zs = S.made (left_after begin (ys ++ zs)) a.now a.call ∷ news begin ys zs

news_is : (begin : S.State) (ys zs : List G.Asked) → entries begin (ys ++ zs) ≡ news begin ys zs ++ entries begin zs
news_is begin [] zs = refl
news_is begin (a ∷ ys) zs = ap (λ z. S.made (left_after begin (ys ++ zs)) a.now a.call ∷ z) (news_is begin ys zs)

pub left_is : (old new : S.State) (calls : List G.Asked) → Steps old calls new → new ≡ left_after old calls
left_is old new [] h = h
left_is old new (a ∷ earlier) h = h.2.new_is ∙ ap (λ s. S.forgotten (S.after s (S.made s a.now a.call)))
    (left_is old h.0 earlier h.1)

entry_of : (K : L.Call → L.Answer → Type 0) (begin new : S.State) (ys zs : List G.Asked) → Steps begin (ys ++ zs) new
    → Ever (λ (b : G.Asked). K b.call b.answer) ys → Ever (λ (e : L.Entry). K e.call e.answer) (news begin ys zs)
entry_of K begin new [] zs h e = absurd e
entry_of K begin new (a ∷ ys) zs h (inr e) = inr (entry_of K begin h.0 ys zs h.1 e)
entry_of K begin new (a ∷ ys) zs h (inl e) =
    let s : S.State = left_after begin (ys ++ zs) in
    let right : a.answer ≡ S.answer_of s (S.moment s a.now a.call) a.call =
    subst (λ w. a.answer ≡ S.answer_of w (S.moment w a.now a.call) a.call)
    (left_is begin h.0 (ys ++ zs) h.1) h.2.right in
    inl (subst (K a.call) right e)

-- an arrival
record Came (from : Endpoint) (up : L.Answer) (a : Asked) (m : Message) : Type 0 where
  up_is : up ≡ L.Becomes (L.Request m true)
  asked_is : a ≡ asked_of from m

came_by : (from : Endpoint) (up : L.Answer) (a : Asked) (m : Message) → Some (a, m) ≡ P.handed_up from up
    → Came from up a m
came_by from (L.Becomes (L.Request n true)) a m h =
    let both : (a, m) ≡ (asked_of from n, n) = cc h in
    let same : m ≡ n = ap (λ (p : Asked × Message). p.1) both in
    let it : a ≡ asked_of from n = ap (λ (p : Asked × Message). p.0) both in
    record { up_is = ap (λ z. L.Becomes (L.Request z true)) (sym same); asked_is = it ∙ ap (asked_of from) (sym same) }
came_by from _ a m h = absurd (cc h)

abbrev Arrives : Asked → Message → L.Call → L.Answer → Type 0
Arrives a m call answer = (bytes : List ℕ) × (call ≡ L.Receive a.from bytes) × (answer ≡ L.Becomes (L.Request m true))
    × (a ≡ asked_of a.from m)

module _ (a : Asked) (m : Message) where
  abbrev Comes_in : E.Call → Type 0
  Comes_in c = (at : ℕ) × (from : Endpoint) × (bytes : List ℕ) × (up : L.Answer)
      × (c ≡ E.Incoming at from bytes up (Some (a, m)))

  arrives_here : (s : E.Own) (at : ℕ) (from : Endpoint) (bytes : List ℕ) (up : L.Answer)
      → P.IsRight s (E.Incoming at from bytes up (Some (a, m)))
      → Ever (λ (b : G.Asked). Arrives a m b.call b.answer) (P.lower s (E.Incoming at from bytes up (Some (a, m))))
  arrives_here s at from bytes up right =
      let c : Came from up a m = came_by from up a m right in
      let from_is : a.from ≡ from = ap (λ (x : Asked). x.from) c.asked_is in
      Ever_back (λ (b : G.Asked). Arrives a m b.call b.answer) (replying from (id_in up) (P.reject_by up))
      (asked at (L.Receive from bytes) up ∷ [])
      (inl (
        bytes,
        ap (λ x. L.Receive x bytes) (sym from_is),
        c.up_is,
        c.asked_is ∙ ap (λ x. asked_of x m) (sym from_is),
      ))

  arrives : (xs calls : List E.Call) → W.AnswererLaw (xs ++ calls) → Ever Comes_in xs
      → Ever (λ (b : G.Asked). Arrives a m b.call b.answer) (under xs calls)
  arrives [] calls law h = absurd h
  arrives (c ∷ xs) calls law (inr h) = Ever_back (λ (b : G.Asked). Arrives a m b.call b.answer)
      (P.lower (W.own_of (xs ++ calls)) c) (under xs calls) (arrives xs calls law.1 h)
  arrives (c ∷ xs) calls law (inl h) =
      let s : E.Own = W.own_of (xs ++ calls) in
      Ever_front (λ (b : G.Asked). Arrives a m b.call b.answer) (P.lower s c) (under xs calls)
      (subst (λ d. Ever (λ (b : G.Asked). Arrives a m b.call b.answer) (P.lower s d)) (sym h.4)
      (arrives_here s h.0 h.1 h.2 h.3 (subst (P.IsRight s) h.4 law.0)))

module _ (limits : Limits) (szx : ℕ) (setup : Setup) (t : List Call) where
  -- whatever the exchanges are asked in a call, the entries that come with it
  comes_by : (c : Call) (a : Asked) (m : Message) (v : Verdict) → ServerLaw limits szx setup (c ∷ t)
      → verdict_on szx m ≡ v → Ever (Comes_in a m) (lower (own_of limits szx t) c) → Comes limits szx setup t c a v
  comes_by c a m v law is h =
      let xs : List E.Call = lower (own_of limits szx t) c in
      let calls : List E.Call = lower_of limits szx t in
      let e = under_is xs calls in
      record {
        news = news (S.start setup) (under xs calls) (W.lower_of calls);
        is = ap (entries (S.start setup)) e
            ∙ news_is (S.start setup) (under xs calls) (W.lower_of calls);
        here =
            Ever_map (λ (e : L.Entry). Arrives a m e.call e.answer) (HandsUp szx a v)
            (λ e z. record { message = m; bytes = z.0; call = z.1; answer = z.2; asked_is = z.3; verdict = is })
            (news (S.start setup) (under xs calls) (W.lower_of calls))
            (entry_of (Arrives a m) (S.start setup) law.exchanges.left (under xs calls) (W.lower_of calls)
            (subst (λ z. Steps (S.start setup) z law.exchanges.left) e law.exchanges.layer)
            (arrives a m xs calls law.exchanges.rows h));
      }

  pub comes_here : (now : ℕ) (from : Endpoint) (bytes : List ℕ) (w : ℕ) (up : L.Answer) (p : Asked × Message)
      (h : Handling) (below : L.Answer)
      → ServerLaw limits szx setup (Feeds now from bytes w up (Some p) h below ∷ t)
      → Comes limits szx setup t (Feeds now from bytes w up (Some p) h below) p.0 (verdict_on szx p.1)
  comes_here now from bytes w up p h below law =
      let s : Own = own_of limits szx t in
      let first : E.Call = incoming s now from bytes up (Some p) in
      comes_by (Feeds now from bytes w up (Some p) h below) p.0 p.1 (verdict_on szx p.1) law refl
      (Ever_back (Comes_in p.0 p.1) (answering (heard s now first) (Some p) h below) (first ∷ [])
      (inl (max s.clock now, from, bytes, up, refl)))

  pub comes_refused : (now : ℕ) (from : Endpoint) (bytes : List ℕ) (w code : ℕ) (up : L.Answer) (p : Asked × Message)
      (response : Option ℕ) (below : L.Answer)
      → ServerLaw limits szx setup (Refuses now from bytes w code up p response below ∷ t)
      → Comes limits szx setup t (Refuses now from bytes w code up p response below) p.0 (verdict_on szx p.1)
  comes_refused now from bytes w code up p response below law =
      let s : Own = own_of limits szx t in
      let first : E.Call = incoming s now from bytes up (Some p) in
      comes_by (Refuses now from bytes w code up p response below) p.0 p.1 (verdict_on szx p.1) law refl
      (Ever_back (Comes_in p.0 p.1) (refusing p.0 response below) (first ∷ [])
      (inl (max s.clock now, from, bytes, up, refl)))

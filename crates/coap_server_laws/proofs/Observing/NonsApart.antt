-- The last NONs of two registrations have different Message IDs, while a Reset of them can come.
use Rattle.std.proofs.Common.{◌≡◌, ◌≤◌, ◌<◌, ◌⊎◌, inl, inr, ℕ, ◌+◌, Bool, true, false, Option, Some, None, List, []}
use Rattle.std.proofs.Common.{◌∷◌, ◌++◌, refl, ap, sym, subst, ◌∙◌, cond, arith}
use Rattle.coap_types.specs.Past.{Ever}
use Rattle.coap_types.specs.declared.endpoint.Endpoint.{Endpoint}
use Rattle.coap_types.specs.declared.transmission.TheConstants.{ID_REUSE_AFTER_MS as id_reuse_after}
use Rattle.coap_types.proofs.Facts.Traces.{Ever_back, Ever_map}
use Rattle.coap_layer.specs.Ids.{AreApart, Issued}
use Rattle.coap_layer.specs.Machine.State as S
use Rattle.coap_layer.specs.Machine.Steps.{entries, left_after}
use Rattle.coap_layer.specs.Trace as L
use Rattle.coap_layer.specs.Words.{issued, issued_by, numbers}
use Rattle.coap_layer.proofs.Facts.Calls.{steps_left}
use Rattle.coap_layer.proofs.Facts.IdsApart.{ids_apart}
use Rattle.coap_layer.specs.declared.setup.Setup.{Setup}
use Rattle.coap_observe.specs.Observers.{Noted, Observer}
use Rattle.coap_observe.specs.Registrations.{IsOther}
use Rattle.coap_resource.specs.Content.{Content, Held}
use Rattle.coap_resource.specs.Limits.{Limits}
use Rattle.coap_resource.specs.Serves.{Question, Reply}
use Rattle.coap_exchange.specs.declared.answerer.Asked.{Asked}
use Rattle.coap_exchange.specs.declared.answerer.Due.TheVariants as due
use Rattle.coap_exchange.specs.AnswererTrace as E
use Rattle.coap_exchange.specs.AnswererSteps as P
use Rattle.coap_exchange.specs.AnswererLaw as W
use Rattle.coap_exchange.specs.AnswererLaw.{ResponseLaw}
use Rattle.coap_exchange.specs.Adds.{asked_by_server}
use Rattle.coap_exchange.proofs.Facts.Adds.{answerer_append, entries_append, left_append}
use Rattle.coap_server.specs.Trace.{Own, Serves, Notifies, Call}
use Rattle.coap_server.specs.Trace.{Feeds, Ticks}
use Rattle.coap_server.specs.Asks.{notifies_by}
use Rattle.coap_server.specs.Handling.{incoming, ticking, heard}
use Rattle.coap_server.specs.Law.{ServerLaw, own_of, lower_of, layer_of}
use Rattle.coap_server.specs.Notifying.{marked, notification, readies}
use Rattle.coap_server.specs.Observers.{registers}
use Rattle.coap_server.specs.Plain.{by_plain}
use Rattle.coap_server_laws.specs.Follows.Adds.{all_asked, call_adds}
use Rattle.coap_server.specs.Follows.Tells.{InCon, InNon, InReply, Way, registering, telling, tells}
use Rattle.coap_server.specs.Follows.Tells.{tells_if, way_of}
use Rattle.coap_server_laws.specs.Follows.Ways.{is_pair, last_non, makes_it, non_by, non_then, number_in}
use Rattle.coap_server_laws.proofs.Facts.Laws as facts
use Rattle.coap_server.proofs.Facts.Observing.StoreSteps.{clock_rises}
use Rattle.coap_server_laws.proofs.Observing.EntrySteps.{pair_is}
use Rattle.coap_server.proofs.Facts.Serving.Brought.{server_back}
use Rattle.coap_server_laws.proofs.Telling.LayerCalls.{layer_next}
use Rattle.coap_server.proofs.Facts.Calls.EachOf.{each_join}
use Rattle.coap_server_laws.proofs.Telling.NotAfter.{calls_till, exchanges_till, readies_asks, wishes}

numbers_back : (P : Issued → Type 0) (xs ys : List L.Entry) → Ever P (numbers ys) → Ever P (numbers (xs ++ ys))
numbers_back P [] ys h = h
numbers_back P (x ∷ xs) ys h = Ever_back P (issued x) (numbers (xs ++ ys)) (numbers_back P xs ys h)

-- what goes in no NON leaves the last one
non_kept : (to : Endpoint) (token : List ℕ) (id : ℕ) (by : Endpoint) (bytes : List ℕ) (path : List (List ℕ)) (way : Way)
    (at : ℕ) (first : Bool) (held : Option Held) (last : Option Noted) → non_by way id at last ≡ last
    → non_then to token id (tells by bytes path way at first held) last ≡ last
non_kept to token id by bytes path way at first None last e = refl
non_kept to token id by bytes path way at first (Some held) last e = go (is_pair to token by bytes)
  where
    go : (b : Bool) → cond b (non_by way id at last) last ≡ last
    go true = e
    go false = refl

answer_kept : (to : Endpoint) (token : List ℕ) (id : ℕ) (b : Bool) (at : ℕ) (store : Content) (a : Asked) (q : Question)
    (way : Way) (last : Option Noted) → non_by way id at last ≡ last
    → non_then to token id (tells_if b at store a q way) last ≡ last
answer_kept to token id true at store a q way last e =
    non_kept to token id a.from a.token q.path way at true (store.holds q.path) last e
answer_kept to token id false at store a q way last e = refl

-- a NON that is begun, behind these calls of the exchanges
module _ (setup : Setup) (now : ℕ) (to : Endpoint) (token : List ℕ) (r : E.Response) (id : ℕ) (calls : List E.Call)
    (law : ResponseLaw setup (E.NotifiesPlain now to token r id ∷ calls)) where
  begin : S.State
  begin = S.start setup

  abbrev before : S.State
  before = left_after (S.start setup) (W.lower_of calls)

  abbrev call : L.Call
  call = L.Plain to (P.content_with token r)

  abbrev one : Issued
  one = record { at = S.moment before now call; id = id }

  numbers_are : numbers (W.below_of setup (E.NotifiesPlain now to token r id ∷ calls))
      ≡ one ∷ numbers (W.below_of setup calls)
  numbers_are =
      let steps = law.layer in
      let same : steps.0 ≡ before = steps_left (S.start setup) (W.lower_of calls) steps.0 steps.1 in
      let right : L.Sent id ≡ S.answer_of before (S.moment before now call) call =
      subst (λ s. L.Sent id ≡ S.answer_of s (S.moment s now call) call) same steps.2.right in
      ap (λ a. issued_by (S.moment before now call) a ++ numbers (W.below_of setup calls)) (sym right)

module _ (limits : Limits) (szx : ℕ) (setup : Setup) where
  abbrev own : List Call → Own
  own t = own_of limits szx t

  abbrev non : Endpoint → List ℕ → List Call → Option Noted
  non to token t = last_non limits szx to token t

  abbrev Numbers : List Call → List Issued
  Numbers t = numbers (layer_of limits szx setup t)

  abbrev IsIt : ℕ → ℕ → Issued → Type 0
  IsIt id at h = (h.id ≡ id) × (h.at ≡ at)

  abbrev IsNear : ℕ → ℕ → Issued → Type 0
  IsNear id at h = (h.id ≡ id) × (at ≤ h.at + id_reuse_after)

  -- what a call makes of the last NONs
  data NonStep (t : List Call) (c : Call) : Type 0 where
    quiet : ((to : Endpoint) (token : List ℕ) → (non to token (c ∷ t) ≡ None) ⊎ (non to token (c ∷ t) ≡ non to token t))
        → NonStep t c
    begins : (by : Endpoint) (bytes : List ℕ) (id : ℕ)
        → ((to : Endpoint) (token : List ℕ) → non to token (c ∷ t)
        ≡ cond (is_pair to token by bytes) (Some (record { id = id; at = (own (c ∷ t)).clock })) (non to token t))
        → Ever (IsIt id (own (c ∷ t)).clock) (Numbers (c ∷ t))
        → (Ever (IsNear id (own (c ∷ t)).clock) (Numbers t) → ⊥) → NonStep t c

  -- where the call tells in no NON
  kept : (t : List Call) (c : Call)
      → ((to : Endpoint) (token : List ℕ)
      → non_then to token (number_in c) (telling (own t) c) (non to token t) ≡ non to token t) → NonStep t c
  kept t c same = quiet (λ to token. go to token (makes_it to token (registering (own t) c)))
    where
      go : (to : Endpoint) (token : List ℕ) (b : Bool)
          → (cond b None (non_then to token (number_in c) (telling (own t) c) (non to token t)) ≡ None)
          ⊎ (cond b None (non_then to token (number_in c) (telling (own t) c) (non to token t)) ≡ non to token t)
      go to token true = inl refl
      go to token false = inr (same to token)

  -- a notification
  module _ (t : List Call) (now w : ℕ) (below : L.Answer) (room : Bool) (passed id : ℕ) (answer : Bool) (o : Observer)
      (reply : Reply)
      (law : ServerLaw limits szx setup (Ticks now w below room due.Idle passed (Notifies o reply) id answer ∷ t)) where
    abbrev c : Call
    c = Ticks now w below room due.Idle passed (Notifies o reply) id answer

    abbrev s : Own
    s = heard (own t) now (ticking (own t) now below room due.Idle)

    abbrev r : E.Response
    r = notification s.store o reply

    abbrev rest : List E.Call
    rest = readies s.clock passed (marked s.observers) ++ ticking (own t) now below room due.Idle ∷ []

    abbrev calls : List E.Call
    calls = rest ++ lower_of limits szx t

    past_law : ServerLaw limits szx setup t
    past_law = server_back limits szx setup c t law

    -- the layer's clock when it is begun
    clock_till : (left_after (S.start setup) (W.lower_of calls)).clock ≤ s.clock
    clock_till =
        subst (λ (z : S.State). z.clock ≤ s.clock)
        (sym (ap (left_after (S.start setup)) (answerer_append rest (lower_of limits szx t))
        ∙ left_append (S.start setup) (asked_by_server (lower_of limits szx t) rest) (all_asked limits szx t)))
        (calls_till limits szx setup t c (asked_by_server (lower_of limits szx t) rest) past_law
        (wishes s.clock (lower_of limits szx t) rest (omega (arith, between))
        (each_join _ (readies s.clock passed (marked s.observers)) (ticking (own t) now below room due.Idle ∷ [])
        (readies_asks s.clock s.clock passed (marked s.observers) (omega arith)) (omega arith, tt))))
      where
        between : (W.own_of (lower_of limits szx t)).clock ≤ (own t).clock
        between = exchanges_till limits szx setup t past_law

    numbers_more : (Q : Issued → Type 0) → Ever Q (Numbers t) → Ever Q (numbers (W.below_of setup calls))
    numbers_more Q h =
        let begin : S.State = S.start setup in
        subst (λ z. Ever Q (numbers (entries begin z))) (sym (answerer_append rest (lower_of limits szx t)))
        (subst (λ z. Ever Q (numbers z))
        (sym (entries_append begin (asked_by_server (lower_of limits szx t) rest) (all_asked limits szx t)))
        (numbers_back Q (entries (left_after begin (all_asked limits szx t))
        (asked_by_server (lower_of limits szx t) rest)) (layer_of limits szx setup t) h))

    begun_non : (plain : Bool) → plain ≡ true
        → ResponseLaw setup (notifies_by plain s.clock o r w id ∷ calls)
        → AreApart (numbers (W.below_of setup (notifies_by plain s.clock o r w id ∷ calls)))
        → Ever (IsIt id s.clock) (numbers (W.below_of setup (notifies_by plain s.clock o r w id ∷ calls)))
        × (Ever (IsNear id s.clock) (Numbers t) → ⊥)
    begun_non false e claw apart = absurd (cc e)
    begun_non true e claw apart =
        let are = numbers_are setup s.clock o.to o.token r id calls claw in
        let till = clock_till in
        let at : S.moment (left_after (S.start setup) (W.lower_of calls)) s.clock
        (L.Plain o.to (P.content_with o.token r)) ≡ s.clock = omega (arith, till) in
        let far = (subst AreApart are apart).0 in (
          subst (Ever (IsIt id s.clock)) (sym are) (inl (refl, at)),
          λ h. far (Ever_map (IsNear id s.clock) _ (λ i k. (k.0, (let near = k.1 in omega (arith, at, near))))
              (numbers (W.below_of setup calls)) (numbers_more (IsNear id s.clock) h)),
        )

    by_way : (plain : Bool) → by_plain s o ≡ plain → (held : Option Held) → s.store.holds o.path ≡ held → NonStep t c
    by_way false goes held is =
        kept t c (λ to token. ap (λ b. non_then to token id
        (tells o.to o.token o.path (way_of b id) s.clock false (s.store.holds o.path)) (non to token t)) goes
        ∙ non_kept to token id o.to o.token o.path (InCon id) s.clock false (s.store.holds o.path) (non to token t)
        refl)
    by_way true goes None is =
        kept t c (λ to token. ap (λ h. non_then to token id
        (tells o.to o.token o.path (way_of (by_plain s o) id) s.clock false h) (non to token t)) is)
    by_way true goes (Some held) is =
        let apart = ids_apart setup (layer_of limits szx setup (c ∷ t)) (facts.layer limits szx setup (c ∷ t) law) in
        let k = begun_non (by_plain s o) goes law.exchanges apart in
        begins o.to o.token id
        (λ to token. ap (λ b. non_then to token id
        (tells o.to o.token o.path (way_of b id) s.clock false (s.store.holds o.path)) (non to token t)) goes
        ∙ ap (λ h. non_then to token id (tells o.to o.token o.path InNon s.clock false h) (non to token t)) is)
        k.0 k.1

    notice_step : NonStep t c
    notice_step = by_way (by_plain s o) refl (s.store.holds o.path) refl

  step : (t : List Call) (c : Call) → ServerLaw limits szx setup (c ∷ t) → NonStep t c
  step t (Ticks now w below room due.Idle passed (Notifies o reply) id answer) law =
      notice_step t now w below room passed id answer o reply law
  step t (Feeds now from bytes w up (Some p) (Serves q reply left) below) law =
      let s : Own = heard (own t) now (incoming (own t) now from bytes up (Some p)) in
      kept t _ (λ to token. answer_kept to token 0 (registers p.0 q reply s.observers) s.clock s.store p.0 q InReply
      (non to token t) refl)
  step t (Ticks now w below room (due.Ready a) passed (Serves q reply left) id answer) law =
      let s : Own = heard (own t) now (ticking (own t) now below room (due.Ready a)) in
      kept t _ (λ to token. answer_kept to token id (registers a q reply s.observers) s.clock s.store a q (InCon id)
      (non to token t) refl)
  step t _ law = kept t _ (λ to token. refl)

  -- what is kept of a NON was issued, and not later

  pub record WasIssued (t : List Call) (n : Noted) : Type 0 where
    pub there : Ever (IsIt n.id n.at) (Numbers t)
    pub till : n.at ≤ (own t).clock

  later : (t : List Call) (c : Call) (n : Noted) → WasIssued t n → WasIssued (c ∷ t) n
  later t c n k = record {
    there = subst (λ z. Ever (IsIt n.id n.at) (numbers z)) (sym (layer_next limits szx setup t c))
        (numbers_back (IsIt n.id n.at) (call_adds limits szx setup t c) (layer_of limits szx setup t) k.there);
    till = (let a = k.till in let b = clock_rises limits szx t c in omega (arith, a, b));
  }

  pub was_issued : (t : List Call) → ServerLaw limits szx setup t → (to : Endpoint) (token : List ℕ) (n : Noted)
      → non to token t ≡ Some n → WasIssued t n
  was_issued [] law to token n h = absurd (cc h)
  was_issued (c ∷ t) law to token n h =
      by (step t c law) (λ k. later t c n (was_issued t (server_back limits szx setup c t law) to token n k))
    where
      by : NonStep t c → (non to token t ≡ Some n → WasIssued (c ∷ t) n) → WasIssued (c ∷ t) n
      by (quiet f) old = elim (f to token) [
        | inl none ↦ (let no = sym none ∙ h in absurd (cc no))
        | inr same ↦ old (sym same ∙ h)
      ]
      by (begins at bytes id f there apart) old = go (is_pair to token at bytes) (sym (f to token) ∙ h)
        where
          go : (b : Bool) → cond b (Some (record { id = id; at = (own (c ∷ t)).clock })) (non to token t) ≡ Some n
              → WasIssued (c ∷ t) n
          go false k = old k
          go true k =
              let same : ◌≡◌ {A = Noted} (record { id = id; at = (own (c ∷ t)).clock }) n = cc k in
              subst (WasIssued (c ∷ t)) same (record { there = there; till = omega arith })

  -- of two registrations
  abbrev pub Apart : Noted → Noted → Type 0
  Apart m n = m.id ≡ n.id → (m.at + id_reuse_after < n.at) ⊎ (n.at + id_reuse_after < m.at)

  apart_by : (t : List Call) (c : Call) → ServerLaw limits szx setup (c ∷ t) → NonStep t c → (to : Endpoint)
      (p q : List ℕ) → IsOther to p to q
      → ((m n : Noted) → non to p t ≡ Some m → non to q t ≡ Some n → Apart m n) → (m n : Noted)
      → non to p (c ∷ t) ≡ Some m → non to q (c ∷ t) ≡ Some n → Apart m n
  apart_by t c law (quiet f) to p q other old m n hm hn = elim (f to p) [
    | inl none ↦ (let no = sym none ∙ hm in absurd (cc no))
    | inr left ↦ elim (f to q) [
      | inl none ↦ (let no = sym none ∙ hn in absurd (cc no))
      | inr right ↦ old m n (sym left ∙ hm) (sym right ∙ hn)
    ]
  ]
  apart_by t c law (begins by bytes id f there far) to p q other old m n hm hn =
      go (is_pair to p by bytes) (is_pair to q by bytes) refl refl (sym (f to p) ∙ hm) (sym (f to q) ∙ hn)
    where
      new : Noted
      new = record { id = id; at = (own (c ∷ t)).clock }

      past_law : ServerLaw limits szx setup t
      past_law = server_back limits szx setup c t law

      -- one that was issued before has another number, or is long gone
      before : (token : List ℕ) (k : Noted) → non to token t ≡ Some k → k.id ≡ id
          → k.at + id_reuse_after < (own (c ∷ t)).clock
      before token k h e =
          let was = was_issued t past_law to token k h in
          less k.at (own (c ∷ t)).clock
          (λ near. far (Ever_map (IsIt k.id k.at) (IsNear id (own (c ∷ t)).clock)
          (λ i z. (z.0 ∙ e, (let at = z.1 in omega (arith, at, near)))) (Numbers t) was.there))
        where
          less : (a b : ℕ) → (b ≤ a + id_reuse_after → ⊥) → a + id_reuse_after < b
          less a b never = search (arith, never)

      go : (x y : Bool) → is_pair to p by bytes ≡ x → is_pair to q by bytes ≡ y
          → cond x (Some new) (non to p t) ≡ Some m → cond y (Some new) (non to q t) ≡ Some n → Apart m n
      go true true ex ey hm hn e = absurd (other (both ex ey))
        where
          both : is_pair to p by bytes ≡ true → is_pair to q by bytes ≡ true → (to ≡ to) × (p ≡ q)
          both ex ey = (refl, (pair_is to p by bytes ex).1 ∙ sym (pair_is to q by bytes ey).1)
      go false false ex ey hm hn e = old m n hm hn e
      go true false ex ey hm hn e =
          let same : new ≡ m = cc hm in
          let id_is : m.id ≡ id = sym (ap (λ (z : Noted). z.id) same) in
          let at_is : m.at ≡ (own (c ∷ t)).clock = sym (ap (λ (z : Noted). z.at) same) in
          let less = before q n hn (sym e ∙ id_is) in
          inr (omega (arith, less, at_is))
      go false true ex ey hm hn e =
          let same : new ≡ n = cc hn in
          let id_is : n.id ≡ id = sym (ap (λ (z : Noted). z.id) same) in
          let at_is : n.at ≡ (own (c ∷ t)).clock = sym (ap (λ (z : Noted). z.at) same) in
          let less = before p m hm (e ∙ id_is) in
          inl (omega (arith, less, at_is))

  pub nons_apart : (t : List Call) → ServerLaw limits szx setup t → (to : Endpoint) (p q : List ℕ) → IsOther to p to q
      → (m n : Noted) → non to p t ≡ Some m → non to q t ≡ Some n → Apart m n
  nons_apart [] law to p q other = λ m n hm hn. absurd (cc hm)
  nons_apart (c ∷ t) law to p q other =
      apart_by t c law (step t c law) to p q other
      (λ m n. nons_apart t (server_back limits szx setup c t law) to p q other m n)

-- A Reset of the last NON of a registration ends that registration.
use Rattle.std.proofs.Common.{◌≡◌, ◌≤◌, inl, inr, ℕ, ◌+◌, ◌-◌, ◌==◌, Bool, true, false, Option}
use Rattle.std.proofs.Common.{Some, None, List, [], ◌∷◌, refl, ap, sym, ◌∙◌, cond, arith, find, max, nat_le}
use Rattle.std.proofs.lemmas.Bool.{and_from, and_parts}
use Rattle.std.specs.Cmp.{unsigned_Decides}
use Rattle.coap_types.specs.SameEndpoint.{same_endpoint}
use Rattle.coap_types.specs.declared.endpoint.Endpoint.{Endpoint}
use Rattle.coap_types.specs.declared.transmission.TheConstants.{EXCHANGE_LIFETIME_MS as exchange_lifetime}
use Rattle.coap_types.proofs.Facts.Endpoints.{same_endpoint-decides}
use Rattle.coap_codec.specs.Message.{Message}
use Rattle.coap_layer.specs.Trace as L
use Rattle.coap_layer.specs.declared.setup.Setup.{Setup}
use Rattle.coap_observe.specs.Observers.{Noted, Observer, is_noted, is_noted_at, is_of, registration, rejected}
use Rattle.coap_observe.specs.Observers.{reset_at}
use Rattle.coap_observe.proofs.Facts.Registrations.{is_of-decides, reset_takes}
use Rattle.coap_resource.specs.Limits.{Limits}
use Rattle.coap_exchange.specs.declared.answerer.Asked.{Asked}
use Rattle.coap_exchange.specs.AnswererSteps.{handed_up, reset_by, unmatched_by}
use Rattle.coap_exchange.specs.AnswererTrace.{Sending}
use Rattle.coap_server.specs.Trace.{Own, Handling, Silent, Call}
use Rattle.coap_server.specs.Trace.{Feeds}
use Rattle.coap_server.specs.Asks.{answering}
use Rattle.coap_server.specs.Observers.{unless_ended, unless_rejected}
use Rattle.coap_server.specs.Handling.{incoming, heard, HandlesCame}
use Rattle.coap_server.specs.Law.{ServerLaw, own_of, lower_of}
use Rattle.coap_server.specs.Follows.Observes.{rejects_in}
use Rattle.coap_server_laws.specs.Follows.Ways.{EndsOnReset, LastNon, ResetEnds}
use Rattle.coap_server.proofs.Facts.Exact.FirstRow.{first_row}
use Rattle.coap_server.proofs.Facts.Observing.ObserversWereMade.{good}
use Rattle.coap_server.proofs.Facts.Calls.NoneRejected.{none_rejected}
use Rattle.coap_server_laws.proofs.Observing.RejectedNons.{none_reset}
use Rattle.coap_server.proofs.Facts.Observing.MarkedObservers.{IsThere, there_is}
use Rattle.coap_server_laws.proofs.Observing.NonsApart.{nons_apart, was_issued}
use Rattle.coap_server_laws.proofs.Observing.OneRegistration.{pair_of}
use Rattle.coap_server_laws.proofs.Observing.EntriesKeepLast.{keep_last}
use Rattle.coap_server.proofs.Facts.Serving.Brought.{server_back}

find_is : (p : Observer → Bool) (os : List Observer) (o : Observer) → find p os ≡ Some o → IsThere o os × (p o ≡ true)
find_is p [] o h = absurd (cc h)
find_is p (y ∷ os) o h = by (p y) refl h (λ k. find_is p os o k)
  where
    by : (b : Bool) → p y ≡ b → cond b (Some y) (find p os) ≡ Some o
        → (find p os ≡ Some o → IsThere o os × (p o ≡ true)) → IsThere o (y ∷ os) × (p o ≡ true)
    by true is k f = let same : y ≡ o = cc k in (inl same, ap p (sym same) ∙ is)
    by false is k f = let z = f k in (inr z.0, z.1)

find_some : (p : Observer → Bool) (os : List Observer) (o : Observer) → IsThere o os → p o ≡ true
    → (y : Observer) × (find p os ≡ Some y)
find_some p [] o h is = absurd h
find_some p (y ∷ os) o h is = by (p y) refl h (λ k. find_some p os o k is)
  where
    by : (b : Bool) → p y ≡ b → IsThere o (y ∷ os) → (IsThere o os → (z : Observer) × (find p os ≡ Some z))
        → (z : Observer) × (cond b (Some y) (find p os) ≡ Some z)
    by true e k f = (y, refl)
    by false e (inl same) f = let no = ap p same ∙ is in absurd (cc (e, no))
    by false e (inr k) f = f k

-- the last NON, by its Message ID and its age
noted_is : (at id : ℕ) (n : Option Noted) → is_noted at id n ≡ true
    → (m : Noted) × (n ≡ Some m) × (m.id ≡ id) × (at ≤ m.at + exchange_lifetime)
noted_is at id None h = absurd (cc h)
noted_is at id (Some m) h =
    let k = and_parts (m.id == id) (nat_le (at - m.at) exchange_lifetime) h in
    let old = le_of (at - m.at) exchange_lifetime k.1 in
    (m, refl, (unsigned_Decides m.id id).0 k.0, omega (arith, old))
  where
    le_of : (a b : ℕ) → nat_le a b ≡ true → a ≤ b
    le_of a b h = search (arith, h)

is_noted_by : (at id : ℕ) (m : Noted) → m.id ≡ id → at ≤ m.at + exchange_lifetime → is_noted at id (Some m) ≡ true
is_noted_by at id m e young =
    and_from (m.id == id) (nat_le (at - m.at) exchange_lifetime) ((unsigned_Decides m.id id).1 e)
    (of_le (at - m.at) exchange_lifetime (omega (arith, young)))
  where
    of_le : (a b : ℕ) → a ≤ b → nat_le a b ≡ true
    of_le a b h = search (arith, h)

module _ (limits : Limits) (szx : ℕ) (setup : Setup) (t : List Call) (now : ℕ) (from : Endpoint) (bytes : List ℕ)
    (w : ℕ)
    (up : L.Answer) (came : Option (Asked × Message)) (h : Handling) (below : L.Answer)
    (law : ServerLaw limits szx setup (Feeds now from bytes w up came h below ∷ t)) (x : Sending)
    (is : unmatched_by from up ≡ Some x) where
  abbrev mine : Own
  mine = own_of limits szx t

  abbrev call : Call
  call = Feeds now from bytes w up came h below

  abbrev clk : ℕ
  clk = max mine.clock now

  before : ServerLaw limits szx setup t
  before = server_back limits szx setup call t law

  -- what it leaves
  left_is : (own_of limits szx (call ∷ t)).observers ≡ reset_at clk x.to x.id mine.observers
  left_is = by came h law.rows.0 (first_row setup (answering (heard mine now (incoming mine now from bytes up came))
      came h
      below) (incoming mine now from bytes up came) (lower_of limits szx t) law.exchanges)
    where
      silent : unless_rejected clk (unmatched_by from up) (unless_ended (reset_by from up mine.exchanges.separate)
          mine.observers) ≡ reset_at clk x.to x.id mine.observers
      silent =
          ap (λ e. unless_rejected clk (unmatched_by from up) (unless_ended e mine.observers))
          (none_reset from up mine.exchanges.separate x is)
          ∙ ap (λ r. unless_rejected clk r mine.observers) is

      by : (k : Option (Asked × Message)) (g : Handling)
          → HandlesCame (heard mine now (incoming mine now from bytes up k)) k g → k ≡ handed_up from up
          → (own_of limits szx (Feeds now from bytes w up k g below ∷ t)).observers
          ≡ reset_at clk x.to x.id mine.observers
      by None Silent right row = silent
      by (Some p) g right row = let none = none_rejected from up p row in absurd (cc (none, is))
      by None _ right row = absurd (cc right)

  rejects_so : (o : Observer) → rejected clk x.to x.id mine.observers ≡ Some o
      → (o.to ≡ x.to) × LastNon limits szx x.to o.token x.id clk t
  rejects_so o found =
      let k = find_is (is_noted_at clk x.to x.id) mine.observers o found in
      let parts = and_parts (is_noted clk x.id o.noted) (same_endpoint o.to x.to) k.1 in
      let to : o.to ≡ x.to = (same_endpoint-decides o.to x.to).0 parts.1 in
      let n = noted_is clk x.id o.noted parts.0 in
      let there : registration x.to o.token mine.observers ≡ Some o =
      ap (λ z. registration z o.token mine.observers) (sym to)
      ∙ there_is mine.observers o (good limits szx t).registrations.distinct k.0 in
      let f = keep_last limits szx setup x.to o.token t before o there in (
        to,
        record {
          observer = o;
          there = there;
          non = n.0;
          last = sym f.non ∙ n.1;
          id_is = n.2;
          young = n.3;
        },
      )

  -- only one of them has that last NON
  same_token : (p q : List ℕ) → LastNon limits szx x.to p x.id clk t → LastNon limits szx x.to q x.id clk t → p ≡ q
  same_token p q k l = elim (pair_of x.to p x.to q) [
    | inl e ↦ e.1
    | inr other ↦ (
        let apart = nons_apart limits szx setup t before x.to p q other k.non l.non k.last l.last
        (k.id_is ∙ sym l.id_is) in
        let m = (was_issued limits szx setup t before x.to p k.non k.last).till in
        let n = (was_issued limits szx setup t before x.to q l.non l.last).till in
        let a = k.young in
        let b = l.young in
        absurd (elim apart [ inl far ↦ omega (arith, far, m, n, a, b) | inr far ↦ omega (arith, far, m, n, a, b) ]))
  ]

  ends_so : (token : List ℕ) → LastNon limits szx x.to token x.id clk t
      → registration x.to token (own_of limits szx (call ∷ t)).observers ≡ None
  ends_so token l =
      let f = keep_last limits szx setup x.to token t before l.observer l.there in
      let k = find_is (is_of x.to token) mine.observers l.observer l.there in
      let pair = (is_of-decides x.to token l.observer).0 k.1 in
      let noted : is_noted_at clk x.to x.id l.observer ≡ true =
      and_from (is_noted clk x.id l.observer.noted) (same_endpoint l.observer.to x.to)
      (ap (is_noted clk x.id) (f.non ∙ l.last) ∙ is_noted_by clk x.id l.non l.id_is l.young)
      ((same_endpoint-decides l.observer.to x.to).1 pair.0) in
      let some = find_some (is_noted_at clk x.to x.id) mine.observers l.observer k.0 noted in
      let r = rejects_so some.0 some.1 in
      ap (registration x.to token) left_is
      ∙ (ap (λ z. registration x.to z (reset_at clk x.to x.id mine.observers)) (same_token token (some.0).token l r.1)
      ∙ (ap (λ z. registration z (some.0).token (reset_at clk x.to x.id mine.observers)) (sym r.0)
      ∙ (reset_takes clk x.to x.id mine.observers some.0 some.1).1))

  reset_ends : ResetEnds limits szx t call x
  reset_ends = record { ends = ends_so; rejects = rejects_so }

module _ (limits : Limits) (szx : ℕ) (setup : Setup) where
  ended : (t : List Call) (c : Call) → ServerLaw limits szx setup (c ∷ t) → (x : Sending) → rejects_in c ≡ Some x
      → ResetEnds limits szx t c x
  ended t (Feeds now from bytes w up came h below) law x is =
      reset_ends limits szx setup t now from bytes w up came h below law x is
  ended t _ law x e = absurd (cc e)

  pub ends_on_reset : (t : List Call) → ServerLaw limits szx setup t → EndsOnReset limits szx t
  ends_on_reset [] law = tt
  ends_on_reset (c ∷ t) law = (
    λ x is. ended t c law x is,
    ends_on_reset t (server_back limits szx setup c t law),
  )

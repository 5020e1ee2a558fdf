-- Where an observation that an effect leaves comes from, case by case.
use Rattle.std.proofs.Common.{◌≡◌, ◌≤◌, ◌⊎◌, inl, inr, ℕ, Bool, true, false, cond, not, ◌&&◌, Option, Some, None, List}
use Rattle.std.proofs.Common.{◌∷◌, [], map, refl, ap, sym, ◌∙◌, arith}
use Rattle.std.specs.Prelude.{◌==◌, filter}
use Rattle.coap_types.specs.Past.{Ever}
use Rattle.coap_codec.specs.Message.{Message}
use Rattle.coap_block.specs.Sizes.{Sizes}
use Rattle.coap_block.specs.declared.fetch_verdict.Verdict.{Verdict}
use Rattle.coap_block.specs.declared.fetch_verdict.Verdict.TheVariants as verdict
use Rattle.coap_block.specs.FetchStep.{FetchState}
use Rattle.coap_block.specs.FetchStep as F
use Rattle.coap_client.specs.Trace.{is_value, Report, Reported}
use Rattle.coap_client.specs.Own.{Transfer, Operation, Calling, Registering, Fetching, Cancelling, Notified}
use Rattle.coap_client.specs.Own.{Observation, Own}
use Rattle.coap_client.specs.Observations.{rest_of}
use Rattle.coap_client.specs.Responses.{content, sequence_in, tag_in, part}
use Rattle.coap_client.specs.Effects.{of, ends, is_upload}
use Rattle.coap_client.specs.Fetching.{value, rest as rest_left}
use Rattle.coap_client.specs.Observing.{first_rest, first_value}
use Rattle.coap_client.specs.Events.{failed}
use Rattle.coap_client.specs.Steps.{reports}
use Rattle.coap_client.specs.Places.{hit, in_observations}
use Rattle.coap_client_laws.specs.Follows.Newer.{Newly}
use Rattle.coap_client.proofs.Facts.Places.PlaceLemmas.{hit_self}
use Rattle.coap_client_laws.specs.Follows.Notified.{is_newly_of}
use Rattle.coap_client_laws.specs.Follows.Rising.{value_reported}

-- it is there
abbrev pub In : Observation → List Observation → Type 0
In x os = Ever (λ o. o ≡ x) os

pub in_count : (x : Observation) (os : List Observation) → In x os → 1 ≤ in_observations x.number os
in_count x [] h = absurd h
in_count x (o ∷ os) (inl h) = let a : hit o.number x.number ≡ 1 = ap (λ (y : Observation). hit y.number x.number) h
    ∙ hit_self x.number in omega (arith, a)
in_count x (o ∷ os) (inr h) = let a = in_count x os h in omega (arith, a)

pub in_changed : (k : ℕ) (f : Observation → Observation) (os : List Observation) (x : Observation)
    → In x (map (λ (o : Observation). cond (o.number == k) (f o) o) os)
    → (o : Observation) × In o os × ((((o.number == k) ≡ true) × (x ≡ f o)) ⊎ (((o.number == k) ≡ false) × (x ≡ o)))
in_changed k f [] x h = absurd h
in_changed k f (o ∷ os) x (inr h) = let r = in_changed k f os x h in (r.0, inr r.1, r.2)
in_changed k f (o ∷ os) x (inl h) = by (o.number == k) refl h
  where
    by : (b : Bool) → (o.number == k) ≡ b → cond b (f o) o ≡ x
        → (p : Observation) × In p (o ∷ os) × ((((p.number == k) ≡ true) × (x ≡ f p))
        ⊎ (((p.number == k) ≡ false) × (x ≡ p)))
    by true e h = (o, inl refl, inl (e, sym h))
    by false e h = (o, inl refl, inr (e, sym h))

pub in_without : (k : ℕ) (os : List Observation) (x : Observation)
    → In x (filter (λ (o : Observation). not (o.number == k)) os) → In x os
in_without k [] x h = h
in_without k (o ∷ os) x h = by (o.number == k) h (in_without k os x)
  where
    by : (b : Bool) → In x (cond (not b) (o ∷ filter (λ (p : Observation). not (p.number == k)) os)
        (filter (λ (p : Observation). not (p.number == k)) os))
        → (In x (filter (λ (p : Observation). not (p.number == k)) os) → In x os) → In x (o ∷ os)
    by true h ih = inr (ih h)
    by false (inl h) ih = inl h
    by false (inr h) ih = inr (ih h)

-- the number and the mark stay
pub record Same (o x : Observation) : Type 0 where
  pub number : x.number ≡ o.number
  pub mark : x.watch.mark ≡ o.watch.mark

pub same_self : (o x : Observation) → x ≡ o → Same o x
same_self o x e = record {
  number = ap (λ (y : Observation). y.number) e;
  mark = ap (λ (y : Observation). y.watch.mark) e;
}

-- by what was there, what ran, what is taken as newer, what is heard, and of which observation a value is reported
pub data Source (sizes : Sizes) (before : List Observation) (running : Option Operation) (new : Option Newly)
    (heard : Option Message)
    (shown : Option ℕ) (x : Observation) : Type 0 where
  -- nothing of it came
  kept : (o : Observation) → In o before → Same o x → x.rest ≡ o.rest → is_newly_of x.number new ≡ false
      → (shown ≡ Some x.number → ⊥) → Source sizes before running new heard shown x
  -- nothing of it is to be fetched any more
  rests : (o : Observation) → In o before → Same o x → x.rest ≡ None → is_newly_of x.number new ≡ false
      → Source sizes before running new heard shown x
  -- a part of it was fetched, and more is to be
  goes_on :
      (o : Observation) (n : Notified) (m : Message) (num size : ℕ) → In o before → Same o x
      → running ≡ Some (Fetching x.number) → rest_of x.number before ≡ Some n → heard ≡ Some m → m.code ≡ content
      → part n.fetch m ≡ verdict.Ask num size
      → x.rest ≡ rest_left n.sequence n.fetch m (verdict.Ask num size) → is_newly_of x.number new ≡ false
      → (shown ≡ Some x.number → ⊥) → Source sizes before running new heard shown x
  -- a notification of it came
  comes :
      (n : Newly) → new ≡ Some n → n.number ≡ x.number → x.watch.mark ≡ Some n.mark
      → ((r : Notified) → x.rest ≡ Some r → (first_rest sizes n.message ≡ Some r)
      × (shown ≡ Some x.number → ⊥)) → Source sizes before running new heard shown x

pub no_value : (n : ℕ) → None ≡ Some n → ⊥
no_value n h = cc h

-- where no value is reported
pub silent : (sizes : Sizes) (before : List Observation) (running : Option Operation) (new : Option Newly)
    (heard : Option Message)
    (shown : Option ℕ) (x : Observation) → Source sizes before running new heard shown x
    → Source sizes before running new heard None x
silent sizes before running new heard shown x (kept o there same rest apart none) =
    kept o there same rest apart (no_value x.number)
silent sizes before running new heard shown x (rests o there same rest apart) = rests o there same rest apart
silent sizes before running new heard shown x
    (goes_on o n m num size there same runs rest is code asks left apart none) =
    goes_on o n m num size there same runs rest is code asks left apart (no_value x.number)
silent sizes before running new heard shown x (comes n is number mark rest) =
    comes n is number mark (λ r e. (let k = rest r e in (k.0, no_value x.number)))

-- .. and nothing is to be fetched
pub without_rest : (sizes : Sizes) (before : List Observation) (running : Option Operation) (new : Option Newly)
    (heard : Option Message)
    (shown : Option ℕ) (x : Observation) → Source sizes before running new heard shown x
    → Source sizes before running new heard None (record x { rest = None })
without_rest sizes before running new heard shown x (kept o there same rest apart none) =
    rests o there (record { number = same.number; mark = same.mark }) refl apart
without_rest sizes before running new heard shown x (rests o there same rest apart) =
    rests o there (record { number = same.number; mark = same.mark }) refl apart
without_rest sizes before running new heard shown x
    (goes_on o n m num size there same runs rest is code asks left apart none) =
    rests o there (record { number = same.number; mark = same.mark }) refl apart
without_rest sizes before running new heard shown x (comes n is number mark rest) =
    comes n is number mark (λ r e. absurd (cc e))

-- a failure leaves those that are there, or one without what is to be fetched

pub in_held : (s : Own) (c : Bool) (report : Option Reported) (x : Observation)
    → In x (ends report (cond c (record s { hold = Some s.sent }) s)).own.observations → In x s.observations
in_held s true report x h = h
in_held s false report x h = h

pub in_failed : (u : Transfer → Bool) (report : Report) (s : Own) (running : Option Operation) (x : Observation)
    → In x (failed u report s running).own.observations
    → (o : Observation) × In o s.observations × ((x ≡ o) ⊎ (x ≡ record o { rest = None }))
in_failed u report s (Some (Calling k r t)) x h = (x, in_held s (u t && is_upload t) (of k report) x h, inl refl)
in_failed u report s (Some (Fetching k)) x h = let a =
    in_changed k (λ o. record o { rest = None }) s.observations x h
    in (a.0, a.1, elim a.2 [ inl e ↦ inr e.1 | inr e ↦ inl e.1 ])
in_failed u report s (Some (Cancelling k)) x h = (x, in_without k s.observations x h, inl refl)
in_failed u report s _ x h = (x, h, inl refl)

-- .. and reports no value

pub last_value : (k : ℕ) (report : Report) → is_value report ≡ false → value_reported (of k report) ≡ None
last_value k report h = ap (λ b. cond b (Some k) None) h

pub failed_value : (u : Transfer → Bool) (report : Report) (s : Own) (running : Option Operation)
    → is_value report ≡ false → value_reported (failed u report s running).report ≡ None
failed_value u report s (Some (Calling k r t)) h = last_value k report h
failed_value u report s (Some (Registering k path)) h = last_value k report h
failed_value u report s (Some (Cancelling k)) h = last_value k report h
failed_value u report s _ h = refl

-- which part gives a value, and which lets a fetch go on

pub value_number : (k sequence : ℕ) (f : FetchState) (m : Message) (v : Verdict) (n : ℕ)
    → value_reported (value k sequence f m v) ≡ Some n → k ≡ n
value_number k sequence f m verdict.Done n h = cc h
value_number k sequence f m _ n h = absurd (cc h)

-- more of it is to be fetched
pub record AsksMore (sequence : ℕ) (f : FetchState) (m : Message) (v : Verdict) (r : Notified) : Type 0 where
  pub num : ℕ
  pub size : ℕ
  pub asks : v ≡ verdict.Ask num size
  pub left : r ≡ record { sequence = sequence; fetch = F.after f (tag_in m) m.payload (verdict.Ask num size) }

pub rest_asks : (sequence : ℕ) (f : FetchState) (m : Message) (v : Verdict) (r : Notified)
    → rest_left sequence f m v ≡ Some r → AsksMore sequence f m v r
rest_asks sequence f m (verdict.Ask num size) r h = record {
  num = num;
  size = size;
  asks = refl;
  left = (let e : ◌≡◌ {A = Notified} (record {
    sequence = sequence;
    fetch = F.after f (tag_in m) m.payload (verdict.Ask num size);
  }) r = cc h in sym e);
}
rest_asks sequence f m _ r h = absurd (cc h)

-- a notification that leaves more to be fetched gives no value
pub first_silent : (k : ℕ) (sizes : Sizes) (m : Message) (r : Notified) (n : ℕ) → first_rest sizes m ≡ Some r
    → value_reported (first_value k sizes m) ≡ Some n → ⊥
first_silent k sizes m r n h shown =
    let a = rest_asks (sequence_in m) (F.start sizes 0) m (part (F.start sizes 0) m) r h in
    let e : None ≡ Some n = sym (ap (λ v. value_reported (value k (sequence_in m) (F.start sizes 0) m v)) a.asks)
    ∙ shown in
    cc e

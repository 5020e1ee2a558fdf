-- Each report is of a number that was given, and an exchange that runs is that of the request that was sent last.
use Rattle.std.proofs.Common.{◌≡◌, ◌⊎◌, ◌≤◌, inl, inr, ℕ, ◌+◌, Bool, true, false, cond, Option, Some, None, List, []}
use Rattle.std.proofs.Common.{◌∷◌, refl, ap, sym, ◌∙◌, Ok, Err, arith}
use Rattle.std.specs.Prelude.{◌==◌, nat_lt, nat_le, length}
use Rattle.std.proofs.lemmas.Bool.{ltb-true}
use Rattle.std.proofs.lemmas.Bool.Decides.{nat_tests}
use Rattle.coap_types.specs.Past.{Ever}
use Rattle.coap_types.specs.declared.endpoint.Endpoint.{Endpoint}
use Rattle.coap_types.specs.declared.option_number.TheConstants.{BLOCK2 as block2}
use Rattle.coap_layer.specs.declared.setup.Setup.{Setup}
use Rattle.coap_block.specs.Sizes.{Sizes}
use Rattle.coap_exchange.specs.declared.asker.Exchange.{Exchange}
use Rattle.coap_exchange.specs.AskerTrace as E
use Rattle.coap_exchange.specs.AskerLaw as X
use Rattle.coap_client.specs.declared.limits.TheConstants.{MAX_OBSERVATIONS as max_observations}
use Rattle.coap_client.specs.declared.refusals.CallRefusal.TheVariants.{QueueFull, BodyTooLarge, BadPath, WatchesFull}
use Rattle.coap_client.specs.declared.refusals.CallRefusal.TheVariants.{CallsSpent}
use Rattle.coap_client.specs.Trace.{Reported, Call, Calls, Observes, Cancels, Forgets, Feeds, Ticks, NextOut}
use Rattle.coap_client.specs.Trace.{NextReport, Asked}
use Rattle.coap_client.specs.Own.{Operation, Own}
use Rattle.coap_client.specs.Requests.{options_of, path_options}
use Rattle.coap_client.specs.Queue.{max_numbers, are_long, block_option_number, is_full, observed}
use Rattle.coap_client_laws.specs.Follows.Numbers.{number_given}
use Rattle.coap_client.specs.Places.{places, gone}
use Rattle.coap_client.specs.Steps.{lower, reports}
use Rattle.coap_client.specs.Law.{ClientLaw, ClientRows, own_of, lower_of}
use Rattle.coap_client.specs.Sendings.{Sending, last_sent}
use Rattle.coap_client.proofs.Facts.Places.Once.{beneath, law_back, known, fed, ticked, from_place}
use Rattle.coap_client.proofs.Facts.Places.NumberSteps.{given_is}
use Rattle.coap_client_laws.proofs.Uploading.SentSoFar.{IfTracked}
use Rattle.coap_client_laws.proofs.Uploading.AllSent.{all_sends}
use Rattle.coap_client.proofs.Facts.Places.PlaceEffects.{Linked}
use Rattle.coap_client_laws.specs.Follows.Ends.{reported_of}
use Rattle.coap_client_laws.proofs.Reporting.Dropped.{if_dropped}
use Rattle.coap_client_laws.proofs.Reporting.EffectReports.{reported_in}

-- numbers are given one by one

split : (n m : ℕ) → nat_lt n (m + 1) ≡ true → (nat_lt n m ≡ true) ⊎ (n ≡ m)
split n m h = by (nat_lt n m) refl
  where
    by : (b : Bool) → nat_lt n m ≡ b → (nat_lt n m ≡ true) ⊎ (n ≡ m)
    by true e = inl e
    by false e = inr (let a = ltb-true n (m + 1) h in grind (arith, nat_tests, a, e))

in_place : (a b : ℕ) (c : Bool) → a + b ≡ cond c 1 0 → 1 ≤ a → c ≡ true
in_place a b true h p = refl
in_place a b false h p = absurd (omega (arith, h, p))

module _ (server : Endpoint) (sizes : Sizes) (setup : Setup) where
  abbrev Laws : List E.Call → Type 0
  Laws calls = X.AskerLaw server setup calls

  pub below_of : (t : List Call) (c : Call) → Laws (lower_of sizes (c ∷ t)) → Laws (lower_of sizes t)
  below_of t c law = law_back server setup (lower (own_of sizes t) c) (lower_of sizes t) law

  -- each number below those to come was given
  abbrev Given : ℕ → List Call → Type 0
  Given n t = Ever (λ b. number_given b ≡ Some n) t

  next_given : (t : List Call) (c : Call) (k n : ℕ) → number_given c ≡ Some k → k ≡ (own_of sizes t).taken
      → (nat_lt n (own_of sizes t).taken ≡ true → Given n t) → nat_lt n ((own_of sizes t).taken + 1) ≡ true
      → Given n (c ∷ t)
  next_given t c k n gives is ih h = elim (split n (own_of sizes t).taken h)
      [ inl low ↦ inr (ih low) | inr same ↦ inl (gives ∙ ap (λ i. Some i) (is ∙ sym same)) ]

  given : (t : List Call) → ClientRows sizes t → Laws (lower_of sizes t) → (n : ℕ)
      → nat_lt n (own_of sizes t).taken ≡ true
      → Given n t
  given [] rows law n h = let a = ltb-true n 0 h in absurd (omega (arith, a))
  given (Calls now r (Ok k) ∷ t) rows law n h =
      let s : Own = own_of sizes t in
      let is = given_is (is_full s) (nat_lt s.sizes.limit (length r.body))
      (are_long (block_option_number r.method) (options_of r))
      (s.taken == max_numbers) QueueFull BodyTooLarge BadPath CallsSpent k s.taken rows.0 in
      next_given t (Calls now r (Ok k)) k n refl is (λ low. given t rows.1 law n low) h
  given (Observes now path (Ok k) ∷ t) rows law n h =
      let s : Own = own_of sizes t in
      let is = given_is (is_full s) (are_long block2 (path_options path)) (nat_le max_observations (observed s))
      (s.taken == max_numbers) QueueFull BadPath WatchesFull CallsSpent k s.taken rows.0 in
      next_given t (Observes now path (Ok k)) k n refl is (λ low. given t rows.1 law n low) h
  given (Cancels now k None ∷ t) rows law n h = inr (given t rows.1 law n h)
  given (Forgets k was true ∷ t) rows law n h = inr (given t rows.1 (below_of t (Forgets k was true) law) n h)
  given (NextOut answer ∷ t) rows law n h = inr (given t rows.1 law.1 n h)
  given (Feeds now from bytes w up settled event sent token was ∷ t) rows law n h =
      let c : Call = Feeds now from bytes w up settled event sent token was in
      let under = below_of t c law in
      let k = known server sizes setup t rows.1 under in
      inr (given t rows.1 under n (ap (nat_lt n) (sym
      (fed server sizes setup t now from bytes w up settled event sent token was k law).taken_is) ∙ h))
  given (Ticks now w below turn sent token was answer ∷ t) rows law n h =
      let c : Call = Ticks now w below turn sent token was answer in
      let under = below_of t c law in
      let k = known server sizes setup t rows.1 under in
      inr (given t rows.1 under n (ap (nat_lt n) (sym
      (ticked server sizes setup t now w below turn sent token was answer k law).taken_is) ∙ h))
  given (_ ∷ t) rows law n h = inr (given t rows.1 law n h)

  pub numbered_so : (t : List Call) (c : Call) → ClientLaw server sizes setup (c ∷ t) → (x : Reported)
      → reports (own_of sizes t) c ≡ Some x → Given x.number t
  numbered_so t c law x made =
      let under = below_of t c law.exchanges.rows in
      let k = known server sizes setup t law.rows.1 under in
      given t law.rows.1 under x.number (in_place (places x.number (own_of sizes t)) (gone sizes x.number t)
      (nat_lt x.number (own_of sizes t).taken) (k.one x.number)
      (from_place server sizes setup t c k law.exchanges.rows x made))

  -- the exchange that runs is that of the request that was sent last
  pub record LastIs (t : List Call) : Type 0 where
    pub sending : Sending
    pub last : last_sent sizes t ≡ Some sending
    pub same : reported_in (own_of sizes t).running ≡ reported_of sending.operation

  pub last_is : (t : List Call) → ClientRows sizes t → Laws (lower_of sizes t) → (x : Exchange)
      → (beneath server sizes setup t).running ≡ Some x → LastIs t
  last_is t rows law x runs = by (own_of sizes t).running refl (known server sizes setup t rows law).linked
      (all_sends sizes server setup t rows law).tracked
    where
      by : (o : Option Operation) → (own_of sizes t).running ≡ o
          → Linked o (own_of sizes t).observations (beneath server sizes setup t).running
          → IfTracked sizes t o (beneath server sizes setup t).running → LastIs t
      by None is link tr = let none : None ≡ Some x = sym link ∙ runs in absurd (cc none)
      by (Some op) is link tr = elim tr.same [
        | inr same ↦ record {
          sending = tr.sending;
          last = tr.last;
          same = ap reported_in is ∙ ap reported_of (sym same);
        }
        | inl gone_op ↦ (
            let d = if_dropped sizes server setup t rows law (is ∙ ap (λ z. Some z) gone_op) in
            record {
              sending = d.sending;
              last = d.last;
              same = ap reported_in is ∙ (ap reported_of gone_op ∙ sym (ap reported_of d.fetches));
            })
      ]

-- Where each notification has all of a representation, the last value is of the newest.
use Rattle.std.proofs.Common.{◌≡◌, ◌⊎◌, inl, inr, ℕ, Bool, true, false, cond, Option, Some, None, List, ◌∷◌, []}
use Rattle.std.proofs.Common.{refl, ap, sym, subst, ◌∙◌}
use Rattle.std.specs.Prelude.{◌==◌}
use Rattle.std.specs.Option.{option_map}
use Rattle.coap_types.specs.declared.endpoint.Endpoint.{Endpoint}
use Rattle.coap_layer.specs.declared.setup.Setup.{Setup}
use Rattle.coap_block.specs.Sizes.{Sizes}
use Rattle.coap_client.specs.Trace.{is_value, Report, Reported, Call}
use Rattle.coap_client.specs.Own.{Fetching}
use Rattle.coap_client.specs.Effects.{of}
use Rattle.coap_client.specs.Steps.{reports}
use Rattle.coap_client.specs.Law.{ClientLaw, own_of}
use Rattle.coap_client_laws.specs.Follows.LastValue.{value_of, or_before, shown_by, last_value, HaveAll, LastIsNewest}
use Rattle.coap_client_laws.specs.Follows.Newer.{Newly, notifies}
use Rattle.coap_client_laws.specs.Follows.Notified.{is_newly_of, newest}
use Rattle.coap_client_laws.specs.Follows.Rising.{value_reported, ShowsValue}
use Rattle.coap_client_laws.proofs.Observing.Noticed.{are_shown}
use Rattle.coap_client_laws.proofs.Observing.Notified.{newest_kept, newest_now, has_newest}
use Rattle.coap_client_laws.proofs.Observing.StaysLive.{found_in, found_there}
use Rattle.coap_client_laws.proofs.Observing.Values.{NoneShown, shows_first}
use Rattle.coap_client.proofs.Facts.Places.Once.{known}
use Rattle.coap_client.proofs.Facts.Places.PlaceEffects.{IfRuns}
use Rattle.coap_client.proofs.Facts.Places.PlaceLemmas.{same_number, number_self}
use Rattle.coap_client.proofs.Facts.Turning.Leading.{client_back}

-- a notification of this observation
newly_there : (number : ℕ) (o : Option Newly) → is_newly_of number o ≡ true
    → (n : Newly) × (o ≡ Some n) × (n.number ≡ number)
newly_there number None h = absurd (cc h)
newly_there number (Some n) h = (n, refl, same_number n.number number h)

value_is : (number k : ℕ) (made : Option Reported) (report : Report) → made ≡ of k report → k ≡ number
    → is_value report ≡ true → value_of number made ≡ Some report
value_is number k made report is same value =
    ap (value_of number) is
    ∙ (ap (λ b. cond b (cond (is_value report) (Some report) None) None)
    (ap (λ i. i == number) same ∙ number_self number)
    ∙ ap (λ b. cond b (Some report) None) value)

shows_it : (number k : ℕ) (made : Option Reported) (report : Report) → made ≡ of k report → k ≡ number
    → is_value report ≡ true → value_reported made ≡ Some number
shows_it number k made report is same value =
    ap value_reported is ∙ (ap (λ b. cond b (Some k) None) value ∙ ap (λ i. Some i) same)

no_value : (number : ℕ) (made : Option Reported) → (value_reported made ≡ Some number → ⊥)
    → value_of number made ≡ None
no_value number None none = refl
no_value number (Some r) none = by (r.number == number) refl (is_value r.report) refl
  where
    by : (b : Bool) → (r.number == number) ≡ b → (d : Bool) → is_value r.report ≡ d
        → cond b (cond d (Some r.report) None) None ≡ None
    by false e d f = refl
    by true e false f = refl
    by true e true f =
        absurd (none (ap (λ x. cond x (Some r.number) None) f ∙ ap (λ i. Some i) (same_number r.number number e)))

module _ (server : Endpoint) (sizes : Sizes) (setup : Setup) (number : ℕ) where
  -- what is taken of it is shown
  shown_now : (t : List Call) (c : Call) → ClientLaw server sizes setup (c ∷ t) → HaveAll sizes number (c ∷ t)
      → (n : Newly) → notifies (own_of sizes t) c ≡ Some n → n.number ≡ number
      → reports (own_of sizes t) c ≡ of n.number (shown_by n)
  shown_now t c law all n is same =
      let a = all.0 n is same in (are_shown server sizes setup (c ∷ t) law).0 n is a.0 a.1

  -- .. so a value was shown since the newest came
  pub was_shown : (t : List Call) → ClientLaw server sizes setup t → HaveAll sizes number t → (n : Newly)
      → newest sizes number t ≡ Some n → NoneShown sizes number t → ⊥
  was_shown [] law all n is none = cc is
  was_shown (c ∷ t) law all n is none = by (is_newly_of number (notifies (own_of sizes t) c)) refl none.1
      (was_shown t (client_back server sizes setup (c ∷ []) t law) all.1 n)
    where
      by : (b : Bool) → is_newly_of number (notifies (own_of sizes t) c) ≡ b
          → (is_newly_of number (notifies (own_of sizes t) c) ≡ true) ⊎ NoneShown sizes number t
          → (newest sizes number t ≡ Some n → NoneShown sizes number t → ⊥) → ⊥
      by true e since ih =
          let k = newly_there number (notifies (own_of sizes t) c) e in
          absurd (none.0 (shows_it number k.0.number (reports (own_of sizes t) c) (shown_by k.0)
          (shown_now t c law all k.0 k.1 k.2) k.2 refl))
      by false e (inl comes) ih = cc (e, comes)
      by false e (inr rest) ih = ih (sym (newest_kept sizes t c number e) ∙ is) rest

  -- where none is taken, none is shown
  silent : (t : List Call) (c : Call) → ClientLaw server sizes setup (c ∷ t) → HaveAll sizes number (c ∷ t)
      → is_newly_of number (notifies (own_of sizes t) c) ≡ false → ShowsValue sizes number t c → ⊥
  silent t c law all apart h = by (shows_first sizes server setup t c law number h)
    where
      past : ClientLaw server sizes setup t
      past = client_back server sizes setup (c ∷ []) t law

      by : (is_newly_of number (notifies (own_of sizes t) c) ≡ true)
          ⊎ ((is_newly_of number (notifies (own_of sizes t) c) ≡ false) × NoneShown sizes number t
          × ((own_of sizes t).running ≡ Some (Fetching number))) → ⊥
      by (inl comes) = cc (apart, comes)
      by (inr f) =
          let there : IfRuns (own_of sizes t).observations (Some (Fetching number)) =
          subst (IfRuns (own_of sizes t).observations) f.2
          (known server sizes setup t past.rows past.exchanges.rows).runs_on in
          let p = found_there number (own_of sizes t).observations there in
          let k = found_in number (own_of sizes t).observations p.0 p.1 in
          let newer = has_newest server sizes setup t past p.0 k.0 in
          was_shown t past all.1 newer.newly (ap (λ i. newest sizes i t) (sym k.1) ∙ newer.is) f.1

  last_is : (t : List Call) → ClientLaw server sizes setup t → HaveAll sizes number t
      → last_value sizes number t ≡ option_map shown_by (newest sizes number t)
  last_is [] law all = refl
  last_is (c ∷ t) law all = by (is_newly_of number (notifies (own_of sizes t) c)) refl
      (last_is t (client_back server sizes setup (c ∷ []) t law) all.1)
    where
      by : (b : Bool) → is_newly_of number (notifies (own_of sizes t) c) ≡ b
          → last_value sizes number t ≡ option_map shown_by (newest sizes number t)
          → last_value sizes number (c ∷ t) ≡ option_map shown_by (newest sizes number (c ∷ t))
      by true e ih =
          let k = newly_there number (notifies (own_of sizes t) c) e in
          let value = value_is number k.0.number (reports (own_of sizes t) c) (shown_by k.0)
          (shown_now t c law all k.0 k.1 k.2) k.2 refl in
          ap (λ v. or_before v (last_value sizes number t)) value
          ∙ sym (ap (option_map shown_by) (newest_now sizes t c number k.0 k.1 k.2))
      by false e ih =
          ap (λ v. or_before v (last_value sizes number t))
          (no_value number (reports (own_of sizes t) c) (silent t c law all e))
          ∙ (ih ∙ sym (ap (option_map shown_by) (newest_kept sizes t c number e)))

pub last_is_newest : (server : Endpoint) (sizes : Sizes) (setup : Setup) (t : List Call)
    → ClientLaw server sizes setup t
    → LastIsNewest sizes t
last_is_newest server sizes setup t law number all = last_is server sizes setup number t law all

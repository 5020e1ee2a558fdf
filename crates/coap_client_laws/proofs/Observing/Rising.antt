-- Of two values of an observation the notification of the later one came after that of the earlier one.
use Rattle.std.proofs.Common.{◌≡◌, ◌⊎◌, inl, inr, ℕ, Bool, true, false, Some, None, List, ◌∷◌, [], refl, ap, sym, ◌∙◌}
use Rattle.coap_types.specs.Past.{Sometime}
use Rattle.coap_types.proofs.Facts.Traces.{Sometime_of_Sometime}
use Rattle.coap_types.specs.declared.endpoint.Endpoint.{Endpoint}
use Rattle.coap_layer.specs.declared.setup.Setup.{Setup}
use Rattle.coap_block.specs.Sizes.{Sizes}
use Rattle.coap_client.specs.Trace.{Call}
use Rattle.coap_client.specs.Law.{ClientLaw, own_of}
use Rattle.coap_client_laws.specs.Follows.Newer.{Newly, notifies}
use Rattle.coap_client.proofs.Facts.Turning.Leading.{client_back}
use Rattle.coap_client_laws.specs.Follows.Notified.{notes, is_newly_of, newest_if, newest, IsFirst, IsLater}
use Rattle.coap_client_laws.specs.Follows.Rising.{Shows, ComesAfter, ValuesRise}
use Rattle.coap_client_laws.proofs.Observing.Notified.{newest_kept, newest_now, came_now, are_taken}
use Rattle.coap_client_laws.proofs.Observing.Values.{NoneShown, shows_first}

module _ (sizes : Sizes) where
  abbrev Came : Newly → List Call → Call → Type 0
  Came n p b = notifies (own_of sizes p) b ≡ Some n

  -- the newest came
  pub newest_came : (t : List Call) (k : ℕ) (n : Newly) → newest sizes k t ≡ Some n
      → Sometime (Came n) t × (n.number ≡ k)
  newest_came [] k n h = absurd (cc h)
  newest_came (c ∷ t) k n h = by (is_newly_of k (notifies (own_of sizes t) c)) refl (newest_came t k n)
    where
      by : (b : Bool) → is_newly_of k (notifies (own_of sizes t) c) ≡ b
          → (newest sizes k t ≡ Some n → Sometime (Came n) t × (n.number ≡ k))
          → Sometime (Came n) (c ∷ t) × (n.number ≡ k)
      by true e ih = let z = came_now sizes t c k n e h in (inl z.0, z.1)
      by false e ih = let z = ih (sym (newest_kept sizes t c k e) ∙ h) in (inr z.0, z.1)

  -- .. and where one came there is a newest
  some_newest : (t : List Call) (k : ℕ) (n : Newly) → Sometime (Came n) t → n.number ≡ k → newest sizes k t ≡ None → ⊥
  some_newest [] k n h number none = absurd h
  some_newest (c ∷ t) k n (inl is) number none = let a : Some n ≡ None = sym (newest_now sizes t c k n is number)
      ∙ none in cc a
  some_newest (c ∷ t) k n (inr h) number none =
      by (is_newly_of k (notifies (own_of sizes t) c)) refl (some_newest t k n h number)
    where
      by : (b : Bool) → is_newly_of k (notifies (own_of sizes t) c) ≡ b → (newest sizes k t ≡ None → ⊥) → ⊥
      by true e ih =
          let is : notifies (own_of sizes t) c ≡ None =
          sym (ap (λ b. newest_if (notifies (own_of sizes t) c) b (newest sizes k t)) e) ∙ none in
          let a : false ≡ true = sym (ap (is_newly_of k) is) ∙ e in
          cc a
      by false e ih = ih (sym (newest_kept sizes t c k e) ∙ none)

  -- the notification of a value came
  shown_came : (t : List Call) (k : ℕ) (n : Newly) → Sometime (Shows sizes k n) t → Sometime (Came n) t
  shown_came t k n h = Sometime_of_Sometime (Shows sizes k n) (Came n)
      (λ p b z. (newest_came (b ∷ p) k n z.is_newest).0) t h

  shown_number : (t : List Call) (k : ℕ) (n : Newly) → Sometime (Shows sizes k n) t → n.number ≡ k
  shown_number [] k n h = absurd h
  shown_number (c ∷ t) k n (inl z) = (newest_came (c ∷ t) k n z.is_newest).1
  shown_number (c ∷ t) k n (inr h) = shown_number t k n h

  module _ (server : Endpoint) (setup : Setup) where
    -- one that comes behind a value
    comes_after : (t : List Call) (c : Call) → ClientLaw server sizes setup (c ∷ t) → (k : ℕ) (earlier later : Newly)
        → Came later t c → later.number ≡ k → Sometime (Shows sizes k earlier) t → ComesAfter sizes earlier later t c
    comes_after t c law k earlier later is number h =
        record {
          comes = is;
          noted = by ((are_taken server sizes setup (c ∷ t) law).0 later is).comes;
          before = shown_came t k earlier h;
        }
      where
        by : IsFirst sizes later t c ⊎ IsLater sizes later t c → notes c ≡ Some later.message
        by (inl z) = absurd (some_newest t k earlier (shown_came t k earlier h) (shown_number t k earlier h)
            (sym (ap (λ i. newest sizes i t) number) ∙ z.none))
        by (inr z) = z.noted

    -- behind the value before, the newest came
    since_shown : (t : List Call) → ClientLaw server sizes setup t → (k : ℕ) (earlier later : Newly)
        → NoneShown sizes k t
        → newest sizes k t ≡ Some later → Sometime (Shows sizes k earlier) t
        → Sometime (ComesAfter sizes earlier later) t
    since_shown [] law k earlier later none is h = absurd h
    since_shown (c ∷ t) law k earlier later none is (inl h) = absurd (none.0 h.value)
    since_shown (c ∷ t) law k earlier later none is (inr h) =
        by (is_newly_of k (notifies (own_of sizes t) c)) refl none.1
        (λ z e. since_shown t (client_back server sizes setup (c ∷ []) t law) k earlier later z e h)
      where
        by : (b : Bool) → is_newly_of k (notifies (own_of sizes t) c) ≡ b
            → (is_newly_of k (notifies (own_of sizes t) c) ≡ true) ⊎ NoneShown sizes k t
            → (NoneShown sizes k t → newest sizes k t ≡ Some later → Sometime (ComesAfter sizes earlier later) t)
            → Sometime (ComesAfter sizes earlier later) (c ∷ t)
        by true e z ih = let a = came_now sizes t c k later e is in inl (comes_after t c law k earlier later a.0 a.1 h)
        by false e (inl z) ih = absurd (cc (e, z))
        by false e (inr z) ih = inr (ih z (sym (newest_kept sizes t c k e) ∙ is))

    rises_here : (t : List Call) (c : Call) → ClientLaw server sizes setup (c ∷ t) → (k : ℕ) (earlier later : Newly)
        → Shows sizes k later t c → Sometime (Shows sizes k earlier) t
        → Sometime (ComesAfter sizes earlier later) (c ∷ t)
    rises_here t c law k earlier later s h = elim (shows_first sizes server setup t c law k s.value) [
      | inl e ↦ (let a = came_now sizes t c k later e s.is_newest in inl
          (comes_after t c law k earlier later a.0 a.1 h))
      | inr z ↦ inr (since_shown t (client_back server sizes setup (c ∷ []) t law) k earlier later z.1
          (sym (newest_kept sizes t c k z.0) ∙ s.is_newest) h)
    ]

    pub values_rise : (t : List Call) → ClientLaw server sizes setup t → ValuesRise sizes t
    values_rise [] law = tt
    values_rise (c ∷ t) law = (rises_here t c law, values_rise t (client_back server sizes setup (c ∷ []) t law))

-- The laws of every history, by induction over its calls.
use Rattle.std.proofs.Common.{◌≡◌, ◌≢◌, ℕ, ◌+◌, ◌-◌, ◌<◌, ◌≤◌, ◌⊎◌, inl, inr, Bool, true, false, cond, List, []}
use Rattle.std.proofs.Common.{◌∷◌, length, Option, Some, None, refl, sym, ap, ◌∙◌, subst, arith, slice_get, suc}
use Rattle.std.specs.Cmp.{IsEquivalence}
use Rattle.std.specs.Map.{lookup}
use Rattle.lru.specs.LruCache.{last_entry}
use Rattle.coap_types.specs.Past.{Ever, Since}
use Rattle.coap_types.specs.declared.endpoint.Endpoint.{Endpoint}
use Rattle.coap_types.specs.declared.transmission.TheConstants.{EXCHANGE_LIFETIME_MS as exchange_lifetime}
use Rattle.coap_names.specs.declared.names.Idle.{Idle}
use Rattle.coap_names.specs.Numbered.{number_of, names_in}
use Rattle.coap_names.specs.Trace.{NameOf, Sent, Hold, Retire, Named, Did, Entry}
use Rattle.coap_names.specs.Tables.{Setup, State, keyed, named}
use Rattle.coap_names.specs.Led.{Runs, Led}
use Rattle.coap_names.specs.Steps.{Step}
use Rattle.coap_names.specs.Laws.{NamedTo, IsOfName, WentTo, HasDatagram, Released, IsRecent, StaysHeld}
use Rattle.coap_names.specs.Laws.{NamesAreOf, HasOneOwner, AreInverse, IsOver, NeverAgain, HasName, KeepsNames}
use Rattle.coap_names.specs.Laws.{GivesTheSame, KeepsHeld, FullOnlyWhenTaken}
use Rattle.coap_names.proofs.Lookups.{lookup_same, lookup_removed}
use Rattle.coap_names.proofs.Order.{last_is_oldest}
use Rattle.coap_names.proofs.Sound.{Sound, alike, led_sound, runs_sound, step_sound}
use Rattle.coap_names.proofs.Moves.{clock_is, setup_is, given_up, keyed_step, key_step}
use Rattle.coap_names.proofs.IdleMoves.{idle_step, held_step}
use Rattle.coap_names.proofs.HeldMoves.{held_from}
use Rattle.coap_names.proofs.NamedNow.{IsSent, named_now, sent_now, named_same}

module _ {K : Type 0} {eq : K → K → Bool} (laws : IsEquivalence eq) where
  as_named : (b : State K) (e : Entry K) (s : State K) (n : Endpoint) (k : K) → NamedTo n k e
      → Step eq b e.at e.call e.answer s → Step eq b e.at (NameOf k) (Named n) s
  as_named b e s n k nt st =
      subst (λ c. Step eq b e.at c (Named n) s) nt.call_is (subst (λ a. Step eq b e.at e.call a s) nt.answer_is st)

  has_name : (s : State K) (n : Endpoint) (k : K) → Sound eq s → named eq s k ≡ Some n → HasName eq s n k
  has_name s n k sound h =
      let on = sound.tied.forth k n h in record { owner = on.0; keyed = on.1; equal = on.2; named = h }

  as_sent : (b : State K) (e : Entry K) (s : State K) (n : Endpoint) → WentTo n e
      → Step eq b e.at e.call e.answer s → Step eq b e.at (Sent n) (Did true) s
  as_sent b e s n went st =
      subst (λ c. Step eq b e.at c (Did true) s) went.call_is (subst (λ a. Step eq b e.at e.call a s) went.answer_is st)

  names_it : (b : State K) (e : Entry K) (s : State K) (n : Endpoint) (k : K) → NamedTo n k e → Sound eq s
      → Step eq b e.at e.call e.answer s → HasName eq s n k
  names_it b e s n k nt sound st = has_name s n k sound (named_now laws b e.at k n s (as_named b e s n k nt st)).named

  sends_to : (b : State K) (e : Entry K) (s : State K) (n : Endpoint) → WentTo n e → Step eq b e.at e.call e.answer s
      → IsSent eq e.at n s
  sends_to b e s n went st = sent_now laws b e.at n s (as_sent b e s n went st)

  pub inverse : (setup : Setup) (t : List (Entry K)) (s : State K) → Led eq setup t s → AreInverse eq s
  inverse setup t s led =
      let sound = led_sound laws setup t s led in record { forth = sound.tied.forth; back = sound.tied.back }

  -- a name that was given has a number that was
  given_before : (setup : Setup) (t : List (Entry K)) (s : State K) → Led eq setup t s → (n : Endpoint)
      → Ever (IsOfName n) t → number_of n < s.given
  given_before setup [] s led n ev = absurd ev
  given_before setup (e ∷ past) s led n ev = elim ev [
    | inl x ↦
        let sound = led_sound laws setup (e ∷ past) s led in
        let has = names_it led.0 e s n x.0 x.1 sound led.2 in
        sound.tied.known n has.owner has.keyed
    | inr before ↦
        let on = given_before setup past led.0 led.1 n before in
        let up = given_up laws led.0 e.at e.call e.answer s led.2 in omega arith
  ]

  of_name : (n : Endpoint) (k : K) (t : List (Entry K)) → Ever (NamedTo n k) t → Ever (IsOfName n) t
  of_name n k [] ev = ev
  of_name n k (e ∷ past) ev = elim ev [
    | inl x ↦ inl (k, x)
    | inr before ↦ inr (of_name n k past before)
  ]

  -- whoever has a name that was given to a key is equal to that key
  owned : (setup : Setup) (t : List (Entry K)) (s : State K) → Led eq setup t s → (n : Endpoint) (k owner : K)
      → Ever (NamedTo n k) t → keyed s n ≡ Some owner → eq k owner ≡ true
  owned setup [] s led n k owner ev h = absurd ev
  owned setup (e ∷ past) s led n k owner ev h = elim ev [
    | inl x ↦
        let has = names_it led.0 e s n k x (led_sound laws setup (e ∷ past) s led) led.2 in
        let is : has.owner ≡ owner = (let a = has.keyed in cc) in
        subst (λ o. eq k o ≡ true) is has.equal
    | inr before ↦ elim (keyed_step laws led.0 e.at e.call e.answer s led.2 n
        (given_before setup past led.0 led.1 n (of_name n k past before))) [
          | inl same ↦ owned setup past led.0 led.1 n k owner before (sym same ∙ h)
          | inr none ↦ absurd cc
        ]
  ]

  pub one_owner : (setup : Setup) (t : List (Entry K)) (s : State K) → Led eq setup t s → HasOneOwner eq t
  one_owner setup [] s led = tt
  one_owner setup (e ∷ past) s led = (
    λ n k other nt ev.
        let has = names_it led.0 e s n k nt (led_sound laws setup (e ∷ past) s led) led.2 in
        let on = owned setup (e ∷ past) s led n other has.owner (inr ev) has.keyed in
        laws.congr k has.owner other has.equal ∙ (laws.symm has.owner other ∙ on),
    one_owner setup past led.0 led.1,
  )

  over : (setup : Setup) (t : List (Entry K)) (s : State K) → Led eq setup t s → (n : Endpoint)
      → Ever (IsOfName n) t → keyed s n ≡ None → (later : List (Entry K)) (then : State K) → Runs eq s later then
      → (number_of n < then.given) × IsOver eq n later then
  over setup t s led n ev none [] then r = (
    subst (λ x. number_of n < x.given) (sym r) (given_before setup t s led n ev),
    record { nobody = ap (λ x. keyed x n) r ∙ none; never = λ x. x },
  )
  over setup t s led n ev none (e ∷ later) then r =
      let on = over setup t s led n ev none later r.0 r.1 in
      let small = on.0 in
      let up = given_up laws r.0 e.at e.call e.answer then r.2 in
      let nobody : keyed then n ≡ None = elim (keyed_step laws r.0 e.at e.call e.answer then r.2 n on.0) [
        | inl same ↦ same ∙ on.1.nobody
        | inr gone ↦ gone
      ] in
      let sound = step_sound laws r.0 e.at e.call e.answer then r.2
      (runs_sound laws s later r.0 (led_sound laws setup t s led) r.1) in (
        omega arith,
        record {
          nobody = nobody;
          never = λ x. elim x [
            | inl (inl is) ↦ let has = names_it r.0 e then n is.0 is.1 sound r.2 in let a = has.keyed in absurd cc
            | inl (inr went) ↦ let to = sends_to r.0 e then n went r.2 in let a = to.keyed in absurd cc
            | inr before ↦ on.1.never before
          ];
        },
      )

  pub never_again : (setup : Setup) (t : List (Entry K)) (s : State K) → Led eq setup t s → NeverAgain eq t s
  never_again setup t s led n later then ev none r = (over setup t s led n ev none later then r).1

  -- a name of which there was a datagram at this moment, and that was not retired since
  record Kept (now : ℕ) (n : Endpoint) (s : State K) : Type 0 where
    at : ℕ
    within : now ≤ at + exchange_lifetime
    before : at ≤ s.clock
    owner : K
    keyed : keyed s n ≡ Some owner
    recent : (p : Idle) → lookup (eq owner) s.idle ≡ Some p → at ≤ p.at.0

  kept_now : (b : State K) (e : Entry K) (s : State K) (now : ℕ) (n : Endpoint) → Sound eq s
      → Step eq b e.at e.call e.answer s → IsRecent now n e → Kept now n s
  kept_now b e s now n sound st r =
      let clock = clock_is laws b e.at e.call e.answer s st in
      elim r.datagram [
        | inl x ↦
            let is = named_now laws b e.at x.0 n s (as_named b e s n x.0 x.1 st) in
            let has = has_name s n x.0 sound is.named in
            record {
              at = e.at;
              within = r.within;
              before = omega arith;
              owner = has.owner;
              keyed = has.keyed;
              recent = λ p h.
                  let same = is.moment p (lookup_same laws x.0 has.owner s.idle has.equal ∙ h) in omega arith;
            }
        | inr went ↦
            let to = sends_to b e s n went st in
            record {
              at = e.at;
              within = r.within;
              before = omega arith;
              owner = to.owner;
              keyed = to.keyed;
              recent = λ p h. let same = to.moment p h in omega arith;
            }
      ]

  kept : (setup : Setup) (t : List (Entry K)) (s : State K) → Led eq setup t s → (n : Endpoint) (now : ℕ)
      → s.clock ≤ now → Since (IsRecent now n) (λ e. e.call ≢ Retire n) t → Kept now n s
  kept setup [] s led n now not_after since = absurd since
  kept setup (e ∷ past) s led n now not_after since = elim since [
    | inl r ↦ kept_now led.0 e s now n (led_sound laws setup (e ∷ past) s led) led.2 r
    | inr x ↦
        let clock = clock_is laws led.0 e.at e.call e.answer s led.2 in
        let later = led.2.later in
        let on = kept setup past led.0 led.1 n now (omega arith) x.1 in
        let before = on.before in
        let within = on.within in
        let sound = led_sound laws setup past led.0 led.1 in
        elim (key_step laws led.0 e.at e.call e.answer s led.2 sound n on.owner on.keyed) [
          | inl stays ↦ record {
            at = on.at;
            within = on.within;
            before = omega arith;
            owner = on.owner;
            keyed = stays;
            recent = λ p h. elim (idle_step laws led.0 e.at e.call e.answer s led.2 sound on.owner p h) [
              | inl now_is ↦ let a = now_is.0 in omega arith
              | inr was ↦ on.recent p was
            ];
          }
          | inr (inl retired) ↦ absurd (x.0 retired)
          | inr (inr gone) ↦
              let recent = on.recent gone.0 gone.1 in let late = gone.2 in absurd (omega arith)
        ]
  ]

  pub keeps_names : (setup : Setup) (t : List (Entry K)) (s : State K) → Led eq setup t s → KeepsNames eq t s
  keeps_names setup t s led n k ever since =
      let on = kept setup t s led n s.clock (omega arith) since in
      let equal = owned setup t s led n k on.owner ever on.keyed in
      record {
        owner = on.owner;
        keyed = on.keyed;
        equal = equal;
        named = alike laws s k on.owner equal ∙ (led_sound laws setup t s led).tied.back n on.owner on.keyed;
      }

  pub gives_the_same : (setup : Setup) (t : List (Entry K)) (s : State K) → Led eq setup t s → GivesTheSame eq t
  gives_the_same setup [] s led = tt
  gives_the_same setup (e ∷ past) s led = (
    λ n m k other nt same ever since.
        let on = kept setup past led.0 led.1 n e.at led.2.later since in
        let equal = owned setup past led.0 led.1 n k on.owner ever on.keyed in
        let own = alike laws led.0 k on.owner equal
        ∙ (led_sound laws setup past led.0 led.1).tied.back n on.owner on.keyed in
        named_same laws led.0 e.at other n m s (as_named led.0 e s m other nt led.2)
        (alike laws led.0 other k same ∙ own),
    gives_the_same setup past led.0 led.1,
  )

  record HeldNow (n : Endpoint) (s : State K) : Type 0 where
    owner : K
    keyed : keyed s n ≡ Some owner
    idle : lookup (eq owner) s.idle ≡ None

  gone_self : {X : Type 0} (b : Bool) (o : Option X) → b ≡ true → cond b None o ≡ None
  gone_self true o h = refl
  gone_self false o h = absurd cc

  hold_step : (old : State K) (at : ℕ) (n : Endpoint) (new : State K) → Step eq old at (Hold n) (Did true) new
      → HeldNow n new
  hold_step old at n new st = elim st.does [
    | inl x ↦ absurd (let a = x.answer_is in cc)
    | inr (inl x) ↦ record {
      owner = x.0;
      keyed = ap (lookup _) x.1.keys ∙ x.1.is_idle.keyed;
      idle = ap (lookup (eq x.0)) x.1.idle ∙ (lookup_removed laws x.0 x.0 old.idle st.distinct.idle
          ∙ gone_self (eq x.0 x.0) (lookup (eq x.0) old.idle) (laws.refl x.0));
    }
    | inr (inr x) ↦ record {
      owner = x.0.0;
      keyed = ap (λ s. keyed s n) x.1.new_is ∙ x.0.1.keyed;
      idle = ap (λ s. lookup (eq x.0.0) s.idle) x.1.new_is ∙ x.0.1.idle;
    }
  ]

  held : (setup : Setup) (t : List (Entry K)) (s : State K) → Led eq setup t s → (n : Endpoint) → StaysHeld n t
      → HeldNow n s
  held setup [] s led n since = absurd since
  held setup (e ∷ past) s led n since = elim since [
    | inl h ↦ hold_step led.0 e.at n s
        (subst (λ c. Step eq led.0 e.at c (Did true) s) h.call_is
        (subst (λ a. Step eq led.0 e.at e.call a s) h.answer_is led.2))
    | inr x ↦
        let on = held setup past led.0 led.1 n x.1 in
        let sound = led_sound laws setup past led.0 led.1 in
        elim (key_step laws led.0 e.at e.call e.answer s led.2 sound n on.owner on.keyed) [
          | inl stays ↦ record {
            owner = on.owner;
            keyed = stays;
            idle = held_step laws led.0 e.at e.call e.answer s led.2 sound n on.owner on.idle
                (sound.tied.back n on.owner on.keyed) x.0.0;
          }
          | inr (inl retired) ↦ absurd (x.0.1 retired)
          | inr (inr gone) ↦ absurd (let a = gone.1 in let b = on.idle in cc)
        ]
  ]

  pub keeps_held : (setup : Setup) (t : List (Entry K)) (s : State K) → Led eq setup t s → KeepsHeld eq t s
  keeps_held setup t s led n since =
      let on = held setup t s led n since in (
        on.owner,
        record {
          owner = on.owner;
          keyed = on.keyed;
          equal = laws.refl on.owner;
          named = (led_sound laws setup t s led).tied.back n on.owner on.keyed;
        },
      )

  setup_led : (setup : Setup) (t : List (Entry K)) (s : State K) → Led eq setup t s → s.setup ≡ setup
  setup_led setup [] s led = ap (λ x. x.setup) led
  setup_led setup (e ∷ past) s led = setup_is laws led.0 e.at e.call e.answer s led.2 ∙ setup_led setup past led.0 led.1

  -- a name that is not held is of the moment of a datagram from its key or to it, or of its release
  heard : (setup : Setup) (t : List (Entry K)) (s : State K) → Led eq setup t s → (q : K) (p : Idle)
      → lookup (eq q) s.idle ≡ Some p
      → Ever (λ e. (e.at ≡ p.at.0) × (HasDatagram p.name e ⊎ Released p.name e)) t
  heard setup [] s led q p h =
      absurd (let none : lookup (eq q) s.idle ≡ None = ap (λ x. lookup (eq q) x.idle) led in cc)
  heard setup (e ∷ past) s led q p h = elim (idle_step laws led.0 e.at e.call e.answer s led.2
      (led_sound laws setup past led.0 led.1) q p h) [
        | inl is ↦ inl (
          sym is.0,
          elim is.1 [
            | inl x ↦ inl (inl (x.0, record { call_is = x.1; answer_is = x.2 }))
            | inr (inl x) ↦ inl (inr (record { call_is = x.0; answer_is = x.1 }))
            | inr (inr x) ↦ inr (record { call_is = x.0; answer_is = x.1 })
          ],
        )
        | inr was ↦ inr (heard setup past led.0 led.1 q p was)
      ]

  -- a name that is held was held by a call, and not released or retired since
  held_by : (setup : Setup) (t : List (Entry K)) (s : State K) → Led eq setup t s → (q : K) (n : Endpoint)
      → lookup (eq q) s.held ≡ Some n → StaysHeld n t
  held_by setup [] s led q n h =
      absurd (let none : lookup (eq q) s.held ≡ None = ap (λ x. lookup (eq q) x.held) led in cc)
  held_by setup (e ∷ past) s led q n h = elim (held_from laws led.0 e.at e.call e.answer s led.2
      (led_sound laws setup past led.0 led.1) q n h) [
        | inl x ↦ inl (record { call_is = x.0; answer_is = x.1 })
        | inr x ↦ inr (x.1, held_by setup past led.0 led.1 q n x.0)
      ]

  last_of : {X : Type 0} (x : X) (xs : List X) → (last : X) × (slice_get (x ∷ xs) (length (x ∷ xs) - 1) ≡ Some last)
  last_of x [] = (x, refl)
  last_of x (y ∷ ys) =
      let n : length (x ∷ y ∷ ys) - 1 ≡ suc (length (y ∷ ys) - 1) = omega arith in
      let on = last_of y ys in (on.0, ap (slice_get (x ∷ y ∷ ys)) n ∙ on.1)

  some_last : {X : Type 0} (test : K → Bool) (es : List (K × X)) (p : X) → lookup test es ≡ Some p
      → (last : K × X) × (last_entry es ≡ Some last)
  some_last test [] p h = absurd cc
  some_last test (e ∷ es) p h = last_of e es

  pub full_when_taken : (setup : Setup) (t : List (Entry K)) (s : State K) → Led eq setup t s
      → FullOnlyWhenTaken eq setup.most t s
  full_when_taken setup t s led at k new st = elim st.does [
    | inl x ↦ absurd (let a = x.answer_is in cc)
    | inr (inl x) ↦ absurd (let a = x.answer_is in cc)
    | inr (inr (inl x)) ↦ absurd (let a = x.gives.answer_is in cc)
    | inr (inr (inr (inl x))) ↦ absurd (let a = x.gives.answer_is in cc)
    | inr (inr (inr (inr (inl f)))) ↦
        let sound = led_sound laws setup t s led in
        record {
          all = (let full = f.full in let few = sound.few in
              let is = ap (λ x. x.most) (setup_led setup t s led) in omega arith);
          held = λ q n h. held_by setup t s led q n h;
          heard = λ q p h.
              let last = some_last (eq q) s.idle p h in
              let oldest = last_is_oldest (eq q) s.clock s.idle last.0 p sound.descends last.1 h in
              let live = f.live last.0 last.1 in let low = oldest.0 in
              (omega arith, heard setup t s led q p h);
        }
    | inr (inr (inr (inr (inr x)))) ↦ absurd (let a = x.answer_is in cc)
  ]

  pub few_led : (setup : Setup) (t : List (Entry K)) (s : State K) → Led eq setup t s
      → length s.idle + length s.held ≤ setup.most
  few_led setup t s led =
      let few = (led_sound laws setup t s led).few in
      let is = ap (λ x. x.most) (setup_led setup t s led) in omega arith

  pub names_are_of : (setup : Setup) (t : List (Entry K)) (s : State K) → Led eq setup t s
      → NamesAreOf setup.numbering t
  names_are_of setup [] s led n ev = absurd ev
  names_are_of setup (e ∷ past) s led n ev = elim ev [
    | inl x ↦
        let sound = led_sound laws setup (e ∷ past) s led in
        let has = names_it led.0 e s n x.0 x.1 sound led.2 in
        let range = sound.range in
        let small = sound.tied.known n has.owner has.keyed in
        let same = ap (λ c. names_in c.numbering) (setup_led setup (e ∷ past) s led) in
        record { number = number_of n; within = omega arith; is = sym (sound.tied.made n has.owner has.keyed) }
    | inr before ↦ names_are_of setup past led.0 led.1 n before
  ]

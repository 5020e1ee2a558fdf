-- What holds of each table that calls lead to.
use Rattle.std.proofs.Common.{◌≡◌, ℕ, ◌+◌, ◌-◌, ◌*◌, ◌/◌, ◌%◌, ◌^◌, ◌<◌, ◌≤◌, inl, inr, true, false, cond}
use Rattle.std.proofs.Common.{Bool, List, [], ◌∷◌, length, take, Option, Some, None, refl, sym, ap, ◌∙◌, subst, arith}
use Rattle.std.specs.Cmp.{IsEquivalence}
use Rattle.std.specs.Map.{lookup, remove_entry}
use Rattle.std.proofs.lemmas.Nat.{from_be_bytes-to_be_bytes_4}
use Rattle.lru.specs.LruCache.{last_entry}
use Rattle.coap_types.specs.declared.endpoint.Endpoint.{Endpoint}
use Rattle.coap_types.specs.SameEndpoint.{same_endpoint}
use Rattle.coap_names.specs.declared.names.Idle.{Idle}
use Rattle.coap_names.specs.declared.numbering.Numbering.{Numbering}
use Rattle.coap_names.specs.declared.numbering.Numbering.TheVariants.{Whole, ThisNetwork}
use Rattle.coap_names.specs.declared.numbering.TheConstants.{NAMES as names, PORTS as ports}
use Rattle.coap_names.specs.Numbered.{numbered, number_of, names_in}
use Rattle.coap_names.specs.Trace.{Call, NameOf, Sent, Hold, Release, Retire, Answer, Named, Entry}
use Rattle.coap_names.specs.Tables.{Setup, State, start, touched, idle_at, keyed, named, either}
use Rattle.coap_names.specs.Steps.{Distinct, Touches, Gives, Adds, Evicts, IsNew, Holds, Releases, Retires, Step}
use Rattle.coap_names.specs.Led.{Runs, Led}
use Rattle.coap_names.proofs.OrderOfIdle.{Descends}
use Rattle.coap_names.proofs.Lists.{length-removed}
use Rattle.coap_names.proofs.Lookups.{lookup_same, lookup_first, lookup_removed, lookup_touched, touched_is}
use Rattle.coap_names.proofs.Lookups.{last_removed, lookup_last, length-removed_le}
use Rattle.coap_names.proofs.Order.{descends_later, descends_removed}
use Rattle.coap_names.proofs.Tied.{Tied, same_tied, fresh_tied, gone_tied}

pub number_is : (n : ℕ) → n < names → number_of (numbered n) ≡ n
number_is n h =
    let small : n / ports < 2 ^ 32 = omega arith in
    let back = from_be_bytes-to_be_bytes_4 (n / ports) small in
    let parts : (n / ports) * ports + (n % ports + 1 - 1) ≡ n = omega arith in
    ap (λ m. m * ports + (n % ports + 1 - 1)) back ∙ parts

-- no table gives more names than there are
pub names_within : (numbering : Numbering) → names_in numbering ≤ names
names_within Whole = omega arith
names_within ThisNetwork = omega arith

-- a name by two look-ups, of which one has changed
name_stays : (b : Bool) (w p : Idle) (o : Option Idle) (h : Option Endpoint) → w.name ≡ p.name → (b ≡ true → o ≡ Some p)
    → either (cond b (Some w) o) h ≡ either o h
name_stays true w p o h same is = ap Some same ∙ sym (ap (λ x. either x h) (is refl))
name_stays false w p o h same is = refl

name_first : (b : Bool) (w : Idle) (o : Option Idle) (h : Option Endpoint)
    → either (cond b (Some w) o) h ≡ cond b (Some w.name) (either o h)
name_first true w o h = refl
name_first false w o h = refl

name_gone : (b : Bool) (o : Option Idle) (h : Option Endpoint) → (b ≡ true → h ≡ None)
    → either (cond b None o) h ≡ cond b None (either o h)
name_gone true o h none = none refl
name_gone false o h none = refl

name_held : (b : Bool) (n : Endpoint) (o : Option Idle) (h : Option Endpoint) → (b ≡ true → either o h ≡ Some n)
    → either (cond b None o) (cond b (Some n) h) ≡ either o h
name_held true n o h is = sym (is refl)
name_held false n o h is = refl

name_released : (b : Bool) (w : Idle) (o : Option Idle) (h : Option Endpoint) → (b ≡ true → either o h ≡ Some w.name)
    → either (cond b (Some w) o) (cond b None h) ≡ either o h
name_released true w o h is = sym (is refl)
name_released false w o h is = refl

name_retired : (b : Bool) (o : Option Idle) (h : Option Endpoint)
    → either (cond b None o) (cond b None h) ≡ cond b None (either o h)
name_retired true o h = refl
name_retired false o h = refl

none_of_none : {X : Type 0} (b : Bool) (o : Option X) → o ≡ None → cond b None o ≡ None
none_of_none true o h = refl
none_of_none false o h = h

-- they stay apart
apart_set : (b : Bool) (w : Idle) (o : Option Idle) (h : Option Endpoint) → (b ≡ true → h ≡ None)
    → ((p : Idle) → o ≡ Some p → h ≡ None) → (p : Idle) → cond b (Some w) o ≡ Some p → h ≡ None
apart_set true w o h a old p is = a refl
apart_set false w o h a old p is = old p is

apart_gone : (b : Bool) (o : Option Idle) (h h' : Option Endpoint) → (b ≡ false → h' ≡ h)
    → ((p : Idle) → o ≡ Some p → h ≡ None) → (p : Idle) → cond b None o ≡ Some p → h' ≡ None
apart_gone true o h h' same old p is = absurd cc
apart_gone false o h h' same old p is = same refl ∙ old p is

apart_released : (b : Bool) (w : Idle) (o : Option Idle) (h : Option Endpoint)
    → ((p : Idle) → o ≡ Some p → h ≡ None) → (p : Idle) → cond b (Some w) o ≡ Some p → cond b None h ≡ None
apart_released true w o h old p is = refl
apart_released false w o h old p is = old p is

module _ {K : Type 0} (eq : K → K → Bool) where
  -- names and keys are each other's; no name is both held and not; the names that are not held stand in the order of
  -- their moments; there are no more than places; and no more were given than the numbering has
  pub record Sound (s : State K) : Type 0 where
    pub tied : Tied eq (named eq s) (keyed s) s.given
    pub apart : (q : K) (p : Idle) → lookup (eq q) s.idle ≡ Some p → lookup (eq q) s.held ≡ None
    pub descends : Descends s.clock s.idle
    pub few : length s.idle + length s.held ≤ s.setup.most
    pub range : s.given ≤ names_in s.setup.numbering

  pub start_sound : (setup : Setup) → Sound (start setup)
  start_sound setup = record {
    tied = record {
      forth = λ q n h. absurd cc;
      back = λ n k h. absurd cc;
      known = λ n k h. absurd cc;
      made = λ n k h. absurd cc;
    };
    apart = λ q p h. absurd cc;
    descends = tt;
    few = omega arith;
    range = omega arith;
  }

  pub moved_sound : (old : State K) (at : ℕ) → old.clock ≤ at → Sound old → Sound (record old { clock = at })
  moved_sound old at later s = record {
    tied = record { forth = s.tied.forth; back = s.tied.back; known = s.tied.known; made = s.tied.made };
    apart = s.apart;
    descends = descends_later old.clock at old.idle later s.descends;
    few = s.few;
    range = s.range;
  }

module _ {K : Type 0} {eq : K → K → Bool} (laws : IsEquivalence eq) where
  pub alike : (s : State K) (a b : K) → eq a b ≡ true → named eq s a ≡ named eq s b
  alike s a b h = λ i. either (lookup_same laws a b s.idle h i) (lookup_same laws a b s.held h i)

  touches_sound : (old : State K) (at : ℕ) (key : K) (answer : Answer) (new : State K) → Distinct eq old
      → old.clock ≤ at → Touches eq old at key answer new → Sound eq old → Sound eq new
  touches_sound old at key answer new d later t s = subst (Sound eq) (sym t.new_is) (record {
    tied = same_tied eq (named eq old) (named eq now) (keyed old) (keyed now) old.given
        (λ q. ap (λ o. either o (lookup (eq q) old.held)) (looks q)
        ∙ name_stays (eq key q) w t.place (lookup (eq q) old.idle) (lookup (eq q) old.held) refl
        (λ e. sym (lookup_same laws key q old.idle e) ∙ t.found))
        (λ n. refl) s.tied;
    apart = λ q p h. apart_set (eq key q) w (lookup (eq q) old.idle) (lookup (eq q) old.held)
        (λ e. sym (lookup_same laws key q old.held e) ∙ s.apart key t.place t.found) (s.apart q) p (sym (looks q) ∙ h);
    descends = subst (Descends at) (sym first.2) (
      omega arith,
      descends_later old.clock at (remove_entry (eq key) old.idle) later
          (descends_removed (eq key) old.clock old.idle s.descends),
    );
    few = few;
    range = s.range;
  })
    where
      w : Idle
      w = idle_at t.place.name at

      now : State K
      now = record old { clock = at; idle = touched (eq key) t.place.name at old.idle }

      looks : (q : K) → lookup (eq q) (touched (eq key) t.place.name at old.idle)
          ≡ cond (eq key q) (Some w) (lookup (eq q) old.idle)
      looks q = lookup_touched laws q key t.place t.place.name at old.idle d.idle t.found

      first : (k0 : K) × (eq key k0 ≡ true)
          × (touched (eq key) t.place.name at old.idle ≡ (k0, w) ∷ remove_entry (eq key) old.idle)
      first = touched_is laws key t.place t.place.name at old.idle t.found

      few : length (touched (eq key) t.place.name at old.idle) + length old.held ≤ old.setup.most
      few =
          let same = ap length first.2 in
          let less = length-removed (eq key) old.idle t.place t.found in
          let bound = s.few in omega arith

  -- a name that is given to a key that has none, where these others are left
  gives_sound : (old : State K) (at : ℕ) (key : K) (left : List (K × Idle)) (keys : Endpoint → Option K)
      (answer : Answer) (new : State K) → Gives eq old at key left keys answer new → old.clock ≤ at
      → Tied eq (λ q. either (lookup (eq q) left) (lookup (eq q) old.held)) keys old.given
      → either (lookup (eq key) left) (lookup (eq key) old.held) ≡ None
      → lookup (eq key) old.held ≡ None
      → ((q : K) (p : Idle) → lookup (eq q) left ≡ Some p → lookup (eq q) old.held ≡ None)
      → Descends old.clock left → length left + length old.held < old.setup.most → Sound eq new
  gives_sound old at key left keys answer new g later tied none not_held apart descends few = record {
    tied = subst (Tied eq (named eq new) (keyed new)) (sym g.given)
        (fresh_tied laws (λ q. either (lookup (eq q) left) (lookup (eq q) old.held)) (named eq new) keys (keyed new)
        old.given (λ a b h. λ i. either (lookup_same laws a b left h i) (lookup_same laws a b old.held h i))
        key (numbered old.given) number (ap numbered number) none names_are g.keyed tied);
    apart = λ q p h. ap (lookup (eq q)) g.held ∙ apart_set (eq key q) w (lookup (eq q) left) (lookup (eq q) old.held)
        (λ e. sym (lookup_same laws key q old.held e) ∙ not_held) (apart q) p (sym (looks q) ∙ h);
    descends = subst (λ c. Descends c new.idle) (sym g.clock) (subst (Descends at) (sym g.idle)
        (omega arith, descends_later old.clock at left later descends));
    few = (let i = ap length g.idle in let h = ap length g.held in let m = ap (λ x. x.most) g.setup in omega arith);
    range = (let n = g.given in let m = ap (λ x. names_in x.numbering) g.setup in let within = g.within in omega arith);
  }
    where
      number : number_of (numbered old.given) ≡ old.given
      number = number_is old.given
          (let within = g.within in let most = names_within old.setup.numbering in omega arith)

      w : Idle
      w = idle_at (numbered old.given) at

      looks : (q : K) → lookup (eq q) new.idle ≡ cond (eq key q) (Some w) (lookup (eq q) left)
      looks q = ap (lookup (eq q)) g.idle ∙ lookup_first laws q key w left

      names_are : (q : K) → named eq new q
          ≡ cond (eq key q) (Some (numbered old.given)) (either (lookup (eq q) left) (lookup (eq q) old.held))
      names_are q = (λ i. either (looks q i) (lookup (eq q) (g.held i)))
          ∙ name_first (eq key q) w (lookup (eq q) left) (lookup (eq q) old.held)

  pub unnamed : (s : State K) (key : K) → IsNew eq s key → named eq s key ≡ None
  unnamed s key new = (λ i. either (new.idle i) (lookup (eq key) s.held)) ∙ new.held

  adds_sound : (old : State K) (at : ℕ) (key : K) (answer : Answer) (new : State K) → old.clock ≤ at
      → Adds eq old at key answer new → Sound eq old → Sound eq new
  adds_sound old at key answer new later a s =
      gives_sound old at key old.idle (keyed old) answer new a.gives later s.tied (unnamed old key a.is_new)
      a.is_new.held s.apart s.descends a.place

  -- the last that is forgotten has its name
  pub last_named : (old : State K) (gone : K × Idle) → Distinct eq old → last_entry old.idle ≡ Some gone
      → named eq old gone.0 ≡ Some gone.1.name
  last_named old gone d last =
      ap (λ o. either o (lookup (eq gone.0) old.held)) (lookup_last laws old.idle gone last d.idle)

  evicts_sound : (old : State K) (at : ℕ) (key : K) (answer : Answer) (new : State K) → Distinct eq old → old.clock ≤ at
      → Evicts eq old at key answer new → Sound eq old → Sound eq new
  evicts_sound old at key answer new d later e s =
      gives_sound old at key left keys answer new e.gives later
      (gone_tied laws (named eq old) (λ q. either (lookup (eq q) left) (lookup (eq q) old.held)) (keyed old) keys
      old.given (alike old) e.gone.0 e.gone.1.name (last_named old e.gone d e.last) names (λ n. refl) s.tied)
      (names key ∙ none_of_none (eq e.gone.0 key) (named eq old key) (unnamed old key e.is_new)) e.is_new.held
      (λ q p h. apart_gone (eq e.gone.0 q) (lookup (eq q) old.idle) (lookup (eq q) old.held) (lookup (eq q) old.held)
      (λ f. refl) (s.apart q) p (sym (looks q) ∙ h))
      (subst (Descends old.clock) (sym left_is) (descends_removed (eq e.gone.0) old.clock old.idle s.descends))
      few
    where
      left : List (K × Idle)
      left = take (length old.idle - 1) old.idle

      keys : Endpoint → Option K
      keys n = cond (same_endpoint e.gone.1.name n) None (keyed old n)

      left_is : left ≡ remove_entry (eq e.gone.0) old.idle
      left_is = last_removed laws old.idle e.gone e.last d.idle

      looks : (q : K) → lookup (eq q) left ≡ cond (eq e.gone.0 q) None (lookup (eq q) old.idle)
      looks q = ap (lookup (eq q)) left_is ∙ lookup_removed laws q e.gone.0 old.idle d.idle

      found : lookup (eq e.gone.0) old.idle ≡ Some e.gone.1
      found = lookup_last laws old.idle e.gone e.last d.idle

      names : (q : K) → either (lookup (eq q) left) (lookup (eq q) old.held)
          ≡ cond (eq e.gone.0 q) None (named eq old q)
      names q = ap (λ o. either o (lookup (eq q) old.held)) (looks q)
          ∙ name_gone (eq e.gone.0 q) (lookup (eq q) old.idle) (lookup (eq q) old.held)
          (λ t. sym (lookup_same laws e.gone.0 q old.held t) ∙ s.apart e.gone.0 e.gone.1 found)

      few : length left + length old.held < old.setup.most
      few =
          let same = ap length left_is in
          let less = length-removed (eq e.gone.0) old.idle e.gone.1 found in
          let bound = s.few in omega arith

  same_range : (old new : State K) → new.given ≡ old.given → new.setup ≡ old.setup → Sound eq old
      → new.given ≤ names_in new.setup.numbering
  same_range old new given setup s =
      let range = s.range in let m = ap (λ x. names_in x.numbering) setup in omega arith

  holds_sound : (old : State K) (at : ℕ) (name : Endpoint) (key : K) (answer : Answer) (new : State K)
      → Distinct eq old → old.clock ≤ at → Holds eq old at name key answer new → Sound eq old → Sound eq new
  holds_sound old at name key answer new d later h s = record {
    tied = subst (Tied eq (named eq new) (keyed new)) (sym h.given)
        (same_tied eq (named eq old) (named eq new) (keyed old) (keyed new) old.given
        (λ q. (λ i. either (looks q i) (h.held q i))
        ∙ name_held (eq key q) name (lookup (eq q) old.idle) (lookup (eq q) old.held)
        (λ e. sym (alike old key q e) ∙ s.tied.back name key h.is_idle.keyed))
        (λ n. ap (lookup (same_endpoint n)) h.keys) s.tied);
    apart = λ q p is. apart_gone (eq key q) (lookup (eq q) old.idle) (lookup (eq q) old.held) (lookup (eq q) new.held)
        (λ f. h.held q ∙ ap (λ b. cond b (Some name) (lookup (eq q) old.held)) f) (s.apart q) p (sym (looks q) ∙ is);
    descends = subst (λ c. Descends c new.idle) (sym h.clock) (subst (Descends at) (sym h.idle)
        (descends_later old.clock at (remove_entry (eq key) old.idle) later
        (descends_removed (eq key) old.clock old.idle s.descends)));
    few = (let a = h.fewer in let b = h.longer in let m = ap (λ x. x.most) h.setup in let bound = s.few in omega arith);
    range = same_range old new h.given h.setup s;
  }
    where
      looks : (q : K) → lookup (eq q) new.idle ≡ cond (eq key q) None (lookup (eq q) old.idle)
      looks q = ap (lookup (eq q)) h.idle ∙ lookup_removed laws q key old.idle d.idle

  releases_sound : (old : State K) (at : ℕ) (name : Endpoint) (key : K) (answer : Answer) (new : State K)
      → old.clock ≤ at → Releases eq old at name key answer new → Sound eq old → Sound eq new
  releases_sound old at name key answer new later r s = record {
    tied = subst (Tied eq (named eq new) (keyed new)) (sym r.given)
        (same_tied eq (named eq old) (named eq new) (keyed old) (keyed new) old.given
        (λ q. (λ i. either (looks q i) (r.held q i))
        ∙ name_released (eq key q) (idle_at name at) (lookup (eq q) old.idle) (lookup (eq q) old.held)
        (λ e. sym (alike old key q e) ∙ s.tied.back name key r.is_held.keyed))
        (λ n. ap (lookup (same_endpoint n)) r.keys) s.tied);
    apart = λ q p is. r.held q
        ∙ apart_released (eq key q) (idle_at name at) (lookup (eq q) old.idle) (lookup (eq q) old.held)
        (s.apart q) p (sym (looks q) ∙ is);
    descends = subst (λ c. Descends c new.idle) (sym r.clock) (subst (Descends at) (sym r.idle)
        (omega arith, descends_later old.clock at old.idle later s.descends));
    few = (let a = ap length r.idle in
        let held : lookup (eq key) old.held ≡ Some name =
        sym (ap (λ o. either o (lookup (eq key) old.held)) r.is_held.idle) ∙ s.tied.back name key r.is_held.keyed in
        let b = r.fewer name held in let m = ap (λ x. x.most) r.setup in let bound = s.few in omega arith);
    range = same_range old new r.given r.setup s;
  }
    where
      looks : (q : K) → lookup (eq q) new.idle ≡ cond (eq key q) (Some (idle_at name at)) (lookup (eq q) old.idle)
      looks q = ap (lookup (eq q)) r.idle ∙ lookup_first laws q key (idle_at name at) old.idle

  retires_sound : (old : State K) (at : ℕ) (name : Endpoint) (key : K) (answer : Answer) (new : State K)
      → Distinct eq old → old.clock ≤ at → Retires eq old at name key answer new → Sound eq old → Sound eq new
  retires_sound old at name key answer new d later r s = record {
    tied = subst (Tied eq (named eq new) (keyed new)) (sym r.given)
        (gone_tied laws (named eq old) (named eq new) (keyed old) (keyed new) old.given (alike old) key name
        (s.tied.back name key r.keyed)
        (λ q. (λ i. either (looks q i) (r.held q i))
        ∙ name_retired (eq key q) (lookup (eq q) old.idle) (lookup (eq q) old.held))
        r.keys s.tied);
    apart = λ q p is. apart_gone (eq key q) (lookup (eq q) old.idle) (lookup (eq q) old.held) (lookup (eq q) new.held)
        (λ f. r.held q ∙ ap (λ b. cond b None (lookup (eq q) old.held)) f) (s.apart q) p (sym (looks q) ∙ is);
    descends = subst (λ c. Descends c new.idle) (sym r.clock) (subst (Descends at) (sym r.idle)
        (descends_later old.clock at (remove_entry (eq key) old.idle) later
        (descends_removed (eq key) old.clock old.idle s.descends)));
    few = (let i = ap length r.idle in let a = length-removed_le (eq key) old.idle in let b = r.longer in
        let m = ap (λ x. x.most) r.setup in let bound = s.few in omega arith);
    range = same_range old new r.given r.setup s;
  }
    where
      looks : (q : K) → lookup (eq q) new.idle ≡ cond (eq key q) None (lookup (eq q) old.idle)
      looks q = ap (lookup (eq q)) r.idle ∙ lookup_removed laws q key old.idle d.idle

  moved : (old : State K) (at : ℕ) (new : State K) → old.clock ≤ at → new ≡ record old { clock = at } → Sound eq old
      → Sound eq new
  moved old at new later is s = subst (Sound eq) (sym is) (moved_sound eq old at later s)

  pub step_sound : (old : State K) (at : ℕ) (call : Call K) (answer : Answer) (new : State K)
      → Step eq old at call answer new → Sound eq old → Sound eq new
  step_sound old at (NameOf key) answer new st s = elim st.does [
    | inl t ↦ touches_sound old at key answer new st.distinct st.later t s
    | inr (inl k) ↦ moved old at new st.later k.new_is s
    | inr (inr (inl a)) ↦ adds_sound old at key answer new st.later a s
    | inr (inr (inr (inl e))) ↦ evicts_sound old at key answer new st.distinct st.later e s
    | inr (inr (inr (inr (inl f)))) ↦ moved old at new st.later f.new_is s
    | inr (inr (inr (inr (inr p)))) ↦ moved old at new st.later p.new_is s
  ]
  step_sound old at (Sent name) answer new st s = elim st.does [
    | inl n ↦ moved old at new st.later n.new_is s
    | inr (inl x) ↦ touches_sound old at x.0 (Named x.1.told) new st.distinct st.later x.1.touches s
    | inr (inr x) ↦ moved old at new st.later x.1.new_is s
  ]
  step_sound old at (Hold name) answer new st s = elim st.does [
    | inl n ↦ moved old at new st.later n.new_is s
    | inr (inl h) ↦ holds_sound old at name h.0 answer new st.distinct st.later h.1 s
    | inr (inr x) ↦ moved old at new st.later x.1.new_is s
  ]
  step_sound old at (Release name) answer new st s = elim st.does [
    | inl n ↦ moved old at new st.later n.new_is s
    | inr (inl r) ↦ releases_sound old at name r.0 answer new st.later r.1 s
    | inr (inr x) ↦ moved old at new st.later x.1.new_is s
  ]
  step_sound old at (Retire name) answer new st s = elim st.does [
    | inl n ↦ moved old at new st.later n.new_is s
    | inr r ↦ retires_sound old at name r.0 answer new st.distinct st.later r.1 s
  ]

  pub runs_sound : (from : State K) (t : List (Entry K)) (s : State K) → Sound eq from → Runs eq from t s → Sound eq s
  runs_sound from [] s sound r = subst (Sound eq) (sym r) sound
  runs_sound from (e ∷ past) s sound r =
      step_sound r.0 e.at e.call e.answer s r.2 (runs_sound from past r.0 sound r.1)

  pub led_sound : (setup : Setup) (t : List (Entry K)) (s : State K) → Led eq setup t s → Sound eq s
  led_sound setup t s led = runs_sound (start setup) t s (start_sound eq setup) led

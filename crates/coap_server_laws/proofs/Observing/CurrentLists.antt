-- What each change of the observers leaves of those to whom nothing is due: each was told last what its path holds.
use Rattle.std.proofs.Common.{◌≡◌, inl, inr, ℕ, ◌==◌, ◌&&◌, nat_eq, Bool, true, false}
use Rattle.std.proofs.Common.{Option, Some, None, List, refl, ap, sym, subst, ◌∙◌, cond, option_map}
use Rattle.std.proofs.Common.{arith}
use Rattle.std.proofs.lemmas.Bool.{and_parts, and_from, or_parts}
use Rattle.std.specs.Cmp.{unsigned_Decides}
use Rattle.std.specs.Cmp.Lexicographic.{pointwise, bytes_decides}
use Rattle.coap_types.specs.Path.{same_path}
use Rattle.coap_types.proofs.Facts.Endpoints.{same_endpoint-decides}
use Rattle.coap_types.proofs.Facts.Paths.{same_path-decides}
use Rattle.coap_types.specs.SameEndpoint.{same_endpoint}
use Rattle.coap_types.specs.declared.endpoint.Endpoint.{Endpoint}
use Rattle.coap_observe.specs.Observers.{Observer, registration, removed, registered, changed_at}
use Rattle.coap_observe.specs.Observers.{begun, marked_by, sent_to}
use Rattle.coap_observe.specs.Registrations.{IsOther, told_by}
use Rattle.coap_observe.proofs.Facts.Registrations.{registration-changed_at, registration-registered}
use Rattle.coap_observe.proofs.Facts.Registrations.{registration-removed, registration-sent_to, others_stay}
use Rattle.coap_resource.specs.Content.{Content, Held}
use Rattle.coap_resource.specs.Serves.{Question}
use Rattle.coap_exchange.specs.declared.answerer.Asked.{Asked}
use Rattle.coap_exchange.specs.declared.answerer.Ended.{Ended}
use Rattle.coap_server.specs.Observers.{marked_if, unless_ended}
use Rattle.coap_server.specs.Notifying.{notified}
use Rattle.coap_server_laws.specs.Follows.Current.{told_then}
use Rattle.coap_server.specs.Follows.Tells.{Telling, Way, telling_of, tells}
use Rattle.coap_server_laws.proofs.Observing.ObservationStays.{is_pair}
use Rattle.coap_server.proofs.Facts.Observing.StoreChanges.{Effect}
use Rattle.coap_observe.specs.Observers.{noted_to}
use Rattle.coap_observe.proofs.Facts.Registrations.{registration-noted_to}
use Rattle.coap_exchange.specs.AnswererTrace.{Sending}
use Rattle.coap_server.specs.Observers.{unless_rejected}
use Rattle.coap_server.proofs.Facts.Observing.ObserverLists.{rejected_left}
use Rattle.coap_server_laws.proofs.Observing.Elsewhere.{elsewhere_either}
use Rattle.coap_observe.specs.Observers.{elsewhere}

abbrev pub Holdings : Type 0
Holdings = List (List ℕ) → Option Held

one_some : {X : Type 0} (x y : X) → Some x ≡ Some y → x ≡ y
one_some x y h = cc h

pub none_or : {X Y : Type 0} {x : X} → None ≡ Some x → Y
none_or h = absurd (cc h)

-- what a notification tells, and the answer that registers
abbrev notice_of : Observer → Way → ℕ → Held → Telling
notice_of o way at held = telling_of o.to o.token o.path way at false held

abbrev answer_of : Asked → Question → Way → ℕ → Held → Telling
answer_of a q way at held = telling_of a.from a.token q.path way at true held

module _ (to : Endpoint) (token : List ℕ) where
  -- the path holds what was told last
  pub record Cur (last : Option Telling) (holds : Holdings) (path : List (List ℕ)) : Type 0 where
    pub told : Telling
    pub last_is : last ≡ Some told
    pub path_is : told.path ≡ path
    pub held : Held
    pub is_held : holds path ≡ Some held
    pub version : told.version ≡ held.version

  abbrev pub Good : Option Telling → Holdings → List Observer → Type 0
  Good last holds os = (o : Observer) → registration to token os ≡ Some o → o.marked ≡ false → Cur last holds o.path

  abbrev Same : Endpoint → List ℕ → Type 0
  Same by bytes = (by ≡ to) × (bytes ≡ token)

  moved : (last : Option Telling) (holds : Holdings) (os left : List Observer)
      → registration to token left ≡ registration to token os
      → Good last holds os → Good last holds left
  moved last holds os left e g o h m = g o (sym e ∙ h) m

  pub removed_good : (last : Option Telling) (holds : Holdings) (by : Endpoint) (bytes : List ℕ) (os : List Observer)
      → Good last holds os → Good last holds (removed by bytes os)
  removed_good last holds by bytes os g = elim (is_pair to token by bytes) [
    | inl p ↦ (λ o h m. (
        let gone : registration to token (removed by bytes os) ≡ None =
        ap (λ x. registration to token (removed x bytes os)) p.0
        ∙ (ap (λ x. registration to token (removed to x os)) p.1 ∙ registration-removed to token os) in
        none_or (sym gone ∙ h)))
    | inr other ↦ moved last holds os (removed by bytes os) (others_stay to token by bytes os other).removed_stay g
  ]

  pub elsewhere_good : (last : Option Telling) (holds : Holdings) (peer : Endpoint) (os : List Observer)
      → Good last holds os → Good last holds (elsewhere peer os)
  elsewhere_good last holds peer os g = elim (elsewhere_either peer to token os) [
    | inl e ↦ moved last holds os (elsewhere peer os) e g
    | inr gone ↦ (λ o h m. none_or (sym gone.1 ∙ h))
  ]

  pub rejected_good : (last : Option Telling) (holds : Holdings) (at : ℕ) (r : Option Sending) (os : List Observer)
      → Good last holds os → Good last holds (unless_rejected at r os)
  rejected_good last holds at r os g =
      rejected_left (Good last holds) at r os g (λ by bytes. removed_good last holds by bytes os g)

  pub ended_good : (last : Option Telling) (holds : Holdings) (e : Option Ended) (os : List Observer)
      → Good last holds os
      → Good last holds (unless_ended e os)
  ended_good last holds None os g = g
  ended_good last holds (Some x) os g = by x.observe
    where
      by : (b : Bool) → Good last holds (cond b (removed x.to x.token os) os)
      by true = removed_good last holds x.to x.token os g
      by false = g

  -- a change of a path
  held_on : (last : Option Telling) (holds then : Holdings) (path : List (List ℕ)) → then path ≡ holds path
      → Cur last holds path → Cur last then path
  held_on last holds then path e c = record {
    told = c.told;
    last_is = c.last_is;
    path_is = c.path_is;
    held = c.held;
    is_held = e ∙ c.is_held;
    version = c.version;
  }

  mapped : (f : Observer → Observer) (r : Option Observer) (o : Observer) → option_map f r ≡ Some o
      → (x : Observer) × (r ≡ Some x) × (f x ≡ o)
  mapped f None o h = none_or h
  mapped f (Some x) o h = (x, refl, one_some (f x) o h)

  -- those that stay unmarked are of other paths
  kept_good : (at : ℕ) (last : Option Telling) (holds then : Holdings) (path : List (List ℕ)) (os : List Observer)
      → ((other : List (List ℕ)) → (other ≡ path → ⊥) → then other ≡ holds other) → Good last holds os
      → Good last then (changed_at at path os)
  kept_good at last holds then path os others g o h m =
      let k = mapped (marked_by at path) (registration to token os) o
      (sym (registration-changed_at at path to token os) ∙ h)
      in
      let x = k.0 in
      let parts = or_parts x.marked (same_path x.path path) (ap (λ (y : Observer). y.marked) k.2 ∙ m) in
      let far : x.path ≡ path → ⊥ =
      (λ e. let z = (same_path-decides x.path path).1 e in let n = parts.1 in cc (z, n)) in
      subst (λ (y : Observer). Cur last then y.path) k.2
      (held_on last holds then x.path (others x.path far) (g x k.1 parts.0))

  all_good : (last : Option Telling) (holds then : Holdings) (os : List Observer) → then ≡ holds → Good last holds os
      → Good last then os
  all_good last holds then os e g o h m = held_on last holds then o.path (ap (λ f. f o.path) e) (g o h m)

  pub marked_good : (at : ℕ) (last : Option Telling) (path : List (List ℕ)) (old left : Content) (os : List Observer)
      → Effect path at old left → Good last old.holds os → Good last left.holds (marked_if at path old left os)
  marked_good at last path old left os effect g = by (left.tally.version == old.tally.version) refl effect
    where
      by : (b : Bool) → (left.tally.version == old.tally.version) ≡ b → Effect path at old left
          → Good last left.holds (cond b os (changed_at at path os))
      by true is (inl k) = all_good last old.holds left.holds os k.holds g
      by true is (inr k) =
          let e : left.tally.version ≡ old.tally.version =
          (unsigned_Decides left.tally.version old.tally.version).0 is in
          let v = k.version in
          absurd (omega (arith, e, v))
      by false is (inl k) = kept_good at last old.holds left.holds path os (λ other far. ap (λ f. f other) k.holds) g
      by false is (inr k) = kept_good at last old.holds left.holds path os k.others g

  -- what is told, and to whom
  abbrev is_it : Telling → Bool
  is_it x = same_endpoint x.to to && pointwise nat_eq x.token token

  told_it : (x : Telling) (last : Option Telling) → Same x.to x.token → told_then to token (Some x) last ≡ Some x
  told_it x last p = ap (λ b. cond b (Some x) last)
      (and_from (same_endpoint x.to to) (pointwise nat_eq x.token token)
      ((same_endpoint-decides x.to to).1 p.0) ((bytes_decides x.token token).1 p.1))

  told_other : (x : Telling) (last : Option Telling) → IsOther to token x.to x.token
      → told_then to token (Some x) last ≡ last
  told_other x last other = by (is_it x) refl
    where
      by : (b : Bool) → is_it x ≡ b → cond b (Some x) last ≡ last
      by false is = refl
      by true is =
          let k = and_parts (same_endpoint x.to to) (pointwise nat_eq x.token token) is in
          absurd (other (
            sym ((same_endpoint-decides x.to to).0 k.0),
            sym ((bytes_decides x.token token).0 k.1),
          ))

  last_good : (last then : Option Telling) (holds : Holdings) (os : List Observer) → then ≡ last → Good last holds os
      → Good then holds os
  last_good last then holds os e g = subst (λ z. Good z holds os) (sym e) g

  -- a notification, in either way
  sent_good : (at then : ℕ) (con : Bool) (f : Observer → Observer) (last : Option Telling) (store : Content)
      (o : Observer) (way : Way) (os left : List Observer) → registration o.to o.token os ≡ Some o
      → ((y : Observer) → (f y).path ≡ y.path)
      → registration o.to o.token left ≡ option_map (told_by at con) (option_map f (registration o.to o.token os))
      → (IsOther to token o.to o.token → registration to token left ≡ registration to token os)
      → Good last store.holds os → (held : Held) → store.holds o.path ≡ Some held
      → Good (told_then to token (Some (notice_of o way then held)) last) store.holds left
  sent_good at then con f last store o way os left there path_kept mine others g held is = elim
      (is_pair to token o.to o.token) [
        | inl p ↦ (λ y h m. (
            let here : registration o.to o.token left ≡ Some y =
            ap (λ z. registration z o.token left) p.0 ∙ (ap (λ z. registration to z left) p.1 ∙ h) in
            let same : told_by at con (f o) ≡ y =
            one_some (told_by at con (f o)) y (sym (ap (λ z. option_map (told_by at con) (option_map f z)) there)
            ∙ (sym mine ∙ here)) in
            let path : y.path ≡ o.path = ap (λ (z : Observer). z.path) (sym same) ∙ path_kept o in
            record {
              told = notice_of o way then held;
              last_is = told_it (notice_of o way then held) last p;
              path_is = sym path;
              held = held;
              is_held = ap store.holds path ∙ is;
              version = refl;
            }))
        | inr other ↦ last_good last _ store.holds left (told_other (notice_of o way then held) last other)
            (moved last store.holds os left (others other) g)
      ]

  pub notified_good : (plain : Bool) (at id then : ℕ) (last : Option Telling) (store : Content) (o : Observer)
      (way : Way)
      (os : List Observer) → registration o.to o.token os ≡ Some o → Good last store.holds os → (held : Option Held)
      → store.holds o.path ≡ held
      → Good (told_then to token (tells o.to o.token o.path way then false held) last) store.holds
      (notified plain at id held o os)
  notified_good plain at id then last store o way os there g None is =
      removed_good last store.holds o.to o.token os g
  notified_good false at id then last store o way os there g (Some held) is =
      sent_good at then true (λ y. y) last store o way os (sent_to at o.to o.token true os) there (λ y. refl)
      (registration-sent_to at o.to o.token true os ∙ ap (option_map (told_by at true))
      (same_map (registration o.to o.token os)))
      (λ other. (others_stay to token o.to o.token os other).sent_stay at true) g held is
    where
      same_map : (r : Option Observer) → r ≡ option_map (λ y. y) r
      same_map None = refl
      same_map (Some y) = refl
  notified_good true at id then last store o way os there g (Some held) is =
      let noted : List Observer = noted_to at o.to o.token id os in
      sent_good at then false (λ y. record y { noted = Some (record { id = id; at = at }) }) last store o way os
      (sent_to at o.to o.token false noted) there (λ y. refl)
      (registration-sent_to at o.to o.token false noted
      ∙ ap (option_map (told_by at false)) (registration-noted_to at o.to o.token id os))
      (λ other. (others_stay to token o.to o.token noted other).sent_stay at false
      ∙ (others_stay to token o.to o.token os other).noted_stay at id) g held is

  -- a request that is served

  pub registered_good : (at : ℕ) (last : Option Telling) (store : Content) (a : Asked) (q : Question) (way : Way)
      (size : ℕ)
      (held : Held) (os : List Observer) → store.holds q.path ≡ Some held → Good last store.holds os
      → Good (told_then to token (tells a.from a.token q.path way at true (Some held)) last) store.holds
      (registered at a.from a.token q.path size os)
  registered_good at last store a q way size held os is g = elim (is_pair to token a.from a.token) [
    | inl p ↦ (λ y h m. (
        let swap : registration to token (registered at a.from a.token q.path size os)
        ≡ registration to token (registered at to token q.path size os) =
        ap (λ z. registration to token (registered at z a.token q.path size os)) p.0
        ∙ ap (λ z. registration to token (registered at to z q.path size os)) p.1 in
        let new : Observer = begun at to token q.path size in
        let same : new ≡ y = one_some new y
        (sym (registration-registered at to token q.path size os) ∙ (sym swap ∙ h)) in
        let path : y.path ≡ q.path = ap (λ (z : Observer). z.path) (sym same) in
        record {
          told = answer_of a q way at held;
          last_is = told_it (answer_of a q way at held) last p;
          path_is = sym path;
          held = held;
          is_held = ap store.holds path ∙ is;
          version = refl;
        }))
    | inr other ↦ last_good last _ store.holds (registered at a.from a.token q.path size os)
        (told_other (answer_of a q way at held) last other)
        (moved last store.holds os (registered at a.from a.token q.path size os)
        ((others_stay to token a.from a.token os other).registered_stay at q.path size) g)
  ]

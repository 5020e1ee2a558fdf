-- One call of the server, and what leads to it then: what it applied and changed is told.
use Rattle.std.proofs.Common.{◌≡◌, ℕ, ◌+◌, ◌==◌, Bool, true, false, Option, Some, None, List, [], ◌∷◌, ◌++◌, refl}
use Rattle.std.proofs.Common.{sym, ap, ◌∙◌, arith, if◌then◌else◌}
use Rattle.std.proofs.lemmas.Bool.Decides.{Decides-eqb}
use Rattle.coap_resource.specs.Limits.{Limits}
use Rattle.coap_resource.specs.Content.{Content, Held}
use Rattle.coap_exchange.specs.declared.answerer.Due.TheVariants as due
use Rattle.coap_server.specs.Law.{ServerRows, own_of}
use Rattle.coap_server.specs.Serving.{is_applied}
use Rattle.coap_server.specs.Steps.{after}
use Rattle.coap_server.specs.Trace as S
use Rattle.coap_server.specs.Follows.Holds.{Change, change, changed_by, counted, changes}
use Rattle.coap_server.specs.Follows.Serves.{Serving, serving}
use Rattle.coap_server.proofs.Facts.Holds.{all_served, holds_changes}
use Rattle.coap_run.specs.Run.Log.{Applies, Changes, applied_as, applied_lines, call_for, line_if}
use Rattle.coap_run.specs.Run.Telling.{applied_told, made_told, version_after, version_told}
use Rattle.coap_record.specs.declared.addresses.Addresses.{Addresses}

-- what a server says that it applied
abbrev pub applied_of : Option Serving → List S.Applied
applied_of None = []
applied_of (Some x) = if is_applied x.reply.code then applied_as x ∷ [] else []

-- a datagram or a tick
abbrev pub IsInput : S.Call → Type 0
IsInput (S.Feeds now from bytes word up came h below) = Unit {0}
IsInput (S.Ticks now word below room d passed h id answer) = Unit {0}
IsInput c = ⊥

pub record Served (s : S.Own) (c : S.Call) : Type 0 where
  pub applied : (after s c).applied ≡ applied_of (serving s c)
  pub store : (x : Serving) → serving s c ≡ Some x → (after s c).store ≡ x.left
  pub change : change s c ≡ changed_by (serving s c)

none_served : (s : S.Own) (c : S.Call) → serving s c ≡ None → (after s c).applied ≡ []
    → change s c ≡ changed_by (serving s c) → Served s c
none_served s c none empty is = record {
  applied = empty ∙ ap applied_of (sym none);
  store = λ x h. absurd (cc (none, h));
  change = is;
}

one_served : (s : S.Own) (c : S.Call) (x : Serving) → serving s c ≡ Some x → (after s c).applied ≡ applied_of (Some x)
    → (after s c).store ≡ x.left → change s c ≡ changed_by (serving s c) → Served s c
one_served s c x is applied store changed =
    record {
      applied = applied ∙ ap applied_of (sym is);
      store = λ y h. (let e : Some x ≡ Some y = sym is ∙ h in let same : x ≡ y = cc e in store
          ∙ ap (λ (z : Serving). z.left) same);
      change = changed;
    }

pub served_by : (s : S.Own) (c : S.Call) → IsInput c → Served s c
served_by s (S.Feeds now from bytes word up (Some p) (S.Serves q reply left) below) h =
    one_served s (S.Feeds now from bytes word up (Some p) (S.Serves q reply left) below) _ refl refl refl refl
served_by s (S.Feeds now from bytes word up (Some p) S.Silent below) h =
    none_served s (S.Feeds now from bytes word up (Some p) S.Silent below) refl refl refl
served_by s (S.Feeds now from bytes word up (Some p) (S.Replies r) below) h =
    none_served s (S.Feeds now from bytes word up (Some p) (S.Replies r) below) refl refl refl
served_by s (S.Feeds now from bytes word up (Some p) (S.Waits q d) below) h =
    none_served s (S.Feeds now from bytes word up (Some p) (S.Waits q d) below) refl refl refl
served_by s (S.Feeds now from bytes word up (Some p) (S.Notifies o r) below) h =
    none_served s (S.Feeds now from bytes word up (Some p) (S.Notifies o r) below) refl refl refl
served_by s (S.Feeds now from bytes word up None (S.Serves q reply left) below) h =
    none_served s (S.Feeds now from bytes word up None (S.Serves q reply left) below) refl refl refl
served_by s (S.Feeds now from bytes word up None S.Silent below) h =
    none_served s (S.Feeds now from bytes word up None S.Silent below) refl refl refl
served_by s (S.Feeds now from bytes word up None (S.Replies r) below) h =
    none_served s (S.Feeds now from bytes word up None (S.Replies r) below) refl refl refl
served_by s (S.Feeds now from bytes word up None (S.Waits q d) below) h =
    none_served s (S.Feeds now from bytes word up None (S.Waits q d) below) refl refl refl
served_by s (S.Feeds now from bytes word up None (S.Notifies o r) below) h =
    none_served s (S.Feeds now from bytes word up None (S.Notifies o r) below) refl refl refl
served_by s (S.Ticks now word below room (due.Ready a) passed (S.Serves q reply left) id answer) h =
    one_served s (S.Ticks now word below room (due.Ready a) passed (S.Serves q reply left) id answer) _ refl refl refl
    refl
served_by s (S.Ticks now word below room (due.Ready a) passed S.Silent id answer) h =
    none_served s (S.Ticks now word below room (due.Ready a) passed S.Silent id answer) refl refl refl
served_by s (S.Ticks now word below room (due.Ready a) passed (S.Replies r) id answer) h =
    none_served s (S.Ticks now word below room (due.Ready a) passed (S.Replies r) id answer) refl refl refl
served_by s (S.Ticks now word below room (due.Ready a) passed (S.Waits q d) id answer) h =
    none_served s (S.Ticks now word below room (due.Ready a) passed (S.Waits q d) id answer) refl refl refl
served_by s (S.Ticks now word below room (due.Ready a) passed (S.Notifies o r) id answer) h =
    none_served s (S.Ticks now word below room (due.Ready a) passed (S.Notifies o r) id answer) refl refl refl
served_by s (S.Ticks now word below room due.Idle passed w id answer) h =
    none_served s (S.Ticks now word below room due.Idle passed w id answer) refl refl refl
served_by s (S.Ticks now word below room due.Copied passed w id answer) h =
    none_served s (S.Ticks now word below room due.Copied passed w id answer) refl refl refl
served_by s (S.Ticks now word below room due.Expired passed w id answer) h =
    none_served s (S.Ticks now word below room due.Expired passed w id answer) refl refl refl
served_by s _ h = absurd h

-- What is told is what was applied, and its change.

pub zero_plus : (n : ℕ) → n ≡ 0 + n
zero_plus n = omega arith

pub not_same : (v n : ℕ) → v ≡ n + 1 → (v == n) ≡ false
not_same v n is = by (v == n) refl
  where
    by : (b : Bool) → (v == n) ≡ b → b ≡ false
    by true e = let z : v ≡ n = (Decides-eqb v n).0 e in absurd (omega (arith, z, is))
    by false e = refl

not_zero : (v n : ℕ) → v ≡ n + 1 → (v == 0) ≡ false
not_zero v n is = by (v == 0) refl
  where
    by : (b : Bool) → (v == 0) ≡ b → b ≡ false
    by true e = let z : v ≡ 0 = (Decides-eqb v 0).0 e in absurd (omega (arith, z, is))
    by false e = refl

module _ (addresses : Addresses) (sender : List ℕ → Option ℕ) (n : ℕ) (path : List (List ℕ)) (held : Option Held)
    (v : ℕ) (a : ℕ → S.Applied)
    (of : (k : ℕ) → (a k).version ≡ k) (there : (k : ℕ) → (a k).path ≡ path) where
  abbrev the_change : Change
  the_change = record { path = path; version = v; held = held }

  told_so :
      (applied same : Bool) → ((y : Change) → (if same then None else Some the_change) ≡ Some y → applied ≡ true)
      → ((y : Change) → (if same then None else Some the_change) ≡ Some y → y.version ≡ n + 1)
      → (holds : List (List ℕ) → Option Held) → holds path ≡ held
      → (applied_told addresses sender (if applied then a (if same then 0 else v) ∷ [] else []) holds
      ≡ (if applied then Applies (call_for addresses sender (a (if same then 0 else v))) (a (if same then 0 else v))
      ∷ [] else [])
      ++ line_if Changes (if same then None else Some the_change))
      × (version_told (if applied then a (if same then 0 else v) ∷ [] else []) n
      ≡ counted (if same then None else Some the_change) + n)
  told_so true true right new holds is = (
    ap (λ k. Applies (call_for addresses sender (a 0)) (a 0) ∷ made_told (a 0).path k (holds (a 0).path)) (of 0),
    ap (λ k. version_after k n) (of 0) ∙ (omega arith),
  )
  told_so true false right new holds is =
      let is_new : v ≡ n + 1 = new the_change refl in
      let no : (v == 0) ≡ false = not_zero v n is_new in (
        ap (λ k. Applies (call_for addresses sender (a v)) (a v) ∷ made_told (a v).path k (holds (a v).path)) (of v)
            ∙ ap (λ p. Applies (call_for addresses sender (a v)) (a v) ∷ made_told p v (holds p)) (there v)
            ∙ ap (λ b. Applies (call_for addresses sender (a v)) (a v) ∷
            (if b then [] else Changes (record { path = path; version = v; held = holds path }) ∷ [])) no
            ∙ ap (λ o. Applies (call_for addresses sender (a v)) (a v) ∷ Changes
            (record { path = path; version = v; held = o }) ∷
            []) is,
        ap (λ k. version_after k n) (of v) ∙ ap (λ b. if b then n else v) no ∙ is_new ∙ (omega arith),
      )
  told_so false true right new holds is = (refl, omega arith)
  told_so false false right new holds is = absurd (cc (right the_change refl))

told_of : (addresses : Addresses)
    (sender : List ℕ → Option ℕ) (n : ℕ) (o : Option Serving)
    → ((x : Serving) (y : Change) → o ≡ Some x → changed_by o ≡ Some y → is_applied x.reply.code ≡ true)
    → ((y : Change) → changed_by o ≡ Some y → y.version ≡ n + 1)
    → (store : Content) → ((x : Serving) → o ≡ Some x → store ≡ x.left)
    → (applied_told addresses sender (applied_of o) store.holds ≡ applied_lines addresses sender o
    ++ line_if Changes (changed_by o))
    × (version_told (applied_of o) n ≡ counted (changed_by o) + n)
told_of addresses sender n None right new store is = (refl, zero_plus n)
told_of addresses sender n (Some x) right new store is =
    told_so addresses sender n x.question.path (x.left.holds x.question.path) x.left.tally.version
    (λ k. record {
      from = x.asked.from;
      token = x.asked.token;
      path = x.question.path;
      method = x.question.method;
      version = k;
    }) (λ k. refl) (λ k. refl)
    (is_applied x.reply.code) (x.left.tally.version == x.old.tally.version) (λ y h. right x y refl h) new store.holds
    (ap (λ (s : Content). s.holds x.question.path) (is x refl))

module _ (addresses : Addresses) (limits : Limits) (szx : ℕ) (sender : List ℕ → Option ℕ) (t : List S.Call) (c : S.Call)
    (rows : ServerRows limits szx (c ∷ t)) (input : IsInput c) where
  abbrev pub s : S.Own
  s = own_of limits szx t

  pub told_input :
      (applied_told addresses sender (after s c).applied (after s c).store.holds
      ≡ applied_lines addresses sender (serving s c)
      ++ line_if Changes (change s c))
      × (version_told (after s c).applied (changes limits szx t) ≡ changes limits szx (c ∷ t))
  told_input =
      let k = served_by s c input in
      let right = (all_served limits szx (c ∷ t) rows).0 in
      let holds = (holds_changes limits szx (c ∷ t) rows).0 in
      let p = told_of addresses sender (changes limits szx t) (serving s c)
      (λ x y h g. right.changes_by x y h (k.change ∙ g))
      (λ y g. holds.version y (k.change ∙ g)) (after s c).store k.store in (
        ap (λ l. applied_told addresses sender l (after s c).store.holds) k.applied ∙ p.0
            ∙ ap (λ o. applied_lines addresses sender (serving s c) ++ line_if Changes o) (sym k.change),
        ap (λ l. version_told l (changes limits szx t)) k.applied ∙ p.1
            ∙ ap (λ o. counted o + changes limits szx t) (sym k.change),
      )

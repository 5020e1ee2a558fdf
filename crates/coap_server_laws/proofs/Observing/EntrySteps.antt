-- What an entry keeps of the last CON, of the last change and of the last NON is so on the whole trace, by what a call
-- makes, tells and changes.
use Rattle.std.proofs.Common.{◌≡◌, inl, inr, ℕ, ◌==◌, ◌&&◌, ◌||◌, Bool, true, false, Option, Some, None, List}
use Rattle.std.proofs.Common.{◌∷◌, refl, ap, sym, subst, ◌∙◌, cond, option_map}
use Rattle.std.specs.Cmp.Lexicographic.{pointwise, bytes_decides}
use Rattle.std.specs.Prelude.{nat_eq}
use Rattle.std.proofs.lemmas.Bool.{and_parts, and_from}
use Rattle.coap_types.specs.Path.{same_path}
use Rattle.coap_types.specs.SameEndpoint.{same_endpoint}
use Rattle.coap_types.specs.declared.endpoint.Endpoint.{Endpoint}
use Rattle.coap_types.proofs.Facts.Endpoints.{same_endpoint-decides}
use Rattle.coap_types.proofs.Facts.Paths.{same_path-decides}
use Rattle.coap_layer.specs.declared.setup.Setup.{Setup}
use Rattle.coap_observe.specs.Observers.{Observer, begun, changed_at, marked_by, registered, registration}
use Rattle.coap_observe.specs.Observers.{removed}
use Rattle.coap_observe.specs.Registrations.{IsOther}
use Rattle.coap_observe.proofs.Facts.Registrations.{others_stay, registration-changed_at}
use Rattle.coap_observe.proofs.Facts.Registrations.{registration-registered, registration-removed}
use Rattle.coap_resource.specs.Content.{Content, Held}
use Rattle.coap_resource.specs.Limits.{Limits}
use Rattle.coap_resource.specs.RequestOptions.{block_of, szx_by}
use Rattle.coap_exchange.specs.declared.answerer.Asked.{Asked}
use Rattle.coap_exchange.specs.declared.answerer.Ended.{Ended}
use Rattle.coap_exchange.specs.AnswererTrace.{Sending}
use Rattle.coap_server.specs.Trace.{Own, Call}
use Rattle.coap_server.specs.Observers.{is_get, observes, observers_with, registers, marked_if, unless_ended}
use Rattle.coap_server.specs.Observers.{unless_rejected}
use Rattle.coap_server.specs.Law.{ServerLaw, own_of}
use Rattle.coap_server.specs.Follows.Holds.{Change, change, change_of, changed_by}
use Rattle.coap_server.specs.Follows.Serves.{Serving, serving}
use Rattle.coap_server.specs.Follows.Tells.{Pair, Telling, Way, registering, telling}
use Rattle.coap_server.specs.Follows.Tells.{tells, tells_if}
use Rattle.coap_server_laws.specs.Follows.Ways.{changes_it, confirms_it, is_con, is_pair, last_change, last_con}
use Rattle.coap_server_laws.specs.Follows.Ways.{last_non}
use Rattle.coap_server_laws.specs.Follows.Ways.{makes_it, non_by, non_then, number_in}
use Rattle.coap_server_laws.proofs.Observing.ChangesMark.{all_mark, not_registering, registers_none, unchanged}
use Rattle.coap_server_laws.proofs.Observing.LastRegistered.{unmarked}
use Rattle.coap_server.proofs.Facts.Observing.ObserverLists.{rejected_left}
use Rattle.coap_server_laws.proofs.Observing.OneRegistration.{pair_of}
use Rattle.coap_server_laws.proofs.Observing.ServedObservers.{ServesAt, pair_if, served_at}
use Rattle.coap_server.proofs.Facts.Observing.StoreChanges.{get_same}
use Rattle.coap_server_laws.proofs.Observing.Elsewhere.{elsewhere_either}
use Rattle.coap_observe.specs.Observers.{elsewhere}

-- whose it is

pub is_pair_self : (to : Endpoint) (token : List ℕ) (by : Endpoint) (bytes : List ℕ) → (to ≡ by) × (token ≡ bytes)
    → is_pair to token by bytes ≡ true
is_pair_self to token by bytes e =
    and_from (same_endpoint by to) (pointwise nat_eq bytes token) ((same_endpoint-decides by to).1 (sym e.0))
    ((bytes_decides bytes token).1 (sym e.1))

pub is_pair_other : (to : Endpoint) (token : List ℕ) (by : Endpoint) (bytes : List ℕ) → IsOther to token by bytes
    → is_pair to token by bytes ≡ false
is_pair_other to token by bytes other = go (is_pair to token by bytes) refl
  where
    go : (b : Bool) → is_pair to token by bytes ≡ b → b ≡ false
    go false e = refl
    go true e =
        let k = and_parts (same_endpoint by to) (pointwise nat_eq bytes token) e in
        absurd (other (sym ((same_endpoint-decides by to).0 k.0), sym ((bytes_decides bytes token).0 k.1)))

pub pair_is : (to : Endpoint) (token : List ℕ) (by : Endpoint) (bytes : List ℕ) → is_pair to token by bytes ≡ true
    → (to ≡ by) × (token ≡ bytes)
pair_is to token by bytes e =
    let k = and_parts (same_endpoint by to) (pointwise nat_eq bytes token) e in
    (sym ((same_endpoint-decides by to).0 k.0), sym ((bytes_decides bytes token).0 k.1))

-- what a change of nothing marks
pub none_marked : (at : ℕ) (path : List (List ℕ)) (old left : Content) (os : List Observer)
    → change_of path old left ≡ None → marked_if at path old left os ≡ os
none_marked at path old left os h = by (left.tally.version == old.tally.version) h
  where
    by : (b : Bool)
        → cond {A = Option Change} b None
        (Some (record { path = path; version = left.tally.version; held = left.holds path })) ≡ None
        → cond b os (changed_at at path os) ≡ os
    by true k = refl
    by false k = absurd (cc k)

module _ (limits : Limits) (szx : ℕ) (setup : Setup) (to : Endpoint) (token : List ℕ) where
  abbrev pub reg : List Observer → Option Observer
  reg os = registration to token os

  pub record KeepsLast (t : List Call) (o : Observer) : Type 0 where
    pub con : last_con limits szx to token t ≡ Some o.con
    pub change_is : o.marked ≡ true → last_change limits szx o.path t ≡ Some o.changed
    pub non : o.noted ≡ last_non limits szx to token t

  abbrev pub KeepLast : List Call → Type 0
  KeepLast t = (o : Observer) → reg (own_of limits szx t).observers ≡ Some o → KeepsLast t o

  -- what is left of a list was there

  abbrev pub Were : List Observer → List Observer → Type 0
  Were os ps = (o : Observer) → reg ps ≡ Some o → reg os ≡ Some o

  pub removed_back : (by : Endpoint) (bytes : List ℕ) (os : List Observer) → Were os (removed by bytes os)
  removed_back by bytes os o h = elim (pair_of to token by bytes) [
    | inl e ↦ (
        let none : reg (removed by bytes os) ≡ None = ap (λ p. registration p token (removed by bytes os)) e.0
        ∙ (ap (λ n. registration by n (removed by bytes os)) e.1 ∙ registration-removed by bytes os) in
        absurd (cc (none, h)))
    | inr n ↦ sym (others_stay to token by bytes os n).removed_stay ∙ h
  ]

  pub elsewhere_back : (peer : Endpoint) (os : List Observer) → Were os (elsewhere peer os)
  elsewhere_back peer os o h = elim (elsewhere_either peer to token os) [
    | inl e ↦ sym e ∙ h
    | inr g ↦ (let none = g.1 in absurd (cc (none, h)))
  ]

  pub ended_back : (e : Option Ended) (os : List Observer) → Were os (unless_ended e os)
  ended_back None os o h = h
  ended_back (Some x) os o h = by x.observe h
    where
      by : (b : Bool) → reg (cond b (removed x.to x.token os) os) ≡ Some o → reg os ≡ Some o
      by true k = removed_back x.to x.token os o k
      by false k = k

  pub rejected_back : (at : ℕ) (r : Option Sending) (os : List Observer) → Were os (unless_rejected at r os)
  rejected_back at r os = rejected_left (Were os) at r os (λ o h. h) (λ by bytes. removed_back by bytes os)

  module _ (t : List Call) where
    abbrev own : Own
    own = own_of limits szx t

    module _ (c : Call) where
      abbrev clk : ℕ
      clk = (own_of limits szx (c ∷ t)).clock

      abbrev after : List Observer
      after = (own_of limits szx (c ∷ t)).observers

      -- by what it makes and tells, and by what it changes

      pub con_so : (p : Option Pair) (x : Option Telling) → registering own c ≡ p → telling own c ≡ x
          → last_con limits szx to token (c ∷ t)
          ≡ cond (makes_it to token p || confirms_it to token x) (Some clk) (last_con limits szx to token t)
      con_so p x e f =
          ap (λ z. cond (makes_it to token z || confirms_it to token (telling own c)) (Some clk)
          (last_con limits szx to token t)) e
          ∙ ap (λ z. cond (makes_it to token p || confirms_it to token z) (Some clk) (last_con limits szx to token t)) f

      pub non_so : (p : Option Pair) (x : Option Telling) → registering own c ≡ p → telling own c ≡ x
          → last_non limits szx to token (c ∷ t)
          ≡ cond (makes_it to token p) None (non_then to token (number_in c) x (last_non limits szx to token t))
      non_so p x e f =
          ap (λ z. cond (makes_it to token z) None
          (non_then to token (number_in c) (telling own c) (last_non limits szx to token t))) e
          ∙ ap (λ z. cond (makes_it to token p) None (non_then to token (number_in c) z
          (last_non limits szx to token t))) f

      pub change_so : (path : List (List ℕ)) (x : Option Change) → change own c ≡ x
          → last_change limits szx path (c ∷ t) ≡ cond (changes_it path x) (Some clk) (last_change limits szx path t)
      change_so path x e = ap (λ z. cond (changes_it path z) (Some clk) (last_change limits szx path t)) e

      -- nothing is made, told or changed
      pub quiet_step : registering own c ≡ None → telling own c ≡ None → change own c ≡ None → Were own.observers after
          → KeepLast t → KeepLast (c ∷ t)
      quiet_step r x e back keep_last o h =
          let f = keep_last o (back o h) in
          record {
            con = con_so None None r x ∙ f.con;
            change_is = λ m. change_so o.path None e ∙ f.change_is m;
            non = f.non ∙ sym (non_so None None r x);
          }

      -- a path is changed
      changed_step : ServerLaw limits szx setup (c ∷ t) → registering own c ≡ None → telling own c ≡ None
          → (x : Change) → change own c ≡ Some x → KeepLast t → KeepLast (c ∷ t)
      changed_step law r tell x e keep_last o h = by (reg own.observers) refl
        where
          marks : reg after ≡ option_map (marked_by clk x.path) (reg own.observers)
          marks = ap reg ((all_mark limits szx setup (c ∷ t) law).0 x e)
              ∙ registration-changed_at clk x.path to token own.observers

          told : (was : Observer) → KeepsLast t was → (n : Bool) → same_path was.path x.path ≡ n
              → (was.marked || same_path was.path x.path) ≡ true
              → last_change limits szx was.path (c ∷ t)
              ≡ Some (cond (same_path was.path x.path) clk was.changed)
          told was f true is m =
              let back : same_path x.path was.path ≡ true = (same_path-decides x.path was.path).1
              (sym ((same_path-decides was.path x.path).0 is)) in
              change_so was.path (Some x) e
              ∙ (ap (λ b. cond b (Some clk) (last_change limits szx was.path t)) back
              ∙ ap (λ b. Some (cond b clk was.changed)) (sym is))
          told was f false is m =
              let still : was.marked ≡ true = or_left was.marked (same_path was.path x.path) is m in
              change_so was.path (Some x) e
              ∙ (ap (λ b. cond b (Some clk) (last_change limits szx was.path t)) (flip was is)
              ∙ (f.change_is still ∙ ap (λ b. Some (cond b clk was.changed)) (sym is)))
            where
              or_left : (m n : Bool) → n ≡ false → (m || n) ≡ true → m ≡ true
              or_left true n e h = refl
              or_left false n e h = absurd (cc (e, h))

              flip : (was : Observer) → same_path was.path x.path ≡ false → same_path x.path was.path ≡ false
              flip was is = go (same_path x.path was.path) refl
                where
                  go : (b : Bool) → same_path x.path was.path ≡ b → b ≡ false
                  go false e = refl
                  go true e =
                      let z = (same_path-decides was.path x.path).1
                      (sym ((same_path-decides x.path was.path).0 e)) in
                      absurd (cc (z, is))

          by : (was : Option Observer) → reg own.observers ≡ was → KeepsLast (c ∷ t) o
          by None is = let none = marks ∙ ap (option_map (marked_by clk x.path)) is in absurd (cc (none, h))
          by (Some was) is =
              let f = keep_last was is in
              let same : marked_by clk x.path was ≡ o = one _ o
              (sym (marks ∙ ap (option_map (marked_by clk x.path)) is) ∙ h) in
              subst (KeepsLast (c ∷ t)) same (record {
                con = con_so None None r tell ∙ f.con;
                change_is = told was f (same_path was.path x.path) refl;
                non = f.non ∙ sym (non_so None None r tell);
              })
            where
              one : (a b : Observer) → Some a ≡ Some b → a ≡ b
              one a b k = cc k

      pub either_step : ServerLaw limits szx setup (c ∷ t) → registering own c ≡ None → telling own c ≡ None
          → (change own c ≡ None → Were own.observers after) → KeepLast t → KeepLast (c ∷ t)
      either_step law r tell back keep_last = by (change own c) refl
        where
          by : (x : Option Change) → change own c ≡ x → KeepLast (c ∷ t)
          by None e = quiet_step r tell e (back e) keep_last
          by (Some x) e = changed_step law r tell x e keep_last

      -- a registration is made
      made_step : (a : Asked) (path : List (List ℕ)) (size : ℕ) (way : Way) (at : ℕ) (held : Option Held)
          → registering own c ≡ Some (record { to = a.from; token = a.token })
          → telling own c ≡ tells a.from a.token path way at true held → change own c ≡ None
          → after ≡ registered clk a.from a.token path size own.observers → KeepLast t → KeepLast (c ∷ t)
      made_step a path size way at held r tell e is keep_last o h = elim (pair_of to token a.from a.token) [
        | inl p ↦ (
            let mine = is_pair_self to token a.from a.token p in
            let there : reg (registered clk a.from a.token path size own.observers)
            ≡ Some (begun clk a.from a.token path size) =
            ap (λ z. registration z token (registered clk a.from a.token path size own.observers)) p.0
            ∙ (ap (λ z. registration a.from z (registered clk a.from a.token path size own.observers)) p.1
            ∙ registration-registered clk a.from a.token path size own.observers) in
            let both : Some (begun clk a.from a.token path size) ≡ Some o = sym there ∙ (ap reg (sym is) ∙ h) in
            let same : begun clk a.from a.token path size ≡ o = cc both in
            subst (KeepsLast (c ∷ t)) same (record {
              con = con_so _ _ r tell
                  ∙ ap (λ b. cond (b || confirms_it to token (tells a.from a.token path way at true held)) (Some clk)
                  (last_con limits szx to token t)) mine;
              change_is = λ m. absurd (cc m);
              non = sym (non_so _ _ r tell
                  ∙ ap (λ b. cond b None (non_then to token (number_in c) (tells a.from a.token path way at true held)
                  (last_non limits szx to token t))) mine);
            }))
        | inr n ↦ (
            let other = is_pair_other to token a.from a.token n in
            let stays : reg own.observers ≡ Some o =
            sym ((others_stay to token a.from a.token own.observers n).registered_stay clk path size)
            ∙ (ap reg (sym is) ∙ h) in
            let f = keep_last o stays in
            record {
              con = con_so _ _ r tell
                  ∙ (ap (λ b. cond (b || confirms_it to token (tells a.from a.token path way at true held)) (Some clk)
                  (last_con limits szx to token t)) other
                  ∙ (ap (λ b. cond b (Some clk) (last_con limits szx to token t))
                  (not_told a.from a.token path way at true held other) ∙ f.con));
              change_is = λ m. change_so o.path None e ∙ f.change_is m;
              non = f.non ∙ sym (non_so _ _ r tell
                  ∙ (ap (λ b. cond b None (non_then to token (number_in c)
                  (tells a.from a.token path way at true held) (last_non limits szx to token t))) other
                  ∙ no_non a.from a.token path way at true held other));
            })
      ]
        where
          not_told : (by : Endpoint) (bytes : List ℕ) (path : List (List ℕ)) (way : Way) (at : ℕ) (first : Bool)
              (held : Option Held) → is_pair to token by bytes ≡ false
              → confirms_it to token (tells by bytes path way at first held) ≡ false
          not_told by bytes path way at first None e = refl
          not_told by bytes path way at first (Some held) e = and_false (is_con way) e
            where
              and_false : (b : Bool) {n : Bool} → n ≡ false → (b && n) ≡ false
              and_false true e = e
              and_false false e = refl

          no_non : (by : Endpoint) (bytes : List ℕ) (path : List (List ℕ)) (way : Way) (at : ℕ) (first : Bool)
              (held : Option Held) → is_pair to token by bytes ≡ false
              → non_then to token (number_in c) (tells by bytes path way at first held) (last_non limits szx to token t)
              ≡ last_non limits szx to token t
          no_non by bytes path way at first None e = refl
          no_non by bytes path way at first (Some held) e =
              ap (λ b. cond b (non_by way (number_in c) at (last_non limits szx to token t))
              (last_non limits szx to token t)) e

      -- a request is served
      pub served_step : ServerLaw limits szx setup (c ∷ t) → (x : Serving) → serving own c ≡ Some x
          → change own c ≡ changed_by (Some x) → KeepLast t → KeepLast (c ∷ t)
      served_step law x is said keep_last = by (is_get x.question.method) refl
        where
          s : ServesAt limits szx setup t c x
          s = served_at limits szx setup t c law x is

          os : List Observer
          os = own.observers

          -- where it registers nobody
          none_registers : registers x.asked x.question x.reply os ≡ false
              → (registering own c ≡ None) × (telling own c ≡ None)
          none_registers unso = (
            s.registers_so ∙ ap (λ b. pair_if b x.asked) unso,
            s.tells_so.1 ∙ ap (λ b. tells_if b clk own.store x.asked x.question s.tells_so.0) unso,
          )

          change_is : change own c ≡ change_of x.question.path own.store x.left
          change_is = said ∙ ap (λ (z : Content). change_of x.question.path z x.left) s.old

          by : (b : Bool) → is_get x.question.method ≡ b → KeepLast (c ∷ t)
          by false e =
              let with : observers_with clk x.asked x.question x.reply os ≡ os =
              registers_none clk x.asked x.question x.reply os e in
              let none = none_registers (not_registering x.asked x.question x.reply os e) in
              either_step law none.0 none.1
              (λ k o h. sym (ap reg (s.observers
              ∙ (ap (marked_if clk x.question.path own.store x.left) with
              ∙ none_marked clk x.question.path own.store x.left os (sym change_is ∙ k)))) ∙ h) keep_last
          by true e = get (registers x.asked x.question x.reply os) refl (observes 1 x.question) refl
            where
              same : x.left ≡ own.store
              same = get_same x.old clk x.question x.reply x.left e s.serves ∙ s.old

              still : change own c ≡ None
              still = change_is ∙ unchanged x.question.path own.store x.left same

              left_is : after ≡ observers_with clk x.asked x.question x.reply os
              left_is = s.observers ∙ unmarked clk x.question.path own.store x.left
                  (observers_with clk x.asked x.question x.reply os) same

              size : ℕ
              size = szx_by (block_of x.question.options) x.question.szx

              get : (r : Bool) → registers x.asked x.question x.reply os ≡ r → (m : Bool) → observes 1 x.question ≡ m
                  → KeepLast (c ∷ t)
              get true so m k =
                  made_step x.asked x.question.path size s.tells_so.0 clk (own.store.holds x.question.path)
                  (s.registers_so ∙ ap (λ b. pair_if b x.asked) so)
                  (s.tells_so.1 ∙ ap (λ b. tells_if b clk own.store x.asked x.question s.tells_so.0) so) still
                  (left_is ∙ ap (λ b. cond b (registered clk x.asked.from x.asked.token x.question.path size os)
                  (cond (observes 1 x.question) (removed x.asked.from x.asked.token os) os)) so) keep_last
              get false so true k =
                  let none = none_registers so in
                  quiet_step none.0 none.1 still
                  (λ o h. removed_back x.asked.from x.asked.token os o
                  (sym (ap reg (left_is
                  ∙ (ap (λ b. cond b (registered clk x.asked.from x.asked.token x.question.path size os)
                  (cond (observes 1 x.question) (removed x.asked.from x.asked.token os) os)) so
                  ∙ ap (λ b. cond b (removed x.asked.from x.asked.token os) os) k))) ∙ h)) keep_last
              get false so false k =
                  let none = none_registers so in
                  quiet_step none.0 none.1 still
                  (λ o h. sym (ap reg (left_is
                  ∙ (ap (λ b. cond b (registered clk x.asked.from x.asked.token x.question.path size os)
                  (cond (observes 1 x.question) (removed x.asked.from x.asked.token os) os)) so
                  ∙ ap (λ b. cond b (removed x.asked.from x.asked.token os) os) k))) ∙ h) keep_last

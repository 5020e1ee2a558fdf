-- A notification goes in a NON where the trace says so.
use Rattle.std.proofs.Common.{◌≡◌, ◌≤◌, ◌<◌, inl, inr, ℕ, ◌+◌, ◌-◌, ◌||◌, not, Bool, true, false, Option}
use Rattle.std.proofs.Common.{Some, None, List, [], ◌∷◌, ◌++◌, refl, ap, sym, subst, ◌∙◌, cond, arith, nat_le, nat_lt}
use Rattle.std.proofs.lemmas.Bool.{and_from}
use Rattle.coap_types.specs.Past.{Ever}
use Rattle.coap_types.specs.Path.{same_path}
use Rattle.coap_types.proofs.Facts.Paths.{same_path-decides}
use Rattle.coap_layer.specs.Trace as L
use Rattle.coap_layer.specs.declared.setup.Setup.{Setup}
use Rattle.coap_observe.specs.Observers.{Observer}
use Rattle.coap_resource.specs.Content.{Content, Held}
use Rattle.coap_resource.specs.Limits.{Limits}
use Rattle.coap_resource.specs.Serves.{Question, Reply}
use Rattle.coap_exchange.specs.declared.answerer.Asked.{Asked}
use Rattle.coap_exchange.specs.declared.answerer.Due.TheVariants as due
use Rattle.coap_server.specs.Trace.{Own, Serves, Notifies, Call}
use Rattle.coap_server.specs.Trace.{Plains, Feeds, Ticks}
use Rattle.coap_server.specs.Observers.{registers}
use Rattle.coap_server.specs.Plain.{by_plain, goes_plain, is_plain, must_confirm, plains_with}
use Rattle.coap_server.specs.Handling.{incoming, ticking, heard}
use Rattle.coap_server.specs.Law.{ServerLaw, own_of}
use Rattle.coap_server.specs.Follows.Tells.{InCon, InNon, InReply, Telling, Way, telling, telling_of, tells, tells_if}
use Rattle.coap_server.specs.Follows.Tells.{way_of}
use Rattle.coap_server_laws.specs.Follows.Ways.{GoesSo, PlainsStay, WaysAre}
use Rattle.coap_server.specs.declared.limits.TheConstants.{CON_NOTIFICATION_MS as con_notification}
use Rattle.coap_server.specs.declared.limits.TheConstants.{MAX_PLAIN_AGE_MS as max_plain_age}
use Rattle.coap_server_laws.proofs.Observing.TellsBegin.{told_here}
use Rattle.coap_server_laws.proofs.Observing.EntriesKeepLast.{keep_last, tick_left_them}
use Rattle.coap_server_laws.proofs.Observing.EntrySteps.{KeepsLast}
use Rattle.coap_server_laws.proofs.Observing.YoungNons.{young_is}
use Rattle.coap_server.proofs.Facts.Serving.Brought.{server_back}

-- the plain paths

plain_behind : (path p : List (List ℕ)) (ps : List (List (List ℕ)))
    → is_plain path (ps ++ p ∷ []) ≡ (is_plain path ps || same_path p path)
plain_behind path p [] = or_false (same_path p path)
  where
    or_false : (b : Bool) → (b || false) ≡ b
    or_false true = refl
    or_false false = refl
plain_behind path p (q ∷ ps) = ap (λ b. same_path q path || b) (plain_behind path p ps)
    ∙ sym (or_or (same_path q path) (is_plain path ps) (same_path p path))
  where
    or_or : (a b c : Bool) → ((a || b) || c) ≡ (a || (b || c))
    or_or true b c = refl
    or_or false b c = refl

same_self : (path : List (List ℕ)) → same_path path path ≡ true
same_self path = (same_path-decides path path).1 refl

module _ (limits : Limits) (szx : ℕ) where
  abbrev own : List Call → Own
  own t = own_of limits szx t

  abbrev Made : List (List ℕ) → List Call → Type 0
  Made path t = Ever (λ c. c ≡ Plains path true) t

  made_plain : (path : List (List ℕ)) (t : List Call) → is_plain path (own t).plains ≡ true → Made path t
  made_plain path [] h = absurd (cc h)
  made_plain path (Plains p true ∷ t) h = by (is_plain p (own t).plains) h (λ k. made_plain path t k)
    where
      last : (b : Bool) → is_plain path (own t).plains ≡ b → (b || same_path p path) ≡ true
          → (is_plain path (own t).plains ≡ true → Made path t) → Made path (Plains p true ∷ t)
      last true is k f = inr (f is)
      last false is k f = inl (ap (λ q. Plains q true) ((same_path-decides p path).0 k))

      by : (b : Bool) → is_plain path (cond b (own t).plains ((own t).plains ++ p ∷ [])) ≡ true
          → (is_plain path (own t).plains ≡ true → Made path t) → Made path (Plains p true ∷ t)
      by true k f = inr (f k)
      by false k f = last (is_plain path (own t).plains) refl (sym (plain_behind path p (own t).plains) ∙ k) f
  made_plain path (Plains p false ∷ t) h = inr (made_plain path t h)
  made_plain path (_ ∷ t) h = inr (made_plain path t h)

  still_plain : (path p : List (List ℕ)) (ps : List (List (List ℕ))) → is_plain path ps ≡ true
      → is_plain path (plains_with p true ps) ≡ true
  still_plain path p ps h = by (is_plain p ps)
    where
      by : (b : Bool) → is_plain path (cond b ps (ps ++ p ∷ [])) ≡ true
      by true = h
      by false = plain_behind path p ps ∙ ap (λ b. b || same_path p path) h

  now_plain : (path : List (List ℕ)) (ps : List (List (List ℕ))) → is_plain path (plains_with path true ps) ≡ true
  now_plain path ps = by (is_plain path ps) refl
    where
      or_true : (b : Bool) → (b || true) ≡ true
      or_true true = refl
      or_true false = refl

      by : (b : Bool) → is_plain path ps ≡ b → is_plain path (cond b ps (ps ++ path ∷ [])) ≡ true
      by true is = is
      by false is = plain_behind path path ps ∙ (ap (λ b. is_plain path ps || b) (same_self path)
          ∙ or_true (is_plain path ps))

  there_plain : (path : List (List ℕ)) (t : List Call) → Made path t → is_plain path (own t).plains ≡ true
  there_plain path [] h = absurd h
  there_plain path (Plains p true ∷ t) (inl e) =
      let same : p ≡ path = cc e in
      subst (λ q. is_plain path (plains_with q true (own t).plains) ≡ true) (sym same) (now_plain path (own t).plains)
  there_plain path (Plains p true ∷ t) (inr h) = still_plain path p (own t).plains (there_plain path t h)
  there_plain path (_ ∷ t) (inl e) = absurd (cc e)
  there_plain path (_ ∷ t) (inr h) = there_plain path t h

  pub plains_stay : (t : List Call) → PlainsStay limits szx t
  plains_stay t = record { made = λ path h. made_plain path t h; there = λ path h. there_plain path t h }

-- how it goes

goes_by : (ps : List (List (List ℕ))) (at : ℕ) (held : Held) (o : Observer) → is_plain o.path ps ≡ true
    → at < o.con + con_notification → at ≤ o.changed + max_plain_age → goes_plain ps at (Some held) o ≡ true
goes_by ps at held o plain con state =
    let early : nat_le con_notification (at - o.con) ≡ false = not_le con_notification (at - o.con)
    (omega (arith, con)) in
    let young : nat_lt max_plain_age (at - o.changed) ≡ false =
    not_lt max_plain_age (at - o.changed) (omega (arith, state)) in
    let none : must_confirm at o ≡ false = ap (λ b. b || nat_lt max_plain_age (at - o.changed)) early ∙ young in
    and_from (is_plain o.path ps) (not (must_confirm at o)) plain (ap not none)
  where
    not_le : (m n : ℕ) → n < m → nat_le m n ≡ false
    not_le m n h = search (arith, h)

    not_lt : (m n : ℕ) → n ≤ m → nat_lt m n ≡ false
    not_lt m n h = search (arith, h)

first_is : (b : Bool) (at : ℕ) (store : Content) (a : Asked) (q : Question) (way : Way) (x : Telling)
    → tells_if b at store a q way ≡ Some x → x.registers ≡ true
first_is false at store a q way x h = absurd (cc h)
first_is true at store a q way x h = by (store.holds q.path) h
  where
    by : (o : Option Held) → tells a.from a.token q.path way at true o ≡ Some x → x.registers ≡ true
    by None k = absurd (cc k)
    by (Some held) k =
        let same : telling_of a.from a.token q.path way at true held ≡ x = cc k in
        sym (ap (λ (z : Telling). z.registers) same)

not_first : (x : Telling) (X : Type 0) → x.registers ≡ true → x.registers ≡ false → X
not_first x X h k = absurd (cc (h, k))

module _ (limits : Limits) (szx : ℕ) (setup : Setup) where
  abbrev own_at : List Call → Own
  own_at t = own_of limits szx t

  -- a notification
  module _ (t : List Call) (now w : ℕ) (below : L.Answer) (room : Bool) (passed id : ℕ) (answer : Bool) (o : Observer)
      (reply : Reply)
      (law : ServerLaw limits szx setup (Ticks now w below room due.Idle passed (Notifies o reply) id answer ∷ t)) where
    abbrev s : Own
    s = heard (own_at t) now (ticking (own_at t) now below room due.Idle)

    abbrev notice : Held → Telling
    notice held = telling_of o.to o.token o.path (way_of (by_plain s o) id) s.clock false held

    goes_so : (held : Held) → s.store.holds o.path ≡ Some held → GoesSo limits szx t (notice held)
    goes_so held is =
        let told = told_here limits szx setup t now w below room passed id answer o reply law in
        let before = server_back limits szx setup
        (Ticks now w below room due.Idle passed (Notifies o reply) id answer) t law in
        let f : KeepsLast limits szx setup o.to o.token t o = keep_last limits szx setup o.to o.token t before o
        (tick_left_them limits szx setup o.to o.token t now below room due.Idle o told.is) in
        record {
          con = o.con;
          con_is = f.con;
          changed = o.changed;
          changed_is = f.change_is told.marked_is;
          way = (
            λ e. (let y = young_is s.plains s.clock held o (goes (by_plain s o) refl e) in
                let con = y.con in
                let state = y.state in
                ((plains_stay limits szx t).made o.path y.plain, omega (arith, con), omega (arith, state))),
            λ k. ap (λ b. way_of b id) (ap (λ z. goes_plain s.plains s.clock z o) is
                ∙ goes_by s.plains s.clock held o ((plains_stay limits szx t).there o.path k.0) k.1 k.2),
          );
        }
      where
        goes : (b : Bool) → by_plain s o ≡ b → way_of b id ≡ InNon → goes_plain s.plains s.clock (Some held) o ≡ true
        goes true so e = ap (λ z. goes_plain s.plains s.clock z o) (sym is) ∙ so
        goes false so e = absurd (cc e)

    notice_goes : (x : Telling)
        → tells o.to o.token o.path (way_of (by_plain s o) id) s.clock false (s.store.holds o.path) ≡ Some x
        → GoesSo limits szx t x
    notice_goes x h = by (s.store.holds o.path) refl h
      where
        by : (held : Option Held) → s.store.holds o.path ≡ held
            → tells o.to o.token o.path (way_of (by_plain s o) id) s.clock false held ≡ Some x → GoesSo limits szx t x
        by None is k = absurd (cc k)
        by (Some held) is k = let same : notice held ≡ x = cc k in subst (GoesSo limits szx t) same (goes_so held is)

  here : (t : List Call) (c : Call) → ServerLaw limits szx setup (c ∷ t) → (x : Telling) → telling (own_at t) c ≡ Some x
      → x.registers ≡ false → GoesSo limits szx t x
  here t (Ticks now w below room due.Idle passed (Notifies o reply) id answer) law x h first =
      notice_goes t now w below room passed id answer o reply law x h
  here t (Feeds now from bytes w up (Some p) (Serves q reply left) below) law x h first =
      let s : Own = heard (own_at t) now (incoming (own_at t) now from bytes up (Some p)) in
      not_first x _ (first_is (registers p.0 q reply s.observers) s.clock s.store p.0 q InReply x h) first
  here t (Ticks now w below room (due.Ready a) passed (Serves q reply left) id answer) law x h first =
      let s : Own = heard (own_at t) now (ticking (own_at t) now below room (due.Ready a)) in
      not_first x _ (first_is (registers a q reply s.observers) s.clock s.store a q (InCon id) x h) first
  here t _ law x e first = absurd (cc e)

  pub ways_are : (t : List Call) → ServerLaw limits szx setup t → WaysAre limits szx t
  ways_are [] law = tt
  ways_are (c ∷ t) law = (
    λ x h first. here t c law x h first,
    ways_are t (server_back limits szx setup c t law),
  )

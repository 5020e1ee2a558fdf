-- When the calls of a turn, at one moment, have their entries in a layer.
use Rattle.std.proofs.Common.{◌≡◌, ◌⊎◌, inl, inr, ◌≤◌, ℕ, List, [], ◌∷◌, ◌++◌, refl, arith}
use Rattle.coap_types.specs.Past.{Always}
use Rattle.coap_types.specs.declared.endpoint.Endpoint.{Endpoint}
use Rattle.coap_layer.specs.Machine.State.{State, moment, made}
use Rattle.coap_layer.specs.Machine.Steps.{Asked, left_after, entries}
use Rattle.coap_layer.specs.Trace.{Call, Receive, Ticks, Take, Answer, Entry}

-- each of a list
abbrev pub Every : {X : Type 0} → (X → Type 0) → List X → Type 0
Every P xs = Always (λ past x. P x) xs

pub every_join : {X : Type 0} (P : X → Type 0) (xs ys : List X) → Every P xs → Every P ys → Every P (xs ++ ys)
every_join P [] ys h k = k
every_join P (x ∷ xs) ys h k = (h.0, every_join P xs ys h.1 k)

pub every_map : {X : Type 0} (P Q : X → Type 0) → ((x : X) → P x → Q x) → (xs : List X) → Every P xs → Every Q xs
every_map P Q f [] h = tt
every_map P Q f (x ∷ xs) h = (f x h.0, every_map P Q f xs h.1)

-- an arrival and a tick have the moment that they are handed, where the clock isn't past it
abbrev pub IsTimed : Call → Type 0
IsTimed (Receive from bytes) = Unit {0}
IsTimed Ticks = Unit {0}
IsTimed _ = ⊥

timed : (s : State) (now : ℕ) (call : Call) → IsTimed call → now ≤ moment s now call
timed s now (Receive from bytes) h = omega arith
timed s now Ticks h = omega arith
timed s now _ h = absurd h

not_before : (s : State) (now : ℕ) (call : Call) → s.clock ≤ moment s now call
not_before s now (Receive from bytes) = omega arith
not_before s now _ = omega arith

not_after : (s : State) (now : ℕ) (call : Call) (t : ℕ) → s.clock ≤ t → now ≤ t → moment s now call ≤ t
not_after s now (Receive from bytes) t h k = omega (arith, h, k)
not_after s now _ t h k = omega (arith, h, k)

-- an end's call at this moment, that was fed these bytes from there
module _ (t : ℕ) (Fed : Endpoint → List ℕ → Type 0) where
  -- what it asks of the layer
  pub record Wish (a : Asked) : Type 0 where
    pub now : a.now ≤ t
    pub fed : (from : Endpoint) (bytes : List ℕ) → a.call ≡ Receive from bytes → Fed from bytes

  -- .. and the entries that it adds: each that sends something, is of an arrival, or takes nothing, has this moment
  pub record Timely (e : Entry) : Type 0 where
    pub till : e.at ≤ t
    pub from : (e.out ≡ []) ⊎ (t ≤ e.at)
    pub since : (e.call ≡ Take) ⊎ (t ≤ e.at)
    pub fed : (from : Endpoint) (bytes : List ℕ) → e.call ≡ Receive from bytes → Fed from bytes × (t ≤ e.at)

  pub record Done (old : State) (asked : List Asked) : Type 0 where
    pub timely : Every Timely (entries old asked)
    pub till : (left_after old asked).clock ≤ t

  -- the oldest is an arrival or a tick
  abbrev pub Ends : List Asked → Type 0
  Ends [] = ⊥
  Ends (a ∷ []) = (t ≤ a.now) × IsTimed a.call
  Ends (a ∷ b ∷ asked) = Ends (b ∷ asked)

  ends_cons : (a : Asked) (asked : List Asked) → Ends asked → Ends (a ∷ asked)
  ends_cons a [] h = absurd h
  ends_cons a (b ∷ asked) h = h

  pub ends_over : (later asked : List Asked) → Ends asked → Ends (later ++ asked)
  ends_over [] asked h = h
  ends_over (a ∷ later) asked h = ends_cons a (later ++ asked) (ends_over later asked h)

  record Going (old : State) (asked : List Asked) : Type 0 where
    timely : Every Timely (entries old asked)
    till : (left_after old asked).clock ≤ t
    from : t ≤ (left_after old asked).clock

  one : (s : State) (a : Asked) → s.clock ≤ t → Wish a → t ≤ moment s a.now a.call → Timely (made s a.now a.call)
  one s a h w k =
      record {
        till = not_after s a.now a.call t h w.now;
        from = inr k;
        since = inr k;
        fed = λ from bytes is. (w.fed from bytes is, k);
      }

  going : (old : State) (asked : List Asked) → old.clock ≤ t → Every Wish asked → Ends asked → Going old asked
  going old [] h w e = absurd e
  going old (a ∷ []) h w e =
      let n = timed old a.now a.call e.1 in
      let k : t ≤ moment old a.now a.call = omega (arith, n, e.0) in
      record { timely = (one old a h w.0 k, tt); till = not_after old a.now a.call t h w.0.now; from = k }
  going old (a ∷ b ∷ asked) h w e =
      let g = going old (b ∷ asked) h w.1 e in
      let s : State = left_after old (b ∷ asked) in
      let n = not_before s a.now a.call in
      let f = g.from in
      let k : t ≤ moment s a.now a.call = omega (arith, n, f) in
      record { timely = (one s a g.till w.0 k, g.timely); till = not_after s a.now a.call t g.till w.0.now; from = k }

  pub done : (old : State) (asked : List Asked) → old.clock ≤ t → Every Wish asked → Ends asked → Done old asked
  done old asked h w e = let g = going old asked h w e in record { timely = g.timely; till = g.till }

  pub nothing_done : (old : State) → old.clock ≤ t → Done old []
  nothing_done old h = record { timely = tt; till = h }

  -- a datagram is taken to be sent
  pub takes : (old : State) (answer : Answer) → old.clock ≤ t
      → Done old (record { now = 0; call = Take; answer = answer } ∷ [])
  takes old answer h = record {
    timely = (
      record { till = h; from = inl refl; since = inl refl; fed = λ from bytes is. absurd (cc is) },
      tt,
    );
    till = h;
  }

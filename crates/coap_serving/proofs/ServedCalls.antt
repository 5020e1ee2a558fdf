-- The turns of a server are made of calls of these kinds alone: datagrams are fed, time passes, and what is out is
-- taken; of its tally, no more is fed than these calls feed.
use Rattle.std.proofs.Common.{◌≡◌, ◌≤◌, ◌+◌, ℕ, Bool, true, false, List, [], ◌∷◌, ◌++◌, Option, Some, None, Result, Ok}
use Rattle.std.proofs.Common.{Err, IfErr, IfOk, OnOk}
use Rattle.std.proofs.Common.{ap, inl, inr, refl, sym, subst, arith, if◌then◌else◌, nat_lt, ◌^◌, ◌-◌}
use Rattle.std.specs.Borrow.{Bor}
use Rattle.std.specs.Io.KnownBytes.{Appends}
use Rattle.coap_types.specs.declared.endpoint.Endpoint.{Endpoint}
use Rattle.coap_layer.specs.Trace as layer
use Rattle.coap_layer.specs.Trace.{Answer}
use Rattle.coap_codec.specs.Message.{Message}
use Rattle.coap_exchange.specs.declared.answerer.Asked.{Asked}
use Rattle.coap_exchange.specs.declared.answerer.Due.{Due}
use Rattle.coap_links.specs.Carried.{Packet}
use Rattle.coap_links.specs.Faults.{raised}
use Rattle.coap_links.specs.Pumping.{IsFedOrLost, SendsAll}
use Rattle.coap_links.specs.Turning.{Rests, Steps, Turns, fed, further, next_word, none, pumped}
use Rattle.coap_links.specs.declared.driver.Pumped.{Pumped}
use Rattle.coap_links.specs.declared.tally.Tally.{Tally}
use Rattle.coap_resource.specs.declared.refusal.StoreRefusal.{StoreRefusal}
use Rattle.coap_server.specs.Led.{State, Step}
use Rattle.coap_server.specs.Trace.{Call, Handling, NextOut, Ticks}
use Rattle.coap_server.specs.Trace.{Feeds as FedIn}
use Rattle.coap_arguments.specs.declared.orders.ServeOptions.{ServeOptions}
use Rattle.coap_wires.specs.Words.{IsDrawnOrigin, IsOrigin}
use Rattle.coap_serving.specs.Printed.{bad_line_text, not_set_up_text, served_text}
use Rattle.coap_answers.specs.Printed.{refused_text}
use Rattle.coap_serving.specs.ScriptSettings.{AnyText, AreOfScriptIn, IsBadInScript}
use Rattle.coap_serving.specs.declared.serve_script.BadLine.{BadLine}
use Rattle.coap_serving.specs.declared.setting_up.NotSetUp.{NotSetUp}
use Rattle.coap_serving.specs.declared.setting_up.NotSetUp.TheVariants as notSetUp
use Rattle.coap_wires.specs.declared.word.Origin.{Origin}
use Rattle.coap_serving.specs.Served.{AllTurning, FedFrom, IsServed, IsServedFrom, IsServedIn, IsTurning, Leads}
use Rattle.coap_serving.specs.Served.{fed_by, fed_in, not_set_up_status}
use Rattle.coap_wires.specs.Serves.{Serves, Turning, nothing_fed}
use Rattle.coap_wires.specs.Serves.{further as more, none as no_turn}
use Rattle.coap_serving.specs.SettingUp.{IsRefusedAfter, IsServerAfter}
use Rattle.coap_serving.specs.ToldChanges.{IsToldIf}
use Rattle.coap_scripts.specs.Settings.{Setting}
use Rattle.coap_status.specs.declared.status.Status.{Status}
use Rattle.coap_status.specs.declared.status.Status.TheVariants as status
use Rattle.coap_status.specs.declared.status.Stop.{Stop}

-- ---- chains of calls

leads_join : (old mid new : State) (later earlier : List Call) → Leads old earlier mid → Leads mid later new
    → Leads old (later ++ earlier) new
leads_join old mid new [] earlier h k = subst (Leads old earlier) (sym k) h
leads_join old mid new (c ∷ later) earlier h k = (k.0, leads_join old mid k.0 later earlier h k.1, k.2)

all_join : (later earlier : List Call) → AllTurning later → AllTurning earlier → AllTurning (later ++ earlier)
all_join [] earlier a b = b
all_join (c ∷ later) earlier a b = (a.0, all_join later earlier a.1 b)

fed_join : (later earlier : List Call) → fed_in later + fed_in earlier ≤ fed_in (later ++ earlier)
fed_join [] earlier = omega arith
fed_join (c ∷ later) earlier = let h = fed_join later earlier in omega (arith, h)

fed_on : (a b : ℕ) (old mid new : State) → FedFrom a old mid → FedFrom b mid new → FedFrom (a + b) old new
fed_on a b old mid new h k =
    let most = fed_join k.0 h.0 in
    let first = h.2 in
    let second = k.2 in (
      k.0 ++ h.0,
      all_join k.0 h.0 k.1 h.1,
      omega (arith, most, first, second),
      leads_join old mid new k.0 h.0 h.3 k.3,
    )

pub fed_here : (old new : State) → new ≡ old → FedFrom 0 old new
fed_here old new is = ([], tt, omega arith, is)

pub fed_less : (a b : ℕ) (old new : State) → a ≤ b → FedFrom b old new → FedFrom a old new
fed_less a b old new le h = let most = h.2 in (h.0, h.1, omega (arith, le, most), h.3)

pub fed_call : (n : ℕ) (old new : State) (c : Call) → IsTurning c → n ≤ fed_by c → Step old c new → FedFrom n old new
fed_call n old new c is le step = (c ∷ [], (is, tt), omega (arith, le), (old, refl, step))

-- ---- the tally

raised_by : (b : Bool) (n : ℕ) → (if b then n + 1 else n) ≤ n + 1
raised_by true n = omega arith
raised_by false n = omega arith

raised_most : (n : ℕ) → raised n ≤ n + 1
raised_most n = raised_by (nat_lt n (2 ^ 64 - 1)) n

-- the tally counts no more than is fed
abbrev pub FedMost : ℕ → ℕ → State → State → Type 0
FedMost before after old new = (n : ℕ) × (after ≤ before + n) × FedFrom n old new

pub most_on : (a b c : ℕ) (old mid new : State) → FedMost a b old mid → FedMost b c mid new → FedMost a c old new
most_on a b c old mid new h k =
    let first = h.1 in
    let second = k.1 in
    (h.0 + k.0, omega (arith, first, second), fed_on h.0 k.0 old mid new h.2 k.2)

pub most_same : (a b : ℕ) (old new : State) → b ≡ a → FedFrom 0 old new → FedMost a b old new
most_same a b old new is h = (0, omega (arith, is), h)

-- an end that has a server in it, or is one
module _ {S L : Type 0} (at : S → State) (waiting : S → List layer.Packet) (gives : S → layer.Packet → S → Type 0)
    (sends : L → Endpoint → List ℕ → L → Type 0) (receives : L → Option Packet → L → Type 0) (faults : L → ℕ)
    (quiet_feed : S → ℕ → Endpoint → List ℕ → Type 0)
    (feeds : S → ℕ → Endpoint → List ℕ → ℕ → S → Type 0)
    (quiet_tick : S → ℕ → Type 0) (ticks : S → ℕ → ℕ → Bool → S → Type 0)
    (given : (old : S) (p : layer.Packet) (new : S) → gives old p new → FedFrom 0 (at old) (at new))
    (is_fed : (old : S) (now : ℕ) (from : Endpoint) (bytes : List ℕ) (word : ℕ) (new : S)
    → feeds old now from bytes word new → FedFrom 1 (at old) (at new))
    (ticked : (old : S) (now word : ℕ) (did : Bool) (new : S) → ticks old now word did new
    → FedFrom 0 (at old) (at new))
  where
    pub sent_fed : (e : S) (l : L) (ps : List layer.Packet) (f : S) (m : L) → SendsAll gives sends e l ps f m
        → FedFrom 0 (at e) (at f)
    sent_fed e l [] f m h = fed_here (at e) (at f) (ap at h.0)
    sent_fed e l (p ∷ ps) f m h =
        fed_on 0 0 (at e) (at h.0) (at f) (given e p h.0 h.2) (sent_fed h.0 h.1 ps f m h.4)

    pumped_by : (b : Bool) (t : Tally) → (if b then fed t else t).fed ≤ t.fed + 1
    pumped_by true t = raised_most t.fed
    pumped_by false t = omega arith

    none_fed : (b : Bool) (t : Tally) → b ≡ false → (if b then fed t else t).fed ≡ t.fed
    none_fed true t is = cc is
    none_fed false t is = refl

    came_fed : {X : Type 0} (e : S) (now : ℕ) (came : Option Packet) (word : ℕ) (f : S) (r : Result Pumped X)
        (t : Tally) → IsFedOrLost quiet_feed feeds e now came word f r → FedMost t.fed (pumped r t).fed (at e) (at f)
    came_fed e now None word f (Ok p) t h =
        most_same t.fed _ (at e) (at f) (none_fed p.fed t h.1) (fed_here (at e) (at f) (ap at h.0))
    came_fed e now (Some q) word f (Ok p) t h = (1, pumped_by p.fed t, is_fed e now q.0 q.1 word f h.0)
    came_fed e now None word f (Err x) t h = absurd h
    came_fed e now (Some q) word f (Err x) t h =
        most_same t.fed t.fed (at e) (at f) refl (fed_here (at e) (at f) (ap at h.1))

    stepped : (e : S) (now : ℕ) (t : Tally) {g : S} {v : Tally} → Steps ticks e now t g v
        → FedMost t.fed v.fed (at e) (at g)
    stepped e now t none = most_same t.fed t.fed (at e) (at e) refl (fed_here (at e) (at e) refl)
    stepped e now t (further g v f steps tick) =
        most_on t.fed v.fed v.fed (at e) (at g) (at f) (stepped e now t steps)
        (most_same v.fed v.fed (at g) (at f) refl (ticked g now (next_word v) true f tick))

    rested : (e : S) (now : ℕ) (t : Tally) (f : S) (u : Tally) → Rests quiet_tick ticks e now t f u
        → FedMost t.fed u.fed (at e) (at f)
    rested e now t f u h = elim h [
      | inl last ↦ most_same t.fed u.fed (at e) (at f) (subst (λ (v : Tally). v.fed ≡ t.fed) (sym last.1) refl)
          (ticked e now (next_word t) false f last.0)
      | inr lost ↦ most_same t.fed u.fed (at e) (at f) (subst (λ (v : Tally). v.fed ≡ t.fed) (sym lost.2) refl)
          (fed_here (at e) (at f) (ap at lost.1))
    ]

    -- a turn
    pub turn_fed : (e : S) (l : L) (now : ℕ) (t : Tally) (f : S) (m : L) (u : Tally)
        → Turns waiting gives sends receives faults quiet_feed feeds quiet_tick ticks e l now t f m u
        → FedMost t.fed u.fed (at e) (at f)
    unfolding Turns
    turn_fed e l now t f m u h =
        let g = h.0 in
        let pump = h.2 in
        let out = h.3 in
        let v : Tally = pumped h.1 t in
        let came : FedMost t.fed v.fed (at pump.0) (at g) = came_fed pump.0 now pump.2 (next_word t) g h.1 t pump.6 in
        let sent : FedMost t.fed t.fed (at e) (at pump.0) = most_same t.fed t.fed (at e) (at pump.0) refl
        (sent_fed e l (waiting e) pump.0 pump.1 pump.3) in
        let did : FedMost v.fed out.1.fed (at g) (at out.0) = stepped g now v out.2 in
        most_on t.fed v.fed u.fed (at e) (at g) (at f)
        (most_on t.fed t.fed v.fed (at e) (at pump.0) (at g) sent came)
        (most_on v.fed out.1.fed u.fed (at g) (at out.0) (at f) did (rested out.0 now out.1 f u out.3))

    -- turn after turn, by a clock, as long as the program bears it
    module _ {C : Type 0} (tells : C → ℕ → C → Type 0) (bears : L → Tally → Type 0) where
      pub turning_fed : (count : ℕ) (b : C) (e : S) (l : L) (t : Tally) {d : C} {f : S} {m : L} {u : Tally}
          → Turning tells (Turns waiting gives sends receives faults quiet_feed feeds quiet_tick ticks) bears
          count b e l t d f m u
          → FedMost t.fed u.fed (at e) (at f)
      turning_fed count b e l t no_turn = most_same t.fed t.fed (at e) (at e) refl (fed_here (at e) (at e) refl)
      turning_fed count b e l t (more c g k v now d f m u turns few told turn borne) =
          most_on t.fed v.fed u.fed (at e) (at g) (at f) (turning_fed count b e l t turns)
          (turn_fed g k now v f m u turn)

      -- .. until so many were fed, and then what is out is sent
      pub serves_fed : (count word : ℕ) (b : C) (e : S) (l : L) (d : C) (f : S) (m : L)
          → Serves tells (Turns waiting gives sends receives faults quiet_feed feeds quiet_tick ticks) bears
          (λ g k f m. SendsAll gives sends g k (waiting g) f m) count word b e l d f m
          → FedFrom count (at e) (at f)
      serves_fed count word b e l d f m h =
          let g : S = h.0 in
          let turns = h.2 in
          let k = turning_fed count b e l (nothing_fed word) turns.1 in
          let enough = turns.2 in
          let most = k.1 in
          fed_less count (k.0 + 0) (at e) (at f) (omega (arith, enough, most))
          (fed_on k.0 0 (at e) (at g) (at f) k.2 (sent_fed g h.1 (waiting g) f m h.3))

-- ---- a server: the relations that it has as an end

abbrev pub server_gives : State → layer.Packet → State → Type 0
server_gives s packet n = Step s (NextOut (Some packet)) n

abbrev pub server_feeds : State → ℕ → Endpoint → List ℕ → ℕ → State → Type 0
server_feeds s now from bytes word n =
    (up : Answer) × (came : Option (Asked × Message)) × (h : Handling) × (sent : Answer)
    × Step s (FedIn now from bytes word up came h sent) n

abbrev pub server_ticks : State → ℕ → ℕ → Bool → State → Type 0
server_ticks s now word did n =
    (below : Answer) × (room : Bool) × (due : Due) × (passed : ℕ) × (h : Handling) × (id : ℕ)
    × Step s (Ticks now word below room due passed h id did) n

-- .. and those of one of which it is told what it applies: what is seen of the teller stands beside the server
module _ {X : Type 0} (told : ℕ → State × X → State × X → Type 0) where
  abbrev told_gives : State × X → layer.Packet → State × X → Type 0
  told_gives s packet n = server_gives s.0 packet n.0 × (n.1 ≡ s.1)

  abbrev told_feeds : State × X → ℕ → Endpoint → List ℕ → ℕ → State × X → Type 0
  told_feeds s now from bytes word n = server_feeds s.0 now from bytes word n.0 × told now s n

  abbrev told_ticks : State × X → ℕ → ℕ → Bool → State × X → Type 0
  told_ticks s now word did n = server_ticks s.0 now word did n.0 × IsToldIf did (told now) s n

  module _ {L C : Type 0} (waiting : State × X → List layer.Packet) (sends : L → Endpoint → List ℕ → L → Type 0)
      (receives : L → Option Packet → L → Type 0) (faults : L → ℕ)
      (quiet_feed : State × X → ℕ → Endpoint → List ℕ → Type 0) (quiet_tick : State × X → ℕ → Type 0)
      (tells : C → ℕ → C → Type 0) (bears : L → Tally → Type 0)
    where
      server_fed : (count word : ℕ) (b : C) (e : State × X) (l : L) (d : C) (f : State × X) (m : L)
          → Serves tells (Turns waiting told_gives sends receives faults quiet_feed told_feeds quiet_tick told_ticks)
          bears (λ g k f m. SendsAll told_gives sends g k (waiting g) f m) count word b e l d f m
          → FedFrom count e.0 f.0
      server_fed count word b e l d f m h =
          serves_fed (λ (s : State × X). s.0) waiting told_gives sends receives faults quiet_feed told_feeds quiet_tick
          told_ticks
          (λ old p new k. fed_call 0 old.0 new.0 (NextOut (Some p)) tt (omega arith) k.0)
          (λ old now from bytes word new k. fed_call 1 old.0 new.0
          (FedIn now from bytes word k.0.0 k.0.1 k.0.2 k.0.3) tt (omega arith) k.0.4)
          (λ old now word did new k. fed_call 0 old.0 new.0 (Ticks now word k.0.0 k.0.1 k.0.2 k.0.3 k.0.4 k.0.5 did) tt
          (omega arith) k.0.6)
          tells bears count word b e l d f m h

      -- .. from where it was
      pub served_from : (count word : ℕ) (own : State) (b d : C) (first last : State × X) (l m : L)
          (ended : Result Status Stop)
          → first.0 ≡ own
          → IfOk ended (λ s. (s ≡ status.Done)
          × Serves tells (Turns waiting told_gives sends receives faults quiet_feed told_feeds quiet_tick told_ticks)
          bears (λ g k f m. SendsAll told_gives sends g k (waiting g) f m) count word b first l d last m)
          → IfOk ended (λ s. (s ≡ status.Done) × (end : State) × FedFrom count own end)
      served_from count word own b d first last l m (Ok s) is h = (
        h.0,
        last.0,
        subst (λ (at : State). FedFrom count at last.0) is (server_fed count word b first l d last m h.1),
      )
      served_from count word own b d first last l m (Err stop) is h = tt

-- ---- of a server that began with this

module _ (old new : Option (List ℕ)) (count : ℕ) (options : ServeOptions) (settings : List Setting) (origin : Origin)
  where
    abbrev pub FromOrigin : Status → Type 0
    FromOrigin s = IsServedFrom (λ o. o ≡ origin) old new count options settings s

    -- it serves as its words and its settings say
    pub served_by : (first : State) (ended : Result Status Stop) → IsServerAfter origin options settings first
        → IfOk ended (λ s. (s ≡ status.Done) × (end : State) × FedFrom count first end)
        → OnOk ended (Appends old new (served_text count)) → IfOk ended FromOrigin
    served_by first (Ok s) set_up h written = inr (inr (h.0, origin, refl, first, set_up, h.1, h.2, written))
    served_by first (Err stop) set_up h written = tt

    -- .. or it isn't set up
    refused_by : (why : StoreRefusal) (ended : Result Status Stop)
        → IsRefusedAfter origin options settings (notSetUp.Refused why) → IfOk ended (λ s. s ≡ status.Refused)
        → OnOk ended (Appends old new (refused_text why)) → IfOk ended FromOrigin
    refused_by why (Ok s) of h written = inl (h, (origin, refl, why, of, written))
    refused_by why (Err stop) of h written = tt

    bad_by : (bad : BadLine) (ended : Result Status Stop) → IsRefusedAfter origin options settings (notSetUp.Line bad)
        → IfOk ended (λ s. s ≡ status.Words) → OnOk ended (Appends old new (bad_line_text bad.0))
        → IfOk ended FromOrigin
    bad_by bad (Ok s) of h written = inr (inl (h, (origin, refl, bad, of, written)))
    bad_by bad (Err stop) of h written = tt

    -- a server that isn't set up
    pub not_set_by : (why : NotSetUp) (ended : Result Status Stop) → IsRefusedAfter origin options settings why
        → IfOk ended (λ s. s ≡ not_set_up_status why) → OnOk ended (Appends old new (not_set_up_text why))
        → IfOk ended FromOrigin
    not_set_by (notSetUp.Refused refusal) ended refused h written = refused_by refusal ended refused h written
    not_set_by (notSetUp.Line bad) ended refused h written = bad_by bad ended refused h written

-- what holds of a refusal
pub refused_is : {X E : Type 0} (Is : E → Type 0) (made : Result X E) (e : E) → made ≡ Err e → IfErr made Is → Is e
refused_is Is made e is h = subst (λ (r : Result _ _). IfErr r Is) is h

-- what a server may begin with, it may begin with where it may begin with more
module _ (P Q : Origin → Type 0) (onto : (o : Origin) → P o → Q o) (old new : Option (List ℕ)) (count : ℕ)
    (options : ServeOptions)
  where
    from_more : (settings : List Setting) (s : Status) → IsServedFrom P old new count options settings s
        → IsServedFrom Q old new count options settings s
    from_more settings s (inl h) = inl (h.0, (h.1.0, onto h.1.0 h.1.1, h.1.2, h.1.3, h.1.4))
    from_more settings s (inr (inl h)) = inr (inl (h.0, (h.1.0, onto h.1.0 h.1.1, h.1.2, h.1.3, h.1.4)))
    from_more settings s (inr (inr h)) = inr (inr (h.0, h.1, onto h.1 h.2, h.3, h.4, h.5, h.6, h.7))

    pub served_more : (settings : List Setting) (ended : Result Status Stop)
        → IfOk ended (IsServedFrom P old new count options settings)
        → IfOk ended (IsServedFrom Q old new count options settings)
    served_more settings (Ok s) h = from_more settings s h
    served_more settings (Err stop) h = tt

    -- .. and so of the texts that a file may have
    of_any : (has : List ℕ → List ℕ → Type 0) (script : Option (Bor (List ℕ))) (settings : List Setting)
        → AreOfScriptIn has script settings → AreOfScriptIn AnyText script settings
    of_any has None settings h = h
    of_any has (Some name) settings h = (h.0, tt, h.2)

    bad_any : (has : List ℕ → List ℕ → Type 0) (script : Option (Bor (List ℕ))) (number : ℕ)
        → IsBadInScript has script number → IsBadInScript AnyText script number
    bad_any has None number h = h
    bad_any has (Some name) number h = (h.0, tt, h.2)

    in_more : (has : List ℕ → List ℕ → Type 0) (script : Option (Bor (List ℕ))) (s : Status)
        → IsServedIn P old new has count options script s → IsServedIn Q old new AnyText count options script s
    in_more has script s (inl h) = inl (h.0, h.1, bad_any has script h.1 h.2, h.3)
    in_more has script s (inr h) = inr (h.0, of_any has script h.0 h.1, from_more h.0 s h.2)

    pub script_more : (has : List ℕ → List ℕ → Type 0) (script : Option (Bor (List ℕ))) (ended : Result Status Stop)
        → IfOk ended (IsServedIn P old new has count options script)
        → IfOk ended (IsServedIn Q old new AnyText count options script)
    script_more has script (Ok s) h = in_more has script s h
    script_more has script (Err stop) h = tt

-- a server that began with what was drawn began as the words say
pub as_said : (draws : List ℕ → Type 0) (has : List ℕ → List ℕ → Type 0) (old new : Option (List ℕ)) (count : ℕ)
    (options : ServeOptions) (script : Option (Bor (List ℕ))) (ended : Result Status Stop)
    → IfOk ended (IsServedIn (IsDrawnOrigin draws options.word) old new has count options script)
    → IfOk ended (IsServed old new count options script)
as_said draws has old new count options script ended h =
    script_more (IsDrawnOrigin draws options.word) (IsOrigin options.word) (λ o d. d.0) old new count options has script
    ended h

-- with what was chosen
pub served_with : (Begins : Origin → Type 0) (old new : Option (List ℕ)) (count : ℕ) (options : ServeOptions)
    (settings : List Setting) (origin : Origin) (ended : Result Status Stop) → Begins origin
    → IfOk ended (IsServedFrom (λ o. o ≡ origin) old new count options settings)
    → IfOk ended (IsServedFrom Begins old new count options settings)
served_with Begins old new count options settings origin ended begins h =
    served_more (λ o. o ≡ origin) Begins (λ o is. subst Begins (sym is) begins) old new count options settings ended h

-- with the settings of the script that is named
pub served_as : (Begins : Origin → Type 0) (has : List ℕ → List ℕ → Type 0) (old new : Option (List ℕ)) (count : ℕ)
    (options : ServeOptions) (script : Option (Bor (List ℕ))) (settings : List Setting) (ended : Result Status Stop)
    → AreOfScriptIn has script settings → IfOk ended (IsServedFrom Begins old new count options settings)
    → IfOk ended (IsServedIn Begins old new has count options script)
served_as Begins has old new count options script settings (Ok s) of h = inr (settings, of, h)
served_as Begins has old new count options script settings (Err stop) of h = tt

pub bad_script : (Begins : Origin → Type 0) (has : List ℕ → List ℕ → Type 0) (old new : Option (List ℕ)) (count : ℕ)
    (options : ServeOptions) (script : Option (Bor (List ℕ))) (number : ℕ) (ended : Result Status Stop)
    → IsBadInScript has script number → IfOk ended (λ s. s ≡ status.Words)
    → OnOk ended (Appends old new (bad_line_text number))
    → IfOk ended (IsServedIn Begins old new has count options script)
bad_script Begins has old new count options script number (Ok s) bad h written = inl (h, number, bad, written)
bad_script Begins has old new count options script number (Err stop) bad h written = tt

-- what was made is as each that is made
pub made_is : {X E : Type 0} (Is : X → Type 0) (made : Result X E) (x : X) → made ≡ Ok x → IfOk made Is → Is x
made_is Is made x is h = subst (λ (r : Result _ _). IfOk r Is) is h

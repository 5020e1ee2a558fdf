-- In a run the delays are those with which the server began, and no peer is forgotten.
use Rattle.std.proofs.Common.{◌≡◌, inl, inr, ◌≤◌, ◌<◌, ℕ, ◌+◌, Bool, true, false, Some, None, List, []}
use Rattle.std.proofs.Common.{◌∷◌, ◌++◌, map, refl, ap, sym}
use Rattle.std.proofs.Common.{subst, ◌∙◌, arith}
use Rattle.std.specs.List.{All}
use Rattle.std.proofs.lemmas.List.Elements.{All-head, All-tail}
use Rattle.coap_types.specs.Past.{Ever}
use Rattle.coap_layer.specs.Trace.{Packet}
use Rattle.coap_client.specs.Trace as C
use Rattle.coap_server_laws.specs.Follows.Delayed.{sets_delay}
use Rattle.coap_server.specs.Follows.Serves.{forgets}
use Rattle.coap_server.specs.Trace as S
use Rattle.coap_server.specs.Trace.{Delay}
use Rattle.coap_record.specs.Events.{Config, What, Sets, Removes, TickServer, Deliver, StrangerToServer}
use Rattle.coap_record.specs.Record.{Entry, OfClient, OfServer, Turn, OnClient, OnServer, ServerTick, Makes, entries_of}
use Rattle.coap_record.specs.Record.{DelayOf, PlainOf, gives_it, server_trace}
use Rattle.coap_smooth.specs.Smooth.{max_age, max_delay}
use Rattle.coap_smooth.specs.Young.{longest, open_by}
use Rattle.coap_promise.proofs.Facts.Delivery.EntriesInTime.{Every, every_join}
use Rattle.coap_promise.proofs.Facts.Delivery.OneEndATurn.{each_one, each_tick}
use Rattle.coap_smooth.proofs.Smoothly.Ticks.NothingIsLeft.{AllMade}
use Rattle.coap_promise.proofs.Facts.Delivery.ClientTurns.{turn_calls as client_turn_calls}
use Rattle.coap_promise.proofs.Facts.Delivery.ServerTurns.{turn_calls as server_turn_calls}
use Rattle.coap_record.specs.declared.addresses.Addresses.{Addresses}

-- the call sets no delay, and forgets nobody
pub record NotSet (c : S.Call) : Type 0 where
  pub no_delay : sets_delay c ≡ false
  pub unforgotten : forgets c ≡ None

not_set : (c d : S.Call) → c ≡ d → sets_delay d ≡ false → forgets d ≡ None → NotSet c
not_set c d is delay keeps = subst NotSet (sym is) (record { no_delay = delay; unforgotten = keeps })

-- .. nor does the entry
abbrev pub SetsNone : Entry → Type 0
SetsNone (OfClient c) = Unit {0}
SetsNone (OfServer c) = NotSet c

none_of_client : (cs : List C.Call) → Every SetsNone (map OfClient cs)
none_of_client [] = tt
none_of_client (c ∷ cs) = (tt, none_of_client cs)

none_of_server : (cs : List S.Call) → Every NotSet cs → Every SetsNone (map OfServer cs)
none_of_server [] h = tt
none_of_server (c ∷ cs) h = (h.0, none_of_server cs h.1)

outs_set_none : (outs : List Packet) (calls : List S.Call) → Every NotSet calls
    → Every NotSet (map (λ p. S.NextOut (Some p)) outs ++ calls)
outs_set_none [] calls h = h
outs_set_none (p ∷ outs) calls h = (record { no_delay = refl; unforgotten = refl }, outs_set_none outs calls h)

on_client : (calls : List C.Call) (entries : List Entry) → OnClient calls entries → Every SetsNone entries
on_client calls entries on =
    subst (Every SetsNone) (sym on.is)
    (none_of_client (client_turn_calls on.outs on.reports calls))

on_server : (calls : List S.Call) (entries : List Entry) → Every NotSet calls → OnServer calls entries
    → Every SetsNone entries
on_server calls entries h on =
    subst (Every SetsNone) (sym on.is)
    (none_of_server (server_turn_calls on.outs calls)
    (record { no_delay = refl; unforgotten = refl }, outs_set_none on.outs calls h))

module _ (addresses : Addresses) (past : List Turn) (t : ℕ) (word : ℕ) (refused : Bool) (entries : List Entry) where
  made_none : (what : What) → Makes addresses past t word what refused entries → Every SetsNone entries
  made_none (Sets path format body) m =
      on_server m.0 entries (each_one _ NotSet (λ c h. not_set c _ h.2 refl refl) refused m.0 m.1) m.2
  made_none (Removes path) m =
      on_server m.0 entries (each_one _ NotSet (λ c h. not_set c _ h.2 refl refl) false m.0 m.1.0) m.2
  made_none TickServer m =
      on_server m.0 entries
      (each_tick (ServerTick t word) NotSet (λ b c h. not_set c _ h.6 refl refl) refused m.0 m.1) m.2
  made_none (StrangerToServer from bytes) m =
      on_server m.0 entries (each_one _ NotSet (λ c h. not_set c _ h.4 refl refl) refused m.0 m.1) m.2
  made_none (Deliver number) m = elim m.2 [
    | inl d ↦ on_server d.1 entries (each_one _ NotSet (λ c h. not_set c _ h.4 refl refl) refused d.1 d.2) d.3
    | inr d ↦ on_client d.1 entries d.3
  ]
  made_none _ m = on_client m.0 entries m.2

pub none_set : (addresses : Addresses) (turns : List Turn) → AllMade addresses turns → Every SetsNone (entries_of turns)
none_set addresses [] made = tt
none_set addresses (turn ∷ past) made =
    every_join SetsNone turn.entries (entries_of past)
    (made_none addresses past turn.event.at turn.event.word turn.refused turn.entries turn.event.what made.0)
    (none_set addresses past made.1)

-- so each was among those
abbrev pub IsAmong : ℕ → List Delay → Type 0
IsAmong ms ds = Ever (λ (d : Delay). d.ms ≡ ms) ds

among : (ds : List Delay) (path : List (List ℕ)) (ms : ℕ)
    → Ever (λ c. c ≡ S.Delays path ms true) (map gives_it (map (λ d. DelayOf d) ds)) → IsAmong ms ds
among [] path ms h = absurd h
among (d ∷ ds) path ms (inl h) = inl (cc h)
among (d ∷ ds) path ms (inr h) = inr (among ds path ms h)

among_first : (ps : List (List (List ℕ))) (ds : List Delay) (path : List (List ℕ)) (ms : ℕ)
    → Ever (λ c. c ≡ S.Delays path ms true) (map gives_it (map (λ p. PlainOf p) ps ++ map (λ d. DelayOf d) ds))
    → IsAmong ms ds
among_first [] ds path ms h = among ds path ms h
among_first (p ∷ ps) ds path ms (inl h) = absurd (cc h)
among_first (p ∷ ps) ds path ms (inr h) = among_first ps ds path ms h

pub among_delays : (config : Config) (es : List Entry) → Every SetsNone es → (path : List (List ℕ)) (ms : ℕ)
    → Ever (λ c. c ≡ S.Delays path ms true) (server_trace config es) → IsAmong ms config.delays
among_delays config [] none path ms h = among_first config.plains config.delays path ms h
among_delays config (OfClient c ∷ es) none path ms h = among_delays config es none.1 path ms h
among_delays config (OfServer c ∷ es) none path ms (inl h) =
    let k = sym none.0.no_delay ∙ ap sets_delay h in absurd (cc k)
among_delays config (OfServer c ∷ es) none path ms (inr h) = among_delays config es none.1 path ms h

-- .. and is no longer than the longest, with which an exchange may be open longer
pub no_longer : (ms : ℕ) (ds : List Delay) → IsAmong ms ds → ms ≤ longest ds
no_longer ms [] h = absurd h
no_longer ms (d ∷ ds) (inl h) = omega (arith, h)
no_longer ms (d ∷ ds) (inr h) = let k = no_longer ms ds h in omega (arith, k)

pub over_a_second : (ds : List Delay) → 1001 ≤ longest ds
over_a_second [] = omega arith
over_a_second (d ∷ ds) = let k = over_a_second ds in omega (arith, k)

pub with_longest : (ms : ℕ) (ds : List Delay) → IsAmong ms ds → open_by ds ≡ longest ds + 2999
with_longest ms [] h = absurd h
with_longest ms (d ∷ ds) h = refl

pub two_at_least : (ds : List Delay) → max_age + max_age ≤ open_by ds
two_at_least [] = omega arith
two_at_least (d ∷ ds) = omega arith

-- where each is short, no exchange is open for so long that NoResponse could end it
longest_within : (ds : List Delay) → All (λ (d : Delay). d.ms ≤ max_delay) ds → longest ds ≤ max_delay
longest_within [] all = omega arith
longest_within (d ∷ ds) all =
    let first = All-head (λ (x : Delay). x.ms ≤ max_delay) d ds all in
    let k = longest_within ds (All-tail (λ (x : Delay). x.ms ≤ max_delay) d ds all) in
    omega (arith, first, k)

pub open_within : (ds : List Delay) → All (λ (d : Delay). d.ms ≤ max_delay) ds → open_by ds < 247000
open_within [] all = omega arith
open_within (d ∷ ds) all = let k = longest_within (d ∷ ds) all in omega (arith, k)

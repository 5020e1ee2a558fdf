-- A server that commits each input to its journal is turned as one without: by what it is handed, and what is taken.
use Rattle.std.proofs.Common.{◌≡◌, ◌⊎◌, ◌+◌, ℕ, Bool, false, List, [], ◌∷◌, Some, arith}
use Rattle.std.proofs.Common.{if◌then◌else◌}
use Rattle.std.proofs.Common.{ap, inl, inr, refl, subst, sym, ◌∙◌, ◌++◌, ◌<◌, Err, IfOk, Ok, OnOk}
use Rattle.std.proofs.Common.{IfNone, None, Option, Result, get_or, length}
use Rattle.std.specs.Io.KnownBytes.{Appends}
use Rattle.std.proofs.Common.{drop, take}
use Rattle.std.proofs.lemmas.List.{drop_more, take-append-drop, take_more}
use Rattle.coap_resource.specs.declared.refusal.StoreRefusal.{StoreRefusal}
use Rattle.coap_types.specs.declared.endpoint.Endpoint.{Endpoint}
use Rattle.coap_layer.specs.Trace as layer
use Rattle.coap_journal.specs.Input.{Feed, Tick}
use Rattle.coap_journaled.specs.Journal.{IsNoted, IsTaken, Journal, Rests, is_open}
use Rattle.coap_journaled.specs.Runs.{end_gives}
use Rattle.coap_journaled.specs.declared.journaled.CommitError.{CommitError}
use Rattle.coap_kept.specs.Keeping.{IsCommitted}
use Rattle.coap_kept.proofs.Facts.{same_end}
use Rattle.coap_links.specs.Carried.{Packet}
use Rattle.coap_links.specs.Pumping.{SendsAll}
use Rattle.coap_links.specs.Turning.{Turns}
use Rattle.coap_links.specs.declared.tally.Tally.{Tally}
use Rattle.coap_server.specs.Led.{State}
use Rattle.coap_server.specs.Trace.{NextOut, Ticks}
use Rattle.coap_server.specs.Trace.{Feeds as FedIn}
use Rattle.coap_arguments.specs.declared.orders.Hold.{Hold}
use Rattle.coap_arguments.specs.declared.orders.ServeOptions.{ServeOptions}
use Rattle.coap_serving.specs.Kept.{HoldsEach, HoldsMissing, IsGoneOn, IsRefusedMissing, IsSetMissing, RefusesAmong}
use Rattle.coap_serving.specs.Kept.{RefusesMissing}
use Rattle.coap_answers.specs.Printed.{refused_text}
use Rattle.coap_serving.specs.Printed.{served_text}
use Rattle.coap_serving.specs.Served.{FedFrom}
use Rattle.coap_wires.specs.Serves.{Serves}
use Rattle.coap_serving.specs.ToldChanges.{IsToldIf}
use Rattle.coap_status.specs.declared.status.Status.{Status}
use Rattle.coap_status.specs.declared.status.Status.TheVariants as status
use Rattle.coap_status.specs.declared.status.Stop.{Stop}
use Rattle.coap_serving.proofs.ServedCalls.{fed_call, fed_here, server_feeds, server_gives, server_ticks, serves_fed}

abbrev queue : State → List layer.Packet
queue s = s.layer.queue

module _ {F : Type 0} (appends : F → List ℕ → Bool → F → Type 0) (syncs : F → Bool → F → Type 0) where
  abbrev waiting : Journal State F → List layer.Packet
  waiting j = if is_open j then queue j.end else []

  abbrev gives : Journal State F → layer.Packet → Journal State F → Type 0
  gives j p n = IsTaken j n × end_gives queue server_gives j.end p n.end

  abbrev quiet_feed : Journal State F → ℕ → Endpoint → List ℕ → Type 0
  quiet_feed j now from bytes = ⊥

  abbrev quiet_tick : Journal State F → ℕ → Type 0
  quiet_tick j now = Rests j now

  abbrev feeds : Journal State F → ℕ → Endpoint → List ℕ → ℕ → Journal State F → Type 0
  feeds j now from bytes word n = (m : Journal State F)
      × (IsNoted j (Feed now from bytes word) m × server_feeds j.end now from bytes word m.end)
      × IsCommitted appends syncs m n

  abbrev ticks : Journal State F → ℕ → ℕ → Bool → Journal State F → Type 0
  ticks j now word did n = (m : Journal State F)
      × ((Rests j now × (did ≡ false) × (m ≡ j))
      ⊎ (IsNoted j (Tick now word) m × server_ticks j.end now word did m.end))
      × IsCommitted appends syncs m n

  given : (old : Journal State F) (p : layer.Packet) (new : Journal State F) → gives old p new
      → FedFrom 0 old.end new.end
  given old p new is = fed_call 0 old.end new.end (NextOut (Some p)) tt (omega arith) is.1.1

  is_fed : (old : Journal State F) (now : ℕ) (from : Endpoint) (bytes : List ℕ) (word : ℕ) (new : Journal State F)
      → feeds old now from bytes word new → FedFrom 1 old.end new.end
  is_fed old now from bytes word new is =
      let k = is.1.1 in
      subst (λ (s : State). FedFrom 1 old.end s) (sym (same_end appends syncs is.0 new is.2))
      (fed_call 1 old.end is.0.end (FedIn now from bytes word k.0 k.1 k.2 k.3) tt (omega arith) k.4)

  ticked : (old : Journal State F) (now word : ℕ) (did : Bool) (new : Journal State F) → ticks old now word did new
      → FedFrom 0 old.end new.end
  ticked old now word did new is =
      subst (λ (s : State). FedFrom 0 old.end s) (sym (same_end appends syncs is.0 new is.2))
      (elim is.1 [
        | inl rests ↦ fed_here old.end is.0.end (ap (λ (j : Journal State F). j.end) rests.2)
        | inr noted ↦
            let k = noted.1 in
            fed_call 0 old.end is.0.end (Ticks now word k.0 k.1 k.2 k.3 k.4 k.5 did) tt (omega arith) k.6
      ])

  -- .. and of which it is told what it applies: what is seen of the teller stands beside it
  module _ {X : Type 0} (told : ℕ → Journal State F × X → Journal State F × X → Type 0) where
    abbrev told_gives : Journal State F × X → layer.Packet → Journal State F × X → Type 0
    told_gives s packet n = gives s.0 packet n.0 × (n.1 ≡ s.1)

    abbrev told_feeds : Journal State F × X → ℕ → Endpoint → List ℕ → ℕ → Journal State F × X → Type 0
    told_feeds s now from bytes word n = feeds s.0 now from bytes word n.0 × told now s n

    abbrev told_ticks : Journal State F × X → ℕ → ℕ → Bool → Journal State F × X → Type 0
    told_ticks s now word did n = ticks s.0 now word did n.0 × IsToldIf did (told now) s n

    module _ {L : Type 0} (sends : L → Endpoint → List ℕ → L → Type 0) (receives : L → Option Packet → L → Type 0)
        (faults : L → ℕ) where
      -- turns by a clock, as long as the program bears it, and then what is out is sent
      kept_fed : {C : Type 0} (tells : C → ℕ → C → Type 0) (bears : L → Tally → Type 0) (count word : ℕ) (b : C)
          (e : Journal State F × X) (l : L) (d : C) (f : Journal State F × X) (m : L)
          → Serves tells (Turns (λ (s : Journal State F × X). waiting s.0) told_gives sends receives faults
          (λ (s : Journal State F × X) now from bytes. quiet_feed s.0 now from bytes) told_feeds
          (λ (s : Journal State F × X) now. quiet_tick s.0 now) told_ticks) bears
          (λ g k f m. SendsAll told_gives sends g k (waiting g.0) f m) count word b e l d f m
          → FedFrom count e.0.end f.0.end
      kept_fed tells bears count word b e l d f m h =
          serves_fed (λ (s : Journal State F × X). s.0.end) (λ (s : Journal State F × X). waiting s.0) told_gives sends
          receives faults (λ (s : Journal State F × X) now from bytes. quiet_feed s.0 now from bytes) told_feeds
          (λ (s : Journal State F × X) now. quiet_tick s.0 now) told_ticks
          (λ old p new is. given old.0 p new.0 is.0)
          (λ old now from bytes word new is. is_fed old.0 now from bytes word new.0 is.0)
          (λ old now word did new is. ticked old.0 now word did new.0 is.0) tells bears count word b e l d f m h

      -- .. from where it was, where no commit failed
      pub kept_from : {C : Type 0} (tells : C → ℕ → C → Type 0) (bears : L → Tally → Type 0) (count word : ℕ)
          (own : State) (b : C) (e : Journal State F × X) (l : L) (d : C) (f : Journal State F × X) (m : L)
          (failed : Option CommitError) → failed ≡ None → e.0.end ≡ own
          → IfNone failed (Serves tells (Turns (λ (s : Journal State F × X). waiting s.0) told_gives sends receives
          faults (λ (s : Journal State F × X) now from bytes. quiet_feed s.0 now from bytes) told_feeds
          (λ (s : Journal State F × X) now. quiet_tick s.0 now) told_ticks) bears
          (λ g k f m. SendsAll told_gives sends g k (waiting g.0) f m) count word b e l d f m)
          → FedFrom count own f.0.end
      kept_from tells bears count word own b e l d f m None none is h =
          subst (λ (s : State). FedFrom count s f.0.end) is (kept_fed tells bears count word b e l d f m h)
      kept_from tells bears count word own b e l d f m (Some why) none is h = cc none

-- ---- what is held

pub each_more : (at : ℕ) (holds : List Hold) (hold : Hold) (old between new : State) → HoldsEach at holds old between
    → HoldsMissing at hold.path hold.body.items between new → HoldsEach at (holds ++ hold ∷ []) old new
each_more at [] hold old between new so one =
    (new, subst (λ (s : State). HoldsMissing at hold.path hold.body.items s new) so one, refl)
each_more at (h ∷ holds) hold old between new so one =
    (so.0, so.1, each_more at holds hold so.0 between new so.2 one)

pub one_each : (at : ℕ) (holds : List Hold) (i : ℕ) (x : Hold) → x ≡ get_or holds i x → i < length holds
    → (old between new : State) → HoldsEach at (take i holds) old between
    → HoldsMissing at x.path x.body.items between new → HoldsEach at (take (i + 1) holds) old new
one_each at holds i x is lt old between new so one =
    subst (λ (hs : List Hold). HoldsEach at hs old new)
    (sym (take_more holds i x lt ∙ ap (λ y. take i holds ++ y ∷ []) (sym is)))
    (each_more at (take i holds) x old between new so one)

pub one_among : (at : ℕ) (holds : List Hold) (i : ℕ) (x : Hold) → x ≡ get_or holds i x → i < length holds
    → (why : StoreRefusal) (old between new : State) → HoldsEach at (take i holds) old between
    → RefusesMissing at x.path x.body.items why between new → RefusesAmong at holds why old new
one_among at holds i x is lt why old between new so one = (
  take i holds,
  x,
  drop (i + 1) holds,
  sym (take-append-drop i holds) ∙ ap (λ rest. take i holds ++ rest) (drop_more holds i x lt)
      ∙ ap (λ y. take i holds ++ y ∷ drop (i + 1) holds) (sym is),
  between,
  so,
  one,
)

-- ---- what an answer comes to

pub if_ok : {X E : Type 0} {P Q : X → Type 0} (r : Result X E) → ((x : X) → P x → Q x) → IfOk r P → IfOk r Q
if_ok (Ok x) on h = on x h
if_ok (Err e) on h = tt

pub no_answer : {X E : Type 0} (Q : X → Type 0) (r : Result X E) → IfOk r (λ _. ⊥) → IfOk r Q
no_answer Q (Ok x) h = absurd h
no_answer Q (Err e) h = tt

pub nothing_done : {X E : Type 0} (Q : Type 0) (r : Result X E) → IfOk r (λ _. ⊥) → OnOk r Q
nothing_done Q (Ok x) h = absurd h
nothing_done Q (Err e) h = tt

-- ---- a server that goes on

module _ (before after : Option (List ℕ)) (count : ℕ) (options : ServeOptions) (at : ℕ) (start : State) where
  pub gone_on : (set : State) (ended : Result Status Stop) → IsSetMissing at options start set
      → IfOk ended (λ s. (s ≡ status.Done) × (last : State) × FedFrom count set last)
      → OnOk ended (Appends before after (served_text count))
      → IfOk ended (IsGoneOn before after count options at start)
  gone_on set (Ok s) is h written = inr (h.0, set, is, h.1, h.2, written)
  gone_on set (Err stop) is h written = tt

  pub gone_refused : (why : StoreRefusal) (last : State) (ended : Result Status Stop)
      → IsRefusedMissing at options why start last → IfOk ended (λ s. s ≡ status.Refused)
      → OnOk ended (Appends before after (refused_text why))
      → IfOk ended (IsGoneOn before after count options at start)
  gone_refused why last (Ok s) is h written = inl (h, why, last, is, written)
  gone_refused why last (Err stop) is h written = tt

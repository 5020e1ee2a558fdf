-- What a commit makes of a journal, by its fields.
use Rattle.std.proofs.Common.{◌≡◌, ◌≢◌, ◌+◌, ◌<◌, ℕ, Bool, true, false, List, [], ◌∷◌, length, refl, ap, subst, ◌∙◌, Ok}
use Rattle.std.proofs.Common.{Err}
use Rattle.coap_journaled.specs.Journal.{Journal, most, next_frame, shown}
use Rattle.coap_journaled.specs.Runs.{Act, Appends, Commits, Syncs}
use Rattle.coap_journaled.specs.declared.journaled.CommitError.TheVariants.{NotSynced, NotWritten}

module _ {E S F : Type 0} (state : E → S) (appends : F → List ℕ → Bool → F → Type 0) (syncs : F → Bool → F → Type 0)
    (seen : Journal E F) (framed : List ℕ) (between left : F) where
  abbrev Unwritten : Journal E F → Type 0
  Unwritten o = o.over ≡ false → framed ≡ next_frame o
      → (acts : List Act) × Commits appends syncs (shown state o) (Err NotWritten) acts
      (shown state (record seen { file = left; over = true }))

  pub unwritten : (old : Journal E F) → seen ≡ old → appends seen.file framed false left → Unwritten old
  unwritten old e one = subst Unwritten e (λ going is. (
    Appends framed false ∷ [],
    Commits.unwritten refl going (subst (λ (bs : List ℕ). appends seen.file bs false left) is one)
        (ap (λ (bs : List ℕ). Appends bs false ∷ []) is) refl,
  ))

  abbrev Unsynced : Journal E F → Type 0
  Unsynced o = o.over ≡ false → framed ≡ next_frame o
      → (acts : List Act) × Commits appends syncs (shown state o) (Err NotSynced) acts
      (shown state (record seen { file = left; over = true }))

  pub unsynced : (old : Journal E F) → seen ≡ old → appends seen.file framed true between → syncs between false left
      → Unsynced old
  unsynced old e one two = subst Unsynced e (λ going is. (
    Syncs false ∷ Appends framed true ∷ [],
    Commits.unsynced between refl going (subst (λ (bs : List ℕ). appends seen.file bs true between) is one) two
        (ap (λ (bs : List ℕ). Syncs false ∷ Appends bs true ∷ []) is) refl,
  ))

  module _ (next : ℕ) (cleared : List ℕ) where
    abbrev Written : Journal E F → Type 0
    Written o = o.over ≡ false → o.inputs ≢ [] → o.taken < most → framed ≡ next_frame o
        → next ≡ o.place + length framed
        → (acts : List Act) × Commits appends syncs (shown state o) (Ok tt) acts
        (shown state (record seen { file = left; place = next; taken = 0; inputs = cleared }))

    pub written : (old : Journal E F) → seen ≡ old → cleared ≡ [] → appends seen.file framed true between
        → syncs between true left → Written old
    written old e none one two = subst Written e (λ going some few is at. (
      Syncs true ∷ Appends framed true ∷ [],
      Commits.done between refl going some few (subst (λ (bs : List ℕ). appends seen.file bs true between) is one) two
          (ap (λ (bs : List ℕ). Syncs true ∷ Appends bs true ∷ []) is)
          (ap (λ (n : ℕ). shown state (record seen { file = left; place = n; taken = 0; inputs = cleared }))
          (at ∙ ap (λ (bs : List ℕ). seen.place + length bs) is)
          ∙ ap (λ (xs : List ℕ). shown state (record seen {
            file = left;
            place = seen.place + length (next_frame seen);
            taken = 0;
            inputs = xs;
          })) none),
    ))

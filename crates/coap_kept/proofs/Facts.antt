-- What proofs above use: a commit leaves the end as it is, and what is dropped is given out.
use Rattle.std.proofs.Common.{◌≡◌, ℕ, Bool, List, [], ◌∷◌, Result, ap}
use Rattle.coap_layer.specs.Trace.{Packet}
use Rattle.coap_server.specs.Led.{State}
use Rattle.coap_journaled.specs.Journal.{Journal}
use Rattle.coap_journaled.specs.Runs.{Act, Commits}
use Rattle.coap_journaled.specs.declared.journaled.CommitError.{CommitError}
use Rattle.coap_kept.specs.Draining.{Drops}
use Rattle.coap_kept.specs.Keeping.{IsCommitted}
use Rattle.coap_replay.specs.Replaying.{Gives, GivesOut}

module _ {S F : Type 0} (appends : F → List ℕ → Bool → F → Type 0) (syncs : F → Bool → F → Type 0) where
  same_by : (old new : Journal S F) (result : Result (Unit {0}) CommitError) (acts : List Act)
      → Commits appends syncs old result acts new → new.end ≡ old.end
  same_by old new result acts (Commits.nothing r going none are same) = ap (λ (j : Journal S F). j.end) same
  same_by old new result acts (Commits.done between r going some few one two are is) =
      ap (λ (j : Journal S F). j.end) is
  same_by old new result acts (Commits.unsynced between r going one two are is) = ap (λ (j : Journal S F). j.end) is
  same_by old new result acts (Commits.unwritten r going one are is) = ap (λ (j : Journal S F). j.end) is
  same_by old new result acts (Commits.full r going some full are is) = ap (λ (j : Journal S F). j.end) is
  same_by old new result acts (Commits.refused r going some are same) = ap (λ (j : Journal S F). j.end) same
  same_by old new result acts (Commits.over r going are same) = ap (λ (j : Journal S F). j.end) same

  pub same_end : (old new : Journal S F) → IsCommitted appends syncs old new → new.end ≡ old.end
  same_end old new is = same_by old new is.0 is.1 is.2

pub given_out : {F : Type 0} (old new : Journal State F) (ps : List Packet) → Drops Gives old ps new
    → GivesOut old.end ps new.end
given_out old new [] is = ap (λ j. j.end) is
given_out old new (p ∷ ps) so = (so.0.end, so.2, given_out so.0 new ps so.3)

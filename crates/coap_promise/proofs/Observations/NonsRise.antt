-- A notification in a NON that is taken was told behind the newest before it (RFC 7641, sections 3.4 and 4.5), as
-- moments and versions alone: where it was told earlier, or no later, the rule of freshness does not take it as newer.
use Rattle.std.proofs.Common.{◌≡◌, ◌<◌, ◌≤◌, ℕ, ◌+◌, ◌*◌, subst, arith}
use Rattle.coap_types.specs.declared.transmission.TheConstants.{MAX_LATENCY_MS as max_latency}
use Rattle.coap_observe.specs.declared.sequence.TheConstants.{REORDERING_MS as reordering_ms}
use Rattle.coap_observe.specs.Newer.{Mark, Newer}
use Rattle.coap_observe.specs.Versions.{sequence_number}
use Rattle.coap_observe.proofs.Facts.Versions.{newer_is_later}
use Rattle.coap_resource.specs.declared.tally.TheConstants.{MAX_CHANGES_PER_WINDOW as max_changes}

-- what is told: the version that it shows, and the moment of the server's call
pub record Told : Type 0 where
  pub version : ℕ
  pub at : ℕ

-- Of two that are told under one registration, the older in a NON: the newer is told no earlier, under a greater
-- version, and where it is told at most MAX_LATENCY later, fewer changes lie between than two windows take.
pub record FollowsNon (changes : ℕ) (x y : Told) : Type 0 where
  pub version : x.version < y.version
  pub later : x.at ≤ y.at
  pub near : y.at ≤ x.at + max_latency → y.version ≤ x.version + 2 * changes

-- it is taken with this mark, under the number of its version
pub record TakenAs (x : Told) (mark : Mark) : Type 0 where
  pub number : mark.number ≡ sequence_number x.version

-- Of two that were told, in a NON and another, and were taken with these marks, the other one first: the other one was
-- told while the NON could come, by the server's clock, and the NON came no later than the rule of freshness counts, by
-- the client's.
pub record Meets (x y : Told) (before mark : Mark) : Type 0 where
  pub near : y.at ≤ x.at + max_latency
  pub soon : mark.at ≤ before.at + reordering_ms

-- the one mark is newer than the other, which was made before
pub record Renews (before mark : Mark) : Type 0 where
  pub newer : Newer before.number before.at mark.number mark.at

renews_by : (x y : Told) (mark before : Mark) → TakenAs x mark → TakenAs y before → Renews before mark
    → Newer (sequence_number y.version) before.at (sequence_number x.version) mark.at
renews_by x y mark before a b r =
    subst (λ n. Newer n before.at (sequence_number x.version) mark.at) b.number
    (subst (λ n. Newer before.number before.at n mark.at) a.number r.newer)

-- the one that was taken before was not told behind it
pub not_behind : (changes : ℕ) (x y : Told) (mark before : Mark) → changes ≤ max_changes → FollowsNon changes x y
    → TakenAs x mark → TakenAs y before → Meets x y before mark → Renews before mark → ⊥
not_behind changes x y mark before few f a b meets r =
    let low = f.version in
    let most = f.near meets.near in
    let later = newer_is_later y.version x.version before.at mark.at (omega (arith, few, most), omega (arith, low))
    meets.soon
    (renews_by x y mark before a b r) in
    omega (arith, low, later)

-- nor were both told in one call
pub not_at_once : (x : Told) (mark before : Mark) → TakenAs x mark → TakenAs x before → Meets x x before mark
    → Renews before mark → ⊥
not_at_once x mark before a b meets r =
    let later = newer_is_later x.version x.version before.at mark.at (omega arith, omega arith) meets.soon
    (renews_by x x mark before a b r) in
    omega (arith, later)

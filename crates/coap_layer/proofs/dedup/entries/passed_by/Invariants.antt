use Rattle.std.proofs.Common.{◌≡◌, ◌≤◌, ◌<◌, ◌+◌, ◌-◌, drop, false, filter, length}
use Rattle.coap_layer.specs.Machine.State.{is_live}
use Rattle.coap_layer.specs.Machine.Entries.{arrivals_as, is_passed_at}
use Rattle.coap_layer.proofs.dedup.entries.passed_by.Given as goal

abbrev pub invariant-far : goal.invariant-far
invariant-far g l = (l.passed ≤ l.held) × (0 < l.step)
    × (filter (is_live l.now.0) (arrivals_as (drop l.passed l.log.entries))
    ≡ filter (is_live l.now.0) (arrivals_as l.log.entries))

abbrev pub decreases-far : goal.decreases-far
decreases-far g l = l.held - l.passed

abbrev pub invariant-near : goal.invariant-near
invariant-near g l = (l.passed ≤ l.held) × (0 < l.step)
    × (filter (is_live l.now.0) (arrivals_as (drop l.passed l.log.entries))
    ≡ filter (is_live l.now.0) (arrivals_as l.log.entries))
    × (l.passed + l.step ≤ l.held
    → is_passed_at l.now.0 l.log.entries (l.passed + l.step - 1) ≡ false)

abbrev pub decreases-near : goal.decreases-near
decreases-near g l = l.step

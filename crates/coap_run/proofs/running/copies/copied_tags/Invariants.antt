use Rattle.std.proofs.Common.{length, ◌-◌, ◌≡◌, ◌≤◌, take}
use Rattle.coap_run.proofs.running.copies.copied_tags.Given as goal

abbrev pub invariant-tags : goal.invariant-tags
invariant-tags l = record { within : l.i ≤ length l.tags; are : l.copy ≡ take l.i l.tags }

abbrev pub decreases-tags : goal.decreases-tags
decreases-tags l = length l.tags - l.i

use Rattle.std.proofs.Common.{◌≡◌, ◌+◌}
use Rattle.coap_links.proofs.memory_link.MemoryLink.reserve.Given as goal

-- the buffers that were made so far
abbrev pub invariant-loop : goal.invariant-loop
invariant-loop g l =
    (l.self ≡ record l.fn.self { reserved = l.fn.self.reserved + l.counter }) × (l.before ≡ l.fn.self.reserved)

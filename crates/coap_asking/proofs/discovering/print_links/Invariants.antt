use Rattle.std.proofs.Common.{IfNone, map, take}
use Rattle.std.specs.Io.KnownBytes.{Appends}
use Rattle.coap_asking.specs.Discovers.{links_text}
use Rattle.coap_asking.proofs.discovering.print_links.Given as goal

-- so far the first links are written
abbrev pub invariant-loop-link : goal.invariant-loop-link
invariant-loop-link g l =
    IfNone l.json (Appends (g.W.Write.contents l.fn.out) (g.W.Write.contents l.out)
    (links_text (map (λ k. k.text.now) (take l.link-index l.link-items))))

use Rattle.std.proofs.Common.{rules, ◌≡◌, ◌∙◌, [], ap, false, sym, subst}
use Rattle.coap_layer.specs.Trace.{Packet}
use Rattle.coap_resource.specs.Entries.{content_of}
use Rattle.coap_server.specs.Led.{State}
use Rattle.coap_server.specs.Object.Shown.{state_of}
use Rattle.coap_journaled.specs.Journal.{shown}
use Rattle.coap_kept.specs.Kept.{IsAlive, IsBegun}
use Rattle.coap_kept.proofs.Dropped.{drops_by, none_waits}
use Rattle.coap_kept.proofs.keeping.keep.Goals as goal

pub returns-clause-kept : goal.returns-clause-kept
returns-clause-kept g c =
    let keeping = c.args.keeping.now in
    let server = c.in_ok-server in
    let bytes = c.alive.new.journal.bytes.items in
    let is = c.new-journaled.ensures.1 in
    let alive : IsAlive keeping server.silent server.first.0 bytes (state_of content_of server.server) = record {
      machine = c.in_ok-journal.ensures.0;
      found = c.in_ok-journal.ensures.1;
      there = c.in_ok-journal.journal.bytes.items;
      whole = c.in_ok-journal.ensures.2;
      awoken = server.ensures.alive;
    } in
    let begun = shown (state_of content_of) c.new-journaled.result in
    let begins : IsBegun keeping server.silent server.first.0 begun = record {
      bytes = bytes;
      alive = subst (IsAlive keeping server.silent server.first.0 bytes) (sym (ap (λ j. j.end) is)) alive;
      stands = search rules;
      none_noted = ap (λ j. j.inputs) is;
      none_taken = ap (λ j. j.taken) is;
      going = ap (λ j. j.over) is;
    } in
    let drops = c.drain.ensures.drops in
    let left = c.drain.ensures.left in
    record {
      begun = begun;
      begins = begins;
      dropped = drops.0;
      drops = drops_by _ _ (λ s p n gave. record { first = gave.0; step = gave.1 }) _ drops.0 _ drops.1;
      counted = drops.2 begins.none_taken;
      none_waits = none_waits (λ (s : State). s.layer.queue) (shown (state_of content_of) c.drain.new.journaled)
          (ap (λ j. j.over) left ∙ begins.going) (ap (λ j. j.inputs) left ∙ begins.none_noted) c.drain.ensures.empty;
    }

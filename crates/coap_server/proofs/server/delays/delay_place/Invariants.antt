use Rattle.std.proofs.Common.{◌≡◌, ◌++◌, ◌-◌, length, take, drop}
use Rattle.coap_server.specs.Turns.DelaysShown.{delays_of_others}
use Rattle.coap_server.proofs.server.delays.delay_place.Given as goal

abbrev pub invariant-delays : goal.invariant-delays
invariant-delays g l = take l.i l.delays ++ delays_of_others l.path (drop l.i l.delays)
    ≡ delays_of_others l.path l.delays

abbrev pub decreases-delays : goal.decreases-delays
decreases-delays g l = length l.delays - l.i

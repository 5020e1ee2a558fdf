use Rattle.coap_programs.proofs.Loop.{turn_calls}
use Rattle.coap_programs.specs.Loop.{quiet_feed, quiet_tick}
use Rattle.coap_programs.proofs.laws.loop_law.Goals as goal

pub returns : goal.returns
returns g c = record {
  turn = λ e l now t f m u h.
      turn_calls g.L.Link.sends g.L.Link.receives g.L.Link.fault_count quiet_feed quiet_tick e l now t f m u h;
}

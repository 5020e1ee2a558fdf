use Rattle.std.proofs.Common.{refl}
use Rattle.coap_waits.specs.Asks.{AsksNothing}
use Rattle.coap_commands.specs.PairTurns.{further, none}
use Rattle.coap_common.proofs.Facts.{none_is}
use Rattle.coap_waits.proofs.Facts.{turned_here, turned_on}
use Rattle.coap_commands.proofs.pair.reported.Goals as goal

pub loop-turn-init : goal.loop-turn-init
loop-turn-init g c = record { asked = turned_here AsksNothing _ _ refl; turns = none }

pub loop-turn-preserved : goal.loop-turn-preserved
loop-turn-preserved g c =
    record {
      asked = turned_on AsksNothing _ _ _
          (turned_on AsksNothing _ _ _ c.loop-turn.invariant.asked c.in_ok-turn_client.ensures.turned)
          (none_is _ _ c.next_report_of.ensures.none c.in_default.is);
      turns = further _ _ _ _ _ _ _ _ _ _ _ _ c.loop-turn.invariant.turns c.in_ok-turn_client.ensures.over
          c.next_report_of.ensures.own c.in_ok-turn.ensures.turned;
    }

pub returns-in-Some-clause-reports : goal.returns-in-Some-clause-reports
returns-in-Some-clause-reports g c =
    let asked = c.loop-turn.invariant.asked in
    (_, turned_on AsksNothing _ _ _ asked c.in_ok-turn_client.ensures.turned, c.in-Some.ensures.some)

pub returns-in-Some-clause-turns : goal.returns-in-Some-clause-turns
returns-in-Some-clause-turns g c =
    (_, _, _, _, c.loop-turn.invariant.turns, _, c.in_ok-turn_client.ensures.over, c.in-Some.ensures.some)

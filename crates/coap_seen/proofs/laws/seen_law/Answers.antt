use Rattle.std.proofs.Common.{subst}
use Rattle.coap_record.specs.Record.{client_of, entries_of}
use Rattle.coap_promise.proofs.Requests.LocalChanges.{local_right}
use Rattle.coap_seen.specs.Applied.{AppliedWhole, AtMostOnce, OnceDone, NeverFailed, NotFound, OneLast, AllOwned}
use Rattle.coap_seen.specs.Calls.{Tells}
use Rattle.coap_seen.specs.Held.{ValuesRise, WasSo}
use Rattle.coap_seen.proofs.Applying.{Laws}
use Rattle.coap_seen.proofs.Carrying.{held_up}
use Rattle.coap_seen.proofs.Promised as promised
use Rattle.coap_seen.proofs.Recording.{is_record, same_entries, two_of}
use Rattle.coap_seen.proofs.laws.seen_law.Goals as goal

pub returns : goal.returns
returns c = record {
  seen = λ config clocks ts is_run.
      let k = is_record config clocks ts is_run in
      let turns = k.turns in
      let run = k.run in
      let legal = k.legal in
      let all = entries_of turns in
      let e = same_entries config clocks turns ts k.same in
      let laws : Laws config all = record { client = run.client; server = run.server } in
      let dropped = promised.dropped_in config _ turns run in
      let one = c.client_follows_law.ensures.tokens config.addresses.server config.client_sizes config.client_setup
      (client_of all) run.client in
      let a = c.applied_law.ensures in
      let belongs = a.belongs (two_of clocks) config _ turns run legal in
      let holds = a.holds (two_of clocks) config _ turns run legal in
      let named = c.rising_law.ensures.named (two_of clocks) config _ turns run legal in
      let held = promised.each_was_held config (two_of clocks) turns laws holds named
      (promised.none_waits config _ turns run)
      (c.fresh_law.ensures.fresh (two_of clocks) config _ turns run legal) in
      record {
        held = λ number report of. held_up config clocks (λ before e. Tells number report e)
            (WasSo config number report) turns ts k.same (held number report of);
        rise = subst ValuesRise e (promised.values_rise config all laws dropped
            (c.rising_law.ensures.rising (two_of clocks) config _ turns run legal));
        whole = subst (AppliedWhole config) e (promised.applied_whole config all laws dropped one belongs
            (a.whole (two_of clocks) config _ turns run legal));
        at_most_once = subst (AtMostOnce config) e (promised.at_most_once config all laws dropped one belongs
            (a.once (two_of clocks) config _ turns run legal));
        once_done = subst (OnceDone config) e (promised.once_done config all laws dropped one belongs
            (a.done (two_of clocks) config _ turns run legal));
        never_failed = subst (NeverFailed config) e (promised.never_failed config all laws dropped one belongs
            (a.failed (two_of clocks) config _ turns run legal));
        not_found = subst (NotFound config) e (promised.not_found config all laws dropped one belongs
            (a.refused (two_of clocks) config _ turns run legal));
        owned = subst (AllOwned config) e (promised.all_owned config all laws dropped one belongs holds
            (a.owned (two_of clocks) config _ turns run legal) (local_right config all run.server.rows));
        one_last = subst (OneLast config) e (promised.one_last config all laws dropped one belongs
            (c.client_law.ensures.once config.addresses.server config.client_sizes config.client_setup (client_of all)
            run.client));
      };
}

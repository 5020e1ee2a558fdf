use Rattle.std.proofs.Common.{ap, false, List, ℕ}
use Rattle.std.specs.Prelude.{option_map}
use Rattle.coap_types.specs.declared.endpoint.Moment.{Moment}
use Rattle.coap_journaled.specs.Journal.{Journal}
use Rattle.coap_journaled.proofs.journaled.Journaled.new.Goals as goal

pub returns : goal.returns
returns g c =
    let due = option_map (λ (at : Moment). at.0) c.due-due.result in
    let begun : List ℕ → Journal g.E.End.State g.row.F.Denot = λ inputs. record {
      end = g.E.End.state c.args.end;
      file = c.args.file;
      place = c.args.place;
      taken = 0;
      inputs = inputs;
      moment = c.args.moment.0;
      due = due;
      over = false;
    } in
    (due, ap begun c.new.ensures.items)

-- The end of a turn.
use Rattle.std.proofs.Common.{◌≡◌, ℕ, Bool, List}
use Rattle.coap_client.specs.Trace as C
use Rattle.coap_server.specs.Trace as S
use Rattle.coap_exchange.specs.Endings.{all_taken}
use Rattle.coap_record.specs.Events.{Config}
use Rattle.coap_record.specs.Record.{OfClient, OfServer}
use Rattle.coap_run.specs.Run.Log.{Log, Line, lines_put, refused_line}
use Rattle.coap_run.specs.Run.Acts.{TakesAll}
use Rattle.coap_run.specs.Run.Turning.{ClientEnds, ServerEnds, of_client}
use Rattle.coap_run.proofs.Recording.Acting.{acts_join}
use Rattle.coap_record.specs.declared.addresses.Addresses.{Addresses}

pub client_ends : (addresses : Addresses)
    {E : Type 0} (led : Config → List C.Call → E → Type 0) (at : ℕ) (refused : Bool) (a b c : E) (l m n o : Log)
    → TakesAll addresses led OfClient of_client at C.NextOut a l b m
    → TakesAll addresses led OfClient of_client at C.NextReport b m c n → o ≡ lines_put (refused_line refused) n
    → ClientEnds addresses led at refused a l c o
client_ends addresses led at refused a b c l m n o outs reports ends =
    record {
      outs = outs.taken;
      reports = reports.taken;
      ends = record {
        between = n;
        acts = acts_join addresses led OfClient of_client at (all_taken C.NextReport reports.taken)
            (all_taken C.NextOut outs.taken) a b c l m n outs.acts reports.acts;
        ends = ends;
      };
    }

pub server_ends : (addresses : Addresses)
    {E : Type 0} (led : Config → List S.Call → E → Type 0) (lines : Config → List S.Call → S.Call → List Line) (at : ℕ)
    (refused : Bool) (a b : E) (l m n : Log)
    → TakesAll addresses led OfServer lines at S.NextOut a l b m → n ≡ lines_put (refused_line refused) m
    → ServerEnds addresses led lines at refused a l b n
server_ends addresses led lines at refused a b l m n outs ends =
    record { outs = outs.taken; ends = record { between = m; acts = outs.acts; ends = ends } }

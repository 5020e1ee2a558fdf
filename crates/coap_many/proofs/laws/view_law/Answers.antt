use Rattle.coap_many.proofs.Clocked.{views_are_runs}
use Rattle.coap_many.proofs.Views.{views_are_records}
use Rattle.coap_many.proofs.laws.view_law.Goals as goal

pub returns : goal.returns
returns c = record { records = views_are_records; runs = views_are_runs }

use Rattle.coap_kept.specs.Silence.{Lasts}
use Rattle.coap_kept.proofs.disk_file.sync_timed.Goals as goal

pub returns-clause-timed : goal.returns-clause-timed
returns-clause-timed g c =
    (_, _, Lasts.on _ _ _ _ (Lasts.begun _ c.in_ok-begin.ensures) c.in_ok-now.ensures, c.since.ensures)

-- What a pair prints of a request that came to no success, or to no body.
use Rattle.std.proofs.Common.{◌≡◌, ℕ, List, Option, codes}
use Rattle.std.specs.declared.alloc.Global.{Global}
use Rattle.coap_client.specs.declared.client.report.Report as R
use Rattle.coap_client.specs.declared.client.report.Report.TheVariants as report
use Rattle.coap_waits.specs.Asks.{changed_report, changed_status, got_report, got_status}
use Rattle.coap_commands.specs.Printed.{WritesChanged, WritesFetched, WritesGet, WritesNamed, WritesPut}
use Rattle.coap_waits.specs.declared.calling.Outcome.{Outcome}
use Rattle.coap_waits.specs.declared.calling.Outcome.TheVariants.{GaveUp, Refused, Reported}
use Rattle.coap_status.specs.declared.status.Status.TheVariants as status

module _ (old new : Option (List ℕ)) where
  changed_said : (r : R.Report Global) → changed_report r ≡ status.Refused
      → WritesNamed (codes "put") old new (Reported r) → WritesChanged old new r
  changed_said (report.Done code) is h = absurd (cc is)
  changed_said other is h = h

  pub put_said : (o : Outcome) → changed_status o ≡ status.Refused → WritesNamed (codes "put") old new o
      → WritesPut old new o
  put_said (Refused why) is h = h
  put_said (Reported r) is h = changed_said r is h
  put_said (GaveUp seconds) is h = h

  fetched_said : (r : R.Report Global) → got_report r ≡ status.Refused
      → WritesNamed (codes "get") old new (Reported r) → WritesFetched old new r
  fetched_said (report.Body fetched) is h = absurd (cc is)
  fetched_said other is h = h

  pub get_said : (o : Outcome) → got_status o ≡ status.Refused → WritesNamed (codes "get") old new o
      → WritesGet old new o
  get_said (Refused why) is h = h
  get_said (Reported r) is h = fetched_said r is h
  get_said (GaveUp seconds) is h = h

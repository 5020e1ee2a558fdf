-- The exit status of the program as a number.
use Rattle.std.specs.Prelude.{ℕ}
use Rattle.coap_status.specs.declared.status.Status.{Status}
use Rattle.coap_status.specs.declared.status.Status.TheVariants as status

abbrev pub status_number : Status → ℕ
status_number status.Done = 0
status_number status.Refused = 1
status_number status.Words = 2
status_number status.Failed = 3
status_number status.Memory = 4

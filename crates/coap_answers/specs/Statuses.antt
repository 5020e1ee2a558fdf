-- How an order ends that reads no text.
use Rattle.std.specs.Prelude.{◌≡◌, ◌⊎◌}
use Rattle.coap_status.specs.declared.status.Status.{Status}
use Rattle.coap_status.specs.declared.status.Status.TheVariants as status

-- what an order comes to that is carried out to its end, where it reads no text
abbrev pub IsCarriedOut : Status → Type 0
IsCarriedOut s = (s ≡ status.Done) ⊎ (s ≡ status.Refused)

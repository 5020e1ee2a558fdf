-- What an observer is told there computes.
use Rattle.std.proofs.Common.{refl}
use Rattle.coap_server_laws.specs.Examples.ObserverTold.{IsTold}

pub told : IsTold
told = record { told_first = refl; told_next = refl; none_made = (λ e. cc e, (λ e. cc e, (λ e. cc e, tt))) }

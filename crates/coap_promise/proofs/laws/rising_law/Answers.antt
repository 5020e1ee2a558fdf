use Rattle.coap_promise.proofs.Reports.Promised as promised
use Rattle.coap_promise.proofs.laws.rising_law.Goals as goal

pub returns : goal.returns
returns c = record { rising = promised.rising; named = promised.named; values = promised.values }

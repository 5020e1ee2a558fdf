use Rattle.coap_promise.proofs.Reports.Promised as promised
use Rattle.coap_promise.proofs.laws.held_law.Goals as goal

pub returns : goal.returns
returns c = record { bodies = promised.bodies; valid = promised.valid; values = promised.values }

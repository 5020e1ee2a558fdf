-- The history of a client stands in its law.
use Rattle.std.proofs.Common.{List, refl, arith}
use Rattle.coap_layer.specs.Machine.State as L
use Rattle.coap_layer.specs.Machine.Steps.{Asked, Steps, left_after}
use Rattle.coap_layer.proofs.Facts.Sendable.{sendable_when_short}
use Rattle.coap_exchange.specs.AskerLaw.{lower_of, ExchangeLaw}
use Rattle.coap_exchange.specs.ClientExample.{server, run}

abbrev below : List Asked
below = lower_of server (L.usual 0) run

runs : Steps (L.start (L.usual 0)) below (left_after (L.start (L.usual 0)) below)
runs = (
  _,
  (
    _,
    (
      _,
      (
        _,
        refl,
        record {
          may = (sendable_when_short _ (record {
            some = omega arith;
            code = omega arith;
            id = omega arith;
            token = omega arith;
            order = refl;
            numbers = refl;
            short = refl;
          }) (omega arith)).spelled;
          right = refl;
          new_is = refl;
        },
      ),
      record { may = tt; right = refl; new_is = refl },
    ),
    record { may = tt; right = refl; new_is = refl },
  ),
  record { may = tt; right = refl; new_is = refl },
)

pub witness : ExchangeLaw server (L.usual 0) run
witness = record {
  rows = (refl, (refl, (refl, (refl, tt))));
  left = left_after (L.start (L.usual 0)) below;
  layer
      = runs;
}

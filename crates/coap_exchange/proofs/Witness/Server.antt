-- The history of a server stands in its law.
use Rattle.std.proofs.Common.{List, refl, arith}
use Rattle.coap_codec.specs.Reading.{extended, value_at, nibbles_at, option_at, walk_of, walk, payload_at, frame_fault}
use Rattle.coap_codec.specs.Reading.{body_at}
use Rattle.coap_codec.specs.Decoded.{decoded}
use Rattle.coap_codec.specs.Spelling.{option_bytes, options_bytes}
use Rattle.coap_codec.specs.IsSpelled.{has_spelling, is_spelled}
use Rattle.coap_layer.specs.Rows.{IsSpelled}
use Rattle.coap_layer.specs.Machine.State as L
use Rattle.coap_layer.specs.Machine.Steps.{Asked as Below, Steps, left_after}
use Rattle.coap_layer.proofs.Facts.Sendable.{sendable_when_short}
use Rattle.coap_exchange.specs.AnswererSteps.{content_of, content_with}
use Rattle.coap_exchange.specs.AnswererLaw.{lower_of, ResponseLaw}
use Rattle.coap_exchange.specs.ServerExample.{token, asked, content, notification, run}

abbrev below : List Below
below = lower_of run

content_spelled : IsSpelled (content_of asked content)
content_spelled = (sendable_when_short _ (record {
  some = omega arith;
  code = omega arith;
  id = omega arith;
  token = omega arith;
  order = refl;
  numbers = refl;
  short = refl;
}) (omega arith)).spelled

notification_spelled : IsSpelled (content_with token notification)
notification_spelled = (sendable_when_short _
    (record {
      some = omega arith;
      code = omega arith;
      id = omega arith;
      token = omega arith;
      order = refl;
      numbers = refl;
      short = refl;
    }) (omega arith)).spelled

runs : Steps (L.start (L.usual 0)) below (left_after (L.start (L.usual 0)) below)
unfolding decoded frame_fault body_at walk walk_of option_at nibbles_at value_at extended payload_at is_spelled
    has_spelling options_bytes option_bytes
runs = (
  _,
  (
    _,
    (
      _,
      (
        _,
        (
          _,
          (
            _,
            (
              _,
              (
                _,
                (_, refl, record { may = tt; right = refl; new_is = refl }),
                record { may = tt; right = refl; new_is = refl },
              ),
              record { may = refl; right = refl; new_is = refl },
            ),
            record { may = tt; right = refl; new_is = refl },
          ),
          record { may = tt; right = refl; new_is = refl },
        ),
        record { may = tt; right = refl; new_is = refl },
      ),
      record { may = content_spelled; right = refl; new_is = refl },
    ),
    record { may = tt; right = refl; new_is = refl },
  ),
  record { may = notification_spelled; right = refl; new_is = refl },
)

pub witness : ResponseLaw (L.usual 0) run
witness = record {
  rows = (
    record { code = refl; spelled = notification_spelled },
    (
      tt,
      (
        (refl, record { code = refl; spelled = content_spelled }),
        (refl, (refl, ((refl, refl, refl), (refl, tt)))),
      ),
    ),
  );
  left = left_after (L.start (L.usual 0)) below;
  layer = runs;
}

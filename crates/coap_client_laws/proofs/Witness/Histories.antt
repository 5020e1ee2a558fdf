-- The history of a client that observes stands in its law.
use Rattle.std.proofs.Common.{◌≡◌, ℕ, true, List, [], ◌∷◌, refl, arith}
use Rattle.std.specs.Prelude.{nat_lt}
use Rattle.std.specs.List.{list_all}
use Rattle.std.proofs.lemmas.Bool.{and_parts, ltb-true}
use Rattle.coap_types.proofs.Facts.Bytes.{AreBytes-nil, AreBytes-cons}
use Rattle.coap_codec.specs.Spelling.{option_bytes, options_bytes}
use Rattle.coap_codec.specs.Reading.{extended, value_at, nibbles_at, option_at, walk_of, walk, payload_at, frame_fault}
use Rattle.coap_codec.specs.Reading.{body_at}
use Rattle.coap_codec.specs.Decoded.{decoded}
use Rattle.coap_codec.specs.IsSpelled.{has_spelling, is_spelled}
use Rattle.coap_layer.specs.Machine.State as L
use Rattle.coap_layer.specs.Machine.Steps.{Asked, Steps, left_after}
use Rattle.coap_layer.proofs.Facts.Sendable.{sendable_when_short}
use Rattle.coap_exchange.specs.AskerLaw as X
use Rattle.coap_client.specs.Law.{ClientLaw, ClientRows, lower_of}
use Rattle.coap_client_laws.specs.Examples.Histories.{server, first, second, sizes, run, continue, upload, upload_sizes}

abbrev below : List Asked
below = X.lower_of server (L.usual 0) (lower_of sizes run)

rows_of : ClientRows sizes run
unfolding option_bytes options_bytes
rows_of = (refl, (tt, (tt, (refl, (tt, (tt, (refl, (refl, (refl, tt)))))))))

asked_of : X.AskerLaw server (L.usual 0) (lower_of sizes run)
asked_of = (tt, (refl, (refl, (refl, (tt, (refl, (refl, (refl, tt))))))))

steps_of : Steps (L.start (L.usual 0)) below (left_after (L.start (L.usual 0)) below)
unfolding decoded frame_fault body_at walk walk_of option_at nibbles_at value_at extended payload_at option_bytes
    is_spelled has_spelling options_bytes
steps_of = (
  _,
  (
    _,
    (
      _,
      (
        _,
        (
          _,
          (
            _,
            (
              _,
              (
                _,
                (_, refl, record { may = tt; right = refl; new_is = refl }),
                record {
                  may = (sendable_when_short _ (record {
                    some = omega arith;
                    code = omega arith;
                    id = omega arith;
                    token = omega arith;
                    order = refl;
                    numbers = refl;
                    short = refl;
                  }) (omega arith)).spelled;
                  right = refl;
                  new_is = refl;
                },
              ),
              record { may = tt; right = refl; new_is = refl },
            ),
            record { may = tt; right = refl; new_is = refl },
          ),
          record { may = tt; right = refl; new_is = refl },
        ),
        record { may = tt; right = refl; new_is = refl },
      ),
      record { may = tt; right = refl; new_is = refl },
    ),
    record { may = refl; right = refl; new_is = refl },
  ),
  record { may = tt; right = refl; new_is = refl },
)

pub witness : ClientLaw server sizes (L.usual 0) run
witness = record {
  rows = rows_of;
  exchanges =
      record { rows = asked_of; left = left_after (L.start (L.usual 0)) below; layer = steps_of };
}

-- .. and that of an upload

abbrev below_upload : List Asked
below_upload = X.lower_of server (L.usual 0) (lower_of upload_sizes upload)

upload_rows : ClientRows upload_sizes upload
unfolding option_bytes options_bytes
upload_rows = (tt, (tt, (tt, (refl, (refl, tt)))))

upload_asked : X.AskerLaw server (L.usual 0) (lower_of upload_sizes upload)
upload_asked = (tt, (refl, (refl, (tt, (refl, (refl, tt))))))

upload_steps : Steps (L.start (L.usual 0)) below_upload (left_after (L.start (L.usual 0)) below_upload)
unfolding decoded frame_fault body_at walk walk_of option_at nibbles_at value_at extended payload_at option_bytes
    is_spelled has_spelling options_bytes
upload_steps = (
  _,
  (
    _,
    (
      _,
      (
        _,
        (
          _,
          (
            _,
            (_, refl, record { may = tt; right = refl; new_is = refl }),
            record {
              may = (sendable_when_short _ (record {
                some = omega arith;
                code = omega arith;
                id = omega arith;
                token = omega arith;
                order = refl;
                numbers = refl;
                short = refl;
              }) (omega arith)).spelled;
              right = refl;
              new_is = refl;
            },
          ),
          record { may = tt; right = refl; new_is = refl },
        ),
        record { may = tt; right = refl; new_is = refl },
      ),
      record { may = tt; right = refl; new_is = refl },
    ),
    record {
      may = (sendable_when_short _ (record {
        some = omega arith;
        code = omega arith;
        id = omega arith;
        token = omega arith;
        order = refl;
        numbers = refl;
        short = refl;
      }) (omega arith)).spelled;
      right = refl;
      new_is = refl;
    },
  ),
  record { may = tt; right = refl; new_is = refl },
)

pub uploads : ClientLaw server upload_sizes (L.usual 0) upload
uploads = record {
  rows = upload_rows;
  exchanges =
      record { rows = upload_asked; left = left_after (L.start (L.usual 0)) below_upload; layer = upload_steps };
}

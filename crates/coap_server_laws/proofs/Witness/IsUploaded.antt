-- The history of a server that takes a body in blocks stands in its law.
use Rattle.std.proofs.Common.{◌≡◌, ◌≢◌, ℕ, Bool, true, false, Some, None, cond, List, refl, ap, sym, arith}
use Rattle.coap_types.specs.Path.{same_path}
use Rattle.coap_types.proofs.Facts.Paths.{same_path-decides}
use Rattle.coap_codec.specs.Reading.{extended, value_at, nibbles_at, option_at, walk_of, walk, payload_at, frame_fault}
use Rattle.coap_codec.specs.Reading.{body_at}
use Rattle.coap_codec.specs.Decoded.{decoded}
use Rattle.coap_codec.specs.IsSpelled.{has_spelling, is_spelled}
use Rattle.coap_codec.specs.Spelling.{option_bytes, options_bytes}
use Rattle.coap_layer.proofs.Facts.Sendable.{sendable_when_short}
use Rattle.coap_layer.specs.Rows.{IsSpelled}
use Rattle.coap_layer.specs.Machine.State as L
use Rattle.coap_layer.specs.Machine.Steps.{Asked as Below, Steps, left_after}
use Rattle.coap_resource.specs.Content.{Changes, nothing}
use Rattle.coap_resource.specs.Serves.{bare}
use Rattle.coap_exchange.specs.AnswererLaw.{AnswererLaw}
use Rattle.coap_exchange.specs.AnswererLaw as W
use Rattle.coap_exchange.specs.AnswererSteps.{content_of}
use Rattle.coap_server.specs.Law.{ServerLaw, ServerRows, lower_of}
use Rattle.coap_server_laws.specs.Examples.Observation.{limits, path}
use Rattle.coap_server_laws.specs.Examples.Upload.{front, last, held, made, asked, continues, created}
use Rattle.coap_server_laws.specs.Examples.Upload.{run}

there : cond (same_path path path) (Some held) None ≡ Some held
there = ap (λ z. cond z (Some held) None) ((same_path-decides path path).1 refl)

elsewhere : (other : List (List ℕ)) → other ≢ path → cond (same_path path other) (Some held) None ≡ None
elsewhere other apart = go (same_path path other) refl
  where
    go : (z : Bool) → same_path path other ≡ z → cond z (Some held) None ≡ None
    go true same = absurd (apart (sym ((same_path-decides path other).0 same)))
    go false same = refl

makes : Changes (nothing limits) 1 path (Some held) made
makes = record { there = there; others = elsewhere; paths = refl; tally = refl }

continues_spelled : IsSpelled (content_of (asked 1 8 front) continues)
unfolding option_bytes options_bytes
continues_spelled = (sendable_when_short _ (record {
  some = omega arith;
  code = omega arith;
  id = omega arith;
  token = omega arith;
  order = refl;
  numbers = refl;
  short = refl;
}) (omega arith)).spelled

created_spelled : IsSpelled (content_of (asked 2 16 last) created)
unfolding option_bytes options_bytes
created_spelled = (sendable_when_short _ (record {
  some = omega arith;
  code = omega arith;
  id = omega arith;
  token = omega arith;
  order = refl;
  numbers = refl;
  short = refl;
}) (omega arith)).spelled

rows : ServerRows limits 6 run
unfolding option_bytes options_bytes
rows = (tt, (record { reply = bare 65 0; left = made; serves = (refl, makes); is = refl }, (tt, (refl, tt))))

answered : AnswererLaw (lower_of limits 6 run)
answered = (
  tt,
  (
    (refl, record { code = refl; spelled = created_spelled }, refl),
    (refl, (tt, ((refl, record { code = refl; spelled = continues_spelled }, refl), (refl, tt)))),
  ),
)

abbrev below : List Below
below = W.lower_of (lower_of limits 6 run)

steps : Steps (L.start (L.usual 0)) below (left_after (L.start (L.usual 0)) below)
unfolding decoded frame_fault body_at walk walk_of option_at nibbles_at value_at extended payload_at option_bytes
    is_spelled has_spelling options_bytes
steps = (
  _,
  (
    _,
    (
      _,
      (
        _,
        (
          _,
          (_, refl, record { may = tt; right = refl; new_is = refl }),
          record { may = refl; right = refl; new_is = refl },
        ),
        record { may = tt; right = refl; new_is = refl },
      ),
      record { may = tt; right = refl; new_is = refl },
    ),
    record { may = refl; right = refl; new_is = refl },
  ),
  record { may = tt; right = refl; new_is = refl },
)

pub lawful : ServerLaw limits 6 (L.usual 0) run
lawful = record {
  rows = rows;
  exchanges = record
      { rows = answered; left = left_after (L.start (L.usual 0)) below; layer = steps };
}

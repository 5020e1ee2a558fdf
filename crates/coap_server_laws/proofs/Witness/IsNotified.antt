-- The history of a server that notifies an observer stands in its law.
use Rattle.std.proofs.Common.{◌≡◌, ◌≢◌, ℕ, Bool, true, false, Some, None, cond, List, [], refl, ap, sym, ◌∙◌}
use Rattle.std.proofs.Common.{arith}
use Rattle.std.specs.Prelude.{codes}
use Rattle.coap_types.specs.Path.{same_path}
use Rattle.coap_types.proofs.Facts.Paths.{same_path-decides}
use Rattle.coap_codec.specs.Reading.{extended, value_at, nibbles_at, option_at, walk_of, walk, payload_at, frame_fault}
use Rattle.coap_codec.specs.Reading.{body_at}
use Rattle.coap_codec.specs.Decoded.{decoded}
use Rattle.coap_codec.specs.IsSpelled.{has_spelling, is_spelled}
use Rattle.coap_codec.specs.Spelling.{option_bytes, options_bytes}
use Rattle.coap_layer.proofs.Facts.Sendable.{sendable_when_short}
use Rattle.coap_layer.specs.Rows.{IsSpelled}
use Rattle.coap_layer.specs.Machine.State as L
use Rattle.coap_layer.specs.Machine.Steps.{Asked as Below, Steps, left_after}
use Rattle.coap_resource.specs.Content.{Changes, nothing, Held}
use Rattle.coap_exchange.specs.AnswererLaw.{AnswererLaw}
use Rattle.coap_exchange.specs.AnswererLaw as W
use Rattle.coap_exchange.specs.AnswererSteps.{content_of, content_with}
use Rattle.coap_server.specs.Serving.{response_to}
use Rattle.coap_server.specs.Notifying as N
use Rattle.coap_server.specs.Law.{ServerLaw, ServerRows, lower_of}
use Rattle.coap_server_laws.specs.Examples.Observation as X
use Rattle.coap_server_laws.specs.Examples.Observation.{limits, client, token, path, held, a, b, get, request, asked}
use Rattle.coap_server_laws.specs.Examples.Observation.{question, observer, empty_ack, run}

-- the store

there : (h : Held) → cond (same_path path path) (Some h) None ≡ Some h
there h = ap (λ z. cond z (Some h) None) ((same_path-decides path path).1 refl)

elsewhere : (other : List (List ℕ)) (h : Held) → other ≢ path → cond (same_path path other) (Some h) None ≡ None
elsewhere other h apart = go (same_path path other) refl
  where
    go : (z : Bool) → same_path path other ≡ z → cond z (Some h) None ≡ None
    go true same = absurd (apart (sym ((same_path-decides path other).0 same)))
    go false same = refl

first : Changes (nothing limits) 0 path (Some (held 1 (codes "a"))) a
first = record {
  there = there (held 1 (codes "a"));
  others = λ other apart. elsewhere other (held 1 (codes "a")) apart;
  paths = refl;
  tally = refl;
}

second : Changes a 3 path (Some (held 2 (codes "b"))) b
second = record {
  there = there (held 2 (codes "b"));
  others = λ other apart. elsewhere other (held 2 (codes "b")) apart ∙ sym (elsewhere other (held 1 (codes "a")) apart);
  paths = refl;
  tally = refl;
}

-- what is sent

response_spelled : IsSpelled (content_of asked (response_to a [] asked question (X.content_of 1 (codes "a"))))
unfolding option_bytes options_bytes
response_spelled = (sendable_when_short _ (record {
  some = omega arith;
  code = omega arith;
  id = omega arith;
  token = omega arith;
  order = refl;
  numbers = refl;
  short = refl;
}) (omega arith)).spelled

notification_spelled : IsSpelled (content_with token (N.notification b observer (X.content_of 2 (codes "b"))))
unfolding option_bytes options_bytes
notification_spelled = (sendable_when_short _
    (record {
      some = omega arith;
      code = omega arith;
      id = omega arith;
      token = omega arith;
      order = refl;
      numbers = refl;
      short = refl;
    }) (omega arith)).spelled

rows : ServerRows limits 6 run
unfolding option_bytes options_bytes
rows = (
  refl,
  (
    tt,
    (
      tt,
      (
        (refl, refl),
        (
          (refl, refl),
          (
            (refl, second),
            (
              tt,
              (
                tt,
                (
                  record { reply = X.content_of 1 (codes "a"); left = a; serves = (refl, refl); is = refl },
                  ((refl, first), tt),
                ),
              ),
            ),
          ),
        ),
      ),
    ),
  ),
)

answered : AnswererLaw (lower_of limits 6 run)
answered = (
  refl,
  (
    tt,
    (
      tt,
      (
        refl,
        (
          record { code = refl; spelled = notification_spelled },
          (tt, (refl, (tt, (tt, ((refl, record { code = refl; spelled = response_spelled }, refl), (refl, tt)))))),
        ),
      ),
    ),
  ),
)

abbrev below : List Below
below = W.lower_of (lower_of limits 6 run)

steps : Steps (L.start (L.usual 0)) below (left_after (L.start (L.usual 0)) below)
unfolding decoded frame_fault body_at walk walk_of option_at nibbles_at value_at extended payload_at option_bytes
    is_spelled has_spelling options_bytes
steps = (
  _,
  (
    _,
    (
      _,
      (
        _,
        (
          _,
          (
            _,
            (
              _,
              (
                _,
                (
                  _,
                  (
                    _,
                    (_, refl, record { may = tt; right = refl; new_is = refl }),
                    record { may = refl; right = refl; new_is = refl },
                  ),
                  record { may = tt; right = refl; new_is = refl },
                ),
                record { may = tt; right = refl; new_is = refl },
              ),
              record { may = tt; right = refl; new_is = refl },
            ),
            record { may = tt; right = refl; new_is = refl },
          ),
          record { may = notification_spelled; right = refl; new_is = refl },
        ),
        record { may = tt; right = refl; new_is = refl },
      ),
      record { may = tt; right = refl; new_is = refl },
    ),
    record { may = tt; right = refl; new_is = refl },
  ),
  record { may = tt; right = refl; new_is = refl },
)

pub lawful : ServerLaw limits 6 (L.usual 0) run
lawful = record {
  rows = rows;
  exchanges = record
      { rows = answered; left = left_after (L.start (L.usual 0)) below; layer = steps };
}

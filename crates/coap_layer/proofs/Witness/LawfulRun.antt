-- A trace that stands in the law: a CON with an initial timeout of 3,000 ms, sent at 0, sent again at 3,000, 9,000,
-- 21,000 and 45,000, failed at 93,000 (RFC 7252, section 4.2).
use Rattle.coap_layer.specs.Examples.{began}
use Rattle.std.proofs.Common.{◌≡◌, ℕ, List, [], ◌∷◌, ◌++◌, refl, arith}
use Rattle.coap_types.specs.declared.endpoint.Endpoint.{Endpoint}
use Rattle.coap_codec.specs.Spelling.{options_bytes}
use Rattle.coap_layer.specs.Trace.{Content, Confirm, Ticks, Answer, Sent, Idle, Copied, Expired}
use Rattle.coap_layer.specs.Rows.{LayerLaw, IsSpelled}
use Rattle.coap_layer.specs.Machine.State.{State, Step, start, after, forgotten, made}
use Rattle.coap_layer.specs.Machine.Steps.{Asked, Steps, entries, left_after}
use Rattle.coap_layer.proofs.Facts.Calls.{led_steps}

abbrev server : Endpoint
server = record { ip = 127 ∷ 0 ∷ 0 ∷ 1 ∷ []; port = 5683 }

-- a GET with nothing more
abbrev get : Content
get = record { code = 1; token = []; options = []; payload = [] }

get_spelled : IsSpelled get
unfolding options_bytes
get_spelled kind id small = record {
  code = omega arith;
  id = omega (arith, small);
  token = omega arith;
  option_bytes = [];
  options = refl;
  parts = refl;
  empty = λ z. absurd (omega (arith, z));
}

abbrev tick : ℕ → Answer → Asked
tick now answer = record { now = now; call = Ticks; answer = answer }

-- the calls, the newest first
abbrev pub run : List Asked
run =
    tick 93000 (Expired server 0) ∷
    tick 92999 Idle ∷
    tick 45000 (Copied server 0) ∷
    tick 21000 (Copied server 0) ∷
    tick 9000 (Copied server 0) ∷
    tick 3000 (Copied server 0) ∷
    tick 2999 Idle ∷
    record { now = 0; call = Confirm server get 1000; answer = Sent 0 } ∷
    []

step : (s : State) (a : Asked) → (a.call ≡ Ticks) → a.answer ≡ (made s a.now a.call).answer
    → Step s a.now a.call a.answer (forgotten (after s (made s a.now a.call)))
step s a ticks is = record { may = rw ticks tt; right = is; new_is = refl }

runs : Steps (start began) run (left_after (start began) run)
runs = (
  _,
  (
    _,
    (
      _,
      (
        _,
        (
          _,
          (
            _,
            (
              _,
              (_, refl, record { may = get_spelled; right = refl; new_is = refl }),
              step _ (tick 2999 Idle) refl refl,
            ),
            step _ (tick 3000 (Copied server 0)) refl refl,
          ),
          step _ (tick 9000 (Copied server 0)) refl refl,
        ),
        step _ (tick 21000 (Copied server 0)) refl refl,
      ),
      step _ (tick 45000 (Copied server 0)) refl refl,
    ),
    step _ (tick 92999 Idle) refl refl,
  ),
  step _ (tick 93000 (Expired server 0)) refl refl,
)

pub witness : LayerLaw began (entries (start began) run ++ [])
witness = (led_steps began [] (start began) (left_after (start began) run) run (record { law = tt; kept = refl })
    runs).law

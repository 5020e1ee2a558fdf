-- Where no path has a delay, 8 calls of one block are reported within 24,000 ms.
use Rattle.std.proofs.Common.{◌≡◌, ◌≤◌, ◌<◌, ℕ, ◌+◌, ◌*◌, List, [], ◌∷◌, ap, arith}
use Rattle.coap_server.specs.Trace.{Delay}
use Rattle.coap_record.specs.Events.{Config}
use Rattle.coap_record.specs.Record.{Turn}
use Rattle.coap_smooth.specs.Reported.{AreReported, EightAreReported, most_ms}
use Rattle.coap_smooth.specs.Young.{open_by}

within : (config : Config) → config.delays ≡ [] → (others : ℕ) → others < 8 → most_ms config others 0 ≤ 24000
within config none others few =
    let e : most_ms config others 0 ≡ (1 + (others + 0)) * 3000 =
    ap (λ (ds : List Delay). (1 + (others + 0)) * (open_by ds + 1000)) none in
    omega (arith, e, few)

pub eight_reported : (config : Config) → config.delays ≡ [] → (turns : List Turn) → AreReported config turns
    → EightAreReported config turns
eight_reported config none [] h = tt
eight_reported config none (turn ∷ past) h = (
  λ x at others few since late. (let most = within config none others few in h.0 x at others 0 since (omega
      (arith, most, late))),
  eight_reported config none past h.1,
)

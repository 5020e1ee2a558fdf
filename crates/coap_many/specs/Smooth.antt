-- What each client of a smooth run of many is promised (RFC 7252, sections 4.2, 5.2 and 5.8).
use Rattle.std.specs.Prelude.{◌≡◌, ℕ, List, []}
use Rattle.coap_types.specs.declared.endpoint.Endpoint.{Endpoint}
use Rattle.coap_smooth.specs.Current.{CurrentAlone}
use Rattle.coap_smooth.specs.Reported.{EightAreReported}
use Rattle.coap_smooth.specs.Smooth as W
use Rattle.coap_smooth.specs.SmoothAnswers.{AnsweredSmoothly}
use Rattle.coap_many.specs.Clients.{Client, Config, IsClient, IsOfClient, world_of}
use Rattle.coap_many.specs.Clocks.{Clocks}
use Rattle.coap_many.specs.Entries.{Turn}
use Rattle.coap_many.specs.View.{view}

-- each client's clock shows what the server's shows
abbrev pub AreOneClock : Config → Clocks → Type 0
AreOneClock config c = (who : Endpoint) → IsOfClient config who → (n : ℕ) → c.clients who n ≡ c.server n

-- What this client and the server see goes smoothly, and the client observes nothing. To them the other clients are
-- strangers, so the server sends few notifications in all (`FewTold`).
pub record GoesSmoothly (config : Config) (k : Client) (turns : List Turn) : Type 0 where
  pub smooth : W.Smooth (world_of config k) (view config k.at turns)
  pub few_told : W.FewTold (world_of config k) (view config k.at turns)
  pub none_observed : W.NoneObserved (view config k.at turns)

-- Then its calls are answered smoothly, and each is reported in time (`AreReported`), whatever the other clients meet.
abbrev pub EachIsAnswered : Config → List Turn → Type 0
EachIsAnswered config turns = (k : Client) → IsClient config k → GoesSmoothly config k turns
    → AnsweredSmoothly (world_of config k) (view config k.at turns)

-- .. and where no path has a delay, 8 of its calls, of one block each, are all reported within 24 s.
abbrev pub EachHasEight : Config → List Turn → Type 0
EachHasEight config turns = config.delays ≡ [] → (k : Client) → IsClient config k → GoesSmoothly config k turns
    → EightAreReported (world_of config k) (view config k.at turns)

-- What a client and the server see goes smoothly, and few notifications are sent in all. Then, where this client takes
-- on one observation and nothing else, its last value is the current one (`CurrentAlone`), whoever else is there (RFC
-- 7641, sections 1.3, 3.4 and 4.5).
abbrev pub EachIsCurrent : Config → List Turn → Type 0
EachIsCurrent config turns = (k : Client) → IsClient config k
    → W.SmoothFewTold (world_of config k) (view config k.at turns)
    → CurrentAlone (world_of config k) (view config k.at turns)

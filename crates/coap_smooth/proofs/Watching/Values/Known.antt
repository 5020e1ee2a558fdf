-- What is known of a smooth run with one observation: what becomes of its notifications, and what they show.
use Rattle.std.proofs.Common.{◌≡◌, ◌≤◌, List, ◌∷◌, map}
use Rattle.coap_types.specs.Past.{Always}
use Rattle.coap_client_laws.specs.Follows.Begins.{WasSent}
use Rattle.coap_client_laws.specs.Follows.Ended.{WasCancelled}
use Rattle.coap_client_laws.specs.Follows.LastValue.{HaveAll}
use Rattle.coap_client_laws.specs.Follows.OfObservations.{Observed}
use Rattle.coap_client.specs.Sendings.{Sending}
use Rattle.coap_client.specs.Own.{Fetching}
use Rattle.coap_client.specs.Law.{ClientLaw}
use Rattle.coap_client.specs.Trace as C
use Rattle.coap_smooth.specs.Current.{FitsABlock, Watches, Alone}
use Rattle.coap_record.specs.Events.{Config}
use Rattle.coap_record.specs.Record.{Turn, RecordOf, entries_of, client_of}
use Rattle.coap_smooth.specs.TakenInTime.{AllTakenInTime}
use Rattle.coap_smooth.specs.NoticesCome.{NoticesAreOfIt}
use Rattle.coap_smooth.specs.HadIds.{HadIds}
use Rattle.coap_smooth.specs.HeldVersions.{VersionsRise, VersionsAreNumbers}
use Rattle.coap_smooth.specs.ShowsHeld.{AllShown}
use Rattle.coap_smooth.specs.NoticesTaken.{IsForIt, NoticesAreTaken, RequestsAreOfIt}
use Rattle.coap_smooth.specs.StillThere.{AreStillThere}
use Rattle.coap_record.specs.Legal.{Legal}
use Rattle.coap_smooth.specs.Smooth.{SmoothFewTold}

-- a smooth run without strangers
pub record SmoothRun (config : Config) (turns : List Turn) : Type 0 where
  pub run : RecordOf config (map (λ (t : Turn). t.event) turns) turns
  pub legal : Legal config turns
  pub smooth : SmoothFewTold config turns

-- of one run, and of it before its last turn
pub record Known (config : Config) (x : Observed) (turn : Turn) (past : List Turn) : Type 0 where
  pub run : SmoothRun config (turn ∷ past)
  pub ids : HadIds config (turn ∷ past)
  pub there : AreStillThere config x (turn ∷ past)
  pub taken : AllTakenInTime config (turn ∷ past)
  pub of_it : NoticesAreOfIt config x (entries_of past)
  pub requests : RequestsAreOfIt config x (entries_of past)
  pub notices : NoticesAreTaken config x past turn
  pub watches : Watches config x.number (entries_of past)
  pub none_cancelled : WasCancelled config.client_sizes x.number (client_of (entries_of (turn ∷ past))) → ⊥
  pub none_cancelled_before : WasCancelled config.client_sizes x.number (client_of (entries_of past)) → ⊥
  pub none_fetched : (s : Sending) → WasSent config.client_sizes s (client_of (entries_of past))
      → s.operation ≡ Fetching x.number → ⊥
  pub shown : AllShown config x (entries_of (turn ∷ past))
  pub rise : VersionsRise config (entries_of (turn ∷ past))
  pub numbers : VersionsAreNumbers config (entries_of (turn ∷ past))

-- what holds of each such run
pub record Parts (config : Config) (x : Observed) : Type 0 where
  pub ids : (turns : List Turn) → SmoothRun config turns → HadIds config turns
  pub taken : (turns : List Turn) → SmoothRun config turns → AllTakenInTime config turns
  pub there : (turns : List Turn) → SmoothRun config turns → Alone x (client_of (entries_of turns))
      → AreStillThere config x turns
  pub of_it : (turns : List Turn) → SmoothRun config turns → Alone x (client_of (entries_of turns))
      → NoticesAreOfIt config x (entries_of turns)
  pub requests : (turns : List Turn) → SmoothRun config turns → Alone x (client_of (entries_of turns))
      → RequestsAreOfIt config x (entries_of turns)
  pub notices : (turns : List Turn) → SmoothRun config turns → Alone x (client_of (entries_of turns))
      → Always (NoticesAreTaken config x) turns
  pub sent : (t : List C.Call) → ClientLaw config.addresses.server config.client_sizes config.client_setup t → Alone x t
      → (s : Sending)
      → WasSent config.client_sizes s t → IsForIt x s.operation
  pub none_fetched : (t : List C.Call) → ClientLaw config.addresses.server config.client_sizes config.client_setup t
      → HaveAll config.client_sizes x.number t → (s : Sending) → WasSent config.client_sizes s t
      → s.operation ≡ Fetching x.number → ⊥
  pub shown : (turns : List Turn) → SmoothRun config turns → Alone x (client_of (entries_of turns))
      → FitsABlock config x.path (entries_of turns) → config.limits.body ≤ config.client_sizes.limit
      → AllShown config x (entries_of turns)
  pub have_all : (turns : List Turn) → SmoothRun config turns → Alone x (client_of (entries_of turns))
      → FitsABlock config x.path (entries_of turns) → config.limits.body ≤ config.client_sizes.limit
      → HaveAll config.client_sizes x.number (client_of (entries_of turns))
  pub rise : (turns : List Turn) → SmoothRun config turns → VersionsRise config (entries_of turns)
  pub numbers : (turns : List Turn) → SmoothRun config turns → VersionsAreNumbers config (entries_of turns)

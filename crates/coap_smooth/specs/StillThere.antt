-- Where the server's registration of an observation is: while the observation goes on, it is there, or a notification
-- that is no 2.05 was sent at most 1,000 ms before (RFC 7641, sections 3.6, 4.1 and 4.2).
use Rattle.std.specs.Prelude.{◌≡◌, ◌≢◌, ◌⊎◌, ◌≤◌, ℕ, ◌+◌, Some, List, ◌∷◌, ◌++◌}
use Rattle.coap_types.specs.Past.{Always}
use Rattle.coap_observe.specs.Observers.{Observer, registration}
use Rattle.coap_exchange.specs.SuccessCodes.{content}
use Rattle.coap_client_laws.specs.Follows.Newer.{Newly}
use Rattle.coap_client_laws.specs.Follows.Notified.{newest}
use Rattle.coap_client_laws.specs.Follows.OfObservations.{Observed}
use Rattle.coap_server.specs.Follows.Observes.{Notice, notice}
use Rattle.coap_server.specs.Law.{own_of}
use Rattle.coap_server.specs.Trace as S
use Rattle.coap_smooth.specs.Current.{Watches}
use Rattle.coap_record.specs.Events.{Config}
use Rattle.coap_record.specs.Record.{Entry, OfServer, Turn, entries_of, client_of, server_trace}
use Rattle.coap_smooth.specs.Smooth.{max_age}
use Rattle.coap_smooth.specs.NoticesCome.{server_moment}

module _ (config : Config) where
  -- a notification that is no 2.05 was sent to the client at most 1,000 ms before this moment
  pub record WasGone (at : ℕ) (all : List Entry) : Type 0 where
    pub newer : List Entry
    pub older : List Entry
    pub call : S.Call
    pub told : Notice
    pub split : all ≡ newer ++ OfServer call ∷ older
    pub here : notice call ≡ Some told
    pub to : told.observer.to ≡ config.addresses.client
    pub gone : told.reply.code ≢ content
    pub soon : at ≤ server_moment config older call + max_age

  module _ (x : Observed) where
    -- the server has the registration of this token, for the path, or that
    abbrev pub StillThere : List ℕ → ℕ → List Entry → Type 0
    StillThere token at all =
        ((o : Observer)
        × (registration config.addresses.client token (own_of config.limits config.server_szx
        (server_trace config all)).observers ≡ Some o)
        × (o.path ≡ x.path))
        ⊎ WasGone at all

    -- .. where a notification was taken under it, and the observation goes on
    abbrev pub AreStillThere : List Turn → Type 0
    AreStillThere turns =
        Always (λ past turn. (n : Newly) → newest config.client_sizes x.number (client_of (entries_of past)) ≡ Some n
        → Watches config x.number (entries_of past)
        → StillThere n.message.token turn.event.at (entries_of past)) turns

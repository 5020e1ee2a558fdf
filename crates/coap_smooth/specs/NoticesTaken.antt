-- What the client takes in of one observation that runs alone, while it goes on: each response under the token of its
-- registration, and so each notification (RFC 7641, sections 3.1 and 3.2). The server serves requests of it alone.
use Rattle.std.specs.Prelude.{◌≡◌, ◌⊎◌, ◌<◌, ℕ, ◌+◌, false, Some, List, ◌∷◌, ◌++◌}
use Rattle.coap_types.specs.Recognised.{lacks_critical, recognised}
use Rattle.coap_types.specs.declared.direction.Direction.TheVariants.{Request, Response}
use Rattle.coap_types.specs.declared.message.Kind.TheVariants.{Con, Non}
use Rattle.coap_codec.specs.Message.{Message}
use Rattle.coap_client_laws.specs.Follows.Begins.{WasSent}
use Rattle.coap_client_laws.specs.Follows.Live.{IsLive}
use Rattle.coap_client_laws.specs.Follows.Notified.{notes, WasRegistered}
use Rattle.coap_client_laws.specs.Follows.OfObservations.{Observed}
use Rattle.coap_client.specs.Sendings.{hears, Sending}
use Rattle.coap_client.specs.Law as clients
use Rattle.coap_client.specs.Own.{Operation, Registering, Fetching}
use Rattle.coap_client.specs.Trace as C
use Rattle.coap_server.specs.Follows.Observes.{Notice, notice}
use Rattle.coap_server.specs.Follows.Serves.{Serving, serving}
use Rattle.coap_server.specs.Law.{own_of}
use Rattle.coap_server.specs.Trace as S
use Rattle.coap_smooth.specs.Current.{Watches}
use Rattle.coap_record.specs.Events.{Config}
use Rattle.coap_record.specs.Record.{Entry, OfClient, OfServer, Turn, entries_of, client_of, server_trace}
use Rattle.coap_smooth.specs.Smooth.{max_age}
use Rattle.coap_smooth.specs.NoticesCome.{IsFed, NoticeComes, notice_message, server_moment}

-- it registers this observation, or fetches the rest of a representation for it
abbrev pub IsForIt : Observed → Operation → Type 0
IsForIt x op = (op ≡ Registering x.number x.path) ⊎ (op ≡ Fetching x.number)

module _ (config : Config) where
  -- a request that is served is one that the client sent for this observation, and asks for its path
  pub record IsRequestOfIt (x : Observed) (older : List Entry) (s : Serving) : Type 0 where
    pub sending : Sending
    pub sent : WasSent config.client_sizes sending (client_of older)
    pub for_it : IsForIt x sending.operation
    pub token_is : sending.token ≡ s.asked.token
    pub options_are : s.question.options ≡ recognised Request sending.request.options
    pub path_is : s.question.path ≡ x.path

  -- each that is served from the client's address is
  abbrev pub RequestsAreOfIt : Observed → List Entry → Type 0
  RequestsAreOfIt x all = (newer older : List Entry) (c : S.Call) (s : Serving) → all ≡ newer ++ OfServer c ∷ older
      → serving (own_of config.limits config.server_szx (server_trace config older)) c ≡ Some s
      → s.asked.from ≡ config.addresses.client → IsRequestOfIt x older s

  -- it is heard as the answer to the registration that runs, or noted under the token of the observation that is live
  abbrev pub IsTakenIn : Observed → Message → List C.Call → C.Call → Type 0
  IsTakenIn x m t d =
      (((clients.own_of config.client_sizes t).running ≡ Some (Registering x.number x.path)) × (hears d ≡ Some m))
      ⊎ (IsLive config.client_sizes x.number x.path m.token t × (notes d ≡ Some m))

  -- While the observation goes on, each CON and each NON is taken in that comes under the token of its registration, if
  -- each critical option of it is recognised (RFC 7252, section 5.4.1).
  abbrev pub ResponsesAreTakenIn : Observed → List Entry → Type 0
  ResponsesAreTakenIn x all =
      (newer older : List Entry) (d : C.Call) (m : Message) (since : ℕ) → all ≡ newer ++ OfClient d ∷ older
      → Watches config x.number older → IsFed config.addresses m since d → (m.kind ≡ Con) ⊎ (m.kind ≡ Non)
      → WasRegistered config.client_sizes x.number m.token (client_of older)
      → lacks_critical Response m.options ≡ false → IsTakenIn x m (client_of older) d

  -- a notification comes, and is taken in where it does
  pub record NoticeIsTaken (x : Observed) (n : Notice) (newer older : List Entry) (c : S.Call) : Type 0 where
    pub comes : NoticeComes config n newer older c
    pub taken : IsTakenIn x (notice_message config comes.kind comes.id older n)
        (client_of (comes.between ++ OfServer c ∷ older)) comes.call

  -- so each to the client that was sent more than 1,000 ms before an event, where the observation goes on until then
  abbrev pub NoticesAreTaken : Observed → List Turn → Turn → Type 0
  NoticesAreTaken x past turn = Watches config x.number (entries_of past)
      → (newer older : List Entry) (c : S.Call) (n : Notice) → entries_of past ≡ newer ++ OfServer c ∷ older
      → notice c ≡ Some n → n.observer.to ≡ config.addresses.client
      → server_moment config older c + max_age < turn.event.at
      → NoticeIsTaken x n newer older c

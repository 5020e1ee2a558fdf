-- What a smooth run says of the notifications of an observation: each comes to the client within 1,000 ms, behind its
-- sending, and is heard or noted there (RFC 7641, sections 3.2 and 4.5).
use Rattle.std.specs.Prelude.{◌≡◌, ◌⊎◌, ◌≤◌, ◌<◌, ℕ, ◌+◌, Bool, Option, Some, Result, List, ◌∷◌, ◌++◌}
use Rattle.coap_types.specs.Past.{Always}
use Rattle.coap_types.specs.declared.message.Kind.{Kind}
use Rattle.coap_types.specs.declared.message.Kind.TheVariants.{Con, Non}
use Rattle.coap_codec.specs.Message.{Message}
use Rattle.coap_layer.specs.Trace as L
use Rattle.coap_layer.specs.Trace.{with_head}
use Rattle.coap_exchange.specs.AnswererSteps.{content_with}
use Rattle.coap_exchange.specs.declared.asker.AskRefusal.{AskRefusal}
use Rattle.coap_exchange.specs.declared.asker.Event.{Event}
use Rattle.coap_client_laws.specs.Follows.Notified.{WasRegistered}
use Rattle.coap_client_laws.specs.Follows.OfObservations.{Observed}
use Rattle.coap_client.specs.Trace as C
use Rattle.coap_server.specs.Follows.Observes.{Notice, notice}
use Rattle.coap_server.specs.Law.{own_of}
use Rattle.coap_server.specs.Notifying.{notification}
use Rattle.coap_server.specs.Trace as S
use Rattle.coap_record.specs.Events.{Config}
use Rattle.coap_record.specs.Record.{Entry, OfClient, OfServer, Turn, entries_of, client_of, server_trace}
use Rattle.coap_smooth.specs.Smooth.{max_age}
use Rattle.coap_record.specs.declared.addresses.Addresses.{Addresses}

-- the client is fed this response of the server, which its message layer hands up, at most 1,000 ms behind that moment
pub record IsFed (addresses : Addresses) (m : Message) (since : ℕ) (c : C.Call) : Type 0 where
  pub now : ℕ
  pub bytes : List ℕ
  pub word : ℕ
  pub settled : Bool
  pub event : Option Event
  pub sent : L.Answer
  pub token : Result (List ℕ) AskRefusal
  pub kept : Bool
  pub is : c ≡ C.Feeds now addresses.server bytes word (L.Becomes (L.Response m)) settled event sent token kept
  pub from : since ≤ now
  pub till : now ≤ since + max_age

module _ (config : Config) where
  -- when a call of the server is, behind these entries
  abbrev pub server_moment : List Entry → S.Call → ℕ
  server_moment older c = (own_of config.limits config.server_szx (c ∷ server_trace config older)).clock

  -- a notification as a message, of this type and with this Message ID
  abbrev pub notice_message : Kind → ℕ → List Entry → Notice → Message
  notice_message kind id older n =
      with_head kind id (content_with n.observer.token
      (notification (own_of config.limits config.server_szx (server_trace config older)).store n.observer n.reply))

  -- It comes to the client, in a CON or in a NON, behind the call of the server that sends it.
  pub record NoticeComes (n : Notice) (newer older : List Entry) (c : S.Call) : Type 0 where
    pub kind : Kind
    pub kind_is : (kind ≡ Con) ⊎ (kind ≡ Non)
    pub id : ℕ
    pub newest : List Entry
    pub call : C.Call
    pub between : List Entry
    pub split : newer ≡ newest ++ OfClient call ∷ between
    pub fed : IsFed config.addresses (notice_message kind id older n) (server_moment older c) call

  -- so each that was sent more than 1,000 ms before an event
  abbrev pub NoticesCome : List Turn → Turn → Type 0
  NoticesCome past turn =
      (newer older : List Entry) (c : S.Call) (n : Notice) → entries_of past ≡ newer ++ OfServer c ∷ older
      → notice c ≡ Some n → n.observer.to ≡ config.addresses.client → server_moment older c + max_age < turn.event.at
      → NoticeComes n newer older c

  abbrev pub AllNoticesCome : List Turn → Type 0
  AllNoticesCome turns = Always NoticesCome turns

  -- a notification to the client is of this observation, under the token of its registration
  pub record IsOfIt (x : Observed) (older : List Entry) (n : Notice) : Type 0 where
    pub to_is : n.observer.to ≡ config.addresses.client
    pub path_is : n.observer.path ≡ x.path
    pub registered : WasRegistered config.client_sizes x.number n.observer.token (client_of older)

  -- no other is told
  abbrev pub NoticesGoToClient : List Entry → Type 0
  NoticesGoToClient all = (newer older : List Entry) (c : S.Call) (n : Notice) → all ≡ newer ++ OfServer c ∷ older
      → notice c ≡ Some n → n.observer.to ≡ config.addresses.client

  -- each to the client is so (strangers may be told of anything)
  abbrev pub NoticesAreOfIt : Observed → List Entry → Type 0
  NoticesAreOfIt x all = (newer older : List Entry) (c : S.Call) (n : Notice) → all ≡ newer ++ OfServer c ∷ older
      → notice c ≡ Some n → n.observer.to ≡ config.addresses.client → IsOfIt x older n

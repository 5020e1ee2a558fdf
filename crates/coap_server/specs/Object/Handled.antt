-- What is done with a request, from the moment when it was handed up (RFC 7252, section 5.2).
use Rattle.std.specs.Prelude.{◌≡◌, ℕ, Some, List}
use Rattle.coap_codec.specs.Message.{Message}
use Rattle.coap_layer.specs.Trace as L
use Rattle.coap_types.specs.declared.block.Block.{Block}
use Rattle.coap_block.specs.AssemblyState.{AssemblyState}
use Rattle.coap_block.specs.AssemblyStep.{after_block}
use Rattle.coap_observe.specs.Observers.{Observer}
use Rattle.coap_resource.specs.Content.{Content}
use Rattle.coap_resource.specs.Serves.{Question, Reply}
use Rattle.coap_resource.specs.Serves as R
use Rattle.coap_exchange.specs.declared.answerer.Asked.{Asked}
use Rattle.coap_exchange.specs.AnswererLaw as X
use Rattle.coap_exchange.specs.AnswererTrace as E
use Rattle.coap_server.specs.Trace.{Applied, Own, Handling, Serves}
use Rattle.coap_server.specs.Asks.{answering}
use Rattle.coap_server.specs.Uploads.{key_of, ruling_of}
use Rattle.coap_server.specs.Serving.{response_to, observers_served, applied_by}
use Rattle.coap_server.specs.Deferring.{HandlesWhole, waiting_with}
use Rattle.coap_server.specs.Handling.{HandlesBlock, HandlesCame}
use Rattle.coap_server.specs.Steps.{came_after, handled}
use Rattle.coap_server.specs.Led.{State, exchanges_of}

-- A request is served: what the response carries, what was applied, and what is left of the store and the observers.
pub record ServesRequest (store : Content) (observers : List Observer) (at : ℕ) (a : Asked) (q : Question)
    (response : E.Response) (applied : List Applied) (left : Content) (told : List Observer) : Type 0 where
  pub reply : Reply
  pub serves : R.Serves store at q reply left
  pub response_is : response ≡ response_to store observers a q reply
  pub applied_is : applied ≡ applied_by store a q reply left
  pub observers_is : told ≡ observers_served at store a q reply left observers

-- .. at once, and answered.
pub record ServesNow (own : Own) (under : X.State) (a : Asked) (q : Question) (new : State) : Type 0 where
  pub reply : Reply
  pub left : Content
  pub below : L.Answer
  pub serves : R.Serves own.store own.clock q reply left
  pub step : X.Step under (E.Answers a (response_to own.store own.observers a q reply) below) (exchanges_of new)
  pub own_is : new.own ≡ record (handled own (Some a) (Serves q reply left)) { exchanges = new.own.exchanges }

-- What is done with a request that was handed up: what becomes of it, what is asked of the exchanges, and what is left.
pub record IsHandled (s : State) (a : Asked) (m : Message) (new : State) : Type 0 where
  pub handling : Handling
  pub below : L.Answer
  pub right : HandlesCame s.own (Some (a, m)) handling
  pub asks : X.Exchanged (exchanges_of s) (answering s.own (Some (a, m)) handling below) (exchanges_of new)
  pub left : new.own ≡ came_after s.own (Some (a, m)) handling (answering s.own (Some (a, m)) handling below)

-- What is done with a request whose body is whole, and with one that uploads a block: whatever message it came in.
pub record IsAsked (P : Handling → Type 0) (s : State) (a : Asked) (uploads : AssemblyState)
    (new : State) : Type 0 where
  pub handling : Handling
  pub below : L.Answer
  pub right : P handling
  pub asks : (m : Message) → X.Exchanged (exchanges_of s) (answering s.own (Some (a, m)) handling below)
      (exchanges_of new)
  pub left :
      new.own
      ≡ record (handled s.own (Some a) handling) {
        exchanges = new.own.exchanges;
        uploads = uploads;
        waiting = waiting_with s.own.clock a handling s.own.waiting;
      }

abbrev pub IsWhole : State → Asked → Question → State → Type 0
IsWhole s a q new = IsAsked (HandlesWhole s.own a q) s a s.own.uploads new

abbrev pub IsUploaded : State → Asked → Question → Block → State → Type 0
IsUploaded s a q b new =
    IsAsked (HandlesBlock (ruling_of s.own.uploads s.own.clock a q b) s.own a q b) s a
    (after_block s.own.uploads s.own.clock (key_of a q) b q.body) new

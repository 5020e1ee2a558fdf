-- Which notification it is that the client takes: one that the server made before, for it, under that token (RFC 7641,
-- section 3.2).
use Rattle.std.specs.Prelude.{◌≡◌, Some, List}
use Rattle.coap_types.specs.Past.{Sometime, Always}
use Rattle.coap_codec.specs.Message.{Message}
use Rattle.coap_client_laws.specs.Follows.Notified.{notes}
use Rattle.coap_promise.specs.Answers.{AnswersAt}
use Rattle.coap_record.specs.Events.{Config}
use Rattle.coap_record.specs.Record.{Entry, OfClient, OfServer}

module _ (config : Config) where
  abbrev pub NotesAt : Message → Entry → Type 0
  NotesAt m (OfClient c) = notes c ≡ Some m
  NotesAt m (OfServer c) = ⊥

  -- Each response that comes under the token of an observation, behind the answer to its registration, was made by the
  -- server before.
  abbrev pub AllNoticed : List Entry → Type 0
  AllNoticed all = Always (λ past e. (m : Message) → NotesAt m e → Sometime (AnswersAt config m) past) all

-- What a client takes as a notification the server made before, for it, under that token.
use Rattle.std.proofs.Common.{◌≡◌, Some, List, [], ◌∷◌}
use Rattle.coap_types.specs.Past.{Sometime}
use Rattle.coap_codec.specs.Message.{Message}
use Rattle.coap_client_laws.specs.Follows.Notified.{notes}
use Rattle.coap_client.specs.Trace as C
use Rattle.coap_client_laws.proofs.Facts.EachCall.{are_noted}
use Rattle.coap_promise.specs.Answers.{AnswersAt}
use Rattle.coap_record.specs.Events.{Config}
use Rattle.coap_record.specs.Record.{Entry, OfClient, OfServer, client_of}
use Rattle.coap_promise.proofs.Facts.Reports.Answered.{came_answered}
use Rattle.coap_promise.proofs.Any.Requests.OfACall.{Lawful, lawful_back}
use Rattle.coap_promise.specs.Noticed.{AllNoticed}

module _ (config : Config) where
  pub noticed : (past : List Entry) (c : C.Call) → Lawful config (OfClient c ∷ past) → (m : Message) → notes c ≡ Some m
      → Sometime (AnswersAt config m) past
  noticed past c law m is = came_answered config past c law m
      ((are_noted config.addresses.server config.client_sizes config.client_setup (client_of (OfClient c ∷ past))
      law.client).0 m is)

  pub all_noticed : (all : List Entry) → Lawful config all → AllNoticed config all
  all_noticed [] law = tt
  all_noticed (OfClient c ∷ past) law = (
    λ m h. noticed past c law m h,
    all_noticed past (lawful_back config past (OfClient c) law),
  )
  all_noticed (OfServer c ∷ past) law = (λ m h. absurd h, all_noticed past (lawful_back config past (OfServer c) law))

-- For which call a record says that a request is applied (RFC 7252, section 5.3.1).
use Rattle.std.specs.Prelude.{◌≡◌, ◌↔◌, ℕ, true, Option, Some, List}
use Rattle.coap_types.specs.Past.{Always}
use Rattle.coap_server.specs.Serving.{is_applied}
use Rattle.coap_server.specs.Follows.Serves.{Serving}
use Rattle.coap_record.specs.Events.{Config}
use Rattle.coap_record.specs.Record.{Entry, client_of}
use Rattle.coap_promise.specs.Words.{SentFor, ServesAt}
use Rattle.coap_run.specs.Run.Log.{applied_as, call_for}
use Rattle.coap_run.specs.Run.Senders.{sender_of}

module _ (config : Config) where
  -- the call that is named in the line of a request that is applied
  abbrev pub named : Serving → List Entry → Option ℕ
  named x past = call_for config.addresses (λ token. sender_of config.client_sizes token (client_of past))
      (applied_as x)

  -- A call is named exactly where the request belongs to it: the client sent its token for that call, here or anywhere.
  abbrev pub EachNamed : List Entry → Type 0
  EachNamed all =
      Always
      (λ past e. (x : Serving) → ServesAt config x past e → is_applied x.reply.code ≡ true → (number : ℕ)
      → (named x past ≡ Some number) ↔ ((x.asked.from ≡ config.addresses.client)
      × SentFor config number x.asked.token all))
      all

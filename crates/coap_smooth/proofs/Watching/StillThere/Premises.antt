-- What is served of one observation that runs alone, and what is taken in of it while it goes on, at each position of a
-- run (RFC 7641, sections 3.1 and 3.2).
use Rattle.std.proofs.Common.{◌≡◌, ◌⊎◌, inl, inr, ℕ, false, Some, List, [], ◌∷◌, ◌++◌, refl, ap, sym, subst, ◌∙◌}
use Rattle.std.proofs.Common.{append_assoc}
use Rattle.coap_types.specs.Past.{Always}
use Rattle.coap_types.specs.Recognised.{lacks_critical}
use Rattle.coap_types.specs.declared.direction.Direction.TheVariants.{Response}
use Rattle.coap_types.specs.declared.endpoint.Endpoint.{Endpoint}
use Rattle.coap_types.specs.declared.message.Kind.TheVariants.{Con, Non}
use Rattle.coap_layer.specs.declared.setup.Setup.{Setup}
use Rattle.coap_block.specs.Sizes.{Sizes}
use Rattle.coap_codec.specs.Message.{Message}
use Rattle.coap_client_laws.specs.Follows.Noticed.{NoticesAreHeard}
use Rattle.coap_client_laws.specs.Follows.Notified.{notes, WasRegistered}
use Rattle.coap_client_laws.specs.Follows.OfObservations.{Observed}
use Rattle.coap_client_laws.specs.Follows.Open.{AnswersAreHeard}
use Rattle.coap_client.specs.Sendings.{hears}
use Rattle.coap_client.specs.Law.{ClientLaw}
use Rattle.coap_client.specs.Trace as C
use Rattle.coap_server.specs.Follows.Serves.{Serving}
use Rattle.coap_smooth.specs.Current.{Watches, Alone}
use Rattle.coap_record.specs.Events.{Config}
use Rattle.coap_smooth.specs.NoticesCome.{IsFed}
use Rattle.coap_smooth.specs.NoticesTaken.{IsRequestOfIt, IsTakenIn, RequestsAreOfIt}
use Rattle.coap_record.specs.Record.{Entry, OfClient, OfServer, Turn, entries_of, client_of}
use Rattle.coap_promise.specs.Words.{ServesAt}
use Rattle.coap_smooth.proofs.Smoothly.Answers.ConsOfOpen.{calls_before}
use Rattle.coap_smooth.proofs.Smoothly.Ticks.NothingIsLeft.{Stands, before}
use Rattle.coap_smooth.proofs.Watching.Values.SmoothBefore.{watched_before}
use Rattle.coap_smooth.proofs.Watching.Requests.TakenIn.{responses_are_taken}

module _ (config : Config) (x : Observed) where
  -- each request that is served for the client's address is of the observation
  abbrev pub AreServedFor : List Entry → Type 0
  AreServedFor all = Always (λ older e. (s : Serving) → ServesAt config s older e → s.asked.from
      ≡ config.addresses.client
      → IsRequestOfIt config x older s) all

  -- a CON or a NON that is fed under the token of the registration is heard or noted, where each critical option of it
  -- is recognised
  abbrev pub IsHeard : List Entry → Type 0
  IsHeard all =
      (newer older : List Entry) (d : C.Call) (m : Message) (since : ℕ) → all ≡ newer ++ OfClient d ∷ older
      → IsFed config.addresses m since d → (m.kind ≡ Con) ⊎ (m.kind ≡ Non)
      → WasRegistered config.client_sizes x.number m.token (client_of older)
      → lacks_critical Response m.options ≡ false → (hears d ≡ Some m) ⊎ (notes d ≡ Some m)

  -- .. while the observation goes on
  abbrev pub AreHeard : List Turn → Type 0
  AreHeard turns = Always (λ past turn. Watches config x.number (entries_of past) → IsHeard (entries_of past)) turns

  pub served_for : (all : List Entry) → RequestsAreOfIt config x all → AreServedFor all
  served_for [] requests = tt
  served_for (OfServer c ∷ past) requests = (
    λ s here from. requests [] past c s refl here from,
    served_for past (λ newer older d s split here from. requests (OfServer c ∷ newer) older d s
        (ap (λ l. OfServer c ∷ l) split) here from),
  )
  served_for (OfClient c ∷ past) requests = (
    λ s here from. absurd here,
    served_for past (λ newer older d s split here from. requests (OfClient c ∷ newer) older d s
        (ap (λ l. OfClient c ∷ l) split) here from),
  )

  module _ (answers : (server : Endpoint) (sizes : Sizes) (setup : Setup) (t : List C.Call)
      → ClientLaw server sizes setup t
      → AnswersAreHeard server sizes setup t)
      (notices : (server : Endpoint) (sizes : Sizes) (setup : Setup) (t : List C.Call) → ClientLaw server sizes setup t
      → NoticesAreHeard server sizes setup t) where
    heard_in : (past : List Turn) → Stands config past → Alone x (client_of (entries_of past))
        → Watches config x.number (entries_of past) → IsHeard (entries_of past)
    heard_in past s alone watches newer older d m since split fed kind w understood =
        by (responses_are_taken config x answers notices past s alone newer older d m since split
        (watched_before config x.number (newer ++ OfClient d ∷ []) older
        (subst (Watches config x.number) (split ∙ sym (append_assoc newer (OfClient d ∷ []) older)) watches))
        fed kind w understood)
      where
        by : IsTakenIn config x m (client_of older) d → (hears d ≡ Some m) ⊎ (notes d ≡ Some m)
        by (inl k) = inl k.1
        by (inr k) = inr k.1

    pub heard_for : (turns : List Turn) → Stands config turns → Alone x (client_of (entries_of turns)) → AreHeard turns
    heard_for [] s alone = tt
    heard_for (turn ∷ past) s alone =
        let old = before config turn past s in
        let alone_there = calls_before _ turn.entries (entries_of past) alone in (
          λ watches. heard_in past old alone_there watches,
          heard_for past old alone_there,
        )

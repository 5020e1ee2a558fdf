-- What waits at a server is what its exchanges defer, and what they say is ready is served then (RFC 7252, section
-- 5.2.2).
use Rattle.std.specs.Prelude.{◌≡◌, ◌⊎◌, ℕ, Option, Some, None, List, ◌∷◌, map}
use Rattle.coap_types.specs.Past.{Ever, Always}
use Rattle.coap_resource.specs.Limits.{Limits}
use Rattle.coap_exchange.specs.declared.answerer.Asked.{Asked}
use Rattle.coap_exchange.specs.declared.answerer.Due.TheVariants as due
use Rattle.coap_exchange.specs.declared.separate.Deferred.{Deferred}
use Rattle.coap_exchange.specs.AnswererLaw as E
use Rattle.coap_server.specs.Trace.{Waiting, Call, Ticks}
use Rattle.coap_server.specs.Law.{own_of, lower_of}
use Rattle.coap_server.specs.Follows.Attended.{AnswersIt}
use Rattle.coap_server.specs.Follows.Serves.{Serving, forgets, serving}

abbrev pub deferred_as : Waiting → Deferred
deferred_as w = record { asked = w.asked; at = record { 0 = w.at }; delay = w.delay }

-- the request that the exchanges say is ready
abbrev pub ready_in : Call → Option Asked
ready_in (Ticks now word below room (due.Ready a) passed h id answer) = Some a
ready_in _ = None

module _ (limits : Limits) (szx : ℕ) where
  -- The same requests wait as are deferred, in the same order, since the same moments, by the same delays.
  abbrev pub WaitsAsDeferred : List Call → Type 0
  WaitsAsDeferred t = map deferred_as (own_of limits szx t).waiting ≡ (E.own_of (lower_of limits szx t)).deferred

  -- A request that is ready is served, at once.
  abbrev pub ReadyAreServed : List Call → Type 0
  ReadyAreServed t = Always (λ past c. (a : Asked) → ready_in c ≡ Some a
      → (x : Serving) × (serving (own_of limits szx past) c ≡ Some x) × (x.asked ≡ a)) t

  -- it waits after these calls
  abbrev pub WaitsStill : Waiting → List Call → Type 0
  WaitsStill x t = Ever (λ y. y ≡ x) (own_of limits szx t).waiting

  -- What waits goes on waiting until a call sends its response, or forgets its peer.
  abbrev pub WaitOn : List Call → Type 0
  WaitOn t = Always (λ past c. (x : Waiting) → WaitsStill x past
      → WaitsStill x (c ∷ past) ⊎ (AnswersIt limits szx past c x.asked ⊎ (forgets c ≡ Some x.asked.from))) t

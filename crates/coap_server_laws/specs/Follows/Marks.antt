-- What a change of a path marks, and how long a mark stays (RFC 7641, section 4.2).
use Rattle.std.specs.Prelude.{◌≡◌, ◌⊎◌, ℕ, true, Some, List, ◌∷◌}
use Rattle.coap_types.specs.Past.{Always}
use Rattle.coap_types.specs.declared.endpoint.Endpoint.{Endpoint}
use Rattle.coap_observe.specs.Observers.{Observer, changed_at, registration}
use Rattle.coap_resource.specs.Limits.{Limits}
use Rattle.coap_server.specs.Trace.{Call}
use Rattle.coap_server.specs.Law.{own_of}
use Rattle.coap_server.specs.Follows.Holds.{Change, change}
use Rattle.coap_server.specs.Follows.Observes.{Ends, Notice, notice}
use Rattle.coap_server.specs.Follows.Tells.{registering}

module _ (limits : Limits) (szx : ℕ) where
  -- A change of a path, by a request that is served or a local one, marks each observer of it, with its moment, and
  -- leaves all else of the observers as it was.
  abbrev pub AllMark : List Call → Type 0
  AllMark t = Always (λ past c. (x : Change) → change (own_of limits szx past) c ≡ Some x
      → (own_of limits szx (c ∷ past)).observers
      ≡ changed_at (own_of limits szx (c ∷ past)).clock x.path (own_of limits szx past).observers) t

  -- a notification is due to the observer of this endpoint and token
  pub record IsDue (to : Endpoint) (token : List ℕ) (t : List Call) : Type 0 where
    pub observer : Observer
    pub there : registration to token (own_of limits szx t).observers ≡ Some observer
    pub marked : observer.marked ≡ true

  -- The call notifies it, makes its registration anew, or ends its observation.
  pub data TakesMark (to : Endpoint) (token : List ℕ) (past : List Call) (c : Call) : Type 0 where
    notifies : (x : Notice) → notice c ≡ Some x → x.observer.to ≡ to → x.observer.token ≡ token
        → TakesMark to token past c
    renews : registering (own_of limits szx past) c ≡ Some (record { to = to; token = token })
        → TakesMark to token past c
    ends : Ends limits szx to token past c → TakesMark to token past c

  -- What is due stays due until then.
  abbrev pub StayDue : List Call → Type 0
  StayDue t = Always (λ past c. (to : Endpoint) (token : List ℕ) → IsDue to token past
      → IsDue to token (c ∷ past) ⊎ TakesMark to token past c) t

-- What is applied for a call of a client of many is applied whole.
use Rattle.std.proofs.Common.{◌≡◌, ◌+◌, ℕ, false, List, ◌∷◌, sym, ap, subst, ◌∙◌}
use Rattle.coap_types.specs.Past.{Always}
use Rattle.coap_resource.specs.RequestOptions.{precondition_fails}
use Rattle.coap_client.specs.Trace.{Request}
use Rattle.coap_server.specs.Follows.Holds.{changes}
use Rattle.coap_many.proofs.Promises.{Promises}
use Rattle.coap_promise.specs.Applied.{IsWhole, Does, conditions_of}
use Rattle.coap_promise.specs.Words as W
use Rattle.coap_many.specs.Clients.{Client, Config, world_of}
use Rattle.coap_many.specs.Entries.{Entry, OfServer}
use Rattle.coap_many.specs.View.{view_entries}
use Rattle.coap_many.specs.Words.{WasCalled, AppliesFor, holds_at, changes_in}
use Rattle.coap_many.proofs.Positions.{always_up}
use Rattle.coap_many.proofs.Told.{trace_is, holds_is, called_up, applies_down}

module _ (config : Config) (k : Client) (m : ℕ) (all : List Entry) where
  pub record WholeAt (past : List Entry) (e : Entry) : Type 0 where
    pub request : Request
    pub called : WasCalled k m request past
    pub conditions : precondition_fails (holds_at config request.path past) (conditions_of request) ≡ false
    pub does : Does request.method request request.body (changes_in config past + 1) (holds_at config request.path past)
        (holds_at config request.path (e ∷ past))

  abbrev pub Law : List Entry → Entry → Type 0
  Law past e = AppliesFor config k m all past e → WholeAt past e

  pub wholes : Promises (world_of config k) (view_entries k.at all) → Always Law all
  wholes agrees = always_up k.at
      (λ past e. (a : W.AppliesFor (world_of config k) m (view_entries k.at all) past e)
      → IsWhole (world_of config k) m past e a.request) Law
      (λ past c f a. absurd a.here)
      (λ past c f a.
      let w = f (applies_down config k m all past c a) in
      let r = w.request in
      record {
        request = r;
        called = called_up config k m r past w.called;
        conditions = ap (λ o. precondition_fails o (conditions_of r)) (sym (holds_is config k r.path past))
            ∙ w.conditions;
        does = subst (λ o. Does r.method r r.body (changes_in config past + 1) (holds_at config r.path past) o)
            (holds_is config k r.path (OfServer c ∷ past))
            (subst (λ o. Does r.method r r.body (changes_in config past + 1) o
            (W.holds_at (world_of config k) r.path (view_entries k.at (OfServer c ∷ past))))
            (holds_is config k r.path past)
            (subst (λ n. Does r.method r r.body (n + 1) (W.holds_at (world_of config k) r.path
            (view_entries k.at past)) (W.holds_at (world_of config k) r.path
            (view_entries k.at (OfServer c ∷ past))))
            (ap (changes config.limits config.szx) (trace_is config k past)) w.does));
      })
      (λ past who c not a. absurd a.here) all (agrees.applied_whole m)

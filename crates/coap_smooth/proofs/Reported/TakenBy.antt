-- The turn in which a call is taken is that of the call alone.
use Rattle.std.proofs.Common.{◌≡◌, inl, inr, ⊎_elim, ℕ, Bool, true, false, Some, None, List, [], ◌∷◌, ◌++◌}
use Rattle.std.proofs.Common.{map, refl, ap, sym, subst, ◌∙◌, Result, Ok, Err}
use Rattle.coap_types.specs.Past.{Ever, Always}
use Rattle.coap_types.proofs.Facts.Traces.{Ever_append}
use Rattle.coap_client.specs.Sendings.{Taken, takes}
use Rattle.coap_client.specs.Trace as C
use Rattle.coap_client.specs.declared.refusals.CallRefusal.{CallRefusal}
use Rattle.coap_server.specs.Trace as S
use Rattle.coap_record.specs.Events.{What, Calls, Observes, Cancels, Forgets, TickClient, Deliver}
use Rattle.coap_record.specs.Events.{StrangerToClient}
use Rattle.coap_record.specs.Record.{Entry, OfClient, OfServer, Turn, IsOne, OnClient, OnServer, ClientTick, Makes}
use Rattle.coap_record.specs.Record.{client_of}
use Rattle.coap_promise.proofs.Facts.Delivery.ClientTurns.{turn_calls}
use Rattle.coap_promise.proofs.Facts.Delivery.EntriesInTime.{Every}
use Rattle.coap_promise.proofs.Facts.Delivery.OneEndATurn.{each_one, each_tick}
use Rattle.coap_promise.proofs.Facts.Delivery.ServerTurns.{turn_calls as server_turn_calls}
use Rattle.coap_smooth.proofs.Reported.TickOpens.{IsTaking, behind}
use Rattle.coap_record.specs.declared.addresses.Addresses.{Addresses}

pub record CallAlone (x : Taken) (at : ℕ) (calls : List C.Call) : Type 0 where
  pub later : List C.Call
  pub is : calls ≡ later ++ C.Calls at x.request (Ok x.number) ∷ []
  pub taking : Always (λ past c. IsTaking c) later

of_client : (cs : List C.Call) → client_of (map OfClient cs) ≡ cs
of_client [] = refl
of_client (c ∷ cs) = ap (λ t. c ∷ t) (of_client cs)

of_server : (cs : List S.Call) → client_of (map OfServer cs) ≡ []
of_server [] = refl
of_server (c ∷ cs) = of_server cs

abbrev Takes : Taken → C.Call → Type 0
Takes x c = takes c ≡ Some x

abbrev TakesNone : C.Call → Type 0
TakesNone c = takes c ≡ None

none_takes : (x : Taken) (cs : List C.Call) → Every TakesNone cs → Ever (Takes x) cs → ⊥
none_takes x [] none h = h
none_takes x (c ∷ cs) none (inl h) = let k = sym none.0 ∙ h in cc k
none_takes x (c ∷ cs) none (inr h) = none_takes x cs none.1 h

taking_none : (cs : List C.Call) → Always (λ past c. IsTaking c) cs → Every TakesNone cs
taking_none [] h = tt
taking_none (C.NextOut answer ∷ cs) h = (refl, taking_none cs h.1)
taking_none (C.NextReport answer ∷ cs) h = (refl, taking_none cs h.1)
taking_none (_ ∷ cs) h = absurd h.0

module _ (addresses : Addresses) (x : Taken) (at word : ℕ) (entries : List Entry) where
  -- it is one of the calls of the turn
  among : (calls : List C.Call) (on : OnClient calls entries) → Ever (Takes x) (client_of entries)
      → (client_of entries ≡ (behind on.outs on.reports calls).later ++ calls) × Ever (Takes x) calls
  among calls on h =
      let b = behind on.outs on.reports calls in
      let is : client_of entries ≡ b.later ++ calls =
      ap client_of on.is ∙ (of_client (turn_calls on.outs on.reports calls) ∙ b.is) in (
        is,
        ⊎_elim (λ l. absurd (none_takes x b.later (taking_none b.later b.taking) l)) (λ r. r)
            (Ever_append (Takes x) b.later calls (subst (Ever (Takes x)) is h)),
      )

  none : (calls : List C.Call) → OnClient calls entries → Every TakesNone calls → Ever (Takes x) (client_of entries)
      → CallAlone x at (client_of entries)
  none calls on h e = absurd (none_takes x calls h (among calls on e).1)

  no_client : (calls : List S.Call) → OnServer calls entries → Ever (Takes x) (client_of entries)
      → CallAlone x at (client_of entries)
  no_client calls on e =
      absurd (subst (Ever (Takes x)) (ap client_of on.is ∙ of_server (server_turn_calls on.outs calls)) e)

  here : (r : C.Request) (answer : Result ℕ CallRefusal) → Takes x (C.Calls at r answer)
      → C.Calls at r answer ≡ C.Calls at x.request (Ok x.number)
  here r (Ok number) h =
      let same : ◌≡◌ {A = Taken} (record { number = number; request = r }) x = cc h in
      ap (λ (z : Taken). C.Calls at z.request (Ok z.number)) same
  here r (Err why) h = absurd (cc h)

  one : (r : C.Request) (refused : Bool) (calls : List C.Call)
      → IsOne (λ c. (answer : _) × (c ≡ C.Calls at r answer)) refused calls → Ever (Takes x) calls
      → calls ≡ C.Calls at x.request (Ok x.number) ∷ []
  one r true calls is h = absurd (subst (Ever (Takes x)) is h)
  one r false calls is h =
      elim (subst (Ever (Takes x)) is.2 h) [
        | inl k ↦ is.2 ∙ ap (λ c. c ∷ []) (is.1.1 ∙ here r is.1.0 (subst (Takes x) is.1.1 k))
        | inr k ↦ absurd k
      ]

  module _ (past : List Turn) (refused : Bool) where
    pub taken_by : (what : What) → Makes addresses past at word what refused entries
        → Ever (Takes x) (client_of entries)
        → CallAlone x at (client_of entries)
    taken_by (Calls r) m h =
        let a = among m.0 m.2 h in
        let b = behind m.2.outs m.2.reports m.0 in
        record {
          later = b.later;
          is = a.0 ∙ ap (λ l. b.later ++ l) (one r refused m.0 m.1 a.1);
          taking = b.taking;
        }
    taken_by (Observes path) m h =
        none m.0 m.2 (each_one _ TakesNone (λ c e. subst TakesNone (sym e.1) refl) refused m.0 m.1) h
    taken_by (Cancels number) m h =
        none m.0 m.2 (each_one _ TakesNone (λ c e. subst TakesNone (sym e.1) refl) false m.0 m.1.0) h
    taken_by (Forgets number) m h =
        none m.0 m.2 (each_one _ TakesNone (λ c e. subst TakesNone (sym e.2) refl) false m.0 m.1.0) h
    taken_by TickClient m h =
        none m.0 m.2 (each_tick (ClientTick at word) TakesNone (λ b c e. subst TakesNone (sym e.5) refl) refused m.0
        m.1) h
    taken_by (StrangerToClient from bytes) m h =
        none m.0 m.2 (each_one _ TakesNone (λ c e. subst TakesNone (sym e.6) refl) refused m.0 m.1) h
    taken_by (Deliver number) m h = elim m.2 [
      | inl d ↦ no_client d.1 d.3 h
      | inr d ↦ none d.1 d.3 (each_one _ TakesNone (λ c e. subst TakesNone (sym e.6) refl) refused d.1 d.2) h
    ]
    taken_by _ m h = no_client m.0 m.2 h

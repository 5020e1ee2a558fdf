-- A tick that does nothing leaves who observes, what waits and what is outstanding as it was.
use Rattle.std.proofs.Common.{◌≡◌, inl, inr, ℕ, zero, suc, max, Bool, true, false, List, [], ◌∷◌, ◌++◌, refl, sym}
use Rattle.std.proofs.Common.{subst}
use Rattle.coap_types.specs.Past.{Ever}
use Rattle.coap_types.specs.SameEndpoint.{same_endpoint}
use Rattle.coap_layer.specs.Machine.Steps.{Asked as Below}
use Rattle.coap_layer.specs.Trace as L
use Rattle.coap_layer.specs.Words.{Open}
use Rattle.coap_layer.specs.declared.setup.Setup.{Setup}
use Rattle.coap_observe.specs.Observers.{Observer}
use Rattle.coap_resource.specs.Limits.{Limits}
use Rattle.coap_exchange.specs.declared.answerer.Due.{Due}
use Rattle.coap_exchange.specs.declared.answerer.Due.TheVariants as due
use Rattle.coap_exchange.specs.AnswererLaw as W
use Rattle.coap_exchange.specs.AnswererTrace as E
use Rattle.coap_server.specs.Trace.{Own, Handling, Silent, Call, Ticks}
use Rattle.coap_server.specs.Notifying.{marked, readies}
use Rattle.coap_server.specs.Law.{ServerLaw, own_of, lower_of}
use Rattle.coap_server_laws.specs.Follows.Begins.{CanNotify}
use Rattle.coap_server_laws.specs.Follows.Leaves.{LeavesAll, AllLeave}
use Rattle.coap_server_laws.proofs.Answering.RoomAsked.{Quiet, quiet_room}
use Rattle.coap_server_laws.proofs.Answering.TickTurns.{nothing_left, quiet_first, was_idle}
use Rattle.coap_server.proofs.Facts.Exact.Asked.{joined}
use Rattle.coap_server.proofs.Facts.Serving.Brought.{server_back}
use Rattle.coap_server_laws.proofs.Answering.FirstAnswered.{each_map as each_so}

-- asking of whom may be notified sends and hears nothing
quiet_walk : (setup : Setup) (base : List Below) (at : ℕ) (more : List E.Call) → Quiet setup base at (W.lower_of more)
    → (n : ℕ) (os : List Observer) → Quiet setup base at (W.lower_of (readies at n os ++ more))
quiet_walk setup base at more q n [] = q
quiet_walk setup base at more q zero (o ∷ os) = quiet_room setup base at (W.lower_of more) q o.to true
quiet_walk setup base at more q (suc n) (o ∷ os) =
    let next : List E.Call = E.Ready at o.to false ∷ more in
    subst (λ cs. Quiet setup base at (W.lower_of cs)) (sym (joined (readies at n os) (E.Ready at o.to false) more))
    (quiet_walk setup base at next (quiet_room setup base at (W.lower_of more) q o.to false) n os)

module _ (limits : Limits) (szx : ℕ) (setup : Setup) (t : List Call) (now w : ℕ) where
  abbrev own : Own
  own = own_of limits szx t

  abbrev at : ℕ
  at = max own.clock now

  abbrev calls : List E.Call
  calls = lower_of limits szx t

  abbrev call : L.Answer → Bool → Due → ℕ → Handling → ℕ → Call
  call below room d passed h id = Ticks now w below room d passed h id false

  -- behind an idle layer
  silent : (room : Bool) (passed id : ℕ) → ServerLaw limits szx setup (call L.Idle room due.Idle passed Silent id ∷ t)
      → LeavesAll limits szx setup t (call L.Idle room due.Idle passed Silent id) now
  silent room passed id law =
      let c : Call = call L.Idle room due.Idle passed Silent id in
      let first : E.Call = E.Ticks at L.Idle room due.Idle in
      let quiet : Quiet setup (W.lower_of calls) at (W.lower_of (lower_of limits szx (c ∷ t))) =
      subst (λ cs. Quiet setup (W.lower_of calls) at (W.lower_of cs))
      (sym (joined (readies at passed (marked own.observers)) first calls))
      (quiet_walk setup (W.lower_of calls) at (first ∷ calls)
      (quiet_first limits szx setup t now w room due.Idle passed Silent id false law) passed (marked own.observers)) in
      record {
        observers = refl;
        waiting = refl;
        store = refl;
        cons = quiet.opens;
        nobody = elim (nothing_left limits szx setup t now w room passed id false law) [
          | inl held ↦ inl held
          | inr none ↦ inr (each_so (λ o. CanNotify limits szx setup t o → ⊥)
              (λ o. CanNotify limits szx setup (c ∷ t) o → ⊥)
              (λ o never can. never (record {
                due = can.due;
                alone = λ busy. can.alone (subst (λ cs. Ever (λ (x : Open). same_endpoint x.to o.to ≡ true) cs)
                    (sym quiet.opens) busy);
              })) own.observers none.1)
        ];
      }

  here : (below : L.Answer) (room : Bool) (d : Due) (passed : ℕ) (h : Handling) (id : ℕ)
      → ServerLaw limits szx setup (call below room d passed h id ∷ t)
      → LeavesAll limits szx setup t (call below room d passed h id) now
  here below room due.Idle passed Silent id law =
      let idle = was_idle limits szx setup t now w below room due.Idle passed Silent id false law refl in
      subst (λ u. LeavesAll limits szx setup t (call u room due.Idle passed Silent id) now) (sym idle)
      (silent room passed id (subst (λ u. ServerLaw limits szx setup (call u room due.Idle passed Silent id ∷ t)) idle
      law))
  here below room _ passed _ id law = let e = law.rows.0.1 in absurd (cc e)

pub all_leave : (limits : Limits) (szx : ℕ) (setup : Setup) (t : List Call) → ServerLaw limits szx setup t
    → AllLeave limits szx setup t
all_leave limits szx setup [] law = tt
all_leave limits szx setup (c ∷ t) law = (
  (λ now k. subst (λ b. LeavesAll limits szx setup t b now) (sym k.7)
      (here limits szx setup t now k.0 k.1 k.2 k.3 k.4 k.5 k.6
      (subst (λ b. ServerLaw limits szx setup (b ∷ t)) k.7 law))),
  all_leave limits szx setup t (server_back limits szx setup c t law),
)

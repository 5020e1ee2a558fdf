-- A name that is given, and a datagram that goes to one, are steps.
use Rattle.std.proofs.Common.{◌≡◌, ◌≢◌, ℕ, ◌-◌, ◌<◌, ◌≤◌, ◌+◌, inl, inr, Bool, true, cond, List, length, take}
use Rattle.std.proofs.Common.{Some, None, Result, Ok, Err, OnOk, OnErr, refl, ◌∙◌}
use Rattle.std.specs.Map.{lookup}
use Rattle.lru.specs.LruCache.{last_entry}
use Rattle.coap_types.specs.declared.endpoint.Endpoint.{Endpoint}
use Rattle.coap_types.specs.declared.transmission.TheConstants.{EXCHANGE_LIFETIME_MS as exchange_lifetime}
use Rattle.coap_types.specs.SameEndpoint.{same_endpoint}
use Rattle.coap_names.specs.declared.names.Idle.{Idle}
use Rattle.coap_names.specs.declared.names.NamesRefusal.{NamesRefusal}
use Rattle.coap_names.specs.declared.names.NamesRefusal.TheVariants as refusal
use Rattle.coap_names.specs.Trace.{Sent, Did}
use Rattle.coap_names.specs.Tables.{State, keyed, touched}
use Rattle.coap_names.specs.Steps.{Gives, Comes, Does, IsNew}
use Rattle.coap_names.specs.Led.{answer_as}

module _ {K : Type 0} (eq : K → K → Bool) where
  pub replaced : (old : State K) (at : ℕ) (key : K) (new : State K) → IsNew eq old key
      → old.setup.most ≤ length old.idle + length old.held
      → (gone : K × Idle) → last_entry old.idle ≡ Some gone → exchange_lifetime < at - gone.1.at.0
      → (r : Result Endpoint NamesRefusal)
      → OnOk r ((gone : K × Idle) → last_entry old.idle ≡ Some gone
      → Gives eq old at key (take (length old.idle - 1) old.idle)
      (λ n. cond (same_endpoint gone.1.name n) None (keyed old n)) (answer_as r) new)
      → OnErr r ((r ≡ Err refusal.Memory) × (new ≡ old)) → r ≢ Err refusal.Memory
      → Comes eq old at key (answer_as r) new
  replaced old at key new is_new full gone last over (Ok name) gives err not =
      inr (inl (record {
        is_new = is_new;
        full = full;
        gone = gone;
        last = last;
        over = over;
        gives = gives gone last;
      }))
  replaced old at key new is_new full gone last over (Err e) gives err not = absurd (not err.0)

  pub counts : (old : State K) (at : ℕ) (name : Endpoint) (key : K) (idle : List (K × Idle)) (new : State K)
      → keyed old name ≡ Some key
      → ((p : Idle) → lookup (eq key) old.idle ≡ Some p → idle ≡ touched (eq key) p.name at old.idle)
      → (lookup (eq key) old.idle ≡ None → idle ≡ old.idle) → new ≡ record old { clock = at; idle = idle }
      → Does eq old at (Sent name) (Did true) new
  counts old at name key idle new is entries none new_is = (elim (lookup (eq key) old.idle)
      as (λ o. lookup (eq key) old.idle ≡ o → Does eq old at (Sent name) (Did true) new) [
        | Some p ↦ λ h. inr (inl (
          key,
          record {
            keyed = is;
            told = p.name;
            touches = record {
              place = p;
              found = h;
              answer_is = refl;
              new_is = new_is ∙ (λ i. record old { clock = at; idle = entries p h i });
            };
            answer_is = refl;
          },
        ))
        | None ↦ λ h. inr (inr (
          (key, record { keyed = is; idle = h }),
          record { answer_is = refl; new_is = new_is ∙ (λ i. record old { clock = at; idle = none h i }) },
        ))
      ]) refl

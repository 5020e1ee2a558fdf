-- The first moment at which something holds, and at which a tick of the layer does a step.
use Rattle.std.proofs.Common.{◌≡◌, ◌≢◌, ℕ, ◌+◌, ◌/◌, ◌%◌, Bool, true, false, Option, Some, None, List, [], ◌∷◌}
use Rattle.std.proofs.Common.{refl, ◌||◌, ◌==◌, not, cond, slice_get, arith}
use Rattle.coap_types.specs.declared.transmission.TheConstants.{ID_REUSE_AFTER_MS as id_reuse_after}
use Rattle.coap_layer.specs.declared.message_id.TheConstants.{GROUP_SIZE as group_size}
use Rattle.coap_layer.proofs.ListLemmas.{lt_true, true_lt}
use Rattle.coap_types.specs.FirstMoment.{HoldsOn}
use Rattle.coap_layer.specs.Trace.{Idle, Copied, Expired}
use Rattle.coap_layer.specs.Words.{Open}
use Rattle.coap_layer.specs.Machine.State.{is_copy_due, is_failed, is_free, is_rested, tick_of}
use Rattle.coap_layer.specs.Machine.Waits.{any_has_step}

-- once a Message ID is free, it stays so
pub free_on : (upcoming : ℕ) (uses : List (Option ℕ)) → HoldsOn (λ now. is_free now upcoming uses)
free_on upcoming uses now later le =
    on (not (upcoming % group_size == 0)) (slice_get uses (upcoming / group_size))
  where
    on : (b : Bool) (group : Option (Option ℕ)) → (b || is_rested now group) ≡ true → (b || is_rested later group)
        ≡ true
    on true group h = refl
    on false (Some (Some last)) h = let less = lt_true (last + id_reuse_after) now h in
        true_lt (last + id_reuse_after) later (omega (arith, less, le))
    on false (Some None) h = refl
    on false None h = refl

-- a tick does nothing where none has a step
pub idle_is : (now : ℕ) (cs : List Open) → any_has_step now cs ≡ false → tick_of now cs ≡ Idle
idle_is now [] h = refl
idle_is now (c ∷ cs) h = go (is_failed now c) (is_copy_due now c) (any_has_step now cs) h (idle_is now cs)
  where
    go : (f d r : Bool) → ((f || d) || r) ≡ false → (r ≡ false → tick_of now cs ≡ Idle)
        → cond f (Expired c.to c.id) (cond d (Copied c.to c.id) (tick_of now cs)) ≡ Idle
    go false false false e k = k refl
    go true d r e k = absurd (cc e)
    go false true r e k = absurd (cc e)
    go false false true e k = absurd (cc e)

pub step_is : (now : ℕ) (cs : List Open) → any_has_step now cs ≡ true → tick_of now cs ≢ Idle
step_is now [] h = absurd (cc h)
step_is now (c ∷ cs) h = go (is_failed now c) (is_copy_due now c) (any_has_step now cs) h (step_is now cs)
  where
    go : (f d r : Bool) → ((f || d) || r) ≡ true → (r ≡ true → tick_of now cs ≢ Idle)
        → cond f (Expired c.to c.id) (cond d (Copied c.to c.id) (tick_of now cs)) ≢ Idle
    go true d r e k z = absurd (cc z)
    go false true r e k z = absurd (cc z)
    go false false r e k z = k e z

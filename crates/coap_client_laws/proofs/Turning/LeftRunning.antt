-- What runs, runs on or is over where nothing is sent.
use Rattle.std.proofs.Common.{◌≡◌, ◌⊎◌, inl, inr, ℕ, max, true, false, Some, None, List, ◌∷◌, refl, ap, sym, subst, ◌∙◌}
use Rattle.std.proofs.Common.{Result, Ok, Err}
use Rattle.coap_block.specs.Sizes.{Sizes}
use Rattle.coap_exchange.specs.declared.asker.AskRefusal.{AskRefusal}
use Rattle.coap_client.specs.Trace.{NoIds, Call, Calls, Observes, Cancels, Forgets, Feeds, Ticks}
use Rattle.coap_client.specs.Trace.{NextOut, NextReport, Asked}
use Rattle.coap_client.specs.Own.{Operation, Calling, Registering, Fetching, Cancelling, Dropped, Own}
use Rattle.coap_client.specs.Observations.{dropped}
use Rattle.coap_client.specs.Effects.{Asks, Effect, has_sent}
use Rattle.coap_client.specs.Events.{failed, happened, passes, closed}
use Rattle.coap_client.specs.Deeds.{at}
use Rattle.coap_client.specs.Law.{own_of}
use Rattle.coap_client.specs.Sendings.{sends, sent_by}
use Rattle.coap_client_laws.proofs.Queueing.Closing.{Closing, quiet, goes_out, is_refused}
use Rattle.coap_client_laws.proofs.Turning.Fates.{IsLone, dropped_lone}
use Rattle.coap_client_laws.proofs.Turning.BlockByBlock.{Runs, happened_runs, passes_runs}
use Rattle.coap_client_laws.proofs.Turning.Turns.{closing}

abbrev pub OnOrOver : Operation → Own → Type 0
OnOrOver op s = (s.running ≡ Some op) ⊎ (s.running ≡ None)

-- what is refused is over
failed_over : (s : Own) (op : Operation) → (failed has_sent NoIds s (Some op)).own.running ≡ None
failed_over s (Calling k r t) = refl
failed_over s _ = refl

module _ (op : Operation) (lone : IsLone op) (s : Own) (is : s.running ≡ Some op) (m : ℕ) (e : Effect)
    (runs : Runs s e) where
  quiet_on : ((o : Operation) → e.deed ≡ Asks o → ⊥) → OnOrOver op e.own
  quiet_on q = elim runs.running [
    | inl none ↦ inr none
    | inr a ↦ elim a [
      | inl d ↦ inl (d.1 ∙ (ap (dropped d.0) is ∙ dropped_lone d.0 op lone))
      | inr b ↦ elim b [
        | inl same ↦ inl (same ∙ is)
        | inr k ↦ absurd (q k.0 k.1)
      ]
    ]
  ]

  closed_on : (token : Result (List ℕ) AskRefusal) → sent_by e e.deed token ≡ None → Closing m e token
      → OnOrOver op (closed m e e.deed token).own
  closed_on token none (quiet q gone own_same report_same) = subst (OnOrOver op) (sym own_same) (quiet_on q)
  closed_on token none (goes_out o key asks given sends_it own_same report_same) = let k : None ≡ Some _ = sym none
      ∙ sends_it in absurd (cc k)
  closed_on token none (is_refused o why asks given gone all) =
      inr (ap (λ (z : Effect). z.own.running) all ∙ failed_over e.own o)

-- whatever the call is
pub left_running : (sizes : Sizes) (t : List Call) (c : Call) (op : Operation) → IsLone op
    → (own_of sizes t).running ≡ Some op
    → sends (own_of sizes t) c ≡ None → OnOrOver op (own_of sizes (c ∷ t))
left_running sizes t (Calls now r (Ok n)) op lone is none = inl is
left_running sizes t (Observes now path (Ok n)) op lone is none = inl is
left_running sizes t (Cancels now k None) op lone is none = inl is
left_running sizes t (Forgets k kept true) op lone is none = inl (ap (dropped k) is ∙ dropped_lone k op lone)
left_running sizes t (Feeds now from bytes w up settled event sent token kept) op lone is none =
    let m : ℕ = max (own_of sizes t).clock now in
    let s : Own = at now (own_of sizes t) in
    let e : Effect = happened s m event in
    closed_on op lone s is m e (happened_runs s m event) token none (closing m e token)
left_running sizes t (Ticks now w below turn sent token kept answer) op lone is none =
    let m : ℕ = max (own_of sizes t).clock now in
    let s : Own = at now (own_of sizes t) in
    let e : Effect = passes s m turn in
    closed_on op lone s is m e (passes_runs s m turn) token none (closing m e token)
left_running sizes t _ op lone is none = inl is

-- Where a call is taken and not reported, nothing is observed and no exchange is open, the client has something to do.
use Rattle.std.proofs.Common.{◌≡◌, inl, inr, ⊎_elim, ℕ, ◌+◌, max, nat_le, Bool, true, false, not, ◌||◌, ◌&&◌, Option}
use Rattle.std.proofs.Common.{Some, None, List, [], ◌∷◌, refl, ap, sym, subst, ◌∙◌, cond, Result}
use Rattle.coap_types.specs.declared.endpoint.Endpoint.{Endpoint}
use Rattle.coap_types.specs.declared.transmission.TheConstants.{MAX_LATENCY_MS as max_latency}
use Rattle.coap_block.specs.Sizes.{Sizes}
use Rattle.coap_layer.specs.Trace as L
use Rattle.coap_layer.specs.declared.setup.Setup.{Setup}
use Rattle.coap_exchange.specs.declared.asker.AskRefusal.{AskRefusal}
use Rattle.coap_exchange.specs.declared.asker.Turn.{Turn as Told}
use Rattle.coap_exchange.specs.declared.asker.Turn.TheVariants as told_as
use Rattle.coap_client.specs.Deeds.{at}
use Rattle.coap_client.specs.Effects.{stays, runs}
use Rattle.coap_client.specs.Events.{idle, starts, passes, closed, is_held, is_upload_op}
use Rattle.coap_client.specs.Law.{ClientLaw, own_of}
use Rattle.coap_client.specs.Observations.{to_fetch}
use Rattle.coap_client.specs.Own.{Operation, Own}
use Rattle.coap_client.specs.Sendings.{Taken, WasTaken, sends, sent_by}
use Rattle.coap_client.specs.Steps.{asks, is_idle, after}
use Rattle.coap_client.specs.Trace.{Call, Ticks}
use Rattle.coap_client_laws.specs.Follows.Answered.{AreAnswered, WaitsFor}
use Rattle.coap_client_laws.specs.Follows.Rests.{IsTick}
use Rattle.coap_client_laws.proofs.Facts.Exchanges.{open_runs}
use Rattle.coap_record.specs.Events.{Config}
use Rattle.coap_smooth.proofs.Reported.InTurn.{AreQuiet, IsReported, plain_of}
use Rattle.coap_smooth.proofs.Reported.OpenNow.{IsShut}

-- A tick that does nothing leaves the client as it is, but for its clock.
module _ (s : Own) (now : ℕ) where
  abbrev moment : ℕ
  moment = max s.clock now

  abbrev then : Own
  then = at now s

  by_hold : (op : Operation) (queue : List Operation) (b : Bool)
      → false ≡ asks (cond b (stays then) (runs op (record then { queue = queue }))).deed
      → cond b (stays then) (runs op (record then { queue = queue })) ≡ stays then
  by_hold op queue true right = refl
  by_hold op queue false right = absurd (cc right)

  by_queue : (ops : List Operation) → false ≡ asks (starts then moment ops).deed
      → starts then moment ops ≡ stays then
  by_queue [] right = refl
  by_queue (op ∷ ops) right = by_hold op ops (is_upload_op op && is_held then moment) right

  by_running : (o : Option Operation) (n : Option ℕ) → false ≡ asks (idle then moment o n).deed
      → idle then moment o n ≡ stays then
  by_running (Some op) n right = refl
  by_running None (Some k) right = absurd (cc right)
  by_running None None right = by_queue then.queue right

  pub stays_so : (d : Told) → false ≡ (not (is_idle d) || asks (passes then moment d).deed)
      → passes then moment d ≡ stays then
  stays_so told_as.Idle right = by_running then.running (to_fetch then.observations) right
  stays_so told_as.Copied right = absurd (cc right)
  stays_so (told_as.End e) right = absurd (cc right)

module _ (config : Config)
    (answered : (server : Endpoint) (sizes : Sizes) (setup : Setup) (t : List Call) → ClientLaw server sizes setup t
    → AreAnswered server sizes setup t) (t : List Call) (quiet : AreQuiet config t)
    (shut : IsShut config.client_sizes t) (x : Taken) (was : WasTaken x t)
    (untold : IsReported config x.number t → ⊥) where
  abbrev Law : List Call → Type 0
  Law cs = ClientLaw config.addresses.server config.client_sizes config.client_setup cs

  abbrev s : Own
  s = own_of config.client_sizes t

  module _ (now w : ℕ) (below : L.Answer) (d : Told) (sent : L.Answer) (token : Result (List ℕ) AskRefusal)
      (kept : Bool) (law : Law (Ticks now w below d sent token kept false ∷ t)) where
    abbrev tick : Call
    tick = Ticks now w below d sent token kept false

    same : passes (at now s) (max s.clock now) d ≡ stays (at now s)
    same = stays_so s now d law.rows.0

    sends_none : sends s tick ≡ None
    sends_none = ap (λ e. sent_by e e.deed token) same

    holds_same : (after s tick).hold ≡ s.hold
    holds_same = ap (λ e. (closed (max s.clock now) e e.deed token).own.hold) same

    by : WaitsFor config.addresses.server config.client_sizes config.client_setup t tick → ⊥
    by (inl n) =
        let k = (open_runs config.addresses.server config.client_sizes config.client_setup (tick ∷ t) law).is_open
        n.exchange n.running in
        ⊎_elim (λ b. let z = sym sends_none ∙ b.sends_it in cc z) (λ r. shut k.0 r.2) k.1
    by (inr h) =
        let none : (after s tick).hold ≡ None = holds_same ∙ (plain_of config t quiet).hold in
        let z = sym h.held ∙ ap (λ (o : Option ℕ). elim o as (λ q. Bool) [
          | None ↦ false
          | Some last ↦ nat_le (own_of config.client_sizes (tick ∷ t)).clock (last + max_latency)
        ]) none in
        cc z

    waits : ⊥
    waits = by ((answered config.addresses.server config.client_sizes config.client_setup (tick ∷ t) law).0
        (now, w, below, d, sent, token, kept, refl) x was untold)

  pub never_rests : (now : ℕ) (c : Call) → IsTick now false c → Law (c ∷ t) → ⊥
  never_rests now c k law =
      waits now k.0 k.1.0 k.1.1 k.1.2 k.1.3 k.1.4 (subst (λ d. Law (d ∷ t)) k.1.5 law)

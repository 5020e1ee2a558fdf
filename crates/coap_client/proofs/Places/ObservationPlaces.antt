-- What the end of an observation, and a fetch for it, leave of the numbers that a client keeps.
use Rattle.std.proofs.Common.{◌≡◌, ◌≤◌, ℕ, false, cond, Option, Some, None, refl, ap, sym, subst, ◌∙◌, arith}
use Rattle.std.specs.Prelude.{◌==◌}
use Rattle.coap_codec.specs.Message.{Message}
use Rattle.coap_block.specs.declared.fetch_verdict.Verdict.{Verdict}
use Rattle.coap_block.specs.declared.fetch_verdict.Verdict.TheVariants as verdict
use Rattle.coap_exchange.specs.declared.asker.Exchange.{Exchange}
use Rattle.coap_client.specs.Trace.{is_value, Report, Reported}
use Rattle.coap_client.specs.Own.{Fetching, Cancelling, Notified, Observation, Own}
use Rattle.coap_client.specs.Observations.{observation_of, with_rest}
use Rattle.coap_client.specs.Effects.{Effect}
use Rattle.coap_client.specs.Fetching.{rest, fetch_over, fetch_by, fetch_answered}
use Rattle.coap_client.specs.Observing.{releases, is_over}
use Rattle.coap_client.specs.Events.{cancel_over}
use Rattle.coap_client.specs.Places.{in_running, in_observations, places, final_of}
use Rattle.coap_client.proofs.Facts.Places.PlaceLemmas.{in_map, in_uncancelled, in_dropped, in_without, number_if}
use Rattle.coap_client.proofs.Facts.Turning.Moves.{releases_none}
use Rattle.coap_client.proofs.Facts.Places.PlaceEffects.{Goes, IfRuns, Leaves, Linked, NoCancel, Sound, again_goes}
use Rattle.coap_client.proofs.Facts.Places.PlaceEffects.{ends_quietly, final_hit, linked_without, of_number, runs_map}
use Rattle.coap_client.proofs.Facts.Places.PlaceEffects.{runs_without, value_of_number, value_quiet, wait_map}
use Rattle.coap_client.proofs.Facts.Places.PlaceEffects.{wait_without}

-- an observation is over
releases_goes : (o : Option Observation) (e : Effect) (x : Option Exchange) → Linked e.own.running e.own.observations x
    → Leaves (releases o) e x
releases_goes None e x h = h
releases_goes (Some o) e x h = h

pub over_goes : (s : Own) (x : Option Exchange) → Sound s → Linked s.running s.observations x
    → (k : ℕ) (report : Report) → 1 ≤ in_observations k s.observations → NoCancel k s.running → is_value report ≡ false
    → Goes s x (is_over k report s)
over_goes s x sound l k report there apart last = record {
  conserved = λ n.
      let m = sound.at_most k in
      let once : in_observations k s.observations ≡ 1 = omega (arith, m, there) in
      let a = final_hit n k report last in
      let b = in_without n k s.observations once in
      let c = in_uncancelled n k s.queue in
      let d = in_dropped n k s.running in
      omega (arith, a, b, c, d);
  waits = wait_without k s.observations s.queue sound.waits;
  runs_on = runs_without k s.observations s.running apart sound.runs_on;
  taken_is = refl;
  source = λ r h. let e = of_number k report r h in subst (λ n. 1 ≤ places n s) (sym e) (omega (arith, there));
  asks = λ op h. absurd (releases_none (observation_of k s.observations) op h);
  leaves = releases_goes (observation_of k s.observations) (is_over k report s) x
      (linked_without k s.observations s.running x apart l);
}

pub cancel_goes : (s : Own) (x : Option Exchange) → Sound s → x ≡ None → (k : ℕ) → s.running ≡ Some (Cancelling k)
    → (report : Report) → is_value report ≡ false → Goes s x (cancel_over k report s)
cancel_goes s x sound none k is report last =
    let t : Own = record s { running = None } in
    let live : 1 ≤ in_observations k s.observations = subst (IfRuns s.observations) is sound.runs_on in
    let same : (n : ℕ) → places n t ≡ places n s = λ n. (let c = ap (in_running n) is in omega (arith, c)) in
    let g = over_goes t x (record {
      at_most = λ n. (let m = sound.at_most n in let e = same n in omega (arith, m, e));
      waits = sound.waits;
      runs_on = tt;
    }) none k report live (λ j h. absurd (cc h)) last in
    record {
      conserved = λ n. g.conserved n ∙ same n;
      waits = g.waits;
      runs_on = g.runs_on;
      taken_is = g.taken_is;
      source = λ r h. let a = g.source r h in let e = same r.number in omega (arith, a, e);
      asks = g.asks;
      leaves = g.leaves;
    }

-- what is fetched changes
abbrev rest_in : ℕ → Option Notified → Observation → Observation
rest_in k r o = cond (o.number == k) (record o { rest = r }) o

rest_number : (k : ℕ) (r : Option Notified) (o : Observation)
    → (cond (o.number == k) (record o { rest = r }) o).number ≡ o.number
rest_number k r o = number_if (o.number == k) o (record o { rest = r }) refl

rested : (s : Own) (k : ℕ) (r : Option Notified) → Sound s
    → Sound (record s { observations = with_rest k r s.observations })
rested s k r sound = record {
  at_most = λ n. let m = sound.at_most n in let e =
      in_map n (rest_in k r) (rest_number k r) s.observations in omega (arith, m, e);
  waits = wait_map (rest_in k r) (rest_number k r) s.observations s.queue sound.waits;
  runs_on = runs_map (rest_in k r) (rest_number k r) s.observations s.running sound.runs_on;
}

-- from there, as from here
rested_goes : (s : Own) (x : Option Exchange) (k : ℕ) (r : Option Notified) (e : Effect)
    → Goes (record s { observations = with_rest k r s.observations }) x e → Goes s x e
rested_goes s x k r e g =
    let same : (n : ℕ) → places n (record s { observations = with_rest k r s.observations })
    ≡ places n s = λ n. (let z = in_map n (rest_in k r) (rest_number k r) s.observations in omega (arith, z)) in
    record {
      conserved = λ n. g.conserved n ∙ same n;
      waits = g.waits;
      runs_on = g.runs_on;
      taken_is = g.taken_is;
      source = λ y h. let a = g.source y h in let z = same y.number in omega (arith, a, z);
      asks = g.asks;
      leaves = g.leaves;
    }

pub fetch_over_goes : (s : Own) (x : Option Exchange) → Sound s → x ≡ None → (k : ℕ) → s.running ≡ Some (Fetching k)
    → (report : Option Reported) → ((n : ℕ) → final_of n report ≡ 0) → ((r : Reported) → report ≡ Some r → r.number ≡ k)
    → Goes s x (fetch_over k report s)
fetch_over_goes s x sound none k is report quiet same =
    let t = rested s k None sound in
    record {
      conserved = λ n. let a = quiet n in let c = ap (in_running n) is in let z =
          in_map n (rest_in k None) (rest_number k None) s.observations in omega (arith, a, c, z);
      waits = t.waits;
      runs_on = tt;
      taken_is = refl;
      source = λ r h. let live : 1 ≤ in_observations k s.observations =
          subst (IfRuns s.observations) is sound.runs_on in subst (λ n. 1 ≤ places n s) (sym (same r h))
          (omega (arith, live));
      asks = λ op h. absurd (cc h);
      leaves = none;
    }

fetch_by_goes : (s : Own) (x : Option Exchange) → Sound s → x ≡ None → (k : ℕ) → s.running ≡ Some (Fetching k)
    → (n : Notified) (m : Message) (v : Verdict) → Goes s x (fetch_by k n s m v)
fetch_by_goes s x sound none k is n m (verdict.Ask num szx) =
    let next = rest n.sequence n.fetch m (verdict.Ask num szx) in
    let t = rested s k next sound in
    rested_goes s x k next _ (again_goes (record s { observations = with_rest k next s.observations }) x t none
    (Fetching k) (Fetching k) is (λ i. refl) (subst (IfRuns (with_rest k next s.observations)) is t.runs_on))
fetch_by_goes s x sound none k is n m verdict.Done =
    fetch_over_goes s x sound none k is _ (λ i. value_quiet i k n.sequence n.fetch m verdict.Done)
    (value_of_number k n.sequence n.fetch m verdict.Done)
fetch_by_goes s x sound none k is n m _ = fetch_over_goes s x sound none k is _ (λ i. refl) (λ r h. absurd (cc h))

pub fetch_goes : (s : Own) (x : Option Exchange) → Sound s → x ≡ None → (k : ℕ) → s.running ≡ Some (Fetching k)
    → (o : Option Notified) (m : Message) → Goes s x (fetch_answered k o s m)
fetch_goes s x sound none k is None m = ends_quietly s x sound none (Fetching k) is (λ n. refl)
fetch_goes s x sound none k is (Some n) m = fetch_by_goes s x sound none k is n m _

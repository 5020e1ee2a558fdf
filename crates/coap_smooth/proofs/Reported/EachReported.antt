-- In a smooth run in which nothing is observed each call is reported.
use Rattle.std.proofs.Common.{◌≡◌, ◌⊎◌, inl, inr, ⊎_elim, ◌≤◌, ℕ, ◌+◌, ◌*◌, Some, None, List, [], ◌∷◌, ◌++◌, sym}
use Rattle.std.proofs.Common.{subst, arith}
use Rattle.coap_types.specs.Past.{Always}
use Rattle.coap_types.proofs.Facts.Traces.{Ever_back, Ever_front, Sometime_back}
use Rattle.coap_types.specs.declared.endpoint.Endpoint.{Endpoint}
use Rattle.coap_block.specs.Sizes.{Sizes}
use Rattle.coap_layer.specs.declared.setup.Setup.{Setup}
use Rattle.coap_client_laws.specs.Follows.Answered.{AreAnswered}
use Rattle.coap_client_laws.specs.Follows.CallsAlone.{IsAlone}
use Rattle.coap_client_laws.specs.Follows.Ends.{ends_as, Unsent, unsent, ReportsEnds}
use Rattle.coap_client.specs.Sendings.{Taken, takes, WasTaken}
use Rattle.coap_client.specs.Law.{ClientLaw, ClientRows, own_of}
use Rattle.coap_client.specs.Trace as C
use Rattle.coap_client_laws.proofs.Facts.EachCall.{all_ends, calls_alone}
use Rattle.coap_record.specs.Events.{Config}
use Rattle.coap_record.specs.Record.{Entry, Turn, entries_of, client_of}
use Rattle.coap_smooth.specs.Reported.{further_in, most_ms, TakenSince, AreReported}
use Rattle.coap_smooth.specs.Smooth.{TakesNoObservation}
use Rattle.coap_smooth.specs.SmoothAnswers.{ChangesAnswered}
use Rattle.coap_smooth.specs.Young.{AreYoung}
use Rattle.coap_smooth.proofs.Reported.InTurn.{AreQuiet, IsReported}
use Rattle.coap_smooth.proofs.Reported.NoBlockIsBad.{NoneBad, none_bad}
use Rattle.coap_smooth.proofs.Reported.Since.{Goes, way, client_join, too_late, in_bound, one_more, begins}
use Rattle.coap_smooth.proofs.Reported.Since.{reported_or_not}
use Rattle.coap_smooth.proofs.Reports.ByAnswer.{Answering}
use Rattle.coap_smooth.proofs.Smoothly.Ticks.NothingIsLeft.{Stands, before}

module _ (config : Config) where
  abbrev calls : List Turn → List C.Call
  calls turns = client_of (entries_of turns)

  -- each call is made so
  quiet_by : (all : List Entry) (t : List C.Call) → ClientRows config.client_sizes t
      → Always (λ p c. TakesNoObservation c) t → Always (IsAlone config.client_sizes) t
      → Always (λ p c. ends_as c ≡ None) t → Always (ReportsEnds config.client_sizes) t
      → Always (λ p c. (u : Unsent) → unsent (own_of config.client_sizes p) c ≡ Some u → ⊥) t
      → Always (NoneBad config all) t → AreQuiet config t
  quiet_by all [] rows none alone by_answers ends sent bad = tt
  quiet_by all (c ∷ t) rows none alone by_answers ends sent bad = (
    record {
      right = rows.0;
      none = none.0;
      alone = alone.0;
      by_answer = by_answers.0;
      only = ends.0.only;
      sent = sent.0;
      no_bad = bad.0;
    },
    quiet_by all t rows.1 none.1 alone.1 by_answers.1 ends.1 sent.1 bad.1,
  )

  pub quiet : (all : List Entry) → Answering config (client_of all) → ChangesAnswered config all
      → AreQuiet config (client_of all)
  quiet all k changes =
      let t = client_of all in
      quiet_by all t k.law.rows k.none_taken
      (calls_alone config.addresses.server config.client_sizes config.client_setup t k.law k.none_taken) k.by_answers
      (all_ends config.addresses.server config.client_sizes config.client_setup t k.law) k.all_sent
      (none_bad config all all k changes)

  quiet_before : (turn : Turn) (past : List Turn) → AreQuiet config (calls (turn ∷ past)) → AreQuiet config (calls past)
  quiet_before turn past q =
      drop_front (client_of turn.entries) (subst (AreQuiet config) (client_join turn.entries (entries_of past)) q)
    where
      drop_front : (later : List C.Call) → AreQuiet config (later ++ calls past) → AreQuiet config (calls past)
      drop_front [] q = q
      drop_front (c ∷ later) q = drop_front later q.1

  module _ (answered : (server : Endpoint) (sizes : Sizes) (setup : Setup) (t : List C.Call)
      → ClientLaw server sizes setup t → AreAnswered server sizes setup t) where
    -- where it is since it was taken
    record Known (x : Taken) (at most : ℕ) (past : List Turn) : Type 0 where
      was : WasTaken x (calls past)
      is : IsReported config x.number (calls past) ⊎ Goes config x.number at most past

    known : (past : List Turn) → Stands config past → AreYoung config past → AreQuiet config (calls past) → (x : Taken)
        (at others further : ℕ) → TakenSince config x at others further past → Known x at (others + further) past
    known [] s young q x at others further h = absurd h
    known (turn ∷ past) s young q x at others further (inl h) =
        let g = begins config answered turn past s x h.0.taken others h.0.behind in
        let none = h.1 in
        let most : others ≡ others + further = omega (arith, none) in
        record {
          was = subst (WasTaken x) (sym (client_join turn.entries (entries_of past)))
              (Ever_front (λ c. takes c ≡ Some x) (client_of turn.entries) (calls past) h.0.taken);
          is = inr (subst (λ (n : ℕ). Goes config x.number n (others + further) (turn ∷ past)) h.0.moment
              (subst (λ (n : ℕ). Goes config x.number turn.event.at n (turn ∷ past)) most g));
        }
    known (turn ∷ past) s young q x at others further (inr h) =
        let k = known past (before config turn past s) young.1 (quiet_before turn past q) x at others h.0 h.1 in
        record {
          was = subst (WasTaken x) (sym (client_join turn.entries (entries_of past)))
              (Ever_back (λ c. takes c ≡ Some x) (client_of turn.entries) (calls past) k.was);
          is = by k.was k.is;
        }
      where
        still_told : IsReported config x.number (calls past)
            → IsReported config x.number (calls (turn ∷ past))
            ⊎ Goes config x.number at (others + further) (turn ∷ past)
        still_told told =
            inl (subst (IsReported config x.number) (sym (client_join turn.entries (entries_of past)))
            (Sometime_back _ (client_of turn.entries) (calls past) told))

        by : WasTaken x (calls past) → IsReported config x.number (calls past)
            ⊎ Goes config x.number at (others + h.0) past
            → IsReported config x.number (calls (turn ∷ past))
            ⊎ Goes config x.number at (others + further) (turn ∷ past)
        by was (inl told) = still_told told
        by was (inr g) =
            let is = h.2 in
            let most : further_in config (client_of turn.entries) (calls past) + (others + h.0) ≡ others + further =
            omega (arith, is) in
            ⊎_elim still_told
            (λ untold. ⊎_elim (λ told. inl told)
            (λ n. inr (subst (λ (i : ℕ). Goes config x.number at i (turn ∷ past)) most n))
            (one_more config answered turn past s young q x was untold at (others + h.0) g))
            (reported_or_not config x.number (calls past))

    reported_here : (turn : Turn) (past : List Turn) → Stands config (turn ∷ past) → AreYoung config (turn ∷ past)
        → AreQuiet config (calls (turn ∷ past)) → (x : Taken) (at others further : ℕ)
        → TakenSince config x at others further past → at + most_ms config others further + 1 ≤ turn.event.at
        → IsReported config x.number (calls past)
    reported_here turn past s young q x at others further h late =
        let k = known past (before config turn past s) young.1 (quiet_before turn past q) x at others further h in
        by k.was (reported_or_not config x.number (calls past)) k.is
      where
        by : WasTaken x (calls past)
            → IsReported config x.number (calls past) ⊎ (IsReported config x.number (calls past) → ⊥)
            → IsReported config x.number (calls past) ⊎ Goes config x.number at (others + further) past
            → IsReported config x.number (calls past)
        by was (inl told) k = told
        by was (inr untold) (inl told) = told
        by was (inr untold) (inr g) =
            absurd (too_late turn.event.at (at + (1 + (others + further)) * way config)
            (in_bound config answered turn past s young (quiet_before turn past q) x was untold at (others + further) g)
            late)

    pub each_reported : (turns : List Turn) → Stands config turns → AreYoung config turns
        → AreQuiet config (calls turns)
        → AreReported config turns
    each_reported [] s young q = tt
    each_reported (turn ∷ past) s young q = (
      λ x at others further h late. reported_here turn past s young q x at others further h (omega (arith, late)),
      each_reported past (before config turn past s) young.1 (quiet_before turn past q),
    )

-- A call is reported for the last time at most once.
use Rattle.std.proofs.Common.{◌≡◌, ◌≤◌, inl, inr, ℕ, cond, Some, List}
use Rattle.std.proofs.Common.{[], ◌∷◌, ap, ◌∙◌, arith}
use Rattle.coap_types.specs.declared.endpoint.Endpoint.{Endpoint}
use Rattle.coap_block.specs.Sizes.{Sizes}
use Rattle.coap_exchange.specs.AskerLaw as X
use Rattle.coap_layer.specs.declared.setup.Setup.{Setup}
use Rattle.coap_client.specs.Trace.{Call}
use Rattle.coap_client.specs.Deeds.{at}
use Rattle.coap_client.specs.Steps.{lower, reports}
use Rattle.coap_client.specs.Law.{ClientLaw, ClientRows, own_of, lower_of}
use Rattle.coap_client_laws.specs.Follows.Answered.{HasReport, ReportedOnce}
use Rattle.coap_client.specs.Places.{hit, places, final_of}
use Rattle.coap_client.specs.Places.{gone}
use Rattle.coap_client.proofs.Facts.Places.PlaceLemmas.{hit_self}
use Rattle.coap_client.proofs.Facts.Places.NumberSteps.{below, both_one}
use Rattle.coap_client.proofs.Facts.Places.Once.{law_back, known, from_place}

module _ (server : Endpoint) (sizes : Sizes) (setup : Setup) where
  -- what was reported for the last time is gone
  pub final_gone : (number : ℕ) (t : List Call) → HasReport server sizes setup number t → 1 ≤ gone sizes number t
  final_gone number [] h = absurd h
  final_gone number (c ∷ t) (inr h) = let ih = final_gone number t h in omega (arith, ih)
  final_gone number (c ∷ t) (inl h) =
      let a : final_of number (reports (own_of sizes t) c) ≡ final_of number (Some h.0) = ap
      (final_of number) h.2.made in
      let b : final_of number (Some h.0) ≡ hit h.0.number number =
      ap (λ v. cond v 0 (hit h.0.number number)) h.2.final in
      let d : hit h.0.number number ≡ 1 = ap (λ i. hit i number) h.1 ∙ hit_self number in
      omega (arith, a, b, d)

  pub reported_once : (t : List Call) → ClientLaw server sizes setup t → ReportedOnce server sizes setup t
  reported_once t law = all t law.rows law.exchanges.rows
    where
      all : (t : List Call) → ClientRows sizes t → X.AskerLaw server setup (lower_of sizes t)
          → ReportedOnce server sizes setup t
      all [] rows law = tt
      all (c ∷ t) rows law =
          let below = law_back server setup (lower (own_of sizes t) c) (lower_of sizes t) law in
          let k = known server sizes setup t rows.1 below in (
            λ x made h. both_one (places x.number (own_of sizes t)) (gone sizes x.number t) _ (k.one x.number)
                (from_place server sizes setup t c k law x made) (final_gone x.number t h),
            all t rows.1 below,
          )

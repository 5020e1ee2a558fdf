-- Numbers are given one by one: those that were given are below those to come.
use Rattle.std.proofs.Common.{◌≡◌, ◌≤◌, inl, inr, ℕ, ◌+◌, true, false, Some, None, List, [], ◌∷◌, refl, sym, ◌∙◌, arith}
use Rattle.std.proofs.Common.{Ok, Err}
use Rattle.std.specs.Prelude.{◌==◌, nat_lt, nat_le, length}
use Rattle.coap_types.specs.Past.{Ever}
use Rattle.coap_types.specs.declared.endpoint.Endpoint.{Endpoint}
use Rattle.coap_types.specs.declared.option_number.TheConstants.{BLOCK2 as block2}
use Rattle.coap_layer.specs.declared.setup.Setup.{Setup}
use Rattle.coap_block.specs.Sizes.{Sizes}
use Rattle.coap_exchange.specs.AskerLaw as X
use Rattle.coap_client.specs.declared.limits.TheConstants.{MAX_OBSERVATIONS as max_observations}
use Rattle.coap_client.specs.declared.refusals.CallRefusal.TheVariants.{QueueFull, BodyTooLarge, BadPath, WatchesFull}
use Rattle.coap_client.specs.declared.refusals.CallRefusal.TheVariants.{CallsSpent}
use Rattle.coap_client.specs.Trace.{Call, Calls, Observes, Cancels, Forgets, Feeds, Ticks, NextOut, NextReport, Asked}
use Rattle.coap_client.specs.Own.{Own}
use Rattle.coap_client.specs.Requests.{options_of, path_options}
use Rattle.coap_client.specs.Queue.{max_numbers, are_long, block_option_number, is_full, observed}
use Rattle.coap_client.specs.Steps.{lower}
use Rattle.coap_client.specs.Law.{ClientRows, own_of, lower_of}
use Rattle.coap_client_laws.specs.Follows.Numbers.{number_given, NumbersOnce}
use Rattle.coap_client.proofs.Facts.Places.Once.{Known, known, law_back, fed, ticked}
use Rattle.coap_client.proofs.Facts.Places.NumberSteps.{given_is}

module _ (server : Endpoint) (sizes : Sizes) (setup : Setup) where
  abbrev taken : List Call → ℕ
  taken t = (own_of sizes t).taken

  -- the next number is given
  is_next : (t : List Call) (c : Call) → ClientRows sizes (c ∷ t) → (n : ℕ) → number_given c ≡ Some n
      → (n ≡ taken t) × (taken (c ∷ t) ≡ taken t + 1)
  is_next t (Calls now r (Ok k)) rows n h =
      let s : Own = own_of sizes t in
      let same : k ≡ n = cc h in (
        sym same ∙ given_is (is_full s) (nat_lt s.sizes.limit (length r.body))
            (are_long (block_option_number r.method) (options_of r))
            (s.taken == max_numbers) QueueFull BodyTooLarge BadPath CallsSpent k s.taken rows.0,
        refl,
      )
  is_next t (Observes now path (Ok k)) rows n h =
      let s : Own = own_of sizes t in
      let same : k ≡ n = cc h in (
        sym same ∙ given_is (is_full s) (are_long block2 (path_options path)) (nat_le max_observations (observed s))
            (s.taken == max_numbers) QueueFull BadPath WatchesFull CallsSpent k s.taken rows.0,
        refl,
      )
  is_next t _ rows n h = absurd (cc h)

  grows : (t : List Call) (c : Call) → Known server sizes setup t → X.AskerLaw server setup (lower_of sizes (c ∷ t))
      → taken t ≤ taken (c ∷ t)
  grows t (Calls now r (Ok n)) k law = omega arith
  grows t (Observes now path (Ok n)) k law = omega arith
  grows t (Cancels now number None) k law = omega arith
  grows t (Forgets number kept true) k law = omega arith
  grows t (Feeds now from bytes w up settled event sent token kept) k law = let e =
      (fed server sizes setup t now from bytes w up settled event sent token kept k law).taken_is in omega (arith, e)
  grows t (Ticks now w below turn sent token kept answer) k law = let e =
      (ticked server sizes setup t now w below turn sent token kept answer k law).taken_is in omega (arith, e)
  grows t _ k law = omega arith

  pub below : (t : List Call) → ClientRows sizes t → X.AskerLaw server setup (lower_of sizes t) → (n : ℕ)
      → Ever (λ b. number_given b ≡ Some n) t → n + 1 ≤ taken t
  below [] rows law n w = absurd w
  below (c ∷ t) rows law n (inl h) = let k = is_next t c rows n h in let a = k.0 in let b = k.1 in omega (arith, a, b)
  below (c ∷ t) rows law n (inr w) =
      let past = law_back server setup (lower (own_of sizes t) c) (lower_of sizes t) law in
      let k = below t rows.1 past n w in
      let g = grows t c (known server sizes setup t rows.1 past) law in
      omega (arith, k, g)

  pub numbers_once : (t : List Call) → ClientRows sizes t → X.AskerLaw server setup (lower_of sizes t) → NumbersOnce t
  numbers_once [] rows law = tt
  numbers_once (c ∷ t) rows law =
      let past = law_back server setup (lower (own_of sizes t) c) (lower_of sizes t) law in (
        λ n h w. let a = (is_next t c rows n h).0 in let b = below t rows.1 past n w in absurd (omega (arith, a, b)),
        numbers_once t rows.1 past,
      )

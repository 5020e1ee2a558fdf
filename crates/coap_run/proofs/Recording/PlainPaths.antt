-- The server of a run has its plain paths, behind its delays.
use Rattle.std.proofs.Common.{◌≡◌, ◌≤◌, ◌<◌, ℕ, ◌+◌, Bool, true, false, ◌||◌, nat_lt, List, [], ◌∷◌, ◌++◌, length, drop}
use Rattle.std.proofs.Common.{get_or, Result, Ok, Err, IfOk, OnErr, All, sym, ap, subst, ◌∙◌, arith, cond}
use Rattle.std.proofs.lemmas.Bool.{ltb-true}
use Rattle.std.proofs.lemmas.List.{drop_more, drop_all, length-append, length-drop}
use Rattle.std.proofs.lemmas.List.Elements.{All-push}
use Rattle.coap_types.specs.Path.{IsPath}
use Rattle.coap_layer.specs.declared.setup.Setup.{Setup}
use Rattle.coap_block.specs.Sizes.{Sizes}
use Rattle.coap_resource.specs.Limits.{Limits}
use Rattle.coap_server.specs.Law.{own_of}
use Rattle.coap_server.specs.Plain.{is_plain, may_be_plain, plains_with}
use Rattle.coap_server.specs.Trace as S
use Rattle.coap_server.specs.declared.limits.TheConstants.{MAX_PLAINS as max_plains}
use Rattle.coap_server.specs.declared.server.parts.Delay.{Delay as PathDelay}
use Rattle.coap_record.specs.Legal.{IsConfig}
use Rattle.coap_record.specs.declared.addresses.Addresses.{Addresses}
use Rattle.coap_run.specs.Run.Configs.{config_of}
use Rattle.coap_record.specs.Begins.{gives, begins_with}
use Rattle.coap_record.proofs.Facts.FewPlain.{few_plain, may_be}

module _ (limits : Limits) (szx : ℕ) where
  -- so one more may be
  pub none_full : (ps : List (List (List ℕ))) (ds : List S.Delay) (path : List (List ℕ)) → length ps < max_plains
      → false ≡ may_be_plain path (own_of limits szx (begins_with ps ds)).plains → ⊥
  none_full ps ds path few full =
      let k = few_plain limits szx ps ds in
      let may = may_be path (own_of limits szx (begins_with ps ds)).plains (omega (arith, few, k)) in
      absurd (cc (full, may))

-- the next path, from the last to the first

pub next_plain : (ps : List (List (List ℕ))) (ds : List S.Delay) (n left : ℕ) (p : List (List ℕ)) → left ≡ n + 1
    → n < length ps → p ≡ get_or ps n p → S.Plains p true ∷ begins_with (drop left ps) ds ≡ begins_with (drop n ps) ds
next_plain ps ds n left p is within there =
    ap (λ m. S.Plains p true ∷ begins_with (drop m ps) ds) is
    ∙ ap (λ x. S.Plains x true ∷ begins_with (drop (n + 1) ps) ds) there
    ∙ sym (ap (λ l. begins_with l ds) (drop_more ps n p within))

pub none_yet : (ps : List (List (List ℕ))) (ds : List S.Delay) (n : ℕ) → n ≡ length ps
    → (n ≤ length ps) × (gives ds ≡ begins_with (drop n ps) ds)
none_yet ps ds n is = (omega (arith, is), sym (ap (λ l. begins_with l ds) (drop_all n ps (omega (arith, is)))))

pub few_left : (ps : List (List (List ℕ))) (left : ℕ) → 0 < left → left ≤ length ps → length ps ≤ max_plains
    → length (drop left ps) < max_plains
few_left ps left some within few = let long = length-drop left ps in omega (arith, long, some, within, few)

-- a path in range leaves the configuration in range

module _ {A : Type 0} (places : Addresses) (cw : Setup) (cs : Sizes) (sw : Setup) (ss : ℕ) (limits : Limits)
    (ds : List (PathDelay A)) where
  with_paths : (old new : List (List (List ℕ))) → IsConfig (config_of places cw cs sw ss limits ds old) → All IsPath new
      → length new ≤ max_plains → IsConfig (config_of places cw cs sw ss limits ds new)
  with_paths old new is all few = record {
    addresses = is.addresses;
    client_setup = is.client_setup;
    client_szx = is.client_szx;
    client_limit = is.client_limit;
    server_setup = is.server_setup;
    server_szx = is.server_szx;
    some = is.some;
    limit = is.limit;
    server_limit = is.server_limit;
    base = is.base;
    delays = is.delays;
    few = is.few;
    plains = all;
    few_plains = few;
  }

  pub still_plain : {X : Type 0} (old new : List (List (List ℕ))) (path : List (List ℕ)) (r : Result Bool X)
      → IsConfig (config_of places cw cs sw ss limits ds old) → IsPath path
      → IfOk r (λ given. (given ≡ may_be_plain path old) × (new ≡ plains_with path given old)) → OnErr r (new ≡ old)
      → IsConfig (config_of places cw cs sw ss limits ds new)
  still_plain old new path (Ok true) is p given err = by (is_plain path old) given.0 given.1
    where
      by : (b : Bool) → true ≡ (b || nat_lt (length old) max_plains) → new ≡ cond b old (old ++ path ∷ [])
          → IsConfig (config_of places cw cs sw ss limits ds new)
      by true room left = subst (λ ps. IsConfig (config_of places cw cs sw ss limits ds ps)) (sym left) is
      by false room left =
          let few = ltb-true (length old) max_plains (sym room) in
          let long = length-append old (path ∷ []) in
          subst (λ ps. IsConfig (config_of places cw cs sw ss limits ds ps)) (sym left)
          (with_paths old (old ++ path ∷ []) is (All-push IsPath old path is.plains p) (omega (arith, few, long)))
  still_plain old new path (Ok false) is p given err =
      subst (λ ps. IsConfig (config_of places cw cs sw ss limits ds ps)) (sym given.1) is
  still_plain old new path (Err e) is p given err =
      subst (λ ps. IsConfig (config_of places cw cs sw ss limits ds ps)) (sym err) is

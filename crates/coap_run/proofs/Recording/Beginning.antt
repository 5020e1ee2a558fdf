-- The server of a run is given its delays.
use Rattle.std.proofs.Common.{◌≡◌, ◌≤◌, ◌<◌, ℕ, ◌+◌, Bool, true, false, not, List, [], ◌∷◌, map, length, drop, get_or}
use Rattle.std.proofs.Common.{refl, sym, ap, ◌∙◌, arith}
use Rattle.std.proofs.lemmas.Bool.{lt-ltb}
use Rattle.std.proofs.lemmas.List.{drop-map, drop_more, drop_all, length-append, length-drop, length-map}
use Rattle.std.proofs.lemmas.List.Filters.{length-filter_both}
use Rattle.coap_types.specs.Path.{same_path}
use Rattle.coap_resource.specs.Limits.{Limits}
use Rattle.coap_server.specs.Deferring.{others, may_delay}
use Rattle.coap_server.specs.Law.{own_of}
use Rattle.coap_server.specs.Follows.Holds.{changes}
use Rattle.coap_server.specs.Trace as S
use Rattle.coap_server.specs.declared.limits.TheConstants.{MAX_DELAYS as max_delays}
use Rattle.coap_server.specs.declared.server.parts.Delay.{Delay as PathDelay}
use Rattle.coap_server.specs.Object.Shown.{delay_as}
use Rattle.coap_record.specs.Begins.{gives, begins_with}
use Rattle.coap_run.proofs.Recording.Applying.{zero_plus}

not_both : (b : Bool) → false ≡ b → b ≡ true → ⊥
not_both true f t = cc
not_both false f t = cc

module _ (limits : Limits) (szx : ℕ) where
  -- no more paths have a delay than were given one
  pub few_given : (ds : List S.Delay) → length (own_of limits szx (gives ds)).delays ≤ length ds
  few_given [] = omega (arith)
  few_given (d ∷ ds) =
      let before = (own_of limits szx (gives ds)).delays in
      let rest = few_given ds in
      let left = length-filter_both (λ (x : S.Delay). not (same_path x.path d.path))
      (λ (x : S.Delay). not (not (same_path x.path d.path))) (λ x. refl) before in
      let long = length-append (others d.path before) (record { path = d.path; ms = d.ms } ∷ []) in
      omega (arith, rest, left, long)

  -- so one more may be given
  pub none_full : (ds : List S.Delay) (path : List (List ℕ)) → length ds < max_delays
      → false ≡ may_delay path (own_of limits szx (gives ds)).delays → ⊥
  none_full ds path few full =
      let before = (own_of limits szx (gives ds)).delays in
      let left = length-filter_both (λ (x : S.Delay). not (same_path x.path path))
      (λ (x : S.Delay). not (not (same_path x.path path))) (λ x. refl) before in
      let rest = few_given ds in
      let room : length (others path before) < max_delays = omega (arith, rest, left, few) in
      not_both (may_delay path before) full (lt-ltb (length (others path before)) max_delays room)

-- the next delay, from the last to the first
pub next_given :
    {A : Type 0} (items : List (PathDelay A)) (delays : List S.Delay) (n left : ℕ) (d : PathDelay A)
    → map delay_as items ≡ delays → left ≡ n + 1 → n < length items → d ≡ get_or items n d
    → S.Delays d.path d.ms true ∷ gives (drop left delays) ≡ gives (drop n delays)
next_given items delays n left d are is within there =
    let mapped : delay_as d ∷ drop (n + 1) (map delay_as items) ≡ drop n (map delay_as items) =
    ap (λ ds. delay_as d ∷ ds) (drop-map delay_as (n + 1) items)
    ∙ ap (λ x. delay_as x ∷ map delay_as (drop (n + 1) items)) there
    ∙ sym (drop-map delay_as n items ∙ ap (map delay_as) (drop_more items n d within)) in
    ap (λ m. S.Delays d.path d.ms true ∷ gives (drop m delays)) is
    ∙ ap (λ ds. S.Delays d.path d.ms true ∷ gives (drop (n + 1) ds)) (sym are)
    ∙ ap gives mapped
    ∙ ap (λ ds. gives (drop n ds)) are

pub none_yet :
    {A : Type 0} (items : List (PathDelay A)) (delays : List S.Delay) (n : ℕ) → map delay_as items ≡ delays
    → n ≡ length items → (n ≤ length delays) × ([] ≡ gives (drop n delays))
none_yet items delays n are is =
    let long : length delays ≡ length items = ap length (sym are) ∙ length-map items delay_as in
    (omega (arith, long, is), sym (ap gives (drop_all n delays (omega (arith, long, is)))))

pub few_left : (ds : List S.Delay) (left : ℕ) → 0 < left → left ≤ length ds → length ds ≤ max_delays
    → length (drop left ds) < max_delays
few_left ds left some within few = let long = length-drop left ds in omega (arith, long, some, within, few)

-- a delay changes nothing, nor does a plain path
pub none_changed : (limits : Limits) (szx : ℕ) (ps : List (List (List ℕ))) (ds : List S.Delay)
    → changes limits szx (begins_with ps ds) ≡ limits.base
none_changed limits szx [] [] = refl
none_changed limits szx [] (d ∷ ds) = sym (zero_plus (changes limits szx (gives ds))) ∙ none_changed limits szx [] ds
none_changed limits szx (p ∷ ps) ds = sym (zero_plus (changes limits szx (begins_with ps ds)))
    ∙ none_changed limits szx ps ds

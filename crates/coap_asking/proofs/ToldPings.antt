-- What is written of pings, one after the other.
use Rattle.std.proofs.Common.{◌≡◌, ◌<◌, ◌+◌, ℕ, Bool, true, false, List, [], ◌∷◌, Option, None, Some, ap, inl, inr}
use Rattle.std.proofs.Common.{arith, is_some, length, refl}
use Rattle.coap_asking.specs.PingLines.{AreAnswered, TellsPings, WritesPing, WritesPings}
use Rattle.coap_status.specs.declared.status.Status.TheVariants as status

-- so many were answered, and are written
abbrev pub ToldSo : Bool → ℕ → (old new : Option (List ℕ)) → Type 0
ToldSo json n old new =
    (ends : List (Option ℕ)) × AreAnswered ends × (length ends ≡ n) × WritesPings json old new ends

none_is : (ms : Option ℕ) → is_some ms ≡ false → ms ≡ None
none_is None is = refl
none_is (Some ms) is = cc is

module _ (json : Bool) (n : ℕ) (old mid new : Option (List ℕ)) (before : ToldSo json n old mid) (ms : Option ℕ)
    (written : WritesPing json mid new ms)
  where
    pub told_on : is_some ms ≡ true → ToldSo json (n + 1) old new
    told_on is =
        let len = before.2 in
        (ms ∷ before.0, (is, before.1), omega (arith, len), (mid, before.3, written))

    pub told_done : (count : ℕ) → n + 1 ≡ count → is_some ms ≡ true → TellsPings json count old new status.Done
    told_done count all is =
        let len = before.2 in
        (ms ∷ before.0, inl (refl, (is, before.1), omega (arith, len, all)), (mid, before.3, written))

    pub told_refused : (count : ℕ) → n < count → is_some ms ≡ false → TellsPings json count old new status.Refused
    told_refused count few is =
        let len = before.2 in (
          ms ∷ before.0,
          inr (refl, before.0, ap (λ m. m ∷ before.0) (none_is ms is), before.1, omega (arith, len, few)),
          (mid, before.3, written),
        )

pub none_told : (json : Bool) (old : Option (List ℕ)) → ToldSo json 0 old old
none_told json old = ([], tt, refl, refl)

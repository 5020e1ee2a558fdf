-- What a further option adds to what a message says by its options.
use Rattle.std.specs.Prelude.{option_copied}
use Rattle.std.proofs.Common.{Bor, ◌≡◌, ℕ, ◌%◌, ◌==◌, Bool, true, false, not, ◌&&◌, ◌||◌, ◌++◌, ◌∙◌, List, [], ◌∷◌}
use Rattle.std.proofs.Common.{Option, Some, None, is_some, refl, ap, sym, if◌then◌else◌}
use Rattle.std.specs.List.{list_any}
use Rattle.std.proofs.lemmas.List.Folds.{list_any-append}
use Rattle.coap_types.specs.declared.direction.Direction.{Direction}
use Rattle.coap_types.specs.CoapOption.{CoapOption}
use Rattle.coap_types.specs.OptionValues.{value_of}
use Rattle.coap_types.specs.Recognised.{is_recognised, is_critical}
use Rattle.coap_types.specs.SeenNumbers.{Remembers}
use Rattle.coap_types.specs.Recognised.{has_number, lacks_critical, recognised, recognised_value}
use Rattle.coap_types.proofs.OneOptionOn.IsRecognised.{bad_more, kept_more, or_false, unseen}

-- what holds of the options so far
pub record Lacks (direction : Direction) (options : List CoapOption) (bad : Bool) (seen : List Bool) : Type 0 where
  pub rest : bad ≡ lacks_critical direction options
  pub numbers : Remembers seen options

pub record Valued (direction : Direction) (number : ℕ) (options : List CoapOption) (found : Option (List ℕ))
    (again : Bool) : Type 0 where
  pub value : found ≡ recognised_value direction number options
  pub seen : again ≡ has_number number options

pub none_lacks : (direction : Direction) (seen : List Bool) → list_any (λ b. b) seen ≡ false
    → Lacks direction [] false seen
none_lacks direction seen none = record { rest = refl; numbers = λ n low. unseen seen n none }

pub none_valued : (direction : Direction) (number : ℕ) → Valued direction number [] None false
none_valued direction number = record { value = refl; seen = refl }

pub lacks_more : (direction : Direction) (os : List CoapOption) (o : CoapOption) (bad more : Bool)
    (seen after : List Bool)
    → Lacks direction os bad seen → Remembers after (os ++ o ∷ [])
    → more ≡ (bad || (is_critical o && not (is_recognised direction os o))) → Lacks direction (os ++ o ∷ []) more after
lacks_more direction os o bad more seen after so numbers more_is = record {
  rest = more_is
      ∙ (ap (λ b. b || (is_critical o && not (is_recognised direction os o))) so.rest
      ∙ sym (bad_more direction os o));
  numbers = numbers;
}

-- the value so far, or else that of one more
abbrev pub or_else : Option (List ℕ) → Bool → List ℕ → Option (List ℕ)
or_else found wanted value = if is_some found || not wanted then found else Some value

last_value : (same known : Bool) (value : List ℕ) (o : CoapOption) (number : ℕ) → (o.number == number) ≡ same
    → value ≡ o.value
    → value_of number (if known then o ∷ [] else []) ≡ or_else None (same && known) value
last_value true true value o number is v = rw (is, v) refl
last_value true false value o number is v = refl
last_value false true value o number is v = rw is refl
last_value false false value o number is v = refl

value_more : (number : ℕ) (os : List CoapOption) (known : Bool) (o : CoapOption)
    → value_of number (os ++ (if known then o ∷ [] else []))
    ≡ or_else (value_of number os) ((o.number == number) && known) o.value
value_more number [] known o = last_value (o.number == number) known o.value o number refl refl
value_more number (x ∷ xs) known o = by (x.number == number) (value_more number xs known o)
  where
    by : (b : Bool) → value_of number (xs ++ (if known then o ∷ [] else []))
        ≡ or_else (value_of number xs) ((o.number == number) && known) o.value
        → (if b then Some x.value else value_of number (xs ++ (if known then o ∷ [] else [])))
        ≡ or_else (if b then Some x.value else value_of number xs) ((o.number == number) && known) o.value
    by true h = refl
    by false h = h

pub valued_more : (direction : Direction) (number : ℕ) (os : List CoapOption) (o : CoapOption)
    (found more : Option (List ℕ)) (again after : Bool)
    → Valued direction number os found again → after ≡ (again || (o.number == number))
    → more ≡ or_else found ((o.number == number) && is_recognised direction os o) o.value
    → Valued direction number (os ++ o ∷ []) more after
valued_more direction number os o found more again after so after_is more_is = record {
  value = more_is
      ∙ ap (λ v. or_else v ((o.number == number) && is_recognised direction os o) o.value) so.value
      ∙ sym (value_more number (recognised direction os) (is_recognised direction os o) o)
      ∙ ap (value_of number) (sym (kept_more direction os o));
  seen = after_is
      ∙ ap (λ b. b || (o.number == number)) so.seen
      ∙ ap (λ b. has_number number os || b) (sym (or_false (o.number == number)))
      ∙ sym (list_any-append (λ x. x.number == number) os (o ∷ []));
}

-- an option of references is there where the option of what they lend is
pub lent : {T : Type 0} (o : Option (Bor T)) → is_some o ≡ is_some (option_copied o)
lent None = refl
lent (Some x) = refl

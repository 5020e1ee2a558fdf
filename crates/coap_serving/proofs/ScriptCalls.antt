-- The settings of a script, one after the other.
use Rattle.std.proofs.Common.{◌≡◌, ◌∙◌, ◌<◌, ◌+◌, ◌++◌, ◌∷◌, [], ℕ, List, ap, sym, refl}
use Rattle.std.proofs.Common.{subst, fold, map, get_or, length, take, Bool, true, Result, Ok, Err, IfErr, IfOk}
use Rattle.std.proofs.Common.{arith, drop, false, Option, Some}
use Rattle.std.specs.Borrow.{Bor}
use Rattle.std.proofs.lemmas.List.{drop_more, length-map, length-take-le, map-append, take-append-drop}
use Rattle.std.proofs.lemmas.List.Sums.{fold-append}
use Rattle.coap_server.specs.Trace.{Call, Delays, Plains}
use Rattle.coap_scripts.specs.Script.{EachOf, IsFirstBad, lines_of}
use Rattle.coap_scripts.specs.Settings.{Delay, Hold, Plain, SaysSetting, Setting}
use Rattle.coap_serving.specs.ScriptSettings.{AreMade, AreOfScriptIn, HoldsIf, IsBadInScript, IsFirstNotMade}
use Rattle.coap_serving.specs.ScriptSettings.{IsMade, IsMadeIf, IsNotMade}
use Rattle.coap_serving.specs.ScriptSettings.{limit_by, limit_with}
use Rattle.coap_common.proofs.Facts.{seen_more}

pub limit_more : {X : Type 0} (view : X → Setting) (limit : ℕ) (xs : List X) (i : ℕ) (x : X) → x ≡ get_or xs i x
    → i < length xs
    → limit_with (limit_by limit (map view (take i xs))) (view x) ≡ limit_by limit (map view (take (i + 1) xs))
limit_more view limit xs i x is lt =
    sym (ap (fold limit_with limit) (seen_more view xs i x is lt)
    ∙ fold-append limit_with limit (map view (take i xs)) (view x ∷ []))

made_more : (settings : List Setting) (s : Setting) (before between after : List Call) → AreMade settings before between
    → IsMade s between after → AreMade (settings ++ s ∷ []) before after
made_more [] s before between after so one =
    (after, subst (λ (b : List Call). IsMade s b after) so one, refl)
made_more (t ∷ settings) s before between after so one =
    (so.0, so.1, made_more settings s so.0 between after so.2 one)

-- one setting more is made
pub one_made : {X : Type 0} (view : X → Setting) (xs : List X) (i : ℕ) (x : X) → x ≡ get_or xs i x → i < length xs
    → (before between after : List Call) → AreMade (map view (take i xs)) before between
    → IsMade (view x) between after → AreMade (map view (take (i + 1) xs)) before after
one_made view xs i x is lt before between after so one =
    subst (λ (ss : List Setting). AreMade ss before after) (sym (seen_more view xs i x is lt))
    (made_more (map view (take i xs)) (view x) before between after so one)

-- the next setting isn't
pub one_not_made : {X : Type 0} (view : X → Setting) (xs : List X) (i : ℕ) (x : X) → x ≡ get_or xs i x → i < length xs
    → (before between after : List Call) → AreMade (map view (take i xs)) before between
    → IsNotMade (view x) between after → IsFirstNotMade (map view xs) (i + 1) before after
one_not_made view xs i x is lt before between after so one = (
  map view (take i xs),
  view x,
  map view (drop (i + 1) xs),
  ap (map view)
      (sym (take-append-drop i xs) ∙ ap (λ rest. take i xs ++ rest) (drop_more xs i x lt)
      ∙ ap (λ y. take i xs ++ y ∷ drop (i + 1) xs) (sym is))
      ∙ map-append view (take i xs) (x ∷ drop (i + 1) xs),
  ap (λ n. n + 1) (sym (length-map (take i xs) view ∙ length-take-le i xs (omega (arith, lt)))),
  between,
  so,
  one,
)

-- what led to where a setting was made, or wasn't
pub made_by : {E : Type 0} (r : Result Bool E) (P Q : Bool → List Call → Type 0) (Leads : List Call → Type 0)
    → ((b : Bool) (x : List Call) → P b x → Q b x)
    → IfOk r (λ is. (x : List Call) × P is x × Leads x)
    → IfOk r (λ is. (x : List Call) × Q is x × Leads x)
made_by (Ok b) P Q Leads on h = (h.0, on b h.0 h.1, h.2)
made_by (Err e) P Q Leads on h = tt

-- .. by these calls
pub made_one : {E : Type 0} (r : Result Bool E) (calls : Bool → List Call) (Q : Bool → List Call → Type 0)
    (Leads : List Call → Type 0) → ((b : Bool) → Q b (calls b)) → IfOk r (λ is. Leads (calls is))
    → IfOk r (λ is. (x : List Call) × Q is x × Leads x)
made_one (Ok b) calls Q Leads one h = (calls b, one b, h)
made_one (Err e) calls Q Leads one h = tt

pub hold_if : (b : Bool) (path : List (List ℕ)) (format : ℕ) (body : List ℕ) (before after : List Call)
    → HoldsIf b path format body before after → IsMadeIf b (Hold path format body) before after
hold_if true path format body before after h = h
hold_if false path format body before after h = h

pub delay_if : (b : Bool) (path : List (List ℕ)) (ms : ℕ) (before : List Call)
    → IsMadeIf b (Delay path ms) before (Delays path ms b ∷ before)
delay_if true path ms before = refl
delay_if false path ms before = refl

pub plain_if : (b : Bool) (path : List (List ℕ)) (before : List Call)
    → IsMadeIf b (Plain path) before (Plains path b ∷ before)
plain_if true path before = refl
plain_if false path before = refl

-- ---- the script in a file

pub said_in : {X Y E : Type 0} (P Q : X → Type 0) (r : Result (Result X Y) E) → ((x : X) → P x → Q x)
    → IfOk r (λ read. IfOk read P) → IfOk r (λ read. IfOk read Q)
said_in P Q (Ok (Ok x)) onto h = onto x h
said_in P Q (Ok (Err y)) onto h = tt
said_in P Q (Err e) onto h = tt

pub bad_in : {X Y E : Type 0} (P Q : Y → Type 0) (r : Result (Result X Y) E) → ((y : Y) → P y → Q y)
    → IfOk r (λ read. IfErr read P) → IfOk r (λ read. IfErr read Q)
bad_in P Q (Ok (Ok x)) onto h = tt
bad_in P Q (Ok (Err y)) onto h = onto y h
bad_in P Q (Err e) onto h = tt

-- (`bytes` is the text that was read, and `text` what is read of it)
module _ (has : List ℕ → List ℕ → Type 0) (script : Option (Bor (List ℕ))) (name : Bor (List ℕ))
    (text bytes : List ℕ) (is : script ≡ Some name) (same : text ≡ bytes) (there : has name.now bytes)
  where
    pub of_script : (settings : List Setting) → EachOf SaysSetting (lines_of text) settings
        → AreOfScriptIn has script settings
    of_script settings each =
        subst (λ (s : Option (Bor (List ℕ))). AreOfScriptIn has s settings) (sym is)
        (bytes, there, subst (λ (t : List ℕ). EachOf SaysSetting (lines_of t) settings) same each)

    pub bad_of_script : (number : ℕ) → IsFirstBad SaysSetting (lines_of text) number
        → IsBadInScript has script number
    bad_of_script number bad =
        subst (λ (s : Option (Bor (List ℕ))). IsBadInScript has s number) (sym is)
        (bytes, there, subst (λ (t : List ℕ). IsFirstBad SaysSetting (lines_of t) number) same bad)

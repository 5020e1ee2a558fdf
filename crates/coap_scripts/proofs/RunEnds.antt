-- What a run of a script comes to, by what it answers.
use Rattle.std.proofs.Common.{◌≡◌, ◌∙◌, ◌++◌, [], ap, inl, inr, sym, ℕ, List, Option, None, Some, Result, Ok, Err, IfOk}
use Rattle.std.proofs.Common.{IfSome, subst}
use Rattle.std.proofs.Common.{◌+◌, ◌<◌, ◌∷◌, drop, false, get_or, length, take}
use Rattle.std.specs.Io.KnownBytes.{Appends}
use Rattle.std.proofs.lemmas.List.{drop_more, take-append-drop}
use Rattle.coap_server.specs.Plain.{may_be_plain}
use Rattle.coap_record.specs.declared.addresses.Addresses.{Addresses}
use Rattle.coap_record.specs.Events.{Config, Event}
use Rattle.coap_run.specs.Run.Log.{Log}
use Rattle.coap_run.specs.Run.Runs.{IsFirstWrong, IsRunOf}
use Rattle.coap_run.specs.declared.running.RunRefusal.{RunRefusal}
use Rattle.coap_run.specs.declared.running.RunRefusal.TheVariants.{NotLegal}
use Rattle.coap_scripts.specs.Script.{EachSays, IsFirstBad, SaysEvent, lines_of}
use Rattle.coap_scripts.specs.Sims.{AreTooMany, IsSim, IsSimOf, IsUnset, bad_line_text, each_once, sim_config}
use Rattle.coap_scripts.specs.declared.script.refusal.ScriptRefusal.{ScriptRefusal}
use Rattle.coap_scripts.specs.declared.script.refusal.ScriptRefusal.TheVariants.{Line}
use Rattle.coap_status.specs.declared.status.Status.{Status}
use Rattle.coap_status.specs.declared.status.Status.TheVariants.{Done, Refused, Words}
use Rattle.coap_status.specs.declared.status.Stop.{Stop}

-- it came to its end
pub of_run : (config : Config) (events : List Event) (answer : Result Log RunRefusal) (log : Log)
    (ended : Result Status Stop) → answer ≡ Ok log → IfOk answer (λ shown. IsRunOf config events shown)
    → IfOk ended (λ status. status ≡ Done) → IfOk ended (IsSim config events)
of_run config events answer log (Ok status) is h done =
    let runs : IsRunOf config events log = subst (λ r. IfOk r (λ shown. IsRunOf config events shown)) is h in
    subst (IsSim config events) (sym done) (log, runs)
of_run config events answer log (Err stop) is h done = tt

-- one of the events is not legal
pub of_wrong : (Told : ℕ → Type 0) (config : Config) (events : List Event) (answer : Result Log RunRefusal)
    (why : RunRefusal)
    (ended : Result Status Stop) → answer ≡ Err why
    → ((n : ℕ) → answer ≡ Err (NotLegal n) → IsFirstWrong config events n)
    → IfOk ended (λ status. (status ≡ Refused) × (n : ℕ) × (why ≡ NotLegal n) × Told n)
    → IfOk ended (IsSim config events)
of_wrong Told config events answer why (Ok status) is_why h told =
    subst (IsSim config events) (sym told.0) (told.1, h told.1 (is_why ∙ ap Err told.2))
of_wrong Told config events answer why (Err stop) is_why h told = tt

-- .. and the events are those that the lines of a text say
pub said_by : (old new : Option (List ℕ)) (ends : Addresses) (remembered : ℕ) (paths : List (List (List ℕ)))
    (text : List ℕ) (events : List Event)
    (ended : Result Status Stop) → EachSays (lines_of text) events → IfOk ended
    (IsSim (sim_config ends remembered paths) events)
    → IfOk ended (λ s. s ≡ Words → IsUnset ends paths)
    → IfOk ended (IsSimOf old new ends remembered paths text)
said_by old new ends remembered paths text events (Ok status) says sim unset = inr (events, says, sim, unset)
said_by old new ends remembered paths text events (Err stop) says sim unset = tt

-- .. or one of them is the first that says none
pub bad_by : {X : Type 0} (old new : Option (List ℕ)) (ends : Addresses) (remembered : ℕ) (paths : List (List (List ℕ)))
    (text : List ℕ)
    (answer : Result X ScriptRefusal) (why : ScriptRefusal) (ended : Result Status Stop) → answer ≡ Err why
    → ((n : ℕ) → answer ≡ Err (Line n) → IsFirstBad SaysEvent (lines_of text) n)
    → IfOk ended (λ s. (s ≡ Words) × (n : ℕ) × (why ≡ Line n) × Appends old new (bad_line_text n))
    → IfOk ended (IsSimOf old new ends remembered paths text)
bad_by old new ends remembered paths text answer why (Ok status) is bad told =
    inl (told.1, bad told.1 (is ∙ ap Err told.2), told.0, told.3)
bad_by old new ends remembered paths text answer why (Err stop) is bad told = tt

-- what a reader had is the text
pub text_of : (known : Option (List ℕ)) (text read before : List ℕ) → text ≡ read → before ≡ []
    → IfSome known (λ xs. read ≡ before ++ xs) → IfSome known (λ xs. text ≡ xs)
text_of None text read before is none h = tt
text_of (Some xs) text read before is none h = is ∙ h ∙ ap (λ b. b ++ xs) none

-- .. which a reader had
known_by : (old new : Option (List ℕ)) (ends : Addresses) (remembered : ℕ) (paths : List (List (List ℕ)))
    (text : List ℕ) (known : Option (List ℕ)) (status : Status)
    → IfSome known (λ xs. text ≡ xs) → IsSimOf old new ends remembered paths text status
    → IfSome known (λ xs. IsSimOf old new ends remembered paths xs status)
known_by old new ends remembered paths text None status is said = tt
known_by old new ends remembered paths text (Some xs) status is said =
    subst (λ (t : List ℕ). IsSimOf old new ends remembered paths t status) is said

pub of_reader : (old new : Option (List ℕ)) (ends : Addresses) (remembered : ℕ) (paths : List (List (List ℕ)))
    (text : List ℕ) (known : Option (List ℕ))
    (ended : Result Status Stop) → IfSome known (λ xs. text ≡ xs) → IfOk ended
    (IsSimOf old new ends remembered paths text)
    → IfOk ended (λ s. IfSome known (λ xs. IsSimOf old new ends remembered paths xs s))
of_reader old new ends remembered paths text known (Ok status) is said = known_by old new ends remembered paths text
    known status is said
of_reader old new ends remembered paths text known (Err stop) is said = tt

-- ---- a run that doesn't begin

-- one that begins comes to no wrong words
pub not_words : (one : Status) (ended : Result Status Stop) → (one ≡ Words → ⊥) → IfOk ended (λ s. s ≡ one)
    → IfOk ended (λ s. s ≡ Words → ⊥)
not_words one (Ok s) other is = λ words. other (sym is ∙ words)
not_words one (Err stop) other is = tt

pub refused_not_words : (Told : ℕ → Type 0) (why : RunRefusal) (ended : Result Status Stop)
    → IfOk ended (λ s. (s ≡ Refused) × (n : ℕ) × (why ≡ NotLegal n) × Told n) → IfOk ended (λ s. s ≡ Words → ⊥)
refused_not_words Told why (Ok s) is = λ words. cc (sym is.0 ∙ words)
refused_not_words Told why (Err stop) is = tt

pub never_words : (P : Type 0) (ended : Result Status Stop) → IfOk ended (λ s. s ≡ Words → ⊥)
    → IfOk ended (λ s. s ≡ Words → P)
never_words P (Ok s) not = λ words. absurd (not words)
never_words P (Err stop) not = tt

pub one_too_many : (paths : List (List (List ℕ))) (i : ℕ) (path : List (List ℕ)) → path ≡ get_or paths i path
    → i < length paths → (plains : List (List (List ℕ))) → plains ≡ each_once (take i paths)
    → may_be_plain path plains ≡ false → AreTooMany paths
one_too_many paths i path is lt plains are full = (
  take i paths,
  path,
  drop (i + 1) paths,
  sym (take-append-drop i paths) ∙ ap (λ rest. take i paths ++ rest) (drop_more paths i path lt)
      ∙ ap (λ y. take i paths ++ y ∷ drop (i + 1) paths) (sym is),
  subst (λ ps. may_be_plain path ps ≡ false) are full,
)

-- What is told of a script is told of its events and its plain paths.
use Rattle.std.proofs.Common.{◌≡◌, ◌∙◌, sym, ℕ, List, refl, Result, Ok, Err, IfOk}
use Rattle.std.specs.Result.{IsErrAnd}
use Rattle.coap_record.specs.Events.{Config, Event}
use Rattle.coap_scripts.specs.Script.{EachSays, lines_of}
use Rattle.coap_scripts.specs.declared.script.refusal.ScriptRefusal.{ScriptRefusal}
use Rattle.coap_scripts.specs.declared.script.refusal.ScriptRefusal.TheVariants as script
use Rattle.coap_page.specs.Plains.{of_paths}
use Rattle.coap_page.specs.Runs.{IsConfigured, IsTold, IsToldOf}
use Rattle.coap_page.specs.declared.configured.NoConfig.{NoConfig}
use Rattle.coap_page.specs.declared.configured.NoConfig.TheVariants as config
use Rattle.coap_page.specs.declared.ended.Ended.{Ended}
use Rattle.coap_page.specs.declared.ended.Ended.TheVariants as ended

pub of_events : (text plains : List ℕ) (c : Config) (events : List Event) (ends : Ended) (told : List ℕ)
    → IsConfigured plains c → EachSays (lines_of text) events → IsToldOf c events ends told
    → IsTold text plains ends told
of_events text plains c events ended.Done told configured says h = (c, configured, events, says, h)
of_events text plains c events ended.Refused told configured says h = (c, configured, events, says, h)
of_events text plains c events ended.Words told configured says h = absurd h
of_events text plains c events ended.Small told configured says h = absurd h
of_events text plains c events ended.Memory told configured says h = absurd h

pub ok_map : {T E : Type 0} (r : Result T E) (P Q : T → Type 0) → ((x : T) → P x → Q x) → IfOk r P → IfOk r Q
ok_map (Ok x) P Q on h = on x h
ok_map (Err e) P Q on h = tt

-- what is refused for the plain paths has a line that says none
pub bad_plain : {T : Type 0} (r : Result T NoConfig) (e : ScriptRefusal) → IsErrAnd r (λ y. y ≡ of_paths e)
    → r ≡ Err config.Plains → (number : ℕ) × (e ≡ script.Line number)
bad_plain (Ok x) e of is = absurd of
bad_plain (Err y) (script.Line number) of is = (number, refl)
bad_plain (Err y) script.Memory of is =
    let named : y ≡ config.Plains = cc in
    let apart : config.Memory ≡ config.Plains = sym of ∙ named in
    absurd cc

-- Lines that say no event.
use Rattle.std.proofs.Common.{◌≡◌, ◌≢◌, ◌∙◌, ◌⊎◌, inl, inr, ap, sym, refl, subst, ◌<◌, ◌^◌, ℕ, List, [], ◌∷◌}
use Rattle.std.proofs.Common.{◌++◌, Result, Ok, Err, IfErr, true≢false}
use Rattle.std.specs.Prelude.{nat_eq}
use Rattle.std.specs.Cmp.Lexicographic.{pointwise}
use Rattle.std.proofs.lemmas.List.Elements.{All-head, All-tail}
use Rattle.hex.specs.Hex.{decode_of}
use Rattle.hex.specs.declared.error.FromHexError.{FromHexError}
use Rattle.hex.specs.declared.error.FromHexError.TheVariants as hex
use Rattle.coap_types.specs.declared.endpoint.Endpoint.{Endpoint}
use Rattle.coap_types.specs.declared.request.Method.{Method}
use Rattle.coap_types.specs.declared.request.Method.TheVariants.{Get, Post, Put, Delete}
use Rattle.coap_client.specs.Trace.{Request}
use Rattle.coap_record.specs.Events.{Event, What, Calls, Observes, Cancels, Forgets, Sets, Removes, TickClient}
use Rattle.coap_record.specs.Events.{TickServer, Deliver, StrangerToClient, StrangerToServer}
use Rattle.coap_run.specs.declared.running.event.Side.{Side}
use Rattle.coap_run.specs.declared.running.event.Side.TheVariants.{Client, Server}
use Rattle.coap_arguments.specs.PathText.{IsNoPath}
use Rattle.coap_scripts.specs.Script.{Begins, NamesPath, SaysEvent, SaysParts, SaysPath, SaysPathAndBody}
use Rattle.coap_scripts.specs.Script.{SaysPortAndBytes, SaysRequest, SaysStranger, SaysWhat}
use Rattle.coap_scripts.specs.ScriptRefusals.{of_hex, of_line}
use Rattle.coap_scripts.specs.ScriptWords.{IsCut, IsWord, Lacks, SaysNumber, kind_word, method_word, side_word}
use Rattle.coap_scripts.specs.declared.script.refusal.LineRefusal.{LineRefusal}
use Rattle.coap_scripts.specs.declared.script.refusal.LineRefusal.TheVariants as line
use Rattle.coap_scripts.specs.declared.script.refusal.ScriptRefusal.{ScriptRefusal}
use Rattle.coap_scripts.specs.declared.script.refusal.ScriptRefusal.TheVariants as script
use Rattle.coap_scripts.specs.declared.script.words.Kind.{Kind}
use Rattle.coap_scripts.specs.declared.script.words.Kind.TheVariants as kind
use Rattle.coap_scripts.proofs.ScriptWords.{cut_has}

-- ---- a text is cut at one place

seam_once : (byte : ℕ) (a x b y : List ℕ) → a ++ byte ∷ x ≡ b ++ byte ∷ y → Lacks byte a → Lacks byte b
    → (a ≡ b) × (x ≡ y)
seam_once byte [] x [] y same la lb = (refl, cc)
seam_once byte [] x (c ∷ cs) y same la lb = absurd (All-head (λ z. z ≢ byte) c cs lb cc)
seam_once byte (c ∷ cs) x [] y same la lb = absurd (All-head (λ z. z ≢ byte) c cs la cc)
seam_once byte (c ∷ cs) x (d ∷ ds) y same la lb =
    let tails : cs ++ byte ∷ x ≡ ds ++ byte ∷ y = cc in
    let heads : c ≡ d = cc in
    let rest = seam_once byte cs x ds y tails (All-tail (λ z. z ≢ byte) c cs la) (All-tail (λ z. z ≢ byte) d ds lb) in
    (cc, rest.1)

pub cut_once : (byte : ℕ) (text a x b y : List ℕ) → IsCut byte text a x → IsCut byte text b y → (a ≡ b) × (x ≡ y)
cut_once byte text a x b y one other = seam_once byte a x b y (sym one.0 ∙ other.0) one.1 other.1

-- what a line begins with, and what comes then
pub begins_at : (text word first rest : List ℕ) (Is : List ℕ → Type 0) → Begins word Is text → IsCut 32 text first rest
    → (word ≡ first) × Is rest
begins_at text word first rest Is begins cut =
    let same = cut_once 32 text word begins.0 first rest begins.1 cut in
    (same.0, subst Is same.1 begins.2)

pub begins_no_word : (text word : List ℕ) (Is : List ℕ → Type 0) → IsWord text → Begins word Is text → ⊥
begins_no_word text word Is lacks begins = cut_has 32 text word begins.0 begins.1 lacks

-- ---- a line is refused for what it lacks

pub no_path : (text : List ℕ) → IsNoPath text → (path : List (List ℕ)) → NamesPath text path → ⊥
no_path text none path says = none path says.0 says.1

pub no_last_path : (text word : List ℕ) → word ≡ text → IsNoPath word → (path : List (List ℕ)) → SaysPath text path → ⊥
no_last_path text word same none path says = no_path word none path (subst (λ t. NamesPath t path) (sym same) says.1)

pub no_path_and_body : (text word rest : List ℕ) → IsCut 32 text word rest → (word ≡ []) ⊎ IsNoPath word
    → (path : List (List ℕ)) (body : List ℕ) → SaysPathAndBody text path body → ⊥
no_path_and_body text word rest cut (inl empty) path body says =
    says.2 ((cut_once 32 text says.0 body word rest says.1 cut).0 ∙ empty)
no_path_and_body text word rest cut (inr none) path body says =
    no_path word none path (subst (λ w. NamesPath w path) (cut_once 32 text says.0 body word rest says.1 cut).0 says.3)

-- methods are named apart
same_method : (a b : Method) → method_word a ≡ method_word b → a ≡ b
same_method Get Get same = refl
same_method Post Post same = refl
same_method Put Put same = refl
same_method Delete Delete same = refl
same_method a b same = absurd (true≢false (sym (ap (λ w. pointwise nat_eq w (method_word b)) same)))

pub no_request_word : (text : List ℕ) → IsWord text → (r : Request) → SaysRequest r text → ⊥
no_request_word text lacks r says = begins_no_word text _ _ lacks says.4

pub no_method : (text word rest : List ℕ) → IsCut 32 text word rest → ((m : Method) → word ≡ method_word m → ⊥)
    → (r : Request) → SaysRequest r text → ⊥
no_method text word rest cut none r says =
    none says.0 (sym (begins_at text _ word rest (SaysParts says.0 says.1 says.2) says.4 cut).0)

pub no_parts : (text word rest : List ℕ) (method : Method) → IsCut 32 text word rest → word ≡ method_word method
    → ((path : List (List ℕ)) (body : List ℕ) → SaysParts method path body rest → ⊥) → (r : Request)
    → SaysRequest r text → ⊥
no_parts text word rest method cut named none r says =
    let at = begins_at text _ word rest (SaysParts says.0 says.1 says.2) says.4 cut in
    let same = same_method says.0 method (at.0 ∙ named) in
    none says.1 says.2 (subst (λ m. SaysParts m says.1 says.2 rest) same at.1)

-- ---- strangers

pub no_side_word : (text : List ℕ) → IsWord text → (side : Side) (from : Endpoint) (bytes : List ℕ)
    → SaysStranger side from bytes text → ⊥
no_side_word text lacks side from bytes says = begins_no_word text _ _ lacks says.2

pub no_side : (text word rest : List ℕ) → IsCut 32 text word rest → ((s : Side) → word ≡ side_word s → ⊥)
    → (side : Side) (from : Endpoint) (bytes : List ℕ) → SaysStranger side from bytes text → ⊥
no_side text word rest cut none side from bytes says =
    none side (sym (begins_at text _ word rest (SaysPortAndBytes from.port bytes) says.2 cut).0)

-- where the rest says no port and bytes
pub no_port_and_bytes : (text word rest : List ℕ) → IsCut 32 text word rest
    → ((port : ℕ) (bytes : List ℕ) → port < 2 ^ 16 → SaysPortAndBytes port bytes rest → ⊥)
    → (side : Side) (from : Endpoint) (bytes : List ℕ) → SaysStranger side from bytes text → ⊥
no_port_and_bytes text word rest cut none side from bytes says =
    none from.port bytes says.1 (begins_at text _ word rest (SaysPortAndBytes from.port bytes) says.2 cut).1

pub no_port_word : (text : List ℕ) → IsWord text → (port : ℕ) (bytes : List ℕ) → port < 2 ^ 16
    → SaysPortAndBytes port bytes text → ⊥
no_port_word text lacks port bytes small says = cut_has 32 text says.0 says.1 says.2 lacks

pub no_port : (text word digits : List ℕ) → IsCut 32 text word digits → ((n : ℕ) → SaysNumber word n → ⊥) → (port : ℕ)
    (bytes : List ℕ) → port < 2 ^ 16 → SaysPortAndBytes port bytes text → ⊥
no_port text word digits cut none port bytes small says =
    let same = cut_once 32 text says.0 says.1 word digits says.2 cut in
    none port (subst (λ w. SaysNumber w port) same.0 says.3)

pub large_port : (text word digits : List ℕ) (n : ℕ) → IsCut 32 text word digits → SaysNumber word n
    → (n < 2 ^ 16 → ⊥) → (port : ℕ) (bytes : List ℕ) → port < 2 ^ 16 → SaysPortAndBytes port bytes text → ⊥
large_port text word digits n cut is large port bytes small says =
    let same = cut_once 32 text says.0 says.1 word digits says.2 cut in
    let said : SaysNumber word port = subst (λ w. SaysNumber w port) same.0 says.3 in
    let one : n ≡ port = sym is.1 ∙ said.1 in
    large (subst (λ m. m < 2 ^ 16) (sym one) small)

pub no_bytes : (text word digits : List ℕ) (e : FromHexError) → IsCut 32 text word digits
    → (e ≡ hex.OutOfMemory) ⊎ (decode_of digits ≡ Err e) → of_hex e ≡ line.Unreadable → (port : ℕ) (bytes : List ℕ)
    → port < 2 ^ 16 → SaysPortAndBytes port bytes text → ⊥
no_bytes text word digits e cut (inl memory) is port bytes small says =
    let apart : line.Memory ≡ line.Unreadable = sym (ap of_hex memory) ∙ is in
    absurd cc
no_bytes text word digits e cut (inr none) is port bytes small says =
    let same = cut_once 32 text says.0 says.1 word digits says.2 cut in
    let both : Err e ≡ Ok bytes = sym none ∙ ap decode_of (sym same.1) ∙ says.4 in
    absurd cc

-- ---- what happens, by its kind

abbrev kind_of : What → Kind
kind_of (Calls r) = kind.Call
kind_of (Observes path) = kind.Observe
kind_of (Cancels number) = kind.Cancel
kind_of (Forgets number) = kind.Forget
kind_of (Sets path format body) = kind.Set
kind_of (Removes path) = kind.Remove
kind_of TickClient = kind.Tick
kind_of TickServer = kind.Tick
kind_of (Deliver number) = kind.Deliver
kind_of (StrangerToClient from bytes) = kind.Stranger
kind_of (StrangerToServer from bytes) = kind.Stranger

-- what comes after the word of its kind
abbrev After : What → List ℕ → Type 0
After (Calls r) rest = SaysRequest r rest
After (Observes path) rest = SaysPath rest path
After (Cancels number) rest = SaysNumber rest number
After (Forgets number) rest = SaysNumber rest number
After (Sets path format body) rest = SaysPathAndBody rest path body
After (Removes path) rest = SaysPath rest path
After TickClient rest = rest ≡ side_word Client
After TickServer rest = rest ≡ side_word Server
After (Deliver number) rest = SaysNumber rest number
After (StrangerToClient from bytes) rest = SaysStranger Client from bytes rest
After (StrangerToServer from bytes) rest = SaysStranger Server from bytes rest

says_kind : (w : What) (text : List ℕ) → SaysWhat w text → Begins (kind_word (kind_of w)) (After w) text
says_kind (Calls r) text says = says
says_kind (Observes path) text says = says
says_kind (Cancels number) text says = says
says_kind (Forgets number) text says = says
says_kind (Sets path format body) text says = says.1
says_kind (Removes path) text says = says
says_kind TickClient text says = says
says_kind TickServer text says = says
says_kind (Deliver number) text says = says
says_kind (StrangerToClient from bytes) text says = says
says_kind (StrangerToServer from bytes) text says = says

-- kinds are named apart
same_kind : (a b : Kind) → kind_word a ≡ kind_word b → a ≡ b
same_kind kind.Call kind.Call same = refl
same_kind kind.Observe kind.Observe same = refl
same_kind kind.Cancel kind.Cancel same = refl
same_kind kind.Forget kind.Forget same = refl
same_kind kind.Set kind.Set same = refl
same_kind kind.Remove kind.Remove same = refl
same_kind kind.Tick kind.Tick same = refl
same_kind kind.Deliver kind.Deliver same = refl
same_kind kind.Stranger kind.Stranger same = refl
same_kind a b same = absurd (true≢false (sym (ap (λ w. pointwise nat_eq w (kind_word b)) same)))

-- nothing of this kind has such a rest
abbrev pub NoneOf : Kind → List ℕ → Type 0
NoneOf k rest = (w : What) → kind_of w ≡ k → After w rest → ⊥

pub none_call : (rest : List ℕ) → ((r : Request) → SaysRequest r rest → ⊥) → NoneOf kind.Call rest
none_call rest none (Calls r) is says = none r says
none_call rest none w is says = absurd cc

pub none_observe : (rest : List ℕ) → ((path : List (List ℕ)) → SaysPath rest path → ⊥) → NoneOf kind.Observe rest
none_observe rest none (Observes path) is says = none path says
none_observe rest none w is says = absurd cc

pub none_cancel : (rest : List ℕ) → ((n : ℕ) → SaysNumber rest n → ⊥) → NoneOf kind.Cancel rest
none_cancel rest none (Cancels n) is says = none n says
none_cancel rest none w is says = absurd cc

pub none_forget : (rest : List ℕ) → ((n : ℕ) → SaysNumber rest n → ⊥) → NoneOf kind.Forget rest
none_forget rest none (Forgets n) is says = none n says
none_forget rest none w is says = absurd cc

pub none_set : (rest : List ℕ) → ((path : List (List ℕ)) (body : List ℕ) → SaysPathAndBody rest path body → ⊥)
    → NoneOf kind.Set rest
none_set rest none (Sets path format body) is says = none path body says
none_set rest none w is says = absurd cc

pub none_remove : (rest : List ℕ) → ((path : List (List ℕ)) → SaysPath rest path → ⊥) → NoneOf kind.Remove rest
none_remove rest none (Removes path) is says = none path says
none_remove rest none w is says = absurd cc

pub none_tick : (rest : List ℕ) → ((s : Side) → rest ≡ side_word s → ⊥) → NoneOf kind.Tick rest
none_tick rest none TickClient is says = none Client says
none_tick rest none TickServer is says = none Server says
none_tick rest none w is says = absurd cc

pub none_deliver : (rest : List ℕ) → ((n : ℕ) → SaysNumber rest n → ⊥) → NoneOf kind.Deliver rest
none_deliver rest none (Deliver n) is says = none n says
none_deliver rest none w is says = absurd cc

pub none_stranger : (rest : List ℕ)
    → ((side : Side) (from : Endpoint) (bytes : List ℕ) → SaysStranger side from bytes rest → ⊥)
    → NoneOf kind.Stranger rest
none_stranger rest none (StrangerToClient from bytes) is says = none Client from bytes says
none_stranger rest none (StrangerToServer from bytes) is says = none Server from bytes says
none_stranger rest none w is says = absurd cc

pub no_what_word : (text : List ℕ) → IsWord text → (w : What) → SaysWhat w text → ⊥
no_what_word text lacks w says = begins_no_word text _ _ lacks (says_kind w text says)

pub no_kind : (text word rest : List ℕ) → IsCut 32 text word rest → ((k : Kind) → word ≡ kind_word k → ⊥) → (w : What)
    → SaysWhat w text → ⊥
no_kind text word rest cut none w says =
    none (kind_of w) (sym (begins_at text _ word rest (After w) (says_kind w text says) cut).0)

pub no_what : (text word rest : List ℕ) (k : Kind) → IsCut 32 text word rest → word ≡ kind_word k → NoneOf k rest
    → (w : What) → SaysWhat w text → ⊥
no_what text word rest k cut named none w says =
    let at = begins_at text _ word rest (After w) (says_kind w text says) cut in
    none w (same_kind (kind_of w) k (at.0 ∙ named)) at.1

-- ---- a line, and the script that has it

pub no_event_word : (text : List ℕ) → IsWord text → (e : Event) → SaysEvent e text → ⊥
no_event_word text lacks e says = begins_no_word text _ _ lacks says.3

pub no_moment : (text word rest : List ℕ) → IsCut 32 text word rest → ((n : ℕ) → SaysNumber word n → ⊥) → (e : Event)
    → SaysEvent e text → ⊥
no_moment text word rest cut none e says =
    none e.at (subst (λ w. SaysNumber w e.at) (begins_at text _ word rest (SaysWhat e.what) says.3 cut).0 says.2)

pub nothing_happens : (text word rest : List ℕ) → IsCut 32 text word rest → ((w : What) → SaysWhat w rest → ⊥)
    → (e : Event) → SaysEvent e text → ⊥
nothing_happens text word rest cut none e says =
    none e.what (begins_at text _ word rest (SaysWhat e.what) says.3 cut).1

-- the line that is named is the one that can't be read
of_this_line : (number n : ℕ) (e : LineRefusal) → of_line number e ≡ script.Line n
    → (number ≡ n) × (e ≡ line.Unreadable)
of_this_line number n line.Unreadable is = (cc, refl)
of_this_line number n line.Memory is = absurd cc

pub named_line : {T : Type 0} (r : ScriptRefusal) (number n : ℕ) (e : LineRefusal) → r ≡ of_line number e
    → ◌≡◌ {A = Result T ScriptRefusal} (Err r) (Err (script.Line n)) → (number ≡ n) × (e ≡ line.Unreadable)
named_line r number n e of is =
    let one : r ≡ script.Line n = cc in
    of_this_line number n e (sym of ∙ one)

-- the parts of a request are those of its method
pub of_method : {T : Type 0} (r : Result T LineRefusal) (method m : Method) (text : List ℕ) → method ≡ m
    → IfErr r (λ e. e ≡ line.Unreadable → (path : List (List ℕ)) (body : List ℕ) → SaysParts m path body text → ⊥)
    → IfErr r (λ e. e ≡ line.Unreadable → (path : List (List ℕ)) (body : List ℕ)
    → SaysParts method path body text → ⊥)
of_method r method m text is h =
    subst (λ k. IfErr r (λ e. e ≡ line.Unreadable → (path : List (List ℕ)) (body : List ℕ)
    → SaysParts k path body text → ⊥)) (sym is) h

-- ---- paths

-- a word that is refused so says no path
pub only_unreadable : (e : LineRefusal) (word : List ℕ) → e ≡ line.Unreadable
    → (e ≡ line.Memory) ⊎ ((e ≡ line.Unreadable) × IsNoPath word) → IsNoPath word
only_unreadable e word is (inl memory) =
    let apart : line.Memory ≡ line.Unreadable = sym memory ∙ is in
    absurd cc
only_unreadable e word is (inr h) = h.1

pub no_path_word : (text : List ℕ) → IsWord text → (path : List (List ℕ)) (body : List ℕ)
    → SaysPathAndBody text path body → ⊥
no_path_word text lacks path body says = cut_has 32 text says.0 body says.1 lacks

pub no_last_word : (text : List ℕ) → (IsWord text → ⊥) → (path : List (List ℕ)) → SaysPath text path → ⊥
no_last_word text none path says = none says.0

pub path_refused : {T : Type 0} (r : Result T LineRefusal) (text word : List ℕ) → word ≡ text
    → IfErr r (λ e. (e ≡ line.Memory) ⊎ ((e ≡ line.Unreadable) × IsNoPath word))
    → IfErr r (λ e. e ≡ line.Unreadable → (path : List (List ℕ)) → SaysPath text path → ⊥)
path_refused (Ok x) text word same h = tt
path_refused (Err e) text word same h = λ is. no_last_path text word same (only_unreadable e word is h)

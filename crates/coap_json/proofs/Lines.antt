-- The tokens of an object are those of its members, in order; and a line is read as its value.
use Rattle.std.proofs.Common.{◌≡◌, ◌≤◌, ◌<◌, ◌+◌, ℕ, suc, Bool, true, false, if◌then◌else◌, List, [], ◌∷◌, ◌++◌, length}
use Rattle.std.proofs.Common.{Option, Some, None, Result, IfOk, codes, refl, sym, ap, subst, ◌∙◌, append_assoc}
use Rattle.std.proofs.Common.{append-nil}
use Rattle.std.proofs.Common.{option_and_then, arith, get_or, drop, drop-cons, add-one}
use Rattle.std.proofs.lemmas.Result.{IfOk-weaker}
use Rattle.std.proofs.lemmas.Str.{IsUtf8-from_is_utf8, is_utf8-from_IsUtf8}
use Rattle.std.specs.Str.{IsUtf8, is_utf8}
use Rattle.json.specs.Json.{Json, value, document, if_last, max_depth, string}
use Rattle.json.specs.Lex.{tokens}
use Rattle.json.specs.Print.{print}
use Rattle.json.specs.Token.{Token, begin_object, end_object, key}
use Rattle.json.specs.Tree.{depth, items_tokens, json_tokens, members_depth, members_tokens}
use Rattle.json.specs.Written.{Written}
use Rattle.json.proofs.Printed.Trees.{value-json_tokens}
use Rattle.coap_json.specs.LinkObjects.{parameter_items, parameter_object}
use Rattle.coap_json.specs.Objects.{Field, IsLineOf, content_field, head_fields, hex, members_of, object_of}
use Rattle.coap_json.specs.Objects.{told_object}
use Rattle.coap_json.specs.Written.{AddsFields, fields_tokens}
use Rattle.coap_json.specs.declared.links.Parameter.{Parameter}

pub fields_tokens-append : (a b : List Field) → fields_tokens (a ++ b) ≡ fields_tokens a ++ fields_tokens b
fields_tokens-append [] b = refl
fields_tokens-append (f ∷ fs) b =
    ap (λ ts. key f.0 ∷ (json_tokens f.1 ++ ts)) (fields_tokens-append fs b)
    ∙ ap (λ ts. key f.0 ∷ ts) (sym (append_assoc (json_tokens f.1) (fields_tokens fs) (fields_tokens b)))

pub members_tokens-members_of : (fs : List Field) → members_tokens (members_of fs) ≡ fields_tokens fs ++ end_object ∷ []
members_tokens-members_of [] = refl
members_tokens-members_of (f ∷ fs) =
    ap (λ ts. key f.0 ∷ (json_tokens f.1 ++ ts)) (members_tokens-members_of fs)
    ∙ ap (λ ts. key f.0 ∷ ts) (sym (append_assoc (json_tokens f.1) (fields_tokens fs) (end_object ∷ [])))

-- the tokens of an object that tells something: those of its head, of the other members, and the end
pub told-tokens : (ms : ℕ) (name : List ℕ) (fields : List Field) (ts : List Token)
    → ts ≡ (begin_object ∷ fields_tokens (head_fields ms name)) ++ fields_tokens fields
    → ts ++ end_object ∷ [] ≡ json_tokens (told_object ms name fields)
told-tokens ms name fields ts h =
    ap (λ us. us ++ end_object ∷ []) (h ∙ ap (λ us. begin_object ∷ us) (sym (fields_tokens-append
    (head_fields ms name) fields)))
    ∙ ap (λ us. begin_object ∷ us) (sym (members_tokens-members_of (head_fields ms name ++ fields)))

-- a text that has the tokens of a value is read as the value
pub document_of_tokens : (j : Json) → depth j ≤ max_depth → tokens (print (json_tokens j)) ≡ json_tokens j
    → document (print (json_tokens j)) ≡ Some j
document_of_tokens j shallow same =
    let parsed =
    subst (λ ts. value max_depth ts ≡ Some (j, [])) (append-nil (json_tokens j))
    (value-json_tokens j max_depth [] shallow)
    in
    ap (λ ts. option_and_then (λ p. if_last p.0 p.1) (value max_depth ts)) same
    ∙ ap (option_and_then (λ p. if_last p.0 p.1)) parsed

pub line_of_tokens : (line before : List ℕ) (ts : List Token) (j : Json)
    → before ≡ [] → ts ≡ json_tokens j → depth j ≤ max_depth
    → line ≡ (before ++ print ts) ++ 10 ∷ [] → tokens (print ts) ≡ ts → IsLineOf line j
line_of_tokens line before ts j none same shallow text reads = record {
  text = text ∙ ap (λ b. (b ++ print ts) ++ 10 ∷ []) none ∙ ap (λ us. print us ++ 10 ∷ []) same;
  reads = document_of_tokens j shallow (subst (λ us. tokens (print us) ≡ us) same reads);
}

pub told-depth : (ms : ℕ) (name : List ℕ) (fields : List Field) → members_depth (members_of fields) ≤ 2
    → depth (told_object ms name fields) ≤ max_depth
told-depth ms name fields few = omega arith

-- the line of an object that tells something: its head is written, then its other members, then its end
pub told_is_line : {V E : Type 0} (items : V → List ℕ) (r : Result V E) (first before : List ℕ) (head ts : List Token)
    (ms : ℕ) (said name : List ℕ) (fields : List Field) → said ≡ name → first ≡ []
    → head ≡ begin_object ∷ fields_tokens (head_fields ms said)
    → before ≡ first → ts ≡ head ++ fields_tokens fields
    → members_depth (members_of fields) ≤ 2
    → IfOk r (λ v. (j : Json) → before ≡ [] → ts ++ end_object ∷ [] ≡ json_tokens j → depth j ≤ max_depth
    → IsLineOf (items v) j)
    → IfOk r (λ v. IsLineOf (items v) (told_object ms name fields))
told_is_line items r first before head ts ms said name fields e none begun kept added few ended =
    let written =
    added ∙ ap (λ us. us ++ fields_tokens fields)
    (begun ∙ ap (λ n. begin_object ∷ fields_tokens (head_fields ms n)) e)
    in
    IfOk-weaker r _ _
    (λ v h. h (told_object ms name fields) (kept ∙ none) (told-tokens ms name fields ts written)
    (told-depth ms name fields few))
    ended

pub content_is_text : {E : Type 0} (r : Result (Unit {0}) E) (old new : Written) (bytes text : List ℕ)
    → text ≡ bytes → IsUtf8 bytes → AddsFields r old new ((codes "text", string text) ∷ [])
    → AddsFields r old new (content_field bytes ∷ [])
content_is_text r old new bytes text same utf8 h =
    let choice : Bool → Field = λ b. if b then (codes "text", string bytes) else (codes "hex", hex bytes) in
    let chosen = ap choice (is_utf8-from_IsUtf8 bytes utf8) in
    let field : (codes "text", string text) ≡ content_field bytes =
    ap (λ t. (codes "text", string t)) same ∙ sym chosen
    in
    subst (λ (f : Field). AddsFields r old new (f ∷ [])) field h

no_utf8 : (bytes : List ℕ) → ¬ IsUtf8 bytes → is_utf8 bytes ≡ false
no_utf8 bytes not =
    elim (is_utf8 bytes) as (λ b. is_utf8 bytes ≡ b → b ≡ false)
    [ true ↦ λ e. absurd (not (IsUtf8-from_is_utf8 bytes e)) | false ↦ λ e. refl ] refl

pub content_is_hex : {E : Type 0} (r : Result (Unit {0}) E) (old new : Written) (bytes : List ℕ)
    → ¬ IsUtf8 bytes → AddsFields r old new ((codes "hex", hex bytes) ∷ [])
    → AddsFields r old new (content_field bytes ∷ [])
content_is_hex r old new bytes not h =
    let choice : Bool → Field = λ b. if b then (codes "text", string bytes) else (codes "hex", hex bytes) in
    subst (λ (f : Field). AddsFields r old new (f ∷ [])) (sym (ap choice (no_utf8 bytes not))) h

-- one parameter more is written
pub parameters_on : (ps : List Parameter) (i : ℕ) (p : Parameter) (all w v : List Token) → i < length ps
    → get_or ps i p ≡ p → all ≡ w ++ items_tokens (parameter_items (drop i ps))
    → v ≡ w ++ json_tokens (parameter_object p)
    → all ≡ v ++ items_tokens (parameter_items (drop (i + 1) ps))
parameters_on ps i p all w v within is before added =
    let rest = items_tokens (parameter_items (drop (suc i) ps)) in
    let first : drop i ps ≡ p ∷ drop (suc i) ps =
    drop-cons ps i p within ∙ ap (λ q. q ∷ drop (suc i) ps) is
    in
    before
    ∙ ap (λ qs. w ++ items_tokens (parameter_items qs)) first
    ∙ sym (append_assoc w (json_tokens (parameter_object p)) rest)
    ∙ ap (λ ts. ts ++ rest) (sym added)
    ∙ ap (λ k. v ++ items_tokens (parameter_items (drop k ps))) (sym (add-one i))

-- How the record of a run is shown to hold a body for the last time so long ago.
use Rattle.std.proofs.Common.{◌≡◌, ◌≤◌, ◌<◌, ◌+◌, inl, inr, ⊎_elim, ℕ, nat_le, Bool, true, false, ◌&&◌, ◌||◌, not}
use Rattle.std.proofs.Common.{Option, Some, None, List, [], ◌∷◌, ◌++◌, ap, sym, subst, ◌∙◌, arith}
use Rattle.std.proofs.lemmas.Bool.{and_parts, or_cases, leb-true}
use Rattle.std.specs.Cmp.Lexicographic.{pointwise, bytes_decides}
use Rattle.std.specs.Prelude.{nat_eq}
use Rattle.coap_types.specs.Past.{Sometime}
use Rattle.coap_types.specs.Path.{same_path}
use Rattle.coap_types.proofs.Facts.Paths.{same_path-decides}
use Rattle.coap_resource.specs.Content.{Held}
use Rattle.coap_client.specs.Sendings.{Taken, WasTaken, takes}
use Rattle.coap_client.specs.Trace as C
use Rattle.coap_record.specs.Events.{Config}
use Rattle.coap_promise.specs.Fresh.{Has}
use Rattle.coap_promise.specs.Held.{HeldSince}
use Rattle.coap_record.specs.Record.{Entry, Turn, client_of, entries_of}
use Rattle.coap_promise.specs.Words.{last_at}

module _ (config : Config) (path : List (List ℕ)) (number : ℕ) (tag : Option (List ℕ)) (format : Option ℕ)
    (body : List ℕ) where
  -- the calls that are taken are of this path

  abbrev is_of_path : Option Taken → Bool
  is_of_path None = true
  is_of_path (Some x) = same_path x.request.path path

  abbrev of_path : List C.Call → Bool
  of_path [] = true
  of_path (c ∷ past) = is_of_path (takes c) && of_path past

  path_is : (o : Option Taken) → is_of_path o ≡ true → (x : Taken) → o ≡ Some x → x.request.path ≡ path
  path_is None h x is = absurd (cc is)
  path_is (Some y) h x is =
      let same : x ≡ y = cc is in
      ap (λ (z : Taken). z.request.path) same ∙ (same_path-decides y.request.path path).0 h

  called_there : (calls : List C.Call) → of_path calls ≡ true → (x : Taken) → WasTaken x calls → x.request.path ≡ path
  called_there [] h x was = absurd was
  called_there (c ∷ past) h x (inl here) = path_is (takes c) (and_parts _ _ h).0 x here
  called_there (c ∷ past) h x (inr was) = called_there past (and_parts _ _ h).1 x was

  -- the path holds another body, or nothing

  abbrev is_other : Option Held → Bool
  is_other None = true
  is_other (Some held) = not (pointwise nat_eq held.body body)

  other : (o : Option Held) → is_other o ≡ true → (version : ℕ)
      → o ≡ Some (record { version = version; format = format; body = body }) → ⊥
  other None h version is = absurd (cc is)
  other (Some held) h version is =
      let as_held : held ≡ record { version = version; format = format; body = body } = cc is in
      let same = (bytes_decides held.body body).1 (ap (λ (x : Held). x.body) as_held) in
      let e : false ≡ true = sym (ap not same) ∙ h in cc e

  -- so it was not held at any of these entries, behind those before them

  abbrev none_holds : List Entry → List Entry → Bool
  none_holds [] before = true
  none_holds (e ∷ earlier) before =
      (is_other (last_at config path (e ∷ (earlier ++ before))) && of_path (client_of (earlier ++ before)))
      && none_holds earlier before

  none_held : (entries before : List Entry) → none_holds entries before ≡ true
      → Sometime (λ earlier e. HeldSince config number tag format body (earlier ++ before) e) entries → ⊥
  none_held [] before h held = held
  none_held (e ∷ earlier) before h (inl held) =
      let k = and_parts _ _ (and_parts _ _ h).0 in
      let there = called_there (client_of (earlier ++ before)) k.1 (record { number = number; request = held.request })
      held.called in
      other (last_at config path (e ∷ (earlier ++ before))) k.0 held.version
      (subst (λ p. last_at config p (e ∷ (earlier ++ before))
      ≡ Some (record { version = held.version; format = format; body = body })) there held.holds.there)
  none_held (e ∷ earlier) before h (inr held) = none_held earlier before (and_parts _ _ h).1 held

  module _ (shown : List Turn → Turn → ℕ) (now oldest : ℕ) where
    -- each of these turns is so long ago, or it was not held then
    abbrev pub all_old : List Turn → Bool
    all_old [] = true
    all_old (turn ∷ past) =
        (nat_le (shown past turn + oldest) now || none_holds turn.entries (entries_of past)) && all_old past

    pub none_young : (age : ℕ) → age < oldest → (turns : List Turn) → all_old turns ≡ true
        → Sometime (λ before other. Has (HeldSince config number tag format body) before other
        × (now ≤ shown before other + age)) turns → ⊥
    none_young age less [] h young = young
    none_young age less (turn ∷ past) h (inl young) = ⊎_elim
        (λ old. let k = leb-true (shown past turn + oldest) now old in let y = young.1 in absurd (omega
        (arith, k, y, less)))
        (λ none. none_held turn.entries (entries_of past) none young.0) (or_cases _ _ (and_parts _ _ h).0)
    none_young age less (turn ∷ past) h (inr young) = none_young age less past (and_parts _ _ h).1 young

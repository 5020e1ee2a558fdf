-- Why a first record isn't read.
use Rattle.std.proofs.Common.{◌≡◌, ◌≢◌, ◌∙◌, ◌<◌, ◌^◌, ◌++◌, ◌∷◌, ◌-◌, ◌≤◌, ℕ, List, [], ap, append_assoc}
use Rattle.std.proofs.Common.{arith, drop, get_or, length, sym, take, take_all}
use Rattle.coap_journal.specs.Numbers.{number, short}
use Rattle.coap_journal.specs.Records.{IsConfiguration, IsUnread, beginning_bytes, configuration_bytes, life_bytes}
use Rattle.coap_journal.specs.Records.{seed_bytes}
use Rattle.coap_journal.specs.declared.beginning.BeginError.TheVariants.{OtherFormat, OtherLaw, Unreadable}
use Rattle.coap_journal.specs.declared.beginning.Beginning.{Beginning}
use Rattle.coap_journal.specs.declared.beginning.Life.{Life}
use Rattle.coap_journal.proofs.Written.{after_versions, short_first}

tail_is : (xs ys : List ℕ) → 7 ∷ xs ≡ 7 ∷ ys → xs ≡ ys
tail_is xs ys e = cc

-- the numbers of the format and of the law stand in front
pub versions_stand : (b : Beginning) (l : Life) → beginning_bytes b ++ life_bytes l
    ≡ short 1 ++ (short 1
    ++ ((configuration_bytes b.configuration ++ (seed_bytes b.seed ++ number b.base)) ++ life_bytes l))
versions_stand b l =
    let parts = configuration_bytes b.configuration ++ (seed_bytes b.seed ++ number b.base) in
    append_assoc (short 1) (short 1 ++ parts) (life_bytes l)
    ∙ ap (λ (xs : List ℕ). short 1 ++ xs) (append_assoc (short 1) parts (life_bytes l))

pub other_format : (bytes behind : List ℕ) (n : ℕ) → n < 2 ^ 32 → n ≢ 1 → bytes ≡ short n ++ behind
    → IsUnread (7 ∷ bytes) (OtherFormat n)
other_format bytes behind n few ne e = (ne, (few, behind, ap (λ (xs : List ℕ). 7 ∷ xs) e))

pub other_law : (bytes behind rest : List ℕ) (n : ℕ) → n < 2 ^ 32 → n ≢ 1 → bytes ≡ short 1 ++ behind
    → behind ≡ short n ++ rest → IsUnread (7 ∷ bytes) (OtherLaw n)
other_law bytes behind rest n few ne e f =
    (ne, (few, rest, ap (λ (xs : List ℕ). 7 ∷ xs) (e ∙ ap (λ (xs : List ℕ). short 1 ++ xs) f)))

pub no_format : (bytes : List ℕ) → ((n : ℕ) (rest : List ℕ) → bytes ≡ short n ++ rest → ⊥)
    → IsUnread (7 ∷ bytes) Unreadable
no_format bytes none = (
  λ n ne h. none n h.1 (tail_is bytes (short n ++ h.1) h.2),
  λ n ne h. none 1 (short n ++ h.1) (tail_is bytes (short 1 ++ (short n ++ h.1)) h.2),
  λ b l ok e. none 1
      (short 1 ++ ((configuration_bytes b.configuration ++ (seed_bytes b.seed ++ number b.base)) ++ life_bytes l))
      (tail_is bytes (beginning_bytes b ++ life_bytes l) e ∙ versions_stand b l),
)

-- the format is this one; no other stands there
this_format : (bytes behind : List ℕ) (n : ℕ) → bytes ≡ short 1 ++ behind → n ≢ 1
    → (n < 2 ^ 32) × (rest : List ℕ) × (7 ∷ bytes ≡ 7 ∷ (short n ++ rest)) → ⊥
this_format bytes behind n e ne h =
    ne (sym (short_first 1 n behind h.1 (omega arith) h.0 (sym e ∙ tail_is bytes (short n ++ h.1) h.2)).0)

pub no_law : (bytes behind : List ℕ) → bytes ≡ short 1 ++ behind
    → ((n : ℕ) (rest : List ℕ) → behind ≡ short n ++ rest → ⊥) → IsUnread (7 ∷ bytes) Unreadable
no_law bytes behind e none =
    let after : (xs : List ℕ) → bytes ≡ short 1 ++ xs → behind ≡ xs =
    λ xs is. (short_first 1 1 behind xs (omega arith) (omega arith) (sym e ∙ is)).1 in (
      λ n ne h. this_format bytes behind n e ne h,
      λ n ne h. none n h.1 (after (short n ++ h.1) (tail_is bytes (short 1 ++ (short n ++ h.1)) h.2)),
      λ b l ok is. none 1
          ((configuration_bytes b.configuration ++ (seed_bytes b.seed ++ number b.base)) ++ life_bytes l)
          (after
          (short 1 ++ ((configuration_bytes b.configuration ++ (seed_bytes b.seed ++ number b.base)) ++ life_bytes l))
          (tail_is bytes (beginning_bytes b ++ life_bytes l) is ∙ versions_stand b l)),
    )

pub no_parts : (bytes behind : List ℕ) → bytes ≡ short 1 ++ (short 1 ++ behind)
    → ((b : Beginning) (l : Life) → IsConfiguration b.configuration
    → behind ≡ configuration_bytes b.configuration ++ (seed_bytes b.seed ++ (number b.base ++ life_bytes l)) → ⊥)
    → IsUnread (7 ∷ bytes) Unreadable
no_parts bytes behind e none = (
  λ n ne h. this_format bytes (short 1 ++ behind) n e ne h,
  λ n ne h. ne (sym (short_first 1 n behind h.1 (omega arith) h.0
      (short_first 1 1 (short 1 ++ behind) (short n ++ h.1) (omega arith) (omega arith)
      (sym e ∙ tail_is bytes (short 1 ++ (short n ++ h.1)) h.2)).1).0),
  λ b l ok is. none b l ok
      (after_versions bytes behind b l e (tail_is bytes (beginning_bytes b ++ life_bytes l) is)),
)

-- the first byte, and those behind it
pub front_is : (bytes : List ℕ) (x : ℕ) → 1 ≤ length bytes → get_or bytes 0 0 ≡ x
    → x ∷ take (length bytes - 1) (drop 1 bytes) ≡ bytes
front_is [] x some e = absurd (omega (arith, some))
front_is (y ∷ bytes) x some e =
    ap (λ (xs : List ℕ). x ∷ xs) (take_all (length (y ∷ bytes) - 1) bytes (omega arith))
    ∙ ap (λ (z : ℕ). z ∷ bytes) (sym e)

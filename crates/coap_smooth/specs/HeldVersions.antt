-- The versions of what a path holds: they rise, each is that of a change, and in a smooth run each is, from the base
-- on, its own sequence number (RFC 7252, section 5.10.6; RFC 7641, section 4.4).
use Rattle.std.specs.Prelude.{◌≡◌, ◌≤◌, ◌<◌, ℕ, ◌+◌, ◌^◌, Some, List, ◌++◌}
use Rattle.coap_observe.specs.Versions.{sequence_number}
use Rattle.coap_resource.specs.Content.{Held}
use Rattle.coap_record.specs.Events.{Config}
use Rattle.coap_record.specs.Record.{Entry}
use Rattle.coap_promise.specs.Words.{holds_at, changes_in}

-- the one is the other, or has a later version
pub record IsOrFollows (b a : Held) : Type 0 where
  pub rises : a.version ≤ b.version
  pub same : a.version ≡ b.version → a ≡ b

module _ (config : Config) where
  -- what a path holds behind some entries, and behind more of them
  abbrev pub VersionsRise : List Entry → Type 0
  VersionsRise all =
      (path : List (List ℕ)) (newest newer older : List Entry) (a b : Held) → all ≡ newest ++ (newer ++ older)
      → holds_at config path older ≡ Some a → holds_at config path (newer ++ older) ≡ Some b → IsOrFollows b a

  -- its version comes after the base, and is at most that of the last change so far, and of the last of all
  pub record IsCounted (held : Held) (older all : List Entry) : Type 0 where
    pub after_base : config.limits.base < held.version
    pub so_far : held.version ≤ changes_in config older
    pub in_all : held.version ≤ changes_in config all

  abbrev pub VersionsAreCounted : List Entry → Type 0
  VersionsAreCounted all = (path : List (List ℕ)) (newer older : List Entry) (held : Held) → all ≡ newer ++ older
      → holds_at config path older ≡ Some held → IsCounted held older all

  -- it comes after the base, by less than half of the sequence numbers, and so by its own
  pub record IsNumber (held : Held) : Type 0 where
    pub after_base : config.limits.base < held.version
    pub low : held.version < config.limits.base + 2 ^ 23
    pub is : config.limits.base + sequence_number held.version ≡ held.version

  abbrev pub VersionsAreNumbers : List Entry → Type 0
  VersionsAreNumbers all = (path : List (List ℕ)) (newer older : List Entry) (held : Held) → all ≡ newer ++ older
      → holds_at config path older ≡ Some held → IsNumber held

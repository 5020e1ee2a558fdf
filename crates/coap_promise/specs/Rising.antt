-- The values of an observation have rising versions (RFC 7641, sections 1.3 and 3.4).
use Rattle.std.specs.Prelude.{◌≡◌, ◌<◌, ◌^◌, ℕ, Option, Some, List, ◌∷◌}
use Rattle.coap_types.specs.Past.{Sometime, Always}
use Rattle.coap_resource.specs.Content.{Held}
use Rattle.coap_resource.specs.RequestOptions.{tag_of}
use Rattle.coap_client.specs.Trace.{Value}
use Rattle.coap_record.specs.Events.{Config}
use Rattle.coap_record.specs.Record.{Entry}
use Rattle.coap_promise.specs.Words.{ReportsAt, last_at}

-- the tag names this version, of 64 bits
pub record Names (version : ℕ) (tag : Option (List ℕ)) : Type 0 where
  pub small : version < 2 ^ 64
  pub is : tag ≡ Some (tag_of version)

-- Each of the tags names a version, and that of the second is the greater one.
pub record AreRising (first second : Option (List ℕ)) : Type 0 where
  pub older : ℕ
  pub newer : ℕ
  pub first_is : Names older first
  pub second_is : Names newer second
  pub rises : older < newer
  -- .. whatever they name
  pub always : (v w : ℕ) → Names v first → Names w second → v < w

module _ (config : Config) where
  -- a value of the observation is reported, with this tag
  pub record ShowsValue (number : ℕ) (tag : Option (List ℕ)) (past : List Entry) (e : Entry) : Type 0 where
    pub sequence : ℕ
    pub format : Option ℕ
    pub body : List ℕ
    pub here : ReportsAt config (record { number = number; report = Value sequence tag format body }) past e

  -- Of two values of one observation the later one has the later version.
  abbrev pub ValuesRise : List Entry → Type 0
  ValuesRise all = Always (λ past e. (number : ℕ) (first second : Option (List ℕ)) → ShowsValue number second past e
      → Sometime (ShowsValue number first) past → AreRising first second) all

  -- What a path holds, at any position, its entity-tag names.
  abbrev pub HeldAreNamed : List Entry → Type 0
  HeldAreNamed all = Always (λ past e. (path : List (List ℕ)) (held : Held) → last_at config path (e ∷ past) ≡ Some held
      → Names held.version (Some (tag_of held.version))) all

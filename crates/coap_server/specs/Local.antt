-- Changes that a server is told of on its own side (RFC 7252, section 5.8; RFC 7641, section 4.2).
use Rattle.std.specs.Prelude.{◌≡◌, ℕ, ◌+◌, Bool, true, false, Option, Some, None, List, Result, Ok, Err}
use Rattle.coap_resource.specs.Content.{Content, Held, Changes, later}
use Rattle.coap_resource.specs.declared.refusal.StoreRefusal.{StoreRefusal}

abbrev pub SetsBy : Option StoreRefusal → Content → ℕ → List (List ℕ) → Option ℕ → List ℕ → Result ℕ StoreRefusal
    → Content → Type 0
SetsBy (Some why) old at path format body answer left = (answer ≡ Err why) × (left ≡ later old at)
SetsBy None old at path format body answer left =
    (answer ≡ Ok (old.tally.version + 1)) × Changes old at path
    (Some (record { version = old.tally.version + 1; format = format; body = body })) left

abbrev pub RemovesBy : Option Held → Option StoreRefusal → Content → ℕ → List (List ℕ) → Result Bool StoreRefusal
    → Content → Type 0
RemovesBy None why old at path answer left = (answer ≡ Ok false) × (left ≡ later old at)
RemovesBy (Some held) (Some why) old at path answer left = (answer ≡ Err why) × (left ≡ later old at)
RemovesBy (Some held) None old at path answer left = (answer ≡ Ok true) × Changes old at path None left

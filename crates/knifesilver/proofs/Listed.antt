-- A path that is listed holds something.
use Rattle.std.proofs.Common.{◌≡◌, ℕ, true, Option, Some, None, List, is_some, slice_get, sym}
use Rattle.coap_resource.specs.Content.{Content, Held, Lists}
use Rattle.coap_resource.proofs.Facts.Listing.{held_at}

some_is_not_none : (held : Option Held) → None ≡ held → is_some held ≡ true → ⊥
some_is_not_none None none some = absurd cc
some_is_not_none (Some h) none some = absurd cc

pub holds : (s : Content) (paths : List (List (List ℕ))) (place : ℕ) (path : List (List ℕ))
    → Lists s paths → Some path ≡ slice_get paths place → None ≡ s.holds path → ⊥
holds s paths place path all at none =
    some_is_not_none (s.holds path) none (held_at s paths place path all (sym at))

-- Where a path holds the same at two positions, it holds that at each between: each change of it has a greater version.
use Rattle.std.proofs.Common.{◌≡◌, inl, inr, ℕ, Some, List, ◌++◌, ◌∙◌, arith}
use Rattle.coap_resource.specs.Content.{Held}
use Rattle.coap_record.specs.Events.{Config}
use Rattle.coap_record.specs.Record.{Entry}
use Rattle.coap_promise.specs.Words.{holds_at}
use Rattle.coap_promise.proofs.Facts.Requests.HoldsChanges.{last_is}
use Rattle.coap_smooth.proofs.Smoothly.Ticks.NothingIsLeft.{ForServer, server_behind}
use Rattle.coap_smooth.proofs.Watching.Values.HeldVersions.{fewer_before, kept_or_later, last_of, version_counted}

pub still : (config : Config) (path : List (List ℕ)) (held : Held) (later between base : List Entry)
    → ForServer config (later ++ (between ++ base)) → holds_at config path (later ++ (between ++ base)) ≡ Some held
    → holds_at config path base ≡ Some held → holds_at config path (between ++ base) ≡ Some held
still config path held later between base law now then =
    let there : ForServer config (between ++ base) = server_behind config later (between ++ base) law in
    let first : ForServer config base = server_behind config between base there in
    let counted = version_counted config path held base first (last_of config path held base first then) in
    let fewer = fewer_before config between base in
    elim (kept_or_later config path held later (between ++ base) law
    (last_of config path held (later ++ (between ++ base)) law now)) [
      | inl kept ↦ last_is config (between ++ base) there.rows path ∙ kept
      | inr greater ↦ absurd (omega (arith, counted, fewer, greater))
    ]

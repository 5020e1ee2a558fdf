-- An entity-tag names one version, and a notification says the number of the version that its tag names (RFC 7641,
-- section 4.4).
use Rattle.std.proofs.Common.{◌≡◌, ◌<◌, ◌^◌, inl, inr, ℕ, true, Option, Some, List, [], ◌∷◌, ap, sym, ◌∙◌}
use Rattle.std.specs.Int.{w64, from_be_bytes}
use Rattle.std.proofs.lemmas.Nat.{from_be_bytes-to_be_bytes_8}
use Rattle.coap_codec.specs.Message.{Message}
use Rattle.coap_observe.specs.Versions.{sequence_number}
use Rattle.coap_resource.specs.Content.{Held}
use Rattle.coap_resource.specs.Limits.{Limits}
use Rattle.coap_resource.specs.RequestOptions.{tag_of}
use Rattle.coap_client.specs.Responses.{is_notification, sequence_in, tag_in}
use Rattle.coap_server.specs.Trace as S
use Rattle.coap_server.specs.Follows.Tags.{AreStamped, WasHeld}
use Rattle.coap_server_laws.proofs.Facts.EachCall.{held_small}
use Rattle.coap_server_laws.proofs.Facts.Laws as server_facts
use Rattle.coap_record.specs.Events.{Config}
use Rattle.coap_record.specs.Record.{Entry, server_trace}
use Rattle.coap_promise.specs.Rising.{Names}
use Rattle.coap_promise.proofs.Facts.Requests.OfACall.{Lawful}
use Rattle.coap_promise.proofs.Facts.Reports.HeldThere.{ShownIn}

-- a tag names one version of 64 bits
pub one_version : (v w : ℕ) (tag : Option (List ℕ)) → Names v tag → Names w tag → v ≡ w
one_version v w tag a b =
    let e : Some (tag_of v) ≡ Some (tag_of w) = sym a.is ∙ b.is in
    let same : tag_of v ≡ tag_of w = cc e in
    sym (from_be_bytes-to_be_bytes_8 v a.small) ∙ ap (from_be_bytes w64) same ∙ from_be_bytes-to_be_bytes_8 w b.small

-- what was held has a version of 64 bits
was_small : (limits : Limits) (szx : ℕ) (path : List (List ℕ)) (held : Held) (t : List S.Call)
    → AreStamped limits szx t → WasHeld limits szx path held t → held.version < 2 ^ 64
was_small limits szx path held [] stamped h = absurd h
was_small limits szx path held (c ∷ t) stamped (inl h) = held_small limits szx path held (c ∷ t) stamped h
was_small limits szx path held (c ∷ t) stamped (inr h) = was_small limits szx path held t stamped.1 h

module _ (config : Config) where
  -- what shows a version says its number
  pub says_number : (t : List Entry) → Lawful config t → (m : Message) → ShownIn config m t → is_notification m ≡ true
      → (v : ℕ) → Names v (tag_in m) → sequence_in m ≡ sequence_number v
  says_number t law m k note v names =
      let calls = server_trace config t in
      let stamped = server_facts.stamped config.limits config.server_szx config.server_setup calls law.server in
      let low = was_small config.limits config.server_szx k.path k.held calls stamped k.was in
      let same = one_version k.held.version v (tag_in m) (record { small = low; is = k.shown.tag }) names in
      k.shown.sequence note ∙ ap sequence_number same

-- Entity-tags: 1 to 8 bytes each, and at most 4 of them (RFC 7252, section 5.10; how many is a profile).
use Rattle.std.specs.Prelude.{ℕ, ◌≤◌, List, length, All}
use Rattle.coap_types.specs.declared.tag.TheConstants.{MAX_TAG_LEN as max_tag_len, MAX_TAGS as max_tags}
use Rattle.coap_types.specs.Bytes.{AreBytes}

pub record IsTag (tag : List ℕ) : Type 0 where
  pub some : 1 ≤ length tag
  pub few : length tag ≤ max_tag_len
  pub bytes : AreBytes tag

pub record AreTags (tags : List (List ℕ)) : Type 0 where
  pub few : length tags ≤ max_tags
  pub each : All IsTag tags

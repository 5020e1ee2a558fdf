-- The test of keys decides equality.
use Rattle.std.proofs.Common.{◌≡◌, true}
use Rattle.std.specs.Cmp.Lexicographic.{bytes_decides}
use Rattle.std.proofs.lemmas.Bool.Decides.{Decides-and, Decides-eqb}
use Rattle.knifesilver.specs.PeerKeys.{same_key}
use Rattle.knifesilver.specs.declared.names.peer_key.PeerKey.{PeerKey}

pub same_key_is : (a b : PeerKey) → same_key a b ≡ true → a ≡ b
same_key_is a b same =
    let parts = Decides-and _ _ (Decides-eqb a.len b.len) (bytes_decides a.bytes b.bytes) in
    let e = parts.0 same in λ i. record { len = e.0 i; bytes = e.1 i }

-- Steps of the reader.
use Rattle.std.proofs.Common.{◌≡◌, ℕ, Bool, true, false, ◌<◌, ◌≤◌, List, length, take, drop, refl, ap, ◌∙◌}
use Rattle.std.specs.Prelude.{◌==◌, not, nat_lt, if◌then◌else◌, slice_index}
use Rattle.std.proofs.lemmas.Bool.{le-ltb, lt-ltb}
use Rattle.coap_pcap.specs.Numbers.{half_at}
use Rattle.coap_pcap.specs.Packets.{behind_extensions, ipv6_body, version}
use Rattle.coap_pcap.specs.declared.fields.Order.TheVariants.{Big}

pub if_false : {A : Type 0} (b : Bool) (x y : A) → b ≡ false → (if b then x else y) ≡ y
if_false true x y e = cc
if_false false x y e = refl

pub not_lt : (a b : ℕ) → b ≤ a → nat_lt a b ≡ false
not_lt a b h = le-ltb a b h

pub is_lt : (a b : ℕ) → a < b → not (nat_lt a b) ≡ false
is_lt a b h = ap not (lt-ltb a b h)

-- an IPv6 packet whose header is there
pub ipv6_behind : (bytes body : List ℕ) (v n : ℕ) → 40 ≤ length bytes → v ≡ version bytes → v ≡ 6
    → n ≡ half_at Big bytes 4 → body ≡ take n (drop 40 bytes)
    → ipv6_body bytes ≡ behind_extensions 8 (slice_index bytes 6) body
unfolding ipv6_body
ipv6_behind bytes body v n long is six n_is body_is =
    let version_is : version bytes ≡ 6 = cc in
    let other : not (version bytes == 6) ≡ false = rw version_is refl in
    let same : take (half_at Big bytes 4) (drop 40 bytes) ≡ body = cc in
    if_false _ _ _ (not_lt (length bytes) 40 long) ∙ if_false _ _ _ other
    ∙ ap (behind_extensions 8 (slice_index bytes 6)) same

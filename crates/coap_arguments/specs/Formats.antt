-- The names of formats that the words know: the Content-Formats of RFC 7252, section 12.3, and that of RFC 8949,
-- section 9.4.
use Rattle.std.specs.Prelude.{ℕ, ◌≡◌, ◌⊎◌, codes}
use Rattle.clap.specs.Words.{Text}

-- the text is the name of the format of this number
abbrev pub IsFormatName : Text → ℕ → Type 0
IsFormatName text n = ((text ≡ codes "text/plain") × (n ≡ 0))
    ⊎ (((text ≡ codes "application/link-format") × (n ≡ 40))
    ⊎ (((text ≡ codes "application/xml") × (n ≡ 41))
    ⊎ (((text ≡ codes "application/octet-stream") × (n ≡ 42))
    ⊎ (((text ≡ codes "application/json") × (n ≡ 50)) ⊎ ((text ≡ codes "application/cbor") × (n ≡ 60))))))

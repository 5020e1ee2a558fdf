-- What options are called, and how their values are told (RFC 7252, section 5.10; RFC 7641, section 2; RFC 7959,
-- sections 2.1 and 4).
use Rattle.std.specs.Prelude.{ℕ, List, [], ◌∷◌, ◌==◌, codes, Option, Some, None, if◌then◌else◌}
use Rattle.coap_print.specs.declared.message_words.Form.{Form}
use Rattle.coap_print.specs.declared.message_words.Form.TheVariants.{Block, Bytes, Number}

abbrev pub option_rows : List (ℕ × List ℕ × Form)
option_rows =
    (1, codes "If-Match", Bytes) ∷ (3, codes "Uri-Host", Bytes) ∷ (4, codes "ETag", Bytes)
    ∷ (5, codes "If-None-Match", Bytes) ∷ (6, codes "Observe", Number) ∷ (7, codes "Uri-Port", Number)
    ∷ (11, codes "Uri-Path", Bytes) ∷ (12, codes "Content-Format", Number) ∷ (17, codes "Accept", Number)
    ∷ (23, codes "Block2", Block) ∷ (27, codes "Block1", Block) ∷ (28, codes "Size2", Number)
    ∷ (35, codes "Proxy-Uri", Bytes) ∷ (39, codes "Proxy-Scheme", Bytes) ∷ (60, codes "Size1", Number) ∷ []

abbrev pub row_of : List (ℕ × List ℕ × Form) → ℕ → Option (List ℕ × Form)
row_of [] number = None
row_of (row ∷ rows) number = if row.0 == number then Some (row.1, row.2) else row_of rows number

-- the name of an option and how its value is told; one that is not there has neither
abbrev pub option_form : ℕ → Option (List ℕ × Form)
option_form number = row_of option_rows number

-- What is written of the options of a message, one by one.
use Rattle.std.proofs.Common.{◌≡◌, ◌++◌, ◌∷◌, [], ◌∙◌, ℕ, List, true, false, sym, ap, refl, append-nil}
use Rattle.std.specs.List.{filter, flat_map}
use Rattle.std.proofs.lemmas.Grind.{flat_map-append}
use Rattle.std.proofs.lemmas.List.Elements.{filter-append}
use Rattle.coap_types.specs.CoapOption.{CoapOption}
use Rattle.coap_print.specs.Datagrams.{is_listed, option_text, options_text}

-- the text of some options, and of one more
text_more : (code : ℕ) (done : List CoapOption) (o : CoapOption)
    → options_text code (done ++ o ∷ []) ≡ options_text code done ++ options_text code (o ∷ [])
text_more code done o =
    ap (flat_map option_text) (filter-append (is_listed code) done (o ∷ []))
    ∙ flat_map-append option_text (filter (is_listed code) done) (filter (is_listed code) (o ∷ []))

one_listed : (code : ℕ) (o : CoapOption) → is_listed code o ≡ true → options_text code (o ∷ []) ≡ option_text o
one_listed code o is = rw is (append-nil (option_text o))

none_listed : (code : ℕ) (o : CoapOption) → is_listed code o ≡ false → options_text code (o ∷ []) ≡ []
none_listed code o is = rw is refl

pub more_listed : (code : ℕ) (done : List CoapOption) (o : CoapOption) → is_listed code o ≡ true
    → options_text code done ++ option_text o ≡ options_text code (done ++ o ∷ [])
more_listed code done o is =
    sym (text_more code done o ∙ ap (λ t. options_text code done ++ t) (one_listed code o is))

pub same_listed : (code : ℕ) (done : List CoapOption) (o : CoapOption) → is_listed code o ≡ false
    → options_text code done ≡ options_text code (done ++ o ∷ [])
same_listed code done o is =
    sym (text_more code done o ∙ ap (λ t. options_text code done ++ t) (none_listed code o is)
    ∙ append-nil (options_text code done))

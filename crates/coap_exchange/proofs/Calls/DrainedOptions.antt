-- What an iterator over the options of a message gives are its options.
use Rattle.std.proofs.Common.{◌≡◌, List, [], ◌∷◌, ap, sym, ◌∙◌}
use Rattle.std.specs.Iterator.{Drains, YieldsFirstBy}
use Rattle.coap_types.specs.declared.options.Opt.{Opt}
use Rattle.coap_types.specs.CoapOption.{CoapOption, option_of, options_of}

pub drained : (xs : List Opt) (s : List CoapOption) → Drains (YieldsFirstBy option_of (λ (r : List CoapOption). r)) s xs
    → options_of xs ≡ s
drained [] s h = sym (h.1.1 ∙ h.1.2.0)
drained (x ∷ xs) s h = ap (λ (os : List CoapOption). option_of x ∷ os)
    (drained xs h.1.1.0 (h.0, (h.1.0, h.1.1.2, h.1.2))) ∙ sym h.1.1.1

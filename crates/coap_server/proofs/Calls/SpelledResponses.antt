-- A response whose numbers are spelt is the one that has them as options (RFC 7252, section 3.2).
use Rattle.std.proofs.Common.{◌≡◌, ◌++◌, ◌∙◌, ℕ, List, Option, Some, None, refl, ap}
use Rattle.std.specs.Option.{option_map}
use Rattle.coap_types.specs.CoapOption.{CoapOption}
use Rattle.coap_types.specs.OptionValues.{option_with, uint_option}
use Rattle.coap_types.specs.Uint.{uint}
use Rattle.coap_exchange.specs.AnswererTrace.{Response}
use Rattle.coap_server.specs.Object.FullResponses.{response_as}
use Rattle.coap_types.specs.declared.option_number.TheConstants.{BLOCK1 as block1, BLOCK2 as block2}
use Rattle.coap_types.specs.declared.option_number.TheConstants.{ETAG as etag, OBSERVE as observe}
use Rattle.coap_types.specs.declared.option_number.TheConstants.{CONTENT_FORMAT as content_format}

number_option : (number : ℕ) (value : Option ℕ) → option_with number (option_map uint value) ≡ uint_option number value
number_option number None = refl
number_option number (Some _) = refl

abbrev made : ℕ → Option (List ℕ) → List ℕ → List CoapOption → Response
made code tag payload os = record { code = code; options = option_with etag tag ++ os; payload = payload }

numbers_are : (code : ℕ) (tag : Option (List ℕ)) (sequence format part whole : Option ℕ) (payload : List ℕ)
    → response_as code tag (option_map uint sequence) (option_map uint format) (option_map uint part)
    (option_map uint whole) payload ≡ record {
      code = code;
      options =
          option_with etag tag ++ (uint_option observe sequence ++ (uint_option content_format format
          ++ (uint_option block2 part ++ uint_option block1 whole)));
      payload = payload;
    }
numbers_are code tag sequence format part whole payload =
    ap (λ os. made code tag payload (os ++ (option_with content_format (option_map uint format)
    ++ (option_with block2 (option_map uint part) ++ option_with block1 (option_map uint whole)))))
    (number_option observe sequence)
    ∙ ap (λ os. made code tag payload (uint_option observe sequence ++ (os ++ (option_with block2 (option_map uint part)
    ++ option_with block1 (option_map uint whole))))) (number_option content_format format)
    ∙ ap (λ os. made code tag payload (uint_option observe sequence ++ (uint_option content_format format ++ (os
    ++ option_with block1 (option_map uint whole))))) (number_option block2 part)
    ∙ ap (λ os. made code tag payload (uint_option observe sequence ++ (uint_option content_format format
    ++ (uint_option block2 part ++ os)))) (number_option block1 whole)

pub response_is : (code : ℕ) (tag : Option (List ℕ)) (sequence format part whole : Option ℕ) (payload : List ℕ)
    (s f p w : Option (List ℕ)) → s ≡ option_map uint sequence → f ≡ option_map uint format → p ≡ option_map uint part
    → w ≡ option_map uint whole → response_as code tag s f p w payload ≡ record {
      code = code;
      options =
          option_with etag tag ++ (uint_option observe sequence ++ (uint_option content_format format
          ++ (uint_option block2 part ++ uint_option block1 whole)));
      payload = payload;
    }
response_is code tag sequence format part whole payload s f p w s_is f_is p_is w_is =
    ap (λ x. response_as code tag x f p w payload) s_is
    ∙ ap (λ x. response_as code tag (option_map uint sequence) x p w payload) f_is
    ∙ ap (λ x. response_as code tag (option_map uint sequence) (option_map uint format) x w payload) p_is
    ∙ ap (λ x. response_as code tag (option_map uint sequence) (option_map uint format) (option_map uint part) x
    payload) w_is
    ∙ numbers_are code tag sequence format part whole payload

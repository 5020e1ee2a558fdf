-- The responses of a server have a spelling (RFC 7252, sections 3.1 and 3.2).
use Rattle.std.proofs.Common.{◌≡◌, ℕ, ◌<◌, ◌≤◌, ◌==◌, ◌^◌, nat_lt, Bool, true, false, Option, Some, None, List, [], ◌∷◌}
use Rattle.std.proofs.Common.{◌++◌, length, refl, cond, arith}
use Rattle.std.specs.Prelude.{IfSome}
use Rattle.std.specs.List.{list_all}
use Rattle.std.proofs.lemmas.Bool.{le-leb, and_from}
use Rattle.coap_types.specs.CoapOption.{CoapOption}
use Rattle.coap_types.specs.Roles.{role_of}
use Rattle.coap_types.specs.Uint.{uint}
use Rattle.coap_types.specs.OptionValues.{option_with, uint_option}
use Rattle.coap_types.specs.declared.role.Role.TheVariants as role
use Rattle.coap_codec.proofs.Facts.Spelling.{options_spelled}
use Rattle.coap_codec.specs.BoundedSpelling.{is_numbered}
use Rattle.coap_codec.specs.Refused.{ascends, is_short}
use Rattle.coap_codec.specs.Spelling.{options_bytes}
use Rattle.coap_layer.specs.Rows.{IsSpelled}
use Rattle.coap_resource.specs.ResponseOptions.{block_number}
use Rattle.coap_resource.specs.Serves.{Reply}
use Rattle.coap_exchange.specs.AnswererSteps.{content_with, IsResponseWith}
use Rattle.coap_types.specs.BlockValue.{block_value}
use Rattle.coap_types.specs.declared.block.Block.{Block}
use Rattle.coap_server.specs.Responses.{bare, response_with}
use Rattle.coap_server.specs.Uploads.{continuing}
use Rattle.coap_server_laws.proofs.Progress.StoreReplies.{IsGood}

-- a number has at most four bytes
few_bytes : (n : ℕ) → length (uint n) ≤ 4
few_bytes n = by (n == 0) (nat_lt n 256) (nat_lt n (256 ^ 2)) (nat_lt n (256 ^ 3)) _ _ _ _ _ _ _ _ _ _
  where
    by : (a b c d : Bool) (u v w x y z p q r s : ℕ)
        → length (cond a [] (cond b (u ∷ []) (cond c (v ∷ w ∷ []) (cond d (x ∷ y ∷ z ∷ []) (p ∷ q ∷ r ∷ s ∷ []))))) ≤ 4
    by true b c d u v w x y z p q r s = omega arith
    by false true c d u v w x y z p q r s = omega arith
    by false false true d u v w x y z p q r s = omega arith
    by false false false true u v w x y z p q r s = omega arith
    by false false false false u v w x y z p q r s = omega arith

-- ETag, Observe, Content-Format, Block2 and Block1
abbrev options_of : Option (List ℕ) → Option ℕ → Option ℕ → Option ℕ → Option ℕ → List CoapOption
options_of t s f b k = option_with 4 t ++ (uint_option 6 s
    ++ (uint_option 12 f ++ (uint_option 23 b ++ uint_option 27 k)))

-- .. in order, each with a number
ordered : (t : Option (List ℕ)) (s f b k : Option ℕ)
    → (ascends 0 (options_of t s f b k) ≡ true) × (list_all is_numbered (options_of t s f b k) ≡ true)
ordered None None None None None = (refl, refl)
ordered None None None None (Some k) = (refl, refl)
ordered None None None (Some b) None = (refl, refl)
ordered None None None (Some b) (Some k) = (refl, refl)
ordered None None (Some f) None None = (refl, refl)
ordered None None (Some f) None (Some k) = (refl, refl)
ordered None None (Some f) (Some b) None = (refl, refl)
ordered None None (Some f) (Some b) (Some k) = (refl, refl)
ordered None (Some s) None None None = (refl, refl)
ordered None (Some s) None None (Some k) = (refl, refl)
ordered None (Some s) None (Some b) None = (refl, refl)
ordered None (Some s) None (Some b) (Some k) = (refl, refl)
ordered None (Some s) (Some f) None None = (refl, refl)
ordered None (Some s) (Some f) None (Some k) = (refl, refl)
ordered None (Some s) (Some f) (Some b) None = (refl, refl)
ordered None (Some s) (Some f) (Some b) (Some k) = (refl, refl)
ordered (Some t) None None None None = (refl, refl)
ordered (Some t) None None None (Some k) = (refl, refl)
ordered (Some t) None None (Some b) None = (refl, refl)
ordered (Some t) None None (Some b) (Some k) = (refl, refl)
ordered (Some t) None (Some f) None None = (refl, refl)
ordered (Some t) None (Some f) None (Some k) = (refl, refl)
ordered (Some t) None (Some f) (Some b) None = (refl, refl)
ordered (Some t) None (Some f) (Some b) (Some k) = (refl, refl)
ordered (Some t) (Some s) None None None = (refl, refl)
ordered (Some t) (Some s) None None (Some k) = (refl, refl)
ordered (Some t) (Some s) None (Some b) None = (refl, refl)
ordered (Some t) (Some s) None (Some b) (Some k) = (refl, refl)
ordered (Some t) (Some s) (Some f) None None = (refl, refl)
ordered (Some t) (Some s) (Some f) None (Some k) = (refl, refl)
ordered (Some t) (Some s) (Some f) (Some b) None = (refl, refl)
ordered (Some t) (Some s) (Some f) (Some b) (Some k) = (refl, refl)

short_with : (number : ℕ) (o : Option (List ℕ)) (rest : List CoapOption) → IfSome o (λ v. length v ≤ 8)
    → list_all is_short rest ≡ true → list_all is_short (option_with number o ++ rest) ≡ true
short_with number None rest h k = k
short_with number (Some v) rest h k = and_from _ _ (le-leb (length v) 65804 (omega (arith, h))) k

short_uint : (number : ℕ) (o : Option ℕ) (rest : List CoapOption) → list_all is_short rest ≡ true
    → list_all is_short (uint_option number o ++ rest) ≡ true
short_uint number None rest k = k
short_uint number (Some n) rest k = let few =
    few_bytes n in and_from _ _ (le-leb (length (uint n)) 65804 (omega (arith, few))) k

short_last : (number : ℕ) (o : Option ℕ) → list_all is_short (uint_option number o) ≡ true
short_last number None = refl
short_last number (Some n) = let few = few_bytes n in and_from _ _
    (le-leb (length (uint n)) 65804 (omega (arith, few))) refl

spelled_with : (code : ℕ) (token : List ℕ) (options : List CoapOption) (payload : List ℕ) → 0 < code → code < 256
    → length token ≤ 8
    → ascends 0 options ≡ true → list_all is_numbered options ≡ true → list_all is_short options ≡ true
    → IsSpelled (content_with token (record { code = code; options = options; payload = payload }))
spelled_with code token options payload some small few ascend numbers short kind id below =
    record {
      code = small;
      id = below;
      token = few;
      option_bytes = options_bytes 0 options;
      options = options_spelled options 0 ascend numbers short;
      parts = refl;
      empty = λ none. absurd (omega (arith, none, some));
    }

-- a code alone
pub bare_response : (token : List ℕ) (code : ℕ) → length token ≤ 8 → role_of code ≡ role.Response → 0 < code
    → code < 256 → IsResponseWith token (bare code)
bare_response token code few class some small =
    record { code = class; spelled = spelled_with code token [] [] some small few refl refl refl }

-- 2.31
pub continue_response : (token : List ℕ) (szx : ℕ) (b : Block) → length token ≤ 8
    → IsResponseWith token (continuing szx b)
continue_response token szx b few =
    let n : ℕ = block_value (record { num = b.num; more = true; szx = szx }) in
    record {
      code = refl;
      spelled = spelled_with 95 token (uint_option 27 (Some n)) [] (omega arith)
          (omega arith) few refl refl (short_last 27 (Some n));
    }

-- what the store replies
pub reply_response : (token : List ℕ) (reply : Reply) (sequence block : Option ℕ) → length token ≤ 8 → IsGood reply
    → IsResponseWith token (response_with reply sequence block)
reply_response token reply sequence block few good =
    record {
      code = good.class;
      spelled = spelled_with reply.code token (options_of reply.tag sequence reply.format
          (block_number reply.block2) block) reply.part good.some good.code few
          (ordered reply.tag sequence reply.format (block_number reply.block2) block).0
          (ordered reply.tag sequence reply.format (block_number reply.block2) block).1
          (short_with 4 reply.tag _ good.tag (short_uint 6 sequence _
          (short_uint 12 reply.format _ (short_uint 23 (block_number reply.block2) _ (short_last 27 block)))));
    }

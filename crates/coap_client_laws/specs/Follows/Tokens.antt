-- The tokens of a client's requests (RFC 7252, section 5.3.1; RFC 7641, section 3.6).
use Rattle.std.specs.Prelude.{◌≡◌, ◌≤◌, ◌⊎◌, ℕ, Some, List, length}
use Rattle.coap_types.specs.Past.{Ever, Always}
use Rattle.coap_types.specs.declared.endpoint.Endpoint.{Endpoint}
use Rattle.coap_types.specs.declared.token.TheConstants.{MAX_TOKEN_LEN as max_token_len}
use Rattle.coap_codec.specs.Message.{Message, Spells}
use Rattle.coap_layer.specs.Words.{Open, begun}
use Rattle.coap_layer.specs.declared.setup.Setup.{Setup}
use Rattle.coap_block.specs.Sizes.{Sizes}
use Rattle.coap_client.specs.Trace.{Call}
use Rattle.coap_client.specs.Own.{Registering, Cancelling}
use Rattle.coap_client.specs.Law.{own_of, layer_of}
use Rattle.coap_client.specs.Sendings.{Sending, sends}
use Rattle.coap_client_laws.specs.Follows.Begins.{WasSent, IsRequestOf}

-- the second cancels the observation that the first registers
pub record Deregisters (x y : Sending) : Type 0 where
  pub number : ℕ
  pub path : List (List ℕ)
  pub registers : x.operation ≡ Registering number path
  pub cancels : y.operation ≡ Cancelling number

-- What is sent has a token that no request had before, but for a cancel, which has that of its observation.
abbrev pub OwnTokens : Sizes → List Call → Type 0
OwnTokens sizes t = Always (λ past c. (x y : Sending) → sends (own_of sizes past) c ≡ Some x → WasSent sizes y past
    → y.token ≡ x.token → Deregisters y x) t

-- So a token is that of one request, or of an observation and its cancel.
abbrev pub OneOfToken : Sizes → List Call → Type 0
OneOfToken sizes t = (x y : Sending) → WasSent sizes x t → WasSent sizes y t → x.token ≡ y.token
    → (x ≡ y) ⊎ (Deregisters x y ⊎ Deregisters y x)

-- It has at most 8 bytes.
abbrev pub ShortTokens : Sizes → List Call → Type 0
ShortTokens sizes t = (x : Sending) → WasSent sizes x t → length x.token ≤ max_token_len

-- the second CON cancels the observation that the first registers
pub record Ends (server : Endpoint) (sizes : Sizes) (t : List Call) (a b : Open) : Type 0 where
  pub first : Sending
  pub second : Sending
  pub first_sent : WasSent sizes first t
  pub second_sent : WasSent sizes second t
  pub begins : IsRequestOf server a first
  pub ends : IsRequestOf server b second
  pub deregisters : Deregisters first second

-- Two CONs whose messages have one token are one, or an observation and its cancel.
abbrev pub OneConOrCancel : Endpoint → (sizes : Sizes) (setup : Setup) → List Call → Type 0
OneConOrCancel server sizes setup t =
    (a b : Open) → Ever (λ e. begun e ≡ Some a) (layer_of server sizes setup t)
    → Ever (λ e. begun e ≡ Some b) (layer_of server sizes setup t) → (x y : Message)
    → Spells a.bytes x → Spells b.bytes y → x.token ≡ y.token
    → (a ≡ b) ⊎ (Ends server sizes t a b ⊎ Ends server sizes t b a)

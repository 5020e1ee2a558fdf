-- Where a client reports that a representation is valid (RFC 7252, sections 5.9.1.3 and 5.10.6.2).
use Rattle.std.specs.Prelude.{◌≡◌, ◌≢◌, ℕ, Option, List, []}
use Rattle.coap_types.specs.Past.{Always}
use Rattle.coap_types.specs.declared.request.Method.TheVariants.{Get}
use Rattle.coap_codec.specs.Message.{Message}
use Rattle.coap_block.specs.Sizes.{Sizes}
use Rattle.coap_client.specs.Trace.{Request, Valid, Call}
use Rattle.coap_client.specs.Responses.{valid, tag_in}
use Rattle.coap_client.specs.Effects.{of}
use Rattle.coap_client.specs.Steps.{reports}
use Rattle.coap_client.specs.Law.{own_of}
use Rattle.coap_client.specs.Sendings.{Taken, WasTaken}
use Rattle.coap_client_laws.specs.Follows.Bodies.{HeardFor}

module _ (sizes : Sizes) where
  -- The call is a GET and carries ETags; what is reported is the ETag of the 2.03 that it heard, or none.
  pub record IsValidated (number : ℕ) (tag : Option (List ℕ)) (past : List Call) (c : Call) : Type 0 where
    pub request : Request
    pub taken : WasTaken (record { number = number; request = request }) past
    pub method : request.method ≡ Get
    pub etags : request.etags ≢ []
    pub message : Message
    pub heard : HeardFor sizes number message past c
    pub code : message.code ≡ valid
    pub tag_is : tag ≡ tag_in message

  abbrev pub ValidOfTags : List Call → Type 0
  ValidOfTags trace = Always (λ past c. (number : ℕ) (tag : Option (List ℕ))
      → reports (own_of sizes past) c ≡ of number (Valid tag) → IsValidated number tag past c) trace

  -- .. and wherever a GET that carries ETags hears a 2.03, as the answer to one of its requests, that is reported.
  abbrev pub EachIsValid : List Call → Type 0
  EachIsValid trace =
      Always (λ past c. (x : Taken) (m : Message) → WasTaken x past → x.request.method ≡ Get → x.request.etags ≢ []
      → HeardFor sizes x.number m past c → m.code ≡ valid
      → reports (own_of sizes past) c ≡ of x.number (Valid (tag_in m))) trace

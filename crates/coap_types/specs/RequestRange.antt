-- What its type says of a request: its numbers are in range and its fields within their bounds (RFC 7252, section
-- 5.10).
use Rattle.std.specs.Prelude.{◌<◌, ◌^◌, IfSome}
use Rattle.coap_types.specs.declared.request.Request as declared
use Rattle.coap_types.specs.Bytes.{AreBytes}
use Rattle.coap_types.specs.EntityTag.{AreTags}
use Rattle.coap_types.specs.Path.{IsPath}

pub record IsInRange {A : Type 0} (r : declared.Request A) : Type 0 where
  pub path : IsPath r.path
  pub format : IfSome r.format (λ f. f < 2 ^ 16)
  pub body : AreBytes r.body
  pub etags : AreTags r.etags
  pub if_match : AreTags r.if_match
  pub accept : IfSome r.accept (λ f. f < 2 ^ 16)

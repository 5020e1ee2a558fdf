-- A 2.31 is made to a block that is taken, and by nothing else.
use Rattle.std.proofs.Common.{◌≡◌, ◌≢◌, ℕ, true, false, Option, Some, None, ap, sym, ◌∙◌, arith}
use Rattle.std.specs.Prelude.{◌==◌}
use Rattle.coap_resource.specs.Content.{Held}
use Rattle.coap_exchange.specs.AnswererTrace as E
use Rattle.coap_server_laws.specs.Follows.Gives.{refusal_in, NoticeOf}
use Rattle.coap_server.specs.Steps.{IsRight}
use Rattle.coap_server.specs.Trace as S
use Rattle.coap_server.specs.Uploads.{continue}
use Rattle.coap_server_laws.proofs.Facts.EachCall.{refusals_are_errors}

not_so : (code : ℕ) → (code == continue) ≡ false → code ≢ continue
not_so code e k = let z : true ≡ false = sym (ap (λ n. n == continue) k) ∙ e in cc z

-- no refusal has code 2.31
pub refusal_not : (s : S.Own) (c : S.Call) → IsRight s c → (code : ℕ) → refusal_in s c ≡ Some code → code ≢ continue
refusal_not s c right code refusal is = let h = refusals_are_errors s c right code refusal in omega (arith, h, is)

-- nor a notification
pub notice_not : (szx : ℕ) (o : Option Held) (r : E.Response) → NoticeOf szx o r → r.code ≢ continue
notice_not szx None r h = not_so r.code (ap (λ (z : E.Response). z.code == continue) h)
notice_not szx (Some held) r h = not_so r.code (ap (λ (z : E.Response). z.code == continue) h)

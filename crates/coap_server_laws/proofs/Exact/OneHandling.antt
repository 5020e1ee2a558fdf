-- What becomes of a request, and of an observer, is one handling.
use Rattle.std.proofs.Common.{◌≡◌, ℕ, Bool, true, false, Option, Some, None, sym, ◌∙◌}
use Rattle.coap_codec.specs.Message.{Message}
use Rattle.coap_types.specs.declared.block.Block.{Block}
use Rattle.coap_block.specs.declared.block_verdict.BlockVerdict.{BlockVerdict}
use Rattle.coap_block.specs.declared.block_verdict.BlockVerdict.TheVariants.{Refuse, Join, Done}
use Rattle.coap_observe.specs.Observers.{Observer}
use Rattle.coap_resource.specs.Content.{Content}
use Rattle.coap_resource.specs.Serves.{Question}
use Rattle.coap_exchange.specs.declared.answerer.Asked.{Asked}
use Rattle.coap_exchange.specs.AnswererSteps.{may_defer}
use Rattle.coap_server.specs.Trace.{Own, Handling}
use Rattle.coap_server.specs.Checks.{Verdict, Ignored, Refused, Asks, Uploads, verdict_on}
use Rattle.coap_server.specs.Uploads.{ruling_of, whole}
use Rattle.coap_server.specs.Serving.{IsServed}
use Rattle.coap_server.specs.Deferring.{WaitsBy, HandlesWhole, delay_for, AnswersWaiting}
use Rattle.coap_server.specs.Notifying.{NotifiesNext}
use Rattle.coap_server.specs.Handling.{HandlesBlock, Handles, HandlesCame}
use Rattle.coap_server_laws.proofs.Exact.StoreExactly.{served_alike}

is_served : (old : Content) (at : ℕ) (q : Question) (h k : Handling) → IsServed old at q h → IsServed old at q k → h ≡ k
is_served old at q h k a b =
    let e = served_alike old at q a.reply b.reply a.left b.left a.serves b.serves in
    let reply = e.0 in
    let left = e.1 in
    a.is ∙ (cc (reply, left) ∙ sym b.is)

waits_alike : (o : Option ℕ) (place : Bool) (old : Content) (at : ℕ) (q : Question) (h k : Handling)
    → WaitsBy o place old at q h → WaitsBy o place old at q k → h ≡ k
waits_alike None place old at q h k a b = is_served old at q h k a b
waits_alike (Some delay) false old at q h k a b = is_served old at q h k a b
waits_alike (Some delay) true old at q h k a b = a ∙ sym b

whole_alike : (s : Own) (x : Asked) (q : Question) (h k : Handling) → HandlesWhole s x q h → HandlesWhole s x q k
    → h ≡ k
whole_alike s x q h k a b = waits_alike (delay_for x.kind q.path s.delays)
    (may_defer s.exchanges.deferred) s.store s.clock q h k a b

block_alike : (v : BlockVerdict) (s : Own) (x : Asked) (q : Question) (u : Block) (h k : Handling)
    → HandlesBlock v s x q u h → HandlesBlock v s x q u k → h ≡ k
block_alike (Refuse why) s x q u h k a b = a ∙ sym b
block_alike (Join szx) s x q u h k a b = a ∙ sym b
block_alike Done s x q u h k a b = whole_alike s x (whole s.uploads s.clock x q u) h k a b

handles_alike : (s : Own) (x : Asked) (v : Verdict) (h k : Handling) → Handles s x v h → Handles s x v k → h ≡ k
handles_alike s x Ignored h k a b = a ∙ sym b
handles_alike s x (Refused code) h k a b = a ∙ sym b
handles_alike s x (Asks q) h k a b = whole_alike s x q h k a b
handles_alike s x (Uploads q u) h k a b = block_alike (ruling_of s.uploads s.clock x q u) s x q u h k a b

pub came_alike : (s : Own) (came : Option (Asked × Message)) (h k : Handling) → HandlesCame s came h
    → HandlesCame s came k → h ≡ k
came_alike s None h k a b = a ∙ sym b
came_alike s (Some p) h k a b = handles_alike s p.0 (verdict_on s.szx p.1) h k a b

pub waited_alike : (o : Option Question) (old : Content) (at : ℕ) (h k : Handling) → AnswersWaiting o old at h
    → AnswersWaiting o old at k → h ≡ k
waited_alike None old at h k a b = a ∙ sym b
waited_alike (Some q) old at h k a b = is_served old at q h k a b

pub next_alike : (o : Option Observer) (store : Content) (h k : Handling) → NotifiesNext o store h
    → NotifiesNext o store k → h ≡ k
next_alike None store h k a b = a ∙ sym b
next_alike (Some x) store h k a b = a ∙ sym b

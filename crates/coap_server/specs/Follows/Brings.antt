-- Where what a server serves, and each block that it takes, comes from (RFC 7252, sections 4.5 and 5.2; RFC 7959,
-- section 2.5).
use Rattle.std.specs.Prelude.{◌≡◌, ℕ, true, false, Some, None, List, ◌∷◌, ◌++◌, map}
use Rattle.coap_types.specs.Past.{Ever, Sometime, Always}
use Rattle.coap_codec.specs.Message.{Message}
use Rattle.coap_layer.specs.Trace.{Receive, Becomes, Request, Entry}
use Rattle.coap_types.specs.declared.block.Block.{Block}
use Rattle.coap_layer.specs.declared.setup.Setup.{Setup}
use Rattle.coap_block.specs.AssemblyTrace.{IsWholeBody}
use Rattle.coap_resource.specs.Serves.{Question}
use Rattle.coap_resource.specs.Limits.{Limits}
use Rattle.coap_exchange.specs.declared.answerer.Asked.{Asked}
use Rattle.coap_exchange.specs.AnswererSteps as P
use Rattle.coap_server.specs.Trace.{Call}
use Rattle.coap_server.specs.Checks.{Verdict, Asks, Uploads, verdict_on}
use Rattle.coap_server.specs.Uploads.{key_of}
use Rattle.coap_server.specs.Law.{own_of, layer_of}
use Rattle.coap_server.specs.Follows.Serves.{Serving, serving, hands, refuses}
use Rattle.coap_server.specs.Follows.Takes.{Took, took, takes_block, blocks_since}

-- the request arrives, is handed up and remembered, and comes to this
pub record HandsUp (szx : ℕ) (asked : Asked) (v : Verdict) (e : Entry) : Type 0 where
  pub message : Message
  pub bytes : List ℕ
  pub call : e.call ≡ Receive asked.from bytes
  pub answer : e.answer ≡ Becomes (Request message true)
  pub asked_is : asked ≡ P.asked_of asked.from message
  pub verdict : verdict_on szx message ≡ v

module _ (limits : Limits) (szx : ℕ) where
  -- in this call the message layer hands up the request, and it comes to this
  pub record Comes (setup : Setup) (past : List Call) (c : Call) (asked : Asked) (v : Verdict) : Type 0 where
    pub news : List Entry
    pub is : layer_of limits szx setup (c ∷ past) ≡ news ++ layer_of limits szx setup past
    pub here : Ever (HandsUp szx asked v) news

  -- the last block of an upload is taken, and the blocks since its block 0 are the whole body
  pub record Completes (past : List Call) (c : Call) (a : Asked) (p : Question) (b : Block)
      (q : Question) : Type 0 where
    pub takes : takes_block (own_of limits szx past) c ≡ Some (took a p b)
    pub last : b.more ≡ false
    pub whole : IsWholeBody limits.body (map (λ x. x.part) (blocks_since limits szx (key_of a p) (c ∷ past))) q.body
    pub question : q ≡ record p { body = q.body }

  -- what is asked of the store: as it came, or with the body of the upload
  abbrev pub AsksBy : List Call → Call → Asked → Question → Verdict → Type 0
  AsksBy past c a q (Asks p) = q ≡ p
  AsksBy past c a q (Uploads p b) = Completes past c a p b q
  AsksBy past c a q _ = ⊥

  -- .. in a call that hands it up, and doesn't refuse it
  pub record Brings (setup : Setup) (past : List Call) (c : Call) (a : Asked) (q : Question) : Type 0 where
    pub verdict : Verdict
    pub comes : Comes setup past c a verdict
    pub handed : hands c ≡ Some a
    pub taken : refuses c ≡ None
    pub asks : AsksBy past c a q verdict

  -- What is served was handed up, at once or before, and asks this.
  abbrev pub AreHandedUp : Setup → List Call → Type 0
  AreHandedUp setup t =
      Always (λ past c. (x : Serving) → serving (own_of limits szx past) c ≡ Some x
      → Sometime (λ old b. Brings setup old b x.asked x.question) (c ∷ past)) t

  -- A block that is taken came in a request that was handed up in this very call.
  pub record ComesIn (setup : Setup) (past : List Call) (c : Call) (x : Took) : Type 0 where
    pub question : Question
    pub block : Block
    pub is : x ≡ took x.asked question block
    pub comes : Comes setup past c x.asked (Uploads question block)

  abbrev pub BlocksCome : Setup → List Call → Type 0
  BlocksCome setup t = Always (λ past c. (x : Took) → takes_block (own_of limits szx past) c ≡ Some x
      → ComesIn setup past c x) t

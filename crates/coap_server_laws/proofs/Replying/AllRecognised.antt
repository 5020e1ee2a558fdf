-- Each critical option of what a server sends is one that a response may carry.
use Rattle.std.proofs.Common.{◌≡◌, ◌≤◌, inl, inr, ℕ, Option, Some, None, List, [], ◌∷◌, length, refl, ap, sym, subst}
use Rattle.std.proofs.Common.{◌∙◌, arith, Bool, true, false}
use Rattle.coap_types.specs.Past.{Always, Sometime}
use Rattle.coap_types.specs.Recognised.{lacks_critical}
use Rattle.coap_types.specs.declared.block.Block.{Block}
use Rattle.coap_types.specs.declared.direction.Direction.TheVariants.{Response}
use Rattle.coap_types.proofs.Facts.Traces.{Ever_map, forget}
use Rattle.coap_layer.specs.Trace as L
use Rattle.coap_layer.specs.declared.setup.Setup.{Setup}
use Rattle.coap_codec.specs.Message.{Message}
use Rattle.coap_block.specs.AssemblyState.{AssemblyState}
use Rattle.coap_block.specs.declared.block_verdict.BlockVerdict.{BlockVerdict}
use Rattle.coap_block.specs.declared.block_verdict.BlockVerdict.TheVariants.{Refuse, Join, Done}
use Rattle.coap_observe.specs.Observers.{Observer}
use Rattle.coap_resource.specs.Content.{Content, Held}
use Rattle.coap_resource.specs.Limits.{Limits}
use Rattle.coap_resource.specs.RequestOptions.{block_of, szx_by}
use Rattle.coap_resource.specs.Serves.{Question, Reply}
use Rattle.coap_exchange.specs.declared.answerer.Asked.{Asked}
use Rattle.coap_exchange.specs.declared.answerer.Due.{Due}
use Rattle.coap_exchange.specs.AnswererTrace as E
use Rattle.coap_server.specs.Trace.{Own, Notifies, Call, Feeds}
use Rattle.coap_server.specs.Trace.{Ticks}
use Rattle.coap_server.specs.Checks.{Verdict, Ignored, Refused, Asks, Uploads, verdict_on}
use Rattle.coap_server.specs.Handling.{heard, ticking}
use Rattle.coap_server.specs.Steps.{IsRight}
use Rattle.coap_server.specs.Law.{ServerLaw, own_of}
use Rattle.coap_server.specs.Notifying.{asks_for, notification, told}
use Rattle.coap_server.specs.Observers.{sequence}
use Rattle.coap_server.specs.Uploads.{last_block, ruling_of}
use Rattle.coap_server.specs.Follows.Brings.{AsksBy, Brings, HandsUp}
use Rattle.coap_server_laws.specs.Follows.Continues.{KeepsSize}
use Rattle.coap_server_laws.specs.Follows.GoesOut.{Sends, response_of}
use Rattle.coap_server.specs.Follows.Observes.{Notice, WasMade, notice}
use Rattle.coap_server_laws.specs.Follows.Reads.{ReadsOf}
use Rattle.coap_server_laws.specs.Follows.Recognised.{AllRecognised, IsRecognised}
use Rattle.coap_server.specs.Follows.Serves.{Serving, serving}
use Rattle.coap_server.specs.Follows.Takes.{Took, took, took_by, taken_by, takes_block}
use Rattle.coap_server_laws.proofs.Holding.BodiesShort.{bodies_short}
use Rattle.coap_server.proofs.Facts.Serving.ServedNow.{is_serving}
use Rattle.coap_server.proofs.Facts.Observing.ObserversWereMade.{notified_made}
use Rattle.coap_server.proofs.Facts.Observing.Outcomes.{Turned, turned, noticed}
use Rattle.coap_server_laws.proofs.Replying.BlocksContinued.{sizes}
use Rattle.coap_server_laws.proofs.Replying.OptionsRecognised.{continue_understood, last_small, response_understood}
use Rattle.coap_server_laws.proofs.Replying.OptionsRecognised.{said_small}
use Rattle.coap_server_laws.proofs.Replying.ReplyBlocks.{got_small, reply_small}
use Rattle.coap_server.proofs.Facts.Serving.Brought.{server_back}
use Rattle.coap_server_laws.proofs.Serving.Reads.{verdicts_read}
use Rattle.coap_server_laws.proofs.Serving.ServedWasHandedUp.{handed_up}
use Rattle.coap_server_laws.proofs.Telling.ResponsesMade.{made_here}

-- a block that is taken was read

took_small : (u : AssemblyState) (szx at : ℕ) (a : Asked) (m : Message) (v : Verdict) (x : Took) → ReadsOf szx m v
    → taken_by u at a v ≡ Some x → (x.part.num ≤ 1048575) × (x.part.szx ≤ 6)
took_small u szx at a m (Uploads q b) x r h = by (ruling_of u at a q b) h
  where
    read : took a q b ≡ x → (x.part.num ≤ 1048575) × (x.part.szx ≤ 6)
    read same = subst (λ (y : Took). (y.part.num ≤ 1048575) × (y.part.szx ≤ 6)) same (said_small r.1.0 b r.1.2)

    by : (v : BlockVerdict) → took_by v (took a q b) ≡ Some x → (x.part.num ≤ 1048575) × (x.part.szx ≤ 6)
    by (Refuse why) t = absurd (cc t)
    by (Join n) t = read (cc t)
    by Done t = read (cc t)
took_small u szx at a m _ x r h = absurd (cc h)

block_small : (s : Own) (c : Call) (x : Took) → takes_block s c ≡ Some x
    → (x.part.num ≤ 1048575) × (x.part.szx ≤ 6)
block_small s (Feeds now from bytes w up (Some p) h below) x e =
    took_small s.uploads s.szx _ p.0 p.1 (verdict_on s.szx p.1) x (verdicts_read s.szx p.1) e
block_small s _ x e = absurd (cc e)

size_small : (num szx size : ℕ) → szx ≤ 6 → KeepsSize num szx size → size ≤ 6
size_small num szx size small (inl same) = omega (arith, small, same)
size_small num szx size small (inr k) = let less = k.1 in omega (arith, small, less)

smaller : (o : Option Block) (szx : ℕ) → szx_by o szx ≤ szx
smaller None szx = omega arith
smaller (Some b) szx = omega arith

module _ (limits : Limits) (szx : ℕ) (setup : Setup) where
  abbrev own : List Call → Own
  own t = own_of limits szx t

  -- what is served has the block size of the server

  size_by : (past : List Call) (c : Call) (a : Asked) (q : Question) (m : Message) (v : Verdict) → ReadsOf szx m v
      → AsksBy limits szx past c a q v → q.szx ≡ szx
  size_by past c a q m Ignored r h = absurd h
  size_by past c a q m (Refused code) r h = absurd h
  size_by past c a q m (Asks p) r h = ap (λ (x : Question). x.szx) h ∙ ap (λ (x : Question). x.szx) r.0.is
  size_by past c a q m (Uploads p b) r h =
      ap (λ (x : Question). x.szx) h.question ∙ ap (λ (x : Question). x.szx) r.0.is

  brought_size : (t : List Call) (a : Asked) (q : Question)
      → Sometime (λ past c. Brings limits szx setup past c a q) t → q.szx ≡ szx
  brought_size [] a q h = absurd h
  brought_size (c ∷ t) a q (inl h) = forget (q.szx ≡ szx) h.comes.news
      (Ever_map (HandsUp szx a h.verdict) (λ e. q.szx ≡ szx)
      (λ e k. size_by t c a q k.message h.verdict
      (subst (ReadsOf szx k.message) k.verdict (verdicts_read szx k.message)) h.asks) h.comes.news h.comes.here)
  brought_size (c ∷ t) a q (inr h) = brought_size t a q h

  served_size : (t : List Call) (c : Call) → ServerLaw limits szx setup (c ∷ t) → (x : Serving)
      → serving (own t) c ≡ Some x → x.question.szx ≡ szx
  served_size t c law x is = brought_size (c ∷ t) x.asked x.question ((handed_up limits szx setup (c ∷ t) law).0 x is)

  made_size : (t : List Call) (o : Observer) → ServerLaw limits szx setup t → WasMade limits szx t o → o.szx ≤ szx
  made_size [] o law h = absurd h
  made_size (c ∷ t) o law (inl h) =
      let q : Question = h.made.request.question in
      let is = h.size_is in
      let same = served_size t c law h.made.request h.made.here in
      let less = smaller (block_of q.options) q.szx in
      omega (arith, is, same, less)
  made_size (c ∷ t) o law (inr h) = made_size t o (server_back limits szx setup c t law) h

  module _ (small : szx ≤ 6) (limit : limits.body ≤ 1048576) where
    module _ (t : List Call) (c : Call) (law : ServerLaw limits szx setup (c ∷ t)) where
      held_short : (path : List (List ℕ)) (held : Held) → (own t).store.holds path ≡ Some held
          → length held.body ≤ 1048576
      held_short path held is = let k = bodies_short limits szx t law.rows.1 path held is in omega (arith, k, limit)

      served : (x : Serving) → serving (own t) c ≡ Some x → lacks_critical Response (response_of x).options ≡ false
      served x is =
          let k = is_serving (own t) c law.rows.0 x is in
          let size = served_size t c law x is in
          response_understood x.reply x.sequence (last_block x.question)
          (reply_small x.old (own (c ∷ t)).clock x.question x.reply x.left
          (λ held there. held_short x.question.path held
          (sym (ap (λ (s : Content). s.holds x.question.path) k.old) ∙ there))
          (omega (arith, size, small)) k.serves)
          (last_small x.question)

      responses : (a : Asked) (r : E.Response) → Sends limits szx t c a r → lacks_critical Response r.options ≡ false
      responses a r h = elim (made_here limits szx setup t c law a r h) [
        | inl k ↦ subst (λ (y : E.Response). lacks_critical Response y.options ≡ false) (sym k.is)
            (served k.request k.here)
        | inr z ↦ elim z [
          | inl k ↦ (
              let low = block_small (own t) c k.block k.taken in
              subst (λ (y : E.Response). lacks_critical Response y.options ≡ false) (sym k.is)
              (continue_understood k.size
              (record { num = k.block.part.num; more = true; szx = k.block.part.szx }) low.0
              (size_small k.block.part.num k.block.part.szx k.size low.1
              (sizes limits szx setup t c k.block k.size k.taken k.asks)))
              )
          | inr k ↦ subst (λ (y : E.Response). lacks_critical Response y.options ≡ false) (sym k.is) refl
        ]
      ]

      -- a notification
      told_so : (o : Observer) (reply : Reply) → WasMade limits szx t o → reply ≡ told (own t).store o
          → lacks_critical Response (notification (own t).store o reply).options ≡ false
      told_so o reply made is =
          let size = made_size t o (server_back limits szx setup c t law) made in
          subst (λ (z : Reply). lacks_critical Response (notification (own t).store o z).options ≡ false) (sym is)
          (response_understood (told (own t).store o) (sequence ((own t).store.holds o.path)) None
          (got_small ((own t).store.holds o.path) (asks_for o) (held_short o.path) (omega (arith, size, small))) tt)

      turn_notices : (now w : ℕ) (below : L.Answer) (room : Bool) (d : Due) (passed : ℕ) (o : Observer) (reply : Reply)
          → Turned (heard (own t) now (ticking (own t) now below room d)) passed d (Notifies o reply)
          → lacks_critical Response (notification (own t).store o reply).options ≡ false
      turn_notices now w below room d passed o reply (noticed _ _ found is) =
          told_so o reply (notified_made limits szx t now below room passed o found) is

      notices : (x : Notice) (d : Call) → IsRight (own t) d → notice d ≡ Some x
          → lacks_critical Response (notification (own t).store x.observer x.reply).options ≡ false
      notices x (Ticks now w below room d passed (Notifies o reply) id answer) right e =
          let s : Own = heard (own t) now (ticking (own t) now below room d) in
          let same : ◌≡◌ {A = Notice} (record { observer = o; reply = reply }) x = cc e in
          subst (λ (y : Notice). lacks_critical Response (notification (own t).store y.observer y.reply).options
          ≡ false)
          same (turn_notices now w below room d passed o reply (turned s passed d (Notifies o reply) right.0))
      notices x _ right e = absurd (cc e)

      here : IsRecognised limits szx t c
      here = record { responses = responses; notices = λ x e. notices x c law.rows.0 e }

    each : (t : List Call) → ServerLaw limits szx setup t → Always (IsRecognised limits szx) t
    each [] law = tt
    each (c ∷ t) law = (here t c law, each t (server_back limits szx setup c t law))

pub all_recognised : (limits : Limits) (szx : ℕ) (setup : Setup) (t : List Call) → ServerLaw limits szx setup t
    → AllRecognised limits szx t
all_recognised limits szx setup t law small limit = each limits szx setup small limit t law

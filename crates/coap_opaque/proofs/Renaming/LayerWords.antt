-- What a call of a message layer says of its endpoints, renamed.
use Rattle.std.proofs.Common.{◌≡◌, ℕ, ◌==◌, Bool, true, false, ◌&&◌, Option, Some, None, refl, ap, ap₂}
use Rattle.std.proofs.Common.{◌∙◌, cond, option_map}
use Rattle.coap_types.specs.declared.endpoint.Endpoint.{Endpoint}
use Rattle.coap_codec.specs.Message.{Message}
use Rattle.coap_layer.specs.Trace as L
use Rattle.coap_layer.specs.Words as W
use Rattle.coap_layer.specs.Words.{Awaited, Incoming, Open}
use Rattle.coap_opaque.specs.Renaming.Endpoints.{TellsApart}
use Rattle.coap_opaque.specs.Renaming.OfLayer as R

module _ (rename : Endpoint → Endpoint) where
  -- what an answer says without an endpoint

  pub handed_same : (a : L.Answer) → W.handed_by (R.answer rename a) ≡ W.handed_by a
  handed_same (L.Becomes d) = refl
  handed_same _ = refl

  pub kept_same : (a : L.Answer) → W.kept_by (R.answer rename a) ≡ W.kept_by a
  kept_same (L.Becomes d) = refl
  kept_same _ = refl

  pub issued_same : (at : ℕ) (a : L.Answer) → W.issued_by at (R.answer rename a) ≡ W.issued_by at a
  issued_same at (L.Sent id) = refl
  issued_same at _ = refl

  pub sent_same : (a : L.Answer) → W.sent_by (R.answer rename a) ≡ W.sent_by a
  sent_same (L.Sent id) = refl
  sent_same _ = refl

  pub takes_same : (c : L.Call) → W.takes_in (R.call rename c) ≡ W.takes_in c
  takes_same L.Take = refl
  takes_same _ = refl

  -- what arrives, and what a reply may be given to

  from_same : (from : Endpoint) (o : Option Message)
      → W.from_there (rename from) o ≡ option_map (R.incoming rename) (W.from_there from o)
  from_same from None = refl
  from_same from (Some m) = refl

  pub taken_same : (c : L.Call) (a : L.Answer)
      → W.taken_in (R.call rename c) (R.answer rename a) ≡ option_map (R.incoming rename) (W.taken_in c a)
  taken_same (L.Receive from bytes) a =
      ap (W.from_there (rename from)) (kept_same a) ∙ from_same from (W.kept_by a)
  taken_same _ a = refl

  awaited_same : (from : Endpoint) (o : Option Message)
      → W.awaited_of (W.from_there (rename from) o)
      ≡ option_map (R.awaited rename) (W.awaited_of (W.from_there from o))
  awaited_same from None = refl
  awaited_same from (Some m) = refl

  pub awaits_same : (c : L.Call) (a : L.Answer) (old : Option Awaited)
      → W.awaits_in (R.call rename c) (R.answer rename a) (option_map (R.awaited rename) old)
      ≡ option_map (R.awaited rename) (W.awaits_in c a old)
  awaits_same (L.Receive from bytes) a old =
      ap (λ o. W.awaited_of (W.from_there (rename from) o)) (handed_same a) ∙ awaited_same from (W.handed_by a)
  awaits_same _ a old = refl

  -- what is begun

  open_same : (at : ℕ) (to : Endpoint) (content : L.Content) (word : ℕ) (o : Option ℕ)
      → W.open_of at (rename to) content word o ≡ option_map (R.con rename) (W.open_of at to content word o)
  open_same at to content word None = refl
  open_same at to content word (Some id) = refl

  pub begun_same : (at : ℕ) (c : L.Call) (a : L.Answer)
      → W.begun_in at (R.call rename c) (R.answer rename a) ≡ option_map (R.con rename) (W.begun_in at c a)
  begun_same at (L.Confirm to content word) a =
      ap (W.open_of at (rename to) content word) (sent_same a) ∙ open_same at to content word (W.sent_by a)
  begun_same at _ a = refl

  module _ (apart : TellsApart rename) where
    -- an endpoint with a Message ID

    pub place_same : (to : Endpoint) (id : ℕ) (place : Endpoint) (n : ℕ)
        → W.same (rename to) id (rename place) n ≡ W.same to id place n
    place_same to id place n = ap (λ b. b && (n == id)) (apart place to)

    ends_same : (c : L.Call) (a : L.Answer) (place : Endpoint) (n : ℕ)
        → W.ends_in (R.call rename c) (R.answer rename a) (rename place) n ≡ W.ends_in c a place n
    ends_same (L.Receive from bytes) (L.Becomes (L.Acked id)) place n = place_same from id place n
    ends_same (L.Receive from bytes) (L.Becomes (L.Reset id)) place n = place_same from id place n
    ends_same (L.Settle to id) a place n = place_same to id place n
    ends_same L.Ticks (L.Expired to id) place n = place_same to id place n
    ends_same _ _ place n = refl

    copies_same : (c : L.Call) (a : L.Answer) (place : Endpoint) (n : ℕ)
        → W.copies_in (R.call rename c) (R.answer rename a) (rename place) n ≡ W.copies_in c a place n
    copies_same L.Ticks (L.Copied to id) place n = place_same to id place n
    copies_same _ _ place n = refl

    pub still_same : (e : L.Entry) (c : Open)
        → W.left_by (R.entry rename e) (R.con rename c) ≡ option_map (R.con rename) (W.left_by e c)
    still_same e c =
        ap₂ (λ a b. cond a None (cond b (Some (R.con rename (record c { last = e.at }))) (Some (R.con rename c))))
        (ends_same e.call e.answer c.to c.id) (copies_same e.call e.answer c.to c.id)
        ∙ by (W.ends_in e.call e.answer c.to c.id) (W.copies_in e.call e.answer c.to c.id)
      where
        by : (a b : Bool)
            → cond a None (cond b (Some (R.con rename (record c { last = e.at }))) (Some (R.con rename c)))
            ≡ option_map (R.con rename) (cond a None (cond b (Some (record c { last = e.at })) (Some c)))
        by true b = refl
        by false true = refl
        by false false = refl

    -- the reply that a call gives
    pub reply_same : (from : Endpoint) (id : ℕ) (c : L.Call)
        → W.reply_in (rename from) id (R.call rename c) ≡ W.reply_in from id c
    reply_same from id (L.Reply to n bytes) =
        ap (λ b. cond (b && (n == id)) (Some bytes) None) (apart to from)
    reply_same from id _ = refl

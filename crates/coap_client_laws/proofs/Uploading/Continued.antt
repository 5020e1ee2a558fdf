-- A further block is sent where the first one was answered with 2.31.
use Rattle.std.proofs.Common.{◌≡◌, ◌<◌, ◌⊎◌, inl, inr, ℕ, ◌*◌, Some, List, ◌∷◌, [], refl, subst, arith}
use Rattle.std.specs.Prelude.{zero, suc}
use Rattle.std.proofs.Math.Nat.{suc-mul}
use Rattle.coap_types.specs.declared.endpoint.Endpoint.{Endpoint}
use Rattle.coap_types.specs.Piece.{size_of}
use Rattle.coap_layer.specs.declared.setup.Setup.{Setup}
use Rattle.coap_block.specs.Sizes.{Sizes}
use Rattle.coap_block.specs.Sent.{Sent}
use Rattle.coap_block.specs.UploadStep.{UploadState}
use Rattle.coap_block.proofs.Facts.Sizes.{size_some}
use Rattle.coap_client.specs.Trace.{Call}
use Rattle.coap_client_laws.specs.Follows.Blocks.{Carried, carried, SendsPiece, SendsPieces}
use Rattle.coap_client.specs.Law.{ClientLaw}
use Rattle.coap_client.specs.Sendings.{Sending}
use Rattle.coap_client_laws.proofs.Uploading.Pieces.{sends_pieces}
use Rattle.coap_client_laws.specs.Follows.Begins.{WasSent}
use Rattle.coap_client_laws.specs.Follows.Continued.{FirstContinued, AreContinued}
use Rattle.coap_client_laws.proofs.Sending.LiveTokens.{last_was_sent}

-- what begins at the start of a body is its first block
zero_first : (num size : ℕ) → 0 < size → num * size ≡ 0 → num ≡ 0
zero_first zero size some h = refl
zero_first (suc n) size some h = let e = suc-mul n size in absurd (omega (arith, some, h, e))

module _ (sizes : Sizes) where
  first_of : (u : UploadState) → Sent [] u → u.num ≡ 0
  first_of u h = zero_first u.num (size_of u.szx) (size_some u.szx) h.at

  later : (number : ℕ) (t : List Call) (c : Call) → FirstContinued sizes number t t
      → FirstContinued sizes number t (c ∷ t)
  later number t c h = record {
    first = h.first;
    sent = h.sent;
    block = h.block;
    carries = h.carries;
    number_is = h.number_is;
    is_first = h.is_first;
    answered = inr h.answered;
  }

  behind : (number : ℕ) (t : List Call) (c : Call) → FirstContinued sizes number t (c ∷ t)
      → FirstContinued sizes number (c ∷ t) (c ∷ t)
  behind number t c h = record {
    first = h.first;
    sent = inr h.sent;
    block = h.block;
    carries = h.carries;
    number_is = h.number_is;
    is_first = h.is_first;
    answered = h.answered;
  }

  -- at a call, by what was sent before
  at_call : (t : List Call) (c : Call) (x : Sending) (y : Carried) → SendsPiece sizes t c x y
      → ((b : Sending) (z : Carried) → WasSent sizes b t → carried b.operation ≡ Some z
      → (z.upload.num ≡ 0) ⊎ FirstContinued sizes z.number t t)
      → (y.upload.num ≡ 0) ⊎ FirstContinued sizes y.number t (c ∷ t)
  at_call t c x y p before = elim p.follows [
    | inl none ↦ inl (first_of y.upload (subst (λ ps. Sent ps y.upload) none p.sent))
    | inr f ↦ (
        let was = last_was_sent sizes t f.before f.last in
        elim (before f.before (record { number = y.number; upload = f.upload }) was f.of) [
          | inl first_is ↦ inr (record {
            first = f.before;
            sent = was;
            block = record { number = y.number; upload = f.upload };
            carries = f.of;
            number_is = refl;
            is_first = first_is;
            answered = inl (f.message, f.heard, f.token, f.code);
          })
          | inr h ↦ inr (later y.number t c h)
        ])
  ]

  all_sent : (t : List Call) → SendsPieces sizes t → (x : Sending) (y : Carried) → WasSent sizes x t
      → carried x.operation ≡ Some y → (y.upload.num ≡ 0) ⊎ FirstContinued sizes y.number t t
  all_sent [] law x y was carries = absurd was
  all_sent (c ∷ t) law x y (inl now) carries =
      elim (at_call t c x y (law.0 x y now carries) (all_sent t law.1))
      [ inl first_is ↦ inl first_is | inr h ↦ inr (behind y.number t c h) ]
  all_sent (c ∷ t) law x y (inr before) carries =
      elim (all_sent t law.1 x y before carries) [
        | inl first_is ↦ inl first_is
        | inr h ↦ inr
            (behind y.number t c (later y.number t c h))
      ]

  continued : (t : List Call) → SendsPieces sizes t → AreContinued sizes t
  continued [] law = tt
  continued (c ∷ t) law = (
    λ x y is carries some.
        (elim (at_call t c x y (law.0 x y is carries) (all_sent t law.1))
        [ inl first_is ↦ absurd (omega (arith, first_is, some)) | inr h ↦ h ]),
    continued t law.1,
  )

pub are_continued : (server : Endpoint) (sizes : Sizes) (setup : Setup) (t : List Call) → ClientLaw server sizes setup t
    → AreContinued sizes t
are_continued server sizes setup t law = continued sizes t (sends_pieces sizes server setup t law)

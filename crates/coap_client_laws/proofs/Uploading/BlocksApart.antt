-- Where a block of an upload is sent, each block of another was answered, or is quiet.
use Rattle.std.proofs.Common.{◌≡◌, ◌≢◌, ◌≤◌, ◌<◌, ◌⊎◌, inl, inr, ℕ, ◌+◌, ◌&&◌, not, Bool, true, false, Some, None, List}
use Rattle.std.proofs.Common.{[], ◌∷◌, refl, ap, sym, subst, ◌∙◌, arith, length}
use Rattle.std.specs.Prelude.{nat_lt, ◌==◌}
use Rattle.std.proofs.Math.Nat.{lt_of_not-le}
use Rattle.std.proofs.Math.Arith.{lt_of_le-ne}
use Rattle.coap_types.specs.Past.{Ever, Always}
use Rattle.coap_types.specs.declared.endpoint.Endpoint.{Endpoint}
use Rattle.coap_types.specs.declared.transmission.TheConstants.{MAX_LATENCY_MS as max_latency}
use Rattle.coap_types.specs.Piece.{size_of, offset_of}
use Rattle.coap_block.specs.Sizes.{Sizes}
use Rattle.coap_block.specs.UploadStep.{UploadState, more_follows}
use Rattle.coap_layer.specs.Sends.{SendsIt}
use Rattle.coap_layer.specs.Trace as L
use Rattle.coap_layer.specs.Trace.{with_head}
use Rattle.coap_layer.specs.Words.{Open}
use Rattle.coap_layer.specs.declared.setup.Setup.{Setup}
use Rattle.coap_exchange.specs.AskerRequests.{content_of}
use Rattle.coap_client.specs.Trace.{Call}
use Rattle.coap_client.specs.Own.{Uploads, Operation, Calling}
use Rattle.coap_client.specs.Requests.{is_longer}
use Rattle.coap_client.specs.Law.{ClientLaw, own_of, layer_of}
use Rattle.coap_client.specs.Sendings.{Sending, sends}
use Rattle.coap_client_laws.specs.Follows.Begins.{WasSent, IsRequestOf}
use Rattle.coap_client_laws.specs.Follows.Blocks.{Carried, carried}
use Rattle.coap_client_laws.specs.Follows.Holds.{moment, is_upload_of, SendsOf}
use Rattle.coap_client_laws.specs.Follows.Order.{call_of, turn_of, is_last, HearsBy}
use Rattle.coap_client.proofs.Facts.Turning.Leading.{client_back}
use Rattle.coap_client_laws.proofs.Uploading.Continued.{are_continued}
use Rattle.coap_client_laws.proofs.Queueing.OneByOne.{are_in_order}
use Rattle.coap_client_laws.proofs.Sending.Tokens.{one_of_token}
use Rattle.coap_client.proofs.Facts.Places.PlaceLemmas.{number_self, same_number}
use Rattle.coap_client_laws.specs.Follows.Apart.{IsQuiet, BlocksApart}
use Rattle.coap_client_laws.proofs.Sending.ApartLists.{always_map}
use Rattle.coap_client_laws.proofs.Sending.Moments.{moment_from, begins_from}
use Rattle.coap_client_laws.proofs.Sending.SentIn.{SentSince, SentIn, sent_in}
use Rattle.coap_client_laws.proofs.Sending.TokenOfBytes.{token_is}
use Rattle.coap_client_laws.proofs.Uploading.UploadsHold.{Past, none_behind_end, at_first, since_first}

-- a block of several
record IsUpload (op : Operation) (b : Carried) : Type 0 where
  call : call_of op ≡ Some b.number
  turn : turn_of op ≡ Some b.number
  up : is_longer b.upload ≡ true → is_upload_of b.number (Some op) ≡ true
  last : is_last op ≡ not (more_follows b.upload)

upload_of : (op : Operation) (b : Carried) → carried op ≡ Some b → IsUpload op b
upload_of (Calling n r (Uploads u)) b h =
    let e : ◌≡◌ {A = Carried} (record { number = n; upload = u }) b = cc h in
    subst (IsUpload (Calling n r (Uploads u))) e
    (record { call = refl; turn = refl; up = λ l. ap (λ z. z && is_longer u) (number_self n) ∙ l; last = refl })
upload_of _ b h = absurd (cc h)

-- more follows its first block
more_is_longer : (u : UploadState) → u.num ≡ 0 → more_follows u ≡ true → is_longer u ≡ true
more_is_longer u zero h =
    let none : offset_of 0 u.szx + size_of u.szx ≡ size_of u.szx = omega arith in
    ap (λ n. nat_lt n (length u.body)) (sym none)
    ∙ (ap (λ n. nat_lt (offset_of n u.szx + size_of u.szx) (length u.body)) (sym zero) ∙ h)

some_more : (u : UploadState) → not (more_follows u) ≡ false → more_follows u ≡ true
some_more u h = by (more_follows u) h
  where
    by : (b : Bool) → not b ≡ false → b ≡ true
    by true k = refl
    by false k = absurd (cc k)

not_it : (x : Bool) → (x ≡ true → ⊥) → x ≡ false
not_it true f = absurd (f refl)
not_it false f = refl

module _ (server : Endpoint) (sizes : Sizes) (setup : Setup) (t : List Call) (c : Call)
    (law : ClientLaw server sizes setup (c ∷ t))
    (x y : Sending) (a b : Carried) (sends_it : sends (own_of sizes t) c ≡ Some y) (was : WasSent sizes x t)
    (x_is : carried x.operation ≡ Some a) (y_is : carried y.operation ≡ Some b) (x_long : is_longer a.upload ≡ true)
    (y_long : is_longer b.upload ≡ true) (other : a.number ≢ b.number) where
  abbrev now : ℕ
  now = moment (own_of sizes t) c

  of_x : IsUpload x.operation a
  of_x = upload_of x.operation a x_is

  of_y : IsUpload y.operation b
  of_y = upload_of y.operation b y_is

  less : a.number < b.number
  less = lt_of_le-ne (((are_in_order sizes server setup (c ∷ t) law).0).in_turn x y a.number b.number sends_it was
      of_x.turn of_y.turn) other

  at_now : (till : ℕ) → till ≤ now → Past sizes a.number till t → Past sizes a.number now t
  at_now till le p = record {
    ended = p.ended;
    old = always_map (λ earlier d. SendsOf sizes a.number earlier d
        → moment (own_of sizes earlier) d + max_latency < till)
        (λ earlier d. SendsOf sizes a.number earlier d → moment (own_of sizes earlier) d + max_latency < now)
        (λ earlier d f s. (let k = f s in omega (arith, k, le))) t p.old;
  }

  later_block : 0 < b.upload.num → Ever (HearsBy x.token) (c ∷ t) ⊎ Past sizes a.number now t
  later_block some =
      let f = (are_continued server sizes setup (c ∷ t) law).0 y b sends_it y_is some in
      let of_f = upload_of f.first.operation f.block f.carries in
      let same : call_of f.first.operation ≡ Some b.number = of_f.call ∙ ap (λ n. Some n) f.number_is in
      let not_last : is_last f.first.operation ≡ false =
      not_it (is_last f.first.operation) (λ h. ((are_in_order sizes server setup (c ∷ t) law).0).none_behind f.first y
      b.number sends_it f.sent same of_y.call h) in
      let long : is_longer f.block.upload ≡ true =
      more_is_longer f.block.upload f.is_first (some_more f.block.upload (sym of_f.last ∙ not_last)) in
      let before : a.number < f.block.number = (let n = f.number_is in omega (arith, less, n)) in
      elim (since_first sizes server setup t (client_back server sizes setup
      (c ∷ []) t law) x f.first a.number f.block f.sent
      was of_x.call f.carries long f.is_first before) [
        | inl h ↦ inl (inr h)
        | inr g ↦ (let from = moment_from (own_of sizes t) c in let till =
            g.by in inr (at_now g.till (omega (arith, from, till)) g.past))
      ]

  apart_by : (z : Bool) → (b.upload.num == 0) ≡ z → Ever (HearsBy x.token) (c ∷ t) ⊎ Past sizes a.number now t
  apart_by true e = at_first sizes server setup t c law x y a.number b sends_it was of_x.call y_is y_long
      (same_number b.upload.num 0 e)
  apart_by false e = later_block (lt_of_not-le
      (λ le. (let zero : b.upload.num ≡ 0 = omega (arith, le) in let yes_it : (b.upload.num == 0)
      ≡ true = ap (λ n. n == 0) zero in cc (e, yes_it))))

  -- a request is of one sending
  same_sending : (con : Open) (z : Sending) → IsRequestOf server con x → IsRequestOf server con z
      → WasSent sizes z (c ∷ t) → z ≡ x
  same_sending con z of_it of_z z_was = elim (one_of_token sizes server setup (c ∷ t) law x z (inr was) z_was
      (token_is con.id (content_of x.token x.request) (content_of z.token z.request) (sym of_it.bytes ∙ of_z.bytes))) [
        | inl e ↦ sym e
        | inr d ↦ elim d [
          | inl d ↦ absurd (let k : Some a.number ≡ None = sym of_x.call ∙ ap call_of d.registers in cc k)
          | inr d ↦ absurd (let k : Some a.number ≡ None = sym of_x.call ∙ ap call_of d.cancels in cc k)
        ]
      ]

  quiet : Past sizes a.number now t → IsQuiet server sizes setup t c x
  quiet p old new there of_it begins =
      always_map (λ q e. SendsIt old q e → SentIn server sizes setup old (c ∷ t) e)
      (λ q e. SendsIt old q e → e.at + max_latency < new.first) (λ q e f s. late e (f s))
      (layer_of server sizes setup (c ∷ t)) (sent_in server sizes setup old (c ∷ t) law)
    where
      from : now ≤ new.first
      from = begins_from server sizes setup t c new begins

      older : (at : ℕ) (d : List Call) → Always (λ earlier b. SendsOf sizes a.number earlier b
          → moment (own_of sizes earlier) b + max_latency < now) d → SentSince server sizes setup a.number at d
          → at + max_latency < new.first
      older at [] all h = absurd h
      older at (e ∷ d) all (inl h) = let k = all.0 h.0 in let le = h.1 in omega (arith, k, le, from)
      older at (e ∷ d) all (inr h) = older at d all.1 h

      late : (e : L.Entry) → SentIn server sizes setup old (c ∷ t) e → e.at + max_latency < new.first
      late e s = by (s.when a.number (subst (λ (z : Sending). is_upload_of a.number (Some z.operation) ≡ true)
          (sym (same_sending old s.sending of_it s.is s.sent)) (of_x.up x_long)))
        where
          by : SentSince server sizes setup a.number e.at (c ∷ t) → e.at + max_latency < new.first
          by (inl h) = absurd (none_behind_end sizes server setup t c law a.number p.ended h.0)
          by (inr h) = older e.at t p.old h

  pub apart_here : Ever (HearsBy x.token) (c ∷ t) ⊎ IsQuiet server sizes setup t c x
  apart_here = elim (apart_by (b.upload.num == 0) refl) [ inl h ↦ inl h | inr p ↦ inr (quiet p) ]

pub blocks_apart : (server : Endpoint) (sizes : Sizes) (setup : Setup) (t : List Call) → ClientLaw server sizes setup t
    → BlocksApart server sizes setup t
blocks_apart server sizes setup [] law = tt
blocks_apart server sizes setup (c ∷ t) law = (
  λ x y i j is was p q other. apart_here server sizes setup t c law x y p.block q.block is was p.carries q.carries
      p.longer
      q.longer (λ e. other (sym p.number_is ∙ (e ∙ q.number_is))),
  blocks_apart server sizes setup t (client_back server sizes setup (c ∷ []) t law),
)

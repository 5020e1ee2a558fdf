-- A request that came whole, in no blocks, has all of the body of its call.
use Rattle.std.proofs.Common.{◌≡◌, ◌⊎◌, ◌≤◌, ◌<◌, inl, inr, ℕ, zero, suc, ◌*◌, nat_lt, Bool, true, false, Some, None}
use Rattle.std.proofs.Common.{List, [], ◌∷◌, length, take, drop, refl, ap, sym, subst, ◌∙◌, cond, arith}
use Rattle.std.proofs.lemmas.Bool.Decides.{nat_tests}
use Rattle.coap_types.specs.BlockValue.{block_value}
use Rattle.coap_types.specs.CoapOption.{option}
use Rattle.coap_types.specs.OptionValues.{uint_at, uint_in, value_of}
use Rattle.coap_types.specs.Past.{Sometime}
use Rattle.coap_types.specs.Piece.{size_of, part_of, Begins}
use Rattle.coap_types.specs.Uint.{uint}
use Rattle.coap_types.specs.declared.option_number.TheConstants.{BLOCK1 as block1}
use Rattle.coap_types.specs.declared.request.Method.{Method}
use Rattle.coap_types.specs.declared.request.Method.TheVariants.{Delete}
use Rattle.coap_types.proofs.Facts.Uints.{uint_read}
use Rattle.coap_block.specs.Sizes.{Sizes}
use Rattle.coap_codec.specs.Message.{Message}
use Rattle.coap_block.specs.UploadStep.{UploadState, block_to_send, more_follows}
use Rattle.coap_resource.specs.Serves.{Question}
use Rattle.coap_exchange.specs.declared.answerer.Asked.{Asked}
use Rattle.coap_client_laws.specs.Follows.Begins.{WasSent}
use Rattle.coap_client_laws.specs.Follows.Blocks.{carried}
use Rattle.coap_client_laws.specs.Follows.OfCalls.{CarriesBody}
use Rattle.coap_client.specs.Own.{Transfer, Fetches, Uploads, Single, Calling}
use Rattle.coap_client.specs.Requests.{is_longer, block_option, payload_of}
use Rattle.coap_client.specs.Sendings.{Taken, WasTaken, Sending}
use Rattle.coap_server_laws.specs.Follows.Reads.{ReadsOf}
use Rattle.coap_server.specs.Follows.Serves.{Serving}
use Rattle.coap_server.specs.Checks.{Verdict, Asks}
use Rattle.coap_client_laws.proofs.Facts.Laws as client_facts
use Rattle.coap_server_laws.proofs.Facts.Laws as server_facts
use Rattle.coap_promise.specs.CameFrom.{request_of, ComesAt, CameFrom, CamesFrom}
use Rattle.coap_record.specs.Events.{Config}
use Rattle.coap_record.specs.Legal.{IsRequest}
use Rattle.coap_record.specs.Record.{Entry, client_of}
use Rattle.coap_promise.proofs.Facts.Requests.LastRequests.{no_fetch, sends_body, small_value}
use Rattle.coap_promise.proofs.Facts.Requests.OfACall.{Lawful, Later, Known, one_sending}
use Rattle.coap_promise.proofs.Facts.Requests.ReadBack.{block_back}
use Rattle.coap_promise.proofs.Facts.Requests.Traced.{sent_later}
use Rattle.coap_promise.proofs.Facts.Uploads.Pieces.{begins_at}

-- the request that came so
record CameSo (config : Config) (a : Asked) (v : Verdict) (w : List Entry) : Type 0 where
  past : List Entry
  entry : Entry
  came : CameFrom config past entry a v
  sent : WasSent config.client_sizes came.sending (client_of w)

came_so : (config : Config) (a : Asked) (v : Verdict) (w : List Entry) → CamesFrom config w → a.from
    ≡ config.addresses.client
    → Sometime (ComesAt config a v) w → CameSo config a v w
came_so config a v [] came from h = absurd h
came_so config a v (e ∷ w) came from (inl h) = let k =
    came.0 a v h from in record { past = w; entry = e; came = k; sent = sent_later config k.sending w e k.sent }
came_so config a v (e ∷ w) came from (inr h) = let k =
    came_so config a v w came.1 from h in record
    { past = k.past; entry = k.entry; came = k.came; sent = sent_later config k.came.sending w e k.sent }

-- a block that is sent begins in its body
-- a body that fits a block is its first block

all_taken : {A : Type 0} (n : ℕ) (xs : List A) → length xs ≤ n → take n xs ≡ xs
all_taken zero [] h = refl
all_taken (suc n) [] h = refl
all_taken zero (x ∷ xs) h = absurd (omega (arith, h))
all_taken (suc n) (x ∷ xs) h = ap (λ l. x ∷ l) (all_taken n xs (omega (arith, h)))

first_num : (n s l : ℕ) → n * s < l → l ≤ s → n ≡ 0
first_num zero s l h k = refl
first_num (suc n) s l h k = absurd (grind (arith, h, k))

num_is : (u : UploadState) → length u.body ≤ size_of u.szx → Begins u.body u.num u.szx → u.num ≡ 0
num_is u short (inl h) = first_num u.num (size_of u.szx) (length u.body) h short
num_is u short (inr h) = h.0

none_dropped : (s : ℕ) (body : List ℕ) → drop (0 * s) body ≡ body
none_dropped s body = ap (λ (n : ℕ). drop n body) (zero_times s)
  where
    zero_times : (s : ℕ) → 0 * s ≡ 0
    zero_times s = grind arith

whole_part : (body : List ℕ) (num szx : ℕ) → num ≡ 0 → length body ≤ size_of szx → part_of body num szx ≡ body
whole_part body num szx zero_num short =
    ap (λ (n : ℕ). take (size_of szx) (drop (n * size_of szx) body)) zero_num
    ∙ (ap (take (size_of szx)) (none_dropped (size_of szx) body) ∙ all_taken (size_of szx) body short)

not_longer : (s l : ℕ) → nat_lt s l ≡ false → l ≤ s
not_longer s l h = grind (arith, nat_tests, h)

single_is : (sizes : Sizes) (m : Method) (body : List ℕ) → CarriesBody sizes m body Single → m ≡ Delete
single_is sizes Delete body h = refl
single_is sizes _ body h = absurd h

module _ (config : Config) (number : ℕ) (all : List Entry) (small : config.client_sizes.szx ≤ 6)
    (whole : Lawful config all)
    (in_range : (x : Taken) → WasTaken x (client_of all) → IsRequest x.request) (w : List Entry)
    (later : Later config number all small whole in_range w) (law : Lawful config w) (x : Serving)
    (from : x.asked.from ≡ config.addresses.client) (k : Known config number all small whole in_range w x)
    (h : Sometime (ComesAt config x.asked (Asks x.question)) w) where
  abbrev came : CameSo config x.asked (Asks x.question) w
  came = came_so config x.asked (Asks x.question) w law.came from h

  abbrev m : Message
  m = request_of came.came.con.id came.came.sending

  read : ReadsOf config.server_szx m (Asks x.question)
  read = subst (ReadsOf config.server_szx m) came.came.verdict (server_facts.reads config.server_szx m)

  same : came.came.sending ≡ k.sending
  same =
      one_sending config number all small whole in_range came.came.sending k.sending
      (later.0 came.came.sending came.sent) k.sent k.of_call
      (sym (ap (λ (z : Asked). z.token) came.came.asked) ∙ ap (λ (z : Asked). z.token) k.asked)

  body_is : x.question.body ≡ payload_of k.transfer
  body_is = ap (λ (q : Question). q.body) read.0.is
      ∙ (ap (λ (s : Sending). s.request.payload) same ∙ ap (λ r. r.payload) k.message)

  none_said : uint_in (value_of block1 (block_option k.transfer)) ≡ None
  none_said =
      ap uint_in (sym (block_back k.request k.request.method k.transfer))
      ∙ (ap (uint_at block1) (sym k.options) ∙ (ap (λ (q : Question). uint_at block1 q.options) read.0.is ∙ read.1))

  body_by : (t : Transfer) → k.transfer ≡ t → (k.request.method ≡ Delete) ⊎ (payload_of t ≡ k.request.body)
  body_by Single e = inl (single_is config.client_sizes k.request.method k.request.body
      (subst (CarriesBody config.client_sizes k.request.method k.request.body) e k.carries))
  body_by (Fetches f) e = absurd (no_fetch config.client_sizes k.request.method k.request.body f k.change
      (subst (CarriesBody config.client_sizes k.request.method k.request.body) e k.carries))
  body_by (Uploads u) e = inr (by (is_longer u) refl)
    where
      by : (b : Bool) → is_longer u ≡ b → part_of u.body u.num u.szx ≡ k.request.body
      by true long =
          let s = sends_body config.client_sizes k.request.method k.request.body u k.change
          (subst (CarriesBody config.client_sizes k.request.method k.request.body) e k.carries) in
          let z = s.size in
          let size : u.szx ≤ 6 = omega (arith, z, small) in
          let n : ℕ = block_value (block_to_send u) in
          let said : uint_in (value_of block1 (block_option (Uploads u)))
          ≡ Some n = ap (λ b. uint_in (value_of block1 (cond b (option block1 (uint n) ∷ []) []))) long
          ∙ uint_read n (small_value u.num u.szx (more_follows u) s.num size) in
          let none : uint_in (value_of block1 (block_option (Uploads u)))
          ≡ None = ap (λ t. uint_in (value_of block1 (block_option t))) (sym e) ∙ none_said in
          let both : Some n ≡ None = sym said ∙ none in
          absurd (cc both)
      by false short =
          let s = sends_body config.client_sizes k.request.method k.request.body u k.change
          (subst (CarriesBody config.client_sizes k.request.method k.request.body) e k.carries) in
          let few = not_longer (size_of u.szx) (length u.body) short in
          let begins = begins_at config.client_sizes (client_of all)
          (client_facts.pieces config.addresses.server config.client_sizes config.client_setup (client_of all)
          whole.client)
          k.sending number u k.sent
          (ap carried k.operation ∙ ap (λ t. carried (Calling number (record k.request { body = [] }) t)) e)
          in
          whole_part u.body u.num u.szx (num_is u few begins) few ∙ s.body_is

  pub body_alone : (k.request.method ≡ Delete) ⊎ (x.question.body ≡ k.request.body)
  body_alone = elim (body_by k.transfer refl) [ inl d ↦ inl d | inr b ↦ inr (body_is ∙ b) ]

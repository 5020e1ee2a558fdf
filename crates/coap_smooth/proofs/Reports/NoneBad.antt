-- What the server answers to a block of a call is no bad block for the client: a 2.31 fits the block that was sent, and
-- else it is an error or the answer to the last block (RFC 7959, section 2.5).
use Rattle.std.proofs.Common.{◌≡◌, ◌≢◌, ◌≤◌, ◌<◌, inl, inr, ℕ, ◌+◌, ◌/◌, Bool, true, false, not, ◌&&◌, ◌||◌, Option}
use Rattle.std.proofs.Common.{Some, None, List, [], ◌∷◌, length, map, refl, ap, sym, subst, ◌∙◌, cond, arith}
use Rattle.std.proofs.Math.Nat.{div-le_of_le-mul}
use Rattle.std.proofs.lemmas.Bool.{ltb-true}
use Rattle.coap_types.specs.BlockValue.{block_in, block_value}
use Rattle.coap_types.specs.CoapOption.{CoapOption, option}
use Rattle.coap_types.specs.MethodCode.{method_code, method_of}
use Rattle.coap_types.specs.Past.{Sometime}
use Rattle.coap_types.specs.Piece.{size_of, offset_of}
use Rattle.coap_types.specs.Recognised.{is_recognised, lacks_critical, recognised}
use Rattle.coap_types.specs.Uint.{uint}
use Rattle.coap_types.specs.declared.block.Block.{Block}
use Rattle.coap_types.specs.declared.direction.Direction.TheVariants.{Response}
use Rattle.coap_types.specs.declared.option_number.TheConstants.{BLOCK1 as block1}
use Rattle.coap_types.specs.declared.request.Method.{Method}
use Rattle.coap_types.specs.declared.request.Method.TheVariants.{Get}
use Rattle.coap_codec.specs.Message.{Message}
use Rattle.coap_block.specs.UploadStep.{UploadState, more_follows, block_to_send, Continues, KeepsSize, number_after}
use Rattle.coap_exchange.specs.declared.answerer.Asked.{Asked}
use Rattle.coap_client_laws.specs.Follows.Blocks.{Carried, carried}
use Rattle.coap_client_laws.specs.Follows.OfAnswers.{IsBadFor}
use Rattle.coap_client_laws.specs.Follows.Order.{call_of, is_last}
use Rattle.coap_client.specs.Sendings.{Taken, WasTaken, Sending}
use Rattle.coap_client.specs.Own.{Uploads, Calling}
use Rattle.coap_client.specs.Responses.{block_at, said}
use Rattle.coap_client.specs.Trace as C
use Rattle.coap_client_laws.proofs.Facts.Laws as client_facts
use Rattle.coap_server.specs.Follows.Serves.{Serving}
use Rattle.coap_server.specs.Follows.Takes.{Took}
use Rattle.coap_server.specs.Law.{own_of}
use Rattle.coap_server.specs.Trace as S
use Rattle.coap_server_laws.proofs.Facts.EachCall.{refusals_are_errors}
use Rattle.coap_server_laws.proofs.Facts.Laws as server_facts
use Rattle.coap_promise.specs.Answers.{IsAnswer, replies, continues, refuses, notifies, AnswersAt}
use Rattle.coap_promise.specs.CameFrom.{request_of}
use Rattle.coap_record.specs.Events.{Config}
use Rattle.coap_record.specs.Legal.{IsRequest}
use Rattle.coap_record.specs.Record.{Entry, OfClient, OfServer, client_of, server_trace}
use Rattle.coap_promise.specs.Words.{ServesAt}
use Rattle.coap_promise.proofs.Facts.Reports.ContentRead.{block_back, size_least}
use Rattle.coap_promise.proofs.Facts.Reports.Located.{LaterAll, SentAll, brought_served}
use Rattle.coap_promise.proofs.Facts.Reports.NeverFailed.{get_is}
use Rattle.coap_promise.proofs.Facts.Reports.Unregistered.{NoneRegisters, none_made}
use Rattle.coap_promise.proofs.Facts.Requests.LastRequests.{of_call_at, method_is, is_the_last}
use Rattle.coap_promise.proofs.Facts.Requests.OfACall.{Lawful, lawful_back, later_back, one_sending}
use Rattle.coap_promise.proofs.Facts.Requests.ReadBack.{Changes}
use Rattle.coap_promise.proofs.Facts.Uploads.BlockRead.{reads_block}
use Rattle.coap_promise.proofs.Facts.Uploads.NoneContinue.{refusal_not, notice_not}
use Rattle.coap_promise.proofs.Facts.Uploads.Pieces.{one_request}

pub changes_of : (m : Method) → m ≢ Get → Changes m
changes_of Get h = absurd (h refl)
changes_of _ h = tt

-- a 2.31 says its block

only_kept : (o : CoapOption) (r : Bool) → is_recognised Response [] o ≡ r → ((true && not r) || false) ≡ false
    → recognised Response (o ∷ []) ≡ o ∷ []
only_kept o true is none = ap (λ b. map (λ (p : List CoapOption × CoapOption). p.1) (cond b (([], o) ∷ []) [])) is
only_kept o false is none = absurd (cc none)

block_said : (m : Message) (b : Block) → b.num ≤ 1048575 → b.szx ≤ 6
    → m.options ≡ option block1 (uint (block_value b)) ∷ [] → lacks_critical Response m.options ≡ false
    → block_at block1 m ≡ Some b
block_said m b num szx options none =
    let o : CoapOption = option block1 (uint (block_value b)) in
    let critical = ap (lacks_critical Response) (sym options) ∙ none in
    let kept : said m ≡ o ∷ [] = ap (recognised Response) options
    ∙ only_kept o (is_recognised Response [] o) refl critical in
    ap (λ os. elim (Rattle.coap_types.specs.OptionValues.value_of block1 os)
    [ None ↦ None | Some value ↦ block_in value ])
    kept
    ∙ block_back b num szx

-- behind a block that others follow the next one has a number that can be written
few_blocks : (end size len : ℕ) → end < len → len ≤ 1048576 → 2 ≤ size → end / size ≤ 1048575
few_blocks end size len h most k = div-le_of_le-mul size (omega (arith, h, most, k))

next_low : (u : UploadState) (size : ℕ) → more_follows u ≡ true → length u.body ≤ 1048576
    → number_after u size ≤ 1048575
next_low u size more most = few_blocks (offset_of u.num u.szx + size_of u.szx) (size_of size) (length u.body)
    (ltb-true (offset_of u.num u.szx + size_of u.szx) (length u.body) more) most (size_least size)

module _ (config : Config) (number : ℕ) (all : List Entry) (small : config.client_sizes.szx ≤ 6)
    (whole : Lawful config all)
    (in_range : (x : Taken) → WasTaken x (client_of all) → IsRequest x.request) where
  abbrev Later : List Entry → Type 0
  Later t = LaterAll config number all small whole in_range t

  -- a block of the call, as it was sent, and an answer under its token
  module _ (m : Message) (s : Sending) (sent : SentAll config number all small whole in_range s)
      (token : s.token ≡ m.token)
      (request : C.Request) (u : UploadState)
      (operation : s.operation ≡ Calling number request (Uploads u))
      (taken : C.Request) (was : WasTaken (record { number = number; request = taken }) (client_of all))
      (change : Changes taken.method) (short : length u.body ≤ 1048576)
      (clear : lacks_critical Response m.options ≡ false) where
    of : call_of s.operation ≡ Some number
    of = ap call_of operation

    -- whatever was sent under that token is this request, and of this call
    same_sending : (y : Sending) → SentAll config number all small whole in_range y → y.token ≡ m.token → y ≡ s
    same_sending y there same = one_sending config number all small whole in_range y s there sent of (same ∙ sym token)

    of_this : (y : Sending) → y ≡ s → call_of y.operation ≡ Some number
    of_this y same = ap (λ (z : Sending). call_of z.operation) same ∙ of

    same_method : (w : List Entry) → Later w → (r : C.Request)
        → WasTaken (record { number = number; request = r }) (client_of w)
        → Changes r.method
    same_method w later r h =
        let is = one_request number taken r (client_of all)
        (client_facts.numbers config.addresses.server config.client_sizes config.client_setup (client_of all)
        whole.client) was
        (later.2 (record { number = number; request = r }) h) in
        subst (λ (z : C.Request). Changes z.method) is change

    -- what is served of it is the last block
    served_last : (w : List Entry) (c : S.Call) → Later (OfServer c ∷ w) → Lawful config (OfServer c ∷ w)
        → (y : Serving)
        → ServesAt config y w (OfServer c) → y.asked.from ≡ config.addresses.client → y.asked.token ≡ m.token
        → more_follows u ≡ true → ⊥
    served_last w c later law y here from under more =
        let b = brought_served config number all small whole in_range w c later law y here from in
        let z : Sending = b.origin.sending in
        let same = same_sending z b.origin.sent (sym (ap (λ (a : Asked). a.token) b.origin.asked) ∙ under) in
        let g = of_call_at config.client_sizes (client_of w)
        (client_facts.of_calls config.client_sizes (client_of w)) z number b.before (of_this z same) in
        let changes = same_method w (later_back config number all small whole in_range (OfServer c) w later) g.request
        g.taken in
        let ranges = in_range (record { number = number; request = g.request })
        ((later_back config number all small whole in_range (OfServer c) w later).2
        (record { number = number; request = g.request }) g.taken) in
        let last = is_the_last config.client_sizes config.server_szx b.origin.con.id number small z (client_of w) g
        ranges.format b.verdict b.origin.verdict b.final changes in
        let is : not (more_follows u) ≡ true = ap is_last (sym (ap (λ (x : Sending). x.operation) same ∙ operation))
        ∙ last in
        let e : false ≡ true = ap not (sym more) ∙ is in cc e

    registers_none : NoneRegisters config number all small whole in_range m.token
    registers_none w c later law y here from under observe =
        let b = brought_served config number all small whole in_range w c later law y here from in
        let z : Sending = b.origin.sending in
        let same = same_sending z b.origin.sent (sym (ap (λ (a : Asked). a.token) b.origin.asked) ∙ under) in
        let g = of_call_at config.client_sizes (client_of w)
        (client_facts.of_calls config.client_sizes (client_of w)) z number b.before (of_this z same) in
        let changes = same_method w (later_back config number all small whole in_range (OfServer c) w later) g.request
        g.taken in
        let code : (request_of b.origin.con.id z).code ≡ (method_code g.request.method).0 = ap (λ r. r.code)
        g.message in
        let methods : Some y.question.method ≡ Some g.request.method = sym b.method
        ∙ (ap method_of code ∙ method_is g.request.method) in
        let method : y.question.method ≡ g.request.method = cc methods in
        let get : y.question.method ≡ Get = get_is y.question.method _ observe in
        subst Changes (sym method ∙ get) changes

    -- a 2.31 to it fits
    fits : (w : List Entry) (c : S.Call) → Later (OfServer c ∷ w) → Lawful config (OfServer c ∷ w)
        → (y : Took) (size : ℕ)
        → Rattle.coap_server.specs.Follows.Takes.takes_block
        (own_of config.limits config.server_szx (server_trace config w)) c ≡ Some y
        → y.part.more ≡ true
        → Rattle.coap_server_laws.specs.Follows.Gives.size_in
        (own_of config.limits config.server_szx (server_trace config w)) c ≡ Some size
        → y.asked.from ≡ config.addresses.client → y.asked.token ≡ m.token
        → (b : Block) × (b ≡ record { num = y.part.num; more = true; szx = size }) × Continues u b
    fits w c later law y size is more asks from under =
        let before = later_back config number all small whole in_range (OfServer c) w later in
        let comes = (server_facts.blocks config.limits config.server_szx config.server_setup
        (c ∷ server_trace config w) law.server).0 y is in
        let k = law.came.0 y.asked _ comes.comes from in
        let z : Sending = k.sending in
        let same = same_sending z (before.0 z k.sent) (sym (ap (λ (a : Asked). a.token) k.asked) ∙ under) in
        let g = of_call_at config.client_sizes (client_of w)
        (client_facts.of_calls config.client_sizes (client_of w)) z number k.sent (of_this z same) in
        let ranges = in_range (record { number = number; request = g.request })
        (before.2 (record { number = number; request = g.request }) g.taken) in
        let r = reads_block config.client_sizes config.server_szx k.con.id number small z (client_of w) g ranges.format
        comes.question comes.block k.verdict in
        let both : ◌≡◌ {A = Option Carried} (Some (record { number = number; upload = r.upload }))
        (Some (record { number = number; upload = u })) = sym r.carries
        ∙ (ap (λ (x : Sending). carried x.operation) same ∙ ap carried operation) in
        let one : ◌≡◌ {A = Carried} (record { number = number; upload = r.upload })
        (record { number = number; upload = u })
        = cc both in
        let upload : r.upload ≡ u = ap (λ (x : Carried). x.upload) one in
        let block : comes.block ≡ block_to_send u = r.block ∙ ap block_to_send upload in
        let part : y.part ≡ Rattle.coap_block.specs.Gathered.part comes.block None comes.question.body =
        ap (λ (x : Took). x.part) comes.is in
        let num : y.part.num ≡ u.num = ap (λ (x : Rattle.coap_block.specs.Whole.Part). x.num) part
        ∙ ap (λ (x : Block). x.num) block in
        let szx : y.part.szx ≡ u.szx = ap (λ (x : Rattle.coap_block.specs.Whole.Part). x.szx) part
        ∙ ap (λ (x : Block). x.szx) block in
        let goes_on : more_follows u ≡ true = sym (ap (λ (x : Rattle.coap_block.specs.Whole.Part). x.more) part
        ∙ ap (λ (x : Block). x.more) block) ∙ more in
        let sizes = (server_facts.continues_fits config.limits config.server_szx config.server_setup
        (c ∷ server_trace config w) law.server).0.sizes y size is asks in (
          record { num = y.part.num; more = true; szx = size },
          refl,
          (goes_on, num, refl, keeps num szx sizes, next_low u size goes_on short),
        )
      where
        keeps : y.part.num ≡ u.num → y.part.szx ≡ u.szx
            → Rattle.coap_server_laws.specs.Follows.Continues.KeepsSize y.part.num y.part.szx size → KeepsSize u size
        keeps num szx (inl same) = inl (same ∙ szx)
        keeps num szx (inr less) = inr (sym num ∙ less.0, subst (λ n. size < n) szx less.1)

    pub none_bad_here : (w : List Entry) (c : S.Call) → Later (OfServer c ∷ w) → Lawful config (OfServer c ∷ w)
        → config.server_szx ≤ 6 → u.num ≤ 1048575 → u.szx ≤ 6
        → IsAnswer config m (server_trace config w) c → IsBadFor u m → ⊥
    none_bad_here w c later law low num szx (replies y is r) (inr bad) =
        served_last w c later law y is r.to_client r.token_is bad.0
    none_bad_here w c later law low num szx (replies y is r) (inl bad) =
        (server_facts.continues config.limits config.server_szx config.server_setup (c ∷ server_trace config w)
        law.server).0 y is (sym r.code ∙ bad.0)
    none_bad_here w c later law low num szx (continues y size is more asks r) (inr bad) = bad.2 r.code
    none_bad_here w c later law low num szx (continues y size is more asks r) (inl bad) =
        let f = fits w c later law y size is more asks r.to_client r.token_is in
        let b : Block = record { num = y.part.num; more = true; szx = size } in
        let goes : Continues u b = subst (Continues u) f.1 f.2 in
        let few : y.part.num ≤ 1048575 = subst (λ n. n ≤ 1048575) (sym goes.1) num in
        let at : block_at block1 m ≡ Some b = block_said m b few (least goes.3) r.options clear in
        bad.2 b at goes
      where
        least : KeepsSize u size → size ≤ 6
        least (inl same) = subst (λ n. n ≤ 6) (sym same) szx
        least (inr less) = let a = less.1 in omega (arith, a, szx)
    none_bad_here w c later law low num szx (refuses a v code comes handed none is r) (inl bad) =
        refusal_not (own_of config.limits config.server_szx (server_trace config w)) c law.server.rows.0 code is
        (sym r.code ∙ bad.0)
    none_bad_here w c later law low num szx (refuses a v code comes handed none is r) (inr bad) =
        let h = refusals_are_errors (own_of config.limits config.server_szx (server_trace config w)) c
        law.server.rows.0 code is in
        let less = bad.1 in
        let same = r.code in
        omega (arith, h, less, same)
    none_bad_here w c later law low num szx (notifies o reply here made shows so) (inl bad) =
        notice_not o.szx ((own_of config.limits config.server_szx (server_trace config w)).store.holds o.path) _ shows
        (sym so.code ∙ bad.0)
    none_bad_here w c later law low num szx (notifies o reply here made shows so) (inr bad) =
        none_made config number all small whole in_range m.token registers_none o w
        (later_back config number all small whole in_range (OfServer c) w later) (lawful_back config w (OfServer c) law)
        so.to_client so.token_is made

    pub none_bad : (w : List Entry) → Later w → Lawful config w → config.server_szx ≤ 6 → u.num ≤ 1048575 → u.szx ≤ 6
        → Sometime (AnswersAt config m) w → IsBadFor u m → ⊥
    none_bad [] later law low num szx h bad = h
    none_bad (OfClient c ∷ w) later law low num szx (inl h) bad = h
    none_bad (OfServer c ∷ w) later law low num szx (inl h) bad = none_bad_here w c later law low num szx h bad
    none_bad (e ∷ w) later law low num szx (inr h) bad =
        none_bad w (later_back config number all small whole in_range e w later) (lawful_back config w e law) low num
        szx h
        bad

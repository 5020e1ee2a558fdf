-- A body that the blocks of a key are whole for is that of the call whose request the last block is.
use Rattle.std.proofs.Common.{◌≡◌, ◌≢◌, ◌≤◌, ◌<◌, ◌⊎◌, inl, inr, ⊎_elim, ℕ, Bool, true, false, Option, Some, None, List}
use Rattle.std.proofs.Common.{[], ◌∷◌, ◌++◌, map, cond, append_assoc, refl, ap, sym, subst, ◌∙◌, arith}
use Rattle.std.specs.Prelude.{◌==◌}
use Rattle.std.proofs.lemmas.Bool.Decides.{nat_tests}
use Rattle.coap_types.specs.Past.{Ever, Sometime}
use Rattle.coap_types.specs.declared.block.Block.{Block}
use Rattle.coap_codec.specs.Message.{Message}
use Rattle.coap_block.specs.AssemblyState.{Key, same_key}
use Rattle.coap_block.specs.AssemblyTrace.{IsWholeBody}
use Rattle.coap_block.specs.Gathered.{part}
use Rattle.coap_block.specs.Whole.{Each, IsPieceOf}
use Rattle.coap_block.proofs.Facts.Keys.{same_key-decides, same_key_self}
use Rattle.coap_block.proofs.Facts.Parts.{each_behind}
use Rattle.coap_exchange.specs.declared.answerer.Asked.{Asked}
use Rattle.coap_client_laws.specs.Follows.Blocks.{Carried, carried}
use Rattle.coap_client_laws.specs.Follows.Continued.{HearsContinue}
use Rattle.coap_client_laws.specs.Follows.Order.{call_of}
use Rattle.coap_client.specs.Trace as C
use Rattle.coap_client.specs.Sendings.{Taken, WasTaken, Sending}
use Rattle.coap_server.specs.Follows.Takes.{Took, takes_block, behind, since_with, blocks_since}
use Rattle.coap_server.specs.Law.{own_of}
use Rattle.coap_server.specs.Trace as S
use Rattle.coap_server.specs.Uploads.{continue}
use Rattle.coap_client_laws.proofs.Facts.Laws as client_facts
use Rattle.coap_server_laws.proofs.Facts.Laws as server_facts
use Rattle.coap_promise.specs.Answers.{IsAnswer, AnswersAt, replies, continues, refuses, notifies}
use Rattle.coap_record.specs.Events.{Config}
use Rattle.coap_record.specs.Legal.{IsRequest}
use Rattle.coap_record.specs.Record.{Entry, OfClient, OfServer, client_of, server_trace}
use Rattle.coap_promise.proofs.Facts.Reports.Answered.{all_answered}
use Rattle.coap_layer.specs.Clocks.{Clocks}
use Rattle.coap_promise.proofs.Facts.Requests.OfACall.{Lawful}
use Rattle.coap_promise.proofs.Uploads.Between as B
use Rattle.coap_promise.proofs.Uploads.Between.{First, up_next, up_of, none_between}
use Rattle.coap_promise.proofs.Facts.Uploads.NoneContinue.{refusal_not, notice_not}
use Rattle.coap_promise.proofs.Uploads.Orders.{of_carried}
use Rattle.coap_promise.proofs.Uploads.Parts.{Sent, Part as PartOf_, part_back, one_sending, OfUpload, of_upload}
use Rattle.coap_promise.proofs.Facts.Uploads.Pieces.{whole_is, sent_piece, one_request}
use Rattle.coap_promise.proofs.Facts.Requests.AtAnyTime.{at_any_time}

same_or : (a b : ℕ) → (a ≡ b) ⊎ (a ≢ b)
same_or a b = go (a == b) refl
  where
    go : (w : Bool) → (a == b) ≡ w → (a ≡ b) ⊎ (a ≢ b)
    go true h = inl (grind (arith, nat_tests, h))
    go false h = inr (λ e. absurd (grind (arith, nat_tests, h, e)))

each_map : {X Y : Type 0} (P : Y → Type 0) (f : X → Y) (xs : List X) → Each (λ x. P (f x)) xs → Each P (map f xs)
each_map P f [] h = tt
each_map P f (x ∷ xs) h = (h.0, each_map P f xs h.1)

module _ (config : Config) (clocks : Clocks) (all : List Entry) (small : config.client_sizes.szx ≤ 6)
    (whole : Lawful config all)
    (in_range : (x : Taken) → WasTaken x (client_of all) → IsRequest x.request) where
  abbrev PartOf : List Entry → Type 0
  PartOf w = PartOf_ config clocks all small whole in_range w

  abbrev Upload : Took → List Entry → S.Call → Type 0
  Upload z past c = OfUpload config clocks all small whole in_range z past c

  abbrev taken_at : List S.Call → S.Call → Option Took
  taken_at t c = takes_block (own_of config.limits config.server_szx t) c

  abbrev since : Key → List S.Call → List Took
  since key t = blocks_since config.limits config.server_szx key t

  -- the key of a block is of where it came from
  key_from : (past : List Entry) (c : S.Call) → PartOf (OfServer c ∷ past) → (z : Took)
      → taken_at (server_trace config past) c ≡ Some z → (z.key).from ≡ (z.asked).from
  key_from past c p z here =
      let k = (server_facts.blocks config.limits config.server_szx config.server_setup
      (server_trace config (OfServer c ∷ past)) p.law.server).0 z here in
      ap (λ (y : Took). y.key.from) k.is

  -- a call of this number and request
  module _ (n : ℕ) (r : C.Request) (called : WasTaken (record { number = n; request = r }) (client_of all)) (key : Key)
      (key_there : key.from ≡ config.addresses.client) where
    abbrev Good : Took → Type 0
    Good z = IsPieceOf r.body z.part

    -- what is read of a block of the call is of its request
    same_request : (z : Took) (past : List Entry) (c : S.Call) → PartOf (OfServer c ∷ past) → (o : Upload z past c)
        → o.number ≡ n → (o.reads).request ≡ r
    same_request z past c p o same =
        let earlier = part_back config clocks all small whole in_range past (OfServer c) p in
        one_request n (o.reads).request r (client_of all)
        (client_facts.numbers config.addresses.server config.client_sizes config.client_setup (client_of all)
        whole.client)
        (subst (λ i. WasTaken (record { number = i; request = (o.reads).request }) (client_of all)) same
        (earlier.taken (record { number = o.number; request = (o.reads).request }) (o.reads).taken)) called

    -- a block of the call is a piece of its body
    piece_of : (z : Took) (past : List Entry) (c : S.Call) → PartOf (OfServer c ∷ past) → (o : Upload z past c)
        → o.number ≡ n → Good z
    piece_of z past c p o same =
        let earlier = part_back config clocks all small whole in_range past (OfServer c) p in
        let k = o.block in
        let g = sent_piece config.client_sizes (client_of all)
        (client_facts.pieces config.addresses.server config.client_sizes config.client_setup (client_of all)
        whole.client)
        k.came.sending o.number (o.reads).upload (earlier.sent k.came.sending k.came.sent)
        (o.reads).carries k.question k.block (o.reads).block (o.reads).payload
        in
        subst (λ (y : Took). IsPieceOf r.body y.part) (sym k.is)
        (subst (λ b. IsPieceOf b (part k.block None k.question.body))
        ((o.reads).body ∙ ap (λ (q : C.Request). q.body) (same_request z past c p o same)) g)

    -- block 0 of the call is taken here
    pub record Zero (past : List Entry) (c : S.Call) : Type 0 where
      pub took : Took
      pub here : taken_at (server_trace config past) c ≡ Some took
      pub key_is : took.key ≡ key
      pub num : (took.part).num ≡ 0
      pub law : PartOf (OfServer c ∷ past)
      pub upload : Upload took past c
      pub number : upload.number ≡ n

    abbrev pub ZeroAt : List Entry → Entry → Type 0
    ZeroAt past (OfClient c) = ⊥
    ZeroAt past (OfServer c) = Zero past c

    first_of : (w : List Entry) → Sometime ZeroAt w → First config clocks all small whole in_range n w
    first_of [] h = absurd h
    first_of (OfClient c ∷ past) (inl h) = absurd h
    first_of (OfServer c ∷ past) (inl h) =
        record {
          con = h.upload.block.came.con;
          sending = h.upload.block.came.sending;
          up = subst (λ i. B.Up config clocks all small whole in_range h.upload.block.came.con
              h.upload.block.came.sending i
              (OfServer c ∷ past)) h.number (up_of config clocks all small whole in_range h.took past c h.law h.upload);
        }
    first_of (e ∷ past) (inr h) = let f = first_of past h in record {
      con = f.con;
      sending = f.sending;
      up = up_next config clocks all small whole in_range f.con f.sending n past e
          f.up;
    }

    -- the last block, of the call
    module _ (past : List Entry) (c : S.Call) (p : PartOf (OfServer c ∷ past)) (x : Took) (k : Upload x past c)
        (of_this : k.number ≡ n) where
      -- each block of the key since block 0 is a piece of the body of the call
      good_at : (later w : List Entry) (d : S.Call) → past ≡ later ++ OfServer d ∷ w → PartOf (OfServer d ∷ w)
          → (z : Took) → taken_at (server_trace config w) d ≡ Some z → (z.asked).from ≡ config.addresses.client
          → Sometime ZeroAt (OfServer d ∷ w) → Good z
      good_at later w d is q z here from h = by h
        where
          l : Upload z w d
          l = of_upload config clocks all small whole in_range z w d q here from

          by : Sometime ZeroAt (OfServer d ∷ w) → Good z
          by (inl y) = let both : Some y.took ≡ Some z = sym y.here
              ∙ here in let same : y.took ≡ z = cc both in subst Good same (piece_of y.took w d y.law y.upload y.number)
          by (inr y) = ⊎_elim (λ e. piece_of z w d q l e)
              (λ e. absurd (none_between config clocks all small whole in_range n past c p x k of_this later w d is q z
              l
              (first_of w y) e)) (same_or l.number n)

      each_good : (w later : List Entry) → past ≡ later ++ w → PartOf w → Sometime ZeroAt w
          → Each Good (since key (server_trace config w))
      each_good [] later is q h = absurd h
      each_good (OfClient d ∷ w) later is q (inl h) = absurd h
      each_good (OfClient d ∷ w) later is q (inr h) =
          each_good w (later ++ OfClient d ∷ []) (is ∙ sym (append_assoc later (OfClient d ∷ []) w))
          (part_back config clocks all small whole in_range w (OfClient d) q) h
      each_good (OfServer d ∷ w) later is q h =
          by (taken_at (server_trace config w) d) refl
          (λ k. each_good w (later ++ OfServer d ∷ []) (is ∙ sym (append_assoc later (OfServer d ∷ []) w))
          (part_back config clocks all small whole in_range w (OfServer d) q) k)
        where
          -- where it is not block 0 that is taken here
          before : (Zero w d → ⊥) → Sometime ZeroAt w
          before f = ⊎_elim (λ k. absurd (f k)) (λ k. k) h

          by_num : (z : Took) → taken_at (server_trace config w) d ≡ Some z → Good z
              → (Sometime ZeroAt w → Each Good (since key (server_trace config w))) → (b : Bool)
              → ((z.part).num == 0) ≡ b
              → Each Good (cond b (z ∷ []) (since key (server_trace config w) ++ z ∷ []))
          by_num z there good rest true e = (good, tt)
          by_num z there good rest false e =
              each_behind Good (since key (server_trace config w)) z
              (rest (before (λ y.
              let both : Some y.took ≡ Some z = sym y.here ∙ there in
              let same : y.took ≡ z = cc both in
              let zero_num : (z.part).num ≡ 0 = ap (λ (v : Took). v.part.num) (sym same) ∙ y.num in
              let yes_it : ((z.part).num == 0) ≡ true = ap (λ i. i == 0) zero_num in
              cc (e, yes_it)))) good

          by_key : (z : Took) → taken_at (server_trace config w) d ≡ Some z
              → (Sometime ZeroAt w → Each Good (since key (server_trace config w))) → (b : Bool)
              → same_key z.key key ≡ b
              → Each Good (cond b (behind (since key (server_trace config w)) z) (since key (server_trace config w)))
          by_key z there rest true e =
              let same = (same_key-decides z.key key).0 e in
              let from = sym (key_from w d q z there) ∙ (ap (λ (y : Key). y.from) same ∙ key_there) in
              by_num z there (good_at later w d is q z there from h) rest ((z.part).num == 0) refl
          by_key z there rest false e =
              rest (before (λ y.
              let both : Some y.took ≡ Some z = sym y.here ∙ there in
              let same : y.took ≡ z = cc both in
              let yes = (same_key-decides z.key key).1 (ap (λ (v : Took). v.key) (sym same) ∙ y.key_is) in
              cc (yes, e)))

          by : (o : Option Took) → taken_at (server_trace config w) d ≡ o
              → (Sometime ZeroAt w → Each Good (since key (server_trace config w)))
              → Each Good (since_with key o (since key (server_trace config w)))
          by None there rest = rest (before (λ y. let both : Some y.took ≡ None = sym y.here ∙ there in cc both))
          by (Some z) there rest = by_key z there rest (same_key z.key key) refl

    -- block 0 of the call was answered with 2.31, so it was taken
    module _ (first : Sending) (sent : Sent config first all) (zero : Carried)
        (carries : carried first.operation ≡ Some zero) (of_first : call_of first.operation ≡ Some n)
        (num : (zero.upload).num ≡ 0)
        (key_path : key.path ≡ r.path) (key_method : key.method ≡ r.method) where
      zero_here : (past : List Entry) (c : S.Call) → PartOf (OfServer c ∷ past) → (z : Took)
          → taken_at (server_trace config past) c ≡ Some z → (z.asked).from ≡ config.addresses.client → (z.asked).token
          ≡ first.token
          → Zero past c
      zero_here past c p z here from token =
          let o = of_upload config clocks all small whole in_range z past c p here from in
          let earlier = part_back config clocks all small whole in_range past (OfServer c) p in
          let k = o.block in
          let same : k.came.sending ≡ first = one_sending config clocks all small whole in_range k.came.sending first n
          (earlier.sent k.came.sending k.came.sent) sent of_first
          (sym (ap (λ (y : Asked). y.token) k.came.asked) ∙ token) in
          let numbers : Some o.number ≡ Some n = sym o.of
          ∙ (ap (λ (y : Sending). call_of y.operation) same ∙ of_first) in
          let number : o.number ≡ n = cc numbers in
          let request = same_request z past c p o number in
          let blocks : ◌≡◌ {A = Option Carried} (Some (record { number = o.number; upload = (o.reads).upload }))
          (Some zero) = sym (o.reads).carries ∙ (ap (λ (y : Sending). carried y.operation) same ∙ carries) in
          let block : ◌≡◌ {A = Carried} (record { number = o.number; upload = (o.reads).upload }) zero = cc blocks in
          let key_is : z.key ≡ key = (λ i. record {
            from = (key_from past c p z here ∙ (from ∙ sym key_there)) i;
            path = (ap (λ (y : Took). y.key.path) k.is
                ∙ ((o.reads).path ∙ (ap (λ (q : C.Request). q.path) request ∙ sym key_path))) i;
            method = (ap (λ (y : Took). y.key.method) k.is
                ∙ ((o.reads).method ∙ (ap (λ (q : C.Request). q.method) request ∙ sym key_method))) i;
          }) in
          record {
            took = z;
            here = here;
            key_is = key_is;
            num = ap (λ (y : Took). y.part.num) k.is ∙ (ap (λ (y : Block). y.num) (o.reads).block
                ∙ (ap (λ (y : Carried). y.upload.num) block ∙ num));
            law = p;
            upload = o;
            number = number;
          }

      zero_by : (m : Message) → m.token ≡ first.token → m.code ≡ continue → (past : List Entry) (c : S.Call)
          → PartOf (OfServer c ∷ past) → IsAnswer config m (server_trace config past) c → Zero past c
      zero_by m token code past c p (continues z size here more asks is) =
          zero_here past c p z here is.to_client (is.token_is ∙ token)
      zero_by m token code past c p (replies s here is) =
          absurd ((server_facts.continues config.limits config.server_szx config.server_setup
          (server_trace config (OfServer c ∷ past)) p.law.server).0 s here (sym is.code ∙ code))
      zero_by m token code past c p (refuses a v k comes handed unserved why is) =
          absurd (refusal_not (own_of config.limits config.server_szx (server_trace config past)) c
          p.law.server.rows.0 k why
          (sym is.code ∙ code))
      zero_by m token code past c p (notifies o reply here made shows is) =
          absurd (notice_not o.szx ((own_of config.limits config.server_szx (server_trace config past)).store.holds
          o.path) _ shows (sym is.code ∙ code))

      zeros : (m : Message) → m.token ≡ first.token → m.code ≡ continue → (w : List Entry) → PartOf w
          → Sometime (AnswersAt config m) w → Sometime ZeroAt w
      zeros m token code [] p h = h
      zeros m token code (OfClient c ∷ past) p (inl h) = absurd h
      zeros m token code (OfServer c ∷ past) p (inl h) = inl (zero_by m token code past c p h)
      zeros m token code (e ∷ past) p (inr h) = inr
          (zeros m token code past (part_back config clocks all small whole in_range past e p) h)

      zero_heard : (w : List Entry) → PartOf w → Ever (HearsContinue first.token) (client_of w) → Sometime ZeroAt w
      zero_heard [] p h = absurd h
      zero_heard (OfServer c ∷ past) p h = inr (zero_heard past
          (part_back config clocks all small whole in_range past (OfServer c) p) h)
      zero_heard (OfClient c ∷ past) p (inr h) = inr
          (zero_heard past (part_back config clocks all small whole in_range past (OfClient c) p) h)
      zero_heard (OfClient c ∷ past) p (inl h) = inr
          (zeros h.0 h.2 h.3 past (part_back config clocks all small whole in_range past (OfClient c) p)
          ((all_answered config (OfClient c ∷ past) (at_any_time p.law)).0 h.0 h.1))

    -- so before a further block is sent, block 0 was taken
    zero_before : (y : Sending) (b : Carried) → carried y.operation ≡ Some b → b.number ≡ n → 0 < (b.upload).num
        → key.path ≡ r.path → key.method ≡ r.method → (w : List Entry) → PartOf w → Sent config y w → Sometime ZeroAt w
    zero_before y b is number some path method [] p h = absurd h
    zero_before y b is number some path method (OfServer c ∷ w) p h =
        inr (zero_before y b is number some path method w
        (part_back config clocks all small whole in_range w (OfServer c) p) h)
    zero_before y b is number some path method (OfClient c ∷ w) p (inr h) =
        inr (zero_before y b is number some path method w
        (part_back config clocks all small whole in_range w (OfClient c) p) h)
    zero_before y b is number some path method (OfClient c ∷ w) p (inl h) =
        let k = (client_facts.continued config.addresses.server config.client_sizes config.client_setup
        (client_of (OfClient c ∷ w)) p.law.client).0 y b h is some in
        zero_heard k.first (p.sent k.first (inr k.sent)) k.block k.carries
        ((of_carried (k.first).operation k.block k.carries).0 ∙ ap (λ i. Some i) (k.number_is ∙ number)) k.is_first
        path method (OfClient c ∷ w) p k.answered

  -- the body is that of the call
  module _ (past : List Entry) (c : S.Call) (p : PartOf (OfServer c ∷ past)) (x : Took)
      (here : taken_at (server_trace config past) c ≡ Some x) (from : (x.asked).from ≡ config.addresses.client) where
    pub upload : Upload x past c
    upload = of_upload config clocks all small whole in_range x past c p here from

    abbrev number : ℕ
    number = upload.number

    abbrev request : C.Request
    request = (upload.reads).request

    earlier : PartOf past
    earlier = part_back config clocks all small whole in_range past (OfServer c) p

    called : WasTaken (record { number = number; request = request }) (client_of all)
    called = earlier.taken (record { number = number; request = request }) (upload.reads).taken

    key_there : (x.key).from ≡ config.addresses.client
    key_there = key_from past c p x here ∙ from

    all_pieces : (t : List S.Call) → taken_at t c ≡ Some x → IsPieceOf request.body x.part
        → (0 < (x.part).num → Each (λ (z : Took). IsPieceOf request.body z.part) (since x.key t))
        → Each (λ (z : Took). IsPieceOf request.body z.part) (since x.key (c ∷ t))
    all_pieces t is good rest =
        subst (λ o. Each (λ (z : Took). IsPieceOf request.body z.part) (since_with x.key o (since x.key t))) (sym is)
        (subst (λ b. Each (λ (z : Took). IsPieceOf request.body z.part)
        (cond b (behind (since x.key t) x) (since x.key t))) (sym (same_key_self x.key))
        (by ((x.part).num == 0) refl))
      where
        by : (b : Bool) → ((x.part).num == 0) ≡ b → Each (λ (z : Took). IsPieceOf request.body z.part)
            (cond b (x ∷ []) (since x.key t ++ x ∷ []))
        by true e = (good, tt)
        by false e = each_behind (λ (z : Took). IsPieceOf request.body z.part) (since x.key t) x
            (rest (grind (arith, nat_tests, e))) good

    pub whole_body : (limit : ℕ) (body : List ℕ) → IsWholeBody limit
        (map (λ (z : Took). z.part) (since x.key (c ∷ server_trace config past))) body → body ≡ request.body
    whole_body limit body h = whole_is _ body request.body h.whole
        (each_map (IsPieceOf request.body) (λ (z : Took). z.part) (since x.key (c ∷ server_trace config past)) pieces)
      where
        num_is : (x.part).num ≡ ((upload.reads).upload).num
        num_is = ap (λ (y : Took). y.part.num) (upload.block).is ∙ ap (λ (y : Block). y.num) (upload.reads).block

        path : (x.key).path ≡ request.path
        path = ap (λ (y : Took). y.key.path) (upload.block).is ∙ (upload.reads).path

        method : (x.key).method ≡ request.method
        method = ap (λ (y : Took). y.key.method) (upload.block).is ∙ (upload.reads).method

        rest : 0 < (x.part).num → Each (λ (z : Took). IsPieceOf request.body z.part)
            (since x.key (server_trace config past))
        rest some =
            each_good number request called x.key key_there past c p x upload refl past [] refl earlier
            (zero_before number request called x.key key_there (upload.block).came.sending
            (record { number = number; upload = (upload.reads).upload }) (upload.reads).carries refl
            (omega (arith, num_is, some)) path method past earlier (upload.block).came.sent)

        pieces : Each (λ (z : Took). IsPieceOf request.body z.part) (since x.key (c ∷ server_trace config past))
        pieces = all_pieces (server_trace config past) here
            (piece_of number request called x.key key_there x past c p upload refl) rest

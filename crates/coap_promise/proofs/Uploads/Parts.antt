-- A part of a lawful record, and of which request a block is that the server takes.
use Rattle.std.proofs.Common.{◌≡◌, ◌≤◌, ◌⊎◌, inl, inr, ℕ, Option, Some, None, List, ◌∷◌, refl, ap, sym, subst, ◌∙◌}
use Rattle.coap_types.specs.MethodCode.{method_of}
use Rattle.coap_types.specs.Past.{Ever}
use Rattle.coap_types.specs.declared.block.Block.{Block}
use Rattle.coap_types.specs.declared.request.Method.TheVariants.{Get}
use Rattle.coap_codec.specs.Message.{Message, Spells}
use Rattle.coap_layer.specs.Channel.{OnFar, near_of}
use Rattle.coap_layer.specs.Paced.{HandsUpAs}
use Rattle.coap_layer.specs.Trace as T
use Rattle.coap_layer.specs.Words.{Open, begun}
use Rattle.coap_resource.specs.Serves.{Question}
use Rattle.coap_client_laws.specs.Follows.Begins.{WasSent, IsRequestOf}
use Rattle.coap_client_laws.specs.Follows.Order.{call_of}
use Rattle.coap_client_laws.specs.Follows.Tokens.{Deregisters, Ends}
use Rattle.coap_client.specs.Sendings.{Taken, WasTaken, Sending}
use Rattle.coap_server_laws.specs.Follows.Reads.{ReadsOf}
use Rattle.coap_server.specs.Follows.Takes.{Took, took, takes_block}
use Rattle.coap_server.specs.Checks.{Uploads}
use Rattle.coap_server.specs.Law.{own_of}
use Rattle.coap_server.specs.Trace as S
use Rattle.coap_client_laws.proofs.Facts.Laws as client_facts
use Rattle.coap_server_laws.proofs.Facts.Laws as server_facts
use Rattle.coap_promise.specs.CameFrom.{request_of, CameFrom, IsChannel, ComesIn}
use Rattle.coap_record.specs.Events.{Config}
use Rattle.coap_promise.specs.Hops.{hops_in, hops_at}
use Rattle.coap_record.specs.Legal.{IsRequest}
use Rattle.coap_record.specs.Record.{Entry, OfServer, client_of, server_trace}
use Rattle.coap_promise.proofs.Facts.Delivery.HopsAreEntries.{near_is}
use Rattle.coap_promise.proofs.Facts.Requests.CameFrom.{same_request, channel_back}
use Rattle.coap_promise.proofs.Facts.Requests.LastRequests.{of_call_at, method_is}
use Rattle.coap_layer.specs.Clocks.{Clocks}
use Rattle.coap_promise.proofs.Facts.Requests.OfACall.{Lawful, lawful_back, no_call, no_call_behind, taken_later}
use Rattle.coap_promise.proofs.Facts.Requests.ReadBack.{Changes}
use Rattle.coap_promise.proofs.Facts.Requests.Traced.{near_later, sent_later}
use Rattle.coap_client_laws.specs.Follows.Apart.{IsBlockOf}
use Rattle.coap_promise.proofs.Facts.Uploads.BlockRead.{uploads_change, ReadsBlock, reads_block}
use Rattle.coap_promise.proofs.Facts.Requests.Belongs.{get_at}

-- what is sent for no call is a GET
module _ (config : Config) where
  abbrev pub Begun : Open → List Entry → Type 0
  Begun con w = Ever (λ b. begun b ≡ Some con) (near_of (hops_in config w))

  abbrev pub Sent : Sending → List Entry → Type 0
  Sent x w = WasSent config.client_sizes x (client_of w)

  pub begun_later : (past : List Entry) (e : Entry) (P : T.Entry → Type 0) → Ever P (near_of (hops_in config past))
      → Ever P (near_of (hops_in config (e ∷ past)))
  begun_later past e P k = near_later P (hops_at config past e) (hops_in config past) k

  -- the CON is this request that was sent
  pub record Carries (con : Open) (x : Sending) : Type 0 where
    pub is : IsRequestOf config.addresses.server con x
    pub spells : Spells con.bytes (request_of con.id x)

  -- a CON has one token
  pub same_token : (con : Open) (x y : Sending) → Carries con x → IsRequestOf config.addresses.server con y → x.token
      ≡ y.token
  same_token con x y k r = ap (λ (m : Message). m.token)
      (same_request config.addresses con (request_of con.id x) y r k.spells refl)

  -- the block that is taken here, and the request of the client in which it came
  pub record CameBlock (clocks : Clocks) (z : Took) (past : List Entry) (c : S.Call) : Type 0 where
    pub question : Question
    pub block : Block
    pub is : z ≡ took z.asked question block
    pub came : CameFrom config past (OfServer c) z.asked (Uploads question block)
    pub arrives : Ever (OnFar (HandsUpAs clocks config.addresses.client came.con)) (hops_at config past (OfServer c))

  pub came_block : (clocks : Clocks) (z : Took) (past : List Entry) (c : S.Call) → Lawful config (OfServer c ∷ past)
      → ComesIn config clocks (OfServer c ∷ past)
      → takes_block (own_of config.limits config.server_szx (server_trace config past)) c ≡ Some z
      → z.asked.from ≡ config.addresses.client → CameBlock clocks z past c
  came_block clocks z past c law comes here from =
      let k = (server_facts.blocks config.limits config.server_szx config.server_setup
      (server_trace config (OfServer c ∷ past)) law.server).0 z here in
      let came = comes.0 z.asked (Uploads k.question k.block) k.comes from in
      record {
        question = k.question;
        block = k.block;
        is = k.is;
        came = came.0;
        arrives = came.1;
      }

  module _ (clocks : Clocks) (all : List Entry) (small : config.client_sizes.szx ≤ 6) (whole : Lawful config all)
      (in_range : (x : Taken) → WasTaken x (client_of all) → IsRequest x.request) where
    -- the laws of a part of the record; what was sent then, was sent in the whole of it
    pub record Part (w : List Entry) : Type 0 where
      pub law : Lawful config w
      pub channel : IsChannel clocks config w
      pub comes : ComesIn config clocks w
      pub sent : (x : Sending) → Sent x w → Sent x all
      pub begun_there : (con : Open) → Begun con w → Begun con all
      pub taken : (x : Taken) → WasTaken x (client_of w) → WasTaken x (client_of all)

    pub part_back : (past : List Entry) (e : Entry) → Part (e ∷ past) → Part past
    part_back past e p = record {
      law = lawful_back config past e p.law;
      channel = channel_back clocks config.client_setup config.server_setup config.addresses.client
          config.addresses.server
          (hops_at config past e) (hops_in config past) p.channel;
      comes = p.comes.1;
      sent = λ x k. p.sent x (sent_later config x past e k);
      begun_there = λ con k. p.begun_there con (begun_later past e (λ b. begun b ≡ Some con) k);
      taken = λ x k. p.taken x (taken_later x past e k);
    }

    -- a token of a call is of one request
    pub one_sending : (x y : Sending) (number : ℕ) → Sent x all → Sent y all → call_of y.operation ≡ Some number
        → x.token ≡ y.token → x ≡ y
    one_sending x y number sent there of token =
        by (client_facts.tokens config.addresses.server config.client_sizes config.client_setup
        (client_of all) whole.client x y sent there token)
      where
        by : (x ≡ y) ⊎ (Deregisters x y ⊎ Deregisters y x) → x ≡ y
        by (inl same) = same
        by (inr (inl d)) = absurd (no_call_behind x y number of d)
        by (inr (inr d)) = absurd (no_call y x number of d)

    -- .. and of one CON
    not_registers : (k : Sending) (number : ℕ) → Sent k all → call_of k.operation ≡ Some number
        → (con other : Open) (m : Message) → Spells con.bytes m → con.id ≡ m.id → m.token ≡ k.token
        → Ends config.addresses.server config.client_sizes (client_of all) con other → ⊥
    not_registers k number sent of con other m spells id token e =
        let same = one_sending e.first k number e.first_sent sent of
        (sym (ap (λ (z : Message). z.token) (same_request config.addresses con m e.first e.begins spells id))
        ∙ token) in
        no_call e.first e.second number (ap (λ (z : Sending). call_of z.operation) same ∙ of) e.deregisters

    pub one_con : (k : Sending) (number : ℕ) → Sent k all → call_of k.operation ≡ Some number → (a b : Open)
        → Begun a all → Begun b all → (x y : Message) → Spells a.bytes x
        → Spells b.bytes y → a.id ≡ x.id → b.id ≡ y.id
        → x.token ≡ k.token → y.token ≡ k.token → a ≡ b
    one_con k number sent of a b i j x y sa sb ia ib ta tb =
        let near = near_is config all in
        by (client_facts.one_con config.addresses.server config.client_sizes config.client_setup (client_of all)
        whole.client a b
        (subst (Ever (λ e. begun e ≡ Some a)) near i) (subst (Ever (λ e. begun e ≡ Some b)) near j) x y sa sb
        (ta ∙ sym tb))
      where
        by : (a ≡ b) ⊎ (Ends config.addresses.server config.client_sizes (client_of all) a b
            ⊎ Ends config.addresses.server config.client_sizes (client_of all) b a) → a ≡ b
        by (inl same) = same
        by (inr (inl e)) = absurd (not_registers k number sent of a b x sa ia ta e)
        by (inr (inr e)) = absurd (not_registers k number sent of b a y sb ib tb e)

    -- of which upload the block is that is taken here
    pub record OfUpload (z : Took) (past : List Entry) (c : S.Call) : Type 0 where
      pub block : CameBlock clocks z past c
      pub number : ℕ
      pub of : call_of block.came.sending.operation ≡ Some number
      pub reads : ReadsBlock block.came.sending number block.question block.block (client_of past)
      pub part_of : IsBlockOf block.came.sending number

    pub of_upload : (z : Took) (past : List Entry) (c : S.Call) → Part (OfServer c ∷ past)
        → takes_block (own_of config.limits config.server_szx (server_trace config past)) c ≡ Some z
        → z.asked.from ≡ config.addresses.client → OfUpload z past c
    of_upload z past c p here from = by (call_of k.came.sending.operation) refl
      where
        k : CameBlock clocks z past c
        k = came_block clocks z past c p.law p.comes here from

        m : Message
        m = request_of k.came.con.id k.came.sending

        read : ReadsOf config.server_szx m (Uploads k.question k.block)
        read = subst (ReadsOf config.server_szx m) k.came.verdict (server_facts.reads config.server_szx m)

        by : (o : Option ℕ) → call_of k.came.sending.operation ≡ o → OfUpload z past c
        by None none =
            let code = get_at config.client_sizes (client_of past)
            (client_facts.others config.client_sizes (client_of past)) k.came.sending k.came.sent none in
            let methods : Some k.question.method ≡ Some Get = sym read.0.method ∙ (ap method_of code ∙ method_is Get) in
            let get : k.question.method ≡ Get = cc methods in
            absurd (subst Changes get (uploads_change config.server_szx m k.question k.block k.came.verdict))
        by (Some number) of =
            let g = of_call_at config.client_sizes (client_of past)
            (client_facts.of_calls config.client_sizes (client_of past)) k.came.sending number k.came.sent of in
            let range = (in_range (record { number = number; request = g.request })
            (p.taken (record { number = number; request = g.request }) g.taken)).format in
            let r = reads_block config.client_sizes config.server_szx k.came.con.id number small k.came.sending
            (client_of past) g range k.question k.block k.came.verdict in
            record {
              block = k;
              number = number;
              of = of;
              reads = r;
              part_of = record {
                block = record { number = number; upload = r.upload };
                carries = r.carries;
                number_is = refl;
                longer = r.longer;
              };
            }

-- A request from the client's address that is handed up is one that the client sent.
use Rattle.std.proofs.Common.{◌≡◌, ◌<◌, inl, inr, ℕ, true, Some, List, [], ◌∷◌, ◌++◌, map, refl, ap, sym, subst, ◌∙◌}
use Rattle.std.proofs.Common.{length, arith}
use Rattle.std.proofs.lemmas.List.{length-append}
use Rattle.coap_types.specs.Past.{Ever}
use Rattle.coap_types.proofs.Facts.Traces.{Ever_map}
use Rattle.coap_types.specs.declared.endpoint.Endpoint.{Endpoint}
use Rattle.coap_types.specs.declared.message.Kind.TheVariants.{Con}
use Rattle.coap_codec.specs.Message.{Message, Spells}
use Rattle.coap_layer.specs.Channel.{Hop, Near, Far, near_of, far_of, OnFar, HandedBy, PlainSent, BegunAs}
use Rattle.coap_layer.specs.Clocks.{Clocks}
use Rattle.coap_layer.specs.Paced.{Meanwhile, ChannelLaw, HandsUpAs}
use Rattle.coap_layer.specs.Words.{Open, begun, handed, handed_in, Incoming}
use Rattle.coap_layer.proofs.Facts.Laws.{handed_spelled}
use Rattle.coap_layer.proofs.Facts.Paced.{earlier, begun_as, nons_sent}
use Rattle.coap_exchange.specs.declared.answerer.Asked.{Asked}
use Rattle.coap_exchange.specs.AnswererSteps.{asked_of}
use Rattle.coap_client_laws.specs.Follows.Sendings.{SendsNon, NoNons}
use Rattle.coap_codec.proofs.Facts.EveryDatagram.{one_message}
use Rattle.coap_client_laws.specs.Follows.Begins.{IsRequestOf}
use Rattle.coap_client.specs.Law.{ClientLaw}
use Rattle.coap_client.specs.Sendings.{Sending}
use Rattle.coap_server.specs.Follows.Brings.{HandsUp, Comes}
use Rattle.coap_server.specs.Checks.{Verdict, verdict_on}
use Rattle.coap_promise.specs.CameFrom.{request_of, IsChannel, CameFrom, CamesFrom, ComesIn}
use Rattle.coap_record.specs.Events.{Config}
use Rattle.coap_promise.specs.Hops.{hops_at, hops_in, server_adds}
use Rattle.coap_record.specs.Record.{Entry, OfClient, OfServer, client_of, server_trace}
use Rattle.coap_promise.proofs.Facts.Delivery.HopsAreEntries.{near_far, near_is, server_next}
use Rattle.coap_layer.specs.Trace as T
use Rattle.coap_layer.specs.declared.setup.Setup.{Setup}
use Rattle.coap_server.specs.Trace as S
use Rattle.coap_client_laws.proofs.Facts.Laws as client_facts
use Rattle.coap_record.specs.declared.addresses.Addresses.{Addresses}

-- a request of this is handed up
pub record UpOf (V : Message → Type 0) (a : Asked) (e : T.Entry) : Type 0 where
  pub message : Message
  pub bytes : List ℕ
  pub call : e.call ≡ T.Receive a.from bytes
  pub answer : e.answer ≡ T.Becomes (T.Request message true)
  pub asked_is : a ≡ asked_of a.from message
  pub verdict : V message

-- the CON in which the request came
pub record Found (clocks : Clocks) (near far : Endpoint) (V : Message → Type 0) (a : Asked) (hs : List Hop) : Type 0
  where
    pub con : Open
    pub begun_before : Ever (λ b. begun b ≡ Some con) (near_of hs)
    pub to : con.to ≡ far
    pub message : Message
    pub spells : Spells con.bytes message
    pub kind : message.kind ≡ Con
    pub id : con.id ≡ message.id
    pub asked : a ≡ asked_of near message
    pub verdict : V message
    pub arrived : Ever (OnFar (HandsUpAs clocks near con)) hs

module _ (clocks : Clocks) (one other : Setup) (near far : Endpoint) (V : Message → Type 0) (a : Asked)
    (from : a.from ≡ near) where
  begun_more : (h : Hop) (past : List Hop) (con : Open) → Ever (λ b. begun b ≡ Some con) (near_of past)
      → Ever (λ b. begun b ≡ Some con) (near_of (h ∷ past))
  begun_more (Near e) past con k = inr k
  begun_more (Far e) past con k = k

  found_later : (h : Hop) (past : List Hop) → Found clocks near far V a past → Found clocks near far V a (h ∷ past)
  found_later h past k =
      record {
        con = k.con;
        begun_before = begun_more h past k.con k.begun_before;
        to = k.to;
        message = k.message;
        spells = k.spells;
        kind = k.kind;
        id = k.id;
        asked = k.asked;
        verdict = k.verdict;
        arrived = inr k.arrived;
      }

  pub no_more : (h : Hop) (past : List Hop) → NoNons (near_of (h ∷ past)) → NoNons (near_of past)
  no_more (Near e) past f = λ k. f (inr k)
  no_more (Far e) past f = f

  module _ (past : List Hop) (y : T.Entry) (law : ChannelLaw clocks one other near far (Far y ∷ past))
      (nons : NoNons (near_of past)) (up : UpOf V a y) where
    abbrev incoming : Incoming
    incoming = record { from = near; message = up.message }

    is_handed : handed y ≡ Some incoming
    is_handed = ap (λ c. handed_in c y.answer) (up.call ∙ ap (λ f. T.Receive f up.bytes) from)
        ∙ ap (λ b. handed_in (T.Receive near up.bytes) b) up.answer

    by : HandedBy y incoming
    by = (handed_spelled other (y ∷ far_of past) law.far_law).0 incoming is_handed

    abbrev FoundHere : Type 0
    FoundHere = (f : Found clocks near far V a (Far y ∷ past)) × HandsUpAs clocks near f.con y

    of_con : Meanwhile clocks y.at (near_of past) (λ when. BegunAs far by.bytes up.message.id when (near_of past))
        → up.message.kind ≡ Con → FoundHere
    of_con m k =
        let b : BegunAs far by.bytes up.message.id (clocks.near m.instant) (near_of past) = m.so in
        let up_as : HandsUpAs clocks near b.con y = record {
          message = incoming;
          up = is_handed;
          from_is = refl;
          id_is = sym b.id_is;
          then = record { instant = m.instant; shown = m.shown; from = b.from; till = b.till };
        }
        in (
          record {
            con = b.con;
            begun_before = b.begun;
            to = b.to_is;
            message = up.message;
            spells = subst (λ z. Spells z up.message) (sym b.bytes_are) by.spells;
            kind = k;
            id = b.id_is;
            asked = up.asked_is ∙ ap (λ f. asked_of f up.message) from;
            verdict = up.verdict;
            arrived = inl up_as;
          },
          up_as,
        )

    pub here : FoundHere
    here = elim by.kind [
      | inl k ↦ of_con (begun_as clocks one other near far past y by.bytes law by.call up.message by.spells k) k
      | inr k ↦ (let sent = (nons_sent clocks one other near far (Far y ∷ past) law).0 y by.bytes up.message refl
          by.call
          by.spells k in
          absurd (nons (Ever_map (PlainSent far by.bytes (clocks.near sent.instant)) SendsNon
          (λ e p. (far, p.goes.content, p.goes.call)) (near_of past) sent.so)))
    ]

  pub find : (hs : List Hop) → ChannelLaw clocks one other near far hs → NoNons (near_of hs)
      → Ever (OnFar (UpOf V a)) hs
      → Found clocks near far V a hs
  find [] law nons h = absurd h
  find (x ∷ past) law nons (inr h) = found_later x past
      (find past (earlier clocks one other near far past x law) (no_more x past nons) h)
  find (Far y ∷ past) law nons (inl h) = (here past y law nons h).0
  find (Near y ∷ past) law nons (inl h) = absurd h

  -- .. and where it arrives
  abbrev pub FoundIn : List T.Entry → List Hop → Type 0
  FoundIn adds hs = (f : Found clocks near far V a (map Far adds ++ hs))
      × Ever (OnFar (HandsUpAs clocks near f.con)) (map Far adds)

  pub find_at : (adds : List T.Entry) (hs : List Hop) → ChannelLaw clocks one other near far (map Far adds ++ hs)
      → NoNons (near_of (map Far adds ++ hs)) → Ever (UpOf V a) adds → FoundIn adds hs
  unfolding found_later
  find_at [] hs law nons h = absurd h
  find_at (y ∷ adds) hs law nons (inl h) = let k = here (map Far adds ++ hs) y law nons h in (k.0, inl k.1)
  find_at (y ∷ adds) hs law nons (inr h) =
      let k = find_at adds hs (earlier clocks one other near far (map Far adds ++ hs) (Far y) law)
      (no_more (Far y) (map Far adds ++ hs) nons) h in
      (found_later (Far y) (map Far adds ++ hs) k.0, inr k.1)

-- each law holds of each past

pub channel_back : (clocks : Clocks) (one other : Setup) (near far : Endpoint) (later past : List Hop)
    → ChannelLaw clocks one other near far (later ++ past) → ChannelLaw clocks one other near far past
channel_back clocks one other near far [] past law = law
channel_back clocks one other near far (h ∷ later) past law =
    channel_back clocks one other near far later past (earlier clocks one other near far (later ++ past) h law)

-- equal lists in front of one list are equal
pub same_front : {A : Type 0} (xs ys zs : List A) → xs ++ zs ≡ ys ++ zs → xs ≡ ys
same_front [] [] zs h = refl
same_front [] (y ∷ ys) zs h = let k = ap length h in let n = length-append ys zs in absurd (omega (arith, k, n))
same_front (x ∷ xs) [] zs h = let k = ap length h in let n = length-append xs zs in absurd (omega (arith, k, n))
same_front (x ∷ xs) (y ∷ ys) zs h =
    let head : x ≡ y = cc h in
    let tail : xs ++ zs ≡ ys ++ zs = cc h in
    ap (λ z. z ∷ xs) head ∙ ap (λ l. y ∷ l) (same_front xs ys zs tail)

-- a CON of a request has one message
pub same_request : (addresses : Addresses) (con : Open) (m : Message) (x : Sending) → IsRequestOf addresses.server con x
    → Spells con.bytes m → con.id ≡ m.id → m ≡ request_of con.id x
same_request addresses con m x r s id =
    let low = s.id in
    let small : con.id < 65536 = omega (arith, low, id) in
    one_message con.bytes m (request_of con.id x) s
    (subst (λ z. Spells z (request_of con.id x)) (sym r.bytes) (r.spelled _ con.id small))

module _ (config : Config) where
  abbrev pub FromClient : List Entry → Type 0
  FromClient t = ClientLaw config.addresses.server config.client_sizes config.client_setup (client_of t)

  -- what a call of the server hands up is in the entries that it adds
  pub handed_there : (past : List S.Call) (c : S.Call) (a : Asked) (v : Verdict)
      → Comes config.limits config.server_szx config.server_setup past c a v
      → Ever (HandsUp config.server_szx a v) (server_adds config past c)
  handed_there past c a v k = subst (Ever (HandsUp config.server_szx a v))
      (same_front k.news (server_adds config past c) _ (sym k.is ∙ server_next config past c)) k.here

  abbrev pub Says : Verdict → Message → Type 0
  Says v m = verdict_on config.server_szx m ≡ v

  pub came_here : (clocks : Clocks) (past : List Entry) (c : S.Call) → IsChannel clocks config (OfServer c ∷ past)
      → FromClient past → (a : Asked) (v : Verdict)
      → Comes config.limits config.server_szx config.server_setup (server_trace config past) c a v → a.from
      ≡ config.addresses.client
      → (k : CameFrom config past (OfServer c) a v)
      × Ever (OnFar (HandsUpAs clocks config.addresses.client k.con)) (hops_at config past (OfServer c))
  came_here clocks past c law own a v up from =
      let adds : List T.Entry = server_adds config (server_trace config past) c in
      let ups = Ever_map (HandsUp config.server_szx a v) (UpOf (Says v) a)
      (λ e u. record {
        message = u.message;
        bytes = u.bytes;
        call = u.call;
        answer = u.answer;
        asked_is = u.asked_is;
        verdict = u.verdict;
      }) adds
      (handed_there (server_trace config past) c a v up)
      in
      let nons_past = client_facts.nons config.addresses.server config.client_sizes config.client_setup
      (client_of past) in
      let none = subst NoNons (sym (near_far adds (hops_in config past) ∙ near_is config past)) nons_past in
      let k = find_at clocks config.client_setup config.server_setup config.addresses.client config.addresses.server
      (Says v) a from adds
      (hops_in config past) law none ups in
      let f = k.0 in
      let there = subst (Ever (λ b. begun b ≡ Some f.con)) (near_far adds (hops_in config past)) f.begun_before in
      let r = client_facts.begins config.addresses.server config.client_sizes config.client_setup (client_of past) own
      f.con
      (subst (Ever (λ b. begun b ≡ Some f.con)) (near_is config past) there) in
      let same = same_request config.addresses f.con f.message r.0 r.2 f.spells f.id in (
        record {
          sending = r.0;
          sent = r.1;
          con = f.con;
          begun_before = there;
          is = r.2;
          spells = subst (Spells f.con.bytes) same f.spells;
          asked = f.asked ∙ ap (asked_of config.addresses.client) same;
          verdict = subst (Says v) same f.verdict;
        },
        k.1,
      )

  pub comes_in : (clocks : Clocks) (all : List Entry) → IsChannel clocks config all → FromClient all
      → ComesIn config clocks all
  comes_in clocks [] law own = tt
  comes_in clocks (OfClient c ∷ past) law own = (
    λ a v comes from. absurd comes,
    comes_in clocks past (channel_back clocks config.client_setup config.server_setup config.addresses.client
        config.addresses.server
        (hops_at config past (OfClient c)) (hops_in config past) law)
        (client_facts.back config.addresses.server config.client_sizes config.client_setup (c ∷ []) (client_of past)
        own),
  )
  comes_in clocks (OfServer c ∷ past) law own = (
    λ a v comes from. came_here clocks past c law own a v comes from,
    comes_in clocks past (channel_back clocks config.client_setup config.server_setup config.addresses.client
        config.addresses.server
        (hops_at config past (OfServer c)) (hops_in config past) law) own,
  )

  pub came_from : (clocks : Clocks) (all : List Entry) → ComesIn config clocks all → CamesFrom config all
  came_from clocks [] h = tt
  came_from clocks (e ∷ past) h = ((λ a v comes from. (h.0 a v comes from).0), came_from clocks past h.1)

-- What a server sends under a Message ID arrives behind its sending (RFC 7252, section 4.4).
use Rattle.std.proofs.Common.{◌≡◌, ◌⊎◌, inl, inr, ⊎_elim, ◌≤◌, ℕ, ◌+◌, Some, List, [], ◌∷◌, ◌++◌, refl, ap, sym, subst}
use Rattle.std.proofs.Common.{◌∙◌, arith}
use Rattle.coap_types.specs.Past.{Ever, Always}
use Rattle.coap_types.specs.declared.message.Kind.TheVariants.{Con, Non}
use Rattle.coap_types.specs.declared.transmission.TheConstants.{ID_REUSE_AFTER_MS as id_reuse_after}
use Rattle.coap_types.specs.declared.transmission.TheConstants.{LAST_ARRIVAL_MS as last_arrival}
use Rattle.coap_types.proofs.Facts.Traces.{Always_back, Ever_append, Ever_map, Ever_out}
use Rattle.coap_codec.specs.Message.{Message, Spells}
use Rattle.coap_codec.proofs.Facts.EveryDatagram.{one_message}
use Rattle.coap_layer.specs.Channel.{Hop, Near, Far, near_of, OnNear, OnFar, BegunAs, ConsBegun, NonsSent, PlainSent}
use Rattle.coap_layer.specs.Ids.{Issued, AreApart}
use Rattle.coap_layer.specs.Trace as L
use Rattle.coap_layer.specs.Words.{Open, begun, issued, issued_by, numbers}
use Rattle.coap_layer.proofs.Facts.IdsApart.{ids_apart}
use Rattle.coap_layer.proofs.Facts.Laws.{begins_of}
use Rattle.coap_client.specs.Trace as C
use Rattle.coap_server.specs.Trace as S
use Rattle.coap_server_laws.proofs.Facts.Laws as server_facts
use Rattle.coap_record.specs.Events.{Config}
use Rattle.coap_promise.specs.Hops.{client_adds, server_adds, hops_at, hops_in, across}
use Rattle.coap_record.specs.Record.{Entry, OfClient, OfServer, client_of, server_trace}
use Rattle.coap_smooth.specs.Smooth.{max_age}
use Rattle.coap_promise.proofs.Facts.Delivery.ChannelAcross.{near_across}
use Rattle.coap_promise.proofs.Facts.Delivery.HopsAreEntries.{server_layer, server_next, far_is}
use Rattle.coap_promise.proofs.Facts.Observations.Positions.{across_append}
use Rattle.coap_smooth.proofs.Smoothly.Arriving.ArrivesInTime.{to_far}
use Rattle.coap_promise.proofs.Facts.Delivery.End.{front, front_is}
use Rattle.coap_smooth.proofs.Smoothly.Ticks.NothingIsLeft.{ForServer}
use Rattle.coap_smooth.proofs.Smoothly.Arriving.WhereItArrives.{near_found, no_near}
use Rattle.coap_record.specs.declared.addresses.Addresses.{Addresses}

-- an entry of the client's layer hands up this response of the server, at most 1,000 ms behind that moment
pub record HandsUpSoon (addresses : Addresses) (m : Message) (since : ℕ) (e : L.Entry) : Type 0 where
  pub bytes : List ℕ
  pub spells : Spells bytes m
  pub call : e.call ≡ L.Receive addresses.server bytes
  pub answer : e.answer ≡ L.Becomes (L.Response m)
  pub from : since ≤ e.at
  pub till : e.at ≤ since + max_age

-- this Message ID was given, at most 400 s before that moment
pub record GaveLately (id since : ℕ) (e : L.Entry) : Type 0 where
  pub answer : e.answer ≡ L.Sent id
  pub young : since ≤ e.at + id_reuse_after

module _ (addresses : Addresses) (m : Message) (since : ℕ) (kind : (m.kind ≡ Con) ⊎ (m.kind ≡ Non)) where
  con_gave : (c : Open) (when : ℕ) → c.id ≡ m.id → since ≤ when → when ≤ c.first + last_arrival → (y : L.Entry)
      → begun y ≡ Some c → GaveLately m.id since y
  con_gave c when id least till y h =
      let b = begins_of y c h in
      let first = b.first_is in
      record { answer = b.answer_is ∙ ap L.Sent id; young = omega (arith, first, least, till) }

  non_gave : (bytes : List ℕ) (when : ℕ) → Spells bytes m → since ≤ when → (y : L.Entry)
      → PlainSent addresses.client bytes when y → GaveLately m.id since y
  non_gave bytes when spells least y p =
      let till = p.till in
      let same = one_message bytes _ m p.goes.spells spells in
      record {
        answer = p.goes.answer ∙ ap (λ (x : Message). L.Sent x.id) same;
        young = omega (arith, least, till);
      }

  -- where it arrives, its Message ID was given before
  given_before : (hs : List Hop) → ConsBegun addresses.server addresses.client hs
      → NonsSent addresses.server addresses.client hs
      → Ever (OnFar (HandsUpSoon addresses m since)) hs → Ever (GaveLately m.id since) (near_of hs)
  given_before [] cons nons h = h
  given_before (Near e ∷ hs) cons nons (inl h) = absurd h
  given_before (Near e ∷ hs) cons nons (inr h) = inr (given_before hs cons.1 nons.1 h)
  given_before (Far e ∷ hs) cons nons (inr h) = given_before hs cons.1 nons.1 h
  given_before (Far e ∷ hs) cons nons (inl r) = by kind
    where
      by : (m.kind ≡ Con) ⊎ (m.kind ≡ Non) → Ever (GaveLately m.id since) (near_of hs)
      by (inl con) =
          let b : BegunAs addresses.client r.bytes m.id e.at (near_of hs) = cons.0 e r.bytes m refl r.call r.spells
          con in
          Ever_map (λ y. begun y ≡ Some b.con) (GaveLately m.id since) (con_gave b.con e.at b.id_is r.from b.till)
          (near_of hs) b.begun
      by (inr non) =
          Ever_map (PlainSent addresses.client r.bytes e.at) (GaveLately m.id since)
          (non_gave r.bytes e.at r.spells r.from) (near_of hs)
          (nons.0 e r.bytes m refl r.call r.spells non)

-- no Message ID is given twice in 400 s

given_here : (id since : ℕ) (e : L.Entry) → GaveLately id since e
    → Ever (λ (h : Issued). (h.id ≡ id) × (since ≤ h.at + id_reuse_after)) (issued e)
given_here id since e g =
    subst (λ a. Ever (λ (h : Issued). (h.id ≡ id) × (since ≤ h.at + id_reuse_after)) (issued_by e.at a)) (sym g.answer)
    (inl (refl, g.young))

never_twice : (front back : List L.Entry) (y : L.Entry) (id : ℕ) → AreApart (numbers (front ++ back))
    → Ever (λ z. z ≡ y) front → y.answer ≡ L.Sent id → Ever (GaveLately id y.at) back → ⊥
never_twice [] back y id apart h answer given = h
never_twice (e ∷ front) back y id apart (inr h) answer given =
    never_twice front back y id (Always_back _ (issued e) (numbers (front ++ back)) apart) h answer given
never_twice (e ∷ front) back y id apart (inl h) answer given =
    let is : issued e ≡ record { at = y.at; id = id } ∷ [] =
    ap issued h ∙ ap (issued_by y.at) answer in
    (subst (λ (gs : List Issued). AreApart (gs ++ numbers (front ++ back))) is apart).0
    (Ever_out issued (λ (h : Issued). (h.id ≡ id) × (y.at ≤ h.at + id_reuse_after)) (front ++ back)
    (Ever_map (GaveLately id y.at) _ (given_here id y.at) (front ++ back) (ever_behind front)))
  where
    ever_behind : (f : List L.Entry) → Ever (GaveLately id y.at) (f ++ back)
    ever_behind [] = given
    ever_behind (x ∷ f) = inr (ever_behind f)

module _ (config : Config) where
  -- what holds at each hop holds at each of those before
  pub hops_before : (P : List Hop → Hop → Type 0) (newer es : List Entry)
      → Always P (across (hops_in config (newer ++ es)))
      → Always P (across (hops_in config es))
  hops_before P newer es all =
      let parts : across (hops_in config (newer ++ es)) ≡ across (front config newer es) ++ across (hops_in config es) =
      ap across (front_is config newer es) ∙ across_append (front config newer es) (hops_in config es) in
      Always_back P (across (front config newer es)) (across (hops_in config es)) (subst (Always P) parts all)

  -- So what is sent now did not arrive before.
  pub not_before : (older : List Entry) (c : S.Call) → ForServer config (OfServer c ∷ older)
      → ConsBegun config.addresses.server config.addresses.client (across (hops_in config older))
      → NonsSent config.addresses.server config.addresses.client (across (hops_in config older)) → (m : Message)
      → (m.kind ≡ Con) ⊎ (m.kind ≡ Non) → (y : L.Entry)
      → Ever (λ z. z ≡ y) (server_adds config (server_trace config older) c) → y.answer ≡ L.Sent m.id
      → Ever (OnNear (HandsUpSoon config.addresses m y.at)) (hops_in config older) → ⊥
  not_before older c law cons nons m kind y among answer h =
      let t : List S.Call = server_trace config older in
      let hs : List Hop = hops_in config older in
      let given : Ever (GaveLately m.id y.at) (near_of (across hs)) =
      given_before config.addresses m y.at kind (across hs) cons nons
      (to_far config (HandsUpSoon config.addresses m y.at) hs h) in
      let layer = server_facts.layer config.limits config.server_szx config.server_setup (c ∷ t) law in
      let apart = subst (λ l. AreApart (numbers l)) (server_next config t c)
      (ids_apart config.server_setup (server_layer config (c ∷ t)) layer) in
      never_twice (server_adds config t c) (server_layer config t) y m.id apart among answer
      (subst (Ever (GaveLately m.id y.at)) (near_across hs ∙ far_is config older) given)

  -- What happens at the client's layer in these entries, and not in the older ones, does so in a call of the newer
  -- ones.
  pub record Behind (P : L.Entry → Type 0) (newer rest : List Entry) : Type 0 where
    pub newest : List Entry
    pub call : C.Call
    pub between : List Entry
    pub split : newer ≡ newest ++ OfClient call ∷ between
    pub entry : L.Entry
    pub among : Ever (λ z. z ≡ entry) (client_adds config (client_of (between ++ rest)) call)
    pub is : P entry

  further : (P : L.Entry → Type 0) (e : Entry) (newer rest : List Entry) → Behind P newer rest
      → Behind P (e ∷ newer) rest
  further P e newer rest k = record {
    newest = e ∷ k.newest;
    call = k.call;
    between = k.between;
    split = ap (λ l. e ∷ l) k.split;
    entry = k.entry;
    among = k.among;
    is = k.is;
  }

  pub behind : (P : L.Entry → Type 0) (newer rest : List Entry) → Ever (OnNear P) (hops_in config (newer ++ rest))
      → (Ever (OnNear P) (hops_in config rest) → ⊥) → Behind P newer rest
  behind P [] rest h none = absurd (none h)
  behind P (OfServer c ∷ newer) rest h none =
      ⊎_elim (λ l. absurd (no_near P (server_adds config (server_trace config (newer ++ rest)) c) l))
      (λ r. further P (OfServer c) newer rest (behind P newer rest r none))
      (Ever_append (OnNear P) (hops_at config (newer ++ rest) (OfServer c)) (hops_in config (newer ++ rest)) h)
  behind P (OfClient c ∷ newer) rest h none =
      ⊎_elim
      (λ l. (let k = near_found P (client_adds config (client_of (newer ++ rest)) c) l in
      record {
        newest = [];
        call = c;
        between = newer;
        split = refl;
        entry = k.0;
        among = k.1;
        is = k.2;
      }))
      (λ r. further P (OfClient c) newer rest (behind P newer rest r none))
      (Ever_append (OnNear P) (hops_at config (newer ++ rest) (OfClient c)) (hops_in config (newer ++ rest)) h)

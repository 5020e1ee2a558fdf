-- Between the first block of a call and a later one no block of another call is taken.
use Rattle.std.proofs.Common.{◌≡◌, ◌≢◌, ◌≤◌, ◌⊎◌, inl, inr, ⊎_elim, ℕ, Some, List, [], ◌∷◌, ◌++◌, ap, sym, subst, ◌∙◌}
use Rattle.std.proofs.Common.{arith}
use Rattle.coap_types.specs.Past.{Ever, Sometime}
use Rattle.coap_types.proofs.Facts.Traces.{Ever_front, Ever_back, Sometime_map, Sometime_back, which_first}
use Rattle.coap_layer.specs.Channel.{near_of, OnFar}
use Rattle.coap_layer.specs.Clocks.{Clocks}
use Rattle.coap_layer.specs.Paced.{HandsUpAs}
use Rattle.coap_layer.specs.Trace as T
use Rattle.coap_layer.specs.Words.{Open, begun}
use Rattle.coap_layer.proofs.Facts.Paced.{cons_apart}
use Rattle.coap_client_laws.specs.Follows.Begins.{IsRequestOf}
use Rattle.coap_client_laws.specs.Follows.Order.{call_of}
use Rattle.coap_client.specs.Sendings.{Taken, WasTaken, Sending}
use Rattle.coap_server.specs.Follows.Takes.{Took}
use Rattle.coap_server.specs.Trace as S
use Rattle.coap_record.specs.Events.{Config}
use Rattle.coap_promise.specs.Hops.{hops_in, hops_at, client_adds, server_adds}
use Rattle.coap_record.specs.Legal.{IsRequest}
use Rattle.coap_record.specs.Record.{Entry, OfClient, OfServer, client_of, server_trace}
use Rattle.coap_promise.proofs.Facts.Requests.OfACall.{Lawful}
use Rattle.coap_promise.proofs.Uploads.HopLists.{near_near, near_far, some_of}
use Rattle.coap_promise.proofs.Uploads.Orders.{Order, call_is, Known, is_that, finds, in_turn, follows, apart_at}
use Rattle.coap_promise.proofs.Uploads.Parts.{Begun, begun_later, Part, part_back, OfUpload}

abbrev Begins : Open → T.Entry → Type 0
Begins con e = begun e ≡ Some con

order_begun : (a b : Open) (t : List T.Entry) → Sometime (Order a b) t → Ever (Begins b) t
order_begun a b [] h = h
order_begun a b (e ∷ t) (inl h) = inl h.0
order_begun a b (e ∷ t) (inr h) = inr (order_begun a b t h)

one_begun : (a b : Open) (t : List T.Entry) → Ever (λ e. Begins a e × Begins b e) t → a ≡ b
one_begun a b t h = some_of (a ≡ b) (λ e. Begins a e × Begins b e)
    (λ e k. let p = k.0 in let q = k.1 in let both : Some a ≡ Some b = sym p ∙ q in cc both) t h

-- of a beginning and of an order that happened, which was first
order_first : (B : T.Entry → Type 0) (old new : Open) (t : List T.Entry) → Sometime (Order old new) t → Ever B t
    → Ever (λ e. Begins new e × B e) t ⊎ (Sometime (λ p e. B e × Sometime (Order old new) p) t
    ⊎ Sometime (λ p e. Order old new p e × Ever B p) t)
order_first B old new [] a b = absurd a
order_first B old new (e ∷ t) (inl a) (inl b) = inl (inl (a.0, b))
order_first B old new (e ∷ t) (inl a) (inr b) = inr (inr (inl (a, b)))
order_first B old new (e ∷ t) (inr a) (inl b) = inr (inl (inl (b, a)))
order_first B old new (e ∷ t) (inr a) (inr b) =
    ⊎_elim (λ x. inl (inr x)) (λ y. ⊎_elim (λ x. inr (inl (inr x))) (λ x. inr (inr (inr x))) y)
    (order_first B old new t a b)

module _ (config : Config) (clocks : Clocks) (all : List Entry) (small : config.client_sizes.szx ≤ 6)
    (whole : Lawful config all)
    (in_range : (x : Taken) → WasTaken x (client_of all) → IsRequest x.request) where
  abbrev PartOf : List Entry → Type 0
  PartOf w = Part config clocks all small whole in_range w

  abbrev Upload : Took → List Entry → S.Call → Type 0
  Upload z past c = OfUpload config clocks all small whole in_range z past c

  abbrev KnownTo : Open → Sending → ℕ → Type 0
  KnownTo con x k = Known config clocks all small whole in_range con x k

  -- a block that was taken, and came: freed from its place
  pub record Up (con : Open) (x : Sending) (k : ℕ) (w : List Entry) : Type 0 where
    pub known : KnownTo con x k
    pub to : con.to ≡ config.addresses.server
    pub begun_before : Begun config con w
    pub up : Ever (OnFar (HandsUpAs clocks config.addresses.client con)) (hops_in config w)

  pub up_next : (con : Open) (x : Sending) (k : ℕ) (past : List Entry) (e : Entry) → Up con x k past
      → Up con x k (e ∷ past)
  up_next con x k past e u =
      record {
        known = u.known;
        to = u.to;
        begun_before = begun_later config past e (Begins con) u.begun_before;
        up = Ever_back (OnFar (HandsUpAs clocks config.addresses.client con)) (hops_at config past e)
            (hops_in config past) u.up;
      }

  up_later : (con : Open) (x : Sending) (k : ℕ) (later w : List Entry) → Up con x k w → Up con x k (later ++ w)
  up_later con x k [] w u = u
  up_later con x k (e ∷ later) w u = up_next con x k (later ++ w) e (up_later con x k later w u)

  order_next : (a b : Open) (past : List Entry) (e : Entry) → Sometime (Order a b) (near_of (hops_in config past))
      → Sometime (Order a b) (near_of (hops_in config (e ∷ past)))
  order_next a b past (OfClient c) k =
      subst (Sometime (Order a b)) (sym (near_near (client_adds config (client_of past) c) (hops_in config past)))
      (Sometime_back (Order a b) (client_adds config (client_of past) c) (near_of (hops_in config past)) k)
  order_next a b past (OfServer c) k = subst (Sometime (Order a b))
      (sym (near_far (server_adds config (server_trace config past) c) (hops_in config past))) k

  order_later : (a b : Open) (later w : List Entry) → Sometime (Order a b) (near_of (hops_in config w))
      → Sometime (Order a b) (near_of (hops_in config (later ++ w)))
  order_later a b [] w k = k
  order_later a b (e ∷ later) w k = order_next a b (later ++ w) e (order_later a b later w k)

  -- the block that is taken here
  pub known_of : (z : Took) (past : List Entry) (c : S.Call) → PartOf (OfServer c ∷ past) → (o : Upload z past c)
      → KnownTo o.block.came.con o.block.came.sending o.number
  known_of z past c p o =
      let earlier = part_back config clocks all small whole in_range past (OfServer c) p in
      let k = o.block.came in
      record {
        sent = earlier.sent k.sending k.sent;
        begun_there = earlier.begun_there k.con k.begun_before;
        carries = record { is = k.is; spells = k.spells };
        block = o.part_of;
      }

  pub up_of : (z : Took) (past : List Entry) (c : S.Call) → PartOf (OfServer c ∷ past) → (o : Upload z past c)
      → Up o.block.came.con o.block.came.sending o.number (OfServer c ∷ past)
  up_of z past c p o =
      let k = o.block.came in
      record {
        known = known_of z past c p o;
        to = (k.is).to;
        begun_before = begun_later config past (OfServer c) (Begins k.con) k.begun_before;
        up = Ever_front (OnFar (HandsUpAs clocks config.addresses.client k.con)) (hops_at config past (OfServer c))
            (hops_in config past) (o.block).arrives;
      }

  -- the requests of one CON are of one call
  same_call : (a b : Open) (x y : Sending) (i j : ℕ) → KnownTo a x i → KnownTo b y j → a ≡ b → i ≡ j
  same_call a b x y i j k l same =
      let e : x ≡ y = is_that config clocks all small whole in_range b y x j l k.sent
      (subst (λ z. IsRequestOf config.addresses.server z x) same (k.carries).is) in
      let numbers : Some i ≡ Some j = sym (call_is x i k.block)
      ∙ (ap (λ (s : Sending). call_of s.operation) e ∙ call_is y j l.block) in
      cc numbers

  -- here a block of one call comes, behind one of another call that began later
  not_behind : (past : List Entry) (c : S.Call) → PartOf (OfServer c ∷ past)
      → (z : Took) (o : Upload z past c) (con : Open) (y : Sending) (j : ℕ) → Up con y j past → o.number ≢ j
      → Sometime (Order o.block.came.con con) (near_of (hops_in config past)) → ⊥
  not_behind past c p z o con y j u differ order =
      let earlier = part_back config clocks all small whole in_range past (OfServer c) p in
      let k = o.block.came in
      let knows = known_of z past c p o in
      let found = finds config clocks all small whole in_range k.con con k.sending y o.number j knows u.known differ
      past
      earlier order in
      let f = follows config clocks all small whole in_range k.con con k.sending y o.number j knows u.known differ
      ((k.is).to ∙ sym u.to) past earlier found in
      apart_at clocks config.addresses.client k.con con (server_adds config (server_trace config past) c)
      (hops_in config past)
      (cons_apart clocks config.client_setup config.server_setup config.addresses.client config.addresses.server
      (hops_in config (OfServer c ∷ past)) p.channel) f (o.block).arrives

  turn_of : (w : List Entry) → PartOf w → (a b : Open) (x y : Sending) (i j : ℕ) → KnownTo a x i → KnownTo b y j → i ≢ j
      → Sometime (Order a b) (near_of (hops_in config w)) → i ≤ j
  turn_of w p a b x y i j k l differ order =
      in_turn config clocks all small whole in_range a b x y i j k l differ w p
      (finds config clocks all small whole in_range a b x y i j k l differ w p order)

  -- a block of a call came, freed from its place
  pub record First (n : ℕ) (w : List Entry) : Type 0 where
    pub con : Open
    pub sending : Sending
    pub up : Up con sending n w

  -- the last block, of the call; one that came between, behind the first, is of it too
  module _ (n : ℕ) (past : List Entry) (c : S.Call) (p : PartOf (OfServer c ∷ past)) (x : Took) (k : Upload x past c)
      (of_call : k.number ≡ n) where
    module _ (later w : List Entry) (d : S.Call) (is : past ≡ later ++ OfServer d ∷ w) (q : PartOf (OfServer d ∷ w))
        (z : Took) (l : Upload z w d) (f : First n w) (differ : l.number ≢ n) where
      abbrev con : Open
      con = l.block.came.con

      abbrev middle : Sending
      middle = l.block.came.sending

      abbrev last : Open
      last = k.block.came.con

      known : KnownTo con middle l.number
      known = known_of z w d q l

      known_last : KnownTo last k.block.came.sending k.number
      known_last = known_of x past c p k

      from_last : l.number ≢ k.number
      from_last e = differ (e ∙ of_call)

      since : PartOf past
      since = part_back config clocks all small whole in_range past (OfServer c) p

      up : Up con middle l.number past
      up = subst (Up con middle l.number) (sym is)
          (up_later con middle l.number later (OfServer d ∷ w) (up_of z w d q l))

      behind_first : Sometime (Order f.con con) (near_of (hops_in config w)) → ⊥
      behind_first here = ⊎_elim same_last (λ r. ⊎_elim behind_middle before_last r)
          (order_first (Begins last) f.con con (near_of (hops_in config past)) there k.block.came.begun_before)
        where
          there : Sometime (Order f.con con) (near_of (hops_in config past))
          there = subst (λ t. Sometime (Order f.con con) (near_of (hops_in config t))) (sym is)
              (order_later f.con con later (OfServer d ∷ w) (order_next f.con con w (OfServer d) here))

          same_last : Ever (λ e. Begins con e × Begins last e) (near_of (hops_in config past)) → ⊥
          same_last r = from_last (same_call con last middle k.block.came.sending l.number k.number known known_last
              (one_begun con last (near_of (hops_in config past)) r))

          behind_middle : Sometime (λ t e. Begins last e × Sometime (Order f.con con) t) (near_of (hops_in config past))
              → ⊥
          behind_middle r =
              let a = turn_of w (part_back config clocks all small whole in_range w (OfServer d) q) f.con con f.sending
              middle
              n l.number f.up.known known (λ e. differ (sym e)) here in
              let b = turn_of past since con last middle k.block.came.sending l.number k.number known known_last
              from_last
              (Sometime_map (λ t e. Begins last e × Sometime (Order f.con con) t) (Order con last)
              (λ t e s. (s.0, order_begun f.con con t s.1)) (near_of (hops_in config past)) r)
              in
              differ (omega (arith, a, b, of_call))

          before_last : Sometime (λ t e. Order f.con con t e × Ever (Begins last) t) (near_of (hops_in config past)) → ⊥
          before_last r =
              not_behind past c p x k con middle l.number up (λ e. from_last (sym e))
              (Sometime_map (λ t e. Order f.con con t e × Ever (Begins last) t) (Order last con) (λ t e s. (s.0.0, s.1))
              (near_of (hops_in config past)) r)

      pub none_between : ⊥
      none_between = ⊎_elim same (λ r. ⊎_elim behind before r)
          (which_first (Begins f.con) (Begins con) (near_of (hops_in config w)) f.up.begun_before
          l.block.came.begun_before)
        where
          same : Ever (λ e. Begins f.con e × Begins con e) (near_of (hops_in config w)) → ⊥
          same h = differ (sym (same_call f.con con f.sending middle n l.number f.up.known known
              (one_begun f.con con (near_of (hops_in config w)) h)))

          before : Sometime (λ t e. Begins f.con e × Ever (Begins con) t) (near_of (hops_in config w)) → ⊥
          before h = not_behind w d q z l f.con f.sending n f.up differ h

          behind : Sometime (λ t e. Begins con e × Ever (Begins f.con) t) (near_of (hops_in config w)) → ⊥
          behind h = behind_first h

-- In which order the blocks of two uploads are sent, and handed up.
use Rattle.std.proofs.Common.{◌≡◌, ◌≢◌, ◌≤◌, ◌<◌, ◌⊎◌, ◌+◌, inl, inr, ⊎_elim, ℕ, Some, List, [], ◌∷◌, ◌++◌, map, ap}
use Rattle.std.proofs.Common.{sym, subst, ◌∙◌}
use Rattle.coap_types.specs.Past.{Ever, Sometime, Always}
use Rattle.coap_types.specs.declared.endpoint.Endpoint.{Endpoint}
use Rattle.coap_types.specs.declared.transmission.TheConstants.{MAX_LATENCY_MS as max_latency}
use Rattle.coap_types.proofs.Facts.Traces.{Ever_append, Ever_back, Sometime_back}
use Rattle.coap_layer.specs.Channel.{Hop, Near, Far, near_of, OnFar}
use Rattle.coap_layer.specs.Clocks.{Clocks}
use Rattle.coap_layer.specs.Paced.{HandsUpAs, Takes, Follows, OnNearAfter, ConsApart}
use Rattle.coap_layer.specs.Sends.{SendsIt}
use Rattle.coap_layer.specs.Trace as T
use Rattle.coap_layer.specs.Words.{Open, begun}
use Rattle.coap_layer.proofs.Facts.Laws.{begins_of}
use Rattle.coap_client_laws.specs.Follows.Begins.{IsRequestOf}
use Rattle.coap_client_laws.specs.Follows.Blocks.{Carried, carried}
use Rattle.coap_client.specs.Law.{own_of}
use Rattle.coap_client_laws.specs.Follows.Order.{call_of, turn_of}
use Rattle.coap_client.specs.Own.{Uploads, Operation, Calling}
use Rattle.coap_client.specs.Trace as C
use Rattle.coap_client.specs.Sendings.{Taken, WasTaken, Sending, sends}
use Rattle.coap_client_laws.proofs.Facts.Laws as client_facts
use Rattle.coap_record.specs.Events.{Config}
use Rattle.coap_promise.specs.Hops.{hops_in, hops_at, client_adds, server_adds}
use Rattle.coap_record.specs.Legal.{IsRequest}
use Rattle.coap_record.specs.Record.{Entry, OfClient, OfServer, client_of, server_trace}
use Rattle.coap_promise.proofs.Facts.Delivery.HopsAreEntries.{near_is}
use Rattle.coap_promise.proofs.Facts.Requests.OfACall.{Lawful}
use Rattle.coap_client_laws.specs.Follows.Apart.{IsBlockOf, IsQuiet}
use Rattle.coap_client_laws.proofs.Facts.EachCall.{blocks_apart}
use Rattle.coap_promise.proofs.Uploads.HeardUp.{heard_taken}
use Rattle.coap_promise.proofs.Uploads.HopLists.{near_near, near_far, Sometime_append}
use Rattle.coap_promise.proofs.Uploads.Parts.{Begun, Sent, Carries, same_token, Part, part_back, one_sending}

-- the later CON begins where the earlier one was begun
abbrev pub Order : Open → Open → List T.Entry → T.Entry → Type 0
Order old new p e = (begun e ≡ Some new) × Ever (λ b. begun b ≡ Some old) p

new_there : (old new : Open) (adds rest : List T.Entry) → Sometime (λ p e. Order old new (p ++ rest) e) adds
    → Ever (λ b. begun b ≡ Some new) adds
new_there old new [] rest h = h
new_there old new (e ∷ adds) rest (inl h) = inl h.0
new_there old new (e ∷ adds) rest (inr h) = inr (new_there old new adds rest h)

old_there : (old new : Open) (adds rest : List T.Entry) → Sometime (λ p e. Order old new (p ++ rest) e) adds
    → Ever (λ b. begun b ≡ Some old) (adds ++ rest)
old_there old new [] rest h = absurd h
old_there old new (e ∷ adds) rest (inl h) = inr h.1
old_there old new (e ∷ adds) rest (inr h) = inr (old_there old new adds rest h)

-- a block is of a call
pub of_carried : (op : Operation) (b : Carried) → carried op ≡ Some b
    → (call_of op ≡ Some b.number) × (turn_of op ≡ Some b.number)
of_carried (Calling n r (Uploads u)) b h =
    let e : ◌≡◌ {A = Carried} (record { number = n; upload = u }) b = cc h in
    (ap (λ (z : Carried). Some z.number) e, ap (λ (z : Carried). Some z.number) e)
of_carried _ b h = absurd (cc h)

pub call_is : (x : Sending) (k : ℕ) → IsBlockOf x k → call_of x.operation ≡ Some k
call_is x k b = (of_carried x.operation b.block b.carries).0 ∙ ap (λ n. Some n) b.number_is

turn_is : (x : Sending) (k : ℕ) → IsBlockOf x k → turn_of x.operation ≡ Some k
turn_is x k b = (of_carried x.operation b.block b.carries).1 ∙ ap (λ n. Some n) b.number_is

module _ (config : Config) (clocks : Clocks) (all : List Entry) (small : config.client_sizes.szx ≤ 6)
    (whole : Lawful config all)
    (in_range : (x : Taken) → WasTaken x (client_of all) → IsRequest x.request) where
  abbrev PartOf : List Entry → Type 0
  PartOf w = Part config clocks all small whole in_range w

  abbrev back : (past : List Entry) (e : Entry) → PartOf (e ∷ past) → PartOf past
  back past e p = part_back config clocks all small whole in_range past e p

  -- a CON that was begun, and the block that it carries
  pub record Known (con : Open) (x : Sending) (k : ℕ) : Type 0 where
    pub sent : Sent config x all
    pub begun_there : Begun config con all
    pub carries : Carries config con x
    pub block : IsBlockOf x k

  -- what was begun was sent, by the call that began it
  pub sent_of : (w : List Entry) → PartOf w → (con : Open) → Begun config con w
      → (y : Sending) × Sent config y w × IsRequestOf config.addresses.server con y
  sent_of w p con h = client_facts.begins config.addresses.server config.client_sizes config.client_setup (client_of w)
      p.law.client con
      (subst (Ever (λ b. begun b ≡ Some con)) (near_is config w) h)

  pub is_that : (con : Open) (x z : Sending) (k : ℕ) → Known con x k → Sent config z all
      → IsRequestOf config.addresses.server con z
      → z ≡ x
  is_that con x z k known sent is = one_sending config clocks all small whole in_range z x k sent known.sent
      (call_is x k known.block) (sym (same_token config con x z known.carries is))

  module _ (old new : Open) (x y : Sending) (i j : ℕ) (knows : Known old x i) (known : Known new y j)
      (differ : i ≢ j) where
    -- the call that sends the later one finds the earlier one sent, and begun
    pub record Finds (past : List Entry) (c : C.Call) : Type 0 where
      pub sends_it : sends (own_of config.client_sizes (client_of past)) c ≡ Some y
      pub sent : Sent config x past
      pub old_begun : Begun config old past
      pub new_begun : Ever (λ b. begun b ≡ Some new) (client_adds config (client_of past) c)

    abbrev pub FindsAt : List Entry → Entry → Type 0
    FindsAt past (OfClient c) = Finds past c
    FindsAt past (OfServer c) = ⊥

    now : (past : List Entry) (c : C.Call) → PartOf (OfClient c ∷ past)
        → Sometime (λ p e. Order old new (p ++ near_of (hops_in config past)) e) (client_adds config (client_of past) c)
        → Finds past c
    now past c p h = ⊎_elim here before (Ever_append (λ b. begun b ≡ Some old) adds rest
        (old_there old new adds rest h))
      where
        adds : List T.Entry
        adds = client_adds config (client_of past) c

        rest : List T.Entry
        rest = near_of (hops_in config past)

        new_begun : Ever (λ b. begun b ≡ Some new) adds
        new_begun = new_there old new adds rest h

        now_sent : (con : Open) → Ever (λ b. begun b ≡ Some con) adds
            → (z : Sending) × (sends (own_of config.client_sizes (client_of past)) c ≡ Some z)
            × IsRequestOf config.addresses.server con z
        now_sent con k = let s = (client_facts.begins_now config.addresses.server config.client_sizes
            config.client_setup
            (client_of (OfClient c ∷ past)) p.law.client).0 con k in (s.sending, s.sends_it, s.is)

        sends_y : sends (own_of config.client_sizes (client_of past)) c ≡ Some y
        sends_y = let r = now_sent new new_begun in r.1
            ∙ ap (λ (z : Sending). Some z) (is_that new y r.0 j known (p.sent r.0 (inl r.1)) r.2)

        here : Ever (λ b. begun b ≡ Some old) adds → Finds past c
        here k =
            let s = now_sent old k in
            let is_x = is_that old x s.0 i knows (p.sent s.0 (inl s.1)) s.2 in
            let both : Some s.0 ≡ Some y = sym s.1 ∙ sends_y in
            let same : s.0 ≡ y = cc both in
            let numbers : Some i ≡ Some j = sym (call_is x i knows.block)
            ∙ (ap (λ (z : Sending). call_of z.operation) (sym is_x ∙ same) ∙ call_is y j known.block) in
            absurd (differ (cc numbers))

        before : Ever (λ b. begun b ≡ Some old) rest → Finds past c
        before k =
            let earlier = back past (OfClient c) p in
            let s = sent_of past earlier old k in
            record {
              sends_it = sends_y;
              sent = subst (λ z. Sent config z past) (is_that old x s.0 i knows (earlier.sent s.0 s.1) s.2) s.1;
              old_begun = k;
              new_begun = new_begun;
            }

    pub finds : (w : List Entry) → PartOf w → Sometime (Order old new) (near_of (hops_in config w)) → Sometime FindsAt w
    finds [] p h = absurd h
    finds (OfServer c ∷ past) p h = inr (finds past (back past (OfServer c) p)
        (subst (Sometime (Order old new)) (near_far (server_adds config (server_trace config past) c)
        (hops_in config past)) h))
    finds (OfClient c ∷ past) p h =
        ⊎_elim (λ k. inl (now past c p k)) (λ k. inr (finds past (back past (OfClient c) p) k))
        (Sometime_append (Order old new) (client_adds config (client_of past) c) (near_of (hops_in config past))
        (subst (Sometime (Order old new)) (near_near (client_adds config (client_of past) c) (hops_in config past))
        h))

    -- calls take their turns
    pub in_turn : (w : List Entry) → PartOf w → Sometime FindsAt w → i ≤ j
    in_turn [] p h = absurd h
    in_turn (OfServer c ∷ past) p (inl h) = absurd h
    in_turn (OfClient c ∷ past) p (inl h) =
        ((client_facts.order config.addresses.server config.client_sizes config.client_setup
        (client_of (OfClient c ∷ past)) p.law.client).0).in_turn x y i j h.sends_it h.sent (turn_is x i knows.block)
        (turn_is y j known.block)
    in_turn (e ∷ past) p (inr h) = in_turn past (back past e p) h

    module _ (to : old.to ≡ new.to) where
      put : (adds : List T.Entry) (hs : List Hop) → Ever (λ b. begun b ≡ Some old) (near_of hs)
          → Ever (OnFar (Takes clocks config.addresses.client old)) hs
          ⊎ Always (λ t e. SendsIt old t e → e.at + max_latency < new.first)
          (adds ++ near_of hs)
          → Ever (λ b. begun b ≡ Some new) adds → Sometime (OnNearAfter
          (Follows clocks config.addresses.client old new))
          (map Near adds ++ hs)
      put [] hs before gone h = absurd h
      put (e ∷ adds) hs before gone (inr h) = inr (put adds hs before (⊎_elim (λ k. inl k) (λ k. inr k.1) gone) h)
      put (e ∷ adds) hs before gone (inl h) =
          let first : new.first ≡ e.at = (begins_of e new h).first_is in
          inl (record {
            begins = h;
            to_is = to;
            begun_before = subst (Ever (λ b. begun b ≡ Some old)) (sym (near_near adds hs))
                (Ever_back (λ b. begun b ≡ Some old) adds (near_of hs) before);
            gone = ⊎_elim (λ k. inl (Ever_back (OnFar (Takes clocks config.addresses.client old)) (map Near adds) hs k))
                (λ k. inr (subst (λ n. Always (λ t z. SendsIt old t z → z.at + max_latency < n)
                (near_of (map Near adds ++ hs))) first
                (subst (Always (λ t z. SendsIt old t z → z.at + max_latency < new.first))
                (sym (near_near adds hs)) k.1))) gone;
          })

      -- the earlier one is gone there
      pub follows : (w : List Entry) → PartOf w → Sometime FindsAt w
          → Sometime (OnNearAfter (Follows clocks config.addresses.client old new)) (hops_in config w)
      follows [] p h = absurd h
      follows (OfServer c ∷ past) p (inl h) = absurd h
      follows (e ∷ past) p (inr h) = Sometime_back (OnNearAfter (Follows clocks config.addresses.client old new))
          (hops_at config past e)
          (hops_in config past) (follows past (back past e p) h)
      follows (OfClient c ∷ past) p (inl h) =
          put (client_adds config (client_of past) c) (hops_in config past) h.old_begun
          (⊎_elim (λ k. inl (heard_taken config clocks all small whole in_range old x i
          (call_is x i knows.block) knows.sent knows.begun_there knows.carries past c p h.old_begun k))
          (λ k. inr (quiet k))
          ((blocks_apart config.addresses.server config.client_sizes config.client_setup (client_of (OfClient c ∷ past))
          p.law.client).0
          x y i j h.sends_it h.sent knows.block known.block differ))
          h.new_begun
        where
          quiet : IsQuiet config.addresses.server config.client_sizes config.client_setup (client_of past) c x
              → Always (λ t e. SendsIt old t e → e.at + max_latency < new.first)
              (client_adds config (client_of past) c ++ near_of (hops_in config past))
          quiet k =
              subst (Always (λ t e. SendsIt old t e → e.at + max_latency < new.first))
              (sym (near_is config (OfClient c ∷ past))
              ∙ near_near (client_adds config (client_of past) c) (hops_in config past))
              (k old new (subst (Ever (λ b. begun b ≡ Some old)) (near_is config past) h.old_begun)
              (knows.carries).is h.new_begun)

-- where the later one followed, the earlier one isn't handed up any more
pub apart_at : (clocks : Clocks) (near : Endpoint) (old new : Open) (adds : List T.Entry) (hs : List Hop)
    → ConsApart clocks near (map Far adds ++ hs) → Sometime (OnNearAfter (Follows clocks near old new)) hs
    → Ever (OnFar (HandsUpAs clocks near old)) (map Far adds) → ⊥
apart_at clocks near old new [] hs law gone h = h
apart_at clocks near old new (e ∷ adds) hs law gone (inl h) =
    (law old new).0 (Sometime_back (OnNearAfter (Follows clocks near old new)) (map Far adds) hs gone) h
apart_at clocks near old new (e ∷ adds) hs law gone (inr h) =
    apart_at clocks near old new adds hs (λ a b. (law a b).1) gone h

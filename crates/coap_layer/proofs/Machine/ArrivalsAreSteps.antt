-- An arrival has its row just where the state answers so.
use Rattle.coap_layer.specs.Trace.{Setup, Packet, Disposition, Dropped, Replayed, Rejected, Request, Response, Acked}
use Rattle.coap_layer.specs.Trace.{Reset, Unmatched, Answer, Becomes, Entry}
use Rattle.std.proofs.Common.{◌≡◌, ◌≢◌, ◌⊎◌, inl, inr, ⊎_elim, ℕ, ◌≤◌, Bool, true, false, List, [], refl, ap, sym, ◌∙◌}
use Rattle.std.proofs.Common.{subst, arith}
use Rattle.coap_types.specs.declared.endpoint.Endpoint.{Endpoint}
use Rattle.coap_types.specs.declared.message.Kind.{Kind}
use Rattle.coap_types.specs.declared.message.Kind.TheVariants.{Con, Non, Ack, Rst}
use Rattle.coap_types.specs.Roles.{role_of}
use Rattle.coap_types.specs.declared.role.Role.{Role}
use Rattle.coap_types.specs.declared.role.Role.TheVariants as role
use Rattle.coap_layer.specs.Machine.Table.{up_of, again_or}
use Rattle.coap_layer.specs.Arrivals.{Arrival, Unreadable, Faulted, Whole, Shows, arrival_at}
use Rattle.coap_layer.specs.Words.{Incoming, clock, Remembered, remembered}
use Rattle.coap_layer.specs.Machine.State.{State, history, answer_to, out_to, sorted_by, replay}
use Rattle.coap_layer.specs.Rows.{Outstanding, MayGive, Withholds, Ignores, ignores_non, ignores_reset, ignores_ack}
use Rattle.coap_layer.specs.Rows.{ignores_unmatched, ignores_new, Drops, HandedAs, Sorts, rejects, drops, takes_ack}
use Rattle.coap_layer.specs.Rows.{takes_reset, passes_reset, takes_answer, replays, hands_over, Arrives, stored}
use Rattle.coap_layer.specs.Rows.{LayerLaw}
use Rattle.coap_layer.proofs.Machine.WhatIsRemembered.{remembered_of}
use Rattle.coap_layer.proofs.Machine.WhatIsIssued.{Chooses}
use Rattle.coap_layer.proofs.Facts.Arrivals.{one_arrival}
use Rattle.coap_layer.proofs.Machine.WhatIsDecided.{Decides, is_true, is_false, outstanding_is, known_is, full_is}
use Rattle.coap_layer.proofs.Machine.WhatIsDecided.{stored_is, free_here, is_true_by, is_false_by}

module _ (setup : Setup) (t : List Entry) where
  abbrev h : State
  h = history setup t

  abbrev I : ℕ → Type 0
  I now = MayGive setup t now

  abbrev J : ℕ → Type 0
  J now = Withholds setup t now

  -- the table, by what is known
  module _ (e : Entry) (m : Incoming) where
    abbrev k_is : Kind
    k_is = m.message.kind

    abbrev c_is : Role
    c_is = role_of m.message.code

    abbrev O : Type 0
    O = Outstanding t m.from m.message.id

    abbrev R : Type 0
    R = Remembered t e.at m.from m.message.id

    abbrev F : Type 0
    F = setup.remembered ≤ remembered e.at t

    abbrev Out : Type 0
    Out = (e.answer ≡ Becomes Rejected → e.out ≡ replay h e.at m Rejected)
        × (e.answer ≡ Becomes Replayed → e.out ≡ stored t m)
        × (e.answer ≢ Becomes Rejected → e.answer ≢ Becomes Replayed → e.out ≡ [])

    handed_rejected : HandedAs setup t e m → e.answer ≢ Becomes Rejected
    handed_rejected (inl a) z = let k = a.2 in cc (k, z)
    handed_rejected (inr (inl a)) z = let k = a.3 in cc (k, z)
    handed_rejected (inr (inr a)) z = let k = a.1 in cc (k, z)

    handed_replayed : HandedAs setup t e m → e.answer ≢ Becomes Replayed
    handed_replayed (inl a) z = let k = a.2 in cc (k, z)
    handed_replayed (inr (inl a)) z = let k = a.3 in cc (k, z)
    handed_replayed (inr (inr a)) z = let k = a.1 in cc (k, z)

    new_of : (k : (k_is ≡ Con) ⊎ (k_is ≡ Non)) (c : (c_is ≡ role.Request) ⊎ (c_is ≡ role.Response)) (a : Disposition)
        → (e.answer ≡ Becomes a → HandedAs setup t e m)
        → (r f : Bool) → Decides r R → Decides f F → e.answer ≡ Becomes (again_or r f a) → Out → Sorts setup t e m
    new_of k c a w true f hr hf is out = replays (record { kind = k; class = c; old = hr; answer = is; out = out.1 is })
    new_of k c a w false true hr hf is out = drops
        (record {
          why = ignores_new (record { kind = k; class = c; new = hr; full = hf });
          answer = is;
          out = out.2 (λ z. cc (is, z)) (λ z. cc (is, z));
        })
    new_of k c a w false false hr hf is out = hands_over
        (record {
          kind = k;
          new = hr;
          room = omega (arith, hf);
          answer = w is;
          out = out.2 (handed_rejected (w is)) (handed_replayed (w is));
        })

    non_request : (i : Bool) → k_is ≡ Non → c_is ≡ role.Request → Chooses i (I e.at) (J e.at)
        → e.answer ≡ Becomes (Request m.message i) → HandedAs setup t e m
    non_request true hk hc hi is = inl (hc, inr hi, is)
    non_request false hk hc hi is = inr (inl (hc, hk, hi, is))

    -- from the table to the rows
    arrives : (k : Kind) (c : Role) (o r f i : Bool) → k_is ≡ k → c_is ≡ c → Decides o O → Decides r R → Decides f F
        → Chooses i (I e.at) (J e.at) → e.answer ≡ Becomes (up_of k c m.message o r f i) → Out → Sorts setup t e m
    arrives Con role.Empty o r f i hk hc ho hr hf hi is out =
        rejects (record { kind = hk; class = inl hc; answer = is; out = out.0 is })
    arrives Con role.Reserved o r f i hk hc ho hr hf hi is out =
        rejects (record { kind = hk; class = inr hc; answer = is; out = out.0 is })
    arrives Con role.Request o r f i hk hc ho hr hf hi is out =
        new_of (inl hk) (inl hc) (Request m.message true) (λ w. inl (hc, inl hk, w)) r f hr hf is out
    arrives Con role.Response o r f i hk hc ho hr hf hi is out =
        new_of (inl hk) (inr hc) (Response m.message) (λ w. inr (inr (hc, w))) r f hr hf is out
    arrives Non role.Request o r f i hk hc ho hr hf hi is out =
        new_of (inr hk) (inl hc) (Request m.message i) (non_request i hk hc hi) r f hr hf is out
    arrives Non role.Response o r f i hk hc ho hr hf hi is out =
        new_of (inr hk) (inr hc) (Response m.message) (λ w. inr (inr (hc, w))) r f hr hf is out
    arrives Non role.Empty o r f i hk hc ho hr hf hi is out =
        drops (record {
          why = ignores_non (record { kind = hk; class = inl hc });
          answer = is;
          out = out.2 (λ z. cc (is, z)) (λ z. cc (is, z));
        })
    arrives Non role.Reserved o r f i hk hc ho hr hf hi is out =
        drops (record {
          why = ignores_non (record { kind = hk; class = inr hc });
          answer = is;
          out = out.2 (λ z. cc (is, z)) (λ z. cc (is, z));
        })
    arrives Ack role.Empty true r f i hk hc ho hr hf hi is out =
        takes_ack (record {
          kind = hk;
          class = hc;
          matches = ho;
          answer = is;
          out = out.2 (λ z. cc (is, z)) (λ z. cc (is, z));
        })
    arrives Ack role.Response true r f i hk hc ho hr hf hi is out =
        takes_answer (record {
          kind = hk;
          class = hc;
          matches = ho;
          answer = is;
          out = out.2 (λ z. cc (is, z)) (λ z. cc (is, z));
        })
    arrives Rst role.Empty true r f i hk hc ho hr hf hi is out =
        takes_reset (record {
          kind = hk;
          class = hc;
          matches = ho;
          answer = is;
          out = out.2 (λ z. cc (is, z)) (λ z. cc (is, z));
        })
    arrives Ack role.Empty false r f i hk hc ho hr hf hi is out =
        drops (record {
          why = ignores_unmatched (record { kind = hk; class = inl hc; alone = ho });
          answer = is;
          out = out.2 (λ z. cc (is, z)) (λ z. cc (is, z));
        })
    arrives Ack role.Response false r f i hk hc ho hr hf hi is out =
        drops (record {
          why = ignores_unmatched (record { kind = hk; class = inr hc; alone = ho });
          answer = is;
          out = out.2 (λ z. cc (is, z)) (λ z. cc (is, z));
        })
    arrives Rst role.Empty false r f i hk hc ho hr hf hi is out =
        passes_reset (record {
          kind = hk;
          class = hc;
          alone = ho;
          answer = is;
          out = out.2 (λ z. cc (is, z)) (λ z. cc (is, z));
        })
    arrives Ack role.Request o r f i hk hc ho hr hf hi is out =
        drops (record {
          why = ignores_ack (record { kind = hk; class = inl hc });
          answer = is;
          out = out.2 (λ z. cc (is, z)) (λ z. cc (is, z));
        })
    arrives Ack role.Reserved o r f i hk hc ho hr hf hi is out =
        drops (record {
          why = ignores_ack (record { kind = hk; class = inr hc });
          answer = is;
          out = out.2 (λ z. cc (is, z)) (λ z. cc (is, z));
        })
    arrives Rst role.Request o r f i hk hc ho hr hf hi is out =
        drops (record {
          why = ignores_reset (record { kind = hk; class = λ z. cc (hc, z) });
          answer = is;
          out = out.2 (λ z. cc (is, z)) (λ z. cc (is, z));
        })
    arrives Rst role.Response o r f i hk hc ho hr hf hi is out =
        drops (record {
          why = ignores_reset (record { kind = hk; class = λ z. cc (hc, z) });
          answer = is;
          out = out.2 (λ z. cc (is, z)) (λ z. cc (is, z));
        })
    arrives Rst role.Reserved o r f i hk hc ho hr hf hi is out =
        drops (record {
          why = ignores_reset (record { kind = hk; class = λ z. cc (hc, z) });
          answer = is;
          out = out.2 (λ z. cc (is, z)) (λ z. cc (is, z));
        })

    -- and back
    sorted : (k : Kind) (c : Role) (o r f i : Bool) → k_is ≡ k → c_is ≡ c
        → up_of k c m.message o r f i ≡ up_of k_is c_is m.message o r f i
    sorted k c o r f i hk hc = ap (λ x. up_of x c m.message o r f i) (sym hk)
        ∙ ap (λ x. up_of k_is x m.message o r f i) (sym hc)

    -- what is answered to a new message
    abbrev fresh : (k_is ≡ Con) ⊎ (k_is ≡ Non) → (c_is ≡ role.Request) ⊎ (c_is ≡ role.Response) → Bool → Disposition
    fresh (inl hk) (inl hc) i = Request m.message true
    fresh (inr hk) (inl hc) i = Request m.message i
    fresh (inl hk) (inr hc) i = Response m.message
    fresh (inr hk) (inr hc) i = Response m.message

    again_is : (k : (k_is ≡ Con) ⊎ (k_is ≡ Non)) (c : (c_is ≡ role.Request) ⊎ (c_is ≡ role.Response)) (o r f i : Bool)
        → up_of k_is c_is m.message o r f i ≡ again_or r f (fresh k c i)
    again_is (inl hk) (inl hc) o r f i = sym (sorted Con role.Request o r f i hk hc)
    again_is (inl hk) (inr hc) o r f i = sym (sorted Con role.Response o r f i hk hc)
    again_is (inr hk) (inl hc) o r f i = sym (sorted Non role.Request o r f i hk hc)
    again_is (inr hk) (inr hc) o r f i = sym (sorted Non role.Response o r f i hk hc)

    drop_is : (o r f i : Bool) → Decides o O → Decides r R → Decides f F → Drops setup t e m
        → Dropped ≡ up_of k_is c_is m.message o r f i
    drop_is o r f i ho hr hf d = go d.why
      where
        ack_class : (c : Role) → Dropped ≡ up_of Ack c m.message false r f i
        ack_class role.Empty = refl
        ack_class role.Request = refl
        ack_class role.Response = refl
        ack_class role.Reserved = refl

        odd : (c : Role) → c_is ≡ c → c_is ≢ role.Empty → Dropped ≡ up_of Rst c m.message o r f i
        odd role.Empty h n = absurd (n h)
        odd role.Request h n = refl
        odd role.Response h n = refl
        odd role.Reserved h n = refl

        go : Ignores setup t e m → Dropped ≡ up_of k_is c_is m.message o r f i
        go (ignores_non w) = ⊎_elim (λ c. sorted Non role.Empty o r f i w.kind c)
            (λ c. sorted Non role.Reserved o r f i w.kind c) w.class
        go (ignores_reset w) = odd c_is refl w.class ∙ sorted Rst c_is o r f i w.kind refl
        go (ignores_ack w) = ⊎_elim (λ c. sorted Ack role.Request o r f i w.kind c)
            (λ c. sorted Ack role.Reserved o r f i w.kind c) w.class
        go (ignores_unmatched w) =
            let none = ap (λ x. up_of k_is c_is m.message x r f i) (sym (is_false o O ho w.alone)) in
            ack_class c_is ∙ (sorted Ack c_is false r f i w.kind refl ∙ none)
        go (ignores_new w) =
            ap (λ x. again_or x true (fresh w.kind w.class i)) (sym (is_false r R hr w.new))
            ∙ (ap (λ x. again_or r x (fresh w.kind w.class i)) (sym (is_true f F hf w.full))
            ∙ sym (again_is w.kind w.class o r f i))

    abbrev class_of : HandedAs setup t e m → (c_is ≡ role.Request) ⊎ (c_is ≡ role.Response)
    class_of (inl w) = inl w.0
    class_of (inr (inl w)) = inl w.0
    class_of (inr (inr w)) = inr w.0

    given_is : (k : (k_is ≡ Con) ⊎ (k_is ≡ Non)) (i : Bool) → Chooses i (I e.at) (J e.at) → (w : HandedAs setup t e m)
        → e.answer ≡ Becomes (fresh k (class_of w) i)
    given_is (inl hk) i hi (inl w) = w.2
    given_is (inr hk) i hi (inl w) = w.2 ∙ ap (λ b. Becomes (Request m.message b))
        (sym (is_true_by setup t e.at i hi (⊎_elim (λ z. absurd (cc (hk, z))) (λ k. k) w.1)))
    given_is (inl hk) i hi (inr (inl w)) = let z = w.1 in absurd (cc (hk, z))
    given_is (inr hk) i hi (inr (inl w)) = w.3 ∙ ap (λ b. Becomes (Request m.message b))
        (sym (is_false_by setup t e.at i hi w.2))
    given_is (inl hk) i hi (inr (inr w)) = w.1
    given_is (inr hk) i hi (inr (inr w)) = w.1

    answer_is : (o r f i : Bool) → Decides o O → Decides r R → Decides f F → Chooses i (I e.at) (J e.at)
        → Sorts setup t e m → e.answer ≡ Becomes (up_of k_is c_is m.message o r f i)
    answer_is o r f i ho hr hf hi (rejects w) = w.answer
        ∙ ap Becomes (⊎_elim (λ c. sorted Con role.Empty o r f i w.kind c)
        (λ c. sorted Con role.Reserved o r f i w.kind c) w.class)
    answer_is o r f i ho hr hf hi (drops w) = w.answer ∙ ap Becomes (drop_is o r f i ho hr hf w)
    answer_is o r f i ho hr hf hi (takes_ack w) = w.answer
        ∙ ap Becomes (sorted Ack role.Empty true r f i w.kind w.class
        ∙ ap (λ x. up_of k_is c_is m.message x r f i) (sym (is_true o O ho w.matches)))
    answer_is o r f i ho hr hf hi (takes_reset w) = w.answer
        ∙ ap Becomes (sorted Rst role.Empty true r f i w.kind w.class
        ∙ ap (λ x. up_of k_is c_is m.message x r f i) (sym (is_true o O ho w.matches)))
    answer_is o r f i ho hr hf hi (passes_reset w) = w.answer
        ∙ ap Becomes (sorted Rst role.Empty false r f i w.kind w.class
        ∙ ap (λ x. up_of k_is c_is m.message x r f i) (sym (is_false o O ho w.alone)))
    answer_is o r f i ho hr hf hi (takes_answer w) = w.answer
        ∙ ap Becomes (sorted Ack role.Response true r f i w.kind w.class
        ∙ ap (λ x. up_of k_is c_is m.message x r f i) (sym (is_true o O ho w.matches)))
    answer_is o r f i ho hr hf hi (replays w) = w.answer
        ∙ ap Becomes (ap (λ x. again_or x f (fresh w.kind w.class i)) (sym (is_true r R hr w.old))
        ∙ sym (again_is w.kind w.class o r f i))
    answer_is o r f i ho hr hf hi (hands_over w) =
        let full : f ≡ false = is_false f F hf (λ k. omega (arith, k, w.room)) in
        let c = class_of w.answer in
        given_is w.kind i hi w.answer
        ∙ ap Becomes (ap (λ x. again_or x false (fresh w.kind c i)) (sym (is_false r R hr w.new))
        ∙ (ap (λ x. again_or r x (fresh w.kind c i)) (sym full) ∙ sym (again_is w.kind c o r f i)))

    abbrev told : Answer → List Packet
    told (Becomes d) = replay h e.at m d
    told _ = []

    handed_out : HandedAs setup t e m → [] ≡ told e.answer
    handed_out (inl a) = sym (ap told a.2)
    handed_out (inr (inl a)) = sym (ap told a.3)
    handed_out (inr (inr a)) = sym (ap told a.1)

    out_is : LayerLaw setup t → clock t ≤ e.at → Sorts setup t e m → e.out ≡ told e.answer
    out_is law le (rejects w) = w.out ∙ sym (ap told w.answer)
    out_is law le (drops w) = w.out ∙ sym (ap told w.answer)
    out_is law le (takes_ack w) = w.out ∙ sym (ap told w.answer)
    out_is law le (takes_reset w) = w.out ∙ sym (ap told w.answer)
    out_is law le (passes_reset w) = w.out ∙ sym (ap told w.answer)
    out_is law le (takes_answer w) = w.out ∙ sym (ap told w.answer)
    out_is law le (replays w) = w.out ∙ (sym (stored_is setup t e.at m law le w.old) ∙ sym (ap told w.answer))
    out_is law le (hands_over w) = w.out ∙ handed_out w.answer

    -- both ways
    received : LayerLaw setup t → clock t ≤ e.at → Sorts setup t e m
        → (e.answer ≡ Becomes (sorted_by h e.at m)) × (e.out ≡ replay h e.at m (sorted_by h e.at m))
    received law le w =
        let a : e.answer ≡ Becomes (sorted_by h e.at m) =
        answer_is _ _ _ _ (outstanding_is setup t m.from m.message.id) (known_is setup t e.at m.from m.message.id)
        (full_is setup t e.at)
        (free_here setup t law e.at) w in
        (a, out_is law le w ∙ ap told a)

    same_what : {x y : Disposition} → Becomes x ≡ Becomes y → x ≡ y
    same_what k = cc k

    quiet : (d : Disposition) → Becomes d ≢ Becomes Rejected → Becomes d ≢ Becomes Replayed → replay h e.at m d ≡ []
    quiet Rejected n k = absurd (n refl)
    quiet Replayed n k = absurd (k refl)
    quiet Dropped n k = refl
    quiet (Request x b) n k = refl
    quiet (Response x) n k = refl
    quiet (Acked id) n k = refl
    quiet (Reset id) n k = refl
    quiet (Unmatched id) n k = refl

    replayed_old : (k : Kind) (c : Role) (o r f i : Bool) → up_of k c m.message o r f i ≡ Replayed → r ≡ true
    replayed_old k c o true f i h = refl
    replayed_old Con role.Empty o false f i h = absurd (cc h)
    replayed_old Con role.Reserved o false f i h = absurd (cc h)
    replayed_old Con role.Request o false true i h = absurd (cc h)
    replayed_old Con role.Request o false false i h = absurd (cc h)
    replayed_old Con role.Response o false true i h = absurd (cc h)
    replayed_old Con role.Response o false false i h = absurd (cc h)
    replayed_old Non role.Empty o false f i h = absurd (cc h)
    replayed_old Non role.Reserved o false f i h = absurd (cc h)
    replayed_old Non role.Request o false true i h = absurd (cc h)
    replayed_old Non role.Request o false false i h = absurd (cc h)
    replayed_old Non role.Response o false true i h = absurd (cc h)
    replayed_old Non role.Response o false false i h = absurd (cc h)
    replayed_old Ack role.Empty true false f i h = absurd (cc h)
    replayed_old Ack role.Empty false false f i h = absurd (cc h)
    replayed_old Ack role.Response true false f i h = absurd (cc h)
    replayed_old Ack role.Response false false f i h = absurd (cc h)
    replayed_old Ack role.Request o false f i h = absurd (cc h)
    replayed_old Ack role.Reserved o false f i h = absurd (cc h)
    replayed_old Rst role.Empty true false f i h = absurd (cc h)
    replayed_old Rst role.Empty false false f i h = absurd (cc h)
    replayed_old Rst role.Request o false f i h = absurd (cc h)
    replayed_old Rst role.Response o false f i h = absurd (cc h)
    replayed_old Rst role.Reserved o false f i h = absurd (cc h)

    receives : LayerLaw setup t → clock t ≤ e.at → e.answer ≡ Becomes (sorted_by h e.at m)
        → e.out ≡ replay h e.at m (sorted_by h e.at m) → Sorts setup t e m
    receives law le a o =
        arrives k_is c_is _ _ _ _ refl refl (outstanding_is setup t m.from m.message.id)
        (known_is setup t e.at m.from m.message.id)
        (full_is setup t e.at) (free_here setup t law e.at) a (
          (λ z. o ∙ ap told (sym a ∙ z)),
          (λ z. o ∙ (ap told (sym a ∙ z) ∙ stored_is setup t e.at m law le
              (remembered_of e.at m.from m.message.id t (replayed_old k_is c_is _ _ _ _ (same_what (sym a ∙ z)))))),
          (λ n k. o ∙ quiet _ (λ z. n (a ∙ z)) (λ z. k (a ∙ z))),
        )

  -- a datagram
  arrived : (e : Entry) (from : Endpoint) (what : Arrival) → LayerLaw setup t → clock t ≤ e.at
      → Arrives setup t e from what → (e.answer ≡ Becomes (answer_to h e.at from what))
      × (e.out ≡ out_to h e.at from what)
  arrived e from Unreadable law le w = w
  arrived e from (Faulted Con id) law le w = w
  arrived e from (Faulted Non id) law le w = w
  arrived e from (Faulted Ack id) law le w = w
  arrived e from (Faulted Rst id) law le w = w
  arrived e from (Whole m) law le w = received e (record { from = from; message = m }) law le w

  pub arrives_so : (e : Entry) (from : Endpoint) (what : Arrival) → LayerLaw setup t → clock t ≤ e.at
      → e.answer ≡ Becomes (answer_to h e.at from what) → e.out ≡ out_to h e.at from what → Arrives setup t e from what
  arrives_so e from Unreadable law le a o = (a, o)
  arrives_so e from (Faulted Con id) law le a o = (a, o)
  arrives_so e from (Faulted Non id) law le a o = (a, o)
  arrives_so e from (Faulted Ack id) law le a o = (a, o)
  arrives_so e from (Faulted Rst id) law le a o = (a, o)
  arrives_so e from (Whole m) law le a o = receives e (record { from = from; message = m }) law le a o

  pub shown : (e : Entry) (from : Endpoint) (bytes : List ℕ) (what : Arrival) → LayerLaw setup t → clock t ≤ e.at
      → Shows bytes what → Arrives setup t e from what
      → (e.answer ≡ Becomes (answer_to h e.at from (arrival_at bytes)))
      × (e.out ≡ out_to h e.at from (arrival_at bytes))
  shown e from bytes what law le shows w =
      arrived e from (arrival_at bytes) law le (subst (Arrives setup t e from) (one_arrival bytes what shows) w)

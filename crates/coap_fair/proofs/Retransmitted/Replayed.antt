-- A layer keeps the reply to a CON, and sends it again to each copy.
use Rattle.std.proofs.Common.{◌≡◌, ◌⊎◌, inl, inr, ⊎_elim, ℕ, ◌+◌, ◌≤◌, Bool, true, false, cond, ◌&&◌, Option, Some}
use Rattle.std.proofs.Common.{None}
use Rattle.std.proofs.Common.{List, [], ◌∷◌, refl, ap, sym, subst, ◌∙◌, arith}
use Rattle.std.specs.Prelude.{◌==◌}
use Rattle.std.specs.Cmp.{unsigned_Decides}
use Rattle.coap_types.specs.Past.{Ever, Sometime, Always, Since}
use Rattle.coap_types.specs.Roles.{role_of}
use Rattle.coap_types.specs.SameEndpoint.{same_endpoint}
use Rattle.coap_types.specs.declared.endpoint.Endpoint.{Endpoint}
use Rattle.coap_types.specs.declared.message.Kind.TheVariants.{Con}
use Rattle.coap_types.specs.declared.role.Role.TheVariants as role
use Rattle.coap_types.specs.declared.transmission.TheConstants.{EXCHANGE_LIFETIME_MS as exchange_lifetime}
use Rattle.coap_types.proofs.Facts.Endpoints.{same_endpoint_self, same_endpoint_is}
use Rattle.coap_codec.specs.Message.{Message}
use Rattle.coap_layer.specs.Arrivals.{Whole}
use Rattle.coap_layer.specs.Rows.{LayerLaw, Stands, Row, Arrives, Sorts, Ignores, ignores_non, ignores_reset}
use Rattle.coap_layer.specs.Rows.{ignores_ack}
use Rattle.coap_layer.specs.Rows.{ignores_unmatched, ignores_new, rejects, drops, takes_ack, takes_reset, takes_answer}
use Rattle.coap_layer.specs.Rows.{passes_reset, replays, hands_over, stored}
use Rattle.coap_layer.specs.Trace.{Call, Receive, Reply, Confirm, Plain, Settle, Ticks, Take, Room, AsksFree, Pass}
use Rattle.coap_layer.specs.Trace.{Entry}
use Rattle.coap_layer.specs.Words.{Incoming, handed, handed_by, handed_in, from_there, taken, is_from, hands_up, is_con}
use Rattle.coap_layer.specs.Words.{Remembered, was_con, reply_in, replied, Awaited, awaited_of, awaits}
use Rattle.coap_layer.specs.Words.{awaits_in, clock}
use Rattle.coap_layer.specs.declared.setup.Setup.{Setup}
use Rattle.coap_layer.proofs.Arrivals.HandedUpOnce.{up_new, taken_handed}
use Rattle.coap_layer.proofs.Between.WhatIsTaken.{kept_by, up_by}
use Rattle.coap_layer.proofs.Facts.Arrivals.{one_arrival}
use Rattle.coap_fair.specs.LaterCopies.{TakesCon, RepliesWith, BringsCon, SendsAgain, AreReplayed}

same_number : (a b : ℕ) → (a == b) ≡ true → a ≡ b
same_number a b h = (unsigned_Decides a b).0 h

number_self : (a : ℕ) → (a == a) ≡ true
number_self a = (unsigned_Decides a a).1 refl

not_true : (b : Bool) → (b ≡ true → ⊥) → b ≡ false
not_true true f = absurd (f refl)
not_true false f = refl

left_of : (a b : Bool) → (a && b) ≡ true → a ≡ true
left_of true b h = refl
left_of false b h = absurd (cc h)

right_of : (a b : Bool) → (a && b) ≡ true → b ≡ true
right_of true b h = h
right_of false b h = absurd (cc h)

module _ (setup : Setup) (from : Endpoint) (id : ℕ) (reply : List ℕ) (since : ℕ) where
  -- the reply is kept, and no other one can be given
  pub record Keeps (t : List Entry) : Type 0 where
    pub was : was_con from id t ≡ true
    pub reply_is : replied from id t ≡ Some reply
    pub none : awaits t ≡ Some (record { from = from; id = id }) → ⊥
    pub there : Ever (λ e. (hands_up from id e ≡ true) × (since ≤ e.at)) t

  -- from the taking on it was a CON
  was_step : (t : List Entry) (e : Entry) → hands_up from id e ≡ false → was_con from id (e ∷ t) ≡ was_con from id t
  was_step t e none = by (taken e) none
    where
      by : (o : Option Incoming) → elim o [ Some m ↦ is_from from id m | None ↦ false ] ≡ false
          → elim o [
            | Some m ↦ (cond (is_from from id m) (is_con m.message.kind) (was_con from id t))
            | None ↦ was_con from id t
          ] ≡ was_con from id t
      by None h = refl
      by (Some m) h = ap (λ b. cond b (is_con m.message.kind) (was_con from id t)) h

  not_up : (e : Entry) → handed e ≡ None → hands_up from id e ≡ false
  not_up e none = not_true (hands_up from id e) (λ h. (
      let k = kept_by from id e h in
      let z = sym none ∙ taken_handed e k.message k.is in cc z))

  was_then : (t : List Entry) → Since (TakesCon from id since) (λ y. handed y ≡ None) t → was_con from id t ≡ true
  was_then [] h = absurd h
  was_then (e ∷ t) (inl k) =
      let up = up_by from id e k.message k.is k.from_is k.id_is in
      let of_it : is_from from id k.message ≡ true =
      sym (ap (λ (o : Option Incoming). elim o [ Some m ↦ is_from from id m | None ↦ false ]) k.is) ∙ up in
      ap (λ (o : Option Incoming). elim o [
        | Some m ↦ (cond (is_from from id m) (is_con m.message.kind) (was_con from id t))
        | None ↦ was_con from id t
      ]) k.is ∙ (ap (λ b. cond b (is_con k.message.message.kind) (was_con from id t)) of_it ∙ k.con)
  was_then (e ∷ t) (inr h) = was_step t e (not_up e h.0) ∙ was_then t h.1

  there_then : (t : List Entry) → Since (TakesCon from id since) (λ y. handed y ≡ None) t
      → Ever (λ e. (hands_up from id e ≡ true) × (since ≤ e.at)) t
  there_then [] h = absurd h
  there_then (e ∷ t) (inl k) = inl (up_by from id e k.message k.is k.from_is k.id_is, k.at)
  there_then (e ∷ t) (inr h) = inr (there_then t h.1)

  -- where it is given
  begins : (past : List Entry) (e : Entry) → RepliesWith from id reply since past e → Keeps (e ∷ past)
  begins past e r =
      let nothing : handed e ≡ None = ap (λ (c : Call). handed_in c e.answer) r.call in
      let quiet = not_up e nothing in
      let mine : reply_in from id e.call ≡ Some reply =
      ap (reply_in from id) r.call
      ∙ (ap (λ b. cond (b && (id == id)) (Some reply) None) (same_endpoint_self from)
      ∙ ap (λ b. cond b (Some reply) None) (number_self id)) in
      record {
        was = was_step past e quiet ∙ was_then past r.to_it;
        reply_is = ap (λ b. cond b None (elim (reply_in from id e.call)
            [ Some bytes ↦ Some bytes | None ↦ replied from id past ])) quiet
            ∙ ap (λ (o : Option (List ℕ)). elim o [ Some bytes ↦ Some bytes | None ↦ replied from id past ]) mine;
        none = λ h. (let z = sym (ap (λ (c : Call). awaits_in c e.answer (awaits past)) r.call) ∙ h in cc z);
        there = inr (there_then past r.to_it);
      }

  -- it stays
  module _ (t : List Entry) (e : Entry) (stands : Stands setup t e) (young : e.at ≤ since + exchange_lifetime)
      (k : Keeps t) where
    still : (u : List Entry) → Ever (λ y. (hands_up from id y ≡ true) × (since ≤ y.at)) u → Remembered u e.at from id
    still [] h = absurd h
    still (y ∷ u) (inl h) = let late = h.1 in inl (record { up = h.0; young = omega (arith, young, late) })
    still (y ∷ u) (inr h) = inr (still u h)

    pub old : Remembered t e.at from id
    old = still t k.there

    not_new : (m : Incoming) → handed e ≡ Some m → m.from ≡ from → m.message.id ≡ id → ⊥
    not_new m up place number =
        up_new setup t e m stands up
        (subst (λ (f : Endpoint). Remembered t e.at f m.message.id) (sym place)
        (subst (λ (n : ℕ). Remembered t e.at from n) (sym number) old))

    quiet : hands_up from id e ≡ false
    quiet = not_true (hands_up from id e) (λ h. (
        let q = kept_by from id e h in
        not_new q.message (taken_handed e q.message q.is) q.from_is q.id_is))

    no_reply : (c : Call) → Row setup t e c → reply_in from id c ≡ None
    no_reply (Reply to n bytes) row =
        ap (λ b. cond b (Some bytes) None) (not_true (same_endpoint to from && (n == id)) (λ h. (
        let place = same_endpoint_is to from (left_of (same_endpoint to from) (n == id) h) in
        let number = same_number n id (right_of (same_endpoint to from) (n == id) h) in
        k.none (row.0 ∙ (ap (λ (f : Endpoint). Some (record { from = f; id = n })) place
        ∙ ap (λ (i : ℕ). Some (record { from = from; id = i })) number)))))
    no_reply (Receive f bytes) row = refl
    no_reply (Confirm to content word) row = refl
    no_reply (Plain to content) row = refl
    no_reply (Settle to n) row = refl
    no_reply Ticks row = refl
    no_reply Take row = refl
    no_reply (Room to) row = refl
    no_reply AsksFree row = refl
    no_reply Pass row = refl

    awaited : (o : Option Incoming) → handed e ≡ o → awaited_of o ≡ Some (record { from = from; id = id }) → ⊥
    awaited None is h = cc h
    awaited (Some m) is h =
        let same : ◌≡◌ {A = Awaited} (record { from = m.from; id = m.message.id }) (record { from = from; id = id }) =
        cc h in
        not_new m is (ap (λ (a : Awaited). a.from) same) (ap (λ (a : Awaited). a.id) same)

    no_more : (c : Call) → e.call ≡ c → awaits_in c e.answer (awaits t) ≡ Some (record { from = from; id = id }) → ⊥
    no_more (Receive f bytes) is h =
        awaited (from_there f (handed_by e.answer)) (ap (λ (c : Call). handed_in c e.answer) is) h
    no_more (Reply to n bytes) is h = cc h
    no_more (Confirm to content word) is h = cc h
    no_more (Plain to content) is h = cc h
    no_more (Settle to n) is h = k.none h
    no_more Ticks is h = cc h
    no_more Take is h = k.none h
    no_more (Room to) is h = k.none h
    no_more AsksFree is h = k.none h
    no_more Pass is h = k.none h

    pub keeps_on : Keeps (e ∷ t)
    keeps_on = record {
      was = was_step t e quiet ∙ k.was;
      reply_is = ap (λ b. cond b None (elim (reply_in from id e.call)
          [ Some bytes ↦ Some bytes | None ↦ replied from id t ])) quiet
          ∙ (ap (λ (o : Option (List ℕ)). elim o [ Some bytes ↦ Some bytes | None ↦ replied from id t ])
          (no_reply e.call stands.row) ∙ k.reply_is);
      none = no_more e.call refl;
      there = inr k.there;
    }

    -- .. and goes out again
    not_ignored : (m : Message) → m.kind ≡ Con → m.id ≡ id → Ignores setup t e (record { from = from; message = m }) → ⊥
    not_ignored m kind number (ignores_non q) = let a = q.kind in cc (kind, a)
    not_ignored m kind number (ignores_reset q) = let a = q.kind in cc (kind, a)
    not_ignored m kind number (ignores_ack q) = let a = q.kind in cc (kind, a)
    not_ignored m kind number (ignores_unmatched q) = let a = q.kind in cc (kind, a)
    not_ignored m kind number (ignores_new q) =
        q.new (subst (λ (n : ℕ). Remembered t e.at from n) (sym number) old)

    stored_is : (m : Message) → m.kind ≡ Con → m.id ≡ id
        → stored t (record { from = from; message = m }) ≡ record { to = from; bytes = reply } ∷ []
    stored_is m kind number =
        let con : is_con m.kind ≡ true = ap is_con kind in
        let was : was_con from m.id t ≡ true = ap (λ n. was_con from n t) number ∙ k.was in
        let said : replied from m.id t ≡ Some reply = ap (λ n. replied from n t) number ∙ k.reply_is in
        ap (λ b. cond (b && was_con from m.id t) (elim (replied from m.id t)
        [ Some bytes ↦ record { to = from; bytes = bytes } ∷ [] | None ↦ [] ]) []) con
        ∙ (ap (λ b. cond b (elim (replied from m.id t)
        [ Some bytes ↦ record { to = from; bytes = bytes } ∷ [] | None ↦ [] ]) []) was
        ∙ ap (λ (o : Option (List ℕ)). elim o [ Some bytes ↦ record { to = from; bytes = bytes } ∷ [] | None ↦ [] ])
        said)

    sorted : (m : Message) → m.kind ≡ Con → m.id ≡ id
        → (role_of m.code ≡ role.Request) ⊎ (role_of m.code ≡ role.Response)
        → Sorts setup t e (record { from = from; message = m }) → SendsAgain from reply e
    sorted m kind number class (rejects r) = absurd (⊎_elim
        (λ a. ⊎_elim (λ b. cc (a, b)) (λ b. cc (a, b)) r.class)
        (λ a. ⊎_elim (λ b. cc (a, b)) (λ b. cc (a, b)) r.class) class)
    sorted m kind number class (drops r) = absurd (not_ignored m kind number r.why)
    sorted m kind number class (takes_ack r) = let a = r.kind in absurd (cc (kind, a))
    sorted m kind number class (takes_reset r) = let a = r.kind in absurd (cc (kind, a))
    sorted m kind number class (passes_reset r) = let a = r.kind in absurd (cc (kind, a))
    sorted m kind number class (takes_answer r) = let a = r.kind in absurd (cc (kind, a))
    sorted m kind number class (replays r) = record { answer = r.answer; out = r.out ∙ stored_is m kind number }
    sorted m kind number class (hands_over r) =
        absurd (r.new (subst (λ (n : ℕ). Remembered t e.at from n) (sym number) old))

    pub sent_again : BringsCon from id e → SendsAgain from reply e
    sent_again b =
        let row : Row setup t e (Receive from b.bytes) = subst (Row setup t e) b.call stands.row in
        sorted b.message b.kind b.id_is b.class
        (subst (Arrives setup t e from) (one_arrival b.bytes row.0 row.1
        ∙ sym (one_arrival b.bytes (Whole b.message) b.spells)) row.2)

  -- up to an entry
  kept : (t : List Entry) → LayerLaw setup t → (now : ℕ) → now ≤ since + exchange_lifetime
      → Always (λ past e. e.at ≤ now) t → Sometime (RepliesWith from id reply since) t → Keeps t
  kept [] law now young by h = absurd h
  kept (e ∷ t) law now young by (inl r) = begins t e r
  kept (e ∷ t) law now young by (inr h) =
      let a = by.0 in
      keeps_on t e law.0 (omega (arith, a, young)) (kept t law.1 now young by.1 h)

all_by : (setup : Setup) (t : List Entry) (now : ℕ) → LayerLaw setup t → clock t ≤ now
    → Always (λ past e. e.at ≤ now) t
all_by setup [] now law le = tt
all_by setup (e ∷ t) now law le = (le, all_by setup t now law.1 (let a = law.0.time in omega (arith, a, le)))

pub are_replayed : (setup : Setup) (t : List Entry) → LayerLaw setup t → AreReplayed t
are_replayed setup [] law = tt
are_replayed setup (e ∷ t) law = (
  λ from id reply since b h young.
      sent_again setup from id reply since t e law.0 young
      (kept setup from id reply since t law.1 e.at young (all_by setup t e.at law.1 law.0.time) h) b,
  are_replayed setup t law.1,
)

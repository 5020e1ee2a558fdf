-- What a message layer knows of an endpoint, renamed: what it answers and sends.
use Rattle.std.proofs.Common.{◌≡◌, ℕ, ◌==◌, nat_le, Bool, true, false, ◌&&◌, not, Option, Some, None, List, [], ◌∷◌}
use Rattle.std.proofs.Common.{refl, ap, ap₂, ◌∙◌, cond, filter, length, map}
use Rattle.std.proofs.lemmas.List.{length-map}
use Rattle.coap_types.specs.Roles.{role_of}
use Rattle.coap_types.specs.SameEndpoint.{same_endpoint}
use Rattle.coap_types.specs.declared.endpoint.Endpoint.{Endpoint}
use Rattle.coap_types.specs.declared.message.Kind.{Kind}
use Rattle.coap_types.specs.declared.message.Kind.TheVariants.{Con, Non}
use Rattle.coap_layer.specs.Arrivals.{Arrival, Unreadable, Faulted, Whole, arrival_at}
use Rattle.coap_layer.specs.Machine.State as S
use Rattle.coap_layer.specs.Machine.State.{Arrived}
use Rattle.coap_layer.specs.Machine.Table.{up_of}
use Rattle.coap_layer.specs.Rows.{reset_to}
use Rattle.coap_layer.specs.Trace as L
use Rattle.coap_layer.specs.Words.{Incoming, Open, is_con, is_to}
use Rattle.coap_opaque.specs.Renaming.Endpoints.{TellsApart}
use Rattle.coap_opaque.specs.Renaming.OfLayer as R
use Rattle.coap_opaque.proofs.Renaming.Lists.{any_same, filter_same, first_same}

module _ (rename : Endpoint → Endpoint) (apart : TellsApart rename) where
  -- what is remembered

  of_same : (now : ℕ) (from : Endpoint) (id : ℕ) (a : Arrived)
      → S.is_of now (rename from) id (R.arrived rename a) ≡ S.is_of now from id a
  of_same now from id a = ap (λ b. S.is_live now a && (b && (a.id == id))) (apart a.from from)

  remembered_same : (now : ℕ) (from : Endpoint) (id : ℕ) (es : List Arrived)
      → S.is_remembered now (rename from) id (map (R.arrived rename) es) ≡ S.is_remembered now from id es
  remembered_same now from id es =
      any_same (R.arrived rename) (S.is_of now from id) (S.is_of now (rename from) id) (of_same now from id) es

  pub live_same : (now : ℕ) (es : List Arrived)
      → filter (S.is_live now) (map (R.arrived rename) es) ≡ map (R.arrived rename) (filter (S.is_live now) es)
  live_same now es = filter_same (R.arrived rename) (S.is_live now) (S.is_live now) (λ a. refl) es

  full_same : (most now : ℕ) (es : List Arrived)
      → S.is_full most now (map (R.arrived rename) es) ≡ S.is_full most now es
  full_same most now es =
      ap (λ n. nat_le most n)
      (ap length (live_same now es) ∙ length-map (filter (S.is_live now) es) (R.arrived rename))

  stored_same : (now : ℕ) (from : Endpoint) (id : ℕ) (es : List Arrived)
      → S.reply_of now (rename from) id (map (R.arrived rename) es) ≡ S.reply_of now from id es
  stored_same now from id [] = refl
  stored_same now from id (a ∷ es) =
      ap₂ (λ b r. cond b a.reply r) (of_same now from id a) (stored_same now from id es)

  to_packets_same : (to : Endpoint) (o : Option (List ℕ))
      → S.to_packets (rename to) o ≡ map (R.packet rename) (S.to_packets to o)
  to_packets_same to None = refl
  to_packets_same to (Some bytes) = refl

  -- what is outstanding

  outstanding_same : (to : Endpoint) (id : ℕ) (cs : List Open)
      → S.is_outstanding (rename to) id (map (R.con rename) cs) ≡ S.is_outstanding to id cs
  outstanding_same to id cs =
      any_same (R.con rename) (is_to to id) (is_to (rename to) id) (λ c. ap (λ b. b && (c.id == id)) (apart c.to to)) cs

  pub busy_same : (to : Endpoint) (cs : List Open)
      → S.is_busy (rename to) (map (R.con rename) cs) ≡ S.is_busy to cs
  busy_same to cs =
      any_same (R.con rename) (λ (c : Open). same_endpoint c.to to) (λ (c : Open). same_endpoint c.to (rename to))
      (λ c. apart c.to to) cs

  tick_same : (now : ℕ) (cs : List Open)
      → S.tick_of now (map (R.con rename) cs) ≡ R.answer rename (S.tick_of now cs)
  tick_same now [] = refl
  tick_same now (c ∷ cs) = by (S.is_failed now c) (S.is_copy_due now c) (tick_same now cs)
    where
      by : (a b : Bool) → S.tick_of now (map (R.con rename) cs) ≡ R.answer rename (S.tick_of now cs)
          → cond a (L.Expired (rename c.to) c.id)
          (cond b (L.Copied (rename c.to) c.id) (S.tick_of now (map (R.con rename) cs)))
          ≡ R.answer rename (cond a (L.Expired c.to c.id) (cond b (L.Copied c.to c.id) (S.tick_of now cs)))
      by true b k = refl
      by false true k = refl
      by false false k = k

  copies_same : (now : ℕ) (cs : List Open)
      → S.copies now (map (R.con rename) cs) ≡ map (R.packet rename) (S.copies now cs)
  copies_same now [] = refl
  copies_same now (c ∷ cs) = by (S.is_failed now c) (S.is_copy_due now c) (copies_same now cs)
    where
      by : (a b : Bool) → S.copies now (map (R.con rename) cs) ≡ map (R.packet rename) (S.copies now cs)
          → cond a []
          (cond b (record { to = rename c.to; bytes = c.bytes } ∷ []) (S.copies now (map (R.con rename) cs)))
          ≡ map (R.packet rename) (cond a [] (cond b (record { to = c.to; bytes = c.bytes } ∷ []) (S.copies now cs)))
      by true b k = refl
      by false true k = refl
      by false false k = k

  -- what is answered

  sorted_same : (s : S.State) (at : ℕ) (m : Incoming)
      → S.sorted_by (R.state rename s) at (R.incoming rename m) ≡ S.sorted_by s at m
  sorted_same s at m =
      let kind : Kind = m.message.kind in
      let free : Bool = S.is_free at s.upcoming s.last_used in
      ap₂ (λ o r. up_of kind (role_of m.message.code) m.message o r
      (S.is_full s.most at (map (R.arrived rename) s.arrived)) free)
      (outstanding_same m.from m.message.id s.open_cons) (remembered_same at m.from m.message.id s.arrived)
      ∙ ap (λ f. up_of kind (role_of m.message.code) m.message (S.is_outstanding m.from m.message.id s.open_cons)
      (S.is_remembered at m.from m.message.id s.arrived) f free) (full_same s.most at s.arrived)

  answer_to_same : (s : S.State) (at : ℕ) (from : Endpoint) (a : Arrival)
      → S.answer_to (R.state rename s) at (rename from) a ≡ S.answer_to s at from a
  answer_to_same s at from Unreadable = refl
  answer_to_same s at from (Faulted kind id) = refl
  answer_to_same s at from (Whole m) = sorted_same s at (record { from = from; message = m })

  sending_same : (free : Bool) (id : ℕ) → S.sending free id ≡ R.answer rename (S.sending free id)
  sending_same true id = refl
  sending_same false id = refl

  confirm_same : (busy free : Bool) (id : ℕ)
      → cond busy L.Busied (S.sending free id) ≡ R.answer rename (cond busy L.Busied (S.sending free id))
  confirm_same true free id = refl
  confirm_same false free id = sending_same free id

  pub answer_same : (s : S.State) (at : ℕ) (c : L.Call)
      → S.answer_of (R.state rename s) at (R.call rename c) ≡ R.answer rename (S.answer_of s at c)
  answer_same s at (L.Receive from bytes) = ap L.Becomes (answer_to_same s at from (arrival_at bytes))
  answer_same s at (L.Reply to id bytes) = refl
  answer_same s at (L.Confirm to content word) =
      ap (λ b. cond b L.Busied (S.sending (S.is_free at s.upcoming s.last_used) s.upcoming)) (busy_same to s.open_cons)
      ∙ confirm_same (S.is_busy to s.open_cons) (S.is_free at s.upcoming s.last_used) s.upcoming
  answer_same s at (L.Plain to content) = sending_same (S.is_free at s.upcoming s.last_used) s.upcoming
  answer_same s at (L.Settle to id) = ap L.Is (outstanding_same to id s.open_cons)
  answer_same s at L.Ticks = tick_same at s.open_cons
  answer_same s at L.Take = ap L.Gives (first_same (R.packet rename) s.queue)
  answer_same s at (L.Room to) =
      ap (λ b. L.Is (not b && S.is_free at s.upcoming s.last_used)) (busy_same to s.open_cons)
  answer_same s at L.AsksFree = refl
  answer_same s at L.Pass = refl

  -- what is sent

  replay_same : (s : S.State) (at : ℕ) (m : Incoming) (d : L.Disposition)
      → S.replay (R.state rename s) at (R.incoming rename m) d ≡ map (R.packet rename) (S.replay s at m d)
  replay_same s at m L.Rejected = refl
  replay_same s at m L.Replayed = by (is_con m.message.kind)
    where
      by : (b : Bool)
          → cond b (S.to_packets (rename m.from)
          (S.reply_of at (rename m.from) m.message.id (map (R.arrived rename) s.arrived))) []
          ≡ map (R.packet rename) (cond b (S.to_packets m.from (S.reply_of at m.from m.message.id s.arrived)) [])
      by true = ap (S.to_packets (rename m.from)) (stored_same at m.from m.message.id s.arrived)
          ∙ to_packets_same m.from (S.reply_of at m.from m.message.id s.arrived)
      by false = refl
  replay_same s at m _ = refl

  out_to_same : (s : S.State) (at : ℕ) (from : Endpoint) (a : Arrival)
      → S.out_to (R.state rename s) at (rename from) a ≡ map (R.packet rename) (S.out_to s at from a)
  out_to_same s at from Unreadable = refl
  out_to_same s at from (Faulted kind id) = by (is_con kind)
    where
      by : (b : Bool) → cond b (reset_to (rename from) id ∷ []) []
          ≡ map (R.packet rename) (cond b (reset_to from id ∷ []) [])
      by true = refl
      by false = refl
  out_to_same s at from (Whole m) =
      let i : Incoming = record { from = from; message = m } in
      ap (S.replay (R.state rename s) at (R.incoming rename i)) (sorted_same s at i)
      ∙ replay_same s at i (S.sorted_by s at i)

  sent_same : (free : Bool) (kind : Kind) (id : ℕ) (to : Endpoint) (content : L.Content)
      → S.sent_out free kind id (rename to) content ≡ map (R.packet rename) (S.sent_out free kind id to content)
  sent_same true kind id to content = refl
  sent_same false kind id to content = refl

  confirmed_same : (busy free : Bool) (id : ℕ) (to : Endpoint) (content : L.Content)
      → cond busy [] (S.sent_out free Con id (rename to) content)
      ≡ map (R.packet rename) (cond busy [] (S.sent_out free Con id to content))
  confirmed_same true free id to content = refl
  confirmed_same false free id to content = sent_same free Con id to content

  pub out_same : (s : S.State) (at : ℕ) (c : L.Call)
      → S.out_of (R.state rename s) at (R.call rename c) ≡ map (R.packet rename) (S.out_of s at c)
  out_same s at (L.Receive from bytes) = out_to_same s at from (arrival_at bytes)
  out_same s at (L.Reply to id bytes) = refl
  out_same s at (L.Confirm to content word) =
      let free : Bool = S.is_free at s.upcoming s.last_used in
      ap (λ b. cond b [] (S.sent_out free Con s.upcoming (rename to) content)) (busy_same to s.open_cons)
      ∙ confirmed_same (S.is_busy to s.open_cons) free s.upcoming to content
  out_same s at (L.Plain to content) = sent_same (S.is_free at s.upcoming s.last_used) Non s.upcoming to content
  out_same s at (L.Settle to id) = refl
  out_same s at L.Ticks = copies_same at s.open_cons
  out_same s at L.Take = refl
  out_same s at (L.Room to) = refl
  out_same s at L.AsksFree = refl
  out_same s at L.Pass = refl

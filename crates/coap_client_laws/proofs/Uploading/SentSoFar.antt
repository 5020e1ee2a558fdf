-- What was sent so far of the bodies of calls, and that a piece is sent behind those before it.
use Rattle.std.proofs.Common.{◌≡◌, ◌⊎◌, inl, inr, ℕ, ◌+◌, Bool, true, false, cond, Option, Some, None, List, [], ◌∷◌}
use Rattle.std.proofs.Common.{◌++◌, refl, ap, sym, subst, ◌∙◌, arith, Result, Ok, Err, append-nil}
use Rattle.std.specs.Prelude.{◌==◌, nat_lt}
use Rattle.coap_types.specs.declared.endpoint.Endpoint.{Endpoint}
use Rattle.coap_types.specs.declared.request.Method.{Method}
use Rattle.coap_types.specs.declared.request.Method.TheVariants.{Get, Post, Put, Delete}
use Rattle.coap_codec.specs.Message.{Message}
use Rattle.coap_types.specs.Piece.{part_of}
use Rattle.coap_block.specs.Sizes.{Sizes}
use Rattle.coap_block.specs.Whole.{Part}
use Rattle.coap_block.specs.Sent.{Sent, part_to_send}
use Rattle.coap_block.specs.UploadStep.{UploadState, upload_start, moved}
use Rattle.coap_block.proofs.Facts.Laws.{sent_by_part}
use Rattle.coap_layer.specs.Trace as L
use Rattle.coap_layer.specs.declared.setup.Setup.{Setup}
use Rattle.coap_exchange.specs.declared.asker.AskRefusal.{AskRefusal}
use Rattle.coap_exchange.specs.declared.asker.Exchange.{Exchange}
use Rattle.coap_exchange.specs.AskerTrace as E
use Rattle.coap_exchange.specs.AskerSteps as P
use Rattle.coap_client.specs.Trace.{Request, Call, Calls}
use Rattle.coap_client.specs.Own.{Uploads, Operation, Calling, Fetching, Dropped, Observation, Own}
use Rattle.coap_client.specs.Observations.{dropped}
use Rattle.coap_client.specs.Requests.{message_of}
use Rattle.coap_client.specs.Queue.{transfer_of}
use Rattle.coap_client.specs.Effects.{Deed, Rests, Asks, Keeps, Releases, Effect}
use Rattle.coap_client.specs.Events.{closed}
use Rattle.coap_client.specs.Deeds.{at, deeds}
use Rattle.coap_client.specs.Law.{own_of}
use Rattle.coap_client.specs.Sendings.{WasTaken, Sending, sends, hears, last_sent}
use Rattle.coap_client_laws.specs.Follows.Blocks.{Carried, carried, block_in_sending, blocks, SendsPiece}
use Rattle.coap_client.specs.Places.{in_op, in_queue}
use Rattle.coap_client.proofs.Facts.Places.PlaceLemmas.{hit_self}
use Rattle.coap_client_laws.proofs.Uploading.UploadSteps.{continues_is}
use Rattle.coap_client.proofs.Facts.Places.PlaceDeeds.{ran, AreRight, ran_append, quiet_deeds}
use Rattle.coap_client.proofs.Facts.Places.Once.{beneath}
use Rattle.coap_client_laws.proofs.Turning.BlockByBlock.{Starts, Follows, AllOf, TokenStays, token_sent}

sent_at_start : (body : List ℕ) (szx : ℕ) → Sent [] (upload_start body szx)
sent_at_start [] szx = record { pieces = tt; chained = tt; at = omega arith; begins = inr (refl, refl) }
sent_at_start (b ∷ body) szx = record { pieces = tt; chained = tt; at = omega arith; begins = inl (omega arith) }

abbrev pub one_if : Bool → ℕ
one_if b = cond b 1 0

-- no number of the queue
pub zero_all : (k : ℕ) (ops : List Operation) → in_queue k ops ≡ 0 → AllOf (λ op. in_op k op ≡ 0) ops
zero_all k [] h = tt
zero_all k (op ∷ ops) h = (omega (arith, h), zero_all k ops (omega (arith, h)))

pub all_zero : (k : ℕ) (ops : List Operation) → AllOf (λ op. in_op k op ≡ 0) ops → in_queue k ops ≡ 0
all_zero k [] h = refl
all_zero k (op ∷ ops) h = let a = h.0 in let b = all_zero k ops h.1 in omega (arith, a, b)

pub map_all : (P Q : Operation → Type 0) → ((op : Operation) → P op → Q op) → (ops : List Operation) → AllOf P ops
    → AllOf Q ops
map_all P Q f [] h = tt
map_all P Q f (op ∷ ops) h = (f op h.0, map_all P Q f ops h.1)

pub all_behind : (P : Operation → Type 0) (ops : List Operation) (op : Operation) → AllOf P ops → P op
    → AllOf P (ops ++ op ∷ [])
all_behind P [] op h k = (k, tt)
all_behind P (x ∷ ops) op h k = (h.0, all_behind P ops op h.1 k)

-- what waits was taken, and is at its start
abbrev pub IsFresh : List Call → Operation → Type 0
IsFresh t (Calling k r (Uploads u)) = (q : Request) × (szx : ℕ) × WasTaken (record { number = k; request = q }) t
    × (u ≡ upload_start q.body szx)
IsFresh t op = Unit {0}

pub fresh_later : (t : List Call) (c : Call) (op : Operation) → IsFresh t op → IsFresh (c ∷ t) op
fresh_later t c (Calling k r (Uploads u)) h = (h.0, h.1, inr h.2, h.3)
fresh_later t c _ h = tt

pub fresh_call : (t : List Call) (now : ℕ) (sizes : Sizes) (k : ℕ) (r : Request) (method : Method)
    → IsFresh (Calls now r (Ok k) ∷ t) (Calling k (record r { body = [] }) (transfer_of sizes r method))
fresh_call t now sizes k r Post = (r, sizes.szx, inl refl, refl)
fresh_call t now sizes k r Put = (r, sizes.szx, inl refl, refl)
fresh_call t now sizes k r _ = tt

-- the exchange behind what an effect asks
module _ (x : E.Own) (e : Effect) (m w : ℕ) (sent : L.Answer) (kept : Bool) where
  abbrev all_of : Deed → Result (List ℕ) AskRefusal → List E.Call
  all_of d token = deeds (closed m e d token).deed (closed m e d token).own m w sent token kept
      ++ deeds d e.own m w sent token kept

  pub quiet_ran : (token : Result (List ℕ) AskRefusal) (d : Deed) → e.deed ≡ d → ((op : Operation) → e.deed ≡ Asks op
      → ⊥)
      → (ran x (all_of d token)).running ≡ x.running
  quiet_ran token Rests is quiet = ap (λ (o : E.Own). o.running)
      (ran_append x (deeds e.deed e.own m w sent token kept) []) ∙ quiet_deeds m w sent kept token e.deed e.own x quiet
  quiet_ran token (Asks op) is quiet = absurd (quiet op is)
  quiet_ran token _ is quiet = refl

  pub key_ran : (token : Result (List ℕ) AskRefusal) (d : Deed) → AreRight x (all_of d token)
      → (op : Operation) (key : List ℕ) → d ≡ Asks op → token ≡ Ok key → (y : Exchange)
      → (ran x (all_of d token)).running ≡ Some y → y.token ≡ key
  key_ran (Err why) (Asks a) right op key is given y runs = absurd (cc given)
  key_ran (Ok k) (Asks a) right op key is given y runs = let t =
      token_sent x (message_of e.own.observations a) sent k right.0 y runs in let same : k ≡ key = cc given in t ∙ same
  key_ran token _ right op key is given y runs = absurd (cc is)

module _ (sizes : Sizes) where
  -- the blocks of the transfer that runs were sent, the last one too
  abbrev pub UpSent : List Call → Operation → Type 0
  UpSent t (Calling k r (Uploads u)) = (parts : List Part) × (q : Request)
      × (blocks sizes k t ≡ parts ++ part_to_send u ∷ []) × Sent parts u
      × WasTaken (record { number = k; request = q }) t
      × (u.body ≡ q.body)
  UpSent t op = Unit {0}

  -- the request sent last is that of the operation that runs, under the token of the exchange
  pub record Tracked (t : List Call) (op : Operation) (x : Option Exchange) : Type 0 where
    pub sending : Sending
    pub last : last_sent sizes t ≡ Some sending
    pub token : (e : Exchange) → x ≡ Some e → e.token ≡ sending.token
    pub same : (op ≡ Dropped) ⊎ (sending.operation ≡ op)
    pub up : UpSent t op

  abbrev pub IfTracked : List Call → Option Operation → Option Exchange → Type 0
  IfTracked t None x = Unit {0}
  IfTracked t (Some op) x = Tracked t op x

  dropped_tracked : (t : List Call) (k : ℕ) (running : Option Operation) (x : Option Exchange) → IfTracked t running x
      → IfTracked t (dropped k running) x
  dropped_tracked t k None x h = tt
  dropped_tracked t k (Some (Fetching j)) x h = by (j == k)
    where
      by : (b : Bool) → IfTracked t (cond b (Some Dropped) (Some (Fetching j))) x
      by true = record { sending = h.sending; last = h.last; token = h.token; same = inl refl; up = tt }
      by false = h
  dropped_tracked t k _ x h = h

  -- nothing is sent
  pub blocks_same : (t : List Call) (c : Call) → sends (own_of sizes t) c ≡ None → (k : ℕ)
      → blocks sizes k (c ∷ t) ≡ blocks sizes k t
  blocks_same t c none k = ap (λ z. blocks sizes k t ++ block_in_sending k z) none ∙ append-nil (blocks sizes k t)

  up_later : (t : List Call) (c : Call) → sends (own_of sizes t) c ≡ None → (op : Operation) → UpSent t op
      → UpSent (c ∷ t) op
  up_later t c none (Calling k r (Uploads u)) h = (h.0, h.1, blocks_same t c none k ∙ h.2, h.3, inr h.4, h.5)
  up_later t c none _ h = tt

  last_same : (t : List Call) (c : Call) → sends (own_of sizes t) c ≡ None → last_sent sizes (c ∷ t) ≡ last_sent sizes t
  last_same t c none = ap (λ z. elim z [ Some x ↦ Some x | None ↦ last_sent sizes t ]) none

  tracked_later : (t : List Call) (c : Call) → sends (own_of sizes t) c ≡ None
      → (running : Option Operation) (x y : Option Exchange) → TokenStays x y → IfTracked t running x
      → IfTracked (c ∷ t) running y
  tracked_later t c none None x y f h = tt
  tracked_later t c none (Some op) x y f h = record {
    sending = h.sending;
    last = last_same t c none ∙ h.last;
    token = λ e is. (let k = f e is in k.2 ∙ h.token k.0 k.1);
    same = h.same;
    up = up_later t c none op h.up;
  }

  -- what was sent does not wait
  abbrev pub NoneWait : List Call → Own → Type 0
  NoneWait t s = (k : ℕ) → (blocks sizes k t ≡ []) ⊎ ((in_queue k s.queue ≡ 0) × (nat_lt k s.taken ≡ true))

  module _ (server : Endpoint) (setup : Setup) where
    pub record Sends (t : List Call) : Type 0 where
      pub fresh : AllOf (IsFresh t) (own_of sizes t).queue
      pub waits : NoneWait t (own_of sizes t)
      pub tracked : IfTracked t (own_of sizes t).running (beneath server sizes setup t).running

    -- what runs now is what ran, or dropped, or nothing
    abbrev pub Goes : Option Operation → Option Operation → Type 0
    Goes before now = (now ≡ None) ⊎ (((k : ℕ) × (now ≡ dropped k before)) ⊎ (now ≡ before))

    goes_tracked : (t : List Call) (before now : Option Operation) (x : Option Exchange) → Goes before now
        → IfTracked t before x → IfTracked t now x
    goes_tracked t before now x (inl none) h = subst (λ o. IfTracked t o x) (sym none) tt
    goes_tracked t before now x (inr (inl d)) h =
        subst (λ o. IfTracked t o x) (sym d.1) (dropped_tracked t d.0 before x h)
    goes_tracked t before now x (inr (inr same)) h = subst (λ o. IfTracked t o x) (sym same) h

    pub unsent : (t : List Call) (c : Call) → sends (own_of sizes t) c ≡ None
        → Goes (own_of sizes t).running (own_of sizes (c ∷ t)).running
        → TokenStays (beneath server sizes setup t).running (beneath server sizes setup (c ∷ t)).running
        → AllOf (IsFresh (c ∷ t)) (own_of sizes (c ∷ t)).queue → NoneWait t (own_of sizes (c ∷ t)) → Sends t
        → Sends (c ∷ t)
    unsent t c none goes token fresh waits h = record {
      fresh = fresh;
      waits = λ k. elim (waits k) [ inl e ↦ inl (blocks_same t c none k ∙ e) | inr w ↦ inr w ];
      tracked = goes_tracked (c ∷ t) (own_of sizes t).running (own_of sizes (c ∷ t)).running
          (beneath server sizes setup (c ∷ t)).running goes
          (tracked_later t c none (own_of sizes t).running (beneath server sizes setup t).running
          (beneath server sizes setup (c ∷ t)).running token h.tracked);
    }

    -- a request is sent
    abbrev pub heard_by : List Call → Call → Option Message → Type 0
    heard_by t c heard = (m : Message) → heard ≡ Some m
        → (hears c ≡ Some m) × ((e : Exchange) × ((beneath server sizes setup t).running ≡ Some e) × (m.token ≡
        e.token))

    pub up_op : (op : Operation) (y : Carried) → carried op ≡ Some y
        → (r : Request) × (op ≡ Calling y.number r (Uploads y.upload))
    up_op (Calling k r (Uploads u)) y c = let e : ◌≡◌ {A = Carried} (record { number = k; upload = u }) y =
        cc c in (r, ap (λ (z : Carried). Calling z.number r (Uploads z.upload)) e)
    up_op _ y c = absurd (cc c)

    in_first : (k : ℕ) (r : Request) (u : UploadState) (queue rest : List Operation)
        → queue ≡ Calling k r (Uploads u) ∷ rest → in_queue k queue ≡ 0 → ⊥
    in_first k r u queue rest is zero = let a = ap (in_queue k) is in let b =
        hit_self k in absurd (omega (arith, a, b, zero))

    module _ (t : List Call) (c : Call) (h : Sends t) (heard : Option Message) (hear : heard_by t c heard) (x : Sending)
        (os : List Observation) (request_is : x.request ≡ message_of os x.operation) (y : Carried)
        (carries : carried x.operation ≡ Some y) where
      request_of : Request
      request_of = (up_op x.operation y carries).0

      operation_is : x.operation ≡ Calling y.number request_of (Uploads y.upload)
      unfolding request_of
      operation_is = (up_op x.operation y carries).1

      pub payload_is : x.request.payload ≡ part_of y.upload.body y.upload.num y.upload.szx
      payload_is = ap (λ (q : E.Request). q.payload) request_is ∙ ap (λ o. (message_of os o).payload) operation_is

      piece_starts : (e : Effect) (now : ℕ) → Starts (at now (own_of sizes t)) e x.operation → SendsPiece sizes t c x y
      piece_starts e now st =
          let first : (own_of sizes t).queue ≡ Calling y.number request_of (Uploads y.upload) ∷ st.rest = st.first
          ∙ ap (λ o. o ∷ st.rest) operation_is in
          let f : AllOf (IsFresh t) (Calling y.number request_of (Uploads y.upload) ∷ st.rest) =
          subst (AllOf (IsFresh t)) first h.fresh in
          let g = f.0 in
          let none : blocks sizes y.number t ≡ [] = elim (h.waits y.number) [
            | inl n ↦ n
            | inr w ↦ absurd (in_first y.number request_of y.upload
                (own_of sizes t).queue st.rest first w.0)
          ] in
          record {
            request = g.0;
            taken = g.2;
            body = ap (λ (u : UploadState). u.body) g.3;
            sent = subst (λ (u : UploadState). Sent (blocks sizes y.number t) u) (sym g.3)
                (subst (λ ps. Sent ps (upload_start g.0.body g.1)) (sym none) (sent_at_start g.0.body g.1));
            payload = payload_is;
            follows = inl none;
          }

      piece_follows : (now : ℕ) → Follows (at now (own_of sizes t)) heard x.operation → SendsPiece sizes t c x y
      piece_follows now fo =
          let k : Tracked t (Calling fo.number fo.request (Uploads fo.upload)) (beneath server sizes setup t).running =
          subst (λ o. IfTracked t o (beneath server sizes setup t).running) fo.runs_it h.tracked in
          let up = k.up in
          let same : Calling y.number request_of (Uploads y.upload)
          ≡ Calling fo.number fo.request (Uploads (moved fo.upload fo.block)) = sym operation_is ∙ fo.is in
          let number_is : y.number ≡ fo.number = cc same in
          let upload_is : y.upload ≡ moved fo.upload fo.block = cc same in
          let fits = continues_is fo.upload fo.block fo.may in
          let sending_is : k.sending.operation ≡ Calling fo.number fo.request (Uploads fo.upload) =
          elim k.same [ inl d ↦ absurd (cc d) | inr e ↦ e ] in
          let blocks_are : blocks sizes y.number t ≡ up.0
          ++ part_to_send fo.upload ∷ [] = ap (λ i. blocks sizes i t) number_is ∙ up.2 in
          let heard_it = hear fo.message fo.hears_it in
          record {
            request = up.1;
            taken = subst (λ i. WasTaken (record { number = i; request = up.1 }) t) (sym number_is) up.4;
            body = ap (λ (u : UploadState). u.body) upload_is ∙ up.5;
            sent = subst (λ (u : UploadState). Sent (blocks sizes y.number t) u) (sym upload_is)
                (subst (λ ps. Sent ps (moved fo.upload fo.block)) (sym blocks_are)
                (sent_by_part up.0 fo.upload fo.block up.3 fits));
            payload = payload_is;
            follows = inr (record {
              before = k.sending;
              last = k.last;
              upload = fo.upload;
              of = ap carried sending_is ∙ ap (λ i. Some (record { number = i; upload = fo.upload })) (sym number_is);
              message = fo.message;
              heard = heard_it.0;
              token = heard_it.1.2 ∙ k.token heard_it.1.0 heard_it.1.1;
              code = fo.code;
              block = fo.block;
              says = fo.says;
              fits = fits;
              next = upload_is;
            });
          }

      pub piece : (e : Effect) (now : ℕ) → Starts (at now (own_of sizes t)) e x.operation
          ⊎ Follows (at now (own_of sizes t)) heard x.operation → SendsPiece sizes t c x y
      piece e now (inl st) = piece_starts e now st
      piece e now (inr fo) = piece_follows now fo

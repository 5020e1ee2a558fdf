-- What is sent under one Message ID within 400 s is sent by one entry.
use Rattle.coap_layer.specs.Trace.{Setup}
use Rattle.std.proofs.Common.{◌≡◌, inl, inr, ℕ, ◌+◌, ◌%◌, ◌≤◌, Option, Some, None, List, [], ◌∷◌, ◌++◌, refl, ap, sym}
use Rattle.std.proofs.Common.{◌∙◌, subst, arith}
use Rattle.coap_types.specs.Past.{Ever}
use Rattle.coap_types.specs.declared.endpoint.Endpoint.{Endpoint}
use Rattle.coap_types.specs.declared.message.Kind.TheVariants.{Con}
use Rattle.coap_types.proofs.Facts.Traces.{Ever_map, Ever_out, forget}
use Rattle.coap_codec.specs.Spelling.{message_bytes}
use Rattle.coap_layer.specs.Ids.{Issued, AreApart}
use Rattle.coap_layer.specs.Trace.{Content, with_head, Call, Receive, Reply, Confirm, Plain, Settle, Ticks, Take, Room}
use Rattle.coap_layer.specs.Trace.{AsksFree, Pass, Answer, Becomes, Nothing, Is, Sent, Busied, NoIds, Idle, Copied}
use Rattle.coap_layer.specs.Trace.{Expired, Gives, Entry}
use Rattle.coap_layer.specs.Words.{Open, sent_by, open_of, begun_in, begun, issued_by, issued, numbers}
use Rattle.coap_layer.specs.Rows.{LayerLaw}
use Rattle.coap_layer.specs.Sends.{Begins}
use Rattle.coap_layer.specs.Machine.Calls.{IsBegun}
use Rattle.coap_types.specs.declared.transmission.TheConstants.{ID_REUSE_AFTER_MS as id_reuse_after}
use Rattle.coap_types.specs.declared.transmission.TheConstants.{ACK_TIMEOUT_MS as ack_timeout}
use Rattle.coap_types.specs.declared.transmission.TheConstants.{TIMEOUT_VALUES as timeout_values}
use Rattle.coap_layer.proofs.Copies.CopiesInTime.{ids_apart}

sent_is : (a : Answer) (id : ℕ) → sent_by a ≡ Some id → a ≡ Sent id
sent_is (Sent n) id h = let k : n ≡ id = cc h in ap Sent k
sent_is (Becomes what) id h = absurd (cc h)
sent_is Nothing id h = absurd (cc h)
sent_is (Is b) id h = absurd (cc h)
sent_is Busied id h = absurd (cc h)
sent_is NoIds id h = absurd (cc h)
sent_is Idle id h = absurd (cc h)
sent_is (Copied to n) id h = absurd (cc h)
sent_is (Expired to n) id h = absurd (cc h)
sent_is (Gives p) id h = absurd (cc h)

begins_as : (at : ℕ) (to : Endpoint) (content : Content) (word : ℕ) (answer : Answer) (o : Option ℕ) (c : Open)
    → sent_by answer ≡ o → open_of at to content word o ≡ Some c → Begins at (Confirm to content word) answer c
begins_as at to content word answer None c s h = absurd (cc h)
begins_as at to content word answer (Some id) c s h =
    let new : Open = record {
      to = to;
      id = id;
      bytes = message_bytes (with_head Con id content);
      timeout = ack_timeout + word % timeout_values;
      first = at;
      last = at;
    } in
    let e : new ≡ c = cc h in
    subst (Begins at (Confirm to content word) answer) e
    (record {
      content = content;
      word = word;
      call_is = refl;
      answer_is = sent_is answer id s;
      first_is = refl;
      last_is = refl;
      bytes_are = refl;
    })

begins_in : (at : ℕ) (call : Call) (answer : Answer) (c : Open) → begun_in at call answer ≡ Some c
    → Begins at call answer c
begins_in at (Confirm to content word) answer c h = begins_as at to content word answer (sent_by answer) c refl h
begins_in at (Receive from bytes) answer c h = absurd (cc h)
begins_in at (Reply to id bytes) answer c h = absurd (cc h)
begins_in at (Plain to content) answer c h = absurd (cc h)
begins_in at (Settle to id) answer c h = absurd (cc h)
begins_in at Ticks answer c h = absurd (cc h)
begins_in at Take answer c h = absurd (cc h)
begins_in at (Room to) answer c h = absurd (cc h)
begins_in at AsksFree answer c h = absurd (cc h)
begins_in at Pass answer c h = absurd (cc h)

pub begins_of : (e : Entry) (c : Open) → begun e ≡ Some c → Begins e.at e.call e.answer c
begins_of e c h = begins_in e.at e.call e.answer c h

-- the entry gives this number, and no other
abbrev pub Numbers : Issued → Entry → Type 0
Numbers g e = issued e ≡ g ∷ []

pub sent_number : (e : Entry) (id : ℕ) → e.answer ≡ Sent id → Numbers (record { at = e.at; id = id }) e
sent_number e id h = ap (issued_by e.at) h

abbrev pub number_of : Open → Issued
number_of c = record { at = c.first; id = c.id }

pub begun_number : (e : Entry) (c : Open) → begun e ≡ Some c → Numbers (number_of c) e
begun_number e c h = let b = begins_of e c h in sent_number e c.id b.answer_is
    ∙ ap (λ (n : ℕ). record { at = n; id = c.id } ∷ []) (sym b.first_is)

abbrev Near : Issued → Issued → Type 0
Near g h = (h.id ≡ g.id) × (g.at ≤ h.at + id_reuse_after)

fresh_in : (gs past : List Issued) (g : Issued) → gs ≡ g ∷ [] → AreApart (gs ++ past) → Ever (Near g) past → ⊥
fresh_in gs past g is apart k = (subst (λ (xs : List Issued). AreApart (xs ++ past)) is apart).0 k

fresh : (setup : Setup) (past : List Entry) (e : Entry) (g : Issued) → LayerLaw setup (e ∷ past) → Numbers g e
    → Ever (Near g) (numbers past) → ⊥
fresh setup past e g law is k = fresh_in (issued e) (numbers past) g is (ids_apart setup (e ∷ past) law) k

given_there : (g h : Issued) → h.id ≡ g.id → g.at ≤ h.at + id_reuse_after → (P : Entry → Type 0)
    → ((e : Entry) → P e → Numbers h e) → (t : List Entry) → Ever P t → Ever (Near g) (numbers t)
given_there g h id le P f t k = Ever_out issued (Near g) t (Ever_map P (λ e. Ever (Near g) (issued e)) here t k)
  where
    here : (e : Entry) → P e → Ever (Near g) (issued e)
    here e p = subst (Ever (Near g)) (sym (f e p)) (inl (id, le))

-- equal numbers that are no more than 400 s apart are given by one entry
module _ (P Q : Entry → Type 0) (g h : Issued) (f : (e : Entry) → P e → Numbers g e)
    (k : (e : Entry) → Q e → Numbers h e) (id : g.id ≡ h.id) (before : g.at ≤ h.at + id_reuse_after)
    (after : h.at ≤ g.at + id_reuse_after) where
  pub one_entry : (setup : Setup) (t : List Entry) → LayerLaw setup t → Ever P t → Ever Q t → Ever (λ e. P e × Q e) t
  one_entry setup [] law a b = a
  one_entry setup (e ∷ past) law (inl a) (inl b) = inl (a, b)
  one_entry setup (e ∷ past) law (inl a) (inr b) =
      absurd (fresh setup past e g law (f e a) (given_there g h (sym id) before Q k past b))
  one_entry setup (e ∷ past) law (inr a) (inl b) =
      absurd (fresh setup past e h law (k e b) (given_there h g id after P f past a))
  one_entry setup (e ∷ past) law (inr a) (inr b) = inr (one_entry setup past law.1 a b)

-- two CONs under one Message ID, begun no more than 400 s apart, are one
pub one_con : (setup : Setup) (t : List Entry) (c d : Open) → LayerLaw setup t → Ever (IsBegun c) t → Ever (IsBegun d) t
    → c.id ≡ d.id → c.first ≤ d.first + id_reuse_after → d.first ≤ c.first + id_reuse_after → c ≡ d
one_con setup t c d law a b id before after =
    forget (c ≡ d) t (Ever_map _ _ (λ e k. let p = k.0 in let q = k.1 in cc (p, q)) t
    (one_entry (IsBegun c) (IsBegun d) (number_of c) (number_of d) (λ e. begun_number e c)
    (λ e. begun_number e d) id before after setup t law a b))

-- a NON has no CON's Message ID within 400 s
pub record SendsPlain (id at : ℕ) (e : Entry) : Type 0 where
  pub to : Endpoint
  pub content : Content
  pub call : e.call ≡ Plain to content
  pub answer : e.answer ≡ Sent id
  pub at_is : e.at ≡ at

pub no_plain : (setup : Setup) (t : List Entry) (c : Open) (at : ℕ) → LayerLaw setup t → Ever (IsBegun c) t
    → Ever (SendsPlain c.id at) t → c.first ≤ at + id_reuse_after → at ≤ c.first + id_reuse_after → ⊥
no_plain setup t c at law a b before after =
    forget ⊥ t (Ever_map _ _ both t
    (one_entry (IsBegun c) (SendsPlain c.id at) (number_of c) (record { at = at; id = c.id })
    (λ e. begun_number e c) numbered refl before after setup t law a b))
  where
    numbered : (e : Entry) → SendsPlain c.id at e → Numbers (record { at = at; id = c.id }) e
    numbered e p = sent_number e c.id p.answer ∙ ap (λ (n : ℕ). record { at = n; id = c.id } ∷ []) p.at_is

    both : (e : Entry) → IsBegun c e × SendsPlain c.id at e → ⊥
    both e k = let b = begins_of e c k.0 in let p = k.1.call in let q = b.call_is in cc (p, q)

-- a CON is begun once
pub begun_once : (setup : Setup) (past : List Entry) (e : Entry) (c : Open) → LayerLaw setup (e ∷ past) → begun e
    ≡ Some c
    → Ever (IsBegun c) past → ⊥
begun_once setup past e c law h k = fresh setup past e (number_of c) law (begun_number e c h)
    (given_there (number_of c) (number_of c) refl (omega arith) (IsBegun c) (λ x. begun_number x c) past k)

-- Of which types the messages are that a client takes.
use Rattle.std.proofs.Common.{◌≡◌, ◌⊎◌, inl, inr, ℕ, max, Bool, true, false, Option, Some, List, [], ◌∷◌, ◌++◌, refl}
use Rattle.std.proofs.Common.{sym, subst}
use Rattle.coap_types.specs.declared.endpoint.Endpoint.{Endpoint}
use Rattle.coap_types.specs.declared.message.Kind.{Kind}
use Rattle.coap_types.specs.declared.message.Kind.TheVariants.{Con, Non, Ack, Rst}
use Rattle.coap_codec.specs.Message.{Message}
use Rattle.coap_layer.specs.Trace as L
use Rattle.coap_layer.specs.declared.setup.Setup.{Setup}
use Rattle.coap_block.specs.Sizes.{Sizes}
use Rattle.coap_exchange.specs.declared.asker.Event.{Event}
use Rattle.coap_exchange.specs.declared.asker.Event.TheVariants as event
use Rattle.coap_exchange.specs.declared.matching.Known.{Known}
use Rattle.coap_exchange.specs.declared.matching.Verdict.{Verdict}
use Rattle.coap_exchange.specs.declared.matching.Verdict.TheVariants.{EndByReset, AnswerCon, Answer, NoticeCon, Notice}
use Rattle.coap_exchange.specs.AskerTrace as E
use Rattle.coap_exchange.specs.AskerArrivals.{told, verdict_on, known_of}
use Rattle.coap_exchange.specs.AskerSteps as P
use Rattle.coap_exchange.specs.AskerLaw as W
use Rattle.coap_exchange.specs.Matching.{judged}
use Rattle.coap_exchange.proofs.Facts.Verdicts.{Fits, verdict_fits}
use Rattle.coap_client.specs.Trace.{Call, Feeds}
use Rattle.coap_client.specs.Own.{Own}
use Rattle.coap_client.specs.Effects.{Effect}
use Rattle.coap_client.specs.Events.{happened}
use Rattle.coap_client.specs.Deeds.{at, close, deeds}
use Rattle.coap_client.specs.Law.{ClientLaw, own_of, lower_of}
use Rattle.coap_client.proofs.Facts.Turning.Leading.{client_back}
use Rattle.coap_client_laws.specs.Follows.Types.{IsOfType, AreOfTypes}

abbrev known : (f o i p b c : Bool) → Known
known f o i p b c = record { from_server = f; of_exchange = o; same_id = i; kept = p; bad_option = b; cancelled = c }

-- what the table tells of a response
abbrev Tells : Kind → Known → Message → Event → Type 0
Tells kind k m e = told (judged kind k) (L.Becomes (L.Response m)) ≡ Some e

no_notice : (f o i p b c : Bool) (m n : Message) → Tells Ack (known f o i p b c) m (event.Notice n) → ⊥
no_notice false o i p b c m n h = cc h
no_notice true false i false b c m n h = cc h
no_notice true false i true b c m n h = cc h
no_notice true true false p b c m n h = cc h
no_notice true true true p true c m n h = cc h
no_notice true true true p false c m n h = cc h

no_reset : (f o i p b c : Bool) (m : Message) (e : Event) → Tells Rst (known f o i p b c) m e → ⊥
no_reset false o i p b c m e h = cc h
no_reset true false i false b c m e h = cc h
no_reset true false i true true c m e h = cc h
no_reset true false i true false true m e h = cc h
no_reset true false i true false false m e h = cc h
no_reset true true i p true c m e h = cc h
no_reset true true i p false true m e h = cc h
no_reset true true i p false false m e h = cc h

notice_kind : (kind : Kind) (k : Known) (m n : Message) → Tells kind k m (event.Notice n) → (kind ≡ Con) ⊎ (kind ≡ Non)
notice_kind Con k m n h = inl refl
notice_kind Non k m n h = inr refl
notice_kind Ack k m n h = absurd (no_notice k.from_server k.of_exchange k.same_id k.kept k.bad_option k.cancelled m n h)
notice_kind Rst k m n h = absurd (no_reset k.from_server k.of_exchange k.same_id k.kept k.bad_option k.cancelled m
    (event.Notice n) h)

answer_kind : (kind : Kind) (k : Known) (m n : Message) → Tells kind k m (event.Answer n)
    → (kind ≡ Con) ⊎ ((kind ≡ Non) ⊎ (kind ≡ Ack))
answer_kind Con k m n h = inl refl
answer_kind Non k m n h = inr (inl refl)
answer_kind Ack k m n h = inr (inr refl)
answer_kind Rst k m n h = absurd (no_reset k.from_server k.of_exchange k.same_id k.kept k.bad_option k.cancelled m
    (event.Answer n) h)

-- only a response is told so
response_up : (s : E.Own) (from : Endpoint) (up : L.Answer) (e : Event) (v : Verdict) → Fits s from up v
    → told v up ≡ Some e → (e ≡ event.Reset) ⊎ ((m : Message) × (up ≡ L.Becomes (L.Response m)))
response_up s from up e EndByReset f h = inl (cc h)
response_up s from up e AnswerCon f h = inr (f.message, f.is)
response_up s from up e Answer f h = inr (f.message, f.is)
response_up s from up e NoticeCon f h = inr (f.message, f.is)
response_up s from up e Notice f h = inr (f.message, f.is)
response_up s from up e _ f h = absurd (cc h)

-- and as itself
same_notice : (v : Verdict) (m n : Message) → told v (L.Becomes (L.Response m)) ≡ Some (event.Notice n) → m ≡ n
same_notice NoticeCon m n h = cc h
same_notice Notice m n h = cc h
same_notice _ m n h = absurd (cc h)

same_answer : (v : Verdict) (m n : Message) → told v (L.Becomes (L.Response m)) ≡ Some (event.Answer n) → m ≡ n
same_answer AnswerCon m n h = cc h
same_answer Answer m n h = cc h
same_answer _ m n h = absurd (cc h)

abbrev Noted : Message → Type 0
Noted m = (m.kind ≡ Con) ⊎ (m.kind ≡ Non)

abbrev Heard : Message → Type 0
Heard m = (m.kind ≡ Con) ⊎ ((m.kind ≡ Non) ⊎ (m.kind ≡ Ack))

module _ (s : E.Own) (from : Endpoint) (up : L.Answer) where
  abbrev Rises : Event → L.Answer → Type 0
  Rises e u = told (verdict_on s from u) u ≡ Some e

  noted_so : (n : Message) → Rises (event.Notice n) up → Noted n
  noted_so n h = by (response_up s from up (event.Notice n) (verdict_on s from up) (verdict_fits s from up) h)
    where
      by : (event.Notice n ≡ event.Reset) ⊎ ((m : Message) × (up ≡ L.Becomes (L.Response m))) → Noted n
      by (inl e) = absurd (cc e)
      by (inr (m, is)) =
          let k = subst (Rises (event.Notice n)) is h in
          subst Noted (same_notice (judged m.kind (known_of s from m)) m n k)
          (notice_kind m.kind (known_of s from m) m n k)

  heard_so : (n : Message) → Rises (event.Answer n) up → Heard n
  heard_so n h = by (response_up s from up (event.Answer n) (verdict_on s from up) (verdict_fits s from up) h)
    where
      by : (event.Answer n ≡ event.Reset) ⊎ ((m : Message) × (up ≡ L.Becomes (L.Response m))) → Heard n
      by (inl e) = absurd (cc e)
      by (inr (m, is)) =
          let k = subst (Rises (event.Answer n)) is h in
          subst Heard (same_answer (judged m.kind (known_of s from m)) m n k)
          (answer_kind m.kind (known_of s from m) m n k)

-- the call's arrival stands last among what it asks of the exchanges
last_row : (server : Endpoint) (setup : Setup) (later : List E.Call) (c : E.Call) (past : List E.Call)
    → W.AskerLaw server setup ((later ++ c ∷ []) ++ past) → P.IsRight (W.own_of server setup past) c
last_row server setup [] c past law = law.0
last_row server setup (d ∷ later) c past law = last_row server setup later c past law.1

deeper : (server : Endpoint) (setup : Setup) (first later : List E.Call) (past : List E.Call)
    → W.AskerLaw server setup ((first ++ later) ++ past) → W.AskerLaw server setup (later ++ past)
deeper server setup [] later past law = law
deeper server setup (d ∷ first) later past law = deeper server setup first later past law.1

module _ (server : Endpoint) (sizes : Sizes) (setup : Setup) (t : List Call) where
  -- what arrived had its row
  told_here : (now : ℕ) (from : Endpoint) (bytes : List ℕ) (w : ℕ) (up : L.Answer) (settled : Bool) (e : Option Event)
      (sent : L.Answer) (token : _) (was : Bool)
      → ClientLaw server sizes setup (Feeds now from bytes w up settled e sent token was ∷ t)
      → e ≡ told (verdict_on (W.own_of server setup (lower_of sizes t)) from up) up
  told_here now from bytes w up settled e sent token was law =
      let s : Own = own_of sizes t in
      let z : ℕ = max s.clock now in
      let f : Effect = happened (at now s) z e in
      let k = close z f token in
      let arrival : E.Call = E.Receive z from bytes up settled e in
      last_row server setup (deeds f.deed f.own z w sent token was) arrival (lower_of sizes t)
      (deeper server setup (deeds k.deed k.own z w sent token was)
      (deeds f.deed f.own z w sent token was ++ arrival ∷ []) (lower_of sizes t) law.exchanges.rows)

  of_type : (c : Call) → ClientLaw server sizes setup (c ∷ t) → IsOfType c
  of_type (Feeds now from bytes w up settled (Some (event.Notice a)) sent token was) law =
      record {
        noted = λ m h. (let same : a ≡ m = cc h in
            subst Noted same (noted_so (W.own_of server setup (lower_of sizes t)) from up a
            (sym (told_here now from bytes w up settled (Some (event.Notice a)) sent token was law))));
        heard = λ m h. absurd (cc h);
      }
  of_type (Feeds now from bytes w up settled (Some (event.Answer a)) sent token was) law =
      record {
        noted = λ m h. absurd (cc h);
        heard = λ m h. (let same : a ≡ m = cc h in
            subst Heard same (heard_so (W.own_of server setup (lower_of sizes t)) from up a
            (sym (told_here now from bytes w up settled (Some (event.Answer a)) sent token was law))));
      }
  of_type _ law = record { noted = λ m h. absurd (cc h); heard = λ m h. absurd (cc h) }

pub are_of_types : (server : Endpoint) (sizes : Sizes) (setup : Setup) (t : List Call) → ClientLaw server sizes setup t
    → AreOfTypes t
are_of_types server sizes setup [] law = tt
are_of_types server sizes setup (c ∷ t) law = (
  of_type server sizes setup t c law,
  are_of_types server sizes setup t (client_back server sizes setup (c ∷ []) t law),
)

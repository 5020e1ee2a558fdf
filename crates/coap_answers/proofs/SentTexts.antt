-- What was sent, one more.
use Rattle.std.proofs.Common.{◌≡◌, ◌∙◌, ◌++◌, ◌∷◌, [], ℕ, Bool, true, false, List, Option, Some, None, ap}
use Rattle.std.proofs.Common.{Err, IfNone, IfOk, IfSome, Ok, OnOk, Result, inl, inr, refl, subst, sym}
use Rattle.std.proofs.lemmas.List.{append-nil, append_assoc}
use Rattle.std.specs.Prelude.{codes}
use Rattle.std.specs.Io.KnownBytes.{Appends}
use Rattle.hex.specs.Hex.{encode_lower}
use Rattle.coap_types.specs.declared.endpoint.Endpoint.{Endpoint}
use Rattle.coap_layer.specs.Trace.{Packet}
use Rattle.coap_layer.specs.declared.setup.Setup.{Setup}
use Rattle.coap_types.specs.declared.szx.TheConstants.{MAX_SZX as max_szx}
use Rattle.coap_resource.specs.Content.{Content}
use Rattle.coap_resource.specs.Limits.{Limits}
use Rattle.coap_resource.specs.declared.refusal.StoreRefusal.{StoreRefusal}
use Rattle.coap_server.specs.Led.{Led, State, Step}
use Rattle.coap_server.specs.Trace.{NextOut, Sets}
use Rattle.coap_common.specs.declared.usual.TheConstants.{TEXT_PLAIN as text_plain}
use Rattle.coap_status.specs.declared.status.Status.TheVariants.{Done, Refused}
use Rattle.coap_answers.specs.Printed.{refused_text}
use Rattle.coap_status.specs.declared.status.Status.{Status}
use Rattle.coap_status.specs.declared.status.Stop.{Stop}
use Rattle.coap_answers.specs.Answering.{GivesOut, PrintsAnswer, PrintsReply, hex_lines, sent_text}
use Rattle.coap_answers.specs.Statuses.{IsCarriedOut}
use Rattle.coap_common.proofs.Facts.{written_on}

-- one more is given out
pub gives_more : (old : State) (ps : List Packet) (mid : State) (p : Packet) (new : State) → GivesOut old ps mid
    → mid.layer.queue ≡ p ∷ new.layer.queue → Step mid (NextOut (Some p)) new → GivesOut old (ps ++ p ∷ []) new
gives_more old [] mid p new is first step = (
  new,
  subst (λ (s : State). s.layer.queue ≡ p ∷ new.layer.queue) is first,
  subst (λ (s : State). Step s (NextOut (Some p)) new) is step,
  refl,
)
gives_more old (q ∷ ps) mid p new gives first step =
    (gives.0, gives.1, gives.2, gives_more gives.0 ps mid p new gives.3 first step)

abbrev pub is_none : List Packet → Bool
is_none [] = true
is_none (p ∷ ps) = false

pub none_no_more : (ps : List Packet) (p : Packet) → false ≡ is_none (ps ++ p ∷ [])
none_no_more [] p = refl
none_no_more (q ∷ ps) p = refl

one_more : (ps : List Packet) (p : Packet)
    → hex_lines ps ++ (encode_lower p.bytes ++ codes "\n") ≡ hex_lines (ps ++ p ∷ [])
one_more [] p = sym (append-nil (encode_lower p.bytes ++ codes "\n"))
one_more (q ∷ ps) p =
    append_assoc (encode_lower q.bytes ++ codes "\n") (hex_lines ps) (encode_lower p.bytes ++ codes "\n")
    ∙ ap (λ t. (encode_lower q.bytes ++ codes "\n") ++ t) (one_more ps p)

pub lines_on : (ps : List Packet) (p : Packet) (text : List ℕ) (old mid new : Option (List ℕ))
    → text ≡ encode_lower p.bytes → Appends old mid (hex_lines ps) → Appends mid new (text ++ codes "\n")
    → Appends old new (hex_lines (ps ++ p ∷ []))
lines_on ps p text old mid new is before one =
    subst (Appends old new) (one_more ps p)
    (written_on old mid new (hex_lines ps) (encode_lower p.bytes ++ codes "\n") before
    (subst (λ t. Appends mid new (t ++ codes "\n")) is one))

-- at the end: nothing was sent, and that is written; or something was
pub silent_text : (ps : List Packet) (old mid new : Option (List ℕ)) → is_none ps ≡ true
    → Appends old mid (hex_lines ps) → Appends mid new (codes "silence\n") → Appends old new (sent_text ps)
silent_text [] old mid new is before one = written_on old mid new [] (codes "silence\n") before one
silent_text (p ∷ ps) old mid new is before one = absurd (cc is)

pub heard_text : (ps : List Packet) (old new : Option (List ℕ)) → is_none ps ≡ false
    → Appends old new (hex_lines ps) → Appends old new (sent_text ps)
heard_text [] old new is before = absurd (cc is)
heard_text (p ∷ ps) old new is before = before

-- what becomes of what is printed where the body is held, and where it is refused
pub if_reply : {P Q : Status → Type 0} (r : Result Status Stop) → ((s : Status) → P s → Q s) → IfOk r P → IfOk r Q
if_reply (Ok s) f p = f s p
if_reply (Err stop) f p = tt

module _ (limits : Limits) (setup : Setup) (path : List (List ℕ)) (text body : List ℕ) (is : text ≡ body)
    (before after : Option (List ℕ)) (at : ℕ) (from : Endpoint) (word : ℕ) (datagram : List ℕ) (store : Content)
    (held : State)
  where
    pub reply_printed : (version : ℕ) (new : State) (r : Result Status Stop)
        → Led limits max_szx setup (Sets 0 path (Some text_plain) text (Ok version) store ∷ []) held
        → IfOk r (λ s. (s ≡ Done) × PrintsReply before after at from word datagram held new)
        → IfOk r (PrintsAnswer limits setup path body before after at from word datagram)
    reply_printed version new (Ok s) led reply =
        inl (
          version,
          store,
          held,
          new,
          subst
              (λ (b : List ℕ). Led limits max_szx setup (Sets 0 path (Some text_plain) b (Ok version) store ∷ []) held)
              is led,
          reply.0,
          reply.1,
        )
    reply_printed version new (Err stop) led reply = tt

    pub refusal_printed : (why : StoreRefusal) (r : Result Status Stop)
        → Led limits max_szx setup (Sets 0 path (Some text_plain) text (Err why) store ∷ []) held
        → IfOk r (λ s. s ≡ Refused) → OnOk r (Appends before after (refused_text why))
        → IfOk r (PrintsAnswer limits setup path body before after at from word datagram)
    refusal_printed why (Ok s) led refused told =
        inr (
          why,
          store,
          held,
          subst (λ (b : List ℕ). Led limits max_szx setup (Sets 0 path (Some text_plain) b (Err why) store ∷ []) held)
              is led,
          refused,
          told,
        )
    refusal_printed why (Err stop) led refused told = tt

pub carried : (limits : Limits) (setup : Setup) (path : List (List ℕ)) (body : List ℕ)
    (before after : Option (List ℕ)) (at : ℕ) (from : Endpoint) (word : ℕ) (datagram : List ℕ) (s : Status)
    → PrintsAnswer limits setup path body before after at from word datagram s → IsCarriedOut s
carried limits setup path body before after at from word datagram s (inl held) = inl held.5
carried limits setup path body before after at from word datagram s (inr refused) = inr refused.4

-- what is said where nothing, and where something is there
pub of_none : {X A : Type 0} (o : Option X) → o ≡ None → IfNone o A → A
of_none {X} {A} o is a = subst (λ (p : Option X). IfNone p A) is a

pub of_some : {X : Type 0} (B : X → Type 0) (o : Option X) (x : X) → o ≡ Some x → IfSome o B → B x
of_some {X} B o x is b = subst (λ (p : Option X). IfSome p B) is b

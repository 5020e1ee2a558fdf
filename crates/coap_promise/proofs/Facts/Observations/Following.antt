-- What a server tells under one registration, as long as there is one alone.
use Rattle.std.proofs.Common.{◌≡◌, inl, inr, ℕ, true, false, Some, List, [], ◌∷◌, ◌++◌, refl, ap, sym, subst, ◌∙◌}
use Rattle.coap_types.specs.Past.{Ever, Sometime, Always}
use Rattle.coap_types.proofs.Facts.Traces.{Ever_front, Ever_back, Sometime_back, Always_back}
use Rattle.coap_types.specs.declared.endpoint.Endpoint.{Endpoint}
use Rattle.coap_resource.specs.Limits.{Limits}
use Rattle.coap_codec.specs.Message.{Message}
use Rattle.coap_layer.specs.Trace as L
use Rattle.coap_layer.specs.Words.{Open, begun}
use Rattle.coap_layer.specs.declared.setup.Setup.{Setup}
use Rattle.coap_server.specs.Trace.{Own, Call}
use Rattle.coap_server.specs.Law.{ServerLaw, own_of, layer_of}
use Rattle.coap_server.specs.Follows.Tells.{FollowsOn, HearsAck, InCon, InReply, NoneMade, Pair, Telling, Way, telling}
use Rattle.coap_server_laws.proofs.Facts.Laws as facts
use Rattle.coap_server_laws.specs.Follows.Adds.{call_adds}
use Rattle.coap_server_laws.specs.Follows.Told.{Conveys, TellsIn, ServesPair, pair_of, IsUnder, AreUnder, AllServePairs}
use Rattle.coap_server_laws.proofs.Facts.EachCall.{layer_next, all_serve_pairs, are_under}
use Rattle.coap_promise.proofs.Observations.RepliesRegister.{reply_registers}

-- where something happened, and what came behind it and before
pub record Split {E : Type 0} (P : List E → E → Type 0) (t : List E) : Type 0 where
  pub newer : List E
  pub entry : E
  pub older : List E
  pub is : t ≡ newer ++ entry ∷ older
  pub here : P older entry

pub split : {E : Type 0} (P : List E → E → Type 0) (t : List E) → Sometime P t → Split P t
split P [] h = absurd h
split P (e ∷ t) (inl h) = record { newer = []; entry = e; older = t; is = refl; here = h }
split P (e ∷ t) (inr h) = let k = split P t h in record
    { newer = e ∷ k.newer; entry = k.entry; older = k.older; is = ap (λ z. e ∷ z) k.is; here = k.here }

module _ (limits : Limits) (szx : ℕ) (setup : Setup) where
  abbrev own : List Call → Own
  own t = own_of limits szx t

  abbrev pub OnceOf : Pair → List Call → Type 0
  OnceOf p t = Always (λ past c. ServesPair limits szx p past c → Sometime (ServesPair limits szx p) past → ⊥) t

  none_made : (p : Pair) (newer base : List Call) → OnceOf p (newer ++ base) → AllServePairs limits szx (newer ++ base)
      → Sometime (ServesPair limits szx p) base → NoneMade limits szx p.to p.token newer base
  none_made p [] base once pairs made = tt
  none_made p (b ∷ newer) base once pairs made = (
    λ h. once.0 (pairs.0 p h) (Sometime_back (ServesPair limits szx p) newer base made),
    none_made p newer base once.1 pairs.1 made,
  )

  pub told_since : (past : List Call) (c : Call) (x : Telling) → IsUnder limits szx past c → telling (own past) c
      ≡ Some x
      → Sometime (ServesPair limits szx (pair_of limits szx x)) (c ∷ past)
  told_since past c x under h = elim (under x h) [ inl k ↦ inl k.1 | inr k ↦ inr k.1 ]

  not_first : (past : List Call) (d : Call) (p : Pair) (y : Telling) → pair_of limits szx y ≡ p
      → IsUnder limits szx past d → telling (own past) d ≡ Some y → OnceOf p (d ∷ past)
      → Sometime (ServesPair limits szx p) past → y.registers ≡ false
  not_first past d p y same under h once before =
      elim (under y h) [
        | inl k ↦ absurd (once.0 (subst (λ z. ServesPair limits szx z past d) same k.1) before)
        | inr k ↦ k.0
      ]

  -- one behind the other
  module _ (newer older : List Call) (c d : Call) (x y : Telling)
      (law : ServerLaw limits szx setup (d ∷ (newer ++ c ∷ older)))
      (once : OnceOf (pair_of limits szx x) (d ∷ (newer ++ c ∷ older))) (first : telling (own older) c ≡ Some x)
      (second : telling (own (newer ++ c ∷ older)) d ≡ Some y) (to : y.to ≡ x.to) (token : y.token ≡ x.token) where
    abbrev p : Pair
    p = pair_of limits szx x

    under : AreUnder limits szx (d ∷ (newer ++ c ∷ older))
    under = are_under limits szx setup (d ∷ (newer ++ c ∷ older)) law

    made : Sometime (ServesPair limits szx p) (c ∷ older)
    made = told_since older c x (Always_back (IsUnder limits szx) newer (c ∷ older) under.1).0 first

    -- the newer one does not make the registration
    registers_not : y.registers ≡ false
    registers_not =
        let same : pair_of limits szx y ≡ p = ap {B = Pair} (λ z. record { to = z; token = y.token }) to
        ∙ ap {B = Pair} (λ z. record { to = x.to; token = z }) token in
        not_first (newer ++ c ∷ older) d p y same under.0 second once
        (Sometime_back (ServesPair limits szx p) newer (c ∷ older) made)

    pub follow_here : FollowsOn limits.changes newer x y
    follow_here =
        facts.follows limits szx setup (d ∷ (newer ++ c ∷ older)) law newer older c d x y refl first second
        registers_not to
        token
        (none_made p newer (c ∷ older) once.1 (all_serve_pairs limits szx (newer ++ c ∷ older)) made)

  -- what was begun in a call is in the layer's entries behind it
  begun_behind : (P : L.Entry → Type 0) (newer older : List Call) (c : Call)
      → Ever P (call_adds limits szx setup older c)
      → Ever P (layer_of limits szx setup (newer ++ c ∷ older))
  begun_behind P [] older c h = subst (Ever P) (sym (layer_next limits szx setup older c))
      (Ever_front P (call_adds limits szx setup older c) (layer_of limits szx setup older) h)
  begun_behind P (b ∷ newer) older c h =
      subst (Ever P) (sym (layer_next limits szx setup (newer ++ c ∷ older) b))
      (Ever_back P (call_adds limits szx setup (newer ++ c ∷ older) b) (layer_of limits szx setup (newer ++ c ∷ older))
      (begun_behind P newer older c h))

  -- it is acknowledged behind its begin
  abbrev pub AckedBehind : Endpoint → Open → List Call → Call → Type 0
  AckedBehind to con past b = HearsAck to con.id b × Ever (λ e. begun e ≡ Some con) (layer_of limits szx setup past)

  acked_behind : (to : Endpoint) (con : Open) (newer older : List Call) (c : Call)
      → Ever (λ e. begun e ≡ Some con) (call_adds limits szx setup older c) → Ever (HearsAck to con.id) newer
      → Sometime (AckedBehind to con) (newer ++ c ∷ older)
  acked_behind to con [] older c there h = absurd h
  acked_behind to con (b ∷ newer) older c there (inl h) =
      inl (h, begun_behind (λ e. begun e ≡ Some con) newer older c there)
  acked_behind to con (b ∷ newer) older c there (inr h) = inr (acked_behind to con newer older c there h)

  module _ (to : Endpoint) (token : List ℕ) where
    abbrev pub pair : Pair
    pair = record { to = to; token = token }

    pair_is : (x : Telling) (m : Message) → Conveys x to m → m.token ≡ token → pair ≡ pair_of limits szx x
    pair_is x m k is = sym (ap {B = Pair} (λ z. record { to = z; token = x.token }) k.to_is
        ∙ ap {B = Pair} (λ z. record { to = to; token = z }) (k.token_is ∙ is))

    -- of two messages that are told under the token the later one follows on
    module _ (k l : Way) (m n : Message) (older_is : m.token ≡ token) (newer_is : n.token ≡ token) where
      abbrev First : List Call → Call → Type 0
      First past c = TellsIn limits szx k to m past c

      abbrev Second : List Call → Call → Type 0
      Second past c = TellsIn limits szx l to n past c

      module _ (newer older : List Call) (c d : Call) (law : ServerLaw limits szx setup (d ∷ (newer ++ c ∷ older)))
          (once : OnceOf pair (d ∷ (newer ++ c ∷ older))) (x : First older c) (y : Second (newer ++ c ∷ older) d) where
        once_here : OnceOf (pair_of limits szx x.told) (d ∷ (newer ++ c ∷ older))
        once_here = subst (λ z. OnceOf z (d ∷ (newer ++ c ∷ older))) (pair_is x.told m x.conveys older_is) once

        to_same : y.told.to ≡ x.told.to
        to_same = y.conveys.to_is ∙ sym x.conveys.to_is

        token_same : y.told.token ≡ x.told.token
        token_same = y.conveys.token_is ∙ (newer_is ∙ (sym older_is ∙ sym x.conveys.token_is))

        follow_split : FollowsOn limits.changes newer x.told y.told
        follow_split = follow_here newer older c d x.told y.told law once_here x.here y.here to_same token_same

        split_registers : y.told.registers ≡ false
        split_registers = registers_not newer older c d x.told y.told law once_here x.here y.here to_same token_same

      -- .. with all that is known of both
      module _ (A B : List Call → Call → Type 0) (is_first : (past : List Call) (c : Call) → A past c → First past c)
          (is_second : (past : List Call) (c : Call) → B past c → Second past c) where
        pub record Follow : Type 0 where
          pub after : List Call
          pub older : List Call
          pub call : Call
          pub one : A older call
          pub next : Call
          pub other : B (after ++ call ∷ older) next
          pub follows : FollowsOn limits.changes after (is_first older call one).told
              (is_second (after ++ call ∷ older) next other).told

        follows_split : (past : List Call) (d : Call) → ServerLaw limits szx setup (d ∷ past) → OnceOf pair (d ∷ past)
            → B past d → (s : Split A past) → Follow
        follows_split past d law once y s = by s.newer s.entry s.older s.is s.here
          where
            by : (newer : List Call) (c : Call) (older : List Call) → past ≡ newer ++ c ∷ older → A older c → Follow
            by newer c older e x =
                let z = subst (λ q. B q d) e y in
                record {
                  after = newer;
                  older = older;
                  call = c;
                  one = x;
                  next = d;
                  other = z;
                  follows = follow_split newer older c d (subst (λ q. ServerLaw limits szx setup (d ∷ q)) e law)
                      (subst (λ q. OnceOf pair (d ∷ q)) e once) (is_first older c x)
                      (is_second (newer ++ c ∷ older) d z);
                }

        pub follows_in : (t : List Call) → ServerLaw limits szx setup t → OnceOf pair t
            → Sometime (λ past d. B past d × Sometime A past) t → Follow
        follows_in [] law once h = absurd h
        follows_in (d ∷ past) law once (inl h) = follows_split past d law once h.0 (split A past h.1)
        follows_in (d ∷ past) law once (inr h) =
            follows_in past (facts.back limits szx setup (d ∷ []) past law) once.1 h

      -- the answer to the registration, which goes in no CON, is told first
      reply_split : l ≡ InReply → (past : List Call) (d : Call) → ServerLaw limits szx setup (d ∷ past)
          → OnceOf pair (d ∷ past) → Second past d → (s : Split First past) → ⊥
      reply_split reply past d law once y s = by s.newer s.entry s.older s.is s.here
        where
          by : (newer : List Call) (c : Call) (older : List Call) → past ≡ newer ++ c ∷ older → First older c → ⊥
          by newer c older e x =
              let z = subst (λ q. Second q d) e y in
              let no = split_registers newer older c d (subst (λ q. ServerLaw limits szx setup (d ∷ q)) e law)
              (subst (λ q. OnceOf pair (d ∷ q)) e once) x z in
              let yes = reply_registers (own (newer ++ c ∷ older)) d z.told z.here (z.way_is ∙ reply) in
              let both : false ≡ true = sym no ∙ yes in
              cc both

      pub reply_first : l ≡ InReply → (t : List Call) → ServerLaw limits szx setup t → OnceOf pair t
          → Sometime (λ past d. Second past d × Sometime First past) t → ⊥
      reply_first reply [] law once h = h
      reply_first reply (d ∷ past) law once (inl h) = reply_split reply past d law once h.0 (split First past h.1)
      reply_first reply (d ∷ past) law once (inr h) =
          reply_first reply past (facts.back limits szx setup (d ∷ []) past law) once.1 h

    -- where the earlier one was sent in a CON, that was acknowledged before the later one was made
    module _ (con : Open) (l : Way) (m n : Message) (older_is : m.token ≡ token) (newer_is : n.token ≡ token) where
      abbrev ByCon : List Call → Call → Type 0
      ByCon past c = TellsIn limits szx (InCon con.id) to m past c
          × Ever (λ b. begun b ≡ Some con) (call_adds limits szx setup past c)

      abbrev Behind : List Call → Call → Type 0
      Behind past c = TellsIn limits szx l to n past c

      acked_split : (past : List Call) (d : Call) → ServerLaw limits szx setup (d ∷ past) → OnceOf pair (d ∷ past)
          → Behind past d → (s : Split ByCon past) → Sometime (AckedBehind to con) past
      acked_split past d law once y s = by s.newer s.entry s.older s.is s.here
        where
          by : (newer : List Call) (c : Call) (older : List Call) → past ≡ newer ++ c ∷ older → ByCon older c
              → Sometime (AckedBehind to con) past
          by newer c older e x =
              let z = subst (λ q. Behind q d) e y in
              let f = follow_split (InCon con.id) l m n older_is newer_is newer older c d
              (subst (λ q. ServerLaw limits szx setup (d ∷ q)) e law)
              (subst (λ q. OnceOf pair (d ∷ q)) e once) x.0 z in
              let acked = subst (λ q. Ever (HearsAck q con.id) newer) x.0.conveys.to_is
              (f.acknowledged con.id x.0.way_is) in
              subst (Sometime (AckedBehind to con)) (sym e) (acked_behind to con newer older c x.1 acked)

      pub acked_in : (t : List Call) → ServerLaw limits szx setup t → OnceOf pair t
          → Sometime (λ past d. Behind past d × Sometime ByCon past) t → Sometime (AckedBehind to con) t
      acked_in [] law once h = absurd h
      acked_in (d ∷ past) law once (inl h) = inr (acked_split past d law once h.0 (split ByCon past h.1))
      acked_in (d ∷ past) law once (inr h) = inr (acked_in past (facts.back limits szx setup (d ∷ []) past law) once.1
          h)

-- Where few exchanges end, a Message ID and a token are free at the client's side.
use Rattle.std.proofs.Common.{◌≡◌, ◌⊎◌, inl, inr, ℕ, ◌+◌, ◌-◌, ◌*◌, ◌^◌, ◌≤◌, ◌<◌, Bool, true, false, Some}
use Rattle.std.proofs.Common.{List, [], ◌∷◌, Err, refl, sym, subst, ap, ◌∙◌, arith, cond}
use Rattle.coap_types.specs.declared.endpoint.Endpoint.{Endpoint}
use Rattle.coap_types.specs.declared.message.TheConstants.{MESSAGE_IDS as message_ids}
use Rattle.coap_layer.specs.Machine.State as L
use Rattle.coap_layer.specs.Machine.State.{made}
use Rattle.coap_layer.specs.Machine.Steps.{left_after}
use Rattle.coap_layer.specs.Ids as ids
use Rattle.coap_layer.specs.Ids.{Withholds}
use Rattle.coap_layer.specs.Rows.{Stands, Confirms}
use Rattle.coap_layer.specs.Taking.{HeldIsMany}
use Rattle.coap_layer.specs.Trace as T
use Rattle.coap_layer.specs.Trace.{Entry}
use Rattle.coap_layer.specs.declared.setup.Setup.{Setup}
use Rattle.coap_layer.specs.Words.{numbers, sent_by}
use Rattle.coap_layer.proofs.Facts.Calls.{steps_left}
use Rattle.coap_layer.proofs.Facts.StepsOfLayer.{steps_split}
use Rattle.coap_exchange.specs.declared.asker.AskRefusal.{AskRefusal}
use Rattle.coap_exchange.specs.declared.asker.AskRefusal.TheVariants as refusal
use Rattle.coap_exchange.specs.declared.matching.Opening.{Opening}
use Rattle.coap_exchange.specs.declared.matching.Opening.TheVariants.{Running, Spent, Sends}
use Rattle.coap_exchange.specs.AskerTrace.{Own, Call, Ask, Take}
use Rattle.coap_exchange.specs.AskerSteps.{lower}
use Rattle.coap_exchange.specs.AskerRequests.{opening_of, request_token, content_of, beneath, is_yes}
use Rattle.coap_exchange.specs.AskerRequests.{send_refusal, sent_answer, ask_answer}
use Rattle.coap_exchange.specs.AskerFollows.{ends, fresh_in}
use Rattle.coap_exchange.specs.AskerIds.{clock_of, refused, FewEnd, IdIsFree, RequestsAreSent}
use Rattle.coap_exchange.specs.AskerLaw.{own_of, lower_of, below_of, ExchangeLaw}
use Rattle.coap_exchange.proofs.Exchanges.TokensOnce.{counted}
use Rattle.coap_exchange.proofs.Ids.CountsOfFew.{Rises, since_reuse, lifetimes, none_since, few_before}
use Rattle.coap_exchange.proofs.Ids.ClientIds.{clock_is, ids_counted}
use Rattle.coap_exchange.proofs.Leading.ClientLeads.{layer_stands}

-- lifetimes in 2^64 ms
abbrev all_lifetimes : ℕ
all_lifetimes = 74682872027683

module _ (server : Endpoint) (setup : Setup) where
  rises_at : (t : List Call) (c : Call) → clock_of server setup t ≤ clock_of server setup (c ∷ t)
  rises_at t (Take answer) = omega arith
  rises_at t _ = omega arith

  pub clock_rises : (t : List Call) → Rises (clock_of server setup) ends t
  clock_rises [] = tt
  clock_rises (c ∷ t) = (rises_at t c, clock_rises t)

  pub id_is_free : (t : List Call) → ExchangeLaw server setup t
      → HeldIsMany setup.word (numbers (below_of server setup t))
      → IdIsFree server setup t
  id_is_free t law held most now few_ids few le withheld =
      let m = held now withheld in
      let young = m.young in
      let many = m.many in
      let all = (ids_counted server setup t law).ids m.since in
      let same = clock_is server setup t in
      let ended = since_reuse (clock_of server setup) ends most (most - 1) m.since now t (clock_rises t) few
      (omega arith)
      (omega (arith, same, le)) young in
      omega (arith, many, all, ended, few_ids)

  pub token_is_left : (most : ℕ) (t : List Call) → ExchangeLaw server setup t → 4 * most ≤ message_ids
      → FewEnd server setup most t → clock_of server setup t < 2 ^ 64 → fresh_in t < 2 ^ 64 - 1
  token_is_left most t law few_ids few till =
      let all = (ids_counted server setup t law).tokens in
      let some = lifetimes (clock_of server setup) ends most (most - 1) t few (omega arith) all_lifetimes 0 in
      let none = none_since (clock_of server setup) ends (0 + all_lifetimes * 247001) t (clock_rises t)
      (omega (arith, till))
      in
      omega (arith, all, some, none, few_ids)

-- why a request is refused, by the rows of the layer
module _ (setup : Setup) (past : List Entry) (old : L.State) (now : ℕ) (server : Endpoint) (content : T.Content) (w : ℕ)
    (below : T.Answer) (token : List ℕ) (why : AskRefusal) where
  abbrev entered : Opening → Entry
  entered o = made old now (beneath o server content w)

  sent_why : (a : T.Answer) → below ≡ a → Err why ≡ sent_answer (sent_by below) (send_refusal below) token
      → Err why ≡ sent_answer (sent_by a) (send_refusal a) token
  sent_why a is h = h ∙ ap (λ b. sent_answer (sent_by b) (send_refusal b) token) is

  runs_when : (o : Opening) → Stands setup past (entered o) → (entered o).answer ≡ below
      → (Withholds setup.word (numbers past) (entered o).at → ⊥) → (why ≡ refusal.TokensSpent → ⊥)
      → Err why ≡ ask_answer o below token → why ≡ refusal.Running
  runs_when Running stands told free spare h = cc h
  runs_when Spent stands told free spare h = by (is_yes below) refl (cc h) stands.row.0
    where
      by : (b : Bool) → is_yes below ≡ b → why ≡ cond b refusal.TokensSpent refusal.NoIds
          → ((ids.MayGive setup.word (numbers past) (entered Spent).at × ((entered Spent).answer ≡ T.Is true))
          ⊎ (Withholds setup.word (numbers past) (entered Spent).at × ((entered Spent).answer ≡ T.Is false)))
          → why ≡ refusal.Running
      by true said is row = absurd (spare is)
      by false unsaid is (inr r) = absurd (free r.0)
      by false unsaid is (inl r) = let k : is_yes below ≡ true = ap is_yes (sym told ∙ r.1) in absurd (cc (k, unsaid))
  runs_when Sends stands told free spare h = by stands.row.1
    where
      by : Confirms setup past (entered Sends) server content → why ≡ refusal.Running
      by (inl r) = let k = sent_why T.Busied (sym told ∙ r.answer) h in cc k
      by (inr (f, inl r)) = absurd (free r.held)
      by (inr (f, inr r)) = let k = sent_why (T.Sent r.id) (sym told ∙ r.answer) h in absurd (cc k)

module _ (server : Endpoint) (setup : Setup)
    (held : (t : List Call) → ExchangeLaw server setup t → HeldIsMany setup.word (numbers (below_of server setup t)))
  where
    here : (most : ℕ) (c : Call) (t : List Call) → ExchangeLaw server setup (c ∷ t) → ExchangeLaw server setup t
        → 4 * most ≤ message_ids → FewEnd server setup most t → clock_of server setup t < 2 ^ 64
        → (why : AskRefusal) → refused c ≡ Some why → why ≡ refusal.Running
    here most (Ask now r w below (Err why)) t law before few_ids few till other is =
        let s : Own = own_of server setup t in
        let steps = law.layer in
        let same : why ≡ other = cc is in
        let stands = (layer_stands server setup (Ask now r w below (Err why) ∷ t) law).0 in
        let told : (made (left_after (L.start setup) (lower_of server setup t)) now
        (beneath (opening_of s r) s.server (content_of (request_token s r) r) w)).answer ≡ below =
        sym (subst
        (λ z. below ≡ (made z now (beneath (opening_of s r) s.server (content_of (request_token s r) r) w)).answer)
        (steps_left (L.start setup) (lower_of server setup t) steps.0 steps.1) steps.2.right) in
        subst (λ x. x ≡ refusal.Running) same
        (runs_when setup (below_of server setup t) (left_after (L.start setup) (lower_of server setup t)) now s.server
        (content_of (request_token s r) r) w below (request_token s r) why (opening_of s r) stands told
        (id_is_free server setup t before (held t before) most _ few_ids few stands.time)
        (λ spent. (let k = (counted server setup (Ask now r w below (Err why) ∷ t) law.rows).0.0.1.spent now w r below
        (ap (λ x. Ask now r w below (Err x)) spent) in
        let l = token_is_left server setup most t before few_ids few till in
        omega (arith, k, l)))
        law.rows.0)
    here most _ t law before few_ids few till why is = absurd (cc is)

    pub requests_are_sent : (t : List Call) → ExchangeLaw server setup t → RequestsAreSent server setup t
    requests_are_sent [] law most few_ids few till = tt
    requests_are_sent (c ∷ t) law most few_ids few till =
        let parts = steps_split (L.start setup) law.left (lower (own_of server setup t) c) (lower_of server setup t)
        law.layer in
        let before : ExchangeLaw server setup t = record { rows = law.rows.1; left = parts.0; layer = parts.1 } in
        let fewer = few_before (clock_of server setup) ends most c t few in
        let rises = rises_at server setup t c in
        let earlier : clock_of server setup t < 2 ^ 64 = omega (arith, till, rises) in
        (here most c t law before few_ids fewer earlier, requests_are_sent t before most few_ids fewer earlier)

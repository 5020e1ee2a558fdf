-- The last NON of the observation, as the message layer sent it (RFC 7252, section 4.3).
use Rattle.std.proofs.Common.{◌≡◌, ◌≤◌, ◌&&◌, nat_eq, inl, inr, ℕ, Bool, true, false, List, [], ◌∷◌, ◌++◌, refl}
use Rattle.std.proofs.Common.{ap, sym, subst, ◌∙◌, arith}
use Rattle.std.specs.Cmp.Lexicographic.{bytes_decides, pointwise}
use Rattle.coap_types.specs.Recognised.{lacks_critical}
use Rattle.coap_types.specs.Roles.{role_of}
use Rattle.coap_types.specs.SameEndpoint.{same_endpoint}
use Rattle.coap_types.specs.declared.direction.Direction.TheVariants.{Response}
use Rattle.coap_types.specs.declared.role.Role.TheVariants as role
use Rattle.coap_types.specs.Past.{Ever, Sometime, Always}
use Rattle.coap_types.specs.declared.endpoint.Endpoint.{Endpoint}
use Rattle.coap_types.specs.declared.message.Kind.TheVariants.{Non}
use Rattle.coap_types.proofs.Facts.Traces.{Ever_back}
use Rattle.coap_codec.specs.Spelling.{message_bytes}
use Rattle.coap_layer.specs.Channel.{PlainSent}
use Rattle.coap_layer.specs.Rows.{LayerLaw, Row}
use Rattle.coap_layer.specs.Trace as L
use Rattle.coap_layer.specs.Trace.{with_head}
use Rattle.coap_observe.specs.Observers.{Noted}
use Rattle.coap_exchange.specs.AnswererSteps.{content_with}
use Rattle.coap_exchange.specs.declared.answerer.Due.TheVariants as due
use Rattle.coap_server.specs.Follows.Observes.{notice}
use Rattle.coap_server_laws.specs.Follows.Recognised.{IsRecognised}
use Rattle.coap_server_laws.specs.Follows.Ways.{is_pair, number_in}
use Rattle.coap_server.specs.Law.{ServerLaw, own_of}
use Rattle.coap_server.specs.Notifying.{notification}
use Rattle.coap_server.specs.Trace as S
use Rattle.coap_server_laws.proofs.Facts.Laws as server_facts
use Rattle.coap_record.specs.Events.{Config}
use Rattle.coap_promise.specs.Hops.{server_adds}
use Rattle.coap_record.specs.Legal.{IsConfig}
use Rattle.coap_promise.proofs.Facts.Delivery.HopsAreEntries.{server_layer, server_next}
use Rattle.coap_promise.proofs.Facts.Observations.ToldThen.{told_in_non}
use Rattle.coap_smooth.proofs.Watching.StillThere.NonReset.{IsPlain}
use Rattle.coap_smooth.proofs.Watching.StillThere.NonSent.{TellsNon, non_is, sends_it}
use Rattle.coap_smooth.proofs.Watching.StillThere.ResetLaws.{ResetLaws}

-- of one endpoint and token
pair_token : (to : Endpoint) (token : List ℕ) (by : Endpoint) (bytes : List ℕ) → is_pair to token by bytes ≡ true
    → bytes ≡ token
pair_token to token by bytes h = go (same_endpoint by to) h
  where
    go : (b : Bool) → (b && pointwise nat_eq bytes token) ≡ true → bytes ≡ token
    go true k = (bytes_decides bytes token).0 k
    go false k = absurd (cc k)

module _ (config : Config) (range : IsConfig config) where
  pub recognised : (t : List S.Call) → ServerLaw config.limits config.server_szx config.server_setup t
      → Always (IsRecognised config.limits config.server_szx) t
  recognised t k = server_facts.recognised config.limits config.server_szx config.server_setup t k range.server_szx
      range.server_limit.1

module _ (laws : ResetLaws) (config : Config) (range : IsConfig config) (token : List ℕ) where
  -- the last NON of the registration, as the message layer sent it
  pub record NonOf (t : List S.Call) (id since : ℕ) : Type 0 where
    pub content : L.Content
    pub at : ℕ
    pub since_then : since ≤ at
    pub there : Ever (λ (e : L.Entry). (e.answer ≡ L.Sent id) × (e.at ≡ at) × IsPlain content e) (server_layer config t)
    pub class : role_of content.code ≡ role.Response
    pub same : content.token ≡ token
    pub understood : lacks_critical Response content.options ≡ false

  non_here : (past : List S.Call) (b : S.Call) → ServerLaw config.limits config.server_szx config.server_setup
      (b ∷ past)
      → (to : Endpoint) (non : Noted) → TellsNon config.limits config.server_szx to token non past b
      → NonOf (b ∷ past) non.id non.at
  non_here past b server to non k =
      let s : S.Own = own_of config.limits config.server_szx past in
      let n = non_is s b k.told k.here k.way in
      let c : S.Call = S.Ticks n.now n.word n.below n.room due.Idle n.passed (S.Notifies n.observer n.reply) n.id
      n.answer in
      let law_c = subst (λ z. ServerLaw config.limits config.server_szx config.server_setup (z ∷ past)) n.is server in
      let sent = sends_it config past n.now n.word n.below n.room n.passed n.observer n.reply n.id n.answer law_c
      n.plain in
      let number : n.id ≡ non.id = sym (ap number_in n.is) ∙ k.number in
      let content : L.Content = content_with n.observer.token (notification s.store n.observer n.reply) in
      let adds : server_adds config past b ≡ sent.entry ∷ sent.older =
      ap (λ z. server_adds config past z) n.is ∙ sent.adds in
      let layer_law : LayerLaw config.server_setup (sent.entry ∷ (sent.older ++ server_layer config past)) =
      subst (LayerLaw config.server_setup) (server_next config past b ∙ ap (λ l. l ++ server_layer config past) adds)
      (server_facts.layer config.limits config.server_szx config.server_setup (b ∷ past) server) in
      let row : Row config.server_setup (sent.older ++ server_layer config past) sent.entry
      (L.Plain n.observer.to content) =
      subst (Row config.server_setup (sent.older ++ server_layer config past) sent.entry) sent.call_is
      layer_law.0.row in
      let small = (laws.small config.server_setup (sent.entry ∷ (sent.older ++ server_layer config past)) layer_law).0
      n.id sent.answer_is in
      let goes : PlainSent n.observer.to (message_bytes (with_head Non n.id content)) sent.entry.at sent.entry =
      record {
        goes = record {
          content = content;
          id = n.id;
          call = sent.call_is;
          answer = sent.answer_is;
          spells = row.0 Non n.id small;
        };
        from = omega arith;
        till = omega arith;
      } in
      let then = told_in_non config past b k.told n.observer.to (message_bytes (with_head Non n.id content))
      sent.entry.at k.here
      (subst (Ever (PlainSent n.observer.to (message_bytes (with_head Non n.id content)) sent.entry.at)) (sym adds)
      (inl goes)) in
      let from = then.0 in
      let at_is = k.at_is in
      record {
        content = content;
        at = sent.entry.at;
        since_then = omega (arith, from, at_is);
        there = subst (Ever (λ (e : L.Entry). (e.answer ≡ L.Sent non.id) × (e.at ≡ sent.entry.at) × IsPlain content e))
            (sym (server_next config past b ∙ ap (λ l. l ++ server_layer config past) adds))
            (inl (sent.answer_is ∙ ap (λ i. L.Sent i) number, refl, (n.observer.to, sent.call_is)));
        class = sent.class;
        same = n.token_is ∙ pair_token to token k.told.to k.told.token k.pair;
        understood = (recognised config range (b ∷ past) server).0.notices
            (record { observer = n.observer; reply = n.reply })
            (ap notice n.is);
      }

  pub non_in : (t : List S.Call) → ServerLaw config.limits config.server_szx config.server_setup t
      → (to : Endpoint) (non : Noted)
      → Sometime (TellsNon config.limits config.server_szx to token non) t → NonOf t non.id non.at
  non_in [] server to non h = absurd h
  non_in (b ∷ past) server to non (inl h) = non_here past b server to non h
  non_in (b ∷ past) server to non (inr h) =
      let k = non_in past (server_facts.back config.limits config.server_szx config.server_setup (b ∷ []) past server)
      to non h in
      record {
        content = k.content;
        at = k.at;
        since_then = k.since_then;
        there = subst (Ever (λ (e : L.Entry). (e.answer ≡ L.Sent non.id) × (e.at ≡ k.at) × IsPlain k.content e))
            (sym (server_next config past b))
            (Ever_back (λ (e : L.Entry). (e.answer ≡ L.Sent non.id) × (e.at ≡ k.at) × IsPlain k.content e)
            (server_adds config past b) (server_layer config past) k.there);
        class = k.class;
        same = k.same;
        understood = k.understood;
      }

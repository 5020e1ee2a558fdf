-- What a server keeps of uploads and of requests that wait, renamed.
use Rattle.std.proofs.Common.{◌≡◌, ℕ, ◌-◌, ◌==◌, nat_le, Bool, true, false, ◌&&◌, Option, Some, None, List, []}
use Rattle.std.proofs.Common.{◌∷◌, ◌++◌, refl, ap, ap₂, sym, ◌∙◌, cond, length, map, option_map}
use Rattle.std.proofs.lemmas.List.{length-map, map-append}
use Rattle.coap_types.specs.declared.block.Block.{Block}
use Rattle.coap_types.specs.declared.endpoint.Endpoint.{Endpoint}
use Rattle.coap_types.specs.Path.{same_path}
use Rattle.coap_codec.specs.Message.{kind_number}
use Rattle.coap_block.specs.AssemblyState as B
use Rattle.coap_block.specs.AssemblyState.{AssemblyState, Key, PartialBody}
use Rattle.coap_block.specs.AssemblyStep as T
use Rattle.coap_block.specs.declared.assembly_step.AssemblyRefusal.TheVariants.{BadRequest, EntityIncomplete}
use Rattle.coap_block.specs.declared.assembly_step.AssemblyRefusal.TheVariants.{EntityTooLarge, Unavailable}
use Rattle.coap_block.specs.declared.block_verdict.BlockVerdict.{BlockVerdict}
use Rattle.coap_block.specs.declared.block_verdict.BlockVerdict.TheVariants.{Refuse, Join, Done}
use Rattle.coap_resource.specs.Serves.{Question}
use Rattle.coap_exchange.specs.declared.answerer.Asked.{Asked}
use Rattle.coap_exchange.specs.AnswererFollows.{same_asked}
use Rattle.coap_exchange.specs.AnswererSteps.{may_defer}
use Rattle.coap_exchange.specs.Tokens.{same_token}
use Rattle.coap_server.specs.Checks.{Verdict, Uploads}
use Rattle.coap_server.specs.Deferring as D
use Rattle.coap_server.specs.Trace.{Own, Waiting, Handling, Waits}
use Rattle.coap_server.specs.Uploads as U
use Rattle.coap_opaque.specs.Renaming.Endpoints.{TellsApart}
use Rattle.coap_opaque.specs.Renaming.OfExchanges as X
use Rattle.coap_opaque.specs.Renaming.OfServer as S
use Rattle.coap_opaque.proofs.Renaming.AnswererParts.{may_defer_same}
use Rattle.coap_opaque.proofs.Renaming.Lists.{filter_same, find_same}

module _ (rename : Endpoint → Endpoint) where
  -- the partial bodies that are there at a moment
  there_same : (u : AssemblyState) (now : ℕ)
      → T.there_at (S.uploads rename u) now ≡ map (S.partial rename) (T.there_at u now)
  there_same u now =
      filter_same (S.partial rename) (B.is_live (T.moment_at u now)) (B.is_live (T.moment_at u now)) (λ p. refl)
      u.partials

  bytes_same : (o : Option PartialBody) → B.bytes_of (option_map (S.partial rename) o) ≡ B.bytes_of o
  bytes_same None = refl
  bytes_same (Some p) = refl

  reached_of_same : (o : Option PartialBody) → B.reached_of (option_map (S.partial rename) o) ≡ B.reached_of o
  reached_of_same None = refl
  reached_of_same (Some p) = refl

  -- a request that waits

  pub waiting_with_same : (at : ℕ) (a : Asked) (h : Handling) (ws : List Waiting)
      → D.waiting_with at (X.asked rename a) (S.handling rename h) (map (S.waiting rename) ws)
      ≡ map (S.waiting rename) (D.waiting_with at a h ws)
  waiting_with_same at a (Waits q delay) ws =
      sym (map-append (S.waiting rename) ws (record { asked = a; at = at; delay = delay; question = q } ∷ []))
  waiting_with_same at a _ ws = refl

  deferral_by_same : (o : Option ℕ) (place : Bool) (at : ℕ) (a : Asked)
      → D.deferral_by o place at (X.asked rename a) ≡ map (X.call rename) (D.deferral_by o place at a)
  deferral_by_same None place at a = refl
  deferral_by_same (Some delay) place at a = refl

  pub deferral_same : (s : Own) (a : Asked) (q : Question)
      → D.deferral (S.own rename s) (X.asked rename a) q ≡ map (X.call rename) (D.deferral s a q)
  deferral_same s a q =
      let delay : Option ℕ = D.delay_for a.kind q.path s.delays in
      ap (λ b. D.deferral_by delay b s.clock (X.asked rename a)) (may_defer_same rename s.exchanges.deferred)
      ∙ deferral_by_same delay (may_defer s.exchanges.deferred) s.clock a

  module _ (apart : TellsApart rename) where
    key_same : (p : PartialBody) (k : Key)
        → B.same_key (S.partial rename p).key (S.key rename k) ≡ B.same_key p.key k
    key_same p k =
        ap (λ b. b && (same_path p.key.path k.path && B.same_method p.key.method k.method)) (apart p.key.from k.from)

    partial_same : (k : Key) (ps : List PartialBody)
        → B.partial_of (S.key rename k) (map (S.partial rename) ps) ≡ option_map (S.partial rename) (B.partial_of k ps)
    partial_same k ps =
        find_same (S.partial rename) (λ p. B.same_key p.key k) (λ p. B.same_key p.key (S.key rename k))
        (λ p. key_same p k) ps

    without_same : (k : Key) (ps : List PartialBody)
        → B.without_key (S.key rename k) (map (S.partial rename) ps) ≡ map (S.partial rename) (B.without_key k ps)
    without_same k [] = refl
    without_same k (p ∷ ps) =
        ap₂ (λ b r. cond b (map (S.partial rename) ps) (S.partial rename p ∷ r)) (key_same p k) (without_same k ps)
        ∙ by (B.same_key p.key k)
      where
        by : (b : Bool)
            → cond b (map (S.partial rename) ps) (S.partial rename p ∷ map (S.partial rename) (B.without_key k ps))
            ≡ map (S.partial rename) (cond b ps (p ∷ B.without_key k ps))
        by true = refl
        by false = refl

    put_same : (new : PartialBody) (ps : List PartialBody)
        → B.put (S.partial rename new) (map (S.partial rename) ps) ≡ map (S.partial rename) (B.put new ps)
    put_same new [] = refl
    put_same new (p ∷ ps) =
        ap₂ (λ b r. cond b (S.partial rename new ∷ map (S.partial rename) ps) (S.partial rename p ∷ r))
        (key_same p new.key) (put_same new ps)
        ∙ by (B.same_key p.key new.key)
      where
        by : (b : Bool)
            → cond b (S.partial rename new ∷ map (S.partial rename) ps)
            (S.partial rename p ∷ map (S.partial rename) (B.put new ps))
            ≡ map (S.partial rename) (cond b (new ∷ ps) (p ∷ B.put new ps))
        by true = refl
        by false = refl

    -- a block of an upload

    payload_same : (k : Key) (num : ℕ) (payload : List ℕ) (ps : List PartialBody)
        → B.with_payload (S.key rename k) num payload (map (S.partial rename) ps) ≡ B.with_payload k num payload ps
    payload_same k num payload ps =
        ap (λ xs. cond (num == 0) [] xs ++ payload)
        (ap B.bytes_of (partial_same k ps) ∙ bytes_same (B.partial_of k ps))

    reached_same : (k : Key) (ps : List PartialBody)
        → B.reached (S.key rename k) (map (S.partial rename) ps) ≡ B.reached k ps
    reached_same k ps = ap B.reached_of (partial_same k ps) ∙ reached_of_same (B.partial_of k ps)

    pub verdict_same : (u : AssemblyState) (now : ℕ) (k : Key) (b : Block) (len : ℕ)
        → T.verdict_at (S.uploads rename u) now (S.key rename k) b len ≡ T.verdict_at u now k b len
    verdict_same u now k b len =
        let there : List PartialBody = T.there_at u now in
        ap (λ ps. T.ruling (record { szx = u.szx; limit = u.limit }) (B.reached (S.key rename k) ps)
        (length (B.without_key (S.key rename k) ps)) b len) (there_same u now)
        ∙ ap₂ (λ o n. T.ruling (record { szx = u.szx; limit = u.limit }) o n b len)
        (reached_same k there)
        (ap length (without_same k there) ∙ length-map (B.without_key k there) (S.partial rename))

    pub with_block_same : (u : AssemblyState) (now : ℕ) (k : Key) (b : Block) (payload : List ℕ)
        → T.with_block (S.uploads rename u) now (S.key rename k) b payload ≡ T.with_block u now k b payload
    with_block_same u now k b payload =
        ap (B.with_payload (S.key rename k) b.num payload) (there_same u now)
        ∙ payload_same k b.num payload (T.there_at u now)

    body_same : (k : Key) (num : ℕ) (payload : List ℕ) (now : ℕ) (ps : List PartialBody)
        → B.body_with (S.key rename k) num payload now (map (S.partial rename) ps)
        ≡ S.partial rename (B.body_with k num payload now ps)
    body_same k num payload now ps =
        ap (λ (xs : List ℕ). let p : PartialBody = record { key = S.key rename k; bytes = xs; last = now } in p)
        (payload_same k num payload ps)

    partials_same : (v : BlockVerdict) (new : PartialBody) (ps : List PartialBody)
        → T.partials_by v (S.partial rename new) (map (S.partial rename) ps)
        ≡ map (S.partial rename) (T.partials_by v new ps)
    partials_same (Refuse BadRequest) new ps = refl
    partials_same (Refuse EntityIncomplete) new ps = refl
    partials_same (Refuse EntityTooLarge) new ps = without_same new.key ps
    partials_same (Refuse Unavailable) new ps = refl
    partials_same (Join szx) new ps = put_same new ps
    partials_same Done new ps = without_same new.key ps

    after_block_same : (u : AssemblyState) (now : ℕ) (k : Key) (b : Block) (payload : List ℕ)
        → T.after_block (S.uploads rename u) now (S.key rename k) b payload
        ≡ S.uploads rename (T.after_block u now k b payload)
    after_block_same u now k b payload =
        let there : List PartialBody = T.there_at u now in
        let at : ℕ = T.moment_at u now in
        let v : BlockVerdict = T.verdict_at u now k b (length payload) in
        let partials =
        ap₂ (λ w ps. T.partials_by w (B.body_with (S.key rename k) b.num payload at ps) ps)
        (verdict_same u now k b (length payload)) (there_same u now)
        ∙ (ap (λ p. T.partials_by v p (map (S.partial rename) there)) (body_same k b.num payload at there)
        ∙ partials_same v (B.body_with k b.num payload at there) there) in
        λ i. record { szx = u.szx; limit = u.limit; clock = at; partials = partials i }

    pub uploads_after_same : (at : ℕ) (a : Asked) (v : Verdict) (u : AssemblyState)
        → U.uploads_after at (X.asked rename a) v (S.uploads rename u)
        ≡ S.uploads rename (U.uploads_after at a v u)
    uploads_after_same at a (Uploads q b) u = after_block_same u at (U.key_of a q) b q.body
    uploads_after_same at a _ u = refl

    -- which request waits

    asked_same : (a b : Asked) → same_asked (X.asked rename a) (X.asked rename b) ≡ same_asked a b
    asked_same a b =
        ap (λ x. x && ((kind_number a.kind == kind_number b.kind)
        && ((a.id.0 == b.id.0) && same_token a.token b.token))) (apart a.from b.from)

    waits_same : (at : ℕ) (a : Asked) (w : Waiting)
        → D.is_of at (X.asked rename a) (S.waiting rename w) ≡ D.is_of at a w
    waits_same at a w = ap (λ b. b && nat_le w.delay (at - w.at)) (asked_same a w.asked)

    pub question_same : (at : ℕ) (a : Asked) (ws : List Waiting)
        → D.question_of at (X.asked rename a) (map (S.waiting rename) ws) ≡ D.question_of at a ws
    question_same at a [] = refl
    question_same at a (w ∷ ws) =
        ap₂ (λ b o. cond b (Some w.question) o) (waits_same at a w) (question_same at a ws)

    pub without_waiting_same : (at : ℕ) (a : Asked) (ws : List Waiting)
        → D.without_waiting at (X.asked rename a) (map (S.waiting rename) ws)
        ≡ map (S.waiting rename) (D.without_waiting at a ws)
    without_waiting_same at a [] = refl
    without_waiting_same at a (w ∷ ws) =
        ap₂ (λ b r. cond b (map (S.waiting rename) ws) (S.waiting rename w ∷ r)) (waits_same at a w)
        (without_waiting_same at a ws)
        ∙ by (D.is_of at a w)
      where
        by : (b : Bool)
            → cond b (map (S.waiting rename) ws)
            (S.waiting rename w ∷ map (S.waiting rename) (D.without_waiting at a ws))
            ≡ map (S.waiting rename) (cond b ws (w ∷ D.without_waiting at a ws))
        by true = refl
        by false = refl

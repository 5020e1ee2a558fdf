-- What a layer gives to be sent is the first of what waits; where nothing waits, nothing changes.
use Rattle.std.proofs.Common.{◌≡◌, Bool, true, false, cond, Some, None, List, [], ◌∷◌, ◌++◌, drop, filter, map}
use Rattle.std.proofs.Common.{slice_get, refl, ap, sym, subst, ◌∙◌}
use Rattle.std.specs.List.{filter_map}
use Rattle.std.proofs.lemmas.List.{append-nil}
use Rattle.coap_layer.specs.Machine.State as S
use Rattle.coap_layer.specs.Machine.State.{Arrived, is_live, stores, made}
use Rattle.coap_layer.specs.Machine.Steps.{Asked, Steps}
use Rattle.coap_layer.specs.Trace as L
use Rattle.coap_layer.specs.declared.setup.Setup.{Setup}
use Rattle.coap_layer.specs.Words.{left_by}
use Rattle.coap_layer.proofs.Facts.CallsOfLayer.{left_same_nil}

-- what is remembered is live

abbrev pub OnlyLive : S.State → Type 0
OnlyLive s = s.arrived ≡ filter (is_live s.clock) s.arrived

filter_again : {A : Type 0} (f : A → Bool) (xs : List A) → filter f xs ≡ filter f (filter f xs)
filter_again f [] = refl
filter_again {A} f (x ∷ xs) = by (f x) refl (filter_again f xs)
  where
    by : (b : Bool) → f x ≡ b → filter f xs ≡ filter f (filter f xs)
        → cond b (x ∷ filter f xs) (filter f xs) ≡ filter f (cond b (x ∷ filter f xs) (filter f xs))
    by true e rest = ap (λ ys. x ∷ ys) rest ∙ sym
        (ap (λ b. cond b (x ∷ filter f (filter f xs)) (filter f (filter f xs))) e)
    by false e rest = rest

pub only_live : (setup : Setup) (calls : List Asked) (s : S.State) → Steps (S.start setup) calls s → OnlyLive s
only_live setup [] s is = subst OnlyLive (sym is) refl
only_live setup (a ∷ earlier) s h =
    let old : S.State = S.after h.0 (made h.0 a.now a.call) in
    subst OnlyLive (sym h.2.new_is) (filter_again (is_live old.clock) old.arrived)

-- one call of the layer

pub behind : {X : Type 0} (q : List X) (p : X) → Some p ≡ slice_get q 0 → q ≡ p ∷ drop 1 q
behind [] p h = absurd (cc h)
behind (x ∷ q) p h = let same : p ≡ x = cc h in ap (λ y. y ∷ q) (sym same)

pub none_wait : {X : Type 0} (q : List X) → None ≡ slice_get q 0 → q ≡ []
none_wait [] h = refl
none_wait (x ∷ q) h = absurd (cc h)

module _ (old new : S.State) where
  pub layer_some : (p : L.Packet) → S.Step old 0 L.Take (L.Gives (Some p)) new → old.queue ≡ p ∷ new.queue
  layer_some p step = behind old.queue p (cc step.right)
      ∙ ap (λ q. p ∷ q) (sym (append-nil (drop 1 old.queue)) ∙ sym (ap (λ (s : S.State). s.queue) step.new_is))

  pub layer_empty : S.Step old 0 L.Take (L.Gives None) new → old.queue ≡ []
  layer_empty step = none_wait old.queue (cc step.right)

  pub layer_none : OnlyLive old → S.Step old 0 L.Take (L.Gives None) new → new ≡ old
  layer_none live step =
      let e : L.Entry = made old 0 L.Take in
      let arrived : filter (is_live old.clock) (map (stores e) old.arrived ++ []) ≡ old.arrived =
      ap (λ es. filter (is_live old.clock) es) (append-nil _ ∙ all_stay old.arrived) ∙ sym live in
      let opens : filter_map (left_by e) old.open_cons
      ++ [] ≡ old.open_cons = left_same_nil e (λ c. refl) old.open_cons in
      let queue : drop 1 old.queue ++ [] ≡ old.queue = ap (λ (q : List L.Packet). drop 1 q ++ []) (layer_empty step)
      ∙ sym (layer_empty step) in
      step.new_is
      ∙ (ap (λ es. record old {
        arrived = es;
        open_cons = filter_map (left_by e) old.open_cons ++ [];
        queue = drop 1 old.queue ++ [];
      }) arrived
      ∙ (ap (λ cs. record old { open_cons = cs; queue = drop 1 old.queue ++ [] }) opens
      ∙ ap (λ q. record old { queue = q }) queue))
    where
      all_stay : (es : List Arrived) → map (stores (made old 0 L.Take)) es ≡ es
      all_stay [] = refl
      all_stay (a ∷ es) = ap (λ rest. a ∷ rest) (all_stay es)

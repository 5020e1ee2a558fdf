-- A value has the ETag of the notification that it begins with.
use Rattle.std.proofs.Common.{◌≡◌, ◌⊎◌, inl, inr, ℕ, Bool, true, false, Option, Some, None, List, [], ◌∷◌, ◌++◌, refl}
use Rattle.std.proofs.Common.{ap, sym, subst, ◌∙◌}
use Rattle.std.specs.Cmp.{unsigned_Decides}
use Rattle.coap_types.specs.declared.block.Block.{Block}
use Rattle.coap_block.specs.Sizes.{Sizes}
use Rattle.coap_block.specs.Gathered.{part, payloads_of}
use Rattle.coap_block.specs.Whole.{Part, Each, HasTag, OneTag, Whole}
use Rattle.coap_client_laws.specs.Follows.Begins.{WasSent}
use Rattle.coap_client_laws.specs.Follows.Bodies.{ComesLast}
use Rattle.coap_client_laws.specs.Follows.Bounds.{registers, AskOnce}
use Rattle.coap_client.specs.Effects.{of}
use Rattle.coap_client.specs.Law.{own_of}
use Rattle.coap_client_laws.specs.Follows.Newer.{Newly, notifies}
use Rattle.coap_client_laws.specs.Follows.Notified.{is_newly_of, newest_if, newest}
use Rattle.coap_client.specs.Own.{Registering}
use Rattle.coap_client.specs.Responses.{tag_in}
use Rattle.coap_client_laws.specs.Follows.Rising.{value_reported, Shows}
use Rattle.coap_client.specs.Steps.{reports}
use Rattle.coap_client.specs.Trace.{Value, Call}
use Rattle.coap_client_laws.specs.Follows.Values.{IsAlone, IsFetchedFor, IsObserved}
use Rattle.coap_client.specs.Sendings.{Sending}

-- of several parts the first and the last have one tag

last_has : (t : List ℕ) (ps : List Part) (q : Part) → Each (HasTag t) (ps ++ q ∷ []) → q.tag ≡ Some t
last_has t [] q h = h.0
last_has t (p ∷ ps) q h = last_has t ps q h.1

ends_alike : (p : Part) (ps : List Part) (q : Part) → OneTag (p ∷ (ps ++ q ∷ [])) → p.tag ≡ q.tag
ends_alike p [] q h = h.1.0 ∙ sym h.1.1.0
ends_alike p (r ∷ ps) q h = h.1.0 ∙ sym (last_has h.0 (r ∷ ps) q h.1.1)

module _ (sizes : Sizes) where
  module _ (number sequence : ℕ) (tag : Option (List ℕ)) (format : Option ℕ) (body : List ℕ) (past : List Call)
      (c : Call) (v : IsObserved sizes number sequence tag format body past c) where
    fetched_tag : (f : IsFetchedFor sizes number v.first v.parts v.last past c) → (b : Option Block)
        → ComesLast v.parts v.last b → Whole (payloads_of v.parts b (tag_in v.last) v.last.payload) body
        → tag_in v.first.message ≡ tag_in v.last
    fetched_tag f None l w = let e : f.part ∷ f.rest ≡ [] = sym f.split ∙ l.1 in absurd (cc e)
    fetched_tag f (Some b) l w =
        let last : Part = part b (tag_in v.last) v.last.payload in
        let one = subst (λ ps. OneTag (ps ++ last ∷ [])) f.split w.1 in
        sym (ap (λ (p : Part). p.tag) f.begins.is) ∙ ends_alike f.part f.rest last one

    -- it is that of the newest notification
    pub tag_of_first : tag ≡ tag_in v.first.message
    tag_of_first = by v.comes
      where
        by : IsAlone sizes v.first v.parts v.last past c ⊎ IsFetchedFor sizes number v.first v.parts v.last past c
            → tag ≡ tag_in v.first.message
        by (inl a) = v.tag_is ∙ ap tag_in a.is
        by (inr f) = v.tag_is ∙ sym (fetched_tag f v.block v.comes_last v.whole)

    -- and shown of it
    pub shown_of : reports (own_of sizes past) c ≡ of number (Value sequence tag format body)
        → Shows sizes number v.first past c
    shown_of is = record { value = ap value_reported is; is_newest = v.is_newest }

  -- a notification that was taken of this observation has its number
  pub newest_number : (number : ℕ) (t : List Call) (n : Newly) → newest sizes number t ≡ Some n → n.number ≡ number
  newest_number number [] n h = absurd (cc h)
  newest_number number (c ∷ past) n h = by (notifies (own_of sizes past) c)
      (is_newly_of number (notifies (own_of sizes past) c)) refl h (newest_number number past n)
    where
      by : (o : Option Newly) (b : Bool) → is_newly_of number o ≡ b → newest_if o b (newest sizes number past) ≡ Some n
          → (newest sizes number past ≡ Some n → n.number ≡ number) → n.number ≡ number
      by o false e k f = f k
      by None true e k f = absurd (cc k)
      by (Some x) true e k f = let same : x ≡ n = cc k in ap (λ (z : Newly). z.number) (sym same)
          ∙ (unsigned_Decides x.number number).0 e

  -- An observation is registered by one request.
  pub one_registration : (number : ℕ) (p q : List (List ℕ)) (x y : Sending) (t : List Call) → AskOnce sizes t
      → WasSent sizes x t → WasSent sizes y t → x.operation ≡ Registering number p → y.operation ≡ Registering number q
      → x ≡ y
  one_registration number p q x y [] once a b i j = absurd a
  one_registration number p q x y (c ∷ t) once (inl a) (inl b) i j = let e : Some x ≡ Some y = sym a ∙ b in cc e
  one_registration number p q x y (c ∷ t) once (inl a) (inr b) i j =
      absurd (once.0 y x a b (inl (number, ap registers j, ap registers i)))
  one_registration number p q x y (c ∷ t) once (inr a) (inl b) i j =
      absurd (once.0 x y b a (inl (number, ap registers i, ap registers j)))
  one_registration number p q x y (c ∷ t) once (inr a) (inr b) i j = one_registration number p q x y t once.1 a b i j

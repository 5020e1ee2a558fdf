-- Parts that a server showed under one entity-tag are those of one representation, so the body that they are whole for
-- is that.
use Rattle.std.proofs.Common.{◌≡◌, ℕ, Option, Some, None, List, [], ◌∷◌, ◌++◌, ap, sym, subst, ◌∙◌}
use Rattle.coap_types.specs.declared.block.Block.{Block}
use Rattle.coap_resource.specs.Limits.{Limits}
use Rattle.coap_codec.specs.Message.{Message}
use Rattle.coap_block.specs.Gathered.{part, payloads_of}
use Rattle.coap_block.specs.Whole.{Part, Each, IsPieceOf, HasTag, OneTag, Blocks, Whole}
use Rattle.coap_block.proofs.Facts.Laws.{one_body}
use Rattle.coap_resource.specs.Content.{Held}
use Rattle.coap_resource.specs.RequestOptions.{tag_of}
use Rattle.coap_client_laws.specs.Follows.Bodies.{ComesAs, ComesLast}
use Rattle.coap_client.specs.Responses.{tag_in}
use Rattle.coap_server.specs.Follows.Tags as server
use Rattle.coap_server.specs.Trace as S
use Rattle.coap_promise.proofs.Facts.Reports.ContentRead.{IsShown}

each_split : (P : Part → Type 0) (xs : List Part) (y : Part) → Each P (xs ++ y ∷ []) → Each P xs × P y
each_split P [] y h = (tt, h.0)
each_split P (x ∷ xs) y h = let r = each_split P xs y h.1 in ((h.0, r.0), r.1)

each_join : (P : Part → Type 0) (xs : List Part) (y : Part) → Each P xs → P y → Each P (xs ++ y ∷ [])
each_join P [] y h k = (k, tt)
each_join P (x ∷ xs) y h k = (h.0, each_join P xs y h.1 k)

each_both : (P Q R : Part → Type 0) → ((p : Part) → P p → Q p → R p) → (xs : List Part) → Each P xs → Each Q xs
    → Each R xs
each_both P Q R f [] h k = tt
each_both P Q R f (x ∷ xs) h k = (f x h.0 k.0, each_both P Q R f xs h.1 k.1)

each_map : (P Q : Part → Type 0) → ((p : Part) → P p → Q p) → (xs : List Part) → Each P xs → Each Q xs
each_map P Q f [] h = tt
each_map P Q f (x ∷ xs) h = (f x h.0, each_map P Q f xs h.1)

-- they have the ETag of the last
tags_alike : (xs : List Part) (y : Part) → OneTag (xs ++ y ∷ []) → Each (λ p. p.tag ≡ y.tag) xs
tags_alike [] y h = tt
tags_alike (x ∷ []) y h = (h.1.0 ∙ sym h.1.1.0, tt)
tags_alike (x ∷ z ∷ xs) y h =
    let s = each_split (HasTag h.0) (x ∷ z ∷ xs) y h.1 in
    each_map (HasTag h.0) (λ p. p.tag ≡ y.tag) (λ p k. k ∙ sym s.1) (x ∷ z ∷ xs) s.0

module _ (limits : Limits) (szx : ℕ) (all : List S.Call) where
  -- the part is one of what was held, and has its tag
  pub record IsPartHeld (p : Part) : Type 0 where
    pub path : List (List ℕ)
    pub held : Held
    pub was : server.WasHeld limits szx path held all
    pub tag : p.tag ≡ Some (tag_of held.version)
    pub piece : IsPieceOf held.body p

  -- a part, by the message that carries it
  pub part_held : (p : Part) (m : Message) (path : List (List ℕ)) (held : Held) → ComesAs p m
      → server.WasHeld limits szx path held all → IsShown held m → IsPartHeld p
  part_held p m path held comes was shown =
      record {
        path = path;
        held = held;
        was = was;
        tag = ap (λ (x : Part). x.tag) comes.is ∙ shown.tag;
        piece = subst (IsPieceOf held.body) (sym comes.is) (shown.part.piece comes.block comes.says);
      }

  module _ (tags : server.OneTag limits szx all) (path : List (List ℕ)) (held : Held)
      (was : server.WasHeld limits szx path held all) where
    piece_of : (p : Part) → IsPartHeld p → p.tag ≡ Some (tag_of held.version) → IsPieceOf held.body p
    piece_of p k tag =
        let same : Some (tag_of k.held.version) ≡ Some (tag_of held.version) = sym k.tag ∙ tag in
        let one : k.held ≡ held = (tags k.path path k.held held k.was was (cc same)).0 in
        subst (λ (h : Held). IsPieceOf h.body p) one k.piece

    -- .. and each part has its tag
    pub tags_of : (parts : List Part) (m : Message) (block : Option Block) (body : List ℕ) → IsShown held m
        → ComesLast parts m block → Whole (payloads_of parts block (tag_in m) m.payload) body
        → Each (λ p. p.tag ≡ Some (tag_of held.version)) parts
    tags_of parts m None body shown last whole = subst (Each (λ p. p.tag ≡ Some (tag_of held.version))) (sym last.1) tt
    tags_of parts m (Some b) body shown last whole =
        let z : Part = part b (tag_in m) m.payload in
        each_map (λ p. p.tag ≡ z.tag) (λ p. p.tag ≡ Some (tag_of held.version)) (λ p h. h ∙ shown.tag) parts
        (tags_alike parts z whole.1)

    -- what was held under that tag is this
    pub same_held : (other : List (List ℕ)) (k : Held) → server.WasHeld limits szx other k all
        → Some (tag_of k.version) ≡ Some (tag_of held.version) → k ≡ held
    same_held other k there same = (tags other path k held there was (cc same)).0

    -- what is whole by such parts, and by a message that shows what is held, is the body of that
    pub body_held : (parts : List Part) (m : Message) (block : Option Block) (body : List ℕ) → Each IsPartHeld parts
        → IsShown held m → ComesLast parts m block → Whole (payloads_of parts block (tag_in m) m.payload) body
        → body ≡ held.body
    body_held parts m None body each shown last whole = sym whole ∙ shown.part.alone last.0
    body_held parts m (Some b) body each shown last whole =
        let z : Part = part b (tag_in m) m.payload in
        let alike = tags_alike parts z whole.1 in
        let pieces = each_both IsPartHeld (λ p. p.tag ≡ z.tag) (IsPieceOf held.body)
        (λ p k tag. piece_of p k (tag ∙ shown.tag)) parts each alike in
        one_body (Blocks (parts ++ z ∷ [])) body held.body whole (
          record {
            pieces = each_join (IsPieceOf held.body) parts z pieces (shown.part.piece b last);
            chained = whole.0.chained;
            ends = whole.0.ends;
          },
          whole.1,
        )

-- Parts that are whole for two bodies are whole for one.
use Rattle.std.proofs.Common.{◌≡◌, ℕ, zero, suc, ◌+◌, ◌≤◌, ◌++◌, ◌∙◌, inl, inr, List, [], ◌∷◌, length, take, drop, refl}
use Rattle.std.proofs.Common.{ap, sym, subst, arith, append-nil}
use Rattle.std.proofs.lemmas.List.{take_all, drop-drop, length-drop}
use Rattle.coap_types.specs.Piece.{size_of, offset_of}
use Rattle.coap_block.specs.Whole.{Part, Each, joined, IsPieceOf, Chained, Ends, InOrder, ShowsMore, ClosedByEmpty}
use Rattle.coap_block.specs.Whole.{Blocks, Alone, WholeAtServer, OneBody, OneBodyAtServer}

-- what is taken, and what lies behind it
split_taken : (n : ℕ) (xs : List ℕ) → xs ≡ take n xs ++ drop (length (take n xs)) xs
split_taken zero xs = refl
split_taken (suc n) [] = refl
split_taken (suc n) (x ∷ xs) = ap (λ (r : List ℕ). x ∷ r) (split_taken n xs)

last_rest : (body part : List ℕ) (at size : ℕ) → part ≡ take size (drop at body) → length body ≤ at + size
    → drop at body ≡ part ++ []
last_rest body part at size e le =
    let all : take size (drop at body) ≡ drop at body =
    take_all size (drop at body) (omega (arith, length-drop at body)) in
    sym (append-nil part ∙ e ∙ all)

middle_rest : (body part rest : List ℕ) (at size : ℕ) → part ≡ take size (drop at body)
    → drop (at + length part) body ≡ rest
    → drop at body ≡ part ++ rest
middle_rest body part rest at size e r =
    let s = split_taken size (drop at body) in
    let d = drop-drop (length part) at body in
    rw (← e) at s ∙ ap (λ (x : List ℕ). part ++ x) (d ∙ r)

rest_is_joined : (body : List ℕ) (at : ℕ) (parts : List Part) → Each (IsPieceOf body) parts → Chained at parts
    → Ends parts
    → drop at body ≡ joined parts
rest_is_joined body at [] pieces chained ends = absurd ends
rest_is_joined body at (p ∷ []) pieces chained ends =
    last_rest body p.bytes at (size_of p.szx)
    (subst (λ (o : ℕ). p.bytes ≡ take (size_of p.szx) (drop o body)) chained.0 pieces.0.bytes)
    (subst (λ (o : ℕ). length body ≤ o + size_of p.szx) chained.0 (pieces.0.reaches_end.0 ends))
rest_is_joined body at (p ∷ q ∷ ps) pieces chained ends =
    middle_rest body p.bytes (joined (q ∷ ps)) at (size_of p.szx)
    (subst (λ (o : ℕ). p.bytes ≡ take (size_of p.szx) (drop o body)) chained.0 pieces.0.bytes)
    (rest_is_joined body (at + length p.bytes) (q ∷ ps) pieces.1 chained.1 ends)

drop_end : (xs : List ℕ) → drop (length xs) xs ≡ []
drop_end [] = refl
drop_end (x ∷ xs) = drop_end xs

in_order_is_joined : (body : List ℕ) (parts : List Part) → InOrder parts body → body ≡ joined parts
in_order_is_joined body parts w = rest_is_joined body 0 parts w.pieces w.chained w.ends

pub one_body : OneBody
one_body (Blocks parts) a b wa wb = in_order_is_joined a parts wa.0 ∙ sym (in_order_is_joined b parts wb.0)
one_body (Alone payload) a b wa wb = sym wa ∙ wb

-- parts that show the body, before an empty one at its end
shown_is_joined : (body : List ℕ) (at : ℕ) (front : List Part) (last : Part) → Each (ShowsMore body) front
    → Chained at (front ++ last ∷ [])
    → offset_of last.num last.szx ≡ length body → last.bytes ≡ [] → drop at body ≡ joined (front ++ last ∷ [])
shown_is_joined body at [] last shown chained at_end empty =
    let e : at ≡ length body = sym chained.0 ∙ at_end in
    subst (λ (n : ℕ). drop n body ≡ last.bytes ++ []) (sym e) (drop_end body ∙ sym (append-nil last.bytes ∙ empty))
shown_is_joined body at (p ∷ ps) last shown chained at_end empty =
    middle_rest body p.bytes (joined (ps ++ last ∷ [])) at (size_of p.szx)
    (subst (λ (o : ℕ). p.bytes ≡ take (size_of p.szx) (drop o body)) chained.0 shown.0.bytes)
    (shown_is_joined body (at + length p.bytes) ps last shown.1 chained.1 at_end empty)

closed_is_joined : (body : List ℕ) (parts : List Part) → ClosedByEmpty parts body → body ≡ joined parts
closed_is_joined body parts w =
    subst (λ (ps : List Part). body ≡ joined ps) (sym w.split)
    (shown_is_joined body 0 w.front w.last w.shown
    (subst (λ (ps : List Part). Chained 0 ps) w.split w.chained) w.at_end w.empty)

at_server_is_joined : (body : List ℕ) (parts : List Part) → WholeAtServer parts body → body ≡ joined parts
at_server_is_joined body parts (inl w) = in_order_is_joined body parts w
at_server_is_joined body parts (inr w) = closed_is_joined body parts w

pub one_body_at_server : OneBodyAtServer
one_body_at_server parts a b wa wb = at_server_is_joined a parts wa ∙ sym (at_server_is_joined b parts wb)

-- How the machine stores a `Released`: the pointer, then the allocator. Assumes `Logic`.
use Rattle.knifesilver.proofs.Walking.{◌≡◌, ℕ, List, [], ◌∷◌, ◌++◌, refl, subst, true, ◌&&◌, Good}
use Rattle.knifesilver.proofs.Walking.{Val, vptr, vstruct, vcons, vnil, of_list}
use Rattle.knifesilver.proofs.Walking.{Item, Goal, Seq, Step, step, ‵, ◌$◌, move, drop, fsplit, fjoin, fpick, fpack}
use Rattle.knifesilver.proofs.Walking.{feq_i, feq_l}
use Rattle.knifesilver.proofs.Walking.{RattleType, Ptr, block_ptr, null_ptr, ptr_val, in_a_block, nothing, layout}
use lib.Dec.{T}
use seplogic.Ra.Ura.{Ura}
use mir.Syntax.{impl, tnil, dnil}
use mir.Raw.{raw as bare}
use mir.Val.{has_ty, WT}
use base.Logic.{never, fst∗}
use types.Logic.{Logic, sem}
use denote.RattleType.{Valss}
use denote.Builtin.{RawPtr}
use denote.Memory.{lone}
use denote.Param.Laws.{Laws}
use denote.Struct.Struct.{within}
use denote.Struct.Owning.{shape}
use Rattle.core.specs.declared.alloc.Allocator.{Ghosts}
use Rattle.core.proofs.alloc.Calls.{Al, handle_tells}
use Rattle.std_alloc.specs.Box.Ownership.{box_owns}
use Rattle.std_alloc.proofs.ResultValues.{and_tt}
use Rattle.knifesilver.specs.contracts.released.Released as released

-- a struct of two words
abbrev pub pair : Val → Val → Val
pair u v = vstruct (vcons u (vcons v vnil))

module _ (R Z : RattleType) (L : Laws Z) (g : Ghosts Z.Denot) where
  abbrev pub Row : RattleType
  Row = released.the_row R Z g

  abbrev allocator : Al
  allocator = record { row = Z; laws = L; g = g; d = impl [] tnil dnil; drops = impl [] tnil dnil }

  -- such a pair has the type of the struct, where its second word is an allocator
  pub fits : (b o : ℕ) (h : Val) → Good (layout Z) h
      → T (has_ty (layout Z) h && true) × WT (pair (vptr b o) h)
  fits b o h good = (and_tt (has_ty (layout Z) h) good.0, (tt, (good.1, tt)))

  module _ {M : Type 1} {𝓤 : Ura M} {𝓛 : Logic 𝓤} {K : Type 0} {Γ : List (Item 𝓤)} {G : Goal 𝓤 𝓛.H} where
    -- what it owns, and where: no value lies at null, so the pointer is that of a block
    pub opens_released : K → (d : Row.Denot) (vs : List Val)
        → ((b o : ℕ) (h : Val) → d.at ≡ block_ptr b o → vs ≡ pair (vptr b o) h ∷ [] → Good (layout Z) h
        → Seq K 𝓛 (‵ (box_owns (g.dealloc_token d.alloc) R (block_ptr b o) d.value) ∷ ‵ (Z.own_val d.alloc (h ∷ [])) ∷ Γ) G)
        → Seq K 𝓛 (‵ (Row.own_val d vs) ∷ Γ) G
    opens_released t d vs next =
        fsplit t $ fpick t (λ words. fsplit t $ feq_l t (λ whole_is. fsplit t $ feq_l t (λ pointer_is. fsplit t $
        handle_tells allocator t d.alloc words.1.0 (λ h handle_is good. move t (1 ∷ []) $ drop t $ move t (1 ∷ []) $
        in_a_block t d.at (λ p. box_owns (g.dealloc_token d.alloc) R p d.value)
        (fst∗ 𝓤 (never 𝓤) (sem 𝓛 (g.dealloc_token d.alloc (bare (lone R.mir)) null_ptr))) (λ b o at_is.
        let first_word : vs ≡ vstruct (of_list (ptr_val d.at ∷ (words.1.0 ++ []))) ∷ [] =
        subst (λ (ps : List Val). vs ≡ vstruct (of_list (ps ++ (words.1.0 ++ []))) ∷ []) pointer_is whole_is in
        let both_words : vs ≡ vstruct (of_list (ptr_val d.at ∷ h ∷ [])) ∷ [] =
        subst (λ (ws : List Val). vs ≡ vstruct (of_list (ptr_val d.at ∷ (ws ++ []))) ∷ []) handle_is first_word in
        next b o h at_is (subst (λ (p : Ptr). vs ≡ vstruct (of_list (ptr_val p ∷ h ∷ [])) ∷ []) at_is both_words) good)))))

    pub closes_released : K → (b o : ℕ) (h : Val) (a : Z.Denot) (x : R.Denot)
        → Step K 𝓛 (‵ (Row.own_val (record { at = block_ptr b o; alloc = a; value = x }) (pair (vptr b o) h ∷ [])) ∷ Γ) G
        (‵ (box_owns (g.dealloc_token a) R (block_ptr b o) x) ∷ ‵ (Z.own_val a (h ∷ [])) ∷ Γ) G
    closes_released t b o h a x = step (λ rest. let word : Val = pair (vptr b o) h in
        nothing t $ move t (2 ∷ 0 ∷ []) $ fjoin t $
        feq_i t (List Val) (vptr b o ∷ []) (vptr b o ∷ []) refl $ fjoin t $
        feq_i t (List Val) (word ∷ []) (word ∷ []) refl $ fjoin t $
        fpack t (Valss (RawPtr ∷ Z ∷ [])) (within (shape (released.the_type R Z g)) (block_ptr b o, (a, tt)) (word ∷ []))
        (vptr b o ∷ [], (h ∷ [], tt)) $ fjoin t $ rest)

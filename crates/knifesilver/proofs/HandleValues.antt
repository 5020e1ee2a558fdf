-- How the machine stores a `KsHandle`: the pointer, the flag, the allocator. Assumes `Logic`.
use Rattle.knifesilver.proofs.Walking.{◌≡◌, ℕ, List, [], ◌∷◌, ◌++◌, refl, ◌∙◌, Bool, true, false, ◌&&◌, Good}
use Rattle.knifesilver.proofs.Walking.{Val, vbool, vstruct, vcons, vnil, of_list}
use Rattle.knifesilver.proofs.Walking.{Item, Goal, Seq, Step, step, ‵, ◌$◌, move, drop, fsplit, fjoin, fpick, fpack}
use Rattle.knifesilver.proofs.Walking.{feq_i, feq_l}
use Rattle.knifesilver.proofs.Walking.{RattleType, Ptr, block_ptr, null_ptr, ptr_val, in_a_block, nothing, layout}
use lib.Dec.{T}
use seplogic.Ra.Ura.{Ura}
use mir.Syntax.{ty_ptr, impl, tnil, dnil}
use mir.Raw.{raw as bare}
use mir.Val.{has_ty}
use base.Logic.{never, fst∗}
use types.Logic.{Logic, sem}
use denote.RattleType.{Valss}
use denote.Builtin.{RawPtr, bool}
use denote.Memory.{lone}
use denote.Struct.Struct.{within}
use denote.Struct.Owning.{shape, to}
use Rattle.core.proofs.alloc.Calls.{Al, handle_tells}
use Rattle.core.proofs.atomic.Steps.{Ptr-Good}
use Rattle.std_alloc.specs.Box.Ownership.{box_owns}
use Rattle.std.specs.contracts.alloc.Global as heap
use Rattle.std.proofs.alloc.Global.TheLaws as heap_laws
use Rattle.std.specs.contracts.impls.GlobalAllocator.TheImpl.{ghosts}
use Rattle.std.specs.declared.option.Option.{Option}
use Rattle.std.specs.declared.option.Option.TheVariants.{None, Some}
use Rattle.knifesilver.specs.Owned.{owned}
use Rattle.knifesilver.specs.contracts.held.Held as held
use Rattle.knifesilver.specs.contracts.handle.KsHandle as handle

abbrev pub End : RattleType
End = held.the_row

abbrev pub Heap : RattleType
Heap = heap.the_row

abbrev pub Handle : RattleType
Handle = handle.the_row

-- a struct of three words
abbrev pub triple : Val → Val → Val → Val
triple u v w = vstruct (vcons u (vcons v (vcons w vnil)))

abbrev allocator : Al
allocator = record {
  row = Heap;
  laws = heap_laws.the_row_laws;
  g = ghosts;
  d = impl [] tnil dnil;
  drops = impl [] tnil dnil;
}

outer_two : (x y : Bool) → T x → T y → T (x && (true && (y && true)))
outer_two true true s t = tt
outer_two true false s t = absurd t
outer_two false y s t = absurd s

-- such a triple has the type of the struct, where its third word is an allocator
pub fits : (p : Ptr) (live : Bool) (h : Val) → Good (layout Heap) h
    → Good (layout Handle) (triple (ptr_val p) (vbool live) h)
fits p live h good = (
  outer_two (has_ty ty_ptr (ptr_val p)) (has_ty (layout Heap) h) (Ptr-Good p).0 good.0,
  ((Ptr-Good p).1, (tt, (good.1, tt))),
)

module _ {M : Type 1} {𝓤 : Ura M} {𝓛 : Logic 𝓤} {K : Type 0} {Γ : List (Item 𝓤)} {G : Goal 𝓤 𝓛.H} where
  pub opens_handle : K → (d : Handle.Denot) (vs : List Val)
      → ((h : Val) → vs ≡ triple (ptr_val d.at) (vbool d.live) h ∷ [] → Good (layout Heap) h
      → Seq K 𝓛 (‵ (owned End d.alloc d.live d.at d.held) ∷ ‵ (Heap.own_val d.alloc (h ∷ [])) ∷ Γ) G)
      → Seq K 𝓛 (‵ (Handle.own_val d vs) ∷ Γ) G
  opens_handle t d vs next =
      fsplit t $ fpick t (λ words. fsplit t $ feq_l t (λ whole_is. fsplit t $ feq_l t (λ pointer_is. fsplit t $
      feq_l t (λ flag_is. fsplit t $ handle_tells allocator t d.alloc words.1.1.0 (λ h handle_is good.
      move t (1 ∷ []) $ drop t $ move t (1 ∷ []) $
      next h (whole_is ∙ (λ i. vstruct (of_list (pointer_is i ++ (flag_is i ++ (handle_is i ++ [])))) ∷ [])) good)))))

  pub closes_handle : K → (p : Ptr) (live : Bool) (h : Val) (a : Heap.Denot) (x : Option End.Denot)
      → Step K 𝓛
      (‵ (Handle.own_val (record { at = p; live = live; alloc = a; held = x }) (triple (ptr_val p) (vbool live) h ∷ [])) ∷ Γ)
      G (‵ (owned End a live p x) ∷ ‵ (Heap.own_val a (h ∷ [])) ∷ Γ) G
  closes_handle t p live h a x = step (λ rest.
      let word : Val = triple (ptr_val p) (vbool live) h in
      let value : Handle.Denot = record { at = p; live = live; alloc = a; held = x } in
      nothing t $ move t (2 ∷ 0 ∷ []) $ fjoin t $
      feq_i t (List Val) (vbool live ∷ []) (vbool live ∷ []) refl $ fjoin t $
      feq_i t (List Val) (ptr_val p ∷ []) (ptr_val p ∷ []) refl $ fjoin t $
      feq_i t (List Val) (word ∷ []) (word ∷ []) refl $ fjoin t $
      fpack t (Valss (RawPtr ∷ bool ∷ Heap ∷ [])) (within (shape handle.the_type) (to handle.the_type value) (word ∷ []))
      (ptr_val p ∷ [], (vbool live ∷ [], (h ∷ [], tt))) $ fjoin t $ rest)

  -- by what it holds: nothing, and the flag says so; or a value in a block
  pub by_held : K → (a : Heap.Denot) (live : Bool) (p : Ptr) (x : Option End.Denot)
      → (live ≡ false → x ≡ None → Seq K 𝓛 Γ G)
      → ((b o : ℕ) (y : End.Denot) → live ≡ true → p ≡ block_ptr b o → x ≡ Some y
      → Seq K 𝓛 (‵ (box_owns (ghosts.dealloc_token a) End (block_ptr b o) y) ∷ Γ) G)
      → Seq K 𝓛 (‵ (owned End a live p x) ∷ Γ) G
  by_held t a live p None nothing_there one_there = feq_l t (λ flag_is. nothing_there flag_is refl)
  by_held t a live p (Some y) nothing_there one_there =
      fsplit t $ feq_l t (λ flag_is. in_a_block t p (λ q. box_owns (ghosts.dealloc_token a) End q y)
      (fst∗ 𝓤 (never 𝓤) (sem 𝓛 (ghosts.dealloc_token a (bare (lone End.mir)) null_ptr)))
      (λ b o at_is. one_there b o y flag_is at_is refl))

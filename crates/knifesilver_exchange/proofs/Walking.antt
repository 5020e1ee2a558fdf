-- The names that the walks of this crate share.
pub use Rattle.std.proofs.Common.{◌≡◌, ℕ, List, [], ◌∷◌, ◌++◌, refl, sym, ap, ◌∙◌, subst, lit<}
pub use Rattle.std.proofs.raw_atomic.Walks.{proved_at, leaves}
pub use Rattle.core.proofs.cell.Inside.{Good, one}
pub use Rattle.core.proofs.alloc.Shapes.{after}
pub use mathlib.Core.Bool.{Bool, true, false, ◌&&◌}
pub use mir.Val.{Val, vptr, vbool, vstruct, vcons, vnil, of_list}
pub use base.Logic.{SProp, ent, emp, id⊢}
pub use prog.Wp.{WpFn}
pub use types.Kit.{‵, raw, ◌⊛◌, some, later, at_ret, ◌$◌, ◌∵◌, !, qed, by, move, keep, drop}
pub use types.Kit.{split, split3, join, fsplit, fjoin, fpick, fpack, pick, suffices, use0, use1, await, rewrite}
pub use types.Kit.{feq_i, feq_l, Item, Goal, Seq, Step, step}
pub use types.Run.{stop, fld, lit, false_lit, true_lit, of_opd, no_more, and_then, first, blocks, branches, exec}
pub use types.Run.{returns, enter}
pub use types.ByLocal.{alloc_all, pass_all, free_all, look_at, get, get_in, sets, sets_last, lands_as, lands_last, env}
pub use types.Part.{agg, sub, whole}
pub use contract.Monad.{fact, fact_i}
pub use contract.Running.{tables}
pub use denote.Exit.{yes, no}
pub use denote.RattleType.{RattleType, owns}
pub use denote.Signature.{types_at, type_at, plain}
pub use denote.RawPtr.{Ptr, block_ptr, null_ptr, ptr_val, in_a_block}
pub use denote.Steps.{nothing, only, heard}
pub use denote.Param.{param, layout, bounded}
pub use denote.Triple.Entry.{alive}
pub use denote.Triple.Walked.{Stays, stay_dropped, walk_of, Goes-dropped}

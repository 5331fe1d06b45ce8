-- The body is empty: the borrow is opened, and closed at one text more.
use Rattle.std.proofs.Common.{List, [], ◌∷◌, ◌++◌, length, refl}
use Rattle.std.proofs.raw_atomic.Walks.{proved}
use base.Fml.{ftrue, flft}
use base.Logic.{id⊢}
use mir.Syntax.{named}
use mir.Val.{Val, vunit, vptr}
use types.Kit.{‵, ◌⊛◌, ◌$◌, ◌∵◌, !, qed, move, keep, drop, use1, split, join, fsplit, fsplit3, fjoin, fjoin3, feq_i}
use types.Kit.{frame, suffices, done}
use types.Run.{enter, returns, unit_lit, of_opd}
use types.ByLocal.{alloc_all, pass_all, free_all, look_at, sets}
use denote.Builtin.{u8}
use denote.Exit.{yes}
use denote.Ref.{MutRef, mut_vals, mut_Tells}
use denote.RattleType.{owns}
use denote.Signature.{plain}
use denote.Slice.{ShrSlice, slice_val, shr_slice_vals, shr_slice_Tells}
use denote.Steps.{opens, closes}
use denote.Triple.Walked.{Stays, stay_ref, stay_none_slice, Goes-ref, Goes-none_slice, says, walk_of, ends_at}
use Rattle.dp_io.specs.declared.texts.Texts.{Texts}
use Rattle.dp_io.specs.contracts.texts.Texts as T
use Rattle.dp_io.specs.contracts.texts.Texts.take as f
use Rattle.dp_io.proofs.texts.Texts.take.Statement.{statement}
use Rattle.dp_io.proofs.texts.Texts.take.Code as code

abbrev stayed : Stays f.ended.signature.params f.ended.kept
stayed = (stay_ref (0 ∷ []) tt (plain (λ _. T.the_row)), (stay_none_slice (1 ∷ []) tt (plain (λ _. u8)) yes, tt))

pub take_spec : {M : Type 1} → statement M
take_spec 𝓤 𝓛 𝓜 𝓡 wired =
    let c = f.clauses 𝓛 𝓜.mem 𝓡.returns in let W = walk_of 𝓛 f.ended stayed c in
    proved 𝓛 f.ended stayed c 𝓜 𝓡
    (Goes-ref 𝓛 2 0 tt (plain (λ _. T.the_row)), (Goes-none_slice 𝓛 2 (1 ∷ []) tt (plain (λ _. u8)) yes, tt))
    f.Key.name code.function (code.unfolded 𝓤 𝓛.H 𝓜 𝓡 wired)
    (λ κs. (mut_vals, (shr_slice_vals, tt)))
    (λ κs. (mut_Tells (named 0) κs.0 T.the_row, (shr_slice_Tells (named 1) κs.1.0 u8, tt))) (λ κs qs bounds a _ are.
    let κ = κs.0 in let q = qs.0 in let r = a.0 in let b = r.ref_ptr.0 in let o = r.ref_ptr.1 in let s = a.1.0 in
    let at : List Val × (List Val × Unit {0}) = (vptr b o ∷ [], (slice_val s.ref_ptr (length s.now) ∷ [], tt)) in
    let y : W.Ghost = ((κs, qs, bounds, a, at), tt) in
    let more : Texts = record { items = r.now.items ++ s.now ∷ [] } in
    qed 𝓛 (((‵ (flft κ q) ⊛ (‵ (flft κs.1.0 qs.1.0) ⊛ ‵ ftrue)) ⊛ ‵
    (owns (MutRef (named 0) κ T.the_row ∷ ShrSlice (named 1) κs.1.0 u8 ∷ []) a at)) ∷ ‵ ftrue ∷ []) ∵
    keep ! (0 ∷ []) $ split ! $ split ! $ move ! (2 ∷ []) $ fsplit ! $ fsplit3 ! $ drop ! $ move ! (0 ∷ 1 ∷ 3 ∷ []) $
    -- [the value; the borrow; the token of κ; the slice; the other tokens]
    enter ! _ _ _ _ _ $ alloc_all ! (λ l. pass_all ! refl (
      (tt, tt),
      ((tt, (tt, (record { fits = are.1.0.0.1.0 }, tt))), tt),
    ) $
    opens ! tt T.the_row {h = r.now} b o (λ vs.
    sets ! (of_opd ! (unit_lit !)) refl (tt, tt) $
    move ! (1 ∷ []) $ use1 𝓛 (‵ (T.the_row.own_val more vs)) (id⊢ 𝓤 _) $ move !
    (1 ∷ 0 ∷ []) $ closes ! tt T.the_row more vs b o $
    returns ! (look_at ! 0 refl) $ free_all ! refl $ keep ! (0 ∷ 1 ∷ 2 ∷ 3 ∷ 4 ∷ []) $
    suffices ! _ (ends_at 𝓛 f.ended stayed c y vunit tt (more, (tt, tt)) (tt, (tt, tt))) $ says ! refl $
    move ! (2 ∷ 4 ∷ []) $ join ! $ frame ! $ feq_i ! (List Val) (vptr b o ∷ [])
    (vptr b o ∷ []) refl $ fjoin3 ! $ fjoin ! $
    feq_i ! (List Val) (vunit ∷ []) (vunit ∷ []) refl $ move ! (1 ∷ 0 ∷ []) $ done !)))

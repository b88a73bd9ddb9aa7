-- By hand, since the borrow checker does not cover a function that lends an element of an array. Assumes `Logic`.
use Rattle.std.proofs.Common.{◌≡◌, ◌*◌, ◌<◌, ◌^◌, [], ◌∷◌, length, refl, sym, subst, w64, arith}
use Rattle.std.proofs.raw_atomic.Walks.{proved}
use Rattle.std.proofs.lemmas.Option.{slice_get-get_or}
use base.Fml.{GName, ftrue, flft}
use mir.Syntax.{named}
use mir.Val.{vptr}
use contract.Monad.{fact}
use types.Kit.{‵, raw, ◌⊛◌, given, some, later, ◌$◌, ◌∵◌, !, qed, move, keep, use2, split, split3, join, fsplit, fjoin, learn, pick, await, suffices, frame, done}
use types.Run.{enter, lit, bin, addr, stop, fld, returns}
use types.ByLocal.{alloc_all, pass_all, free_all, look_at, get, through, sets}
use denote.Builtin.{usize, RefMutOf}
use denote.Exit.{yes, no}
use denote.Follow.{follows}
use denote.Plain.{uint_vals, uint_Tells}
use denote.RattleType.{owns}
use denote.Ref.{MutRef, mut_vals, mut_Tells}
use denote.Signature.{plain}
use denote.Steps.{nothing, heard}
use denote.Triple.Walked.{Stays, walk_of, says, stay_dropped, Goes-dropped, Goes-spent_ref, ends_at}
use Rattle.walk.specs.Tables.{blank, with_record}
use Rattle.walk.specs.declared.table.TheConstants.{DEPTHS}
use Rattle.walk.specs.contracts.depth_record.DepthRecord.{the_row as record_row}
use Rattle.walk.specs.contracts.table.Table.{the_row as table_row}
use Rattle.walk.specs.contracts.table.Table.record as f
use Rattle.walk.proofs.RecordLent.{place_of, lent, lends_record}
use Rattle.walk.proofs.table.Table.record.Statement.{statement}
use Rattle.walk.proofs.table.Table.record.Code as code

abbrev stayed : Stays f.ended.signature.params f.ended.kept
stayed = (stay_dropped (RefMutOf (0 ∷ []) tt (plain (λ _. table_row)) (λ _. tt)) no, (stay_dropped (plain (λ _. usize)) yes, tt))

pub record_spec : {M : Type 1} → statement M
record_spec 𝓤 𝓛 𝓜 𝓡 wired =
    let c = f.clauses 𝓛 𝓜.mem 𝓡.returns in let W = walk_of 𝓛 f.ended stayed c in
    proved 𝓛 f.ended stayed c 𝓜 𝓡 (Goes-spent_ref 𝓛 1 (0 ∷ []) tt (plain (λ _. table_row)), (Goes-dropped 𝓛 1 (plain (λ _. usize)) yes (λ κs x w. refl), tt))
    f.Key.name code.function (code.unfolded 𝓤 𝓛.H 𝓜 𝓡 wired)
    (λ κs. (mut_vals, (uint_vals w64, tt))) (λ κs. (mut_Tells (named 0) κs.0 table_row, (uint_Tells w64, tt))) (λ κs qs bounds a _ are.
    let κ = κs.0 in let q = qs.0 in let b = a.0.ref_ptr.0 in let o = a.0.ref_ptr.1 in let γ = a.0.ghost_name in let t = a.0.now in let i = a.1.0 in
    let y : W.Ghost = ((κs, qs, bounds, a, (mut_vals a.0, (uint_vals w64 i, tt))), tt) in
    qed 𝓛 (((‵ (flft κ q) ⊛ ‵ ftrue) ⊛ ‵ (owns (MutRef (named 0) κ table_row ∷ usize ∷ []) a (mut_vals a.0, (uint_vals w64 i, tt)))) ∷ raw (fact 𝓤 (i < DEPTHS)) ∷ []) ∵
    move ! (1 ∷ []) $ heard ! _ (λ small.
    let at = place_of 𝓛 b o t i small in let r = lent 𝓛 b o t i small κ q γ in let fits : i * 2 < 2 ^ 64 = omega arith in
    split ! $ split ! $ move ! (2 ∷ []) $ fsplit ! $ keep ! (0 ∷ 2 ∷ []) $
    -- [self; its lifetime's token]
    enter ! _ _ _ _ _ $ alloc_all ! (λ l. pass_all ! refl ((tt, tt), ((tt, record { fits = are.1.0.1 }), tt)) $
    use2 𝓛 (later (some (λ (δ : GName). given (length t.records ≡ DEPTHS) (‵ ((MutRef (named 0) κ record_row).own_val (r δ) (vptr b at ∷ [])) ⊛ ‵ (flft κ q) ⊛ ‵ (follows table_row record_row γ δ (with_record t i))))))
    (lends_record 𝓛 b o t i small κ q γ (mut_vals a.0)) $ await ! tt $ pick ! (λ δ. learn ! (λ long. split3 ! $
    -- [the record's reference; the token; that the table follows]
    sets ! (bin ! (get ! refl) (lit ! tt) (record { fits = fits })) refl (tt, record { fits = fits }) $
    sets ! (addr ! (through ! refl (fld ! refl (stop !)))) refl (tt, tt) $
    sets ! (bin ! (get ! refl) (get ! refl) tt) refl (tt, tt) $
    sets ! (addr ! (through ! refl (stop !))) refl (tt, tt) $
    returns ! (look_at ! 0 refl) $ free_all ! refl $
    suffices ! _ (ends_at 𝓛 f.ended stayed c y (vptr b at) (r δ) (tt, (tt, tt)) (tt, (tt, tt))) $
    nothing ! $ nothing ! $ fjoin ! $ nothing ! $ fjoin ! $ join ! $ nothing ! $ move ! (2 ∷ 0 ∷ []) $ join ! $ join ! $ frame ! $
    says ! (slice_get-get_or t.records i blank (subst (λ n. i < n) (sym long) small)) $ done !)))))

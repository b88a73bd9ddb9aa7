-- `console_run` lends what lies at the pointer to `run`, and has it back.
use Rattle.std.proofs.Common.{◌≡◌, ℕ, List, [], ◌∷◌, ◌++◌, refl, ap}
use Rattle.std.proofs.raw_atomic.Walks.{proved}
use base.Fraction.{full_share}
use base.Logic.{id⊢}
use base.Fml.{ftrue, fsep, fex, flft, flent}
use mir.Val.{Val, vint, vptr}
use prog.Wp.{WpFn}
use contract.Monad.{fact}
use contract.Running.{tables}
use types.Kit.{‵, raw, ◌⊛◌, some, later, prop, at_ret, ◌$◌, ◌∵◌, !, qed, done, move, drop, use1, use2, use3, split, join, fsplit, fjoin, fpack, feq_l, pick, await, rewrite, regoal, suffices}
use types.Run.{enter, of_opd, addr, stop, fld, hop, no_more, and_then, first, blocks, exec, returns, from}
use types.ByLocal.{alloc_all, pass_all, free_all, look_at, get, through, sets, sets_last, lands_as, env, look_in_at, get_in}
use denote.Exit.{yes}
use denote.RattleType.{RattleType, owns}
use denote.Memory.{part_at, mem}
use denote.Laws.{Is, shows}
use denote.RawPtr.{Ptr, RawPtr, block_ptr, lies_at, in_a_block, rawptr_vals, rawptr_Tells}
use denote.Signature.{plain, shr_slice_of}
use mir.Syntax.{named, w8, w64}
use types.Part.{agg, whole, sub}
use types.Tokens.{lft_new, lft_end}
use types.SemTy.{Body}
use denote.Lend.{lends_ref, ref_back}
use denote.Plain.{uint_vals, uint_Tells}
use denote.Builtin.{u8, usize}
use denote.Ref.{MutRef, mut_vals, mut_Tells}
use denote.Slice.{ShrSlice, MutSlice, shr_slice_vals, shr_slice_Tells, mut_slice_vals, mut_slice_Tells}
use denote.Triple.Entry.{alive}
use denote.Triple.Walked.{Stays, walk_of, stay_dropped, Goes-dropped, gave_ref, Goes-gave_ref, gave_slice, Goes-gave_slice, ends_at}
use denote.Steps.{nothing, peeks, heard, only}
use denote.Triple.Call.{calls_at}
use denote.Triple.Clauses.{lasts}
use denote.Triple.Spec.{triple_of}
use denote.Triple.Table.{framed}
use Rattle.console_c.specs.declared.kept_console.KeptConsole.{KeptConsole as Kept}
use Rattle.console_c.specs.declared.console_ran.ConsoleRan.{ConsoleRan as Ran}
use Rattle.console_c.specs.contracts.kept_console.KeptConsole.{the_row as R}
use Rattle.console_c.specs.contracts.console_ran.ConsoleRan.{the_row as RR}
use Rattle.console_c.specs.declared.status.Status.{Status}
use Rattle.console_c.specs.Ends.{RunEnds}
use Rattle.console_c.specs.Statuses.{status_number}
use Rattle.console_c.specs.contracts.exports.run as g
use Rattle.console_c.proofs.exports.run.Met.{met}
use Rattle.console_c.specs.contracts.exports.console_run as f
use Rattle.console_c.proofs.exports.console_run.Statement.{statement}
use Rattle.console_c.proofs.exports.console_run.Code as code

abbrev stayed : Stays f.ended.signature.params f.ended.kept
stayed = (stay_dropped _ yes, (stay_dropped _ yes, (stay_dropped _ yes, (gave_slice (1 ∷ []) tt (plain (λ _. u8)), (gave_ref (2 ∷ []) tt (plain (λ _. RR)), tt)))))

pub console_run_spec : {M : Type 1} → statement M
console_run_spec 𝓤 𝓛 𝓜 𝓡 wired =
    let c = f.clauses 𝓛 𝓜.mem 𝓡.returns in let W = walk_of 𝓛 f.ended stayed c in let 𝓣 = tables 𝓤 𝓛.H 𝓜 𝓡 𝓡.env in let fn = code.function in
    let G = triple_of 𝓛 g.signature (g.spec 𝓛 𝓜.mem 𝓡.returns) in
    proved 𝓛 f.ended stayed c 𝓜 𝓡 (Goes-dropped 𝓛 3 (plain (λ _. RawPtr)) yes (λ κs x w. refl), (Goes-dropped 𝓛 3 (shr_slice_of (0 ∷ []) tt (plain (λ _. u8))) yes (λ κs x w. refl), (Goes-dropped 𝓛 3 (plain (λ _. usize)) yes (λ κs x w. refl), (Goes-gave_slice 𝓛 3 1 tt (plain (λ _. u8)), (Goes-gave_ref 𝓛 3 2 tt (plain (λ _. RR)), tt)))))
    f.Key.name fn (code.unfolded 𝓤 𝓛.H 𝓜 𝓡 wired)
    (λ κs. (rawptr_vals, (shr_slice_vals, (uint_vals w64, (mut_slice_vals, (mut_vals, tt))))))
    (λ κs. (rawptr_Tells, (shr_slice_Tells (named 0) κs.0 u8, (uint_Tells w64, (mut_slice_Tells (named 1) κs.1.0 u8, (mut_Tells (named 2) κs.1.1.0 RR, tt))))))
    (λ κs qs bounds a n are.
    let κ₀ = κs.0 in let κ₁ = κs.1.0 in let κ₂ = κs.1.1.0 in let tape = a.1.0 in let place = a.1.1.0 in let reply = a.1.1.1.0 in let ran = a.1.1.1.1.0 in
    let Ends : ℕ → Kept → List ℕ → Ran → Type 0 = λ r kept new told. (s : Status) × (r ≡ status_number s) × RunEnds tape.now place n.console reply.now ran.now s kept.console new told in
    let others : List RattleType = ShrSlice (named 0) κ₀ u8 ∷ usize ∷ MutSlice (named 1) κ₁ u8 ∷ MutRef (named 2) κ₂ RR ∷ [] in
    let y : Ptr → W.Ghost = λ p. ((κs, qs, bounds, (p, a.1), (rawptr_vals p, (shr_slice_vals tape, (uint_vals w64 place, (mut_slice_vals reply, (mut_vals ran, tt)))))), n) in
    let passed : List Val = shr_slice_vals tape ++ (uint_vals w64 place ++ (mut_slice_vals reply ++ (mut_vals ran ++ []))) in
    qed 𝓛 ((raw (alive 𝓛 f.signature κs qs) ⊛ ‵ (fsep (RawPtr.own_val a.0 (rawptr_vals a.0)) (owns others a.1 (y a.0).0.4.1))) ∷ ‵ (lies_at R full_share a.0 n) ∷ []) ∵ split ! $ move ! (1 ∷ []) $ fsplit ! $ drop ! $ move ! (2 ∷ []) $
    in_a_block ! a.0 (λ p. lies_at R full_share p n) (id⊢ 𝓤 _) (λ b o e.
    regoal ! (λ p. prop (WpFn 𝓤 𝓛.H 𝓣.C 𝓣.Λ fn (rawptr_vals p ++ passed) (W.post (y p)))) e refl $
    -- [what lies there; what the other parameters own; the tokens]
    enter ! _ _ _ _ _ $ alloc_all ! (λ l. pass_all ! refl ((tt, tt), ((tt, (tt, (record { fits = are.1.0.0.1.0 }, tt))), ((tt, record { fits = are.1.1.0.1 }), ((tt, (tt, (record { fits = are.1.1.1.0.0.1.0 }, tt))), ((tt, tt), tt))))) $
    first ! $ blocks ! $ sets_last ! (addr ! (through ! refl (stop !))) refl (tt, tt) $ exec ! 𝓣.C 𝓣.Λ (env code.Mir.locals l) code.Mir.t-2 (at_ret _ (W.post (y (block_ptr b o)))) $
    sets ! (of_opd ! (get ! refl)) refl (tt, tt) $ sets ! (of_opd ! (get ! refl)) refl (tt, (tt, (record { fits = are.1.0.0.1.0 }, tt))) $ sets ! (of_opd ! (get ! refl)) refl (tt, record { fits = are.1.1.0.1 }) $
    sets ! (addr ! (from ! (fld ! refl (hop ! (look_in_at ! 4 (sub ! 0 refl (whole !))) (stop !))))) refl (tt, tt) $
    sets ! (agg ! (and_then ! (get ! refl) (and_then ! (get_in ! (fld ! refl (stop !)) (sub ! 1 refl (whole !))) (no_more !)))) refl (tt, (tt, (record { fits = are.1.1.1.0.0.1.0 }, tt))) $
    sets ! (addr ! (through ! refl (stop !))) refl (tt, tt) $
    lft_new ! tt (λ α. let κ = α ∷ [] in move ! (1 ∷ []) $ use1 𝓛 (later (some (λ (γ : ℕ). ‵ ((MutRef (named 0) κ R).own_val (record { ref_ptr = (b, o); ghost_name = γ; now = n }) (vptr b o ∷ [])) ⊛ ‵ (flent κ (Body (mem R) b o γ)))))
    (lends_ref 𝓛 R (named 0) κ n b o) $ await ! tt $ pick ! (λ γ. split ! $
    -- [the console as a reference; the lender's part; the token of α; what the other parameters own; the tokens]
    let z : G.Ghost = (((κ, κs), (full_share, qs), tt, (record { ref_ptr = (b, o); ghost_name = γ; now = n }, a.1), (vptr b o ∷ [], (y a.0).0.4.1)), tt) in
    move ! (0 ∷ 3 ∷ []) $ fjoin ! $ move ! (2 ∷ 3 ∷ []) $ join ! $ join ! $ nothing ! $ move ! (1 ∷ 0 ∷ []) $ use2 𝓛 (raw (G.pre z)) (id⊢ 𝓤 _) $
    calls_at ! (framed 𝓤 𝓛.H 𝓜 𝓣) G (met 𝓤 𝓛 𝓜 𝓡 (code.calls-console_c::exports::run 𝓡.env wired)) z
    (and_then ! (get ! refl) (and_then ! (get ! refl) (and_then ! (get ! refl) (and_then ! (get ! refl) (and_then ! (get ! refl) (no_more !)))))) (λ v.
    use1 𝓛 (later (some (λ (r : ℕ). ((‵ (flft κ full_share) ⊛ raw (alive 𝓛 f.signature κs qs)) ⊛ ‵ (u8.own_val r (v ∷ []))) ⊛ some (λ (ws : Kept × (Unit {0} × (Unit {0} × (List ℕ × (Ran × Unit {0}))))). ‵ (lasts g.ended (κ, κs) z.0.3 ws) ⊛
    raw (fact 𝓤 (Ends r ws.0 ws.1.1.1.0 ws.1.1.1.1.0)))))) (id⊢ 𝓤 _) $
    await ! tt $ pick ! (λ r. split ! $ split ! $ split ! $ lft_end ! tt $ move ! (3 ∷ []) $ pick ! (λ ws. split ! $ fsplit ! $ fsplit ! $ move ! (1 ∷ []) $ drop ! $
    -- [the last value of the console; those of the others; how the call ended; α is over; the tokens; the result; the lender's part]
    move ! (3 ∷ 6 ∷ 0 ∷ []) $ use3 𝓛 (later (‵ (part_at R full_share ws.0 b o))) (ref_back 𝓛 R κ γ ws.0 b o) $ await ! tt $
    move ! (2 ∷ []) $ heard ! _ (λ ended. move ! (3 ∷ []) $ peeks ! u8 (Is u8) (shows 𝓛 u8) r (v ∷ []) (λ is.
    lands_as ! (ap only is.0) refl (tt, record { fits = is.1 }) $ returns ! (look_at ! 0 refl) $ free_all ! refl $
    -- [the result; the console; the last values of the others; the tokens]
    let new = ws.1.1.1.0 in let told = ws.1.1.1.1.0 in
    rewrite ! 0 (λ (vs : List Val). ‵ (u8.own_val r vs)) is.0 refl $
    move ! (2 ∷ []) $ fsplit ! $ drop ! $ fsplit ! $ drop ! $ fsplit ! $ fsplit ! $ fsplit ! $ move ! (1 ∷ []) $ feq_l ! (λ same.
    suffices ! _ (ends_at 𝓛 f.ended stayed c (y (block_ptr b o)) (vint w8 r) r (tt, (tt, (tt, (new, (told, tt))))) (tt, (tt, (tt, (same, (tt, tt)))))) $
    fjoin ! $ fjoin ! $ nothing ! $ fjoin ! $ nothing ! $ fjoin ! $ nothing ! $ fjoin ! $ join ! $ move ! (2 ∷ 0 ∷ []) $ join ! $ move ! (1 ∷ []) $
    -- [the console; all that is left else]
    nothing ! $ fpack ! (Ends r ws.0 new told) (λ _. ftrue) ended $ move ! (1 ∷ 0 ∷ []) $ fjoin ! $ fpack ! Kept (λ kept. fsep (part_at R full_share kept b o) (fex (Ends r kept new told) (λ _. ftrue))) ws.0 $ move ! (1 ∷ []) $ done !)))))))))))

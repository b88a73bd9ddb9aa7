-- `console_new` writes what `KeptConsole::new` gives.
use Rattle.std.proofs.Common.{[], ◌∷◌, refl}
use Rattle.std.proofs.raw_atomic.Walks.{proved}
use base.Fraction.{full_share}
use base.Logic.{id⊢}
use base.Fml.{ftrue, fsep, fex, froom}
use mir.Val.{vunit}
use prog.Wp.{WpFn}
use contract.Monad.{fact}
use contract.Running.{tables}
use types.Kit.{‵, raw, ◌⊛◌, some, later, prop, at_ret, ◌$◌, ◌∵◌, !, qed, done, move, drop, use1, use2, split, join, fjoin, fpack, feq_i, pick, await, regoal, suffices, group}
use types.Run.{enter, of_opd, unit_lit, init, stop, no_more, assigns_last, first, blocks, exec, returns}
use types.ByLocal.{alloc_all, pass_all, free_all, look_at, get, through, sets, lands_as, env}
use denote.Exit.{yes}
use denote.Memory.{lone, part_at}
use denote.Laws.{Is, shows}
use denote.RawPtr.{Ptr, RawPtr, block_ptr, room_at, in_a_block, rawptr_vals, rawptr_Tells}
use denote.Signature.{plain}
use denote.Triple.Entry.{on_entry}
use denote.Triple.Walked.{Stays, walk_of, stay_dropped, Goes-dropped, ends_at}
use denote.Steps.{nothing, peeks, heard}
use denote.Triple.Call.{calls_at}
use denote.Triple.Spec.{triple_of}
use denote.Triple.Table.{framed}
use borrow.Table.OneValue.{part_in}
use Rattle.console_c.specs.declared.kept_console.KeptConsole.{KeptConsole}
use Rattle.console_c.specs.contracts.kept_console.KeptConsole.{the_row as R}
use Rattle.console_c.proofs.kept_console.KeptConsole.TheLaws.{the_row_laws}
use Rattle.console_c.specs.Ends.{NewEnds}
use Rattle.console_c.specs.contracts.kept_console.KeptConsole.new as g
use Rattle.console_c.proofs.kept_console.KeptConsole.new.Met.{met}
use Rattle.console_c.specs.contracts.exports.console_new as f
use Rattle.console_c.proofs.exports.console_new.Statement.{statement}
use Rattle.console_c.proofs.exports.console_new.Code as code

abbrev stayed : Stays f.ended.signature.params f.ended.kept
stayed = (stay_dropped _ yes, tt)

pub console_new_spec : {M : Type 1} → statement M
console_new_spec 𝓤 𝓛 𝓜 𝓡 wired =
    let c = f.clauses 𝓛 𝓜.mem 𝓡.returns in let W = walk_of 𝓛 f.ended stayed c in let 𝓣 = tables 𝓤 𝓛.H 𝓜 𝓡 𝓡.env in let fn = code.function in
    let G = triple_of 𝓛 g.signature (g.spec 𝓛 𝓜.mem 𝓡.returns) in
    proved 𝓛 f.ended stayed c 𝓜 𝓡 (Goes-dropped 𝓛 0 (plain (λ _. RawPtr)) yes (λ κs x w. refl), tt)
    f.Key.name fn (code.unfolded 𝓤 𝓛.H 𝓜 𝓡 wired)
    (λ κs. (rawptr_vals, tt)) (λ κs. (rawptr_Tells, tt)) (λ κs qs bounds a n are.
    let y : Ptr → W.Ghost = λ p. ((κs, qs, bounds, (p, tt), (rawptr_vals p, tt)), n) in let z : G.Ghost = ((tt, tt, tt, tt, tt), tt) in
    qed 𝓛 (raw (on_entry 𝓛 f.signature κs qs a (y a.0).0.4) ∷ ‵ (room_at R a.0) ∷ []) ∵ drop ! $
    in_a_block ! a.0 (λ p. room_at R p) (id⊢ 𝓤 _) (λ b o e.
    regoal ! (λ p. prop (WpFn 𝓤 𝓛.H 𝓣.C 𝓣.Λ fn (rawptr_vals p) (W.post (y p)))) e refl $
    use1 𝓛 (‵ (froom (lone R.mir) b o)) (id⊢ 𝓤 _) $
    enter ! _ _ _ _ _ $ alloc_all ! (λ l. pass_all ! refl ((tt, tt), tt) $ first ! $ blocks ! $
    nothing ! $ nothing ! $ join ! $ nothing ! $ move ! (1 ∷ 0 ∷ []) $ use2 𝓛 (raw (G.pre z)) (id⊢ 𝓤 _) $
    calls_at ! (framed 𝓤 𝓛.H 𝓜 𝓣) G (met 𝓤 𝓛 𝓜 𝓡 (code.calls-console_c::kept_console::KeptConsole::new 𝓡.env wired)) z (no_more !) (λ v.
    use1 𝓛 (later (some (λ (k : KeptConsole). (‵ ftrue ⊛ ‵ (R.own_val k (v ∷ []))) ⊛ some (λ (ws : Unit {0}). ‵ ftrue ⊛ raw (fact 𝓤 (NewEnds k.console)))))) (id⊢ 𝓤 _) $
    await ! tt $ pick ! (λ k. split ! $ split ! $ drop ! $ move ! (1 ∷ []) $ pick ! (λ ws. split ! $ drop ! $ heard ! _ (λ new.
    peeks ! R (Is R) (shows 𝓛 R) k (v ∷ []) (λ is. let good = ((the_row_laws.lawful 𝓛).typed k (v ∷ []) is).0 in
    lands_as ! refl refl good $
    -- [what the console owns; the room; the locals]
    assigns_last ! (of_opd ! (get ! refl)) (through ! refl (stop !)) (init ! 1 refl good) $
    exec ! 𝓣.C 𝓣.Λ (env code.Mir.locals l) code.Mir.t-2 (at_ret _ (W.post (y (block_ptr b o)))) $ sets ! (of_opd ! (unit_lit !)) refl (tt, tt) $
    returns ! (look_at ! 0 refl) $ free_all ! refl $
    suffices ! _ (ends_at 𝓛 f.ended stayed c (y (block_ptr b o)) vunit tt (tt, tt) (tt, tt)) $
    move ! (1 ∷ 0 ∷ []) $ use2 𝓛 (‵ (part_at R full_share k b o)) (part_in 𝓛 R refl full_share k b o v) $
    nothing ! $ fpack ! (NewEnds k.console) (λ _. ftrue) new $ move ! (1 ∷ 0 ∷ []) $ fjoin ! $ fpack ! KeptConsole (λ x. fsep (part_at R full_share x b o) (fex (NewEnds x.console) (λ _. ftrue))) k $
    feq_i ! _ (vunit ∷ []) _ refl $ nothing ! $ nothing ! $ join ! $ nothing ! $ group ! 3 $ done !))))))))

use Rattle.std.proofs.Common.{◌≡◌, ℕ, true, List, [], ◌∷◌, ◌++◌, sym, refl, ap, ◌∙◌, subst, append-nil, arith}
use Rattle.std.proofs.lemmas.Bool.{true≢false}
use Rattle.machine.specs.declared.fault.Fault.{Fault}
use Rattle.machine.specs.declared.fault.Fault.TheVariants.{NoSuchTurn}
use Rattle.machine.specs.declared.ending.Ending.{Ending}
use Rattle.machine.specs.declared.ending.Ending.TheVariants.{Home, NotHome, Refused}
use Rattle.machine.specs.Meaning.{Meaning, InRange, Brings}
use Rattle.machine.specs.Follows.{EndsAs, Through, Follows}

module _ {S : Type 0} (m : Meaning S) where
  -- Any way on from s by `rest`, put after these states, is a way from the start by ks.
  abbrev pub Resumes : S → List ℕ → List S → S → List ℕ → Type 0
  Resumes start ks states s rest = (ts : List S) (end : Ending) → Through m s rest ts end → Through m start ks (states ++ ts) end

  ends_as_home : (s : S) (end : Ending) → EndsAs m s end → m.home s ≡ true → end ≡ Home
  ends_as_home s Home h e = refl
  ends_as_home s NotHome h e = absurd (true≢false (sym e ∙ h))
  ends_as_home s (Refused f) h e = absurd h

  through_brings : (s : S) (ks : List ℕ) (states : List S) (end : Ending) → Through m s ks states end → end ≡ Home → Brings m ks s
  through_brings s [] [] end h e = subst (EndsAs m s) e h
  through_brings s [] (t ∷ ts) end h e = absurd h
  through_brings s (k ∷ ks) [] end h e = let q = h.1 in let z : ◌≡◌ {A = ℕ} 0 1 = cc in absurd (omega arith)
  through_brings s (k ∷ ks) (t ∷ ts) end h e = (h.0, subst (Brings m ks) h.1 (through_brings t ks ts end h.2 e))

  through_ends_home : (s : S) (ks : List ℕ) (states : List S) (end : Ending) → Through m s ks states end → Brings m ks s → end ≡ Home
  through_ends_home s [] [] end h b = ends_as_home s end h b
  through_ends_home s [] (t ∷ ts) end h b = absurd h
  through_ends_home s (k ∷ ks) [] end h b = absurd (h.0 b.0)
  through_ends_home s (k ∷ ks) (t ∷ ts) end h b = through_ends_home t ks ts end h.2 (subst (Brings m ks) (sym h.1) b.1)

  pub follows : (s : S) (ks : List ℕ) (states : List S) (end : Ending) → Through m s ks states end → Follows m s ks states end
  follows s ks states end h = record { through = h; brings = through_brings s ks states end h; ends_home = through_ends_home s ks states end h }

  -- the way ends here
  resumes_end : (start : S) (ks : List ℕ) (states : List S) (s : S) (rest : List ℕ) (end : Ending) → Resumes start ks states s rest → Through m s rest [] end → Follows m start ks states end
  resumes_end start ks states s rest end h way = follows start ks states end (subst (λ (l : List S). Through m start ks l end) (append-nil states) (h [] end way))

  pub resumes_refused : (start : S) (ks : List ℕ) (states : List S) (s : S) (rest : List ℕ) (k : ℕ) (more : List ℕ) (f : Fault) → Resumes start ks states s rest → rest ≡ k ∷ more → f ≡ NoSuchTurn → (InRange m s k → ⊥) → Follows m start ks states (Refused f)
  resumes_refused start ks states s rest k more f h e is_f out =
      resumes_end start ks states s rest (Refused f) h (subst (λ (l : List ℕ). Through m s l [] (Refused f)) (sym e) (out, ap Refused is_f))

  pub resumes_ended : (start : S) (ks : List ℕ) (states : List S) (s : S) (rest : List ℕ) (end : Ending) → Resumes start ks states s rest → rest ≡ [] → EndsAs m s end → Follows m start ks states end
  resumes_ended start ks states s rest end h e ends = resumes_end start ks states s rest end h (subst (λ (l : List ℕ). Through m s l [] end) (sym e) ends)

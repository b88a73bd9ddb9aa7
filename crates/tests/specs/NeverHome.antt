use Rattle.std.proofs.Common.{◌≡◌, ℕ, false, List, [], ◌∷◌, sym, ◌∙◌}
use Rattle.std.proofs.lemmas.Bool.{false≢true}
use Rattle.machine.specs.Meaning.{Meaning, Brings}

-- Where no state is home, no list of turns brings one home.
pub never_home : {S : Type 0} (m : Meaning S) → ((s : S) → m.home s ≡ false) → (s : S) (ks : List ℕ) → Brings m ks s → ⊥
never_home m away s [] b = false≢true (sym (away s) ∙ b)
never_home m away s (k ∷ ks) b = never_home m away (m.after s k) ks b.1

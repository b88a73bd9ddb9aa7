use Rattle.std.proofs.Common.{◌≡◌, ℕ, List, [], ◌∷◌, ◌++◌, reverse, sym, ◌∙◌, subst, arith}
use Rattle.std.proofs.lemmas.List.{reverse-append}
use Rattle.machine.specs.Meaning.{Meaning, InRange, Lawful, Brings}
use Rattle.machine.specs.Duals.{Backwards, Duals, IsDual}

-- Why lists of turns are read backwards at the dual. Turn k moves what stands at the places; `relabel k` changes the numbers of what stands there
-- in the same way. The dual exchanges places and numbers, so it takes the one to the other.
pub record Relabelling {S : Type 0} (m : Meaning S) (mirror : S → S) : Type 0 where
  pub relabel : ℕ → S → S
  pub same_lowest : (k : ℕ) (s : S) → m.lowest (relabel k s) ≡ m.lowest s
  pub same_highest : (k : ℕ) (s : S) → m.highest (relabel k s) ≡ m.highest s
  pub mirror_lowest : (s : S) → m.lowest (mirror s) ≡ m.lowest s
  pub mirror_highest : (s : S) → m.highest (mirror s) ≡ m.highest s
  pub mirror_turn : (s : S) (k : ℕ) → mirror (m.after s k) ≡ relabel k (mirror s)
  pub commutes : (s : S) (k j : ℕ) → m.after (relabel k s) j ≡ relabel k (m.after s j)
  pub relabel_home : (s : S) (k : ℕ) → m.home (relabel k s) ≡ m.home (m.after s k)
  pub mirror_home : (s : S) → m.home (mirror s) ≡ m.home s

module _ {S : Type 0} (m : Meaning S) where
  in_range : (s t : S) (k : ℕ) → m.lowest t ≡ m.lowest s → m.highest t ≡ m.highest s → InRange m s k → InRange m t k
  in_range s t k p q r = let l = r.low in let h = r.high in record { low = omega arith; high = omega arith }

  module _ (law : Lawful m) (d : S → S) (rel : Relabelling m d) where
    -- a turn at the end of a list does what relabelling does at its beginning
    last_to : (js : List ℕ) (y : S) (k : ℕ) → InRange m y k → Brings m js (rel.relabel k y) → Brings m (js ++ k ∷ []) y
    last_to [] y k r h = (r, sym (rel.relabel_home y k) ∙ h)
    last_to (j ∷ js) y k r h =
        let q : InRange m y j = in_range (rel.relabel k y) y j (sym (rel.same_lowest k y)) (sym (rel.same_highest k y)) h.0 in
        let r' : InRange m (m.after y j) k = in_range y (m.after y j) k (law.same_lowest y j q) (law.same_highest y j q) r in
        (q, last_to js (m.after y j) k r' (subst (λ x. Brings m js x) (rel.commutes y k j) h.1))

    last_from : (js : List ℕ) (y : S) (k : ℕ) → Brings m (js ++ k ∷ []) y → InRange m y k × Brings m js (rel.relabel k y)
    last_from [] y k h = (h.0, rel.relabel_home y k ∙ h.1)
    last_from (j ∷ js) y k h =
        let q = h.0 in
        let ih = last_from js (m.after y j) k h.1 in
        let r : InRange m y k = in_range (m.after y j) y k (sym (law.same_lowest y j q)) (sym (law.same_highest y j q)) ih.0 in
        (r, (in_range y (rel.relabel k y) j (rel.same_lowest k y) (rel.same_highest k y) q, subst (λ x. Brings m js x) (sym (rel.commutes y k j)) ih.1))

    mirror_to : (ks : List ℕ) (s : S) → Brings m ks s → Brings m (reverse ks) (d s)
    mirror_to [] s h = rel.mirror_home s ∙ h
    mirror_to (k ∷ ks) s h =
        let r : InRange m (d s) k = in_range s (d s) k (rel.mirror_lowest s) (rel.mirror_highest s) h.0 in
        let ih = mirror_to ks (m.after s k) h.1 in
        subst (λ l. Brings m l (d s)) (sym (reverse-append (k ∷ []) ks)) (last_to (reverse ks) (d s) k r (subst (λ x. Brings m (reverse ks) x) (rel.mirror_turn s k) ih))

    mirror_from : (ks : List ℕ) (s : S) → Brings m (reverse ks) (d s) → Brings m ks s
    mirror_from [] s h = sym (rel.mirror_home s) ∙ h
    mirror_from (k ∷ ks) s h =
        let both = last_from (reverse ks) (d s) k (subst (λ l. Brings m l (d s)) (reverse-append (k ∷ []) ks) h) in
        let q : InRange m s k = in_range (d s) s k (sym (rel.mirror_lowest s)) (sym (rel.mirror_highest s)) both.0 in
        (q, mirror_from ks (m.after s k) (subst (λ x. Brings m (reverse ks) x) (sym (rel.mirror_turn s k)) both.1))

    pub relabelling_duals : Duals m d
    relabelling_duals s = λ ks. (mirror_to ks s, mirror_from ks s)

pub is_dual : {S : Type 0} (m : Meaning S) (mirror : S → S) → Duals m mirror → (s t : S) → t ≡ mirror s → IsDual m mirror s t
is_dual m mirror h s t e = record { mirrored = e; backwards = subst (Backwards m s) (sym e) (h s) }

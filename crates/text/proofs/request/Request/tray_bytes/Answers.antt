use Rattle.std.proofs.Common.{rules, ◌≡◌, ℕ, zero, suc, ◌+◌, ◌<◌, ◌≤◌, List, get_or, vec_items, refl, ◌∙◌, subst, arith, ⊎_elim}
use Rattle.std.proofs.lemmas.Bool.{cases_lt}
use Rattle.std.specs.Fn.{Called, Mut}
use Rattle.std.specs.Array.{IsFromFnResultFrom}
use Rattle.text.proofs.request.Request.tray_bytes.Goals as goal

module _ {F : Type 0} (g : Mut F (ℕ × Unit {0}) ℕ) (f : F) (ys : List ℕ) (made : ℕ → ℕ) (calls : (i y : ℕ) (q : F) → Called g f (i, tt) y q → (q ≡ f) × (y ≡ made i)) where
  -- calls of f, which leave it as it was, gave the n elements from i on
  made_at : (p : F) (i n : ℕ) → p ≡ f → IsFromFnResultFrom g p ys i n → (k : ℕ) → i ≤ k → k < i + n → get_or ys k 0 ≡ made k
  made_at p i zero same h k low high = absurd (omega arith)
  made_at p i (suc n) same h k low high =
      let call = calls i h.1 h.0 (subst (λ (q : F). Called g q (i, tt) h.1 h.0) same h.3) in
      ⊎_elim
      (λ (more : i < k). made_at h.0 (i + 1) n call.0 h.4 k (omega arith) (omega arith))
      (λ (here : k ≤ i). let at : i ≡ k = omega arith in rw (← at) (h.2.1 0 ∙ call.1))
      (cases_lt i k)

pub returns : goal.returns
returns c k lt =
    made_at _ _ _ (λ i. get_or (vec_items c.args.self.now.trays) i 0) (λ i y q called. search rules) _ 0 32 refl c.from_fn.ensures.items.each k (omega arith) (omega arith)

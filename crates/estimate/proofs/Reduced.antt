use Rattle.std.proofs.Common.{◌≡◌, List, [], ◌∷◌, Option, Some, None, ap, subst, refl}
use Rattle.std.proofs.lemmas.Iterator.{YieldsList}
use Rattle.std.proofs.lemmas.Iterator.Consumers.{reduce_from_yields_List}
use Rattle.std.specs.Fn.{Called, Mut}
use Rattle.std.specs.Iterator.{ReducesItems}
use Rattle.std.specs.List.{FoldsTo, reduce}

-- `reduce` by a function f that computes h.
module _ {A F : Type 0} (g : Mut F (A × (A × Unit {0})) A) (f : F) (h : A → A → A) (computes : (a x b : A) (q : F) → Called g f (a, (x, tt)) b q → (q ≡ f) × (b ≡ h a x)) where
  -- each call of f is a step of h
  steps_of : (xs : List A) (p q : F) (a b : A) → p ≡ f → FoldsTo {P = F × A} (λ s x t. Called g s.0 (s.1, (x, tt)) t.1 t.0) (p, a) xs (q, b) → FoldsTo (λ a x b. b ≡ h a x) a xs b
  steps_of [] p q a b same end = ap (λ (t : F × A). t.1) end
  steps_of (x ∷ xs) p q a b same run =
      let call = computes a x run.0.1 run.0.0 (subst (λ (s : F). Called g s (a, (x, tt)) run.0.1 run.0.0) same run.1) in
      (run.0.1, call.1, steps_of xs run.0.0 q run.0.1 b call.0 run.2)

  pub reduced : {S : Type 0} {steps : S → Option A → S → Type 0} {all : List A} (s : S) (r : Option A) → ReducesItems steps g s f r → YieldsList steps (λ x. x) s all → r ≡ reduce h all
  reduced s None none gives = reduce_from_yields_List h s None none gives
  reduced s (Some b) some gives = reduce_from_yields_List h s (Some b) (some.0, some.1, some.3, steps_of some.1 f some.2 some.0 b refl some.4) gives

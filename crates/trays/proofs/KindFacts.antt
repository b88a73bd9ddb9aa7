use Rattle.std.proofs.Common.{◌≡◌, ℕ, ◌≤◌, List, map, Decides, sym, ap, ◌∙◌, subst}
use Rattle.std.proofs.lemmas.Bool.Decides.{Decides-like, same_from_decides}
use Rattle.machine.specs.declared.turn_range.TheConstants.{HIGHEST_TURN}
use Rattle.machine.specs.Duals.{Duals, IsDual}
use Rattle.machine.specs.Meaning.{Meaning, Lawful}
use Rattle.machine.proofs.Relabelled.{Relabelling, is_dual, relabelling_duals}
use Rattle.trays.specs.Form.{TrayForm, Regular}
use Rattle.trays.specs.Permutation.{inverse}
use Rattle.trays.proofs.Exchange.{Move, Exchange, Moved, moved_back}
use Rattle.trays.proofs.Inverses.{inverse_permutation, inverse_twice, ordered_inverse}
use Rattle.trays.proofs.Permutations.{Permutation, Ordered}
use Rattle.trays.proofs.Relabelled.{relabelled, relabelled_permutation, inverse_moved, ordered_moved, ordered_relabelled, moved_relabelled}

-- What a kind of machine supplies. `base` is what no turn changes: the number of trays, and a span where there is one.
pub record KindFacts {A B S : Type 0} (f : TrayForm A) (reg : Regular f) (m : Meaning S) (mirror : S → S) (base : S → B) : Type 0 where
  pub trays : S → List A
  pub count : B → ℕ
  pub most : (s : S) → count (base s) ≤ 32
  pub permuted : (s : S) → Permutation f (count (base s)) (trays s)
  pub same : (s t : S) → base s ≡ base t → trays s ≡ trays t → s ≡ t
  -- there is a machine for every order of the trays
  pub refitted : (s : S) (ys : List A) → Permutation f (count (base s)) ys → (t : S) × (base t ≡ base s) × (trays t ≡ ys)
  -- its turns
  pub range : (s t : S) → base t ≡ base s → (m.lowest t ≡ m.lowest s) × (m.highest t ≡ m.highest s)
  pub from_one : (s : S) → 1 ≤ m.lowest s
  pub to_highest : (s : S) → m.highest s ≤ HIGHEST_TURN
  pub move : B → ℕ → Move
  pub exchange : (s : S) (k : ℕ) → Exchange (count (base s)) (move (base s) k)
  pub after_base : (s : S) (k : ℕ) → base (m.after s k) ≡ base s
  pub after_trays : (s : S) (k : ℕ) → Moved f (move (base s) k) (trays s) (trays (m.after s k))
  -- its home and its dual
  pub home : (s : S) → Decides (m.home s) (Ordered f reg (count (base s)) (trays s))
  pub mirror_base : (s : S) → base (mirror s) ≡ base s
  pub mirror_trays : (s : S) → trays (mirror s) ≡ inverse f (count (base s)) (trays s)

module _ {A B S : Type 0} (f : TrayForm A) (reg : Regular f) (m : Meaning S) (mirror : S → S) (base : S → B) (k : KindFacts f reg m mirror base) where
  abbrev n : S → ℕ
  n s = k.count (base s)

  turn_twice : (s : S) (j : ℕ) → m.after (m.after s j) j ≡ s
  turn_twice s j =
      let t = m.after s j in
      let w : Moved f (k.move (base s) j) (k.trays t) (k.trays (m.after t j)) = subst (λ (b : B). Moved f (k.move b j) (k.trays t) (k.trays (m.after t j))) (k.after_base s j) (k.after_trays t j) in
      k.same (m.after t j) s (k.after_base t j ∙ k.after_base s j)
      (moved_back f reg (n s) (k.move (base s) j) (k.exchange s j) (k.trays s) (k.trays t) (k.trays (m.after t j)) (k.after_trays s j) w)

  pub kind_lawful : Lawful m
  kind_lawful = record {
    from_one = k.from_one;
    to_highest = k.to_highest;
    twice = λ s j r. turn_twice s j;
    same_lowest = λ s j r. (k.range s (m.after s j) (k.after_base s j)).0;
    same_highest = λ s j r. (k.range s (m.after s j) (k.after_base s j)).1;
  }

  -- the machine whose trays have their numbers moved as turn j moves the places
  abbrev relabelling : (j : ℕ) (s : S) → (t : S) × (base t ≡ base s) × (k.trays t ≡ map (relabelled f (k.move (base s) j)) (k.trays s))
  relabelling j s =
      k.refitted s (map (relabelled f (k.move (base s) j)) (k.trays s)) (relabelled_permutation f (k.move (base s) j) reg (n s) (k.exchange s j) (k.trays s) (k.permuted s))

  relabel : ℕ → S → S
  relabel j s = (relabelling j s).0

  relabel_base : (j : ℕ) (s : S) → base (relabel j s) ≡ base s
  unfolding relabel
  relabel_base j s = (relabelling j s).1

  relabel_trays : (j : ℕ) (s : S) → k.trays (relabel j s) ≡ map (relabelled f (k.move (base s) j)) (k.trays s)
  unfolding relabel
  relabel_trays j s = (relabelling j s).2

  -- the same for a state of the same base
  relabel_like : (j : ℕ) (s t : S) → base t ≡ base s → k.trays (relabel j t) ≡ map (relabelled f (k.move (base s) j)) (k.trays t)
  relabel_like j s t e = relabel_trays j t ∙ ap (λ (b : B). map (relabelled f (k.move b j)) (k.trays t)) e

  inverse_like : (s t : S) → base t ≡ base s → k.trays (mirror t) ≡ inverse f (n s) (k.trays t)
  inverse_like s t e = k.mirror_trays t ∙ ap (λ (b : B). inverse f (k.count b) (k.trays t)) e

  mirror_turn : (s : S) (j : ℕ) → mirror (m.after s j) ≡ relabel j (mirror s)
  mirror_turn s j =
      let t = m.after s j in
      let u = mirror s in
      k.same (mirror t) (relabel j u) (k.mirror_base t ∙ k.after_base s j ∙ sym (relabel_base j u ∙ k.mirror_base s))
      (inverse_like s t (k.after_base s j)
      ∙ inverse_moved f (k.move (base s) j) reg (n s) (k.exchange s j) (k.trays s) (k.permuted s) (k.trays t) (k.after_trays s j) (k.most s)
      ∙ sym (relabel_like j s u (k.mirror_base s) ∙ ap (map (relabelled f (k.move (base s) j))) (k.mirror_trays s)))

  commutes : (s : S) (i j : ℕ) → m.after (relabel i s) j ≡ relabel i (m.after s j)
  commutes s i j =
      let t = m.after s j in
      let u = relabel i s in
      let w = k.move (base s) i in
      let v = k.move (base s) j in
      let z : Moved f v (map (relabelled f w) (k.trays s)) (k.trays (m.after u j)) =
      subst (λ (l : List A). Moved f v l (k.trays (m.after u j))) (relabel_trays i s)
      (subst (λ (b : B). Moved f (k.move b j) (k.trays u) (k.trays (m.after u j))) (relabel_base i s) (k.after_trays u j)) in
      k.same (m.after u j) (relabel i t) (k.after_base u j ∙ relabel_base i s ∙ sym (relabel_base i t ∙ k.after_base s j))
      (moved_relabelled f reg v w (k.trays s) (k.trays t) (k.trays (m.after u j)) (k.after_trays s j) z ∙ sym (relabel_like i s t (k.after_base s j)))

  -- whether it is home, for a state of the same base
  home_like : (s t : S) → base t ≡ base s → Decides (m.home t) (Ordered f reg (n s) (k.trays t))
  home_like s t e = subst (λ (b : B). Decides (m.home t) (Ordered f reg (k.count b) (k.trays t))) e (k.home t)

  relabel_home : (s : S) (j : ℕ) → m.home (relabel j s) ≡ m.home (m.after s j)
  relabel_home s j =
      let t = m.after s j in
      let v = k.move (base s) j in
      let there = subst (λ (l : List A). Decides (m.home (relabel j s)) (Ordered f reg (n s) l)) (relabel_trays j s) (home_like s (relabel j s) (relabel_base j s)) in
      same_from_decides _ _ there
      (Decides-like (m.home t)
      (ordered_relabelled f v reg (n s) (k.exchange s j) (k.trays s) (k.permuted s) (k.trays t) (k.after_trays s j))
      (ordered_moved f v reg (n s) (k.exchange s j) (k.trays s) (k.permuted s) (k.trays t) (k.after_trays s j))
      (home_like s t (k.after_base s j)))

  pub mirror_twice : (s : S) → mirror (mirror s) ≡ s
  mirror_twice s =
      let u = mirror s in
      k.same (mirror u) s (k.mirror_base u ∙ k.mirror_base s)
      (inverse_like s u (k.mirror_base s) ∙ ap (inverse f (n s)) (k.mirror_trays s) ∙ inverse_twice f reg (n s) (k.trays s) (k.permuted s) (k.most s))

  mirror_home : (s : S) → m.home (mirror s) ≡ m.home s
  mirror_home s =
      let xs = k.trays s in
      let ys = inverse f (n s) xs in
      let there = subst (λ (l : List A). Decides (m.home (mirror s)) (Ordered f reg (n s) l)) (k.mirror_trays s) (home_like s (mirror s) (k.mirror_base s)) in
      same_from_decides _ _ there
      (Decides-like (m.home s)
      (ordered_inverse f reg (n s) xs (k.permuted s) (k.most s))
      (λ h. subst (Ordered f reg (n s)) (inverse_twice f reg (n s) xs (k.permuted s) (k.most s)) (ordered_inverse f reg (n s) ys (inverse_permutation f reg (n s) xs (k.permuted s) (k.most s)) (k.most s) h))
      (k.home s))

  kind_relabelling : Relabelling m mirror
  kind_relabelling = record {
    relabel = relabel;
    same_lowest = λ j s. (k.range s (relabel j s) (relabel_base j s)).0;
    same_highest = λ j s. (k.range s (relabel j s) (relabel_base j s)).1;
    mirror_lowest = λ s. (k.range s (mirror s) (k.mirror_base s)).0;
    mirror_highest = λ s. (k.range s (mirror s) (k.mirror_base s)).1;
    mirror_turn = mirror_turn;
    commutes = commutes;
    relabel_home = relabel_home;
    mirror_home = mirror_home;
  }

  pub kind_duals : Duals m mirror
  kind_duals = relabelling_duals m kind_lawful mirror kind_relabelling

  -- a machine of the same base with the inverse trays is the dual
  pub kind_dual : (s t : S) → base t ≡ base s → k.trays t ≡ inverse f (n s) (k.trays s) → IsDual m mirror s t
  kind_dual s t b e =
      is_dual m mirror kind_duals s t
      (k.same t (mirror s) (b ∙ sym (k.mirror_base s)) (e ∙ sym (k.mirror_trays s)))

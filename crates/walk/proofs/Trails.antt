use Rattle.std.proofs.Common.{◌≡◌, ℕ, zero, suc, ◌+◌, ◌≤◌, ◌<◌, List, ◌∷◌, length, get_or, set, slice_get, Some, refl, sym, subst, ap, ◌∙◌, ap₂, arith, ⊎_elim, ◌≢◌}
use Rattle.std.proofs.lemmas.List.{get_or-set_other, get_or-set_same, length-set}
use Rattle.std.proofs.lemmas.Bool.{cases_eq}
use Rattle.std.proofs.lemmas.Option.{get_or_from_slice_get}
use Rattle.walk.specs.declared.depth_record.DepthRecord.{DepthRecord}
use Rattle.walk.specs.Records.{blank, turns_to, Linked, first_or_none}

pub length_turns_to : (rs : List DepthRecord) (depth : ℕ) → length (turns_to rs depth) ≡ depth
length_turns_to rs zero = refl
length_turns_to rs (suc depth) = ap suc (length_turns_to rs depth)

-- a record that is written leaves the turns to a depth that is no deeper
pub turns_to_set : (rs : List DepthRecord) (depth i : ℕ) (r : DepthRecord) → depth ≤ i → turns_to (set rs i r) depth ≡ turns_to rs depth
turns_to_set rs zero i r h = refl
turns_to_set rs (suc depth) i r h =
    let apart : depth ≢ i = omega arith in
    ap₂ (λ x ks. x.tried ∷ ks) (get_or-set_other rs i depth r blank apart) (turns_to_set rs depth i r (omega arith))

-- Where a record is written deeper, the records above are linked as before.
linked_set : (rs : List DepthRecord) (depth i : ℕ) (r : DepthRecord) → depth < i → Linked rs depth → Linked (set rs i r) depth
linked_set rs depth i r h old j le =
    let apart : j ≢ i = omega arith in
    ap (λ x. x.led) (get_or-set_other rs i j r blank apart) ∙ old j le ∙ sym (ap first_or_none (turns_to_set rs j i r (omega arith)))

-- the same where only the turn tried last changes, at the depth itself
linked_tried : (rs : List DepthRecord) (depth : ℕ) (r : DepthRecord) → depth < length rs → r.led ≡ (get_or rs depth blank).led → Linked rs depth → Linked (set rs depth r) depth
linked_tried rs depth r within same old j le =
    ⊎_elim
    (λ (here : j ≡ depth).
    ap (λ n. (get_or (set rs depth r) n blank).led) here
    ∙ ap (λ x. x.led) (get_or-set_same rs depth r blank within)
    ∙ same
    ∙ old depth (omega arith)
    ∙ sym (ap first_or_none (turns_to_set rs depth depth r (omega arith)))
    ∙ ap (λ n. first_or_none (turns_to (set rs depth r) n)) (sym here))
    (λ apart.
    ap (λ x. x.led) (get_or-set_other rs depth j r blank apart) ∙ old j le ∙ sym (ap first_or_none (turns_to_set rs j depth r le)))
    (cases_eq j depth)

-- One depth more is linked where its record has the turn tried last above it.
linked_more : (rs : List DepthRecord) (depth : ℕ) → (get_or rs (suc depth) blank).led ≡ (get_or rs depth blank).tried → Linked rs depth → Linked rs (suc depth)
linked_more rs depth next old j le =
    ⊎_elim
    (λ (here : j ≡ suc depth). subst (λ n. (get_or rs n blank).led ≡ first_or_none (turns_to rs n)) (sym here) next)
    (λ apart. old j (omega arith))
    (cases_eq j (suc depth))

module _ (rs : List DepthRecord) (depth k : ℕ) (here : DepthRecord) (within : depth + 1 < length rs) where
  -- the records once turn k is tried and leads one deeper
  abbrev pub pushed : List DepthRecord
  pushed = set (set rs depth (record { led = here.led; tried = k })) (depth + 1) (record { led = k; tried = 0 })

  tried_above : get_or pushed depth blank ≡ record { led = here.led; tried = k }
  tried_above =
      let apart : depth ≢ depth + 1 = omega arith in
      get_or-set_other (set rs depth (record { led = here.led; tried = k })) (depth + 1) depth (record { led = k; tried = 0 }) blank apart
      ∙ get_or-set_same rs depth (record { led = here.led; tried = k }) blank (omega arith)

  led_below : get_or pushed (suc depth) blank ≡ record { led = k; tried = 0 }
  led_below =
      let next : suc depth ≡ depth + 1 = omega arith in
      let long = length-set rs depth (record { led = here.led; tried = k }) in
      ap (λ n. get_or pushed n blank) next ∙ get_or-set_same (set rs depth (record { led = here.led; tried = k })) (depth + 1) (record { led = k; tried = 0 }) blank (omega arith)

  pub pushed_turns : turns_to pushed (depth + 1) ≡ k ∷ turns_to rs depth
  pushed_turns =
      let next : depth + 1 ≡ suc depth = omega arith in
      ap (turns_to pushed) next
      ∙ ap₂ (λ x ks. x.tried ∷ ks) tried_above (turns_to_set (set rs depth (record { led = here.led; tried = k })) depth (depth + 1) (record { led = k; tried = 0 }) (omega arith) ∙ turns_to_set rs depth depth (record { led = here.led; tried = k }) (omega arith))

  pub pushed_linked : slice_get rs depth ≡ Some here → Linked rs depth → Linked pushed (depth + 1)
  pushed_linked value old =
      let next : suc depth ≡ depth + 1 = omega arith in
      let same : get_or rs depth blank ≡ here = get_or_from_slice_get rs depth here blank value in
      subst (Linked pushed) next
      (linked_more pushed depth (ap (λ x. x.led) led_below ∙ sym (ap (λ x. x.tried) tried_above))
      (linked_set (set rs depth (record { led = here.led; tried = k })) depth (depth + 1) (record { led = k; tried = 0 }) (omega arith)
      (linked_tried rs depth (record { led = here.led; tried = k }) (omega arith) (sym (ap (λ x. x.led) same)) old)))

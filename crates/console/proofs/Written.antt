use Rattle.std.proofs.Common.{◌≡◌, ℕ, ◌+◌, ◌-◌, ◌<◌, ◌≤◌, min, List, [], ◌++◌, length, length-append, take, drop, sym, ap, ap₂, ◌∙◌, arith, ⊎_elim}
use Rattle.std.proofs.lemmas.Bool.{cases_lt}
use Rattle.std.proofs.lemmas.List.{take_all, take_min, take-append-le, drop_all, drop-drop, length-take, length-drop}
use Rattle.std.proofs.Math.Seq.{take-append_seam, take-append-add, drop-append_seam}
use mathlib.Core.List.{append_assoc, append-nil}
use Rattle.console.specs.Tapes.{written}
use Rattle.console.proofs.RestKept.{rest_of}

-- A room into which bytes were written from a place on.

-- it is the same whether the lesser of both lengths is counted or each where it counts
pub filled_is : (part bytes front : List ℕ) (n : ℕ) → n ≡ min (length bytes) (length part) → front ≡ take n bytes → front ++ drop n part ≡ written part bytes
filled_is part bytes front n least is =
    ⊎_elim
    (λ (more : length part < length bytes).
    let same : n ≡ length part = omega arith in
    ap₂ (λ (xs ys : List ℕ). xs ++ ys) (is ∙ ap (λ k. take k bytes) same) (ap (λ k. drop k part) same ∙ drop_all (length part) part (omega arith) ∙ sym (drop_all (length bytes) part (omega arith))))
    (λ (fits : length bytes ≤ length part).
    let same : n ≡ length bytes = omega arith in
    ap₂ (λ (xs ys : List ℕ). xs ++ ys) (is ∙ ap (λ k. take k bytes) same ∙ take_all (length bytes) bytes (omega arith) ∙ sym (take_all (length part) bytes fits)) (ap (λ k. drop k part) same))
    (cases_lt (length part) (length bytes))

-- what is left of a room from a place on is written into, up to its end
pub end_written : (room bytes new : List ℕ) (start : ℕ) → start ≤ length room → new ≡ written (take (length room - start) (drop start room)) bytes → new ++ drop (length room - start) (drop start room) ≡ written (drop start room) bytes
end_written room bytes new start within is =
    ap₂ (λ (xs ys : List ℕ). xs ++ ys) (is ∙ ap (λ xs. written xs bytes) (rest_of start room)) (let rest = length-drop start room in drop_all (length room - start) (drop start room) (omega arith))
    ∙ append-nil (written (drop start room) bytes)

-- where the room goes no further than what was written, it stays
no_more : (old so_far bytes : List ℕ) → length old ≤ length so_far → written old (so_far ++ bytes) ≡ written old so_far
no_more old so_far bytes end =
    let both = length-append so_far bytes in
    ap₂ (λ (xs ys : List ℕ). xs ++ ys) (take-append-le (length old) so_far bytes end) (drop_all (length (so_far ++ bytes)) old (omega arith) ∙ sym (drop_all (length so_far) old end))

-- where it goes further, the rest of it is written into
further : (old so_far bytes : List ℕ) → length so_far ≤ length old → written old (so_far ++ bytes) ≡ so_far ++ written (drop (length so_far) old) bytes
further old so_far bytes fits =
    let both = length-append so_far bytes in
    let rest = length-drop (length so_far) old in
    let long : length old ≡ length so_far + length (drop (length so_far) old) = omega arith in
    ap₂ (λ (xs ys : List ℕ). xs ++ ys)
    (ap (λ n. take n (so_far ++ bytes)) long ∙ take-append-add so_far bytes (length (drop (length so_far) old)))
    (ap (λ n. drop n old) both ∙ sym (drop-drop (length bytes) (length so_far) old))
    ∙ append_assoc so_far _ _

-- the room with what was written so far
begun : (old so_far : List ℕ) → length so_far ≤ length old → written old so_far ≡ so_far ++ drop (length so_far) old
begun old so_far fits = ap (λ (xs : List ℕ). xs ++ drop (length so_far) old) (take_all (length old) so_far fits)

length_written : (old so_far : List ℕ) → length (written old so_far) ≡ length old
length_written old so_far =
    let both = length-append (take (length old) so_far) (drop (length so_far) old) in
    let front = length-take (length old) so_far in
    let back = length-drop (length so_far) old in
    omega arith

-- One more part of the replies is written.
pub put_written : (old so_far bytes room : List ℕ) (at start : ℕ) → room ≡ written old so_far → at ≡ length so_far → start ≡ min at (length room) → take start room ++ written (drop start room) bytes ≡ written old (so_far ++ bytes)
put_written old so_far bytes room at start is place begins =
    let long : length room ≡ length old = ap length is ∙ length_written old so_far in
    ⊎_elim
    (λ (end : length old < length so_far).
    let n : start ≡ length room = omega arith in
    ap₂ (λ (xs ys : List ℕ). xs ++ written ys bytes) (ap (λ k. take k room) n ∙ take_all (length room) room (omega arith)) (ap (λ k. drop k room) n ∙ drop_all (length room) room (omega arith))
    ∙ ap (λ (xs : List ℕ). room ++ xs) (drop_all (length bytes) [] (omega arith))
    ∙ append-nil room
    ∙ is
    ∙ sym (no_more old so_far bytes (omega arith)))
    (λ (fits : length so_far ≤ length old).
    let n : start ≡ length so_far = omega arith in
    let front : room ≡ so_far ++ drop (length so_far) old = is ∙ begun old so_far fits in
    ap₂ (λ (xs ys : List ℕ). xs ++ written ys bytes)
    (ap (λ k. take k room) n ∙ ap (take (length so_far)) front ∙ take-append_seam so_far (drop (length so_far) old))
    (ap (λ k. drop k room) n ∙ ap (drop (length so_far)) front ∙ drop-append_seam so_far (drop (length so_far) old))
    ∙ sym (further old so_far bytes fits))
    (cases_lt (length old) (length so_far))

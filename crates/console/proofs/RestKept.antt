use Rattle.std.proofs.Common.{◌≡◌, ℕ, ◌-◌, ◌≤◌, List, ◌++◌, length, take, drop, ap, sym, ◌∙◌, arith}
use Rattle.std.proofs.lemmas.List.{take-append-drop, drop-append-le, length-take, length-drop}
use Rattle.std.proofs.Math.Seq.{take-length}
use mathlib.Core.List.{append_assoc}

-- What lies past the reply stays, where the reply was written into the first n bytes.
pub rest_stays : (n : ℕ) (reply old part new : List ℕ) → n ≤ length old → length reply ≤ n → part ≡ take n old → new ≡ reply ++ drop (length reply) part → new ++ drop n old ≡ reply ++ drop (length reply) old
rest_stays n reply old part new room few is written =
    let long = length-take n old in
    let rest = drop-append-le (length reply) (take n old) (drop n old) (omega arith) in
    ap (λ (xs : List ℕ). xs ++ drop n old) (written ∙ ap (λ (xs : List ℕ). reply ++ drop (length reply) xs) is) ∙ append_assoc reply _ _ ∙ ap (λ (xs : List ℕ). reply ++ xs) (sym rest ∙ ap (drop (length reply)) (take-append-drop n old))

-- A tape from a place on is all that is left of it.
pub rest_of : (place : ℕ) (tape : List ℕ) → take (length tape - place) (drop place tape) ≡ drop place tape
rest_of place tape = ap (λ (n : ℕ). take n (drop place tape)) (sym (length-drop place tape)) ∙ take-length (drop place tape)

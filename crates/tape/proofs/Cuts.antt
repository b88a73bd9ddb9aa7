use Rattle.std.proofs.Common.{◌≡◌, ℕ, ◌<◌, List, [], ◌∷◌, length, sym}
use Rattle.tape.specs.Commands.{Unreadable}
use Rattle.tape.specs.declared.command.Command.TheVariants.{Plain, Sided, Ring, Work}
use Rattle.tape.specs.declared.fault.Fault.TheVariants.{OperandsCut}

-- Where a letter's operands are cut, a command has this letter; where its operands lie does not matter.

pub plain_cut : (letter : ℕ) (rest : List ℕ) → letter ≡ 0x50 → length rest < 34 → Unreadable (letter ∷ rest) OperandsCut
plain_cut letter rest is less = (Plain (record { ref_ptr = (0, 0); now = [] }), sym is, less)

pub sided_cut : (letter : ℕ) (rest : List ℕ) → letter ≡ 0x53 → length rest < 34 → Unreadable (letter ∷ rest) OperandsCut
sided_cut letter rest is less = (Sided (record { ref_ptr = (0, 0); now = [] }), sym is, less)

pub ring_cut : (letter : ℕ) (rest : List ℕ) → letter ≡ 0x52 → length rest < 35 → Unreadable (letter ∷ rest) OperandsCut
ring_cut letter rest is less = (Ring (record { ref_ptr = (0, 0); now = [] }), sym is, less)

pub work_cut : (letter : ℕ) (rest : List ℕ) → letter ≡ 0x57 → length rest < 4 → Unreadable (letter ∷ rest) OperandsCut
work_cut letter rest is less = (Work (record { ref_ptr = (0, 0); now = [] }), sym is, less)

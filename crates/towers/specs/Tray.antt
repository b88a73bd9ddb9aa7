use Rattle.std.specs.Prelude.{◌≡◌, ℕ, ◌+◌, ◌%◌, ◌<◌, ◌≤◌, Bool, true, false, if◌then◌else◌, not, ◌&&◌, List, [], ◌++◌, codes, Decides, ◌==◌, nat_le, refl}
use Rattle.std.specs.Fmt.{decimal}
use Rattle.std.proofs.Common.{◌∙◌, ap, ap₂, ⊎_elim, arith}
use Rattle.std.proofs.lemmas.Bool.Decides.{Decides-and, Decides-eqb, Decides-like}
use Rattle.std.proofs.lemmas.Bool.{cases_lt, cond-false, cond-true, le-leb, lt-leb, not-true, not_from_false}
use Rattle.trays.specs.Form.{TrayForm, Regular}
use Rattle.towers.specs.declared.sided_tray.SidedTray.{SidedTray}

-- The tray that a byte stands for: the number is the low seven bits, and 128 more turns the door away.
abbrev pub from_byte : ℕ → SidedTray
from_byte b = record { number = b % 128; away = nat_le 128 b }

abbrev pub byte_of : SidedTray → ℕ
byte_of t = t.number + (if t.away then 128 else 0)

-- how a tray is printed: its number, after a minus sign where the door is turned away
abbrev pub text_of : SidedTray → List ℕ
text_of t = (if t.away then codes "-" else []) ++ decimal t.number

-- the other side where b says so
abbrev pub changed : Bool → Bool → Bool
changed b away = if b then not away else away

-- A tray with a number and a side; at home no door is turned away.
abbrev pub sided_tray : TrayForm SidedTray
sided_tray = record {
  number = λ t. t.number;
  upright = λ v. record { number = v; away = false };
  stands = λ v t. (t.number == v) && not t.away;
  renumbered = λ v t. record { number = v; away = t.away };
  sided = λ b t. record { number = t.number; away = changed b t.away };
  read = from_byte;
  byte = byte_of;
}

changed_twice : (b u : Bool) → changed b (changed b u) ≡ u
changed_twice true true = refl
changed_twice true false = refl
changed_twice false u = refl

changed_swap : (a b u : Bool) → changed a (changed b u) ≡ changed b (changed a u)
changed_swap true true u = refl
changed_swap true false u = refl
changed_swap false true u = refl
changed_swap false false u = refl

stands_decides : (v : ℕ) (t : SidedTray) → Decides (sided_tray.stands v t) (t ≡ sided_tray.upright v)
stands_decides v t =
    Decides-like (sided_tray.stands v t)
    (λ h. ap₂ (λ (x : ℕ) (b : Bool). record { number = x; away = b }) h.0 h.1)
    (λ e. (ap (λ (x : SidedTray). x.number) e, ap (λ (x : SidedTray). x.away) e))
    (Decides-and (t.number == v) (not t.away) (Decides-eqb t.number v) (not-true t.away, not_from_false t.away))

byte-read : (b : ℕ) → b < 256 → byte_of (from_byte b) ≡ b
byte-read b lt =
    ⊎_elim
    (λ (low : b < 128). let rest : b % 128 + 0 ≡ b = omega arith in ap (λ (x : ℕ). b % 128 + x) (cond-false (nat_le 128 b) 128 0 (lt-leb 128 b low)) ∙ rest)
    (λ (high : 128 ≤ b). let rest : b % 128 + 128 ≡ b = omega arith in ap (λ (x : ℕ). b % 128 + x) (cond-true (nat_le 128 b) 128 0 (le-leb 128 b high)) ∙ rest)
    (cases_lt b 128)

pub sided_regular : Regular sided_tray
sided_regular = record {
  number-upright = λ v. refl;
  number-renumbered = λ v t. refl;
  number-sided = λ b t. refl;
  stands-upright = stands_decides;
  renumbered_same = λ t. refl;
  renumbered_again = λ v w t. refl;
  renumbered-upright = λ v w. refl;
  renumbered-sided = λ v b t. refl;
  sided_twice = λ b t. ap (λ (u : Bool). record { number = t.number; away = u }) (changed_twice b t.away);
  sided_swap = λ a b t. ap (λ (u : Bool). record { number = t.number; away = u }) (changed_swap a b t.away);
  sided_not = λ t. refl;
  read_none = refl;
  byte-read = byte-read;
}

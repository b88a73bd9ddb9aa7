use Rattle.std.specs.Prelude.{◌≡◌, ℕ, ◌<◌, ◌↔◌}
use Rattle.trays.specs.Form.{TrayForm}

-- A byte stands for no tray exactly where it is 0.
abbrev pub BlanksRead : {A : Type 0} → TrayForm A → Type 0
BlanksRead f = (b : ℕ) → b < 256 → (f.read b ≡ f.upright 0) ↔ (b ≡ 0)

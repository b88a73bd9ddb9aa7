use Rattle.std.proofs.Common.{◌≡◌, ℕ, ◌<◌, List, map, length, get_or, sym, ap, ◌∙◌, arith}
use lib.ListN.{get_or-map}
use Rattle.std.proofs.lemmas.List.{ext_get_or, length-map}
use Rattle.trays.specs.Form.{TrayForm, Regular, tray_at}
use Rattle.trays.specs.Bytes.{BlanksRead}

module _ {A : Type 0} (f : TrayForm A) (reg : Regular f) where
  -- 32 trays of which each is what its byte stands for
  pub read_all : (bytes : List ℕ) (trays : List A) → length bytes ≡ 32 → length trays ≡ 32 → ((k : ℕ) → k < 32 → tray_at f trays k ≡ f.read (get_or bytes k 0)) → trays ≡ map f.read bytes
  read_all bytes trays long a each =
      let b = length-map bytes f.read in
      ext_get_or (f.upright 0) trays (map f.read bytes) (omega arith)
      (λ k lt. each k (omega arith) ∙ sym (ap (get_or (map f.read bytes) k) (sym reg.read_none) ∙ get_or-map f.read bytes k 0))

  pub blanks_read : BlanksRead f
  blanks_read b lt = (
    (λ e. sym (reg.byte-read b lt) ∙ ap f.byte (e ∙ sym reg.read_none) ∙ reg.byte-read 0 (omega arith)),
    λ e. ap f.read e ∙ reg.read_none,
  )

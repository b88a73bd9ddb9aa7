-- A `&mut` to a table is lent on as one to the record of a depth, and the table follows it. Assumes `Logic`.
use Rattle.std.proofs.Common.{◌≡◌, ℕ, ◌+◌, ◌*◌, ◌<◌, List, [], ◌∷◌, length, get_or, set, refl, sym, subst, ◌∙◌, MutBor}
use lib.ListN.{length-set}
use seplogic.Ra.Ura.{Ura}
use base.Fraction.{full_share}
use base.Logic.{SProp, ent, sep, wand, ex, guard, all_e, apply∗}
use base.Fml.{Fml, Lft, GName, Share, fsep, feq, flft}
use mir.Syntax.{named, ty_array}
use mir.Val.{Val, vptr}
use types.Logic.{Logic, sem}
use types.Kit.{‵, raw, ◌⊛◌, given, some, later, ◌$◌, ◌∵◌, !, qed, by, move, keep, drop, use1, use2, split, fsplit, fsplit3, fjoin, feq_i, feq_l, learn, check, pick, await, updating, now, show, rewrite, group, done}
use types.Mut.{open_ref}
use denote.Array.{Array}
use denote.ArrayMemory.{Array-apart, Array-whole}
use denote.Follow.{follows, lends_Part}
use denote.Index.{place, place_is, others, row, takes, puts}
use denote.Memory.{lone, mem, part_at, part_of, shares}
use denote.Param.Laws.{array_laws}
use denote.Ref.{MutRef}
use denote.Steps.{nothing}
use denote.Struct.Members.{Member, parts_at}
use denote.Struct.Parts.{shape_of, PartsBack, Struct-parts}
use denote.Struct.Struct.{Struct}
use Rattle.walk.specs.Tables.{blank, with_record}
use Rattle.walk.specs.declared.depth_record.DepthRecord.{DepthRecord}
use Rattle.walk.specs.declared.table.TheConstants.{DEPTHS}
use Rattle.walk.specs.declared.table.Table.{Table}
use Rattle.walk.specs.contracts.depth_record.DepthRecord.{the_row as record_row}
use Rattle.walk.specs.contracts.table.Table.{the_row as table_row, struct as table}
use Rattle.walk.proofs.depth_record.DepthRecord.TheLaws.{the_row_laws}

-- the table's one field
abbrev field : Member
field = record { row = Array record_row DEPTHS; ty = ty_array (lone record_row.mir) DEPTHS }

module _ {M : Type 1} {𝓤 : Ura M} (𝓛 : Logic 𝓤) (b o : ℕ) where
  -- the records of a table that lies at (b, o), and the way back to the table
  abbrev Records : List DepthRecord → Fml
  Records rs = part_at (Array record_row DEPTHS) full_share rs b (o + 0)

  abbrev Back : SProp 𝓤
  Back = PartsBack 𝓛 full_share table.name (field ∷ []) b o

  abbrev Fields : List DepthRecord × Unit {0} → Fml
  Fields a = parts_at full_share (field ∷ []) 0 a b o

  abbrev Whole : List DepthRecord × Unit {0} → Fml
  Whole a = part_at (Struct (shape_of table.name (field ∷ []))) full_share a b o

  records_out : (t : Table) → ent 𝓤 (sem 𝓛 (part_at table_row full_share t b o)) (sep 𝓤 (sem 𝓛 (Records t.records)) Back)
  unfolding part_of
  records_out t =
      let fields = Struct-parts 𝓛 full_share table.name (field ∷ []) ((array_laws record_row the_row_laws DEPTHS).lawful 𝓛, tt) (t.records, tt) b o in
      qed 𝓛 (‵ (Whole (t.records, tt)) ∷ []) ∵ use1 𝓛 (‵ (Fields (t.records, tt)) ⊛ raw Back) fields $ split ! $ fsplit ! $ keep ! (0 ∷ 2 ∷ []) $ done !

  records_in : (rs : List DepthRecord) → ent 𝓤 (sep 𝓤 (sem 𝓛 (Records rs)) Back) (sem 𝓛 (part_at table_row full_share (record { records = rs }) b o))
  unfolding part_of
  records_in rs =
      let S : SProp 𝓤 = sem 𝓛 (Fields (rs, tt)) in
      let Q : SProp 𝓤 = sem 𝓛 (Whole (rs, tt)) in
      qed 𝓛 (‵ (Records rs) ∷ raw Back ∷ []) ∵ nothing ! $ move ! (1 ∷ 0 ∷ []) $ fjoin ! $ move ! (1 ∷ []) $
      use1 𝓛 (raw (wand 𝓤 S Q)) (all_e 𝓤 (λ (a : List DepthRecord × Unit {0}). wand 𝓤 (sem 𝓛 (Fields a)) (sem 𝓛 (Whole a))) (rs, tt)) $ move ! (1 ∷ 0 ∷ []) $ by ! (apply∗ 𝓤 S Q)

  module _ (t : Table) (i : ℕ) (small : i < DEPTHS) where
    -- where the record of depth i lies: a record has 2 bytes
    abbrev pub place_of : ℕ
    place_of = i * 2 + (o + 0)

    abbrev pub record_of : DepthRecord
    record_of = get_or t.records i blank

    abbrev Others : Fml
    Others = others (shares record_row) full_share t.records i b (o + 0)

    abbrev Rest : SProp 𝓤
    Rest = sep 𝓤 (sem 𝓛 Others) Back

    within : length t.records ≡ DEPTHS → i < length t.records
    within long = subst (λ n. i < n) (sym long) small

    record_out : ent 𝓤 (sem 𝓛 (part_at table_row full_share t b o)) (guard 𝓤 (length t.records ≡ DEPTHS) (sep 𝓤 (sem 𝓛 (part_at record_row full_share record_of b place_of)) Rest))
    record_out =
        qed 𝓛 (‵ (part_at table_row full_share t b o) ∷ []) ∵ use1 𝓛 (‵ (Records t.records) ⊛ raw Back) (records_out t) $ split ! $
        use1 𝓛 (‵ (fsep (feq ℕ (length t.records) DEPTHS) (row record_row full_share t.records b (o + 0)))) (Array-apart 𝓛 record_row full_share tt DEPTHS t.records b (o + 0)) $ fsplit ! $ feq_l ! (λ long.
        use1 𝓛 (‵ (part_at record_row full_share record_of b (place 2 (o + 0) i)) ⊛ ‵ Others) (takes (shares record_row) full_share 𝓛 t.records i blank b (o + 0) (within long)) $ split ! $
        rewrite ! 0 (λ k. ‵ (part_at record_row full_share record_of b k)) (place_is 2 (o + 0) i) refl $ check ! long $ done !)

    record_in : length t.records ≡ DEPTHS → (w : DepthRecord) → ent 𝓤 (sep 𝓤 (sem 𝓛 ((mem record_row).own_at w b place_of)) Rest) (sem 𝓛 ((mem table_row).own_at (with_record t i w) b o))
    record_in long w =
        let rs = set t.records i w in
        qed 𝓛 (‵ (part_at record_row full_share w b place_of) ∷ ‵ Others ∷ raw Back ∷ []) ∵
        rewrite ! 0 (λ k. ‵ (part_at record_row full_share w b k)) (sym (place_is 2 (o + 0) i)) refl $
        use2 𝓛 (‵ (row record_row full_share rs b (o + 0))) (puts (shares record_row) full_share 𝓛 t.records i w b (o + 0) (within long)) $
        feq_i ! ℕ (length rs) DEPTHS (length-set t.records i w ∙ long) $ fjoin ! $
        use1 𝓛 (‵ (Records rs)) (Array-whole 𝓛 record_row full_share DEPTHS rs b (o + 0)) $ by ! (records_in rs)

    module _ (κ : Lft) (q : Share) (γ : GName) where
      open 𝓛 use {H, A}

      -- the reference to the record, under the name δ
      abbrev pub lent : GName → MutBor DepthRecord
      lent δ = record { ref_ptr = (b, place_of); ghost_name = δ; now = record_of }

      abbrev Lent : GName → SProp 𝓤
      Lent δ = sep 𝓤 (sem 𝓛 ((MutRef (named 0) κ record_row).own_val (lent δ) (vptr b place_of ∷ []))) (sep 𝓤 (A.lft κ q) (sem 𝓛 (follows table_row record_row γ δ (with_record t i))))

      pub lends_record : (vs : List Val) → ent 𝓤 (sep 𝓤 (sem 𝓛 ((MutRef (named 0) κ table_row).own_val (record { ref_ptr = (b, o); ghost_name = γ; now = t }) vs)) (A.lft κ q))
          (H.⇛ (ex 𝓤 (λ δ. guard 𝓤 (length t.records ≡ DEPTHS) (Lent δ))))
      lends_record vs =
          let code = table_row.coded.code t in
          qed 𝓛 (‵ ((MutRef (named 0) κ table_row).own_val (record { ref_ptr = (b, o); ghost_name = γ; now = t }) vs) ∷ ‵ (flft κ q) ∷ []) ∵ updating ! $ fsplit3 ! $ drop ! $ open_ref ! tt (mem table_row) {b = b} {o = o} $
          use1 𝓛 (given (length t.records ≡ DEPTHS) (‵ (part_at record_row full_share record_of b place_of) ⊛ raw Rest)) record_out $ learn ! (λ long. split ! $ move ! (2 ∷ 3 ∷ 4 ∷ 0 ∷ 1 ∷ []) $ group ! 5 $
          use1 𝓛 (later (some (λ (δ : GName). raw (Lent δ)))) (lends_Part 𝓛 table_row record_row (with_record t i) (named 0) κ q b o b place_of γ Rest (record_in long) code code record_of) $ await ! tt $ pick ! (λ δ.
          now ! $ show ! (λ (ε : GName). guard 𝓤 (length t.records ≡ DEPTHS) (Lent ε)) δ $ check ! long $ done !))

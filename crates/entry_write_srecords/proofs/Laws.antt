-- From the answers of the entry's steps to its outcome. Assumes nothing.
use Prim.Native.Nat.{ℕ, ◌+◌, ◌/◌}
use mathlib.Core.Path.{◌≡◌, sym, ap, ◌∙◌}
use mathlib.Core.List.{List}
use native.Mathlib.Omega.{arith}
use lib.ListN.{length}
use Rattle.lists.specs.Outcome.{accepted}
use Rattle.lists.proofs.Each.{all_placed}
use Rattle.lists.proofs.Outcomes.{then_both, then_inv, same_accepted}
use Rattle.tables.specs.Records.{section_fault}
use Rattle.tables.proofs.Laws.{sections_end}
use Rattle.name_table.specs.Stored.{stage_lengths}
use Rattle.stage_tables.specs.StageTables.{stage_sections}
use Rattle.stage_tables.proofs.Laws.{table_passed, length_sections}
use Rattle.obj.specs.declared.Section.{Section}
use Rattle.obj.specs.Nothing.{no_section}
use Rattle.obj.specs.Parts.{Part}
use Rattle.srecords.specs.Lines.{write_of, Ended}
use Rattle.head_tables.specs.HeadTables.{head_tables}
use Rattle.write_srecords.specs.Along.{room_along}
use Rattle.write_srecords.proofs.Laws.{room_is}

-- "end above 0xF0000000" is 4
pub tables_ended : (ends bytes sections : List ℕ) → head_tables ends bytes sections ≡ accepted tt → Ended (stage_sections sections)
unfolding head_tables
tables_ended ends bytes sections e =
    let t = table_passed 15 64 sections (section_fault (stage_lengths ends bytes) (stage_sections sections)) (then_both _ _ _ e).1 in
    all_placed (stage_sections sections) no_section
    (λ k h. let z = sections_end (stage_lengths ends bytes) (stage_sections sections) (length sections / 15) t.2 k (let l = length_sections sections in omega arith) in omega arith)

-- an accepted outcome holds the lines
pub write_size : (heads : List Section) (room : ℕ) (parts : List Part) (bytes : List ℕ) → write_of heads room parts ≡ accepted bytes
    → length bytes ≡ room_along heads + 15
unfolding write_of
write_size heads room parts bytes e =
    let a = then_inv _ _ _ _ _ _ e in
    let b = then_inv _ _ _ _ _ _ a.1 in
    let c = then_inv _ _ _ _ _ _ b.1 in
    let d = then_inv _ _ _ _ _ _ c.1 in
    ap length (sym (same_accepted d.1)) ∙ room_is heads parts

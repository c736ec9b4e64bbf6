-- `write_srecords::write_one` meets its contract. The section's record is read at its place.
-- Assumes nothing.
use Rattle.join.specs.Join.{nowhere, held_by}
use Rattle.stage_tables.specs.StageTables.{stage_sections}
use mathlib.Core.Path.{sym, ap, ap₂, subst, ◌∙◌}
use Prim.Native.Nat.{ℕ}
use Rattle.obj.specs.declared.Section.{Section}
use lib.ListN.{get_or, take, drop}
use lib.Seq.{sets}
use Rattle.srecords.specs.Lines.{section_lines}
use Rattle.srecord_text.specs.Room.{Fits}
use Rattle.write_srecords.proofs.write_one.Goals as goal

pub write_section-requires : goal.write_section-requires
write_section-requires c =
    let s = c in
    let a = s.args in
    let head = get_or (stage_sections a.sections.now) a.k nowhere in
    let start = ap (λ (s : Section). s.address) (sym c.head_of-s.ensures) in
    subst (λ (n : ℕ). Fits a.out.now a.to a.from n c.head_of-s.result.address) (sym c.held_by.ensures)
    (subst (λ (x : ℕ). Fits a.out.now a.to a.from (held_by head) x) start s.requires.1)

pub returns : goal.returns
returns c =
    let s = c in
    let a = s.args in
    let start = ap (λ (s : Section). s.address) c.head_of-s.ensures in
    c.write_section.ensures
    ∙ ap₂ (λ (x n : ℕ). sets a.out.now a.to (section_lines x (take n (drop a.from a.out.now)))) start c.held_by.ensures

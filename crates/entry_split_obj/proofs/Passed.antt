-- What relocations that passed leave to the next tables: they rise in each section. Assumes nothing.
use Prim.Native.Nat.{ℕ, ◌/◌, ◌≤◌, ◌<◌}
use mathlib.Core.Path.{◌≡◌, sym, ap, subst, ◌∙◌}
use mathlib.Core.List.{List}
use native.Mathlib.Nat.{mul-div-le}
use native.Mathlib.Omega.{arith}
use lib.ListN.{length, get_or, length-map}
use Rattle.std.proofs.lemmas.List.{get_or-map}
use Rattle.lists.specs.Outcome.{accepted}
use Rattle.obj.specs.Records.{reloc_at, stage_places}
use Rattle.obj.specs.declared.Section.{Section}
use Rattle.obj.specs.declared.Reloc.{Reloc}
use Rattle.obj.proofs.Laws.{length-stage_places}
use Rattle.obj.specs.Nothing.{no_reloc}
use Rattle.tables.proofs.Laws as tables
use Rattle.tables.proofs.Lookups.{stage_held}
use Rattle.stage_tables.specs.StageTables.{stage_relocs, relocs_check}
use Rattle.stage_tables.proofs.Laws.{table_passed}
use Rattle.relocs.specs.Relocs.{reloc_of}
use Rattle.stage_walk.specs.Lines.{Relocated}

module _ (heads : List Section) (symbols : ℕ) (b : List ℕ) (passed : relocs_check 4096 heads symbols b ≡ accepted tt) where
  abbrev count : ℕ
  count = length b / 23

  abbrev stage : List ℕ
  stage = stage_places 23 (length b / 23)

  relocs_few : count ≤ 4096
  relocs_few = (table_passed 23 4096 b _ passed).1

  reloc_is : (i : ℕ) → i < count → reloc_of b stage i ≡ get_or (stage_relocs b) i no_reloc
  reloc_is i h = sym (get_or-map (reloc_at b) stage i 0 no_reloc (rw length-stage_places h))

  rises : (i j : ℕ) → i < j → j < count → (reloc_of b stage i).section ≡ (reloc_of b stage j).section → (reloc_of b stage i).address ≤ (reloc_of b stage j).address
  rises i j q h e =
      let x = reloc_is i (omega arith) in
      let y = reloc_is j h in
      let long : length (stage_relocs b) ≡ count = length-map stage (reloc_at b) ∙ length-stage_places 23 count in
      let there = tables.relocs_rise heads symbols (stage_relocs b) count (table_passed 23 4096 b _ passed).2 (omega (arith, long)) i j q h
      (ap (λ (r : Reloc). r.section) (sym x) ∙ e ∙ ap (λ (r : Reloc). r.section) y) in
      omega (arith, there, ap (λ (r : Reloc). r.address) x, ap (λ (r : Reloc). r.address) y)

  pub relocs_taken : (places : List ℕ) → places ≡ stage → Relocated b places
  relocs_taken places e =
      subst (Relocated b) (sym e)
      (record {
        whole = record { each = (stage_held 23 count b (omega (arith, relocs_few)) (mul-div-le (length b) 23)).each };
        rising = record { each = λ i j q h z. rises i j q (rw length-stage_places at h) z };
        few = omega (arith, relocs_few, length-stage_places 23 count);
      })

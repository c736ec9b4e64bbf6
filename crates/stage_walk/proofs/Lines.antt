-- The way of an outcome: a refused line of a definition is the answer, one that passed is passed over. Assumes nothing.
use Prim.Native.Nat.{ℕ, ◌/◌}
use mathlib.Core.Path.{◌≡◌, ap, subst, ◌∙◌}
use mathlib.Core.List.{List}
use lib.ListN.{length}
use Rattle.lists.specs.Outcome.{Outcome, accepted, refused, ◌>>◌}
use Rattle.obj.specs.Records.{stage_places}
use Rattle.obj.specs.declared.Refusal.{Refusal}
use Rattle.obj.specs.declared.Section.{Section}
use Rattle.obj.specs.declared.Reloc.{Reloc}
use Rattle.obj.specs.declared.Split.{Split}
use Rattle.std.specs.Prelude.{Result, Err}
use Rattle.stage_tables.specs.StageTables.{stage_splits, splits_check, units_check}
use Rattle.sections.specs.Image.{Image}
use Rattle.sections.specs.Sections.{Sections}
use Rattle.units.specs.Units.{unit_names}
use Rattle.pieces.specs.declared.Counts.{Counts}
use Rattle.pieces.specs.declared.lent.PieceTables.{PieceTables}
use Rattle.pieces.specs.Tables.{SameLent}
use Rattle.walk.specs.Walk.{Output}
use Rattle.walk.specs.Giving.{gave_meaning}
use Rattle.stage_walk.specs.Lines.{walk_of, from_units, from_splits, Gives}

module _ {before after : PieceTables} {r : Result (Unit {0}) Refusal} where
  -- the same outcome, said otherwise
  pub gives_as : {o p : Outcome Output} → o ≡ p → Gives o before after r → Gives p before after r
  gives_as e w = subst (λ (x : Outcome Output). Gives x before after r) e w

  -- a refused line is the answer
  pub gives_stops : {m : Outcome (Unit {0})} (n : Outcome Output) {e : Refusal} → r ≡ Err e → refused e.number e.section e.address ≡ m → SameLent before after
      → Gives (m >> n) before after r
  unfolding ◌>>◌
  gives_stops n {e} is said lent =
      record {
        is = ap (λ (x : Result (Unit {0}) Refusal). gave_meaning after x) is ∙ ap (λ (x : Outcome (Unit {0})). x >> n) said;
        lent = lent;
      }

  -- a line that passed is passed over
  pub gives_goes : {m : Outcome (Unit {0})} {n : Outcome Output} → m ≡ accepted tt → Gives n before after r → Gives (m >> n) before after r
  unfolding ◌>>◌
  gives_goes e w = rw e w

-- splits that passed: the units are asked with their rows
pub splits_go : (lengths : List ℕ) (heads : List Section) (g : Image) (sections : Sections) (reloc : ℕ → Reloc) (relocs : ℕ) (b units : List ℕ) (rows : List Split) (room : Counts)
    {before after : PieceTables} {r : Result (Unit {0}) Refusal} → splits_check 1024 lengths heads b ≡ accepted tt → rows ≡ stage_splits b
    → Gives (from_units lengths g sections reloc relocs rows units room) before after r
    → Gives (from_splits lengths heads g sections reloc relocs b units room) before after r
unfolding from_splits
splits_go lengths heads g sections reloc relocs b units rows room passed taken w =
    gives_goes passed (gives_as (ap (λ (l : List Split). from_units lengths g sections reloc relocs l units room) taken) w)

-- units that passed: the walk goes over their places
pub units_go : (lengths : List ℕ) (g : Image) (sections : Sections) (reloc : ℕ → Reloc) (relocs : ℕ) (rows : List Split) (b places : List ℕ) (room : Counts)
    {before after : PieceTables} {r : Result (Unit {0}) Refusal} → units_check 1024 lengths b ≡ accepted tt → places ≡ stage_places 8 (length b / 8)
    → Gives (walk_of g sections reloc relocs rows (unit_names b places) room) before after r
    → Gives (from_units lengths g sections reloc relocs rows b room) before after r
unfolding from_units
units_go lengths g sections reloc relocs rows b places room passed taken w =
    gives_goes passed (gives_as (ap (λ (l : List ℕ). walk_of g sections reloc relocs rows (unit_names b l) room) taken) w)

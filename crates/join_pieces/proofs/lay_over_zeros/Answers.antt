-- `join_pieces::lay_over_zeros` meets its contract. The first bytes become zeros, and the others stay.
-- Assumes nothing.
use Prim.Native.Nat.{ℕ}
use mathlib.Core.List.{List, ◌++◌}
use lib.ListN.{drop, replicate}
use Rattle.lists.proofs.Clear.{clear_all}
use Rattle.join.specs.Laying.{laid_over}
use Rattle.stage_tables.specs.StageTables.{stage_sections}
use Rattle.piece_records.specs.Records.{parts_at}
use mathlib.Core.Path.{ap, ◌∙◌}
use lib.Seq.{length-take-le}
use Rattle.join_pieces.proofs.lay_over_zeros.Goals as goal

pub returns : goal.returns
returns c =
    let a = c.args in
    c.lay_pieces.ensures
    ∙ ap (λ (l : List ℕ). laid_over (stage_sections a.sections.now) (parts_at a.n a.b.now 0) (l ++ drop a.total a.out.now))
    (c.clear_from.ensures ∙ clear_all 0 _ ∙ ap (λ (k : ℕ). replicate k 0) (length-take-le _ _ c.requires.4))

-- `write_srecords::any_share` meets its contract: asking all places is asking all sections.
-- Assumes nothing.
use Rattle.std.proofs.Common.{rules}
use Rattle.std.proofs.lemmas.Iterator.{YieldsList-from_range}
use Rattle.std.proofs.lemmas.Iterator.Search.{any_from_yields_List}
use native.Mathlib.Omega.{arith}
use mathlib.Core.Path.{refl, ◌∙◌}
use Prim.Native.Nat.{ℕ, ◌+◌, ◌/◌}
use lib.ListN.{length, get_or, drop}
use Rattle.lists.specs.Rows.{some}
use Rattle.join.specs.Join.{nowhere}
use Rattle.stage_tables.specs.StageTables.{stage_sections}
use Rattle.stage_tables.proofs.Laws.{length_sections}
use Rattle.srecords.specs.Lines.{share_address}
use Rattle.write_srecords.proofs.Laws.{share_places}
use Rattle.write_srecords.proofs.any_share.Goals as goal

pub returns : goal.returns
returns c =
    let heads = stage_sections c.args.sections.now in
    let n = length c.args.sections.now / 15 in
    any_from_yields_List (λ (k : ℕ). some (share_address (get_or heads k nowhere)) (drop (k + 1) heads)) _ _ _ c.any.ensures.ran (YieldsList-from_range 0 n n refl (omega arith))
    (λ x b q k. search rules)
    ∙ share_places heads 0 n (let z = length_sections c.args.sections.now in omega arith)

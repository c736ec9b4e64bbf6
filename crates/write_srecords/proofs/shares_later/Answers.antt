-- `write_srecords::shares_later` meets its contract: asking the places behind k is asking the sections that stand there.
-- Assumes nothing.
use Rattle.std.proofs.Common.{rules}
use Rattle.std.proofs.lemmas.Iterator.{YieldsList-from_range}
use Rattle.std.proofs.lemmas.Iterator.Search.{any_from_yields_List}
use native.Mathlib.Omega.{arith}
use mathlib.Core.Path.{refl, ◌∙◌}
use Prim.Native.Nat.{ℕ, ◌+◌, ◌-◌, ◌/◌}
use lib.ListN.{length, get_or}
use Rattle.join.specs.Join.{nowhere}
use Rattle.stage_tables.specs.StageTables.{stage_sections}
use Rattle.stage_tables.proofs.Laws.{length_sections}
use Rattle.srecords.specs.Lines.{share_address}
use Rattle.write_srecords.proofs.Laws.{some_places}
use Rattle.write_srecords.proofs.shares_later.Goals as goal

pub returns : goal.returns
returns c =
    let a = c.args in
    let heads = stage_sections a.sections.now in
    let n = length a.sections.now / 15 in
    let shares = share_address (get_or heads a.k nowhere) in
    any_from_yields_List (λ (j : ℕ). shares (get_or heads j nowhere)) _ _ _ c.any.ensures.ran (YieldsList-from_range (a.k + 1) n (n - (a.k + 1)) refl refl) (λ x b q k. search rules)
    ∙ some_places shares heads nowhere (a.k + 1) (n - (a.k + 1)) (let z = length_sections a.sections.now in omega arith)

-- Common without a start refuses nothing, so its answer leaves nothing to be handed on. Assumes nothing.
use Prim.Native.Nat.{ℕ}
use mathlib.Core.Path.{◌≡◌, refl, sym, ◌∙◌}
use mathlib.Core.Bool.{false}
use mathlib.Core.List.{List}
use Rattle.lists.specs.Outcome.{Outcome, accepted, refused, ◌>>=◌}
use Rattle.lists.proofs.Outcomes.{not_both}
use Rattle.lists.proofs.Binds.{bind_goes, bind_stops}
use Rattle.obj.specs.Answers.{Answer}
use Rattle.std.specs.Prelude.{Ok, Err}
use Rattle.obj.specs.declared.Split.{Split}
use Rattle.common.specs.Common.{common_of, common_start, first_common, marked_from, answered}
use Rattle.run_merge.specs.Merging.{marked_in}

-- what it leaves
pub common_is : (bss : List ℕ) (rows : List Split) → common_of false 0 bss rows ≡ accepted (marked_from (first_common bss rows) rows)
unfolding common_of common_start ◌>>=◌
common_is bss rows = refl

pub common_left : (a : Answer) (left : List Split) (bss : List ℕ) (rows : List Split) → answered a left ≡ common_of false 0 bss rows
    → accepted left ≡ common_of false 0 bss rows
common_left (Ok u) left bss rows e = e
common_left (Err r) left bss rows e = absurd (not_both (e ∙ common_is bss rows))

-- after a merge
pub marked_refused : (bss : List ℕ) {m : Outcome (List Split)} {number section address : ℕ} → m ≡ refused number section address
    → refused number section address ≡ marked_in bss m
marked_refused bss e = sym (bind_stops _ _ _ _ _ e)

pub marked_left : (bss : List ℕ) {m : Outcome (List Split)} {rows left : List Split} → m ≡ accepted rows → accepted left ≡ common_of false 0 bss rows
    → accepted left ≡ marked_in bss m
marked_left bss e q = q ∙ sym (bind_goes _ _ _ e)

-- Tables that passed are passed over, and the merge over the rows and the places that they leave is that of the tables. Assumes nothing.
use Prim.Native.Nat.{ℕ}
use mathlib.Core.Path.{◌≡◌, sym, ap, ap₂, ◌∙◌}
use mathlib.Core.List.{List}
use Rattle.lists.specs.Outcome.{Outcome, accepted}
use Rattle.obj.specs.Answers.{Answer}
use Rattle.std.specs.Prelude.{Ok, Err}
use Rattle.obj.specs.declared.Refusal.{Refusal}
use Rattle.obj.specs.declared.Section.{Section}
use Rattle.obj.specs.declared.Split.{Split}
use Rattle.stage_tables.specs.StageTables.{stage_splits, stage_partials, splits_check, partials_check}
use Rattle.stage_splits.specs.StageSplits.{Gives, Laid}
use Rattle.stage_splits.proofs.Laws.{gives_as, gives_goes, gives_said, gives_refused, gives_laid}
use Rattle.merge.specs.Merge.{given, merge_all}
use Rattle.merge.specs.Answers.{merged}
use Rattle.entry_add_splits.specs.Entry.{from_splits}

-- the two tables, in a split table whose room is `most`
module _ (lengths : List ℕ) (heads : List Section) (splits partials : List ℕ) (most : ℕ) {room : ℕ} {rows news : List Split} {answer : Answer}
    {size counts_size : ℕ} {out counts : List ℕ} where
  pub merge_goes : room ≡ most → splits_check room lengths heads splits ≡ accepted tt → rows ≡ stage_splits splits
      → partials_check 1024 lengths partials ≡ accepted tt → news ≡ stage_partials partials
      → Gives (merge_all (given heads room) rows news) answer size counts_size out counts → Gives (from_splits lengths heads splits partials most) answer size counts_size out counts
  unfolding from_splits
  merge_goes fits passed taken passed-too taken-too w =
      gives_goes (sym (ap (λ (k : ℕ). splits_check k lengths heads splits) fits) ∙ passed)
      (gives_goes passed-too
      (gives_as (ap (λ (k : ℕ). merge_all (given heads k) rows news) fits ∙ ap₂ (merge_all (given heads most)) taken taken-too) w))

-- the merge's refusal is the answer, and else its rows are laid
module _ {o : Outcome (List Split)} {answer : Answer} (rows : List Split) {size counts_size : ℕ} {out counts : List ℕ} (q : merged answer rows ≡ o) where
  pub merge_refused : {d : Refusal} → answer ≡ Err d → Gives o answer size counts_size out counts
  merge_refused e = gives_said o (sym e) (gives_refused (sym (ap (λ (a : Answer). merged a rows) e) ∙ q))

  pub merge_laid : answer ≡ Ok tt → Laid rows size counts_size out counts → Gives o (Ok tt) size counts_size out counts
  merge_laid e w = gives_laid (sym (ap (λ (a : Answer). merged a rows) e) ∙ q) w

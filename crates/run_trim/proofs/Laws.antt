-- A check that refused is the outcome; one that passed leaves the trim's. Assumes nothing.
use Prim.Native.Nat.{ℕ}
use mathlib.Core.Path.{◌≡◌, sym, ◌∙◌}
use mathlib.Core.List.{List}
use Rattle.lists.specs.Outcome.{Outcome}
use Rattle.lists.proofs.Binds.{after_goes, after-stops}
use Rattle.obj.specs.Answers.{meaning}
use Rattle.obj.specs.Answers.{Answer}
use Rattle.std.specs.Prelude.{Ok, Err}
use Rattle.obj.specs.declared.Split.{Split}
use Rattle.sections.specs.Image.{Image}
use Rattle.sections.specs.Sections.{Sections}
use Rattle.validate.specs.Check.{validate}
use Rattle.trim.specs.Trim.{trimmed}
use Rattle.trim.specs.Steps.{seen}
use Rattle.run_trim.specs.Checking.{checked_table}

module _ (g : Image) (sections : Sections) (rows : List Split) where
  pub check_refused : {a : Answer} {number section address : ℕ} (left : List Split) → a ≡ Err (record { number = number; section = section; address = address })
      → meaning a ≡ validate g.symbol g.count rows → seen a left ≡ checked_table g sections rows
  check_refused left told e = rw told (sym (after-stops (validate g.symbol g.count rows) (trimmed g sections rows) _ _ _ (sym e ∙ rw told)))

  pub check_passed : {a : Answer} {o : Outcome (List Split)} → a ≡ Ok tt → meaning a ≡ validate g.symbol g.count rows
      → o ≡ trimmed g sections rows → o ≡ checked_table g sections rows
  check_passed told e q = q ∙ sym (after_goes (validate g.symbol g.count rows) (trimmed g sections rows) (sym e ∙ rw told))

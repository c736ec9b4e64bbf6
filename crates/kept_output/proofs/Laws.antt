-- The size of what was written, where it fits. Assumes nothing.
use Prim.Native.Nat.{ℕ, ◌≤◌, ◌<◌}
use mathlib.Core.Path.{◌≡◌, ◌∙◌}
use mathlib.Core.List.{List, ◌++◌}
use mathlib.Core.Bool.{cond}
use native.Mathlib.Omega.{arith}
use lib.Dec.{leb}
use lib.ListN.{length, drop}
use lib.Seq.{sets, sets-eq}
use borrow.Author.Tests.{le-leb, lt-leb}
use Rattle.fields.specs.Fields.{enc64}

-- `size`, written or too short
module _ (size : List ℕ) (value : ℕ) where
  pub size_put : {after : List ℕ} → 8 ≤ length size → after ≡ sets size 0 (enc64 value) → after ≡ cond (leb 8 (length size)) (enc64 value ++ drop 8 size) size
  size_put h e = e ∙ sets-eq (enc64 value) size 0 (omega arith) ∙ rw (le-leb _ _ h)

  pub size_short : length size < 8 → size ≡ cond (leb 8 (length size)) (enc64 value ++ drop 8 size) size
  size_short h = rw (lt-leb _ _ h)

-- The room for names: the outputs of `create_gap_splits` give the ceilings that the run has. Assumes nothing.
use Prim.Native.Nat.{ℕ, ◌+◌, ◌-◌, ◌*◌, ◌/◌, ◌≤◌}
use mathlib.Core.Path.{◌≡◌, refl, ap, ◌∙◌}
use mathlib.Core.List.{List}
use mathlib.Core.Bool.{Bool, true, false, cond}
use native.Mathlib.Omega.{arith}
use borrow.Author.Tests.{ltb-false}
use lib.Dec.{ltb}
use lib.ListN.{length}
use Rattle.stage_names.specs.StageNames.{names_room, bytes_room}
use Rattle.gap_splits.specs.Entering.{bytes_of}
use Rattle.lists.specs.Bounds.{lower}
use Rattle.lists.proofs.Compare.{lower-is}
use Rattle.run_entries.specs.Entries.{ends_size, bytes_size}

at_most : (most n : ℕ) → n ≤ most → cond (ltb n most) n most ≡ n
at_most most n h = go (ltb n most) refl
  where
    go : (t : Bool) → ltb n most ≡ t → cond t n most ≡ n
    go true e = refl
    go false e = omega (arith, ltb-false n most e)

-- the ceilings that the outputs of `create_gap_splits` give are those of the run
pub names_room_lem : (names : List (List ℕ)) (lent : ℕ) → length names ≤ 4096 → names_room (ends_size names lent) ≡ length names + lower (4096 - length names) (lent / 2)
unfolding names_room ends_size
names_room_lem names lent h =
    let n : ℕ = length names + lower (4096 - length names) (lent / 2) in
    let half : 2 * n / 2 ≡ n = omega arith in
    ap (λ (x : ℕ). cond (ltb x 4096) x 4096) half ∙ at_most 4096 n (omega (arith, h, lower-is (4096 - length names) (lent / 2)))

pub bytes_room_lem : (names : List (List ℕ)) (lent : ℕ) → bytes_of names ≤ 65535 → bytes_room (bytes_size names lent) ≡ bytes_of names + lower (65535 - bytes_of names) lent
unfolding bytes_room bytes_size
bytes_room_lem names lent h = at_most 65535 (bytes_of names + lower (65535 - bytes_of names) lent) (omega (arith, h, lower-is (65535 - bytes_of names) lent))

-- .. which are the document's at most
pub names_low : (names : List (List ℕ)) (lent : ℕ) → length names ≤ 4096 → length names + lower (4096 - length names) lent ≤ 4096
names_low names lent h = omega (arith, h, lower-is (4096 - length names) lent)

pub bytes_low : (names : List (List ℕ)) (lent : ℕ) → bytes_of names ≤ 65535 → bytes_of names + lower (65535 - bytes_of names) lent ≤ 65535
bytes_low names lent h = omega (arith, h, lower-is (65535 - bytes_of names) lent)

-- The columns beside the output in one: what is left of each where a part was lent and came back. Assumes nothing.
use mathlib.Core.Path.{◌≡◌, ap, ◌∙◌}
use mathlib.Core.List.{List, ◌++◌, append-nil}
use Prim.Native.Nat.{ℕ, ◌-◌, ◌≤◌}
use native.Mathlib.Omega.{arith}
use lib.ListN.{length, take, drop, length-drop, drop_of_length-le}
use lib.Seq.{length-take-le, take_all, take_at, drop_at}
use Rattle.walk.specs.Giving.{chains_in, counts_in}

pub length-counts : (s : List ℕ) → length (counts_in s) ≡ length s - 8192
unfolding counts_in
length-counts s = length-drop 8192 s

-- the front came back
module _ (ys s : List ℕ) (e : length ys ≡ 8192) where
  pub chains_front : chains_in (ys ++ drop 8192 s) ≡ ys
  unfolding chains_in
  chains_front = take_at ys (drop 8192 s) 8192 e

  pub counts_front : counts_in (ys ++ drop 8192 s) ≡ counts_in s
  unfolding counts_in
  counts_front = drop_at ys (drop 8192 s) 8192 e

-- all behind it is lent
pub counts_whole : (s : List ℕ) → take (length s - 8192) (drop 8192 s) ≡ counts_in s
unfolding counts_in
counts_whole s = take_all (length s - 8192) (drop 8192 s) (omega (arith, length-drop 8192 s))

-- it came back
module _ (s zs : List ℕ) (h : 8192 ≤ length s) where
  pub chains_behind : chains_in (take 8192 s ++ (zs ++ drop (length s - 8192) (drop 8192 s))) ≡ chains_in s
  unfolding chains_in
  chains_behind = take_at (take 8192 s) (zs ++ drop (length s - 8192) (drop 8192 s)) 8192 (length-take-le 8192 s h)

  pub counts_behind : counts_in (take 8192 s ++ (zs ++ drop (length s - 8192) (drop 8192 s))) ≡ zs
  unfolding counts_in
  counts_behind =
      drop_at (take 8192 s) (zs ++ drop (length s - 8192) (drop 8192 s)) 8192 (length-take-le 8192 s h)
      ∙ ap (λ (r : List ℕ). zs ++ r) (drop_of_length-le (drop 8192 s) {i = length s - 8192} (omega (arith, length-drop 8192 s)))
      ∙ append-nil zs

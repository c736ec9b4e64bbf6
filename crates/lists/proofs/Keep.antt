-- Tables built from the front, row by row, and the rows that pass a test, `keep_if`. Assumes nothing.
use mathlib.Core.Path.{◌≡◌, sym, ap, ◌∙◌}
use mathlib.Core.List.{List, [], ◌∷◌, ◌++◌}
use mathlib.Core.Bool.{Bool, true, false, cond}
use Prim.Native.Nat.{ℕ, ◌+◌, ◌≤◌, ◌<◌}
use native.Mathlib.Numerals.{add-one}
use native.Mathlib.Omega.{arith}
use lib.ListN.{length, get_or, take, drop, set, length-take, drop_of_length-le}
use lib.Seq.{take-suc, take-suc-set, drop-cons, get_or-take, append_snoc}
use Rattle.lists.specs.Rows.{keep_if}

-- ---- a table built row by row: the first i rows are those of s
module _ {A : Type 0} where
  pub take_more : (i : ℕ) (l s : List A) (x d : A) → i < length l → i < length s → x ≡ get_or s i d → take i l ≡ take i s → take (i + 1) (set l i x) ≡ take (i + 1) s
  take_more i l s x d h k e q = rw (add-one, take-suc-set l i x h, take-suc s i d k, e, q)

  -- a run of the kept: j are written to out, and those of s from i on are left
  pub keep_turn : (p : A → Bool) (s : List A) (i n : ℕ) (d : A) → i < n → n ≤ length s → keep_if p (drop i (take n s)) ≡ cond (p (get_or s i d)) (get_or s i d ∷ keep_if p (drop (i + 1) (take n s))) (keep_if p (drop (i + 1) (take n s)))
  unfolding keep_if
  keep_turn p s i n d h q =
      let k : i < length (take n s) = simp length-take (omega arith) in
      rw (add-one, drop-cons (take n s) i d k, get_or-take n s i d h)

  pub keep_none : (p : A → Bool) (s : List A) (i n : ℕ) → n ≤ i → keep_if p (drop i (take n s)) ≡ []
  unfolding keep_if
  keep_none p s i n h = let k : length (take n s) ≤ i = simp length-take (omega arith) in rw (drop_of_length-le (take n s) k)

  pub keep_more : (j : ℕ) (out : List A) (x : A) (r : List A) → j < length out → take (j + 1) (set out j x) ++ r ≡ take j out ++ (x ∷ r)
  keep_more j out x r h = rw (add-one, take-suc-set out j x h) (append_snoc (take j out) x r)

  -- a turn of such a loop
  module _ (p : A → Bool) (s out : List A) (i j n : ℕ) (d : A) (h : i < n) (q : n ≤ length s) where
    pub kept : j < length out → p (get_or s i d) ≡ true → take (j + 1) (set out j (get_or s i d)) ++ keep_if p (drop (i + 1) (take n s)) ≡ take j out ++ keep_if p (drop i (take n s))
    kept l e = keep_more j out (get_or s i d) _ l ∙ ap (λ (r : List A). take j out ++ r) (sym (keep_turn p s i n d h q ∙ rw e))

    pub passed : p (get_or s i d) ≡ false → take j out ++ keep_if p (drop (i + 1) (take n s)) ≡ take j out ++ keep_if p (drop i (take n s))
    passed e = ap (λ (r : List A). take j out ++ r) (sym (keep_turn p s i n d h q ∙ rw e))

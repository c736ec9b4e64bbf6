-- The two columns of the chains in one: how long each is, what is read in it, and what a store in one leaves in both. Assumes nothing.
use mathlib.Core.Path.{◌≡◌, sym, ap, subst, ◌∙◌}
use mathlib.Core.List.{List}
use Prim.Native.Nat.{ℕ, ◌+◌, ◌-◌, ◌≤◌, ◌<◌}
use native.Mathlib.Nat.{min-le_left, min-le_right}
use native.Mathlib.Omega.{arith}
use lib.ListN.{length, get_or, set, length-take, length-drop}
use lib.Seq.{length-take-le, get_or-take, get_or-drop, take-set-le, take-set-lt, drop-set-lt, drop-set-add}
use Rattle.pieces.specs.declared.PieceSymbol.{PieceSymbol}
use Rattle.piece_columns.specs.Columns.{lasts_in, prevs_in, PutSymbol}

module _ (s : List ℕ) where
  pub length_lasts : 4096 ≤ length s → length (lasts_in s) ≡ 4096
  unfolding lasts_in
  length_lasts h = length-take-le 4096 s h

  pub length_prevs : length (prevs_in s) ≡ length s - 4096
  unfolding prevs_in
  length_prevs = length-drop 4096 s

  -- a place in the first column is a place of the whole
  pub in_lasts : (i : ℕ) → i < length (lasts_in s) → (i < 4096) × (i < length s)
  unfolding lasts_in
  in_lasts i h =
      let e = length-take 4096 s in
      (omega (arith, h, e, min-le_left 4096 (length s)), omega (arith, h, e, min-le_right 4096 (length s)))

  pub last_at : (i : ℕ) → i < 4096 → get_or s i 0 ≡ get_or (lasts_in s) i 0
  unfolding lasts_in
  last_at i h = sym (get_or-take 4096 s i 0 h)

  pub prev_at : (i : ℕ) → get_or s (4096 + i) 0 ≡ get_or (prevs_in s) i 0
  unfolding prevs_in
  prev_at i = sym (get_or-drop 4096 s i 0)

  -- a store in the second column, then one in the first
  module _ (k v i w : ℕ) (h : i < 4096) where
    pub lasts_stored : set (lasts_in s) i w ≡ lasts_in (set (set s (4096 + k) v) i w)
    unfolding lasts_in
    lasts_stored = sym (take-set-lt 4096 (set s (4096 + k) v) i w h ∙ ap (λ (l : List ℕ). set l i w) (take-set-le 4096 s (4096 + k) v (omega arith)))

    pub prevs_stored : set (prevs_in s) k v ≡ prevs_in (set (set s (4096 + k) v) i w)
    unfolding prevs_in
    prevs_stored = sym (drop-set-lt 4096 (set s (4096 + k) v) i w h ∙ drop-set-add 4096 s k v)

-- an entry that was pushed in both columns was pushed in the whole
pub pushed_both : (s before after : List ℕ) (k : ℕ) (y : PieceSymbol) → y.symbol < 4096
    → PutSymbol (set (lasts_in s) y.symbol (k + 1)) (set (prevs_in s) k (get_or (lasts_in s) y.symbol 0)) before after k y
    → PutSymbol (lasts_in (set (set s (4096 + k) (get_or s y.symbol 0)) y.symbol (k + 1))) (prevs_in (set (set s (4096 + k) (get_or s y.symbol 0)) y.symbol (k + 1))) before after k y
pushed_both s before after k y h p =
    let v = get_or s y.symbol 0 in
    let w = k + 1 in
    let e : set (prevs_in s) k (get_or (lasts_in s) y.symbol 0) ≡ prevs_in (set (set s (4096 + k) v) y.symbol w) =
    ap (set (prevs_in s) k) (sym (last_at s y.symbol h)) ∙ prevs_stored s k v y.symbol w h in
    subst (λ (l : List ℕ). PutSymbol l (prevs_in (set (set s (4096 + k) v) y.symbol w)) before after k y) (lasts_stored s k v y.symbol w h)
    (subst (λ (l : List ℕ). PutSymbol (set (lasts_in s) y.symbol w) l before after k y) e p)

-- A turn of each pass over a part of the symbol order: the last that passes, from behind, and the highest alignment, from the front.
-- Assumes nothing.
use mathlib.Core.Path.{◌≡◌, refl, sym, ap, ap₂, ◌∙◌}
use mathlib.Core.List.{List, [], ◌∷◌, ◌++◌}
use mathlib.Core.Bool.{Bool, true, false, cond}
use Prim.Native.Nat.{ℕ, zero, suc, ◌+◌, ◌-◌, ◌≤◌, ◌<◌, max}
use native.Mathlib.Numerals.{add-one}
use native.Mathlib.Omega.{arith}
use lib.ListN.{length, get_or, take, drop, drop_of_length-le, length-drop}
use lib.Seq.{take-suc, take_all, drop-cons, get_or-drop}
use Rattle.lists.specs.Rows.{keep_if}
use Rattle.lists.proofs.Filter.{keep_append}
use Rattle.obj.specs.declared.Symbol.{Symbol}
use Rattle.std.specs.Prelude.{Option, Some, None}
use Rattle.symbols.specs.Ranges.{sized, last_or, highest_of, raise}

-- ---- the last that passes
last_append : (best : Option ℕ) (s t : List ℕ) → last_or best (s ++ t) ≡ last_or (last_or best s) t
unfolding last_or
last_append best [] t = refl
last_append best (i ∷ s) t = last_append (Some i) s t

pub last_turn : (p : ℕ → Bool) (l : List ℕ) (j : ℕ) (best : Option ℕ) → 0 < j → j ≤ length l
    → last_or best (keep_if p (take j l)) ≡ cond (p (get_or l (j - 1) 0)) (Some (get_or l (j - 1) 0)) (last_or best (keep_if p (take (j - 1) l)))
unfolding last_or keep_if
last_turn p l j best h q =
    let e : j ≡ suc (j - 1) = omega arith in
    let r : j - 1 < length l = omega arith in
    ap (λ (m : ℕ). last_or best (keep_if p (take m l))) e
    ∙ ap (λ (s : List ℕ). last_or best (keep_if p s)) (take-suc l (j - 1) 0 r)
    ∙ ap (last_or best) (keep_append p (take (j - 1) l) (get_or l (j - 1) 0 ∷ []))
    ∙ last_append best (keep_if p (take (j - 1) l)) (keep_if p (get_or l (j - 1) 0 ∷ []))
    ∙ go (p (get_or l (j - 1) 0))
  where
    go : (t : Bool) → last_or (last_or best (keep_if p (take (j - 1) l))) (cond t (get_or l (j - 1) 0 ∷ []) []) ≡ cond t (Some (get_or l (j - 1) 0)) (last_or best (keep_if p (take (j - 1) l)))
    go true = refl
    go false = refl

-- those from place j on do not pass
last_past : (p : ℕ → Bool) (l : List ℕ) (m j : ℕ) (best : Option ℕ) → j + m ≡ length l → ((k : ℕ) → j ≤ k → k < length l → p (get_or l k 0) ≡ false)
    → last_or best (keep_if p l) ≡ last_or best (keep_if p (take j l))
last_past p l zero j best e h = ap (λ (s : List ℕ). last_or best (keep_if p s)) (sym (take_all j l (omega arith)))
last_past p l (suc m) j best e h =
    let z : j + 1 - 1 ≡ j = omega arith in
    last_past p l m (j + 1) best (omega arith) (λ k a b. h k (omega arith) b)
    ∙ last_turn p l (j + 1) best (omega arith) (omega arith)
    ∙ ap (λ (i : ℕ). cond (p (get_or l i 0)) (Some (get_or l i 0)) (last_or best (keep_if p (take i l)))) z
    ∙ ap (λ (t : Bool). cond t (Some (get_or l j 0)) (last_or best (keep_if p (take j l)))) (h j (omega arith) (omega arith))

-- the last that passes is that at place j
pub last_is : (p : ℕ → Bool) (l : List ℕ) (j : ℕ) (best : Option ℕ) → j < length l → p (get_or l j 0) ≡ true
    → ((k : ℕ) → j < k → k < length l → p (get_or l k 0) ≡ false) → last_or best (keep_if p l) ≡ Some (get_or l j 0)
last_is p l j best h e after =
    let z : j + 1 - 1 ≡ j = omega arith in
    last_past p l (length l - (j + 1)) (j + 1) best (omega arith) (λ k a b. after k (omega arith) b)
    ∙ last_turn p l (j + 1) best (omega arith) (omega arith)
    ∙ ap (λ (i : ℕ). cond (p (get_or l i 0)) (Some (get_or l i 0)) (last_or best (keep_if p (take i l)))) z
    ∙ ap (λ (t : Bool). cond t (Some (get_or l j 0)) (last_or best (keep_if p (take j l)))) e

-- none passes
pub last_nowhere : (p : ℕ → Bool) (l : List ℕ) (best : Option ℕ) → ((k : ℕ) → k < length l → p (get_or l k 0) ≡ false) → last_or best (keep_if p l) ≡ best
unfolding last_or keep_if
last_nowhere p l best h = last_past p l (length l) 0 best (omega arith) (λ k a b. h k b)

-- .. of the places from `from` to before j
module _ (p : ℕ → Bool) (l : List ℕ) (from : ℕ) where
  abbrev pub last_from : ℕ → Option ℕ
  last_from j = last_or None (keep_if p (take (j - from) (drop from l)))

  pub last_none : (j : ℕ) → j ≤ from → last_from j ≡ None
  unfolding last_or keep_if
  last_none j h = let z : j - from ≡ 0 = omega arith in ap (λ (m : ℕ). last_or None (keep_if p (take m (drop from l)))) z

  pub last_from_lem : (j : ℕ) → from < j → j ≤ length l → last_from j ≡ cond (p (get_or l (j - 1) 0)) (Some (get_or l (j - 1) 0)) (last_from (j - 1))
  last_from_lem j h q =
      let n = length-drop from l in
      let e : j - from - 1 ≡ j - 1 - from = omega arith in
      let f : from + (j - from - 1) ≡ j - 1 = omega arith in
      let g : get_or (drop from l) (j - from - 1) 0 ≡ get_or l (j - 1) 0 = get_or-drop from l (j - from - 1) 0 ∙ ap (λ (k : ℕ). get_or l k 0) f in
      last_turn p (drop from l) (j - from) None (omega arith) (omega (arith, n))
      ∙ ap₂ (λ (x m : ℕ). cond (p x) (Some x) (last_or None (keep_if p (take m (drop from l))))) g e

-- ---- the highest alignment
module _ (y : ℕ → Symbol) (l : List ℕ) where
  -- what is left from place j on
  abbrev pub highest_from : ℕ → ℕ
  highest_from j = highest_of y (keep_if (λ i. sized (y i)) (drop j l))

  pub highest_turn : (j most : ℕ) → j < length l → max most (highest_from j) ≡ max (raise most (y (get_or l j 0))) (highest_from (j + 1))
  unfolding highest_of keep_if
  highest_turn j most h = rw (add-one, drop-cons l j 0 h) (go (sized (y (get_or l j 0))))
    where
      go : (t : Bool) → max most (highest_of y (cond t (get_or l j 0 ∷ keep_if (λ i. sized (y i)) (drop (suc j) l)) (keep_if (λ i. sized (y i)) (drop (suc j) l))))
          ≡ max (cond t (max most (y (get_or l j 0)).alignment) most) (highest_from (suc j))
      go true = omega arith
      go false = refl

  pub highest_end : (j most : ℕ) → length l ≤ j → max most (highest_from j) ≡ most
  unfolding highest_of keep_if
  highest_end j most h = rw (drop_of_length-le l h) (omega arith)

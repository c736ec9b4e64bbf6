-- The splitting end's pass over the symbols, the last first, is document 01's loop: "while the last unstripped Object symbol below it ..
-- has one of the five linker object names, that symbol's address". What is passed over at an end is passed over below it too. Assumes nothing.
use mathlib.Core.Path.{◌≡◌, refl, sym, ap, ◌∙◌}
use mathlib.Core.List.{List, [], ◌∷◌, ◌++◌, reverse, reverse-cons, append-nil}
use mathlib.Core.Bool.{Bool, true, false, cond}
use mathlib.Core.Logic.{◌⊎◌, inl, inr}
use Prim.Native.Nat.{ℕ, ◌≤◌, ◌<◌}
use native.Mathlib.Nat.{le_refl}
use native.Mathlib.Omega.{arith}
use lib.Dec.{ltb}
use borrow.Author.Tests.{le-ltb, lt-ltb}
use Rattle.lists.specs.Rows.{keep_if}
use Rattle.lists.proofs.Compare.{and_holds}
use Rattle.lists.proofs.Filter.{keep_append, keep_keep}
use Rattle.obj.specs.declared.Symbol.{Symbol}
use Rattle.symbol_order.specs.Order.{symbols_of}
use Rattle.symbols.specs.Ranges.{last_or, sized_unstripped, last_below}
use Rattle.std.specs.Prelude.{Option, Some, None}
use Rattle.std.proofs.lemmas.Option.{none-some}
use Rattle.std.proofs.lemmas.Bool.{cases_lt, and_right}
use Rattle.sections.specs.Image.{Image}
use Rattle.sections.specs.Ends.{object_below, is_linkers, lowered, lowered_end, round}
use Rattle.sections.proofs.Laws.{object_below_lem}

-- the first of a list, or `best`
unfoldable first_or : Option ℕ → List ℕ → Option ℕ
first_or best [] = best
first_or best (i ∷ l) = Some i

first_snoc : (best : Option ℕ) (s : List ℕ) (x : ℕ) → first_or best (s ++ (x ∷ [])) ≡ first_or (Some x) s
unfolding first_or
first_snoc best [] x = refl
first_snoc best (i ∷ s) x = refl

-- the last of those that pass is the first from behind
last_first : (p : ℕ → Bool) (best : Option ℕ) (l : List ℕ) → last_or best (keep_if p l) ≡ first_or best (keep_if p (reverse l))
unfolding first_or last_or keep_if
last_first p best [] = refl
last_first p best (x ∷ l) =
    go (p x) (last_first p best l) (last_first p (Some x) l)
    ∙ sym (ap (λ (s : List ℕ). first_or best (keep_if p s)) (reverse-cons x l) ∙ ap (first_or best) (keep_append p (reverse l) (x ∷ [])))
  where
    go : (t : Bool) → last_or best (keep_if p l) ≡ first_or best (keep_if p (reverse l)) → last_or (Some x) (keep_if p l) ≡ first_or (Some x) (keep_if p (reverse l))
        → last_or best (cond t (x ∷ keep_if p l) (keep_if p l)) ≡ first_or best (keep_if p (reverse l) ++ cond t (x ∷ []) [])
    go true a b = b ∙ sym (first_snoc best (keep_if p (reverse l)) x)
    go false a b = a ∙ ap (first_or best) (sym (append-nil (keep_if p (reverse l))))

first_passes : (p : ℕ → Bool) (r : List ℕ) (j : ℕ) → first_or None (keep_if p r) ≡ Some j → p j ≡ true
unfolding first_or keep_if
first_passes p [] j e = absurd (none-some j e)
first_passes p (x ∷ r) j e = go (p x) refl e (first_passes p r j)
  where
    go : (t : Bool) → p x ≡ t → first_or None (cond t (x ∷ keep_if p r) (keep_if p r)) ≡ Some j → (first_or None (keep_if p r) ≡ Some j → p j ≡ true) → p j ≡ true
    go true h q ih = let z : x ≡ j = cc in ap p (sym z) ∙ h
    go false h q ih = ih q

-- what is no such symbol at an end is none below it either
stays : (y : Symbol) (end low : ℕ) → object_below end y ≡ false → low ≤ end → object_below low y ≡ false
stays y end low e h = go (cases_lt y.address end)
  where
    go : (y.address < end) ⊎ (end ≤ y.address) → object_below low y ≡ false
    go (inl q) = and_right (ltb y.address low) _ (sym (and_holds (lt-ltb _ _ q)) ∙ e)
    go (inr q) = let w : low ≤ y.address = omega arith in rw (le-ltb _ _ w)

module _ (g : Image) where
  -- such a symbol may be left out
  passed : (i : ℕ) (r : List ℕ) (end : ℕ) → object_below end (g.symbol i) ≡ false → lowered g end (i ∷ r) ≡ lowered g end r
  unfolding lowered
  passed i r end e = ap (λ (t : Bool). cond t (cond (is_linkers g (g.symbol i)) (lowered g (g.symbol i).address r) end) (lowered g end r)) e

  alike : (f h : ℕ → ℕ) (end : ℕ) (x : Option ℕ) → ((i : ℕ) → x ≡ Some i → f (g.symbol i).address ≡ h (g.symbol i).address) → round g f end x ≡ round g h end x
  unfolding round
  alike f h end None e = refl
  alike f h end (Some i) e = ap (λ (m : ℕ). cond (is_linkers g (g.symbol i)) m end) (e i refl)

  pass_loop : (r : List ℕ) (end : ℕ) → lowered g end r ≡ round g (λ e. lowered g e r) end (first_or None (keep_if (λ i. object_below end (g.symbol i)) r))
  unfolding round first_or keep_if lowered
  pass_loop [] end = refl
  pass_loop (i ∷ r) end = go (object_below end (g.symbol i)) refl (pass_loop r end)
    where
      test : ℕ → Bool
      test j = object_below end (g.symbol j)

      go : (t : Bool) → object_below end (g.symbol i) ≡ t
          → lowered g end r ≡ round g (λ e. lowered g e r) end (first_or None (keep_if test r))
          → cond t (cond (is_linkers g (g.symbol i)) (lowered g (g.symbol i).address r) end) (lowered g end r)
          ≡ round g (λ e. lowered g e (i ∷ r)) end (first_or None (cond t (i ∷ keep_if test r) (keep_if test r)))
      go true e ih =
          ap (λ (m : ℕ). cond (is_linkers g (g.symbol i)) m end)
          (sym (passed i r (g.symbol i).address (rw (le-ltb (g.symbol i).address (g.symbol i).address (le_refl _)))))
      go false e ih =
          ih
          ∙ alike (λ m. lowered g m r) (λ m. lowered g m (i ∷ r)) end (first_or None (keep_if test r))
          (λ j q. sym (passed i r (g.symbol j).address
          (stays (g.symbol i) end (g.symbol j).address e (let w = object_below_lem end (g.symbol j) (first_passes test r j q) in omega arith))))

  -- document 01's loop, one round at a time: the splitting end, from `end` on, is `end` if the last such symbol below it is none of the
  -- linker's, and else what it is from that symbol's address on
  pub lowered_loop : (n end : ℕ) → lowered_end g n end ≡ round g (lowered_end g n) end (last_below g.symbol g.count n true end)
  lowered_loop n end =
      pass_loop (reverse (symbols_of g.symbol g.count n)) end
      ∙ ap (round g (lowered_end g n) end)
      (sym (last_first (λ i. object_below end (g.symbol i)) None (symbols_of g.symbol g.count n))
      ∙ ap (last_or None) (sym (keep_keep (λ i. sized_unstripped true (g.symbol i)) (λ i. ltb (g.symbol i).address end) (symbols_of g.symbol g.count n))))

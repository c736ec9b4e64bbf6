-- The cut: the section's last row, found from behind, and what cutting it is. Assumes nothing.
use mathlib.Core.Path.{◌≡◌, refl, sym, ap, ◌∙◌}
use mathlib.Core.List.{List, [], ◌∷◌}
use mathlib.Core.Bool.{Bool, true, false, cond, not, ◌&&◌, ◌||◌}
use Prim.Native.Nat.{ℕ, zero, suc, ◌+◌, ◌-◌, ◌≤◌, ◌<◌}
use native.Mathlib.Nat.{zero-add, le_of_suc-le-suc, not-suc-le-zero}
use native.Mathlib.Numerals.{add-one}
use native.Mathlib.Omega.{arith}
use borrow.Author.Tests.{eq-eqb, ne_eqb, lt-ltb, le-ltb}
use lib.Dec.{eqb}
use lib.ListN.{length, get_or, set, drop}
use Rattle.lists.specs.Outcome.{Outcome, accepted, refused, ◌>>=◌}
use Rattle.lists.specs.Rows.{tabulate, some}
use Rattle.lists.proofs.Rows.{get_d_tabulate, length-tabulate}
use Rattle.lists.proofs.DropRows.{drop-rows, set_itself, some_at}
use Rattle.lists.proofs.Binds.{bind_goes, bind_stops}
use Rattle.obj.specs.declared.Split.{Split}
use Rattle.obj.specs.Nothing.{no_split}
use Rattle.splits.specs.Updates.{with_end}
use Rattle.sections.specs.Image.{Image}
use Rattle.sections.specs.Sections.{Sections}
use Rattle.sections.specs.Ends.{splitting_end}
use Rattle.trim.specs.Trim.{cut_to, cut_last, cut_section, cut_from}

-- ---- the section's last row
module _ (section end : ℕ) where
  abbrev pub of_section : Split → Bool
  of_section y = eqb y.section section

  -- none of the rows
  cut_nothing : (l : List Split) → some of_section l ≡ false → cut_last section end l ≡ l
  unfolding cut_last some
  cut_nothing [] e = refl
  cut_nothing (s ∷ l) e = go (of_section s) e (cut_nothing l)
    where
      go : (t : Bool) → (t || some of_section l) ≡ false → (some of_section l ≡ false → cut_last section end l ≡ l)
          → cond (t && not (some of_section l)) (cut_to end s ∷ l) (s ∷ cut_last section end l) ≡ s ∷ l
      go true q ih = absurd (let z : ◌≡◌ {A = ℕ} 0 1 = cc in omega arith)
      go false q ih = ap (λ (t : List Split). s ∷ t) (ih q)

  -- the row at place j is one, and none after it is
  cut_at : (l : List Split) (j : ℕ) (d : Split) → j < length l → of_section (get_or l j d) ≡ true → some of_section (drop (suc j) l) ≡ false
      → cut_last section end l ≡ set l j (cut_to end (get_or l j d))
  unfolding cut_last
  cut_at [] j d h e q = absurd (not-suc-le-zero h)
  cut_at (s ∷ l) zero d h e q = rw (e, q)
  cut_at (s ∷ l) (suc j) d h e q =
      ap (λ (t : Bool). cond (of_section s && not t) (cut_to end s ∷ l) (s ∷ cut_last section end l)) (some_at of_section l j d (le_of_suc-le-suc h) e)
      ∙ go (of_section s)
      ∙ ap (λ (t : List Split). s ∷ t) (cut_at l j d (le_of_suc-le-suc h) e q)
    where
      go : (t : Bool) → cond (t && not true) (cut_to end s ∷ l) (s ∷ cut_last section end l) ≡ s ∷ cut_last section end l
      go true = refl
      go false = refl

  module _ (row : ℕ → Split) (n : ℕ) where
    -- the m rows from place i on are of other sections
    pub none_rows : (m i : ℕ) → ((k : ℕ) → i ≤ k → k < i + m → of_section (row k) ≡ false) → some of_section (tabulate row i m) ≡ false
    unfolding some tabulate
    none_rows zero i h = refl
    none_rows (suc m) i h = rw (h i (omega arith) (omega arith)) (none_rows m (suc i) (λ k a b. h k (omega arith) (omega arith)))

    -- the rows as they are left
    pub cut_none : some of_section (tabulate row 0 n) ≡ false → tabulate row 0 n ≡ cut_last section end (tabulate row 0 n)
    cut_none e = sym (cut_nothing (tabulate row 0 n) e)

    module _ (k : ℕ) (small : k < n) (after : some of_section (tabulate row (k + 1) (n - (k + 1))) ≡ false) (is : (row k).section ≡ section) where
      at_row : get_or (tabulate row 0 n) k no_split ≡ row k
      at_row = get_d_tabulate row 0 n k no_split small ∙ ap row (zero-add k)

      cut_row : cut_last section end (tabulate row 0 n) ≡ set (tabulate row 0 n) k (cut_to end (row k))
      cut_row =
          cut_at (tabulate row 0 n) k no_split (omega (arith, length-tabulate row 0 n)) (ap of_section at_row ∙ eq-eqb _ _ is)
          (ap (some of_section) (drop-rows row (suc k) n ∙ ap (λ (m : ℕ). tabulate row m (n - m)) (let z : suc k ≡ k + 1 = omega arith in z)) ∙ after)
          ∙ ap (λ (y : Split). set (tabulate row 0 n) k (cut_to end y)) at_row

      -- it does not end above
      pub cut_stays : (row k).end ≤ end → tabulate row 0 n ≡ cut_last section end (tabulate row 0 n)
      unfolding cut_to
      cut_stays h =
          sym (cut_row
          ∙ ap (λ (t : Bool). set (tabulate row 0 n) k (cond t (with_end end (row k)) (row k))) (le-ltb _ _ h)
          ∙ ap (set (tabulate row 0 n) k) (sym at_row)
          ∙ set_itself (tabulate row 0 n) k no_split)

      pub cut_falls : end < (row k).end → set (tabulate row 0 n) k (with_end end (row k)) ≡ cut_last section end (tabulate row 0 n)
      unfolding cut_to
      cut_falls h = sym (cut_row ∙ ap (λ (t : Bool). set (tabulate row 0 n) k (cond t (with_end end (row k)) (row k))) (lt-ltb _ _ h))

-- ---- a section
module _ (g : Image) (sections : Sections) (n : ℕ) (l : List Split) where
  abbrev whole : ℕ
  whole = (sections.head n).address + (sections.head n).size

  abbrev ended : ℕ → Outcome (List Split)
  ended end = accepted (cond (eqb whole end) l (cut_last n end l))

  pub section_short : (number section address : ℕ) → splitting_end g n (sections.head n) (sections.bytes n) ≡ refused number section address
      → cut_section g sections n l ≡ refused number section address
  unfolding cut_section
  section_short number section address e = bind_stops _ _ number section address e

  module _ (end : ℕ) (is : splitting_end g n (sections.head n) (sections.bytes n) ≡ accepted end) where
    as_ended : cut_section g sections n l ≡ ended end
    unfolding cut_section
    as_ended = bind_goes _ _ end is

    pub section_whole : whole ≡ end → cut_section g sections n l ≡ accepted l
    section_whole e = as_ended ∙ ap (λ (t : Bool). accepted (cond t l (cut_last n end l))) (eq-eqb whole end e)

    pub section_cut : (whole ≡ end → ⊥) → cut_section g sections n l ≡ accepted (cut_last n end l)
    section_cut e = as_ended ∙ ap (λ (t : Bool). accepted (cond t l (cut_last n end l))) (ne_eqb whole end e)

-- ---- all sections: what is left from section k on
module _ (g : Image) (sections : Sections) (count k : ℕ) (l : List Split) where
  pub cut_turn : k < count → cut_from g sections (count - k) k l ≡ (cut_section g sections k l >>= cut_from g sections (count - (k + 1)) (k + 1))
  unfolding cut_from
  cut_turn h =
      ap (λ (m : ℕ). cut_from g sections m k l) (let e : count - k ≡ suc (count - (k + 1)) = omega arith in e)
      ∙ ap (λ (m : ℕ). cut_section g sections k l >>= cut_from g sections (count - (k + 1)) m) (sym (add-one k))

  pub cut_ended : count ≤ k → cut_from g sections (count - k) k l ≡ accepted l
  unfolding cut_from
  cut_ended h = ap (λ (m : ℕ). cut_from g sections m k l) (let e : count - k ≡ 0 = omega arith in e)

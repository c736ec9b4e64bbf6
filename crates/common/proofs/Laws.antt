-- Where the common splits begin: the sections named `.bss` found one after the other, and the cases of the answer. Assumes nothing.
use mathlib.Core.Path.{◌≡◌, refl, sym, ap, subst, ◌∙◌}
use mathlib.Core.List.{List, [], ◌∷◌, map}
use mathlib.Core.Bool.{Bool, true, false}
use Prim.Native.Nat.{ℕ, suc, ◌+◌, ◌-◌, ◌≤◌, ◌<◌}
use native.Mathlib.Omega.{arith}
use borrow.Author.Tests.{lt-ltb}
use lib.ListN.{length}
use Rattle.lists.specs.Rows.{tabulate, keep_if}
use Rattle.lists.specs.Outcome.{accepted, refused, refuse, ◌>>◌, ◌>>=◌}
use Rattle.lists.proofs.Parts.{tabulate_all}
use Rattle.obj.specs.declared.Split.{Split}
use Rattle.splits.specs.Columns.{Columns, row_at, rows}
use Rattle.splits.proofs.Blocks.{none_kept, first_kept}
use Rattle.common.specs.declared.Bss.TheVariants as the_bss
use Rattle.common.specs.declared.Bss.TheVariants.{One, Many}
use Rattle.std.specs.Prelude.{Option, None, Some, MatchOption, Result, Ok, Err}
use Rattle.obj.specs.declared.Refusal.{Refusal}
use Rattle.common.specs.declared.Start.{Start}
use Rattle.common.specs.Common.{nowhere, on, bss_sections, given_start, first_common, start_of, common_in, common_start, marked_from, marked, common_of, start_meaning, First}
use Rattle.common.specs.Sections.{bss_of, first_of, given_of}

-- ---- the first that passes
module _ {A : Type 0} (p : A → Bool) (f : ℕ → A) (n from : ℕ) where
  pub first_hit : (k : ℕ) → k < n → keep_if p (tabulate f from (n - from)) ≡ f k ∷ keep_if p (tabulate f (k + 1) (n - (k + 1))) → First p f n from (Some k)
  first_hit k h e = record {
    there = λ j z.
        let same : k ≡ j = cc in
        subst (λ (m : ℕ). (m < n) × (keep_if p (tabulate f from (n - from)) ≡ f m ∷ keep_if p (tabulate f (m + 1) (n - (m + 1))))) same (h, e);
    none = λ z. absurd (cc);
  }

  pub first_none : keep_if p (tabulate f from (n - from)) ≡ [] → First p f n from None
  first_none e = record { there = λ j z. absurd (cc); none = λ z. e }

  -- what std's search found is the first that passes
  pub first_found : (r : Option ℕ) → from ≤ n
      → MatchOption r ((k : ℕ) → from ≤ k → k < n → p (f k) ≡ false) (λ i. (from ≤ i) × (i < n) × (p (f i) ≡ true) × ((k : ℕ) → from ≤ k → k < i → p (f k) ≡ false))
      → First p f n from r
  first_found None h none = first_none (none_kept p f n from h none)
  first_found (Some i) h s = first_hit i s.1 (first_kept p f n from i s.0 s.1 s.2 s.3)

-- ---- the sections named `.bss`
module _ (p : ℕ → Bool) (n : ℕ) where
  from_first : keep_if p (tabulate (λ k. k) 0 (n - 0)) ≡ bss_sections p n
  unfolding bss_sections
  from_first = ap (keep_if p) (tabulate_all (λ k. k) n)

  pub bss_none : (r : Option ℕ) → First p (λ k. k) n 0 r → r ≡ None → the_bss.None ≡ bss_of (bss_sections p n)
  bss_none r h e = sym (ap bss_of (sym from_first ∙ h.none e))

  module _ (r : Option ℕ) (h : First p (λ k. k) n 0 r) (first : ℕ) (l : r ≡ Some first) (t : Option ℕ) (g : First p (λ k. k) n (first + 1) t) where
    pub bss_many : (second : ℕ) → t ≡ Some second → Many ≡ bss_of (bss_sections p n)
    bss_many second m = sym (ap bss_of (sym from_first ∙ (h.there first l).1 ∙ ap (λ (s : List ℕ). first ∷ s) (g.there second m).1))

    pub bss_one : t ≡ None → One first ≡ bss_of (bss_sections p n)
    bss_one m = sym (ap bss_of (sym from_first ∙ (h.there first l).1 ∙ ap (λ (s : List ℕ). first ∷ s) (g.none m)))

-- ---- where the common splits begin

pub given_is : (start : ℕ) (bss : List ℕ) → start_meaning (given_of start (bss_of bss)) ≡ given_start start bss
unfolding given_start refuse ◌>>◌
given_is start [] = refl
given_is start (k ∷ []) = refl
given_is start (k ∷ j ∷ l) = rw (lt-ltb 1 (suc (suc (length l))) (omega arith))

pub first_is : (bss : List ℕ) (l : List Split) → first_of (bss_of bss) l ≡ first_common bss l
unfolding first_common
first_is [] l = refl
first_is (k ∷ []) l = refl
first_is (k ∷ j ∷ s) l = refl

-- the first common row of a section
module _ (section : ℕ) (c : Columns) (n : ℕ) (r : Option ℕ) (h : First (common_in section) (row_at c) n 0 r) where
  all_rows : keep_if (common_in section) (tabulate (row_at c) 0 (n - 0)) ≡ keep_if (common_in section) (rows c n)
  all_rows = ap (keep_if (common_in section)) (tabulate_all (row_at c) n)

  pub start_there : (k : ℕ) → r ≡ Some k → on section (row_at c k).start ≡ start_of section (keep_if (common_in section) (rows c n))
  unfolding start_of
  start_there k e = sym (ap (start_of section) (sym all_rows ∙ (h.there k e).1))

  pub start_past : r ≡ None → nowhere ≡ start_of section (keep_if (common_in section) (rows c n))
  unfolding start_of
  start_past e = sym (ap (start_of section) (sym all_rows ∙ h.none e))

-- ---- the stage, by the cases of what the search for the start answers
module _ (given : Bool) (start : ℕ) (bss : List ℕ) (l : List Split) (r : Result (Option Start) Refusal) (is : start_meaning r ≡ common_start given start bss l) where
  pub common_nowhere : r ≡ Ok None → accepted l ≡ common_of given start bss l
  unfolding common_of ◌>>=◌ marked_from
  common_nowhere e = rw (sym is ∙ ap start_meaning e)

  pub common_on : {s : Start} → r ≡ Ok (Some s) → accepted (map (marked s.section s.address) l) ≡ common_of given start bss l
  unfolding common_of ◌>>=◌ marked_from
  common_on e = rw (sym is ∙ ap start_meaning e)

  pub common_refused : {e : Refusal} → r ≡ Err e → refused e.number e.section e.address ≡ common_of given start bss l
  unfolding common_of ◌>>=◌
  common_refused e = rw (sym is ∙ ap start_meaning e)

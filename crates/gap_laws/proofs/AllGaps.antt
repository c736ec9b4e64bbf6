-- All gaps of a filling are covered exactly, where none of their names is there before: each is then new when it enters, since names of different gaps differ, and what
-- stands in the table stays. Assumes nothing.
use mathlib.Core.Path.{◌≡◌, refl, sym, ap, ◌∙◌}
use mathlib.Core.List.{List, [], ◌∷◌, ◌++◌, Memᴰ}
use mathlib.Core.Logic.{◌⊎◌, inl, inr}
use mathlib.Core.Bool.{false}
use Prim.Native.Nat.{ℕ, ◌≤◌, ◌<◌}
use native.Mathlib.Omega.{arith}
use lib.ListN.{length, length-append, get_or, get_or-append}
use lib.Seq.{get_or-append_seam}
use Rattle.lists.specs.Outcome.{accepted}
use Rattle.lists.specs.Sort.{All, none, each, Rising}
use Rattle.lists.proofs.All.{all_map, all_both}
use Rattle.lists.proofs.Outcomes.{same_accepted, bind_inv}
use Rattle.obj.specs.declared.Section.{Section}
use Rattle.obj.specs.declared.Split.{Split}
use Rattle.names.specs.Names.{same_name}
use Rattle.sections.specs.Image.{Image}
use Rattle.sections.specs.Sections.{Sections}
use Rattle.merge.specs.Merge.{Given, given}
use Rattle.gap_columns.specs.Columns.{Gap, key_of}
use Rattle.gaps.specs.Gaps.{found_gaps}
use Rattle.gaps.specs.Found.{Lies}
use Rattle.gaps.proofs.Inside.{found_lies, found_rising}
use Rattle.gap_splits.specs.Entering.{Filled, Ceilings, Named, gap_split, unit_name, entered, filled}
use Rattle.gap_splits.specs.Answers.{Absent}
use Rattle.gap_splits.proofs.GapNames.{other_names}
use Rattle.gap_splits.proofs.Naming.{absent_more}
use Rattle.create_gap_splits.specs.Create.{name_in, gaps_filled}
use Rattle.gap_laws.specs.Good.{Faultless, Below, Covers, OneOf, CoversAll}
use Rattle.gap_laws.proofs.Named.{Comes, entered_comes}
use Rattle.gap_laws.proofs.Tables.{low_of, gap_good, entered_added}
use Rattle.gap_laws.proofs.Covers.{new_added, new_gap-covers}

module _ (section_name : ℕ → List ℕ) (heads : List Section) (most : ℕ) (room : Ceilings) (sections : Sections) (few : sections.count ≤ 64) (below : Below sections) where
  abbrev g : Given
  g = given heads most

  abbrev name : Gap → List ℕ
  name x = unit_name section_name g room x

  -- a later gap has another name
  other_name : (x y : Gap) → Lies sections x → Lies sections y → key_of x < key_of y → same_name (name y) (name x) ≡ false
  other_name x y p q h =
      let a = low_of sections below x p in
      let b = low_of sections below y q in
      other_names y.section x.section y.start x.start (section_name y.section) (section_name x.section) (omega (arith, q.there)) (omega (arith, p.there)) (omega (arith, b.start)) (omega (arith, a.start))
      (λ e. omega arith)

  -- the names after a gap with a new name
  names-after : (t : Filled) (x : Gap) (t' : Filled) → Absent t.names (name x) → Comes section_name g room t x t' → t'.names ≡ t.names ++ (name x ∷ [])
  names-after t x t' a c = c.names ∙ ap (λ (r : Named). r.names) (new_added room x.section x.start t.names (name x) c.unit a c.named_as)

  -- one gap, and then the others
  covers_on : (t t₁ t' : Filled) (x : Gap) (l : List Gap) → t₁.names ≡ t.names ++ (name x ∷ []) → Covers t t₁ x (length t.names) → CoversAll t₁ t' name l
      → (more : List (List ℕ)) × (t'.names ≡ t₁.names ++ more) → CoversAll t t' name (x ∷ l)
  covers_on t t₁ t' x l e c r m = record {
    here = each (record { unit = length t.names; split = r.kept (gap_split x (length t.names)) c.here; named = named_here }) r.here;
    kept = λ s k. r.kept s (c.kept s k);
    only = λ s k. first s (r.only s k);
  }
    where
      named_here : get_or t'.names (length t.names) [] ≡ name x
      named_here =
          let short : length t.names < length t₁.names = omega (arith, ap length e, length-append t.names (name x ∷ [])) in
          ap (λ (n : List (List ℕ)). get_or n (length t.names) []) m.1
          ∙ get_or-append t₁.names m.0 [] (length t.names) short
          ∙ ap (λ (n : List (List ℕ)). get_or n (length t.names) []) e
          ∙ get_or-append_seam t.names (name x) [] []

      second : (s : Split) → (s ≡ gap_split x (length t.names)) ⊎ Memᴰ s t.rows → OneOf (x ∷ l) s ⊎ Memᴰ s t.rows
      second s (inl q) = inl (record { gap = x; unit = length t.names; listed = Memᴰ.head refl; is = q })
      second s (inr k) = inr k

      first : (s : Split) → OneOf l s ⊎ Memᴰ s t₁.rows → OneOf (x ∷ l) s ⊎ Memᴰ s t.rows
      first s (inl o) = inl (record { gap = o.gap; unit = o.unit; listed = Memᴰ.tail o.listed; is = o.is })
      first s (inr k) = second s (c.only s k)

  -- THEOREM: gaps of different places with new names, entered into a table without a fault, are covered exactly
  pub entered_covers : (t t' : Filled) (gaps : List Gap) → Faultless heads t → All (Lies sections) gaps → Rising key_of gaps → All (λ x. Absent t.names (name x)) gaps
      → filled section_name g room t gaps ≡ accepted t' → CoversAll t t' name gaps
  unfolding filled Rising
  entered_covers t t' [] q none r none e = record { here = none; kept = λ s k. rw (sym (same_accepted e)) k; only = λ s k. inr (rw (same_accepted e) k) }
  entered_covers t t' (x ∷ l) q (each p all) r (each a absent) e =
      let f = bind_inv (entered section_name g room t x) _ t' e in
      let c = entered_comes section_name g room t x f.0 f.1 in
      let n = names-after t x f.0 a c in
      covers_on t f.0 t' x l n (new_gap-covers section_name g room t x f.0 heads q a f.1)
      (entered_covers f.0 t' l (gap_good section_name heads most room t x f.0 (low_of sections below x p) q c) all r.1
      (all_map (λ y h. rw n (absent_more t.names (name x) (name y) (other_name x y p h.0 h.1.0) h.1.1)) (all_both all (all_both r.0 absent))) f.2)
      (entered_added section_name heads most room f.0 t' l f.2)

-- THEOREM: where the filler accepts a table without a fault that has none of the gaps' names, each gap that was found is covered by a split with exactly its section, start
-- and end, of the unit named for it; every split that was there still stands, and no other came
pub found-covers : (g : Image) (sections : Sections) (heads : List Section) (most : ℕ) (room : Ceilings) (t t' : Filled) (gaps : List Gap) → sections.count ≤ 64 → Below sections → Faultless heads t
    → found_gaps g sections t.rows ≡ accepted gaps → All (λ x. Absent t.names (unit_name (name_in g sections) (given heads most) room x)) gaps
    → gaps_filled g sections (given heads most) room t ≡ accepted t' → CoversAll t t' (unit_name (name_in g sections) (given heads most) room) gaps
unfolding gaps_filled
found-covers g sections heads most room t t' gaps few below q found absent e =
    let p = bind_inv (found_gaps g sections t.rows) _ t' e in
    let same : p.0 ≡ gaps = same_accepted (sym p.1 ∙ found) in
    entered_covers (name_in g sections) heads most room sections few below t t' gaps q (found_lies g sections t.rows gaps found) (found_rising g sections t.rows gaps found) absent
    (ap (filled (name_in g sections) (given heads most) room t) (sym same) ∙ p.2)

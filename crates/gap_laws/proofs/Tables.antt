-- The filling of gaps leaves a good table: each gap's split is a good one (merge's `one_good`), and a table without a fault stays one when names are added.
-- Assumes nothing.
use mathlib.Core.Path.{◌≡◌, refl, sym, ap, ◌∙◌}
use mathlib.Core.List.{List, [], ◌++◌, map, map-append, append-nil, append_assoc}
use mathlib.Core.Logic.{◌⊎◌, inl, inr}
use Prim.Native.Nat.{ℕ, ◌≤◌, ◌<◌}
use native.Mathlib.Omega.{arith}
use lib.ListN.{length, get_or, get_or-append, get_or-eq_default, get_or-map}
use Rattle.std.proofs.lemmas.Bool.{cases_lt}
use Rattle.lists.specs.Outcome.{accepted}
use Rattle.lists.specs.Rows.{any_of, any_from}
use Rattle.lists.specs.Sort.{All}
use Rattle.lists.proofs.All.{all_any, all_map}
use Rattle.lists.proofs.Outcomes.{bind_inv}
use Rattle.obj.specs.declared.Section.{Section}
use Rattle.obj.specs.declared.Split.{Split}
use Rattle.obj.specs.Nothing.{no_split}
use Rattle.tables.specs.Records.{split_fault, sections_in}
use Rattle.tables.proofs.Laws as table-laws
use Rattle.sections.specs.Image.{Image}
use Rattle.sections.specs.Sections.{Sections, sections_of, Kept}
use Rattle.merge.specs.Merge.{Given, given}
use Rattle.merge.specs.Kept.{Keeps}
use Rattle.merge.proofs.Keeping.{one_kept, one_few}
use Rattle.merge.proofs.Tables.{Sound, sound_of, sound_good, one_good}
use Rattle.gap_columns.specs.Columns.{Gap}
use Rattle.gaps.specs.Gaps.{found_gaps}
use Rattle.gaps.specs.Found.{Lies}
use Rattle.gaps.proofs.Inside.{found_lies}
use Rattle.gap_splits.specs.Entering.{Filled, Ceilings, gap_split, unit_name, filled}
use Rattle.create_gap_splits.specs.Create.{name_in, gaps_filled}
use Rattle.gap_laws.specs.Good.{Faultless, Below, Within}
use Rattle.gap_laws.proofs.Named.{name_long, Gives, named_gives, Comes, filled_keeps}
use Rattle.splits.proofs.Alignment.{none_not_bad}

-- ---- names that are added
module _ (lengths more : List ℕ) where
  -- a name that is there keeps its length
  length_there : (k : ℕ) → 0 < get_or lengths k 0 → 0 < get_or (lengths ++ more) k 0
  length_there k h = go (cases_lt k (length lengths))
    where
      go : (k < length lengths) ⊎ (length lengths ≤ k) → 0 < get_or (lengths ++ more) k 0
      go (inl q) = let e = get_or-append lengths more 0 k q in omega arith
      go (inr q) = let e = get_or-eq_default lengths 0 {n = k} q in absurd (omega arith)

  sound_more : (s : Split) → Sound lengths s → Sound (lengths ++ more) s
  sound_more s q = record {
    named = length_there s.unit q.named;
    renamed = λ h. length_there s.rename (q.renamed h);
    aligned = q.aligned;
    flags = q.flags;
    start = q.start;
    end = q.end;
  }

  fault_more : (heads : List Section) (rows : List Split) (k : ℕ) → split_fault lengths heads rows k ≡ 0 → split_fault (lengths ++ more) heads rows k ≡ 0
  unfolding split_fault any_of any_from
  fault_more heads rows k e =
      let p = table-laws.split_good lengths heads rows k e in
      let s = sound_more (get_or rows k no_split) (sound_of lengths _ (table-laws.partial_good lengths rows k p.0)) in
      rw (sound_good (lengths ++ more) (get_or rows k no_split) s, p.1)

-- THEOREM: a split table without a fault has none when names are added behind the others
pub names_more : (heads : List Section) (names more : List (List ℕ)) (rows : List Split) → Faultless heads (record { names = names; rows = rows })
    → Faultless heads (record { names = names ++ more; rows = rows })
names_more heads names more rows q k h =
    ap (λ (l : List ℕ). split_fault l heads rows k) (map-append length names more) ∙ fault_more (map length names) (map length more) heads rows k (q k h)

-- ---- a gap's split

-- a gap that neither starts nor ends above 0xF0000000
pub record Low (x : Gap) : Type 0 where
  pub start : x.start ≤ 4026531840
  pub end : x.end ≤ 4026531840

pub low_of : (sections : Sections) → Below sections → (x : Gap) → Lies sections x → Low x
low_of sections b x l = let e : x.end ≤ 4026531840 = omega (arith, l.within, b x.section l.there) in record { start = omega (arith, l.forward); end = e }

gap_sound : (names : List (List ℕ)) (unit : ℕ) (x : Gap) → 0 < length (get_or names unit []) → Low x → Sound (map length names) (gap_split x unit)
gap_sound names unit x h l = record {
  named = let e : get_or (map length names) unit 0 ≡ length (get_or names unit []) = get_or-map length names unit [] in omega arith;
  renamed = λ n. absurd (n refl);
  aligned = none_not_bad;
  flags = omega arith;
  start = l.start;
  end = l.end;
}

-- ---- all gaps
module _ (section_name : ℕ → List ℕ) (heads : List Section) (most : ℕ) (room : Ceilings) where
  abbrev g : Given
  g = given heads most

  gives : (t : Filled) (x : Gap) (t' : Filled) → (c : Comes section_name g room t x t') → Gives room t.names (unit_name section_name g room x) c.unit
  gives t x t' c = named_gives room x.section x.start t.names (unit_name section_name g room x) c.unit c.named_as

  pub gap_good : (t : Filled) (x : Gap) (t' : Filled) → Low x → Faultless heads t → Comes section_name g room t x t' → Faultless heads t'
  gap_good t x t' l q c =
      let n = gives t x t' c in
      let f : Faultless heads (record { names = c.unit.names; rows = t.rows }) = rw n.grown (names_more heads t.names n.more t.rows q) in
      let long : 0 < length (get_or c.unit.names c.unit.number []) = rw n.is (name_long x.section x.start (section_name x.section)) in
      rw c.names
      (one_good (map length c.unit.names) heads most t.rows (gap_split x c.unit.number) t'.rows f (gap_sound c.unit.names c.unit.number x long l) c.merged)

  -- THEOREM: gaps that lie in their sections, entered into a split table without a fault, leave one without a fault
  pub entered_good : (sections : Sections) → Below sections → (t t' : Filled) (gaps : List Gap) → All (Lies sections) gaps → Faultless heads t
      → filled section_name g room t gaps ≡ accepted t' → Faultless heads t'
  entered_good sections b t t' gaps all q e = filled_keeps section_name g room (Faultless heads) Low gap_good t t' (all_map (low_of sections b) all) q e

  -- THEOREM: a property of splits that a merge keeps, and that every gap's split has, stays
  pub entered_kept : (P : Split → Type 0) → Keeps P → ((x : Gap) (unit : ℕ) → P (gap_split x unit)) → (t t' : Filled) (gaps : List Gap) → All P t.rows
      → filled section_name g room t gaps ≡ accepted t' → All P t'.rows
  entered_kept P keeps own t t' gaps q e =
      filled_keeps section_name g room (λ t. All P t.rows) (λ x. Unit {0})
      (λ t x t' u q c. one_kept P keeps g t.rows (gap_split x c.unit.number) t'.rows q (λ i. own x c.unit.number) c.merged)
      t t' (all_any (λ x. tt) gaps) q e

  -- THEOREM: the splits never pass the room
  pub entered_few : (t t' : Filled) (gaps : List Gap) → length t.rows ≤ most → filled section_name g room t gaps ≡ accepted t' → length t'.rows ≤ most
  entered_few t t' gaps h e =
      filled_keeps section_name g room (λ t. length t.rows ≤ most) (λ x. Unit {0})
      (λ t x t' u q c. one_few g t.rows (gap_split x c.unit.number) t'.rows q c.merged) t t' (all_any (λ x. tt) gaps) h e

  -- THEOREM: the names never pass the ceilings
  pub entered_within : (t t' : Filled) (gaps : List Gap) → Within room t.names → filled section_name g room t gaps ≡ accepted t' → Within room t'.names
  entered_within t t' gaps w e =
      filled_keeps section_name g room (λ t. Within room t.names) (λ x. Unit {0}) (λ t x t' u q c. rw c.names ((gives t x t' c).within q)) t t' (all_any (λ x. tt) gaps) w e

  -- THEOREM: names are only added, behind those that were there
  pub entered_added : (t t' : Filled) (gaps : List Gap) → filled section_name g room t gaps ≡ accepted t' → (more : List (List ℕ)) × (t'.names ≡ t.names ++ more)
  entered_added t t' gaps e =
      filled_keeps section_name g room (λ s. (more : List (List ℕ)) × (s.names ≡ t.names ++ more)) (λ x. Unit {0})
      (λ s x s' u q c. let n = gives s x s' c in (q.0 ++ n.more, c.names ∙ n.grown ∙ ap (λ (l : List (List ℕ)). l ++ n.more) q.1 ∙ append_assoc t.names q.0 n.more))
      t t' (all_any (λ x. tt) gaps) ([], sym (append-nil t.names)) e

-- ---- the filling

-- from t the filling leaves t': no split has a fault, neither splits nor names pass their ceilings if they did not before, and the names that were there stay
pub record Leaves (heads : List Section) (most : ℕ) (room : Ceilings) (t t' : Filled) : Type 0 where
  pub good : Faultless heads t'
  pub few : length t.rows ≤ most → length t'.rows ≤ most
  pub within : Within room t.names → Within room t'.names
  pub added : (more : List (List ℕ)) × (t'.names ≡ t.names ++ more)

-- THEOREM: where the filler accepts a split table without a fault, its result has none, so the next stage's check of the splits accepts it; neither splits nor names
-- pass their ceilings; and names are only added
pub filled_good : (g : Image) (sections : Sections) (heads : List Section) (most : ℕ) (room : Ceilings) (t t' : Filled) → Below sections → Faultless heads t
    → gaps_filled g sections (given heads most) room t ≡ accepted t' → Leaves heads most room t t'
unfolding gaps_filled
filled_good g sections heads most room t t' b q e =
    let p = bind_inv (found_gaps g sections t.rows) _ t' e in
    let names = name_in g sections in record {
      good = entered_good names heads most room sections b t t' p.0 (found_lies g sections t.rows p.0 p.1) q p.2;
      few = λ h. entered_few names heads most room t t' p.0 h p.2;
      within = λ w. entered_within names heads most room t t' p.0 w p.2;
      added = entered_added names heads most room t t' p.0 p.2;
    }

-- THEOREM: .. and a property of splits that a merge keeps, and that every gap's split has, stays
pub filled_kept : (P : Split → Type 0) → Keeps P → ((x : Gap) (unit : ℕ) → P (gap_split x unit)) → (g : Image) (sections : Sections) (heads : List Section) (most : ℕ) (room : Ceilings)
    (t t' : Filled) → All P t.rows → gaps_filled g sections (given heads most) room t ≡ accepted t' → All P t'.rows
unfolding gaps_filled
filled_kept P keeps own g sections heads most room t t' q e =
    let p = bind_inv (found_gaps g sections t.rows) _ t' e in
    entered_kept (name_in g sections) heads most room P keeps own t t' p.0 q p.2

-- .. of sections that passed the table checks, as they are lent
pub lent_good : (g : Image) (heads head_places image image_places name_places : List ℕ) (most : ℕ) (room : Ceilings) (t t' : Filled) → Kept heads head_places image image_places name_places
    → Faultless (sections_in heads head_places) t → gaps_filled g (sections_of heads head_places image image_places) (given (sections_in heads head_places) most) room t ≡ accepted t'
    → Leaves (sections_in heads head_places) most room t t'
lent_good g heads head_places image image_places name_places most room t t' kept =
    filled_good g (sections_of heads head_places image image_places) (sections_in heads head_places) most room t t' kept.below

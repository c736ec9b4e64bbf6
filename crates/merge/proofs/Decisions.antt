-- What a round decides, by the tests that the code makes, in its order: each law says where the code leaves a definition, and what is then left of it.
-- Assumes nothing.
use mathlib.Core.Path.{◌≡◌, refl, sym, ap, ◌∙◌}
use mathlib.Core.List.{List, [], ◌∷◌}
use mathlib.Core.Bool.{Bool, true, false, cond, not, beq, ◌&&◌, false≢true}
use Prim.Native.Nat.{ℕ, ◌+◌, ◌-◌, ◌*◌, ◌%◌, ◌≤◌, ◌<◌}
use native.Mathlib.Omega.{arith}
use lib.Dec.{eqb, leb, ltb}
use lib.ListN.{length, get_or, length-map}
use borrow.Author.Tests.{eq-eqb, ne_eqb, eqb-true, eqb-false, le-leb, lt-leb, lt-ltb, le-ltb}
use Rattle.lists.specs.Rows.{tabulate, keep_if}
use Rattle.lists.specs.Outcome.{Outcome, accepted, refused, refuse, ◌>>◌}
use Rattle.lists.proofs.Rows.{length-tabulate}
use Rattle.lists.proofs.Parts.{tabulate_all}
use Rattle.lists.proofs.Outcomes.{fails, passes}
use Rattle.obj.specs.declared.Split.{Split}
use Rattle.obj.specs.Records.{section_at}
use Rattle.tables.specs.Records.{sections_in}
use Rattle.splits.specs.Columns.{Good, Columns, row_at, rows}
use Rattle.splits.specs.Questions.{is_auto, of_unit, from_hit, Hit, NextHit, Meets}
use Rattle.splits.specs.declared.Met.{Met}
use Rattle.split_edits.specs.Edits.{joined}
use Rattle.merge.specs.Merge.{Given, given, section_end, Step, keep, push, join, unchanged_if, joint_of, two_alignments, inside_old, in_range, on_joint, on_old, on_own, decide}
use Rattle.merge.specs.Answers.{decided, HandsGood}
use Rattle.std.specs.Prelude.{Result, Ok, Err, Option, Some, None, is_some}
use Rattle.obj.specs.declared.Refusal.{Refusal}
use Rattle.obj.specs.Nothing.{no_section}
use Rattle.std.specs.Prelude.{min, max}
use Rattle.std.proofs.lemmas.Bool.Decides.{nat_tests}
use Rattle.std.proofs.lemmas.List.{get_or-map}
use Rattle.lists.specs.Bounds.{lower, higher}
use Rattle.merge.specs.declared.Step as steps
use Rattle.merge.specs.declared.Step.TheVariants.{Join}
use Rattle.merge.proofs.Rounds.{stays, goes_on, joined_shorter, decide_joins, decide_pushes}

-- ---- the joint range
module _ (l : List Split) (new joint : Split) where
  pub joint_11 : joint.end < joint.start → on_joint l new joint ≡ refused 11 joint.section joint.start
  unfolding on_joint
  joint_11 h = fails 11 _ _ _ _ (lt-ltb _ _ h)

  module _ (h : joint.start ≤ joint.end) (r : Met) (m : Meets (in_range joint) new.unit l r) where
    past_11 : on_joint l new joint
        ≡ unchanged_if (is_auto new && r.hand)
        (refuse 25 new.section new.start r.other >> (refuse 26 new.section new.start (not r.any) >> accepted (join joint)))
    unfolding on_joint
    past_11 =
        passes 11 _ _ _ _ (le-ltb _ _ h)
        ∙ (λ i. unchanged_if (is_auto new && sym m.hand i)
        (refuse 25 new.section new.start (sym m.other i) >> (refuse 26 new.section new.start (not (sym m.any i)) >> accepted (join joint))))

    pub joint_hand : (is_auto new && r.hand) ≡ true → on_joint l new joint ≡ accepted keep
    joint_hand e = past_11 ∙ stays _ _ e

    module _ (e : (is_auto new && r.hand) ≡ false) where
      pub joint_25 : r.other ≡ true → on_joint l new joint ≡ refused 25 new.section new.start
      joint_25 f = past_11 ∙ goes_on _ _ e ∙ fails 25 _ _ _ _ f

      pub joint_26 : r.other ≡ false → not r.any ≡ true → on_joint l new joint ≡ refused 26 new.section new.start
      joint_26 f g = past_11 ∙ goes_on _ _ e ∙ passes 25 _ _ _ _ f ∙ fails 26 _ _ _ _ g

      pub joint_joins : r.other ≡ false → not r.any ≡ false → on_joint l new joint ≡ accepted (join joint)
      joint_joins f g = past_11 ∙ goes_on _ _ e ∙ passes 25 _ _ _ _ f ∙ passes 26 _ _ _ _ g

-- ---- where the unit has a split in the section
module _ (l : List Split) (new old : Split) where
  pub old_23 : two_alignments new old ≡ true → on_old l new old ≡ refused 23 new.section new.start
  unfolding on_old
  old_23 a = fails 23 _ _ _ _ a

  module _ (a : two_alignments new old ≡ false) where
    pub old_24 : (new.flags % 2 ≡ old.flags % 2 → ⊥) → on_old l new old ≡ refused 24 new.section new.start
    unfolding on_old
    old_24 b = passes 23 _ _ _ _ a ∙ fails 24 _ _ _ _ (ap not (ne_eqb _ _ b))

    module _ (b : new.flags % 2 ≡ old.flags % 2) where
      past_24 : on_old l new old ≡ unchanged_if (inside_old new old) (on_joint l new (joint_of new old))
      unfolding on_old
      past_24 = passes 23 _ _ _ _ a ∙ passes 24 _ _ _ _ (ap not (eq-eqb _ _ b))

      pub old_inside : inside_old new old ≡ true → on_old l new old ≡ accepted keep
      old_inside c = past_24 ∙ stays _ _ c

      pub old_joint : inside_old new old ≡ false → (joint : Split) → joint ≡ joint_of new old → on_old l new old ≡ on_joint l new joint
      old_joint c joint e = past_24 ∙ goes_on _ _ c ∙ ap (on_joint l new) (sym e)

-- the joint split's alignment is one of two good ones
pub good_joint : (new old : Split) → Good new.alignment → Good old.alignment → Good (joint_of new old).alignment
unfolding joint_of
good_joint new old a b = go (eqb new.alignment 0)
  where
    go : (t : Bool) → Good (cond t old.alignment new.alignment)
    go true = b
    go false = a

-- two splits that are both common, or both not, have the same lowest bit of their flags
pub common_same : (new old : Split) (x y : Bool) → x ≡ eqb (new.flags % 2) 1 → y ≡ eqb (old.flags % 2) 1 → not (beq x y) ≡ false → new.flags % 2 ≡ old.flags % 2
common_same new old true true e f h = eqb-true _ _ (sym e) ∙ sym (eqb-true _ _ (sym f))
common_same new old false false e f h = omega (arith, eqb-false (new.flags % 2) 1 (sym e), eqb-false (old.flags % 2) 1 (sym f))
common_same new old true false e f h = absurd (cc)
common_same new old false true e f h = absurd (cc)

-- .. and where one is and one is not, they have not
pub common-apart : (new old : Split) (x y : Bool) → x ≡ eqb (new.flags % 2) 1 → y ≡ eqb (old.flags % 2) 1 → not (beq x y) ≡ true → new.flags % 2 ≡ old.flags % 2 → ⊥
common-apart new old true true e f h g = absurd (cc)
common-apart new old false false e f h g = absurd (cc)
common-apart new old true false e f h g = omega (arith, g, eqb-true (new.flags % 2) 1 (sym e), eqb-false (old.flags % 2) 1 (sym f))
common-apart new old false true e f h g = omega (arith, g, eqb-false (new.flags % 2) 1 (sym e), eqb-true (old.flags % 2) 1 (sym f))

-- a product of two bits is a bit
pub bit_product : (a b : ℕ) → a < 2 → b < 2 → a * b < 2
bit_product a b h l = go (eqb a 0) refl
  where
    go : (t : Bool) → eqb a 0 ≡ t → a * b < 2
    go true e = rw (eqb-true a 0 e) (let z : 0 * b < 2 = omega arith in z)
    go false e = let q : a ≡ 1 = omega (arith, eqb-false a 0 e) in rw q (let z : 1 * b < 2 = omega arith in z)

-- ---- the splits of the unit in the section

-- none, and a place is free
pub none-pushed : (room : ℕ) (l : List Split) (new : Split) (own : List Split) → own ≡ [] → length l < room → on_own room l new own ≡ accepted push
unfolding on_own
none-pushed room l new own e h = ap (on_own room l new) e ∙ passes 27 _ _ _ _ (lt-leb _ _ h)

module _ (room : ℕ) (c : Columns) (n : ℕ) (new : Split) where
  abbrev own : List Split
  own = keep_if (of_unit new.section new.unit) (rows c n)

  own_is : (i : ℕ) → Hit (of_unit new.section new.unit) c n 0 i → own ≡ from_hit (of_unit new.section new.unit) c n i
  own_is i first = ap (keep_if (of_unit new.section new.unit)) (sym (tabulate_all (row_at c) n)) ∙ first.is

  module _ (none : Hit (of_unit new.section new.unit) c n 0 n) where
    own_none : own ≡ []
    own_none =
        own_is n none
        ∙ ap (λ (t : Bool). cond t (row_at c n ∷ keep_if (of_unit new.section new.unit) (tabulate (row_at c) (n + 1) (n - (n + 1)))) []) (le-ltb n n (omega arith))

    pub own_full : room ≤ n → on_own room (rows c n) new own ≡ refused 27 new.section new.start
    unfolding on_own
    own_full h =
        ap (on_own room (rows c n) new) own_none
        ∙ fails 27 _ _ _ _ (ap (λ (k : ℕ). leb room k) (length-tabulate (row_at c) 0 n) ∙ le-leb _ _ h)

    pub own_pushed : n < room → on_own room (rows c n) new own ≡ accepted push
    own_pushed h = none-pushed room (rows c n) new own own_none (omega (arith, length-tabulate (row_at c) 0 n))

  module _ (i : ℕ) (first : Hit (of_unit new.section new.unit) c n 0 i) (there : i < n) where
    by_second : (j : ℕ) → Hit (of_unit new.section new.unit) c n (i + 1) j → (t : Bool) → ltb j n ≡ t
        → on_own room (rows c n) new own
        ≡ on_own room (rows c n) new (row_at c i ∷ cond t (row_at c j ∷ keep_if (of_unit new.section new.unit) (tabulate (row_at c) (j + 1) (n - (j + 1)))) [])
    by_second j second t e =
        ap (on_own room (rows c n) new)
        (own_is i first
        ∙ ap (λ (t : Bool). cond t (row_at c i ∷ keep_if (of_unit new.section new.unit) (tabulate (row_at c) (i + 1) (n - (i + 1)))) []) (lt-ltb i n there)
        ∙ ap (λ (t : List Split). row_at c i ∷ t) second.is)
        ∙ ap (λ (u : Bool). on_own room (rows c n) new (row_at c i ∷ cond u (row_at c j ∷ keep_if (of_unit new.section new.unit) (tabulate (row_at c) (j + 1) (n - (j + 1)))) [])) e

    pub own_several : (second : Option ℕ) → NextHit (of_unit new.section new.unit) c n (i + 1) second → is_some second ≡ true
        → on_own room (rows c n) new own ≡ refused 22 new.section new.start
    unfolding on_own
    own_several (Some j) s e = by_second j s.0 true (lt-ltb j n s.1)
    own_several None s e = absurd (false≢true e)

    pub own_one : (second : Option ℕ) → NextHit (of_unit new.section new.unit) c n (i + 1) second → is_some second ≡ false
        → on_own room (rows c n) new own ≡ on_old (rows c n) new (row_at c i)
    unfolding on_own
    own_one (Some j) s e = absurd (false≢true (sym e))
    own_one None s e = by_second n s false (le-ltb n n (omega arith))

-- ---- up to the splits of the unit
module _ (heads places : List ℕ) (cap : ℕ) (l : List Split) (new : Split) where
  abbrev with_heads : Given
  with_heads = given (sections_in heads places) cap

  ends_count : length with_heads.ends ≡ length places
  ends_count = length-map (sections_in heads places) section_end ∙ length-map places (section_at heads)

  pub decide_20 : length places ≤ new.section → decide with_heads l new ≡ refused 20 new.section new.start
  unfolding decide
  decide_20 h = fails 20 _ _ _ _ (le-leb (length with_heads.ends) new.section (omega (arith, ends_count)))

  module _ (h : new.section < length places) where
    end_there : get_or with_heads.ends new.section 0 ≡ section_end (section_at heads (get_or places new.section 0))
    end_there =
        get_or-map section_end (sections_in heads places) new.section no_section 0 (omega (arith, length-map places (section_at heads)))
        ∙ ap section_end (get_or-map (section_at heads) places new.section 0 no_section h)

    module _ (limit : ℕ) (e : limit ≡ section_end (section_at heads (get_or places new.section 0))) where
      past_20 : decide with_heads l new
          ≡ (refuse 21 new.section new.start (not (eqb new.end 0) && ltb limit new.end)
          >> on_own cap l new (keep_if (of_unit new.section new.unit) l))
      unfolding decide
      past_20 =
          passes 20 _ _ _ _ (lt-leb (length with_heads.ends) new.section (omega (arith, ends_count)))
          ∙ ap (λ (x : ℕ). refuse 21 new.section new.start (not (eqb new.end 0) && ltb x new.end) >> on_own cap l new (keep_if (of_unit new.section new.unit) l))
          (end_there ∙ sym e)

      pub decide_21 : (not (eqb new.end 0) && ltb limit new.end) ≡ true → decide with_heads l new ≡ refused 21 new.section new.start
      decide_21 t = past_20 ∙ fails 21 _ _ _ _ t

      pub decide_own : (not (eqb new.end 0) && ltb limit new.end) ≡ false
          → decide with_heads l new ≡ on_own cap l new (keep_if (of_unit new.section new.unit) l)
      decide_own t = past_20 ∙ passes 21 _ _ _ _ t

-- ---- answers

-- one that is a refusal
pub answers : (d : Result steps.Step Refusal) {o : Outcome Step} {number section address : ℕ}
    → d ≡ Err (record { number = number; section = section; address = address }) → o ≡ refused number section address
    → (decided d ≡ o) × HandsGood d
answers d e f = rw e (sym f, tt)

-- one that hands a split on
pub handed : (d : Result steps.Step Refusal) (joint : Split) → d ≡ Ok (Join joint) → HandsGood d → Good joint.alignment
handed d joint e h = rw e at h

-- after a join fewer rows are left
pub join_less : (g : Given) (c c' : Columns) (k r : ℕ) (new joint : Split) → decide g (rows c k) new ≡ accepted (join joint)
    → rows c' r ≡ joined joint.section joint.start joint.end joint.unit (rows c k) → r < k
join_less g c c' k r new joint e f =
    let q = joined_shorter joint.section joint.start joint.end joint.unit (rows c k) (decide_joins g (rows c k) new joint e).range in
    omega (arith, q, ap length f, length-tabulate (row_at c') 0 r, length-tabulate (row_at c) 0 k)

-- a push has room
pub push_below : (g : Given) (c : Columns) (k : ℕ) (new : Split) → decide g (rows c k) new ≡ accepted push → k < g.room
push_below g c k new e = omega (arith, (decide_pushes g (rows c k) new e).room, length-tabulate (row_at c) 0 k)

-- ---- the bounds of a joint split, by std's words
pub min_lower : (a b : ℕ) → min a b ≡ lower a b
min_lower a b = grind (arith, nat_tests)

pub max_higher : (a b : ℕ) → max a b ≡ higher a b
max_higher a b = grind (arith, nat_tests)

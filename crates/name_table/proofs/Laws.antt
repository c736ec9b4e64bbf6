-- Names in order: what a name without a fault is, a name more in the columns, and what a table that passed is. A name is new exactly if its
-- number among the names before it is their count, and that is what the index is asked. Callers use `names_passed`. Assumes nothing.
use Prim.Native.Nat.{ℕ, ◌+◌, ◌-◌, ◌/◌, ◌%◌, ◌≤◌, ◌<◌, zero-le}
use mathlib.Core.Path.{◌≡◌, refl, sym, ap, ap₂, ◌∙◌}
use mathlib.Core.List.{List, [], ◌∷◌, ◌++◌, map, map-append}
use mathlib.Core.Bool.{Bool, true, false, cond}
use mathlib.Core.Logic.{◌≢◌}
use native.Mathlib.Nat.{zero-add, not-suc-le-zero}
use native.Mathlib.Numerals.{add-one}
use native.Mathlib.Omega.{arith}
use borrow.Author.Tests.{ltb-false, eqb-true, eqb-false}
use lib.Dec.{eqb, ltb}
use lib.ListN.{length, get_or, take, drop, set, length-set, length-take, length-drop, length-map}
use lib.Seq.{take-suc-set, get_or-set_same, get_or-set_other, get_or-take, length-take-le}
use Rattle.std.proofs.lemmas.Bool.{or_parts}
use Rattle.lists.specs.Outcome.{Outcome, accepted, refused}
use Rattle.lists.specs.Rows.{tabulate, any_of}
use Rattle.lists.proofs.Outcomes.{not_both, then_both}
use Rattle.lists.proofs.Rows.{length-tabulate, get_d_tabulate, tabulate_more, tabulate_ext}
use Rattle.lists.proofs.Some.{some_false}
use Rattle.lists.proofs.Tests.{none_of}
use Rattle.names.specs.Names.{name_at, names_of, Named, number_of, outside, name_bad}
use Rattle.names.specs.Index.{bucket_of, Indexed, InBucket}
use Rattle.names.proofs.Laws.{number_le, number_below}
use Rattle.names.proofs.Indexes.{indexed_entered}
use Rattle.tables.specs.Tables.{records_check}
use Rattle.tables.proofs.Laws.{size_passed, records_passed}
use Rattle.name_table.specs.NameTable.{start_of, end_of, name_in, stage_names, name_cut, name_wrong, name_fault, names_check}
use Rattle.name_table.specs.Stored.{name_starts, name_lengths, stage_lengths, Stored, Stores, Readable, Passed}

-- ---- a name without a fault
pub record Sound (ends bytes : List ℕ) (k : ℕ) : Type 0 where
  pub rising : start_of ends k ≤ end_of ends k
  pub within : end_of ends k ≤ length bytes
  pub good : name_bad (name_in ends bytes k) ≡ false
  pub new : k ≤ number_of (stage_names ends bytes k) (name_in ends bytes k)

neither : (s t : Bool) → ◌≡◌ {A = ℕ} (cond s 1 (cond t 3 0)) 0 → (s ≡ false) × (t ≡ false)
neither true t e = absurd (omega arith)
neither false true e = absurd (omega arith)
neither false false e = (refl, refl)

-- the test of a part that is not cut
pub not_cut : (size start end : ℕ) → any_of (ltb end start ∷ ltb size end ∷ []) ≡ false → (start ≤ end) × (end ≤ size)
not_cut size start end e = (ltb-false _ _ (none_of _ 0 e), ltb-false _ _ (none_of _ 1 e))

-- what the search of a name asks of the columns
pub searched : {ends bytes places lengths heads chain : List ℕ} {k : ℕ} → Stored ends bytes places lengths heads chain k
    → Named bytes places lengths k × Indexed (names_of bytes places lengths k) heads chain
searched s = (s.named, rw s.names s.index)

module _ (ends bytes : List ℕ) where
  pub name_sound : (k : ℕ) → name_fault ends bytes k ≡ 0 → Sound ends bytes k
  unfolding name_fault name_cut name_wrong
  name_sound k e =
      let none = neither _ _ e in record {
        rising = ltb-false _ _ (none_of _ 0 none.0);
        within = ltb-false _ _ (none_of _ 1 none.0);
        good = none_of _ 0 none.1;
        new = ltb-false _ _ (none_of _ 1 none.1);
      }

  pub length_name : (k : ℕ) → end_of ends k ≤ length bytes → length (name_in ends bytes k) ≡ end_of ends k - start_of ends k
  unfolding name_in
  length_name k h = simp (length-take, length-drop) (omega arith)

  pub short_name : (k : ℕ) → Sound ends bytes k → length (name_in ends bytes k) ≤ 128
  unfolding name_bad
  short_name k s = ltb-false _ _ (none_of _ 0 s.good)

  -- the part from a start to an end
  pub name_part : (k : ℕ) {start end : ℕ} → start ≡ start_of ends k → end ≡ end_of ends k → take (end - start) (drop start bytes) ≡ name_in ends bytes k
  unfolding name_in
  name_part k es ee = ap₂ (λ (a e : ℕ). take (e - a) (drop a bytes)) es ee

  pub length-stage_names : (n : ℕ) → length (stage_names ends bytes n) ≡ n
  unfolding stage_names
  length-stage_names n = length-tabulate (name_in ends bytes) 0 n

  pub length-stage_lengths : length (stage_lengths ends bytes) ≡ length ends / 2
  unfolding name_lengths
  length-stage_lengths = length-map (stage_names ends bytes (length ends / 2)) length ∙ length-stage_names (length ends / 2)

  -- ---- the fault of name k, as the code asks for it
  module _ (k : ℕ) {start end : ℕ} (es : start ≡ start_of ends k) (ee : end ≡ end_of ends k) where
    cut_asked : {t : Bool} → any_of (ltb end start ∷ ltb (length bytes) end ∷ []) ≡ t → name_cut ends bytes k ≡ t
    unfolding name_cut
    cut_asked e = rw (es, ee) at e

    pub fault_cut : any_of (ltb end start ∷ ltb (length bytes) end ∷ []) ≡ true → 1 ≡ name_fault ends bytes k
    unfolding name_fault
    fault_cut e = rw (cut_asked e)

    -- it is not cut: whether it is bad, or is one of the names before it
    pub fault_asked : {names : List (List ℕ)} {bad found : Bool} (t : Bool)
        → any_of (ltb end start ∷ ltb (length bytes) end ∷ []) ≡ false
        → names ≡ stage_names ends bytes k
        → bad ≡ name_bad (take (end - start) (drop start bytes))
        → found ≡ ltb (number_of names (take (end - start) (drop start bytes))) (length names)
        → any_of (bad ∷ found ∷ []) ≡ t
        → cond t 3 0 ≡ name_fault ends bytes k
    unfolding name_fault name_wrong
    fault_asked {names} {bad} {found} t c en eb er e =
        let same = name_part k es ee in
        let bad_is : bad ≡ name_bad (name_in ends bytes k) = eb ∙ ap name_bad same in
        let found_is : found ≡ ltb (number_of (stage_names ends bytes k) (name_in ends bytes k)) k =
        er ∙ ap₂ ltb (ap₂ number_of en same) (ap length en ∙ length-stage_names k) in
        rw (cut_asked c, ← bad_is, ← found_is, e)

  -- ---- the names by number
  pub stage_name : (n k : ℕ) → k < n → get_or (stage_names ends bytes n) k [] ≡ name_in ends bytes k
  unfolding stage_names
  stage_name n k h = get_d_tabulate (name_in ends bytes) 0 n k [] h ∙ ap (name_in ends bytes) (zero-add k)

  pub stage_more : (n : ℕ) → stage_names ends bytes (n + 1) ≡ stage_names ends bytes n ++ (name_in ends bytes n ∷ [])
  unfolding stage_names
  stage_more n = tabulate_more (name_in ends bytes) n

  -- ---- the columns

  -- they hold no names
  pub stored_none : (places lengths heads chain : List ℕ) → Indexed [] heads chain → Stored ends bytes places lengths heads chain 0
  unfolding name_starts name_lengths stage_names names_of tabulate
  stored_none places lengths heads chain ix = record {
    starts = refl;
    sizes = refl;
    named = record { placed = zero-le; measured = zero-le; inside = λ k h. absurd (not-suc-le-zero h) };
    names = refl;
    index = ix;
  }

  module _ (places lengths heads chain : List ℕ) (k : ℕ) (s : Stored ends bytes places lengths heads chain k) (o : Sound ends bytes k)
      (np : k < length places) (nl : k < length lengths) where
    old_place : (j : ℕ) → j < k → get_or (set places k (start_of ends k)) j 0 ≡ get_or places j 0
    old_place j h = get_or-set_other places k j (start_of ends k) 0 (λ e. omega arith)

    old_size : (j : ℕ) → j < k → get_or (set lengths k (end_of ends k - start_of ends k)) j 0 ≡ get_or lengths j 0
    old_size j h = get_or-set_other lengths k j (end_of ends k - start_of ends k) 0 (λ e. omega arith)

    new_place : get_or (set places k (start_of ends k)) k 0 ≡ start_of ends k
    new_place = get_or-set_same places k (start_of ends k) 0 np

    new_size : get_or (set lengths k (end_of ends k - start_of ends k)) k 0 ≡ end_of ends k - start_of ends k
    new_size = get_or-set_same lengths k (end_of ends k - start_of ends k) 0 nl

    names_more : names_of bytes (set places k (start_of ends k)) (set lengths k (end_of ends k - start_of ends k)) (k + 1) ≡ stage_names ends bytes (k + 1)
    unfolding names_of name_at name_in
    names_more =
        tabulate_more (name_at bytes (set places k (start_of ends k)) (set lengths k (end_of ends k - start_of ends k))) k
        ∙ ap₂ (λ (l : List (List ℕ)) (x : List ℕ). l ++ (x ∷ []))
        (tabulate_ext (name_at bytes (set places k (start_of ends k)) (set lengths k (end_of ends k - start_of ends k))) (name_at bytes places lengths) 0 0 k
        (λ j h. rw zero-add (ap₂ (λ (size at : ℕ). take size (drop at bytes)) (old_size j h) (old_place j h)))
        ∙ s.names)
        (ap₂ (λ (size at : ℕ). take size (drop at bytes)) new_size new_place)
        ∙ sym (stage_more k)

    inside_more : (j : ℕ) → j < k + 1
        → get_or (set places k (start_of ends k)) j 0 + get_or (set lengths k (end_of ends k - start_of ends k)) j 0 ≤ length bytes
    inside_more j h = step (eqb j k) refl
      where
        step : (t : Bool) → eqb j k ≡ t → get_or (set places k (start_of ends k)) j 0 + get_or (set lengths k (end_of ends k - start_of ends k)) j 0 ≤ length bytes
        step true e = rw (eqb-true j k e, new_place, new_size) (omega (arith, o.rising, o.within))
        step false e =
            let q : j < k = omega (arith, eqb-false j k e) in
            rw (old_place j q, old_size j q) (s.named.inside j q)

    starts_more : take (k + 1) (set places k (start_of ends k)) ≡ name_starts ends (k + 1)
    unfolding name_starts
    starts_more =
        rw (add-one k) (take-suc-set places k (start_of ends k) np)
        ∙ ap (λ (l : List ℕ). l ++ (start_of ends k ∷ [])) s.starts
        ∙ sym (tabulate_more (start_of ends) k)

    sizes_more : take (k + 1) (set lengths k (end_of ends k - start_of ends k)) ≡ name_lengths ends bytes (k + 1)
    unfolding name_lengths
    sizes_more =
        rw (add-one k) (take-suc-set lengths k (end_of ends k - start_of ends k) nl)
        ∙ ap₂ (λ (l : List ℕ) (x : ℕ). l ++ (x ∷ [])) s.sizes (sym (length_name k o.within))
        ∙ sym (map-append length (stage_names ends bytes k) (name_in ends bytes k ∷ []))
        ∙ ap (map length) (sym (stage_more k))

    -- name k is stored, and entered before the last name of its bucket
    pub stored_more : {heads' chain' : List ℕ} {start end bucket : ℕ}
        → k < 4096
        → start ≡ start_of ends k
        → end ≡ end_of ends k
        → InBucket (take (end - start) (drop start bytes)) bucket
        → heads' ≡ set heads bucket (k + 1)
        → chain' ≡ set chain k (get_or heads bucket 0)
        → Stored ends bytes (set places k start) (set lengths k (end - start)) heads' chain' (k + 1)
    stored_more {heads'} {chain'} {start} {end} {bucket} few es ee b eh ec =
        rw (es, ee) record {
          starts = starts_more;
          sizes = sizes_more;
          named = record { placed = rw length-set (omega arith); measured = rw length-set (omega arith); inside = inside_more };
          names = names_more;
          index =
              indexed_entered s.index (length-stage_names k)
              (record { is = refl; few = number_le (stage_names ends bytes k) (name_in ends bytes k) }) o.new few (stage_more k)
              (record { is = b.is ∙ ap bucket_of (name_part k es ee); small = b.small }) eh ec;
        }

-- the length that is stored
pub short_sound : {ends bytes : List ℕ} {k : ℕ} → Sound ends bytes k → end_of ends k - start_of ends k ≤ 128
short_sound {ends} {bytes} {k} o = omega (arith, length_name ends bytes k o.within, short_name ends bytes k o)

-- ---- answers

-- no name has a fault: the columns hold all
pub stores_all : {answer want : Outcome (Unit {0})} {ends bytes places lengths heads chain : List ℕ} {i n : ℕ}
    → answer ≡ want → i ≡ n → Stored ends bytes places lengths heads chain i → Stores answer want ends bytes places lengths heads chain n
stores_all e q s = record { said = e; stored = λ _. rw q at s }

-- the same outcome, said otherwise
pub stores_as : {answer want other : Outcome (Unit {0})} {ends bytes places lengths heads chain : List ℕ} {n : ℕ}
    → want ≡ other → Stores answer want ends bytes places lengths heads chain n → Stores answer other ends bytes places lengths heads chain n
stores_as e s = record { said = s.said ∙ e; stored = λ q. s.stored (e ∙ q) }

-- a refusal says nothing of the columns
pub stores_nothing : {answer want : Outcome (Unit {0})} {number section address : ℕ} {ends bytes places lengths heads chain : List ℕ} {n : ℕ}
    → answer ≡ want → answer ≡ refused number section address → Stores answer want ends bytes places lengths heads chain n
stores_nothing e r = record { said = e; stored = λ q. absurd (not_both (sym r ∙ e ∙ q)) }

-- ---- a table that passed

module _ (ceiling : ℕ) (ends bytes : List ℕ) (passed : names_check ceiling ends bytes ≡ accepted tt) where
  both : ((length ends % 2 ≡ 0) × (length ends / 2 ≤ ceiling)) × (records_check (name_fault ends bytes) (length ends / 2) ≡ accepted tt)
  unfolding names_check
  both = let p = then_both _ _ _ passed in (size_passed 2 ceiling (length ends) p.0, p.1)

  pub passed_sound : (k : ℕ) → k < length ends / 2 → Sound ends bytes k
  passed_sound k h = name_sound ends bytes k (records_passed (name_fault ends bytes) (length ends / 2) both.1 k h)

  good_bytes : (k i : ℕ) → k < length ends / 2 → i < length (name_in ends bytes k)
      → (33 ≤ get_or (name_in ends bytes k) i 0) × (get_or (name_in ends bytes k) i 0 ≤ 126)
  unfolding name_bad
  good_bytes k i h q =
      let none = some_false outside (name_in ends bytes k) i 0 (none_of _ 1 (passed_sound k h).good) q in
      let two = or_parts _ _ none in
      (ltb-false _ _ two.0, ltb-false _ _ two.1)

  no_two : (j k : ℕ) → j < k → k < length ends / 2 → name_in ends bytes j ≢ name_in ends bytes k
  no_two j k p h e =
      let size = length-stage_names ends bytes k in
      let below = number_below (stage_names ends bytes k) (name_in ends bytes k) j (omega arith) (stage_name ends bytes k j p ∙ e) in
      omega (arith, (passed_sound k h).new)

  pub names_passed : Passed ceiling ends bytes
  names_passed = record {
    whole = both.0.0;
    few = both.0.1;
    rising = λ k h. (passed_sound k h).rising;
    within = λ k h. (passed_sound k h).within;
    short = λ k h. short_name ends bytes k (passed_sound k h);
    good = good_bytes;
    different = no_two;
  }

-- ---- the fronts of columns that hold n names are names to read
pub readable : (ends bytes places lengths heads chain : List ℕ) (n : ℕ) → Stored ends bytes places lengths heads chain n
    → Readable bytes (take n places) (take n lengths)
readable ends bytes places lengths heads chain n s =
    record {
      named = record {
        placed = omega arith;
        measured = rw (placed, measured) (omega arith);
        inside = λ k h. let q : k < n = rw placed at h in rw (get_or-take _ places k 0 q, get_or-take _ lengths k 0 q) (s.named.inside k q);
      };
      paired = measured ∙ sym placed;
    }
  where
    placed : length (take n places) ≡ n
    placed = length-take-le _ _ s.named.placed

    measured : length (take n lengths) ≡ n
    measured = length-take-le _ _ s.named.measured

-- a name's fault is 0 or the number of a refusal of names
pub name_few : (ends bytes : List ℕ) (k : ℕ) → name_fault ends bytes k ≤ 8
unfolding name_fault
name_few ends bytes k = by_tests (name_cut ends bytes k) (name_wrong ends bytes k)
  where
    by_tests : (s t : Bool) → cond s 1 (cond t 3 0) ≤ 8
    by_tests true t = omega arith
    by_tests false true = omega arith
    by_tests false false = omega arith

-- Piece records: one that isn't cut lies whole in the bytes, those that were counted all do, and a pass goes from one to the next. Assumes nothing.
use mathlib.Core.Path.{◌≡◌, refl, sym, ap, subst, ◌∙◌}
use mathlib.Core.List.{List, [], ◌∷◌}
use mathlib.Core.Bool.{Bool, true, false, cond, not, ◌||◌, false≢true}
use Prim.Native.Nat.{ℕ, zero, suc, ◌+◌, ◌-◌, ◌≤◌, ◌<◌}
use native.Mathlib.Omega.{arith}
use native.Mathlib.Numerals.{add-one}
use lib.ListN.{length, drop, length-take, length-drop}
use lib.Dec.{eqb, ltb, leb}
use borrow.Author.Tests.{ltb-false, le-ltb, le-leb, lt-leb}
use Rattle.std.specs.Coded.{×_prop, Unit-prop, le_prop}
use Rattle.std.proofs.lemmas.Bool.{or_parts}
use Rattle.lists.specs.Outcome.{accepted, refused, refuse, ◌>>◌}
use Rattle.lists.proofs.Outcomes.{then_inv, same_accepted, not_both, fails, passes}
use Rattle.lists.specs.Rows.{any_of, some}
use Rattle.lists.proofs.Tests.{none_of}
use Rattle.fields.specs.Fields.{le16, le32}
use Rattle.frames.specs.Frames.{is_cut}
use Rattle.frames.proofs.Laws.{not_cut}
use Rattle.obj.specs.Parts.{Part}
use Rattle.piece_records.specs.Records.{part_at, next_at, record_bad, count_from, parts_at, Lying, Whole}

-- that records are whole is a fact, which a struct can keep
Lying-prop : (b : List ℕ) (at : ℕ) → IsProp (Lying b at)
Lying-prop b at = hlevel le_prop

pub Whole-prop : (count : ℕ) (b : List ℕ) (at : ℕ) → IsProp (Whole count b at)
unfolding Whole
Whole-prop zero b at = Unit-prop
Whole-prop (suc count) b at = ×_prop (Lying-prop b at) (Whole-prop count b (next_at b at))

-- ---- one record

pub not_bad_lies : (b : List ℕ) (at : ℕ) → record_bad b at ≡ false → Lying b at
unfolding record_bad
not_bad_lies b at e = go (ltb (length b) (at + 6)) (ltb (length b) (next_at b at)) refl refl e
  where
    go : (p q : Bool) → ltb (length b) (at + 6) ≡ p → ltb (length b) (next_at b at) ≡ q
        → cond p true (cond q true (any_of (not (eqb (le16 b (at + 4)) 7) ∷ ltb (le32 b at) 6 ∷ []))) ≡ false → Lying b at
    go true q h i e = absurd (false≢true (sym e))
    go false true h i e = absurd (false≢true (sym e))
    go false false h i e = record { head = ltb-false _ _ h; payload = ltb-false _ _ i; long = ltb-false _ _ (none_of _ 1 e) }

module _ (b : List ℕ) (at : ℕ) where
  pub cut_bad : is_cut b at ≡ true → true ≡ record_bad b at
  unfolding record_bad is_cut
  cut_bad e = go (ltb (length b) (at + 6)) e
    where
      go : (p : Bool) → cond p true (ltb (length b) (next_at b at)) ≡ true
          → true ≡ cond p true (cond (ltb (length b) (next_at b at)) true (any_of (not (eqb (le16 b (at + 4)) 7) ∷ ltb (le32 b at) 6 ∷ [])))
      go true e = refl
      go false e = rw e refl

  pub whole_bad : is_cut b at ≡ false → any_of (not (eqb (le16 b (at + 4)) 7) ∷ ltb (le32 b at) 6 ∷ []) ≡ record_bad b at
  unfolding record_bad
  whole_bad e = let w = not_cut b at e in rw (le-ltb _ _ w.0, le-ltb _ _ w.1)

  pub bytes_length : Lying b at → length (part_at b at).bytes ≡ le32 b at - 6
  unfolding part_at
  bytes_length l = omega (arith, length-take (le32 b at - 6) (drop (at + 12) b), length-drop (at + 12) b)

-- ---- all records, from one on

module _ (left : ℕ) (b : List ℕ) (at n : ℕ) where
  pub count_bad : at < length b → record_bad b at ≡ true → count_from left b at n ≡ refused 1 0 n
  unfolding count_from
  count_bad = go left
    where
      go : (left : ℕ) → at < length b → record_bad b at ≡ true → count_from left b at n ≡ refused 1 0 n
      go zero h e = rw (lt-leb _ _ h) (fails 1 0 n _ _ e)
      go (suc left) h e = rw (lt-leb _ _ h) (fails 1 0 n _ _ e)

pub count-full : (b : List ℕ) (at n : ℕ) → at < length b → record_bad b at ≡ false → count_from 0 b at n ≡ refused 2 0 n
unfolding count_from
count-full b at n h e = rw (lt-leb _ _ h) (passes 1 0 n _ _ e)

pub count_on : (left : ℕ) (b : List ℕ) (at n : ℕ) → at < length b → record_bad b at ≡ false → count_from (suc left) b at n ≡ count_from left b (next_at b at) (suc n)
unfolding count_from
count_on left b at n h e = rw (lt-leb _ _ h) (passes 1 0 n _ _ e)

pub count_end : (left : ℕ) (b : List ℕ) (at n : ℕ) → length b ≤ at → count_from left b at n ≡ accepted n
unfolding count_from
count_end zero b at n h = rw (le-leb _ _ h)
count_end (suc left) b at n h = rw (le-leb _ _ h)

-- the same as a loop counts: n of `most`
module _ (most : ℕ) (b : List ℕ) (at n : ℕ) (here : at < length b) (whole : record_bad b at ≡ false) where
  pub count_most : most ≤ n → count_from (most - n) b at n ≡ refused 2 0 n
  count_most h = ap (λ (k : ℕ). count_from k b at n) (let z : most - n ≡ 0 = omega arith in z) ∙ count-full b at n here whole

  pub count_turn : n < most → count_from (most - (n + 1)) b (next_at b at) (n + 1) ≡ count_from (most - n) b at n
  count_turn h =
      ap (λ (k : ℕ). count_from (most - (n + 1)) b (next_at b at) k) (add-one n)
      ∙ sym (count_on (most - (n + 1)) b at n here whole)
      ∙ ap (λ (k : ℕ). count_from k b at n) (let z : suc (most - (n + 1)) ≡ most - n = omega arith in z)

-- records that were counted: how many at most, and they are whole
pub record CountedFrom (left : ℕ) (b : List ℕ) (at n m : ℕ) : Type 0 where
  pub more : n ≤ m
  pub most : m ≤ n + left
  pub whole : Whole (m - n) b at

pub counted_whole : (left : ℕ) (b : List ℕ) (at n m : ℕ) → count_from left b at n ≡ accepted m → CountedFrom left b at n m
unfolding Whole count_from
counted_whole zero b at n m e = go (leb (length b) at) e
  where
    ended : n ≡ m → CountedFrom zero b at n m
    ended q = record { more = omega arith; most = omega arith; whole = subst (λ (k : ℕ). Whole k b at) (let z : 0 ≡ m - n = omega arith in z) tt }

    go : (t : Bool) → cond t (accepted n) (refuse 1 0 n (record_bad b at) >> refused 2 0 n) ≡ accepted m → CountedFrom zero b at n m
    go true e = ended (same_accepted e)
    go false e = absurd (not_both (then_inv _ _ _ _ _ _ e).1)
counted_whole (suc left) b at n m e = go (leb (length b) at) e (counted_whole left b (next_at b at) (suc n) m)
  where
    ended : n ≡ m → CountedFrom (suc left) b at n m
    ended q = record { more = omega arith; most = omega arith; whole = subst (λ (k : ℕ). Whole k b at) (let z : 0 ≡ m - n = omega arith in z) tt }

    on : record_bad b at ≡ false → CountedFrom left b (next_at b at) (suc n) m → CountedFrom (suc left) b at n m
    on q r = record {
      more = omega arith;
      most = omega arith;
      whole = subst (λ (k : ℕ). Whole k b at) (let z : suc (m - suc n) ≡ m - n = omega arith in z) (not_bad_lies b at q, r.whole);
    }

    go : (t : Bool) → cond t (accepted n) (refuse 1 0 n (record_bad b at) >> count_from left b (next_at b at) (suc n)) ≡ accepted m
        → (count_from left b (next_at b at) (suc n) ≡ accepted m → CountedFrom left b (next_at b at) (suc n) m) → CountedFrom (suc left) b at n m
    go true e ih = ended (same_accepted e)
    go false e ih = let r = then_inv _ _ _ _ _ _ e in on r.0 (ih r.1)

-- ---- a pass over n records: what is left at record i, which starts at `at`

pub parts_turn : (b : List ℕ) (at i n : ℕ) → i < n → parts_at (n - i) b at ≡ part_at b at ∷ parts_at (n - (i + 1)) b (next_at b at)
unfolding parts_at
parts_turn b at i n h = ap (λ (k : ℕ). parts_at k b at) (let z : n - i ≡ suc (n - (i + 1)) = omega arith in z)

pub parts_end : (b : List ℕ) (at i n : ℕ) → n ≤ i → parts_at (n - i) b at ≡ []
unfolding parts_at
parts_end b at i n h = ap (λ (k : ℕ). parts_at k b at) (let z : n - i ≡ 0 = omega arith in z)

pub whole_turn : (b : List ℕ) (at i n : ℕ) → i < n → Whole (n - i) b at → Lying b at × Whole (n - (i + 1)) b (next_at b at)
unfolding Whole
whole_turn b at i n h w = subst (λ (k : ℕ). Whole k b at) (let z : n - i ≡ suc (n - (i + 1)) = omega arith in z) w

-- before the first record, all are left
pub parts-start : (b : List ℕ) (n : ℕ) → parts_at (n - 0) b 0 ≡ parts_at n b 0
parts-start b n = ap (λ (k : ℕ). parts_at k b 0) (let z : n - 0 ≡ n = omega arith in z)

pub whole_start : (b : List ℕ) (n : ℕ) → Whole n b 0 → Whole (n - 0) b 0
whole_start b n w = subst (λ (k : ℕ). Whole k b 0) (let z : n ≡ n - 0 = omega arith in z) w

-- a pass that looks for a piece
module _ (p : Part → Bool) (b : List ℕ) (at i n : ℕ) where
  pub some_turn : i < n → some p (parts_at (n - i) b at) ≡ (p (part_at b at) || some p (parts_at (n - (i + 1)) b (next_at b at)))
  unfolding some
  some_turn h = ap (some p) (parts_turn b at i n h)

  pub some_hit : i < n → p (part_at b at) ≡ true → some p (parts_at (n - i) b at) ≡ true
  some_hit h e = some_turn h ∙ ap (λ (t : Bool). t || some p (parts_at (n - (i + 1)) b (next_at b at))) e

  pub some_miss : i < n → p (part_at b at) ≡ false → some p (parts_at (n - i) b at) ≡ some p (parts_at (n - (i + 1)) b (next_at b at))
  some_miss h e = some_turn h ∙ ap (λ (t : Bool). t || some p (parts_at (n - (i + 1)) b (next_at b at))) e

  pub some_ended : n ≤ i → some p (parts_at (n - i) b at) ≡ false
  unfolding some
  some_ended h = ap (some p) (parts_end b at i n h)

  pub none_turn : i < n → some p (parts_at (n - i) b at) ≡ false → (p (part_at b at) ≡ false) × (some p (parts_at (n - (i + 1)) b (next_at b at)) ≡ false)
  none_turn h e = or_parts _ _ (sym (some_turn h) ∙ e)

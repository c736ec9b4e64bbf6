-- A name table that was laid out is read back as the same names, fits, and passes its check, whatever bytes stand behind: name k lies behind the bytes of those before it.
-- Assumes nothing.
use Prim.Native.Nat.{ℕ, zero, suc, ◌+◌, ◌-◌, ◌*◌, ◌/◌, ◌≤◌, ◌<◌}
use mathlib.Core.Path.{◌≡◌, refl, sym, ap, ap₂, ◌∙◌}
use mathlib.Core.Bool.{false}
use mathlib.Core.List.{List, [], ◌∷◌, ◌++◌, append_assoc, append-nil, map, Memᴰ}
use native.Mathlib.Nat.{zero-add, le_of_suc-le-suc, not-suc-le-zero}
use native.Mathlib.Omega.{arith}
use borrow.Author.Tests.{le-ltb, lt-leb, ne_eqb}
use lib.ListN.{length, get_or, take, drop, length-append}
use lib.Seq.{take-append_seam, drop-append-add, ext_get_or, get_or-take, length-take-le, take-length}
use Rattle.std.proofs.lemmas.List.{get_or-map}
use Rattle.lists.specs.Outcome.{accepted}
use Rattle.lists.specs.Rows.{any_of, any_from}
use Rattle.lists.proofs.Binds.{after_goes}
use Rattle.lists.proofs.Rows.{get_d_tabulate}
use Rattle.fields.specs.Fields.{le16, enc16}
use Rattle.outputs.specs.Outputs.{halves}
use Rattle.names.specs.Names.{name_at, number_of}
use Rattle.names.proofs.Laws.{none_number, other_sym}
use Rattle.tables.specs.Tables.{size_check}
use Rattle.tables.proofs.Loops.{size_good}
use Rattle.tables.proofs.Laws.{records_pass}
use Rattle.name_table.specs.NameTable.{start_of, end_of, name_in, stage_names, name_cut, name_wrong, name_fault, names_check}
use Rattle.name_table.specs.Stored.{name_starts, name_lengths, stage_lengths}
use Rattle.name_table.proofs.Laws.{length-stage_names, stage_name}
use Rattle.stage_names.specs.StageNames.{beyond, fit_check, ends_from, flat, name_ends}
use native.Mathlib.Numerals.{add-one}
use Rattle.stage_names.proofs.Fits.{Fitting, fitting, fits_on, fit_all, length_ends, long_halves}
use Rattle.stage_gaps.proofs.Laws.{flat_bytes}
use Rattle.gap_splits.specs.Entering.{bytes_of}
use Rattle.file_tables.specs.Tables.{Clean}

-- ---- how many

pub name_count : (names : List (List ℕ)) → length (name_ends names) / 2 ≡ length names
name_count names = let e = long_halves 0 names in omega arith

-- ---- where they lie

-- how many bytes the first k names have
abbrev pub bytes_before : (names : List (List ℕ)) → ℕ → ℕ
bytes_before names k = bytes_of (take k names)

pub before_le : (names : List (List ℕ)) (k : ℕ) → bytes_before names k ≤ bytes_of names
unfolding bytes_of
before_le names zero = omega arith
before_le [] (suc k) = omega arith
before_le (x ∷ names) (suc k) = let h = before_le names k in omega arith

pub before_more : (names : List (List ℕ)) (k : ℕ) → k < length names → bytes_before names (suc k) ≡ bytes_before names k + length (get_or names k [])
unfolding bytes_of
before_more [] k h = absurd (not-suc-le-zero h)
before_more (x ∷ names) zero h = omega arith
before_more (x ∷ names) (suc k) h = let e = before_more names k (le_of_suc-le-suc h) in omega arith

end_at : (at : ℕ) (names : List (List ℕ)) (k : ℕ) → k < length names → get_or (ends_from at names) k 0 ≡ at + bytes_before names (suc k)
unfolding ends_from bytes_of
end_at at [] k h = absurd (not-suc-le-zero h)
end_at at (x ∷ names) zero h = omega arith
end_at at (x ∷ names) (suc k) h = let e = end_at (at + length x) names k (le_of_suc-le-suc h) in omega arith

-- a number of two bytes among others
half_at : (l : List ℕ) (i : ℕ) → i < length l → get_or l i 0 < 65536 → le16 (halves l) (2 * i) ≡ get_or l i 0
unfolding halves
half_at [] i h s = absurd (not-suc-le-zero h)
half_at (x ∷ l) zero h s = omega arith
half_at (x ∷ l) (suc i) h s =
    let two : 2 * suc i ≡ suc (suc (2 * i)) = omega arith in
    let three : 2 * suc i + 1 ≡ suc (suc (2 * i + 1)) = omega arith in
    ap₂ (λ (a b : ℕ). get_or (enc16 x ++ halves l) a 0 + 256 * get_or (enc16 x ++ halves l) b 0) two three
    ∙ half_at l i (le_of_suc-le-suc h) s

-- the bytes of name k
part_at : (names : List (List ℕ)) (extra : List ℕ) (k : ℕ) → k < length names → take (length (get_or names k [])) (drop (bytes_before names k) (flat names ++ extra)) ≡ get_or names k []
unfolding flat bytes_of
part_at [] extra k h = absurd (not-suc-le-zero h)
part_at (x ∷ names) extra zero h = ap (take (length x)) (append_assoc x (flat names) extra) ∙ take-append_seam x (flat names ++ extra)
part_at (x ∷ names) extra (suc k) h =
    ap (λ (l : List ℕ). take (length (get_or names k [])) (drop (length x + bytes_before names k) l)) (append_assoc x (flat names) extra)
    ∙ ap (take (length (get_or names k []))) (drop-append-add x (flat names ++ extra) (bytes_before names k))
    ∙ part_at names extra k (le_of_suc-le-suc h)

-- ---- what is read of names that end within 65,535 bytes
module _ (names : List (List ℕ)) (short : bytes_of names ≤ 65535) where
  end_is : (k : ℕ) → k < length names → end_of (name_ends names) k ≡ bytes_before names (suc k)
  end_is k h =
      let e : get_or (ends_from 0 names) k 0 ≡ bytes_before names (suc k) = end_at 0 names k h ∙ zero-add (bytes_before names (suc k)) in
      half_at (ends_from 0 names) k (omega (arith, length_ends 0 names)) (omega (arith, e, before_le names (suc k))) ∙ e

  start_is : (k : ℕ) → k ≤ length names → start_of (name_ends names) k ≡ bytes_before names k
  unfolding start_of bytes_of
  start_is zero h = refl
  start_is (suc k) h = rw (ne_eqb (suc k) 0 (λ e. omega arith)) (ap (λ (m : ℕ). le16 (name_ends names) m) (let e : 2 * suc k - 2 ≡ 2 * k = omega arith in e) ∙ end_is k h)

  -- ---- they fit
  module _ (most most_bytes : ℕ) (few : length names ≤ most) (small : bytes_of names ≤ most_bytes) where
    not_beyond : (k : ℕ) → k < length names → beyond most most_bytes (name_ends names) k ≡ false
    not_beyond k q = rw (lt-leb most k (omega arith), le-ltb most_bytes (end_of (name_ends names) k) (omega (arith, end_is k q, before_le names (suc k))))

    all_fit : (i : ℕ) → i ≤ length (name_ends names) / 2 → Fitting most most_bytes (name_ends names) i
    all_fit zero h = fitting most most_bytes (name_ends names)
    all_fit (suc i) h =
        let q : i < length (name_ends names) / 2 = omega arith in
        rw add-one at (fits_on most most_bytes (name_ends names) (all_fit i (omega arith)) q (not_beyond i (omega (arith, q, name_count names))))

    -- THEOREM: names within the ceilings fit
    pub fits_pass : fit_check most most_bytes (name_ends names) ≡ accepted tt
    fits_pass =
        sym (fit_all most most_bytes (name_ends names) {i = length (name_ends names) / 2} (omega (arith, long_halves 0 names)) (all_fit (length (name_ends names) / 2) (omega arith)) (omega arith))

-- ---- the names, with any bytes behind theirs
module _ (names : List (List ℕ)) (short : bytes_of names ≤ 65535) (extra : List ℕ) where
  -- THEOREM: name k is read back
  pub name_behind : (k : ℕ) → k < length names → name_in (name_ends names) (flat names ++ extra) k ≡ get_or names k []
  unfolding name_in
  name_behind k h =
      let e : end_of (name_ends names) k - start_of (name_ends names) k ≡ length (get_or names k []) =
      omega (arith, end_is names short k h, start_is names short k (omega arith), before_more names k h) in
      ap₂ (λ (n m : ℕ). take n (drop m (flat names ++ extra))) e (start_is names short k (omega arith)) ∙ part_at names extra k h

  -- .. and so are the first n
  pub first_behind : (n : ℕ) → n ≤ length names → stage_names (name_ends names) (flat names ++ extra) n ≡ take n names
  first_behind n h =
      ext_get_or [] (stage_names (name_ends names) (flat names ++ extra) n) (take n names)
      (length-stage_names (name_ends names) (flat names ++ extra) n ∙ sym (length-take-le n names h))
      (λ i q.
      let k : i < n = omega (arith, q, length-stage_names (name_ends names) (flat names ++ extra) n) in
      stage_name (name_ends names) (flat names ++ extra) n i k ∙ name_behind i (omega arith) ∙ sym (get_or-take n names i [] k))

  -- THEOREM: all names are read back, and their lengths
  pub names_behind : stage_names (name_ends names) (flat names ++ extra) (length (name_ends names) / 2) ≡ names
  names_behind = ap (stage_names (name_ends names) (flat names ++ extra)) (name_count names) ∙ first_behind (length names) (omega arith) ∙ take-length names

  pub lengths_behind : stage_lengths (name_ends names) (flat names ++ extra) ≡ map length names
  unfolding name_lengths
  lengths_behind = ap (map length) names_behind

  -- THEOREM: name k is found by its place and length
  pub at_behind : (k : ℕ) → k < length names
      → name_at (flat names ++ extra) (name_starts (name_ends names) (length (name_ends names) / 2)) (stage_lengths (name_ends names) (flat names ++ extra)) k ≡ get_or names k []
  unfolding name_at name_starts
  at_behind k h =
      let starts : get_or (name_starts (name_ends names) (length (name_ends names) / 2)) k 0 ≡ bytes_before names k =
      get_d_tabulate (start_of (name_ends names)) 0 (length (name_ends names) / 2) k 0 (omega (arith, name_count names))
      ∙ ap (start_of (name_ends names)) (zero-add k)
      ∙ start_is names short k (omega arith)
      in
      let size : get_or (stage_lengths (name_ends names) (flat names ++ extra)) k 0 ≡ length (get_or names k []) =
      ap (λ (l : List ℕ). get_or l k 0) lengths_behind ∙ get_or-map length names k [] 0 h in
      ap₂ (λ (n m : ℕ). take n (drop m (flat names ++ extra))) size starts ∙ part_at names extra k h

-- ---- a name of a list stands in it
pub name_stands : (names : List (List ℕ)) (k : ℕ) → k < length names → Memᴰ (get_or names k []) names
name_stands [] k h = absurd (not-suc-le-zero h)
name_stands (x ∷ names) zero h = Memᴰ.head refl
name_stands (x ∷ names) (suc k) h = Memᴰ.tail (name_stands names k (le_of_suc-le-suc h))

-- ---- the check of names that a table may hold
module _ (names : List (List ℕ)) (c : Clean names) (extra : List ℕ) where
  not_cut : (k : ℕ) → k < length names → name_cut (name_ends names) (flat names ++ extra) k ≡ false
  unfolding name_cut any_of any_from
  not_cut k h =
      let e = end_is names c.short k h in
      let s = start_is names c.short k (omega arith) in
      rw (
        le-ltb (end_of (name_ends names) k) (start_of (name_ends names) k) (omega (arith, e, s, before_more names k h)),
        le-ltb (length (flat names ++ extra)) (end_of (name_ends names) k) (omega (arith, e, before_le names (suc k), flat_bytes names, length-append (flat names) extra)),
      )

  -- it is none of those before it
  new : (k : ℕ) → k < length names → k ≤ number_of (take k names) (get_or names k [])
  new k h =
      let long : length (take k names) ≡ k = length-take-le k names (omega arith) in
      omega (
        arith,
        none_number (take k names) (get_or names k [])
            (λ j q. let l : j < k = omega (arith, q, long) in rw (get_or-take k names j [] l) (other_sym (get_or names j []) (get_or names k []) (c.different j k l h))),
        long,
      )

  not_wrong : (k : ℕ) → k < length names → name_wrong (name_ends names) (flat names ++ extra) k ≡ false
  unfolding name_wrong any_of any_from
  not_wrong k h =
      rw (
        name_behind names c.short extra k h,
        first_behind names c.short extra k (omega arith),
        c.good (get_or names k []) (name_stands names k h),
        le-ltb (number_of (take k names) (get_or names k [])) k (new k h),
      )

  no_fault : (k : ℕ) → k < length names → name_fault (name_ends names) (flat names ++ extra) k ≡ 0
  unfolding name_fault
  no_fault k h = rw (not_cut k h, not_wrong k h)

  -- THEOREM: the name table passes, under any ceiling that the names are within
  pub pass_behind : (ceiling : ℕ) → length names ≤ ceiling → names_check ceiling (name_ends names) (flat names ++ extra) ≡ accepted tt
  unfolding names_check
  pass_behind ceiling h =
      after_goes (size_check 2 ceiling (length (name_ends names))) _
      (sym (size_good 2 ceiling (length (name_ends names)) (omega (arith, long_halves 0 names)) (omega (arith, name_count names))))
      ∙ records_pass (name_fault (name_ends names) (flat names ++ extra)) (length (name_ends names) / 2) (λ k q. no_fault k (omega (arith, q, name_count names)))

-- ---- with nothing behind them
module _ (names : List (List ℕ)) where
  alone : {A : Type 0} (f : List ℕ → A) {want : A} → f (flat names ++ []) ≡ want → f (flat names) ≡ want
  alone f e = ap f (sym (append-nil (flat names))) ∙ e

  module _ (short : bytes_of names ≤ 65535) where
    pub name_in_lem : (k : ℕ) → k < length names → name_in (name_ends names) (flat names) k ≡ get_or names k []
    name_in_lem k h = alone (λ b. name_in (name_ends names) b k) (name_behind names short [] k h)

    pub all_back : stage_names (name_ends names) (flat names) (length (name_ends names) / 2) ≡ names
    all_back = alone (λ b. stage_names (name_ends names) b (length (name_ends names) / 2)) (names_behind names short [])

    pub lengths_back : stage_lengths (name_ends names) (flat names) ≡ map length names
    lengths_back = alone (stage_lengths (name_ends names)) (lengths_behind names short [])

    pub name_at_lem : (k : ℕ) → k < length names
        → name_at (flat names) (name_starts (name_ends names) (length (name_ends names) / 2)) (stage_lengths (name_ends names) (flat names)) k ≡ get_or names k []
    name_at_lem k h = alone (λ b. name_at b (name_starts (name_ends names) (length (name_ends names) / 2)) (stage_lengths (name_ends names) b) k) (at_behind names short [] k h)

  -- "4,096 names"
  pub names_pass : Clean names → names_check 4096 (name_ends names) (flat names) ≡ accepted tt
  names_pass c = alone (names_check 4096 (name_ends names)) (pass_behind names c [] 4096 c.few)

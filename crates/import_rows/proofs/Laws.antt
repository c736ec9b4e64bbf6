-- Tables written record by record, tables of records of one width, the sections taken over, and the section that a symbol's link leads to. Assumes nothing.
use mathlib.Core.Path.{◌≡◌, refl, sym, ap, ap₂, ◌∙◌}
use mathlib.Core.List.{List, [], ◌∷◌, ◌++◌, map, append-nil}
use mathlib.Core.Bool.{Bool, true, false, cond}
use Prim.Native.Nat.{ℕ, zero, suc, ◌+◌, ◌*◌, ◌-◌, ◌≤◌, ◌<◌}
use native.Mathlib.Nat.{mul-suc, mul-zero}
use native.Mathlib.Numerals.{add-one}
use native.Mathlib.Omega.{arith}
use borrow.Author.Tests.{lt-ltb, le-ltb}
use lib.Dec.{eqb}
use lib.ListN.{length, get_or, take, drop, set, length-append, drop_of_length-le}
use lib.Seq.{sets, length-sets, drop-cons}
use Rattle.std.specs.List.{filter, range_with_len}
use Rattle.std.proofs.lemmas.List.{map-id}
use Rattle.lists.specs.Rows.{tabulate, keep_if, first_in}
use Rattle.lists.proofs.Rows.{rest-cons, rest-none}
use Rattle.lists.proofs.Stores.{sets-sets}
use Rattle.lists.proofs.Keep.{keep_more}
use Rattle.fields.specs.Fields.{enc32}
use Rattle.obj.specs.Bytes.{section_record, symbol_record}
use Rattle.obj.specs.Laws.{length-section_record, length-symbol_record}
use Rattle.obj.specs.declared.Section.{Section}
use Rattle.obj.specs.declared.Symbol.{Symbol}
use Rattle.stage_names.specs.StageNames.{flat}
use Rattle.elf_file.specs.File.{count, header_of, allocated, taken}
use Rattle.import_rows.specs.Rows.{reserved, home_of, sections_table, places_table, symbols_table}
use Rattle.import_rows.specs.Taken.{Taken}

-- ---- a table written record by record

-- the records that are left are to be written from `at` on; then the table is what was lent, with the goal at the front
pub record Writing (left : List (List ℕ)) (goal out₀ out : List ℕ) (at : ℕ) : Type 0 where
  pub long : length out ≡ length out₀
  pub rest : sets out at (flat left) ≡ sets out₀ 0 goal

pub write_start : (left : List (List ℕ)) (out : List ℕ) {at : ℕ} → at ≡ 0 → Writing left (flat left) out out at
write_start left out e = record { long = refl; rest = ap (λ (k : ℕ). sets out k (flat left)) e }

pub write_turn : {left more : List (List ℕ)} {goal out₀ out out' x : List ℕ} {at next : ℕ} → Writing left goal out₀ out at → left ≡ x ∷ more → out' ≡ sets out at x → next ≡ at + length x
    → Writing more goal out₀ out' next
unfolding flat
write_turn {left} {more} {goal} {out₀} {out} {out'} {x} {at} {next} w e q n = record {
  long = ap length q ∙ length-sets out at x ∙ w.long;
  rest = ap (λ (l : List ℕ). sets l next (flat more)) q ∙ sets-sets out at x next (flat more) n ∙ ap (λ (l : List (List ℕ)). sets out at (flat l)) (sym e) ∙ w.rest;
}

pub write_done : {left : List (List ℕ)} {goal out₀ out : List ℕ} {at : ℕ} → Writing left goal out₀ out at → left ≡ [] → out ≡ sets out₀ 0 goal
unfolding flat
write_done {left} {goal} {out₀} {out} {at} w e = sym (ap (λ (l : List (List ℕ)). sets out at (flat l)) e) ∙ w.rest

-- records of the rows of a list, from row i on
module _ {A : Type 0} (rec : A → List ℕ) (f : ℕ → A) (l : List ℕ) (i : ℕ) where
  pub rows_turn : i < length l → map rec (map f (drop i l)) ≡ rec (f (get_or l i 0)) ∷ map rec (map f (drop (i + 1) l))
  rows_turn h = rw (add-one, drop-cons l i 0 h)

  pub rows_done : length l ≤ i → map rec (map f (drop i l)) ≡ []
  rows_done h = rw (drop_of_length-le l h)

-- .. and of a table, from row i on
module _ {A B : Type 0} (rec : B → List ℕ) (f : A → B) (g : ℕ → A) (n i : ℕ) where
  pub table_turn : i < n → map rec (map f (tabulate g i (n - i))) ≡ rec (f (g i)) ∷ map rec (map f (tabulate g (i + 1) (n - (i + 1))))
  table_turn h = rw (rest-cons g i n h)

  pub table_done : n ≤ i → map rec (map f (tabulate g i (n - i))) ≡ []
  table_done h = rw (rest-none g i n h)

-- ---- tables of records of one width

flat-width : {A : Type 0} (rec : A → List ℕ) (w : ℕ) → ((x : A) → length (rec x) ≡ w) → (l : List A) → length (flat (map rec l)) ≡ w * length l
unfolding flat
flat-width rec w h [] = sym (mul-zero w)
flat-width rec w h (x ∷ l) =
    length-append (rec x) (flat (map rec l)) ∙ ap₂ (λ (a b : ℕ). a + b) (h x) (flat-width rec w h l) ∙ swap w (w * length l) ∙ sym (mul-suc w (length l))
  where
    swap : (a b : ℕ) → a + b ≡ b + a
    swap a b = omega arith

pub long_sections : (l : List Section) → length (sections_table l) ≡ 15 * length l
long_sections l = flat-width section_record 15 length-section_record l

pub long_places : (l : List ℕ) → length (places_table l) ≡ 4 * length l
long_places l = flat-width (λ p. enc32 p) 4 (λ p. refl) l

pub long_symbols : (l : List Symbol) → length (symbols_table l) ≡ 20 * length l
long_symbols l = flat-width symbol_record 20 length-symbol_record l

-- ---- the sections taken over

-- the allocated sections of a range are those of a table's numbers
filter_is : (test : ℕ → Bool) (i n : ℕ) → filter test (range_with_len i n) ≡ keep_if test (tabulate (λ k. k) i n)
unfolding keep_if tabulate
filter_is test i zero = refl
filter_is test i (suc n) = ap (λ (l : List ℕ). cond (test i) (i ∷ l) l) (filter_is test (i + 1) n ∙ ap (λ (m : ℕ). keep_if test (tabulate (λ k. k) m n)) (add-one i))

pub taken_is : (headers : List ℕ) → filter (λ k. allocated (header_of headers k)) (range_with_len 0 (count headers)) ≡ taken headers
unfolding taken
taken_is headers = filter_is (λ k. allocated (header_of headers k)) 0 (count headers)

pub few_taken : (headers : List ℕ) → length (filter (λ k. allocated (header_of headers k)) (range_with_len 0 (count headers))) ≤ count headers
few_taken headers = few 0 (count headers)
  where
    few : (i n : ℕ) → length (filter (λ k. allocated (header_of headers k)) (range_with_len i n)) ≤ n
    few i zero = omega arith
    few i (suc n) = by_test (allocated (header_of headers i)) _ (few (i + 1) n)
      where
        by_test : (t : Bool) (l : List ℕ) → length l ≤ n → length (cond t (i ∷ l) l) ≤ suc n
        by_test true l h = omega arith
        by_test false l h = omega arith

-- so many numbers were stored, as many as the column has places for
pub record Stored (column numbers : List ℕ) (j : ℕ) : Type 0 where
  pub sum : j ≡ length numbers
  pub front : j ≤ length column → take j column ≡ numbers

pub stored_more : {column column' numbers : List ℕ} {j : ℕ} (k : ℕ) → Stored column numbers j → j < length column → column' ≡ set column j k → Stored column' (numbers ++ (k ∷ [])) (j + 1)
stored_more {column} {column'} {numbers} {j} k s h e = record {
  sum = omega (arith, s.sum, length-append numbers (k ∷ []));
  front = λ q.
      ap (take (j + 1)) e
      ∙ sym (append-nil (take (j + 1) (set column j k)))
      ∙ keep_more j column k [] h
      ∙ ap (λ (l : List ℕ). l ++ (k ∷ [])) (s.front (omega arith));
}

pub stored_full : {column column' numbers : List ℕ} {j : ℕ} (k : ℕ) → Stored column numbers j → length column ≤ j → column' ≡ column → Stored column' (numbers ++ (k ∷ [])) (j + 1)
stored_full {column} {column'} {numbers} {j} k s h e = record {
  sum = omega (arith, s.sum, length-append numbers (k ∷ []));
  front = λ q. absurd (omega (arith, ap length e));
}

pub taken_stored : {headers column numbers : List ℕ} {j : ℕ} → Stored column numbers j → map (λ k. k) numbers ≡ taken headers → Taken headers column j
taken_stored {headers} {column} {numbers} {j} s e =
    let same : numbers ≡ taken headers = sym (map-id numbers) ∙ e in
    record { is = s.sum ∙ ap length same; front = λ h. s.front h ∙ same }

-- ---- the section that a link leads to

module _ (numbers : List ℕ) (shndx : ℕ) where
  pub home_reserved : reserved shndx ≡ true → 65535 ≡ home_of numbers shndx
  unfolding home_of
  home_reserved e = rw e

  pub home_there : {i : ℕ} → reserved shndx ≡ false → first_in (λ k. eqb k shndx) numbers ≡ i → i < length numbers → i ≡ home_of numbers shndx
  unfolding home_of
  home_there {i} e q h = rw (e, q, lt-ltb i (length numbers) h)

  pub home_none : reserved shndx ≡ false → length numbers ≤ first_in (λ k. eqb k shndx) numbers → 65535 ≡ home_of numbers shndx
  unfolding home_of
  home_none e h = rw (e, le-ltb (first_in (λ k. eqb k shndx) numbers) (length numbers) h)

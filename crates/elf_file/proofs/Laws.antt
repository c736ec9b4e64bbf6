-- Parts of the file, whether a name is ended by the last NUL of its table, the checks in their order, and what a file that passed is.
-- Assumes nothing.
use mathlib.Core.Path.{◌≡◌, refl, sym, ap, ap₂, subst, ◌∙◌}
use mathlib.Core.List.{List, []}
use mathlib.Core.Bool.{Bool, true, false, not, ◌||◌}
use Prim.Native.Nat.{ℕ, zero, suc, ◌+◌, ◌-◌, ◌≤◌, ◌<◌, zero-le}
use native.Mathlib.Numerals.{add-one}
use native.Mathlib.Omega.{arith}
use borrow.Author.Tests.{eq-eqb, ne_eqb, ltb-true, ltb-false, le-leb, lt-leb, le-ltb, lt-ltb}
use lib.Dec.{eqb, ltb, leb}
use lib.ListN.{length, take, drop}
use Rattle.std.specs.Prelude.{Option, None, Some, MatchOption, ◌≢◌}
use Rattle.std.specs.Option.{IsSomeAnd}
use Rattle.std.specs.List.{list_any, range_with_len}
use Rattle.lists.specs.Outcome.{accepted, refused, refuse}
use Rattle.lists.proofs.Outcomes.{fails, passes, refuses, allows, then_inv, refuse_inv}
use Rattle.elf.specs.Strings.{ended_at, EndedBelow}
use Rattle.lists.specs.Rows.{some, tabulate, first_from}
use Rattle.lists.proofs.First.{first_here, first_on, first_end}
use Rattle.elf.specs.Elf.{header_at, no_section_header}
use Rattle.elf.specs.declared.SectionHeader.{SectionHeader}
use Rattle.elf_file.specs.File.{outside, bytes_in, section_bytes, count, header_of, or_none, section_of, header_table, section_strings, symbol_table, symbol_strings, header_wrong, headers_cut, sections_cut, names_cut, symbol_table_cut, file_check}

-- ---- what a test answered, said of what its argument is

pub asked : {A : Type 0} (f : A → Bool) {x y : A} {r t : Bool} → r ≡ f x → x ≡ y → r ≡ t → f y ≡ t
asked f e p q = sym (ap f p) ∙ sym e ∙ q

pub asked_both : {A B : Type 0} (f : A → B → Bool) {x y : A} {u v : B} {r t : Bool} → r ≡ f x u → x ≡ y → u ≡ v → r ≡ t → f y v ≡ t
asked_both f e p q t = sym (ap₂ f p q) ∙ sym e ∙ t

-- asking the places of a table's rows is asking its rows
pub some_asked : {A : Type 0} (p : A → Bool) (f : ℕ → A) (i n : ℕ) → list_any (λ k. p (f k)) (range_with_len i n) ≡ some p (tabulate f i n)
unfolding some tabulate
some_asked p f i zero = refl
some_asked p f i (suc n) = ap (λ (t : Bool). p (f i) || t) (some_asked p f (i + 1) n ∙ ap (λ (k : ℕ). some p (tabulate f k n)) (add-one i))

-- ---- parts of the file

module _ (file : List ℕ) (offset size : ℕ) where
  pub bytes_none : {r : Bool} → r ≡ outside (length file) offset size → r ≡ true → [] ≡ bytes_in file offset size
  unfolding bytes_in
  bytes_none e q = let t : outside (length file) offset size ≡ true = sym e ∙ q in rw t

  pub bytes_there : {r : Bool} → r ≡ outside (length file) offset size → r ≡ false → take (offset + size - offset) (drop offset file) ≡ bytes_in file offset size
  unfolding bytes_in
  bytes_there e q =
      let t : outside (length file) offset size ≡ false = sym e ∙ q in
      rw t (ap (λ (k : ℕ). take k (drop offset file)) (let z : offset + size - offset ≡ size = omega arith in z))

  pub inside : {r : Bool} → r ≡ outside (length file) offset size → r ≡ false → offset + size ≤ length file
  inside e q = ltb-false (length file) (offset + size) (sym e ∙ q)

-- no bytes reach outside no file
pub none_outside : (size : ℕ) → outside size 0 0 ≡ false
none_outside size = le-ltb size (0 + 0) (omega arith)

-- a section that is missing has none
pub no_bytes : (file : List ℕ) → [] ≡ section_bytes file no_section_header
unfolding bytes_in
no_bytes file = rw (none_outside (length file)) refl

-- ---- names

-- a string is not ended exactly if it starts at or past the limit
pub not_ended : (strings : List ℕ) (limit at : ℕ) → EndedBelow strings limit → leb limit at ≡ not (ended_at strings at)
not_ended strings limit at h = go (ltb at limit) refl ∙ ap not (sym (h.ended at))
  where
    go : (t : Bool) → ltb at limit ≡ t → leb limit at ≡ not (ltb at limit)
    go true e = let q = ltb-true at limit e in rw e (lt-leb limit at q)
    go false e = let q = ltb-false at limit e in rw e (le-leb limit at q)

-- ---- the first SHT_SYMTAB section

abbrev is_symbols : (headers : List ℕ) → ℕ → Bool
is_symbols headers k = eqb (header_of headers k).kind 2

-- the first from k on is the first of all
abbrev FirstFrom : (headers : List ℕ) → ℕ → Type 0
FirstFrom headers k = first_from (is_symbols headers) k (count headers - k) ≡ first_from (is_symbols headers) 0 (count headers)

module _ (headers : List ℕ) (k : ℕ) where
  symbols_here : {h : SectionHeader} → FirstFrom headers k → k < count headers → h ≡ header_of headers k → h.kind ≡ 2 → h ≡ symbol_table headers
  unfolding symbol_table section_of
  symbols_here {h} f l e q =
      let here : is_symbols headers k ≡ true = eq-eqb (header_of headers k).kind 2 (ap (λ (x : SectionHeader). x.kind) (sym e) ∙ q) in
      let at : first_from (is_symbols headers) 0 (count headers) ≡ k = sym f ∙ first_here (is_symbols headers) k (count headers) l here in
      rw (at, lt-ltb k (count headers) l) e

  symbols_on : {h : SectionHeader} → FirstFrom headers k → k < count headers → h ≡ header_of headers k → (h.kind ≡ 2 → ⊥) → FirstFrom headers (k + 1)
  symbols_on {h} f l e q =
      let here : is_symbols headers k ≡ false = ne_eqb (header_of headers k).kind 2 (λ z. q (ap (λ (x : SectionHeader). x.kind) e ∙ z)) in
      sym (first_on (is_symbols headers) k (count headers) l here) ∙ f

  symbols_none : FirstFrom headers k → count headers ≤ k → no_section_header ≡ symbol_table headers
  unfolding symbol_table section_of
  symbols_none f l =
      let at : first_from (is_symbols headers) 0 (count headers) ≡ k = sym f ∙ first_end (is_symbols headers) k (count headers) l in
      rw (at, le-ltb k (count headers) l)

-- none before place k is one
symbols_past : (headers : List ℕ) (k : ℕ) → k ≤ count headers → ((j : ℕ) → j < k → (header_of headers j).kind ≢ 2) → FirstFrom headers k
symbols_past headers zero h miss = ap (first_from (is_symbols headers) 0) (let e : count headers - 0 ≡ count headers = omega arith in e)
symbols_past headers (suc k) h miss =
    subst (FirstFrom headers) (add-one k) (symbols_on headers k (symbols_past headers k (omega arith) (λ j q. miss j (omega arith))) (omega arith) refl (miss k (omega arith)))

-- where a search ended, and the header there
pub symbols_found : {P : ℕ → SectionHeader → Type 0} (headers : List ℕ) (found : Option ℕ) (r : Option SectionHeader)
    → MatchOption found ((k : ℕ) → 0 ≤ k → k < count headers → (header_of headers k).kind ≢ 2) (λ k. (0 ≤ k) × (k < count headers) × ((header_of headers k).kind ≡ 2) × ((j : ℕ) → 0 ≤ j → j < k → (header_of headers j).kind ≢ 2))
    → MatchOption found (r ≡ None) (λ k. IsSomeAnd r (P k))
    → ((k : ℕ) (h : SectionHeader) → P k h → h ≡ header_of headers k)
    → (or_none r ≡ symbol_table headers) × MatchOption r ((k : ℕ) → k < count headers → (header_of headers k).kind ≢ 2) (λ h. h.kind ≡ 2)
symbols_found headers None r m e is = rw e (symbols_none headers (count headers) (symbols_past headers (count headers) (omega arith) (λ j q. m j zero-le q)) (omega arith), λ k q. m k zero-le q)
symbols_found headers (Some k) (Some g) m e is =
    let h = is k g e in
    (symbols_here headers k (symbols_past headers k (omega (arith, m.1)) (λ j q. m.3 j zero-le q)) m.1 h (ap (λ (x : SectionHeader). x.kind) h ∙ m.2), ap (λ (x : SectionHeader). x.kind) h ∙ m.2)
symbols_found headers (Some k) None m e is = absurd e

-- ---- the checks of a file, in their order

module _ (file : List ℕ) where
  -- each refusal is the answer where the tests before it do not hold
  pub file_short : length file < 52 → refused 88 0 0 ≡ file_check file
  unfolding file_check
  file_short h = sym (fails 88 0 0 _ _ (lt-ltb (length file) 52 h))

  module _ (long : 52 ≤ length file) where
    pub file_wrong : header_wrong (header_at file) ≡ true → refused 88 0 0 ≡ file_check file
    unfolding file_check
    file_wrong e = sym (passes 88 0 0 _ _ (le-ltb (length file) 52 long) ∙ fails 88 0 0 _ _ e)

    module _ (right : header_wrong (header_at file) ≡ false) where
      pub file_headers : headers_cut (length file) (header_at file) ≡ true → refused 89 0 0 ≡ file_check file
      unfolding file_check
      file_headers e = sym (passes 88 0 0 _ _ (le-ltb (length file) 52 long) ∙ passes 88 0 0 _ _ right ∙ fails 89 0 0 _ _ e)

      module _ (table : headers_cut (length file) (header_at file) ≡ false) where
        pub file_sections : sections_cut (length file) (header_table file) (section_strings file) ≡ true → refused 89 0 0 ≡ file_check file
        unfolding file_check
        file_sections e = sym (passes 88 0 0 _ _ (le-ltb (length file) 52 long) ∙ passes 88 0 0 _ _ right ∙ passes 89 0 0 _ _ table ∙ fails 89 0 0 _ _ e)

        module _ (sections : sections_cut (length file) (header_table file) (section_strings file) ≡ false) where
          pub file_symbols : symbol_table_cut (length file) (symbol_table (header_table file)) ≡ true → refused 89 0 0 ≡ file_check file
          unfolding file_check
          file_symbols e =
              sym (passes 88 0 0 _ _ (le-ltb (length file) 52 long) ∙ passes 88 0 0 _ _ right ∙ passes 89 0 0 _ _ table ∙ passes 89 0 0 _ _ sections ∙ fails 89 0 0 _ _ e)

          module _ (symbols : symbol_table_cut (length file) (symbol_table (header_table file)) ≡ false) where
            rest : file_check file ≡ refuse 89 0 0 (names_cut (section_bytes file (symbol_table (header_table file))) (symbol_strings file))
            unfolding file_check
            rest =
                passes 88 0 0 _ _ (le-ltb (length file) 52 long) ∙ passes 88 0 0 _ _ right ∙ passes 89 0 0 _ _ table ∙ passes 89 0 0 _ _ sections ∙ passes 89 0 0 _ _ symbols

            pub file_names : names_cut (section_bytes file (symbol_table (header_table file))) (symbol_strings file) ≡ true → refused 89 0 0 ≡ file_check file
            file_names e = sym (rest ∙ refuses 89 0 0 _ e)

            pub file_good : names_cut (section_bytes file (symbol_table (header_table file))) (symbol_strings file) ≡ false → accepted tt ≡ file_check file
            file_good e = sym (rest ∙ allows 89 0 0 _ e)

-- ---- a file that passed

pub record Passed (file : List ℕ) : Type 0 where
  pub long : 52 ≤ length file
  pub right : header_wrong (header_at file) ≡ false
  pub table : headers_cut (length file) (header_at file) ≡ false
  pub sections : sections_cut (length file) (header_table file) (section_strings file) ≡ false
  pub symbols : symbol_table_cut (length file) (symbol_table (header_table file)) ≡ false
  pub names : names_cut (section_bytes file (symbol_table (header_table file))) (symbol_strings file) ≡ false

pub file_passed : (file : List ℕ) → file_check file ≡ accepted tt → Passed file
unfolding file_check
file_passed file e =
    let a = then_inv 88 0 0 _ _ _ e in
    let b = then_inv 88 0 0 _ _ _ a.1 in
    let d = then_inv 89 0 0 _ _ _ b.1 in
    let f = then_inv 89 0 0 _ _ _ d.1 in
    let g = then_inv 89 0 0 _ _ _ f.1 in
    record { long = ltb-false (length file) 52 a.0; right = b.0; table = d.0; sections = f.0; symbols = g.0; names = refuse_inv 89 0 0 _ g.1 }

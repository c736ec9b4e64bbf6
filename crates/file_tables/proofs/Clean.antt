-- The names of a loaded file are names that a table may hold: each new name takes the six bytes of its record's head and its own of the file, so all of them together are
-- below the file's 65,536. Assumes nothing.
use Prim.Native.Nat.{ℕ, zero, suc, ◌+◌, ◌*◌, ◌≤◌, ◌<◌}
use mathlib.Core.Path.{◌≡◌, refl, sym, ap, subst}
use mathlib.Core.Bool.{Bool, true, false, cond}
use mathlib.Core.List.Memᴰ
use mathlib.Core.List.{List, [], ◌∷◌, Memᴰ}
use mathlib.Core.Logic.{◌⊎◌, inl, inr}
use native.Mathlib.Omega.{arith}
use borrow.Author.Tests.{ltb-false}
use lib.Dec.{ltb, leb}
use lib.ListN.{length, get_or, take, drop, length-append, length-drop}
use lib.Seq.{length-take-le}
use Rattle.std.proofs.lemmas.Bool.{cases_lt}
use Rattle.lists.specs.Outcome.{accepted, refused}
use Rattle.lists.proofs.Outcomes.{not_both, same_accepted, then_inv}
use Rattle.fields.specs.Fields.{le16, le32}
use Rattle.names.specs.Names.{name_bad}
use Rattle.names.proofs.Laws.{length-names, name_there}
use Rattle.tables.specs.declared.Counts as tables
use Rattle.tables.specs.Tables.{main_ceilings}
use Rattle.load.specs.Load.{Loaded, nothing, names_in, with_record, record_number, load_from, load_of}
use Rattle.load.specs.Good.{Good}
use Rattle.load.proofs.Numbers.{Passed, again, name, section, symbol, reloc, split, unit, record_passed}
use Rattle.load.proofs.Growth.{names_more}
use Rattle.load.proofs.Laws.{next_loaded, good_nothing, good_more, loaded_small, names_different}
use Rattle.gap_splits.specs.Entering.{bytes_of}
use Rattle.gap_splits.proofs.Naming.{bytes_one}
use Rattle.file_tables.specs.Tables.{Clean}

-- ---- what all records keep

-- what one record without a fault keeps, at the place behind it, an accepted file has kept
kept_from : (c : tables.Counts) (file : List ℕ) (P : ℕ → Loaded → Type 0)
    → ((at : ℕ) (t : Loaded) → P at t → record_number c file at t ≡ 0 → P (at + 6 + le32 file at) (next_loaded c file at t))
    → (fuel at r : ℕ) (t u : Loaded) → P at t → load_from fuel c file at r t ≡ accepted u → (end : ℕ) × P end u
unfolding load_from
kept_from c file P step zero at r t u p e = (at, subst (P at) (same_accepted e) p)
kept_from c file P step (suc fuel) at r t u p e =
    ended (leb (length file) at) e (λ h q. kept_from c file P step fuel (at + 6 + le32 file at) (suc r) (next_loaded c file at t) u h q)
  where
    faulty : (b : Bool) → ltb 0 (record_number c file at t) ≡ b
        → cond b (refused (record_number c file at t) 0 r) (load_from fuel c file (at + 6 + le32 file at) (suc r) (next_loaded c file at t)) ≡ accepted u
        → (P (at + 6 + le32 file at) (next_loaded c file at t) → load_from fuel c file (at + 6 + le32 file at) (suc r) (next_loaded c file at t) ≡ accepted u → (end : ℕ) × P end u)
        → (end : ℕ) × P end u
    faulty true q e rest = absurd (not_both e)
    faulty false q e rest = rest (step at t p (omega (arith, ltb-false 0 (record_number c file at t) q))) e

    ended : (b : Bool)
        → cond b (accepted t)
        (cond (ltb 0 (record_number c file at t)) (refused (record_number c file at t) 0 r)
        (load_from fuel c file (at + 6 + le32 file at) (suc r) (next_loaded c file at t))) ≡ accepted u
        → (P (at + 6 + le32 file at) (next_loaded c file at t) → load_from fuel c file (at + 6 + le32 file at) (suc r) (next_loaded c file at t) ≡ accepted u → (end : ℕ) × P end u)
        → (end : ℕ) × P end u
    ended true e rest = (at, subst (P at) (same_accepted e) p)
    ended false e rest = faulty (ltb 0 (record_number c file at t)) refl e rest

-- ---- the bytes that the names take of the file

-- with their records' heads
abbrev taken : (file : List ℕ) → Loaded → ℕ
taken file t = bytes_of (names_in file t) + 6 * length t.names

module _ (c : tables.Counts) (file : List ℕ) (at len : ℕ) (t : Loaded) (measured : length t.lengths ≡ length t.names) (whole : at + len ≤ length file) where
  -- a name more takes its bytes and a head, any other record nothing
  taken_kind : (kind : ℕ) → Passed c file at len t kind → taken file (with_record c file at len t kind) ≤ taken file t + 6 + len
  unfolding with_record names_in
  taken_kind _ (again e) = rw e (omega arith)
  taken_kind _ (name p) =
      let names = ap bytes_of (names_more file t.names t.lengths at len measured) in
      rw p.new (omega (arith, names, bytes_one (names_in file t) (take len (drop at file)), long, length-append t.names (at ∷ [])))
    where
      long : length (take len (drop at file)) ≡ len
      long = length-take-le len (drop at file) (simp length-drop (omega arith))
  taken_kind _ (section p) = omega arith
  taken_kind _ (symbol p) = omega arith
  taken_kind _ (reloc p) = omega arith
  taken_kind _ (split p) = omega arith
  taken_kind _ (unit p) = omega arith

-- so far they take no more than lies before `at`, and than the file has
record Taken (c : tables.Counts) (file : List ℕ) (at : ℕ) (t : Loaded) : Type 0 where
  pub good : Good c file t
  pub before : taken file t ≤ at
  pub within : taken file t ≤ length file

taken_more : (c : tables.Counts) (file : List ℕ) (at : ℕ) (t : Loaded) → Taken c file at t → record_number c file at t ≡ 0
    → Taken c file (at + 6 + le32 file at) (next_loaded c file at t)
taken_more c file at t h e =
    let p = record_passed c file at t e in
    let more = taken_kind c file (at + 6) (le32 file at) t h.good.names.measured p.whole (le16 file (at + 4)) p.passed in
    record { good = good_more c file at t h.good e; before = omega (arith, more, h.before); within = omega (arith, more, h.before, p.whole) }

no_bytes : (names : List (List ℕ)) → length names ≡ 0 → bytes_of names ≡ 0
unfolding bytes_of
no_bytes [] e = refl
no_bytes (x ∷ names) e = absurd (omega arith)

none_yet : (file : List ℕ) → bytes_of (names_in file nothing) ≡ 0
unfolding names_in
none_yet file = no_bytes (names_in file nothing) (length-names file [] [] 0)

taken-nothing : (c : tables.Counts) (file : List ℕ) → Taken c file 0 nothing
taken-nothing c file = record { good = good_nothing c file; before = omega (arith, none_yet file); within = omega (arith, none_yet file) }

-- what holds at each place holds of each element
pub each_member : {A : Type 0} (P : A → Type 0) (l : List A) (d : A) → ((k : ℕ) → k < length l → P (get_or l k d)) → (x : A) → Memᴰ x l → P x
each_member P [] d all x m = absurd (Memᴰ.not-nil m)
each_member P (y ∷ l) d all x m = go (Memᴰ.cases_cons m) (λ k. each_member P l d (λ i h. all (suc i) (omega arith)) x k)
  where
    go : (x ≡ y) ⊎ Memᴰ x l → (Memᴰ x l → P x) → P x
    go (inl e) rest = subst P (sym e) (all 0 (omega arith))
    go (inr k) rest = rest k

module _ (file : List ℕ) (t : Loaded) (accepts : load_of main_ceilings file ≡ accepted t) where
  names-taken : (end : ℕ) × Taken main_ceilings file end t
  unfolding load_of
  names-taken =
      kept_from main_ceilings file (Taken main_ceilings file) (taken_more main_ceilings file) (length file) 0 0 nothing t (taken-nothing main_ceilings file)
      (then_inv _ _ _ _ _ _ accepts).1

  many : length (names_in file t) ≡ length t.names
  unfolding names_in
  many = length-names file t.names t.lengths (length t.names)

  -- THEOREM: an accepted file has names of at most 65,535 bytes in all, as a name table may
  pub loaded_short : bytes_of (names_in file t) ≤ 65535
  loaded_short = go (cases_lt (length t.names) 1)
    where
      go : (length t.names < 1) ⊎ (1 ≤ length t.names) → bytes_of (names_in file t) ≤ 65535
      go (inl h) = omega (arith, no_bytes (names_in file t) (let e : length (names_in file t) ≡ 0 = omega (arith, h, many) in e))
      go (inr h) = omega (arith, h, names-taken.1.within, loaded_small main_ceilings file t accepts)

  each_good : (k : ℕ) → k < length (names_in file t) → name_bad (get_or (names_in file t) k []) ≡ false
  unfolding names_in
  each_good k h =
      let q : k < length t.names = omega (arith, h, many) in
      rw (name_there file t.names t.lengths (length t.names) k q) (names-taken.1.good.names.each k q)

  -- THEOREM: its names are such as a name table may hold
  pub clean_loaded : Clean (names_in file t)
  clean_loaded =
      let good = names-taken.1.good in record {
        few = omega (arith, many, good.within.names);
        short = loaded_short;
        good = each_member (λ x. name_bad x ≡ false) (names_in file t) [] each_good;
        different = names_different good;
      }

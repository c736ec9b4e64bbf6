-- An accepted file is usable: beside the loader's own laws, each section has its bytes. A section's record has the length that its head asks, and lies in the
-- file as a whole. Assumes nothing.
use Prim.Native.Nat.{ℕ, zero, suc, ◌+◌, ◌≤◌}
use mathlib.Core.Path.{◌≡◌, refl, subst}
use mathlib.Core.Bool.{Bool, true, false, cond, not}
use mathlib.Core.List.{List}
use native.Mathlib.Omega.{arith}
use borrow.Author.Tests.{ltb-false, eqb-true, not-false}
use lib.Dec.{eqb, ltb, leb}
use lib.ListN.{length, get_or}
use Rattle.lists.specs.Outcome.{accepted, refused}
use Rattle.lists.proofs.Outcomes.{not_both, same_accepted, then_inv}
use Rattle.fields.specs.Fields.{le16, le32}
use Rattle.obj.specs.Records.{section_at}
use Rattle.faults.specs.Faults.{section_bad}
use Rattle.tables.specs.declared.Counts.{Counts as Ceilings}
use Rattle.tables.specs.Tables.{main_ceilings}
use Rattle.load.specs.Load.{Loaded, nothing, section_length, section_number, kind_number, with_record, record_number, load_from, load_of}
use Rattle.load.specs.Good.{AllGood}
use Rattle.load.proofs.Numbers.{Passed, again, name, section, symbol, reloc, split, unit, record_passed, section_long}
use Rattle.load.proofs.Growth.{all_more, all_none}
use Rattle.load.proofs.Laws.{next_loaded, loaded_good, loaded_small}
use Rattle.loaded.specs.Tables.{Bytes, Usable}

-- ---- one section

-- a payload of the right length holds the bytes behind the head
sized : (file : List ℕ) (at len : ℕ) → section_length file at len ≡ false → ((section_at file at).kind ≡ 3 → ⊥) → len ≡ 15 + (section_at file at).size
unfolding section_length
sized file at len e some = short (ltb len 15) e
  where
    by_kind : (b : Bool) → eqb (section_at file at).kind 3 ≡ b → cond b (not (eqb len 15)) (not (eqb len (15 + (section_at file at).size))) ≡ false
        → len ≡ 15 + (section_at file at).size
    by_kind true q p = absurd (some (eqb-true (section_at file at).kind 3 q))
    by_kind false q p = eqb-true len (15 + (section_at file at).size) (not-false (eqb len (15 + (section_at file at).size)) p)

    short : (b : Bool) → cond b true (cond (eqb (section_at file at).kind 3) (not (eqb len 15)) (not (eqb len (15 + (section_at file at).size)))) ≡ false
        → len ≡ 15 + (section_at file at).size
    short true p = absurd (let z : ◌≡◌ {A = ℕ} 0 1 = cc in omega arith)
    short false p = by_kind (eqb (section_at file at).kind 3) refl p

module _ (c : Ceilings) (file : List ℕ) (at len : ℕ) (t : Loaded) where
  -- a section's record without a fault
  right_length : section_number c file at len t ≡ 0 → section_length file at len ≡ false
  unfolding section_number
  right_length e = by_test (section_length file at len) e
    where
      by_test : (b : Bool)
          → ◌≡◌ {A = ℕ}
          (cond b 1
          (cond (leb c.sections (length t.sections)) 2
          (cond (section_bad (get_or t.lengths (section_at file at).name 0) (section_at file at)) 4 0))) 0 → b ≡ false
      by_test true p = absurd (omega arith)
      by_test false p = refl

  number_of : kind_number c file at len t 2 ≡ 0 → section_number c file at len t ≡ 0
  unfolding kind_number
  number_of e = e

  -- the sections with one record more, of any kind
  bytes_kind : (kind : ℕ) → Passed c file at len t kind → kind_number c file at len t kind ≡ 0 → at + len ≤ length file
      → AllGood 15 file (λ at. at) (Bytes file) t.sections → AllGood 15 file (λ at. at) (Bytes file) (with_record c file at len t kind).sections
  unfolding with_record
  bytes_kind _ (again e) n h b = rw e b
  bytes_kind _ (name p) n h b = rw p.new b
  bytes_kind _ (section p) n h b =
      let right = right_length (number_of n) in
      all_more b at (omega (arith, h, section_long file at len right)) (record { inside = λ q. omega (arith, h, sized file at len right q) })
  bytes_kind _ (symbol p) n h b = b
  bytes_kind _ (reloc p) n h b = b
  bytes_kind _ (split p) n h b = b
  bytes_kind _ (unit p) n h b = b

bytes_more : (c : Ceilings) (file : List ℕ) (at : ℕ) (t : Loaded) → AllGood 15 file (λ at. at) (Bytes file) t.sections → record_number c file at t ≡ 0
    → AllGood 15 file (λ at. at) (Bytes file) (next_loaded c file at t).sections
bytes_more c file at t b e =
    let p = record_passed c file at t e in
    bytes_kind c file (at + 6) (le32 file at) t (le16 file (at + 4)) p.passed p.none p.whole b

-- ---- all records
bytes_from : (fuel : ℕ) (c : Ceilings) (file : List ℕ) (at r : ℕ) (t u : Loaded) → AllGood 15 file (λ at. at) (Bytes file) t.sections
    → load_from fuel c file at r t ≡ accepted u → AllGood 15 file (λ at. at) (Bytes file) u.sections
unfolding load_from
bytes_from zero c file at r t u b e = subst (λ (x : Loaded). AllGood 15 file (λ at. at) (Bytes file) x.sections) (same_accepted e) b
bytes_from (suc fuel) c file at r t u b e =
    ended (leb (length file) at) e (λ h q. bytes_from fuel c file (at + 6 + le32 file at) (suc r) (next_loaded c file at t) u h q)
  where
    All : Loaded → Type 0
    All x = AllGood 15 file (λ at. at) (Bytes file) x.sections

    faulty : (d : Bool) → ltb 0 (record_number c file at t) ≡ d
        → cond d (refused (record_number c file at t) 0 r) (load_from fuel c file (at + 6 + le32 file at) (suc r) (next_loaded c file at t)) ≡ accepted u
        → (All (next_loaded c file at t) → load_from fuel c file (at + 6 + le32 file at) (suc r) (next_loaded c file at t) ≡ accepted u → All u) → All u
    faulty true p e rest = absurd (not_both e)
    faulty false p e rest = rest (bytes_more c file at t b (omega (arith, ltb-false 0 (record_number c file at t) p))) e

    ended : (d : Bool)
        → cond d (accepted t)
        (cond (ltb 0 (record_number c file at t)) (refused (record_number c file at t) 0 r)
        (load_from fuel c file (at + 6 + le32 file at) (suc r) (next_loaded c file at t))) ≡ accepted u
        → (All (next_loaded c file at t) → load_from fuel c file (at + 6 + le32 file at) (suc r) (next_loaded c file at t) ≡ accepted u → All u) → All u
    ended true e rest = subst All (same_accepted e) b
    ended false e rest = faulty (ltb 0 (record_number c file at t)) refl e rest

loaded_bytes : (c : Ceilings) (file : List ℕ) (t : Loaded) → load_of c file ≡ accepted t → AllGood 15 file (λ at. at) (Bytes file) t.sections
unfolding load_of
loaded_bytes c file t e = bytes_from (length file) c file 0 0 nothing t all_none (then_inv _ _ _ _ _ _ e).1

-- THEOREM: an accepted file is usable
pub loaded_usable : (file : List ℕ) (t : Loaded) → load_of main_ceilings file ≡ accepted t → Usable file t
loaded_usable file t e = record {
  small = loaded_small main_ceilings file t e;
  good = loaded_good main_ceilings file t e;
  bytes = loaded_bytes main_ceilings file t e;
}

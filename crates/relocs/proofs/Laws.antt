-- A section's relocations: they can be read, and stand by address where the table has none that falls; and a section has a relocation exactly if its list
-- has one. Assumes nothing.
use mathlib.Core.Path.{◌≡◌, sym, subst, ◌∙◌}
use mathlib.Core.List.{List, [], ◌∷◌}
use mathlib.Core.Bool.{Bool, not}
use Prim.Native.Nat.{ℕ, ◌<◌}
use lib.Dec.{eqb}
use lib.ListN.{length, get_or}
use borrow.Author.Tests.{eqb-true}
use Rattle.lists.specs.Rows.{keep_if}
use Rattle.lists.specs.Sort.{All, each, Sorted, Rising as RisingBy}
use Rattle.lists.proofs.All.{all_at, all_map, all_keep, all_both}
use Rattle.lists.proofs.Filter.{keep_passes, keep_some}
use Rattle.lists.proofs.Rising.{numbers_rise, numbers-below, rising_keep}
use Rattle.obj.specs.Records.{Held}
use Rattle.obj.specs.declared.Reloc.{Reloc}
use Rattle.symbol_order.specs.Order.{numbers}
use Rattle.relocs.specs.Relocs.{reloc_of, relocs_of, has_relocs, address_of, Whole, Rising, Readable, Ordered}

-- ---- records that can be read
module _ (b places : List ℕ) where
  pub held : Whole b places → (k : ℕ) → k < length places → Held 23 b places k
  held w k h = record { there = h; inside = w.each k h }

  pub held_at : (part : List ℕ) → Readable b places part → (i k : ℕ) → i < length part → k ≡ get_or part i 0 → Held 23 b places k
  held_at part r i k h e = held r.whole k (subst (λ (j : ℕ). j < length places) (sym e) (all_at i 0 r.inside h))

-- ---- a section's relocations
module _ (reloc : ℕ → Reloc) (count n : ℕ) where
  pub relocs_there : All (λ i. i < count) (relocs_of reloc count n)
  unfolding relocs_of
  relocs_there = all_keep (λ i. eqb (reloc i).section n) (numbers-below count)

  sorted_of : Rising reloc count → (s : List ℕ) → RisingBy (λ i. i) s → All (λ i. ((reloc i).section ≡ n) × (i < count)) s → Sorted (λ i. (reloc i).address) s
  unfolding RisingBy Sorted
  sorted_of rising [] r a = tt
  sorted_of rising (x ∷ s) r (each h a) =
      (all_map (λ y q. rising.each x y q.0 q.1.1 (h.0 ∙ sym q.1.0)) (all_both r.0 a), sorted_of rising s r.1 a)

  pub relocs_sorted : Rising reloc count → Sorted (λ i. (reloc i).address) (relocs_of reloc count n)
  unfolding relocs_of
  relocs_sorted rising =
      sorted_of rising (keep_if (λ i. eqb (reloc i).section n) (numbers count))
      (rising_keep (λ i. i) (λ i. eqb (reloc i).section n) (numbers count) (numbers_rise 0 count))
      (all_both (all_map (λ i q. eqb-true _ _ q) (keep_passes (λ i. eqb (reloc i).section n) (numbers count))) (all_keep (λ i. eqb (reloc i).section n) (numbers-below count)))

  pub relocs_some : not (eqb (length (relocs_of reloc count n)) 0) ≡ has_relocs reloc count n
  unfolding relocs_of has_relocs
  relocs_some = keep_some (λ i. eqb (reloc i).section n) (numbers count)

-- a column that holds a section's relocations
pub section_ordered : (b places part : List ℕ) (n : ℕ) → Whole b places → Rising (reloc_of b places) (length places) → part ≡ relocs_of (reloc_of b places) (length places) n
    → Ordered b places part
section_ordered b places part n w rising e = record {
  readable = record { whole = w; inside = subst (λ (l : List ℕ). All (λ i. i < length places) l) (sym e) (relocs_there (reloc_of b places) (length places) n) };
  sorted = subst (λ (l : List ℕ). Sorted (address_of b places) l) (sym e) (relocs_sorted (reloc_of b places) (length places) n rising);
}

-- a part of it can be read too
pub readable_part : (b places part : List ℕ) (p : ℕ → Bool) {r : List ℕ} → Readable b places part → r ≡ keep_if p part → Readable b places r
readable_part b places part p h e = record { whole = h.whole; inside = subst (λ (l : List ℕ). All (λ i. i < length places) l) (sym e) (all_keep p h.inside) }

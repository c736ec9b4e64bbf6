-- A name more in a name table: its bytes lie behind all others, so the names before it stay. Assumes nothing.
use mathlib.Core.Path.{◌≡◌, refl, sym, ap, ap₂, ◌∙◌}
use mathlib.Core.List.{List, [], ◌∷◌, ◌++◌}
use mathlib.Core.Bool.{Bool, true, false, false≢true}
use Prim.Native.Nat.{ℕ, ◌+◌, ◌≤◌, ◌<◌}
use native.Mathlib.Nat.{zero-add}
use native.Mathlib.Omega.{arith}
use borrow.Author.Tests.{eqb-true, eqb-false, leb-false, ltb-false}
use lib.Dec.{eqb, leb, ltb}
use lib.ListN.{length, get_or, take, drop, set, length-set}
use lib.Seq.{sets, length-sets, get_or-set_same, get_or-set_other}
use Rattle.lists.proofs.Rows.{tabulate_ext, tabulate_more}
use Rattle.lists.proofs.Stores.{part-below-sets, part-sets}
use Rattle.lists.proofs.Tests.{none_of}
use Rattle.names.specs.Names.{name_at, names_of}
use Rattle.names.specs.Append.{Packed, table_full, Columns, Appended}

-- a table that is not full
pub record Room (bytes places lengths : List ℕ) (n end maxNames maxBytes : ℕ) : Type 0 where
  pub few : n < maxNames
  pub place : n < length places
  pub size : n < length lengths
  pub short : end ≤ maxBytes
  pub space : end ≤ length bytes

pub room : (bytes places lengths : List ℕ) (n end maxNames maxBytes : ℕ) → table_full bytes places lengths n end maxNames maxBytes ≡ false
    → Room bytes places lengths n end maxNames maxBytes
unfolding table_full
room bytes places lengths n end maxNames maxBytes e =
    let l : List Bool = leb maxNames n ∷ leb (length places) n ∷ leb (length lengths) n ∷ ltb maxBytes end ∷ ltb (length bytes) end ∷ [] in record {
      few = leb-false maxNames n (none_of l 0 e);
      place = leb-false (length places) n (none_of l 1 e);
      size = leb-false (length lengths) n (none_of l 2 e);
      short = ltb-false maxBytes end (none_of l 3 e);
      space = ltb-false (length bytes) end (none_of l 4 e);
    }

module _ (bytes places lengths : List ℕ) (n used : ℕ) (name : List ℕ) (p : Packed bytes places lengths n used) (np : n < length places) (nl : n < length lengths) (fits : used + length name ≤ length bytes) where
  -- the columns behind the name's entry stay
  old_place : (k : ℕ) → k < n → get_or (set places n used) k 0 ≡ get_or places k 0
  old_place k h = get_or-set_other places n k used 0 (λ e. omega arith)

  old_size : (k : ℕ) → k < n → get_or (set lengths n (length name)) k 0 ≡ get_or lengths k 0
  old_size k h = get_or-set_other lengths n k (length name) 0 (λ e. omega arith)

  new_place : get_or (set places n used) n 0 ≡ used
  new_place = get_or-set_same places n used 0 np

  new_size : get_or (set lengths n (length name)) n 0 ≡ length name
  new_size = get_or-set_same lengths n (length name) 0 nl

  old_name : (k : ℕ) → k < n → name_at (sets bytes used name) (set places n used) (set lengths n (length name)) k ≡ name_at bytes places lengths k
  unfolding name_at
  old_name k h =
      ap₂ (λ (size at : ℕ). take size (drop at (sets bytes used name))) (old_size k h) (old_place k h)
      ∙ part-below-sets bytes used name fits (get_or places k 0) (get_or lengths k 0) (p.below k h)

  new_name : name_at (sets bytes used name) (set places n used) (set lengths n (length name)) n ≡ name
  unfolding name_at
  new_name = ap₂ (λ (size at : ℕ). take size (drop at (sets bytes used name))) new_size new_place ∙ part-sets bytes used name fits

  pub names_more : names_of (sets bytes used name) (set places n used) (set lengths n (length name)) (n + 1) ≡ names_of bytes places lengths n ++ (name ∷ [])
  unfolding names_of
  names_more =
      tabulate_more (name_at (sets bytes used name) (set places n used) (set lengths n (length name))) n
      ∙ ap₂ (λ (l : List (List ℕ)) (x : List ℕ). l ++ (x ∷ []))
      (tabulate_ext (name_at (sets bytes used name) (set places n used) (set lengths n (length name))) (name_at bytes places lengths) 0 0 n (λ k h. rw zero-add (old_name k h)))
      new_name

  -- where each of the names ends
  ends : (k : ℕ) → k < n + 1 → get_or (set places n used) k 0 + get_or (set lengths n (length name)) k 0 ≤ used + length name
  ends k h = step (eqb k n) refl
    where
      step : (t : Bool) → eqb k n ≡ t → get_or (set places n used) k 0 + get_or (set lengths n (length name)) k 0 ≤ used + length name
      step true e = rw (eqb-true k n e, new_place, new_size) (omega arith)
      step false e =
          let q : k < n = omega (arith, eqb-false k n e) in
          rw (old_place k q, old_size k q) (omega (arith, p.below k q))

  pub packed_more : Packed (sets bytes used name) (set places n used) (set lengths n (length name)) (n + 1) (used + length name)
  packed_more = record {
    named = record {
      placed = rw length-set (omega arith);
      measured = rw length-set (omega arith);
      inside = λ k h. rw length-sets (omega (arith, ends k h));
    };
    below = ends;
  }

-- ---- what `append` leaves

not_both : {A : Type 0} → false ≡ true → A
not_both e = absurd (false≢true e)

module _ (before : Columns) (used n : ℕ) (name : List ℕ) (maxNames maxBytes : ℕ) where
  -- a full table stays
  pub appended_none : table_full before.bytes before.places before.lengths n (used + length name) maxNames maxBytes ≡ true
      → Appended before before used n name maxNames maxBytes false
  appended_none e = record {
    is = rw e;
    fits = not_both;
    names = not_both;
    packed = not_both;
    unchanged = λ q. refl;
    long_bytes = refl;
    long_places = refl;
    long_lengths = refl;
  }

  -- into another the name goes
  pub appended_one : {bytes : List ℕ} → table_full before.bytes before.places before.lengths n (used + length name) maxNames maxBytes ≡ false
      → Packed before.bytes before.places before.lengths n used
      → bytes ≡ sets before.bytes used name
      → Appended before (record { bytes = bytes; places = set before.places n used; lengths = set before.lengths n (length name) }) used n name maxNames maxBytes true
  appended_one {bytes} e p q =
      let r = room before.bytes before.places before.lengths n (used + length name) maxNames maxBytes e in record {
        is = rw e;
        fits = λ t. (r.few, r.short);
        names = λ t. rw q (names_more before.bytes before.places before.lengths n used name p r.place r.size r.space);
        packed = λ t. rw q (packed_more before.bytes before.places before.lengths n used name p r.place r.size r.space);
        unchanged = λ t. not_both (sym t);
        long_bytes = ap length q ∙ simp length-sets;
        long_places = simp length-set;
        long_lengths = simp length-set;
      }

-- What a lookup finds: a record at its place in the lent bytes, or, past the table's end, nothing. Assumes nothing.
use Prim.Native.Nat.{ℕ, ◌*◌, ◌+◌, ◌<◌, ◌≤◌}
use mathlib.Core.Path.{◌≡◌, sym, ap, ◌∙◌}
use mathlib.Core.List.{List, [], ◌∷◌, ◌++◌, map}
use native.Mathlib.Omega.{arith}
use native.Mathlib.Nat.{zero-add, mul-le-mul_left, mul-suc}
use native.Mathlib.Numerals.{add-one}
use lib.ListN.{length, get_or, take, drop, set}
use lib.Seq.{take-suc-set, length-take-le, take-append_seam}
use Rattle.std.proofs.lemmas.List.{get_or-map}
use Rattle.lists.specs.Sort.{All, each}
use Rattle.lists.specs.Sort.{none as no_more}
use Rattle.lists.proofs.Rows.{get_d_tabulate, length-tabulate, tabulate_more}
use Rattle.obj.specs.Records.{partial_at, partial_numbered, split_at, Held, stage_places, partial_width}
use Rattle.obj.proofs.Laws.{length-stage_places, stage_place}
use Rattle.obj.specs.Nothing.{no_split}
use Rattle.tables.specs.Tables.{AllHeld}
use Rattle.tables.specs.Records.{partials_in, splits_in}

-- record k of a table whose records are all held
pub held : {width : ℕ} {b places : List ℕ} → AllHeld width b places → (k : ℕ) → k < length places → Held width b places k
held all k h = record { there = h; inside = all.each k h }

-- what was read at a place is the record of the table
pub found : {A : Type 0} {x : A} (f : ℕ → A) (places : List ℕ) (k : ℕ) (none : A) → k < length places → x ≡ f (get_or places k 0) → x ≡ get_or (map f places) k none
found f places k none h e = e ∙ sym (get_or-map f places k 0 none h)

-- as many partial splits as places
pub length-partials_in : (b places : List ℕ) → length (partials_in b places) ≡ length places
length-partials_in b places = length-tabulate (λ i. partial_numbered b i (get_or places i 0)) 0 (length places)

-- partial k of a list
pub partial_is : (b places : List ℕ) (k : ℕ) → k < length places → get_or (partials_in b places) k no_split ≡ partial_numbered b k (get_or places k 0)
partial_is b places k h =
    get_d_tabulate (λ i. partial_numbered b i (get_or places i 0)) 0 (length places) k no_split h
    ∙ ap (λ (i : ℕ). partial_numbered b i (get_or places i 0)) (zero-add k)

-- an origin that was read of bytes has 16 bits
pub split_origins : (b places : List ℕ) → ((i : ℕ) → get_or b i 0 < 256) → All (λ s. s.origin < 65536) (splits_in b places)
unfolding split_at partial_at
split_origins b [] small = no_more
split_origins b (at ∷ places) small =
    each {x = split_at b at} (let x = small (at + partial_width) in let y = small (at + partial_width + 1) in omega arith) (split_origins b places small)

-- a place more, behind the first i
pub place_more : (width i : ℕ) (places : List ℕ) → i < length places → take i places ≡ stage_places width i
    → take (i + 1) (set places i (width * i)) ≡ stage_places width (i + 1)
unfolding stage_places
place_more width i places h e =
    rw add-one (take-suc-set places i (width * i) h)
    ∙ ap (λ (l : List ℕ). l ++ (width * i ∷ [])) e
    ∙ sym (tabulate_more (λ k. width * k) i)

-- the front of a column was filled with places
pub places_front : (width n : ℕ) (column front : List ℕ) → n ≤ length column → front ≡ stage_places width (length (take n column))
    → take n (front ++ drop n column) ≡ stage_places width n
places_front width n column front h e =
    let same : front ≡ stage_places width n = e ∙ ap (stage_places width) (length-take-le n column h) in
    ap (λ (m : ℕ). take m (front ++ drop n column)) (sym (ap length same ∙ length-stage_places width n)) ∙ take-append_seam front (drop n column) ∙ same

-- all places of a stage table lie in it
pub stage_held : (width n : ℕ) (b : List ℕ) → n ≤ 4294967295 → width * n ≤ length b → AllHeld width b (stage_places width n)
stage_held width n b few h =
    record {
      few = rw length-stage_places few;
      each = λ k below. let q : k < n = rw length-stage_places at below in rw (stage_place width n k q) (whole k q);
    }
  where
    whole : (k : ℕ) → k < n → width * k + width ≤ length b
    whole k q = omega (arith, mul-le-mul_left width q, mul-suc width k)

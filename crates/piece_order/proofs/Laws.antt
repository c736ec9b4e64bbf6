-- The starts of the pieces, and their numbers sorted: the pieces of these numbers are the pieces sorted. Assumes nothing.
use Prim.Native.Nat.{ℕ, zero, suc, ◌+◌, ◌-◌, ◌≤◌, ◌<◌}
use mathlib.Core.Path.{◌≡◌, refl, sym, ap, ◌∙◌}
use mathlib.Core.List.{List, [], ◌∷◌, map}
use native.Mathlib.Omega.{arith}
use lib.ListN.{length, get_or}
use Rattle.lists.specs.Sort.{sort_by}
use Rattle.lists.proofs.Parts.{tabulate_list, tabulate-map}
use Rattle.lists.proofs.Sort.{map_sort}
use Rattle.symbol_order.specs.Order.{numbers}
use Rattle.obj.specs.Parts.{Part}
use Rattle.piece_records.specs.Records.{part_at, next_at, parts_at, Lying, Whole}
use Rattle.piece_order.specs.Order.{starts_at, part_in, key_of, order_in, Placed}

-- lent bytes are below 256, so a piece's section has two bytes and its address four
pub part_small : (b : List ℕ) → ((i : ℕ) → get_or b i 0 < 256) → (at : ℕ) → ((part_at b at).section < 65536) × ((part_at b at).address < 4294967296)
unfolding part_at
part_small b f at =
    let p = f (at + 6) in
    let q = f (at + 6 + 1) in
    let r = f (at + 8) in
    let s = f (at + 8 + 1) in
    let t = f (at + 8 + 2) in
    let u = f (at + 8 + 3) in
    (omega arith, omega arith)

-- ---- starts

pub length-starts : (n : ℕ) (b : List ℕ) (at : ℕ) → length (starts_at n b at) ≡ n
unfolding starts_at
length-starts zero b at = refl
length-starts (suc n) b at = ap suc (length-starts n b (next_at b at))

-- the pieces that start there
pub parts_at_lem : (n : ℕ) (b : List ℕ) (at : ℕ) → map (part_at b) (starts_at n b at) ≡ parts_at n b at
unfolding starts_at parts_at
parts_at_lem zero b at = refl
parts_at_lem (suc n) b at = ap (λ (l : List Part). part_at b at ∷ l) (parts_at_lem n b (next_at b at))

placed_from : (n : ℕ) (b : List ℕ) (at : ℕ) → Whole n b at → (i : ℕ) → i < n → Lying b (get_or (starts_at n b at) i 0)
unfolding starts_at Whole
placed_from zero b at w i h = absurd (omega arith)
placed_from (suc n) b at w zero h = w.0
placed_from (suc n) b at w (suc i) h = placed_from n b (next_at b at) w.1 i (omega arith)

pub placed : (n : ℕ) (b : List ℕ) → Whole n b 0 → Placed b (starts_at n b 0)
placed n b w = record { each = λ i h. placed_from n b 0 w i (let l = length-starts n b 0 in omega arith) }

-- a turn of the loop that writes them
pub starts_turn : (n i : ℕ) (b : List ℕ) (at : ℕ) → i < n → starts_at (n - i) b at ≡ at ∷ starts_at (n - (i + 1)) b (next_at b at)
unfolding starts_at
starts_turn n i b at h = ap (λ (k : ℕ). starts_at k b at) (let z : n - i ≡ suc (n - (i + 1)) = omega arith in z)

pub starts_end : (n i : ℕ) (b : List ℕ) (at : ℕ) → n ≤ i → starts_at (n - i) b at ≡ []
unfolding starts_at
starts_end n i b at h = ap (λ (k : ℕ). starts_at k b at) (let z : n - i ≡ 0 = omega arith in z)

-- ---- sorted

-- THEOREM: the pieces of the sorted numbers are the sorted pieces
pub order_parts : (b starts : List ℕ) → map (part_in b starts) (order_in b starts) ≡ sort_by key_of (map (part_at b) starts)
unfolding order_in
order_parts b starts =
    map_sort (part_in b starts) key_of (numbers (length starts))
    ∙ ap (sort_by key_of) (sym (tabulate-map (part_in b starts) (λ i. i) (part_in b starts) 0 (length starts) (λ j m q. refl)) ∙ tabulate_list (part_at b) (part_in b starts) starts 0 (λ k h. refl))

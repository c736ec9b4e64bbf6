-- The stages one after another are the run: the room for names is what the ceilings leave, the tables that a stage does not take do not matter to it, and what is known of
-- an answer is what its stages left. Assumes nothing.
use Prim.Native.Nat.{ℕ, zero, suc, ◌+◌, ◌-◌, ◌≤◌, ◌<◌}
use mathlib.Core.Path.{◌≡◌, refl, sym, ap, subst, ◌∙◌}
use mathlib.Core.List.{List, []}
use native.Mathlib.Omega.{arith}
use lib.ListN.{length, get_or, drop, length-drop}
use lib.Seq.{length-take-le}
use Rattle.lists.specs.Outcome.{Outcome, ◌>>=◌}
use Rattle.lists.specs.Rows.{tabulate}
use Rattle.obj.specs.declared.Split.{Split}
use Rattle.names.specs.Names.{name_at, names_of}
use Rattle.names.specs.Append.{Packed, Columns as Beside}
use Rattle.load.specs.Load.{Loaded, names_in}
use Rattle.load.proofs.Laws.{length-names_in}
use Rattle.loaded.specs.Tables.{tables_with, Usable}
use Rattle.loaded.proofs.Laws.{all_named, measured}
use Rattle.gap_splits.specs.Entering.{Filled, bytes_of}
use Rattle.gap_splits.specs.Added.{added, Room, Stand}
use Rattle.gap_splits.specs.Answers.{ceilings}
use Rattle.toposort.specs.Search.{End, all, cyclic, lost}
use Rattle.pieces.specs.declared.Counts.{Counts}
use Rattle.run_splits.specs.Table.{split_table}
use Rattle.order.specs.LinkOrder.{link_order}
use Rattle.run.specs.Run.{Rooms, Ended, linked, walked, on_order, ordered_and_walked, stages}
use Rattle.run.specs.Answers.{walked_after, Keeps}
use Rattle.run.specs.declared.Ran.{Ran}
use Rattle.std.specs.Prelude.{Result, Ok, Err}
use Rattle.order.specs.declared.Unlinked.{Unlinked}
use Rattle.order.specs.declared.Unlinked.TheVariants.{Refused, Cycle}
use Rattle.run_room.specs.Room.{sum}
use Rattle.run_room.proofs.Sums.{sum_turn, sum-none}
use Rattle.lists.specs.Bounds.{lower}
use Rattle.lists.proofs.Compare.{lower-is}
use Rattle.run_file.specs.RunFile.{rooms_in, Holds}

-- ---- the bytes of the file's names
module _ (file places lengths : List ℕ) (inside : (k : ℕ) → k < length lengths → get_or places k 0 + get_or lengths k 0 ≤ length file) where
  name_long : (k : ℕ) → k < length lengths → length (name_at file places lengths k) ≡ get_or lengths k 0
  unfolding name_at
  name_long k h = length-take-le (get_or lengths k 0) (drop (get_or places k 0) file) (simp length-drop (omega (arith, inside k h)))

  bytes_from : (n i : ℕ) → i + n ≡ length lengths → bytes_of (tabulate (name_at file places lengths) i n) ≡ sum (drop i lengths)
  unfolding tabulate bytes_of
  bytes_from zero i e = sym (sum-none lengths i (omega (arith, e)))
  bytes_from (suc n) i e =
      let rest = bytes_from n (suc i) (omega (arith, e)) in
      let turn = sum_turn lengths i (omega (arith, e)) in
      let long = name_long i (omega (arith, e)) in
      let next : sum (drop (i + 1) lengths) ≡ sum (drop (suc i) lengths) = ap (λ (k : ℕ). sum (drop k lengths)) (let z : i + 1 ≡ suc i = omega arith in z) in
      omega (arith, rest, turn, long, next)

module _ {file : List ℕ} {t : Loaded} (u : Usable file t) where
  pub names_bytes : bytes_of (names_in file t) ≡ sum t.lengths
  unfolding names_in names_of
  names_bytes =
      ap (λ (n : ℕ). bytes_of (tabulate (name_at file t.names t.lengths) 0 n)) (sym (measured u))
      ∙ bytes_from file t.names t.lengths (λ k h. (all_named u).inside k (omega (arith, h, measured u))) (length t.lengths) 0 (omega arith)

  -- the room for names
  pub names_room_lem : (most most_bytes cap units : ℕ) (output : Counts) {a b : ℕ} → a ≡ lower (4096 - length t.names) most → b ≡ lower (65535 - sum t.lengths) most_bytes
      → ceilings (names_in file t) a b ≡ (rooms_in file most most_bytes cap units output t).names
  unfolding rooms_in
  names_room_lem most most_bytes cap units output {a} {b} p q =
      λ d. ceilings (names_in file t) ((p ∙ ap (λ (n : ℕ). lower (4096 - n) most) (sym (length-names_in file t))) d) ((q ∙ ap (λ (n : ℕ). lower (65535 - n) most_bytes) (sym names_bytes)) d)

-- ---- the stages
module _ (file names' lengths sections symbols relocs partials units : List ℕ) where
  abbrev whole : Loaded
  whole = tables_with names' lengths sections symbols relocs partials units

  abbrev rest : Loaded
  rest = tables_with names' lengths sections symbols relocs [] units

  -- partial splits do not matter to the link order and the walk
  order_same : (room : Counts) (more : List (List ℕ)) (rows' : List Split) (e : End) → on_order file rest room more rows' e ≡ on_order file whole room more rows' e
  unfolding on_order walked
  order_same room more rows' (all l) = refl
  order_same room more rows' (cyclic l) = refl
  order_same room more rows' lost = refl

  walked_same : (n : ℕ) (room : Counts) (more : List (List ℕ)) (rows' : List Split) → ordered_and_walked file rest n room more rows' ≡ ordered_and_walked file whole n room more rows'
  unfolding ordered_and_walked
  walked_same n room more rows' = ap (λ (f : End → Outcome Ended). link_order (linked file whole rows') n >>= f) (λ d e. order_same room more rows' e d)

  -- what was ordered and walked after the split table is what the stages give
  pub stages_are : (base : List (List ℕ)) (room : Rooms) {o : Outcome Ended} {m : Outcome Filled} → base ≡ names_in file whole
      → o ≡ walked_after file rest room.units room.output (length base) m → m ≡ split_table file whole room.splits room.names → o ≡ stages file whole room
  unfolding stages
  stages_are base room e a b =
      a ∙ ap (walked_after file rest room.units room.output (length base)) b
      ∙ ap (λ (f : Filled → Outcome Ended). split_table file whole room.splits room.names >>= f)
      (λ d full. (walked_same room.units room.output (drop (length base) full.names) full.rows
      ∙ ap (λ (n : ℕ). ordered_and_walked file whole room.units room.output (drop n full.names) full.rows) (ap length e)) d)

-- ---- what is known of an answer
pub holds : (r : Result Ran Unlinked) (most most_bytes cap : ℕ) (room : Counts) (c : Beside) (units : List ℕ) (names used splits : ℕ) {a b : ℕ} → Keeps names used splits room units r
    → Stand c names used a b → splits ≤ cap → a ≤ most → a ≤ 4096 → b ≤ most_bytes → b ≤ 65535 → Holds most most_bytes cap room c units r
holds (Ok r) most most_bytes cap room c units names used splits keeps stand few p q v w = (
  record {
    packed = subst (λ (x : ℕ). Packed c.bytes c.places c.lengths x r.used) (sym keeps.0) (subst (λ (y : ℕ). Packed c.bytes c.places c.lengths names y) (sym keeps.1) stand.packed);
    sum = keeps.1 ∙ stand.sum ∙ ap (λ (x : ℕ). bytes_of (added c x)) (sym keeps.0);
    few = omega (arith, keeps.0, stand.few, p);
    small = omega (arith, keeps.0, stand.few, q);
    short = omega (arith, keeps.1, stand.short, v);
    low = omega (arith, keeps.1, stand.short, w);
  },
  omega (arith, keeps.2, few),
  keeps.3,
  keeps.4,
)
holds (Err (Cycle count)) most most_bytes cap room c units names used splits keeps stand few p q v w = keeps
holds (Err (Refused r)) most most_bytes cap room c units names used splits keeps stand few p q v w = tt

-- ---- what the ceilings leave
module _ {a : ℕ} (most n ceiling : ℕ) (e : a ≡ lower (ceiling - n) most) where
  pub left_first : a ≤ ceiling
  left_first = omega (arith, e, lower-is (ceiling - n) most)

  pub left_second : a ≤ most
  left_second = omega (arith, e, lower-is (ceiling - n) most)

  pub left_sum : n ≤ ceiling → n + a ≤ ceiling
  left_sum h = omega (arith, e, h, lower-is (ceiling - n) most)

-- less room for names
pub room_less : (c : Beside) {a b m n : ℕ} → Room c m n → a ≤ m → b ≤ n → Room c a b
room_less c r p q = record {
  few = omega (arith, p, r.few);
  short = omega (arith, q, r.short);
  long_places = omega (arith, p, r.long_places);
  long_lengths = omega (arith, p, r.long_lengths);
  long_bytes = omega (arith, q, r.long_bytes);
}

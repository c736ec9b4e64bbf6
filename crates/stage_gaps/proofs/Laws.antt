-- The counts that are stored, from a line of the definition to the next, what the filling left, and the room of the lent columns. Assumes nothing.
use mathlib.Core.Path.{◌≡◌, refl, sym, ap, ◌∙◌}
use mathlib.Core.List.{List, [], ◌∷◌, ◌++◌}
use Prim.Native.Nat.{ℕ, ◌+◌, ◌≤◌, ◌<◌}
use native.Mathlib.Omega.{arith}
use lib.ListN.{length, length-append}
use Rattle.lists.specs.Tables.{laid}
use Rattle.lists.specs.Outcome.{Outcome, accepted, refused, ◌>>◌}
use Rattle.lists.proofs.Outcomes.{not_both, same_accepted}
use Rattle.lists.proofs.Binds.{after_goes, after-stops}
use Rattle.lists.proofs.Rows.{length-tabulate}
use Rattle.obj.specs.Answers.{meaning}
use Rattle.obj.specs.Answers.{Answer}
use Rattle.obj.specs.declared.Section.{Section}
use Rattle.obj.specs.declared.Split.{Split}
use Rattle.names.proofs.Laws.{length-names}
use Rattle.outputs.specs.Outputs.{counts_of}
use Rattle.stage_tables.specs.StageTables.{splits_check}
use Rattle.stage_names.specs.StageNames.{flat, Fits, Given}
use Rattle.sections.specs.Image.{Image}
use Rattle.sections.specs.Sections.{Sections}
use Rattle.splits.specs.Bytes.{table_bytes}
use Rattle.splits.specs.Columns.{row_at}
use Rattle.splits.specs.Table.{columns_of, rows_of}
use Rattle.splits.specs.declared.split_table.SplitColumns.{SplitColumns}
use Rattle.stage_splits.specs.StageSplits.{room_of, said, Taken}
use Rattle.merge.specs.Merge.{given}
use Rattle.gap_splits.specs.Entering.{Filled, Ceilings, bytes_of}
use Rattle.gap_splits.specs.Added.{beside, Room}
use Rattle.gap_splits.specs.Answers.{added_in}
use Rattle.gap_splits.specs.declared.added_names.AddedNames.{AddedNames}
use Rattle.gap_splits.proofs.Naming.{bytes_append}
use Rattle.create_gap_splits.specs.Create.{gaps_filled}
use Rattle.stage_gaps.specs.StageGaps.{Laid, Gives, from_splits, Space}

-- ---- from a line to the next
module _ {a : Answer} {es bs size cs : ℕ} {ends bytes out counts : List ℕ} where
  pub gives_refused : {o : Outcome Filled} {number section address : ℕ} → o ≡ refused number section address → meaning a ≡ refused number section address → Gives o a es bs size cs ends bytes out counts
  gives_refused e f = record { answered = f ∙ sym (ap said e); given_back = λ t g. absurd (not_both (sym e ∙ g)) }

  pub gives_laid : {o : Outcome Filled} {t : Filled} → o ≡ accepted t → meaning a ≡ accepted tt → Laid t es bs size cs ends bytes out counts → Gives o a es bs size cs ends bytes out counts
  gives_laid e f l = record { answered = f ∙ sym (ap said e); given_back = λ u g. laid_as (same_accepted (sym e ∙ g)) l }
    where
      laid_as : {t u : Filled} → t ≡ u → Laid t es bs size cs ends bytes out counts → Laid u es bs size cs ends bytes out counts
      laid_as z l = rw (sym z) l

  pub gives_as : {o p : Outcome Filled} → o ≡ p → Gives o a es bs size cs ends bytes out counts → Gives p a es bs size cs ends bytes out counts
  gives_as e g = rw (sym e) g

  -- a table's refusal is the answer
  pub gives_stops : {m : Outcome (Unit {0})} (n : Outcome Filled) {number section address : ℕ} → meaning a ≡ m → meaning a ≡ refused number section address → Gives (m >> n) a es bs size cs ends bytes out counts
  gives_stops {m} n {number} {section} {address} e f = gives_refused (after-stops m n number section address (sym e ∙ f)) f

  -- it was accepted: the next line decides
  pub gives_goes : {m : Outcome (Unit {0})} {n : Outcome Filled} → m ≡ accepted tt → Gives n a es bs size cs ends bytes out counts → Gives (m >> n) a es bs size cs ends bytes out counts
  gives_goes {m} {n} e g = gives_as (sym (after_goes m n e)) g

  -- the splits were refused
  pub splits_stop : (lengths : List ℕ) (heads : List Section) (g : Image) (sections : Sections) (ceilings : Ceilings) (base : List (List ℕ)) (splits : List ℕ) {room : ℕ} {number section address : ℕ}
      → room ≡ room_of size → meaning a ≡ splits_check room lengths heads splits → meaning a ≡ refused number section address
      → Gives (from_splits lengths heads g sections ceilings base splits size) a es bs size cs ends bytes out counts
  unfolding from_splits
  splits_stop lengths heads g sections ceilings base splits e s f = gives_stops _ (s ∙ ap (λ (k : ℕ). splits_check k lengths heads splits) e) f

  -- they stand in the columns: the filling decides
  pub splits_go : (lengths : List ℕ) (heads : List Section) (g : Image) (sections : Sections) (ceilings : Ceilings) (base : List (List ℕ)) (splits : List ℕ) (rows : List Split) {room : ℕ} {m : Outcome (Unit {0})}
      → room ≡ room_of size → Taken m (splits_check room lengths heads splits) splits rows → m ≡ accepted tt
      → Gives (gaps_filled g sections (given heads room) ceilings (record { names = base; rows = rows })) a es bs size cs ends bytes out counts
      → Gives (from_splits lengths heads g sections ceilings base splits size) a es bs size cs ends bytes out counts
  unfolding from_splits
  splits_go lengths heads g sections ceilings base splits rows e t f w =
      let same = ap (λ (k : ℕ). splits_check k lengths heads splits) e in
      gives_goes (sym (t.said ∙ same) ∙ f) (gives_as (filled_as g sections heads ceilings base e (t.taken (sym t.said ∙ f))) w)
    where
      filled_as : (g : Image) (sections : Sections) (heads : List Section) (ceilings : Ceilings) (base : List (List ℕ)) {k m : ℕ} {l n : List Split} → k ≡ m → l ≡ n
          → gaps_filled g sections (given heads k) ceilings (record { names = base; rows = l }) ≡ gaps_filled g sections (given heads m) ceilings (record { names = base; rows = n })
      filled_as g sections heads ceilings base p q = λ i. gaps_filled g sections (given heads (p i)) ceilings (record { names = base; rows = q i })

-- ---- the bytes of names
pub flat_bytes : (names : List (List ℕ)) → length (flat names) ≡ bytes_of names
unfolding flat bytes_of
flat_bytes [] = refl
flat_bytes (x ∷ names) = length-append x (flat names) ∙ ap (λ (k : ℕ). length x + k) (flat_bytes names)

flat_two : (s t : List (List ℕ)) → length (flat (s ++ t)) ≡ length (flat s) + length (flat t)
flat_two s t = let a = flat_bytes (s ++ t) in let b = flat_bytes s in let c = flat_bytes t in let d = bytes_append s t in omega (arith, a, b, c, d)

-- ---- what the filling left
module _ (base : List (List ℕ)) (a : AddedNames) where
  -- the names fit into the outputs
  pub names_fit : {es bs : ℕ} → Space base a.most.names a.most.bytes es bs → Fits base (added_in a) es bs
  names_fit p =
      let t = a.stand in
      let l = length-names a.bytes.now a.places.now a.lengths.now a.count in
      let b = flat_bytes (added_in a) in
      record {
        long_ends = omega (arith, l, t.few, p.long_ends);
        long_bytes = omega (arith, b, t.sum, t.short, p.long_bytes);
        short = omega (arith, b, t.sum, t.short, p.short);
      }

  -- .. and their number into a count
  pub names_few : {es bs count : ℕ} → Space base a.most.names a.most.bytes es bs → length base ≡ count → count + a.count ≤ 4096
  names_few p z = let s = a.stand in omega (arith, s.few, p.few, z)

  -- .. and that of their bytes
  pub bytes_few : {es bs bytes : ℕ} {out_ends out_bytes : List ℕ} → Space base a.most.names a.most.bytes es bs → Given (base ++ added_in a) es bs out_ends out_bytes bytes → bytes < 65536
  bytes_few p g = omega (arith, g.count, flat_two base (added_in a), (names_fit p).short)

  -- both tables are in the outputs
  pub filled_laid : (s : SplitColumns) {es bs size cs : ℕ} {ends bytes out counts : List ℕ} {count used : ℕ} → Given (base ++ added_in a) es bs ends bytes used → out ≡ laid size (table_bytes (rows_of s))
      → length base ≡ count → counts ≡ counts_of cs ((count + a.count) ∷ used ∷ s.count ∷ []) → Laid (record { names = base ++ added_in a; rows = rows_of s }) es bs size cs ends bytes out counts
  filled_laid s {cs = cs} {count = count} g e z f =
      let m : count + a.count ≡ length (base ++ added_in a) = omega (arith, z, length-append base (added_in a), length-names a.bytes.now a.places.now a.lengths.now a.count) in
      let l = sym (length-tabulate (row_at (columns_of s)) 0 s.count) in
      record { ends = g.ends_laid; bytes = g.bytes_laid; splits = e; counted = f ∙ counted_as cs m g.count l }
    where
      counted_as : (cs : ℕ) {a b c x y z : ℕ} → a ≡ x → b ≡ y → c ≡ z → counts_of cs (a ∷ b ∷ c ∷ []) ≡ counts_of cs (x ∷ y ∷ z ∷ [])
      counted_as cs p q r = λ i. counts_of cs (p i ∷ q i ∷ r i ∷ [])

-- ---- the columns hold all names that may be added ..
pub added_room : {base : List (List ℕ)} {most most_bytes es bs : ℕ} {bytes places lengths : List ℕ} → length bytes ≡ 65535 → length places ≡ 4096 → length lengths ≡ 4096
    → Space base most most_bytes es bs → Room (beside bytes places lengths) most most_bytes
added_room b l m p = record {
  few = omega (arith, p.few);
  short = omega (arith, p.short);
  long_places = omega (arith, p.few, l);
  long_lengths = omega (arith, p.few, m);
  long_bytes = omega (arith, p.short, b);
}

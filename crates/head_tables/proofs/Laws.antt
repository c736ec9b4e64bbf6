-- What is made of the pieces behind the tables' checks: the first refusal of the checks is the whole's, and else it is made of the pieces that were counted, which lie
-- whole in their bytes. Assumes nothing.
use mathlib.Core.Path.{◌≡◌, refl, sym, subst, ◌∙◌}
use mathlib.Core.List.{List}
use Prim.Native.Nat.{ℕ, ◌-◌, ◌/◌, ◌≤◌}
use native.Mathlib.Omega.{arith}
use lib.ListN.{length}
use Rattle.lists.specs.Outcome.{Outcome, accepted, refused, ◌>>=◌, ◌>>◌}
use Rattle.lists.proofs.Binds.{bind_goes, bind_stops}
use Rattle.lists.proofs.Outcomes.{then_both}
use Rattle.tables.specs.Records.{section_fault}
use Rattle.name_table.specs.Stored.{stage_lengths}
use Rattle.stage_tables.specs.StageTables.{stage_sections}
use Rattle.stage_tables.proofs.Laws.{table_passed}
use Rattle.obj.specs.Parts.{Part}
use Rattle.piece_records.specs.Records.{parts_at, parts_of, Whole}
use Rattle.piece_records.proofs.Laws.{counted_whole}
use Rattle.head_tables.specs.HeadTables.{head_tables, counted}

-- "64 sections"
pub tables_few : (ends bytes sections : List ℕ) → head_tables ends bytes sections ≡ accepted tt → length sections / 15 ≤ 64
unfolding head_tables
tables_few ends bytes sections e = (table_passed 15 64 sections (section_fault (stage_lengths ends bytes) (stage_sections sections)) (then_both _ _ _ e).1).1

along : {A B C : Type 0} (tables : Outcome (Unit {0})) (count : Outcome A) (parts : A → B) (make : B → Outcome C)
    → (tables >> ((count >>= λ n. accepted (parts n)) >>= make)) ≡ ((tables >> count) >>= λ n. make (parts n))
unfolding ◌>>=◌ ◌>>◌
along (accepted u) (accepted n) parts make = refl
along (accepted u) (refused number section address) parts make = refl
along (refused number section address) count parts make = refl

module _ (ends bytes sections pieces : List ℕ) where
  module _ {A : Type 0} (make : List Part → Outcome A) where
    pub count_stops : {number section address : ℕ} → refused number section address ≡ counted ends bytes sections pieces
        → (head_tables ends bytes sections >> (parts_of pieces >>= make)) ≡ refused number section address
    unfolding counted parts_of
    count_stops is = along _ _ _ make ∙ bind_stops _ _ _ _ _ (sym is)

    pub count_goes : {n : ℕ} → accepted n ≡ counted ends bytes sections pieces
        → make (parts_at n pieces 0) ≡ (head_tables ends bytes sections >> (parts_of pieces >>= make))
    unfolding counted parts_of
    count_goes is = sym (along _ _ _ make ∙ bind_goes _ _ _ (sym is))

  module _ {n : ℕ} (is : accepted n ≡ counted ends bytes sections pieces) where
    pub tables_passed : head_tables ends bytes sections ≡ accepted tt
    unfolding counted
    tables_passed = (then_both _ _ _ (sym is)).0

    pub sections_few : length sections / 15 ≤ 64
    sections_few = tables_few ends bytes sections tables_passed

    pub parts_whole : Whole n pieces 0
    unfolding counted
    parts_whole =
        let w = counted_whole 1024 pieces 0 0 n (then_both _ _ _ (sym is)).1 in
        subst (λ (k : ℕ). Whole k pieces 0) (let z : n - 0 ≡ n = omega arith in z) w.whole

    -- "up to 1,024 pieces"
    pub parts_few : n ≤ 1024
    unfolding counted
    parts_few = let w = (counted_whole 1024 pieces 0 0 n (then_both _ _ _ (sym is)).1).most in omega arith

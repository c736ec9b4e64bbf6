-- The joiner over lent bytes: the section that a piece names, and where its bytes stand. Assumes nothing.
use mathlib.Core.Path.{◌≡◌, refl, sym, ap, ap₂, ◌∙◌}
use mathlib.Core.List.{List}
use mathlib.Core.Bool.{Bool, true, false, ◌||◌}
use Prim.Native.Nat.{ℕ, ◌+◌, ◌*◌, ◌-◌, ◌≤◌, ◌<◌, ◌/◌}
use native.Mathlib.Omega.{arith}
use native.Mathlib.Numerals.{add-one}
use lib.ListN.{length, get_or, take, drop, get_or-eq_default}
use lib.Seq.{sets, take_all}
use lib.Dec.{eqb, ltb}
use Rattle.std.proofs.lemmas.List.{get_or-map}
use Rattle.lists.specs.Rows.{any_of, any_from}
use Rattle.obj.specs.Records.{section_at, stage_places}
use Rattle.obj.specs.declared.Section.{Section}
use Rattle.obj.proofs.Laws.{length-stage_places, stage_place}
use Rattle.obj.specs.Parts.{Part}
use Rattle.join.specs.Join.{nowhere, home_of, outside, held_by, held}
use Rattle.join.proofs.Sizes.{held_suc, inside, listed}
use Rattle.names.specs.Names.{same_name}
use Rattle.join.specs.Laying.{spot_of, laid_over}
use Rattle.stage_tables.specs.StageTables.{stage_sections}
use Rattle.stage_tables.proofs.Laws.{length_sections}
use Rattle.piece_records.specs.Records.{part_at, next_at, parts_at}
use Rattle.piece_records.proofs.Laws.{parts_turn, parts_end}
use Rattle.join_pieces.specs.Joins.{Base}

-- 82 as the code asks it
abbrev test : (start size : ℕ) → Section → Bool
test start size s = (eqb s.kind 3 || ltb start s.address) || ltb (s.address + s.size) (start + size)

module _ (b : List ℕ) where
  pub head_there : (k : ℕ) → k < length b / 15 → get_or (stage_sections b) k nowhere ≡ section_at b (15 * k)
  head_there k h =
      get_or-map (section_at b) (stage_places 15 (length b / 15)) k 0 nowhere (rw length-stage_places h)
      ∙ ap (section_at b) (stage_place 15 (length b / 15) k h)

  pub head_past : (k : ℕ) → length b / 15 ≤ k → get_or (stage_sections b) k nowhere ≡ nowhere
  head_past k h = get_or-eq_default (stage_sections b) nowhere (let l = length_sections b in omega arith)

  -- the bytes held before the next section
  pub held_turn : (k : ℕ) → k < length b / 15 → held (take (k + 1) (stage_sections b)) ≡ held (take k (stage_sections b)) + held_by (get_or (stage_sections b) k nowhere)
  held_turn k h = rw add-one (held_suc (stage_sections b) k (let l = length_sections b in omega arith))

  pub held_none : held (take 0 (stage_sections b)) ≡ 0
  unfolding held
  held_none = refl

  pub held_all : held (take (length b / 15) (stage_sections b)) ≡ held (stage_sections b)
  held_all = ap held (take_all (length b / 15) (stage_sections b) (let l = length_sections b in omega arith))

  -- a section number that isn't there is 82
  pub outside_past : (p : Part) → length b / 15 ≤ p.section → true ≡ outside (stage_sections b) p
  unfolding outside any_of any_from
  outside_past p h = ap (test p.address (length p.bytes)) (sym (head_past p.section h))

  pub outside_there : (p : Part) {s : Section} {start size n : ℕ} → n ≡ p.section → s ≡ get_or (stage_sections b) n nowhere → start ≡ p.address
      → size ≡ length p.bytes → test start size s ≡ outside (stage_sections b) p
  unfolding outside any_of any_from
  outside_there p {start = start} {size} h e f g =
      ap (test start size) (e ∙ ap (λ (k : ℕ). get_or (stage_sections b) k nowhere) h) ∙ ap₂ (λ (a l : ℕ). test a l (home_of (stage_sections b) p)) f g

  -- a piece that isn't 82 names a section that is there
  pub section_there : (p : Part) → outside (stage_sections b) p ≡ false → p.section < length b / 15
  section_there p e = let l = listed (stage_sections b) p.section (inside (stage_sections b) p e).holds in let z = length_sections b in omega arith

  -- .. and the section of its number is its own
  pub home_there : (p : Part) {s : Section} {n : ℕ} → n ≡ p.section → s ≡ get_or (stage_sections b) n nowhere → s ≡ home_of (stage_sections b) p
  home_there p i r = r ∙ ap (λ (k : ℕ). get_or (stage_sections b) k nowhere) i

-- the sections' bytes, summed
pub base_all : {sections : List ℕ} {r : ℕ} → Base sections (length sections / 15) r → r ≡ held (stage_sections sections)
base_all {sections} base = base.is ∙ held_all sections

-- ---- a pass that lays: what is left at record i, which starts at `at`
module _ (heads : List Section) (b : List ℕ) (at i n : ℕ) (out : List ℕ) where
  pub laid_turn : i < n
      → laid_over heads (parts_at (n - i) b at) out
      ≡ laid_over heads (parts_at (n - (i + 1)) b (next_at b at)) (sets out (spot_of heads (part_at b at)) (part_at b at).bytes)
  unfolding laid_over
  laid_turn h = ap (λ (l : List Part). laid_over heads l out) (parts_turn b at i n h)

  pub laid_end : n ≤ i → laid_over heads (parts_at (n - i) b at) out ≡ out
  unfolding laid_over
  laid_end h = ap (λ (l : List Part). laid_over heads l out) (parts_end b at i n h)

-- the part that is compared with a piece's bytes
pub part_same : (out : List ℕ) {bytes own : List ℕ} {from at : ℕ} → bytes ≡ own → from ≡ at
    → same_name bytes (take (from + length bytes - from) (drop from out)) ≡ same_name own (take (length own) (drop at out))
part_same out {bytes} {own} {from} {at} e f =
    ap (λ (k : ℕ). same_name bytes (take k (drop from out))) (let z : from + length bytes - from ≡ length bytes = omega arith in z)
    ∙ ap₂ (λ (l : List ℕ) (k : ℕ). same_name l (take (length l) (drop k out))) e f

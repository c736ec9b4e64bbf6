-- What tables that passed leave to the filling of gaps: sections with short names, names from their arrays and room for more of them; and lines of the definition
-- over the columns that are those over the lent tables. Assumes nothing.
use Prim.Native.Nat.{ℕ, zero, suc, ◌+◌, ◌*◌, ◌-◌, ◌/◌, ◌%◌, ◌≤◌, ◌<◌}
use mathlib.Core.Path.{◌≡◌, refl, sym, ap, ap₂, ◌∙◌}
use mathlib.Core.List.{List, [], ◌∷◌, ◌++◌}
use mathlib.Core.Bool.{Bool, true, false, not, cond}
use native.Mathlib.Nat.{zero-add}
use native.Mathlib.Numerals.{add-one}
use native.Mathlib.Omega.{arith}
use borrow.Author.Tests.{ne_eqb, ltb-true, ltb-false}
use lib.Dec.{eqb, leb, ltb}
use lib.ListN.{length, get_or, take, length-take, length-append}
use lib.Seq.{get_or-take, length-take-le}
use Rattle.std.proofs.lemmas.Bool.{or_parts}
use Rattle.std.proofs.lemmas.List.{get_or-map}
use Rattle.lists.specs.Outcome.{Outcome, accepted, refuse, ◌>>◌, ◌>>=◌}
use Rattle.lists.specs.Rows.{tabulate, first_from}
use Rattle.lists.proofs.First.{first-none, first_le}
use Rattle.lists.proofs.Outcomes.{then_inv}
use Rattle.lists.proofs.Rows.{length-tabulate, tabulate_more, tabulate_ext}
use Rattle.obj.specs.Answers.{place}
use Rattle.obj.specs.Records.{section_at, stage_places}
use Rattle.obj.specs.declared.Section.{Section}
use Rattle.obj.proofs.Laws.{length-stage_places}
use Rattle.fields.specs.Fields.{le16}
use Rattle.names.specs.Names.{name_at, names_of}
use Rattle.tables.specs.Tables.{records_check}
use Rattle.tables.specs.Records.{sections_in, image_places_of, section_fault}
use Rattle.tables.proofs.Laws as tables
use Rattle.name_table.specs.NameTable.{start_of, end_of, name_in, stage_names, names_check}
use Rattle.name_table.specs.Stored.{stage_lengths, name_starts, Stored, Readable}
use Rattle.name_table.proofs.Laws.{length_name, passed_sound}
use Rattle.stage_tables.specs.StageTables.{stage_sections, stage_splits, image_check, symbols_check, splits_check}
use Rattle.stage_tables.proofs.Laws.{table_passed}
use Rattle.stage_names.specs.StageNames.{names_room, bytes_room, beyond, first_beyond, fit_check, flat}
use Rattle.stage_names.proofs.Fits.{not_beyond, flat_append}
use Rattle.sections.specs.Image.{Image, image_of}
use Rattle.sections.specs.Sections.{head_of, sections_of}
use Rattle.sections.proofs.Laws.{bytes_as}
use Rattle.obj.specs.declared.Split.{Split}
use Rattle.obj.specs.Nothing.{no_section}
use Rattle.stage_splits.specs.StageSplits.{room_of}
use Rattle.merge.specs.Merge.{Given, given}
use Rattle.gap_columns.specs.Columns.{Gap}
use Rattle.gaps.specs.Gaps.{section_gaps, gaps_of, into, found_gaps}
use Rattle.gap_splits.specs.Entering.{Filled, Ceilings, bytes_of, filled}
use Rattle.gap_splits.specs.Answers.{ceilings}
use Rattle.create_gap_splits.specs.Create as create
use Rattle.create_gap_splits.specs.Create.{gaps_filled, Short}
use Rattle.stage_gaps.specs.StageGaps.{from_splits, NamesRead, Space}
use Rattle.stage_gaps.proofs.Laws.{flat_bytes}
use Rattle.entry_create_gap_splits.specs.Entry.{from_symbols, from_sections}

-- ---- two columns of places that agree on the sections: their gaps agree, since a section's bytes are asked at its own place alone
module _ (g : Image) (heads head_places image I J : List ℕ) (same : (n : ℕ) → n < length head_places → get_or I n 0 ≡ get_or J n 0) where
  section_alike : (n : ℕ) (rows : List Split) → n < length head_places
      → section_gaps g (sections_of heads head_places image I) n rows ≡ section_gaps g (sections_of heads head_places image J) n rows
  unfolding section_gaps
  section_alike n rows h =
      ap (λ (bytes : List ℕ). section_gaps g (record { count = length head_places; head = (sections_of heads head_places image I).head; bytes = λ k. bytes }) n rows)
      (bytes_as image I J n ((sections_of heads head_places image I).head n) (same n h))

  from_alike : (k n : ℕ) (rows : List Split) → n + k ≤ length head_places
      → gaps_of g (sections_of heads head_places image I) k n rows ≡ gaps_of g (sections_of heads head_places image J) k n rows
  unfolding gaps_of
  from_alike zero n rows h = refl
  from_alike (suc k) n rows h =
      ap₂ (λ (m w : Outcome (List Gap)). m >>= λ gaps. w >>= λ more. accepted (gaps ++ more)) (section_alike n rows (omega arith)) (from_alike k (suc n) rows (omega arith))

  pub gaps_alike : (limits : Given) (room : Ceilings) (t : Filled)
      → gaps_filled g (sections_of heads head_places image I) limits room t ≡ gaps_filled g (sections_of heads head_places image J) limits room t
  unfolding gaps_filled found_gaps
  gaps_alike limits room t =
      ap (λ (m : Outcome (List Gap)). into [] m >>= λ gaps. filled (create.name_in g (sections_of heads head_places image I)) limits room t gaps)
      (from_alike (length head_places) 0 t.rows (omega arith))

-- ---- sections that passed: the symbols are asked with their columns
pub sections_as : (name_bytes name_places name_lengths b image head_places I places symbols splits : List ℕ) (room : Ceilings) (size : ℕ)
    → head_places ≡ stage_places 15 (length b / 15) → ((n : ℕ) → n < length b / 15 → get_or I n 0 ≡ get_or (image_places_of places) n 0)
    → from_symbols name_bytes name_places name_lengths (sections_in b head_places) (sections_of b head_places image I) room symbols splits size
    ≡ from_symbols name_bytes name_places name_lengths (stage_sections b) (sections_of b (stage_places 15 (length b / 15)) image (image_places_of places)) room symbols splits size
unfolding from_symbols from_splits
sections_as name_bytes name_places name_lengths b image head_places I places symbols splits room size there same =
    ap (λ (l : List ℕ). from_symbols name_bytes name_places name_lengths (sections_in b l) (sections_of b l image I) room symbols splits size) there
    ∙ ap (λ (m : Outcome Filled). symbols_check 4096 (length name_lengths) (stage_sections b) symbols >> (splits_check (room_of size) name_lengths (stage_sections b) splits >> m))
    (gaps_alike (image_of symbols (stage_places 20 (length symbols / 20)) name_bytes name_places name_lengths) b (stage_places 15 (length b / 15)) image I (image_places_of places)
    (λ n h. same n (rw length-stage_places at h)) (given (stage_sections b) (room_of size)) room
    (record { names = names_of name_bytes name_places name_lengths (length name_places); rows = stage_splits splits }))

-- .. and no name of theirs is above 64 bytes
name_short : (bytes places lengths : List ℕ) (k : ℕ) → length (name_at bytes places lengths k) ≤ get_or lengths k 0
unfolding name_at
name_short bytes places lengths k = simp length-take (omega arith)

pub sections_short : (ceiling : ℕ) (lengths places image b : List ℕ) → image_check ceiling lengths places (length image) b ≡ accepted tt
    → (head_places name_bytes name_places : List ℕ) → head_places ≡ stage_places 15 (length b / 15) → Short b head_places name_bytes name_places lengths
sections_short ceiling lengths places image b passed head_places name_bytes name_places there n h =
    let q : n < length b / 15 = omega (arith, h, ap length there, length-stage_places 15 (length b / 15)) in
    let e : head_of b head_places n ≡ get_or (stage_sections b) n no_section = ap (λ (l : List ℕ). head_of b l n) there ∙ sym (get_or-map (section_at b) (stage_places 15 (length b / 15)) n 0 no_section (rw length-stage_places q)) in
    let small = (tables.sections_named lengths (stage_sections b) (length b / 15) sections_passed n q).1 in
    omega (arith, name_short name_bytes name_places lengths (head_of b head_places n).name, ap (λ (s : Section). get_or lengths s.name 0) e, small)
  where
    sections_passed : records_check (section_fault lengths (stage_sections b)) (length b / 15) ≡ accepted tt
    sections_passed = tables.image_sections lengths (image_places_of places) (length image) (stage_sections b) (length b / 15) (table_passed 15 ceiling b _ passed).2

-- ---- the bytes of names
flat_one : (x : List ℕ) → length (flat (x ∷ [])) ≡ length x
unfolding flat
flat_one x = length-append x [] ∙ omega arith

start_more : (ends : List ℕ) (k : ℕ) → start_of ends (k + 1) ≡ end_of ends k
unfolding start_of
start_more ends k = rw (ne_eqb (k + 1) 0 (λ e. omega arith)) (ap (λ (m : ℕ). le16 ends m) (let e : 2 * (k + 1) - 2 ≡ 2 * k = omega arith in e))

start_none : (ends : List ℕ) → start_of ends 0 ≡ 0
unfolding start_of
start_none ends = refl

none-flat : (f : ℕ → List ℕ) → length (flat (tabulate f 0 0)) ≡ 0
unfolding flat tabulate
none-flat f = refl

-- names that passed lie one after another, from 0 on
pub names_end : (ceiling : ℕ) (ends bytes : List ℕ) → names_check ceiling ends bytes ≡ accepted tt → (n : ℕ) → n ≤ length ends / 2
    → length (flat (stage_names ends bytes n)) ≡ start_of ends n
unfolding stage_names
names_end ceiling ends bytes passed n h = go n h
  where
    go : (n : ℕ) → n ≤ length ends / 2 → length (flat (tabulate (name_in ends bytes) 0 n)) ≡ start_of ends n
    go zero h = none-flat (name_in ends bytes) ∙ sym (start_none ends)
    go (suc n) h =
        let s = passed_sound ceiling ends bytes passed n (omega arith) in
        let x = name_in ends bytes n in
        let l = tabulate (name_in ends bytes) 0 n in
        let all = ap (λ (k : ℕ). length (flat (tabulate (name_in ends bytes) 0 k))) (sym (add-one n))
        ∙ ap (λ (m : List (List ℕ)). length (flat m)) (tabulate_more (name_in ends bytes) n) ∙ ap length (flat_append l (x ∷ [])) ∙ length-append (flat l) (flat (x ∷ [])) in
        let e : length (flat l) + length (flat (x ∷ [])) ≡ end_of ends n = omega (arith, go n (omega arith), flat_one x, length_name ends bytes n s.within, s.rising) in
        all ∙ e ∙ sym (start_more ends n) ∙ ap (start_of ends) (add-one n)

-- ---- the ceilings
abbrev ceiling_of : (names bytes : ℕ) → Ceilings
ceiling_of names bytes = record { names = names; bytes = bytes }

pub names_room_lem : (size : ℕ) → (names_room size ≤ 4096) × (2 * names_room size ≤ size)
unfolding names_room
names_room_lem size = go (ltb (size / 2) 4096) refl
  where
    go : (t : Bool) → ltb (size / 2) 4096 ≡ t → (cond t (size / 2) 4096 ≤ 4096) × (2 * cond t (size / 2) 4096 ≤ size)
    go true e = (omega (arith, ltb-true (size / 2) 4096 e), omega arith)
    go false e = (omega arith, omega (arith, ltb-false (size / 2) 4096 e))

pub bytes_room_lem : (size : ℕ) → (bytes_room size ≤ 65535) × (bytes_room size ≤ size)
unfolding bytes_room
bytes_room_lem size = go (ltb size 65535) refl
  where
    go : (t : Bool) → ltb size 65535 ≡ t → (cond t size 65535 ≤ 65535) × (cond t size 65535 ≤ size)
    go true e = (omega (arith, ltb-true size 65535 e), omega arith)
    go false e = (omega arith, omega (arith, ltb-false size 65535 e))

-- names that fit: not above the ceilings
module _ (most most_bytes : ℕ) (ends : List ℕ) (passed : fit_check most most_bytes ends ≡ accepted tt) where
  all_fit : length ends / 2 ≤ first_beyond most most_bytes ends
  unfolding fit_check
  all_fit =
      let first = first_beyond most most_bytes ends in
      let n = length ends / 2 in
      ltb-false first n
      (then_inv 2 0 first (ltb first n) (accepted tt) tt (then_inv 1 0 (place n) (not (eqb (length ends % 2) 0)) (refuse 2 0 first (ltb first n) >> accepted tt) tt passed).1).0

  none-beyond : (k : ℕ) → k < length ends / 2 → beyond most most_bytes ends k ≡ false
  unfolding first_beyond
  none-beyond k h =
      let low : length ends / 2 ≤ first_from (beyond most most_bytes ends) 0 (length ends / 2) = all_fit in
      let high = first_le (beyond most most_bytes ends) (length ends / 2) in
      first-none (beyond most most_bytes ends) (length ends / 2) k (omega (arith, low, high)) h

  pub fit_few : length ends / 2 ≤ most
  fit_few = go (length ends / 2) refl
    where
      go : (n : ℕ) → length ends / 2 ≡ n → n ≤ most
      go zero e = omega arith
      go (suc k) e = omega (arith, not_beyond most most_bytes ends k (none-beyond k (omega (arith, e))))

  pub fit_end : start_of ends (length ends / 2) ≤ most_bytes
  fit_end = go (length ends / 2) refl
    where
      go : (n : ℕ) → length ends / 2 ≡ n → start_of ends n ≤ most_bytes
      go zero e = omega (arith, start_none ends)
      go (suc k) e =
          let q = or_parts (leb most k) (ltb most_bytes (end_of ends k)) (none-beyond k (omega (arith, e))) in
          omega (arith, ltb-false most_bytes (end_of ends k) q.1, start_more ends k, ap (start_of ends) (add-one k))

-- ---- names that passed, read from the arrays that hold them
module _ (ends bytes : List ℕ) {places lengths buckets chain : List ℕ} (stored : Stored ends bytes places lengths buckets chain (length ends / 2))
    {b p l : List ℕ} (bytes_are : b ≡ bytes) (places_are : p ≡ name_starts ends (length ends / 2)) (lengths_are : l ≡ stage_lengths ends bytes) where
  abbrev front : List (List ℕ)
  front = names_of b p l (length p)

  lengths_count : length l ≡ length ends / 2
  lengths_count = ap length (lengths_are ∙ sym stored.sizes) ∙ length-take-le _ _ stored.named.measured

  front_at : (k : ℕ) → k < length ends / 2 → name_at bytes (take (length ends / 2) places) (take (length ends / 2) lengths) k ≡ name_at bytes places lengths k
  unfolding name_at
  front_at k h = rw (get_or-take _ places k 0 h, get_or-take _ lengths k 0 h)

  pub front_is : names_of b p l (length p) ≡ stage_names ends bytes (length ends / 2)
  unfolding names_of
  front_is =
      rw (bytes_are, places_are ∙ sym stored.starts, lengths_are ∙ sym stored.sizes)
      (ap (names_of bytes (take (length ends / 2) places) (take (length ends / 2) lengths)) (length-take-le _ _ stored.named.placed)
      ∙ tabulate_ext _ _ 0 0 (length ends / 2) (λ k h. ap (name_at bytes (take (length ends / 2) places) (take (length ends / 2) lengths)) (zero-add k) ∙ front_at k h ∙ ap (name_at bytes places lengths) (sym (zero-add k)))
      ∙ stored.names)

  front_count : length front ≡ length ends / 2
  unfolding stage_names
  front_count = ap length front_is ∙ length-tabulate (name_in ends bytes) 0 (length ends / 2)

  pub names-taken : {heads next : List ℕ} → heads ≡ buckets → next ≡ chain → Readable b p l → NamesRead b p l heads next
  names-taken heads_are chain_are r = record { named = r.named; paired = r.paired; indexed = rw (front_is, heads_are, chain_are) stored.index }

  -- what is free beside them, in outputs of so many bytes
  module _ (ends_size bytes_size most most_bytes end : ℕ) (most-is : most ≡ names_room ends_size) (bytes-is : most_bytes ≡ bytes_room bytes_size)
      (end_is : end ≡ start_of ends (length ends / 2)) (fit : fit_check most most_bytes ends ≡ accepted tt) (passed : names_check 4096 ends bytes ≡ accepted tt) where
    front_bytes : length (flat front) ≡ start_of ends (length ends / 2)
    front_bytes = ap (λ (l : List (List ℕ)). length (flat l)) front_is ∙ names_end 4096 ends bytes passed (length ends / 2) (omega arith)

    pub space : Space front (most - length ends / 2) (most_bytes - end) ends_size bytes_size
    space =
        let n = names_room_lem ends_size in
        let b = bytes_room_lem bytes_size in
        let fits = fit_few _ _ ends fit in
        let ended = fit_end _ _ ends fit in
        record {
          few = omega (arith, front_count, fits, most-is, n.0);
          short = omega (arith, front_bytes, ended, end_is, bytes-is, b.0);
          long_ends = omega (arith, front_count, fits, most-is, n.1);
          long_bytes = omega (arith, front_bytes, ended, end_is, bytes-is, b.1);
        }

    pub ceilings_are : ceilings front (most - length ends / 2) (most_bytes - end)
        ≡ record { names = names_room ends_size; bytes = bytes_room bytes_size }
    ceilings_are =
        ap₂ (λ (n b : ℕ). ceiling_of n b)
        (let e : length front + (most - length ends / 2) ≡ names_room ends_size = omega (arith, most-is, front_count, fit_few _ _ ends fit) in e)
        (let e : bytes_of front + (most_bytes - end) ≡ bytes_room bytes_size = omega (arith, bytes-is, end_is, flat_bytes front, front_bytes, fit_end _ _ ends fit) in e)

    -- the sections are asked with them
    pub names_as : (sections section_places image symbols splits : List ℕ) (size : ℕ)
        → from_sections b p l sections section_places image symbols splits
        (ceilings front (most - length ends / 2) (most_bytes - end)) size
        ≡ (image_check 64 (stage_lengths ends bytes) section_places (length image) sections
        >> (symbols_check 4096 (length ends / 2) (stage_sections sections) symbols
        >> (splits_check (room_of size) (stage_lengths ends bytes) (stage_sections sections) splits
        >> gaps_filled (image_of symbols (stage_places 20 (length symbols / 20)) bytes (name_starts ends (length ends / 2)) (stage_lengths ends bytes))
        (sections_of sections (stage_places 15 (length sections / 15)) image (image_places_of section_places))
        (given (stage_sections sections) (room_of size))
        (record { names = names_room ends_size; bytes = bytes_room bytes_size })
        (record { names = stage_names ends bytes (length ends / 2); rows = stage_splits splits }))))
    unfolding from_sections from_symbols from_splits
    names_as sections section_places image symbols splits size =
        ap₂ (λ (room : Ceilings) (names : List (List ℕ)). lines b (length l) p l room names) ceilings_are front_is
        ∙ ap (λ (n : ℕ). lines b n p l room_here all) lengths_count
        ∙ ap₂ (λ (starts sizes : List ℕ). lines b (length ends / 2) starts sizes room_here all) places_are lengths_are
        ∙ ap (λ (x : List ℕ). lines x (length ends / 2) (name_starts ends (length ends / 2)) (stage_lengths ends bytes) room_here all) bytes_are
      where
        room_here : Ceilings
        room_here = record { names = names_room ends_size; bytes = bytes_room bytes_size }

        all : List (List ℕ)
        all = stage_names ends bytes (length ends / 2)

        lines : (x : List ℕ) → (count : ℕ) → (starts sizes : List ℕ) → Ceilings → List (List ℕ) → Outcome Filled
        lines x count starts sizes room names =
            image_check 64 sizes section_places (length image) sections
            >> (symbols_check 4096 count (stage_sections sections) symbols
            >> (splits_check (room_of size) sizes (stage_sections sections) splits
            >> gaps_filled (image_of symbols (stage_places 20 (length symbols / 20)) x starts sizes)
            (sections_of sections (stage_places 15 (length sections / 15)) image (image_places_of section_places))
            (given (stage_sections sections) (room_of size)) room
            (record { names = names; rows = stage_splits splits })))

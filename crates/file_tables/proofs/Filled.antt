-- Names that a table may hold still are when gaps' names come: a gap's name is good where its section's is, and only a name that is not there is added, within the ceilings.
-- Assumes nothing.
use Prim.Native.Nat.{ℕ, ◌+◌, ◌/◌, ◌%◌, ◌≤◌, ◌<◌}
use mathlib.Core.Path.{◌≡◌, refl, sym}
use mathlib.Core.Bool.{Bool, true, false, cond}
use mathlib.Core.List.Memᴰ
use mathlib.Core.List.{List, [], ◌∷◌, ◌++◌, Memᴰ}
use mathlib.Core.Logic.{◌⊎◌, inl, inr}
use native.Mathlib.Omega.{arith}
use borrow.Author.Tests.{lt-ltb, le-ltb, ltb-false, leb-false}
use lib.Dec.{eqb, ltb, leb}
use lib.ListN.{length, get_or, drop, length-append, length-drop}
use lib.Seq.{length-take-le}
use Rattle.std.proofs.lemmas.Bool.{or_parts, cases_lt}
use Rattle.lists.specs.Outcome.{accepted, refuse, ◌>>◌}
use Rattle.lists.specs.Rows.{any_of, any_from, some}
use Rattle.lists.proofs.All.{all_map}
use Rattle.lists.proofs.Outcomes.{same_accepted, then_inv, bind_inv}
use Rattle.names.specs.Names.{name_at, number_of, outside, name_bad}
use Rattle.names.specs.Fixed.{codes}
use Rattle.names.specs.GapName.{digit, decimal2, hex8, without_dots, gap_name}
use Rattle.names.proofs.Laws.{number_le}
use Rattle.names.proofs.Gaps.{gap_short}
use Rattle.obj.specs.declared.Split.{Split}
use Rattle.tables.specs.Tables.{main_ceilings}
use Rattle.load.specs.Load.{Loaded, names_in, load_of}
use Rattle.load.proofs.Growth.{different_more}
use Rattle.sections.specs.Image.{Image}
use Rattle.sections.specs.Sections.{Sections, head_of}
use Rattle.merge.specs.Merge.{Given}
use Rattle.gaps.specs.Gaps.{found_gaps}
use Rattle.gaps.proofs.Inside.{found_lies}
use Rattle.gap_splits.specs.Entering.{Filled, Ceilings, Named, bytes_of, full, named, unit_name}
use Rattle.gap_splits.proofs.Naming.{bytes_one}
use Rattle.create_gap_splits.specs.Create.{name_in, gaps_filled}
use Rattle.gap_laws.proofs.Named.{filled_keeps}
use Rattle.loaded.specs.Tables.{image_from, sections_from, Usable}
use Rattle.loaded.proofs.Bytes.{loaded_usable}
use Rattle.loaded.proofs.Laws.{section_named}
use Rattle.file_tables.specs.Tables.{Clean}
use Rattle.file_tables.proofs.Clean.{clean_loaded}

-- ---- a gap's name

some-append : {A : Type 0} (p : A → Bool) (s t : List A) → some p s ≡ false → some p t ≡ false → some p (s ++ t) ≡ false
unfolding some
some-append p [] t e f = f
some-append p (x ∷ s) t e f = let q = or_parts (p x) (some p s) e in rw (q.0, some-append p s t q.1 f)

digit_inside : (d : ℕ) → d < 16 → outside (digit d) ≡ false
digit_inside d h = go (cases_lt d 10)
  where
    go : (d < 10) ⊎ (10 ≤ d) → outside (digit d) ≡ false
    go (inl q) = rw (lt-ltb d 10 q) (rw (le-ltb (48 + d) 33 (omega arith), le-ltb 126 (48 + d) (omega arith)))
    go (inr q) = rw (le-ltb d 10 q) (rw (le-ltb (55 + d) 33 (omega arith), le-ltb 126 (55 + d) (omega arith)))

decimal_inside : (n : ℕ) → some outside (decimal2 n) ≡ false
unfolding some decimal2
decimal_inside n = rw (digit_inside (n / 10 % 10) (omega arith), digit_inside (n % 10) (omega arith))

hex_inside : (a : ℕ) → some outside (hex8 a) ≡ false
unfolding some hex8
hex_inside a =
    rw (
      digit_inside (a / 268435456 % 16) (omega arith),
      digit_inside (a / 16777216 % 16) (omega arith),
      digit_inside (a / 1048576 % 16) (omega arith),
      digit_inside (a / 65536 % 16) (omega arith),
      digit_inside (a / 4096 % 16) (omega arith),
      digit_inside (a / 256 % 16) (omega arith),
      digit_inside (a / 16 % 16) (omega arith),
      digit_inside (a % 16) (omega arith),
    )

dots_inside : (name : List ℕ) → some outside name ≡ false → some outside (without_dots name) ≡ false
unfolding some without_dots
dots_inside [] e = refl
dots_inside (b ∷ name) e = go (eqb b 46) (dots_inside name (or_parts (outside b) (some outside name) e).1)
  where
    go : (t : Bool) → some outside (without_dots name) ≡ false → some outside (cond t (without_dots name) (b ∷ name)) ≡ false
    go true ih = ih
    go false ih = e

front_inside : some outside (codes "auto_") ≡ false
unfolding some codes
front_inside = refl

bar_inside : some outside (codes "_") ≡ false
unfolding some codes
bar_inside = refl

gap_inside : (section address : ℕ) (name : List ℕ) → some outside name ≡ false → some outside (gap_name section address name) ≡ false
unfolding gap_name codes decimal2 hex8
gap_inside section address name e =
    some-append outside (codes "auto_") _ front_inside
    (some-append outside (decimal2 section) _ (decimal_inside section)
    (some-append outside (codes "_") _ bar_inside (some-append outside (hex8 address) _ (hex_inside address) (some-append outside (codes "_") _ bar_inside (dots_inside name e)))))

-- THEOREM: a gap's name is good where its section's is, and is not above 64 bytes
pub gap_good : (section address : ℕ) (name : List ℕ) → name_bad name ≡ false → length name ≤ 64 → name_bad (gap_name section address name) ≡ false
unfolding name_bad any_of any_from
gap_good section address name e h =
    let q = or_parts (ltb 128 (length name)) (some outside name) e in
    rw (le-ltb 128 (length (gap_name section address name)) (omega (arith, gap_short section address name)), gap_inside section address name q.1)

-- ---- a name comes

good_more : (names : List (List ℕ)) (x : List ℕ) → ((y : List ℕ) → Memᴰ y names → name_bad y ≡ false) → name_bad x ≡ false
    → (y : List ℕ) → Memᴰ y (names ++ (x ∷ [])) → name_bad y ≡ false
good_more names x all good y m = go (Memᴰ.append_cases names m)
  where
    go : Memᴰ y names ⊎ Memᴰ y (x ∷ []) → name_bad y ≡ false
    go (inl k) = all y k
    go (inr k) = rw (Memᴰ.eq_of_singleton k) good

module _ (room : Ceilings) (few : room.names ≤ 4096) (short : room.bytes ≤ 65535) where
  clean_named : (section start : ℕ) (names : List (List ℕ)) (x : List ℕ) (r : Named) → Clean names → name_bad x ≡ false
      → named room section start names x ≡ accepted r → Clean r.names
  unfolding named
  clean_named section start names x r c good e = go (ltb (number_of names x) (length names)) refl e
    where
      go : (t : Bool) → ltb (number_of names x) (length names) ≡ t
          → cond t (accepted (record { names = names; number = number_of names x }))
          (refuse 28 section start (full room names x) >> accepted (record { names = names ++ (x ∷ []); number = length names })) ≡ accepted r
          → Clean r.names
      go true t q = rw (sym (same_accepted q)) c
      go false t q =
          let p = then_inv 28 section start (full room names x) _ r q in
          let fits = or_parts (leb room.names (length names)) (ltb room.bytes (bytes_of names + length x)) p.0 in
          let l = ltb-false (number_of names x) (length names) t in
          rw (sym (same_accepted p.1)) (record {
            few = omega (arith, length-append names (x ∷ []), leb-false room.names (length names) fits.0);
            short = omega (arith, bytes_one names x, ltb-false room.bytes (bytes_of names + length x) fits.1);
            good = good_more names x c.good good;
            different = different_more names x c.different (omega (arith, l, number_le names x));
          })

  -- ---- all gaps

  -- THEOREM: where the sections' names are good, and none is above 64 bytes, the filling of gaps leaves names that a table may hold
  pub clean_filled : (g : Image) (sections : Sections) (limits : Given) (before after : Filled)
      → ((n : ℕ) → n < sections.count → name_bad (name_in g sections n) ≡ false) → ((n : ℕ) → n < sections.count → length (name_in g sections n) ≤ 64)
      → Clean before.names → gaps_filled g sections limits room before ≡ accepted after → Clean after.names
  unfolding gaps_filled
  clean_filled g sections limits before after good long c e =
      let p = bind_inv (found_gaps g sections before.rows) _ after e in
      filled_keeps (name_in g sections) limits room (λ s. Clean s.names) (λ x. name_bad (unit_name (name_in g sections) limits room x) ≡ false)
      (λ s x s' h q w. rw w.names (clean_named x.section x.start s.names (unit_name (name_in g sections) limits room x) w.unit q h w.named_as)) before after
      (all_map (λ x l. gap_good x.section x.start (name_in g sections x.section) (good x.section l.there) (long x.section l.there))
      (found_lies g sections before.rows p.0 p.1))
      c p.2

-- ---- the names of an accepted file's sections are such
module _ {file : List ℕ} {t : Loaded} (u : Usable file t) where
  pub section_names_good : (n : ℕ) → n < (sections_from file t).count → name_bad (name_in (image_from file t) (sections_from file t) n) ≡ false
  section_names_good n h = u.good.names.each (head_of file t.sections n).name (section_named u n h)

  pub section_names_short : (n : ℕ) → n < (sections_from file t).count → length (name_in (image_from file t) (sections_from file t) n) ≤ 64
  unfolding name_at
  section_names_short n h =
      let k = (head_of file t.sections n).name in
      let held = u.good.names.held k (section_named u n h) in
      let long = length-take-le (get_or t.lengths k 0) (drop (get_or t.names k 0) file) (simp length-drop (omega (arith, held))) in
      omega (arith, long, (u.good.sections.each n h).short)

-- THEOREM: the names of an accepted file, with those of the gaps that enter its splits, are such as a name table may hold
pub clean_run : (file : List ℕ) (t : Loaded) → load_of main_ceilings file ≡ accepted t → (limits : Given) (room : Ceilings) (rows : List Split) (after : Filled)
    → room.names ≤ 4096 → room.bytes ≤ 65535
    → gaps_filled (image_from file t) (sections_from file t) limits room (record { names = names_in file t; rows = rows }) ≡ accepted after → Clean after.names
clean_run file t e limits room rows after few short =
    let u = loaded_usable file t e in
    clean_filled room few short (image_from file t) (sections_from file t) limits (record { names = names_in file t; rows = rows }) after
    (section_names_good u) (section_names_short u) (clean_loaded file t e)

-- The names of a run: the file's come first and stay, behind them stand the gaps' names that were added, none above 128 bytes, so that each is spelled in its columns.
-- Assumes nothing.
use Prim.Native.Nat.{ℕ, ◌+◌, ◌-◌, ◌<◌, ◌≤◌}
use mathlib.Core.Path.{◌≡◌, refl, sym, ap, subst, ◌∙◌}
use mathlib.Core.Bool.{Bool, true, false, cond}
use mathlib.Core.List.{List, [], ◌∷◌, ◌++◌, append_assoc, append-nil}
use native.Mathlib.Omega.{arith}
use lib.Dec.{ltb}
use lib.ListN.{length, get_or, drop, length-append, length-drop}
use lib.Seq.{drop_at, length-take-le}
use Rattle.lists.specs.Outcome.{accepted, refuse, ◌>>◌}
use Rattle.lists.specs.Sort.{All, none, each}
use Rattle.lists.proofs.All.{all_append, all_at, all_map}
use Rattle.lists.proofs.Outcomes.{bind_inv, then_inv, same_accepted}
use Rattle.obj.specs.declared.Split.{Split}
use Rattle.names.specs.Names.{name_at, number_of}
use Rattle.names.specs.Append.{Columns as Beside, Packed}
use Rattle.names.proofs.Laws.{length-names, name_there}
use Rattle.names.proofs.Gaps.{gap_short}
use Rattle.load.specs.Load.{Loaded, names_in}
use Rattle.load.proofs.Laws.{names_short, length-names_in}
use Rattle.loaded.specs.Tables.{image_from, sections_from, Usable}
use Rattle.loaded.proofs.Laws.{measured}
use Rattle.merge.specs.Merge.{Given}
use Rattle.gap_columns.specs.Columns.{Gap}
use Rattle.gaps.proofs.Inside.{found_lies}
use Rattle.gap_splits.specs.Entering.{Filled, Ceilings, Named, full, named, unit_name, entered, filled}
use Rattle.gap_splits.specs.Added.{added}
use Rattle.create_gap_splits.specs.Create.{gaps_filled}
use Rattle.run_splits.specs.Table.{with_gaps, split_table}
use Rattle.run_splits.proofs.Needs.{section_short}
use Rattle.listing.specs.Tables.{Spelled, Known}

-- ---- names are only added

-- `base` is the front of these names, and those behind it are short
pub record Longer (base names : List (List ℕ)) : Type 0 where
  pub more : List (List ℕ)
  pub is : names ≡ base ++ more
  pub short : All (λ x. length x ≤ 128) more

longer_self : (base : List (List ℕ)) → Longer base base
longer_self base = record { more = []; is = sym (append-nil base); short = none }

longer_one : {base names : List (List ℕ)} (x : List ℕ) → length x ≤ 128 → Longer base names → Longer base (names ++ (x ∷ []))
longer_one {base} x h w = record {
  more = w.more ++ (x ∷ []);
  is = ap (λ (l : List (List ℕ)). l ++ (x ∷ [])) w.is ∙ append_assoc base w.more (x ∷ []);
  short = all_append w.short (each h none);
}

named_longer : {base : List (List ℕ)} (room : Ceilings) (section start : ℕ) (names : List (List ℕ)) (x : List ℕ) (r : Named) → length x ≤ 128 → Longer base names
    → named room section start names x ≡ accepted r → Longer base r.names
unfolding named
named_longer {base} room section start names x r h w e = go (ltb (number_of names x) (length names)) e
  where
    go : (b : Bool)
        → cond b (accepted (record { names = names; number = number_of names x }))
        (refuse 28 section start (full room names x) >> accepted (record { names = names ++ (x ∷ []); number = length names })) ≡ accepted r
        → Longer base r.names
    go true q = subst (λ (n : Named). Longer base n.names) (same_accepted q) w
    go false q = subst (λ (n : Named). Longer base n.names) (same_accepted (then_inv _ _ _ _ _ _ q).1) (longer_one x h w)

-- the section of a gap has a short name
abbrev Short : (section_name : ℕ → List ℕ) → Gap → Type 0
Short section_name x = length (section_name x.section) ≤ 64

module _ (section_name : ℕ → List ℕ) (g : Given) (room : Ceilings) {base : List (List ℕ)} where
  entered_longer : (x : Gap) → Short section_name x → (s r : Filled) → Longer base s.names → entered section_name g room s x ≡ accepted r → Longer base r.names
  unfolding entered
  entered_longer x h s r w e =
      let a = bind_inv _ _ _ e in
      let b = bind_inv _ _ _ a.2 in
      subst (λ (f : Filled). Longer base f.names) (same_accepted b.2)
      (named_longer room x.section x.start s.names (unit_name section_name g room x) a.0
      (omega (arith, h, gap_short x.section x.start (section_name x.section))) w a.1)

  filled_longer : {gaps : List Gap} → All (Short section_name) gaps → (s r : Filled) → Longer base s.names → filled section_name g room s gaps ≡ accepted r → Longer base r.names
  unfolding filled
  filled_longer none s r w e = subst (λ (f : Filled). Longer base f.names) (same_accepted e) w
  filled_longer (each {x = x} h later) s r w e =
      let a = bind_inv _ _ _ e in
      filled_longer later a.0 r (entered_longer x h s a.0 w a.1) a.2

module _ {file : List ℕ} {t : Loaded} (u : Usable file t) where
  gaps_longer : (room : ℕ) (names : Ceilings) (l : List Split) (r : Filled) → with_gaps file t room names l ≡ accepted r → Longer (names_in file t) r.names
  unfolding with_gaps gaps_filled
  gaps_longer room names l r e =
      let a = bind_inv _ _ _ e in
      filled_longer _ _ _
      (all_map (λ x q. section_short u x.section q.there) (found_lies (image_from file t) (sections_from file t) l a.0 a.1))
      (record { names = names_in file t; rows = l }) r (longer_self (names_in file t)) a.2

  -- THEOREM: the names of the split table are the file's, and short ones behind them
  pub table_longer : (room : ℕ) (names : Ceilings) (r : Filled) → split_table file t room names ≡ accepted r → Longer (names_in file t) r.names
  unfolding split_table
  table_longer room names r e =
      let a = bind_inv _ _ _ e in
      let b = bind_inv _ _ _ a.2 in
      let c = bind_inv _ _ _ b.2 in
      let d = bind_inv _ _ _ c.2 in
      subst (λ (f : Filled). Longer (names_in file t) f.names) (same_accepted d.2) (gaps_longer room names b.0 c.0 c.1)

  -- the file's are not more
  pub names_more : {names : List (List ℕ)} → Longer (names_in file t) names → length t.names ≤ length names
  names_more w = let a = ap length w.is ∙ length-append (names_in file t) w.more in omega (arith, a, length-names_in file t)

  -- ---- the names that were added, in their columns
  module _ (names : List (List ℕ)) (w : Longer (names_in file t) names) (c : Beside) (n used : ℕ) (packed : Packed c.bytes c.places c.lengths n used)
      (e : added c n ≡ drop (length (names_in file t)) names) where
    added_is : added c n ≡ w.more
    added_is = e ∙ ap (drop (length (names_in file t))) w.is ∙ drop_at (names_in file t) w.more (length (names_in file t)) refl

    -- so many they are
    names_are : length names ≡ length t.names + n
    names_are =
        let a = ap length w.is ∙ length-append (names_in file t) w.more in
        let b = ap length added_is in
        omega (arith, a, b, length-names_in file t, length-names c.bytes c.places c.lengths n)

    name_short : (k : ℕ) → k < n → length (name_at c.bytes c.places c.lengths k) ≤ 128
    name_short k h =
        let short : All (λ x. length x ≤ 128) (added c n) = subst (All (λ x. length x ≤ 128)) (sym added_is) w.short in
        let at = all_at k [] short (omega (arith, length-names c.bytes c.places c.lengths n)) in
        let is = ap length (name_there c.bytes c.places c.lengths n k h) in
        omega arith

    added_spelled : (k : ℕ) → k < n → Spelled c k
    unfolding name_at
    added_spelled k h =
        let inside = packed.named.inside k h in
        let long = length-take-le (get_or c.lengths k 0) (drop (get_or c.places k 0) c.bytes) (simp length-drop (omega arith)) in
        let short = name_short k h in
        record { placed = omega (arith, packed.named.placed); measured = omega (arith, packed.named.measured); inside = inside; short = omega arith }

    base_spelled : (k : ℕ) → k < length t.names → Spelled (record { bytes = file; places = t.names; lengths = t.lengths }) k
    base_spelled k h = record { placed = h; measured = omega (arith, measured u); inside = u.good.names.held k h; short = names_short u.good k h }

    -- THEOREM: each name of the run is known
    pub name_known : (k : ℕ) → k < length names → Known (record { bytes = file; places = t.names; lengths = t.lengths }) c k
    name_known k h = record { base = base_spelled k; added = λ q. added_spelled (k - length t.names) (omega (arith, names_are)) }

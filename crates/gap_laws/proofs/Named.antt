-- A gap that entered, step by step: its name stands under its number, names were only added, within the ceilings, and its split was merged. Assumes nothing.
use mathlib.Core.Path.{◌≡◌, refl, sym, ap, ◌∙◌}
use mathlib.Core.List.{List, [], ◌∷◌, ◌++◌, append-nil}
use mathlib.Core.Bool.{Bool, true, false, cond}
use Prim.Native.Nat.{ℕ, ◌+◌, ◌<◌}
use native.Mathlib.Omega.{arith}
use borrow.Author.Tests.{ltb-true, ltb-false, leb-false}
use lib.Dec.{leb, ltb}
use lib.ListN.{length, length-append, get_or}
use lib.Seq.{get_or-append_seam}
use Rattle.std.proofs.lemmas.Bool.{or_parts}
use Rattle.lists.specs.Outcome.{accepted, refuse, ◌>>◌}
use Rattle.lists.specs.Sort.{All, none, each}
use Rattle.lists.proofs.Outcomes.{same_accepted, then_inv, bind_inv}
use Rattle.names.specs.Names.{number_of}
use Rattle.names.specs.Fixed.{codes}
use Rattle.names.specs.GapName.{gap_name}
use Rattle.names.proofs.Laws.{number_there}
use Rattle.merge.specs.Merge.{Given, merge_one}
use Rattle.gap_columns.specs.Columns.{Gap}
use Rattle.gap_splits.specs.Entering.{Filled, Ceilings, Named, bytes_of, full, named, gap_split, unit_name, entered, filled}
use Rattle.gap_splits.proofs.Naming.{bytes_one}
use Rattle.gap_laws.specs.Good.{Within}

-- ---- the name

-- a gap's name is not empty
pub name_long : (section address : ℕ) (name : List ℕ) → 0 < length (gap_name section address name)
unfolding gap_name codes
name_long section address name = omega arith

-- x has its number, and names were only added
pub record Gives (room : Ceilings) (names : List (List ℕ)) (x : List ℕ) (r : Named) : Type 0 where
  pub more : List (List ℕ)
  pub grown : r.names ≡ names ++ more
  pub is : get_or r.names r.number [] ≡ x
  pub within : Within room names → Within room r.names

module _ (room : Ceilings) (section start : ℕ) (names : List (List ℕ)) (x : List ℕ) where
  pub named_gives : (r : Named) → named room section start names x ≡ accepted r → Gives room names x r
  unfolding named
  named_gives r e = go (ltb (number_of names x) (length names)) refl e
    where
      go : (t : Bool) → ltb (number_of names x) (length names) ≡ t
          → cond t (accepted (record { names = names; number = number_of names x })) (refuse 28 section start (full room names x) >> accepted (record { names = names ++ (x ∷ []); number = length names })) ≡ accepted r
          → Gives room names x r
      go true h q = rw (sym (same_accepted q)) (record {
        more = [];
        grown = sym (append-nil names);
        is = number_there names x (ltb-true (number_of names x) (length names) h);
        within = λ w. w;
      })
      go false h q =
          let p = then_inv 28 section start (full room names x) _ r q in
          let o = or_parts (leb room.names (length names)) (ltb room.bytes (bytes_of names + length x)) p.0 in
          rw (sym (same_accepted p.1)) (record {
            more = x ∷ [];
            grown = refl;
            is = get_or-append_seam names x [] [];
            within = λ w. record {
              few = let l = length-append names (x ∷ []) in omega (arith, leb-false room.names (length names) o.0);
              short = let b = bytes_one names x in omega (arith, ltb-false room.bytes (bytes_of names + length x) o.1);
            };
          })

-- ---- a gap
module _ (section_name : ℕ → List ℕ) (g : Given) (room : Ceilings) where
  -- it was named, and then its split was merged
  pub record Comes (t : Filled) (x : Gap) (t' : Filled) : Type 0 where
    pub unit : Named
    pub named_as : named room x.section x.start t.names (unit_name section_name g room x) ≡ accepted unit
    pub names : t'.names ≡ unit.names
    pub merged : merge_one g t.rows (gap_split x unit.number) ≡ accepted t'.rows

  pub entered_comes : (t : Filled) (x : Gap) (t' : Filled) → entered section_name g room t x ≡ accepted t' → Comes t x t'
  unfolding entered
  entered_comes t x t' e =
      let p = bind_inv (named room x.section x.start t.names (unit_name section_name g room x)) _ t' e in
      let q = bind_inv (merge_one g t.rows (gap_split x p.0.number)) _ t' p.2 in
      let s = same_accepted q.2 in record {
        unit = p.0;
        named_as = p.1;
        names = sym (ap (λ (f : Filled). f.names) s);
        merged = q.1 ∙ ap (λ (f : Filled). accepted f.rows) s;
      }

  -- what each gap that enters keeps, all that enter keep
  pub filled_keeps : (P : Filled → Type 0) (Q : Gap → Type 0) → ((t : Filled) (x : Gap) (t' : Filled) → Q x → P t → Comes t x t' → P t')
      → (t t' : Filled) {gaps : List Gap} → All Q gaps → P t → filled section_name g room t gaps ≡ accepted t' → P t'
  unfolding filled
  filled_keeps P Q step t t' none p e = rw (sym (same_accepted e)) p
  filled_keeps P Q step t t' (each {x} {l} q all) p e =
      let r = bind_inv (entered section_name g room t x) _ t' e in
      filled_keeps P Q step r.0 t' all (step t x r.0 q p (entered_comes t x r.0 r.1)) r.2

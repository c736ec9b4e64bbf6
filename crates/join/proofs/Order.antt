-- J2: "The order in which pieces are handed in doesn't alter the bytes." Only which pieces there are counts, so a piece handed in twice alters nothing either.
-- Assumes nothing.
use mathlib.Core.Path.{◌≡◌, refl, sym, ap, ap₂, ◌∙◌}
use mathlib.Core.List.Permᴰ
use mathlib.Core.List.{List, [], ◌∷◌, ◌++◌, Permᴰ}
use mathlib.Core.Bool.{Bool, true, false, cond}
use Prim.Native.Nat.{ℕ, suc}
use lib.Dec.{eqb, ltb}
use Rattle.lists.specs.Outcome.{Outcome, accepted, refuse, ◌>>◌}
use Rattle.lists.proofs.Outcomes.{fails, passes}
use Rattle.lists.proofs.Parts.{tabulate_same}
use Rattle.obj.specs.declared.Section.{Section}
use Rattle.obj.specs.Parts.{Part}
use Rattle.lists.proofs.Among.{Among, some_members, same_test, perm_among}
use Rattle.join.specs.Join.{outside, differ, joined_at, joined_section, joined_from, joined, held, join_of}
use Rattle.join.proofs.Members.{Apart, apart, apart-differ, Byte, of, empty, joined_byte, joined_is, joined_empty}

module _ (s t : List Part) (sub : Among s t) (sup : Among t s) where
  apart_moved : (a b : List Part) → Among a b → Apart a → Apart b
  apart_moved a b f x = record {
    one = x.one;
    other = x.other;
    has_one = f x.one x.has_one;
    has_other = f x.other x.has_other;
    section = x.section;
    address = x.address;
    one_lies = x.one_lies;
    other_lies = x.other_lies;
    unequal = x.unequal;
  }

  pub differ_same : differ s ≡ differ t
  differ_same =
      same_test (differ s) (differ t) (λ e. apart-differ t (apart_moved s t sub (apart s e))) (λ e. apart-differ s (apart_moved t s sup (apart t e)))

  pub joined_at_same : differ s ≡ false → (n x : ℕ) → joined_at s n x ≡ joined_at t n x
  joined_at_same e n x = go (joined_byte s n x)
    where
      go : {b : ℕ} → Byte s n x b → b ≡ joined_at t n x
      go (of p m l h) = h ∙ sym (joined_is t (sym differ_same ∙ e) n x p (sub p m) l)
      go (empty f h) = h ∙ sym (joined_empty t n x (λ p m. f p (sup p m)))

  joined_section_same : differ s ≡ false → (n : ℕ) (head : Section) → joined_section s n head ≡ joined_section t n head
  unfolding joined_section
  joined_section_same e n head =
      ap (cond (eqb head.kind 3) []) (tabulate_same (joined_at s n) (joined_at t n) head.address head.size (λ x low high. joined_at_same e n x))

  pub joined_from_same : differ s ≡ false → (n : ℕ) (heads : List Section) → joined_from s n heads ≡ joined_from t n heads
  unfolding joined_from
  joined_from_same e n [] = refl
  joined_from_same e n (head ∷ later) = ap₂ (λ (a b : List ℕ). a ++ b) (joined_section_same e n head) (joined_from_same e (suc n) later)

  -- lists of pieces with the same members are joined alike
  pub members_only : (heads : List Section) (room : ℕ) → join_of heads room s ≡ join_of heads room t
  unfolding join_of
  members_only heads room =
      ap (λ (m : Outcome (List ℕ)). refuse 80 0 0 (ltb room (held heads)) >> m)
      (ap₂ (λ (b : Bool) (m : Outcome (List ℕ)). refuse 82 0 0 b >> m) (some_members (outside heads) s t sub sup) (go (differ s) refl))
    where
      go : (b : Bool) → differ s ≡ b → (refuse 83 0 0 (differ s) >> accepted (joined heads s)) ≡ (refuse 83 0 0 (differ t) >> accepted (joined heads t))
      go true e = fails _ _ _ _ _ e ∙ sym (fails _ _ _ _ _ (sym differ_same ∙ e))
      go false e =
          passes _ _ _ _ _ e ∙ ap (λ (l : List ℕ). accepted l) (joined_from_same e 0 heads) ∙ sym (passes _ _ _ _ _ (sym differ_same ∙ e))

-- THEOREM J2: for two lists of pieces that are permutations of each other, the answer and the joined bytes are the same
pub order_free : (s t : List Part) → Permᴰ s t → (heads : List Section) (room : ℕ) → join_of heads room s ≡ join_of heads room t
order_free s t q = members_only s t (perm_among q) (perm_among (Permᴰ.symm q))

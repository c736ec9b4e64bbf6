-- Where the sections' bytes stand among the joined ones: each address of a section that holds bytes has one place, and each place is that of one address.
-- Assumes nothing.
use mathlib.Core.Path.{◌≡◌, refl, ap, ap₂, ◌∙◌}
use mathlib.Core.List.{List, [], ◌∷◌, ◌++◌}
use mathlib.Core.Logic.{◌≢◌}
use mathlib.Core.Bool.{Bool, true, false, cond}
use Prim.Native.Nat.{ℕ, zero, suc, ◌+◌, ◌-◌, ◌≤◌, ◌<◌}
use native.Mathlib.Omega.{arith}
use native.Mathlib.Decide.{ℕ_discrete, dec_lt}
use lib.ListN.{length, get_or, take, length-append, get_or-append, get_or-eq_default}
use lib.Seq.{get_or-append-add}
use lib.Dec.{eqb}
use borrow.Author.Tests.{eqb-false, ne_eqb, eq-eqb, ltb-false}
use Rattle.lists.specs.Rows.{tabulate}
use Rattle.lists.proofs.Rows.{length-tabulate, get_d_tabulate}
use Rattle.lists.proofs.Tests.{none_of}
use Rattle.obj.specs.declared.Section.{Section}
use Rattle.obj.specs.Parts.{Part}
use Rattle.join.specs.Join.{nowhere, home_of, outside, joined_at, joined_section, joined_from, joined, held_by, held}
use Rattle.join.specs.Laying.{spot_of}

-- ---- a piece that isn't 82

-- it names a section that holds bytes, and lies in it
pub record Inside (heads : List Section) (p : Part) : Type 0 where
  pub holds : (home_of heads p).kind ≢ 3
  pub low : (home_of heads p).address ≤ p.address
  pub high : p.address + length p.bytes ≤ (home_of heads p).address + (home_of heads p).size

pub inside : (heads : List Section) (p : Part) → outside heads p ≡ false → Inside heads p
unfolding outside
inside heads p e = record {
  holds = eqb-false _ _ (none_of _ 0 e);
  low = ltb-false _ _ (none_of _ 1 e);
  high = ltb-false _ _ (none_of _ 2 e);
}

-- a section that holds bytes is listed
pub listed : (heads : List Section) (n : ℕ) → (get_or heads n nowhere).kind ≢ 3 → n < length heads
listed heads n d = go (dec_lt n (length heads))
  where
    go : Dec (n < length heads) → n < length heads
    go (yes h) = h
    go (no h) = absurd (d (ap (λ (s : Section). s.kind) (get_or-eq_default heads nowhere (omega arith))))

-- ---- how many bytes the sections hold

pub held_by_is : (head : Section) → head.kind ≢ 3 → held_by head ≡ head.size
unfolding held_by
held_by_is head d = rw (ne_eqb _ _ d)

pub held_by-none : (head : Section) → head.kind ≡ 3 → held_by head ≡ 0
unfolding held_by
held_by-none head e = rw (eq-eqb _ _ e)

pub held_suc : (heads : List Section) (n : ℕ) → n < length heads → held (take (suc n) heads) ≡ held (take n heads) + held_by (get_or heads n nowhere)
unfolding held
held_suc [] n h = absurd (omega arith)
held_suc (head ∷ later) zero h = omega arith
held_suc (head ∷ later) (suc n) h =
    let ih = held_suc later n (omega arith) in
    omega arith

pub held-part : (heads : List Section) (n : ℕ) → held (take n heads) ≤ held heads
unfolding held
held-part [] zero = omega arith
held-part [] (suc n) = omega arith
held-part (head ∷ later) zero = omega arith
held-part (head ∷ later) (suc n) =
    let ih = held-part later n in
    omega arith

held_more : (heads : List Section) (a b : ℕ) → a ≤ b → held (take a heads) ≤ held (take b heads)
unfolding held
held_more [] zero zero h = omega arith
held_more [] zero (suc b) h = omega arith
held_more [] (suc a) zero h = absurd (omega arith)
held_more [] (suc a) (suc b) h = omega arith
held_more (head ∷ later) zero zero h = omega arith
held_more (head ∷ later) zero (suc b) h = omega arith
held_more (head ∷ later) (suc a) zero h = absurd (omega arith)
held_more (head ∷ later) (suc a) (suc b) h =
    let ih = held_more later a b (omega arith) in
    omega arith

-- ---- the place of an address

-- place k among the joined bytes is address x of section n, which holds bytes
pub record Place (heads : List Section) (n x k : ℕ) : Type 0 where
  pub holds : (get_or heads n nowhere).kind ≢ 3
  pub low : (get_or heads n nowhere).address ≤ x
  pub high : x < (get_or heads n nowhere).address + (get_or heads n nowhere).size
  pub place : k ≡ held (take n heads) + (x - (get_or heads n nowhere).address)

-- it lies between the bytes of the sections before and those of the sections after
pub record Between (heads : List Section) (n k : ℕ) : Type 0 where
  pub from : held (take n heads) ≤ k
  pub to : k < held (take (suc n) heads)

pub between : (heads : List Section) (n x k : ℕ) → Place heads n x k → Between heads n k
between heads n x k p =
    let l = listed heads n p.holds in
    let s = held_suc heads n l in
    let b = held_by_is (get_or heads n nowhere) p.holds in
    record { from = omega arith; to = omega arith }

pub below-held : (heads : List Section) (n x k : ℕ) → Place heads n x k → k < held heads
below-held heads n x k p =
    let b = between heads n x k p in
    let h = held-part heads (suc n) in
    omega arith

-- THEOREM: one place, one address
pub one_section : (heads : List Section) (n m k : ℕ) → Between heads n k → Between heads m k → n ≡ m
one_section heads n m k a b = go (dec_lt n m) (dec_lt m n)
  where
    go : Dec (n < m) → Dec (m < n) → n ≡ m
    go (yes h) c = let s = held_more heads (suc n) m h in absurd (omega arith)
    go (no h) (yes g) = let s = held_more heads (suc m) n g in absurd (omega arith)
    go (no h) (no g) = omega arith

-- ---- the joined bytes, place by place

pub joined_section-held : (parts : List Part) (n : ℕ) (head : Section) → length (joined_section parts n head) ≡ held_by head
unfolding joined_section held_by
joined_section-held parts n head = go (eqb head.kind 3)
  where
    go : (b : Bool) → length (cond b [] (tabulate (joined_at parts n) head.address head.size)) ≡ cond b 0 head.size
    go true = refl
    go false = length-tabulate (joined_at parts n) head.address head.size

length-joined_from : (parts : List Part) (n : ℕ) (heads : List Section) → length (joined_from parts n heads) ≡ held heads
unfolding joined_from held
length-joined_from parts n [] = refl
length-joined_from parts n (head ∷ later) =
    length-append (joined_section parts n head) (joined_from parts (suc n) later)
    ∙ ap₂ (λ (a b : ℕ). a + b) (joined_section-held parts n head) (length-joined_from parts (suc n) later)

-- THEOREM: as many bytes as the sections hold
pub length-joined : (heads : List Section) (parts : List Part) → length (joined heads parts) ≡ held heads
length-joined heads parts = length-joined_from parts 0 heads

pub section_reads : (parts : List Part) (n : ℕ) (head : Section) (i : ℕ) → head.kind ≢ 3 → i < head.size
    → get_or (joined_section parts n head) i 0 ≡ joined_at parts n (head.address + i)
unfolding joined_section
section_reads parts n head i d h = rw (ne_eqb _ _ d) (get_d_tabulate (joined_at parts n) head.address head.size i 0 h)

from_reads : (parts : List Part) (m : ℕ) (heads : List Section) (n x : ℕ) → (get_or heads n nowhere).kind ≢ 3 → (get_or heads n nowhere).address ≤ x
    → x < (get_or heads n nowhere).address + (get_or heads n nowhere).size
    → get_or (joined_from parts m heads) (held (take n heads) + (x - (get_or heads n nowhere).address)) 0 ≡ joined_at parts (m + n) x
unfolding joined_from held
from_reads parts m [] n x d low high = absurd (let h = listed [] n d in omega arith)
from_reads parts m (head ∷ later) zero x d low high =
    let long = joined_section-held parts m head in
    let b = held_by_is head d in
    ap (λ (k : ℕ). get_or (joined_section parts m head ++ joined_from parts (suc m) later) k 0) (let e : 0 + (x - head.address) ≡ x - head.address = omega arith in e)
    ∙ get_or-append (joined_section parts m head) (joined_from parts (suc m) later) 0 (x - head.address) (omega arith)
    ∙ section_reads parts m head (x - head.address) d (omega arith)
    ∙ ap₂ (λ (a b : ℕ). joined_at parts a b) (let e : m ≡ m + 0 = omega arith in e) (let e : head.address + (x - head.address) ≡ x = omega arith in e)
from_reads parts m (head ∷ later) (suc n) x d low high =
    let long = joined_section-held parts m head in
    let i = held (take n later) + (x - (get_or later n nowhere).address) in
    ap (λ (k : ℕ). get_or (joined_section parts m head ++ joined_from parts (suc m) later) k 0)
    (let e : held_by head + held (take n later) + (x - (get_or later n nowhere).address) ≡ length (joined_section parts m head) + i = omega arith in e)
    ∙ get_or-append-add (joined_section parts m head) (joined_from parts (suc m) later) i 0
    ∙ from_reads parts (suc m) later n x d low high
    ∙ ap (λ (a : ℕ). joined_at parts a x) (let e : suc m + n ≡ m + suc n = omega arith in e)

-- THEOREM: the joined bytes have at each address of each section that holds bytes the joined byte of that address
pub joined_reads : (heads : List Section) (parts : List Part) (n x k : ℕ) → Place heads n x k → get_or (joined heads parts) k 0 ≡ joined_at parts n x
joined_reads heads parts n x k p =
    ap (λ (i : ℕ). get_or (joined heads parts) i 0) p.place
    ∙ from_reads parts 0 heads n x p.holds p.low p.high
    ∙ ap (λ (a : ℕ). joined_at parts a x) (let e : 0 + n ≡ n = omega arith in e)

-- THEOREM: each place is an address of a section that holds bytes
pub place_of : (heads : List Section) (k : ℕ) → k < held heads → (n : ℕ) × (x : ℕ) × Place heads n x k
unfolding held
place_of [] k h = absurd (omega arith)
place_of (head ∷ later) k h = go (ℕ_discrete head.kind 3) (dec_lt k (held_by head)) (place_of later)
  where
    first : head.kind ≢ 3 → k < held_by head → (n : ℕ) × (x : ℕ) × Place (head ∷ later) n x k
    first d l =
        let b = held_by_is head d in
        (0, head.address + k, record { holds = d; low = omega arith; high = omega arith; place = omega arith })

    after : held_by head ≤ k → (n : ℕ) × (x : ℕ) × Place later n x (k - held_by head) → (n : ℕ) × (x : ℕ) × Place (head ∷ later) n x k
    after l r = let p = r.2 in (suc r.0, r.1, record { holds = p.holds; low = p.low; high = p.high; place = let e = p.place in omega arith })

    go : Dec (head.kind ≡ 3) → Dec (k < held_by head) → ((i : ℕ) → i < held later → (n : ℕ) × (x : ℕ) × Place later n x i)
        → (n : ℕ) × (x : ℕ) × Place (head ∷ later) n x k
    go (yes e) c ih = let z = held_by-none head e in after (omega arith) (ih (k - held_by head) (omega arith))
    go (no d) (yes l) ih = first d l
    go (no d) (no l) ih = after (omega arith) (ih (k - held_by head) (omega arith))

-- a piece that isn't 82 fits among the bytes held
pub spot-fits : (heads : List Section) (p : Part) → Inside heads p → spot_of heads p + length p.bytes ≤ held heads
spot-fits heads p i =
    let s = held_suc heads p.section (listed heads p.section i.holds) in
    let b = held_by_is (home_of heads p) i.holds in
    let h = held-part heads (suc p.section) in
    omega arith

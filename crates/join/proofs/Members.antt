-- What the tests of the join mean: where a piece lies, that two pieces differ, and the joined byte, each in terms of the members of the list. Assumes nothing.
use mathlib.Core.Path.{◌≡◌, refl, sym, ap, ◌∙◌}
use mathlib.Core.List.{List, [], ◌∷◌, Memᴰ}
use mathlib.Core.Logic.{◌⊎◌, inl, inr}
use mathlib.Core.Bool.{Bool, true, false, cond, not, false≢true}
use Prim.Native.Nat.{ℕ, ◌+◌, ◌≤◌, ◌<◌}
use lib.ListN.{length}
use borrow.Author.Tests.{eq-eqb, eqb-true, eqb-false, ltb-true, leb-true, lt-ltb, le-leb, not-true}
use Rattle.std.proofs.lemmas.Bool.{and_parts, and_from}
use Rattle.lists.proofs.Among.{some_by, some_member, range_member, member_range}
use Rattle.obj.specs.Parts.{Part}
use Rattle.join.specs.Join.{covers, byte_of, addresses, differ_at, differ, joined_at}

-- ---- where a piece lies

-- a piece of section n, from its address on and so long as its bytes
pub record Lies (n x : ℕ) (p : Part) : Type 0 where
  pub of : p.section ≡ n
  pub low : p.address ≤ x
  pub high : x < p.address + length p.bytes

pub lies : (n x : ℕ) (p : Part) → covers n x p ≡ true → Lies n x p
unfolding covers
lies n x p e =
    let r = and_parts _ _ e in
    let s = and_parts _ _ r.1 in
    record { of = eqb-true _ _ r.0; low = leb-true _ _ s.0; high = ltb-true _ _ s.1 }

pub lies_covers : (n x : ℕ) (p : Part) → Lies n x p → covers n x p ≡ true
unfolding covers
lies_covers n x p l = and_from _ _ (eq-eqb _ _ l.of) (and_from _ _ (le-leb _ _ l.low) (lt-ltb _ _ l.high))

-- ---- two pieces that differ

-- two pieces of the list, of section n, both at address x, with different bytes there
pub record Apart (parts : List Part) : Type 0 where
  pub one : Part
  pub other : Part
  pub has_one : Memᴰ one parts
  pub has_other : Memᴰ other parts
  pub section : ℕ
  pub address : ℕ
  pub one_lies : Lies section address one
  pub other_lies : Lies section address other
  pub unequal : byte_of address one ≡ byte_of address other → ⊥

-- THEOREM: 83 says that there are such
pub apart : (parts : List Part) → differ parts ≡ true → Apart parts
unfolding differ addresses differ_at
apart parts e =
    let r = some_member _ parts e in
    let s = some_member _ parts r.2 in
    let t = some_member _ (addresses s.0) s.2 in
    let m = member_range s.0.address (length s.0.bytes) t.0 t.1 in
    let d = and_parts _ _ t.2 in
    record {
      one = r.0;
      other = s.0;
      has_one = r.1;
      has_other = s.1;
      section = s.0.section;
      address = t.0;
      one_lies = lies _ _ _ d.0;
      other_lies = record { of = refl; low = m.0; high = m.1 };
      unequal = eqb-false _ _ (not-true _ d.1);
    }

-- .. and nothing else
pub apart-differ : (parts : List Part) → Apart parts → differ parts ≡ true
unfolding differ addresses differ_at
apart-differ parts a =
    let o = a.other_lies in
    some_by _ a.has_one
    (some_by _ a.has_other
    (some_by _ (range_member a.other.address (length a.other.bytes) a.address o.low o.high)
    (and_from _ _
    (lies_covers _ _ _ (record { of = a.one_lies.of ∙ sym o.of; low = a.one_lies.low; high = a.one_lies.high }))
    (ap not (borrow.Author.Tests.ne_eqb _ _ a.unequal)))))

-- THEOREM: pieces that don't differ agree wherever two of a section lie
pub meets : (parts : List Part) → differ parts ≡ false → (n x : ℕ) (p q : Part) → Memᴰ p parts → Memᴰ q parts → Lies n x p → Lies n x q
    → byte_of x p ≡ byte_of x q
meets parts e n x p q mp mq lp lq = go (native.Mathlib.Decide.ℕ_discrete (byte_of x p) (byte_of x q))
  where
    go : Dec (byte_of x p ≡ byte_of x q) → byte_of x p ≡ byte_of x q
    go (yes h) = h
    go (no h) =
        absurd (false≢true (sym e ∙ apart-differ parts (record {
          one = p;
          other = q;
          has_one = mp;
          has_other = mq;
          section = n;
          address = x;
          one_lies = lp;
          other_lies = lq;
          unequal = h;
        })))

-- ---- the joined byte

-- the byte at address x of section n: of a piece that lies there, or zero where none does
pub data Byte (parts : List Part) (n x byte : ℕ) : Type 0 where
  of : (p : Part) → Memᴰ p parts → Lies n x p → byte ≡ byte_of x p → Byte parts n x byte
  empty : ((p : Part) → Memᴰ p parts → Lies n x p → ⊥) → byte ≡ 0 → Byte parts n x byte

pub joined_byte : (parts : List Part) (n x : ℕ) → Byte parts n x (joined_at parts n x)
unfolding joined_at
joined_byte [] n x = empty (λ p m l. mathlib.Core.List.Memᴰ.not-nil m) refl
joined_byte (p ∷ later) n x = go (covers n x p) refl (joined_byte later n x)
  where
    go : (b : Bool) → covers n x p ≡ b → Byte later n x (joined_at later n x) → Byte (p ∷ later) n x (cond b (byte_of x p) (joined_at later n x))
    go true e ih = of p (Memᴰ.head refl) (lies n x p e) refl
    go false e (of q m l h) = of q (Memᴰ.tail m) l h
    go false e (empty f h) = empty (λ q m l. other q l (mathlib.Core.List.Memᴰ.cases_cons m) (f q)) h
      where
        other : (q : Part) → Lies n x q → (q ≡ p) ⊎ Memᴰ q later → (Memᴰ q later → Lies n x q → ⊥) → ⊥
        other q l (inl s) f = false≢true (sym e ∙ ap (covers n x) (sym s) ∙ lies_covers n x q l)
        other q l (inr m) f = f m l

-- THEOREM: where the pieces agree, it is the byte of each piece that lies there
pub joined_is : (parts : List Part) → differ parts ≡ false → (n x : ℕ) (p : Part) → Memᴰ p parts → Lies n x p → joined_at parts n x ≡ byte_of x p
joined_is parts e n x p m l = go (joined_byte parts n x)
  where
    go : {b : ℕ} → Byte parts n x b → b ≡ byte_of x p
    go (of q mq lq h) = h ∙ meets parts e n x q p mq m lq l
    go (empty f h) = absurd (f p m l)

-- .. and zero where none lies
pub joined_empty : (parts : List Part) (n x : ℕ) → ((p : Part) → Memᴰ p parts → Lies n x p → ⊥) → joined_at parts n x ≡ 0
joined_empty parts n x f = go (joined_byte parts n x)
  where
    go : {b : ℕ} → Byte parts n x b → b ≡ 0
    go (of q mq lq h) = absurd (f q mq lq)
    go (empty g h) = h

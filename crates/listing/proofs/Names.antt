-- A name of the base or of those that were added: that of the names one after another (`name_listed`). Assumes nothing.
use mathlib.Core.Path.{◌≡◌, sym, ap, ◌∙◌}
use mathlib.Core.List.{List, [], ◌++◌}
use mathlib.Core.Bool.{Bool, cond}
use mathlib.Core.Logic.{◌⊎◌, inl, inr}
use Prim.Native.Nat.{ℕ, ◌+◌, ◌-◌, ◌≤◌, ◌<◌}
use native.Mathlib.Omega.{arith}
use borrow.Author.Tests.{lt-ltb, le-ltb}
use lib.ListN.{length, get_or, drop, length-take, get_or-append}
use lib.Seq.{get_or-append-add}
use Rattle.std.proofs.lemmas.Bool.{cases_lt}
use Rattle.names.specs.Names.{name_at, names_of, Named}
use Rattle.names.proofs.Laws.{length-names, name_there}
use Rattle.names.specs.Append.{Columns}
use Rattle.listing.specs.Tables.{name_in, Spelled, Known, Name}

name_short : (c : Columns) (k : ℕ) → Spelled c k → length (name_at c.bytes c.places c.lengths k) ≤ 128
unfolding name_at
name_short c k s =
    let e = length-take (get_or c.lengths k 0) (drop (get_or c.places k 0) c.bytes) in
    let h = s.short in
    omega arith

module _ (base added : Columns) (k : ℕ) {r : List ℕ} where
  pub base_name : k < length base.places → Spelled base k → r ≡ name_at base.bytes base.places base.lengths k → Name base added k r
  base_name h s e = record {
    is =
        e
        ∙ sym
        (ap
        (λ (t : Bool).
        cond t (name_at base.bytes base.places base.lengths k)
        (name_at added.bytes added.places added.lengths (k - length base.places)))
        (lt-ltb k (length base.places) h));
    short = let q = name_short base k s in let l = ap length e in omega arith;
  }

  pub added_name : length base.places ≤ k → Spelled added (k - length base.places)
      → r ≡ name_at added.bytes added.places added.lengths (k - length base.places) → Name base added k r
  added_name h s e = record {
    is =
        e
        ∙ sym
        (ap
        (λ (t : Bool).
        cond t (name_at base.bytes base.places base.lengths k)
        (name_at added.bytes added.places added.lengths (k - length base.places)))
        (le-ltb k (length base.places) h));
    short = let q = name_short added (k - length base.places) s in let l = ap length e in omega arith;
  }

-- where `count` names were added, a name is that of the names one after another
pub name_listed : (base added : Columns) (count k : ℕ) → k < length base.places + count
    → name_in base added k
    ≡ get_or (names_of base.bytes base.places base.lengths (length base.places) ++ names_of added.bytes added.places added.lengths count) k []
name_listed base added count k h = go (cases_lt k n)
  where
    n : ℕ
    n = length base.places

    old : List (List ℕ)
    old = names_of base.bytes base.places base.lengths n

    new : List (List ℕ)
    new = names_of added.bytes added.places added.lengths count

    go : (k < n) ⊎ (n ≤ k) → name_in base added k ≡ get_or (old ++ new) k []
    go (inl q) =
        ap (λ (t : Bool). cond t (name_at base.bytes base.places base.lengths k) (name_at added.bytes added.places added.lengths (k - n))) (lt-ltb k n q)
        ∙ sym
        (get_or-append old new [] k (let e = length-names base.bytes base.places base.lengths n in omega arith)
        ∙ name_there base.bytes base.places base.lengths n k q)
    go (inr q) =
        ap (λ (t : Bool). cond t (name_at base.bytes base.places base.lengths k) (name_at added.bytes added.places added.lengths (k - n))) (le-ltb k n q)
        ∙ sym (name_there added.bytes added.places added.lengths count (k - n) (omega arith))
        ∙ sym (get_or-append-add old new (k - n) [])
        ∙ ap (λ (i : ℕ). get_or (old ++ new) i []) (let e = length-names base.bytes base.places base.lengths n in omega arith)

-- names of tables that are named, each of at most 128 bytes, are known
pub known_named : (base added : Columns) (count k : ℕ) → Named base.bytes base.places base.lengths (length base.places)
    → Named added.bytes added.places added.lengths count → ((i : ℕ) → i < length base.places → get_or base.lengths i 0 ≤ 128)
    → ((i : ℕ) → i < count → get_or added.lengths i 0 ≤ 128) → k < length base.places + count → Known base added k
known_named base added count k b a few more h = record {
  base = λ q. record { placed = q; measured = let u = b.measured in omega arith; inside = b.inside k q; short = few k q };
  added =
      λ q.
      let there : k - length base.places < count = omega arith in record {
        placed = let u = a.placed in omega arith;
        measured = let u = a.measured in omega arith;
        inside = a.inside (k - length base.places) there;
        short = more (k - length base.places) there;
      };
}

-- The joiner's answers: each refusal in its order, and what was laid over zeros, where it is accepted. Assumes nothing.
use mathlib.Core.Path.{◌≡◌, sym, ap, ap₂, ◌∙◌}
use mathlib.Core.List.{List, ◌++◌}
use mathlib.Core.Bool.{Bool, true, false}
use Prim.Native.Nat.{ℕ, ◌≤◌, ◌<◌}
use native.Mathlib.Omega.{arith}
use lib.ListN.{length, get_or, drop, replicate, length-append, length-replicate, length-drop, get_or-replicate, get_or-append, take-append-drop}
use lib.Seq.{drop_at}
use borrow.Author.Tests.{lt-ltb, le-ltb}
use Rattle.lists.specs.Outcome.{Outcome, accepted, refused}
use Rattle.lists.specs.Rows.{some}
use Rattle.lists.proofs.Binds.{bind_goes, bind_stops}
use Rattle.lists.proofs.Outcomes.{fails, passes, not_both, same_accepted}
use Rattle.obj.specs.Answers.{meaning}
use Rattle.obj.specs.Answers.{Answer}
use Rattle.std.specs.Prelude.{Ok, Err}
use Rattle.obj.specs.declared.Section.{Section}
use Rattle.obj.specs.Parts.{Part}
use Rattle.join.specs.Join.{outside, differ, joined, held, join_of}
use Rattle.join.specs.Laying.{laid_over, some_unlike}
use Rattle.join.proofs.Sizes.{length-joined}
use Rattle.join.proofs.Law.{laying_finds, laying_joins, laying_keeps, laid-length}
use Rattle.join_pieces.specs.Joins.{Joins, zeroed}

-- ---- the first refusal

module _ (heads : List Section) (room : ℕ) (parts : List Part) where
  pub is_80 : room < held heads → join_of heads room parts ≡ refused 80 0 0
  unfolding join_of
  is_80 h = fails 80 0 0 _ _ (lt-ltb _ _ h)

  pub is_82 : held heads ≤ room → some (outside heads) parts ≡ true → join_of heads room parts ≡ refused 82 0 0
  unfolding join_of
  is_82 h e = passes 80 0 0 _ _ (le-ltb _ _ h) ∙ fails 82 0 0 _ _ e

  pub is_83 : held heads ≤ room → some (outside heads) parts ≡ false → differ parts ≡ true → join_of heads room parts ≡ refused 83 0 0
  unfolding join_of
  is_83 h e d = passes 80 0 0 _ _ (le-ltb _ _ h) ∙ passes 82 0 0 _ _ e ∙ fails 83 0 0 _ _ d

  pub is_joined : held heads ≤ room → some (outside heads) parts ≡ false → differ parts ≡ false → join_of heads room parts ≡ accepted (joined heads parts)
  unfolding join_of
  is_joined h e d = passes 80 0 0 _ _ (le-ltb _ _ h) ∙ passes 82 0 0 _ _ e ∙ passes 83 0 0 _ _ d

-- ---- what was laid

module _ (heads : List Section) (parts : List Part) (out : List ℕ) (total : ℕ) (is : total ≡ held heads) (room : total ≤ length out)
    (all_in : some (outside heads) parts ≡ false) where
  zeroed-length : length (zeroed total out) ≡ length out
  zeroed-length =
      omega (arith, length-append (replicate total 0) (drop total out), length-replicate {A = ℕ} total 0, length-drop total out)

  roomy : held heads ≤ length (zeroed total out)
  roomy = let z = zeroed-length in omega arith

  zeros : (k : ℕ) → k < held heads → get_or (zeroed total out) k 0 ≡ 0
  zeros k h =
      let long = length-replicate {A = ℕ} total 0 in
      get_or-append (replicate total 0) (drop total out) 0 k (omega arith) ∙ get_or-replicate total k 0 0 (omega arith)

  -- comparing with it finds 83
  found : some_unlike heads (laid_over heads parts (zeroed total out)) parts ≡ differ parts
  found = laying_finds heads parts (zeroed total out) all_in roomy

  found-length : length (laid_over heads parts (zeroed total out)) ≡ length out
  found-length = laid-length heads parts (zeroed total out) ∙ zeroed-length

  -- it is the joined bytes, and those past them stay
  pub laid_is : differ parts ≡ false → laid_over heads parts (zeroed total out) ≡ joined heads parts ++ drop (length (joined heads parts)) out
  laid_is d =
      sym (take-append-drop (held heads) (laid_over heads parts (zeroed total out)))
      ∙ ap₂ (λ (a b : List ℕ). a ++ b)
      (laying_joins heads parts (zeroed total out) all_in roomy zeros d)
      (laying_keeps heads parts (zeroed total out) all_in roomy
      ∙ drop_at (replicate total 0) (drop total out) (held heads) (length-replicate total 0 ∙ is)
      ∙ ap (λ (k : ℕ). drop k out) (is ∙ sym (length-joined heads parts)))

  module _ {after : List ℕ} (laid : after ≡ laid_over heads parts (zeroed total out)) where
    pub after_long : length after ≡ length out
    after_long = ap length laid ∙ found-length

    pub after_roomy : held heads ≤ length after
    after_roomy = let l = after_long in omega arith

    pub after_differ : {r : Bool} → r ≡ some_unlike heads after parts → differ parts ≡ r
    after_differ e = sym found ∙ ap (λ (l : List ℕ). some_unlike heads l parts) (sym laid) ∙ sym e

-- ---- what the joiner leaves

module _ {o : Outcome (List ℕ)} {before after : List ℕ} {answer : Answer} where
  pub joins_refused : {number section address : ℕ} → answer ≡ Err (record { number = number; section = section; address = address }) → o ≡ refused number section address → length after ≡ length before
      → Joins o before answer after
  joins_refused e r l = record {
    said = ap meaning e ∙ sym (bind_stops o _ _ _ _ r);
    long = l;
    laid = λ bytes q. absurd (not_both (sym r ∙ q));
  }

  pub joins_accepted : (bytes : List ℕ) → answer ≡ Ok tt → o ≡ accepted bytes → length after ≡ length before → after ≡ bytes ++ drop (length bytes) before
      → Joins o before answer after
  joins_accepted bytes e r l is = record {
    said = ap meaning e ∙ sym (bind_goes o _ bytes r);
    long = l;
    laid = λ b q. is ∙ ap (λ (x : List ℕ). x ++ drop (length x) before) (same_accepted (sym r ∙ q));
  }

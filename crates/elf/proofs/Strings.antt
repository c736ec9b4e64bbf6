-- Strings of a string table: the search for the NUL that ends one, and the last NUL of the table, below which every string is ended. Assumes nothing.
use mathlib.Core.Path.{◌≡◌, refl, sym, ap, ◌∙◌}
use mathlib.Core.List.{List, []}
use mathlib.Core.Bool.{Bool, true, false, ◌||◌}
use Prim.Native.Nat.{ℕ, zero, suc, ◌+◌, ◌-◌, ◌≤◌, ◌<◌}
use native.Mathlib.Nat.{add-zero, add-suc}
use native.Mathlib.Omega.{arith}
use borrow.Author.Tests.{eq-eqb, ne_eqb, le-ltb, ltb-true, ltb-false}
use lib.Dec.{ltb}
use lib.ListN.{length, get_or, take, drop, length-drop, drop_of_length-le}
use Rattle.lists.specs.Rows.{first_in, some}
use Rattle.lists.proofs.FirstIn.{first_in_is, first_in-none}
use Rattle.lists.proofs.Some.{some_turn}
use Rattle.std.proofs.lemmas.List.{get_or-drop}
use Rattle.std.proofs.lemmas.List.Recursion.{or_from_places}
use Rattle.elf.specs.Strings.{is_nul, string_at, ended_at, Spanned, EndedBelow}

-- ---- the search for the NUL

-- the rest of the table from `at` on
module _ (table : List ℕ) (at : ℕ) (h : at ≤ length table) {rest : List ℕ} (same : rest ≡ drop at table) where
  long : length rest ≡ length table - at
  long = ap length same ∙ length-drop at table

  -- the first NUL stands k bytes further on
  pub nul_found : (k : ℕ) → k < length rest → get_or rest k 0 ≡ 0 → ((j : ℕ) → j < k → get_or rest j 0 ≡ 0 → ⊥) → Spanned table at k
  nul_found k q e before = record {
    is = sym (ap (first_in is_nul) (sym same) ∙ first_in_is is_nul rest k 0 q (eq-eqb (get_or rest k 0) 0 e) (λ j l. ne_eqb (get_or rest j 0) 0 (before j l)));
    within = omega (arith, long);
  }

  -- there is none: all bytes from there on
  pub nul_none : ((j : ℕ) → j < length rest → get_or rest j 0 ≡ 0 → ⊥) → Spanned table at (length table - at)
  nul_none none = record {
    is = sym (ap (first_in is_nul) (sym same) ∙ first_in-none is_nul rest 0 (λ j l. ne_eqb (get_or rest j 0) 0 (none j l)) ∙ long);
    within = omega arith;
  }

-- the part from `at` on that the search found
pub string_part : (table : List ℕ) (at : ℕ) {r : ℕ} → Spanned table at r → take (at + r - at) (drop at table) ≡ string_at table at
unfolding string_at
string_part table at {r} s = ap (λ (k : ℕ). take k (drop at table)) (let e : at + r - at ≡ first_in is_nul (drop at table) = omega (arith, s.is) in e)

-- past the table there is no string
pub string_past : (table : List ℕ) (at : ℕ) → length table < at → [] ≡ string_at table at
unfolding string_at first_in
string_past table at h = rw (drop_of_length-le table (let q : length table ≤ at = omega arith in q))

-- ---- the last NUL

-- no byte from n on is NUL
pub record NoneFrom (table : List ℕ) (n : ℕ) : Type 0 where
  pub within : n ≤ length table
  pub none : (at : ℕ) → n ≤ at → ended_at table at ≡ false

module _ (table : List ℕ) where
  ended_turn : (i : ℕ) → i < length table → ended_at table i ≡ (is_nul (get_or table i 0) || ended_at table (i + 1))
  unfolding ended_at
  ended_turn i h = some_turn is_nul table i 0 h

  pub none_from : (n : ℕ) → n ≤ length table → ((j : ℕ) → n ≤ j → j < length table → get_or table j 0 ≡ 0 → ⊥) → NoneFrom table n
  unfolding ended_at some
  none_from n h f = record {
    within = h;
    none = λ at q. or_from_places (some is_nul) is_nul refl (λ _ _. refl) (drop at table) 0
        (λ i l. rw get_or-drop (ne_eqb (get_or table (at + i) 0) 0 (f (at + i) (omega arith) (omega (arith, length-drop at table)))));
  }

  -- a NUL at i ends every string that starts at or below it
  ended_to : (d at : ℕ) → at + d < length table → get_or table (at + d) 0 ≡ 0 → ended_at table at ≡ true
  ended_to zero at h e = ended_turn at (omega arith) ∙ rw (eq-eqb (get_or table at 0) 0 (rw add-zero at e))
  ended_to (suc d) at h e =
      let next : at + 1 + d ≡ at + suc d = omega (arith, add-suc at d) in
      ended_turn at (omega arith)
      ∙ rw (ended_to d (at + 1) (omega arith) (ap (λ (k : ℕ). get_or table k 0) next ∙ e)) (or_true (is_nul (get_or table at 0)))
    where
      or_true : (t : Bool) → (t || true) ≡ true
      or_true true = refl
      or_true false = refl

  pub last_nul : (n : ℕ) → NoneFrom table n → 0 < n → get_or table (n - 1) 0 ≡ 0 → EndedBelow table n
  last_nul n h p e = record {
    within = h.within;
    ended = λ at. go at (ltb at n) refl;
  }
    where
      go : (at : ℕ) (t : Bool) → ltb at n ≡ t → ended_at table at ≡ t
      go at true s =
          let q = ltb-true at n s in
          let there : at + (n - 1 - at) ≡ n - 1 = omega arith in
          ended_to (n - 1 - at) at (omega (arith, h.within)) (ap (λ (k : ℕ). get_or table k 0) there ∙ e)
      go at false s = h.none at (ltb-false at n s)

  pub no_nul : NoneFrom table 0 → EndedBelow table 0
  no_nul h = record { within = h.within; ended = λ at. h.none at (omega arith) ∙ sym (le-ltb at 0 (omega arith)) }

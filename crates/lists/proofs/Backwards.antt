-- `find` over a range that is gone through from its end: the first number that passes there is the last of the range. Assumes nothing.
use mathlib.Core.Path.{◌≡◌, refl, sym, ap, subst, ◌∙◌}
use mathlib.Core.Logic.{◌⊎◌, inl, inr}
use mathlib.Core.List.{List, [], ◌∷◌}
use mathlib.Core.Bool.{Bool, true, false}
use Prim.Native.Nat.{ℕ, ◌+◌, ◌-◌, ◌≤◌, ◌<◌}
use native.Mathlib.Omega.{arith}
use denote.Ref.{Bor}
use denote.Param.Members.{Mut}
use Rattle.std.specs.Prelude.{Option, None, Some, MatchOption, ⊤}
use Rattle.std.specs.Fn.{CalledAt}
use Rattle.std.specs.List.{FoldsTo}
use Rattle.std.specs.Iterator.{Yields, YieldsThen}
use Rattle.std.specs.declared.iter.Rev.{Rev}
use Rattle.std.specs.declared.ops.Range.{Range}
use Rattle.std.proofs.lemmas.Bool.{cases_lt}

-- one call: the end goes down to the number that is given, until there is none
abbrev pub Falls : Rev (Range ℕ) → Option ℕ → Rev (Range ℕ) → Type 0
Falls s r t = (t.iter.start ≡ s.iter.start)
    × MatchOption r ((s.iter.end - s.iter.start ≡ 0) × (t.iter.end ≡ s.iter.end)) (λ x. (0 < s.iter.end - s.iter.start) × (x ≡ t.iter.end) × (s.iter.end ≡ t.iter.end + 1))

module _ {F : Type 0} {g : Mut F (Bor ℕ × Unit {0}) Bool} (f : F) (Yes No : ℕ → Type 0)
    (yes_at : (x : ℕ) (q : F) → CalledAt g f x true q → Yes x) (no_at : (x : ℕ) (q : F) → CalledAt g f x false q → (q ≡ f) × No x) where
  -- what the search says, of the numbers from `low` to before `end`
  abbrev Found : ℕ → ℕ → Option ℕ → Type 0
  Found low end r = MatchOption r ((k : ℕ) → low ≤ k → k < end → No k) (λ i. (low ≤ i) × (i < end) × Yes i × ((k : ℕ) → i < k → k < end → No k))

  ends : (t u : Rev (Range ℕ)) (r : Option ℕ) → Falls t r u → MatchOption r ⊤ (λ x. (h : F) × CalledAt g f x true h) → Found t.iter.start t.iter.end r
  ends t u None e m = λ k a b. absurd (omega (arith, e.1.0))
  ends t u (Some x) e m = (omega (arith, e.0, e.1.0, e.1.1, e.1.2), omega (arith, e.1.1, e.1.2), yes_at x m.0 m.1, λ k a b. absurd (omega (arith, e.1.1, e.1.2)))

  -- the highest number does not pass
  above : (low end x top : ℕ) (r : Option ℕ) → top ≡ end + 1 → x ≡ end → No x → Found low end r → Found low top r
  above low end x top None e q n h = λ k a b. by k a b (cases_lt k end)
    where
      by : (k : ℕ) → low ≤ k → k < top → (k < end) ⊎ (end ≤ k) → No k
      by k a b (inl l) = h k a l
      by k a b (inr l) = subst No (let z : x ≡ k = omega (arith, e, q) in z) n
  above low end x top (Some i) e q n h = (h.0, omega (arith, e, h.1), h.2, λ k a b. by k a b (cases_lt k end))
    where
      by : (k : ℕ) → i < k → k < top → (k < end) ⊎ (end ≤ k) → No k
      by k a b (inl l) = h.3 k a l
      by k a b (inr l) = subst No (let z : x ≡ k = omega (arith, e, q) in z) n

  steps : (xs : List ℕ) (s t u : Rev (Range ℕ)) (j : F) (r : Option ℕ) → Yields Falls s xs t → Falls t r u → FoldsTo (λ p x q. CalledAt g p x false q) f xs j
      → MatchOption r ⊤ (λ x. (h : F) × CalledAt g j x true h) → Found s.iter.start s.iter.end r
  steps [] s t u j r y e c m =
      subst (λ (k : Rev (Range ℕ)). Found k.iter.start k.iter.end r) (sym y) (ends t u r e (subst (λ (k : F). MatchOption r ⊤ (λ x. (h : F) × CalledAt g k x true h)) (sym c) m))
  steps (x ∷ xs) s t u j r y e c m =
      let n = no_at x c.0 c.1 in
      let rest = steps xs y.0 t u j r y.2 e (subst (λ (k : F). FoldsTo (λ p z q. CalledAt g p z false q) k xs j) n.0 c.2) m in
      above s.iter.start y.0.iter.end x s.iter.end r y.1.1.2 y.1.1.1 n.1 (subst (λ (low : ℕ). Found low y.0.iter.end r) y.1.0 rest)

-- `find` over such a range, said of the numbers in it, as std's `first_from_Range` says it of one that is gone through from its start
pub last_from_Range : {F : Type 0} {g : Mut F (Bor ℕ × Unit {0}) Bool} (s u : Rev (Range ℕ)) (f : F) (r : Option ℕ) (Yes No : ℕ → Type 0)
    → (xs : List ℕ) × (j : F) × YieldsThen Falls s xs r u × FoldsTo (λ p x q. CalledAt g p x false q) f xs j × MatchOption r ⊤ (λ x. (h : F) × CalledAt g j x true h)
    → ((x : ℕ) (q : F) → CalledAt g f x true q → Yes x) → ((x : ℕ) (q : F) → CalledAt g f x false q → (q ≡ f) × No x)
    → MatchOption r ((k : ℕ) → s.iter.start ≤ k → k < s.iter.end → No k) (λ i. (s.iter.start ≤ i) × (i < s.iter.end) × Yes i × ((k : ℕ) → i < k → k < s.iter.end → No k))
last_from_Range s u f r Yes No d yes_at no_at = steps f Yes No yes_at no_at d.0 s d.2.0 u d.1 r d.2.1 d.2.2 d.3 d.4

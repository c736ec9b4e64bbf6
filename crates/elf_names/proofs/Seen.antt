-- Offsets whose strings are among the names: none at first, and with each string that is entered its offset. Names are only added, so a string that is among them stays. Assumes nothing.
use mathlib.Core.Path.{◌≡◌, refl, sym, subst, ◌∙◌}
use mathlib.Core.List.{List, [], ◌∷◌, ◌++◌}
use mathlib.Core.Bool.{Bool, true, false, ◌||◌}
use Prim.Native.Nat.{ℕ, zero, suc, ◌+◌, ◌<◌}
use native.Mathlib.Omega.{arith}
use borrow.Author.Tests.{ne_eqb, eqb-true}
use lib.ListN.{length, set, replicate, length-append, get_or-append}
use lib.Seq.{get_or-append-add}
use lib.Dec.{eqb}
use Rattle.lists.specs.Rows.{some}
use Rattle.lists.specs.Outcome.{Outcome, accepted, ◌>>=◌}
use Rattle.lists.proofs.Outcomes.{same_accepted}
use Rattle.names.specs.Names.{number_of}
use Rattle.names.proofs.Laws.{number_there, number_below}
use Rattle.elf.specs.Strings.{string_at}
use Rattle.number_names.specs.Numbers.{Room, enter_name, enter_names}
use Rattle.std.specs.Prelude.{Result, Ok}
use Rattle.obj.specs.declared.Refusal.{Refusal}
use Rattle.number_names.specs.declared.table.NumberedNames.{NumberedNames}
use Rattle.number_names.proofs.Laws.{enter_there, enter_cases, entered_as}
use Rattle.elf_names.specs.Seen.{Seen, EnteredSeen, GoingSeen}

-- ---- an element stored

-- an element that passes is the one stored, or one that was there
some-set : {A Q : Type 0} (p : A → Bool) (l : List A) (j : ℕ) (v : A) → (p v ≡ true → Q) → (some p l ≡ true → Q) → some p (set l j v) ≡ true → Q
unfolding some
some-set p [] j v f g e = g e
some-set {A} {Q} p (x ∷ l) zero v f g e = go (p v) refl e
  where
    or_right : (a b : Bool) → b ≡ true → (a || b) ≡ true
    or_right true b q = refl
    or_right false b q = q

    go : (t : Bool) → p v ≡ t → (t || some p l) ≡ true → Q
    go true q h = f q
    go false q h = g (or_right (p x) (some p l) h)
some-set {A} {Q} p (x ∷ l) (suc j) v f g e = go (p x) g (λ k. some-set p l j v f k) e
  where
    go : (t : Bool) → ((t || some p l) ≡ true → Q) → ((some p l ≡ true → Q) → some p (set l j v) ≡ true → Q) → (t || some p (set l j v)) ≡ true → Q
    go true k rest h = k refl
    go false k rest h = rest k h

-- ---- a name that is among the names

module _ (names : List (List ℕ)) (x : List ℕ) where
  -- it stays if another is added
  more_names : (y : List ℕ) → number_of names y < length names → number_of (names ++ (x ∷ [])) y < length (names ++ (x ∷ []))
  more_names y h =
      number_below (names ++ (x ∷ [])) y (number_of names y) (omega (arith, h, length-append names (x ∷ [])))
      (get_or-append names (x ∷ []) [] (number_of names y) h ∙ number_there names y h)

  -- and so is the one that is added
  last_name : number_of (names ++ (x ∷ [])) x < length (names ++ (x ∷ []))
  last_name =
      number_below (names ++ (x ∷ [])) x (length names + 0) (omega (arith, length-append names (x ∷ [])))
      (get_or-append-add names (x ∷ []) 0 [])

-- what is entered is among the names after it, and so are those before
module _ (room : Room) (names : List (List ℕ)) (x : List ℕ) {more : List (List ℕ)} (e : enter_name room names x ≡ accepted more) where
  pub enter_keeps : (y : List ℕ) → number_of names y < length names → number_of more y < length more
  enter_keeps y h =
      enter_cases room names x e
      (λ there same. subst (λ (l : List (List ℕ)). number_of l y < length l) same h)
      (λ free same. subst (λ (l : List (List ℕ)). number_of l y < length l) same (more_names names x y h))

  pub enter_has : number_of more x < length more
  enter_has =
      enter_cases room names x e
      (λ there same. subst (λ (l : List (List ℕ)). number_of l x < length l) same there)
      (λ free same. subst (λ (l : List (List ℕ)). number_of l x < length l) same (last_name names x))

-- ---- the column

-- no offset is kept
pub seen_none : (strings : List ℕ) (names : List (List ℕ)) (n : ℕ) → Seen strings names (replicate n 0)
unfolding some
seen_none strings names n at e = absurd (go n e)
  where
    go : (m : ℕ) → some (λ k. eqb k (at + 1)) (replicate m 0) ≡ true → ⊥
    go zero q = let z : ◌≡◌ {A = ℕ} 0 1 = cc in omega arith
    go (suc m) q = go m (rw (ne_eqb 0 (at + 1) (λ z. omega arith)) at q)

module _ (room : Room) (strings : List ℕ) (names : List (List ℕ)) (seen : List ℕ) (s : Seen strings names seen) where
  -- the offset is kept: its string adds no name
  pub seen_there : (at : ℕ) → some (λ k. eqb k (at + 1)) seen ≡ true → enter_name room names (string_at strings at) ≡ accepted names
  seen_there at h = enter_there room names (string_at strings at) (s at h)

  -- a string is entered and its offset kept
  pub seen_more : (at slot : ℕ) (more : List (List ℕ)) → enter_name room names (string_at strings at) ≡ accepted more → Seen strings more (set seen slot (at + 1))
  seen_more at slot more e other h =
      some-set (λ k. eqb k (other + 1)) seen slot (at + 1)
      (λ q.
      let same : at ≡ other = omega (arith, eqb-true (at + 1) (other + 1) q) in
      subst (λ (k : ℕ). number_of more (string_at strings k) < length more) same (enter_has room names (string_at strings at) e))
      (λ q. enter_keeps room names (string_at strings at) e (string_at strings other) (s other q))
      h

-- names that were accepted are the same
pub seen_as : (strings seen : List ℕ) {o : Outcome (List (List ℕ))} (names : List (List ℕ)) → Seen strings names seen → o ≡ accepted names → (more : List (List ℕ)) → o ≡ accepted more
    → Seen strings more seen
seen_as strings seen names s q more e = subst (λ (l : List (List ℕ)). Seen strings l seen) (same_accepted (sym q ∙ e)) s

-- the same outcome, said otherwise
pub entered_so : {o want : Outcome (List (List ℕ))} {strings ends₀ bytes₀ seen : List ℕ} {t : NumberedNames} {r : Result (Unit {0}) Refusal} → o ≡ want
    → EnteredSeen o strings ends₀ bytes₀ t seen r → EnteredSeen want strings ends₀ bytes₀ t seen r
entered_so {ends₀ = ends₀} {bytes₀ = bytes₀} {t = t} {r = r} q e = record {
  entered = entered_as ends₀ bytes₀ t.ends.now t.bytes.now t.heads.now t.chain.now t.count r q e.entered;
  right = λ names h. e.right names (q ∙ h);
}

-- ---- a turn of a loop

module _ {room : Room} {left : ℕ → List (List ℕ)} {goal o : Outcome (List (List ℕ))} {strings ends₀ bytes₀ seen seen' : List ℕ} {t t' : NumberedNames} {i : ℕ}
    (g : GoingSeen room left goal strings ends₀ bytes₀ t seen i) where
  pub seen_on : (enter_names room g.going.names (left i) ≡ (o >>= λ more. enter_names room more (left (i + 1))))
      → EnteredSeen o strings ends₀ bytes₀ t' seen' (Ok tt)
      → GoingSeen room left goal strings ends₀ bytes₀ t' seen' (i + 1)
  unfolding ◌>>=◌
  seen_on turn e =
      let said = e.entered.is in
      record {
        going = record { names = e.entered.names; held = e.entered.held; same = sym (rw said at turn) ∙ g.going.same };
        right = e.right e.entered.names said;
      }

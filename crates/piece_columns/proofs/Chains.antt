-- Following a symbol's chain gives what looking through all entries gives. Stated of entries as a function of their places. Assumes nothing.
use mathlib.Core.Path.{◌≡◌, refl, sym, ap, ap₂, ◌∙◌}
use mathlib.Core.List.{List, [], ◌∷◌, ◌++◌}
use mathlib.Core.Bool.{Bool, true, false, cond, ◌&&◌, ◌||◌}
use mathlib.Core.Logic.{◌≢◌}
use Prim.Native.Nat.{ℕ, zero, suc, ◌+◌, ◌-◌, ◌*◌, ◌≤◌, ◌<◌}
use native.Mathlib.Nat.{zero-add}
use native.Mathlib.Numerals.{add-one}
use native.Mathlib.Omega.{arith}
use native.Mathlib.Decide.{ℕ_discrete}
use lib.Dec.{eqb}
use lib.ListN.{length, get_or, set, replicate, length-set, get_or-append}
use lib.Seq.{get_or-set_same, get_or-set_other, get_or-append_seam}
use borrow.Author.Tests.{eq-eqb, ne_eqb, eqb-true}
use Rattle.std.proofs.Math.Bool.{or-false, or-true, or_assoc, and-false}
use Rattle.lists.specs.Rows.{tabulate}
use Rattle.lists.proofs.Rows.{tabulate_more, get_d_tabulate, length-tabulate, get_or_same}
use Rattle.pieces.specs.declared.PieceSymbol.{PieceSymbol}
use Rattle.pieces.specs.Pieces.{symbols_in}
use Rattle.pieces.specs.Questions.{has}
use Rattle.piece_columns.specs.Columns.{entry_at, last_of, Chained, PutSymbol}

has_snoc : (unit symbol : ℕ) (l : List PieceSymbol) (y : PieceSymbol) → has unit symbol (l ++ (y ∷ [])) ≡ (has unit symbol l || (eqb y.unit unit && eqb y.symbol symbol))
unfolding has
has_snoc unit symbol [] y = or-false (eqb y.unit unit && eqb y.symbol symbol)
has_snoc unit symbol (x ∷ l) y =
    ap (λ (b : Bool). (eqb x.unit unit && eqb x.symbol symbol) || b) (has_snoc unit symbol l y)
    ∙ sym (or_assoc (eqb x.unit unit && eqb x.symbol symbol) (has unit symbol l) (eqb y.unit unit && eqb y.symbol symbol))

-- ---- the chain of a symbol
module _ (f : ℕ → PieceSymbol) (unit symbol : ℕ) where
  -- one of the first k entries is the symbol's in the unit
  abbrev below : ℕ → Bool
  below k = has unit symbol (tabulate f 0 k)

  below_suc : (k : ℕ) → below (suc k) ≡ (below k || (eqb (f k).unit unit && eqb (f k).symbol symbol))
  below_suc k = ap below (sym (add-one k)) ∙ ap (has unit symbol) (tabulate_more f k) ∙ has_snoc unit symbol (tabulate f 0 k) (f k)

  -- only the symbol's own entries count
  below_last : (k : ℕ) → below k ≡ below (last_of f symbol k)
  unfolding last_of
  below_last zero = refl
  below_last (suc k) = go (eqb (f k).symbol symbol) refl (below_last k)
    where
      go : (t : Bool) → eqb (f k).symbol symbol ≡ t → below k ≡ below (last_of f symbol k) → below (suc k) ≡ below (cond t (suc k) (last_of f symbol k))
      go true e ih = refl
      go false e ih =
          below_suc k ∙ ap (λ (b : Bool). below k || (eqb (f k).unit unit && b)) e ∙ ap (λ (b : Bool). below k || b) (and-false (eqb (f k).unit unit))
          ∙ or-false (below k) ∙ ih

  last_le : (k : ℕ) → last_of f symbol k ≤ k
  unfolding last_of
  last_le zero = omega arith
  last_le (suc k) = go (eqb (f k).symbol symbol) (last_le k)
    where
      go : (t : Bool) → last_of f symbol k ≤ k → cond t (suc k) (last_of f symbol k) ≤ suc k
      go true h = omega arith
      go false h = omega arith

  -- a place on the chain holds the symbol
  last_holds : (k m : ℕ) → last_of f symbol k ≡ suc m → (f m).symbol ≡ symbol
  unfolding last_of
  last_holds zero m e = absurd (omega arith)
  last_holds (suc k) m e = go (eqb (f k).symbol symbol) refl e (last_holds k m)
    where
      go : (t : Bool) → eqb (f k).symbol symbol ≡ t → cond t (suc k) (last_of f symbol k) ≡ suc m → (last_of f symbol k ≡ suc m → (f m).symbol ≡ symbol) → (f m).symbol ≡ symbol
      go true q e ih = ap (λ (i : ℕ). (f i).symbol) (let z : m ≡ k = omega arith in z) ∙ eqb-true (f k).symbol symbol q
      go false q e ih = ih e

  -- at such a place: it is the unit's, or the chain goes on
  below_here : (m : ℕ) → (f m).symbol ≡ symbol → (f m).unit ≡ unit → below (suc m) ≡ true
  below_here m e u =
      below_suc m ∙ ap₂ (λ (a b : Bool). below m || (a && b)) (eq-eqb (f m).unit unit u) (eq-eqb (f m).symbol symbol e) ∙ or-true (below m)

  below_on : (m : ℕ) → (f m).unit ≢ unit → below (suc m) ≡ below (last_of f symbol m)
  below_on m u =
      below_suc m ∙ ap (λ (b : Bool). below m || (b && eqb (f m).symbol symbol)) (ne_eqb (f m).unit unit u) ∙ or-false (below m) ∙ below_last m

  below_none : below 0 ≡ false
  unfolding has tabulate
  below_none = refl

  -- j is on the chain: what lies below it is what lies below k
  pub record On (k j : ℕ) : Type 0 where
    pub bound : ℕ
    pub small : bound ≤ k
    pub is : j ≡ last_of f symbol bound
    pub same : below j ≡ below k

  pub on_start : (k j : ℕ) → j ≡ last_of f symbol k → On k j
  on_start k j e = record { bound = k; small = omega arith; is = e; same = ap below e ∙ sym (below_last k) }

  module _ (k j : ℕ) (on : On k j) where
    pub on_le : j ≤ k
    on_le = omega (arith, on.is, last_le on.bound, on.small)

    pub on_end : j ≡ 0 → false ≡ below k
    on_end e = sym below_none ∙ ap below (sym e) ∙ on.same

    module _ (some : j ≢ 0) where
      next : j ≡ suc (j - 1)
      next = omega arith

      pub on_holds : (f (j - 1)).symbol ≡ symbol
      on_holds = last_holds on.bound (j - 1) (sym on.is ∙ next)

      pub on_hit : (f (j - 1)).unit ≡ unit → true ≡ below k
      on_hit u = sym (below_here (j - 1) on_holds u) ∙ ap below (sym next) ∙ on.same

      pub on_next : (i : ℕ) → (f (j - 1)).unit ≢ unit → i ≡ last_of f (f (j - 1)).symbol (j - 1) → On k i × (i < j)
      on_next i u e =
          let q : i ≡ last_of f symbol (j - 1) = e ∙ ap (λ (z : ℕ). last_of f z (j - 1)) on_holds in (
            record { bound = j - 1; small = omega (arith, on_le); is = q; same = ap below q ∙ sym (below_on (j - 1) u) ∙ ap below (sym next) ∙ on.same },
            omega (arith, last_le (j - 1)),
          )

-- ---- one entry more
last_same : (f g : ℕ → PieceSymbol) (symbol k : ℕ) → ((i : ℕ) → i < k → f i ≡ g i) → last_of f symbol k ≡ last_of g symbol k
unfolding last_of
last_same f g symbol zero h = refl
last_same f g symbol (suc k) h = λ d. cond (eqb (h k (omega arith) d).symbol symbol) (suc k) (last_same f g symbol k (λ i q. h i (omega arith)) d)

-- the entries after a push are those before, and the one that was pushed
module _ (out after : List ℕ) (k : ℕ) (y : PieceSymbol) (e : symbols_in after (k + 1) ≡ symbols_in out k ++ (y ∷ [])) where
  entry_old : (i : ℕ) → i < k → entry_at after i ≡ entry_at out i
  unfolding symbols_in
  entry_old i h =
      sym (get_d_tabulate (entry_at after) 0 (k + 1) i y (omega arith) ∙ ap (entry_at after) (zero-add i))
      ∙ ap (λ (l : List PieceSymbol). get_or l i y) e
      ∙ get_or-append (tabulate (entry_at out) 0 k) (y ∷ []) y i (omega (arith, length-tabulate (entry_at out) 0 k))
      ∙ get_d_tabulate (entry_at out) 0 k i y h
      ∙ ap (entry_at out) (zero-add i)

  entry_new : entry_at after k ≡ y
  unfolding symbols_in
  entry_new =
      sym (get_d_tabulate (entry_at after) 0 (k + 1) k y (omega arith) ∙ ap (entry_at after) (zero-add k))
      ∙ ap (λ (l : List PieceSymbol). get_or l k y) e
      ∙ ap (λ (i : ℕ). get_or (tabulate (entry_at out) 0 k ++ (y ∷ [])) i y) (sym (length-tabulate (entry_at out) 0 k))
      ∙ get_or-append_seam (tabulate (entry_at out) 0 k) y [] y

  module _ (heads prevs : List ℕ) (c : Chained heads prevs out k) (inside : y.symbol < length heads) (free : k < length prevs) (room : 12 * k + 12 ≤ length after) where
    last_new : (z : ℕ) → last_of (entry_at after) z (k + 1) ≡ cond (eqb y.symbol z) (k + 1) (last_of (entry_at out) z k)
    unfolding last_of
    last_new z =
        ap (last_of (entry_at after) z) (add-one k)
        ∙ (λ d. cond (eqb (entry_new d).symbol z) (sym (add-one k) d) (last_same (entry_at after) (entry_at out) z k entry_old d))

    head_more : (z : ℕ) → z < length (set heads y.symbol (k + 1)) → get_or (set heads y.symbol (k + 1)) z 0 ≡ last_of (entry_at after) z (k + 1)
    head_more z l = go (ℕ_discrete z y.symbol) ∙ sym (last_new z)
      where
        go : Dec (z ≡ y.symbol) → get_or (set heads y.symbol (k + 1)) z 0 ≡ cond (eqb y.symbol z) (k + 1) (last_of (entry_at out) z k)
        go (yes q) =
            ap (λ (i : ℕ). get_or (set heads y.symbol (k + 1)) i 0) q ∙ get_or-set_same heads y.symbol (k + 1) 0 inside
            ∙ sym (ap (λ (b : Bool). cond b (k + 1) (last_of (entry_at out) z k)) (eq-eqb y.symbol z (sym q)))
        go (no n) =
            get_or-set_other heads y.symbol z (k + 1) 0 n ∙ c.head z (omega (arith, length-set heads y.symbol (k + 1)))
            ∙ sym (ap (λ (b : Bool). cond b (k + 1) (last_of (entry_at out) z k)) (ne_eqb y.symbol z (λ q. n (sym q))))

    prev_more : (i : ℕ) → i < k + 1 → get_or (set prevs k (get_or heads y.symbol 0)) i 0 ≡ last_of (entry_at after) (entry_at after i).symbol i
    prev_more i l = go (ℕ_discrete i k)
      where
        go : Dec (i ≡ k) → get_or (set prevs k (get_or heads y.symbol 0)) i 0 ≡ last_of (entry_at after) (entry_at after i).symbol i
        go (yes q) =
            ap (λ (j : ℕ). get_or (set prevs k (get_or heads y.symbol 0)) j 0) q
            ∙ get_or-set_same prevs k (get_or heads y.symbol 0) 0 free
            ∙ c.head y.symbol inside
            ∙ sym (ap (λ (j : ℕ). last_of (entry_at after) (entry_at after j).symbol j) q
            ∙ ap (λ (x : PieceSymbol). last_of (entry_at after) x.symbol k) entry_new
            ∙ last_same (entry_at after) (entry_at out) y.symbol k entry_old)
        go (no n) =
            let h : i < k = omega arith in
            get_or-set_other prevs k i (get_or heads y.symbol 0) 0 n ∙ c.prev i h
            ∙ sym (ap (λ (x : PieceSymbol). last_of (entry_at after) x.symbol i) (entry_old i h)
            ∙ last_same (entry_at after) (entry_at out) (entry_at out i).symbol i (λ j q. entry_old j (omega arith)))

    pub pushed_symbol : PutSymbol (set heads y.symbol (k + 1)) (set prevs k (get_or heads y.symbol 0)) out after k y
    pushed_symbol = record {
      more = e;
      chained = record { head = head_more; prev = prev_more; room = simp length-set (omega arith); held = omega arith };
    }

-- columns of zeros chain no entries
pub chained-none : (n : ℕ) (prevs out : List ℕ) {heads : List ℕ} → heads ≡ replicate n 0 → Chained heads prevs out 0
unfolding last_of
chained-none n prevs out e = record {
  head = λ symbol h. ap (λ (l : List ℕ). get_or l symbol 0) e ∙ get_or_same n symbol 0;
  prev = λ i h. absurd (omega arith);
  room = omega arith;
  held = omega arith;
}

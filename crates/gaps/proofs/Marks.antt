-- The pass over a gap's symbols: the marks say which names occurred, each turn passes one symbol or ends the gap, and the marks of the symbols passed go
-- again. Assumes nothing.
use mathlib.Core.Path.{◌≡◌, refl, sym, ap, ap₂, subst, ◌∙◌}
use mathlib.Core.List.{List, [], ◌∷◌}
use mathlib.Core.Bool.{Bool, true, false, cond, not, ◌&&◌, ◌||◌, false≢true}
use Prim.Native.Nat.{ℕ, zero, suc, ◌+◌, ◌%◌, ◌≤◌, ◌<◌}
use native.Mathlib.Numerals.{add-one}
use native.Mathlib.Omega.{arith}
use lib.Dec.{eqb, leb}
use lib.ListN.{length, get_or, take, drop, set, replicate, length-set, drop_of_length-le}
use lib.Seq.{take-suc, drop-cons, get_or-set_same, get_or-set_other, take_all}
use borrow.Author.Tests.{eqb-true, eqb-false, le-leb, lt-leb}
use Rattle.std.proofs.lemmas.Bool.{or_parts}
use Rattle.lists.specs.Rows.{some}
use Rattle.lists.specs.Outcome.{Outcome, accepted, refused, refuse, ◌>>◌, ◌>>=◌}
use Rattle.lists.proofs.All.{all_at, all_take}
use Rattle.lists.proofs.Outcomes.{fails, passes}
use Rattle.obj.specs.declared.Symbol.{Symbol}
use Rattle.symbol_order.specs.Order.{symbol_of, Readable}
use Rattle.symbols.specs.Ranges.{stripped, symbols_between}
use Rattle.lists.proofs.SomeRows.{some-append}
use Rattle.gaps.specs.Gaps.{misses, end_from, gap_end}
use Rattle.gaps.specs.Found.{Clean, Markable, Stopped, Unmarked, end_in}

-- ---- zeros mark no name
pub clean_zeros : (n : ℕ) → Clean (replicate n 0)
clean_zeros zero k = refl
clean_zeros (suc n) zero = refl
clean_zeros (suc n) (suc k) = clean_zeros n k

-- ---- one element more
module _ {A : Type 0} (p : A → Bool) where
  pub some_more : (l : List A) (j : ℕ) (d : A) → j < length l → some p (take (j + 1) l) ≡ (some p (take j l) || p (get_or l j d))
  unfolding some
  some_more l j d h = rw (add-one, take-suc l j d h) (some-append p (take j l) (get_or l j d ∷ []) ∙ ap (λ (b : Bool). some p (take j l) || b) (go (p (get_or l j d))))
    where
      go : (a : Bool) → (a || false) ≡ a
      go true = refl
      go false = refl

-- j symbols of a part were passed: `names` are those of the unstripped ones, which are marked
pub record Passing (symbol : ℕ → Symbol) (current : ℕ) (part marks : List ℕ) (j : ℕ) : Type 0 where
  pub names : List ℕ
  pub small : j ≤ length part
  pub marked : (k : ℕ) → k < length marks → not (eqb (get_or marks k 0) 0) ≡ some (eqb k) names
  pub clean : (k : ℕ) → some (λ i. eqb k (symbol i).name) (take j part) ≡ false → get_or marks k 0 ≡ 0
  pub is : (n next : ℕ) → end_from symbol n current next names (drop j part) ≡ end_from symbol n current next [] part

module _ (symbol : ℕ → Symbol) (current : ℕ) (part : List ℕ) where
  pub passing_start : (marks : List ℕ) → Clean marks → Passing symbol current part marks 0
  unfolding some
  passing_start marks clean = record {
    names = [];
    small = omega arith;
    marked = λ k h. rw (clean k);
    clean = λ k e. clean k;
    is = λ n next. refl;
  }

  module _ (marks : List ℕ) (j : ℕ) (p : Passing symbol current part marks j) (h : j < length part) where
    abbrev y : Symbol
    y = symbol (get_or part j 0)

    -- symbol j is the next
    next_is : (n next : ℕ) → end_from symbol n current next [] part
        ≡ cond (stripped y) (end_from symbol n current next p.names (drop (j + 1) part))
        (cond (some (eqb y.name) p.names) (refuse 41 n current (not (eqb (y.address % 4) 0)) >> accepted y.address)
        (cond (misses current y) (accepted y.address) (end_from symbol n current next (y.name ∷ p.names) (drop (j + 1) part))))
    unfolding end_from
    next_is n next = sym (p.is n next) ∙ rw (add-one, drop-cons part j 0 h)

    earlier : (k : ℕ) → some (λ i. eqb k (symbol i).name) (take (j + 1) part) ≡ false → (some (λ i. eqb k (symbol i).name) (take j part) ≡ false) × (eqb k y.name ≡ false)
    earlier k e = or_parts (some (λ i. eqb k (symbol i).name) (take j part)) (eqb k y.name) (sym (some_more (λ i. eqb k (symbol i).name) part j 0 h) ∙ e)

    -- a stripped symbol is passed
    pub passing_stripped : stripped y ≡ true → Passing symbol current part marks (j + 1)
    passing_stripped e = record {
      names = p.names;
      small = omega arith;
      marked = p.marked;
      clean = λ k q. p.clean k (earlier k q).0;
      is = λ n next. sym (next_is n next ∙ rw e);
    }

    module _ (e : stripped y ≡ false) (room : y.name < length marks) where
      -- symbol j ends the gap
      pub passing_ends : (not (eqb (get_or marks y.name 0) 0) || misses current y) ≡ true → Stopped symbol current part marks j
      passing_ends t = record {
        names = p.names;
        small = p.small;
        marked = p.marked;
        clean = p.clean;
        is = p.is;
        ends = λ q. (e, ap (λ (b : Bool). b || misses current y) (sym (p.marked y.name room)) ∙ t);
      }

      -- it is passed, and its name marked
      pub passing_named : (not (eqb (get_or marks y.name 0) 0) || misses current y) ≡ false → Passing symbol current part (set marks y.name 1) (j + 1)
      unfolding some
      passing_named t =
          let q = or_parts (not (eqb (get_or marks y.name 0) 0)) (misses current y) t in
          let new : some (eqb y.name) p.names ≡ false = sym (p.marked y.name room) ∙ q.0 in
          record {
            names = y.name ∷ p.names;
            small = omega arith;
            marked = λ k l. by_name k (rw (length-set marks y.name 1) at l) (eqb k y.name) refl;
            clean = λ k r. get_or-set_other marks y.name k 1 0 (eqb-false k y.name (earlier k r).1) ∙ p.clean k (earlier k r).0;
            is = λ n next. sym (next_is n next ∙ rw (e, new, q.1));
          }
        where
          by_name : (k : ℕ) → k < length marks → (t : Bool) → eqb k y.name ≡ t → not (eqb (get_or (set marks y.name 1) k 0) 0) ≡ (eqb k y.name || some (eqb k) p.names)
          by_name k l true f =
              let same = eqb-true k y.name f in
              rw f (ap (λ (m : ℕ). not (eqb m 0)) (ap (λ (m : ℕ). get_or (set marks y.name 1) m 0) same ∙ get_or-set_same marks y.name 1 0 room))
          by_name k l false f =
              rw f (ap (λ (m : ℕ). not (eqb m 0)) (get_or-set_other marks y.name k 1 0 (eqb-false k y.name f)) ∙ p.marked k l)

  -- no symbol is left
  pub passing_done : (marks : List ℕ) (j : ℕ) → length part ≤ j → Passing symbol current part marks j → Stopped symbol current part marks j
  passing_done marks j h p = record {
    names = p.names;
    small = p.small;
    marked = p.marked;
    clean = p.clean;
    is = p.is;
    ends = λ q. absurd (omega arith);
  }

-- ---- where the gap ends
module _ (symbol : ℕ → Symbol) (n current next : ℕ) (part marks : List ℕ) (j : ℕ) (s : Stopped symbol current part marks j) (here : current < next) where
  -- at the next start
  pub ends_next : length part ≤ j → accepted next ≡ end_in symbol n current next part
  unfolding end_from ◌>>=◌
  ends_next h =
      let e : end_from symbol n current next [] part ≡ accepted next = sym (s.is n next) ∙ rw (drop_of_length-le part h) in
      sym (ap (λ (o : Outcome ℕ). o >>= λ end. refuse 42 n current (leb end current) >> accepted end) e ∙ passes 42 n current (leb next current) (accepted next) (lt-leb next current here))

  module _ (h : j < length part) (room : (symbol (get_or part j 0)).name < length marks) where
    abbrev here_is : Symbol
    here_is = symbol (get_or part j 0)

    abbrev repeated : Bool
    repeated = not (eqb (get_or marks here_is.name 0) 0)

    abbrev astray : Bool
    astray = not (eqb (here_is.address % 4) 0)

    ended : end_from symbol n current next [] part ≡ cond repeated (refuse 41 n current astray >> accepted here_is.address) (accepted here_is.address)
    unfolding end_from
    ended =
        sym (s.is n next) ∙ rw (drop-cons part j 0 h, (s.ends h).0, ← s.marked here_is.name room) (go repeated (misses current here_is) (ap (λ (b : Bool). b || misses current here_is) (s.marked here_is.name room) ∙ (s.ends h).1))
      where
        go : (t u : Bool) → (t || u) ≡ true
            → cond t (refuse 41 n current astray >> accepted here_is.address) (cond u (accepted here_is.address) (end_from symbol n current next (here_is.name ∷ s.names) (drop (suc j) part)))
            ≡ cond t (refuse 41 n current astray >> accepted here_is.address) (accepted here_is.address)
        go true u e = refl
        go false true e = refl
        go false false e = absurd (false≢true e)

    -- "41 repeated name not at a multiple of 4"
    pub ends_astray : (repeated && astray) ≡ true → refused 41 n current ≡ end_in symbol n current next part
    unfolding ◌>>=◌ ◌>>◌ refuse
    ends_astray e = sym (ap (λ (o : Outcome ℕ). o >>= λ end. refuse 42 n current (leb end current) >> accepted end) (ended ∙ go repeated astray e))
      where
        go : (t u : Bool) → (t && u) ≡ true → cond t (refuse 41 n current u >> accepted here_is.address) (accepted here_is.address) ≡ refused 41 n current
        go true true q = refl
        go true false q = absurd (false≢true q)
        go false u q = absurd (false≢true q)

    module _ (e : (repeated && astray) ≡ false) where
      at_symbol : end_from symbol n current next [] part ≡ accepted here_is.address
      unfolding ◌>>◌ refuse
      at_symbol = ended ∙ go repeated astray e
        where
          go : (t u : Bool) → (t && u) ≡ false → cond t (refuse 41 n current u >> accepted here_is.address) (accepted here_is.address) ≡ accepted here_is.address
          go true true q = absurd (false≢true (sym q))
          go true false q = refl
          go false u q = refl

      -- "42 gap would end where it starts"
      pub ends_nowhere : here_is.address ≤ current → refused 42 n current ≡ end_in symbol n current next part
      unfolding ◌>>=◌
      ends_nowhere l =
          sym (ap (λ (o : Outcome ℕ). o >>= λ end. refuse 42 n current (leb end current) >> accepted end) at_symbol
          ∙ fails 42 n current (leb here_is.address current) (accepted here_is.address) (le-leb here_is.address current l))

      -- at symbol j
      pub ends_there : current < here_is.address → accepted here_is.address ≡ end_in symbol n current next part
      unfolding ◌>>=◌
      ends_there l =
          sym (ap (λ (o : Outcome ℕ). o >>= λ end. refuse 42 n current (leb end current) >> accepted end) at_symbol
          ∙ passes 42 n current (leb here_is.address current) (accepted here_is.address) (lt-leb here_is.address current l))

-- ---- the marks go
module _ (symbol : ℕ → Symbol) (part before : List ℕ) where
  pub unmarked_start : Unmarked symbol (take 0 part) before before
  unfolding some
  unmarked_start k = refl

  pub unmarked_more : (marks : List ℕ) (j : ℕ) → j < length part → (symbol (get_or part j 0)).name < length marks → Unmarked symbol (take j part) before marks
      → Unmarked symbol (take (j + 1) part) before (set marks (symbol (get_or part j 0)).name 0)
  unmarked_more marks j h room u k = by_name (eqb k (symbol (get_or part j 0)).name) refl
    where
      name : ℕ
      name = (symbol (get_or part j 0)).name

      gone : (a : Bool) → 0 ≡ cond (a || true) 0 (get_or before k 0)
      gone true = refl
      gone false = refl

      kept : (a : Bool) → cond a 0 (get_or before k 0) ≡ cond (a || false) 0 (get_or before k 0)
      kept true = refl
      kept false = refl

      by_name : (t : Bool) → eqb k (symbol (get_or part j 0)).name ≡ t
          → get_or (set marks (symbol (get_or part j 0)).name 0) k 0 ≡ cond (some (λ i. eqb k (symbol i).name) (take (j + 1) part)) 0 (get_or before k 0)
      by_name true e =
          rw (some_more (λ i. eqb k (symbol i).name) part j 0 h, e)
          (ap (λ (m : ℕ). get_or (set marks (symbol (get_or part j 0)).name 0) m 0) (eqb-true k (symbol (get_or part j 0)).name e) ∙ get_or-set_same marks (symbol (get_or part j 0)).name 0 0 room ∙ gone (some (λ i. eqb k (symbol i).name) (take j part)))
      by_name false e =
          rw (some_more (λ i. eqb k (symbol i).name) part j 0 h, e)
          (get_or-set_other marks (symbol (get_or part j 0)).name k 0 0 (eqb-false k (symbol (get_or part j 0)).name e) ∙ u k ∙ kept (some (λ i. eqb k (symbol i).name) (take j part)))

  -- the marks that were left are gone
  pub all_clean : (current : ℕ) (whole marks : List ℕ) (j : ℕ) → part ≡ take j whole → Stopped symbol current whole before j → Unmarked symbol part before marks → Clean marks
  all_clean current whole marks j e s u k = u k ∙ go (some (λ i. eqb k (symbol i).name) part) refl
    where
      go : (t : Bool) → some (λ i. eqb k (symbol i).name) part ≡ t → cond t 0 (get_or before k 0) ≡ 0
      go true q = refl
      go false q = s.clean k (ap (some (λ i. eqb k (symbol i).name)) (sym e) ∙ q)

  -- all symbols were passed
  pub all_of : (marks : List ℕ) (j : ℕ) → length part ≤ j → Unmarked symbol (take j part) before marks → Unmarked symbol part before marks
  all_of marks j h u = subst (λ (l : List ℕ). Unmarked symbol l before marks) (take_all j part h) u

-- ---- the code's test
pub test_is : (marks : List ℕ) (current k : ℕ) (m : Bool) (y z : Symbol) → k ≡ y.name → m ≡ misses current y → y ≡ z
    → (not (eqb (get_or marks k 0) 0) || m) ≡ (not (eqb (get_or marks z.name 0) 0) || misses current z)
test_is marks current k m y z a b e =
    ap₂ (λ (i : ℕ) (t : Bool). not (eqb (get_or marks i 0) 0) || t) (a ∙ ap (λ (x : Symbol). x.name) e) (b ∙ ap (misses current) e)

pub astray_is : (marks : List ℕ) (k : ℕ) (y z : Symbol) → k ≡ y.name → y ≡ z
    → (not (eqb (get_or marks k 0) 0) && not (eqb (y.address % 4) 0)) ≡ (not (eqb (get_or marks z.name 0) 0) && not (eqb (z.address % 4) 0))
astray_is marks k y z a e = ap₂ (λ (i : ℕ) (x : Symbol). not (eqb (get_or marks i 0) 0) && not (eqb (x.address % 4) 0)) (a ∙ ap (λ (x : Symbol). x.name) e) e

-- ---- the tables

-- the name of symbol j of a part has a mark, also after marks were set
pub name_marked : (b places part marks₀ marks : List ℕ) → Readable b places part → Markable (symbol_of b places) (length places) marks₀ → length marks ≡ length marks₀
    → (j : ℕ) → j < length part → (symbol_of b places (get_or part j 0)).name < length marks
name_marked b places part marks₀ marks r m e j h = omega (arith, e, m (get_or part j 0) (all_at j 0 r.inside h))

-- each symbol's name has a mark as long as the marks are as many
pub still_markable : (symbol : ℕ → Symbol) (count : ℕ) (marks₀ marks : List ℕ) → Markable symbol count marks₀ → length marks ≡ length marks₀ → Markable symbol count marks
still_markable symbol count marks₀ marks m e i h = omega (arith, e, m i h)

-- the first j symbols of a part can be read
pub readable_take : (b places part : List ℕ) (j : ℕ) → Readable b places part → Readable b places (take j part)
readable_take b places part j r = record { whole = r.whole; inside = all_take j r.inside }

-- the gap's end is that of the section's symbols from `current` on
pub end_of_part : (symbol : ℕ → Symbol) (count n current next : ℕ) (part : List ℕ) → part ≡ symbols_between symbol count n current next
    → end_in symbol n current next part ≡ gap_end symbol count n current next
unfolding gap_end
end_of_part symbol count n current next part e = ap (end_in symbol n current next) e

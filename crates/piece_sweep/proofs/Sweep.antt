-- The sweep finds 83: each piece is compared with one earlier piece only, the one of its section that reaches farthest. Assumes nothing.
use mathlib.Core.Path.{◌≡◌, refl, sym, ap, subst, ◌∙◌}
use mathlib.Core.List.Memᴰ
use mathlib.Core.List.Permᴰ
use mathlib.Core.List.{List, [], ◌∷◌, ◌++◌, Memᴰ, Permᴰ}
use mathlib.Core.Logic.{◌⊎◌, inl, inr, ◌≢◌}
use mathlib.Core.Bool.{Bool, true, false, cond, ◌&&◌, ◌||◌, not, false≢true}
use Prim.Native.Nat.{ℕ, ◌≤◌, ◌<◌}
use native.Mathlib.Omega.{arith}
use native.Mathlib.Decide.{ℕ_discrete, dec_le}
use lib.ListN.{length}
use lib.Dec.{eqb, leb}
use borrow.Author.Tests.{eq-eqb, ne_eqb, le-leb, lt-leb}
use Rattle.std.proofs.lemmas.Bool.{false_from_ne_true, and_from}
use Rattle.lists.specs.Sort.{All, Sorted, sort_by, insert_key}
use Rattle.lists.proofs.Sort.{sorted_sort}
use Rattle.obj.specs.Parts.{Part}
use Rattle.join.specs.Join.{byte_of, covers, addresses, differ_at, differ}
use Rattle.piece_order.specs.Order.{key_of}
use Rattle.piece_sweep.specs.Sweep.{end_of, unequal, farther, sweep_from, sweep, sweep_all}
use Rattle.lists.proofs.Among.{some_by, none_member, range_member, perm_among, all_find}
use Rattle.join.proofs.Members.{Lies, lies_covers, Apart, apart, meets}
use Rattle.join.proofs.Order.{differ_same}

-- ---- two pieces compared

unequal-apart : (far p : Part) (l : List Part) → Memᴰ far l → Memᴰ p l → unequal far p ≡ true → differ l ≡ true
unfolding differ unequal
unequal-apart far p l m k e = some_by _ m (some_by _ k e)

equal_agree : (far p : Part) → unequal far p ≡ false → (n x : ℕ) → Lies n x far → Lies n x p → byte_of x far ≡ byte_of x p
unfolding unequal addresses differ_at
equal_agree far p e n x a b =
    let f = none_member (λ y. differ_at y far p) (addresses p) e x (range_member p.address (length p.bytes) x b.low b.high) in
    go (ℕ_discrete (byte_of x far) (byte_of x p)) f
  where
    go : Dec (byte_of x far ≡ byte_of x p) → (covers p.section x far && not (eqb (byte_of x far) (byte_of x p))) ≡ false → byte_of x far ≡ byte_of x p
    go (yes h) f = h
    go (no h) f =
        absurd (false≢true (sym f ∙ and_from _ _
        (lies_covers p.section x far (record { of = a.of ∙ sym b.of; low = a.low; high = a.high }))
        (ap not (ne_eqb _ _ h))))

-- ---- which of the two reaches farther

data Farther (far p : Part) : Part → Type 0 where
  stays : far.section ≡ p.section → end_of p ≤ end_of far → Farther far p far
  beyond : far.section ≡ p.section → end_of far ≤ end_of p → Farther far p p
  another : far.section ≢ p.section → Farther far p p

farther_is : (far p : Part) → Farther far p (farther far p)
unfolding farther
farther_is far p = go (ℕ_discrete far.section p.section) (dec_le (end_of p) (end_of far))
  where
    go : Dec (far.section ≡ p.section) → Dec (end_of p ≤ end_of far)
        → Farther far p (cond (eqb far.section p.section && leb (end_of p) (end_of far)) far p)
    go (yes e) (yes h) = subst (Farther far p) (sym (ap (λ (t : Bool). cond t far p) (and_from _ _ (eq-eqb _ _ e) (le-leb _ _ h)))) (stays e h)
    go (yes e) (no h) =
        subst (Farther far p) (sym (ap (λ (t : Bool). cond t far p) (ap (λ (t : Bool). t && leb (end_of p) (end_of far)) (eq-eqb _ _ e) ∙ lt-leb (end_of p) (end_of far) (omega arith))))
        (beyond e (omega arith))
    go (no d) h = subst (Farther far p) (sym (ap (λ (t : Bool). cond t far p) (ap (λ (t : Bool). t && leb (end_of p) (end_of far)) (ne_eqb _ _ d)))) (another d)

-- ---- the sweep

-- each address has four bytes
abbrev pub Narrow : List Part → Type 0
Narrow parts = (p : Part) → Memᴰ p parts → p.address < 4294967296

-- the pieces passed agree, and `far` reaches farthest of those of its section, which is the last
record Passed (far : Part) (passed later : List Part) : Type 0 where
  agree : differ passed ≡ false
  has : Memᴰ far passed
  reach : (q : Part) → Memᴰ q passed → q.section ≡ far.section → end_of q ≤ end_of far
  last : (q : Part) → Memᴰ q passed → q.section ≤ far.section
  order : (q p : Part) → Memᴰ q passed → Memᴰ p later → key_of q ≤ key_of p

module _ (far p : Part) (passed later : List Part) (w : Passed far passed (p ∷ later)) (narrow : Narrow (passed ++ (p ∷ later))) (alike : unequal far p ≡ false) where
  narrow_far : far.address < 4294967296
  narrow_far = narrow far (Memᴰ.append_left (p ∷ later) w.has)

  narrow_p : p.address < 4294967296
  narrow_p = narrow p (Memᴰ.append_right passed (Memᴰ.head refl))

  key : key_of far ≤ key_of p
  key = w.order far p w.has (Memᴰ.head refl)

  section_up : far.section ≤ p.section
  section_up =
      let a = narrow_far in
      let b = narrow_p in
      let k = key in
      omega arith

  -- the next piece agrees with each one passed
  agrees : (n x : ℕ) (q : Part) → Memᴰ q passed → Lies n x q → Lies n x p → byte_of x q ≡ byte_of x p
  agrees n x q m lq lp =
      let k = key in
      let u = section_up in
      let l = w.last q m in
      let s : q.section ≡ p.section = lq.of ∙ sym lp.of in
      let same : far.section ≡ p.section = omega arith in
      let r = w.reach q m (s ∙ sym same) in
      let there : Lies n x far = record { of = same ∙ lp.of; low = omega arith; high = omega arith } in
      meets passed w.agree n x q far m w.has lq there ∙ equal_agree far p alike n x there lp

  agree_more : differ (p ∷ passed) ≡ false
  agree_more = false_from_ne_true (differ (p ∷ passed)) (λ e. let a = apart (p ∷ passed) e in go a (Memᴰ.cases_cons a.has_one) (Memᴰ.cases_cons a.has_other))
    where
      go : (a : Apart (p ∷ passed)) → (a.one ≡ p) ⊎ Memᴰ a.one passed → (a.other ≡ p) ⊎ Memᴰ a.other passed → ⊥
      go a (inl e) (inl f) = a.unequal (ap (byte_of a.address) (e ∙ sym f))
      go a (inl e) (inr m) =
          a.unequal (ap (byte_of a.address) e ∙ sym (agrees a.section a.address a.other m a.other_lies (subst (Lies a.section a.address) e a.one_lies)))
      go a (inr m) (inl f) =
          a.unequal (agrees a.section a.address a.one m a.one_lies (subst (Lies a.section a.address) f a.other_lies) ∙ sym (ap (byte_of a.address) f))
      go a (inr m) (inr k) = a.unequal (meets passed w.agree a.section a.address a.one a.other m k a.one_lies a.other_lies)

  -- the next piece is passed
  passed_on : All (λ y. key_of p ≤ key_of y) later → (next : Part) → Farther far p next → Passed next (p ∷ passed) later
  passed_on sorted next f = record {
    agree = agree_more;
    has = has_next f;
    reach = λ q m e. reach_next f q e (Memᴰ.cases_cons m);
    last = λ q m. last_next f q (Memᴰ.cases_cons m);
    order = λ q r m k. order_next q r k (Memᴰ.cases_cons m);
  }
    where
      has_next : {next : Part} → Farther far p next → Memᴰ next (p ∷ passed)
      has_next (stays e h) = Memᴰ.tail w.has
      has_next (beyond e h) = Memᴰ.head refl
      has_next (another d) = Memᴰ.head refl

      reach_next : {next : Part} → Farther far p next → (q : Part) → q.section ≡ next.section → (q ≡ p) ⊎ Memᴰ q passed → end_of q ≤ end_of next
      reach_next (stays e h) q s (inl z) = let y : end_of q ≡ end_of p = ap end_of z in omega arith
      reach_next (stays e h) q s (inr m) = w.reach q m s
      reach_next (beyond e h) q s (inl z) = let y : end_of q ≡ end_of p = ap end_of z in omega arith
      reach_next (beyond e h) q s (inr m) = let r = w.reach q m (s ∙ sym e) in omega arith
      reach_next (another d) q s (inl z) = let y : end_of q ≡ end_of p = ap end_of z in omega arith
      reach_next (another d) q s (inr m) =
          let l = w.last q m in
          let u = section_up in
          absurd (d (let z : far.section ≡ p.section = omega arith in z))

      last_next : {next : Part} → Farther far p next → (q : Part) → (q ≡ p) ⊎ Memᴰ q passed → q.section ≤ next.section
      last_next (stays e h) q (inl z) = let y : q.section ≡ p.section = ap (λ (v : Part). v.section) z in omega arith
      last_next (stays e h) q (inr m) = w.last q m
      last_next (beyond e h) q (inl z) = let y : q.section ≡ p.section = ap (λ (v : Part). v.section) z in omega arith
      last_next (beyond e h) q (inr m) = let l = w.last q m in let u = section_up in omega arith
      last_next (another d) q (inl z) = let y : q.section ≡ p.section = ap (λ (v : Part). v.section) z in omega arith
      last_next (another d) q (inr m) = let l = w.last q m in let u = section_up in omega arith

      order_next : (q r : Part) → Memᴰ r later → (q ≡ p) ⊎ Memᴰ q passed → key_of q ≤ key_of r
      order_next q r k (inl z) = let y : key_of q ≡ key_of p = ap key_of z in let a = all_find r sorted k in omega arith
      order_next q r k (inr m) = w.order q r m (Memᴰ.tail k)

from_finds : (far : Part) (passed later : List Part) → Passed far passed later → Narrow (passed ++ later) → Sorted key_of later
    → sweep_from far later ≡ differ (passed ++ later)
unfolding sweep_from Sorted
from_finds far passed [] w narrow sorted = sym (ap differ (mathlib.Core.List.append-nil passed) ∙ w.agree)
from_finds far passed (p ∷ later) w narrow sorted = go (unequal far p) refl
    (λ next v. from_finds next (p ∷ passed) later v (λ q m. narrow q (perm_among (Permᴰ.symm (Permᴰ.middle p passed later)) q m)) sorted.1)
  where
    go : (b : Bool) → unequal far p ≡ b → ((next : Part) → Passed next (p ∷ passed) later → sweep_from next later ≡ differ ((p ∷ passed) ++ later))
        → (b || sweep_from (farther far p) later) ≡ differ (passed ++ (p ∷ later))
    go true e ih = sym (unequal-apart far p (passed ++ (p ∷ later)) (Memᴰ.append_left (p ∷ later) w.has) (Memᴰ.append_right passed (Memᴰ.head refl)) e)
    go false e ih =
        ih (farther far p) (passed_on far p passed later w narrow e sorted.0 (farther far p) (farther_is far p))
        ∙ differ_same ((p ∷ passed) ++ later) (passed ++ (p ∷ later)) (perm_among (Permᴰ.symm (Permᴰ.middle p passed later))) (perm_among (Permᴰ.middle p passed later))

one_agrees : (p : Part) → differ (p ∷ []) ≡ false
one_agrees p = false_from_ne_true (differ (p ∷ [])) (λ e. let a = apart (p ∷ []) e in
    a.unequal (ap (byte_of a.address) (mathlib.Core.List.Memᴰ.eq_of_singleton a.has_one ∙ sym (mathlib.Core.List.Memᴰ.eq_of_singleton a.has_other))))

-- pieces in order: the sweep finds a difference exactly if two differ
pub sweep_sorted : (parts : List Part) → Narrow parts → Sorted key_of parts → sweep parts ≡ differ parts
unfolding sweep Sorted
sweep_sorted [] narrow sorted = nothing
  where
    nothing : false ≡ differ []
    nothing = sym (false_from_ne_true (differ []) (λ e. Memᴰ.not-nil (apart [] e).has_one))
sweep_sorted (p ∷ later) narrow sorted =
    from_finds p (p ∷ []) later (record {
      agree = one_agrees p;
      has = Memᴰ.head refl;
      reach = λ q m e. let y : end_of q ≡ end_of p = ap end_of (mathlib.Core.List.Memᴰ.eq_of_singleton m) in omega arith;
      last = λ q m. let y : q.section ≡ p.section = ap (λ (v : Part). v.section) (mathlib.Core.List.Memᴰ.eq_of_singleton m) in omega arith;
      order = λ q r m k. let y : key_of q ≡ key_of p = ap key_of (mathlib.Core.List.Memᴰ.eq_of_singleton m) in let a = all_find r sorted.0 k in omega arith;
    }) narrow sorted.1

-- ---- in any order

insert_perm : (x : Part) (l : List Part) → Permᴰ (insert_key key_of x l) (x ∷ l)
unfolding insert_key
insert_perm x [] = Permᴰ.refl (x ∷ [])
insert_perm x (y ∷ l) = go (leb (key_of x) (key_of y)) (insert_perm x l)
  where
    go : (b : Bool) → Permᴰ (insert_key key_of x l) (x ∷ l) → Permᴰ (cond b (x ∷ y ∷ l) (y ∷ insert_key key_of x l)) (x ∷ y ∷ l)
    go true q = Permᴰ.refl (x ∷ y ∷ l)
    go false q = Permᴰ.trans (Permᴰ.cons refl q) (Permᴰ.swap refl refl)

pub sort_perm : (l : List Part) → Permᴰ (sort_by key_of l) l
unfolding sort_by
sort_perm [] = Permᴰ.nil
sort_perm (x ∷ l) = Permᴰ.trans (insert_perm x (sort_by key_of l)) (Permᴰ.cons refl (sort_perm l))

-- THEOREM: comparing each piece, by section and address, with the one before it that reaches farthest finds 83
pub sweep_finds : (parts : List Part) → Narrow parts → sweep_all parts ≡ differ parts
sweep_finds parts narrow =
    sweep_sorted (sort_by key_of parts) (λ p m. narrow p (perm_among (sort_perm parts) p m)) (sorted_sort key_of parts)
    ∙ differ_same (sort_by key_of parts) parts (perm_among (sort_perm parts)) (perm_among (Permᴰ.symm (sort_perm parts)))

-- Comparing two pieces' bytes from the higher start to the lower end asks whether they differ anywhere. Assumes nothing.
use Prim.Native.Nat.{ℕ, zero, suc, ◌+◌, ◌-◌, ◌≤◌, ◌<◌}
use mathlib.Core.Path.{◌≡◌, refl, sym, ap, subst, ◌∙◌}
use mathlib.Core.List.Memᴰ
use mathlib.Core.List.{List, [], ◌∷◌, map, Memᴰ}
use mathlib.Core.Logic.{◌⊎◌, inl, inr}
use mathlib.Core.Bool.{Bool, true, false, cond, not, ◌&&◌, false≢true}
use native.Mathlib.Omega.{arith}
use lib.Dec.{eqb, leb}
use lib.ListN.{length, get_or, drop, length-take, length-drop, drop_of_length-le}
use lib.Seq.{ext_get_or, get_or-take, get_or-drop}
use borrow.Author.Tests.{not-true, eqb-false, eq-eqb, ne_eqb, le-leb, lt-leb}
use Rattle.std.proofs.lemmas.List.{at_drop_more}
use Rattle.std.proofs.lemmas.Bool.{and_parts, false_from_ne_true, and_from, and_right}
use Rattle.lists.specs.Sort.{sort_by, All}
use Rattle.lists.proofs.All.{all_sort}
use Rattle.lists.proofs.Rising.{numbers-below}
use Rattle.names.specs.Names.{same_name}
use Rattle.names.proofs.Laws.{same_self, same_equal}
use Rattle.obj.specs.Parts.{Part}
use Rattle.join.specs.Join.{byte_of, addresses, differ_at, differ}
use Rattle.piece_sweep.specs.Sweep.{end_of, unequal, farther, sweep_from, sweep}
use Rattle.lists.proofs.Among.{same_test, some_by, some_member, range_member, member_range}
use Rattle.join.proofs.Members.{Lies, lies, lies_covers}
use Rattle.piece_records.specs.Records.{part_at, next_at, parts_at, Whole}
use Rattle.piece_order.specs.Order.{starts_at, part_in, key_of, order_in, Placed}
use Rattle.piece_order.proofs.Laws.{part_small, parts_at_lem, placed, order_parts}
use Rattle.piece_sweep.specs.Overlap.{low_of, high_of, bytes_in}
use Rattle.piece_sweep.proofs.Sweep.{Narrow, sweep_finds}

-- an address at which both lie and differ
pub record Apart (p q : Part) : Type 0 where
  pub address : ℕ
  pub one : Lies q.section address p
  pub other : Lies q.section address q
  pub differ : byte_of address p ≡ byte_of address q → ⊥

pub apart : (p q : Part) → unequal p q ≡ true → Apart p q
unfolding unequal addresses differ_at
apart p q e =
    let r = some_member _ (addresses q) e in
    let m = member_range q.address (length q.bytes) r.0 r.1 in
    let d = and_parts _ _ r.2 in
    record { address = r.0; one = lies _ _ _ d.0; other = record { of = refl; low = m.0; high = m.1 }; differ = eqb-false _ _ (not-true _ d.1) }

pub apart-unequal : (p q : Part) → Apart p q → unequal p q ≡ true
unfolding unequal addresses differ_at
apart-unequal p q a =
    let o = a.other in
    some_by _ (range_member q.address (length q.bytes) a.address o.low o.high)
    (and_from _ _ (lies_covers _ _ _ a.one) (ap not (ne_eqb _ _ a.differ)))

-- pieces of other sections, or that lie nowhere together, don't differ
pub apart_sections : (p q : Part) → (p.section ≡ q.section → ⊥) → unequal p q ≡ false
apart_sections p q d = false_from_ne_true (unequal p q) (λ e. d (apart p q e).one.of)

pub apart_places : (p q : Part) → high_of p q ≤ low_of p q → unequal p q ≡ false
apart_places p q h =
    false_from_ne_true (unequal p q) (λ e.
    let a = apart p q e in
    let x = a.one.low in let y = a.one.high in let z = a.other.low in let w = a.other.high in
    omega arith)

-- a byte between both
in_at : (p : Part) (low high k : ℕ) → p.address ≤ low → k < high - low → get_or (bytes_in p low high) k 0 ≡ byte_of (low + k) p
in_at p low high k h l =
    get_or-take (high - low) (drop (low - p.address) p.bytes) k 0 l
    ∙ get_or-drop (low - p.address) p.bytes k 0
    ∙ ap (λ (i : ℕ). get_or p.bytes i 0) (let z : low - p.address + k ≡ low + k - p.address = omega arith in z)

in_length : (p : Part) (low high : ℕ) → p.address ≤ low → high ≤ end_of p → length (bytes_in p low high) ≡ high - low
in_length p low high h l = omega (arith, length-take (high - low) (drop (low - p.address) p.bytes), length-drop (low - p.address) p.bytes)

-- THEOREM: of one section, they differ exactly if these bytes do
pub overlap_is : (p q : Part) → p.section ≡ q.section → not (same_name (bytes_in p (low_of p q) (high_of p q)) (bytes_in q (low_of p q) (high_of p q))) ≡ unequal p q
overlap_is p q s = same_test (not (same_name a b)) (unequal p q) (λ e. found e (unequal p q) refl) (λ e. missed e (same_name a b) refl)
  where
    low : ℕ
    low = low_of p q

    high : ℕ
    high = high_of p q

    a : List ℕ
    a = bytes_in p low high

    b : List ℕ
    b = bytes_in q low high

    found : not (same_name a b) ≡ true → (t : Bool) → unequal p q ≡ t → unequal p q ≡ true
    found e true u = u
    found e false u = absurd (false≢true (sym (not-true _ e) ∙ ap (λ (x : List ℕ). same_name x b) equal ∙ same_self b))
      where
        each : (k : ℕ) → k < high - low → get_or a k 0 ≡ get_or b k 0
        each k h = in_at p low high k (omega arith) h ∙ go (native.Mathlib.Decide.ℕ_discrete (byte_of (low + k) p) (byte_of (low + k) q)) ∙ sym (in_at q low high k (omega arith) h)
          where
            go : Dec (byte_of (low + k) p ≡ byte_of (low + k) q) → byte_of (low + k) p ≡ byte_of (low + k) q
            go (yes z) = z
            go (no z) =
                absurd (false≢true (sym u ∙ apart-unequal p q (record {
                  address = low + k;
                  one = record { of = s; low = omega arith; high = omega arith };
                  other = record { of = refl; low = omega arith; high = omega arith };
                  differ = z;
                })))

        equal : a ≡ b
        equal =
            ext_get_or 0 a b (in_length p low high (omega arith) (omega arith) ∙ sym (in_length q low high (omega arith) (omega arith)))
            (λ k h. each k (let z = in_length p low high (omega arith) (omega arith) in omega arith))

    missed : unequal p q ≡ true → (t : Bool) → same_name a b ≡ t → not (same_name a b) ≡ true
    missed e false u = ap not u
    missed e true u =
        let w = apart p q e in
        let x = w.one.low in let y = w.one.high in let z = w.other.low in let v = w.other.high in
        let at : low + (w.address - low) ≡ w.address = omega arith in
        absurd (w.differ
        (ap (λ (i : ℕ). byte_of i p) (sym at)
        ∙ sym (in_at p low high (w.address - low) (omega arith) (omega arith))
        ∙ ap (λ (l : List ℕ). get_or l (w.address - low) 0) (same_equal a b u)
        ∙ in_at q low high (w.address - low) (omega arith) (omega arith)
        ∙ ap (λ (i : ℕ). byte_of i q) at))

-- ---- the pass

-- the farther of two, as the code asks it
pub farther_stays : (far p : Part) → far.section ≡ p.section → end_of p ≤ end_of far → farther far p ≡ far
unfolding farther
farther_stays far p e h = rw (eq-eqb _ _ e, le-leb _ _ h)

pub farther-beyond : (far p : Part) → end_of far < end_of p → farther far p ≡ p
unfolding farther
farther-beyond far p h = ap (λ (t : Bool). cond t far p) (and_right (eqb far.section p.section) _ (lt-leb (end_of p) (end_of far) h))

pub farther_another : (far p : Part) → (far.section ≡ p.section → ⊥) → farther far p ≡ p
unfolding farther
farther_another far p d = ap (λ (t : Bool). cond (t && leb (end_of p) (end_of far)) far p) (ne_eqb _ _ d)

-- what is left of the pass at place i of the order, which is `far` and those from i on
module _ (g : ℕ → Part) (order : List ℕ) (far : Part) (i : ℕ) where
  abbrev pub left : List Part
  left = map g (drop i order)

  left_is : i < length order → left ≡ g (get_or order i 0) ∷ map g (drop (i + 1) order)
  left_is h = at_drop_more (map g) order i 0 h

  pub sweep_hit : i < length order → unequal far (g (get_or order i 0)) ≡ true → sweep_from far left ≡ true
  unfolding sweep_from
  sweep_hit h e = ap (sweep_from far) (left_is h) ∙ rw e

  pub sweep_miss : i < length order → unequal far (g (get_or order i 0)) ≡ false → sweep_from far left ≡ sweep_from (farther far (g (get_or order i 0))) (map g (drop (i + 1) order))
  unfolding sweep_from
  sweep_miss h e = ap (sweep_from far) (left_is h) ∙ rw e

  pub sweep_ended : length order ≤ i → sweep_from far left ≡ false
  unfolding sweep_from
  sweep_ended h = ap (λ (l : List ℕ). sweep_from far (map g l)) (drop_of_length-le order h)

pub sweep-none : (g : ℕ → Part) (order : List ℕ) → length order ≡ 0 → sweep (map g order) ≡ false
unfolding sweep
sweep-none g [] h = refl
sweep-none g (k ∷ order) h = absurd (omega arith)

-- a column of n places that was filled
module _ (n : ℕ) (b : List ℕ) {starts : List ℕ} {long : ℕ} (same : long ≡ n) (filled : starts ≡ starts_at long b 0) where
  pub starts_are : starts ≡ starts_at n b 0
  starts_are = filled ∙ ap (λ (k : ℕ). starts_at k b 0) same

  pub starts-placed : Whole n b 0 → Placed b starts
  starts-placed w = subst (Placed b) (sym starts_are) (placed n b w)

-- each number of the order is that of a piece
pub order_below : (b starts : List ℕ) → All (λ i. i < length starts) (order_in b starts)
unfolding order_in
order_below b starts = all_sort (λ i. key_of (part_in b starts i)) (numbers-below (length starts))

-- addresses have four bytes
narrow : (b : List ℕ) → ((i : ℕ) → get_or b i 0 < 256) → (n at : ℕ) → Narrow (parts_at n b at)
unfolding parts_at
narrow b small zero at p m = absurd (Memᴰ.not-nil m)
narrow b small (suc n) at p m = go (narrow b small n (next_at b at) p) (Memᴰ.cases_cons m)
  where
    go : (Memᴰ p (parts_at n b (next_at b at)) → p.address < 4294967296) → (p ≡ part_at b at) ⊎ Memᴰ p (parts_at n b (next_at b at)) → p.address < 4294967296
    go later (inl q) = let z : p.address ≡ (part_at b at).address = ap (λ (v : Part). v.address) q in omega (arith, z, (part_small b small at).1)
    go later (inr k) = later k

-- THEOREM: the pass over the pieces by section and address finds 83
pub pass_finds : (n : ℕ) (b : List ℕ) → ((i : ℕ) → get_or b i 0 < 256) → (starts order : List ℕ) → starts ≡ starts_at n b 0 → order ≡ order_in b starts
    → sweep (map (part_in b starts) order) ≡ differ (parts_at n b 0)
pass_finds n b small starts order e f =
    ap (λ (l : List ℕ). sweep (map (part_in b starts) l)) f
    ∙ ap sweep (order_parts b starts ∙ ap (λ (l : List ℕ). sort_by key_of (map (part_at b) l)) e ∙ ap (sort_by key_of) (parts_at_lem n b 0))
    ∙ sweep_finds (parts_at n b 0) (narrow b small n 0)

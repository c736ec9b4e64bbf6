-- The index of the names: what the last name of a bucket tells, the search along a chain, and an index that a name is entered into.
-- Callers use `indexed_none`, `indexed_cleared`, `indexed_entered` (or `indexed_more`), `bucket_small`, `sought_asked`, `sought_new`, `sought_or`. Assumes nothing.
use mathlib.Core.Path.{◌≡◌, refl, sym, ap, ap₂, subst, ◌∙◌}
use mathlib.Core.List.{List, [], ◌∷◌, ◌++◌}
use mathlib.Core.Bool.{Bool, true, false, cond}
use Prim.Native.Nat.{ℕ, zero, suc, ◌+◌, ◌-◌, ◌≤◌, ◌<◌, zero-le}
use native.Mathlib.Nat.{not-suc-le-zero, add-zero, zero-add, add-suc, suc-add}
use native.Mathlib.Numerals.{add-one}
use native.Mathlib.Omega.{arith}
use borrow.Author.Tests.{eqb-true, eqb-false, leb-true, leb-false, lt-ltb, le-ltb}
use lib.Dec.{eqb, leb, ltb}
use lib.ListN.{length, get_or, take, drop, set, replicate, length-append, length-set, length-take, length-replicate, get_or-replicate, drop_of_length-le, get_or-append}
use lib.Seq.{take-suc, take_all, drop-cons, take-append-le, take-append_seam, get_or-append_seam, get_or-set_same, get_or-set_other}
use Rattle.std.specs.Prelude.{Option, Some, None, is_some, unwrap_or}
use Rattle.lists.proofs.FirstIn.{first_in_is}
use Rattle.names.specs.Names.{same_name, number_of}
use Rattle.names.specs.Index.{mix, hash_from, bucket_of, InBucket, last_from, last_in, Different, Indexed, AskedBy, Found, Sought}
use Rattle.names.proofs.Laws.{same_equal, other_sym, number_le, number_none, none_number}

-- ---- the hash

hash_small : (h : ℕ) (name : List ℕ) → h < 4294967296 → hash_from h name < 4294967296
unfolding hash_from
hash_small h [] q = q
hash_small h (b ∷ name) q = hash_small (mix h b) name (omega arith)

pub bucket_small : (name : List ℕ) → bucket_of name < 8192
unfolding bucket_of
bucket_small name = omega (arith, hash_small 2166136261 name (omega arith))

-- the bytes from i on: byte i, and those from i + 1 on
pub hash_turn : (h : ℕ) (name : List ℕ) (i : ℕ) → i < length name → hash_from h (drop i name) ≡ hash_from (mix h (get_or name i 0)) (drop (i + 1) name)
unfolding hash_from
hash_turn h name i q = rw (add-one, drop-cons name i 0 q)

pub hash_ended : (h : ℕ) (name : List ℕ) (i : ℕ) → length name ≤ i → hash_from h (drop i name) ≡ h
unfolding hash_from
hash_ended h name i q = rw (drop_of_length-le name q)

-- ---- the last name of a bucket

-- one name more
last_append : (bucket n before : ℕ) (names : List (List ℕ)) (x : List ℕ)
    → last_from bucket n before (names ++ (x ∷ [])) ≡ cond (eqb (bucket_of x) bucket) (suc (n + length names)) (last_from bucket n before names)
unfolding last_from
last_append bucket n before [] x = ap (λ (k : ℕ). cond (eqb (bucket_of x) bucket) (suc k) before) (sym (add-zero n))
last_append bucket n before (name ∷ names) x =
    last_append bucket (suc n) (cond (eqb (bucket_of name) bucket) (suc n) before) names x
    ∙ ap (λ (k : ℕ). cond (eqb (bucket_of x) bucket) (suc k) (last_from bucket n before (name ∷ names))) (suc-add n (length names) ∙ sym (add-suc n (length names)))

pub last_more : (bucket : ℕ) (names : List (List ℕ)) (x : List ℕ) → last_in bucket (names ++ (x ∷ [])) ≡ cond (eqb (bucket_of x) bucket) (suc (length names)) (last_in bucket names)
last_more bucket names x =
    last_append bucket 0 0 names x ∙ ap (λ (k : ℕ). cond (eqb (bucket_of x) bucket) (suc k) (last_in bucket names)) (zero-add (length names))

-- cur is one more than the number of the last of the first m names that is in the bucket, 0 if none is
record Last (bucket : ℕ) (names : List (List ℕ)) (m cur : ℕ) : Type 0 where
  below : cur ≤ m
  held : (k : ℕ) → cur ≡ suc k → bucket_of (get_or names k []) ≡ bucket
  after : (j : ℕ) → cur ≤ j → j < m → bucket_of (get_or names j []) ≡ bucket → ⊥

module _ (bucket : ℕ) (names : List (List ℕ)) where
  last_step : (m : ℕ) → m < length names → (cur : ℕ) → Last bucket names m cur
      → Last bucket names (suc m) (cond (eqb (bucket_of (get_or names m [])) bucket) (suc m) cur)
  last_step m h cur l = go (eqb (bucket_of (get_or names m [])) bucket) refl
    where
      go : (t : Bool) → eqb (bucket_of (get_or names m [])) bucket ≡ t → Last bucket names (suc m) (cond t (suc m) cur)
      go true e = record {
        below = omega arith;
        held = λ k q. ap (λ (i : ℕ). bucket_of (get_or names i [])) (let s : k ≡ m = omega arith in s) ∙ eqb-true _ _ e;
        after = λ j p q r. absurd (omega arith);
      }
      go false e = record {
        below = omega (arith, l.below);
        held = l.held;
        after = λ j p q r. at_or_below j p q r (eqb j m) refl;
      }
        where
          at_or_below : (j : ℕ) → cur ≤ j → j < suc m → bucket_of (get_or names j []) ≡ bucket → (t : Bool) → eqb j m ≡ t → ⊥
          at_or_below j p q r true s = eqb-false _ _ e (ap (λ (i : ℕ). bucket_of (get_or names i [])) (sym (eqb-true j m s)) ∙ r)
          at_or_below j p q r false s = l.after j p (omega (arith, eqb-false j m s)) r

  last_is : (m : ℕ) → m ≤ length names → Last bucket names m (last_in bucket (take m names))
  unfolding last_from
  last_is zero h = record {
    below = zero-le;
    held = λ k q. absurd (omega arith);
    after = λ j p q r. absurd (not-suc-le-zero q);
  }
  last_is (suc m) h =
      subst (λ (cur : ℕ). Last bucket names (suc m) cur) (sym more)
      (last_step m (omega arith) (last_in bucket (take m names)) (last_is m (omega arith)))
    where
      size : length (take m names) ≡ m
      size = length-take m names ∙ omega arith

      more : last_in bucket (take (suc m) names) ≡ cond (eqb (bucket_of (get_or names m [])) bucket) (suc m) (last_in bucket (take m names))
      more =
          ap (last_in bucket) (take-suc names m [] (omega arith))
          ∙ last_more bucket (take m names) (get_or names m [])
          ∙ ap (λ (k : ℕ). cond (eqb (bucket_of (get_or names m [])) bucket) (suc k) (last_in bucket (take m names))) size

-- the last of the first m names in a bucket is one of them
pub last_below : (bucket : ℕ) (names : List (List ℕ)) (m : ℕ) → m ≤ length names → last_in bucket (take m names) ≤ m
last_below bucket names m h = (last_is bucket names m h).below

-- ---- the search along a chain

-- a name in another bucket is not the same
other_bucket : (x y : List ℕ) → (bucket_of y ≡ bucket_of x → ⊥) → same_name x y ≡ false
other_bucket x y h = go (same_name x y) refl
  where
    go : (t : Bool) → same_name x y ≡ t → t ≡ false
    go true e = absurd (h (ap bucket_of (sym (same_equal x y e))))
    go false e = refl

-- the names from `upto` on are passed, and cur is one more than the number of the last before them that is in the bucket of x
pub record Search (names : List (List ℕ)) (x : List ℕ) (cur : ℕ) : Type 0 where
  pub upto : ℕ
  pub within : upto ≤ length names
  pub is : cur ≡ last_in (bucket_of x) (take upto names)
  pub passed : (j : ℕ) → upto ≤ j → j < length names → same_name x (get_or names j []) ≡ false

module _ (names : List (List ℕ)) (x : List ℕ) where
  -- it starts with the last name of the bucket
  pub search_starts : (cur : ℕ) → cur ≡ last_in (bucket_of x) names → Search names x cur
  search_starts cur e = record {
    upto = length names;
    within = omega arith;
    is = e ∙ ap (last_in (bucket_of x)) (sym (take_all (length names) names (omega arith)));
    passed = λ j p q. absurd (omega arith);
  }

  module _ (cur : ℕ) (s : Search names x cur) where
    place : Last (bucket_of x) names s.upto cur
    place = subst (λ (c : ℕ). Last (bucket_of x) names s.upto c) (sym s.is) (last_is (bucket_of x) names s.upto s.within)

    pub search_bound : cur ≤ length names
    search_bound = omega (arith, place.below, s.within)

    pub search_bucket : (k : ℕ) → cur ≡ k + 1 → bucket_of (get_or names k []) ≡ bucket_of x
    search_bucket k e = place.held k (e ∙ add-one k)

    -- a turn: name k is another one, and the search goes on with the one before it in its bucket
    pub search_turn : (k next : ℕ) → cur ≡ k + 1 → same_name x (get_or names k []) ≡ false
        → next ≡ last_in (bucket_of (get_or names k [])) (take k names) → Search names x next
    search_turn k next e f q = record {
      upto = k;
      within = omega (arith, search_bound);
      is = q ∙ ap (λ (b : ℕ). last_in b (take k names)) (search_bucket k e);
      passed = λ j p r. step j p r (eqb j k) refl (leb s.upto j) refl;
    }
      where
        step : (j : ℕ) → k ≤ j → j < length names → (t : Bool) → eqb j k ≡ t → (u : Bool) → leb s.upto j ≡ u → same_name x (get_or names j []) ≡ false
        step j p r true a u b = ap (λ (i : ℕ). same_name x (get_or names i [])) (eqb-true j k a) ∙ f
        step j p r false a true b = s.passed j (leb-true s.upto j b) r
        step j p r false a false b =
            other_bucket x (get_or names j []) (place.after j (omega (arith, eqb-false j k a)) (leb-false s.upto j b))

  -- it ends: no name is the same
  pub search_ends : Search names x 0 → number_of names x ≡ length names
  search_ends s = none_number names x (λ j h. step j h (leb s.upto j) refl)
    where
      step : (j : ℕ) → j < length names → (t : Bool) → leb s.upto j ≡ t → same_name x (get_or names j []) ≡ false
      step j h true b = s.passed j (leb-true s.upto j b) h
      step j h false b = other_bucket x (get_or names j []) ((place 0 s).after j zero-le (leb-false s.upto j b))

  pub search_none : {cur : ℕ} → Search names x cur → cur ≡ 0 → Sought names x None
  search_none s e = record { is = sym (search_ends (subst (Search names x) e s)); few = omega arith }

  -- it finds: a name that is the same is the only one
  pub search_finds : Different names → (k : ℕ) → k < length names → same_name x (get_or names k []) ≡ true → number_of names x ≡ k
  unfolding number_of
  search_finds different k h e =
      first_in_is (same_name x) names k [] h e (λ j q. subst (λ (y : List ℕ). same_name y (get_or names j []) ≡ false) (sym (same_equal x (get_or names k []) e)) (other_sym _ _ (different j k q h)))

-- whether it finds x
pub sought_asked : (names : List (List ℕ)) (x : List ℕ) (r : Option ℕ) → Sought names x r → is_some r ≡ ltb (number_of names x) (length names)
sought_asked names x (Some k) s = sym (lt-ltb (number_of names x) (length names) (omega (arith, s.0.is, s.1)))
sought_asked names x None s = sym (le-ltb (number_of names x) (length names) (omega (arith, s.is)))

-- it does not: the number that x gets where it is added
pub sought_new : (names : List (List ℕ)) (x : List ℕ) (r : Option ℕ) → Sought names x r → is_some r ≡ false → Found names x (length names)
sought_new names x (Some k) s e = absurd (let z : true ≡ false = e in let y : ◌≡◌ {A = ℕ} 1 0 = cc in omega arith)
sought_new names x None s e = s

-- the number with which x goes on, whether it is there or not
pub sought_or : (names : List (List ℕ)) (x : List ℕ) (r : Option ℕ) → Sought names x r → unwrap_or r (length names) ≡ number_of names x
sought_or names x (Some k) s = s.0.is
sought_or names x None s = s.is

-- what the index has at a name's bucket
pub search_head : {names : List (List ℕ)} {heads chain x : List ℕ} {bucket first : ℕ} → Indexed names heads chain → InBucket x bucket → first ≡ get_or heads bucket 0 → first ≡ last_in (bucket_of x) names
search_head {names} i b e = e ∙ i.head _ b.small ∙ ap (λ (h : ℕ). last_in h names) b.is

-- ---- a turn of `find_by`: name cur - 1 is the last that is left in the bucket

module _ {pre : ℕ → Type 0} {post : ℕ → Bool → Type 0} {names : List (List ℕ)} {heads chain x : List ℕ} {cur : ℕ} (a : AskedBy pre post names heads chain x) (s : Search names x cur) (some : cur ≡ 0 → ⊥) where
  left_number : cur - 1 < length names
  left_number = omega (arith, search_bound names x cur s)

  pub left_asked : pre (cur - 1)
  left_asked = a.asked (cur - 1) left_number

  pub left_chain : cur - 1 < length chain
  left_chain = omega (arith, left_number, a.index.few, a.index.room)

  -- the name is x: its number
  pub left_found : {r : Bool} → post (cur - 1) r → r ≡ true → Sought names x (Some (cur - 1))
  left_found {r} p t = (
    record {
      is = sym (search_finds names x a.index.different (cur - 1) left_number (sym (a.tells (cur - 1) r left_number p) ∙ t));
      few = omega (arith, left_number);
    },
    left_number,
  )

  module _ {next : ℕ} (q : next ≡ get_or chain (cur - 1) 0) where
    -- the chain goes down
    pub left_less : next < cur
    left_less = omega (arith, q, a.index.next (cur - 1) left_number, last_below (bucket_of (get_or names (cur - 1) [])) names (cur - 1) (omega (arith, left_number)))

    -- the name is another one
    pub left_other : {r : Bool} → post (cur - 1) r → r ≡ false → Search names x next
    left_other {r} p t =
        search_turn names x cur s (cur - 1) next (omega arith) (sym (a.tells (cur - 1) r left_number p) ∙ t) (q ∙ a.index.next (cur - 1) left_number)

-- ---- entering a name

-- no names: an index of cleared heads
pub indexed_none : (heads chain : List ℕ) → length heads ≡ 8192 → 4096 ≤ length chain → ((h : ℕ) → h < 8192 → get_or heads h 0 ≡ 0) → Indexed [] heads chain
unfolding last_from
indexed_none heads chain l r z = record {
  few = zero-le;
  buckets = l;
  room = r;
  head = z;
  next = λ k h. absurd (not-suc-le-zero h);
  different = λ j k p h. absurd (not-suc-le-zero h);
}

pub indexed_cleared : (n : ℕ) (heads chain : List ℕ) → n ≡ 8192 → heads ≡ replicate n 0 → 4096 ≤ length chain → Indexed [] heads chain
indexed_cleared n heads chain e z r =
    indexed_none heads chain (ap length z ∙ length-replicate n 0 ∙ e) r
    (λ h q. ap (λ (l : List ℕ). get_or l h 0) z ∙ get_or-replicate n h 0 0 (omega arith))

module _ (names : List (List ℕ)) (heads chain : List ℕ) (x : List ℕ) (ix : Indexed names heads chain) (new : number_of names x ≡ length names) (room : length names < 4096) where
  size : length (names ++ (x ∷ [])) ≡ length names + 1
  size = length-append names (x ∷ [])

  head_more : (h : ℕ) → h < 8192 → get_or (set heads (bucket_of x) (length names + 1)) h 0 ≡ last_in h (names ++ (x ∷ []))
  head_more h q = step (eqb (bucket_of x) h) refl
    where
      step : (t : Bool) → eqb (bucket_of x) h ≡ t → get_or (set heads (bucket_of x) (length names + 1)) h 0 ≡ last_in h (names ++ (x ∷ []))
      step true e =
          ap (λ (i : ℕ). get_or (set heads (bucket_of x) (length names + 1)) i 0) (sym (eqb-true (bucket_of x) h e))
          ∙ get_or-set_same heads (bucket_of x) (length names + 1) 0 (omega (arith, ix.buckets, bucket_small x))
          ∙ add-one (length names)
          ∙ sym (last_more h names x ∙ rw e)
      step false e =
          get_or-set_other heads (bucket_of x) h (length names + 1) 0 (λ p. eqb-false (bucket_of x) h e (sym p))
          ∙ ix.head h q
          ∙ sym (last_more h names x ∙ rw e)

  next_more : (k : ℕ) → k < length (names ++ (x ∷ []))
      → get_or (set chain (length names) (get_or heads (bucket_of x) 0)) k 0 ≡ last_in (bucket_of (get_or (names ++ (x ∷ [])) k [])) (take k (names ++ (x ∷ [])))
  next_more k h = step (eqb k (length names)) refl
    where
      step : (t : Bool) → eqb k (length names) ≡ t
          → get_or (set chain (length names) (get_or heads (bucket_of x) 0)) k 0 ≡ last_in (bucket_of (get_or (names ++ (x ∷ [])) k [])) (take k (names ++ (x ∷ [])))
      step true e =
          rw (eqb-true k (length names) e, get_or-append_seam names x [] [], take-append_seam names (x ∷ []))
          (get_or-set_same chain (length names) (get_or heads (bucket_of x) 0) 0 (omega (arith, ix.room)) ∙ ix.head (bucket_of x) (bucket_small x))
      step false e =
          let q : k < length names = omega (arith, size, eqb-false k (length names) e) in
          get_or-set_other chain (length names) k (get_or heads (bucket_of x) 0) 0 (eqb-false k (length names) e)
          ∙ ix.next k q
          ∙ ap₂ (λ (y : List ℕ) (l : List (List ℕ)). last_in (bucket_of y) l) (sym (get_or-append names (x ∷ []) [] k q)) (sym (take-append-le k names (x ∷ []) (omega arith)))

  different_more : Different (names ++ (x ∷ []))
  different_more j k p h = step (eqb k (length names)) refl
    where
      step : (t : Bool) → eqb k (length names) ≡ t → same_name (get_or (names ++ (x ∷ [])) j []) (get_or (names ++ (x ∷ [])) k []) ≡ false
      step true e =
          let q : j < length names = omega (arith, eqb-true k (length names) e) in
          rw (eqb-true k (length names) e, get_or-append_seam names x [] [], get_or-append names (x ∷ []) [] j q)
          (other_sym x (get_or names j []) (number_none names x new j q))
      step false e =
          let q : k < length names = omega (arith, size, eqb-false k (length names) e) in
          rw (get_or-append names (x ∷ []) [] j (omega arith), get_or-append names (x ∷ []) [] k q) (ix.different j k p q)

  -- a new name entered: chained before the last of its bucket
  pub indexed_more : Indexed (names ++ (x ∷ [])) (set heads (bucket_of x) (length names + 1)) (set chain (length names) (get_or heads (bucket_of x) 0))
  indexed_more = record {
    few = omega (arith, size);
    buckets = length-set heads (bucket_of x) (length names + 1) ∙ ix.buckets;
    room = rw length-set ix.room;
    head = head_more;
    next = next_more;
    different = different_more;
  }

-- a name that was looked for and not found, appended to the table and entered under its number
pub indexed_entered : {names more : List (List ℕ)} {heads chain heads' chain' x : List ℕ} {n r bucket : ℕ}
    → Indexed names heads chain
    → length names ≡ n
    → Found names x r
    → n ≤ r
    → n < 4096
    → more ≡ names ++ (x ∷ [])
    → InBucket x bucket
    → heads' ≡ set heads bucket (n + 1)
    → chain' ≡ set chain n (get_or heads bucket 0)
    → Indexed more heads' chain'
indexed_entered {names} {more} {heads} {chain} {heads'} {chain'} {x} {n} {r} {bucket} ix size f none room m b h c =
    let new : number_of names x ≡ length names = omega (arith, f.is, number_le names x) in
    rw (m, h, c, b.is, ← size) (indexed_more names heads chain x ix new (omega arith))

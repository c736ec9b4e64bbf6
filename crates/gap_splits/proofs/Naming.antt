-- A name among those of the tables and those that were added: where it stands, and the number and the names that `named` gives. Assumes nothing.
use mathlib.Core.Path.{◌≡◌, refl, sym, ap, ap₂, ◌∙◌}
use mathlib.Core.List.{List, [], ◌∷◌, ◌++◌, append_assoc}
use mathlib.Core.Bool.{Bool, true, false, cond, not, false≢true}
use Prim.Native.Nat.{ℕ, zero, suc, ◌+◌, ◌≤◌, ◌<◌, zero-le}
use native.Mathlib.Nat.{not-suc-le-zero}
use native.Mathlib.Omega.{arith}
use borrow.Author.Tests.{lt-ltb, le-ltb, lt-leb, leb-false, ltb-false}
use lib.Dec.{leb, ltb}
use lib.ListN.{length, length-append}
use Rattle.lists.specs.Outcome.{Outcome, accepted, refused}
use Rattle.lists.specs.Rows.{tabulate, first_in, any_of, any_from}
use Rattle.lists.proofs.Outcomes.{fails, passes}
use Rattle.names.specs.Names.{names_of, same_name, number_of}
use Rattle.names.specs.Append.{Columns as Beside, table_full, Appended}
use Rattle.names.specs.Index.{Sought}
use Rattle.names.proofs.Laws.{length-names}
use Rattle.gap_splits.specs.Entering.{Ceilings, Named, bytes_of, full, named}
use Rattle.gap_splits.specs.Added.{added, Room, Stand}
use Rattle.gap_splits.specs.Answers.{ceilings, Absent, Adds, Numbered}
use Rattle.std.specs.Prelude.{None, Some}
use Rattle.std.proofs.lemmas.Bool.{or_parts}

-- ---- the number of a name among two lists of names

first_there : {A : Type 0} (p : A → Bool) (s t : List A) → first_in p s < length s → first_in p (s ++ t) ≡ first_in p s
unfolding first_in
first_there p [] t h = absurd (not-suc-le-zero h)
first_there p (x ∷ s) t h = go (p x) h (first_there p s t)
  where
    go : (b : Bool) → cond b zero (suc (first_in p s)) < suc (length s) → (first_in p s < length s → first_in p (s ++ t) ≡ first_in p s) → cond b zero (suc (first_in p (s ++ t))) ≡ cond b zero (suc (first_in p s))
    go true q ih = refl
    go false q ih = ap suc (ih (omega arith))

first-after : {A : Type 0} (p : A → Bool) (s t : List A) → first_in p s ≡ length s → first_in p (s ++ t) ≡ length s + first_in p t
unfolding first_in
first-after p [] t h = omega arith
first-after p (x ∷ s) t h = go (p x) h (first-after p s t)
  where
    go : (b : Bool) → cond b zero (suc (first_in p s)) ≡ suc (length s) → (first_in p s ≡ length s → first_in p (s ++ t) ≡ length s + first_in p t) → cond b zero (suc (first_in p (s ++ t))) ≡ suc (length s) + first_in p t
    go true q ih = absurd (omega arith)
    go false q ih = let e = ih (omega arith) in omega arith

module _ (base more : List (List ℕ)) (x : List ℕ) where
  -- one that is in the first has its number there
  pub number_there : number_of base x < length base → number_of (base ++ more) x ≡ number_of base x
  unfolding number_of
  number_there h = first_there (same_name x) base more h

  -- another has its number behind the first
  pub number_after : number_of base x ≡ length base → number_of (base ++ more) x ≡ length base + number_of more x
  unfolding number_of
  number_after h = first-after (same_name x) base more h

-- a name is absent behind those from which it is absent, where the last is another
number_other : (x y : List ℕ) → same_name y x ≡ false → number_of (x ∷ []) y ≡ 1
unfolding number_of first_in
number_other x y e = rw e

pub absent_more : (names : List (List ℕ)) (x y : List ℕ) → same_name y x ≡ false → Absent names y → Absent (names ++ (x ∷ [])) y
absent_more names x y e h = number_after names (x ∷ []) y h ∙ ap (λ (k : ℕ). length names + k) (number_other x y e) ∙ sym (length-append names (x ∷ []))

pub absent_none : (y : List ℕ) → Absent [] y
unfolding number_of first_in
absent_none y = refl

-- ---- bytes

pub bytes_append : (s t : List (List ℕ)) → bytes_of (s ++ t) ≡ bytes_of s + bytes_of t
unfolding bytes_of
bytes_append [] t = omega arith
bytes_append (x ∷ s) t = let e = bytes_append s t in omega arith

bytes_single : (x : List ℕ) → bytes_of (x ∷ []) ≡ length x
unfolding bytes_of
bytes_single x = omega arith

pub bytes_one : (names : List (List ℕ)) (x : List ℕ) → bytes_of (names ++ (x ∷ [])) ≡ bytes_of names + length x
bytes_one names x = bytes_append names (x ∷ []) ∙ ap (λ (k : ℕ). bytes_of names + k) (bytes_single x)

-- ---- what `named` gives
module _ (room : Ceilings) (section start : ℕ) (names : List (List ℕ)) (x : List ℕ) where
  -- a name that is there is reused
  pub named_there : number_of names x < length names → named room section start names x ≡ accepted (record { names = names; number = number_of names x })
  unfolding named
  named_there h = rw (lt-ltb (number_of names x) (length names) h)

  -- a new one is added where there is a place
  pub named_new : Absent names x → full room names x ≡ false → named room section start names x ≡ accepted (record { names = names ++ (x ∷ []); number = length names })
  unfolding named
  named_new h e = rw (le-ltb (number_of names x) (length names) (omega (arith, h))) (passes 28 section start (full room names x) _ e)

  -- "28 name table full"
  pub named-full : Absent names x → full room names x ≡ true → named room section start names x ≡ refused 28 section start
  unfolding named
  named-full h e = rw (le-ltb (number_of names x) (length names) (omega (arith, h))) (fails 28 section start (full room names x) _ e)

-- ---- full, of the names of the tables and those beside
module _ (base before : List (List ℕ)) (x : List ℕ) (most most_bytes : ℕ) where
  pub has-place : length before < most → bytes_of before + length x ≤ most_bytes → full (ceilings base most most_bytes) (base ++ before) x ≡ false
  has-place h k =
      let e = length-append base before in
      let f = bytes_append base before in
      rw (lt-leb (length base + most) (length (base ++ before)) (omega arith), le-ltb (bytes_of base + most_bytes) (bytes_of (base ++ before) + length x) (omega arith))

  pub place_there : full (ceilings base most most_bytes) (base ++ before) x ≡ false → (length before < most) × (bytes_of before + length x ≤ most_bytes)
  place_there e =
      let q = or_parts (leb (length base + most) (length (base ++ before))) (ltb (bytes_of base + most_bytes) (bytes_of (base ++ before) + length x)) e in
      let u = leb-false (length base + most) (length (base ++ before)) q.0 in
      let v = ltb-false (bytes_of base + most_bytes) (bytes_of (base ++ before) + length x) q.1 in
      let l = length-append base before in
      let f = bytes_append base before in
      (omega arith, omega arith)

-- ---- steps of the code

-- x is one of the tables' names: nothing is added
pub numbered_there : (base : List (List ℕ)) (x : List ℕ) (before : List (List ℕ)) (room : Ceilings) {after : List (List ℕ)} {k : ℕ} → after ≡ before → k ≡ number_of base x → k < length base
    → Numbered base before x room after (Some k)
numbered_there base x before room same e h = rw same (record {
  is = λ section start. sym (named_there room section start (base ++ before) x (omega (arith, there, length-append base before)) ∙ ap (λ (m : ℕ). accepted (record { names = base ++ before; number = m })) (there ∙ sym e));
  later = λ y q a. a;
})
  where
    there : number_of (base ++ before) x ≡ number_of base x
    there = number_there base before x (omega arith)

-- the columns keep their lengths
room_kept : (c c' : Beside) (most most_bytes : ℕ) → length c'.bytes ≡ length c.bytes → length c'.places ≡ length c.places → length c'.lengths ≡ length c.lengths → Room c most most_bytes → Room c' most most_bytes
room_kept c c' most most_bytes eb ep el r = record {
  few = r.few;
  short = r.short;
  long_places = omega (arith, ep, r.long_places);
  long_lengths = omega (arith, el, r.long_lengths);
  long_bytes = omega (arith, eb, r.long_bytes);
}

-- no name is added
pub none_added : (c : Beside) → added c 0 ≡ []
unfolding names_of tabulate
none_added c = refl

-- nothing is added yet
pub stand_none : (c : Beside) (most most_bytes : ℕ) → Room c most most_bytes → Stand c 0 0 most most_bytes
unfolding names_of tabulate bytes_of
stand_none c most most_bytes r = record {
  room = r;
  packed = record { named = record { placed = zero-le; measured = zero-le; inside = λ k h. absurd (not-suc-le-zero h) }; below = λ k h. absurd (not-suc-le-zero h) };
  sum = refl;
  few = zero-le;
  short = zero-le;
}

-- the columns of the names after x was appended, or was not
module _ (x : List ℕ) (c c' : Beside) (names used most most_bytes : ℕ) (s : Stand c names used most most_bytes) where
  many : length (added c names) ≡ names
  many = length-names c.bytes c.places c.lengths names

  pub stand_more : {r : Bool} → Appended c c' used names x most most_bytes r → r ≡ true → Stand c' (names + 1) (used + length x) most most_bytes
  stand_more a t = record {
    room = room_kept c c' most most_bytes a.long_bytes a.long_places a.long_lengths s.room;
    packed = a.packed t;
    sum = ap (λ (k : ℕ). k + length x) s.sum ∙ sym (ap bytes_of (a.names t) ∙ bytes_one (added c names) x);
    few = omega (arith, (a.fits t).0);
    short = (a.fits t).1;
  }

  -- there is a place: the columns have one too
  place_free : names < most → used + length x ≤ most_bytes → table_full c.bytes c.places c.lengths names (used + length x) most most_bytes ≡ false
  unfolding table_full any_of any_from
  place_free u v =
      let r = s.room in
      rw (
        lt-leb most names u,
        lt-leb (length c.places) names (omega (arith, r.long_places)),
        lt-leb (length c.lengths) names (omega (arith, r.long_lengths)),
        le-ltb most_bytes (used + length x) v,
        le-ltb (length c.bytes) (used + length x) (omega (arith, r.long_bytes)),
      )

  -- it was added, or the table is full
  pub adds_done : {r : Bool} → Appended c c' used names x most most_bytes r → r ≡ true → Adds (added c names) (added c' (names + 1)) x most most_bytes r
  adds_done a t = record {
    room = λ h. (omega (arith, many, (a.fits t).0), omega (arith, s.sum, (a.fits t).1));
    full = λ h. absurd (false≢true (sym h ∙ t));
    added = λ h. a.names t;
    same = λ h. absurd (false≢true (sym h ∙ t));
  }

  pub adds_full : {r : Bool} → Appended c c' used names x most most_bytes r → r ≡ false → Adds (added c names) (added c' names) x most most_bytes r
  adds_full a t = record {
    room = λ h. absurd (false≢true (sym t ∙ h));
    full = λ h q. false≢true (sym t ∙ a.is ∙ ap not (place_free (omega (arith, many, q.0)) (omega (arith, s.sum, q.1))));
    added = λ h. absurd (false≢true (sym t ∙ h));
    same = λ h. ap (λ (d : Beside). added d names) (a.unchanged t);
  }

module _ (base : List (List ℕ)) (x : List ℕ) (before after : List (List ℕ)) (most most_bytes : ℕ) (far : Absent base x) (away : Absent before x) where
  -- x is none of all names
  absent : Absent (base ++ before) x
  absent = number_after base before x far ∙ ap (λ (k : ℕ). length base + k) away ∙ sym (length-append base before)

  -- it was added
  pub numbered_new : {unit : ℕ} {r : Bool} → Adds before after x most most_bytes r → r ≡ true → unit ≡ length base + length before
      → Numbered base before x (ceilings base most most_bytes) after (Some unit)
  numbered_new {unit} a t e = record {
    is = λ section start. sym (named_new _ section start (base ++ before) x absent (has-place base before x most most_bytes (a.room t).0 (a.room t).1) ∙ same);
    later = λ y q h. rw (a.added t) (absent_more before x y q h);
  }
    where
      all : (base ++ before) ++ (x ∷ []) ≡ base ++ after
      all = append_assoc base before (x ∷ []) ∙ ap (λ (l : List (List ℕ)). base ++ l) (sym (a.added t))

      last : length (base ++ before) ≡ unit
      last = length-append base before ∙ sym e

      same : ◌≡◌ {A = Outcome Named} (accepted (record { names = (base ++ before) ++ (x ∷ []); number = length (base ++ before) })) (accepted (record { names = base ++ after; number = unit }))
      same = ap₂ (λ (l : List (List ℕ)) (k : ℕ). accepted (record { names = l; number = k })) all last

  -- the table is full
  pub numbered-full : {r : Bool} → Adds before after x most most_bytes r → r ≡ false → Numbered base before x (ceilings base most most_bytes) after None
  numbered-full a t = record {
    is = λ section start. sym (named-full _ section start (base ++ before) x absent (none (full (ceilings base most most_bytes) (base ++ before) x) refl));
    later = λ y q h. rw (a.same t) h;
  }
    where
      none : (u : Bool) → full (ceilings base most most_bytes) (base ++ before) x ≡ u → u ≡ true
      none true e = refl
      none false e = absurd (a.full t (place_there base before x most most_bytes e))

-- a search among the names of the tables that found none
pub far_away : (names : List (List ℕ)) (x : List ℕ) → Sought names x None → Absent names x
far_away names x s = sym s.is

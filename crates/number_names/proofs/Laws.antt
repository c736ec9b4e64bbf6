-- Names looked up along the chain of their bucket, and entered one after another. Assumes nothing.
use mathlib.Core.Path.{◌≡◌, refl, sym, ap, ap₂, subst, ◌∙◌}
use mathlib.Core.List.{List, [], ◌∷◌, ◌++◌, append-nil}
use mathlib.Core.Bool.{Bool, true, false}
use Prim.Native.Nat.{ℕ, ◌+◌, ◌*◌, ◌/◌, ◌≤◌, ◌<◌}
use native.Mathlib.Omega.{arith}
use borrow.Author.Tests.{lt-ltb, le-ltb, leb-false, ltb-true, ltb-false}
use lib.ListN.{length, get_or, take, drop, set, length-append, take-append-drop}
use lib.Seq.{sets, sets-eq, length-sets, length-take-le}
use lib.Dec.{leb, ltb}
use Rattle.lists.specs.Rows.{any_of}
use Rattle.lists.specs.Outcome.{Outcome, accepted, refused, ◌>>=◌}
use Rattle.lists.proofs.Slices.{slice_same, slice_still}
use Rattle.lists.proofs.Outcomes.{fails, passes, not_both, same_accepted}
use Rattle.lists.proofs.Stores.{sets_then, take-sets, part-below-sets}
use Rattle.lists.proofs.Tests.{none_of}
use Rattle.fields.specs.Fields.{enc16}
use Rattle.outputs.specs.Outputs.{halves}
use Rattle.stage_names.specs.StageNames.{ends_from, flat, name_ends}
use Rattle.stage_names.proofs.Fits.{flat_append, long_halves}
use Rattle.names.specs.Names.{number_of}
use Rattle.names.specs.Index.{Sought, InBucket}
use Rattle.names.proofs.Laws.{number_le}
use Rattle.names.proofs.Indexes.{sought_asked, indexed_entered}
use Rattle.name_table.specs.NameTable.{name_in}
use Rattle.number_names.specs.Numbers.{Room, no_place, enter_name, enter_names, Laid, Known, Held, Within, Whole, Short, Entered, Going, InTable, Fits, Standing, names_in}
use Rattle.std.specs.Prelude.{Result, Ok, Err, Option, is_some}
use Rattle.obj.specs.declared.Refusal.{Refusal}
use Rattle.number_names.specs.Tables.{SameTable}
use Rattle.number_names.specs.declared.Count.{Count}
use Rattle.number_names.specs.declared.table.NumberedNames.{NumberedNames}
use Rattle.number_names.proofs.Laid.{name_back, start_back, end_back, names_back, count_back}

-- ---- the names that are known, asked one by one

module _ {names : List (List ℕ)} {ends bytes heads chain : List ℕ} (known : Known names ends bytes heads chain) (k : ℕ) (h : k < length names) where
  pub known_lies : InTable ends bytes k
  known_lies = record {
    there = omega (arith, h, ap length known.laid.ends_are, long_halves 0 names);
    rising = start_back known.laid k h;
    within = end_back known.laid k h;
  }

  pub known_there : get_or names k [] ≡ name_in ends bytes k
  known_there = sym (name_back known.laid k h)

-- ---- one name more, as bytes

ends_more : (at : ℕ) (names : List (List ℕ)) (x : List ℕ) → halves (ends_from at (names ++ (x ∷ []))) ≡ halves (ends_from at names) ++ enc16 (at + length (flat names) + length x)
unfolding ends_from halves flat
ends_more at [] x = ap enc16 (let e : at + length x ≡ at + 0 + length x = omega arith in e)
ends_more at (y ∷ names) x =
    let sum : at + length y + length (flat names) + length x ≡ at + length (y ++ flat names) + length x = omega (arith, length-append y (flat names)) in
    ap (λ (l : List ℕ). enc16 (at + length y) ++ l) (ends_more (at + length y) names x ∙ ap (λ (k : ℕ). halves (ends_from (at + length y) names) ++ enc16 k) sum)

name_ends_more : (names : List (List ℕ)) (x : List ℕ) → name_ends (names ++ (x ∷ [])) ≡ name_ends names ++ enc16 (length (flat names) + length x)
name_ends_more names x = ends_more 0 names x ∙ ap (λ (k : ℕ). name_ends names ++ enc16 k) (let e : 0 + length (flat names) + length x ≡ length (flat names) + length x = omega arith in e)

pub flat_more : (names : List (List ℕ)) (x : List ℕ) → flat (names ++ (x ∷ [])) ≡ flat names ++ x
unfolding flat
flat_more names x = flat_append names (x ∷ []) ∙ ap (λ (l : List ℕ). flat names ++ l) (append-nil x)

-- ---- what the outputs hold

module _ {names : List (List ℕ)} {ends₀ bytes₀ ends bytes heads chain : List ℕ} {n used : ℕ} (h : Held names ends₀ bytes₀ ends bytes heads chain n used) where
  long : length (name_ends names) ≡ 2 * n
  long = long_halves 0 names ∙ ap (λ (k : ℕ). 2 * k) (sym h.counted)

  -- they are as long as what was lent
  pub held_ends : length ends ≡ length ends₀
  held_ends = ap length h.ends_are ∙ length-sets ends₀ 0 (name_ends names)

  pub held_bytes : length bytes ≡ length bytes₀
  held_bytes = ap length h.bytes_are ∙ length-sets bytes₀ 0 (flat names)

  -- the front is just the names
  pub held-laid : Laid names (take (2 * n) ends) (take used bytes)
  held-laid = record {
    ends_are = ap₂ take (sym long) h.ends_are ∙ take-sets ends₀ (name_ends names) (omega (arith, long, h.ends_fit));
    bytes_are = ap₂ take h.sum h.bytes_are ∙ take-sets bytes₀ (flat names) (omega (arith, h.sum, h.bytes_fit));
    small = omega (arith, h.sum, h.small);
  }

  pub held_known : Known names (take (2 * n) ends) (take used bytes) heads chain
  held_known = record { laid = held-laid; index = h.index }

  -- the names at the front are read back
  pub held_listed : names_in (take (2 * n) ends) (take used bytes) ≡ names
  held_listed = names_back held-laid (length (take (2 * n) ends) / 2) (count_back held-laid)

  pub held_standing : Standing ends bytes heads chain n used
  held_standing = record {
    ends_fit = omega (arith, h.ends_fit, held_ends);
    bytes_fit = omega (arith, h.bytes_fit, held_bytes);
    known = subst (λ (l : List (List ℕ)). Known l (take (2 * n) ends) (take used bytes) heads chain) (sym held_listed) held_known;
  }

  -- whether a name was found is whether it is there
  pub held_asked : {ends' bytes' : List ℕ} (x : List ℕ) (found : Option ℕ) {r : Bool} → ends' ≡ take (2 * n) ends → bytes' ≡ take used bytes → Sought (names_in ends' bytes') x found
      → r ≡ is_some found → (t : Bool) → r ≡ t → ltb (number_of names x) (length names) ≡ t
  held_asked x found ee eb s er t e =
      sym (sought_asked names _ _ (subst (λ (l : List (List ℕ)). Sought l x found) (ap₂ names_in ee eb ∙ held_listed) s)) ∙ sym er ∙ e

  -- one name more
  pub held_more : {x ends' bytes' heads' chain' : List ℕ} {bucket : ℕ}
      → Fits x ends bytes n used
      → length names ≤ number_of names x
      → bytes' ≡ sets bytes used x
      → ends' ≡ sets ends (2 * n) (enc16 (used + length x))
      → InBucket x bucket
      → heads' ≡ set heads bucket (n + 1)
      → chain' ≡ set chain n (get_or heads bucket 0)
      → Held (names ++ (x ∷ [])) ends₀ bytes₀ ends' bytes' heads' chain' (n + 1) (used + length x)
  held_more {x} {ends'} {bytes'} {heads'} {chain'} {bucket} f new eb ee b eh ec = record {
    ends_are =
        sets_then ends₀ 0 (name_ends names) (2 * n) (enc16 (used + length x)) ee h.ends_are (omega (arith, long))
        ∙ ap (sets ends₀ 0) (ap (λ (k : ℕ). name_ends names ++ enc16 (k + length x)) h.sum ∙ sym (name_ends_more names x));
    bytes_are =
        sets_then bytes₀ 0 (flat names) used x eb h.bytes_are (omega (arith, h.sum))
        ∙ ap (sets bytes₀ 0) (sym (flat_more names x));
    counted = omega (arith, h.counted, length-append names (x ∷ []));
    sum = omega (arith, h.sum, ap length (flat_more names x), length-append (flat names) x);
    ends_fit = omega (arith, f.ends_fit, held_ends);
    bytes_fit = omega (arith, f.bytes_fit, held_bytes);
    small = omega (arith, f.short);
    index =
        indexed_entered h.index (sym h.counted) (record { is = refl; few = number_le names x }) (omega (arith, h.counted, new)) f.few refl b eh ec;
  }

-- ---- what stands at the front

-- what stands at the front of a list may be stored there again
front_again : (l : List ℕ) (k : ℕ) → k ≤ length l → l ≡ sets l 0 (take k l)
front_again l k h =
    let long : length (take k l) ≡ k = length-take-le k l h in
    sym (sets-eq (take k l) l 0 (omega arith) ∙ ap (λ (m : ℕ). take k l ++ drop m l) (let e : 0 + length (take k l) ≡ k = omega arith in e) ∙ take-append-drop k l)

module _ {ends bytes heads chain : List ℕ} {n used : ℕ} (s : Standing ends bytes heads chain n used) where
  -- they are held, over the outputs themselves
  pub standing_held : Held (names_in (take (2 * n) ends) (take used bytes)) ends bytes ends bytes heads chain n used
  standing_held =
      let k = s.known in
      let long : length (take (2 * n) ends) ≡ 2 * n = length-take-le (2 * n) ends s.ends_fit in
      let sum : used ≡ length (flat (names_in (take (2 * n) ends) (take used bytes))) = sym (length-take-le used bytes s.bytes_fit) ∙ ap length k.laid.bytes_are in
      record {
        ends_are = front_again ends (2 * n) s.ends_fit ∙ ap (sets ends 0) k.laid.ends_are;
        bytes_are = front_again bytes used s.bytes_fit ∙ ap (sets bytes 0) k.laid.bytes_are;
        counted = omega (arith, long, count_back k.laid);
        sum = sum;
        ends_fit = s.ends_fit;
        bytes_fit = s.bytes_fit;
        small = omega (arith, sum, k.laid.small);
        index = k.index;
      }

  -- bytes behind them may change
  pub standing_bytes : (x : List ℕ) → used + length x ≤ length bytes → Standing ends (sets bytes used x) heads chain n used
  standing_bytes x h =
      let same = part-below-sets bytes used x h 0 used (omega arith) in
      record {
        ends_fit = s.ends_fit;
        bytes_fit = omega (arith, s.bytes_fit, length-sets bytes used x);
        known = subst (λ (front : List ℕ). Known (names_in (take (2 * n) ends) front) (take (2 * n) ends) front heads chain) (sym same) s.known;
      }

-- ---- what entering a name gives

module _ (room : Room) (names : List (List ℕ)) (x : List ℕ) where
  pub enter_there : number_of names x < length names → enter_name room names x ≡ accepted names
  unfolding enter_name
  enter_there h = rw (lt-ltb (number_of names x) (length names) h)

  pub enter_full : length names ≤ number_of names x → no_place room names x ≡ true → enter_name room names x ≡ refused 2 0 (length names)
  unfolding enter_name
  enter_full h e = rw (le-ltb (number_of names x) (length names) h) (fails 2 0 (length names) _ _ e)

  pub enter_new : length names ≤ number_of names x → no_place room names x ≡ false → enter_name room names x ≡ accepted (names ++ (x ∷ []))
  unfolding enter_name
  enter_new h e = rw (le-ltb (number_of names x) (length names) h) (passes 2 0 (length names) _ _ e)

  -- an accepted name was there, or it is the next
  pub enter_cases : {Q : Type 0} {more : List (List ℕ)} → enter_name room names x ≡ accepted more
      → (number_of names x < length names → names ≡ more → Q) → (no_place room names x ≡ false → names ++ (x ∷ []) ≡ more → Q) → Q
  enter_cases {Q} {more} e f g = go (ltb (number_of names x) (length names)) refl (no_place room names x) refl
    where
      go : (t : Bool) → ltb (number_of names x) (length names) ≡ t → (u : Bool) → no_place room names x ≡ u → Q
      go true q u v = let h = ltb-true (number_of names x) (length names) q in f h (same_accepted (sym (enter_there h) ∙ e))
      go false q true v = absurd (not_both (sym (enter_full (ltb-false (number_of names x) (length names) q) v) ∙ e))
      go false q false v = g v (same_accepted (sym (enter_new (ltb-false (number_of names x) (length names) q) v) ∙ e))

-- the code's test of a place is the definition's
pub place_asked : (x : List ℕ) (most most_bytes : ℕ) {names : List (List ℕ)} {ends₀ bytes₀ ends bytes heads chain : List ℕ} {n used : ℕ} (t : Bool)
    → Held names ends₀ bytes₀ ends bytes heads chain n used
    → any_of (leb most n ∷ ltb most_bytes (used + length x) ∷ []) ≡ t
    → no_place (record { names = most; bytes = most_bytes }) names x ≡ t
unfolding no_place
place_asked x most most_bytes t h e =
    ap₂ (λ (k u : ℕ). any_of (leb most k ∷ ltb most_bytes (u + length x) ∷ [])) (sym h.counted) (sym h.sum) ∙ e

-- a place that is free
pub place_free : (x ends bytes : List ℕ) (n used most most_bytes : ℕ) → Within most most_bytes (length ends) (length bytes)
    → any_of (leb most n ∷ ltb most_bytes (used + length x) ∷ []) ≡ false → Fits x ends bytes n used
place_free x ends bytes n used most most_bytes w e =
    let a = leb-false most n (none_of _ 0 e) in
    let b = ltb-false most_bytes (used + length x) (none_of _ 1 e) in record {
      few = omega (arith, a, w.few);
      ends_fit = omega (arith, a, w.ends_fit);
      bytes_fit = omega (arith, b, w.bytes_fit);
      short = omega (arith, b, w.short);
    }

-- outputs of the same lengths have the same room
pub within_as : {most most_bytes ends bytes ends' bytes' : ℕ} → ends' ≡ ends → bytes' ≡ bytes → Within most most_bytes ends bytes → Within most most_bytes ends' bytes'
within_as e b w = record {
  few = w.few;
  ends_fit = omega (arith, w.ends_fit, e);
  short = w.short;
  bytes_fit = omega (arith, w.bytes_fit, b);
}

-- ---- names one after another, as a loop enters them

-- one name, and then the others
pub enter_cons : (room : Room) (names : List (List ℕ)) (x : List ℕ) (xs : List (List ℕ)) → enter_names room names (x ∷ xs) ≡ (enter_name room names x >>= λ more. enter_names room more xs)
unfolding enter_names
enter_cons room names x xs = refl

-- none is left
pub enter_nil : (room : Room) (names : List (List ℕ)) → enter_names room names [] ≡ accepted names
unfolding enter_names
enter_nil room names = refl

module _ {room : Room} {left : ℕ → List (List ℕ)} {goal : Outcome (List (List ℕ))} {ends₀ bytes₀ ends bytes heads chain : List ℕ} {i : ℕ} {r : Count}
    (g : Going room left goal ends₀ bytes₀ ends bytes heads chain i r) where
  module _ {o : Outcome (List (List ℕ))} {ends' bytes' heads' chain' : List ℕ}
      (turn : enter_names room g.names (left i) ≡ (o >>= λ more. enter_names room more (left (i + 1)))) where
    -- the turn found no place: that is the outcome
    pub going_stops : {n : Count} {e : Refusal} → Short o ends₀ bytes₀ ends' bytes' heads' chain' n e → Short goal ends₀ bytes₀ ends' bytes' heads' chain' n e
    unfolding ◌>>=◌
    going_stops s = let said = s.is in record { names = s.names; is = sym g.same ∙ turn ∙ rw said; was = s.was; held = s.held }

    -- it did: the names that are left
    pub going_on : {n : Count} → Whole o ends₀ bytes₀ ends' bytes' heads' chain' n → Going room left goal ends₀ bytes₀ ends' bytes' heads' chain' (i + 1) n
    unfolding ◌>>=◌
    going_on s = let said = s.is in record { names = s.names; held = s.held; same = sym (rw said at turn) ∙ g.same }

  -- none is left
  pub going_done : enter_names room g.names (left i) ≡ accepted g.names → Whole goal ends₀ bytes₀ ends bytes heads chain r
  going_done d = record { names = g.names; is = sym g.same ∙ d; held = g.held }

-- the same outcome, said otherwise
pub entered_as : {o want : Outcome (List (List ℕ))} (ends₀ bytes₀ ends bytes heads chain : List ℕ) (n : Count) (r : Result (Unit {0}) Refusal) → o ≡ want
    → Entered o ends₀ bytes₀ ends bytes heads chain n r → Entered want ends₀ bytes₀ ends bytes heads chain n r
entered_as ends₀ bytes₀ ends bytes heads chain n (Ok u) q e = record { names = e.names; is = sym q ∙ e.is; held = e.held }
entered_as ends₀ bytes₀ ends bytes heads chain n (Err r) q e = record { names = e.names; is = sym q ∙ e.is; was = e.was; held = e.held }

-- a name that has no place, after those that the outputs hold
pub short_held : {o : Outcome (List (List ℕ))} {names : List (List ℕ)} {ends₀ bytes₀ ends bytes heads chain : List ℕ} (n : Count)
    → o ≡ refused 2 0 (length names) → Held names ends₀ bytes₀ ends bytes heads chain n.names n.used
    → Short o ends₀ bytes₀ ends bytes heads chain n (record { number = 2; section = 0; address = n.names })
short_held {o} {names} n q h = record {
  names = names;
  is = q;
  was = ap (λ (k : ℕ). record { number = 2; section = 0; address = k }) h.counted;
  held = h;
}

-- ---- the table itself

pub same_table : {t : NumberedNames} → SameTable t t
same_table = record { ends = slice_same; bytes = slice_same; heads = slice_same; chain = slice_same; room = refl }

pub same_then : {t u v : NumberedNames} → SameTable u v → SameTable t u → SameTable t v
same_then h g =
    record {
      ends = slice_still g.ends h.ends;
      bytes = slice_still g.bytes h.bytes;
      heads = slice_still g.heads h.heads;
      chain = slice_still g.chain h.chain;
      room = h.room ∙ g.room;
    }

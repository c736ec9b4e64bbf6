-- How the pieces laid over zeros come to be right, split by split: a byte is right once the walk has passed its address, and wherever it is zero. No rule rests on
-- the order of the splits, and none on the table checks. Assumes nothing.
use Prim.Native.Nat.{ℕ, ◌+◌, ◌-◌, ◌≤◌, ◌<◌, min}
use mathlib.Core.Path.{◌≡◌, refl, sym, ap, ◌∙◌, subst}
use mathlib.Core.List.{List, [], ◌∷◌, ◌++◌, map-append}
use mathlib.Core.Logic.{◌⊎◌, inl, inr, ◌≢◌}
use mathlib.Core.Bool.{Bool, true, false, cond}
use native.Mathlib.Omega.{arith}
use native.Mathlib.Decide.{dec_lt}
use lib.Dec.{eqb, ltb}
use lib.ListN.{length, get_or, take, drop, replicate, length-replicate, length-take, length-drop, get_or-eq_default}
use lib.Seq.{sets, length-sets}
use borrow.Author.Tests.{eq-eqb, ne_eqb, ltb-false}
use Rattle.std.proofs.lemmas.Bool.{cond-false}
use Rattle.lists.specs.Outcome.{Outcome, accepted, ◌>>=◌}
use Rattle.lists.specs.Rows.{keep_if}
use Rattle.lists.specs.Sort.{All, none, each}
use Rattle.lists.proofs.All.{all_map, all_keep, all_both}
use Rattle.lists.proofs.Outcomes.{then_inv, bind_inv, same_accepted}
use Rattle.lists.proofs.Parts.{get_or-part}
use Rattle.obj.specs.declared.Split.{Split}
use Rattle.obj.specs.Parts.{Part}
use Rattle.sections.specs.Bytes.{zero_between}
use Rattle.splits.specs.Questions.{within, is_common, is_skipped, next_start}
use Rattle.pieces.specs.declared.Piece.{Piece}
use Rattle.walk.specs.Walk.{Input, Output, splitting_end_in, piece_of, on_split, walk_splits, walk_section}
use Rattle.restore.specs.Restoring.{returned, part_of, parts, laid_on, laid}
use Rattle.restore.proofs.Parts.{sets_right, zero_at}
use Rattle.restore.proofs.Steps.{Reached, From, split_adds, split_gave}
use Rattle.restore.proofs.Walked.{reached_all}

-- ---- parts, laid

-- parts laid after parts
pub laid-append : (n start : ℕ) (under : List ℕ) (ps qs : List Part) → laid_on n start under (ps ++ qs) ≡ laid_on n start (laid_on n start under ps) qs
unfolding laid_on
laid-append n start under [] qs = refl
laid-append n start under (p ∷ ps) qs = laid-append n start (cond (eqb p.section n) (sets under (p.address - start) p.bytes) under) ps qs

-- parts of another section change nothing
laid_other : (n start : ℕ) (under : List ℕ) (ps : List Part) → All (λ p. p.section ≢ n) ps → laid_on n start under ps ≡ under
unfolding laid_on
laid_other n start under [] none = refl
laid_other n start under (p ∷ ps) (each d a) = ap (λ (l : List ℕ). laid_on n start l ps) (cond-false _ _ _ (ne_eqb _ _ d)) ∙ laid_other n start under ps a

pub laid-length : (n start : ℕ) (under : List ℕ) (ps : List Part) → length (laid_on n start under ps) ≡ length under
unfolding laid_on
laid-length n start under [] = refl
laid-length n start under (p ∷ ps) = laid-length n start (cond (eqb p.section n) (sets under (p.address - start) p.bytes) under) ps ∙ go (eqb p.section n)
  where
    go : (b : Bool) → length (cond b (sets under (p.address - start) p.bytes) under) ≡ length under
    go true = length-sets under (p.address - start) p.bytes
    go false = refl

module _ (t : Input) (n : ℕ) where
  abbrev start : ℕ
  start = (t.sections.head n).address

  abbrev size : ℕ
  size = (t.sections.head n).size

  abbrev bytes : List ℕ
  bytes = t.sections.bytes n

  -- the pieces of these, laid over zeros
  abbrev pub over : List Piece → List ℕ
  over ps = laid n (t.sections.head n) (parts t.sections ps)

  -- a split of another section leaves them
  pub other_keeps : (m : ℕ) → m ≢ n → (s : Split) → Reached t m s → (current next : ℕ) (o o' : Output) → on_split t m current next s o ≡ accepted o'
      → over o'.pieces ≡ over o.pieces
  other_keeps m d s r current next o o' e =
      let a = split_adds t m current s o o' next r e in
      ap over a.2
      ∙ ap (laid n (t.sections.head n)) (map-append (part_of t.sections) o.pieces a.0)
      ∙ laid-append n start (replicate size 0) (parts t.sections o.pieces) (parts t.sections a.0)
      ∙ laid_other n start (over o.pieces) (parts t.sections a.0) (others a.0 a.1)
    where
      others : (l : List Piece) → All (λ p. (p.section ≡ m) × From t p) l → All (λ p. p.section ≢ n) (parts t.sections l)
      others [] none = none
      others (p ∷ l) (each q a) = each (λ e. d (sym q.0 ∙ e)) (others l a)

  -- right below `current`, and wherever the section's byte is zero
  abbrev pub Right : (current : ℕ) → List Piece → Type 0
  Right current ps = (k : ℕ) → k < size → (get_or bytes k 0 ≡ 0) ⊎ (start + k < current) → get_or (over ps) k 0 ≡ get_or bytes k 0

  -- a split's piece, written over what is right below its start
  piece_right : (unit number alignment next : ℕ) (s : Split) (ps : List Piece) → start ≤ s.start → s.start ≤ s.end
      → (s.end < next → zero_between bytes (s.end - start) (next - start) ≡ true)
      → Right s.start ps → Right next (ps ++ (piece_of (t.sections.head n) n unit number alignment s ∷ []))
  unfolding laid_on piece_of
  piece_right unit number alignment next s ps low forward between right k l c =
      ap (λ (x : List ℕ). get_or x k 0)
      (ap (laid n (t.sections.head n)) (map-append (part_of t.sections) ps _)
      ∙ laid-append n start _ (parts t.sections ps) _
      ∙ ap (λ (b : Bool). cond b (sets under i vs) under) (eq-eqb n n refl))
      ∙ sets_right bytes vs under i k agree (omega (arith, laid-length n start (replicate size 0) (parts t.sections ps), length-replicate {A = ℕ} size 0)) (choose c)
    where
      i : ℕ
      i = s.start - start

      m : ℕ
      m = s.end - s.start

      vs : List ℕ
      vs = returned bytes i (i + m)

      under : List ℕ
      under = over ps

      long : length vs ≡ min (i + m - i) (length bytes - i)
      long = length-take (i + m - i) (drop i bytes) ∙ ap (λ (x : ℕ). min (i + m - i) x) (length-drop i bytes)

      agree : (j : ℕ) → j < length vs → get_or vs j 0 ≡ get_or bytes (i + j) 0
      agree j h = get_or-part bytes i (i + m - i) j 0 (omega (arith, long))

      -- between the split and the next one the section has zeros
      empty : s.end ≤ start + k → start + k < next → get_or bytes k 0 ≡ 0
      empty a b =
          ap (λ (x : ℕ). get_or bytes x 0) (omega arith)
          ∙ sym (get_or-part bytes (s.end - start) (next - start - (s.end - start)) (start + k - s.end) 0 (omega arith))
          ∙ zero_at (take (next - start - (s.end - start)) (drop (s.end - start) bytes)) (start + k - s.end) (between (omega arith))

      go : start + k < next → Dec (start + k < s.start) → Dec (start + k < s.end) → Dec (k < length bytes)
          → (get_or under k 0 ≡ get_or bytes k 0) ⊎ ((i ≤ k) × (k < i + length vs))
      go h (yes a) b c = inl (right k l (inr a))
      go h (no a) (yes b) (yes c) = inr (omega arith, omega (arith, long))
      go h (no a) (yes b) (no c) = inl (right k l (inl (get_or-eq_default bytes 0 (omega arith))))
      go h (no a) (no b) c = inl (right k l (inl (empty (omega arith) h)))

      choose : (get_or bytes k 0 ≡ 0) ⊎ (start + k < next) → (get_or under k 0 ≡ get_or bytes k 0) ⊎ ((i ≤ k) × (k < i + length vs))
      choose (inl z) = inl (right k l (inl z))
      choose (inr h) = go h (dec_lt _ _) (dec_lt _ _) (dec_lt _ _)

  -- a split of the section that is neither skipped nor common
  record Own (s : Split) : Type 0 where
    reached : Reached t n s
    skipped : is_skipped s ≡ false
    common : is_common s ≡ false

  ended : (end current : ℕ) (out out' : Output) → end ≤ current → ◌≡◌ {A = Outcome Output} (accepted out) (accepted out')
      → Right current out.pieces → Right end out'.pieces
  ended end current out out' le e right =
      subst (λ (o : Output). Right end o.pieces) (same_accepted e) (λ k l c. right k l (more k c))
    where
      more : (k : ℕ) → (get_or bytes k 0 ≡ 0) ⊎ (start + k < end) → (get_or bytes k 0 ≡ 0) ⊎ (start + k < current)
      more k (inl z) = inl z
      more k (inr m) = inr (omega arith)

  split_right : (current next : ℕ) (s : Split) (out out' : Output) → Own s → on_split t n current next s out ≡ accepted out'
      → Right current out.pieces → Right next out'.pieces
  split_right current next s out out' p e right =
      let g = split_gave t n current s out out' next e p.skipped p.common in
      let here = g.here in
      let forward = g.forward in
      subst (λ (l : List Piece). Right next l) (sym g.pieces)
      (piece_right g.unit g.number g.alignment next s out.pieces p.reached.low (omega arith)
      g.between
      (subst (λ (c : ℕ). Right c out.pieces) (sym here) right))

  splits_right : (end current : ℕ) (out out' : Output) (l : List Split) → All Own l
      → walk_splits t n end current out l ≡ accepted out' → Right current out.pieces → Right end out'.pieces
  unfolding walk_splits
  splits_right end current out out' [] a e right =
      let r = then_inv _ _ _ _ _ _ e in
      ended end current out out' (ltb-false _ _ r.0) r.1 right
  splits_right end current out out' (s ∷ later) (each o os) e right =
      go (ltb current end) refl e (λ x f g. splits_right end (next_start end later) x out' later os f g)
    where
      next : ℕ
      next = next_start end later

      go : (b : Bool) → ltb current end ≡ b
          → cond b (on_split t n current next s out >>= λ x. walk_splits t n end next x later) (accepted out) ≡ accepted out'
          → ((x : Output) → walk_splits t n end next x later ≡ accepted out' → Right next x.pieces → Right end out'.pieces)
          → Right end out'.pieces
      go true q f ih =
          let r = bind_inv _ _ _ f in
          ih r.0 r.2 (split_right current next s out r.0 o r.1 right)
      go false q f ih = ended end current out out' (ltb-false _ _ q) f right

  -- the walk of the section: its splitting end, and what is right below it
  pub section_right : (out out' : Output) → All (λ s. s.section ≡ n → (is_skipped s ≡ false) × (is_common s ≡ false)) t.splits
      → walk_section t n out ≡ accepted out' → Right start out.pieces
      → (end : ℕ) × (splitting_end_in t.image t.sections n ≡ accepted end) × Right end out'.pieces
  unfolding walk_section
  section_right out out' plain e right =
      let r = bind_inv _ _ _ e in
      (r.0, r.1, splits_right r.0 start out out' _ (owns r.0) r.2 right)
    where
      owns : (end : ℕ) → All Own (keep_if (within n start end) t.splits)
      owns end =
          all_map (λ s q. let f = q.1 q.0.section in record { reached = q.0; skipped = f.0; common = f.1 })
          (all_both (reached_all t n end) (all_keep (within n start end) plain))

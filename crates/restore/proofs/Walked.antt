-- Induction over an accepted walk: what each split keeps, the walk of a section keeps, and so the walk of many. So each piece is that of a split of its section.
-- Assumes nothing.
use Prim.Native.Nat.{ℕ, zero, suc, ◌+◌, ◌≤◌, ◌<◌, zero-le}
use mathlib.Core.Path.{◌≡◌, sym, subst}
use mathlib.Core.List.{List, [], ◌∷◌, Memᴰ}
use mathlib.Core.Bool.{Bool, true, false, cond, ◌&&◌}
use native.Mathlib.Omega.{arith}
use lib.Dec.{eqb, leb, ltb}
use lib.ListN.{length}
use borrow.Author.Tests.{eqb-true, leb-true}
use Rattle.std.proofs.lemmas.Bool.{and_parts}
use Rattle.lists.specs.Outcome.{accepted, ◌>>=◌}
use Rattle.lists.specs.Rows.{keep_if}
use Rattle.lists.specs.Sort.{All, none, each}
use Rattle.lists.proofs.All.{all_append, all_map, all_keep, all_both}
use Rattle.lists.proofs.Filter.{keep_passes}
use Rattle.lists.proofs.Outcomes.{then_inv, bind_inv, same_accepted}
use Rattle.obj.specs.declared.Split.{Split}
use Rattle.splits.specs.Questions.{within, next_start}
use Rattle.pieces.specs.declared.Piece.{Piece}
use Rattle.walk.specs.Walk.{Input, Output, start_in, on_split, walk_splits, walk_section, walk_sections, walk, nothing}
use Rattle.restore.proofs.Parts.{all_members}
use Rattle.restore.proofs.Steps.{Reached, From, split_room, split_adds}

-- the splits that a section's walk takes
pub reached_all : (t : Input) (n end : ℕ) → All (Reached t n) (keep_if (within n (start_in t.sections n) end) t.splits)
reached_all t n end =
    all_map (λ s q. one s q.0 q.1) (all_both (all_keep (within n low end) (all_members t.splits)) (keep_passes (within n low end) t.splits))
  where
    low : ℕ
    low = start_in t.sections n

    one : (s : Split) → Memᴰ s t.splits → within n low end s ≡ true → Reached t n s
    one s m w =
        let a = and_parts (eqb s.section n) (leb low s.start && ltb s.start end) w in
        let b = and_parts (leb low s.start) (ltb s.start end) a.1 in
        record { listed = m; section = eqb-true _ _ a.0; low = leb-true _ _ b.0 }

-- what each split keeps
module _ (t : Input) (P : Output → Type 0) where
  abbrev Keeps : ℕ → Type 0
  Keeps n = (s : Split) → Reached t n s → (current next : ℕ) (o o' : Output) → on_split t n current next s o ≡ accepted o' → P o → P o'

  pub splits_keep : (n : ℕ) → Keeps n → (end current : ℕ) (out out' : Output) (l : List Split) → All (Reached t n) l
      → walk_splits t n end current out l ≡ accepted out' → P out → P out'
  unfolding walk_splits
  splits_keep n f end current out out' [] r e p = subst P (same_accepted (then_inv _ _ _ _ _ _ e).1) p
  splits_keep n f end current out out' (s ∷ later) (each r rs) e p =
      go (ltb current end) e (λ o g q. splits_keep n f end (next_start end later) o out' later rs g q)
    where
      next : ℕ
      next = next_start end later

      go : (b : Bool) → cond b (on_split t n current next s out >>= λ o. walk_splits t n end next o later) (accepted out) ≡ accepted out'
          → ((o : Output) → walk_splits t n end next o later ≡ accepted out' → P o → P out') → P out'
      go true g ih = let q = bind_inv _ _ _ g in ih q.0 q.2 (f s r current next out q.0 q.1 p)
      go false g ih = subst P (same_accepted g) p

  pub section_keeps : (n : ℕ) → Keeps n → (out out' : Output) → walk_section t n out ≡ accepted out' → P out → P out'
  unfolding walk_section
  section_keeps n f out out' e p =
      let q = bind_inv _ _ _ e in
      splits_keep n f q.0 (start_in t.sections n) out out' _ (reached_all t n q.0) q.2 p

  pub sections_keep : (n more : ℕ) → ((m : ℕ) → n ≤ m → m < n + more → Keeps m) → (out out' : Output)
      → walk_sections t n more out ≡ accepted out' → P out → P out'
  unfolding walk_sections
  sections_keep n zero f out out' e p = subst P (same_accepted e) p
  sections_keep n (suc more) f out out' e p =
      let q = bind_inv _ _ _ e in
      sections_keep (suc n) more (λ m a b. f m (omega arith) (omega arith)) q.0 out' q.2
      (section_keeps n (f n (omega arith) (omega arith)) out q.0 q.1 p)

-- THEOREM: each piece is that of a split of its section
pub pieces_from : (t : Input) (out : Output) → walk t ≡ accepted out → All (λ p. (p.section < t.sections.count) × From t p) out.pieces
unfolding walk
pieces_from t out e = sections_keep t (λ o. All P o.pieces) 0 t.sections.count (λ m a b. keeps m (omega arith)) nothing out e none
  where
    P : Piece → Type 0
    P p = (p.section < t.sections.count) × From t p

    keeps : (m : ℕ) → m < t.sections.count → (s : Split) → Reached t m s → (current next : ℕ) (o o' : Output) → on_split t m current next s o ≡ accepted o' → All P o.pieces → All P o'.pieces
    keeps m b s r current next o o' f ps =
        let d = split_adds t m current s o o' next r f in
        subst (λ (l : List Piece). All P l) (sym d.2) (all_append ps (all_map (λ p q. (let z = q.0 in omega arith, q.1)) d.1))

-- THEOREM: the pieces are no more than the output table holds
pub pieces_room : (t : Input) (out : Output) → walk t ≡ accepted out → length out.pieces ≤ t.room.pieces
unfolding walk
pieces_room t out e =
    sections_keep t (λ o. length o.pieces ≤ t.room.pieces) 0 t.sections.count
    (λ m a b s r current next o o' f few. split_room t m current s o o' next f few) nothing out e zero-le

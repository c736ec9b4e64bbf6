-- J1: joining the walk's pieces, in any order, gives back the image. Each piece has the section's own bytes, so pieces agree; and where none lies, T2 says that the
-- section's byte is zero. Assumes nothing.
use mathlib.Core.Path.{◌≡◌, sym, ap, subst, ◌∙◌}
use mathlib.Core.List.Permᴰ
use mathlib.Core.List.{List, Memᴰ, Permᴰ}
use mathlib.Core.Logic.{◌≢◌}
use mathlib.Core.Bool.{false, not}
use Prim.Native.Nat.{ℕ, ◌+◌, ◌-◌, ◌≤◌, ◌<◌}
use native.Mathlib.Omega.{arith}
use lib.ListN.{length, get_or, take, replicate, get_or-replicate}
use borrow.Author.Tests.{eqb-false, ne_eqb, le-ltb, not-true}
use Rattle.std.proofs.lemmas.Bool.{false_from_ne_true}
use Rattle.lists.specs.Outcome.{accepted}
use Rattle.lists.specs.Rows.{some, any_of, any_from}
use Rattle.lists.proofs.Outcomes.{passes, same_accepted}
use Rattle.lists.proofs.Rows.{get_d_tabulate}
use Rattle.obj.specs.declared.Section.{Section}
use Rattle.obj.specs.Parts.{Part}
use Rattle.pieces.specs.declared.Piece.{Piece}
use Rattle.walk.specs.Walk.{Input, Output, walk, start_in, splitting_end_in}
use Rattle.restore.specs.Restoring as restoring
use Rattle.restore.specs.Restoring.{bytes_in, part_of, byte_at, Plain, Checked, Inside, Restored}
use Rattle.restore.proofs.Walked.{pieces_from}
use Rattle.restore.proofs.Theorems.{restores, inside}
use Rattle.join.specs.Join.{nowhere, outside, byte_of, differ, joined_at, held, join_of}
use Rattle.lists.proofs.Among.{none_by, perm_among}
use Rattle.join.proofs.Members.{Lies, apart, Byte, of, empty, joined_byte}
use Rattle.join.proofs.Sizes.{Place, below-held, joined_reads}
use Rattle.lists.proofs.Among.{all_find}
use Rattle.lists.proofs.Parts.{get_or-part}
use Rattle.join_restores.specs.Restoring.{heads_of, of_bytes, parts_of_walk, JoinsBack}
use Rattle.join_restores.proofs.Laid.{laid_uncovered, map_member, member_map, keep_member, member_keep}

module _ (t : Input) (out : Output) (checked : Checked t) (walked : walk t ≡ accepted out) where
  abbrev heads : List Section
  heads = heads_of t.sections

  head_is : (n : ℕ) → n < t.sections.count → get_or heads n nowhere ≡ t.sections.head n
  head_is n h = get_d_tabulate t.sections.head 0 t.sections.count n nowhere h ∙ ap t.sections.head (let z : 0 + n ≡ n = omega arith in z)

  -- a piece of the walk, of a section that holds bytes
  pub record Known (q : Piece) : Type 0 where
    pub is : Memᴰ q out.pieces
    pub listed : q.section < t.sections.count
    pub holds : (t.sections.head q.section).kind ≢ 3
    pub lies : Inside t.sections q.section q

  piece_of : (q : Piece) → Memᴰ q out.pieces → (t.sections.head q.section).kind ≢ 3 → Known q
  piece_of q m d =
      let f = all_find q (pieces_from t out walked) m in
      record { is = m; listed = f.0; holds = d; lies = inside t checked q f.0 d f.1 }

  pub part_from : (p : Part) → Memᴰ p (parts_of_walk t.sections out.pieces) → (q : Piece) × Known q × (p ≡ part_of t.sections q)
  part_from p m =
      let r = member_map (part_of t.sections) _ m in
      let k = member_keep (of_bytes t.sections) out.pieces r.1 in
      (r.0, piece_of r.0 k.0 (eqb-false _ _ (not-true _ k.1)), r.2)

  -- it is no 82
  not_outside : (q : Piece) → Known q → outside heads (part_of t.sections q) ≡ false
  unfolding outside any_of any_from
  not_outside q w =
      let i = w.lies in
      let e = head_is q.section w.listed in
      let low = i.low in
      let high = i.high in
      let whole = i.whole in
      rw e (rw (ne_eqb _ _ w.holds, le-ltb q.address (t.sections.head q.section).address low)
      (le-ltb ((t.sections.head q.section).address + (t.sections.head q.section).size) (q.address + length (bytes_in t.sections q)) (omega arith)))

  -- its byte is the section's own
  own_byte : (q : Piece) → Known q → (n x : ℕ) → Lies n x (part_of t.sections q) → byte_of x (part_of t.sections q) ≡ byte_at t.sections n x
  own_byte q w n x l =
      let i = w.lies in
      let low = i.low in
      let whole = i.whole in
      let at = q.address - start_in t.sections q.section in
      get_or-part (t.sections.bytes q.section) at (at + q.size - at) (x - q.address) 0 (omega arith)
      ∙ ap (λ (k : ℕ). get_or (t.sections.bytes q.section) k 0) (let z : at + (x - q.address) ≡ x - start_in t.sections q.section = omega arith in z)
      ∙ ap (λ (m : ℕ). byte_at t.sections m x) l.of

  module _ (parts : List Part) (order : Permᴰ parts (parts_of_walk t.sections out.pieces)) where
    from : (p : Part) → Memᴰ p parts → (q : Piece) × Known q × (p ≡ part_of t.sections q)
    from p m = part_from p (perm_among order p m)

    none-outside : some (outside heads) parts ≡ false
    none-outside = none_by (outside heads) parts (λ p m. let r = from p m in ap (outside heads) r.2 ∙ not_outside r.0 r.1)

    byte_is : (n x : ℕ) (p : Part) → Memᴰ p parts → Lies n x p → byte_of x p ≡ byte_at t.sections n x
    byte_is n x p m l =
        let r = from p m in
        ap (byte_of x) r.2 ∙ own_byte r.0 r.1 n x (subst (Lies n x) r.2 l)

    none_differ : differ parts ≡ false
    none_differ =
        false_from_ne_true (differ parts) (λ e. let a = apart parts e in
        a.unequal (byte_is a.section a.address a.one a.has_one a.one_lies ∙ sym (byte_is a.section a.address a.other a.has_other a.other_lies)))

    -- the joined byte of a section of the restoring rule
    joined_own : (n : ℕ) → Plain t n → (end : ℕ) → splitting_end_in t.image t.sections n ≡ accepted end → (x : ℕ) → start_in t.sections n ≤ x → x < end
        → joined_at parts n x ≡ byte_at t.sections n x
    joined_own n plain end is x low high = go (joined_byte parts n x)
      where
        r : Restored t out.pieces n
        r = restores t out checked walked n plain

        same : r.end ≡ end
        same = same_accepted (sym r.ends ∙ is)

        k : ℕ
        k = x - start_in t.sections n

        free : ((p : Part) → Memᴰ p parts → Lies n x p → ⊥) → (p : Part) → Memᴰ p (restoring.parts t.sections out.pieces) → p.section ≡ n
            → p.address - start_in t.sections n ≤ k → k < p.address - start_in t.sections n + length p.bytes → ⊥
        free f p m s a b =
            let v = member_map (part_of t.sections) out.pieces m in
            let q = v.0 in
            let e = v.2 in
            let home : q.section ≡ n = ap (λ (y : Part). y.section) (sym e) ∙ s in
            let d : (t.sections.head q.section).kind ≢ 3 = λ z. plain.holds (ap (λ (m : ℕ). (t.sections.head m).kind) (sym home) ∙ z) in
            let w = piece_of q v.1 d in
            let start : start_in t.sections q.section ≡ start_in t.sections n = ap (start_in t.sections) home in
            let at : p.address ≡ q.address = ap (λ (y : Part). y.address) e in
            let size : length p.bytes ≡ length (bytes_in t.sections q) = ap (λ (y : Part). length y.bytes) e in
            let below = w.lies.low in
            f (part_of t.sections q)
            (perm_among (Permᴰ.symm order) _ (map_member (part_of t.sections) (keep_member (of_bytes t.sections) v.1 (ap not (ne_eqb _ _ d)))))
            (record { of = home; low = omega arith; high = omega arith })

        go : {b : ℕ} → Byte parts n x b → b ≡ byte_at t.sections n x
        go (of p m l e) = e ∙ byte_is n x p m l
        go (empty f e) =
            let below = r.below in
            e
            ∙ sym (get_or-replicate (t.sections.head n).size k 0 0 (omega (arith, same)))
            ∙ sym (laid_uncovered n (start_in t.sections n) (replicate (t.sections.head n).size 0) (restoring.parts t.sections out.pieces) k (free f))
            ∙ r.own x low (omega (arith, same))

    -- THEOREM J1: the walk's pieces of sections that hold bytes, in any order, are accepted wherever the output is long enough, and the joined bytes of a section of
    -- the restoring rule are its own from its start on and below its splitting end
    pub joins_back : (room : ℕ) → JoinsBack t room parts
    unfolding join_of
    joins_back room = record {
      accepts = λ h. passes 80 0 0 _ _ (le-ltb _ _ h) ∙ passes 82 0 0 _ _ none-outside ∙ passes 83 0 0 _ _ none_differ;
      within = λ n plain end is x low high. below-held heads n x _ (place n plain end is x low high);
      own = λ n plain end is x low high. joined_reads heads parts n x _ (place n plain end is x low high) ∙ joined_own n plain end is x low high;
    }
      where
        place : (n : ℕ) → Plain t n → (end : ℕ) → splitting_end_in t.image t.sections n ≡ accepted end → (x : ℕ) → start_in t.sections n ≤ x → x < end
            → Place heads n x (held (take n heads) + (x - start_in t.sections n))
        place n plain end is x low high =
            let r = restores t out checked walked n plain in
            let same : r.end ≡ end = same_accepted (sym r.ends ∙ is) in
            let below = r.below in
            let e = head_is n plain.listed in
            let start : (get_or heads n nowhere).address ≡ start_in t.sections n = ap (λ (s : Section). s.address) e in
            let size : (get_or heads n nowhere).size ≡ (t.sections.head n).size = ap (λ (s : Section). s.size) e in
            record {
              holds = λ z. plain.holds (ap (λ (s : Section). s.kind) (sym e) ∙ z);
              low = omega arith;
              high = omega arith;
              place = ap (λ (s : ℕ). held (take n heads) + (x - s)) (sym start);
            }

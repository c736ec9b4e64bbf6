-- T2 and T3: the pieces give back the image, and no two images share them. The section's turn comes, and the walks of the others leave its pieces; the second
-- follows from the first. Assumes nothing.
use Prim.Native.Nat.{ℕ, zero, suc, ◌+◌, ◌-◌, ◌≤◌, ◌<◌}
use mathlib.Core.Path.{◌≡◌, sym, ap, ◌∙◌, subst}
use mathlib.Core.List.{List, []}
use mathlib.Core.Logic.{inl, inr, ◌≢◌}
use mathlib.Core.Bool.{false}
use native.Mathlib.Omega.{arith}
use native.Mathlib.Decide.{ℕ_discrete}
use lib.ListN.{length, get_or, replicate, get_or-replicate, length-replicate, length-take, length-drop, drop}
use Rattle.lists.specs.Outcome.{accepted}
use Rattle.lists.specs.Sort.{All}
use Rattle.lists.proofs.All.{all_map}
use Rattle.lists.proofs.Outcomes.{bind_inv, same_accepted}
use Rattle.obj.specs.declared.Section.{Section}
use Rattle.obj.specs.declared.Split.{Split}
use Rattle.obj.specs.Parts.{Part}
use Rattle.sections.proofs.Kept.{end_within}
use Rattle.pieces.specs.declared.Piece.{Piece}
use Rattle.walk.specs.Walk.{Input, Output, start_in, end_in, splitting_end_in, on_split, walk_section, walk_sections, walk, nothing}
use Rattle.splits.specs.Questions.{is_common, is_skipped}
use Rattle.lists.proofs.Among.{all_find}
use Rattle.restore.specs.Restoring.{bytes_in, parts, laid_on, laid, byte_at, Plain, Checked, Inside, Restored, Alike}
use Rattle.restore.proofs.Steps.{Reached, From}
use Rattle.restore.proofs.Walked.{section_keeps, sections_keep, pieces_from}
use Rattle.restore.proofs.Laying.{laid-length, other_keeps, Right, section_right}

-- ---- the section's turn

-- what is right stays right while other sections are walked
keeps : (t : Input) (n end m : ℕ) → m ≢ n → (s : Split) → Reached t m s → (current next : ℕ) (o o' : Output) → on_split t m current next s o ≡ accepted o'
    → Right t n end o.pieces → Right t n end o'.pieces
keeps t n end m d s r current next o o' e right k l c =
    ap (λ (x : List ℕ). get_or x k 0) (other_keeps t n m d s r current next o o' e) ∙ right k l c

-- the splitting end of section n, and what is right below it
abbrev Ended : (t : Input) → (n : ℕ) → (out : Output) → Type 0
Ended t n out = (end : ℕ) × (splitting_end_in t.image t.sections n ≡ accepted end) × Right t n end out.pieces

turn : (t : Input) (n m more : ℕ) → m ≤ n → n < m + more
    → All (λ s. s.section ≡ n → (is_skipped s ≡ false) × (is_common s ≡ false)) t.splits
    → (out out' : Output) → walk_sections t m more out ≡ accepted out' → Right t n (start_in t.sections n) out.pieces → Ended t n out'
unfolding walk_sections
turn t n m zero low high plain out out' e right = absurd (omega arith)
turn t n m (suc more) low high plain out out' e right =
    let r = bind_inv _ _ _ e in
    go (ℕ_discrete m n) r.0 r.1 r.2
    (λ d o f g. turn t n (suc m) more (omega arith) (omega arith) plain o out' f g)
  where
    go : Dec (m ≡ n) → (o : Output) → walk_section t m out ≡ accepted o → walk_sections t (suc m) more o ≡ accepted out'
        → (m ≢ n → (x : Output) → walk_sections t (suc m) more x ≡ accepted out' → Right t n (start_in t.sections n) x.pieces → Ended t n out') → Ended t n out'
    go (yes q) o f g ih =
        let s = section_right t n out o plain (subst (λ (x : ℕ). walk_section t x out ≡ accepted o) q f) right in
        (s.0, s.1, sections_keep t (λ x. Right t n s.0 x.pieces) (suc m) more (λ k a b. keeps t n s.0 k (λ z. omega arith)) o out' g s.2)
    go (no d) o f g ih = ih d o g (section_keeps t (λ x. Right t n (start_in t.sections n) x.pieces) m (keeps t n (start_in t.sections n) m d) out o f right)

blank : (t : Input) (n : ℕ) → Right t n (start_in t.sections n) []
unfolding laid_on
blank t n k l (inl z) = get_or-replicate (t.sections.head n).size k 0 0 l ∙ sym z
blank t n k l (inr c) = absurd (omega arith)

ended : (t : Input) (out : Output) → walk t ≡ accepted out → (n : ℕ) → Plain t n → Ended t n out
unfolding walk
ended t out e n plain =
    let l = plain.listed in
    turn t n 0 t.sections.count (omega arith) (omega arith) plain.splits nothing out e (blank t n)

-- ---- the first theorem

-- below the splitting end the pieces have the section's own bytes; no table check is needed
own_bytes : (t : Input) (out : Output) → walk t ≡ accepted out → (n : ℕ) → Plain t n → (end : ℕ) → splitting_end_in t.image t.sections n ≡ accepted end
    → (x : ℕ) → start_in t.sections n ≤ x → x < end
    → get_or (laid n (t.sections.head n) (parts t.sections out.pieces)) (x - start_in t.sections n) 0 ≡ byte_at t.sections n x
own_bytes t out e n plain end is x low high =
    let r = ended t out e n plain in
    let same : r.0 ≡ end = same_accepted (sym r.1 ∙ is) in
    let within = end_within t.image n (t.sections.head n) (t.sections.bytes n) end is in
    r.2 (x - start_in t.sections n) (omega arith) (inr (omega arith))

-- a piece's write lies inside its section, and has as many bytes as its record says
pub inside : (t : Input) → Checked t → (p : Piece) → p.section < t.sections.count → (t.sections.head p.section).kind ≢ 3 → From t p
    → Inside t.sections p.section p
inside t checked p listed holds from = record { low = low; high = high; whole = whole }
  where
    i : ℕ
    i = p.address - start_in t.sections p.section

    bytes : List ℕ
    bytes = t.sections.bytes p.section

    low : start_in t.sections p.section ≤ p.address
    low =
        let l = from.reached.low in
        let a = from.address in
        omega arith

    high : p.address + p.size ≤ end_in t.sections p.section
    high =
        let s = from.split in
        let e = from.end in
        let f = subst (λ (n : ℕ). s.end ≤ end_in t.sections n) from.reached.section (all_find s checked.ended from.reached.listed) in
        omega arith

    whole : length (bytes_in t.sections p) ≡ p.size
    whole =
        let l = low in
        let h = high in
        let z = checked.sized p.section listed holds in
        omega (arith, length-take (i + p.size - i) (drop i bytes), length-drop i bytes)

-- THEOREM T2: "its pieces, laid over zeros at their addresses, give the section's own byte at every address from its start on and below its splitting end"; each
-- write lies inside the section
pub restores : (t : Input) (out : Output) → Checked t → walk t ≡ accepted out → (n : ℕ) → Plain t n → Restored t out.pieces n
restores t out checked e n plain =
    let r = ended t out e n plain in
    record {
      inside = all_map (λ p q is. subst (λ (m : ℕ). Inside t.sections m p) is (inside t checked p q.0 (λ k. plain.holds (ap (λ (m : ℕ). (t.sections.head m).kind) (sym is) ∙ k)) q.1))
          (pieces_from t out e);
      end = r.0;
      ends = r.1;
      below = end_within t.image n (t.sections.head n) (t.sections.bytes n) r.0 r.1;
      laid_long =
          laid-length n (t.sections.head n).address (replicate (t.sections.head n).size 0) (parts t.sections out.pieces)
          ∙ length-replicate (t.sections.head n).size 0;
      own_long = checked.sized n plain.listed plain.holds;
      own = own_bytes t out e n plain r.0 r.1;
    }

-- ---- the second theorem

plain_alike : (t u : Input) → Alike t u → (n : ℕ) → Plain t n → Plain u n
plain_alike t u same n plain =
    let l = plain.listed in
    let c = same.count in
    record {
      listed = omega arith;
      holds = λ q. plain.holds (ap (λ (h : Section). h.kind) (same.heads n l) ∙ q);
      splits = subst (All (λ s. s.section ≡ n → (is_skipped s ≡ false) × (is_common s ≡ false))) same.splits plain.splits;
    }

-- THEOREM T3: "if their pieces are alike in count, order, section, address and bytes, then in every such section both have the same byte at every address from its
-- start on and below both splitting ends"; no table check is needed
pub unique : (t u : Input) (o p : Output) → walk t ≡ accepted o → walk u ≡ accepted p → Alike t u
    → parts t.sections o.pieces ≡ parts u.sections p.pieces
    → (n : ℕ) → Plain t n → (e f : ℕ) → splitting_end_in t.image t.sections n ≡ accepted e → splitting_end_in u.image u.sections n ≡ accepted f
    → (x : ℕ) → start_in t.sections n ≤ x → x < e → x < f → byte_at t.sections n x ≡ byte_at u.sections n x
unique t u o p a b same alike n plain e f is js x low high other =
    let heads = same.heads n plain.listed in
    let starts : start_in t.sections n ≡ start_in u.sections n = ap (λ (h : Section). h.address) heads in
    sym (own_bytes t o a n plain e is x low high)
    ∙ ap (λ (l : List Part). get_or (laid n (t.sections.head n) l) (x - start_in t.sections n) 0) alike
    ∙ ap (λ (h : Section). get_or (laid n h (parts u.sections p.pieces)) (x - h.address) 0) heads
    ∙ own_bytes u p b n (plain_alike t u same n plain) f js x (omega arith) other

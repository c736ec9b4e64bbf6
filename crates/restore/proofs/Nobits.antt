-- T6 over the walk: sections of kind 3, which hold no bytes (NOBITS of the System V ABI, specs/Nobits.antt). Their splitting end is address plus size, they give
-- neither 10 nor 73, their pieces have no bytes, of an image only the bytes of the other sections have a say, and otherwise they are walked as data. Assumes nothing.
use Prim.Native.Nat.{ℕ, zero, suc, ◌+◌, ◌-◌, ◌<◌, zero-le}
use mathlib.Core.Path.{◌≡◌, refl, sym, ap, ◌∙◌, subst}
use mathlib.Core.List.{List, [], ◌∷◌, ◌++◌, reverse}
use mathlib.Core.Logic.{◌≢◌}
use mathlib.Core.Bool.{Bool, true, false, cond, not, ◌&&◌, ◌||◌, false≢true}
use native.Mathlib.Omega.{arith}
use native.Mathlib.Decide.{ℕ_discrete}
use borrow.Author.Tests.{eq-eqb, ne_eqb}
use lib.Dec.{eqb, ltb}
use lib.ListN.{length, take, drop, replicate, drop_of_length-le}
use Rattle.std.proofs.lemmas.Bool.{and_parts, cond-false}
use Rattle.lists.specs.Outcome.{accepted, refused, refuse, ◌>>=◌, ◌>>◌}
use Rattle.lists.specs.Rows.{keep_if}
use Rattle.lists.specs.Sort.{All, none, each}
use Rattle.lists.proofs.All.{all_append, all_map}
use Rattle.lists.proofs.Compare.{and_holds}
use Rattle.lists.proofs.Outcomes.{passes, same_accepted}
use Rattle.obj.specs.declared.Section.{Section}
use Rattle.obj.specs.declared.Split.{Split}
use Rattle.names.specs.Fixed.{is_four_aligned, is_pointer_list}
use Rattle.splits.specs.Questions.{within, is_common, is_skipped, next_start}
use Rattle.symbol_order.specs.Order.{symbols_of}
use Rattle.sections.specs.Image.{Image}
use Rattle.sections.specs.Sections.{Sections, head_of, sections_of}
use Rattle.sections.specs.Bytes.{bytes_of, all_zero, zero_between}
use Rattle.sections.specs.Ends.{object_below, is_linkers, lowered, lowered_end, less_four, splitting_end}
use Rattle.sections.specs.Alignment.{default_alignment}
use Rattle.sections.proofs.Nobits.{nobits_end, nobits_bytes}
use Rattle.sections.proofs.Zero.{zero_past}
use Rattle.pieces.specs.declared.Piece.{Piece}
use Rattle.pieces.specs.Questions.{count_of}
use Rattle.walk.specs.Walk.{Input, Output, start_in, end_in, splitting_end_in, nonzero, piece_of, given, on_aligned, on_kept, on_split, walk_splits, walk_section, walk_sections, walk, nothing}
use Rattle.restore.specs.Restoring.{bytes_in}
use Rattle.restore.specs.Nobits.{Empty, with_sections, of_kind, as_data, Whole, Placed}
use Rattle.restore.proofs.Steps.{From, split_inv, kept_inv}
use Rattle.restore.proofs.Walked.{sections_keep, pieces_from}
use Rattle.restore.proofs.Refusals.{says_of, Line, walk_says, end_says, split_says}

-- THEOREM T6: "Sections without bytes skip both reductions."
pub nobits_ends : (t : Input) (n : ℕ) → (t.sections.head n).kind ≡ 3 → splitting_end_in t.image t.sections n ≡ accepted (end_in t.sections n)
nobits_ends t n nobits = nobits_end n (t.sections.head n) nobits t.image (t.sections.bytes n)

-- no byte of theirs is nonzero
nobits_zero : (t : Input) (n from to : ℕ) → t.sections.bytes n ≡ [] → nonzero t.sections n from to ≡ false
nobits_zero t n from to e =
    ap (λ (l : List ℕ). not (zero_between l (from - start_in t.sections n) (to - start_in t.sections n))) e
    ∙ ap not (zero_past [] (from - start_in t.sections n) (to - start_in t.sections n) zero-le)

-- THEOREM T6: no walk is refused with 10 or 73 at a section of kind 3
pub nobits_never : (t : Input) → Empty t → (number n address : ℕ) → walk t ≡ refused number n address → (t.sections.head n).kind ≡ 3
    → (number ≢ 10) × (number ≢ 73)
nobits_never t empty number n address e = says_of P (walk t) number n address (walk_says P t line) e
  where
    P : (number section address : ℕ) → Type 0
    P k m a = (t.sections.head m).kind ≡ 3 → (k ≢ 10) × (k ≢ 73)

    others : (m k a : ℕ) → 0 < k → k ≢ 10 → k ≢ 73 → k ≢ 75 → P k m a
    others m k a h x y z nobits = (x, y)

    line : (m : ℕ) → m < t.sections.count → Line P t m
    line m b =
        record {
          end = end_says P t m (others m) (λ d nobits. absurd (d nobits));
          missing = λ current nobits. ((λ z. omega arith), (λ z. omega arith));
          split = λ s current out r. let next = next_start r.end r.later in split_says P t m (others m) s current next out
              (λ f nobits. absurd (false≢true (sym (nobits_zero t m s.end next (empty m b nobits)) ∙ (and_parts (ltb s.end next) _ f).1)))
              (λ a f nobits. ((λ z. omega arith), (λ z. omega arith)));
        }

-- no bytes have no part
abbrev nil_bytes : List ℕ
nil_bytes = []

no_part : (m i : ℕ) → take m (drop i nil_bytes) ≡ nil_bytes
no_part m i = ap (take m) (drop_of_length-le nil_bytes {i = i} zero-le) ∙ nil m
  where
    nil : (k : ℕ) → take k nil_bytes ≡ nil_bytes
    nil zero = refl
    nil (suc k) = refl

-- THEOREM T6: a piece of such a section has no bytes, and its size is its split's end less its start
pub nobits_pieces : (t : Input) (out : Output) → Empty t → walk t ≡ accepted out
    → All (λ p. (t.sections.head p.section).kind ≡ 3 → (bytes_in t.sections p ≡ []) × ((f : From t p) × (p.size ≡ f.split.end - f.split.start))) out.pieces
nobits_pieces t out no_bytes e = all_map (λ p q nobits. (empty p (no_bytes p.section q.0 nobits), (q.1, sized p q.1))) (pieces_from t out e)
  where
    empty : (p : Piece) → t.sections.bytes p.section ≡ [] → bytes_in t.sections p ≡ []
    empty p z =
        let i = p.address - start_in t.sections p.section in
        ap (λ (l : List ℕ). take (i + p.size - i) (drop i l)) z ∙ no_part (i + p.size - i) i

    sized : (p : Piece) (f : From t p) → p.size ≡ f.split.end - f.split.start
    sized p f =
        let a = f.address in
        let b = f.end in
        omega arith

-- ---- file offsets

-- what a split adds lies at its offset
given-placed : (t : Input) (n unit alignment : ℕ) (s : Split) (o : Output) → All (Placed t.sections) o.pieces
    → All (Placed t.sections) (given t n unit alignment s o).pieces
unfolding given piece_of
given-placed t n unit alignment s o f = go (is_common s)
  where
    go : (b : Bool) → All (Placed t.sections) (o.pieces ++ cond b [] (piece_of (t.sections.head n) n unit (count_of unit o.pieces) alignment s ∷ []))
    go true = all_append f none
    go false = all_append f (each refl none)

split_placed : (t : Input) (n current next : ℕ) (s : Split) (o o' : Output) → on_split t n current next s o ≡ accepted o' → All (Placed t.sections) o.pieces
    → All (Placed t.sections) o'.pieces
split_placed t n current next s o o' e f = go (is_skipped s) (split_inv t n current s o o' next e).rest
  where
    go : (b : Bool) → cond b (accepted o) (on_kept t n current s o) ≡ accepted o' → All (Placed t.sections) o'.pieces
    go true q = subst (λ (x : Output). All (Placed t.sections) x.pieces) (same_accepted q) f
    go false q = subst (λ (x : Output). All (Placed t.sections) x.pieces) (kept_inv t n current s o o' q).passed.is (given-placed t n _ _ s o f)

-- THEOREM T6: "the sh_offset member contains the conceptual file offset": each piece's file offset is its section's, and as much more as its address lies behind
-- the section's start, in sections of kind 3 as in all others
pub pieces_placed : (t : Input) (out : Output) → walk t ≡ accepted out → All (Placed t.sections) out.pieces
unfolding walk
pieces_placed t out e =
    sections_keep t (λ o. All (Placed t.sections) o.pieces) 0 t.sections.count
    (λ m a b s r current next o o' q f. split_placed t m current next s o o' q f) nothing out e none

-- ---- sections that look alike to a walk

-- every section has this head and these bytes
abbrev alone : Input → Section → List ℕ → Input
alone t head bytes = with_sections t (record { count = t.sections.count; head = λ m. head; bytes = λ m. bytes })

-- a walk sees no difference between the sections n: their heads differ in the kind at most, and neither the default alignment, nor whether a range is zero, nor
-- the splitting end depends on which it is
record Seen (g : Image) (s u : Sections) (n : ℕ) : Type 0 where
  kind : ℕ
  head : u.head n ≡ of_kind kind (s.head n)
  default : default_alignment (s.head n) (g.name (s.head n).name) ≡ default_alignment (of_kind kind (s.head n)) (g.name (s.head n).name)
  zeros : (from to : ℕ) → zero_between (s.bytes n) from to ≡ zero_between (u.bytes n) from to
  ends : splitting_end_in g s n ≡ splitting_end_in g u n

-- a split of a section that is seen with another kind and other bytes
alone_alike : (t : Input) (n current next : ℕ) (s : Split) (out : Output) (head : Section) (kind : ℕ) (bytes other : List ℕ)
    → default_alignment head (t.image.name head.name) ≡ default_alignment (of_kind kind head) (t.image.name head.name)
    → zero_between bytes (s.end - head.address) (next - head.address) ≡ zero_between other (s.end - head.address) (next - head.address)
    → on_split (alone t head bytes) n current next s out ≡ on_split (alone t (of_kind kind head) other) n current next s out
unfolding on_split on_kept on_aligned given piece_of
alone_alike t n current next s out head kind bytes other d z = rw (d, z)

module _ (t : Input) (u : Sections) where
  abbrev other : Input
  other = with_sections t u

  split_alike : (n : ℕ) → Seen t.image t.sections u n → (current next : ℕ) (s : Split) (out : Output) → on_split t n current next s out ≡ on_split other n current next s out
  unfolding on_split on_kept on_aligned given piece_of
  split_alike n q current next s out =
      alone_alike t n current next s out (t.sections.head n) q.kind (t.sections.bytes n) (u.bytes n) q.default
      (q.zeros (s.end - (t.sections.head n).address) (next - (t.sections.head n).address))
      ∙ ap (λ (h : Section). on_split (alone t h (u.bytes n)) n current next s out) (sym q.head)

  splits_alike : (n : ℕ) → Seen t.image t.sections u n → (end current : ℕ) (out : Output) (l : List Split)
      → walk_splits t n end current out l ≡ walk_splits other n end current out l
  unfolding walk_splits
  splits_alike n q end current out [] = refl
  splits_alike n q end current out (s ∷ later) =
      go (ltb current end) (split_alike n q current next s out) (λ o. splits_alike n q end next o later)
    where
      next : ℕ
      next = next_start end later

      go : (c : Bool) → on_split t n current next s out ≡ on_split other n current next s out
          → ((o : Output) → walk_splits t n end next o later ≡ walk_splits other n end next o later)
          → cond c (on_split t n current next s out >>= λ o. walk_splits t n end next o later) (accepted out)
          ≡ cond c (on_split other n current next s out >>= λ o. walk_splits other n end next o later) (accepted out)
      go c f g = λ i. cond c (f i >>= λ o. g o i) (accepted out)

  section_alike : (n : ℕ) → Seen t.image t.sections u n → (out : Output) → walk_section t n out ≡ walk_section other n out
  unfolding walk_section
  section_alike n q out = λ i. q.ends i >>= λ end. splits_alike n q end (start i) out (keep_if (within n (start i) end) t.splits) i
    where
      start : start_in t.sections n ≡ start_in u n
      start = ap (λ (h : Section). h.address) (sym q.head)

  sections_alike : (n more : ℕ) → ((m : ℕ) → m < n + more → Seen t.image t.sections u m) → (out : Output) → walk_sections t n more out ≡ walk_sections other n more out
  unfolding walk_sections
  sections_alike n zero q out = refl
  sections_alike n (suc more) q out = λ i.
      section_alike n (q n (omega arith)) out i >>= λ o. sections_alike (suc n) more (λ m h. q m (omega arith)) o i

  -- two walks of tables whose sections look alike have equal outcomes
  walk_alike : t.sections.count ≡ u.count → ((n : ℕ) → n < t.sections.count → Seen t.image t.sections u n) → walk t ≡ walk other
  unfolding walk
  walk_alike count q = sections_alike 0 t.sections.count (λ m h. q m (omega arith)) nothing ∙ ap (λ (m : ℕ). walk_sections other 0 m nothing) count

-- ---- two images

-- the same head, and the same bytes
same_seen : (g : Image) (s u : Sections) (n : ℕ) → s.head n ≡ u.head n → s.bytes n ≡ u.bytes n → Seen g s u n
same_seen g s u n h b = record {
  kind = (s.head n).kind;
  head = sym h;
  default = refl;
  zeros = λ from to. ap (λ (l : List ℕ). zero_between l from to) b;
  ends = λ i. splitting_end g n (h i) (b i);
}

-- THEOREM: two walks of the same tables, with the same head and bytes of each section, have equal outcomes
pub walk_same : (t : Input) (u : Sections) → t.sections.count ≡ u.count
    → ((n : ℕ) → n < t.sections.count → (t.sections.head n ≡ u.head n) × (t.sections.bytes n ≡ u.bytes n)) → walk t ≡ walk (with_sections t u)
walk_same t u count same = walk_alike t u count (λ n h. same_seen t.image t.sections u n (same n h).0 (same n h).1)

-- THEOREM T6: two images, with the places of the sections' bytes in them, that differ in no byte of sections of kinds 0 to 2 have equal outcomes: a section of kind 3
-- "occupies no space in the file"
pub images_alike : (t : Input) (heads head_places image places image' places' : List ℕ)
    → ((n : ℕ) → n < length head_places → (head_of heads head_places n).kind ≢ 3
    → bytes_of image places n (head_of heads head_places n) ≡ bytes_of image' places' n (head_of heads head_places n))
    → walk (with_sections t (sections_of heads head_places image places)) ≡ walk (with_sections t (sections_of heads head_places image' places'))
images_alike t heads head_places image places image' places' same =
    walk_same (with_sections t (sections_of heads head_places image places)) (sections_of heads head_places image' places') refl
    (λ n h. (refl, go n h (ℕ_discrete (head_of heads head_places n).kind 3)))
  where
    go : (n : ℕ) → n < length head_places → Dec ((head_of heads head_places n).kind ≡ 3)
        → bytes_of image places n (head_of heads head_places n) ≡ bytes_of image' places' n (head_of heads head_places n)
    go n h (yes e) = nobits_bytes n (head_of heads head_places n) e image places ∙ sym (nobits_bytes n (head_of heads head_places n) e image' places')
    go n h (no d) = same n h d

-- ---- "otherwise resembles SHT_PROGBITS"

-- zeros are zero in every range
zeros_zero : (m : ℕ) → all_zero (replicate m 0) ≡ true
unfolding all_zero
zeros_zero zero = refl
zeros_zero (suc m) = zeros_zero m

all_drop : (i : ℕ) (l : List ℕ) → all_zero l ≡ true → all_zero (drop i l) ≡ true
unfolding all_zero
all_drop zero l e = e
all_drop (suc i) [] e = refl
all_drop (suc i) (b ∷ l) e = all_drop i l (and_parts (eqb b 0) (all_zero l) e).1

all_take : (m : ℕ) (l : List ℕ) → all_zero l ≡ true → all_zero (take m l) ≡ true
unfolding all_zero
all_take zero l e = refl
all_take (suc m) [] e = refl
all_take (suc m) (b ∷ l) e = let q = and_parts (eqb b 0) (all_zero l) e in and_holds q.0 ∙ all_take m l q.1

data_zero : (size from to : ℕ) → zero_between (replicate size 0) from to ≡ true
data_zero size from to = all_take (to - from) (drop from (replicate size 0)) (all_drop from (replicate size 0) (zeros_zero size))

-- the default alignment asks only whether a section is code
default_data : (head : Section) (name : List ℕ) → head.kind ≡ 3 → default_alignment head name ≡ default_alignment (of_kind 1 head) name
unfolding default_alignment
default_data head name e = ap (λ (k : ℕ). cond (eqb k 0 || is_four_aligned name) 4 8) e

module _ (s : Sections) (n : ℕ) where
  -- section n as data
  data_head : (as_data s n).head n ≡ of_kind 1 (s.head n)
  data_head = ap (λ (b : Bool). cond b (of_kind 1 (s.head n)) (s.head n)) (eq-eqb n n refl)

  data_bytes : (as_data s n).bytes n ≡ replicate (s.head n).size 0
  data_bytes = ap (λ (b : Bool). cond b (replicate (s.head n).size 0) (s.bytes n)) (eq-eqb n n refl)

  -- the other sections are as they were
  other_seen : (g : Image) (m : ℕ) → m ≢ n → Seen g s (as_data s n) m
  other_seen g m d =
      same_seen g s (as_data s n) m
      (sym (cond-false (eqb m n) (of_kind 1 (s.head m)) (s.head m) (ne_eqb m n d)))
      (sym (cond-false (eqb m n) (replicate (s.head m).size 0) (s.bytes m) (ne_eqb m n d)))

-- THEOREM T6: a section of kind 3 is walked as data whose bytes are zeros, where no reduction lowers the splitting end of that: the outcome is the same, pieces,
-- symbols, relocations or refusal
pub resembles : (t : Input) (n : ℕ) → (t.sections.head n).kind ≡ 3 → t.sections.bytes n ≡ [] → Whole t.image (as_data t.sections n) n
    → walk t ≡ walk (with_sections t (as_data t.sections n))
resembles t n nobits empty whole = walk_alike t (as_data t.sections n) refl (λ m h. go m (ℕ_discrete m n))
  where
    s : Sections
    s = t.sections

    seen : Seen t.image s (as_data s n) n
    seen = record {
      kind = 1;
      head = data_head s n;
      default = default_data (s.head n) (t.image.name (s.head n).name) nobits;
      zeros = λ from to.
          ap (λ (l : List ℕ). zero_between l from to) empty ∙ zero_past [] from to zero-le
          ∙ sym (ap (λ (l : List ℕ). zero_between l from to) (data_bytes s n) ∙ data_zero (s.head n).size from to);
      ends = nobits_ends t n nobits ∙ sym (whole ∙ ap (λ (h : Section). accepted (h.address + h.size)) (data_head s n));
    }

    go : (m : ℕ) → Dec (m ≡ n) → Seen t.image s (as_data s n) m
    go m (yes e) = subst (Seen t.image s (as_data s n)) (sym e) seen
    go m (no d) = other_seen s n t.image m d

-- ---- where no reduction lowers a splitting end

-- no symbol is a linker's
lowered_same : (g : Image) → ((i : ℕ) → is_linkers g (g.symbol i) ≡ false) → (end : ℕ) (l : List ℕ) → lowered g end l ≡ end
unfolding lowered
lowered_same g free end [] = refl
lowered_same g free end (i ∷ earlier) = go (object_below end (g.symbol i)) (is_linkers g (g.symbol i)) (free i) (lowered_same g free end earlier)
  where
    go : (a b : Bool) → b ≡ false → lowered g end earlier ≡ end → cond a (cond b (lowered g (g.symbol i).address earlier) end) (lowered g end earlier) ≡ end
    go a true e ih = absurd (false≢true (sym e))
    go true false e ih = refl
    go false false e ih = ih

plain_end : (g : Image) (n : ℕ) (head : Section) (bytes : List ℕ) → is_pointer_list (g.name head.name) ≡ false → ((i : ℕ) → is_linkers g (g.symbol i) ≡ false)
    → splitting_end g n head bytes ≡ accepted (head.address + head.size)
unfolding splitting_end
plain_end g n head bytes p free = go (eqb head.kind 3 || eqb head.size 0)
  where
    end : ℕ
    end = head.address + head.size

    list : Bool
    list = is_pointer_list (g.name head.name)

    rest : (refuse 10 n head.address (list && ltb head.size 4) >> accepted (lowered_end g n (less_four list bytes end))) ≡ accepted end
    rest =
        passes 10 n head.address _ _ (ap (λ (b : Bool). b && ltb head.size 4) p)
        ∙ ap (λ (b : Bool). accepted (lowered_end g n (less_four b bytes end))) p
        ∙ ap accepted (lowered_same g free end (reverse (symbols_of g.symbol g.count n)))

    go : (b : Bool) → cond b (accepted end) (refuse 10 n head.address (list && ltb head.size 4) >> accepted (lowered_end g n (less_four list bytes end))) ≡ accepted end
    go true = refl
    go false = rest

-- THEOREM T6: so it is in every section but `.ctors` and `.dtors`, where no symbol has a linker object's name
pub data_whole : (g : Image) (s : Sections) (n : ℕ) → is_pointer_list (g.name (s.head n).name) ≡ false → ((i : ℕ) → is_linkers g (g.symbol i) ≡ false)
    → Whole g (as_data s n) n
data_whole g s n p free =
    subst (λ (h : Section). splitting_end g n h ((as_data s n).bytes n) ≡ accepted (h.address + h.size)) (sym (data_head s n))
    (plain_end g n (of_kind 1 (s.head n)) ((as_data s n).bytes n) p free)

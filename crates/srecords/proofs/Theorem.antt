-- The theorem of (n): "A reader by the public definition gives back each section's joined bytes at its addresses", each once, and nothing else. Assumes nothing.
use mathlib.Core.Path.{◌≡◌, refl, sym, ap, ap₂, subst, ◌∙◌}
use mathlib.Core.List.{List, [], ◌∷◌, ◌++◌, append_assoc, append-nil, Memᴰ}
use mathlib.Core.Bool.{true, false, not, false≢true}
use Prim.Native.Nat.{ℕ, zero, suc, ◌+◌, ◌-◌, ◌≤◌, ◌<◌}
use native.Mathlib.Omega.{arith}
use native.Mathlib.Decide.{ℕ_discrete, dec_lt}
use lib.ListN.{length, get_or}
use borrow.Author.Tests.{ne_eqb, le-leb, lt-ltb}
use Rattle.std.proofs.lemmas.Bool.{or_parts, and_from}
use Rattle.lists.specs.Rows.{some}
use Rattle.lists.specs.Sort.{All, none, each}
use Rattle.lists.proofs.Each.{all_placed}
use Rattle.obj.specs.declared.Section.{Section}
use Rattle.obj.specs.Parts.{Part}
use Rattle.join.specs.Join.{nowhere, joined_at, joined_section, held_by}
use Rattle.lists.proofs.Among.{some_by, none_member, range_member, at_member}
use Rattle.join.proofs.Members.{Byte, of, empty, joined_byte}
use Rattle.join.proofs.Sizes.{joined_section-held, section_reads, held_by_is, held_by-none, listed}
use Rattle.srecords.specs.Lines.{S7, section_lines, lines_from, lines_of, line_of, has_address, share_address, some_share, Ended}
use Rattle.srecords.specs.Reader.{read, Line, puts, bytes_put, read_text, text_lines, read_lines, Has, ReadsBack}
use Rattle.srecords.proofs.Text.{text_line, wide_7, chunks, section_read}
use Rattle.srecords.proofs.Put.{put_append, put_own, put_below, put_past}

-- ---- what is asked of the input: what the table checks give, and bytes that are bytes

abbrev pub Small : List Part → Type 0
Small parts = (p : Part) → Memᴰ p parts → (i : ℕ) → get_or p.bytes i 0 < 256

joined_small : (parts : List Part) → Small parts → (n x : ℕ) → joined_at parts n x < 256
joined_small parts f n x = go (joined_byte parts n x)
  where
    go : {b : ℕ} → Byte parts n x b → b < 256
    go (of p m l e) = let h = f p m (x - p.address) in omega arith
    go (empty g e) = omega arith

section_small : (parts : List Part) → Small parts → (n : ℕ) (head : Section) → All (λ b. b < 256) (joined_section parts n head)
section_small parts f n head = all_placed (joined_section parts n head) 0 (λ k h. at k (subst (λ (l : ℕ). k < l) (joined_section-held parts n head) h) (ℕ_discrete head.kind 3))
  where
    at : (k : ℕ) → k < held_by head → Dec (head.kind ≡ 3) → get_or (joined_section parts n head) k 0 < 256
    at k h (yes e) = let z = held_by-none head e in absurd (omega arith)
    at k h (no d) =
        let z = held_by_is head d in
        let s = section_reads parts n head k d (omega arith) in
        let b = joined_small parts f n (head.address + k) in
        omega arith

-- ---- the lines as they are read

-- the data lines of the sections from number n on
unfoldable pub data_from : List Part → (n : ℕ) → List Section → List Line
data_from parts n [] = []
data_from parts n (head ∷ later) = chunks head.address (joined_section parts n head) ++ data_from parts (suc n) later

-- the last line
abbrev pub last : Line
last = record { type = S7; address = 0; bytes = [] }

held_end : (parts : List Part) (n : ℕ) (head : Section) → head.address + head.size ≤ 4294967296 → head.address + length (joined_section parts n head) ≤ 4294967296
held_end parts n head h = go (ℕ_discrete head.kind 3)
  where
    go : Dec (head.kind ≡ 3) → head.address + length (joined_section parts n head) ≤ 4294967296
    go (yes e) = let z = held_by-none head e in let l = joined_section-held parts n head in omega arith
    go (no d) = let z = held_by_is head d in let l = joined_section-held parts n head in omega arith

from_read : (parts : List Part) → Small parts → (n : ℕ) (heads : List Section) → Ended heads → (t : List ℕ) (rest : List Line) → read_text t ≡ read rest
    → read_text (lines_from parts n heads ++ t) ≡ read (data_from parts n heads ++ rest)
unfolding lines_from data_from
from_read parts f n [] none t rest e = e
from_read parts f n (head ∷ later) (each h a) t rest e =
    ap read_text (append_assoc (section_lines head.address (joined_section parts n head)) (lines_from parts (suc n) later) t)
    ∙ section_read head.address (joined_section parts n head) (held_end parts n head h) (section_small parts f n head) (lines_from parts (suc n) later ++ t)
    (data_from parts (suc n) later ++ rest) (from_read parts f (suc n) later a t rest e)
    ∙ ap read (sym (append_assoc (chunks head.address (joined_section parts n head)) (data_from parts (suc n) later) rest))

last_read : read_text (line_of S7 0 []) ≡ read (last ∷ [])
unfolding text_lines read_lines
last_read =
    ap read_text (sym (append-nil (line_of S7 0 [])))
    ∙ text_line S7 0 [] wide_7 (record { below = omega arith; few = omega arith; small = none }) [] [] refl

-- THEOREM: every line is read, as the data lines of the sections by number and one S7 line with address 0
pub text_read : (heads : List Section) (parts : List Part) → Ended heads → Small parts → read_text (lines_of heads parts) ≡ read (data_from parts 0 heads ++ (last ∷ []))
unfolding lines_of
text_read heads parts h f = from_read parts f 0 heads h (line_of S7 0 []) (last ∷ []) last_read

-- ---- what they put where

pub has_address_lem : (x : ℕ) (s : Section) → Has x s → has_address x s ≡ true
unfolding has_address
has_address_lem x s h = and_from _ _ (ap not (ne_eqb _ _ h.holds)) (and_from _ _ (le-leb _ _ h.low) (lt-ltb _ _ h.high))

-- two sections that share an address are found
share_found : (x : ℕ) (s t : Section) → Has x s → Has x t → share_address s t ≡ true
unfolding share_address
share_found x s t a b =
    some_by _ (range_member s.address s.size x a.low a.high) (and_from _ _ (has_address_lem x s a) (has_address_lem x t b))

module _ (parts : List Part) (x : ℕ) where
  section_own : (n : ℕ) (head : Section) → Has x head → bytes_put (chunks head.address (joined_section parts n head)) x ≡ joined_at parts n x ∷ []
  section_own n head h =
      let low = h.low in
      let high = h.high in
      let l = joined_section-held parts n head in
      let z = held_by_is head h.holds in
      put_own head.address (joined_section parts n head) x low (omega arith)
      ∙ ap (λ (b : ℕ). b ∷ [])
      (section_reads parts n head (x - head.address) h.holds (omega arith)
      ∙ ap (joined_at parts n) (let e : head.address + (x - head.address) ≡ x = omega arith in e))

  section_none : (n : ℕ) (head : Section) → (Has x head → ⊥) → bytes_put (chunks head.address (joined_section parts n head)) x ≡ []
  section_none n head f = go (ℕ_discrete head.kind 3) (dec_lt x head.address) (dec_lt x (head.address + head.size))
    where
      go : Dec (head.kind ≡ 3) → Dec (x < head.address) → Dec (x < head.address + head.size) → bytes_put (chunks head.address (joined_section parts n head)) x ≡ []
      go k (yes b) c = put_below head.address (joined_section parts n head) x b
      go (yes e) (no b) c =
          let z = held_by-none head e in
          let l = joined_section-held parts n head in
          put_past head.address (joined_section parts n head) x (omega arith)
      go (no d) (no b) (yes c) = absurd (f (record { holds = d; low = omega arith; high = c }))
      go (no d) (no b) (no c) =
          let z = held_by_is head d in
          let l = joined_section-held parts n head in
          put_past head.address (joined_section parts n head) x (omega arith)

  from_none : (n : ℕ) (heads : List Section) → ((s : Section) → Memᴰ s heads → Has x s → ⊥) → bytes_put (data_from parts n heads) x ≡ []
  unfolding data_from bytes_put
  from_none n [] f = refl
  from_none n (head ∷ later) f =
      put_append (chunks head.address (joined_section parts n head)) (data_from parts (suc n) later) x
      ∙ ap₂ (λ (a b : List ℕ). a ++ b) (section_none n head (f head (Memᴰ.head refl))) (from_none (suc n) later (λ s m. f s (Memᴰ.tail m)))

  from_own : (m : ℕ) (heads : List Section) (n : ℕ) → some_share heads ≡ false → Has x (get_or heads n nowhere) → bytes_put (data_from parts m heads) x ≡ joined_at parts (m + n) x ∷ []
  unfolding data_from some_share
  from_own m [] n e h = absurd (let l = listed [] n h.holds in omega arith)
  from_own m (head ∷ later) zero e h =
      put_append (chunks head.address (joined_section parts m head)) (data_from parts (suc m) later) x
      ∙ ap₂ (λ (a b : List ℕ). a ++ b) (section_own m head h)
      (from_none (suc m) later (λ s i g. false≢true (sym (none_member (share_address head) later (or_parts (some (share_address head) later) (some_share later) e).0 s i) ∙ share_found x head s h g)))
      ∙ ap (λ (k : ℕ). joined_at parts k x ∷ []) (let z : m ≡ m + 0 = omega arith in z)
  from_own m (head ∷ later) (suc n) e h =
      put_append (chunks head.address (joined_section parts m head)) (data_from parts (suc m) later) x
      ∙ ap₂ (λ (a b : List ℕ). a ++ b)
      (section_none m head (λ g. false≢true (sym (none_member (share_address head) later (or_parts (some (share_address head) later) (some_share later) e).0 (get_or later n nowhere) (at_member later n nowhere (listed later n h.holds))) ∙ share_found x head (get_or later n nowhere) g h)))
      (from_own (suc m) later n (or_parts (some (share_address head) later) (some_share later) e).1 h)
      ∙ ap (λ (k : ℕ). joined_at parts k x ∷ []) (let z : suc m + n ≡ m + suc n = omega arith in z)

-- the S7 line puts nothing
last_none : (s : List Line) (x : ℕ) → bytes_put (s ++ (last ∷ [])) x ≡ bytes_put s x
unfolding bytes_put puts
last_none s x = put_append s (last ∷ []) x ∙ append-nil (bytes_put s x)

-- THEOREM: a reader by the public definition gives back each section's joined bytes at its addresses, and nothing else
pub reads_back : (heads : List Section) (parts : List Part) → Ended heads → Small parts → some_share heads ≡ false → ReadsBack (lines_of heads parts) heads parts
reads_back heads parts h f e = record {
  lines = data_from parts 0 heads ++ (last ∷ []);
  taken = text_read heads parts h f;
  own = λ n x a. last_none (data_from parts 0 heads) x ∙ from_own parts x 0 heads n e a ∙ ap (λ (k : ℕ). joined_at parts k x ∷ []) (let z : 0 + n ≡ n = omega arith in z);
  nothing_else = λ x g. last_none (data_from parts 0 heads) x ∙ from_none parts x 0 heads g;
}

-- Pieces written as records are read back. Assumes nothing.
use mathlib.Core.Path.{◌≡◌, refl, sym, ap, ap₂, ◌∙◌}
use mathlib.Core.List.{List, [], ◌∷◌, ◌++◌, append_assoc}
use mathlib.Core.Bool.{false}
use Prim.Native.Nat.{ℕ, zero, suc, ◌+◌, ◌-◌, ◌≤◌}
use native.Mathlib.Omega.{arith}
use lib.ListN.{length, get_or, take, drop, length-append}
use lib.Seq.{get_or-append-add, drop-append-add, take_at}
use borrow.Author.Tests.{le-ltb}
use Rattle.lists.specs.Outcome.{accepted}
use Rattle.lists.specs.Rows.{any_of, any_from}
use Rattle.lists.specs.Sort.{All, none, each}
use Rattle.lists.proofs.Binds.{bind_goes}
use Rattle.fields.specs.Fields.{little, le16, le32}
use Rattle.fields.proofs.Laws.{number_at_same, le16_is, le32_is, round16, round32}
use Rattle.obj.specs.Parts.{Part}
use Rattle.piece_records.specs.Records.{part_at, next_at, record_bad, count_from, parts_at, parts_of, record_of, records_of, Fits}
use Rattle.piece_records.proofs.Laws.{count_on, count_end}

-- ---- past what stands before

shift : (pre t : List ℕ) (j k : ℕ) → get_or (pre ++ t) (length pre + j + k) 0 ≡ get_or t (j + k) 0
shift pre t j k = ap (λ (i : ℕ). get_or (pre ++ t) i 0) (let z : length pre + j + k ≡ length pre + (j + k) = omega arith in z) ∙ get_or-append-add pre t (j + k) 0

le16_past : (pre t : List ℕ) (j : ℕ) → le16 (pre ++ t) (length pre + j) ≡ le16 t j
le16_past pre t j =
    le16_is (pre ++ t) (length pre + j) ∙ number_at_same little 2 (pre ++ t) t (length pre + j) j (λ k h. shift pre t j k) ∙ sym (le16_is t j)

le32_past : (pre t : List ℕ) (j : ℕ) → le32 (pre ++ t) (length pre + j) ≡ le32 t j
le32_past pre t j =
    le32_is (pre ++ t) (length pre + j) ∙ number_at_same little 4 (pre ++ t) t (length pre + j) j (λ k h. shift pre t j k) ∙ sym (le32_is t j)

-- ---- a record

module _ (p : Part) (fits : Fits p) (post : List ℕ) where
  abbrev text : List ℕ
  text = record_of p ++ post

  size_read : le32 text 0 ≡ 6 + length p.bytes
  unfolding record_of
  size_read = round32 (6 + length p.bytes) fits.bytes

  kind_read : le16 text 4 ≡ 7
  unfolding record_of
  kind_read = round16 7 (omega arith)

  section_read : le16 text 6 ≡ p.section
  unfolding record_of
  section_read = round16 p.section fits.section

  address_read : le32 text 8 ≡ p.address
  unfolding record_of
  address_read = round32 p.address fits.address

  bytes_there : drop 12 text ≡ p.bytes ++ post
  unfolding record_of
  bytes_there = refl

  record_length : length (record_of p) ≡ 12 + length p.bytes
  unfolding record_of
  record_length = omega arith

  module _ (pre : List ℕ) where
    abbrev all : List ℕ
    all = pre ++ text

    size_past : le32 all (length pre) ≡ 6 + length p.bytes
    size_past = ap (le32 all) (let z : length pre ≡ length pre + 0 = omega arith in z) ∙ le32_past pre text 0 ∙ size_read

    pub next_past : next_at all (length pre) ≡ length (pre ++ record_of p)
    next_past =
        let s = size_past in
        let l = length-append pre (record_of p) in
        let r = record_length in
        omega arith

    all_long : length all ≡ length pre + (12 + length p.bytes) + length post
    all_long =
        let a = length-append pre text in
        let b = length-append (record_of p) post in
        let r = record_length in
        omega arith

    pub not_bad : record_bad all (length pre) ≡ false
    unfolding record_bad any_of any_from
    not_bad =
        let s = size_past in
        let l = all_long in
        rw (le-ltb (length all) (length pre + 6) (omega arith), le-ltb (length all) (next_at all (length pre)) (omega arith))
        (rw (le16_past pre text 4 ∙ kind_read) (le-ltb (le32 all (length pre)) 6 (omega arith)))

    pub part_read : part_at all (length pre) ≡ p
    unfolding part_at
    part_read =
        let bytes : take (le32 all (length pre) - 6) (drop (length pre + 12) all) ≡ p.bytes =
        ap (take (le32 all (length pre) - 6)) (drop-append-add pre text 12 ∙ bytes_there)
        ∙ take_at p.bytes post (le32 all (length pre) - 6) (let s = size_past in omega arith) in
        λ i. record { section = (le16_past pre text 6 ∙ section_read) i; address = (le32_past pre text 8 ∙ address_read) i; bytes = bytes i }

-- ---- all records

counts : (parts : List Part) → All Fits parts → (left : ℕ) → length parts ≤ left → (pre : List ℕ) (n : ℕ)
    → count_from left (pre ++ records_of parts) (length pre) n ≡ accepted (n + length parts)
unfolding records_of
counts [] none left h pre n =
    count_end left (pre ++ []) (length pre) n (let l = length-append pre [] in omega arith) ∙ ap (λ (k : ℕ). accepted k) (let z : n ≡ n + 0 = omega arith in z)
counts (p ∷ later) (each f a) zero h pre n = absurd (omega arith)
counts (p ∷ later) (each f a) (suc left) h pre n =
    count_on left (pre ++ (record_of p ++ records_of later)) (length pre) n
    (let l = all_long p f (records_of later) pre in omega arith) (not_bad p f (records_of later) pre)
    ∙ ap (λ (k : ℕ). count_from left (pre ++ (record_of p ++ records_of later)) k (suc n)) (next_past p f (records_of later) pre)
    ∙ ap (λ (b : List ℕ). count_from left b (length (pre ++ record_of p)) (suc n)) (sym (append_assoc pre (record_of p) (records_of later)))
    ∙ counts later a left (omega arith) (pre ++ record_of p) (suc n)
    ∙ ap (λ (k : ℕ). accepted k) (let z : suc n + length later ≡ n + suc (length later) = omega arith in z)

reads : (parts : List Part) → All Fits parts → (pre : List ℕ) → parts_at (length parts) (pre ++ records_of parts) (length pre) ≡ parts
unfolding records_of parts_at
reads [] none pre = refl
reads (p ∷ later) (each f a) pre =
    ap₂ (λ (x : Part) (l : List Part). x ∷ l) (part_read p f (records_of later) pre)
    (ap (λ (k : ℕ). parts_at (length later) (pre ++ (record_of p ++ records_of later)) k) (next_past p f (records_of later) pre)
    ∙ ap (λ (b : List ℕ). parts_at (length later) b (length (pre ++ record_of p))) (sym (append_assoc pre (record_of p) (records_of later)))
    ∙ reads later a (pre ++ record_of p))

-- THEOREM: up to 1,024 pieces whose fields have their widths, written as records, pass the checks and are read back
pub read_back : (parts : List Part) → All Fits parts → length parts ≤ 1024 → parts_of (records_of parts) ≡ accepted parts
unfolding parts_of
read_back parts f h =
    bind_goes _ _ (length parts) (counts parts f 1024 h [] 0 ∙ ap (λ (k : ℕ). accepted k) (let z : 0 + length parts ≡ length parts = omega arith in z))
    ∙ ap (λ (l : List Part). accepted l) (reads parts f [])

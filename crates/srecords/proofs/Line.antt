-- A line is read back: its type, its address and its data. Assumes nothing.
use mathlib.Core.Path.{◌≡◌, refl, sym, ap, ap₂, ◌∙◌}
use mathlib.Core.List.{List, [], ◌∷◌, ◌++◌}
use mathlib.Core.Bool.{Bool, true, cond}
use Prim.Native.Nat.{ℕ, zero, suc, ◌+◌, ◌-◌, ◌/◌, ◌%◌, ◌^◌, ◌≤◌, ◌<◌}
use native.Mathlib.Omega.{arith}
use lib.ListN.{length, get_or, take, drop, length-append, get_or-append}
use lib.Seq.{take_at, drop_at, get_or_at, drop-append-le}
use borrow.Author.Tests.{eq-eqb, le-leb}
use Rattle.std.proofs.lemmas.Bool.{and_from}
use Rattle.lists.specs.Sort.{All, none, each}
use Rattle.lists.proofs.All.{all_append}
use Rattle.fields.specs.Fields.{big, number_at, bytes_of}
use Rattle.fields.proofs.Laws.{number_at_same, length-bytes_of, number_of_bytes}
use Rattle.names.specs.GapName.{hexes}
use Rattle.srecords.specs.Lines.{checksum, counted}
use Rattle.srecords.specs.Reader.{read, bad, pairs, width_of, counts, line_in, read_line}
use Rattle.srecords.proofs.Digits.{pairs-hexes}

-- ---- the bytes of a line

bytes_small : (n v : ℕ) → All (λ b. b < 256) (bytes_of big n v)
unfolding bytes_of
bytes_small zero v = none
bytes_small (suc n) v = each (native.Mathlib.Nat.mod-lt (v / 256 ^ n) (let h : 0 < 256 = omega arith in h)) (bytes_small n v)

-- a line of this type, with an address of four bytes
pub record Wide (type : ℕ) : Type 0 where
  pub wide : width_of type ≡ 4
  pub low : 48 ≤ type
  pub high : type ≤ 57

pub record Fits (address : ℕ) (bytes : List ℕ) : Type 0 where
  pub below : address < 4294967296
  pub few : length bytes ≤ 250
  pub small : All (λ b. b < 256) bytes

module _ (type address : ℕ) (bytes : List ℕ) (w : Wide type) (f : Fits address bytes) where
  abbrev front : List ℕ
  front = bytes_of big 4 address ++ bytes

  abbrev check : ℕ
  check = checksum (counted address bytes)

  abbrev body : List ℕ
  body = front ++ (check ∷ [])

  front_length : length front ≡ 4 + length bytes
  front_length = length-append (bytes_of big 4 address) bytes ∙ ap (λ (k : ℕ). k + length bytes) (length-bytes_of big 4 address)

  body_length : length body ≡ 4 + length bytes + 1
  body_length = length-append front (check ∷ []) ∙ ap (λ (k : ℕ). k + 1) front_length

  all_small : All (λ b. b < 256) (counted address bytes ++ (check ∷ []))
  unfolding counted
  all_small =
      let few = f.few in
      let first : length bytes + 5 < 256 = omega arith in
      let last : check < 256 = omega arith in
      each first (all_append (all_append (bytes_small 4 address) f.small) (each last none))

  -- count, address and checksum are right
  counts_right : counts type (length bytes + 5) body ≡ true
  unfolding counts counted
  counts_right =
      let l = body_length in
      let g = front_length in
      let e = w.wide in
      and_from _ _ (eq-eqb (length bytes + 5) (length body) (omega arith))
      (and_from _ _ (le-leb (width_of type + 1) (length body) (omega arith))
      (eq-eqb _ _
      (get_or_at front check [] 0 (length body - 1) (omega arith)
      ∙ ap (λ (x : List ℕ). checksum ((length bytes + 5) ∷ x)) (sym (take_at front (check ∷ []) (length body - 1) (omega arith))))))

  address_read : number_at big (width_of type) body 0 ≡ address
  address_read =
      let b = f.below in
      ap (λ (k : ℕ). number_at big k body 0) w.wide
      ∙ number_at_same big 4 body (bytes_of big 4 address) 0 0 (λ k h. same k h)
      ∙ number_of_bytes big 4 address
      ∙ (let e : address % 256 ^ 4 ≡ address = omega arith in e)
    where
      same : (k : ℕ) → k < 4 → get_or body (0 + k) 0 ≡ get_or (bytes_of big 4 address) (0 + k) 0
      same k h =
          let l = length-bytes_of big 4 address in
          let g = front_length in
          get_or-append front (check ∷ []) 0 (0 + k) (omega arith) ∙ get_or-append (bytes_of big 4 address) bytes 0 (0 + k) (omega arith)

  bytes_read : take (length body - 1 - width_of type) (drop (width_of type) body) ≡ bytes
  bytes_read =
      let l = body_length in
      let g = front_length in
      let e = w.wide in
      let z = length-bytes_of big 4 address in
      ap (λ (k : ℕ). take (length body - 1 - k) (drop k body)) e
      ∙ ap (take (length body - 1 - 4)) (drop-append-le 4 front (check ∷ []) (omega arith) ∙ ap (λ (x : List ℕ). x ++ (check ∷ [])) (drop_at (bytes_of big 4 address) bytes 4 z))
      ∙ take_at bytes (check ∷ []) (length body - 1 - 4) (omega arith)

  body_read : line_in type (read ((length bytes + 5) ∷ body)) ≡ read (record { type = type; address = address; bytes = bytes })
  unfolding line_in
  body_read =
      ap (λ (t : Bool). cond t (read (record { type = type; address = number_at big (width_of type) body 0; bytes = take (length body - 1 - width_of type) (drop (width_of type) body) })) bad) counts_right
      ∙ ap₂ (λ (a : ℕ) (b : List ℕ). read (record { type = type; address = a; bytes = b })) address_read bytes_read

  -- the line without its line feed
  abbrev pub letters : List ℕ
  letters = 83 ∷ type ∷ hexes (counted address bytes ++ (check ∷ []))

  -- THEOREM: a line is read back
  pub line_read : read_line letters ≡ read (record { type = type; address = address; bytes = bytes })
  unfolding read_line counted
  line_read =
      ap (λ (t : Bool). cond t (line_in type (pairs (hexes (counted address bytes ++ (check ∷ []))))) bad)
      (and_from _ _ (eq-eqb 83 83 refl) (and_from _ _ (le-leb _ _ w.low) (le-leb _ _ w.high)))
      ∙ ap (line_in type) (pairs-hexes (counted address bytes ++ (check ∷ [])) all_small)
      ∙ body_read

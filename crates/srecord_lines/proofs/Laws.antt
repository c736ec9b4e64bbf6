-- A line in parts, the sum of its bytes, and sections that share an address by their ends. Assumes nothing.
use Prim.Native.Nat.{ℕ, suc, ◌+◌, ◌*◌, ◌/◌, ◌%◌, ◌<◌, ◌≤◌}
use mathlib.Core.Path.{◌≡◌, refl, sym, ap, ◌∙◌}
use mathlib.Core.List.{List, [], ◌∷◌, ◌++◌, append_assoc}
use mathlib.Core.Logic.{◌≢◌}
use mathlib.Core.Bool.{Bool, true, not, ◌&&◌}
use native.Mathlib.Omega.{arith}
use native.Mathlib.Decide.{dec_lt}
use lib.Dec.{eqb, ltb}
use lib.ListN.{length, get_or, length-append}
use Rattle.std.proofs.lemmas.List.Sums.{sum_by-cons}
use lib.Seq.{sets}
use borrow.Author.Tests.{eqb-false, ne_eqb, ltb-true, leb-true, lt-ltb, not-true}
use Rattle.std.specs.Int.{w32, to_be_bytes}
use Rattle.std.specs.Prelude.{sum_by}
use Rattle.std.proofs.lemmas.Bool.{and_parts, and_from}
use Rattle.lists.proofs.Stores.{sets_then}
use Rattle.fields.specs.Fields.{big, bytes_of}
use Rattle.names.specs.GapName.{digit, hexes}
use Rattle.obj.specs.declared.Section.{Section}
use Rattle.lists.proofs.Among.{same_test, some_by, some_member, range_member}
use Rattle.srecords.specs.Lines.{sum, checksum, counted, line_of, has_address, share_address}
use Rattle.srecords.specs.Reader.{Has}
use Rattle.srecords.proofs.Digits.{length-hexes}
use Rattle.srecords.proofs.Theorem.{has_address_lem}
use Rattle.srecord_lines.specs.Leaves.{line_head, line_tail}

-- ---- digits

pub hexes-append : (s t : List ℕ) → hexes (s ++ t) ≡ hexes s ++ hexes t
unfolding hexes
hexes-append [] t = refl
hexes-append (b ∷ s) t = ap (λ (l : List ℕ). digit (b / 16) ∷ digit (b % 16) ∷ l) (hexes-append s t)

-- ---- sums

pub sum-append : (s t : List ℕ) → sum (s ++ t) ≡ sum s + sum t
unfolding sum
sum-append [] t = omega arith
sum-append (b ∷ s) t = let h = sum-append s t in omega arith

-- the same sum in std's word
pub sum_is : (l : List ℕ) → sum_by (λ x. x) l ≡ sum l
unfolding sum
sum_is [] = refl
sum_is (b ∷ l) = sum_by-cons (λ x. x) b l ∙ ap (λ (k : ℕ). b + k) (sum_is l)

-- each byte is below 256
pub sum_small : (l : List ℕ) → ((i : ℕ) → get_or l i 0 < 256) → sum l ≤ 255 * length l
unfolding sum
sum_small [] f = omega arith
sum_small (b ∷ l) f =
    let first = f 0 in
    let later = sum_small l (λ i. f (suc i)) in
    omega arith

pub sum_address_is : (a : ℕ) → sum (to_be_bytes w32 a) ≡ sum (bytes_of big 4 a)
unfolding sum bytes_of
sum_address_is a = omega arith

pub sum-counted : (address : ℕ) (bytes : List ℕ) → sum (counted address bytes) ≡ length bytes + 5 + (sum (bytes_of big 4 address) + sum bytes)
unfolding counted sum
sum-counted address bytes = ap (λ (k : ℕ). length bytes + 5 + k) (sum-append (bytes_of big 4 address) bytes)

-- ---- a line in parts

pub head_is : (type count a : ℕ) → (83 ∷ type ∷ hexes (count ∷ [])) ++ hexes (to_be_bytes w32 a) ≡ line_head type count a
unfolding line_head bytes_of hexes
head_is type count a =
    ap (λ (k : ℕ). (83 ∷ type ∷ hexes (count ∷ [])) ++ hexes (a / 16777216 % 256 ∷ a / 65536 % 256 ∷ a / 256 % 256 ∷ k ∷ [])) (let e : a % 256 ≡ a / 1 % 256 = omega arith in e)

pub head_length : (type count a : ℕ) → length (line_head type count a) ≡ 12
unfolding line_head bytes_of hexes
head_length type count a = refl

pub line_is : (type address : ℕ) (bytes : List ℕ)
    → (line_head type (length bytes + 5) address ++ hexes bytes) ++ line_tail (checksum (counted address bytes)) ≡ line_of type address bytes
unfolding line_head line_tail line_of counted
line_is type address bytes =
    ap (λ (l : List ℕ). 83 ∷ type ∷ l)
    (ap (λ (l : List ℕ). l ++ (hexes (check ∷ []) ++ (10 ∷ []))) (sym (hexes-append ((length bytes + 5) ∷ bytes_of big 4 address) bytes))
    ∙ sym (append_assoc (hexes front) (hexes (check ∷ [])) (10 ∷ []))
    ∙ ap (λ (l : List ℕ). l ++ (10 ∷ [])) (sym (hexes-append front (check ∷ []))))
  where
    front : List ℕ
    front = (length bytes + 5) ∷ (bytes_of big 4 address ++ bytes)

    check : ℕ
    check = checksum front

-- ---- 87

-- what the test of an address says
has : (x : ℕ) (s : Section) → has_address x s ≡ true → Has x s
unfolding has_address
has x s e =
    let a = and_parts _ _ e in
    let b = and_parts _ _ a.1 in
    record { holds = eqb-false _ _ (not-true _ a.0); low = leb-true _ _ b.0; high = ltb-true _ _ b.1 }

-- the tests that the code makes
abbrev pub meets : (s t : Section) → Bool
meets s t =
    ((((not (eqb s.kind 3) && not (eqb t.kind 3)) && not (eqb s.size 0)) && not (eqb t.size 0)) && ltb s.address (t.address + t.size))
    && ltb t.address (s.address + s.size)

-- THEOREM: they say that some address is in both
pub share_is : (s t : Section) → meets s t ≡ share_address s t
unfolding share_address
share_is s t = same_test (meets s t) (share_address s t) there back
  where
    there : meets s t ≡ true → share_address s t ≡ true
    there e =
        let a = and_parts _ _ e in
        let b = and_parts _ _ a.0 in
        let c = and_parts _ _ b.0 in
        let d = and_parts _ _ c.0 in
        let f = and_parts _ _ d.0 in
        find (eqb-false _ _ (not-true _ f.0)) (eqb-false _ _ (not-true _ f.1)) (eqb-false _ _ (not-true _ d.1)) (eqb-false _ _ (not-true _ c.1))
        (ltb-true _ _ b.1) (ltb-true _ _ a.1) (dec_lt s.address t.address)
      where
        find : s.kind ≢ 3 → t.kind ≢ 3 → s.size ≢ 0 → t.size ≢ 0 → s.address < t.address + t.size → t.address < s.address + s.size → Dec (s.address < t.address)
            → share_address s t ≡ true
        find p q m n u v (yes l) =
            some_by _ (range_member s.address s.size t.address (omega arith) v)
            (and_from _ _ (has_address_lem t.address s (record { holds = p; low = omega arith; high = v })) (has_address_lem t.address t (record { holds = q; low = omega arith; high = omega arith })))
        find p q m n u v (no l) =
            some_by _ (range_member s.address s.size s.address (omega arith) (omega arith))
            (and_from _ _ (has_address_lem s.address s (record { holds = p; low = omega arith; high = omega arith })) (has_address_lem s.address t (record { holds = q; low = omega arith; high = u })))

    back : share_address s t ≡ true → meets s t ≡ true
    back e =
        let r = some_member _ _ e in
        let a = and_parts _ _ r.2 in
        let g = has r.0 s a.0 in
        let h = has r.0 t a.1 in
        let gl = g.low in let gh = g.high in let hl = h.low in let hh = h.high in
        and_from _ _ (and_from _ _ (and_from _ _ (and_from _ _ (and_from _ _ (ap not (ne_eqb _ _ g.holds)) (ap not (ne_eqb _ _ h.holds)))
        (ap not (ne_eqb s.size 0 (λ z. omega arith)))) (ap not (ne_eqb t.size 0 (λ z. omega arith))))
        (lt-ltb s.address (t.address + t.size) (omega arith))) (lt-ltb t.address (s.address + s.size) (omega arith))

-- ---- a line written part by part
pub line_put : (out : List ℕ) (at type address : ℕ) (bytes : List ℕ) {out₁ out₂ out₃ : List ℕ} {check end : ℕ}
    → out₁ ≡ sets out at (line_head type (length bytes + 5) address) → out₂ ≡ sets out₁ (at + 12) (hexes bytes) → out₃ ≡ sets out₂ end (line_tail check)
    → end ≡ at + 12 + 2 * length bytes → check ≡ checksum (counted address bytes) → out₃ ≡ sets out at (line_of type address bytes)
line_put out at type address bytes {out₁} {out₂} {out₃} {check} {end} e f g h k =
    let head = line_head type (length bytes + 5) address in
    let l = head_length type (length bytes + 5) address in
    let m = length-hexes bytes in
    let n = length-append head (hexes bytes) in
    sets_then out at (head ++ hexes bytes) end (line_tail check) g (sets_then out at head (at + 12) (hexes bytes) f e (omega arith)) (omega arith)
    ∙ ap (λ (x : ℕ). sets out at ((head ++ hexes bytes) ++ line_tail x)) k
    ∙ ap (sets out at) (line_is type address bytes)

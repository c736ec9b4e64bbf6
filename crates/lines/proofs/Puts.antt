-- Texts put one behind another: stores of a text are a `Put`, two puts side by side are a put of both texts, and a put at the front that is short enough is a
-- written line. The functions that write a line only chain these. Assumes nothing.
use mathlib.Core.Path.{◌≡◌, refl, sym, ap, ap₂, subst, ◌∙◌}
use mathlib.Core.List.{List, [], ◌∷◌, ◌++◌, append_assoc}
use Prim.Native.Nat.{ℕ, suc, ◌+◌, ◌≤◌, ◌<◌}
use native.Mathlib.Omega.{arith}
use lib.ListN.{length, take, drop, set, replicate, length-append}
use lib.Seq.{append_snoc, take_at, sets, sets-eq, length-sets, length-take-le}
use Rattle.lists.proofs.Stores.{sets-sets}
use lib.IntN.{ℤ, pos, negsuc}
use Rattle.names.specs.Fixed.{codes}
use Rattle.names.specs.GapName.{hex8}
use Rattle.lines.specs.Lines.{decimal, signed_decimal, shown, owner_of, Put, Adds, Written}
use Rattle.lines.specs.declared.Text.{Text}
use Rattle.std.specs.Prelude.{Option, Some, None}
use Rattle.lines.proofs.Digits.{pow10, digits_few, digits-below}

-- stores of a text
pub put_sets : {before after : List ℕ} (at : ℕ) (text : List ℕ) {r : ℕ} → after ≡ sets before at text → at + length text ≤ length before → r ≡ at + length text
    → Put before after at text r
put_sets {before} {after} at text {r} e h q = record { is = is; end = q; long = ap length e ∙ length-sets before at text }
  where
    front : length (take at before ++ text) ≡ r
    front = let k = length-take-le at before (omega arith) in length-append (take at before) text ∙ omega arith

    is : take r after ≡ take at before ++ text
    is = ap (take r) (e ∙ sets-eq text before at h) ∙ take_at (take at before ++ text) (drop (at + length text) before) r front

-- .. and of one byte behind it
pub put_ended : {before mid part : List ℕ} (at : ℕ) (text : List ℕ) (byte : ℕ) → mid ≡ sets before at part → part ≡ text → at + length text + 1 ≤ length before
    → Put before (set mid (at + length part) byte) at (text ++ (byte ∷ [])) (at + length part + 1)
put_ended {before} {mid} {part} at text byte e p h =
    put_sets at (text ++ (byte ∷ []))
    (ap₂ (λ (l : List ℕ) (k : ℕ). set l (at + k) byte) (e ∙ ap (sets before at) p) same ∙ sets-sets before at text (at + length text) (byte ∷ []) refl)
    (let k = long in omega arith)
    (let k = long in let m = same in omega arith)
  where
    same : length part ≡ length text
    same = ap length p

    long : length (text ++ (byte ∷ [])) ≡ length text + 1
    long = length-append text (byte ∷ [])

-- eight digits over eight zeros
pub eight_over : (v : ℕ) → sets (replicate 8 0) 0 (hex8 v) ≡ hex8 v
unfolding hex8
eight_over v = refl

-- a field and its end, and what follows
pub put_more : {a b c : List ℕ} {i j k : ℕ} (text : List ℕ) (byte : ℕ) {rest : List ℕ} → Put a b i (text ++ (byte ∷ [])) j → Put b c j rest k
    → Put a c i (text ++ (byte ∷ rest)) k
put_more {a} {b} {c} {i} {j} {k} text byte {rest} p q = record {
  is = q.is ∙ ap (λ (l : List ℕ). l ++ rest) p.is ∙ append_assoc (take i a) (text ++ (byte ∷ [])) rest ∙ ap (λ (l : List ℕ). take i a ++ l) seam;
  end = let u = p.end in let v = q.end in let w = long in omega arith;
  long = q.long ∙ p.long;
}
  where
    seam : (text ++ (byte ∷ [])) ++ rest ≡ text ++ (byte ∷ rest)
    seam = append_snoc text byte rest

    long : length (text ++ (byte ∷ rest)) ≡ length (text ++ (byte ∷ [])) + length rest
    long = sym (ap length seam) ∙ length-append (text ++ (byte ∷ [])) rest

-- .. of a text
pub adds_more : {a b c : Text} (text : List ℕ) (byte : ℕ) {rest : List ℕ} → Adds a b (text ++ (byte ∷ [])) → Adds b c rest → Adds a c (text ++ (byte ∷ rest))
adds_more text byte p q = record { put = put_more text byte p.put q.put; lent = q.lent ∙ p.lent }

-- ---- where a field ends

-- how long a field is at most
pub decimal_few : (n : ℕ) → length (decimal n) ≤ 20
decimal_few = digits_few 20

-- .. a number of 16 and of 32 bits
pub decimal16_few : (n : ℕ) → n < 65536 → length (decimal n) ≤ 5
unfolding pow10
decimal16_few n h = digits-below 20 4 n (omega arith)

pub decimal32_few : (n : ℕ) → n < 4294967296 → length (decimal n) ≤ 10
unfolding pow10
decimal32_few n h = digits-below 20 9 n (omega arith)

pub hex_long : (v : ℕ) → length (hex8 v) ≡ 8
unfolding hex8
hex_long v = refl

pub signed_few : (v : ℤ) → length (signed_decimal v) ≤ 21
unfolding signed_decimal
signed_few (pos n) = let k = digits_few 20 n in omega arith
signed_few (negsuc n) = let k = digits_few 20 (suc n) in omega arith

pub shown_few : (name : List ℕ) → length (shown name) ≤ length name + 1
unfolding shown codes
shown_few [] = omega arith
shown_few (b ∷ name) = omega arith

pub owner_few : (o : Option ℕ) → length (owner_of o) ≤ 20
unfolding codes
owner_few None = omega arith
owner_few (Some n) = digits_few 20 n

-- where a field ends, by its text's length
pub ruleset fields = (length-append, decimal_few, decimal16_few, decimal32_few, hex_long, signed_few, shown_few, owner_few)

-- a text handed on is that text
pub adds_as : {a b : Text} {l m : List ℕ} (byte : ℕ) → l ≡ m → Adds a b (l ++ (byte ∷ [])) → Adds a b (m ++ (byte ∷ []))
adds_as {a} {b} byte e p = subst (λ (k : List ℕ). Adds a b (k ++ (byte ∷ []))) e p

-- ---- an empty name is shown as `-`

pub shown_empty : (name : List ℕ) → length name ≡ 0 → shown name ≡ codes "-"
unfolding shown
shown_empty [] e = refl
shown_empty (b ∷ name) e = absurd (omega arith)

pub shown_name : (name : List ℕ) → (length name ≡ 0 → ⊥) → shown name ≡ name
unfolding shown
shown_name [] h = absurd (h refl)
shown_name (b ∷ name) h = refl

-- a line at the front
pub written : {a b : List ℕ} {r : ℕ} (text : List ℕ) → Put a b 0 text r → r ≤ 208 → Written a b text r
written text p h = record { is = p.is; end = p.end ∙ zero; few = h; long = p.long }
  where
    zero : 0 + length text ≡ length text
    zero = omega arith

-- "Lay all pieces over zeros, then compare each with what lies there" answers as the definition does: it finds a difference exactly if two pieces of one section
-- differ at an address, and where none does, what was laid are the joined bytes. Bytes past them stay. Assumes nothing.
use mathlib.Core.Path.{◌≡◌, refl, sym, ap, subst, ◌∙◌}
use mathlib.Core.List.Memᴰ
use mathlib.Core.List.{List, [], ◌∷◌, Memᴰ}
use mathlib.Core.Logic.{◌⊎◌, inl, inr}
use mathlib.Core.Bool.{Bool, true, false, not, false≢true}
use Prim.Native.Nat.{ℕ, ◌+◌, ◌-◌, ◌≤◌, ◌<◌}
use native.Mathlib.Omega.{arith}
use native.Mathlib.Decide.{dec_lt, dec_le}
use lib.ListN.{length, get_or, take, drop, length-take, length-drop}
use lib.Seq.{sets, length-sets, ext_get_or, get_or-take, get_or-drop, length-take-le}
use borrow.Author.Tests.{not-false}
use Rattle.lists.specs.Rows.{some}
use Rattle.lists.proofs.Stores.{get_or-sets_other, get_or-sets_at}
use Rattle.names.specs.Names.{same_name}
use Rattle.names.proofs.Laws.{same_self, same_equal}
use Rattle.obj.specs.declared.Section.{Section}
use Rattle.obj.specs.Parts.{Part}
use Rattle.lists.proofs.Among.{same_test, none_member, none_by}
use Rattle.join.specs.Join.{nowhere, home_of, outside, byte_of, differ, joined, held}
use Rattle.join.specs.Laying.{spot_of, laid_over, unlike, some_unlike}
use Rattle.join.proofs.Members.{Lies, apart, meets, joined_is, joined_empty}
use Rattle.join.proofs.Sizes.{Inside, inside, Place, between, one_section, place_of, joined_reads, length-joined, spot-fits}

module _ (heads : List Section) where
  -- a piece's bytes stand at place k
  record Stands (k : ℕ) (p : Part) : Type 0 where
    from : spot_of heads p ≤ k
    to : k < spot_of heads p + length p.bytes

  -- the place of an address at which a piece lies
  lies_place : (n x : ℕ) (p : Part) → Inside heads p → Lies n x p → Place heads n x (spot_of heads p + (x - p.address))
  lies_place n x p i l =
      subst (λ (m : ℕ). Place heads m x (spot_of heads p + (x - p.address))) l.of
      (record { holds = i.holds; low = omega arith; high = omega arith; place = omega arith })

  -- a piece that stands at a place lies at the address there
  stands_lies : (n x k : ℕ) (p : Part) → Inside heads p → Place heads n x k → Stands k p → Lies n x p
  stands_lies n x k p i at s =
      let own : Place heads p.section (p.address + (k - spot_of heads p)) k = record { holds = i.holds; low = omega arith; high = omega arith; place = omega arith } in
      let same : p.section ≡ n = one_section heads p.section n k (between heads _ _ k own) (between heads n x k at) in
      let start : (home_of heads p).address ≡ (get_or heads n nowhere).address = ap (λ (m : ℕ). (get_or heads m nowhere).address) same in
      let base : held (take p.section heads) ≡ held (take n heads) = ap (λ (m : ℕ). held (take m heads)) same in
      record { of = same; low = omega arith; high = omega arith }

  -- .. with the byte of that address
  same_offset : (n x k : ℕ) (p : Part) → Inside heads p → Place heads n x k → Lies n x p → k - spot_of heads p ≡ x - p.address
  same_offset n x k p i at l =
      let start : (home_of heads p).address ≡ (get_or heads n nowhere).address = ap (λ (m : ℕ). (get_or heads m nowhere).address) l.of in
      let base : held (take p.section heads) ≡ held (take n heads) = ap (λ (m : ℕ). held (take m heads)) l.of in
      omega arith

  lies_stands : (n x k : ℕ) (p : Part) → Inside heads p → Place heads n x k → Lies n x p → Stands k p
  lies_stands n x k p i at l =
      let start : (home_of heads p).address ≡ (get_or heads n nowhere).address = ap (λ (m : ℕ). (get_or heads m nowhere).address) l.of in
      let base : held (take p.section heads) ≡ held (take n heads) = ap (λ (m : ℕ). held (take m heads)) l.of in
      record { from = omega arith; to = omega arith }

  -- ---- what lies at a place after all pieces are laid

  data Laid (parts : List Part) (under : List ℕ) (k byte : ℕ) : Type 0 where
    of : (p : Part) → Memᴰ p parts → Stands k p → byte ≡ get_or p.bytes (k - spot_of heads p) 0 → Laid parts under k byte
    stays : ((p : Part) → Memᴰ p parts → Stands k p → ⊥) → byte ≡ get_or under k 0 → Laid parts under k byte

  pub laid-length : (parts : List Part) (under : List ℕ) → length (laid_over heads parts under) ≡ length under
  unfolding laid_over
  laid-length [] under = refl
  laid-length (p ∷ later) under = laid-length later _ ∙ length-sets under (spot_of heads p) p.bytes

  laid_byte : (parts : List Part) (under : List ℕ) (k : ℕ) → k < length under
      → ((p : Part) → Memᴰ p parts → spot_of heads p + length p.bytes ≤ length under) → Laid parts under k (get_or (laid_over heads parts under) k 0)
  unfolding laid_over
  laid_byte [] under k h f = stays (λ p m s. Memᴰ.not-nil m) refl
  laid_byte (p ∷ later) under k h f =
      go (laid_byte later (sets under (spot_of heads p) p.bytes) k (rw length-sets h) (λ q m. rw length-sets (f q (Memᴰ.tail m))))
    where
      fits : spot_of heads p + length p.bytes ≤ length under
      fits = f p (Memᴰ.head refl)

      other : Dec (spot_of heads p ≤ k) → Dec (k < spot_of heads p + length p.bytes) → (byte : ℕ) → byte ≡ get_or (sets under (spot_of heads p) p.bytes) k 0
          → ((q : Part) → Memᴰ q later → Stands k q → ⊥) → Laid (p ∷ later) under k byte
      other (yes a) (yes b) byte e g =
          of p (Memᴰ.head refl) (record { from = a; to = b })
          (e
          ∙ ap (λ (i : ℕ). get_or (sets under (spot_of heads p) p.bytes) i 0) (let z : k ≡ spot_of heads p + (k - spot_of heads p) = omega arith in z)
          ∙ get_or-sets_at under (spot_of heads p) p.bytes (k - spot_of heads p) 0 (omega arith) fits)
      other (yes a) (no b) byte e g =
          stays (λ q m s. keep q s (Memᴰ.cases_cons m)) (e ∙ get_or-sets_other under (spot_of heads p) p.bytes k 0 (λ i l z. omega arith))
        where
          keep : (q : Part) → Stands k q → (q ≡ p) ⊎ Memᴰ q later → ⊥
          keep q s (inl z) = let s' = subst (Stands k) z s in omega arith
          keep q s (inr m) = g q m s
      other (no a) b byte e g =
          stays (λ q m s. keep q s (Memᴰ.cases_cons m)) (e ∙ get_or-sets_other under (spot_of heads p) p.bytes k 0 (λ i l z. omega arith))
        where
          keep : (q : Part) → Stands k q → (q ≡ p) ⊎ Memᴰ q later → ⊥
          keep q s (inl z) = let s' = subst (Stands k) z s in omega arith
          keep q s (inr m) = g q m s

      go : {byte : ℕ} → Laid later (sets under (spot_of heads p) p.bytes) k byte → Laid (p ∷ later) under k byte
      go (of q m s e) = of q (Memᴰ.tail m) s e
      go {byte} (stays g e) = other (dec_le _ _) (dec_lt _ _) byte e g

  -- ---- the theorems

  module _ (parts : List Part) (under : List ℕ) (all_in : some (outside heads) parts ≡ false) (room : held heads ≤ length under) where
    abbrev laid : List ℕ
    laid = laid_over heads parts under

    in_home : (p : Part) → Memᴰ p parts → Inside heads p
    in_home p m = inside heads p (none_member (outside heads) parts all_in p m)

    -- a piece that has a byte lies below the bytes held, and so does one that has none
    pub fits : (p : Part) → Memᴰ p parts → spot_of heads p + length p.bytes ≤ held heads
    fits p m = spot-fits heads p (in_home p m)

    at : (k : ℕ) → k < length under → Laid parts under k (get_or laid k 0)
    at k h = laid_byte parts under k h (λ p m. let f = fits p m in omega arith)

    -- the part of what was laid where a piece stands
    abbrev there : Part → List ℕ
    there p = take (length p.bytes) (drop (spot_of heads p) laid)

    there_length : (p : Part) → Memᴰ p parts → length (there p) ≡ length p.bytes
    there_length p m =
        let f = fits p m in
        let l = laid-length parts under in
        omega (arith, length-take (length p.bytes) (drop (spot_of heads p) laid), length-drop (spot_of heads p) laid)

    there_at : (p : Part) (j : ℕ) → j < length p.bytes → get_or (there p) j 0 ≡ get_or laid (spot_of heads p + j) 0
    there_at p j h = get_or-take (length p.bytes) (drop (spot_of heads p) laid) j 0 h ∙ get_or-drop (spot_of heads p) laid j 0

    -- where none differ, each piece finds its own bytes
    own_bytes : differ parts ≡ false → (p : Part) → Memᴰ p parts → p.bytes ≡ there p
    own_bytes e p m = ext_get_or 0 p.bytes (there p) (sym (there_length p m)) (λ j h. each j h ∙ sym (there_at p j h))
      where
        each : (j : ℕ) → j < length p.bytes → get_or p.bytes j 0 ≡ get_or laid (spot_of heads p + j) 0
        each j h = go (at (spot_of heads p + j) (let f = fits p m in omega arith))
          where
            x : ℕ
            x = p.address + j

            own : Lies p.section x p
            own = record { of = refl; low = omega arith; high = omega arith }

            here : Place heads p.section x (spot_of heads p + j)
            here = subst (Place heads p.section x) (let z : spot_of heads p + (x - p.address) ≡ spot_of heads p + j = omega arith in z) (lies_place p.section x p (in_home p m) own)

            go : {byte : ℕ} → Laid parts under (spot_of heads p + j) byte → get_or p.bytes j 0 ≡ byte
            go (of q mq s z) =
                let lq = stands_lies p.section x (spot_of heads p + j) q (in_home q mq) here s in
                ap (λ (i : ℕ). get_or p.bytes i 0) (let y : j ≡ x - p.address = omega arith in y)
                ∙ meets parts e p.section x p q m mq own lq
                ∙ ap (λ (i : ℕ). get_or q.bytes i 0) (sym (same_offset p.section x (spot_of heads p + j) q (in_home q mq) here lq))
                ∙ sym z
            go (stays g z) = absurd (g p m (record { from = omega arith; to = omega arith }))

    -- a piece that isn't unlike has its own bytes there
    alike_bytes : (p : Part) → unlike heads laid p ≡ false → p.bytes ≡ there p
    unfolding unlike
    alike_bytes p e = same_equal p.bytes (there p) (not-false _ e)

    unlike_not : (p : Part) → p.bytes ≡ there p → unlike heads laid p ≡ false
    unfolding unlike
    unlike_not p e = ap not (ap (same_name p.bytes) (sym e) ∙ same_self p.bytes)

    alike_byte : (p : Part) → Memᴰ p parts → p.bytes ≡ there p → (n x k : ℕ) → Place heads n x k → Lies n x p → byte_of x p ≡ get_or laid k 0
    alike_byte p m e n x k here l =
        let o = same_offset n x k p (in_home p m) here l in
        let s = lies_stands n x k p (in_home p m) here l in
        ap (λ (b : List ℕ). get_or b (x - p.address) 0) e
        ∙ there_at p (x - p.address) (omega arith)
        ∙ ap (λ (i : ℕ). get_or laid i 0) (let z : spot_of heads p + (x - p.address) ≡ k = omega arith in z)

    -- THEOREM: comparing each piece with what was laid finds a difference exactly if two pieces of one section differ at an address
    pub laying_finds : some_unlike heads laid parts ≡ differ parts
    laying_finds = same_test (some_unlike heads laid parts) (differ parts) (λ f. found f (differ parts) refl) (λ d. missed d (some_unlike heads laid parts) refl)
      where
        found : some_unlike heads laid parts ≡ true → (b : Bool) → differ parts ≡ b → differ parts ≡ true
        found f true e = e
        found f false e = absurd (false≢true (sym (none_by (unlike heads laid) parts (λ p m. unlike_not p (own_bytes e p m))) ∙ f))

        missed : differ parts ≡ true → (b : Bool) → some_unlike heads laid parts ≡ b → some_unlike heads laid parts ≡ true
        missed d true e = e
        missed d false e =
            let a = apart parts d in
            let same : (p : Part) → Memᴰ p parts → p.bytes ≡ there p = λ p m. alike_bytes p (none_member (unlike heads laid) parts e p m) in
            let here = lies_place a.section a.address a.one (in_home a.one a.has_one) a.one_lies in
            absurd (a.unequal
            (alike_byte a.one a.has_one (same a.one a.has_one) a.section a.address _ here a.one_lies
            ∙ sym (alike_byte a.other a.has_other (same a.other a.has_other) a.section a.address _ here a.other_lies)))

    -- THEOREM: where none differ, what was laid over zeros are the joined bytes
    pub laying_joins : ((k : ℕ) → k < held heads → get_or under k 0 ≡ 0) → differ parts ≡ false → take (held heads) laid ≡ joined heads parts
    laying_joins zeros e =
        let long : length (take (held heads) laid) ≡ held heads = length-take-le (held heads) laid (let l = laid-length parts under in omega arith) in
        ext_get_or 0 (take (held heads) laid) (joined heads parts) (long ∙ sym (length-joined heads parts))
        (λ k h. get_or-take (held heads) laid k 0 (omega arith) ∙ each k (omega arith))
      where
        each : (k : ℕ) → k < held heads → get_or laid k 0 ≡ get_or (joined heads parts) k 0
        each k h = let r = place_of heads k h in go r.0 r.1 r.2 (at k (omega arith))
          where
            go : (n x : ℕ) → Place heads n x k → {byte : ℕ} → Laid parts under k byte → byte ≡ get_or (joined heads parts) k 0
            go n x here (of p m s z) =
                let l = stands_lies n x k p (in_home p m) here s in
                z
                ∙ ap (λ (i : ℕ). get_or p.bytes i 0) (same_offset n x k p (in_home p m) here l)
                ∙ sym (joined_is parts e n x p m l)
                ∙ sym (joined_reads heads parts n x k here)
            go n x here (stays g z) =
                z
                ∙ zeros k h
                ∙ sym (joined_empty parts n x (λ p m l. g p m (lies_stands n x k p (in_home p m) here l)))
                ∙ sym (joined_reads heads parts n x k here)

    -- THEOREM: bytes past them stay
    pub laying_keeps : drop (held heads) laid ≡ drop (held heads) under
    laying_keeps =
        let l = laid-length parts under in
        ext_get_or 0 (drop (held heads) laid) (drop (held heads) under)
        (length-drop (held heads) laid ∙ ap (λ (i : ℕ). i - held heads) l ∙ sym (length-drop (held heads) under))
        (λ k h.
        get_or-drop (held heads) laid k 0
        ∙ each (held heads + k) (omega arith) (omega (arith, length-drop (held heads) laid))
        ∙ sym (get_or-drop (held heads) under k 0))
      where
        each : (k : ℕ) → held heads ≤ k → k < length under → get_or laid k 0 ≡ get_or under k 0
        each k h b = go (at k b)
          where
            go : {byte : ℕ} → Laid parts under k byte → byte ≡ get_or under k 0
            go (of p m s z) = let f = fits p m in absurd (omega arith)
            go (stays g z) = z

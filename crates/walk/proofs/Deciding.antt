-- What a split asks for, test by test, in the order of the code: the bytes between, the alignment, and each way in which `decide` ends. Then the two steps are the
-- split's walk: `decide_then_give`. Assumes nothing.
use mathlib.Core.Path.{◌≡◌, refl, sym, ap, ◌∙◌}
use mathlib.Core.List.{List}
use Rattle.std.specs.Prelude.{Option, Some, None}
use Rattle.std.proofs.lemmas.Bool.{and_parts}
use Rattle.walk.specs.declared.Target.{Target}
use mathlib.Core.Bool.{Bool, true, false, cond, not, ◌&&◌}
use Prim.Native.Nat.{ℕ, ◌+◌, ◌-◌, ◌≤◌, ◌<◌}
use native.Mathlib.Omega.{arith}
use lib.Dec.{eqb, leb, ltb}
use lib.ListN.{length}
use borrow.Author.Tests.{lt-ltb, le-ltb, eq-eqb, ne_eqb, leb-true, ltb-true}
use Rattle.lists.specs.Outcome.{Outcome, accepted, refused, refuse, ◌>>=◌, ◌>>◌}
use Rattle.lists.proofs.Outcomes.{fails, passes}
use Rattle.align.specs.Align.{good_align}
use Rattle.align.proofs.Laws.{good_parts, good_pos}
use Rattle.obj.specs.declared.Section.{Section}
use Rattle.obj.specs.declared.Split.{Split}
use Rattle.sections.specs.Bytes.{zero_between}
use Rattle.sections.specs.Image.{Image}
use Rattle.sections.specs.Sections.{Sections}
use Rattle.sections.specs.Alignment.{Chosen, chosen}
use Rattle.sections.specs.declared.Alignment.{Alignment}
use Rattle.units.specs.Units.{unit_of}
use Rattle.splits.specs.Questions.{is_skipped}
use Rattle.walk.specs.Walk.{Input, Output, outside, nonzero, alignment_in, halved, on_aligned, on_kept, on_split}
use Rattle.walk.specs.Steps.{decide, between_of, Valued}

-- ---- the bytes between
module _ (sections : Sections) (n from to : ℕ) where
  abbrev inside : Section → Bool
  inside h = (leb h.address from && ltb from (h.address + h.size)) && (ltb h.address to && leb to (h.address + h.size))

  -- a range inside the section starts and ends at or above the section's start
  pub inside_start : (h : Section) → inside h ≡ true → (h.address ≤ from) × (h.address ≤ to)
  inside_start h e =
      let p = and_parts (leb h.address from && ltb from (h.address + h.size)) (ltb h.address to && leb to (h.address + h.size)) e in
      let low = leb-true h.address from (and_parts (leb h.address from) (ltb from (h.address + h.size)) p.0).0 in
      let high = ltb-true h.address to (and_parts (ltb h.address to) (leb to (h.address + h.size)) p.1).0 in
      (low, omega arith)

  pub between_none : (current : ℕ) → to ≤ from → accepted tt ≡ between_of sections n current from to
  unfolding between_of refuse ◌>>◌
  between_none current h = rw (le-ltb from to h) refl

  module _ (current : ℕ) (some : from < to) (head : Section) (e : head ≡ sections.head n) where
    pub between-outside : inside head ≡ false → refused 72 n current ≡ between_of sections n current from to
    unfolding between_of refuse ◌>>◌
    between-outside q = rw (lt-ltb from to some, ap inside (sym e) ∙ q) refl

    module _ (q : inside head ≡ true) (bytes : List ℕ) (f : bytes ≡ sections.bytes n) where
      there : zero_between (sections.bytes n) (from - (sections.head n).address) (to - (sections.head n).address) ≡ zero_between bytes (from - head.address) (to - head.address)
      there = λ d. zero_between (sym f d) (from - (sym e d).address) (to - (sym e d).address)

      pub between_zero : zero_between bytes (from - head.address) (to - head.address) ≡ true → accepted tt ≡ between_of sections n current from to
      unfolding between_of refuse ◌>>◌
      between_zero z = rw (lt-ltb from to some, ap inside (sym e) ∙ q, there ∙ z) refl

      pub between_nonzero : zero_between bytes (from - head.address) (to - head.address) ≡ false → refused 73 n current ≡ between_of sections n current from to
      unfolding between_of refuse ◌>>◌
      between_nonzero z = rw (lt-ltb from to some, ap inside (sym e) ∙ q, there ∙ z) refl

-- ---- the alignment

module _ (wanted : Outcome Chosen) (n start : ℕ) (good : (c : Chosen) → wanted ≡ accepted c → good_align c.value ≡ true) where
  pub aligned_value : (a : Alignment) → accepted (chosen a) ≡ wanted → Valued wanted (chosen a).value
  aligned_value a e =
      let g = good (chosen a) (sym e) in
      record { chosen = (chosen a, sym e, refl); least = good_pos (chosen a).value g; most = (good_parts (chosen a).value g).1 }

-- ---- two lines, and those after them
two_lines : {A : Type 0} (a b : Outcome (Unit {0})) (m : Outcome A) → (a >> (b >> m)) ≡ ((a >> b) >> m)
unfolding ◌>>◌
two_lines (accepted u) b m = refl
two_lines (refused number section address) b m = refl

-- ---- deciding, test by test
module _ (image : Image) (sections : Sections) (units : List ℕ) (n current next : ℕ) (s : Split) where
  abbrev whole : Outcome (Option Target)
  whole = decide image sections units n current next s

  -- a split that is not skipped
  abbrev kept : Outcome (Option Target)
  kept =
      refuse 74 n current (eqb (unit_of units s.unit) (length units))
      >> (alignment_in image (sections.head n) n current s >>= λ (c : Chosen). accepted (Some (record { unit = unit_of units s.unit; alignment = c.value })))

  pub decide-start : (s.start ≡ current → ⊥) → refused 71 n current ≡ whole
  unfolding decide
  decide-start e = sym (fails 71 n current _ _ (ap not (ne_eqb s.start current e)))

  module _ (e : s.start ≡ current) where
    decide_lines : whole ≡ (between_of sections n current s.end next >> cond (is_skipped s) (accepted None) kept)
    unfolding decide between_of
    decide_lines = passes 71 n current _ _ (ap not (eq-eqb s.start current e)) ∙ two_lines _ _ _

    pub decide-between : (number section address : ℕ) → refused number section address ≡ between_of sections n current s.end next → refused number section address ≡ whole
    unfolding ◌>>◌
    decide-between number section address q = sym (decide_lines ∙ ap (λ (m : Outcome (Unit {0})). m >> cond (is_skipped s) (accepted None) kept) (sym q))

    module _ (q : accepted tt ≡ between_of sections n current s.end next) where
      decide_on : whole ≡ cond (is_skipped s) (accepted None) kept
      unfolding ◌>>◌
      decide_on = decide_lines ∙ ap (λ (m : Outcome (Unit {0})). m >> cond (is_skipped s) (accepted None) kept) (sym q)

      pub decide_skip : is_skipped s ≡ true → accepted None ≡ whole
      decide_skip k = sym (decide_on ∙ ap (λ (t : Bool). cond t (accepted None) kept) k)

      module _ (k : is_skipped s ≡ false) where
        decide-kept : whole ≡ kept
        decide-kept = decide_on ∙ ap (λ (t : Bool). cond t (accepted None) kept) k

        pub decide_unlisted : unit_of units s.unit ≡ length units → refused 74 n current ≡ whole
        decide_unlisted u = sym (decide-kept ∙ fails 74 n current _ _ (eq-eqb (unit_of units s.unit) (length units) u))

        module _ (u : unit_of units s.unit ≡ length units → ⊥) where
          listed : whole ≡ (alignment_in image (sections.head n) n current s >>= λ (c : Chosen). accepted (Some (record { unit = unit_of units s.unit; alignment = c.value })))
          listed = decide-kept ∙ passes 74 n current _ _ (ne_eqb (unit_of units s.unit) (length units) u)

          pub decide_backwards : (number section address : ℕ) → alignment_in image (sections.head n) n current s ≡ refused number section address
              → refused number section address ≡ whole
          unfolding ◌>>=◌
          decide_backwards number section address h = sym (listed ∙ ap (λ (m : Outcome Chosen). m >>= λ (c : Chosen). accepted (Some (record { unit = unit_of units s.unit; alignment = c.value }))) h)

          pub decide_gives : (r : ℕ) → Valued (alignment_in image (sections.head n) n current s) r → accepted (Some (record { unit = unit_of units s.unit; alignment = r })) ≡ whole
          unfolding ◌>>=◌
          decide_gives r at =
              let p = at.chosen in
              sym (listed
              ∙ ap (λ (m : Outcome Chosen). m >>= λ (c : Chosen). accepted (Some (record { unit = unit_of units s.unit; alignment = c.value }))) p.1
              ∙ ap (λ (a : ℕ). accepted (Some (record { unit = unit_of units s.unit; alignment = a }))) p.2)

-- ---- deciding and giving is the split's walk

-- what is done with a target
abbrev pub carried : Input → (n current : ℕ) → Split → Output → Option Target → Outcome Output
carried t n current s out None = accepted out
carried t n current s out (Some to) = on_aligned t n current to.unit (halved 16 to.alignment current) s out

chain : (n current : ℕ) (a b c k d : Bool) (m : Outcome Chosen) (f : Chosen → Option Target) (g : Option Target → Outcome Output)
    → (refuse 71 n current a >> (refuse 72 n current b >> (refuse 73 n current c >> cond k (g None) (refuse 74 n current d >> (m >>= λ x. g (f x))))))
    ≡ ((refuse 71 n current a >> (refuse 72 n current b >> (refuse 73 n current c >> cond k (accepted None) (refuse 74 n current d >> (m >>= λ x. accepted (f x)))))) >>= g)
unfolding refuse ◌>>◌ ◌>>=◌
chain n current true b c k d m f g = refl
chain n current false true c k d m f g = refl
chain n current false false true k d m f g = refl
chain n current false false false true d m f g = refl
chain n current false false false false true m f g = refl
chain n current false false false false false (accepted x) f g = refl
chain n current false false false false false (refused number section address) f g = refl

pub decide_then_give : (t : Input) (n current next : ℕ) (s : Split) (out : Output)
    → on_split t n current next s out ≡ (decide t.image t.sections t.units n current next s >>= carried t n current s out)
unfolding on_split on_kept decide
decide_then_give t n current next s out =
    chain n current (not (eqb s.start current)) (ltb s.end next && outside t.sections n s.end next)
    (ltb s.end next && nonzero t.sections n s.end next) (is_skipped s) (eqb (unit_of t.units s.unit) (length t.units))
    (alignment_in t.image (t.sections.head n) n current s) (λ c. Some (record { unit = unit_of t.units s.unit; alignment = c.value })) (carried t n current s out)

-- The walk, of tables that say the same: each section that is walked is there, and so are the symbols and relocations that its splits take. Each step is
-- shown against the first input with the other one's tables put in (`fed`). Assumes nothing.
use mathlib.Core.Path.{◌≡◌, refl, ap, ◌∙◌}
use mathlib.Core.List.{List, [], ◌∷◌, ◌++◌}
use mathlib.Core.Bool.{cond, not, ◌&&◌, ◌||◌}
use Prim.Native.Nat.{ℕ, zero, suc, ◌+◌, ◌≤◌, ◌<◌}
use native.Mathlib.Omega.{arith}
use lib.Dec.{eqb, leb, ltb}
use lib.ListN.{length}
use Rattle.lists.specs.Outcome.{accepted, refuse, ◌>>◌, ◌>>=◌}
use Rattle.lists.specs.Rows.{keep_if}
use Rattle.lists.specs.Sort.{All, none, each}
use Rattle.lists.proofs.All.{all_keep}
use Rattle.lists.proofs.Rising.{numbers-below}
use Rattle.obj.specs.declared.Section.{Section}
use Rattle.obj.specs.declared.Reloc.{Reloc}
use Rattle.obj.specs.declared.Split.{Split}
use Rattle.symbols.specs.Ranges.{has_symbols}
use Rattle.symbols.proofs.Finds.{symbols_there}
use Rattle.sections.specs.Image.{Image}
use Rattle.sections.specs.Sections.{Sections}
use Rattle.splits.specs.Questions.{within, is_common, is_skipped, next_start}
use Rattle.pieces.specs.declared.PieceSymbol.{PieceSymbol}
use Rattle.pieces.specs.declared.PieceReloc.{PieceReloc}
use Rattle.pieces.specs.Questions.{count_of, has}
use Rattle.relocs.specs.Relocs.{relocs_of, relocs_between, has_relocs}
use Rattle.units.specs.Units.{unit_of}
use Rattle.walk.specs.Walk.{Input, Output, outside, nonzero, fits, halved, passed_over, entry_of, add_symbol, add_symbols, split_symbols, reloc_entry, add_relocs, split_relocs, piece_of, given, over, on_aligned, on_kept, on_split, walk_splits, walk_section, walk_sections, nothing, walk}
use Rattle.stages_alike.specs.Alike.{SameImages, SameSections, SameRelocs}
use Rattle.stages_alike.proofs.Lists.{some_alike, kept-twice}
use Rattle.stages_alike.proofs.Symbols.{through_alike, has_alike}
use Rattle.stages_alike.proofs.Sections.{recounted, counted, symbol_named, end_alike, alignment_in_alike}

-- ---- the relocations of a section
module _ (y z : ℕ → Reloc) (count : ℕ) (same : SameRelocs y z count) (n : ℕ) where
  has_relocs_alike : has_relocs y count n ≡ has_relocs z count n
  unfolding has_relocs
  has_relocs_alike = some_alike y z count same.each (λ r. eqb r.section n) (numbers-below count)

  between_alike : (start end : ℕ) → relocs_between y count n start end ≡ relocs_between z count n start end
  unfolding relocs_of
  between_alike start end =
      kept-twice y z count same.each (λ r. leb start r.address && ltb r.address end) (λ r. eqb r.section n) (numbers-below count) refl

  -- .. as entries of a piece
  entries_alike : (place start : ℕ) (out : List PieceReloc) {l : List ℕ} → All (λ i. i < count) l → add_relocs y place start out l ≡ add_relocs z place start out l
  unfolding add_relocs
  entries_alike place start out none = refl
  entries_alike place start out (each {x = i} b all) =
      let r = same.each i b in
      λ k. entries_alike place start (out ++ (reloc_entry place start i (r k) ∷ [])) all k

  -- those of a split
  pub relocs_alike : (place : ℕ) (s : Split) (out : List PieceReloc)
      → add_relocs y place s.start out (split_relocs y count n s) ≡ add_relocs z place s.start out (split_relocs z count n s)
  unfolding relocs_of
  relocs_alike place s out =
      entries_alike place s.start out (all_keep _ (all_keep _ (numbers-below count)))
      ∙ ap (add_relocs z place s.start out) (between_alike s.start s.end)

-- ---- the symbols of a split
module _ (g h : Image) (same : SameImages g h) where
  -- one symbol that is there
  symbol_alike : (unit place : ℕ) (s : Split) (out : List PieceSymbol) (i : ℕ) → i < g.count → add_symbol g unit place s out i ≡ add_symbol (recounted h g.count) unit place s out i
  unfolding add_symbol
  symbol_alike unit place s out i b =
      let y = same.symbols i b in
      let name = symbol_named g h same i b in
      λ k. cond (passed_over (name k) s (y k) || has unit i out) out (out ++ (entry_of unit place s i (y k) ∷ []))

  add_alike : (unit place : ℕ) (s : Split) (out : List PieceSymbol) {l : List ℕ} → All (λ i. i < g.count) l
      → add_symbols g unit place s out l ≡ add_symbols (recounted h g.count) unit place s out l
  unfolding add_symbols
  add_alike unit place s out none = refl
  add_alike unit place s out (each {x = i} b all) = λ k. add_alike unit place s (symbol_alike unit place s out i b k) all k

  symbols_alike : (n unit place : ℕ) (s : Split) (out : List PieceSymbol) → add_symbols g unit place s out (split_symbols g n s) ≡ add_symbols h unit place s out (split_symbols h n s)
  symbols_alike n unit place s out =
      counted g h same (λ x. add_symbols x unit place s out (split_symbols x n s))
      (add_alike unit place s out (all_keep _ (symbols_there g.symbol g.count n))
      ∙ ap (add_symbols (recounted h g.count) unit place s out) (through_alike g.symbol h.symbol g.count same.symbols n s.start s.end))

-- ---- the walk

-- the input with these tables of symbols, sections and relocations
abbrev fed : Input → Image → Sections → (ℕ → Reloc) → Input
fed t h sections reloc = record {
  image = h;
  sections = sections;
  reloc = reloc;
  relocs = t.relocs;
  splits = t.splits;
  units = t.units;
  room = t.room;
}

-- a section with this head and these bytes
abbrev alone : Section → List ℕ → Sections
alone head bytes = record { count = 0; head = λ m. head; bytes = λ m. bytes }

module _ (t : Input) (h : Image) (s : Sections) (reloc : ℕ → Reloc) (images : SameImages t.image h) (sections : SameSections t.image h t.sections s)
    (relocs : SameRelocs t.reloc reloc t.relocs) where
  -- the same tables, of the other input
  abbrev u : Input
  u = fed t h s reloc

  -- ---- section n
  module _ (n : ℕ) (b : n < t.sections.count) where
    given_alike : (unit alignment : ℕ) (x : Split) (out : Output) → given t n unit alignment x out ≡ given u n unit alignment x out
    unfolding given
    given_alike unit alignment x out =
        let head = sections.heads n b in
        let symbols = symbols_alike t.image h images n unit (length out.pieces) x out.symbols in
        let more = relocs_alike t.reloc reloc t.relocs relocs n (length out.pieces) x out.relocs in
        λ k. record {
          pieces = out.pieces ++ cond (is_common x) [] (piece_of (head k) n unit (count_of unit out.pieces) alignment x ∷ []);
          symbols = symbols k;
          relocs = cond (is_common x) out.relocs (more k);
        }

    has_symbols_alike : has_symbols t.image.symbol t.image.count n ≡ has_symbols h.symbol h.count n
    has_symbols_alike =
        counted t.image h images (λ y. has_symbols y.symbol y.count n) (has_alike t.image.symbol h.symbol t.image.count images.symbols n)

    aligned_alike : (current unit alignment : ℕ) (x : Split) (out : Output) → on_aligned t n current unit alignment x out ≡ on_aligned u n current unit alignment x out
    unfolding on_aligned
    aligned_alike current unit alignment x out = λ k. do
      refuse 75 n current (not (fits alignment current))
      refuse 11 n current (ltb x.end current && has_relocs_alike t.reloc reloc t.relocs relocs n k)
      refuse 11 n current (ltb x.end current && has_symbols_alike k)
      refuse 11 n current (ltb x.end current && not (is_common x))
      refuse 76 n current (over t.room (given_alike unit alignment x out k))
      accepted (given_alike unit alignment x out k)

    kept_alike : (current : ℕ) (x : Split) (out : Output) → on_kept t n current x out ≡ on_kept u n current x out
    unfolding on_kept
    kept_alike current x out = λ k. do
      refuse 74 n current (eqb (unit_of t.units x.unit) (length t.units))
      chosen ← alignment_in_alike t.image h images t.sections s sections n b x.alignment current x.end k
      aligned_alike current (unit_of t.units x.unit) (halved 16 chosen.value current) x out k

    split_alike : (current next : ℕ) (x : Split) (out : Output) → on_split t n current next x out ≡ on_split u n current next x out
    unfolding on_split
    split_alike current next x out =
        let head = sections.heads n b in
        let bytes = sections.bytes n b in
        λ k. do
          refuse 71 n current (not (eqb x.start current))
          refuse 72 n current (ltb x.end next && outside (alone (head k) (bytes k)) n x.end next)
          refuse 73 n current (ltb x.end next && nonzero (alone (head k) (bytes k)) n x.end next)
          cond (is_skipped x) (accepted out) (kept_alike current x out k)

    splits_alike : (end current : ℕ) (out : Output) (l : List Split) → walk_splits t n end current out l ≡ walk_splits u n end current out l
    unfolding walk_splits
    splits_alike end current out [] = refl
    splits_alike end current out (x ∷ later) = λ k.
        cond (ltb current end)
        (split_alike current (next_start end later) x out k >>= λ more. splits_alike end (next_start end later) more later k)
        (accepted out)

    section_alike : (out : Output) → walk_section t n out ≡ walk_section u n out
    unfolding walk_section
    section_alike out =
        let head = sections.heads n b in
        λ k. end_alike t.image h images t.sections s sections n b k
        >>= λ end. splits_alike end (head k).address out (keep_if (within n (head k).address end) t.splits) k

  -- ---- all sections

  sections_alike : (n more : ℕ) (out : Output) → n + more ≤ t.sections.count → walk_sections t n more out ≡ walk_sections u n more out
  unfolding walk_sections
  sections_alike n zero out b = refl
  sections_alike n (suc more) out b =
      let first = section_alike n (omega arith) out in
      λ k. first k >>= λ next. sections_alike (suc n) more next (omega arith) k

  fed_alike : walk t ≡ walk u
  unfolding walk
  fed_alike = sections_alike 0 t.sections.count nothing (omega arith) ∙ ap (λ (more : ℕ). walk_sections u 0 more nothing) sections.counts

-- THEOREM: the same pieces, symbols and relocations, or the same refusal
pub walk_alike : (t u : Input) → SameImages t.image u.image → SameSections t.image u.image t.sections u.sections
    → SameRelocs t.reloc u.reloc t.relocs → t.relocs ≡ u.relocs → t.splits ≡ u.splits → t.units ≡ u.units → t.room ≡ u.room → walk t ≡ walk u
walk_alike t u images sections relocs counts splits units room =
    fed_alike t u.image u.sections u.reloc images sections relocs
    ∙ λ k. walk (record {
      image = u.image;
      sections = u.sections;
      reloc = u.reloc;
      relocs = counts k;
      splits = splits k;
      units = units k;
      room = room k;
    })

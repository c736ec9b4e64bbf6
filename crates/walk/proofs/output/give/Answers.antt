-- `walk::output::give` meets its contract: 11, no room for the symbols, a common split that has given, or what the piece and its relocations come to.
use mathlib.Core.Path.{◌≡◌, sym, ap, subst, ◌∙◌}
use mathlib.Core.List.{List, ◌++◌}
use mathlib.Core.Bool.{not, ◌||◌}
use Prim.Native.Nat.{ℕ, ◌-◌, ◌≤◌, ◌<◌}
use native.Mathlib.Omega.{arith}
use borrow.Author.Rules.{rules}
use borrow.Rule.Slice.PartMut.{same_len_mid}
use lib.Dec.{eqb, leb, ltb}
use lib.ListN.{length, take, drop}
use lib.Seq.{length-take-le, length_front}
use Rattle.lists.specs.Outcome.{accepted}
use Rattle.obj.specs.declared.Section.{Section}
use Rattle.obj.specs.declared.Reloc.{Reloc}
use Rattle.symbols.specs.Ranges.{has_symbols}
use Rattle.symbols.proofs.Parts.{part_readable}
use Rattle.sections.specs.Image.{image_in}
use Rattle.sections.specs.Sections.{head_of}
use Rattle.pieces.specs.declared.Counts.{Counts}
use Rattle.pieces.specs.declared.Piece.{Piece}
use Rattle.pieces.specs.declared.PieceSymbol.{PieceSymbol}
use Rattle.pieces.specs.declared.PieceReloc.{PieceReloc}
use Rattle.pieces.specs.Tables.{pieces_of, symbols_of, relocs_of}
use Rattle.pieces.proofs.Laws.{length-pieces_in, length-relocs_in}
use Rattle.pieces.proofs.Same.{pieces_same, symbols_same, relocs_same, lent_same, lent_still}
use Rattle.relocs.specs.Relocs.{reloc_of}
use Rattle.piece_columns.proofs.Same.{counted_same, chained_same}
use Rattle.piece_columns.specs.Columns.{CountedIn}
use Rattle.std.specs.Prelude.{Result, Err}
use Rattle.obj.proofs.Errors.{is_err}
use Rattle.walk.specs.Walk.{add_symbols}
use Rattle.walk.specs.Adding.{Entries, Adds, AddsNow}
use Rattle.walk.specs.declared.Full.{Full}
use Rattle.walk.proofs.Refused.{Left, left}
use Rattle.walk.specs.Giving.{input_of, output_of, chains_in, counts_in, PieceGives, pieces_with, relocs_with}
use Rattle.walk.proofs.Giving.{piece_out, aligned_backwards, symbols_full, common_made, piece_made, piece_full, kept_above, backwards_is, forwards_ends}
use Rattle.walk.proofs.Added.{Forwards, entries_with, forwards_is, wanted_is, entries_are, few_entries}
use Rattle.walk.proofs.Regions.{chains_front, counts_front, counts_whole, chains_behind, counts_behind}
use Rattle.walk.proofs.output.give.Goals as goal
use Rattle.walk.proofs.output.give.Goals.{After-map_err, In_ok-map_err, After-map_err-2}

pub returns-then-is_backwards : goal.returns-then-is_backwards
returns-then-is_backwards c =
    let a = c.args in
    let t = a.tables.now in
    let g = image_in a.obj.now in
    let head = head_of a.obj.now.heads.bytes.now a.obj.now.heads.places.now in
    let reloc = reloc_of a.relocs.now.bytes.now a.relocs.now.places.now in
    let relocs = length a.relocs.now.places.now in
    rw c.refuse_at.ensures
    (record {
      is = λ count bytes splits units.
          aligned_backwards (input_of g (record { count = count; head = head; bytes = bytes }) reloc relocs splits units t.room) a.n a.s.start a.target.unit a.target.alignment a.s (output_of t) c.requires.6
          (sym (backwards_is (input_of g (record { count = count; head = head; bytes = bytes }) reloc relocs splits units t.room) a.n a.s.start a.target.unit a.target.alignment a.s (output_of t) c.requires.6 a.part.now c.requires.2.is) ∙ sym c.is_backwards.ensures ∙ c.if-is_backwards.true);
      beside = tt;
      lent = lent_same;
    })

pub add_symbols-requires : goal.add_symbols-requires
unfolding chains_in
add_symbols-requires c =
    let a = c.args in
    let g = image_in a.obj.now in
    let part = c.symbols_inside-inside.ensures in (
      record {
        readable = part_readable _ _ _ c.requires.1.symbols a.n _ part;
        above = kept_above (λ (i : ℕ). (g.symbol i).address) a.s.start (λ (i : ℕ). leb (g.symbol i).address a.s.end) _ part;
      },
      c.requires.1.names,
      c.requires.0.entered,
    )

-- ---- what the answers after the symbols share

abbrev head : After-map_err → ℕ → Section
head c = head_of c.args.obj.now.heads.bytes.now c.args.obj.now.heads.places.now

abbrev reloc : After-map_err → ℕ → Reloc
reloc c = reloc_of c.args.relocs.now.bytes.now c.args.relocs.now.places.now

abbrev relocs : After-map_err → ℕ
relocs c = length c.args.relocs.now.places.now

-- the split was asked forwards
forwards : (c : After-map_err) → let a = c.args in Forwards (image_in a.obj.now) (head c) (reloc c) (relocs c) a.n a.target.unit a.target.alignment a.s a.tables.now c.requires.6
forwards c =
    let a = c.args in
    forwards_is (image_in a.obj.now) (head c) (reloc c) (relocs c) a.n a.target.unit a.target.alignment a.s a.tables.now c.requires.6 c.requires.2.is c.is_backwards.ensures c.if-is_backwards.false

-- its symbols are added, or there is no room for them
abbrev Added : After-map_err → Result (Unit {0}) Full → Type 0
Added c =
    let a = c.args in
    let t = a.tables.now in
    Adds (add_symbols (image_in a.obj.now) a.target.unit t.made.pieces a.s (symbols_of t) c.symbols_inside-inside.result.now) c.add_symbols.new.chains t c.add_symbols.new.tables

added : (c : After-map_err) → Left (Added c) c.new-full.result c.map_err.result
added c = left (Added c) c.new-full.result c.add_symbols.result c.map_err.result c.map_err.ensures.cases (λ e d q. search rules) c.add_symbols.ensures

abbrev before : In_ok-map_err → After-map_err
before c = (goal.at.In_ok-map_err c).After-map_err

symbols_now : (c : In_ok-map_err) → let a = c.args in let t = a.tables.now in
    AddsNow (add_symbols (image_in a.obj.now) a.target.unit t.made.pieces a.s (symbols_of t) c.symbols_inside-inside.result.now) c.add_symbols.new.chains t c.add_symbols.new.tables
symbols_now c = subst (Left (Added (before c)) c.new-full.result) c.in_ok-map_err.was (added (before c))

entries : (c : In_ok-map_err) → let a = c.args in let h = before c in
    symbols_of c.add_symbols.new.tables ≡ entries_with (image_in a.obj.now) (head h) (reloc h) (relocs h) a.n a.target.unit a.target.alignment a.s a.tables.now
entries c =
    let a = c.args in
    let h = before c in
    entries_are (image_in a.obj.now) (head h) (reloc h) (relocs h) a.n a.target.unit a.target.alignment a.s a.tables.now c.symbols_inside-inside.ensures (symbols_now c)

few : (c : In_ok-map_err) → let a = c.args in let h = before c in
    length (entries_with (image_in a.obj.now) (head h) (reloc h) (relocs h) a.n a.target.unit a.target.alignment a.s a.tables.now) ≤ a.tables.now.room.symbols
few c =
    let a = c.args in
    let h = before c in
    few_entries (image_in a.obj.now) (head h) (reloc h) (relocs h) a.n a.target.unit a.target.alignment a.s a.tables.now c.symbols_inside-inside.ensures (symbols_now c)

-- the columns with the new chains
abbrev between : In_ok-map_err → List ℕ
between c = c.add_symbols.new.chains ++ drop 8192 c.args.scratch.now

front : (c : In_ok-map_err) → length c.add_symbols.new.chains ≡ 8192
front c = c.add_symbols.auto.chains ∙ length-take-le 8192 c.args.scratch.now c.requires.0.long

long : (c : In_ok-map_err) → length (between c) ≡ length c.args.scratch.now
long c = length_front c.args.scratch.now c.add_symbols.new.chains 8192 c.add_symbols.auto.chains

-- the piece and its relocations are those over the tables as they were
pieces_still : (c : In_ok-map_err) → let a = c.args in let wanted = pieces_with (head (before c) a.n) a.n a.target.unit a.target.alignment a.s in
    wanted (pieces_of c.add_symbols.new.tables) ≡ wanted (pieces_of a.tables.now)
pieces_still c = let a = c.args in ap (pieces_with (head (before c) a.n) a.n a.target.unit a.target.alignment a.s) (pieces_same (symbols_now c).pieces)

relocs_still : (c : In_ok-map_err) → let a = c.args in let mid = c.add_symbols.new.tables in let wanted = relocs_with (reloc (before c)) (relocs (before c)) a.n a.s in
    wanted mid.made.pieces (relocs_of mid) ≡ wanted (length (pieces_of a.tables.now)) (relocs_of a.tables.now)
relocs_still c =
    let a = c.args in
    let t = a.tables.now in
    let now = symbols_now c in
    let place = now.pieces.made ∙ sym (length-pieces_in t.pieces.now t.made.pieces) in
    λ d. relocs_with (reloc (before c)) (relocs (before c)) a.n a.s (place d) (relocs_same now.relocs d)

-- the piece is made, or there is no room for it and its relocations
abbrev Put : After-map_err-2 → Result (Unit {0}) Full → Type 0
Put c =
    let a = c.args in
    let mid = c.add_symbols.new.tables in
    let h = (goal.at.After-map_err-2 c).After-map_err in
    PieceGives (pieces_with (head h a.n) a.n a.target.unit a.target.alignment a.s (pieces_of mid)) (relocs_with (reloc h) (relocs h) a.n a.s mid.made.pieces (relocs_of mid)) c.give_piece.new.counts mid c.give_piece.new.tables

put : (c : After-map_err-2) → Left (Put c) c.new-full.result c.map_err-2.result
put c = left (Put c) c.new-full.result c.give_piece.result c.map_err-2.result c.map_err-2.ensures.cases (λ e d q. search rules) c.give_piece.ensures

pub returns-in_err-map_err : goal.returns-in_err-map_err
returns-in_err-map_err c =
    let a = c.args in
    let t = a.tables.now in
    let g = image_in a.obj.now in
    let h = (goal.at.returns-in_err-map_err c).After-map_err in
    let full = subst (Left (Added h) c.new-full.result) c.in_err-map_err.was (added h) in
    rw (is_err _ c.from_residual.ensures.1 ∙ ap Err (full.2 ∙ c.new-full.ensures))
    (record {
      is = λ count bytes splits units. symbols_full g (head h) (reloc h) (relocs h) a.n a.target.unit a.target.alignment a.s t.room (output_of t) count bytes splits units c.requires.6
          (forwards h count bytes splits units) (subst (λ (l : List PieceSymbol). t.room.symbols < length l) (wanted_is g (head h) (reloc h) (relocs h) a.n a.target.unit a.target.alignment a.s t c.symbols_inside-inside.ensures) full.1.0);
      beside = tt;
      lent = full.1.1;
    })

pub returns-then-is_common : goal.returns-then-is_common
returns-then-is_common c =
    let a = c.args in
    let t = a.tables.now in
    let g = image_in a.obj.now in
    let ok = (goal.at.returns-then-is_common c).In_ok-map_err in
    let h = before ok in
    let more = c.add_symbols in
    let mid = more.new.tables in
    let now = symbols_now ok in
    let e = c.requires.0.entered in
    let entered : Entries (length a.obj.now.symbols.places.now) more.new.chains mid = record {
      chained = now.chained;
      most = omega (arith, e.most, ap (λ (m : Counts). m.symbols) now.lent.room);
      placed = omega (arith, mid.fits.few_pieces, ap (λ (m : Counts). m.pieces) now.lent.room, c.requires.0.most_pieces);
      long = omega (arith, front ok, e.most, ap (λ (m : Counts). m.symbols) now.lent.room);
      most_symbols = e.most_symbols;
    } in
    record {
      is = λ count bytes splits units.
          common_made g (head h) (reloc h) (relocs h) a.n a.target.unit a.target.alignment a.s t.room (output_of t) count bytes splits units c.requires.6
          (forwards h count bytes splits units) (few ok) (sym c.is_common.ensures ∙ c.if-is_common.true)
          (omega (arith, length-pieces_in t.pieces.now t.made.pieces, t.fits.few_pieces)) (omega (arith, length-relocs_in t.relocs.now t.made.relocs, t.fits.few_relocs))
          ∙ (λ d. accepted (record { pieces = sym (pieces_same now.pieces) d; symbols = sym (entries ok) d; relocs = sym (relocs_same now.relocs) d }));
      beside = record {
        counted = subst (λ (l : List ℕ). CountedIn l mid) (sym (counts_front more.new.chains a.scratch.now (front ok))) (counted_same now.pieces c.requires.0.counted);
        entered = subst (λ (l : List ℕ). Entries (length a.obj.now.symbols.places.now) l mid) (sym (chains_front more.new.chains a.scratch.now (front ok))) entered;
        most_pieces = omega (arith, c.requires.0.most_pieces, ap (λ (m : Counts). m.pieces) now.lent.room);
        most_relocs = omega (arith, c.requires.0.most_relocs, ap (λ (m : Counts). m.relocs) now.lent.room);
        long = omega (arith, c.requires.0.long, long ok);
      };
      lent = now.lent;
    }

pub give_piece-requires : goal.give_piece-requires
give_piece-requires c =
    let a = c.args in
    let g = image_in a.obj.now in
    let ok = (goal.at.give_piece-requires c).In_ok-map_err in
    let more = c.add_symbols in
    let now = symbols_now ok in
    let far : 8192 ≤ length (between ok) = omega (arith, c.requires.0.long, long ok) in
    let lent : take (length (between ok) - 8192) (drop 8192 (between ok)) ≡ counts_in a.scratch.now = counts_whole (between ok) ∙ counts_front more.new.chains a.scratch.now (front ok) in (
      subst (λ (l : List ℕ). CountedIn l more.new.tables) (sym lent) (counted_same now.pieces c.requires.0.counted),
      c.requires.2,
      c.requires.3,
      subst (λ (l : List ℕ). a.target.unit < length l) (sym lent) c.requires.4,
      c.requires.5,
      forwards_ends (not (eqb (length a.part.now) 0) || has_symbols g.symbol g.count a.n) a.s (sym c.is_backwards.ensures ∙ c.if-is_backwards.false) (sym c.is_common.ensures ∙ c.if-is_common.false),
      omega (arith, c.requires.0.most_pieces, ap (λ (m : Counts). m.pieces) now.lent.room),
    )

pub returns-in_err-map_err-2 : goal.returns-in_err-map_err-2
returns-in_err-map_err-2 c =
    let a = c.args in
    let t = a.tables.now in
    let g = image_in a.obj.now in
    let ok = (goal.at.returns-in_err-map_err-2 c).In_ok-map_err in
    let h = before ok in
    let now = symbols_now ok in
    let asked = (goal.at.returns-in_err-map_err-2 c).After-map_err-2 in
    let full = subst (Left (Put asked) c.new-full.result) c.in_err-map_err-2.was (put asked) in
    rw (is_err _ c.from_residual-in_err-map_err-2.ensures.1 ∙ ap Err (full.2 ∙ c.new-full.ensures))
    (record {
      is = λ count bytes splits units.
          piece_full g (head h) (reloc h) (relocs h) a.n a.target.unit a.target.alignment a.s t.room (output_of t) count bytes splits units c.requires.6
          (forwards h count bytes splits units) (sym c.is_common.ensures ∙ c.if-is_common.false)
          ((λ d. ltb (sym now.lent.room d).relocs (length (sym (relocs_still ok) d)) || ltb (sym now.lent.room d).pieces (length (sym (pieces_still ok) d))) ∙ full.1.0);
      beside = tt;
      lent = lent_still now.lent full.1.1;
    })

pub returns : goal.returns
returns c =
    let a = c.args in
    let t = a.tables.now in
    let g = image_in a.obj.now in
    let ok = (goal.at.returns c).In_ok-map_err in
    let h = before ok in
    let more = c.add_symbols in
    let now = symbols_now ok in
    let gp = c.give_piece in
    let far : 8192 ≤ length (between ok) = omega (arith, c.requires.0.long, long ok) in
    let asked = (goal.at.returns c).After-map_err-2 in
    let made = subst (Left (Put asked) c.new-full.result) c.in_ok-map_err-2.was (put asked) in
    let after = gp.new.tables in
    let lent = lent_still now.lent made.lent in
    let behind = same_len_mid 8192 (length (between ok) - 8192) (between ok) gp.new.counts gp.auto.counts ∙ long ok in
    let chains = chains_behind (between ok) gp.new.counts far ∙ chains_front more.new.chains a.scratch.now (front ok) in
    let out = piece_out g (head h) (reloc h) (relocs h) a.n a.target.unit a.target.alignment a.s t.room (output_of t) in
    let written : pieces_of after ≡ out.pieces = made.is ∙ pieces_still ok in
    let moved : relocs_of after ≡ out.relocs = made.relocs_are ∙ relocs_still ok in
    record {
      is = λ count bytes splits units.
          piece_made g (head h) (reloc h) (relocs h) a.n a.target.unit a.target.alignment a.s t.room (output_of t) count bytes splits units c.requires.6
          (forwards h count bytes splits units) (few ok) (sym c.is_common.ensures ∙ c.if-is_common.false)
          (omega (arith, ap (λ (l : List Piece). length l) written, length-pieces_in after.pieces.now after.made.pieces, after.fits.few_pieces, ap (λ (m : Counts). m.pieces) lent.room))
          (omega (arith, ap (λ (l : List PieceReloc). length l) moved, length-relocs_in after.relocs.now after.made.relocs, after.fits.few_relocs, ap (λ (m : Counts). m.relocs) lent.room))
          ∙ (λ d. accepted (record { pieces = sym written d; symbols = sym (symbols_same made.symbols ∙ entries ok) d; relocs = sym moved d }));
      beside = record {
        counted = subst (λ (l : List ℕ). CountedIn l after) (sym (counts_behind (between ok) gp.new.counts far)) made.counted;
        entered = subst (λ (l : List ℕ). Entries (length a.obj.now.symbols.places.now) l after) (sym chains)
            (record {
              chained = chained_same more.new.chains made.symbols now.chained;
              most = omega (arith, c.requires.0.entered.most, ap (λ (m : Counts). m.symbols) lent.room);
              placed = omega (arith, after.fits.few_pieces, ap (λ (m : Counts). m.pieces) lent.room, c.requires.0.most_pieces);
              long = omega (arith, front ok, c.requires.0.entered.most, ap (λ (m : Counts). m.symbols) lent.room);
              most_symbols = c.requires.0.entered.most_symbols;
            });
        most_pieces = omega (arith, c.requires.0.most_pieces, ap (λ (m : Counts). m.pieces) lent.room);
        most_relocs = omega (arith, c.requires.0.most_relocs, ap (λ (m : Counts). m.relocs) lent.room);
        long = omega (arith, c.requires.0.long, behind);
      };
      lent = lent;
    }

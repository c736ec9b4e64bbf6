-- A line written at the cursor that was sought is the next line of the listing, and the cursor behind it is one of the run again. `rest_shorter`: so what is left
-- falls with each line, and a loop over the lines ends. Assumes nothing.
use mathlib.Core.Path.{◌≡◌, refl, sym, ap, ap₂, subst, ◌∙◌}
use mathlib.Core.List.{List, [], ◌∷◌, ◌++◌, map, append-nil}
use mathlib.Core.Bool.{true}
use Prim.Native.Nat.{ℕ, zero, suc, ◌+◌, ◌*◌, ◌≤◌, ◌<◌}
use native.Mathlib.Omega.{arith}
use borrow.Author.Tests.{lt-ltb, ltb-true}
use lib.ListN.{length, get_or, take, length-append, length-map, length-take}
use Rattle.lists.proofs.Rows.{length-tabulate}
use Rattle.obj.specs.Records.{unit_at}
use Rattle.units.specs.Units.{unit_names}
use Rattle.pieces.specs.Pieces.{piece_at, symbol_at, reloc_at, pieces_in, symbols_in, relocs_in, piece_width}
use Rattle.lines.specs.Lines.{line, unit_line, total_line, Written}
use Rattle.listing.specs.declared.Cursor.{Cursor}
use Rattle.listing.specs.declared.Cursor.TheVariants.{Units, Pieces, Symbols, Relocs, Total, Done}
use Rattle.listing.specs.declared.Line.{Line}
use Rattle.std.specs.Prelude.{Option, Some, None}
use Rattle.listing.specs.Listing.{Run, figure}
use Rattle.listing.specs.Cursor.{rest, most, Valid, Before, goes_on, piece_is, symbol_is, reloc_is, Sought, piece_text, symbol_text, reloc_text, Wrote, Next, NextLine}
use Rattle.listing.specs.Tables.{Tables, Readable, run_of}
use Rattle.listing.proofs.First.{listed}
use Rattle.listing.proofs.Rest.{unit_step, piece_step, symbol_step, reloc_step}

-- a line is not empty
behind_some : (s : List ℕ) (x : ℕ) (l : List ℕ) → 0 < length (s ++ (x ∷ l))
behind_some s x l = let e = length-append s (x ∷ l) in omega arith

line-some : (fields : List (List ℕ)) → 0 < length (line fields)
unfolding line
line-some [] = omega arith
line-some (field ∷ []) = behind_some field 10 []
line-some (field ∷ next ∷ fields) = behind_some field 32 (line (next ∷ fields))

-- a mapped list's element
mapped : (f : ℕ → ℕ) (l : List ℕ) (k : ℕ) → k < length l → get_or (map f l) k 0 ≡ f (get_or l k 0)
mapped f [] k h = absurd (omega arith)
mapped f (x ∷ l) zero h = refl
mapped f (x ∷ l) (suc k) h = mapped f l k (omega arith)

-- what is left falls with each line
pub rest_shorter : (t : Run) (c : Cursor) {before after : List ℕ} {r : Line} → Next t c before after r → 208 ≤ length before → goes_on c ≡ true
    → length (rest t r.next) < length (rest t c)
rest_shorter t c {before} {after} {r} n h g =
    let e = ap length n.is in
    let a = length-append (take r.length after) (rest t r.next) in
    let b = length-take r.length after in
    let k = ltb-true 0 r.length (n.goes ∙ g) in
    let f = n.few in
    let l = n.long in
    omega arith

-- the tables are those that can be read
module _ {t : Tables} (known : Readable t) {c ready : Cursor}
    (q : Sought (length t.units.places) (pieces_in t.pieces.bytes t.pieces.count) (symbols_in t.piece_symbols.bytes t.piece_symbols.count)
    (relocs_in t.piece_relocs.bytes t.piece_relocs.count) c ready)
  where
    -- the cursor that was sought, by its kind
    found : {to : Cursor} → ready ≡ to
        → Sought (length t.units.places) (pieces_in t.pieces.bytes t.pieces.count) (symbols_in t.piece_symbols.bytes t.piece_symbols.count)
        (relocs_in t.piece_relocs.bytes t.piece_relocs.count) c to
    found e =
        subst
        (Sought (length t.units.places) (pieces_in t.pieces.bytes t.pieces.count) (symbols_in t.piece_symbols.bytes t.piece_symbols.count)
        (relocs_in t.piece_relocs.bytes t.piece_relocs.count) c)
        e q

    units_long : length (unit_names t.units.bytes t.units.places) ≡ length t.units.places
    units_long = length-map t.units.places (λ (at : ℕ). (unit_at t.units.bytes at).name)

    same : {to : Cursor} → ready ≡ to → rest (run_of t) c ≡ rest (run_of t) to
    same e = (found e).same (run_of t).name (run_of t).symbol (run_of t).reloc (run_of t).units units_long

    moved : {before after : List ℕ} {r : Line} → Next (run_of t) ready before after r → Next (run_of t) c before after r
    moved n = record { is = same refl ∙ n.is; valid = n.valid; goes = n.goes ∙ q.goes; few = n.few; long = n.long }

    -- the line at the cursor that was sought is the next one
    pub next_sought : (before after : List ℕ) (r : Option Line) → NextLine (run_of t) ready before after r → NextLine (run_of t) c before after r
    next_sought before after None n = moved n
    next_sought before after (Some w) n = (moved n.0, n.1)

    -- ---- what the functions ask

    pub unit_ready : {unit bytes : ℕ} → ready ≡ Units unit bytes → unit < length t.units.places
    unit_ready e = (found e).ready

    pub unit_before : {unit bytes : ℕ} → ready ≡ Units unit bytes → Before (length t.units.places) unit bytes
    unit_before e = (found e).valid

    pub piece_ready : {unit at bytes : ℕ} → ready ≡ Pieces unit at bytes → at < t.pieces.count
    unfolding pieces_in
    piece_ready e = let h = (found e).ready.0 in let k = length-tabulate (λ (i : ℕ). piece_at t.pieces.bytes (piece_width * i)) 0 t.pieces.count in omega arith

    pub symbol_ready : {unit at bytes : ℕ} → ready ≡ Symbols unit at bytes → at < t.piece_symbols.count
    unfolding symbols_in
    symbol_ready e =
        let h = (found e).ready.0 in
        let k = length-tabulate (λ (i : ℕ). symbol_at t.piece_symbols.bytes (12 * i)) 0 t.piece_symbols.count in
        omega arith

    pub reloc_ready : {unit at bytes : ℕ} → ready ≡ Relocs unit at bytes → at < t.piece_relocs.count
    unfolding relocs_in
    reloc_ready e =
        let h = (found e).ready.0 in
        let k = length-tabulate (λ (i : ℕ). reloc_at t.piece_relocs.bytes (8 * i)) 0 t.piece_relocs.count in
        omega arith

    -- ---- the line

    module _ {before after : List ℕ} {r : Line} where
      finish : {text : List ℕ} {behind to : Cursor} → ready ≡ to → goes_on to ≡ true → rest (run_of t) to ≡ text ++ rest (run_of t) behind → 0 < length text
          → Valid (length t.units.places) behind → Wrote before after text behind r → Next (run_of t) c before after r × (0 < r.length)
      finish {text} {behind} {to} e g step some v w = let more : 0 < r.length = let k = w.written.end in omega arith in (
        record {
          is = same e ∙ step ∙ ap₂ (λ (a b : List ℕ). a ++ b) (sym w.written.is) (ap (rest (run_of t)) (sym w.next));
          valid = subst (λ (n : ℕ). Valid n r.next) (sym units_long) (subst (Valid (length t.units.places)) (sym w.next) v);
          goes = lt-ltb 0 r.length more ∙ sym g ∙ (found e).goes;
          few = w.written.few;
          long = w.written.long;
        },
        more,
      )

      pub next_unit : (unit bytes : ℕ) → ready ≡ Units unit bytes
          → figure (run_of t) unit ≤ most
          → Wrote before after
          (unit_line unit ((run_of t).name (unit_at t.units.bytes (get_or t.units.places unit 0)).name)
          (figure (run_of t) unit))
          (Pieces unit 0 (bytes + figure (run_of t) unit)) r
          → Next (run_of t) c before after r × (0 < r.length)
      next_unit unit bytes e small w =
          finish e refl
          (unit_step (run_of t) unit bytes (let h = (found e).ready in let k = units_long in omega arith)
          ∙ ap
          (λ (n : ℕ).
          unit_line unit ((run_of t).name n) (figure (run_of t) unit)
          ++ rest (run_of t) (Pieces unit 0 (bytes + figure (run_of t) unit)))
          (mapped (λ (at : ℕ). (unit_at t.units.bytes at).name) t.units.places unit (found e).ready))
          (line-some _)
          (record { inside = (found e).ready; few = let h = (found e).valid.few in omega arith })
          w

      pub next_piece : (unit at bytes : ℕ) → ready ≡ Pieces unit at bytes
          → Wrote before after (piece_text (run_of t).name (piece_at t.pieces.bytes (piece_width * at))) (Pieces unit (at + 1) bytes) r → Next (run_of t) c before after r × (0 < r.length)
      unfolding pieces_in
      next_piece unit at bytes e w =
          let d = piece_at t.pieces.bytes (piece_width * at) in
          finish e refl
          (piece_step (run_of t) unit at bytes d (found e).ready.0 ((found e).ready.1 d)
          ∙ ap (λ p. piece_text (run_of t).name p ++ rest (run_of t) (Pieces unit (at + 1) bytes))
          (listed (piece_is unit) (λ (i : ℕ). piece_at t.pieces.bytes (piece_width * i)) t.pieces.count 0 at d (piece_ready e)))
          (line-some _) (found e).valid w

      pub next_symbol : (unit at bytes : ℕ) → ready ≡ Symbols unit at bytes
          → Wrote before after
          (symbol_text (run_of t).name (run_of t).symbol (pieces_in t.pieces.bytes t.pieces.count) (symbol_at t.piece_symbols.bytes (12 * at)))
          (Symbols unit (at + 1) bytes) r
          → Next (run_of t) c before after r × (0 < r.length)
      unfolding symbols_in
      next_symbol unit at bytes e w =
          let d = symbol_at t.piece_symbols.bytes (12 * at) in
          finish e refl
          (symbol_step (run_of t) unit at bytes d (found e).ready.0 ((found e).ready.1 d)
          ∙ ap
          (λ y.
          symbol_text (run_of t).name (run_of t).symbol (pieces_in t.pieces.bytes t.pieces.count) y
          ++ rest (run_of t) (Symbols unit (at + 1) bytes))
          (listed (symbol_is unit) (λ (i : ℕ). symbol_at t.piece_symbols.bytes (12 * i)) t.piece_symbols.count 0 at d (symbol_ready e)))
          (line-some _) (found e).valid w

      pub next_reloc : (unit at bytes : ℕ) → ready ≡ Relocs unit at bytes
          → Wrote before after
          (reloc_text (run_of t).reloc (pieces_in t.pieces.bytes t.pieces.count) (reloc_at t.piece_relocs.bytes (8 * at)))
          (Relocs unit (at + 1) bytes) r
          → Next (run_of t) c before after r × (0 < r.length)
      unfolding relocs_in
      next_reloc unit at bytes e w =
          let d = reloc_at t.piece_relocs.bytes (8 * at) in
          finish e refl
          (reloc_step (run_of t) unit at bytes d (found e).ready.0 ((found e).ready.1 d)
          ∙ ap (λ r. reloc_text (run_of t).reloc (pieces_in t.pieces.bytes t.pieces.count) r ++ rest (run_of t) (Relocs unit (at + 1) bytes))
          (listed (reloc_is (pieces_in t.pieces.bytes t.pieces.count) unit) (λ (i : ℕ). reloc_at t.piece_relocs.bytes (8 * i)) t.piece_relocs.count 0
          at d (reloc_ready e)))
          (line-some _) (found e).valid w

    pub next_total : {before after : List ℕ} {long : ℕ} (bytes : ℕ) → ready ≡ Total bytes
        → Written before after (total_line (length t.units.places) t.pieces.count bytes) long
        → Next (run_of t) c before after (record { length = long; next = Done }) × (0 < long)
    unfolding pieces_in
    next_total {before} {after} {long} bytes e w =
        finish e refl (sym (append-nil (rest (run_of t) (Total bytes)))) (line-some _) tt
        (record {
          written =
              subst (λ (l : List ℕ). Written before after l long)
              (ap₂ (λ (a b : ℕ). total_line a b bytes) (sym units_long)
              (sym (length-tabulate (λ (i : ℕ). piece_at t.pieces.bytes (piece_width * i)) 0 t.pieces.count)))
              w;
          next = refl;
        })

    pub next_done : {out : List ℕ} → ready ≡ Done → Next (run_of t) c out out (record { length = 0; next = Done })
    next_done {out} e = record { is = same e; valid = tt; goes = (found e).goes; few = omega arith; long = refl }

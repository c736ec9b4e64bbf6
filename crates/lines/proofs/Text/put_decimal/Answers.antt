-- `lines::Text::put_decimal` meets its contract: the digits that std's kit wrote at the end of the column are the field.
-- Assumes nothing.
use Rattle.std.proofs.Common.{arith, lit<, lit≤}
use Rattle.std.proofs.lemmas.Fmt.{length-decimal-le}
use Rattle.lines.proofs.Digits.{digits_few, column_digits}
use Rattle.lines.proofs.Puts.{adds_as}
use Rattle.lines.proofs.Text.put_decimal.Goals as goal

pub write_digits-first-requires : goal.write_digits-first-requires
write_digits-first-requires c = (length-decimal-le 20 c.args.n (lit< tt) (omega arith) (omega arith), lit≤ tt)

pub returns : goal.returns
returns c =
    let k = digits_few 20 c.args.n in
    adds_as c.args.after (column_digits _ c.args.n _ (omega arith) c.write_digits-first.auto.buf c.write_digits-first.ensures.written) c.put_ended.ensures

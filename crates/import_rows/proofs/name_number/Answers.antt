-- What the index finds is the name's number; a name that it does not find has the count, which the ends of the table tell.
use Rattle.std.proofs.Common.{◌≡◌, ◌∙◌, arith, ap}
use Rattle.std.specs.Prelude.{unwrap_or}
use Rattle.elf.specs.Strings.{string_at}
use Rattle.names.specs.Names.{number_of}
use Rattle.names.proofs.Laws.{number_le}
use Rattle.names.proofs.Indexes.{sought_or}
use Rattle.number_names.specs.Tables.{listed}
use Rattle.number_names.proofs.Laid.{count_back}
use Rattle.import_rows.proofs.name_number.Goals as goal
use Rattle.import_rows.proofs.name_number.Goals.{After-unwrap_or}

number : (c : After-unwrap_or) → c.unwrap_or.result ≡ number_of (listed c.args.names.now) (string_at c.args.strings.now c.args.at)
number c =
    let names = listed c.args.names.now in
    c.unwrap_or.ensures
    ∙ ap (unwrap_or c.find_name.result) (count_back c.args.names.now.known.laid)
    ∙ sought_or names _ _ c.find_name.ensures
    ∙ ap (number_of names) c.string_at-x.ensures

pub overflow_cast-result : goal.overflow_cast-result
overflow_cast-result c = omega (arith, number c, number_le (listed c.args.names.now) (string_at c.args.strings.now c.args.at), c.args.names.now.known.index.few)

pub returns : goal.returns
returns c = number c

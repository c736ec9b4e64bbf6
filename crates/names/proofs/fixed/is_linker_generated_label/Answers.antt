-- A name is compared with the labels of its length, and spells no other.
use Rattle.std.proofs.Common.{arith, sym, refl}
use Rattle.lists.specs.Rows.{keep_if}
use Rattle.names.specs.Fixed.{codes, linker_labels, is_linker_label, of_length}
use Rattle.names.proofs.Spelled.{labelled, no_length, have_lengths}
use Rattle.names.proofs.fixed.is_linker_generated_label.Goals as goal

pub returns-in-6 : goal.returns-in-6
unfolding codes of_length keep_if
returns-in-6 c = labelled c.args.name.now 6 c.is_one_of.ensures c.in-6.is

pub returns-in-7 : goal.returns-in-7
unfolding codes of_length keep_if
returns-in-7 c = labelled c.args.name.now 7 c.is_one_of-in-7.ensures c.in-7.is

pub returns-in-8 : goal.returns-in-8
unfolding codes of_length keep_if
returns-in-8 c = labelled c.args.name.now 8 c.is_one_of-in-8.ensures c.in-8.is

pub returns-in-9 : goal.returns-in-9
unfolding codes of_length keep_if
returns-in-9 c = labelled c.args.name.now 9 c.is_one_of-in-9.ensures c.in-9.is

pub returns-in-10 : goal.returns-in-10
unfolding codes of_length keep_if
returns-in-10 c = labelled c.args.name.now 10 c.is_one_of-in-10.ensures c.in-10.is

pub returns-in-11 : goal.returns-in-11
unfolding codes of_length keep_if
returns-in-11 c = labelled c.args.name.now 11 c.is_one_of-in-11.ensures c.in-11.is

pub returns-in-12 : goal.returns-in-12
unfolding codes of_length keep_if
returns-in-12 c = labelled c.args.name.now 12 c.is_one_of-in-12.ensures c.in-12.is

pub returns-in-13 : goal.returns-in-13
unfolding codes of_length keep_if
returns-in-13 c = labelled c.args.name.now 13 c.is_one_of-in-13.ensures c.in-13.is

pub returns-in-14 : goal.returns-in-14
unfolding codes of_length keep_if
returns-in-14 c = labelled c.args.name.now 14 c.is_one_of-in-14.ensures c.in-14.is

pub returns-in-15 : goal.returns-in-15
unfolding codes of_length keep_if
returns-in-15 c = labelled c.args.name.now 15 c.is_one_of-in-15.ensures c.in-15.is

pub returns-in-16 : goal.returns-in-16
unfolding codes of_length keep_if
returns-in-16 c = labelled c.args.name.now 16 c.is_one_of-in-16.ensures c.in-16.is

pub returns-in_default : goal.returns-in_default
unfolding is_linker_label have_lengths codes
returns-in_default c = sym (no_length 6 16 linker_labels c.args.name.now refl (λ low high. omega arith))

-- A kept offset has its string among the names, and one that is entered may be kept.
use Rattle.std.proofs.Common.{◌∙◌, sym, ap}
use Rattle.number_names.specs.Numbers.{enter_name}
use Rattle.number_names.specs.Tables.{room_of}
use Rattle.number_names.proofs.Laws.{entered_as, same_table}
use Rattle.elf_names.proofs.Seen.{seen_there, seen_more, seen_as}
use Rattle.elf_names.proofs.enter_string.Goals as goal

pub returns-then-is_seen : goal.returns-then-is_seen
returns-then-is_seen c = (
  same_table,
  λ held ends₀ bytes₀ h s.
      let a = c.args in
      let there = seen_there (room_of a.names.now) a.strings.now held a.seen.now s a.at (sym c.is_seen.ensures ∙ c.if-is_seen.true) in
      record { entered = record { names = held; is = there; held = h }; right = seen_as a.strings.now a.seen.now held s there },
)

pub returns : goal.returns
returns c = (
  c.enter_name.ensures.0,
  λ held ends₀ bytes₀ h s.
      let a = c.args in
      let t = c.enter_name.new.names in
      record {
        entered =
            entered_as ends₀ bytes₀ t.ends.now t.bytes.now t.heads.now t.chain.now t.count c.enter_name.result
            (ap (enter_name (room_of a.names.now) held) c.string_at.ensures) (c.enter_name.ensures.1 held ends₀ bytes₀ h);
        right = λ more e. seen_more (room_of a.names.now) a.strings.now held a.seen.now s a.at a.slot more e;
      },
)

-- What the index finds is the name's number among the names that stand there. A name more is stored behind them, and then counted: until then they stand as before.
use Rattle.std.proofs.Common.{◌≤◌, [], ◌∷◌, ◌++◌, true, false, refl, arith, length}
use borrow.Author.Tests.{ltb-true, ltb-false}
use Rattle.lists.specs.Rows.{any_of}
use Rattle.names.specs.Names.{number_of}
use Rattle.number_names.proofs.Laws.{held_asked, held_more, held_standing, standing_held, standing_bytes, enter_there, enter_full, enter_new, place_asked, place_free, within_as, short_held, same_table}
use Rattle.number_names.proofs.enter_name.Goals as goal

pub returns-then-is_some : goal.returns-then-is_some
returns-then-is_some c = (
  same_table,
  λ names ends₀ bytes₀ h.
      record { names = names; is = enter_there _ names _ (ltb-true _ _ (held_asked h c.args.x.now c.find_name.result c.known.ensures.0 c.known.ensures.1 c.find_name.ensures c.is_some.ensures true c.if-is_some.true)); held = h },
)

pub overflow_cast-n : goal.overflow_cast-n
overflow_cast-n c = let h = standing_held c.args.names.now.standing in omega (arith, h.counted, h.index.few)

pub returns-then-names-n : goal.returns-then-names-n
unfolding any_of
returns-then-names-n c = (
  same_table,
  λ names ends₀ bytes₀ h.
      let full = enter_full _ names _ (ltb-false _ _ (held_asked h c.args.x.now c.find_name.result c.known.ensures.0 c.known.ensures.1 c.find_name.ensures c.is_some.ensures false c.if-is_some.false)) (place_asked _ _ _ true h c.if-names-n.true) in
      rw c.refuse.ensures (short_held c.args.names.now.count full h),
)

pub invariant_of-names : goal.invariant_of-names
unfolding any_of
invariant_of-names c =
    let t = c.args.names.now in
    let fits = place_free c.args.x.now t.ends.now t.bytes.now t.count.names t.count.used t.most.names t.most.bytes t.room c.if-names-n.false in
    record {
      standing = rw c.put_bytes.ensures (standing_bytes t.standing c.args.x.now fits.bytes_fit);
      room = within_as refl c.put_bytes.auto.out t.room;
    }

pub invariant_of-names-3 : goal.invariant_of-names-3
unfolding any_of
invariant_of-names-3 c =
    let t = c.args.names.now in
    let fits = place_free c.args.x.now t.ends.now t.bytes.now t.count.names t.count.used t.most.names t.most.bytes t.room c.if-names-n.false in
    let h = standing_held t.standing in
    record {
      standing = held_standing (held_more h fits (ltb-false _ _ (held_asked h c.args.x.now c.find_name.result c.known.ensures.0 c.known.ensures.1 c.find_name.ensures c.is_some.ensures false c.if-is_some.false)) c.put_bytes.ensures c.put.ensures c.bucket_of.ensures c.enter.ensures.0 c.enter.ensures.1);
      room = within_as c.put.auto.b c.put_bytes.auto.out t.room;
    }

pub returns : goal.returns
unfolding any_of
returns c = (
  record {
    ends = record { name = refl; size = c.put.auto.b };
    bytes = record { name = refl; size = c.put_bytes.auto.out };
    heads = record { name = refl; size = c.enter.auto.heads };
    chain = record { name = refl; size = c.enter.auto.chain };
    room = refl;
  },
  λ names ends₀ bytes₀ h.
      let t = c.args.names.now in
      let fits = place_free c.args.x.now t.ends.now t.bytes.now t.count.names t.count.used t.most.names t.most.bytes t.room c.if-names-n.false in
      let new : length names ≤ number_of names c.args.x.now = ltb-false _ _ (held_asked h c.args.x.now c.find_name.result c.known.ensures.0 c.known.ensures.1 c.find_name.ensures c.is_some.ensures false c.if-is_some.false) in
      record {
        names = names ++ (c.args.x.now ∷ []);
        is = enter_new _ names _ new (place_asked _ _ _ false h c.if-names-n.false);
        held = held_more h fits new c.put_bytes.ensures c.put.ensures c.bucket_of.ensures c.enter.ensures.0 c.enter.ensures.1;
      },
)

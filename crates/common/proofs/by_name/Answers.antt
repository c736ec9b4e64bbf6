-- `common::by_name` meets its contract: the first of the name, and whether there is a second. Assumes nothing.
use native.Mathlib.Omega.{arith}
use lib.ListN.{length}
use Rattle.common.specs.Sections.{has_bss_name}
use Rattle.common.proofs.Laws.{bss_none, bss_many, bss_one}
use Rattle.common.proofs.by_name.Goals as goal

pub returns-in_default : goal.returns-in_default
returns-in_default c =
    let a = c.args in
    let p = has_bss_name a.sections.now.names a.sections.now.heads in
    bss_none p (length a.sections.now.heads.places.now) c.next_bss.result c.next_bss.ensures c.in_default.is

pub returns-in-Some-second : goal.returns-in-Some-second
returns-in-Some-second c =
    let a = c.args in
    let p = has_bss_name a.sections.now.names a.sections.now.heads in
    bss_many p (length a.sections.now.heads.places.now) c.next_bss.result c.next_bss.ensures c.in-Some.first c.in-Some.is c.next_bss-second.result c.next_bss-second.ensures _ c.in-Some-second.is

pub returns-in-None : goal.returns-in-None
returns-in-None c =
    let a = c.args in
    let p = has_bss_name a.sections.now.names a.sections.now.heads in
    bss_one p (length a.sections.now.heads.places.now) c.next_bss.result c.next_bss.ensures c.in-Some.first c.in-Some.is c.next_bss-second.result c.next_bss-second.ensures c.in-None.is

pub overflow_add-first : goal.overflow_add-first
overflow_add-first c = let h = (c.next_bss.ensures.there c.in-Some.first c.in-Some.is).0 in omega arith

pub next_bss-second-requires : goal.next_bss-second-requires
next_bss-second-requires c = let h = (c.next_bss.ensures.there c.in-Some.first c.in-Some.is).0 in omega arith

-- A name with a place before the names of nodes is not the name of a node.
use Rattle.std.proofs.Common.{◌≡◌, ◌∙◌, true, false, ap, sym, arith}
use Rattle.std.specs.Prelude.{nat_le}
use Rattle.std.proofs.lemmas.Bool.Decides.{nat_tests}
use Rattle.lb_static.proofs.NodePlaces.{later, later_place, later_found}
use Rattle.lb_static.proofs.globals.Globals.node_place.Goals as goal

pub returns-in-Some : goal.returns-in-Some
returns-in-Some c =
    let here = c.args.self.now in
    let behind : nat_le here.constants c.in-Some.place ≡ true =
    grind (arith, nat_tests, c.if-place-self.true) in
    sym (later_found here.constants c.in-Some.place true behind)
    ∙ ap (later here.constants) c.in-Some.ensures.value
    ∙ later_place c.args.name.now here.constants here.names c.in-Some.ensures.once

pub returns-in_default : goal.returns-in_default
returns-in_default c =
    let here = c.args.self.now in
    let before : nat_le here.constants c.in-Some.place ≡ false =
    grind (arith, nat_tests, c.if-place-self.false) in
    sym (later_found here.constants c.in-Some.place false before)
    ∙ ap (later here.constants) c.in-Some.ensures.value
    ∙ later_place c.args.name.now here.constants here.names c.in-Some.ensures.once

pub returns-in_default-2 : goal.returns-in_default-2
returns-in_default-2 c =
    let here = c.args.self.now in
    ap (later here.constants) (sym c.in_default.is ∙ c.place.ensures.value)
    ∙ later_place c.args.name.now here.constants here.names c.place.ensures.once

use Rattle.std.proofs.Common.{◌≡◌, replicate, set, take, true, false, get_or, subst, arith, rules}
use Rattle.std.proofs.lemmas.List.{take_all}
use Rattle.lb_flat.specs.Programs.{numbers_of}
use Rattle.lb_flat.specs.declared.equation.ElementId.{ElementId}
use Rattle.lb_sim.proofs.MarkedElements.{AreMarked, marked_more, marked_none, numbers_more}
use Rattle.lb_sim.proofs.marks.marked_elements.Goals as goal

abbrev first : ElementId
first = record { 0 = 0 }

pub loop-i-init : goal.loop-i-init
loop-i-init c =
    let is : c.in_ok-marks.marks.items ≡ replicate c.args.size false = search rules in
    marked_none c.in_ok-marks.marks.items c.args.size is

pub loop-i-preserved : goal.loop-i-preserved
loop-i-preserved c =
    let l = c.loop-i in
    let xs = c.args.elements.now in
    let e = (get_or xs l.i first).0 in
    let more = marked_more (numbers_of (take l.i xs)) l.marks.items c.args.size e
    (c.requires l.i first c.loop-i-test.true) l.invariant in
    subst (λ is. AreMarked is (set l.marks.items e true) c.args.size)
    (numbers_more xs l.i first c.loop-i-test.true) more

pub returns-clause-as_long : goal.returns-clause-as_long
returns-clause-as_long c = c.loop-i.invariant.as_long

pub returns-clause-marked : goal.returns-clause-marked
returns-clause-marked c =
    let l = c.loop-i in
    (subst (λ xs. AreMarked (numbers_of xs) l.marks.items c.args.size)
    (take_all l.i c.args.elements.now (omega (arith, c.loop-i-test.false))) l.invariant).marked

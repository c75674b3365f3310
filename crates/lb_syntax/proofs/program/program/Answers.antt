use Rattle.std.proofs.Common.{◌≡◌, ◌+◌, ◌-◌, ◌<◌, ◌∙◌, ap, sym, length, rules, arith}
use Rattle.std.proofs.lemmas.Bool.Decides.{nat_tests}
use Rattle.std.proofs.lemmas.Grind.{common_steps}
use Rattle.lb_syntax.specs.Parts.{view_part}
use Rattle.lb_syntax.specs.SourceView.{view_source}
use Rattle.lb_syntax.specs.Tree.{Source}
use Rattle.lb_syntax.proofs.PartTurns.{left, source_begins, part_ends, part_grows, part_fails}
use Rattle.lb_syntax.proofs.PartTurns.{part_stops}
use Rattle.lb_syntax.proofs.program.program.Goals as goal

pub loop-turn-init : goal.loop-turn-init
loop-turn-init c =
    let e = source_begins c.args.tokens.now in
    let a = c.new.ensures.items in
    let b = c.new-2.ensures.items in
    rw (a, b) e

pub returns-then-is_empty : goal.returns-then-is_empty
returns-then-is_empty c =
    let t = c.loop-turn in
    let none : length t.rest.now ≡ 0 = grind (arith, nat_tests) in
    part_ends _ (length c.args.tokens.now) t._turn (view_source t.source) t.rest.now
    t.invariant none

pub returns-in_err-part : goal.returns-in_err-part
returns-in_err-part c =
    let t = c.loop-turn in
    let some : 0 < length t.rest.now = grind (arith, nat_tests) in
    let f = part_fails _ (length c.args.tokens.now) t._turn (view_source t.source) t.rest.now
    t.invariant
    c.in_err-part.field-0.0 c.loop-turn-test.true some c.in_err-part.ensures in
    first_of (search rules, grind (arith, common_steps))

pub loop-turn-preserved : goal.loop-turn-preserved
loop-turn-preserved c =
    let t = c.loop-turn in
    let n = length c.args.tokens.now in
    let after = c.in_ok-part.after.now in
    let some : 0 < length t.rest.now = grind (arith, nat_tests) in
    part_grows _ n t._turn (view_source t.source) t.rest.now t.invariant
    c.loop-turn-test.true some (view_part c.in_ok-part.part) after c.in_ok-part.ensures
    ∙ ap (λ (s : Source). left s after (n - (t._turn + 1))) (sym c.in_ok-add.ensures)

pub returns-then-is_empty-2 : goal.returns-then-is_empty-2
returns-then-is_empty-2 c =
    let t = c.loop-turn in
    let none : length t.rest.now ≡ 0 = grind (arith, nat_tests) in
    part_ends _ (length c.args.tokens.now) t._turn (view_source t.source) t.rest.now
    t.invariant none

pub returns-else-is_empty-2 : goal.returns-else-is_empty-2
returns-else-is_empty-2 c =
    let t = c.loop-turn in
    let some : 0 < length t.rest.now = grind (arith, nat_tests) in
    part_stops _ (length c.args.tokens.now) t._turn (view_source t.source) t.rest.now t.invariant
    c.loop-turn-test.false some

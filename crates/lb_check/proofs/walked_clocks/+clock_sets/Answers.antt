use Rattle.lb_check.proofs.Words.{OneClock, [], ap, both, row_clock_set, rules, variable_of, ◌++◌}
use Rattle.lb_check.proofs.{Words.{◌∙◌, ◌≡◌}, clocking.WalkedClocks.{row_end, row_more, row_start}}
use Rattle.lb_check.proofs.clocking.WalkedClocks.{row_walked_at, walked_at, walked_call}
use Rattle.lb_check.proofs.clocking.WalkedClocks.{walked_choice, walked_current, walked_free}
use Rattle.lb_check.proofs.clocking.WalkedClocks.{walked_pair, walked_plain, walked_row}
use Rattle.lb_check.{proofs.clocking.WalkedClocks.walked_variable, specs.StoredClocks.context_in}
use Rattle.lb_check.proofs.walked_clocks.+clock_sets.Goals as goal

-- ## Rows

pub walk_all-loop-seen-init : goal.walk_all-loop-seen-init
walk_all-loop-seen-init t c =
    let none : c.new-operands.result.items ≡ [] = first_of (cc, search rules) in
    row_start (context_in c.args.env.now) c.args.terms.now c.args.known.now.items
    c.new-operands.result.items none

pub walk_all-loop-seen-preserved : goal.walk_all-loop-seen-preserved
walk_all-loop-seen-preserved t c =
    let l = c.loop-seen in
    let e = c.index-terms-terms in
    row_more (context_in c.args.env.now) c.args.terms.now c.args.known.now.items l.seen
    l.known.items c.walk.new.known.items l.operands.items c.push.new.self.items e.result
    c.in_ok-walk.field-0 c.variable_of.result c.loop-seen-test.true e.is l.invariant
    c.in_ok-walk.ensures c.variable_of.ensures c.in_ok-push.ensures.items

pub walk_all-returns : goal.walk_all-returns
walk_all-returns t c =
    let l = c.loop-seen in
    row_end (context_in c.args.env.now) c.args.terms.now c.args.known.now.items l.seen
    l.known.items l.operands.items c.turned.result.items c.loop-seen-test.false l.invariant
    c.turned.ensures

-- ## Terms

pub walk-returns-in-Literal : goal.walk-returns-in-Literal
walk-returns-in-Literal t c =
    walked_free (context_in c.args.env.now) c.args.known.now.items c.args.term.now c.in-Literal.is

pub walk-returns-in-Literal-2 : goal.walk-returns-in-Literal-2
walk-returns-in-Literal-2 t c =
    walked_free (context_in c.args.env.now) c.args.known.now.items c.args.term.now c.in-Literal.is

pub walk-returns-in-Literal-3 : goal.walk-returns-in-Literal-3
walk-returns-in-Literal-3 t c =
    walked_free (context_in c.args.env.now) c.args.known.now.items c.args.term.now c.in-Literal.is

pub walk-returns-in-Variable : goal.walk-returns-in-Variable
walk-returns-in-Variable t c =
    walked_variable (context_in c.args.env.now) c.args.known.now.items c.args.term.now
    c.in-Variable.x _ c.in-Variable.is (ap OneClock c.variable.ensures)

pub walk-returns-in_ok-walk-in-Group : goal.walk-returns-in_ok-walk-in-Group
walk-returns-in_ok-walk-in-Group t c =
    let ctx = context_in c.args.env.now in
    walked_plain ctx _ _ _ c.in-Group.e _ _ c.in-Group.is
    (walked_at ctx _ _ _ _ _ c.deref-in-Group.ensures c.in_ok-walk-in-Group.ensures)
    c.unary_clock_set-in-Group.ensures

pub walk-returns-in_ok-push-in-Current : goal.walk-returns-in_ok-push-in-Current
walk-returns-in_ok-push-in-Current t c =
    let ctx = context_in c.args.env.now in
    walked_current ctx _ _ _ _ c.in-Current.e _ _ _ c.in-Current.is
    (walked_at ctx _ _ _ _ _ c.deref.ensures c.in_ok-clock_set-in-Current.ensures)
    (c.variable_of-variable.ensures ∙ ap variable_of c.deref-in-Current.ensures)
    c.in_ok-push-in-Current.ensures.items c.unary_clock_set.ensures

pub walk-returns-in_ok-left-in-Binary : goal.walk-returns-in_ok-left-in-Binary
walk-returns-in_ok-left-in-Binary t c =
    let ctx = context_in c.args.env.now in
    walked_pair ctx _ _ _ _ c.in-Binary.a c.in-Binary.b _ _ _ c.in-Binary.is
    (walked_at ctx _ _ _ _ _ c.deref-in-Binary.ensures c.in_ok-right-in-Binary.ensures)
    (walked_at ctx _ _ _ _ _ c.deref-in-Binary-2.ensures c.in_ok-left-in-Binary.ensures)
    c.both-in-Binary.ensures

pub walk-returns-in_ok-condition-in-If : goal.walk-returns-in_ok-condition-in-If
walk-returns-in_ok-condition-in-If t c =
    let ctx = context_in c.args.env.now in
    let i = c.in-If in
    walked_choice ctx _ _ _ _ _ i.c i.a i.b _ _ _ _ i.is
    (walked_at ctx _ _ _ _ _ c.deref-in-If.ensures c.in_ok-right-in-If.ensures)
    (walked_at ctx _ _ _ _ _ c.deref-in-If-2.ensures c.in_ok-left-in-If.ensures)
    (walked_at ctx _ _ _ _ _ c.deref-in-If-3.ensures c.in_ok-condition-in-If.ensures)
    (c.both-in-If.ensures ∙ ap (both c.in_ok-condition-in-If.condition) c.both.ensures)

pub walk-returns-in_ok-walk_all-in-Array : goal.walk-returns-in_ok-walk_all-in-Array
walk-returns-in_ok-walk_all-in-Array t c =
    let ctx = context_in c.args.env.now in
    walked_row ctx _ _ _ c.in-Array.terms _ _ c.in-Array.is
    (row_walked_at ctx _ _ _ _ _ c.deref-in-Array.ensures.value
    c.in_ok-walk_all-in-Array.ensures)
    (c.row_clock_set.ensures
    ∙ ap (row_clock_set ctx c.args.term.now) c.deref-in-Array-2.ensures.value)

pub walk-returns-in_ok-extend_from_slice-in-Call : goal.walk-returns-in_ok-extend_from_slice-in-Call
walk-returns-in_ok-extend_from_slice-in-Call t c =
    let ctx = context_in c.args.env.now in
    let mid = c.walk_all.new.known.items in
    walked_call ctx _ _ _ _ c.in-Call.field-0 c.in-Call.terms _ _ c.in-Call.is
    (row_walked_at ctx _ _ _ _ _ c.deref-in-Call.ensures.value
    c.in_ok-operands-in-Call.ensures)
    (c.in_ok-extend_from_slice-in-Call.ensures.items
    ∙ ap (λ l. mid ++ l) (c.deref-in-Call-3.ensures.value ∙ c.turned.ensures))
    (c.row_clock_set-clock_set.ensures
    ∙ ap (row_clock_set ctx c.args.term.now) c.deref-in-Call-2.ensures.value)

use Rattle.lb_check.proofs.Words.{length, refl, ap, sym, ◌∙◌, slice_get, slice_get_read, found_in}
use Rattle.lb_check.proofs.Words.{first_broken, context_in, is_resolved_statement_typed, kept_in}
use Rattle.lb_check.proofs.{Words.statement_types, lists.ListPairs.{broken_here, broken_more}}
use Rattle.lb_check.proofs.typing.{SharedTypes.is_there, WalkedTypes.{keeps_moved, keeps_next}}
use Rattle.lb_check.proofs.typing.WalkedTypes.{keeps_nothing}
use Rattle.lb_check.proofs.judged_types.first_ill_typed_statement.Goals as goal

pub loop-j-preserved-then-is_settled : goal.loop-j-preserved-then-is_settled
loop-j-preserved-then-is_settled c =
    let ctx = context_in c.args.env.now in
    let typed = is_resolved_statement_typed ctx in
    let l = c.loop-j in
    let all = c.deref-statement-items.result.now in
    let st = c.statement-item.result in
    let lt = c.loop-j-test.true in
    let is = c.statement-item.is in
    let mid = kept_in l.parts in
    let more = found_in l.found in
    record {
      first =
          broken_more typed (first_broken typed all) all l.j st l.invariant.first lt is
          (c.requires.settled l.j st
          (is_there (slice_get c.args.settled.now l.j)
          (sym c.is_settled.ensures ∙ c.if-is_settled.true))
          (ap (λ b. slice_get b l.j) (sym c.deref-statement-items.ensures.value)
          ∙ slice_get_read all (length all) l.j st refl lt is));
      kept =
          keeps_next (statement_types ctx) all l.j st lt is (kept_in c.args.parts.now) mid mid
          (found_in c.args.found.now) more more l.invariant.kept
          (keeps_nothing (statement_types ctx st) mid more l.invariant.kept.0 c.if-parts-eq0.true);
    }

pub loop-j-preserved : goal.loop-j-preserved
loop-j-preserved c =
    let ctx = context_in c.args.env.now in
    let typed = is_resolved_statement_typed ctx in
    let l = c.loop-j in
    let all = c.deref-statement-items.result.now in
    let st = c.statement-item.result in
    let lt = c.loop-j-test.true in
    let is = c.statement-item.is in
    let walked = c.in_ok-is_statement_typed.ensures in
    let mid = kept_in l.parts in
    let moved = kept_in c.move_all.new.parts in
    let more = found_in l.found in
    let most = found_in c.move_all.new.found in
    record {
      first =
          broken_more typed (first_broken typed all) all l.j st l.invariant.first lt is
          (sym walked.0 ∙ c.if-not-branch.false);
      kept =
          keeps_next (statement_types ctx) all l.j st lt is (kept_in c.args.parts.now) mid moved
          (found_in c.args.found.now) more most l.invariant.kept
          (keeps_moved (statement_types ctx st) mid (kept_in c.is_statement_typed.new.parts) moved
          more most l.invariant.kept.0 walked.1 c.in_ok-move_all.ensures);
    }

pub returns-then-not-branch-clause-first : goal.returns-then-not-branch-clause-first
returns-then-not-branch-clause-first c =
    let l = c.loop-j in
    broken_here (is_resolved_statement_typed (context_in c.args.env.now))
    c.deref-statement-items.result.now c.args.env.now.node.now.body.items l.j
    c.statement-item.result c.loop-j-test.true c.statement-item.is
    c.deref-statement-items.ensures.value l.invariant.first
    (sym c.in_ok-is_statement_typed.ensures.0 ∙ c.if-not-branch.true)

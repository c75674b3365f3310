use Rattle.lb_check.proofs.Words.{◌≡◌, IfOk, OnOk, ap, sym, subst, ◌∙◌, operands_of, placed_call}
use Rattle.lb_check.proofs.Words.{placed_side, with_terms}
use Rattle.lb_check.specs.{PlacedClocks.found_in, StoredClocks.context_in}
use Rattle.lb_check.proofs.clocking.WalkedClocks.{equation_call, side_group, side_placed}
use Rattle.lb_check.specs.TermClocks as mirror
use Rattle.lb_check.proofs.clock_rules.+place_side.Goals as goal

pub returns-in-Group-clause-placed : goal.returns-in-Group-clause-placed
returns-in-Group-clause-placed t c =
    let ctx = context_in c.args.env.now in
    let lefts = c.args.lefts.now in
    let old = found_in c.args.placed.now in
    subst (λ l. OnOk c.place_side.result (found_in c.place_side.new.placed ≡ with_terms old l))
    (ap (placed_side ctx lefts) c.deref.ensures
    ∙ sym (side_group ctx lefts c.args.right.now c.in-Group.e c.in-Group.is))
    c.place_side.ensures.placed

pub returns-in-Call-clause-kept : goal.returns-in-Call-clause-kept
returns-in-Call-clause-kept t c =
    let ctx = context_in c.args.env.now in
    let lefts = c.args.lefts.now in
    subst (λ b. IfOk c.place_call.result (λ kept. kept ≡ b))
    (ap (mirror.is_called_clocked ctx lefts c.in-Call.call) c.deref-in-Call.ensures.value
    ∙ sym (ap (mirror.is_equation_clocked ctx lefts) c.in-Call.is
    ∙ equation_call ctx lefts c.in-Call.call c.in-Call.terms))
    c.place_call.ensures.kept

pub returns-in-Call-clause-placed : goal.returns-in-Call-clause-placed
returns-in-Call-clause-placed t c =
    let ctx = context_in c.args.env.now in
    let lefts = c.args.lefts.now in
    let callee = ctx.callee c.in-Call.call in
    let old = found_in c.args.placed.now in
    subst (λ l. OnOk c.place_call.result (found_in c.place_call.new.placed ≡ with_terms old l))
    (ap (λ l. placed_call ctx lefts (operands_of ctx l) l callee) c.deref-in-Call.ensures.value
    ∙ sym (ap (placed_side ctx lefts) c.in-Call.is
    ∙ side_placed ctx lefts c.in-Call.call c.in-Call.terms))
    c.place_call.ensures.placed

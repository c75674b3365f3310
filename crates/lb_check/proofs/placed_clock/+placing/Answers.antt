use Rattle.lb_check.proofs.Words
use Words.{Base, IfOk, IsPlaced, [], ap, append_assoc, ap₂, arith, called, determined_clock, drop}
use Words.{drop_all, infer_clock, known_among, known_operands, length, length-map, listed}
use Words.{nested_call, operand_of, operands_of, part, placed_all, placed_each, placed_terms, refl}
use Words.{row_term, slice_get, subst, sym, take, with_terms, ◌++◌, ◌+◌, ◌∙◌, ◌∷◌, ◌≡◌}
use Rattle.lb_check.proofs.clocking.WalkedClocks.{call_placed, called_known, choice_known}
use Rattle.lb_check.proofs.clocking.WalkedClocks.{choice_placed, current_known, current_placed}
use Rattle.lb_check.proofs.clocking.WalkedClocks.{each_next, flat_next, group_known, group_placed}
use Rattle.lb_check.proofs.clocking.WalkedClocks.{leaf_known, leaf_placed, left_end, left_more}
use Rattle.lb_check.proofs.clocking.WalkedClocks.{operand_placed, operands_placed, pair_known}
use Rattle.lb_check.proofs.clocking.WalkedClocks.{placed_as, placed_both, placed_noted, plain_known}
use Rattle.lb_check.proofs.clocking.WalkedClocks.{row_known, row_placed}
use Rattle.lb_check.{proofs.definitions.BrokenRules.if_found, specs.PlacedClocks.call_clocks}
use Rattle.lb_check.specs.PlacedClocks.{current_clock, found_in, with_term}
use Rattle.{lb_check.specs.StoredClocks.context_in, std.proofs.lemmas.List.{drop_at, take_at}}
use Rattle.lb_check.proofs.placed_clock.+placing.Goals as goal

-- ## Rows

pub place_all-loop-term-init : goal.place_all-loop-term-init
place_all-loop-term-init t c =
    let ctx = context_in c.args.env.now in
    let es = c.args.terms.now in
    (λ others is. (is, refl))

pub place_all-loop-term-preserved : goal.place_all-loop-term-preserved
place_all-loop-term-preserved t c =
    let ctx = context_in c.args.env.now in
    let k = c.args.clock in
    let l = c.loop-term in
    let es = c.args.terms.now in
    let e = c.term-item.result in
    left_more _ _ _ _ (placed_all ctx k es) _ (placed_terms ctx k e)
    (placed_all ctx k (drop (l.term-index + 1) es)) (found_in c.args.placed.now) _ _ _ _ _
    l.invariant
    (flat_next (known_operands ctx) es l.term-index e c.loop-term-test.true c.term-item.is)
    (flat_next (placed_terms ctx k) es l.term-index e c.loop-term-test.true c.term-item.is)
    c.in_ok-left.ensures

pub place_all-returns : goal.place_all-returns
place_all-returns t c =
    let ctx = context_in c.args.env.now in
    let l = c.loop-term in
    let es = c.args.terms.now in
    let none : drop l.term-index es ≡ [] = drop_all l.term-index es c.loop-term-test.false in
    left_end _ _ (placed_all ctx c.args.clock es) _ (found_in c.args.placed.now) _ _ _ l.invariant
    (ap (known_among ctx) none) (ap (placed_all ctx c.args.clock) none)

pub place_argument-returns-in-Some : goal.place_argument-returns-in-Some
place_argument-returns-in-Some t c =
    let ctx = context_in c.args.env.now in
    let e = c.args.term.now in
    let old = found_in c.args.placed.now in
    let new = found_in c.place.new.placed in
    subst (λ o. IfOk c.place.result (λ left. IsPlaced (known_operands ctx e)
    (listed (λ k. placed_terms ctx k e) o) old new c.args.known.now left.now))
    (sym c.in-Some.is) c.place.ensures

pub place_argument-returns-in-None : goal.place_argument-returns-in-None
place_argument-returns-in-None t c =
    let ctx = context_in c.args.env.now in
    let e = c.args.term.now in
    let own = known_operands ctx e in
    let known = c.args.known.now in
    let old = found_in c.args.placed.now in
    subst (λ o. IfOk c.place-in-None.result (λ left. IsPlaced own
    (listed (λ k. placed_terms ctx k e) o) old old known left.now))
    (sym c.in-None.is)
    (if_found c.place-in-None.result (λ left. IsPlaced own (placed_terms ctx Base e)
    (found_in c.new-nowhere.result) (found_in c.place-in-None.new.placed) known left.now)
    (λ left. IsPlaced own [] old old known left.now) c.place-in-None.ensures
    (λ left p. λ others is. ((p others is).0, refl)))

pub place_each-loop-i-init : goal.place_each-loop-i-init
place_each-loop-i-init t c =
    let ctx = context_in c.args.env.now in
    let es = c.args.terms.now in
    (λ others is. (is, refl))

pub place_each-loop-i-preserved : goal.place_each-loop-i-preserved
place_each-loop-i-preserved t c =
    let ctx = context_in c.args.env.now in
    let ks = c.args.clocks.now in
    let l = c.loop-i in
    let es = c.args.terms.now in
    let e = c.index-terms-i.result in
    let own = listed (λ k. placed_terms ctx k e) (slice_get ks l.i) in
    let later = placed_each ctx (drop (l.i + 1) ks) (drop (l.i + 1) es) in
    left_more _ _ _ _ (placed_each ctx ks es) _ own later (found_in c.args.placed.now) _ _ _ _ _
    l.invariant
    (flat_next (known_operands ctx) es l.i e c.loop-i-test.true c.index-terms-i.is)
    (each_next ctx ks es l.i e c.loop-i-test.true c.index-terms-i.is)
    (subst (λ o. IsPlaced (known_operands ctx e) (listed (λ k. placed_terms ctx k e) o)
    (found_in l.placed) (found_in c.place_argument.new.placed) l.left.now
    c.in_ok-left.left.now) c.clock_at.ensures c.in_ok-left.ensures)

pub place_each-returns : goal.place_each-returns
place_each-returns t c =
    let ctx = context_in c.args.env.now in
    let l = c.loop-i in
    let es = c.args.terms.now in
    let none : drop l.i es ≡ [] = drop_all l.i es c.loop-i-test.false in
    let ks = c.args.clocks.now in
    left_end _ _ (placed_each ctx ks es) _ (found_in c.args.placed.now) _ _ _ l.invariant
    (ap (known_among ctx) none) (ap (placed_each ctx (drop l.i ks)) none)

-- ## Terms

pub place-returns-in-Group : goal.place-returns-in-Group
place-returns-in-Group t c =
    let ctx = context_in c.args.env.now in
    let term = c.args.term.now in
    let e = c.in-Group.e in
    if_found c.place.result _ _ c.place.ensures
    (λ left p. placed_as _ _ _ _ _ _ _ _
    (group_known ctx term e c.in-Group.is ∙ sym (ap (known_operands ctx) c.deref.ensures))
    (group_placed ctx c.args.clock term e c.in-Group.is
    ∙ sym (ap (placed_terms ctx c.args.clock) c.deref.ensures)) p)

pub place-returns-in_ok-note-in-Literal : goal.place-returns-in_ok-note-in-Literal
place-returns-in_ok-note-in-Literal t c =
    let ctx = context_in c.args.env.now in
    let term = c.args.term.now in
    placed_as _ _ _ _ _ _ _ _ (leaf_known ctx term c.in-Literal.is)
    (leaf_placed ctx c.args.clock term c.in-Literal.is)
    (λ others is. (is, c.in_ok-note-in-Literal.ensures))

pub place-returns-in_ok-note-in-Unary : goal.place-returns-in_ok-note-in-Unary
place-returns-in_ok-note-in-Unary t c =
    let ctx = context_in c.args.env.now in
    let k = c.args.clock in
    let term = c.args.term.now in
    let e = c.in-Unary.e in
    if_found c.place-in-Unary.result _ _ c.place-in-Unary.ensures
    (λ left p. placed_as _ _ _ _ _ _ _ _
    (plain_known ctx term e c.in-Unary.is ∙ sym (ap (known_operands ctx) c.deref-in-Unary.ensures))
    (operand_placed ctx k term e c.in-Unary.is
    ∙ sym (ap₂ (λ z x. part k ∷ placed_terms ctx z x) c.operand_clock.ensures
    c.deref-in-Unary.ensures))
    (placed_noted _ (part k) (placed_terms ctx c.operand_clock.result c.deref-in-Unary.result.now)
    _ _ _ _ _ c.in_ok-note-in-Unary.ensures p))

pub place-returns-in_ok-note-in-Current : goal.place-returns-in_ok-note-in-Current
place-returns-in_ok-note-in-Current t c =
    let ctx = context_in c.args.env.now in
    let k = c.args.clock in
    let term = c.args.term.now in
    let e = c.in-Current.e in
    if_found c.place-in-Current.result _ _ c.place-in-Current.ensures
    (λ left p. placed_as _ _ _ _ _ _ _ _
    (current_known ctx term e c.in-Current.is) (current_placed ctx k term e c.in-Current.is)
    (placed_noted (operand_of ctx e.value ∷ known_operands ctx e.value) (part k)
    (placed_terms ctx (determined_clock (infer_clock ctx e.value)) e.value) _ _ _ _ _
    c.in_ok-note-in-Current.ensures
    (λ others is.
    let first = c.current_clock.ensures ∙ ap current_clock is in
    placed_as _ _ _ _ _ _ _ _ (sym (ap (known_operands ctx) c.deref-in-Current.ensures))
    (sym (ap₂ (placed_terms ctx) first c.deref-in-Current.ensures)) p others
    (c.past.ensures ∙ ap (drop 1) is))))

pub place-returns-in_ok-right-in-Binary : goal.place-returns-in_ok-right-in-Binary
place-returns-in_ok-right-in-Binary t c =
    let ctx = context_in c.args.env.now in
    let k = c.args.clock in
    let term = c.args.term.now in
    let a = c.in-Binary.a in
    let b = c.in-Binary.b in
    let first = placed_terms ctx k c.deref-in-Binary.result.now in
    let second = placed_terms ctx k c.deref-in-Binary-2.result.now in
    if_found c.place-in-Binary-2.result _ _ c.place-in-Binary-2.ensures
    (λ left p. placed_as _ _ _ _ _ _ _ _
    (pair_known ctx term a b c.in-Binary.is
    ∙ sym (ap₂ (λ x y. known_operands ctx x ++ known_operands ctx y) c.deref-in-Binary.ensures
    c.deref-in-Binary-2.ensures))
    (operands_placed ctx k term a b c.in-Binary.is
    ∙ sym (ap₂ (λ x y. part k ∷ (placed_terms ctx k x ++ placed_terms ctx k y))
    c.deref-in-Binary.ensures c.deref-in-Binary-2.ensures))
    (placed_noted _ (part k) (first ++ second) _ _ _ _ _ c.in_ok-note-in-Binary.ensures
    (placed_both _ _ first second (found_in c.note-in-Binary.new.self) _ _ _ _ _
    c.in_ok-right-in-Binary.ensures p)))

pub place-returns-in_ok-right-in-If : goal.place-returns-in_ok-right-in-If
place-returns-in_ok-right-in-If t c =
    let ctx = context_in c.args.env.now in
    let k = c.args.clock in
    let term = c.args.term.now in
    let i = c.in-If in
    let known = known_operands ctx in
    let placed = placed_terms ctx k in
    let first = placed c.deref-in-If.result.now in
    let second = placed c.deref-in-If-2.result.now in
    let third = placed c.deref-in-If-3.result.now in
    if_found c.place-in-If-3.result _ _ c.place-in-If-3.ensures
    (λ left p. placed_as _ _ _ _ _ _ _ _
    (choice_known ctx term i.c i.a i.b i.is
    ∙ sym (ap₂ (λ x l. known x ++ l) c.deref-in-If.ensures
    (ap₂ (λ x y. known x ++ known y) c.deref-in-If-2.ensures c.deref-in-If-3.ensures)))
    (choice_placed ctx k term i.c i.a i.b i.is
    ∙ sym (ap₂ (λ x l. part k ∷ (placed x ++ l)) c.deref-in-If.ensures
    (ap₂ (λ x y. placed x ++ placed y) c.deref-in-If-2.ensures c.deref-in-If-3.ensures)))
    (placed_noted _ (part k) (first ++ (second ++ third)) _ _ _ _ _ c.in_ok-note-in-If.ensures
    (placed_both _ _ first (second ++ third) (found_in c.note-in-If.new.self) _ _ _ _ _
    c.in_ok-left-in-If.ensures
    (placed_both _ _ second third (found_in c.place-in-If.new.placed) _ _ _ _ _
    c.in_ok-right-in-If.ensures p))))

pub place-returns-in_ok-note_row-in-Array : goal.place-returns-in_ok-note_row-in-Array
place-returns-in_ok-note_row-in-Array t c =
    let ctx = context_in c.args.env.now in
    let k = c.args.clock in
    let term = c.args.term.now in
    let es = c.in-Array.terms in
    if_found c.place_all.result _ _ c.place_all.ensures
    (λ left p. placed_as _ _ _ _ _ _ _ _
    (row_known ctx term es c.in-Array.is
    ∙ sym (ap (known_among ctx) c.deref-in-Array.ensures.value))
    (row_placed ctx k term es c.in-Array.is
    ∙ sym (ap (λ l. row_term k term ∷ placed_all ctx k l) c.deref-in-Array.ensures.value))
    (placed_noted _ (row_term k term) (placed_all ctx k c.deref-in-Array.result.now) _ _ _ _ _
    c.in_ok-note_row-in-Array.ensures p))

pub place-returns-in_ok-clocks-in-Call : goal.place-returns-in_ok-clocks-in-Call
place-returns-in_ok-clocks-in-Call t c =
    let ctx = context_in c.args.env.now in
    let k = c.args.clock in
    let term = c.args.term.now in
    let call = c.in-Call.call in
    let es = c.in-Call.terms in
    let known = c.args.known.now in
    let old = found_in c.args.placed.now in
    let os = operands_of ctx es.items in
    let own = known_among ctx es.items in
    if_found c.place_each.result _ _ c.place_each.ensures
    (λ left p. placed_as (os ++ own) _ _ _ _ _ _ _
    (ap (known_operands ctx) c.in-Call.is ∙ called_known ctx call es)
    (ap (placed_terms ctx k) c.in-Call.is ∙ call_placed ctx k call es)
    (λ others is.
    let all = length-map es.items (operand_of ctx) in
    let long : length os ≡ c.len.result = omega (arith, all, c.len.ensures) in
    let more : length os ≡ c.len-in-Call.result = omega (arith, all, c.len-in-Call.ensures) in
    let operands =
    c.part_of-operands.ensures
    ∙ (ap (take c.len.result) (is ∙ append_assoc os own others) ∙ take_at os (own ++ others)
    c.len.result long) in
    let within =
    c.past-in-Call.ensures ∙ (ap (drop c.len-in-Call.result) (is ∙ append_assoc os own others)
    ∙ drop_at os (own ++ others) c.len-in-Call.result more) in
    let first =
    c.in_ok-note_call-in-Call.ensures
    ∙ ap (λ f. with_term old (called k f)) (c.in_ok-found-in-Call.ensures
    ∙ ap (λ l. nested_call k l (ctx.callee call)) operands) in
    let clocks =
    c.deref-in-Call.ensures.value ∙ c.in_ok-clocks-in-Call.ensures
    ∙ ap (call_clocks ctx k call) operands in
    let same = c.deref-in-Call-2.ensures.value in
    let r = p others (within ∙ ap (λ l. known_among ctx l ++ others) (sym same)) in (
      r.0,
      r.1 ∙ ap₂ (λ f l. with_terms f l) first (ap₂ (placed_each ctx) clocks same),
    )))

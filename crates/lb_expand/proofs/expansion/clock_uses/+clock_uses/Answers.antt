use Rattle.lb_expand.proofs.Words.{◌≡◌, ◌++◌, ◌∷◌, ℕ, List, OnOk, refl, sym, ap, ap₂, subst, ◌∙◌}
use Rattle.lb_expand.proofs.Words.{append-nil, Term, whens_in, whens_in_all}
use Rattle.lb_expand.proofs.clock_tables.ServingClocks.{single_whens, group_whens, when_whens}
use Rattle.lb_expand.proofs.clock_tables.ServingClocks.{pair_whens, if_whens, row_whens, leaf_whens}
use Rattle.lb_expand.proofs.clock_tables.ServingClocks.{tail_added}
use Rattle.lb_expand.proofs.numbering.RowInstances.{piece_added}
use Rattle.lb_expand.proofs.expansion.clock_uses.+clock_uses.Goals as goal

pub push_term-returns-in-Literal : goal.push_term-returns-in-Literal
push_term-returns-in-Literal t c =
    let before = c.args.names.now.items in
    sym (ap (λ (ws : List ℕ). before ++ ws) (leaf_whens _ c.in-Literal.is) ∙ append-nil before)

pub push_term-returns-in-Group : goal.push_term-returns-in-Group
push_term-returns-in-Group t c =
    let r = c.push_term in
    subst (λ (ws : List ℕ). OnOk r.result (r.new.names.items ≡ c.args.names.now.items ++ ws)) (ap
    whens_in c.deref.ensures ∙ sym (group_whens _ _ c.in-Group.is)) r.ensures

pub push_term-returns-in_ok-push-in-When : goal.push_term-returns-in_ok-push-in-When
push_term-returns-in_ok-push-in-When t c =
    let r = c.push_term-in-When in
    let e = c.deref-in-When.result.now in
    let all = when_whens _ _ _ _ c.in-When.is ∙ ap (λ (e : Term). c.in-When.x.0 ∷ whens_in e) (sym
    c.deref-in-When.ensures) in
    subst (λ (ws : List ℕ). OnOk r.result (r.new.names.items ≡ ws)) (tail_added _ _ _ _ _
    c.in_ok-push-in-When.ensures.items all) r.ensures

pub push_term-returns-in-Unary : goal.push_term-returns-in-Unary
push_term-returns-in-Unary t c =
    let r = c.push_term-in-Unary in
    subst (λ (ws : List ℕ). OnOk r.result (r.new.names.items ≡ c.args.names.now.items ++ ws)) (ap
    whens_in c.deref-in-Unary.ensures ∙ sym (single_whens _ _ c.in-Unary.is)) r.ensures

pub push_term-returns-in_ok-push_term-in-Binary : goal.push_term-returns-in_ok-push_term-in-Binary
push_term-returns-in_ok-push_term-in-Binary t c =
    let r = c.push_term-in-Binary-2 in
    let a = c.deref-in-Binary.result.now in
    let b = c.deref-in-Binary-2.result.now in
    let all = pair_whens _ _ _ c.in-Binary.is ∙ ap₂ (λ (a b : Term). whens_in a ++ whens_in b) (sym
    c.deref-in-Binary.ensures) (sym c.deref-in-Binary-2.ensures) in
    subst (λ (ws : List ℕ). OnOk r.result (r.new.names.items ≡ ws)) (tail_added _ _ _ _ _
    c.in_ok-push_term-in-Binary.ensures all) r.ensures

pub push_term-returns-in_ok-push_term-in-If-2 : goal.push_term-returns-in_ok-push_term-in-If-2
push_term-returns-in_ok-push_term-in-If-2 t c =
    let r = c.push_term-in-If-3 in
    let a = c.deref-in-If-2.result.now in
    let b = c.deref-in-If-3.result.now in
    let all = if_whens _ _ _ _ c.in-If.is ∙ (ap (λ (e : Term). whens_in e ++ (whens_in
    c.in-If.a.value ++ whens_in c.in-If.b.value)) (sym c.deref-in-If.ensures) ∙ ap₂ (λ (a b : Term).
    whens_in c.deref-in-If.result.now ++ (whens_in a ++ whens_in b)) (sym c.deref-in-If-2.ensures)
    (sym c.deref-in-If-3.ensures)) in
    let rest = tail_added _ _ _ _ _ c.in_ok-push_term-in-If-2.ensures refl in
    subst (λ (ws : List ℕ). OnOk r.result (r.new.names.items ≡ ws)) (rest ∙ tail_added _ _ _ _ _
    c.in_ok-push_term-in-If.ensures all) r.ensures

pub push_term-returns-in-Array : goal.push_term-returns-in-Array
push_term-returns-in-Array t c =
    let r = c.push_terms in
    subst (λ (ws : List ℕ). OnOk r.result (r.new.names.items ≡ c.args.names.now.items ++ ws)) (ap
    whens_in_all c.deref-in-Array.ensures.value ∙ sym (row_whens _ _ c.in-Array.is)) r.ensures

pub push_terms-loop-term-preserved : goal.push_terms-loop-term-preserved
push_terms-loop-term-preserved t c =
    let l = c.loop-term in
    piece_added _ _ _ _ _ _ _ c.loop-term-test.true l.invariant (c.in_ok-push_term.ensures ∙ ap (λ
    (e : Term). l.names.items ++ whens_in e) c.term-item.is)

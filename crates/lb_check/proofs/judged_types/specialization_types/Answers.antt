use Rattle.lb_check.proofs.Words.{ap, subst, sym, ◌∙◌, listed, first_broken, ResolvedNode}
use Rattle.lb_check.proofs.Words.{found_in, kept_in, node_types, is_variable_typed}
use Rattle.lb_check.specs.{PlacedTypes.{AreKept, nothing_found}, TermTypes.context_of}
use Rattle.lb_check.proofs.typing.TypedSpecializations.{all_typed, statement_untyped}
use Rattle.lb_check.proofs.typing.TypedSpecializations.{variable_untyped}
use Rattle.lb_check.proofs.judged_types.specialization_types.Goals as goal

pub returns-in-Some-2 : goal.returns-in-Some-2
returns-in-Some-2 c =
    let r = c.args.reached.now in
    let t = c.args.table.now in
    let s = c.args.specialization.now in
    let n = c.in-Some.node.now in
    variable_untyped r t s n (sym c.in-Some.ensures) c.in-Some-2.i
    (ap (first_broken (is_variable_typed (context_of r t n s))) (sym c.deref.ensures.value)
    ∙ sym c.in_ok-i.ensures ∙ c.in-Some-2.is)

pub first_ill_typed_statement-requires-clause-settled : goal.first_ill_typed_statement-requires-clause-settled
first_ill_typed_statement-requires-clause-settled c =
    c.settled_statements-settled.ensures c.args.reached.now c.in-Some.node.now c.requires.shared
    (sym c.in-Some.ensures)

pub returns-in-Some-3 : goal.returns-in-Some-3
returns-in-Some-3 c =
    statement_untyped c.args.reached.now c.args.table.now c.args.specialization.now
    c.in-Some.node.now (sym c.in-Some.ensures) c.in-Some-3.j
    (sym c.in_ok-j.ensures.first ∙ c.in-Some-3.is)

pub returns-in-None : goal.returns-in-None
returns-in-None c =
    let r = c.args.reached.now in
    let t = c.args.table.now in
    let s = c.args.specialization.now in
    let n = c.in-Some.node.now in
    let ctx = context_of r t n s in
    let at = sym c.in-Some.ensures in
    let before = kept_in c.args.parts.now in
    let after = kept_in c.first_ill_typed_statement.new.parts in
    let more = found_in c.first_ill_typed_statement.new.found in (
      all_typed r t s n at
          (ap (first_broken (is_variable_typed ctx)) (sym c.deref.ensures.value)
          ∙ sym c.in_ok-i.ensures ∙ c.in_default-2.is)
          (sym c.in_ok-j.ensures.first ∙ c.in-None.is),
      subst (λ os. AreKept os before after nothing_found more)
          (sym (ap (listed (λ (m : ResolvedNode). node_types (context_of r t m s) m)) at))
          (subst (λ f. AreKept (node_types ctx n) before after f more) c.none-found.ensures
          (c.in_ok-j.ensures.kept c.in-None.is)),
    )

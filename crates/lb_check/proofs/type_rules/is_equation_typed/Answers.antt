use Rattle.lb_check.proofs.Words.{Option, map, ap, sym, ◌∙◌, option_map, ◌>>=◌, all_some}
use Rattle.lb_check.proofs.Words.{context_in, row_in, are_equal, left_types}
use Rattle.lb_check.specs.{TermSignatures.results_in, declared.signature.TypeRow.TypeRow}
use Rattle.lb_check.proofs.{definitions.BrokenRules.if_found, typing.TermSignatures.met}
use Rattle.lb_check.proofs.type_rules.is_equation_typed.Goals as goal

pub returns-in-Single : goal.returns-in-Single
returns-in-Single c =
    let lefts = left_types (context_in c.args.env.now) c.args.lefts.now in
    let side = c.in_ok-given.ensures in
    if_found c.has_type.result _ _ c.has_type.ensures
    (λ typed e. (
      e ∙ ap (λ rs. are_equal rs lefts) (sym (ap results_in c.in-Single.is) ∙ side.0),
      side.1,
    ))

pub returns-in-Several-Some : goal.returns-in-Several-Some
returns-in-Several-Some c =
    let ctx = context_in c.args.env.now in
    let lefts = left_types ctx c.args.lefts.now in
    let given = row_in c.in-Several-Some.given in
    let side = c.in_ok-given.ensures in
    if_found c.have_types.result _ _ c.have_types.ensures
    (λ typed e. (
      e ∙ sym (met given (map ctx.variable c.args.lefts.now))
          ∙ ap (λ (o : Option TypeRow). are_equal (option_map row_in o >>= all_some) lefts)
          (sym c.in-Several-Some.field-0-is)
          ∙ ap (λ rs. are_equal rs lefts) (sym (ap results_in c.in-Several-Some.is) ∙ side.0),
      side.1,
    ))

pub returns-in-Several-None : goal.returns-in-Several-None
returns-in-Several-None c =
    let lefts = left_types (context_in c.args.env.now) c.args.lefts.now in
    let side = c.in_ok-given.ensures in (
      ap (λ (o : Option TypeRow). are_equal (option_map row_in o >>= all_some) lefts)
          (sym c.in-Several-None.field-0-is)
          ∙ ap (λ rs. are_equal rs lefts) (sym (ap results_in c.in-Several-None.is) ∙ side.0),
      side.1,
    )

use Rattle.std.proofs.Common.{◌+◌, drop, subst, sym}
use Rattle.std.proofs.lemmas.List.{take_rest}
use Rattle.lb_trace.specs.Numbers.{IsSmall}
use Rattle.lb_trace.specs.TruthCells.{GoesOn}
use Rattle.lb_trace.proofs.ShortCells.{all-four, four-on}
use Rattle.lb_trace.proofs.numbers.four_in.Goals as goal

pub values_of-values-requires : goal.values_of-values-requires
values_of-values-requires c =
    all-four IsSmall _ _ _ _ c.in_ok-a.ensures.cell.small c.in_ok-b.ensures.cell.small
    c.in_ok-c.ensures.cell.small c.in_ok-d.ensures.cell.small

pub returns : goal.returns
returns c = λ columns ints.
    let text = c.args.text.now in
    let end = c.in_ok-d.d.end in
    subst (λ rest. GoesOn columns text c.values_of-values.result (drop 4 columns) rest)
    (sym (take_rest text (end + 1)))
    (subst (λ vs. GoesOn columns text vs (drop 4 columns) (drop (end + 1) text))
    (sym c.values_of-values.ensures)
    (four-on _ _ _ _ _ _ _ _ _ _ ints c.in_ok-a.ensures.cell c.in_ok-b.ensures.cell
    c.in_ok-c.ensures.cell c.in_ok-d.ensures.cell))

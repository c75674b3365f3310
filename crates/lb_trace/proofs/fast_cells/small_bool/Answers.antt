use Rattle.std.proofs.Common.{rules, sym}
use Rattle.lb_syntax.specs.declared.tree.Kind.TheVariants as kind
use Rattle.lb_trace.proofs.SmallNumbers.{begins-stored, bool-ended}
use Rattle.lb_trace.proofs.fast_cells.small_bool.Goals as goal

pub returns-clause-begins : goal.returns-clause-begins
returns-clause-begins c =
    begins-stored kind.Bool c.args.text.now _ c.bit_of.result c.in_ok-is_last.is_last (search rules)
    (bool-ended c.args.text.now c.bit_of.result c.in_ok-is_last.is_last c.in-len2-up.len_at_least
    (sym c.if-not-is_bit.ensures) c.bit_of.ensures
    c.in_ok-is_last.ensures)

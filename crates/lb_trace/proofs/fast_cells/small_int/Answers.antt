use Rattle.std.proofs.Common.{rules, refl}
use Rattle.lb_syntax.specs.declared.tree.Kind.TheVariants as kind
use Rattle.lb_trace.proofs.Fronts.{sign-past}
use Rattle.lb_trace.proofs.SmallNumbers.{begins-stored, int-either}
use Rattle.lb_trace.proofs.fast_cells.small_int.Goals as goal

pub any_number-requires : goal.any_number-requires
any_number-requires c =
    sign-past _ c.args.text.now c.after_sign-digits.result.now c.after_sign-digits.ensures

pub returns : goal.returns
returns c =
    let number = c.in_ok-number.number in
    begins-stored kind.Int c.args.text.now number.rest.now c.signed.result number.is_last
    (search rules)
    (int-either c.args.text.now c.after_sign-digits.result.now number.rest.now _ number.value
    c.signed.result number.is_last c.in-len1-up.len_at_least refl c.after_sign-digits.ensures
    c.in_ok-number.ensures c.signed.ensures)

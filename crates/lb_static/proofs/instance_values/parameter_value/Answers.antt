-- The names before the place that is found differ from the name.
use Rattle.std.proofs.Common.{◌∙◌, sym, ap}
use Rattle.std.specs.Str.{bytes_eq}
use Rattle.lb_static.proofs.Parameters.{value_missed, value_passed, value_read}
use Rattle.lb_static.proofs.instance_values.parameter_value.Goals as goal

pub returns-then-eq : goal.returns-then-eq
returns-then-eq c =
    let tested = ap (λ x. bytes_eq x c.args.name.now) (sym c.as_str.ensures) ∙ sym c.eq.ensures
    ∙ c.if-eq.true in
    value_read c.args.name.now c.args.parameters.now c.args.values.now c.loop-place.place
    c.index-parameters-place.result c.get.result c.copied.result c.loop-place-test.true
    c.index-parameters-place.is tested c.get.ensures.lookup.3 c.copied.ensures
    c.loop-place.invariant

pub loop-place-preserved : goal.loop-place-preserved
loop-place-preserved c =
    let tested = ap (λ x. bytes_eq x c.args.name.now) (sym c.as_str.ensures) ∙ sym c.eq.ensures
    ∙ c.if-eq.false in
    value_passed c.args.name.now c.args.parameters.now c.args.values.now c.loop-place.place
    c.index-parameters-place.result c.loop-place-test.true c.index-parameters-place.is tested
    c.loop-place.invariant

pub returns : goal.returns
returns c = value_missed c.args.name.now c.args.parameters.now c.args.values.now c.loop-place.place
    c.loop-place-test.false c.loop-place.invariant

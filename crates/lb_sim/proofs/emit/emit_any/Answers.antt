use Rattle.std.proofs.Common.{rules, arith}
use Rattle.std.proofs.lemmas.Result.{IfOk-weaker}
use Rattle.lb_sim.proofs.LatestArms.{latest_emitted}
use Rattle.lb_sim.proofs.OperationArms.{input_emitted, copy_emitted}
use Rattle.lb_sim.proofs.Returned.{few_more}
use Rattle.lb_sim.proofs.emit.emit_any.Goals as goal

pub returns-in-Input-clause-emitted : goal.returns-in-Input-clause-emitted
returns-in-Input-clause-emitted c = λ kind.
    input_emitted c.args.code.now c.args.places.now c.args.inputs.now c.args.constant c.args.kept
    c.args.operation c.in-Input.j kind c.input.result c.in-Input.is c.input.ensures.holding

pub returns-in-Copy-clause-emitted : goal.returns-in-Copy-clause-emitted
returns-in-Copy-clause-emitted c = λ kind.
    copy_emitted c.args.code.now c.args.places.now c.args.inputs.now c.args.constant c.args.kept
    c.args.operation c.in-Copy.a c.holding-in-Copy.result kind c.in-Copy.is
    c.holding-in-Copy.ensures.holding

pub one_holding-requires-clause-operand : goal.one_holding-requires-clause-operand
one_holding-requires-clause-operand c =
    c.holding.ensures.within c.args.code.now c.requires.places

pub two_holdings-requires-clause-left : goal.two_holdings-requires-clause-left
two_holdings-requires-clause-left c =
    c.holding-in-ApplyBinary.ensures.within c.args.code.now c.requires.places

pub two_holdings-requires-clause-right : goal.two_holdings-requires-clause-right
two_holdings-requires-clause-right c =
    c.holding-in-ApplyBinary-2.ensures.within c.args.code.now c.requires.places

pub choose-requires-clause-condition : goal.choose-requires-clause-condition
choose-requires-clause-condition c =
    c.holding-condition.ensures.within c.args.code.now c.requires.places

pub choose-requires-clause-left : goal.choose-requires-clause-left
choose-requires-clause-left c =
    c.holding-in-Choose.ensures.within c.args.code.now c.requires.places

pub choose-requires-clause-right : goal.choose-requires-clause-right
choose-requires-clause-right c =
    c.holding-in-Choose-2.ensures.within c.args.code.now c.requires.places

pub first_then-requires-clause-left : goal.first_then-requires-clause-left
first_then-requires-clause-left c =
    c.holding-in-FirstThen.ensures.within c.args.code.now c.requires.places

pub first_then-requires-clause-right : goal.first_then-requires-clause-right
first_then-requires-clause-right c =
    c.holding-in-FirstThen-2.ensures.within c.args.code.now c.requires.places

pub returns-in-ApplyUnary-clause-few : goal.returns-in-ApplyUnary-clause-few
returns-in-ApplyUnary-clause-few c =
    few_more c.one_holding.result c.args.code.now c.one_holding.new.code 2 10 (omega arith)
    c.one_holding.ensures.few

pub returns-in-ApplyBinary-clause-few : goal.returns-in-ApplyBinary-clause-few
returns-in-ApplyBinary-clause-few c =
    few_more c.two_holdings.result c.args.code.now c.two_holdings.new.code 8 10 (omega arith)
    c.two_holdings.ensures.few

pub returns-in-FirstThen-clause-few : goal.returns-in-FirstThen-clause-few
returns-in-FirstThen-clause-few c =
    few_more c.first_then.result c.args.code.now c.first_then.new.code 4 10 (omega arith)
    c.first_then.ensures.few

pub returns-in-Latest-clause-few : goal.returns-in-Latest-clause-few
returns-in-Latest-clause-few c =
    few_more c.pick.result c.args.code.now c.pick.new.code 4 10 (omega arith) c.pick.ensures.few

pub returns-in-Latest-clause-emitted : goal.returns-in-Latest-clause-emitted
returns-in-Latest-clause-emitted c =
    let places = c.args.places.now in
    IfOk-weaker c.pick.result _ _
    (λ h made kind.
    latest_emitted c.pick.new.code places c.args.inputs.now c.args.constant c.args.kept
    c.in-Latest.field-0 c.in-Latest.a _ kind h made (search rules) c.args.operation
    c.in-Latest.is)
    c.pick.ensures.holding

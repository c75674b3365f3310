-- The elaborated program, or the first rule that is broken, from the answers of the parts.
use Rattle.std.proofs.Common.{refl, sym, ap}
use Rattle.std.specs.Prelude.{option_map}
use Rattle.std.proofs.lemmas.Result.{err_from_is_err_and}
use Rattle.lb_static.specs.Elaborated.{elaborated_program, program_of}
use Rattle.lb_static.proofs.StaticRefusals.{name_fault, no_fault, root_fault}
use Rattle.lb_static.proofs.elaboration.elaborate.Goals as goal

pub returns-in_err-reached : goal.returns-in_err-reached
returns-in_err-reached c =
    let P = program_of c.args.source.now c.args.node.now
    (option_map (λ o. o.now) c.args.observer) in
    let p = err_from_is_err_and c.from_residual.result c.from_residual.ensures.1 in
    rw (p.1, p.2) (name_fault P c.in_err-reached.field-0.0 c.in_err-reached.ensures)

pub returns-in_err-table : goal.returns-in_err-table
returns-in_err-table c =
    let P = program_of c.args.source.now c.args.node.now
    (option_map (λ o. o.now) c.args.observer) in
    let p = err_from_is_err_and c.from_residual-in_err-table.result
    c.from_residual-in_err-table.ensures.1 in
    rw (p.1, p.2) (c.in_err-table.ensures P c.in_ok-reached.ensures.0
    c.in_ok-reached.ensures.1 refl)

pub returns-in_err-signature : goal.returns-in_err-signature
returns-in_err-signature c =
    let P = program_of c.args.source.now c.args.node.now
    (option_map (λ o. o.now) c.args.observer) in
    let names = c.in_ok-reached.ensures.0 in
    let reached = c.in_ok-reached.ensures.1 in
    let told = c.in_ok-table.ensures P names reached refl in
    let p = err_from_is_err_and c.from_residual-in_err-signature.result
    c.from_residual-in_err-signature.ensures.1 in
    rw (p.1, p.2) (root_fault P c.in_err-signature.field-0.0 names told.calls told.parameters
    told.instantiated (c.in_err-signature.ensures P names reached told.starts told.instantiated))

pub new-requires : goal.new-requires
new-requires c =
    let P = program_of c.args.source.now c.args.node.now
    (option_map (λ o. o.now) c.args.observer) in
    let names = c.in_ok-reached.ensures.0 in
    let reached = c.in_ok-reached.ensures.1 in
    let told = c.in_ok-table.ensures P names reached refl in
    let root = c.in_ok-signature.ensures P names reached told.starts told.instantiated in
    record {
      accepted = no_fault P names told.calls told.parameters told.instantiated root.0;
      reached = reached;
      table = told.table;
      inputs = sym root.1;
    }

pub returns : goal.returns
returns c = ap elaborated_program c.new.ensures

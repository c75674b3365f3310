-- The callee of a call, and its specialization.
use Rattle.std.proofs.Common.{Bor, ap, sym, ◌∙◌, option_map}
use Rattle.std.specs.Prelude.{slice_get}
use Rattle.lb_syntax.specs.Lists.{◌>>=◌}
use Rattle.lb_static.specs.declared.table.Specialization.{Specialization}
use Rattle.lb_static.proofs.Lookups.{held, past, looked_up}
use Rattle.lb_static.proofs.table.Table.called.Goals as goal

pub returns : goal.returns
returns c =
    let specializations = c.args.self.now.specializations.items in
    looked_up c.get-2.result c.deref-2.result.now specializations c.in_ok-id.id.now.0
    c.deref-2.ensures.value c.get-2.ensures.lookup.3
    ∙ sym (ap (λ o. o >>= λ id. slice_get specializations id.0)
    (held c.deref.result.now c.args.specialization.now.callees.items c.args.call.0
    c.in_ok-id.id.now c.deref.ensures.value c.in_ok-id.ensures.lookup.3.0
    c.in_ok-id.ensures.lookup.1))

pub returns-in_err-id : goal.returns-in_err-id
returns-in_err-id c =
    let specializations = c.args.self.now.specializations.items in
    ap (option_map (λ (s : Bor Specialization). s.now)) c.from_residual.ensures
    ∙ sym (ap (λ o. o >>= λ id. slice_get specializations id.0)
    (past c.deref.result.now c.args.specialization.now.callees.items c.args.call.0
    c.deref.ensures.value c.in_err-id.ensures.lookup.3))

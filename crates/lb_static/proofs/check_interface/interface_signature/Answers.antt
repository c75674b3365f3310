use Rattle.std.proofs.Common.{◌≡◌, Bool, true, false, map, Some, refl, ap, sym, ◌∙◌}
use Rattle.std.specs.Prelude.{◌&&◌, nat_le}
use Rattle.std.proofs.lemmas.Result.{err_from_is_err_and}
use Rattle.lb_syntax.specs.Lists.{either_or, where_true}
use Rattle.lb_static.specs.DataTypes.{total}
use Rattle.lb_static.specs.Interfaces.{view_interface, inputs_of, elements_named, property_in}
use Rattle.lb_static.proofs.RootFaults.{fault_for}
use Rattle.lb_static.proofs.InterfaceRules.{too_many, few_enough}
use Rattle.lb_static.proofs.check_interface.interface_signature.Goals as goal
use Rattle.lb_static.proofs.check_interface.interface_signature.Goals.{
  then-not-root-via-then-not-root,
}
use Rattle.lb_static.proofs.check_interface.interface_signature.Goals.{
  then-not-root-via-else-not-root+then-scalar_inputs-gt-MOST,
}

none : (a b : Bool) → (a && (b && false)) ≡ false
none true true = refl
none true false = refl
none false b = refl

few : (a b : Bool) → (a && (false && b)) ≡ false
few true b = refl
few false b = refl

pub returns-then-not-root : goal.returns-then-not-root
returns-then-not-root c =
    let root = view_interface c.args.root.now in
    let so = either_or (property_in c.args.reached.now c.args.table.now root) false in
    let elements = elements_named (map (λ d. d.name) root.node.inputs) (inputs_of root) in
    fault_for c.root_fault.result c.root_fault.ensures (λ _.
    elim c.then-not-root.branch [
      | then-not-root-via-then-not-root w ↦ ap
          (λ b. where_true (b && (nat_le (total (inputs_of root)) 1023 && so)) elements)
          w.if-not-root.true
      | then-not-root-via-else-not-root+then-scalar_inputs-gt-MOST w ↦
          ap (λ b. where_true b elements)
          (ap (λ b. root.is_plain && (b && so))
          (too_many (total (inputs_of root)) w.scalar_inputs.result
          w.scalar_inputs.ensures w.if-scalar_inputs-gt-MOST.true)
          ∙ few root.is_plain so)
    ])

pub returns-in_err-check_property : goal.returns-in_err-check_property
returns-in_err-check_property c =
    let p = err_from_is_err_and c.from_residual.result
    c.from_residual.ensures.1 in
    let root = view_interface c.args.root.now in
    let within = nat_le (total (inputs_of root)) 1023 in
    let elements = elements_named (map (λ d. d.name) root.node.inputs) (inputs_of root) in
    rw (p.1, p.2) (fault_for c.in_err-check_property.field-0.0 c.in_err-check_property.ensures.err
    (λ e. ap (λ b. where_true b elements)
    (ap (λ b. root.is_plain && (within && b)) e ∙ none root.is_plain within)))

pub returns : goal.returns
returns c =
    let root = view_interface c.args.root.now in
    let elements = elements_named (map (λ d. d.name) root.node.inputs) (inputs_of root) in
    let within = few_enough (total (inputs_of root)) c.scalar_inputs.result
    c.scalar_inputs.ensures c.if-scalar_inputs-gt-MOST.false in
    let passes =
    ap (λ o. root.is_plain && (nat_le (total (inputs_of root)) 1023 && either_or o false))
    c.in_ok-check_property.ensures.ok
    ∙ ap (λ b. b && (nat_le (total (inputs_of root)) 1023 && true)) c.if-not-root.false
    ∙ ap (λ b. b && true) within.1 in
    ap (λ b. where_true b elements) passes ∙ ap (λ s. Some s) (sym c.in_ok-signature.ensures)

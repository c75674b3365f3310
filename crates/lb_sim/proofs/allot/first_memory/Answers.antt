use Rattle.std.proofs.Common.{◌≡◌, ℕ, true, false, get_or, sym, subst}
use Rattle.lb_flat.specs.declared.equation.Operation as code
use Rattle.lb_flat.specs.Values.{operation_of}
use Rattle.lb_sim.specs.Presets.{IsFirstMemory}
use Rattle.lb_sim.specs.declared.place.Value.TheVariants.{Truth}
use Rattle.lb_sim.proofs.FirstPlaces.{first_flag}
use Rattle.lb_sim.proofs.allot.first_memory.Goals as goal

pub returns-in_ok-plane-in-FirstThen-clause-memory :
    goal.returns-in_ok-plane-in-FirstThen-clause-memory
returns-in_ok-plane-in-FirstThen-clause-memory c =
    let made = c.in_ok-plane-in-FirstThen.ensures in
    let p = c.in_ok-plane-in-FirstThen.plane in
    let marked : ℕ → Type 0 = λ a. get_or c.args.watched.now a false ≡ true in
    subst
    (λ (o : code.Operation).
    IsFirstMemory c.args.preset.now c.plane.new.self c.args.kind marked (operation_of o)
    (record { value = Truth p; nil = record { 0 = 0 }; bad = record { 0 = 0 } }))
    (sym c.in-FirstThen.is)
    (first_flag c.args.preset.now c.plane.new.self c.args.kind marked c.in-FirstThen.started
    c.in-FirstThen.field-1.0 c.in-FirstThen.field-2.0 p made.place made.planes made.words
    made.value)

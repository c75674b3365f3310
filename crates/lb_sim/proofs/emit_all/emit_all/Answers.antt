use Rattle.std.proofs.Common.{ℕ, ◌≡◌, ◌<◌, All, List, sym, subst, rules}
use Rattle.std.proofs.lemmas.List.{with_items_is, places}
use Rattle.lb_syntax.specs.Lists.{Every}
use Rattle.lb_flat.specs.Fitting.{KindFits}
use Rattle.lb_flat.specs.Programs.{program_of}
use Rattle.lb_flat.specs.TemporaryKinds.{kind_among}
use Rattle.lb_machine.specs.Listed.{listed}
use Rattle.lb_machine.specs.Meaning.{Lane, HasRun}
use Rattle.lb_sim.specs.Allotted.{HasAllConstants}
use Rattle.lb_sim.specs.Compiled.{given_at}
use Rattle.lb_sim.specs.Holdings.{IsPlaceIn}
use Rattle.lb_sim.specs.Showing.{kind_of}
use Rattle.lb_sim.specs.States.{holding_of, IsShownBy}
use Rattle.lb_sim.specs.declared.place.Place.{Place}
use Rattle.lb_sim.proofs.emit_all.emit_all.Goals as goal

pub returns-clause-within : goal.returns-clause-within
returns-clause-within c =
    subst (All (IsPlaceIn c.emit_each.new.code))
    (sym (with_items_is c.in_ok-places.places c.emit_each.new.places (search (rules, places))))
    c.in_ok-emit_each.ensures.within

pub returns-clause-kinds : goal.returns-clause-kinds
returns-clause-kinds c =
    let p = c.args.program.now in
    subst
    (λ (ps : List Place). (e : ℕ) → e < p.size →
    kind_of (holding_of ps e) ≡ kind_among p.kinds.items e)
    (sym (with_items_is c.in_ok-places.places c.emit_each.new.places (search (rules, places))))
    c.in_ok-emit_each.ensures.kinds

pub returns-clause-shown : goal.returns-clause-shown
returns-clause-shown c =
    let p = c.args.program.now in
    subst
    (λ (ps : List Place).
    Every (KindFits p.inputs.items (kind_among p.kinds.items)) (program_of p).equations →
    (s : Lane) → HasRun (listed c.emit_each.new.code.instructions) s →
    HasAllConstants s c.args.constants.now (program_of p).equations →
    Every (IsShownBy (given_at s c.args.inputs.now) s ps c.args.kept.now)
    (program_of p).equations)
    (sym (with_items_is c.in_ok-places.places c.emit_each.new.places (search (rules, places))))
    c.in_ok-emit_each.ensures.shown

-- Each step of the search keeps its invariant, and leaves fewer steps.
use Rattle.std.proofs.Common.{refl, rules, arith, ap, sym, subst, ◌∙◌, ◌++◌, ◌∷◌, [], map}
use Rattle.std.proofs.lemmas.List.{length-map, nil_from_length}
use Rattle.std.proofs.lemmas.Option.{slice_get_within}
use Rattle.lb_static.specs.CallGraphs.{IsCycle}
use Rattle.lb_static.specs.CycleSearch.{from_first}
use Rattle.lb_static.specs.declared.cycle.Progress.TheVariants.{Unseen, Open, Done}
use Rattle.lb_static.proofs.CycleSteps.{begins, last_within, finishes, passes, enters, calls_node}
use Rattle.lb_static.proofs.CycleSteps.{cycle_found, ends, less_passed, less_finished, less_entered}
use Rattle.lb_static.proofs.CycleSteps.{read_at}
use Rattle.lb_static.proofs.cycle.search_from.Goals as goal

pub bounds-progress-start : goal.bounds-progress-start
bounds-progress-start c = slice_get_within c.args.progress.now c.args.start Unseen c.requires.unseen

pub new-requires : goal.new-requires
new-requires c =
    let within = slice_get_within c.args.progress.now c.args.start Unseen c.requires.unseen in
    omega (arith, within, c.requires.between.as_many, length-map c.args.graph.now (λ v. v.items))

pub loop-visit-init : goal.loop-visit-init
loop-visit-init c =
    begins _ c.args.progress.now c.args.start c.new.result c.push.new.self.items c.requires.between
    c.requires.unseen c.new.ensures.node c.new.ensures.left
    (c.in_ok-push.ensures.items ∙ ap (λ l. l ++ c.new.result ∷ []) c.requires.none)

pub bounds-progress-visit : goal.bounds-progress-visit
bounds-progress-visit c =
    last_within _ c.args.progress.now c.loop-visit.progress c.args.start c.loop-visit.path.items
    c.pop.new.self.items c.in-Some.visit
    c.loop-visit.invariant c.in-Some.ensures.items

pub loop-visit-smaller-in-None : goal.loop-visit-smaller-in-None
loop-visit-smaller-in-None c =
    less_finished c.loop-visit.progress _ c.in-Some.visit.node c.loop-visit.path.items
    c.pop.new.self.items c.in-Some.visit c.in-Some.ensures.items

pub loop-visit-preserved-in-None : goal.loop-visit-preserved-in-None
loop-visit-preserved-in-None c =
    finishes _ c.args.progress.now c.loop-visit.progress c.args.start c.loop-visit.path.items
    c.pop.new.self.items c.in-Some.visit
    c.loop-visit.invariant c.in-Some.ensures.items
    (nil_from_length c.in-Some.visit.left.now c.in-None.ensures.cases)

pub bounds : goal.bounds
bounds c =
    let callee = c.in-Some-split_first.field-0-0.now in
    let within =
    calls_node _ c.args.progress.now c.loop-visit.progress c.args.start callee
    c.in-Some-split_first.left.now c.loop-visit.path.items
    c.pop.new.self.items c.in-Some.visit c.requires.within c.loop-visit.invariant
    c.in-Some.ensures.items c.in-Some-split_first.ensures.cases.0 in
    within.1

pub bounds-progress-callee : goal.bounds-progress-callee
bounds-progress-callee c =
    let callee = c.in-Some-split_first.field-0-0.now in
    let within =
    calls_node _ c.args.progress.now c.loop-visit.progress c.args.start callee
    c.in-Some-split_first.left.now c.loop-visit.path.items
    c.pop.new.self.items c.in-Some.visit c.requires.within c.loop-visit.invariant
    c.in-Some.ensures.items c.in-Some-split_first.ensures.cases.0 in
    within.1

pub new-requires-in-Unseen : goal.new-requires-in-Unseen
new-requires-in-Unseen c =
    let callee = c.in-Some-split_first.field-0-0.now in
    let within =
    calls_node _ c.args.progress.now c.loop-visit.progress c.args.start callee
    c.in-Some-split_first.left.now c.loop-visit.path.items
    c.pop.new.self.items c.in-Some.visit c.requires.within c.loop-visit.invariant
    c.in-Some.ensures.items c.in-Some-split_first.ensures.cases.0 in
    omega (arith, within.0, length-map c.args.graph.now (λ v. v.items))

pub loop-visit-smaller-in_ok-push-in-Unseen : goal.loop-visit-smaller-in_ok-push-in-Unseen
loop-visit-smaller-in_ok-push-in-Unseen c =
    let callee = c.in-Some-split_first.field-0-0.now in
    let within =
    calls_node _ c.args.progress.now c.loop-visit.progress c.args.start callee
    c.in-Some-split_first.left.now c.loop-visit.path.items
    c.pop.new.self.items c.in-Some.visit c.requires.within c.loop-visit.invariant
    c.in-Some.ensures.items c.in-Some-split_first.ensures.cases.0 in
    less_entered c.loop-visit.progress _ callee c.loop-visit.path.items c.pop.new.self.items
    c.push-in-Some-split_first.new.self.items
    c.push-in-Unseen.new.self.items c.in-Some.visit _ c.new-in-Unseen.result c.in-Some.ensures.items
    c.in_ok-push-in-Some-split_first.ensures.items
    c.in_ok-push-in-Unseen.ensures.items c.in-Some-split_first.ensures.cases.0 within.0
    c.new-in-Unseen.ensures.left
    (read_at c.loop-visit.progress callee Unseen Unseen within.1 c.in-Unseen.is)

pub loop-visit-preserved-in_ok-push-in-Unseen : goal.loop-visit-preserved-in_ok-push-in-Unseen
loop-visit-preserved-in_ok-push-in-Unseen c =
    let callee = c.in-Some-split_first.field-0-0.now in
    let within =
    calls_node _ c.args.progress.now c.loop-visit.progress c.args.start callee
    c.in-Some-split_first.left.now c.loop-visit.path.items
    c.pop.new.self.items c.in-Some.visit c.requires.within c.loop-visit.invariant
    c.in-Some.ensures.items c.in-Some-split_first.ensures.cases.0 in
    enters _ c.args.progress.now c.loop-visit.progress c.args.start callee c.loop-visit.path.items
    c.pop.new.self.items
    c.push-in-Some-split_first.new.self.items c.push-in-Unseen.new.self.items c.in-Some.visit _
    c.new-in-Unseen.result c.loop-visit.invariant
    c.in-Some.ensures.items c.in_ok-push-in-Some-split_first.ensures.items
    c.in_ok-push-in-Unseen.ensures.items refl
    c.new-in-Unseen.ensures.node c.in-Some-split_first.ensures.cases.0 within.0
    c.new-in-Unseen.ensures.left
    (read_at c.loop-visit.progress callee Unseen Unseen within.1 c.in-Unseen.is)

pub returns-in-Open-clause-answer : goal.returns-in-Open-clause-answer
returns-in-Open-clause-answer c =
    let callee = c.in-Some-split_first.field-0-0.now in
    let within =
    calls_node _ c.args.progress.now c.loop-visit.progress c.args.start callee
    c.in-Some-split_first.left.now c.loop-visit.path.items
    c.pop.new.self.items c.in-Some.visit c.requires.within c.loop-visit.invariant
    c.in-Some.ensures.items c.in-Some-split_first.ensures.cases.0 in
    let path = c.push-in-Some-split_first.new.self.items in
    let found =
    cycle_found _ c.args.progress.now c.loop-visit.progress c.args.start callee
    c.in-Some-split_first.left.now c.loop-visit.path.items
    c.pop.new.self.items path c.in-Some.visit _ c.loop-visit.invariant c.in-Some.ensures.items
    c.in_ok-push-in-Some-split_first.ensures.items refl c.in-Some-split_first.ensures.cases.0
    (read_at c.loop-visit.progress callee Open Unseen within.1 c.in-Open.is) within.0 in
    subst (IsCycle _) (sym (c.in_ok-path_from-in-Open.ensures
    ∙ ap (λ l. from_first callee (map (λ f. f.node) l)) c.deref.ensures.value)) found

pub loop-visit-smaller : goal.loop-visit-smaller
loop-visit-smaller c =
    less_passed c.loop-visit.progress _ c.in-Some-split_first.field-0-0.now c.loop-visit.path.items
    c.pop.new.self.items
    c.push-in-Some-split_first.new.self.items c.in-Some.visit _ c.in-Some.ensures.items
    c.in_ok-push-in-Some-split_first.ensures.items
    c.in-Some-split_first.ensures.cases.0

pub loop-visit-preserved : goal.loop-visit-preserved
loop-visit-preserved c =
    let callee = c.in-Some-split_first.field-0-0.now in
    let within =
    calls_node _ c.args.progress.now c.loop-visit.progress c.args.start callee
    c.in-Some-split_first.left.now c.loop-visit.path.items
    c.pop.new.self.items c.in-Some.visit c.requires.within c.loop-visit.invariant
    c.in-Some.ensures.items c.in-Some-split_first.ensures.cases.0 in
    passes _ c.args.progress.now c.loop-visit.progress c.args.start callee c.loop-visit.path.items
    c.pop.new.self.items
    c.push-in-Some-split_first.new.self.items c.in-Some.visit _ c.loop-visit.invariant
    c.in-Some.ensures.items
    c.in_ok-push-in-Some-split_first.ensures.items refl c.in-Some-split_first.ensures.cases.0
    (read_at c.loop-visit.progress callee Done Unseen within.1 c.in-Done.is)

pub returns-clause-answer : goal.returns-clause-answer
returns-clause-answer c =
    ends _ c.args.progress.now c.loop-visit.progress c.args.start c.loop-visit.path.items
    c.loop-visit.invariant
    (nil_from_length c.loop-visit.path.items (search rules))

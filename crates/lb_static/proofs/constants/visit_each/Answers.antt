-- Each task of the walk has the place of a constant, and each constant is visited once.
use Rattle.std.proofs.Common.{rules, ◌<◌, ◌++◌, ◌∷◌, [], All, Some, ap, sym, subst, ◌∙◌, length}
use Rattle.std.proofs.Common.{arith}
use Rattle.std.proofs.lemmas.List.{length-append}
use Rattle.std.proofs.lemmas.List.Elements.{All-pop, All-push, All-same}
use Rattle.lb_static.specs.Tasks.{place_of}
use Rattle.lb_static.specs.declared.constants.Task.TheVariants.{Evaluate, Visit}
use Rattle.lb_static.proofs.ConstantSteps.{fewer, names_length}
use Rattle.lb_static.proofs.constants.visit_each.Goals as goal

pub bounds-seen-place : goal.bounds-seen-place
bounds-seen-place c =
    let n = length c.args.constants.now in
    let taken = All-pop (λ t. place_of t < n) c.loop-task.tasks.items c.pop.new.self.items
    (Some c.in-Some.task) c.in-Some.ensures.items c.loop-task.invariant.within in
    let here : c.in-Visit.place < n = subst (λ t. place_of t < n) c.in-Visit.is taken.1 in
    omega (arith, here, c.loop-task.invariant.as_many)

pub bounds-seen-place-then-not-seen-place : goal.bounds-seen-place-then-not-seen-place
bounds-seen-place-then-not-seen-place c =
    let n = length c.args.constants.now in
    let taken = All-pop (λ t. place_of t < n) c.loop-task.tasks.items c.pop.new.self.items
    (Some c.in-Some.task) c.in-Some.ensures.items c.loop-task.invariant.within in
    let here : c.in-Visit.place < n = subst (λ t. place_of t < n) c.in-Visit.is taken.1 in
    omega (arith, here, c.loop-task.invariant.as_many)

pub bounds-constants-place : goal.bounds-constants-place
bounds-constants-place c =
    let n = length c.args.constants.now in
    let taken = All-pop (λ t. place_of t < n) c.loop-task.tasks.items c.pop.new.self.items
    (Some c.in-Some.task) c.in-Some.ensures.items c.loop-task.invariant.within in
    let here : c.in-Visit.place < n = subst (λ t. place_of t < n) c.in-Visit.is taken.1 in
    omega (arith, here, c.loop-task.invariant.as_many)

pub evaluate-requires-clause-within : goal.evaluate-requires-clause-within
evaluate-requires-clause-within c =
    let n = length c.args.constants.now in
    let taken = All-pop (λ t. place_of t < n) c.loop-task.tasks.items c.pop.new.self.items
    (Some c.in-Some.task) c.in-Some.ensures.items c.loop-task.invariant.within in
    subst (λ t. place_of t < n) c.in-Evaluate.is taken.1

pub visit_names-requires : goal.visit_names-requires
visit_names-requires c =
    let n = length c.args.constants.now in
    let taken = All-pop (λ t. place_of t < n) c.loop-task.tasks.items c.pop.new.self.items
    (Some c.in-Some.task) c.in-Some.ensures.items c.loop-task.invariant.within in
    let here = subst (λ t. place_of t < n) c.in-Visit.is taken.1 in
    let more = All-push (λ t. place_of t < n) c.pop.new.self.items (Evaluate c.in-Visit.place)
    taken.0
    here in
    let all = All-same (λ t. place_of t < n) c.push-then-not-seen-place.new.self.items
    (c.pop.new.self.items ++ Evaluate c.in-Visit.place ∷ []) c.in_ok-push-in-Visit.ensures.items
    more in
    record {
      within = subst (λ m. All (λ t. place_of t < m)
          c.push-then-not-seen-place.new.self.items)
          (sym (names_length c.args.names.now c.args.constants.now c.requires.same_names)) all;
    }

pub loop-task-smaller-in-Continue-branch-3 : goal.loop-task-smaller-in-Continue-branch-3
loop-task-smaller-in-Continue-branch-3 c =
    let n = length c.args.constants.now in
    let taken = All-pop (λ t. place_of t < n) c.loop-task.tasks.items c.pop.new.self.items
    (Some c.in-Some.task) c.in-Some.ensures.items c.loop-task.invariant.within in
    let here = subst (λ t. place_of t < n) c.in-Visit.is taken.1 in
    let left = ap length c.in-Some.ensures.items
    ∙ length-append c.pop.new.self.items (c.in-Some.task ∷ []) in
    let pushed = ap length c.in_ok-push-in-Visit.ensures.items
    ∙ length-append c.pop.new.self.items (Evaluate c.in-Visit.place ∷ []) in
    fewer c.loop-task.seen c.args.constants.now c.in-Visit.place c.index-constants-place.result _
    (length c.pop.new.self.items) (length c.loop-task.tasks.items)
    (length c.visit_names.new.tasks.items)
    c.loop-task.invariant.as_many here c.if-not-seen-place.true left
    (omega (arith, pushed, c.in_ok-visit_names-in-Visit.ensures.few))

pub loop-task-preserved-in-Continue-branch-3 : goal.loop-task-preserved-in-Continue-branch-3
loop-task-preserved-in-Continue-branch-3 c =
    let same = names_length c.args.names.now c.args.constants.now c.requires.same_names in
    record {
      sound = c.loop-task.invariant.sound;
      as_many = search rules;
      within = subst (λ m. All (λ t. place_of t < m) c.visit_names.new.tasks.items) same
          c.in_ok-visit_names-in-Visit.ensures.within;
    }

pub loop-task-preserved-else-not-seen-place : goal.loop-task-preserved-else-not-seen-place
loop-task-preserved-else-not-seen-place c =
    let n = length c.args.constants.now in
    let taken = All-pop (λ t. place_of t < n) c.loop-task.tasks.items c.pop.new.self.items
    (Some c.in-Some.task) c.in-Some.ensures.items c.loop-task.invariant.within in
    record {
      sound = c.loop-task.invariant.sound;
      as_many =
          c.loop-task.invariant.as_many;
      within = taken.0;
    }

pub loop-task-preserved : goal.loop-task-preserved
loop-task-preserved c =
    let n = length c.args.constants.now in
    let taken = All-pop (λ t. place_of t < n) c.loop-task.tasks.items c.pop.new.self.items
    (Some c.in-Some.task) c.in-Some.ensures.items c.loop-task.invariant.within in
    record {
      sound = c.evaluate.ensures.sound;
      as_many =
          c.loop-task.invariant.as_many;
      within = taken.0;
    }

pub loop-task-smaller-else-not-seen-place : goal.loop-task-smaller-else-not-seen-place
loop-task-smaller-else-not-seen-place c =
    let left = ap length c.in-Some.ensures.items
    ∙ length-append c.pop.new.self.items (c.in-Some.task ∷ []) in
    omega (arith, left)

pub loop-task-smaller : goal.loop-task-smaller
loop-task-smaller c =
    let left = ap length c.in-Some.ensures.items
    ∙ length-append c.pop.new.self.items (c.in-Some.task ∷ []) in
    omega (arith, left)

pub offset_bounds-constants-place : goal.offset_bounds-constants-place
offset_bounds-constants-place c =
    let n = length c.args.constants.now in
    let taken = All-pop (λ t. place_of t < n) c.loop-task.tasks.items c.pop.new.self.items
    (Some c.in-Some.task) c.in-Some.ensures.items c.loop-task.invariant.within in
    let here : c.in-Visit.place < n = subst (λ t. place_of t < n) c.in-Visit.is taken.1 in
    record { fits = omega (arith, here) }

pub loop-place-preserved : goal.loop-place-preserved
loop-place-preserved c =
    let n = length c.args.constants.now in
    let tasks = c.loop-place.tasks.items in
    All-same (λ t. place_of t < n) c.push.new.self.items (tasks ++ Visit c.loop-place.place ∷ [])
    c.in_ok-push.ensures.items
    (All-push (λ t. place_of t < n) tasks (Visit c.loop-place.place) c.loop-place.invariant
    c.loop-place-test.true)

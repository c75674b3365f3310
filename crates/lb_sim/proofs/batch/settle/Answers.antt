-- The verdicts of settled lanes are kept, and members that wait take these lanes.
use Rattle.std.proofs.Common.{◌≡◌, ◌<◌, ◌&&◌, ◌||◌, ℕ, not, sym, ap, ◌∙◌, subst, arith, rules}
use Rattle.lb_lanes.specs.Planes.{on}
use Rattle.lb_lanes.proofs.OnPlanes.{SetBit, some_on}
use Rattle.lb_sim.specs.BatchLanes.{AreRunning}
use Rattle.lb_sim.specs.Queues.{goes_on}
use Rattle.lb_sim.proofs.RunningQueues.{all_go_on, all_taken_on, lanes_settled, none_settled}
use Rattle.lb_sim.proofs.RunningQueues.{settled_both, settled_right}
use Rattle.lb_sim.proofs.batch.settle.Goals as goal

pub running_at-next-requires-clause-members : goal.running_at-next-requires-clause-members
running_at-next-requires-clause-members g c = c.requires.so_far.traces_within

pub returns-then-settled-eq0-clause-becomes : goal.returns-then-settled-eq0-clause-becomes
returns-then-settled-eq0-clause-becomes g c =
    g.met.V.Verdicts.becomes_itself c.args.verdicts.now

pub returns-then-settled-eq0-clause-go_on : goal.returns-then-settled-eq0-clause-go_on
returns-then-settled-eq0-clause-go_on g c =
    let queue = c.args.queue.now in
    let r = queue.set.now in
    let run = c.args.run.now in
    let traces = c.args.traces.now in
    let next = c.running_at-next.result in
    let settled = c.settled_lanes-settled.result.0 in
    let runs : AreRunning r traces run.begins.items run.steps next.lanes next.until =
    subst (λ bs. AreRunning r traces bs run.steps next.lanes next.until)
    c.as_slice.ensures.value c.running_at-next.ensures in
    let settled_is : (i : ℕ) → i < 64 →
    on settled i ≡ (on c.args.left.now.pending.0 i && not (goes_on run r traces i)) =
    lanes_settled run.program.now r queue.members.now queue.lanes queue.few queue.enough
    queue.within run traces c.args.places.now c.args.left.now.pending.0 c.args.left.now.rest
    (g.V.Verdicts.has c.args.verdicts.now) c.requires.so_far next.lanes next.until settled runs
    c.settled_lanes-settled.ensures in
    none_settled run.program.now r queue.members.now queue.lanes queue.few queue.enough
    queue.within run traces c.args.left.now.pending.0 settled c.args.left.now.rest
    c.args.left.now.rest settled_is c.if-settled-eq0.true

pub returns-then-settled-eq0-clause-running : goal.returns-then-settled-eq0-clause-running
returns-then-settled-eq0-clause-running g c =
    let next = c.running_at-next.result in
    subst
    (λ bs.
    AreRunning c.args.queue.now.set.now c.args.traces.now bs c.args.run.now.steps next.lanes
    next.until)
    c.as_slice.ensures.value c.running_at-next.ensures

pub refill-taken-requires-clause-rest : goal.refill-taken-requires-clause-rest
refill-taken-requires-clause-rest g c =
    (c.requires.so_far.rest_least, c.requires.so_far.rest_most)

pub refill-taken-requires-clause-there : goal.refill-taken-requires-clause-there
refill-taken-requires-clause-there g c = c.requires.so_far.places_within

pub refill-taken-requires-clause-right : goal.refill-taken-requires-clause-right
refill-taken-requires-clause-right g c i l e =
    let queue = c.args.queue.now in
    let r = queue.set.now in
    let run = c.args.run.now in
    let traces = c.args.traces.now in
    let pending = c.args.left.now.pending.0 in
    let next = c.running_at-next.result in
    let settled = c.settled_lanes-settled.result.0 in
    let runs : AreRunning r traces run.begins.items run.steps next.lanes next.until =
    subst (λ bs. AreRunning r traces bs run.steps next.lanes next.until)
    c.as_slice.ensures.value c.running_at-next.ensures in
    let settled_is : (i : ℕ) → i < 64 →
    on settled i ≡ (on pending i && not (goes_on run r traces i)) =
    lanes_settled run.program.now r queue.members.now queue.lanes queue.few queue.enough
    queue.within run traces c.args.places.now pending c.args.left.now.rest
    (g.V.Verdicts.has c.args.verdicts.now) c.requires.so_far next.lanes next.until settled runs
    c.settled_lanes-settled.ensures in
    settled_right run.program.now r queue.members.now queue.lanes queue.few queue.enough
    queue.within run traces c.args.places.now pending c.args.left.now.rest
    (g.V.Verdicts.has c.args.verdicts.now) c.requires.so_far c.requires.lawful i l
    (settled_both (on pending i) (goes_on run r traces i)
    (sym (settled_is i (omega (arith, l, queue.few))) ∙ e)).1

pub running_at-requires-clause-members : goal.running_at-requires-clause-members
running_at-requires-clause-members g c =
    let queue = c.args.queue.now in
    let r = queue.set.now in
    let run = c.args.run.now in
    let traces = c.args.traces.now in
    let pending = c.args.left.now.pending.0 in
    let next = c.running_at-next.result in
    let settled = c.settled_lanes-settled.result.0 in
    let taken = c.refill-taken in
    let runs : AreRunning r traces run.begins.items run.steps next.lanes next.until =
    subst (λ bs. AreRunning r traces bs run.steps next.lanes next.until)
    c.as_slice.ensures.value c.running_at-next.ensures in
    let settled_is : (i : ℕ) → i < 64 →
    on settled i ≡ (on pending i && not (goes_on run r traces i)) =
    lanes_settled run.program.now r queue.members.now queue.lanes queue.few queue.enough
    queue.within run traces c.args.places.now pending c.args.left.now.rest
    (g.V.Verdicts.has c.args.verdicts.now) c.requires.so_far next.lanes next.until settled runs
    c.settled_lanes-settled.ensures in
    let some : SetBit settled 64 =
    some_on settled 64 (search rules) (search rules) (omega (arith, c.if-settled-eq0.false)) in
    let handed =
    all_taken_on run.program.now r queue.members.now queue.lanes queue.few queue.enough
    queue.within run taken.new.run traces taken.new.traces c.args.places.now taken.new.places
    pending c.or-left.result.0 settled c.args.left.now.rest taken.result.rest
    (g.V.Verdicts.has c.args.verdicts.now) (g.V.Verdicts.has taken.new.verdicts)
    taken.result.lanes c.requires.so_far taken.ensures.taken taken.ensures.again settled_is some
    (λ i l.
    c.or-left.ensures i l
    ∙ ap (λ b. b || on taken.result.lanes.0 i)
    (c.and.ensures i l ∙ ap (λ b. on pending i && b) (c.not.ensures i l)))
    (search rules) taken.ensures.stays taken.ensures.kept in
    handed.traces_within

pub returns-clause-so_far : goal.returns-clause-so_far
returns-clause-so_far g c =
    let queue = c.args.queue.now in
    let r = queue.set.now in
    let run = c.args.run.now in
    let traces = c.args.traces.now in
    let pending = c.args.left.now.pending.0 in
    let next = c.running_at-next.result in
    let settled = c.settled_lanes-settled.result.0 in
    let taken = c.refill-taken in
    let runs : AreRunning r traces run.begins.items run.steps next.lanes next.until =
    subst (λ bs. AreRunning r traces bs run.steps next.lanes next.until)
    c.as_slice.ensures.value c.running_at-next.ensures in
    let settled_is : (i : ℕ) → i < 64 →
    on settled i ≡ (on pending i && not (goes_on run r traces i)) =
    lanes_settled run.program.now r queue.members.now queue.lanes queue.few queue.enough
    queue.within run traces c.args.places.now pending c.args.left.now.rest
    (g.V.Verdicts.has c.args.verdicts.now) c.requires.so_far next.lanes next.until settled runs
    c.settled_lanes-settled.ensures in
    let some : SetBit settled 64 =
    some_on settled 64 (search rules) (search rules) (omega (arith, c.if-settled-eq0.false)) in
    all_taken_on run.program.now r queue.members.now queue.lanes queue.few queue.enough
    queue.within run taken.new.run traces taken.new.traces c.args.places.now taken.new.places
    pending c.or-left.result.0 settled c.args.left.now.rest taken.result.rest
    (g.V.Verdicts.has c.args.verdicts.now) (g.V.Verdicts.has taken.new.verdicts)
    taken.result.lanes c.requires.so_far taken.ensures.taken taken.ensures.again settled_is some
    (λ i l.
    c.or-left.ensures i l
    ∙ ap (λ b. b || on taken.result.lanes.0 i)
    (c.and.ensures i l ∙ ap (λ b. on pending i && b) (c.not.ensures i l)))
    (search rules) taken.ensures.stays taken.ensures.kept

pub returns-clause-go_on : goal.returns-clause-go_on
returns-clause-go_on g c =
    let queue = c.args.queue.now in
    let r = queue.set.now in
    let run = c.args.run.now in
    let traces = c.args.traces.now in
    let pending = c.args.left.now.pending.0 in
    let next = c.running_at-next.result in
    let settled = c.settled_lanes-settled.result.0 in
    let taken = c.refill-taken in
    let runs : AreRunning r traces run.begins.items run.steps next.lanes next.until =
    subst (λ bs. AreRunning r traces bs run.steps next.lanes next.until)
    c.as_slice.ensures.value c.running_at-next.ensures in
    let settled_is : (i : ℕ) → i < 64 →
    on settled i ≡ (on pending i && not (goes_on run r traces i)) =
    lanes_settled run.program.now r queue.members.now queue.lanes queue.few queue.enough
    queue.within run traces c.args.places.now pending c.args.left.now.rest
    (g.V.Verdicts.has c.args.verdicts.now) c.requires.so_far next.lanes next.until settled runs
    c.settled_lanes-settled.ensures in
    let some : SetBit settled 64 =
    some_on settled 64 (search rules) (search rules) (omega (arith, c.if-settled-eq0.false)) in
    all_go_on run.program.now r queue.members.now queue.lanes queue.few queue.enough
    queue.within run taken.new.run traces taken.new.traces c.args.places.now taken.new.places
    pending c.or-left.result.0 settled c.args.left.now.rest taken.result.rest
    (g.V.Verdicts.has c.args.verdicts.now) (g.V.Verdicts.has taken.new.verdicts)
    taken.result.lanes c.requires.so_far taken.ensures.taken taken.ensures.again settled_is some
    (λ i l.
    c.or-left.ensures i l
    ∙ ap (λ b. b || on taken.result.lanes.0 i)
    (c.and.ensures i l ∙ ap (λ b. on pending i && b) (c.not.ensures i l)))
    (search rules) taken.ensures.stays taken.ensures.kept

pub returns-clause-running : goal.returns-clause-running
returns-clause-running g c =
    let taken = c.refill-taken in
    let next = c.running_at.result in
    subst
    (λ bs.
    AreRunning c.args.queue.now.set.now taken.new.traces bs taken.new.run.steps next.lanes
    next.until)
    c.as_slice-2.ensures.value c.running_at.ensures

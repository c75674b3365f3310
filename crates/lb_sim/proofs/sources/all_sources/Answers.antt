use Rattle.std.proofs.Common.{◌<◌, ◌≤◌, length, sym, ◌∙◌, subst, [], arith}
use Rattle.std.proofs.lemmas.List.{get_or_default}
use Rattle.lb_flat.specs.Programs.{program_of}
use Rattle.lb_flat.specs.Values.{equation_of}
use Rattle.lb_sim.specs.Homes.{IsRow, plane_row, word_row}
use Rattle.lb_sim.specs.States.{no_holding}
use Rattle.lb_sim.proofs.CommitLoop.{IsCommitting, committing_none, commits, all_committed}
use Rattle.lb_sim.proofs.EquationsAt.{equation_there, equation_within, all_within}
use Rattle.lb_sim.proofs.EquationsAt.{home_there, memory_there, operands_there, element_there}
use Rattle.lb_sim.proofs.Growth.{grown_then, holding_grown, place_grown}
use Rattle.lb_sim.proofs.TakenPlaces.{copies_grown}
use Rattle.lb_sim.proofs.sources.all_sources.Goals as goal

pub loop-i-init : goal.loop-i-init
loop-i-init c =
    let f = program_of c.args.program.now in
    let a = c.args.allotted.now in
    let made = c.in_ok-copies.ensures in
    let code = c.make_copies.new.code in
    let kept = a.kept.items in
    let held = c.args.held.now in
    let mp = a.memory_plane in
    let mw = a.memory_word in
    let m = c.requires.memories in
    let none = subst (λ P. IsCommitting f c.args.places.now kept held mp mw code code P
    c.new-words.result.items 0)
    (sym c.new-planes.ensures.items)
    (subst (λ W. IsCommitting f c.args.places.now kept held mp mw code code [] W 0)
    (sym c.new-words.ensures.items)
    (committing_none f c.args.places.now kept held mp mw code
    (subst (IsRow mp (plane_row kept f.equations))
    (sym (made.grown.first_plane ∙ c.requires.first_plane)) m.planes)
    (subst (IsRow mw (word_row kept f.equations))
    (sym (made.grown.first_word ∙ c.requires.first_word)) m.words))) in
    record { committing = none; few = omega arith }

pub next_holding-requires-clause-room : goal.next_holding-requires-clause-room
next_holding-requires-clause-room c =
    let l = c.loop-i in
    omega (
      arith,
      c.requires.room,
      c.in_ok-copies.ensures.few,
      l.invariant.few,
      c.loop-i-test.true,
      l.auto.i-end,
      c.len-i-end.ensures,
    )

pub push_sources-requires-clause-room : goal.push_sources-requires-clause-room
push_sources-requires-clause-room c =
    let l = c.loop-i in
    omega (
      arith,
      c.requires.room,
      c.in_ok-copies.ensures.few,
      l.invariant.few,
      c.in_ok-next.ensures.few,
      c.loop-i-test.true,
      l.auto.i-end,
      c.len-i-end.ensures,
    )

pub next_holding-requires-clause-places : goal.next_holding-requires-clause-places
next_holding-requires-clause-places c = λ k d lt.
    place_grown _ _ _ c.loop-i.invariant.committing.grown
    (place_grown _ _ _ c.in_ok-copies.ensures.grown (c.requires.places k d lt))

pub next_holding-requires-clause-held : goal.next_holding-requires-clause-held
next_holding-requires-clause-held c =
    let p = c.args.program.now in
    let l = c.loop-i in
    let x = c.index.result.now in
    let lt : l.i < length p.equations.items =
    omega (arith, c.loop-i-test.true, l.auto.i-end, c.len-i-end.ensures) in
    holding_grown c.args.code.now l.code _
    (grown_then _ _ _ c.in_ok-copies.ensures.grown l.invariant.committing.grown)
    (c.requires.held x.element.0 _
    (omega (
      arith,
      c.requires.all_held,
      element_there p c.requires.in_range l.i x lt (sym c.index.ensures),
    )))

pub push_sources-requires-clause-copies : goal.push_sources-requires-clause-copies
push_sources-requires-clause-copies c =
    copies_grown _ _ _
    (grown_then _ _ _ c.loop-i.invariant.committing.grown c.in_ok-next.ensures.grown)
    c.in_ok-copies.ensures.copies

pub loop-i-preserved : goal.loop-i-preserved
loop-i-preserved c =
    let p = c.args.program.now in
    let f = program_of p in
    let a = c.args.allotted.now in
    let l = c.loop-i in
    let x = c.index.result.now in
    let home = c.index-home.result.now in
    let lt : l.i < length p.equations.items =
    omega (arith, c.loop-i-test.true, l.auto.i-end, c.len-i-end.ensures) in
    let there = sym c.index.ensures in
    let within = element_there p c.requires.in_range l.i x lt there in
    let next = c.in_ok-next.ensures in
    let pushed = c.in_ok-push_sources.ensures in
    let at = home_there a.kept.items x.element.0 home f.size c.requires.memories.as_long within
    c.index-home.ensures in
    let inside_held : x.element.0 < length c.args.held.now =
    omega (arith, within, c.requires.all_held) in
    let inside = operands_there p c.requires.in_range l.i x lt there c.args.places.now
    c.requires.elements in
    let more = commits f c.args.places.now a.kept.items c.args.held.now a.memory_plane a.memory_word
    c.make_copies.new.code l.code l.planes.items l.words.items l.i
    l.invariant.committing (omega (arith, c.requires.behind_planes))
    (omega (arith, c.requires.behind_words))
    (equation_of p.clocks.items x) (equation_within p.clocks.items p.equations.items l.i lt)
    (equation_there p.clocks.items p.equations.items l.i x lt there) home _ c.in_ok-next.next at
    (get_or_default c.args.held.now x.element.0 _ no_holding inside_held) c.next_holding.new.code
    c.push_sources.new.code next.grown pushed.grown c.push_sources.new.planes.items
    c.push_sources.new.words.items pushed.taken
    (λ e small. c.requires.kinds e (omega (arith, small, c.requires.elements)))
    (memory_there f a.memory_plane a.memory_word a.preset a.kept.items c.requires.memories
    (equation_of p.clocks.items x) l.i
    (equation_within p.clocks.items p.equations.items l.i lt)
    (equation_there p.clocks.items p.equations.items l.i x lt there) home at)
    c.requires.held_for inside next.next in
    record {
      committing = more;
      few = omega (arith, l.invariant.few, next.few, pushed.few);
    }

pub returns-clause-few : goal.returns-clause-few
returns-clause-few c =
    let l = c.loop-i in
    omega (arith, c.in_ok-copies.ensures.few, l.invariant.few, l.auto.i-end, c.len-i-end.ensures)

pub returns-clause-grown : goal.returns-clause-grown
returns-clause-grown c =
    grown_then _ _ _ c.in_ok-copies.ensures.grown c.loop-i.invariant.committing.grown

pub returns-clause-sources : goal.returns-clause-sources
returns-clause-sources c =
    let p = c.args.program.now in
    let a = c.args.allotted.now in
    let l = c.loop-i in
    let le : length p.equations.items ≤ l.i =
    omega (arith, c.loop-i-test.false, l.auto.i-end, c.len-i-end.ensures) in
    all_committed (program_of p) c.args.places.now a.kept.items c.args.held.now a.memory_plane
    a.memory_word c.make_copies.new.code l.code l.planes.items l.words.items l.i
    l.invariant.committing (omega (arith, c.requires.behind_planes))
    (omega (arith, c.requires.behind_words))
    (all_within p.clocks.items p.equations.items l.i le)

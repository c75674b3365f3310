use Rattle.std.proofs.Common.{◌≡◌, length, sym, subst, ◌∙◌, arith}
use Rattle.lb_flat.specs.Programs.{program_of}
use Rattle.lb_sim.specs.Allotted.{IsAllotted}
use Rattle.lb_sim.specs.Passing.{AreSources}
use Rattle.lb_sim.specs.Watching.{AreWatched}
use Rattle.lb_sim.specs.declared.program.LaneCode.{LaneCode}
use Rattle.lb_sim.proofs.Assembled.{is_allotted, is_code, table_in, ShowAll}
use Rattle.lb_sim.proofs.FewPlaces.{room_for_code}
use Rattle.lb_sim.proofs.compiler.lane_code.Goals as goal

pub emit_all-requires-clause-allotted : goal.emit_all-requires-clause-allotted
emit_all-requires-clause-allotted c =
    let f = program_of c.args.program.now in
    let known = c.args.known.now in
    let held = c.args.held.now in
    let code = c.new-code.result in
    let planes : c.new-code.result.planes ≡ length c.args.known.now.preset.planes.items =
    omega (arith, c.new-code.ensures.planes, c.len-first_plane.ensures) in
    let words : c.new-code.result.words ≡ length c.args.known.now.preset.words.items =
    omega (arith, c.new-code.ensures.words, c.len-first_word.ensures) in
    subst
    (λ xs. IsAllotted f code xs c.as_slice-constants.result.now held)
    (sym c.as_slice-inputs.ensures.value)
    (subst (λ xs. IsAllotted f code known.inputs.items xs held)
    (sym c.as_slice-constants.ensures.value)
    (is_allotted f known c.requires.allotted held c.args.clear.items c.args.set.items
    c.requires.table code planes words))

pub emit_all-requires-clause-room : goal.emit_all-requires-clause-room
emit_all-requires-clause-room c =
    let p = c.args.program.now in
    let planes : c.new-code.result.planes ≡ length c.args.known.now.preset.planes.items =
    omega (arith, c.new-code.ensures.planes, c.len-first_plane.ensures) in
    let words : c.new-code.result.words ≡ length c.args.known.now.preset.words.items =
    omega (arith, c.new-code.ensures.words, c.len-first_word.ensures) in
    let room = room_for_code p c.requires.bounded c.requires.in_order c.args.known.now
    c.requires.allotted in
    omega (arith, planes, words, room)

pub watched-requires-clause-room : goal.watched-requires-clause-room
watched-requires-clause-room c =
    let p = c.args.program.now in
    let planes : c.new-code.result.planes ≡ length c.args.known.now.preset.planes.items =
    omega (arith, c.new-code.ensures.planes, c.len-first_plane.ensures) in
    let words : c.new-code.result.words ≡ length c.args.known.now.preset.words.items =
    omega (arith, c.new-code.ensures.words, c.len-first_word.ensures) in
    let room = room_for_code p c.requires.bounded c.requires.in_order c.args.known.now
    c.requires.allotted in
    omega (arith, planes, words, room, c.in_ok-places.ensures.few)

pub all_sources-requires-clause-room : goal.all_sources-requires-clause-room
all_sources-requires-clause-room c =
    let p = c.args.program.now in
    let planes : c.new-code.result.planes ≡ length c.args.known.now.preset.planes.items =
    omega (arith, c.new-code.ensures.planes, c.len-first_plane.ensures) in
    let words : c.new-code.result.words ≡ length c.args.known.now.preset.words.items =
    omega (arith, c.new-code.ensures.words, c.len-first_word.ensures) in
    let room = room_for_code p c.requires.bounded c.requires.in_order c.args.known.now
    c.requires.allotted in
    omega (arith, planes, words, room, c.in_ok-places.ensures.few, c.in_ok-watched.ensures.few)

pub all_sources-requires-clause-held : goal.all_sources-requires-clause-held
all_sources-requires-clause-held c =
    let planes : c.new-code.result.planes ≡ length c.args.known.now.preset.planes.items =
    omega (arith, c.new-code.ensures.planes, c.len-first_plane.ensures) in
    let words : c.new-code.result.words ≡ length c.args.known.now.preset.words.items =
    omega (arith, c.new-code.ensures.words, c.len-first_word.ensures) in
    let one = c.in_ok-places.ensures.grown in
    let two = c.in_ok-watched.ensures.grown in
    table_in (program_of c.args.program.now) c.args.known.now c.requires.allotted c.args.held.now
    c.args.clear.items c.args.set.items c.requires.table c.watched.new.code
    (omega (arith, planes, one.planes, two.planes)) (omega (arith, words, one.words, two.words))

pub all_sources-requires-clause-held_for : goal.all_sources-requires-clause-held_for
all_sources-requires-clause-held_for c = c.requires.table.held_for

pub all_sources-requires-clause-all_held : goal.all_sources-requires-clause-all_held
all_sources-requires-clause-all_held c = c.requires.table.as_long

pub returns-clause-code : goal.returns-clause-code
returns-clause-code c =
    let f = program_of c.args.program.now in
    let known = c.args.known.now in
    let held = c.args.held.now in
    let code = c.all_sources.new.code in
    let emitted = c.emit_all.new.code in
    let places = c.in_ok-places.places.items in
    let w = c.in_ok-watched.watched in
    let P = c.in_ok-sources.sources.planes.items in
    let W = c.in_ok-sources.sources.words.items in
    let one = c.in_ok-places.ensures in
    let two = c.in_ok-watched.ensures in
    let three = c.in_ok-sources.ensures in
    let first_p : c.new-code.result.first_plane ≡ length c.args.known.now.preset.planes.items =
    omega (arith, c.new-code.ensures.first_plane, c.len-first_plane.ensures) in
    let first_w : c.new-code.result.first_word ≡ length c.args.known.now.preset.words.items =
    omega (arith, c.new-code.ensures.first_word, c.len-first_word.ensures) in
    let shown = subst
    (λ xs. ShowAll f emitted places xs known.constants.items held)
    c.as_slice-inputs.ensures.value
    (subst (λ xs. ShowAll f emitted places c.as_slice-inputs.result.now xs held)
    c.as_slice-constants.ensures.value one.shown) in
    let watches = subst (λ xs. AreWatched c.watched.new.code f xs w) c.as_slice.ensures.value
    two.planes in
    let sources = subst
    (λ xs. AreSources f code xs known.kept.items held known.memory_plane known.memory_word P W)
    c.as_slice-2.ensures.value three.sources in
    let made : LaneCode = record {
      code = code;
      places = c.in_ok-places.places;
      watched = w;
      plane_sources = c.in_ok-sources.sources.planes;
      word_sources = c.in_ok-sources.sources.words;
      clear = c.args.clear;
      set = c.args.set;
    } in
    is_code f known c.requires.allotted made held c.requires.table emitted c.watched.new.code
    (three.grown.first_plane ∙ two.grown.first_plane ∙ one.grown.first_plane ∙ first_p)
    (three.grown.first_word ∙ two.grown.first_word ∙ one.grown.first_word ∙ first_w)
    two.grown three.grown sources one.as_long shown watches

use Rattle.std.proofs.Common.{◌≡◌, ◌+◌, length, ap, subst, ◌∙◌, arith}
use Rattle.std.proofs.lemmas.List.{length-map}
use Rattle.lb_flat.specs.Programs.{program_of}
use Rattle.lb_flat.specs.Values.{equation_of}
use Rattle.lb_sim.specs.InputRows.{places_of, truth_columns, number_columns}
use Rattle.lb_sim.specs.Presets.{AreConstants, AreMemories}
use Rattle.lb_sim.proofs.Allotments.{constants_last}
use Rattle.lb_sim.proofs.FewPlaces.{all_planes_few, all_words_few, numbers_few, program_few}
use Rattle.lb_sim.proofs.FewPlaces.{truths_few}
use Rattle.lb_sim.proofs.allotted.allot_places.Goals as goal

pub input_values-requires-clause-few : goal.input_values-requires-clause-few
input_values-requires-clause-few c =
    let same = ap length c.as_slice.ensures.value in
    omega (arith, same, c.requires.bounded.inputs)

pub constants-requires-clause-room : goal.constants-requires-clause-room
constants-requires-clause-room c =
    let p = c.args.program.now in
    let same = ap (λ ks. length (number_columns 0 ks)) c.as_slice.ensures.value in
    let few = numbers_few 0 p.inputs.items in
    let all = program_few p c.requires.bounded c.requires.in_order in
    omega (arith, c.in_ok-inputs.ensures.words, same, few, all, c.requires.bounded.inputs)

pub memories-requires-clause-planes : goal.memories-requires-clause-planes
memories-requires-clause-planes c =
    let p = c.args.program.now in
    let same = ap (λ ks. length (truth_columns 0 ks)) c.as_slice.ensures.value in
    let kept = ap length c.in_ok-constants.ensures.planes in
    let few = truths_few 0 p.inputs.items in
    let all = program_few p c.requires.bounded c.requires.in_order in
    omega (arith, c.in_ok-inputs.ensures.planes, kept, same, few, all, c.requires.bounded.inputs)

pub memories-requires-clause-words : goal.memories-requires-clause-words
memories-requires-clause-words c =
    let p = c.args.program.now in
    let same = ap (λ ks. length (number_columns 0 ks)) c.as_slice.ensures.value in
    let more = c.in_ok-constants.ensures.few in
    let few = numbers_few 0 p.inputs.items in
    let all = program_few p c.requires.bounded c.requires.in_order in
    omega (arith, c.in_ok-inputs.ensures.words, more, same, few, all, c.requires.bounded.inputs)

pub returns : goal.returns
returns c =
    let p = c.args.program.now in
    let f = program_of p in
    let one = c.input_values.new.preset in
    let two = c.constants.new.preset in
    let three = c.memories.new.preset in
    let table = c.in_ok-constants.constants.items in
    let kept = c.in_ok-kept.kept.items in
    let known = c.in_ok-constants.ensures in
    let slice : c.as_slice.result.now ≡ p.inputs.items = c.as_slice.ensures.value in
    let cw : length one.words.items ≡ c.len-constant_word.result =
    omega (arith, c.len-constant_word.ensures) in
    let mp : length two.planes.items ≡ c.len-memory_plane.result =
    omega (arith, c.len-memory_plane.ensures) in
    let mw : length two.words.items ≡ c.len-memory_word.result =
    omega (arith, c.len-memory_word.ensures) in
    let planes : length one.planes.items ≡ 2 + length (truth_columns 0 p.inputs.items) =
    c.in_ok-inputs.ensures.planes ∙ ap (λ ks. 2 + length (truth_columns 0 ks)) slice in
    let words : length one.words.items ≡ 1 + length (number_columns 0 p.inputs.items) =
    c.in_ok-inputs.ensures.words ∙ ap (λ ks. 1 + length (number_columns 0 ks)) slice in
    let same : length two.planes.items ≡ length one.planes.items = ap length known.planes in
    record {
      inputs_at = c.in_ok-inputs.ensures.values ∙ ap (places_of 2 1) slice;
      inputs_planes = omega (arith, planes, same, mp);
      inputs_words = omega (arith, words, cw);
      constants_words = omega (arith, known.more.words, cw, mw);
      constants =
          subst
          (λ n. AreConstants f n c.len-memory_word.result three.words.items table) cw
          (subst (λ n. AreConstants f (length one.words.items) n three.words.items table) mw
          (constants_last f (length one.words.items) (length two.words.items) two three table
          c.in_ok-kept.ensures.more (omega arith) known.table));
      memories =
          subst (λ n. AreMemories f n c.len-memory_word.result three kept) mp
          (subst (λ n. AreMemories f (length two.planes.items) n three kept) mw
          c.in_ok-kept.ensures.table);
      planes_room = omega (arith, c.in_ok-kept.ensures.more.planes, mp);
      words_room = omega (arith, c.in_ok-kept.ensures.more.words, mw);
      few =
          let truths = truths_few 0 p.inputs.items in
          let numbers = numbers_few 0 p.inputs.items in
          let long = length-map p.equations.items (equation_of p.clocks.items) in
          let of_planes = all_planes_few kept f.equations (length two.planes.items)
          (length three.planes.items) c.in_ok-kept.ensures.table.planes in
          let of_words = all_words_few kept f.equations (length two.words.items)
          (length three.words.items) c.in_ok-kept.ensures.table.words in
          omega (arith, truths, numbers, long, of_planes, of_words, planes, words, same, known.few);
    }

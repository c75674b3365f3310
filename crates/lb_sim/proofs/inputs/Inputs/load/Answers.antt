use Rattle.std.proofs.Common.{◌≡◌, ◌+◌, ◌<◌, ℕ, List, [], get_or, length, sym, ap, ap₂, ◌∙◌, arith}
use Rattle.std.proofs.Common.{replicate, rules, subst}
use Rattle.std.proofs.lemmas.List.{with_items_is, places}
use Rattle.std.proofs.lemmas.List.FromFn.{get_or-range_with_len, length-range_with_len}
use Rattle.std.specs.List.{range_with_len}
use Rattle.lb_static.specs.Signature.{kinds_of}
use Rattle.lb_flat.specs.Inputs.{inputs_of}
use Rattle.lb_traces.specs.Traces.{cell_at}
use Rattle.lb_lanes.specs.Kernels.{lane_of}
use Rattle.lb_sim.specs.InputRows.{truth_columns, number_columns, lane_row, instant_in}
use Rattle.lb_sim.proofs.RowsLoaded.{amid_from_start, instant_from_start, row_loaded}
use Rattle.lb_sim.proofs.inputs.Inputs.load.Goals as goal

number_at : (n k : ℕ) → k < n → get_or (range_with_len 0 n) k 0 ≡ k
number_at n k lt = let same : 0 + k ≡ k = omega arith in get_or-range_with_len 0 n k 0 lt ∙ same

numbers_below : (n k d : ℕ) → k < length (range_with_len 0 n) → get_or (range_with_len 0 n) k d < n
numbers_below n k d lt =
    let long = length-range_with_len 0 n in
    let below : k < n = omega (arith, lt, long) in
    let at = get_or-range_with_len 0 n k d below in
    omega (arith, at, below)

pub load_truths-requires-clause-room : goal.load_truths-requires-clause-room
load_truths-requires-clause-room c =
    let x = c.args.self.now in
    let same : length c.as_mut_slice-2.result.now ≡ length c.args.self.now.planes.items =
    search rules in
    same ∙ x.planes_room ∙ x.columns.all_truths
    ∙ ap (λ kinds. length (truth_columns 0 kinds)) (sym c.requires.kinds)

pub load_numbers-requires-clause-within : goal.load_numbers-requires-clause-within
load_numbers-requires-clause-within c =
    let x = c.args.self.now in
    let same : length c.as_mut_slice-3.result.now ≡ length x.words.items = search rules in
    let is = c.as_slice-places.ensures.value ∙ x.columns.in_order in
    λ k d lt.
    subst
    (λ (l : List ℕ). k < length l → get_or l k d < length c.as_mut_slice-3.result.now) (sym is)
    (λ below.
    let there = numbers_below x.columns.numbers k d below in
    omega (arith, there, same, x.words_room))
    lt

pub load_numbers-requires-clause-room : goal.load_numbers-requires-clause-room
load_numbers-requires-clause-room c =
    let x = c.args.self.now in
    let same : length c.as_mut_slice-3.result.now ≡ length c.args.self.now.words.items =
    search rules in
    same ∙ x.words_room ∙ x.columns.all_numbers
    ∙ ap (λ kinds. length (number_columns 0 kinds)) (sym c.requires.kinds)

-- the trace of each lane began with the batch
pub invariant_of-at-clause-there : goal.invariant_of-at-clause-there
invariant_of-at-clause-there c i h e =
    amid_from_start c.args.set.now c.args.members.now 64 c.args.t i h (c.requires.live i h e)

pub returns-clause-rows : goal.returns-clause-rows
returns-clause-rows c i h e =
    let x = c.args.self.now in
    let set = c.args.set.now in
    let member = get_or c.args.members.now i 0 in
    let there = c.requires.live i h e in
    let s = instant_in (replicate 64 0) c.args.t i in
    let same : s ≡ c.args.t = instant_from_start 64 c.args.t i h in
    let planes_are = with_items_is x.planes c.load_truths.new.planes (search (rules, places)) in
    let words_are = with_items_is x.words c.load_numbers.new.words (search (rules, places)) in
    ap₂ (λ ps ws. lane_row x.columns.kinds.items ps ws i) planes_are words_are
    ∙ row_loaded set member s i x.columns.kinds.items _ _ _ _ c.signature.ensures.lawful
    c.requires.kinds (ap (truth_columns 0) c.requires.kinds)
    (ap (number_columns 0) c.requires.kinds) (c.requires.members i 0 there.member)
    (omega (arith, same, there.there)) (λ b l. c.load_truths.ensures.put i b h e l)
    (λ w l.
    let is = c.as_slice-places.ensures.value ∙ x.columns.in_order in
    let below : w < x.columns.numbers =
    omega (
      arith,
      x.columns.all_numbers,
      subst (λ ks. w < length (number_columns 0 ks)) c.requires.kinds l,
    ) in
    let long : w < length c.as_slice-places.result.now =
    subst (λ (l : List ℕ). w < length l) (sym is)
    (let n = length-range_with_len 0 x.columns.numbers in omega (arith, n, below)) in
    let at : get_or c.as_slice-places.result.now w 0 ≡ w =
    ap (λ (l : List ℕ). get_or l w 0) is ∙ number_at x.columns.numbers w below in
    subst
    (λ n.
    lane_of (get_or c.load_numbers.new.words n []) i
    ≡ cell_at set.traces member s
    (get_or (number_columns 0 (kinds_of set.signature)) n 0))
    at (c.load_numbers.ensures.put i w h e long))
    ∙ ap (λ n. get_or (inputs_of set member) n []) same

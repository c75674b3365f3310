use Rattle.std.proofs.Common.{◌≡◌, ◌<◌, ℕ, List, [], ℤ, pos, get_or, length, sym, ap₂, rules, subst}
use Rattle.std.proofs.lemmas.List.{with_items_is, places}
use Rattle.std.specs.Prelude.{int_le}
use Rattle.lb_flat.specs.Inputs.{inputs_of}
use Rattle.lb_traces.specs.Traces.{cell_at}
use Rattle.lb_lanes.specs.Kernels.{lane_of}
use Rattle.lb_lanes.specs.Planes.{on}
use Rattle.lb_sim.specs.InputRows.{truth_columns, number_columns, places_of, lane_row, instant_in}
use Rattle.lb_sim.specs.ReadInputs.{AreAlike}
use Rattle.lb_sim.proofs.RowsLoaded.{row_alike}
use Rattle.lb_sim.proofs.inputs.Inputs.load_read.Goals as goal

pub returns-clause-rows : goal.returns-clause-rows
returns-clause-rows c i h e =
    let x = c.args.self.now in
    let read = c.args.read.now in
    let set = c.args.at.now.at.set.now in
    let member = get_or c.args.at.now.at.members.now i 0 in
    let t = instant_in c.args.at.now.at.begins.now c.args.at.now.at.t i in
    let kinds = x.columns.kinds.items in
    let planes = c.load_truths_ahead-truths.new.planes in
    let words : List (List ℤ) = c.load_ahead-numbers.new.words in
    let there = c.args.at.now.at.there i h e in
    let planes_are = with_items_is x.planes planes (search (rules, places)) in
    let words_are = with_items_is x.words c.load_ahead-numbers.new.words (search (rules, places)) in
    subst
    (λ given.
    AreAlike (places_of 2 1 kinds) read.numbers.items read.truths given
    (get_or (inputs_of set member) t []))
    (sym (ap₂ (λ ps ws. lane_row kinds ps ws i) planes_are words_are))
    (row_alike set member t i kinds planes words read.numbers.items read.truths
    c.signature.ensures.lawful c.requires.kinds (c.args.at.now.at.within i 0 there.member)
    there.there
    (λ wanted b l.
    subst
    (λ ks.
    on (get_or planes b 0) i
    ≡ int_le (pos 1) (cell_at set.traces member t (get_or (truth_columns 0 ks) b 0)))
    c.requires.kinds
    (c.load_truths_ahead-truths.ensures.put wanted i b h e
    (subst (λ ks. b < length (truth_columns 0 ks)) (sym c.requires.kinds) l)))
    (subst
    (λ (ns : List ℕ).
    (k : ℕ) → k < length ns →
    lane_of (get_or words (get_or ns k 0) []) i
    ≡ cell_at set.traces member t (get_or (number_columns 0 kinds) (get_or ns k 0) 0))
    c.as_slice-places.ensures.value
    (λ k l.
    subst
    (λ ks.
    lane_of (get_or words (get_or c.as_slice-places.result.now k 0) []) i
    ≡ cell_at set.traces member t
    (get_or (number_columns 0 ks) (get_or c.as_slice-places.result.now k 0) 0))
    c.requires.kinds (c.load_ahead-numbers.ensures.put i k h e l))))

-- The cell is the integer, or what stands elsewhere is.
use Rattle.std.proofs.Common.{arith, rules, ◌≡◌, ◌<◌, ◌∙◌, ap, ap₂, sym, length, get_or, pos, w32}
use Rattle.std.proofs.Common.{int_le}
use Rattle.std.proofs.Common.{negsuc, ◌<ℤ◌, ◌≤ℤ◌}
use Rattle.std.proofs.lemmas.Int.{to_z-of_z, ints}
use Rattle.std.proofs.lemmas.List.{get_or_read}
use mir.Val.{SFits}
use Rattle.lb_traces.specs.Narrow.{Integers, value_at}
use Rattle.lb_traces.proofs.NarrowLists.{integers-told, integers-elsewhere, as-many}
use Rattle.lb_traces.proofs.NarrowLists.{told-above}
use Rattle.lb_traces.proofs.NarrowLists.{silent-below}
use Rattle.lb_traces.proofs.narrow_numbers.NarrowNumbers.get.Goals as goal

pub index-cell-requires : goal.index-cell-requires
index-cell-requires c = omega (arith, c.requires, as-many _ _ _ c.self.view_is)

pub overflow_cast-i : goal.overflow_cast-i
overflow_cast-i c = omega (arith, c.requires, c.self.invariant.few, as-many _ _ _ c.self.view_is)

pub returns-then-cell-gt-ELSEWHERE : goal.returns-then-cell-gt-ELSEWHERE
returns-then-cell-gt-ELSEWHERE c =
    let cells = c.self.inside.cells.items in
    let i = c.args.i in
    let l : i < length cells = omega (arith, c.requires, as-many _ _ _ c.self.view_is) in
    let fits : SFits w32 c.from.result = search rules in
    let here : c.index-cell.result.now ≡ get_or cells i (pos 0) =
    get_or_read cells i c.index-cell.result.now l c.index-cell.ensures (pos 0) in
    let same : c.from.result ≡ c.index-cell.result.now = search rules in
    let above : negsuc 32767 <ℤ c.index-cell.result.now = omega (arith, ints) in
    to_z-of_z w32 c.from.result fits ∙ same ∙ here
    ∙ sym (integers-told _ _ _ _ l
    (ap (λ v. int_le v (negsuc 32767)) (sym here) ∙ told-above c.index-cell.result.now above))
    ∙ ap (λ (r : Integers). get_or r.items i (pos 0)) c.self.view_is

pub returns-else-cell-gt-ELSEWHERE : goal.returns-else-cell-gt-ELSEWHERE
returns-else-cell-gt-ELSEWHERE c =
    let cells = c.self.inside.cells.items in
    let i = c.args.i in
    let l : i < length cells = omega (arith, c.requires, as-many _ _ _ c.self.view_is) in
    let fits : SFits w32 c.elsewhere.result = search rules in
    let here : c.index-cell.result.now ≡ get_or cells i (pos 0) =
    get_or_read cells i c.index-cell.result.now l c.index-cell.ensures (pos 0) in
    let below : c.index-cell.result.now ≤ℤ negsuc 32767 = omega (arith, ints) in
    to_z-of_z w32 c.elsewhere.result fits ∙ c.elsewhere.ensures
    ∙ ap₂ (λ places values. value_at places values i) c.deref.ensures.value
    c.deref-else-cell-gt-ELSEWHERE.ensures.value
    ∙ sym (integers-elsewhere _ _ _ _ l
    (ap (λ v. int_le v (negsuc 32767)) (sym here) ∙ silent-below c.index-cell.result.now below))
    ∙ ap (λ (r : Integers). get_or r.items i (pos 0)) c.self.view_is

-- Cells that all tell an integer are the integers of the row.
use Rattle.std.proofs.Common.{◌≡◌, ◌+◌, ◌<◌, ◌∙◌, ℕ, List, ℤ, ap, arith, drop, get_or, length}
use Rattle.std.proofs.Common.{pos, negsuc, subst, sym, take, false}
use Rattle.std.proofs.lemmas.List.{get_or-drop, get_or-take, get_or_default, length-drop}
use Rattle.std.proofs.lemmas.List.{length-take-le}
use Rattle.std.proofs.lemmas.List.{same_lists}
use Rattle.std.specs.Prelude.{int_le}
use Rattle.lb_traces.specs.Narrow.{AreCells}
use Rattle.lb_traces.specs.NumberRows.{IsRowHeld, row_items}
use Rattle.lb_traces.proofs.numbers.NumberRow.narrow.Goals as goal

told-cells : (cells numbers : List ℤ) (start : ℕ) → AreCells cells numbers start
    → ((w : ℕ) → w < length cells → int_le (get_or cells w (pos 0)) (negsuc 32767) ≡ false)
    → cells ≡ take (length cells) (drop start numbers)
told-cells cells numbers start held told =
    let n = length cells in
    let fits = held.within in
    let long : length (take n (drop start numbers)) ≡ n =
    length-take-le n (drop start numbers) (omega (arith, fits, length-drop start numbers)) in
    same_lists cells (take n (drop start numbers)) (sym long)
    (λ w d l.
    get_or_default cells w d (pos 0) l
    ∙ held.told w l (told w l)
    ∙ sym (get_or-take n (drop start numbers) w d l
    ∙ get_or-drop start numbers w d
    ∙ get_or_default numbers (start + w) d (pos 0) (omega (arith, l, fits))))

pub returns-in-Narrow : goal.returns-in-Narrow
returns-in-Narrow c =
    let held : AreCells c.in-Narrow.cells.now c.in-Narrow.field-1.now.items c.in-Narrow.field-2 =
    subst IsRowHeld c.in-Narrow.is c.self.invariant in
    told-cells c.in-Narrow.cells.now c.in-Narrow.field-1.now.items c.in-Narrow.field-2 held
    (c.are_integers.ensures c.if-are_integers.true)
    ∙ sym (ap row_items c.in-Narrow.is) ∙ c.self.view_is

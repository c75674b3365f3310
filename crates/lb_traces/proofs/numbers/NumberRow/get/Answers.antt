-- The integer at a place of a row is the one that stands in memory there.
use Rattle.std.proofs.Common.{◌≡◌, ℕ, ◌+◌, ◌<◌, ◌≤◌, ◌∙◌, List, ℤ, ap, arith, drop, get_or, length}
use Rattle.std.proofs.Common.{pos, subst, sym, take, w32, w64, negsuc, rules, ◌<ℤ◌}
use Rattle.std.proofs.lemmas.Int.{ints, to_z-of_z}
use Rattle.std.proofs.lemmas.List.{get_or-drop, get_or-take, length-drop, length-take-le}
use mir.Val.{Fits}
use Rattle.lb_traces.specs.Narrow.{AreCells}
use Rattle.lb_traces.proofs.NarrowLists.{told-above}
use Rattle.lb_traces.specs.NumberRows.{IsRowHeld, row_items}
use Rattle.lb_traces.proofs.numbers.NumberRow.get.Goals as goal

inside-row : (n start w : ℕ) (xs row : List ℤ) → row ≡ take n (drop start xs)
    → start + n ≤ length xs → w < length row → w < n
inside-row n start w xs row is fits l =
    let long : length (take n (drop start xs)) ≡ n =
    length-take-le n (drop start xs) (omega (arith, fits, length-drop start xs)) in
    omega (arith, l, ap length is, long)

cell-is : (n start w : ℕ) (xs row : List ℤ) → row ≡ take n (drop start xs) → w < n
    → get_or row w (pos 0) ≡ get_or xs (start + w) (pos 0)
cell-is n start w xs row is l =
    ap (λ r. get_or r w (pos 0)) is
    ∙ get_or-take n (drop start xs) w (pos 0) l
    ∙ get_or-drop start xs w (pos 0)

fits-sum : (start w n : ℕ) → w < n → start + n ≤ 4294967296 → Fits w64 (start + w)
fits-sum start w n l few = record { fits = omega (arith, l, few) }

below-sum : (start w n m : ℕ) → w < n → start + n ≤ m → start + w < m
below-sum start w n m l fits = omega (arith, l, fits)

pub bounds-cells-w : goal.bounds-cells-w
bounds-cells-w c =
    let held : AreCells c.in-Narrow.cells.now c.in-Narrow.numbers.now.items c.in-Narrow.start =
    subst IsRowHeld c.in-Narrow.is c.self.invariant in
    inside-row (length c.in-Narrow.cells.now) c.in-Narrow.start c.args.w
    c.in-Narrow.numbers.now.items c.args.self.now
    (sym c.self.view_is ∙ ap row_items c.in-Narrow.is) held.within c.requires

pub elsewhere-requires : goal.elsewhere-requires
elsewhere-requires c =
    let held : AreCells c.in-Narrow.cells.now c.in-Narrow.numbers.now.items c.in-Narrow.start =
    subst IsRowHeld c.in-Narrow.is c.self.invariant in
    below-sum c.in-Narrow.start c.args.w (length c.in-Narrow.cells.now) _
    (inside-row (length c.in-Narrow.cells.now) c.in-Narrow.start c.args.w
    c.in-Narrow.numbers.now.items c.args.self.now
    (sym c.self.view_is ∙ ap row_items c.in-Narrow.is) held.within c.requires) held.within

pub overflow_add-start : goal.overflow_add-start
overflow_add-start c =
    let held : AreCells c.in-Narrow.cells.now c.in-Narrow.numbers.now.items c.in-Narrow.start =
    subst IsRowHeld c.in-Narrow.is c.self.invariant in
    fits-sum c.in-Narrow.start c.args.w (length c.in-Narrow.cells.now)
    (inside-row (length c.in-Narrow.cells.now) c.in-Narrow.start c.args.w
    c.in-Narrow.numbers.now.items c.args.self.now
    (sym c.self.view_is ∙ ap row_items c.in-Narrow.is) held.within c.requires) held.few

pub returns-else-cell-gt-ELSEWHERE : goal.returns-else-cell-gt-ELSEWHERE
returns-else-cell-gt-ELSEWHERE c =
    let held : AreCells c.in-Narrow.cells.now c.in-Narrow.numbers.now.items c.in-Narrow.start =
    subst IsRowHeld c.in-Narrow.is c.self.invariant in
    let items = sym c.self.view_is ∙ ap row_items c.in-Narrow.is in
    to_z-of_z w32 c.elsewhere.result (record { sfits = c.elsewhere.type_inv })
    ∙ c.elsewhere.ensures
    ∙ sym (cell-is (length c.in-Narrow.cells.now) c.in-Narrow.start c.args.w
    c.in-Narrow.numbers.now.items c.args.self.now items
    (inside-row (length c.in-Narrow.cells.now) c.in-Narrow.start c.args.w
    c.in-Narrow.numbers.now.items c.args.self.now items held.within c.requires))

pub get-requires : goal.get-requires
get-requires c =
    let held = subst IsRowHeld c.in-Mixed.is c.self.invariant in
    below-sum c.in-Mixed.start c.args.w c.in-Mixed.field-2 _
    (inside-row c.in-Mixed.field-2 c.in-Mixed.start c.args.w c.in-Mixed.numbers.now.items
    c.args.self.now (sym c.self.view_is ∙ ap row_items c.in-Mixed.is) held.0 c.requires) held.0

pub overflow_add-start-in-Mixed : goal.overflow_add-start-in-Mixed
overflow_add-start-in-Mixed c =
    let held = subst IsRowHeld c.in-Mixed.is c.self.invariant in
    fits-sum c.in-Mixed.start c.args.w c.in-Mixed.field-2
    (inside-row c.in-Mixed.field-2 c.in-Mixed.start c.args.w c.in-Mixed.numbers.now.items
    c.args.self.now (sym c.self.view_is ∙ ap row_items c.in-Mixed.is) held.0 c.requires) held.1

pub returns-in-Mixed : goal.returns-in-Mixed
returns-in-Mixed c =
    let held = subst IsRowHeld c.in-Mixed.is c.self.invariant in
    let items = sym c.self.view_is ∙ ap row_items c.in-Mixed.is in
    to_z-of_z w32 c.get.result (record { sfits = c.get.type_inv })
    ∙ c.get.ensures
    ∙ sym (cell-is c.in-Mixed.field-2 c.in-Mixed.start c.args.w c.in-Mixed.numbers.now.items
    c.args.self.now items
    (inside-row c.in-Mixed.field-2 c.in-Mixed.start c.args.w c.in-Mixed.numbers.now.items
    c.args.self.now items held.0 c.requires))

pub returns-then-cell-gt-ELSEWHERE : goal.returns-then-cell-gt-ELSEWHERE
returns-then-cell-gt-ELSEWHERE c =
    let held : AreCells c.in-Narrow.cells.now c.in-Narrow.numbers.now.items c.in-Narrow.start =
    subst IsRowHeld c.in-Narrow.is c.self.invariant in
    let items = sym c.self.view_is ∙ ap row_items c.in-Narrow.is in
    let l = inside-row (length c.in-Narrow.cells.now) c.in-Narrow.start c.args.w
    c.in-Narrow.numbers.now.items c.args.self.now items held.within c.requires in
    let value : ℤ = get_or c.in-Narrow.cells.now c.args.w (pos 0) in
    let same : c.from.result ≡ value = search rules in
    let above : negsuc 32767 <ℤ value = omega (arith, ints) in
    to_z-of_z w32 c.from.result (record { sfits = c.from.type_inv })
    ∙ same
    ∙ held.told c.args.w l (told-above value above)
    ∙ sym (cell-is (length c.in-Narrow.cells.now) c.in-Narrow.start c.args.w
    c.in-Narrow.numbers.now.items c.args.self.now items l)

pub bounds-cells-w-in-Wide : goal.bounds-cells-w-in-Wide
bounds-cells-w-in-Wide c =
    subst (λ (row : List ℤ). c.args.w < length row) (sym c.self.view_is ∙ ap row_items c.in-Wide.is)
    c.requires

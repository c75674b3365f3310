-- The cells of columns that stand side by side, from the first of them on.
use Rattle.std.proofs.Common.{◌≡◌, ◌+◌, ◌-◌, ◌<◌, ◌≤◌, ◌++◌, get_or, length, take, drop, ap, sym}
use Rattle.std.proofs.Common.{◌∙◌, arith, true, is_ok, length-drop}
use Rattle.std.proofs.lemmas.List.{length-take-le}
use Rattle.lb_traces.proofs.SixteenRows.{together-cells}
use Rattle.lb_traces.proofs.numbers.push_together.Goals as goal

-- the cells lie within the row
inside : (c : goal.After-extend_from_slice) →
    get_or c.args.columns.now 0 0 + c.args.together ≤ length c.args.row.now
inside c =
    let columns = c.args.columns.now in
    let row = c.args.row.now in
    let n = c.args.together in
    let some : 0 < n = omega (arith, c.if-together-eq0.false) in
    let room = c.requires.together.within in
    let last : get_or columns (n - 1) 0 < length row =
    c.requires.columns (n - 1) 0 (omega (arith, some, room)) in
    let side = c.requires.together.side (n - 1) (omega (arith, some)) in
    omega (arith, last, side, some)

cells_of_count : (c : goal.After-extend_from_slice) →
    take (get_or c.args.columns.now 0 0 + c.args.together - get_or c.args.columns.now 0 0)
    (drop (get_or c.args.columns.now 0 0) c.args.row.now)
    ≡ take c.args.together (drop (get_or c.args.columns.now 0 0) c.args.row.now)
cells_of_count c =
    ap (λ n. take n (drop (get_or c.args.columns.now 0 0) c.args.row.now)) (omega arith)

size : (c : goal.After-extend_from_slice) →
    length (take (get_or c.args.columns.now 0 0 + c.args.together - get_or c.args.columns.now 0 0)
    (drop (get_or c.args.columns.now 0 0) c.args.row.now)) ≡ c.args.together
size c =
    let start = get_or c.args.columns.now 0 0 in
    ap length (cells_of_count c)
    ∙ length-take-le c.args.together (drop start c.args.row.now)
    (omega (arith, inside c, length-drop start c.args.row.now))

succeeds : (c : goal.After-extend_from_slice) → is_ok c.extend_from_slice.result ≡ true
succeeds c =
    let room = c.requires.room in
    let few = c.requires.together.within in
    c.extend_from_slice.ensures.succeeds (omega (arith, room, few, size c))

pub returns-clause-items : goal.returns-clause-items
returns-clause-items c =
    let ok = succeeds c in
    let items = rw ok at c.extend_from_slice.ensures.items in
    items
    ∙ ap (λ xs. c.args.numbers.now.items ++ xs) (cells_of_count c
    ∙ sym (together-cells _ _ _ c.requires.together (inside c)))

pub returns-clause-room : goal.returns-clause-room
returns-clause-room c =
    let ok = succeeds c in
    let more = rw ok at c.extend_from_slice.ensures.len in
    let room = c.requires.room in
    let few = c.requires.together.within in
    omega (arith, more, size c, room, few, c.extend_from_slice.ensures.capacity)

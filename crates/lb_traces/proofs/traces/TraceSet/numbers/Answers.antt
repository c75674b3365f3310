-- The integers of the instant lie within all integers.
use Rattle.std.proofs.Common.{arith, rules, ◌≡◌, ◌≤◌, ◌+◌, ◌*◌, length, take, drop}
use Rattle.std.proofs.Common.{get_or, pos, ap, sym, ◌∙◌, subst}
use Rattle.lb_traces.proofs.IntegerCounts.{integers-limit}
use Rattle.lb_traces.proofs.Storing.{count_of}
use Rattle.lb_traces.proofs.FoundCells.{numbers_fit, numbers_count, numbers_found}
use Rattle.lb_traces.proofs.traces.TraceSet.numbers.Goals as goal

pub index-requires : goal.index-requires
index-requires c =
    let count =
    count_of _ _ _ _ _ c.self.view_is in
    omega (arith, c.requires.trace, c.self.invariant.parts.rows.paired, count)

pub overflow_mul-start : goal.overflow_mul-start
overflow_mul-start c =
    let wide : c.len-width.result ≡ length c.self.inside.columns.integers.items = search rules in
    let fit : (c.index.result.now + c.args.t) * c.len-width.result + c.len-width.result
    ≤ length c.self.inside.numbers.items =
    subst
    (λ w. (c.index.result.now + c.args.t) * w + w ≤ length c.self.inside.numbers.items)
    (sym wide)
    (numbers_fit _ _ _ _ _ _ _ _ _ c.args.k c.self.view_is c.self.invariant c.requires.trace
    c.args.t c.index.result.now
    c.requires.instant c.index.ensures) in
    omega (arith, fit, integers-limit _ _ _ _ _ _ _ _ c.self.invariant)

pub row-requires-clause-within : goal.row-requires-clause-within
row-requires-clause-within c =
    let wide : c.len-width.result ≡ length c.self.inside.columns.integers.items = search rules in
    let fit : (c.index.result.now + c.args.t) * c.len-width.result + c.len-width.result
    ≤ length c.self.inside.numbers.items =
    subst
    (λ w. (c.index.result.now + c.args.t) * w + w ≤ length c.self.inside.numbers.items)
    (sym wide)
    (numbers_fit _ _ _ _ _ _ _ _ _ c.args.k c.self.view_is c.self.invariant c.requires.trace
    c.args.t c.index.result.now
    c.requires.instant c.index.ensures) in
    omega (arith, fit)

-- the part of all integers that the code takes
taken :
    (c : goal.After-row) →
    c.row.result
    ≡ take (length c.self.inside.columns.integers.items)
    (drop ((c.index.result.now + c.args.t) * length c.self.inside.columns.integers.items)
    c.self.inside.numbers.items)
taken c =
    let row = c.index.result.now + c.args.t in
    let wide : c.len-width.result ≡ length c.self.inside.columns.integers.items = search rules in
    c.row.ensures ∙ ap (λ w. take w (drop (row * w) c.self.inside.numbers.items)) wide

pub returns-clause-count : goal.returns-clause-count
returns-clause-count c =
    ap length (taken c)
    ∙ numbers_count _ _ _ _ _ _ _ _ _ c.args.k c.self.view_is c.self.invariant c.requires.trace
    c.args.t c.index.result.now
    c.requires.instant c.index.ensures

pub returns-clause-numbers : goal.returns-clause-numbers
returns-clause-numbers c w l =
    ap (λ xs. get_or xs w (pos 0)) (taken c)
    ∙ numbers_found _ _ _ _ _ _ _ _ _ c.args.k c.self.view_is c.self.invariant c.requires.trace
    c.args.t c.index.result.now
    c.requires.instant c.index.ensures w l

pub row-requires-clause-few : goal.row-requires-clause-few
row-requires-clause-few c =
    let wide : c.len-width.result ≡ length c.self.inside.columns.integers.items = search rules in
    let fit : (c.index.result.now + c.args.t) * c.len-width.result + c.len-width.result
    ≤ length c.self.inside.numbers.items =
    subst
    (λ w. (c.index.result.now + c.args.t) * w + w ≤ length c.self.inside.numbers.items)
    (sym wide)
    (numbers_fit _ _ _ _ _ _ _ _ _ c.args.k c.self.view_is c.self.invariant c.requires.trace
    c.args.t c.index.result.now
    c.requires.instant c.index.ensures) in
    omega (arith, fit, integers-limit _ _ _ _ _ _ _ _ c.self.invariant)

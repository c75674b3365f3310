-- The integer lies within all integers.
use Rattle.std.proofs.Common.{arith, rules, ◌≡◌, ◌<◌, ◌≤◌, ◌+◌, ◌*◌, length, get_or, ap, sym, ◌∙◌}
use Rattle.std.proofs.Common.{subst}
use Rattle.std.proofs.Common.{pos, w32}
use Rattle.std.proofs.lemmas.Int.{to_z-of_z}
use mir.Val.{SFits}
use Rattle.lb_syntax.specs.declared.tree.Kind.TheVariants.{Int}
use Rattle.lb_traces.proofs.IntegerCounts.{integers-limit}
use Rattle.lb_traces.proofs.Storing.{count_of}
use Rattle.lb_traces.proofs.FoundCells.{place_in, numbers_fit, number_within, number_found}
use Rattle.lb_traces.proofs.traces.TraceSet.int_at.Goals as goal

pub index-requires : goal.index-requires
index-requires c =
    let count =
    count_of _ _ _ _ _ c.self.view_is in
    omega (arith, c.requires.trace, c.self.invariant.parts.rows.paired, count)

pub index-requires-2 : goal.index-requires-2
index-requires-2 c =
    let within = place_in _ _ _ _ _ _ _ _ _ c.args.k c.self.view_is c.self.invariant c.requires.trace
    c.args.column Int c.requires.kind in
    omega (arith, within)

pub overflow_mul-row : goal.overflow_mul-row
overflow_mul-row c =
    let wide : c.len.result ≡ length c.self.inside.columns.integers.items = search rules in
    let fit : (c.index.result.now + c.args.t) * c.len.result + c.len.result
    ≤ length c.self.inside.numbers.items =
    subst
    (λ w. (c.index.result.now + c.args.t) * w + w ≤ length c.self.inside.numbers.items)
    (sym wide)
    (numbers_fit _ _ _ _ _ _ _ _ _ c.args.k c.self.view_is c.self.invariant c.requires.trace
    c.args.t c.index.result.now
    c.requires.instant c.index.ensures) in
    omega (arith, fit, integers-limit _ _ _ _ _ _ _ _ c.self.invariant)

pub overflow_add-row-2 : goal.overflow_add-row-2
overflow_add-row-2 c =
    let wide : c.len.result ≡ length c.self.inside.columns.integers.items = search rules in
    let fit : (c.index.result.now + c.args.t) * c.len.result + c.len.result
    ≤ length c.self.inside.numbers.items =
    subst
    (λ w. (c.index.result.now + c.args.t) * w + w ≤ length c.self.inside.numbers.items)
    (sym wide)
    (numbers_fit _ _ _ _ _ _ _ _ _ c.args.k c.self.view_is c.self.invariant c.requires.trace
    c.args.t c.index.result.now
    c.requires.instant c.index.ensures) in
    let place : c.index-2.result.now < c.len.result =
    omega (
      arith,
      number_within _ _ _ _ _ _ _ _ _ c.args.k c.self.view_is c.self.invariant
          c.requires.trace c.args.t c.index.result.now
          c.requires.instant c.index.ensures
          c.args.column c.index-2.result.now c.index-2.ensures c.requires.kind,
      wide,
    ) in
    omega (arith, fit, place, integers-limit _ _ _ _ _ _ _ _ c.self.invariant)

pub get-requires : goal.get-requires
get-requires c =
    let wide : c.len.result ≡ length c.self.inside.columns.integers.items = search rules in
    let fit : (c.index.result.now + c.args.t) * c.len.result + c.len.result
    ≤ length c.self.inside.numbers.items =
    subst
    (λ w. (c.index.result.now + c.args.t) * w + w ≤ length c.self.inside.numbers.items)
    (sym wide)
    (numbers_fit _ _ _ _ _ _ _ _ _ c.args.k c.self.view_is c.self.invariant c.requires.trace
    c.args.t c.index.result.now
    c.requires.instant c.index.ensures) in
    let place : c.index-2.result.now < c.len.result =
    omega (
      arith,
      number_within _ _ _ _ _ _ _ _ _ c.args.k c.self.view_is c.self.invariant
          c.requires.trace c.args.t c.index.result.now
          c.requires.instant c.index.ensures
          c.args.column c.index-2.result.now c.index-2.ensures c.requires.kind,
      wide,
    ) in
    omega (arith, fit, place)

pub returns : goal.returns
returns c =
    let wide : c.len.result ≡ length c.self.inside.columns.integers.items = search rules in
    let fit : (c.index.result.now + c.args.t) * c.len.result + c.len.result
    ≤ length c.self.inside.numbers.items =
    subst
    (λ w. (c.index.result.now + c.args.t) * w + w ≤ length c.self.inside.numbers.items)
    (sym wide)
    (numbers_fit _ _ _ _ _ _ _ _ _ c.args.k c.self.view_is c.self.invariant c.requires.trace
    c.args.t c.index.result.now
    c.requires.instant c.index.ensures) in
    let place : c.index-2.result.now < c.len.result =
    omega (
      arith,
      number_within _ _ _ _ _ _ _ _ _ c.args.k c.self.view_is c.self.invariant
          c.requires.trace c.args.t c.index.result.now
          c.requires.instant c.index.ensures
          c.args.column c.index-2.result.now c.index-2.ensures c.requires.kind,
      wide,
    ) in
    let row = c.index.result.now + c.args.t in
    let inside : (c.index.result.now + c.args.t) * c.len.result + c.index-2.result.now
    < length c.self.inside.numbers.items = omega (arith, fit, place) in
    let fits : SFits w32 c.get.result = search rules in
    to_z-of_z w32 c.get.result fits ∙ c.get.ensures
    ∙ ap
    (λ w. get_or c.self.inside.numbers.items (row * w + c.index-2.result.now) (pos 0)) wide
    ∙ number_found _ _ _ _ _ _ _ _ _ c.args.k c.self.view_is c.self.invariant c.requires.trace
    c.args.t c.index.result.now
    c.requires.instant c.index.ensures
    c.args.column c.index-2.result.now c.index-2.ensures c.requires.kind

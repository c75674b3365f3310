-- A section is judged by itself.
use Rattle.std.proofs.Common.{◌≡◌, ◌≤◌, ◌+◌, ◌==◌, arith, get_or, length, subst}
use Rattle.lb_feed.specs.SectionEnds.{start_of}
use Rattle.lb_feed.proofs.RangeEnds.{range_past}
use Rattle.lb_report.specs.Ranges.{IsRangeTold}
use Rattle.lb_report.proofs.sections.fn.told_ranges.map.Goals as goal

pub judge_range-requires-clause-ordered : goal.judge_range-requires-clause-ordered
judge_range-requires-clause-ordered g c =
    let start : c.start_at-start.result ≡ start_of c.captures.from c.captures.ends.now c.args.i =
    c.start_at-start.ensures in
    let up : start_of c.captures.from c.captures.ends.now c.args.i
    ≤ get_or c.captures.ends.now c.args.i 0 =
    c.requires.1.1.follow.ordered c.args.i c.requires.2 in
    omega (arith, start, up)

pub judge_range-requires-clause-short : goal.judge_range-requires-clause-short
judge_range-requires-clause-short g c =
    let down : get_or c.captures.ends.now c.args.i 0 ≤ c.requires.1.0 =
    range_past c.captures.from c.requires.1.0 c.captures.ends.now c.requires.1.1 c.args.i
    c.requires.2 in
    omega (arith, down, c.requires.1.1.short)

pub returns : goal.returns
returns g c =
    let ends = c.captures.ends.now in
    let i = c.args.i in
    let start : c.start_at-start.result ≡ start_of c.captures.from ends i =
    c.start_at-start.ensures in
    subst (λ s. IsRangeTold c.captures.rounds.now.runner.program.now.program.now
    c.captures.rounds.now.signature.now c.captures.table.now
    (g.F.PlacedFile.bytes c.captures.file.now) s (get_or ends i 0) (i + 1 == length ends)
    c.judge_range.result) start c.judge_range.ensures

-- Each section is judged by itself, in the order of the file.
use Rattle.std.proofs.Common.{◌≡◌, ℕ, ◌<◌, ◌+◌, ◌-◌, ◌==◌, ◌∙◌, Result, length, ap, get_or, subst}
use Rattle.std.proofs.Common.{arith, sym}
use Rattle.std.specs.List.{AllZip, range_with_len}
use Rattle.rayon.specs.Numbers.{nat_range}
use Rattle.rayon.specs.Lists.{min_len_base}
use Rattle.rayon.proofs.ListFacts.{AllZip-weaken, IfOk-then}
use Rattle.rayon.proofs.ToStd.{nat_range-All}
use Rattle.lb_trace.specs.Tables.{IsColumnTable}
use Rattle.lb_feed.specs.Ranges.{AreRangeEnds}
use Rattle.lb_feed.specs.SectionEnds.{start_of}
use Rattle.lb_report.specs.Ranges.{IsRangeTold}
use Rattle.lb_report.specs.declared.rounds.Halt.{Halt}
use Rattle.lb_report.specs.declared.rounds.Judged.{Judged}
use Rattle.lb_report.proofs.sections.told_ranges.Goals as goal

pub collect-requires-clause-ready : goal.collect-requires-clause-ready
collect-requires-clause-ready g c κs lawful =
    let elements = c.args.rounds.now.signature.now in
    let ends = c.args.ends.now in
    let range = c.into_par_iter.ensures in
    let inside = nat_range-All
    (λ i. IsColumnTable elements c.args.table.now
    × ((size : ℕ) × AreRangeEnds c.args.from size ends) × (i < length ends))
    0 (length ends)
    (λ i low high. (c.requires.table, c.requires.ends, omega (arith, high))) in
    rw (
      c.map.ensures.base,
      c.map.ensures.f,
      c.with_min_len.ensures.base,
      range.0,
      range.1,
    )
    (λ k d below. (
      (
        inside k d below,
        (
          record { shared = c.type_bounds.sync-R.shared },
          record { shared = c.type_bounds.sync-F.shared },
        ),
      ),
      λ y given. tt,
    ))

pub returns : goal.returns
returns g c =
    let ends = c.args.ends.now in
    let p = c.args.rounds.now.runner.program.now.program.now in
    let elements = c.args.rounds.now.signature.now in
    let R : ℕ → Result Judged Halt → Type 0 =
    λ i one. IsRangeTold p elements c.args.table.now (g.F.PlacedFile.bytes c.args.file.now)
    (start_of c.args.from ends i) (get_or ends i 0) (i + 1 == length ends) one in
    let range = c.into_par_iter.ensures in
    let whole : length ends - 0 ≡ length ends = omega arith in
    let base = ap min_len_base c.map.ensures.base ∙ c.with_min_len.ensures.base in
    IfOk-then c.collect.result _ _ c.collect.ensures (λ v h.
    let link = h.1 in
    let places : link.0 ≡ range_with_len 0 (length ends) =
    link.1 ∙ (λ i. nat_range (base i).start (base i).end)
    ∙ (λ i. nat_range (range.0 i) (range.1 i)) ∙ ap (range_with_len 0) whole in
    let zip : AllZip R link.0 h.0 =
    AllZip-weaken _ R (λ i one k. rw c.map.ensures.f at k) link.0 h.0 link.2 in
    subst (AllZip R (range_with_len 0 (length ends))) (sym h.2)
    (subst (λ l. AllZip R l h.0) places zip))

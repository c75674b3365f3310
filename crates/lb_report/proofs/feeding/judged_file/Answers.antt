-- The header is read from the first bytes of a file, and the rest in sections.
use Rattle.std.proofs.Common.{◌≡◌, ◌∙◌, ◌≤◌, ◌-◌, Some, ap, arith, length, subst, sym}
use Rattle.std.specs.Io.KnownBytes.{Consumes}
use Rattle.lb_feed.specs.SectionEnds.{AreEnds}
use Rattle.lb_feed.specs.Windows.{left, text_in}
use Rattle.lb_feed.proofs.PlacedFiles.{from_begin}
use Rattle.lb_feed.proofs.WholeFiles.{came_within}
use Rattle.lb_report.specs.Ranges.{IsFileJudged}
use Rattle.lb_report.proofs.RangeFiles.{file_told}
use Rattle.lb_report.proofs.feeding.judged_file.Goals as goal

pub ends_in_file-requires-clause-within : goal.ends_in_file-requires-clause-within
ends_in_file-requires-clause-within g c =
    let after = c.read_header.new.window in
    let head = c.in-Ok-read_header.ensures.ok in
    let bytes = c.in_ok-bytes.bytes.items in
    let last = c.read_header.new.feed in
    let came : length head.read.more ≤ length bytes =
    came_within bytes (Some last.rest.now) head.read.more
    (subst (λ o. Consumes o (Some last.rest.now) head.read.more)
    (c.new-head.ensures.coming ∙ ap Some c.as_slice.ensures.value) head.read.consumed) in
    let long : length c.text.result.now ≡ length (text_in after) = ap length c.text.ensures in
    omega (
      arith,
      c.read.ensures,
      long,
      head.read.counted,
      c.in-Ok-new.ensures.begun.0,
      came,
      c.in_ok-bytes.ensures.within,
    )

pub judge_ranges-requires-clause-ends : goal.judge_ranges-requires-clause-ends
judge_ranges-requires-clause-ends g c κs lawful = record {
  follow = subst (AreEnds (c.read.result - length c.text.result.now) c.args.size)
      (sym c.as_slice-2.ensures.value) c.in-Ok-ends_in_file.ensures;
  short = c.requires.short;
}

pub returns : goal.returns
returns g c =
    let rounds = c.rounds_of-rounds.result in
    let p = rounds.runner.program.now.program.now in
    let elements = rounds.signature.now in
    let after = c.read_header.new.window in
    let first = c.new-head.result in
    let last = c.read_header.new.feed in
    let long : length c.text.result.now ≡ length (text_in after) = ap length c.text.ensures in
    let bytes = g.F.PlacedFile.bytes c.args.file.now in
    let may_fail = g.F.PlacedFile.may_fail in
    let told = file_told p elements c.in-Ok-read_header.table bytes c.args.size c.requires.size
    c.in_ok-bytes.bytes.items _ (from_begin bytes _ _ c.in_ok-bytes.ensures.next)
    c.in-Ok-new.window after
    (left (Some first.rest.now) first.given 0) (left (Some last.rest.now) last.given 0)
    c.in-Ok-new.ensures.empty c.in-Ok-new.ensures.begun.0
    (c.new-head.ensures.coming ∙ ap Some c.as_slice.ensures.value) c.in-Ok-read_header.ensures.ok
    (c.is_done.ensures.left c.if-is_done.false) (c.read.result - length c.text.result.now)
    (omega (arith, c.read.ensures, long)) may_fail c.judge_ranges.result
    c.judge_ranges.ensures.ok c.judge_ranges.ensures.err in
    let found = c.judge_ranges.result in
    subst (λ es. IsFileJudged c.args.program.now.ordered.program es bytes may_fail found)
    c.rounds_of-rounds.ensures.signature
    (subst (λ q. IsFileJudged q elements bytes may_fail found)
    (c.rounds_of-rounds.ensures.program ∙ c.in-Ok.ensures) told)

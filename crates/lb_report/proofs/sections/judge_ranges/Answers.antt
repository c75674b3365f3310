-- All sections are judged by themselves and appended. From one that is not judged by itself on, one
-- worker judges.
use Rattle.std.proofs.Common.{◌≡◌, ◌≤◌, [], Some, arith, length, refl}
use Rattle.std.proofs.Common.{subst, take}
use Rattle.std.proofs.lemmas.Result.{IfErr-weaker, IfOk-weaker}
use Rattle.std.specs.List.{range_with_len}
use Rattle.lb_trace.specs.declared.error.TraceError.TheVariants.{Memory}
use Rattle.lb_feed.proofs.Passing.{passes_on}
use Rattle.lb_feed.specs.SectionEnds.{start_of}
use Rattle.lb_feed.proofs.RangeEnds.{range_start}
use Rattle.lb_report.specs.Ranges.{AreRangesJudged, IsRangesHalt}
use Rattle.lb_report.specs.Sections.{IsHaltAfter, lines_of}
use Rattle.lb_report.specs.declared.rounds.Halt.{Halt}
use Rattle.lb_report.specs.declared.rounds.Halt.TheVariants.{Refused}
use Rattle.lb_report.proofs.PartReads.{judged_none}
use Rattle.lb_report.proofs.RangeReads.{halt_told, halt_within, onward_halted, onward_judged}
use Rattle.lb_report.proofs.RangeReads.{ranges_judged, ranges_memory, ranges_refused}
use Rattle.lb_report.proofs.RangeReads.{rolls_of, texts_of, told_long}
use Rattle.lb_report.proofs.sections.judge_ranges.Goals as goal

pub returns-in_err-told-clause-err : goal.returns-in_err-told-clause-err
returns-in_err-told-clause-err g c =
    let elements = c.args.rounds.now.signature.now in
    let table = c.args.table.now in
    let e = c.in_err-told.field-0.0 in
    let bytes = g.F.PlacedFile.bytes c.args.file.now in
    let Is : Halt → Type 0 =
    IsRangesHalt elements table [] bytes g.F.PlacedFile.may_fail c.args.from c.args.size in
    passes_on c.from_residual.result (Refused (Memory e)) Is c.from_residual.ensures.1
    (ranges_memory elements table [] bytes c.args.from c.args.size (Memory e)
    (range_start c.args.from c.args.size c.args.ends.now c.requires.ends 0 (omega arith))
    c.requires.ends.short refl)

pub returns-in_err-begun-clause-err : goal.returns-in_err-begun-clause-err
returns-in_err-begun-clause-err g c =
    let elements = c.args.rounds.now.signature.now in
    let table = c.args.table.now in
    let e = c.in_err-begun.field-0.0 in
    let bytes = g.F.PlacedFile.bytes c.args.file.now in
    let Is : Halt → Type 0 =
    IsRangesHalt elements table [] bytes g.F.PlacedFile.may_fail c.args.from c.args.size in
    passes_on c.from_residual-in_err-begun.result (Refused (Memory e)) Is
    c.from_residual-in_err-begun.ensures.1
    (ranges_memory elements table [] bytes c.args.from c.args.size (Memory e)
    (range_start c.args.from c.args.size c.args.ends.now c.requires.ends 0 (omega arith))
    c.requires.ends.short refl)

pub append_all-requires-clause-before : goal.append_all-requires-clause-before
append_all-requires-clause-before g c =
    let p = c.args.rounds.now.runner.program.now.program.now in
    (c.in_ok-begun.ensures p).names.is

pub append_all-requires-clause-rolls : goal.append_all-requires-clause-rolls
append_all-requires-clause-rolls g c =
    let p = c.args.rounds.now.runner.program.now.program.now in
    let elements = c.args.rounds.now.signature.now in
    let ends = c.args.ends.now in
    let bytes = g.F.PlacedFile.bytes c.args.file.now in
    rolls_of p elements c.args.table.now bytes c.args.from ends (range_with_len 0 (length ends))
    c.in_ok-told.told.items c.in_ok-told.ensures

pub returns-in_err-all-clause-err : goal.returns-in_err-all-clause-err
returns-in_err-all-clause-err g c =
    let p = c.args.rounds.now.runner.program.now.program.now in
    let elements = c.args.rounds.now.signature.now in
    let table = c.args.table.now in
    let bytes = g.F.PlacedFile.bytes c.args.file.now in
    let from = c.args.from in
    let size = c.args.size in
    let ends = c.args.ends.now in
    let told = c.in_ok-told.told.items in
    let t = texts_of p elements table bytes from ends (range_with_len 0 (length ends)) told
    c.in_ok-told.ensures in
    let all = told_long p elements table bytes from ends told c.in_ok-told.ensures in
    let part = judged_none p elements table c.in_ok-begun.begun (c.in_ok-begun.ensures p) in
    let e = c.in_err-all.field-0.0 in
    let may_fail = g.F.PlacedFile.may_fail in
    let Is : Halt → Type 0 = IsRangesHalt elements table [] bytes may_fail from size in
    passes_on c.from_residual-in_err-all.result (Refused e) Is
    c.from_residual-in_err-all.ensures.1
    (ranges_refused p elements table bytes from ends size c.requires.ends told t all e
    (c.in_err-all.ensures.err p elements [] t.texts c.requires.table part t.sections))

pub returns-in_default-clause-ok : goal.returns-in_default-clause-ok
returns-in_default-clause-ok g c =
    let p = c.args.rounds.now.runner.program.now.program.now in
    let elements = c.args.rounds.now.signature.now in
    let table = c.args.table.now in
    let bytes = g.F.PlacedFile.bytes c.args.file.now in
    let from = c.args.from in
    let size = c.args.size in
    let ends = c.args.ends.now in
    let told = c.in_ok-told.told.items in
    let t = texts_of p elements table bytes from ends (range_with_len 0 (length ends)) told
    c.in_ok-told.ensures in
    let all = told_long p elements table bytes from ends told c.in_ok-told.ensures in
    let part = judged_none p elements table c.in_ok-begun.begun (c.in_ok-begun.ensures p) in
    let a = c.in_ok-all.field-0 in
    let known = c.in_ok-all.ensures.ok p elements [] t.texts c.requires.table part t.sections in
    let count : a.count ≡ length t.texts =
    subst (IsHaltAfter a.count (length t.texts)) c.in_default.is known.stopped in
    ranges_judged p elements table bytes from ends size c.requires.ends told t all a known
    (omega (arith, count))

pub returns-then-not-goes_on_alone-clause-err : goal.returns-then-not-goes_on_alone-clause-err
returns-then-not-goes_on_alone-clause-err g c =
    let p = c.args.rounds.now.runner.program.now.program.now in
    let elements = c.args.rounds.now.signature.now in
    let table = c.args.table.now in
    let bytes = g.F.PlacedFile.bytes c.args.file.now in
    let from = c.args.from in
    let size = c.args.size in
    let ends = c.args.ends.now in
    let told = c.in_ok-told.told.items in
    let t = texts_of p elements table bytes from ends (range_with_len 0 (length ends)) told
    c.in_ok-told.ensures in
    let all = told_long p elements table bytes from ends told c.in_ok-told.ensures in
    let part = judged_none p elements table c.in_ok-begun.begun (c.in_ok-begun.ensures p) in
    let a = c.in_ok-all.field-0 in
    let known = c.in_ok-all.ensures.ok p elements [] t.texts c.requires.table part t.sections in
    let is : a.halt ≡ Some c.in-Some.halt = c.in-Some.is in
    let stopped = subst (IsHaltAfter a.count (length t.texts)) is known.stopped in
    halt_told elements table [] bytes g.F.PlacedFile.may_fail from size c.in-Some.halt
    (range_start from size ends c.requires.ends 0 (omega arith)) c.requires.ends.short stopped.1

pub start_at-start-requires : goal.start_at-start-requires
start_at-start-requires g c =
    let p = c.args.rounds.now.runner.program.now.program.now in
    let elements = c.args.rounds.now.signature.now in
    let table = c.args.table.now in
    let bytes = g.F.PlacedFile.bytes c.args.file.now in
    let from = c.args.from in
    let size = c.args.size in
    let ends = c.args.ends.now in
    let told = c.in_ok-told.told.items in
    let t = texts_of p elements table bytes from ends (range_with_len 0 (length ends)) told
    c.in_ok-told.ensures in
    let all = told_long p elements table bytes from ends told c.in_ok-told.ensures in
    let part = judged_none p elements table c.in_ok-begun.begun (c.in_ok-begun.ensures p) in
    let a = c.in_ok-all.field-0 in
    let known = c.in_ok-all.ensures.ok p elements [] t.texts c.requires.table part t.sections in
    let within : a.count ≤ length t.texts =
    halt_within a.count (length t.texts) a.halt known.stopped
    in
    omega (arith, within, t.long, all)

pub judge_onward-requires-clause-ordered : goal.judge_onward-requires-clause-ordered
judge_onward-requires-clause-ordered g c =
    let p = c.args.rounds.now.runner.program.now.program.now in
    let elements = c.args.rounds.now.signature.now in
    let table = c.args.table.now in
    let bytes = g.F.PlacedFile.bytes c.args.file.now in
    let from = c.args.from in
    let size = c.args.size in
    let ends = c.args.ends.now in
    let told = c.in_ok-told.told.items in
    let t = texts_of p elements table bytes from ends (range_with_len 0 (length ends)) told
    c.in_ok-told.ensures in
    let all = told_long p elements table bytes from ends told c.in_ok-told.ensures in
    let part = judged_none p elements table c.in_ok-begun.begun (c.in_ok-begun.ensures p) in
    let a = c.in_ok-all.field-0 in
    let known = c.in_ok-all.ensures.ok p elements [] t.texts c.requires.table part t.sections in
    let within : a.count ≤ length t.texts =
    halt_within a.count (length t.texts) a.halt known.stopped
    in
    let below : a.count ≤ length ends = omega (arith, within, t.long, all) in
    let start : c.start_at-start.result ≡ start_of from ends a.count = c.start_at-start.ensures in
    omega (arith, start, range_start from size ends c.requires.ends a.count below)

pub returns-clause-ok : goal.returns-clause-ok
returns-clause-ok g c =
    let p = c.args.rounds.now.runner.program.now.program.now in
    let elements = c.args.rounds.now.signature.now in
    let table = c.args.table.now in
    let bytes = g.F.PlacedFile.bytes c.args.file.now in
    let from = c.args.from in
    let size = c.args.size in
    let ends = c.args.ends.now in
    let told = c.in_ok-told.told.items in
    let t = texts_of p elements table bytes from ends (range_with_len 0 (length ends)) told
    c.in_ok-told.ensures in
    let all = told_long p elements table bytes from ends told c.in_ok-told.ensures in
    let part = judged_none p elements table c.in_ok-begun.begun (c.in_ok-begun.ensures p) in
    let a = c.in_ok-all.field-0 in
    let known = c.in_ok-all.ensures.ok p elements [] t.texts c.requires.table part t.sections in
    let within : a.count ≤ length t.texts =
    halt_within a.count (length t.texts) a.halt known.stopped
    in
    let is : a.halt ≡ Some c.in-Some.halt = c.in-Some.is in
    let stopped = subst (IsHaltAfter a.count (length t.texts)) is known.stopped in
    let rows = lines_of (take a.count t.texts) in
    let start : c.start_at-start.result ≡ start_of from ends a.count =
    c.start_at-start.ensures in
    IfOk-weaker c.judge_onward.result _ _
    (λ j is.
    onward_judged p elements table bytes from ends size c.requires.ends told t all a.count j
    stopped.0 known.plain
    (subst (λ s. AreRangesJudged p elements table rows bytes s size j) start
    (is rows known.part)))
    c.judge_onward.ensures.ok

pub returns-clause-err : goal.returns-clause-err
returns-clause-err g c =
    let p = c.args.rounds.now.runner.program.now.program.now in
    let elements = c.args.rounds.now.signature.now in
    let table = c.args.table.now in
    let bytes = g.F.PlacedFile.bytes c.args.file.now in
    let may_fail = g.F.PlacedFile.may_fail in
    let from = c.args.from in
    let size = c.args.size in
    let ends = c.args.ends.now in
    let told = c.in_ok-told.told.items in
    let t = texts_of p elements table bytes from ends (range_with_len 0 (length ends)) told
    c.in_ok-told.ensures in
    let all = told_long p elements table bytes from ends told c.in_ok-told.ensures in
    let part = judged_none p elements table c.in_ok-begun.begun (c.in_ok-begun.ensures p) in
    let a = c.in_ok-all.field-0 in
    let known = c.in_ok-all.ensures.ok p elements [] t.texts c.requires.table part t.sections in
    let within : a.count ≤ length t.texts =
    halt_within a.count (length t.texts) a.halt known.stopped
    in
    let is : a.halt ≡ Some c.in-Some.halt = c.in-Some.is in
    let stopped = subst (IsHaltAfter a.count (length t.texts)) is known.stopped in
    let rows = lines_of (take a.count t.texts) in
    let start : c.start_at-start.result ≡ start_of from ends a.count =
    c.start_at-start.ensures in
    IfErr-weaker c.judge_onward.result _ _
    (λ h is.
    onward_halted p elements table bytes from ends size c.requires.ends told t all may_fail a.count
    h stopped.0 known.plain
    (subst (λ s. IsRangesHalt elements table rows bytes may_fail s size h) start
    (is rows known.part)))
    c.judge_onward.ensures.err

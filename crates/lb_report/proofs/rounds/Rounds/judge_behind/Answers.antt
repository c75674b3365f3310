-- The end of a line is read before the text.
use Rattle.std.proofs.Common.{ℕ, List, [], ◌∷◌, ◌++◌, ap, ◌∙◌, subst, refl}
use Rattle.std.proofs.lemmas.Result.{IfErr-weaker, IfOk-weaker}
use Rattle.lb_trace.specs.Spelling.{Record}
use Rattle.lb_trace.specs.declared.error.TraceError.TheVariants.{Memory}
use Rattle.lb_feed.proofs.Passing.{passes_on}
use Rattle.lb_report.specs.JudgedParts.{HasHaltedAt, HasRoll, IsJudgedFrom, IsPartRead}
use Rattle.lb_report.specs.declared.rounds.Halt.{Halt}
use Rattle.lb_report.specs.declared.rounds.Halt.TheVariants.{Refused}
use Rattle.lb_report.proofs.QuotedTexts.{halted_at_once}
use Rattle.lb_report.proofs.rounds.Rounds.judge_behind.Goals as goal

pub returns-clause-ok : goal.returns-clause-ok
returns-clause-ok g c =
    let p = c.args.self.now.runner.program.now.program.now in
    let elements = c.args.self.now.signature.now in
    let table = c.args.table.now in
    let line = c.as_slice.result.now in
    let whole = c.as_slice.ensures.value ∙ c.in_ok-extend_from_slice.ensures.items
    ∙ ap (λ (t : List ℕ). t ++ c.args.text.now)
    (c.in_ok-line.ensures.items_if_clones_equal (λ x y e. e)) in
    IfOk-weaker c.judge_records.result _
    (λ judged. (rows : List Record) → IsPartRead p elements table rows c.args.state
    → IsJudgedFrom p elements table (10 ∷ c.args.text.now) [] rows judged)
    (λ judged given rows is.
    subst (λ (t : List ℕ). IsJudgedFrom p elements table t [] rows judged) whole
    (given line [] rows c.reader_of-reader.ensures is))
    c.judge_records.ensures.ok

pub returns-clause-err : goal.returns-clause-err
returns-clause-err g c =
    let p = c.args.self.now.runner.program.now.program.now in
    let elements = c.args.self.now.signature.now in
    let table = c.args.table.now in
    let line = c.as_slice.result.now in
    let whole = c.as_slice.ensures.value ∙ c.in_ok-extend_from_slice.ensures.items
    ∙ ap (λ (t : List ℕ). t ++ c.args.text.now)
    (c.in_ok-line.ensures.items_if_clones_equal (λ x y e. e)) in
    IfErr-weaker c.judge_records.result _
    (λ halt. (rows : List Record) → IsPartRead p elements table rows c.args.state
    → HasHaltedAt elements table (10 ∷ c.args.text.now) [] rows halt)
    (λ halt given rows is.
    subst (λ (t : List ℕ). HasHaltedAt elements table t [] rows halt) whole
    (given line [] rows c.reader_of-reader.ensures is))
    c.judge_records.ensures.err

pub returns-in_err-line-clause-err : goal.returns-in_err-line-clause-err
returns-in_err-line-clause-err g c =
    let p = c.args.self.now.runner.program.now.program.now in
    let elements = c.args.self.now.signature.now in
    let table = c.args.table.now in
    let e = Memory c.in_err-line.field-0.0 in
    let Is : Halt → Type 0 = λ halt. (rows : List Record)
    → IsPartRead p elements table rows c.args.state
    → HasHaltedAt elements table (10 ∷ c.args.text.now) [] rows halt in
    passes_on c.from_residual.result (Refused e) Is c.from_residual.ensures.1
    (λ rows is. halted_at_once elements table (10 ∷ c.args.text.now) rows e refl)

pub returns-in_err-line-clause-kept : goal.returns-in_err-line-clause-kept
returns-in_err-line-clause-kept g c =
    passes_on c.from_residual.result (Refused (Memory c.in_err-line.field-0.0)) HasRoll
    c.from_residual.ensures.1 tt

pub returns-in_err-extend_from_slice-clause-err : goal.returns-in_err-extend_from_slice-clause-err
returns-in_err-extend_from_slice-clause-err g c =
    let p = c.args.self.now.runner.program.now.program.now in
    let elements = c.args.self.now.signature.now in
    let table = c.args.table.now in
    let e = Memory c.in_err-extend_from_slice.field-0.0 in
    let Is : Halt → Type 0 = λ halt. (rows : List Record)
    → IsPartRead p elements table rows c.args.state
    → HasHaltedAt elements table (10 ∷ c.args.text.now) [] rows halt in
    passes_on c.from_residual-in_err-extend_from_slice.result (Refused e) Is
    c.from_residual-in_err-extend_from_slice.ensures.1
    (λ rows is. halted_at_once elements table (10 ∷ c.args.text.now) rows e refl)

pub returns-in_err-extend_from_slice-clause-kept :
    goal.returns-in_err-extend_from_slice-clause-kept
returns-in_err-extend_from_slice-clause-kept g c =
    passes_on c.from_residual-in_err-extend_from_slice.result
    (Refused (Memory c.in_err-extend_from_slice.field-0.0)) HasRoll
    c.from_residual-in_err-extend_from_slice.ensures.1 tt

use Rattle.std.proofs.Common.{◌≡◌, ◌∙◌, ℕ, ap, ap₂, length}
use Rattle.lb_flat.specs.Inputs.{inputs_of}
use Rattle.lb_flat.specs.Programs.{program_of}
use Rattle.lb_traces.specs.Traces.{trace_at}
use Rattle.lb_csv.specs.Players.{inputs_played, next_played, program_played}
use Rattle.lb_csv.specs.Shown.{names_of, numbers_of}
use Rattle.lb_csv.specs.Verdicts.{deciding}
use Rattle.lb_csv.specs.Windows.{end_at, first_at}
use Rattle.lb_csv.proofs.Records.{spelled_by}
use Rattle.lb_show.proofs.show.Show.new.Goals as goal

pub returns-in-None-clause-csv : goal.returns-in-None-clause-csv
returns-in-None-clause-csv c = λ format.
    let k = c.in-Some.k in
    let set = c.args.set.now in
    let player = c.in_ok-player.player in
    let played = c.in_ok-player.ensures in
    let columns = c.in_ok-columns.columns.items in
    let options = c.args.options.now in
    let end = end_at (deciding c.in_ok-verdict.verdict) (length (trace_at set.traces k).1) in
    let is_end : c.end_at-end.result ≡ end =
    c.end_at-end.ensures ∙ ap₂ end_at c.deciding.ensures c.length.ensures.instants in
    let is_first : c.first_at-first.result ≡ first_at options.last end =
    c.first_at-first.ensures.value
    ∙ ap₂ first_at (c.last_of.ensures format) is_end in (
      c.csv.ensures.csv,
      record {
        number = k;
        is_trace = c.in-Some.ensures.within;
        named = c.in-Some.ensures.named;
        verdict = c.in_ok-verdict.verdict;
        is_verdict = c.in_ok-verdict.ensures;
        columns = columns;
        spelled =
            spelled_by (names_of columns) (numbers_of columns)
            (program_of c.args.ordered.now.program) (program_played player) (inputs_of set k)
            (inputs_played player) (first_at options.last end) (next_played player) end
            player.end _ played.program played.inputs (played.first ∙ is_first)
            (played.end ∙ is_end) c.csv.ensures.rest;
      },
    )

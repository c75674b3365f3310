-- A byte at which no marker line begins is a byte of the source.
use Rattle.std.proofs.Common.{◌≡◌, ◌∙◌, ◌-◌, None, ap, drop, length, rules, sym, take}
use Rattle.std.proofs.lemmas.List.{take_rest}
use Rattle.lb_feed.specs.Cases as spec
use Rattle.lb_feed.proofs.CaseParts.{marker_at, next_source, next_traces}
use Rattle.lb_feed.proofs.case.split_case.Goals as goal
use Rattle.lb_feed.proofs.case.split_case.Goals.{else-at_start-via-else-at_start}
use Rattle.lb_feed.proofs.case.split_case.Goals.{else-at_start-via-then-at_start+in-None-1}

pub loop-i-preserved : goal.loop-i-preserved
loop-i-preserved c =
    let text = c.args.text.now in
    let i = c.loop-i.i in
    let at_start = c.loop-i.at_start in
    let before = c.loop-i.invariant in
    let none : marker_at at_start (drop i text) ≡ None =
    elim c.else-at_start.branch [
      | else-at_start-via-else-at_start w ↦
          ap (λ start. marker_at start (drop i text)) w.if-at_start.false
      | else-at_start-via-then-at_start+in-None-1 w ↦
          let found : spec.marker (take (length text - i) (drop i text)) ≡ None = search rules in
          ap (λ start. marker_at start (drop i text)) w.if-at_start.true
          ∙ ap spec.marker (sym (take_rest text i)) ∙ found
    ] in (
      next_source text i at_start c.loop-i-test.true none _ before.0,
      next_traces text i at_start c.loop-i-test.true none _ before.1,
    )

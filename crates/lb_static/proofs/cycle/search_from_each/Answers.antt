-- A node that is not begun is searched from; any other is done already.
use Rattle.std.proofs.Common.{◌<◌, ◌≤◌, ◌∙◌, ℕ, Global, List, Vec, ap, length, map, sym, subst}
use Rattle.std.proofs.lemmas.Bool.{false≢true}
use Rattle.std.proofs.lemmas.List.{length-map}
use Rattle.lb_static.specs.CycleSearch.{IsBetween}
use Rattle.lb_static.specs.declared.cycle.Progress.{Progress}
use Rattle.lb_static.specs.declared.cycle.Progress.TheVariants.{Unseen}
use Rattle.lb_static.proofs.CycleSteps.{all_ordered, read_at, searched_more, skipped_more}
use Rattle.lb_static.proofs.cycle.search_from_each.Goals as goal
use Rattle.lb_static.proofs.cycle.search_from_each.Goals.{in-Unseen, in_default}
use Rattle.lb_static.proofs.cycle.search_from_each.Goals.{then-matches+in_ok-cycle+in_default-2}
use Rattle.lb_static.proofs.cycle.search_from_each.Goals.{else-matches}

-- the node of this turn has its place in the progress
place_within : (progress : List Progress) (graph : List (Vec ℕ Global)) (i : ℕ)
    → IsBetween (map (λ v. v.items) graph) progress → i < length graph → i < length progress
place_within progress graph i between below =
    subst (λ k. i < k) (sym (between.as_many ∙ length-map graph (λ v. v.items))) below

pub bounds : goal.bounds
bounds c =
    place_within c.loop-start.progress c.args.graph.now c.loop-start.start
    c.loop-start.invariant.between c.loop-start-test.true

pub returns : goal.returns
returns c =
    all_ordered (map (λ v. v.items) c.args.graph.now) c.loop-start.progress c.loop-start.start
    c.loop-start.invariant.between
    (subst (λ k. k ≤ c.loop-start.start) (sym (length-map c.args.graph.now (λ v. v.items)))
    c.loop-start-test.false) c.loop-start.invariant.done

pub search_from-requires-clause-unseen : goal.search_from-requires-clause-unseen
search_from-requires-clause-unseen c =
    let within = place_within c.loop-start.progress c.args.graph.now c.loop-start.start
    c.loop-start.invariant.between c.loop-start-test.true in
    elim c.match-matches.branch [
      | in-Unseen w ↦
          read_at c.loop-start.progress c.loop-start.start Unseen Unseen within w.in-Unseen.is
      | in_default w ↦ absurd (false≢true (sym w.matches-is ∙ c.if-matches.true))
    ]

pub loop-start-preserved : goal.loop-start-preserved
loop-start-preserved c =
    let graph = map (λ v. v.items) c.args.graph.now in
    let before = c.loop-start.progress in
    let inv = c.loop-start.invariant in
    elim c.if-matches.branch [
      | then-matches+in_ok-cycle+in_default-2 w ↦
          let more = searched_more graph before w.search_from.new.progress c.if-matches.progress
          c.loop-start.start w.in_ok-cycle.field-0 w.in_default-2.is w.in_ok-cycle.ensures.answer
          w.progress-is inv.done in
          record {
            between = more.0;
            done = more.1;
            none = ap (λ v. v.items) w.path-is ∙ w.in_ok-cycle.ensures.none w.in_default-2.is;
          }
      | else-matches w ↦ elim c.match-matches.branch [
        | in-Unseen u ↦ absurd (false≢true (sym w.if-matches.false ∙ u.matches-is))
        | in_default u ↦
            let within = place_within before c.args.graph.now c.loop-start.start inv.between
            c.loop-start-test.true in
            let more = skipped_more graph before c.if-matches.progress c.loop-start.start
            inv.between within u.in_default.not-Unseen w.progress-is inv.done in
            record {
              between = more.0;
              done = more.1;
              none = ap (λ v. v.items) w.path-is ∙ inv.none;
            }
      ]
    ]

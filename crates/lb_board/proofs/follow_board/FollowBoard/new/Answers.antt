-- All words are 0, and the first seat has all shares.
use Rattle.std.proofs.Common.{ap, ◌∙◌, ◌+◌, ℕ, List, length}
use Rattle.std.proofs.lemmas.List.{length-replicate}
use Rattle.lb_board.specs.declared.follow_views.FollowKey.{FollowKey}
use Rattle.lb_board.specs.FollowKeys.{right_by}
use Rattle.lb_board.proofs.FollowKeys.{right_by_parts, length-right_by, words_by}
use Rattle.lb_board.proofs.Following.{opens}
use Rattle.lb_board.proofs.follow_board.FollowBoard.new.Goals as goal

pub of_words-requires : goal.of_words-requires
of_words-requires c =
    let key : FollowKey = record {
      batches = c.batches.result;
      ordered = c.of.result;
      set = c.of-2.result;
    } in
    opens c.batches.result (right_by key) c.as_slice.result.now c.batches.type_inv
    (words_by key c.args.ordered.now c.args.set.now c.len.result c.as_slice.result.now
    c.of.ensures c.of-2.ensures c.len.ensures.count
    (c.as_slice.ensures.value ∙ c.in_ok-words.ensures.items_if_clones_equal (λ y h. h)))

pub invariant_of-result : goal.invariant_of-result
invariant_of-result c =
    let table = c.in_ok-table.ensures in
    let e = table.5 in
    let ordered = ap (λ (k : FollowKey). k.ordered.value) e ∙ c.of.ensures in
    let set = ap (λ (k : FollowKey). k.set.value) e ∙ c.of-2.ensures in
    record {
      words =
          table.0
          ∙ ap (λ (l : List ℕ). length l)
          (words_by c.in_ok-table.table.shared.key c.args.ordered.now c.args.set.now c.len.result
          c.as_slice.result.now ordered set c.len.ensures.count
          (c.as_slice.ensures.value
          ∙ c.in_ok-words.ensures.items_if_clones_equal (λ y h. h)))
          ∙ length-replicate (length (right_by c.in_ok-table.table.shared.key) + 1) 0;
      limit = ap (λ (k : FollowKey). k.batches) e;
    }

pub returns-clause-right : goal.returns-clause-right
returns-clause-right c =
    let e = c.in_ok-table.ensures.5 in
    right_by_parts c.in_ok-table.table.shared.key c.args.ordered.now c.args.set.now
    (ap (λ (k : FollowKey). k.ordered.value) e ∙ c.of.ensures)
    (ap (λ (k : FollowKey). k.set.value) e ∙ c.of-2.ensures)

pub returns-clause-traces : goal.returns-clause-traces
returns-clause-traces c =
    let e = c.in_ok-table.ensures.5 in
    length-right_by c.in_ok-table.table.shared.key c.args.ordered.now c.args.set.now
    (ap (λ (k : FollowKey). k.ordered.value) e ∙ c.of.ensures)
    (ap (λ (k : FollowKey). k.set.value) e ∙ c.of-2.ensures)

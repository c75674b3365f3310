-- The joint result of two workers is that of one worker with the shares of both.
use Rattle.std.proofs.Common.{◌≡◌, ℕ, ◌+◌, ◌||◌, ◌++◌, List, min, sym, ap, ◌∙◌, subst}
use Rattle.std.proofs.lemmas.List.{map-append}
use Rattle.std.proofs.lemmas.List.Concat.{flat_map-append}
use Rattle.std.proofs.lemmas.List.Elements.{All-append}
use Rattle.std.specs.Prelude.{[], get_or}
use Rattle.lb_traces.specs.Traces.{Recording}
use Rattle.lb_flat.specs.declared.program.FlatProgram.{FlatProgram}
use Rattle.lb_board.specs.Seats.{shares_of, told_of, drawn_of}
use Rattle.lb_board.specs.declared.board.ClaimBoard.{ClaimBoard}
use Rattle.lb_pool.specs.Runs.{IsJudgedTrace, AreJudged, numbers_of, numbers_drawn}
use Rattle.lb_pool.specs.Workers.{HasDrained, IsBoth}
use Rattle.lb_pool.specs.declared.batch.Judged.{Judged}
use Rattle.lb_pool.specs.declared.claims.Drained.{Drained}

pub gathered :
    (board : ClaimBoard) (a b shares : ℕ) (p : FlatProgram) (r : Recording)
    (batches : List (List ℕ)) (one other d : Drained) → HasDrained board a p r batches one →
    HasDrained board b p r batches other → min 64 (a + b) ≡ shares → IsBoth board one other d →
    HasDrained board shares p r batches d
gathered board a b shares p r batches one other d first second sum both = record {
  seat = both.seat;
  shares_kept =
      both.shares
      ∙ ap (λ x. min 64 (x + shares_of other.seat)) first.shares_kept
      ∙ ap (λ x. min 64 (a + x)) second.shares_kept
      ∙ sum;
  told = both.told ∙ ap (λ t. t || told_of other.seat) first.told;
  numbers =
      ap numbers_of both.judged
      ∙ map-append (λ (j : Judged). j.trace) one.judged.items other.judged.items
      ∙ ap (λ l. l ++ numbers_of other.judged.items) first.numbers
      ∙ ap (λ l. numbers_drawn batches (drawn_of one.seat) ++ l) second.numbers
      ∙ sym (flat_map-append (λ i. get_or batches i []) (drawn_of one.seat)
      (drawn_of other.seat))
      ∙ ap (numbers_drawn batches) (sym both.drawn);
  judged =
      subst (AreJudged p r) (sym both.judged)
      (All-append (IsJudgedTrace p r) one.judged.items other.judged.items first.judged
      second.judged);
}

use Rattle.lb_check.proofs.Words.{◌≡◌, ◌≤◌, drop, all_some, part_size, row_in}
use Rattle.lb_check.proofs.typing.SignatureRows.{counted_from}
use Rattle.lb_check.proofs.part_types.given_size.Given as goal

abbrev pub invariant-loop-place : goal.invariant-loop-place
invariant-loop-place l =
    record {
      counted :
          part_size (all_some (row_in l.given))
          ≡ counted_from l.count (all_some (drop l.place (row_in l.given)));
      within : l.count ≤ 65537;
    }

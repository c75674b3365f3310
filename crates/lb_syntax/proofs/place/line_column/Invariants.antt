use Rattle.std.proofs.Common.{◌≡◌, ◌+◌, ◌≤◌, not, take, count_by}
use Rattle.std.specs.List.{suffix_len}
use Rattle.lb_syntax.specs.Tokens.{is_newline}
use Rattle.lb_syntax.proofs.place.line_column.Given as goal

abbrev pub invariant-loop-b : goal.invariant-loop-b
invariant-loop-b l =
    let passed = take l.b-index l.before in
    record {
      line_is : l.place.line ≡ 1 + count_by is_newline passed;
      column_is : l.place.column ≡ 1 + suffix_len (λ b. not (is_newline b)) passed;
      line_fits : l.place.line ≤ 1 + l.b-index;
      column_fits : l.place.column ≤ 1 + l.b-index;
    }

use Rattle.std.proofs.Common.{◌≡◌, ◌+◌, ◌-◌, ◌≤◌, length, drop}
use Rattle.std.specs.List.{prefix_len}
use Rattle.lb_syntax.specs.Lexed.{passes}
use Rattle.lb_syntax.proofs.lex.run.Given as goal

abbrev pub invariant-loop-end : goal.invariant-loop-end
invariant-loop-end l =
    let fits = passes l.class in
    record {
      rest_of : l.end + prefix_len fits (drop l.end l.text) ≡ prefix_len fits l.text;
      within : l.end ≤ length l.text;
    }

abbrev pub decreases-loop-end : goal.decreases-loop-end
decreases-loop-end l = length l.text - l.end

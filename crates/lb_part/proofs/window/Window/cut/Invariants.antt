use Rattle.std.proofs.Common.{◌≡◌}
use Rattle.lb_part.specs.Windows.{AllGoOn, IsLastIn, line_in}
use Rattle.lb_part.proofs.window.Window.cut.Given as goal

abbrev pub invariant-loop-i : goal.invariant-loop-i
invariant-loop-i l = record {
  line : l.begins ≡ line_in l.self.is_first l.self.bytes.now l.i;
  last : IsLastIn l.self.is_first l.self.bytes.now l.last l.i;
  others : AllGoOn l.self.is_first l.self.is_last l.self.bytes.now l.from l.i;
}

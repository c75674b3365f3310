use Rattle.std.proofs.Common.{◌≡◌, ◌≤◌, ◌++◌, map, drop, length}
use Rattle.lb_syntax.specs.SourceView.{view_constant}
use Rattle.lb_static.specs.ConstantValues.{names_of, read_constants, AreFirst}
use Rattle.lb_static.proofs.constants.first_of_each.Given as goal

abbrev pub invariant-loop-constant : goal.invariant-loop-constant
invariant-loop-constant l = record {
  same_names : l.names ≡ names_of (read_constants l.firsts.items);
  first : AreFirst (read_constants l.firsts.items
      ++ map view_constant (drop l.constant-index l.constants)) (map view_constant l.constants);
  few : length l.firsts.items ≤ l.constant-index;
}

use Rattle.std.proofs.Common.{length, ◌≡◌, ◌+◌, ◌*◌, ◌++◌, map}
use Rattle.std.specs.Prelude.{reverse}
use Rattle.std.specs.List.{flat_map, range_with_len}
use Rattle.lb_static.specs.DataTypes.{element_names, product, index_text}
use Rattle.lb_static.proofs.element_names.+push_elements.Given as goal

abbrev pub decreases-push_elements : goal.decreases-push_elements
decreases-push_elements l = length l.sizes.now

abbrev pub invariant-loop-i : goal.invariant-loop-i
invariant-loop-i l = record {
  names : l.signature ≡ l.fn.signature
      ++ map (λ x. (x, l.kind))
      (flat_map (λ i. element_names (l.name ++ index_text i) (reverse l.inner))
      (range_with_len 0 l.i));
  count : length l.signature ≡ length l.fn.signature + l.i * product (reverse l.inner);
}

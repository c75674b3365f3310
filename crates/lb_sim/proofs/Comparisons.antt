-- The operators that compare integers.
use Rattle.std.proofs.Common.{◌≡◌, ◌≢◌, Some, refl}
use Rattle.lb_syntax.specs.declared.tree.BinaryOperator.{BinaryOperator}
use Rattle.lb_syntax.specs.declared.tree.BinaryOperator.TheVariants.{Equal, Unequal, Less, AtMost}
use Rattle.lb_syntax.specs.declared.tree.BinaryOperator.TheVariants.{Greater, AtLeast}
use Rattle.lb_syntax.specs.declared.tree.Kind.TheVariants.{Bool as Bool_kind}
use Rattle.lb_flat.specs.Fitting.{integers_kind}

-- no other operator gives a truth value of two integers
pub not_compared :
    (op : BinaryOperator) → op ≢ Equal → op ≢ Unequal → op ≢ Less → op ≢ AtMost → op ≢ Greater →
    op ≢ AtLeast → integers_kind op ≡ Some Bool_kind → ⊥
not_compared Equal a b c d f g e = a refl
not_compared Unequal a b c d f g e = b refl
not_compared Less a b c d f g e = c refl
not_compared AtMost a b c d f g e = d refl
not_compared Greater a b c d f g e = f refl
not_compared AtLeast a b c d f g e = g refl
not_compared _ a b c d f g e = cc

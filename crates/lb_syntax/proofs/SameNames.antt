-- Names and numbers that a test finds equal.
use Rattle.std.proofs.Common.{◌≡◌, ℕ, true, refl}
use Rattle.std.specs.Prelude.{bytes_eq, nat_eq}
use Rattle.std.proofs.lemmas.Bool.{eq-eqb}
use Rattle.std.proofs.lemmas.Slice.Eq.{bytes_eq-Decides}
use Rattle.lb_syntax.specs.Tree.{Name}

pub name_same : (x y : Name) → bytes_eq x y ≡ true → x ≡ y
name_same x y = (bytes_eq-Decides x y).0

pub same_name : (x y : Name) → x ≡ y → bytes_eq x y ≡ true
same_name x y = (bytes_eq-Decides x y).1

pub same_number : (n : ℕ) → nat_eq n n ≡ true
same_number n = eq-eqb n n refl

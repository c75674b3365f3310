-- Laws of every row of the table of levels.
use Rattle.std.proofs.Common.{◌≡◌, ℕ, suc, ◌≤◌, ◌<◌, ◌==◌, Bool, true, not, ◌&&◌, ◌||◌, arith, refl}
use Rattle.std.proofs.lemmas.Bool.Decides.{nat_tests}
use Rattle.std.specs.Prelude.{◌≢◌, nat_le}
use Rattle.lb_syntax.specs.declared.level.Form.TheVariants as form
use Rattle.lb_syntax.specs.declared.tree.BinaryOperator.{BinaryOperator}
use Rattle.lb_syntax.specs.declared.tree.BinaryOperator.TheVariants as operator
use Rattle.lb_syntax.specs.Levels.{Form, Row, row_of}

-- Operands have the form's level at least; forms that group to the left and forms that group to the
-- right share no level; and no prefix form has the level of an infix or postfix form.
pub record IsRow (row : Row) : Type 0 where
  pub one : 1 ≤ row.level
  pub left_high : row.level ≤ row.left
  pub right_high : row.level ≤ row.right
  pub left_not_3 : row.left ≡ row.level → row.level ≢ 3
  pub left_not_4 : row.left ≡ row.level → row.level ≢ 4
  pub right_from_3 : row.right ≡ row.level → 3 ≤ row.level
  pub right_to_4 : row.right ≡ row.level → row.level ≤ 4
  pub no_choice : row.level ≢ 2
  pub no_not : row.level ≢ 8
  pub no_memory : row.level ≢ 12

-- ---- the rows of the table

-- whether a level is none of a prefix form
abbrev is_infix_level : ℕ → Bool
is_infix_level k = nat_le 1 k && not (k == 2) && not (k == 8) && not (k == 12)

abbrev is_row_left : Row → Bool
is_row_left row =
    row.left == row.level && row.right == suc row.level
    && not (row.level == 3) && not (row.level == 4)

abbrev is_row_right : Row → Bool
is_row_right row =
    row.left == suc row.level && row.right == row.level && nat_le 3 row.level && nat_le row.level 4

abbrev is_row_none : Row → Bool
is_row_none row = row.left == suc row.level && row.right == suc row.level

-- a test of what holds of each row
abbrev is_lawful : Row → Bool
is_lawful row = is_infix_level row.level && (is_row_left row || is_row_right row || is_row_none row)

lawful_row : (row : Row) → is_lawful row ≡ true → IsRow row
lawful_row row e = record {
  one = grind (arith, nat_tests);
  left_high = grind (arith, nat_tests);
  right_high = grind (arith, nat_tests);
  left_not_3 = λ f. grind (arith, nat_tests);
  left_not_4 = λ f. grind (arith, nat_tests);
  right_from_3 = λ f. grind (arith, nat_tests);
  right_to_4 = λ f. grind (arith, nat_tests);
  no_choice = grind (arith, nat_tests);
  no_not = grind (arith, nat_tests);
  no_memory = grind (arith, nat_tests);
}

data_row : (op : BinaryOperator) → is_lawful (row_of (form.Data op)) ≡ true
data_row operator.And = refl
data_row _ = refl

row_lawful : (f : Form) → is_lawful (row_of f) ≡ true
row_lawful (form.Data op) = data_row op
row_lawful _ = refl

pub is_row : (f : Form) → IsRow (row_of f)
is_row f = lawful_row (row_of f) (row_lawful f)

-- the form of `row`, where it may have a form of `other` on its left, has too low a level to stand
-- in the right operand of `other`
pub suits : (row other : Row) → IsRow row → IsRow other → row.left ≤ other.level →
    row.level < other.right
suits row other p q le =
    let a = p.left_high in
    let b = q.right_high in
    let c = p.left_not_3 in
    let d = p.left_not_4 in
    let e = q.right_from_3 in
    let f = q.right_to_4 in
    grind arith

-- Where equations are in order, an element is given after the one that decides it.
use Rattle.std.proofs.Common.{◌≡◌, ◌<◌, ◌≤◌, ◌⊎◌, ℕ, suc, Bool, true, false, Option, Some, None}
use Rattle.std.proofs.Common.{List, [], ◌∷◌, ◌++◌, arith, inl, inr, length, nat_eq, refl, subst}
use Rattle.std.proofs.Common.{sym}
use Rattle.std.proofs.lemmas.Bool.Decides.{nat_tests}
use Rattle.std.specs.Prelude.{if◌then◌else◌}
use Rattle.lb_syntax.specs.Lists.{Every, In}
use Rattle.lb_syntax.specs.declared.tree.BinaryOperator.{BinaryOperator}
use Rattle.lb_syntax.specs.declared.tree.BinaryOperator.TheVariants.{Or, And, Implies}
use Rattle.lb_syntax.specs.Operators.{class_of}
use Rattle.lb_syntax.specs.declared.tree.OperatorClass.TheVariants.{}
use Rattle.lb_syntax.specs.declared.tree.OperatorClass.{OperatorClass}
use Rattle.lb_syntax.specs.declared.tree.OperatorClass.TheVariants.{Logical}
use Rattle.lb_check.specs.Scalars.{Cell, Integer, Boolean, Nil, Bad}
use Rattle.lb_flat.specs.Flat.{FlatEquation, Operation, Input, Constant, Copy, ApplyUnary}
use Rattle.lb_flat.specs.Flat.{ApplyBinary, Choose, FirstThen, Previous, Latest, Sample}
use Rattle.lb_flat.specs.Run.{Ready, Row, cell, clock_reads, reads}
use Rattle.lb_reason.specs.Deciding.{branch_taken, deciding, decided_by, first_of, first_or_second}
use Rattle.lb_reason.specs.Deciding.{first_where_logical}
use Rattle.lb_reason.specs.Deciding.{given_by, is_bad, is_false, is_nil, is_present, is_true}
use Rattle.lb_reason.specs.Deciding.{next_element, of_condition, of_one, of_two, operands_taken}
use Rattle.lb_reason.specs.Deciding.{truth_of_two, value_decided}

-- ## The operand that decides is one of the operands

-- the first element that passes a test is in the list
first_in :
    (test : Cell → Bool) (row : Row) (es : List ℕ) (e : ℕ) → first_of test row es ≡ Some e →
    In e es
first_in test row [] e is = absurd (cc)
first_in test row (a ∷ es) e is = by_test (test (cell row a)) (first_in test row es e) is
  where
    by_test :
        (b : Bool) → (first_of test row es ≡ Some e → In e es) →
        (if b then Some a else first_of test row es) ≡ Some e → In e (a ∷ es)
    by_test true rest same = inl (cc)
    by_test false rest same = inr (rest same)

module _ (row : Row) (a b e : ℕ) where
  second_in :
      (test : Cell → Bool) → first_or_second test row a b ≡ Some e → In e (a ∷ b ∷ [])
  second_in test is = by_test (test (cell row a)) is
    where
      by_test : (v : Bool) → (if v then Some a else Some b) ≡ Some e → In e (a ∷ b ∷ [])
      by_test true same = inl (cc)
      by_test false same = inr (inl (cc))

  logical_is : (c : OperatorClass) → first_where_logical c a ≡ Some e → a ≡ e
  logical_is Logical is = cc
  logical_is _ is = absurd (cc)

  truth_in :
      (op : BinaryOperator) (v : Bool) → truth_of_two op v row a b ≡ Some e → In e (a ∷ b ∷ [])
  truth_in And false is = second_in is_false is
  truth_in Or true is = second_in is_true is
  truth_in Implies v is = second_in is_false is
  truth_in op v is = inl (logical_is (class_of op) is)

  two_in : (op : BinaryOperator) (x : Cell) → of_two op x row a b ≡ Some e → In e (a ∷ b ∷ [])
  two_in op (Some (Boolean v)) is = truth_in op v is
  two_in op (Some (Integer z)) is = absurd (cc)
  two_in op (Some Nil) is = absurd (cc)
  two_in op (Some Bad) is = absurd (cc)
  two_in op None is = absurd (cc)

  condition_in : (x : Cell) → of_condition x a b ≡ Some e → In e (a ∷ b ∷ [])
  condition_in (Some (Boolean true)) is = inl (cc)
  condition_in (Some (Boolean false)) is = inr (inl (cc))
  condition_in (Some (Integer z)) is = absurd (cc)
  condition_in (Some Nil) is = absurd (cc)
  condition_in (Some Bad) is = absurd (cc)
  condition_in None is = absurd (cc)

  branch_in : (x : Cell) → In e (branch_taken x a b) → In e (a ∷ b ∷ [])
  branch_in (Some (Boolean true)) (inl same) = inl same
  branch_in (Some (Boolean true)) (inr none) = absurd none
  branch_in (Some (Boolean false)) (inl same) = inr (inl same)
  branch_in (Some (Boolean false)) (inr none) = absurd none
  branch_in (Some (Integer z)) is = absurd is
  branch_in (Some Nil) is = absurd is
  branch_in (Some Bad) is = absurd is
  branch_in None is = absurd is

one_in : (x : Cell) (a e : ℕ) → of_one x a ≡ Some e → In e (a ∷ [])
one_in (Some (Boolean v)) a e is = inl (cc)
one_in (Some (Integer z)) a e is = absurd (cc)
one_in (Some Nil) a e is = absurd (cc)
one_in (Some Bad) a e is = absurd (cc)
one_in None a e is = absurd (cc)

module _ (row : Row) (e : ℕ) where
  taken_in : (q : Operation) → In e (operands_taken row q) → In e (reads q)
  taken_in (Input j) is = is
  taken_in (Constant v) is = is
  taken_in (Copy a) is = is
  taken_in (ApplyUnary op a) is = is
  taken_in (ApplyBinary op a b) is = is
  taken_in (Choose c a b) (inl same) = inl same
  taken_in (Choose c a b) (inr is) = inr (branch_in row a b e (cell row c) is)
  taken_in (FirstThen false a b) (inl same) = inl same
  taken_in (FirstThen false a b) (inr none) = absurd none
  taken_in (FirstThen true a b) (inl same) = inr (inl same)
  taken_in (FirstThen true a b) (inr none) = absurd none
  taken_in (Previous v a) is = is
  taken_in (Latest v a) is = is
  taken_in (Sample a) is = is

  value_in : (x : Cell) (q : Operation) → value_decided row x q ≡ Some e → In e (reads q)
  value_in x (Input j) is = absurd (cc)
  value_in x (Constant v) is = absurd (cc)
  value_in x (Copy a) is = inl (cc)
  value_in x (ApplyUnary op a) is = one_in x a e is
  value_in x (ApplyBinary op a b) is = two_in row a b e op x is
  value_in x (Choose c a b) is = inr (condition_in row a b e (cell row c) is)
  value_in x (FirstThen false a b) is = inl (cc)
  value_in x (FirstThen true a b) is = inr (inl (cc))
  value_in x (Previous v a) is = absurd (cc)
  value_in x (Latest v a) is = first_in is_present row (a ∷ []) e is
  value_in x (Sample a) is = inl (cc)

  deciding_in : (x : Cell) (q : Operation) → deciding row x q ≡ Some e → In e (reads q)
  deciding_in (Some Bad) q is = taken_in q (first_in is_bad row (operands_taken row q) e is)
  deciding_in (Some Nil) q is = taken_in q (first_in is_nil row (operands_taken row q) e is)
  deciding_in (Some (Integer z)) q is = value_in (Some (Integer z)) q is
  deciding_in (Some (Boolean v)) q is = value_in (Some (Boolean v)) q is
  deciding_in None q is = value_in None q is

-- ## Ranks

-- the place of the equation that gives an element
abbrev pub rank : List FlatEquation → ℕ → ℕ
rank [] e = 0
rank (q ∷ qs) e = if nat_eq q.element e then 0 else suc (rank qs e)

pub rank_within : (Q : List FlatEquation) (e : ℕ) → rank Q e ≤ length Q
rank_within [] e = omega arith
rank_within (q ∷ qs) e = by_test (nat_eq q.element e) (rank_within qs e)
  where
    by_test :
        (b : Bool) → rank qs e ≤ length qs → (if b then 0 else suc (rank qs e)) ≤ suc (length qs)
    by_test true rest = omega arith
    by_test false rest = omega (arith, rest)

-- each element of the first list has what all of both lists have
every_at : (P : ℕ → Type 0) (es fs : List ℕ) (a : ℕ) → Every P (es ++ fs) → In a es → P a
every_at P [] fs a all is = absurd is
every_at P (e ∷ es) fs a all (inl same) = subst P same all.0
every_at P (e ∷ es) fs a all (inr is) = every_at P es fs a all.1 is

less_behind : (b : Bool) (m n : ℕ) → m < n → (if b then 0 else suc m) < suc n
less_behind true m n lt = omega arith
less_behind false m n lt = omega (arith, lt)

module _ (p : FlatEquation) (Q : List FlatEquation) (done : List ℕ) (a : ℕ) where
  -- the first equation has the least rank
  rank_here : p.element ≡ a → (n : ℕ) → rank (p ∷ Q) a < suc n
  rank_here same n =
      let alike : nat_eq p.element a ≡ true = grind (arith, nat_tests, same) in
      subst (λ (b : Bool). (if b then 0 else suc (rank Q a)) < suc n) (sym alike) (omega arith)

  rank_behind :
      (n : ℕ) → In a (p.element ∷ done) ⊎ (rank Q a < n) →
      In a done ⊎ (rank (p ∷ Q) a < suc n)
  rank_behind n (inl (inl same)) = inr (rank_here same n)
  rank_behind n (inl (inr there)) = inl there
  rank_behind n (inr lt) = inr (less_behind (nat_eq p.element a) (rank Q a) n lt)

-- an element that the equation of e reads is in `done`, or has a smaller rank than e
rank_falls_from :
    (size : ℕ) (done : List ℕ) (Q : List FlatEquation) (e a : ℕ) (q : FlatEquation) →
    Ready size done Q → given_by Q e ≡ Some q → In a (reads q.operation) →
    In a done ⊎ (rank Q a < rank Q e)
rank_falls_from size done [] e a q ready given is = absurd (cc)
rank_falls_from size done (p ∷ Q) e a q ready given is =
    by_test (nat_eq p.element e) refl
    (λ rest. rank_falls_from size (p.element ∷ done) Q e a q ready.1 rest is) given
  where
    by_test :
        (b : Bool) → nat_eq p.element e ≡ b →
        (given_by Q e ≡ Some q → In a (p.element ∷ done) ⊎ (rank Q a < rank Q e)) →
        (if b then Some p else given_by Q e) ≡ Some q →
        In a done ⊎ (rank (p ∷ Q) a < rank (p ∷ Q) e)
    by_test true here rest same =
        let alike : p ≡ q = cc in
        inl (every_at (λ i. In i done) (reads p.operation) (clock_reads p.clock) a
        ready.0.reads_done
        (subst (λ (o : FlatEquation). In a (reads o.operation)) (sym alike) is))
    by_test false here rest same =
        subst (λ (b : Bool). In a done ⊎ (rank (p ∷ Q) a < (if b then 0 else suc (rank Q e))))
        (sym here) (rank_behind p Q done a (rank Q e) (rest same))

-- the element that decides e has a smaller rank than e
pub rank_falls :
    (size : ℕ) (Q : List FlatEquation) (row : Row) (e a : ℕ) → Ready size [] Q →
    next_element Q row e ≡ Some a → rank Q a < rank Q e
rank_falls size Q row e a ready is = by_equation (given_by Q e) refl is
  where
    fallen : In a [] ⊎ (rank Q a < rank Q e) → rank Q a < rank Q e
    fallen (inl none) = absurd none
    fallen (inr lt) = lt

    by_equation :
        (o : Option FlatEquation) → given_by Q e ≡ o → decided_by row e o ≡ Some a →
        rank Q a < rank Q e
    by_equation None given same = absurd (cc)
    by_equation (Some q) given same =
        fallen
        (rank_falls_from size [] Q e a q ready given
        (deciding_in row a (cell row e) q.operation same))

-- Chains of elements, in which each element decides the one before it.
use Rattle.std.proofs.Common.{◌≡◌, ◌≢◌, ◌∙◌, ◌<◌, ◌≤◌, ℕ, zero, suc, ◌+◌, ◌-◌, List, [], ◌∷◌, ◌++◌}
use Rattle.std.proofs.Common.{Option, Some, None, add-one, ap, append-nil, append_assoc, arith}
use Rattle.std.proofs.Common.{drop, get_or, length, nat_eq, true, false, refl, sym}
use Rattle.std.specs.Prelude.{if◌then◌else◌}
use Rattle.std.proofs.Math.ListN.{drop_of_length-le}
use Rattle.std.proofs.Math.Seq.{drop-cons}
use Rattle.std.proofs.lemmas.Bool.Decides.{nat_tests}
use Rattle.std.proofs.lemmas.List.{map-append}
use Rattle.lb_flat.specs.Flat.{FlatEquation}
use Rattle.lb_flat.specs.Run.{Row}
use Rattle.lb_flat.specs.Programs.{flat_equations, numbers_of}
use Rattle.lb_flat.specs.Values.{equation_of}
use Rattle.lb_flat.specs.declared.equation.Clock.{Clock}
use Rattle.lb_flat.specs.declared.equation.Equation.{Equation}
use Rattle.lb_flat.specs.declared.equation.ElementId.{ElementId}
use Rattle.lb_reason.specs.Deciding.{chain, decided_by, given_by, next_element}

module _ (clocks : List Clock) (qs : List Equation) (i e : ℕ) where
  next_given :
      (d : Equation) → i < length qs →
      given_by (flat_equations clocks (drop i qs)) e
      ≡ (if nat_eq (get_or qs i d).element.0 e then Some (equation_of clocks (get_or qs i d))
      else given_by (flat_equations clocks (drop (i + 1) qs)) e)
  next_given d lt =
      let here : drop i qs ≡ get_or qs i d ∷ drop (i + 1) qs = rw (add-one, drop-cons qs i d) in
      ap (λ xs. given_by (flat_equations clocks xs) e) here

  -- `given_by` skips an equation that gives another element
  pub other_given :
      (d : Equation) → i < length qs → (get_or qs i d).element.0 ≢ e →
      given_by (flat_equations clocks (drop (i + 1) qs)) e
      ≡ given_by (flat_equations clocks (drop i qs)) e
  other_given d lt differs =
      let apart : nat_eq (get_or qs i d).element.0 e ≡ false =
      grind (arith, nat_tests, differs) in
      sym
      (next_given d lt
      ∙ ap (λ b. if b then Some (equation_of clocks (get_or qs i d))
      else given_by (flat_equations clocks (drop (i + 1) qs)) e) apart)

  -- `given_by` finds the equation that gives the element
  pub one_given :
      (d : Equation) → i < length qs → (get_or qs i d).element.0 ≡ e →
      Some (equation_of clocks (get_or qs i d))
      ≡ given_by (flat_equations clocks (drop i qs)) e
  one_given d lt same =
      let alike : nat_eq (get_or qs i d).element.0 e ≡ true = grind (arith, nat_tests, same) in
      sym
      (next_given d lt
      ∙ ap (λ b. if b then Some (equation_of clocks (get_or qs i d))
      else given_by (flat_equations clocks (drop (i + 1) qs)) e) alike)

  pub none_given : length qs ≤ i → None ≡ given_by (flat_equations clocks (drop i qs)) e
  none_given le =
      sym (ap (λ xs. given_by (flat_equations clocks xs) e) (drop_of_length-le qs le))

-- the element that decides element e, where the equation that gives e is known
pub decided_is :
    (Q Q' : List FlatEquation) (row : Row) (e : ℕ) (o : Option FlatEquation) → Q' ≡ Q →
    o ≡ given_by Q' e → decided_by row e o ≡ next_element Q row e
decided_is Q Q' row e o same is =
    ap (decided_by row e) is ∙ ap (λ qs. decided_by row e (given_by qs e)) same

module _ (Q : List FlatEquation) (row : Row) where
  -- a chain from no element on is empty
  pub none_on : (n : ℕ) → chain n Q row None ≡ []
  none_on zero = refl
  none_on (suc n) = refl

  -- where no element is left, `elements` is the whole chain
  pub all_on :
      (elements : List ElementId) (left : ℕ) (o : Option ℕ) (whole : List ℕ) →
      chain left Q row o ≡ [] → numbers_of elements ++ chain left Q row o ≡ whole →
      numbers_of elements ≡ whole
  all_on elements left o whole none holds =
      sym (append-nil (numbers_of elements))
      ∙ ap (λ xs. numbers_of elements ++ xs) (sym none)
      ∙ holds

  -- the whole chain stays where one more element moves into `elements`
  pub one_on :
      (elements after : List ElementId) (element : ElementId) (left : ℕ) (next : Option ℕ)
      (whole : List ℕ) → 0 < left → after ≡ elements ++ element ∷ [] →
      next ≡ next_element Q row element.0 →
      numbers_of elements ++ chain left Q row (Some element.0) ≡ whole →
      numbers_of after ++ chain (left - 1) Q row next ≡ whole
  one_on elements after element left next whole some grown same holds =
      let n = left - 1 in
      let count : left ≡ suc n = omega (arith, some) in
      let step : chain left Q row (Some element.0)
      ≡ element.0 ∷ chain n Q row (next_element Q row element.0) =
      ap (λ m. chain m Q row (Some element.0)) count in
      ap (λ es. numbers_of es ++ chain n Q row next) grown
      ∙ ap (λ xs. xs ++ chain n Q row next) (map-append (λ (e : ElementId). e.0) elements
      (element ∷ []))
      ∙ append_assoc (numbers_of elements) (element.0 ∷ []) (chain n Q row next)
      ∙ ap (λ o. numbers_of elements ++ element.0 ∷ chain n Q row o) same
      ∙ ap (λ xs. numbers_of elements ++ xs) (sym step)
      ∙ holds

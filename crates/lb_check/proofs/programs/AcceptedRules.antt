-- The rules and properties of the instances of an accepted program.
use Rattle.lb_check.proofs.Words.{E12, E5, E6, Every, In, Instance, List, None, Program, []}
use Rattle.lb_check.proofs.Words.{and_first, and_second, are_declared_clocks, check_refusal}
use Rattle.lb_check.proofs.Words.{has_values, instance_refusal, instances, instantiation_refusal}
use Rattle.lb_check.proofs.Words.{is_clock_typed, is_clocked, is_in_range, is_statement_typed}
use Rattle.lb_check.proofs.Words.{is_typed, list_all, may_enter, node_sites, static_refusal, suc}
use Rattle.lb_check.proofs.Words.{true, unless, variables, ℕ, ◌∷◌, ◌≡◌}
use Rattle.lb_check.proofs.clocking.NamedClocks.{OfCalled, Sited}
use Rattle.lb_check.proofs.definitions.BrokenRules.{first_none, instantiation_kept, kept}
use Rattle.lb_check.proofs.{definitions.BrokenRules.second_none, lists.Members.Every-at}
use Rattle.lb_check.proofs.{lists.Members.{Every-both, Every-map}, programs.SameHistories.IsEntered}
use Rattle.lb_check.proofs.programs.SameHistories.{Low, all_called, all_children, all_entered}
pub use Rattle.lb_check.proofs.programs.SameHistories.{all_clocked, all_typed}

-- The rules that each instance of an accepted program keeps.

-- the static values of an instance are there, and are in range
pub record IsValued (P : Program) (here : Instance) : Type 0 where
  pub values : has_values P here ≡ true
  pub in_range : is_in_range P here ≡ true

all_valued :
    (P : Program) (n : ℕ) (is : List Instance) → instantiation_refusal P n is ≡ None →
    Every (IsValued P) is
all_valued P n [] e = tt
all_valued P n (c ∷ is) e =
    let here = first_none (instance_refusal P n c) _ e in
    let later = second_none (unless (may_enter P n c) E12) _ here in (
      record {
        values = kept (has_values P c) E5 (first_none _ _ later);
        in_range = kept (is_in_range P c) E6 (second_none (unless (has_values P c) E5) _ later);
      },
      all_valued P (suc n) is (second_none (instance_refusal P n c) _ e),
    )

-- the static values of each instance of an accepted program are there, and are in range
pub valued :
    (P : Program) → static_refusal P ≡ None → (here : Instance) → In here (instances P) →
    IsValued P here
valued P accepted here i =
    Every-at (IsValued P) (instances P) here
    (all_valued P 0 (instances P) (instantiation_kept P accepted)) i

module _ (P : Program) (checked : check_refusal P ≡ None) where
  -- each node of an instance keeps the rules of declared clocks
  pub all_declared : Every (λ here. are_declared_clocks here.node ≡ true) (instances P)
  all_declared =
      Every-map (λ here. is_clocked P here.node ≡ true)
      (λ here. are_declared_clocks here.node ≡ true)
      (λ here e. and_first (are_declared_clocks here.node) _ e) (instances P)
      (all_clocked P checked)

  pub typed : (here : Instance) → In here (instances P) → is_typed P here ≡ true
  typed here i =
      Every-at (λ here. is_typed P here ≡ true) (instances P) here (all_typed P checked) i

  pub statements_typed :
      (here : Instance) → In here (instances P) →
      list_all (is_statement_typed P here) here.node.body ≡ true
  statements_typed here i =
      and_second (list_all (is_clock_typed P here) (variables here.node)) _ (typed here i)

  pub clocked : (here : Instance) → In here (instances P) → is_clocked P here.node ≡ true
  clocked here i =
      Every-at (λ here. is_clocked P here.node ≡ true) (instances P) here (all_clocked P checked) i

-- A property of all instances of an accepted program holds of the instances of each of their calls.

module _ (P : Program) (elaborated : static_refusal P ≡ None) (Q : Instance → Type 0)
    (all : Every Q (instances P)) where
  entered : Every (IsEntered P) (instances P)
  entered = all_entered P 0 (instances P) (instantiation_kept P elaborated)

  -- the calls of each instance have instances, of which the property holds
  pub calls_have : Every (λ here. Sited (OfCalled P here Q) 0 (node_sites here.node)) (instances P)
  calls_have =
      Every-map _ (λ here. Sited (OfCalled P here Q) 0 (node_sites here.node))
      (λ here z. all_called P Q here z.1 z.0.1) (instances P)
      (Every-both _ _ (instances P) entered
      (all_children P Q
      (Every-map _ (Low P Q) (λ c h. (h.0.0, h.1)) (instances P)
      (Every-both _ _ (instances P) entered all))))

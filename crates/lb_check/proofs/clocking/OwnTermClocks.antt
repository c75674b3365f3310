-- The clocks that are found of a node are its base clock or clocks of its variables.
use Rattle.lb_check.proofs.Words.{Base, Every, HasTermClocks, In, Instance, List, None, Occurrence}
use Rattle.lb_check.proofs.Words.{Program, ResolvedNode, [], check_refusal, clock_in, instances}
use Rattle.lb_check.proofs.Words.{map, node_occurrences, node_of, refl, static_refusal, subst, sym}
use Rattle.lb_check.proofs.{Words.{◌∷◌, ◌≡◌}, clocking.{DeclaredClocks.IsOwn, NamedClocks.IsOver}}
use Rattle.lb_check.proofs.programs.TypedOccurrences.{IsTypedOver, IsVariable, occurrences_fit}
use Rattle.lb_check.specs.declared.own_clock.Clock.{Clock, TheVariants.On}
use Rattle.lb_check.specs.Clocks as tree

module _ (n : ResolvedNode) where
  abbrev Over : tree.Clock → Type 0
  Over c = IsOver (IsVariable (node_of n)) c

  clock_own : (k : Clock) (c : tree.Clock) → c ≡ clock_in n k → Over c → IsOwn (node_of n) c
  clock_own Base c e over = subst (IsOwn (node_of n)) (sym e) tt
  clock_own (On y sign) c e over =
      let there : Over (clock_in n (On y sign)) = subst Over e over in
      subst (IsOwn (node_of n)) (sym e) (refl, there.1)

  clocks_own :
      (os : List Occurrence) (ks : List Clock) →
      map (λ o. o.clock) os ≡ map (clock_in n) ks → Every (λ o. Over o.clock) os →
      Every (λ o. IsOwn (node_of n) o.clock) os
  clocks_own [] ks e h = tt
  clocks_own (o ∷ os) [] e h = absurd cc
  clocks_own (o ∷ os) (k ∷ ks) e h =
      let first : o.clock ≡ clock_in n k = cc in
      let rest : map (λ o. o.clock) os ≡ map (clock_in n) ks = cc in
      (clock_own k o.clock first h.0, clocks_own os ks rest h.1)

overs :
    (P : Program) (here : Instance) (os : List Occurrence) →
    Every (IsTypedOver P here (IsVariable here.node)) os →
    Every (λ o. IsOver (IsVariable here.node) o.clock) os
overs P here [] h = tt
overs P here (o ∷ os) h = (h.0.over, overs P here os h.1)

-- the expressions of a node stand on the base clock or on a clock of a variable, where clocks are
-- found of it
pub term_clocks_own :
    (P : Program) → static_refusal P ≡ None → check_refusal P ≡ None → (here : Instance) →
    In here (instances P) → (n : ResolvedNode) (ks : List Clock) → node_of n ≡ here.node →
    HasTermClocks P n ks →
    Every (λ o. IsOwn here.node o.clock) (node_occurrences P here.node)
term_clocks_own P accepted checked here stands n ks is found =
    let all = overs P here (node_occurrences P here.node)
    (occurrences_fit P accepted checked here stands) in
    subst (λ m. Every (λ o. IsOwn m o.clock) (node_occurrences P m)) is
    (clocks_own n (node_occurrences P (node_of n)) ks found
    (subst (λ m. Every (λ o. IsOver (IsVariable m) o.clock) (node_occurrences P m)) (sym is) all))

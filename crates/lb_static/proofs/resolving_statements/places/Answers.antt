-- One more variable of a left side, and one that is refused.
use Rattle.std.proofs.Common.{◌≡◌, ℕ, zero, suc, ◌+◌, ◌<◌, Bool, true, false, List, [], ◌∷◌, ◌++◌}
use Rattle.std.proofs.Common.{length, take, get_or, map, ap, sym, subst, ◌∙◌, arith}
use Rattle.std.specs.List.{list_all}
use Rattle.std.proofs.lemmas.Bool.{and_from, and_left, and_right}
use Rattle.std.proofs.lemmas.List.{map-append, take_all, take_more}
use Rattle.std.proofs.lemmas.List.Folds.{list_all-append}
use Rattle.std.proofs.lemmas.Result.{err_from_is_err_and}
use Rattle.std.proofs.Math.Bool.{and-true}
use Rattle.lb_syntax.specs.Tree.{Name}
use Rattle.lb_static.specs.CountedNames.{Variables, counted}
use Rattle.lb_static.specs.NameFaults.{is_told}
use Rattle.lb_static.specs.Names.{is_variable}
use Rattle.lb_static.specs.NodeNames.{IsVariableAt}
use Rattle.lb_static.specs.NodeProgress.{Progress, counts_in, program_of, texts}
use Rattle.lb_static.specs.Parts.{variable_names}
use Rattle.lb_static.specs.Progressed.{progress}
use Rattle.lb_static.specs.ResolvedTerms.{name_at, is_variable as is_place}
use Rattle.lb_static.specs.declared.resolved.VariableId.{VariableId}
use Rattle.lb_static.proofs.Faults.{fault_within}
use Rattle.lb_static.proofs.Growth.{same_two}
use Rattle.lb_static.proofs.resolving_statements.places.Goals as goal

-- the places of the first `i` variables of a left side
abbrev ArePlaces : Progress → List Name → ℕ → List VariableId → Type 0
ArePlaces s lefts i places =
    (map (name_at (variable_names s.node)) places ≡ take i lefts)
    × (list_all (is_place (counts_in (texts s))) places ≡ true)
    × (list_all (is_variable (program_of s) s.node) (take i lefts) ≡ true)

one_more_place : (s : Progress) (lefts : List Name) (i : ℕ) (x : Name)
    (places after : List VariableId) (place : VariableId)
    → i < length lefts → x ≡ get_or lefts i x → after ≡ places ++ place ∷ []
    → IsVariableAt s.node x place → is_variable (program_of s) s.node x ≡ true
    → ArePlaces s lefts i places → ArePlaces s lefts (i + 1) after
one_more_place s lefts i x places after place below is pushed at known h =
    let f = name_at (variable_names s.node) in
    let p = is_place (counts_in (texts s)) in
    let v = is_variable (program_of s) s.node in
    let more : take (i + 1) lefts ≡ take i lefts ++ x ∷ [] =
    take_more lefts i x below ∙ ap (λ y. take i lefts ++ y ∷ []) (sym is) in (
      ap (map f) pushed ∙ map-append f places (place ∷ [])
          ∙ same_two (λ (l : List Name) y. l ++ y ∷ []) _ _ _ _ h.0 at.0 ∙ sym more,
      ap (list_all p) pushed ∙ list_all-append p places (place ∷ [])
          ∙ and_from _ _ h.1 (and-true (p place) ∙ at.1),
      ap (list_all v) more ∙ list_all-append v (take i lefts) (x ∷ [])
          ∙ and_from _ _ h.2 (and-true (v x) ∙ known),
    )

-- an item that fails makes the whole list fail
one_fails : {A : Type 0} (p : A → Bool) (xs : List A) (i : ℕ) (x : A) → i < length xs
    → x ≡ get_or xs i x → p x ≡ false → list_all p xs ≡ false
one_fails p [] i x below is e = absurd (omega arith)
one_fails p (y ∷ xs) zero x below is e = and_left (p y) _ (ap p (sym is) ∙ e)
one_fails p (y ∷ xs) (suc i) x below is e =
    and_right (p y) _ (one_fails p xs i x (omega arith) is e)

pub loop-left-preserved : goal.loop-left-preserved
loop-left-preserved c =
    one_more_place (progress c.args.here.now) c.args.lefts.now c.loop-left.left-index
    c.left-item.result c.loop-left.places.items c.push.new.self.items c.in_ok-variable.field-0
    c.loop-left-test.true c.left-item.is c.in_ok-push.ensures.items c.in_ok-variable.ensures.found
    c.in_ok-variable.ensures.is_declared c.loop-left.invariant

pub returns-in_err-variable-clause-err : goal.returns-in_err-variable-clause-err
returns-in_err-variable-clause-err c =
    let p = err_from_is_err_and c.from_residual.result c.from_residual.ensures.1 in
    let s = progress c.args.here.now in
    let f = c.in_err-variable.field-0.0 in
    let test = counted (is_told f Variables) (is_variable (program_of s) s.node) in
    rw (p.1, p.2) (fault_within f (test c.left-item.result) (list_all test c.args.lefts.now)
    c.in_err-variable.ensures.err
    (one_fails test c.args.lefts.now c.loop-left.left-index c.left-item.result
    c.loop-left-test.true c.left-item.is))

pub returns-clause-fit : goal.returns-clause-fit
returns-clause-fit c =
    let s = progress c.args.here.now in
    subst (λ l. list_all (is_variable (program_of s) s.node) l ≡ true)
    (take_all c.loop-left.left-index c.args.lefts.now c.loop-left-test.false)
    c.loop-left.invariant.2

-- The types of the results of a term with a row of operands are those that its signature gives.
use Rattle.lb_check.proofs.Words
use Words.{◌≡◌, inl, inr, ℕ, Bool, true, false, List, [], ◌∷◌, length, map, Option, Some, None, Vec}
use Words.{Global, refl, ap, sym, subst, ◌∙◌, arith, list_all, and-false, nat_tests, ArrayIterator}
use Words.{Map, Red, Fill, BinaryOperator, ◌>>=◌, all_some, holds, where_true, CallId, Term}
use Words.{IterateNode, IterateSymbol, DataType, are_types, is_type, truth, IsGiven, Signature}
use Words.{are_met, are_one, arrays, evaluated, given_of, outcome, type_at, CallTypes, are_equal}
use Words.{results, row_results, type_of, array_of, iterator_types, symbol_types, ◌&&◌, nat_eq}
use Words.{nat_lt, option_map, replicate, if◌then◌else◌, Bool_kind}
use Rattle.lb_static.specs.declared.resolved.Term.{AtMostOne, Nor, Call}
use Rattle.lb_check.specs.TermSignatures.{rest_arrays, iterated, iterated_by, pair_of, scalars}
use Rattle.lb_check.specs.{TermSignatures.symbol_signature, TermTypes.{Context, truth_results}}
use Rattle.lb_check.specs.Types.{fill_types, map_types, red_types}
use Rattle.lb_check.proofs.typing.TypeRows.{results_of_row}

-- a row of types, each there or not
abbrev Types : Type 0
Types = List (Option DataType)

-- ## Wanted types beside given ones

pub met : (ws os : Types) → are_equal (all_some ws) (all_some os) ≡ are_met ws os
met [] [] = refl
met [] (None ∷ os) = refl
met [] (Some t ∷ os) = grind arith
met (None ∷ ws) [] = refl
met (Some s ∷ ws) [] = grind arith
met (None ∷ ws) (o ∷ os) = refl
met (Some s ∷ ws) (None ∷ os) = grind arith
met (Some s ∷ ws) (Some t ∷ os) = grind (arith, met ws os, and-false)

-- given types are not the wanted ones, where a wanted type is not there
unmet : (ws os : Types) → all_some ws ≡ None → are_met ws os ≡ false
unmet ws os e = sym (met ws os) ∙ ap (λ o. are_equal o (all_some os)) e

ungiven : (ws os : Types) → all_some os ≡ None → are_met ws os ≡ false
ungiven ws os e = sym (met ws os) ∙ grind arith

-- ## Types that are all there

abbrev there : List DataType → Types
there ts = map (λ t. Some t) ts

all_there : (ts : List DataType) → all_some (there ts) ≡ Some ts
all_there [] = refl
all_there (t ∷ ts) = ap (option_map (λ l. t ∷ l)) (all_there ts)

found_there : (os : Types) (ts : List DataType) → all_some os ≡ Some ts → os ≡ there ts
found_there [] ts e = let f : [] ≡ ts = cc in ap there f
found_there (None ∷ os) ts e = absurd cc
found_there (Some t ∷ os) ts e = grind (arith, found_there os)

inner_none : (t : DataType) (o : Option (List DataType)) →
    option_map (λ l. t ∷ l) o ≡ None → o ≡ None
inner_none t None e = refl
inner_none t (Some l) e = absurd cc

-- arrays of types that are all there
arrays_there : (n : ℕ) (ts : List DataType) → map (arrays n) (there ts) ≡ map (array_of n) ts
arrays_there n [] = refl
arrays_there n (t ∷ ts) = ap (λ (l : Types). array_of n t ∷ l) (arrays_there n ts)

no_arrays : (n : ℕ) (os : Types) → all_some os ≡ None → all_some (map (arrays n) os) ≡ None
no_arrays n [] e = absurd cc
no_arrays n (None ∷ os) e = refl
no_arrays n (Some t ∷ os) e = grind (arith, no_arrays n os, inner_none t (all_some os) e)

no_rest : (n : ℕ) (os : Types) → all_some os ≡ None → all_some (rest_arrays n os) ≡ None
no_rest n [] e = absurd cc
no_rest n (None ∷ os) e = refl
no_rest n (Some t ∷ os) e =
    ap (option_map (λ l. t ∷ l)) (no_arrays n os (inner_none t (all_some os) e))

-- ## Given types, from types that are all there

-- nothing is given where the test fails
refused : (b : Bool) (os : Types) → b ≡ false → (where_true b os >>= all_some) ≡ None
refused b os e = ap (λ c. where_true c os >>= all_some) e

nowhere : (b : Bool) (os : Types) → all_some os ≡ None → (where_true b os >>= all_some) ≡ None
nowhere b os e = grind arith

outcome_none : (s : Signature) (os : Types) → are_met s.takes os ≡ false →
    (outcome s os >>= all_some) ≡ None
outcome_none s os e =
    refused (s.stands && are_met s.takes os) s.gives
    (ap (λ b. s.stands && b) e ∙ and-false s.stands)

abbrev with_types : Types → Types → Bool → Signature
with_types takes gives stands = record { takes = takes; gives = gives; stands = stands }

abbrev known : List DataType → List DataType → Signature
known ins outs = with_types (there ins) (there outs) true

abbrev Gives : Type 0
Gives = (ins outs given : List DataType) → Option (List DataType)

-- the results of a call are those that the signature `over` that of its callee gives
module _ (f : Gives) (over : Signature → Signature)
    (no_takes : (s : Signature) → all_some s.takes ≡ None → all_some (over s).takes ≡ None)
    (no_gives : (s : Signature) → all_some s.gives ≡ None → all_some (over s).gives ≡ None)
    (no_stand : (s : Signature) → s.stands ≡ false → (over s).stands ≡ false)
    (all : (ins outs ts : List DataType) →
    f ins outs ts ≡ (outcome (over (known ins outs)) (there ts) >>= all_some)) where
  given_by : (s : Signature) (os : Types) →
      (all_some os >>= λ ts. evaluated s >>= λ p. f p.0 p.1 ts)
      ≡ (outcome (over s) os >>= all_some)
  given_by s os =
      by s.stands (all_some s.takes) (all_some s.gives) (all_some os) refl refl refl refl
    where
      standing : s.stands ≡ false → (outcome (over s) os >>= all_some) ≡ None
      standing e =
          refused ((over s).stands && are_met (over s).takes os) (over s).gives
          (ap (λ b. b && are_met (over s).takes os) (no_stand s e))

      by : (b : Bool) (p q o : Option (List DataType)) → s.stands ≡ b → all_some s.takes ≡ p →
          all_some s.gives ≡ q → all_some os ≡ o →
          (o >>= λ ts. (if b then pair_of p q else None) >>= λ p. f p.0 p.1 ts)
          ≡ (outcome (over s) os >>= all_some)
      by b p q None eb ep eq eo = sym (outcome_none (over s) os (ungiven (over s).takes os eo))
      by false p q (Some ts) eb ep eq eo = sym (standing eb)
      by true None q (Some ts) eb ep eq eo =
          sym (outcome_none (over s) os (unmet (over s).takes os (no_takes s ep)))
      by true (Some ins) None (Some ts) eb ep eq eo =
          sym (nowhere ((over s).stands && are_met (over s).takes os) (over s).gives
          (no_gives s eq))
      by true (Some ins) (Some outs) (Some ts) eb ep eq eo =
          let takes = found_there s.takes ins ep in
          let gives = found_there s.gives outs eq in
          all ins outs ts
          ∙ ap (λ l. outcome (over (known ins outs)) l >>= all_some) (sym (found_there os ts eo))
          ∙ ap (λ u. outcome (over u) os >>= all_some)
          (sym (ap (λ l. with_types l s.gives s.stands) takes
          ∙ ap (λ l. with_types (there ins) l s.stands) gives
          ∙ ap (with_types (there ins) (there outs)) eb))

-- ## A call

there_met : (ws ts : List DataType) → are_met (there ws) (there ts) ≡ are_types ws ts
there_met ws ts =
    sym (met (there ws) (there ts)) ∙ ap (λ o. are_equal o (all_some (there ts))) (all_there ws)
    ∙ ap (are_equal (Some ws)) (all_there ts)

where_there : (b : Bool) (ts : List DataType) →
    where_true b ts ≡ (where_true b (there ts) >>= all_some)
where_there b ts = grind (arith, all_there ts)

plain_gives : (ins outs ts : List DataType) →
    where_true (are_types ins ts) outs ≡ (outcome (known ins outs) (there ts) >>= all_some)
plain_gives ins outs ts =
    where_there (are_types ins ts) outs
    ∙ ap (λ b. where_true b (there outs) >>= all_some) (sym (there_met ins ts))

plain_given : (s : Signature) (os : Types) →
    (all_some os >>= λ ts. evaluated s >>= λ p. where_true (are_types p.0 ts) p.1)
    ≡ (outcome s os >>= all_some)
plain_given s os =
    given_by (λ ins outs ts. where_true (are_types ins ts) outs) (λ s. s) (λ s e. e) (λ s e. e)
    (λ s e. e) plain_gives s os

-- ## Iterators

module _ (n : ℕ) where
  -- wanted arrays are met exactly where the given types are these arrays
  arrays_met : (ws ts : List DataType) →
      are_met (map (arrays n) (there ws)) (there ts)
      ≡ holds (λ wanted. are_types wanted ts) (all_some (map (array_of n) ws))
  arrays_met ws ts =
      ap (λ l. are_met l (there ts)) (arrays_there n ws)
      ∙ sym (met (map (array_of n) ws) (there ts))
      ∙ ap (are_equal (all_some (map (array_of n) ws))) (all_there ts)

  map_gives : (ins outs ts : List DataType) →
      map_types n ins outs ts
      ≡ (outcome (iterated_by Map n (known ins outs)) (there ts) >>= all_some)
  map_gives ins outs ts = grind (arith, arrays_there n outs, arrays_met ins ts)

  red_gives : (ins outs ts : List DataType) →
      red_types n ins outs ts
      ≡ (outcome (iterated_by Red n (known ins outs)) (there ts) >>= all_some)
  red_gives [] outs ts = grind (arith, and-false)
  red_gives (acc ∷ ins) [] ts = refl
  red_gives (acc ∷ ins) (out ∷ []) [] = grind (arith, and-false)
  red_gives (acc ∷ ins) (out ∷ []) (init ∷ args) = grind (arith, arrays_met ins args, and-false)
  red_gives (acc ∷ ins) (out ∷ (o ∷ outs)) ts = grind (arith, nat_tests)

  fill_gives : (ins outs ts : List DataType) →
      fill_types n ins outs ts
      ≡ (outcome (iterated_by Fill n (known ins outs)) (there ts) >>= all_some)
  fill_gives [] outs ts = refl
  fill_gives (acc ∷ (i ∷ ins)) outs ts = grind (arith, nat_tests)
  fill_gives (acc ∷ []) [] ts = refl
  fill_gives (acc ∷ []) (out ∷ []) ts = refl
  fill_gives (acc ∷ []) (out ∷ (o ∷ outs)) [] = grind (arith, and-false)
  fill_gives (acc ∷ []) (out ∷ (o ∷ outs)) (init ∷ (t ∷ ts)) = grind (arith, and-false)
  fill_gives (acc ∷ []) (out ∷ (o ∷ outs)) (init ∷ []) =
      grind (arith, nat_tests, arrays_there n (o ∷ outs))

  iterated_given : (it : ArrayIterator) (s : Signature) (os : Types) →
      (all_some os >>= λ ts. evaluated s >>= λ p. iterator_types it n p.0 p.1 ts)
      ≡ (outcome (iterated_by it n s) os >>= all_some)
  iterated_given Map s os =
      given_by (map_types n) (iterated_by Map n) (λ s e. no_arrays n s.takes e)
      (λ s e. no_arrays n s.gives e) (λ s e. e) map_gives s os
  iterated_given Red s os =
      given_by (red_types n) (iterated_by Red n) (λ s e. no_rest n s.takes e) (λ s e. e)
      (λ s e. ap (λ b. b && (nat_eq (length s.gives) 1
      && are_one (type_at s.takes 0) (type_at s.gives 0))) e) red_gives s os
  iterated_given Fill s os =
      given_by (fill_types n) (iterated_by Fill n) (λ s e. e) (λ s e. no_rest n s.gives e)
      (λ s e. ap (λ b. b && ((nat_eq (length s.takes) 1 && nat_lt 1 (length s.gives))
      && are_one (type_at s.takes 0) (type_at s.gives 0))) e) fill_gives s os

-- ## Operators on truths

truths_met : (os : Types) →
    are_met (replicate (length os) (Some truth)) os
    ≡ holds (list_all (is_type truth)) (all_some os)
truths_met [] = refl
truths_met (None ∷ os) = refl
truths_met (Some t ∷ os) = grind (arith, truths_met os, and-false)

truths_given : (os : Types) →
    (all_some os >>= truth_results)
    ≡ (outcome (scalars Bool_kind (length os) true) os >>= all_some)
truths_given os = grind (arith, truths_met os)

-- ## Terms

symbol_types_are : (op : BinaryOperator) → symbol_types op ≡ evaluated (symbol_signature op)
symbol_types_are op = grind arith

none_after : (o : Option (List DataType)) →
    (o >>= λ ts. let none : Option (List DataType) = None in none) ≡ None
none_after None = refl
none_after (Some ts) = refl

module _ (called : CallId → Signature) (ctx : Context)
    (law : (c : CallId) → ctx.call c ≡ evaluated (called c)) where
  abbrev Holds : Term → Types → Type 0
  Holds t os = (all_some os >>= row_results ctx t) ≡ (given_of called ctx t os >>= all_some)

  of_call : (c : CallId) (es : Vec Term Global) (os : Types) → Holds (Call c es) os
  of_call c es os =
      ap (λ p. all_some os >>= λ ts. p >>= λ o. where_true (are_types o.0 ts) o.1) (law c)
      ∙ plain_given (called c) os

  -- the results of an iterated callee are those that its signature gives, where its count is known
  of_iterated : (it : ArrayIterator) (o : Option ℕ) (p : Option CallTypes) (s : Signature)
      (os : Types) → p ≡ evaluated s →
      (all_some os >>= λ ts. o >>= λ n. p >>= λ q. iterator_types it n q.0 q.1 ts)
      ≡ (outcome (iterated it o s) os >>= all_some)
  of_iterated it o p s os e =
      ap (λ q. all_some os >>= λ ts. o >>= λ n. q >>= λ q. iterator_types it n q.0 q.1 ts) e
      ∙ by o
    where
      by : (o : Option ℕ) →
          (all_some os >>= λ ts. o >>= λ n. evaluated s >>= λ q. iterator_types it n q.0 q.1 ts)
          ≡ (outcome (iterated it o s) os >>= all_some)
      by None = none_after (all_some os)
      by (Some n) = iterated_given n it s os

  of_form : (t u : Term) (os : Types) → t ≡ u → Holds u os → Holds t os
  of_form t u os e h = subst (λ x. Holds x os) (sym e) h

  pub results_given : (t : Term) (es : Vec Term Global) → IsGiven t es →
      results ctx t ≡ (given_of called ctx t (map (type_of ctx) es.items) >>= all_some)
  results_given t es is = results_of_row ctx t es (inr is) ∙ by (map (type_of ctx) es.items) is
    where
      by : (os : Types) → IsGiven t es → Holds t os
      by os (inl e) = of_form t (AtMostOne es) os e (truths_given os)
      by os (inr (inl e)) = of_form t (Nor es) os e (truths_given os)
      by os (inr (inr (inl (c, e)))) = of_form t (Call c es) os e (of_call c es os)
      by os (inr (inr (inr (inl (it, c, e))))) =
          of_form t (IterateNode it c es) os e
          (of_iterated it (ctx.repeats c) (ctx.call c) (called c) os (law c))
      by os (inr (inr (inr (inr (it, op, n, e))))) =
          of_form t (IterateSymbol it op n es) os e
          (of_iterated it (ctx.count n) (symbol_types op) (symbol_signature op) os
          (symbol_types_are op))

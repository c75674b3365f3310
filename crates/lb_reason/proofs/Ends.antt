-- The steps of a fault lead to the operation that makes it.
use Rattle.std.proofs.Common.{◌≡◌, ◌∙◌, ◌<◌, ℕ, zero, suc, Bool, true, false, Option, Some, None}
use Rattle.std.proofs.Common.{List, [], ◌∷◌, ◌+◌, add-one, ap, arith, length, refl, subst, sym}
use Rattle.std.specs.Prelude.{if◌then◌else◌}
use Rattle.std.specs.List.{last_or}
use Rattle.lb_syntax.specs.Lists.{Every}
use Rattle.lb_check.specs.Scalars.{Cell, Integer, Boolean, Nil, Bad}
use Rattle.lb_flat.specs.Flat.{FlatEquation, Operation}
use Rattle.lb_flat.specs.Run.{Ready, Row, cell}
use Rattle.lb_reason.specs.Deciding.{chain, decided_by, deciding, first_of, given_by, is_bad}
use Rattle.lb_reason.specs.Deciding.{is_nil, next_element, operands_taken}
use Rattle.lb_reason.specs.Ends.{IsFollowed, all_steps}
use Rattle.lb_reason.proofs.Ranks.{rank, rank_falls, rank_within}

-- the last of some elements has a property that all of them have
last_has :
    (P : ℕ → Type 0) (o : Option ℕ) (es : List ℕ) → ((e : ℕ) → o ≡ Some e → P e) → Every P es →
    (last : ℕ) → last_or o es ≡ Some last → P last
last_has P o [] has all last is = has last is
last_has P o (e ∷ es) has all last is =
    last_has P (Some e) es
    (λ a same. let alike : e ≡ a = cc in subst P alike all.0) all.1 last is

module _ (Q : List FlatEquation) (row : Row) where
  -- no element decides the last of a chain, where its count is large enough
  last_ends :
      (size n before : ℕ) (o : Option ℕ) → Ready size [] Q → o ≡ next_element Q row before →
      ((e : ℕ) → o ≡ Some e → rank Q e < n) → (last : ℕ) →
      last_or (Some before) (chain n Q row o) ≡ Some last → next_element Q row last ≡ None
  last_ends size zero before None ready next few last is =
      let alike : before ≡ last = cc in
      subst (λ (e : ℕ). next_element Q row e ≡ None) alike (sym next)
  last_ends size zero before (Some e) ready next few last is =
      let never : rank Q e < 0 = few e refl in absurd (omega (arith, never))
  last_ends size (suc n) before None ready next few last is =
      let alike : before ≡ last = cc in
      subst (λ (e : ℕ). next_element Q row e ≡ None) alike (sym next)
  last_ends size (suc n) before (Some e) ready next few last is =
      last_ends size n e (next_element Q row e) ready refl
      (λ a goes. let lt = rank_falls size Q row e a ready goes in
      let few : rank Q e < suc n = few e refl in omega (arith, lt, few))
      last is

  all_are : (first : ℕ) → all_steps Q row first ≡ chain (suc (length Q)) Q row (Some first)
  all_are first = ap (λ n. chain n Q row (Some first)) (add-one (length Q))

  pub steps_end :
      (size : ℕ) → Ready size [] Q → (first last : ℕ) →
      last_or None (all_steps Q row first) ≡ Some last → next_element Q row last ≡ None
  steps_end size ready first last is =
      last_ends size (length Q) first (next_element Q row first) ready refl
      (λ a goes. let lt = rank_falls size Q row first a ready goes in
      let most = rank_within Q first in omega (arith, lt, most))
      last (sym (ap (last_or None) (all_are first)) ∙ is)

  module _ (test : Cell → Bool)
      (follows : (x : Cell) (q : Operation) → test x ≡ true →
      deciding row x q ≡ first_of test row (operands_taken row q)) where
    found_passes : (es : List ℕ) (a : ℕ) → first_of test row es ≡ Some a → test (cell row a) ≡ true
    found_passes [] a is = absurd (cc)
    found_passes (e ∷ es) a is =
        by_test (test (cell row e)) refl (found_passes es a) is
      where
        by_test :
            (b : Bool) → test (cell row e) ≡ b →
            (first_of test row es ≡ Some a → test (cell row a) ≡ true) →
            (if b then Some e else first_of test row es) ≡ Some a → test (cell row a) ≡ true
        by_test true passes rest same =
            let alike : e ≡ a = cc in subst (λ (i : ℕ). test (cell row i) ≡ true) alike passes
        by_test false fails rest same = rest same

    none_passes :
        (es : List ℕ) → first_of test row es ≡ None → Every (λ a. test (cell row a) ≡ false) es
    none_passes [] is = tt
    none_passes (e ∷ es) is = by_test (test (cell row e)) refl (none_passes es) is
      where
        by_test :
            (b : Bool) → test (cell row e) ≡ b →
            (first_of test row es ≡ None → Every (λ a. test (cell row a) ≡ false) es) →
            (if b then Some e else first_of test row es) ≡ None →
            Every (λ a. test (cell row a) ≡ false) (e ∷ es)
        by_test true passes rest same = absurd (cc)
        by_test false fails rest same = (fails, rest same)

    next_passes :
        (e : ℕ) (o : Option FlatEquation) (a : ℕ) → test (cell row e) ≡ true →
        decided_by row e o ≡ Some a → test (cell row a) ≡ true
    next_passes e None a passes is = absurd (cc)
    next_passes e (Some q) a passes is =
        found_passes (operands_taken row q.operation) a
        (sym (follows (cell row e) q.operation passes) ∙ is)

    all_pass :
        (n : ℕ) (o : Option ℕ) → ((e : ℕ) → o ≡ Some e → test (cell row e) ≡ true) →
        Every (λ e. test (cell row e) ≡ true) (chain n Q row o)
    all_pass zero o passes = tt
    all_pass (suc n) None passes = tt
    all_pass (suc n) (Some e) passes = (
      passes e refl,
      all_pass n (next_element Q row e)
          (λ a is. next_passes e (given_by Q e) a (passes e refl) is),
    )

    pub followed : (first : ℕ) → test (cell row first) ≡ true → IsFollowed test Q row first
    followed first passes_first =
        let starts : (e : ℕ) → Some first ≡ Some e → test (cell row e) ≡ true = λ e same.
        let alike : first ≡ e = cc in
        subst (λ (i : ℕ). test (cell row i) ≡ true) alike passes_first in
        let all : Every (λ e. test (cell row e) ≡ true) (all_steps Q row first) =
        all_pass (length Q + 1) (Some first) starts in
        record {
          each = all;
          made = λ size last ready is q given.
              let passes : test (cell row last) ≡ true =
              last_has (λ e. test (cell row e) ≡ true) None (all_steps Q row first)
              (λ e none. absurd (cc)) all last is in
              none_passes (operands_taken row q.operation)
              (sym (follows (cell row last) q.operation passes)
              ∙ sym (ap (decided_by row last) given) ∙ steps_end size ready first last is);
        }

-- where an operation gives a fault, the first operand that is a fault decides
pub bad_follows :
    (row : Row) (x : Cell) (q : Operation) → is_bad x ≡ true →
    deciding row x q ≡ first_of is_bad row (operands_taken row q)
bad_follows row None q is = absurd (cc)
bad_follows row (Some (Integer z)) q is = absurd (cc)
bad_follows row (Some (Boolean b)) q is = absurd (cc)
bad_follows row (Some Nil) q is = absurd (cc)
bad_follows row (Some Bad) q is = refl

-- where an operation gives nil, the first operand that is nil decides
pub nil_follows :
    (row : Row) (x : Cell) (q : Operation) → is_nil x ≡ true →
    deciding row x q ≡ first_of is_nil row (operands_taken row q)
nil_follows row None q is = absurd (cc)
nil_follows row (Some (Integer z)) q is = absurd (cc)
nil_follows row (Some (Boolean b)) q is = absurd (cc)
nil_follows row (Some Nil) q is = refl
nil_follows row (Some Bad) q is = absurd (cc)

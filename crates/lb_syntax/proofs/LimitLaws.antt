-- The walk over the tokens finds the first token that breaks a limit.
use Rattle.std.proofs.Common.{◌≡◌, ℕ, suc, ◌+◌, ◌<◌, ◌≤◌, Bool, true, false, not, ◌&&◌, List, []}
use Rattle.std.proofs.Common.{◌∷◌, length, take, drop, get_or, drop-cons, Option, Some, None, refl}
use Rattle.std.proofs.Common.{ap, subst, sym, inl, inr, ◌∙◌, ◌↔◌, ◌⊎◌, zero-add, add-zero, add-one}
use Rattle.std.proofs.Common.{add_assoc, arith, count_by, IsNone, IsTrue, IfSome, is_some}
use Rattle.std.specs.List.{list_all}
use Rattle.std.specs.Option.{option_map}
use Rattle.std.specs.Prelude.{nat_le}
use Rattle.std.proofs.lemmas.List.{drop_all}
use Rattle.std.proofs.lemmas.List.Sums.{sum_by-cons}
use Rattle.std.proofs.lemmas.Bool.{cases_Bool, le-leb, lt-leb, leb-true, leb-false, true≢false}
use Rattle.lb_syntax.specs.declared.token.Token.{Token}
use Rattle.lb_syntax.specs.declared.token.Token.TheVariants as token
use Rattle.lb_syntax.specs.Limits.{is_short_name, is_small_literal, is_separator, depth_after}
use Rattle.lb_syntax.specs.Limits.{is_counted, is_small_statement, in_first, runs, keeps_limits}
use Rattle.lb_syntax.specs.Limits.{IsFirstOver}
use Rattle.lb_syntax.specs.TokenCounts.{weight_of, counted_after, here_or, over_from}

-- ---- the limits from a place on, where some tokens of the statement are counted already

abbrev keeps_by : (ℕ → Bool) → Option ℕ → Bool
keeps_by later None = false
keeps_by later (Some counted) = later counted

abbrev keeps_from : ℕ → ℕ → List Token → Bool
keeps_from depth counted [] = true
keeps_from depth counted (t ∷ ts) =
    keeps_by (λ more. keeps_from (depth_after depth t) more ts) (counted_after depth counted t)

-- ---- these limits are the limits of a text

abbrev small_from : ℕ → List (List Token) → Bool
small_from counted [] = true
small_from counted (run ∷ rest) =
    nat_le (counted + count_by is_counted run) 500 && list_all is_small_statement rest

small_from-zero : (all : List (List Token)) → small_from 0 all ≡ list_all is_small_statement all
small_from-zero [] = refl
small_from-zero (run ∷ rest) = rw zero-add refl

small_from-separator : (counted : ℕ) (all : List (List Token)) → counted ≤ 500 →
    small_from counted ([] ∷ all) ≡ small_from 0 all
small_from-separator counted all few =
    let small : nat_le counted 500 ≡ true = le-leb counted 500 few in
    rw (add-zero, small) (sym (small_from-zero all))

small_from-in_first : (counted : ℕ) (t : Token) (all : List (List Token)) →
    small_from counted (in_first t all) ≡
    (nat_le (counted + weight_of t) 500 && small_from (counted + weight_of t) all)
small_from-in_first counted t [] =
    ap (λ n. nat_le (counted + n) 500 && true) (zero-add (weight_of t))
small_from-in_first counted t (run ∷ rest) =
    let more = counted + weight_of t in
    let all : counted + count_by is_counted (t ∷ run) ≡ more + count_by is_counted run =
    ap (λ n. counted + n) (sum_by-cons weight_of t run) ∙
    sym (add_assoc counted (weight_of t) (count_by is_counted run)) in
    ap (λ n. nat_le n 500 && list_all is_small_statement rest) all ∙
    (elim (cases_Bool (nat_le more 500)) [
      | inl few ↦ rw few refl
      | inr many ↦
          let counts = more + count_by is_counted run in
          let over : 500 < counts = omega (arith, leb-false more 500 many) in
          let broken : nat_le counts 500 ≡ false = lt-leb counts 500 over in
          rw (many, broken) refl
    ])

and_false : (a b : Bool) → (a && (false && b)) ≡ false
and_false true b = refl
and_false false b = refl

fronts_first : (a more b bs rest : Bool) →
    (((a && more) && (b && bs)) && rest) ≡ ((a && b) && ((more && bs) && rest))
fronts_first false more b bs rest = refl
fronts_first true false false bs rest = refl
fronts_first true true false bs rest = refl
fronts_first true more true bs rest = refl

abbrev limits_from : ℕ → ℕ → List Token → Bool
limits_from depth counted ts =
    list_all is_short_name ts && list_all is_small_literal ts && small_from counted (runs depth ts)

limits_are_kept : (depth counted : ℕ) (ts : List Token) → counted ≤ 500 →
    limits_from depth counted ts ≡ keeps_from depth counted ts
unfolding runs
limits_are_kept depth counted [] few =
    let small : nat_le counted 500 ≡ true = le-leb counted 500 few in rw (add-zero, small) refl
limits_are_kept depth counted (t ∷ ts) few =
    let next = depth_after depth t in
    let names = list_all is_short_name ts in
    let literals = list_all is_small_literal ts in
    let others = names && literals in
    let more = counted + weight_of t in
    fronts_first (is_short_name t) names (is_small_literal t) literals
    (small_from counted (runs depth (t ∷ ts))) ∙
    elim (cases_Bool (is_short_name t && is_small_literal t)) [
      | inr broken ↦ rw broken refl
      | inl kept ↦ rw kept (elim (cases_Bool (is_separator depth t)) [
        | inl separates ↦ rw separates
            (ap (λ small. others && small) (small_from-separator counted (runs next ts) few) ∙
            limits_are_kept next 0 ts (omega arith))
        | inr joins ↦ rw joins
            (ap (λ small. others && small) (small_from-in_first counted t (runs next ts)) ∙
            elim (cases_Bool (nat_le more 500)) [
              | inl fits ↦ rw fits (limits_are_kept next more ts (leb-true more 500 fits))
              | inr over ↦ rw over (and_false others (small_from more (runs next ts)))
            ])
      ])
    ]

-- ---- the walk finds the first token that breaks a limit

record IsOver (depth counted : ℕ) (ts : List Token) (index : ℕ) : Type 0 where
  within : index < length ts
  kept_before : keeps_from depth counted (take index ts) ≡ true
  broken_with_it : keeps_from depth counted (take (index + 1) ts) ≡ false

cases_Option : (o : Option ℕ) → (o ≡ None) ⊎ ((n : ℕ) × (o ≡ Some n))
cases_Option None = inl refl
cases_Option (Some n) = inr (n, refl)

is_some-option_map : (o : Option ℕ) → is_some (option_map (λ n. suc n) o) ≡ is_some o
is_some-option_map None = refl
is_some-option_map (Some n) = refl

none_is_over : (depth counted : ℕ) (ts : List Token) →
    keeps_from depth counted ts ≡ not (is_some (over_from depth counted ts))
none_is_over depth counted [] = refl
none_is_over depth counted (t ∷ ts) =
    elim (cases_Option (counted_after depth counted t)) [
      | inl over ↦ rw over refl
      | inr (more, fits) ↦
          rw (fits, is_some-option_map (over_from (depth_after depth t) more ts))
          (none_is_over (depth_after depth t) more ts)
    ]

-- a token `t` that breaks a limit is the first one in `t ∷ ts` to do so
over_here : (depth counted : ℕ) (t : Token) (ts : List Token) →
    counted_after depth counted t ≡ None → IsOver depth counted (t ∷ ts) 0
over_here depth counted t ts over =
    record { within = omega arith; kept_before = refl; broken_with_it = rw over refl }

-- where `t` breaks no limit, the first token of `ts` that does is the first one in `t ∷ ts`
over_later : (depth counted more : ℕ) (t : Token) (ts : List Token) (index : ℕ) →
    counted_after depth counted t ≡ Some more → IsOver (depth_after depth t) more ts index →
    IsOver depth counted (t ∷ ts) (suc index)
over_later depth counted more t ts index fits rest =
    let one_more : suc index + 1 ≡ suc (index + 1) = omega arith in
    record {
      within = omega arith;
      kept_before = rw fits rest.kept_before;
      broken_with_it = rw (one_more, fits) rest.broken_with_it;
    }

over_is_first : (depth counted : ℕ) (ts : List Token) (index : ℕ) →
    over_from depth counted ts ≡ Some index → IsOver depth counted ts index
over_is_first depth counted [] index e = cc
over_is_first depth counted (t ∷ ts) index e =
    elim (cases_Option (counted_after depth counted t)) [
      | inl over ↦
          let first : Some 0 ≡ Some index = rw over at e in
          let here : 0 ≡ index = cc in
          subst (IsOver depth counted (t ∷ ts)) here (over_here depth counted t ts over)
      | inr (more, fits) ↦
          let next = depth_after depth t in
          let rest = over_from next more ts in
          let later : option_map (λ n. suc n) rest ≡ Some index = rw fits at e in
          elim (cases_Option (over_from next more ts)) [
            | inl none ↦ let nothing : None ≡ Some index = rw none at later in cc
            | inr (n, some) ↦
                let first : Some (suc n) ≡ Some index = rw some at later in
                let here : suc n ≡ index = cc in
                subst (IsOver depth counted (t ∷ ts)) here
                (over_later depth counted more t ts n fits (over_is_first next more ts n some))
          ]
    ]

-- ---- the answer of the walk on a whole list

limits_decided : (ts : List Token) → keeps_limits ts ≡ keeps_from 0 0 ts
limits_decided ts =
    let others = list_all is_short_name ts && list_all is_small_literal ts in
    ap (λ small. others && small) (sym (small_from-zero (runs 0 ts))) ∙
    limits_are_kept 0 0 ts (omega arith)

kept_by_answer : (ts : List Token) (answer : Option ℕ) → over_from 0 0 ts ≡ answer →
    keeps_limits ts ≡ not (is_some answer)
kept_by_answer ts answer e = limits_decided ts ∙ none_is_over 0 0 ts ∙ ap (λ o. not (is_some o)) e

-- `answer` is none if the limits are kept, else the index of the first token that breaks one
pub record IsFirstOverOrNone (ts : List Token) (answer : Option ℕ) : Type 0 where
  pub kept : IsNone answer ↔ IsTrue (keeps_limits ts)
  pub first : IfSome answer (IsFirstOver ts)

pub counts_find_first : (ts : List Token) (answer : Option ℕ) → over_from 0 0 ts ≡ answer →
    IsFirstOverOrNone ts answer
counts_find_first ts None e =
    let kept = kept_by_answer ts None e in
    record { kept = ((λ _. kept), (λ _. refl)); first = tt }
counts_find_first ts (Some index) e =
    let over = over_is_first 0 0 ts index e in
    let broken = kept_by_answer ts (Some index) e in
    record {
      kept = (
        (λ none. absurd (true≢false none)),
        (λ kept. absurd (true≢false (sym kept ∙ broken))),
      );
      first = record {
        within = over.within;
        kept_before = limits_decided (take index ts) ∙ over.kept_before;
        broken_with_it = limits_decided (take (index + 1) ts) ∙ over.broken_with_it;
      };
    }

-- ---- the walk, step by step

-- `whole`, the answer of the walk, is the answer `rest` of the walk from `index` on, plus `index`
abbrev pub IsAnswer : Option ℕ → ℕ → Option ℕ → Type 0
IsAnswer whole index rest = whole ≡ option_map (λ n. index + n) rest

here_answer : (whole : Option ℕ) (index : ℕ) → IsAnswer whole index (Some 0) → whole ≡ Some index
here_answer whole index e =
    let here : index + 0 ≡ index = omega arith in e ∙ ap (λ k. Some k) here

drop-at : (ts : List Token) (index : ℕ) (t : Token) → index < length ts → t ≡ get_or ts index t →
    drop index ts ≡ t ∷ drop (index + 1) ts
drop-at ts index t below here =
    let rest = drop (suc index) ts in
    rw add-one (drop-cons ts index t below ∙ ap (λ first. first ∷ rest) (sym here))

pub counts_stop : (ts : List Token) (whole : Option ℕ) (depth counted index : ℕ) (t : Token) →
    index < length ts → t ≡ get_or ts index t → counted_after depth counted t ≡ None →
    IsAnswer whole index (over_from depth counted (drop index ts)) → whole ≡ Some index
counts_stop ts whole depth counted index t below here over e =
    let rest = drop (index + 1) ts in
    let step : over_from depth counted (drop index ts) ≡ Some 0 =
    ap (over_from depth counted) (drop-at ts index t below here) ∙
    ap (here_or (λ more. over_from (depth_after depth t) more rest)) over in
    here_answer whole index (e ∙ ap (option_map (λ n. index + n)) step)

pub counts_end : (ts : List Token) (whole : Option ℕ) (depth counted index : ℕ) →
    length ts ≤ index → IsAnswer whole index (over_from depth counted (drop index ts)) →
    whole ≡ None
counts_end ts whole depth counted index over e =
    let none = drop_all index ts over in
    e ∙ ap (λ rest. option_map (λ n. index + n) (over_from depth counted rest)) none

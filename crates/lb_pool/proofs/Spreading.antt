-- The verdicts of all batches, in the order of the batches.
use Rattle.std.proofs.Common.{◌≡◌, ℕ, ◌<◌, List, [], ◌∷◌, ◌++◌, Vec, Global, length, get_or, refl}
use Rattle.std.proofs.Common.{ap, ◌∙◌, subst, sym, arith}
use Rattle.std.specs.Prelude.{flat_map, map, IfOk, Ok, Result}
use Rattle.std.specs.List.{AllZip, Contains, range_with_len}
use Rattle.std.proofs.lemmas.List.{map-append}
use Rattle.std.proofs.lemmas.List.Elements.{All-nil, All-append}
use Rattle.std.proofs.lemmas.List.FromFn.{length-range_with_len, get_or-range_with_len}
use Rattle.lb_traces.specs.Traces.{Recording}
use Rattle.lb_flat.specs.declared.program.FlatProgram.{FlatProgram}
use Rattle.lb_plan.specs.Plans.{numbers_in, IsLawful}
use Rattle.lb_pool.specs.Runs.{IsJudgedTrace, AreJudged, IsBatchOf, numbers_of, numbers_drawn}
use Rattle.lb_pool.specs.declared.batch.Judged.{Judged}
use Rattle.lb_pool.proofs.Covering.{covered_by}

module _ (p : FlatProgram) (r : Recording) (batches : List (List ℕ)) where
  abbrev AreBatches : List ℕ → List (Vec Judged Global) → Type 0
  AreBatches drawn lists = AllZip (λ i judged. IsBatchOf p r batches i judged.items) drawn lists

  abbrev together : List (Vec Judged Global) → List Judged
  together lists = flat_map (λ judged. judged.items) lists

  pub all_judged :
      (drawn : List ℕ) (lists : List (Vec Judged Global)) → AreBatches drawn lists →
      AreJudged p r (together lists)
  all_judged [] [] h = All-nil (IsJudgedTrace p r)
  all_judged [] (b ∷ bs) h = absurd h
  all_judged (i ∷ is) [] h = absurd h
  all_judged (i ∷ is) (b ∷ bs) h =
      All-append (IsJudgedTrace p r) b.items (together bs) h.0.judged (all_judged is bs h.1)

  numbers_are :
      (drawn : List ℕ) (lists : List (Vec Judged Global)) → AreBatches drawn lists →
      numbers_of (together lists) ≡ numbers_drawn batches drawn
  numbers_are [] [] h = refl
  numbers_are [] (b ∷ bs) h = absurd h
  numbers_are (i ∷ is) [] h = absurd h
  numbers_are (i ∷ is) (b ∷ bs) h =
      map-append (λ (j : Judged). j.trace) b.items (together bs)
      ∙ ap (λ l. l ++ numbers_of (together bs)) h.0.numbers
      ∙ ap (λ l. get_or batches i [] ++ l) (numbers_are is bs h.1)

  pub each_judged :
      (n : ℕ) (lists : List (Vec Judged Global)) → IsLawful batches →
      length (numbers_in batches) ≡ n → AreBatches (range_with_len 0 (length batches)) lists →
      (k : ℕ) → k < n → Contains (numbers_of (together lists)) k
  each_judged n lists lawful over_all h k below =
      let all = range_with_len 0 (length batches) in
      let long = length-range_with_len 0 (length batches) in
      let in_all : (i : ℕ) → i < length batches → Contains all i =
      λ i inside.
      let at = get_or-range_with_len 0 (length batches) i i inside in
      (i, omega (arith, long, inside), omega (arith, at)) in
      subst (λ l. Contains l k) (sym (numbers_are all lists h))
      (covered_by n batches all lawful over_all in_all k below)

-- what is known of each result that is `Ok` is known of its value
oks :
    {A B : Type 0} (E : Type 0) (R : A → B → Type 0) (xs : List A) (ys : List B) →
    AllZip (λ x y. IfOk {T = B} {E = E} y (R x)) xs (map Ok ys) → AllZip R xs ys
oks E R [] [] h = tt
oks E R [] (y ∷ ys) h = absurd h
oks E R (x ∷ xs) [] h = absurd h
oks E R (x ∷ xs) (y ∷ ys) h = (h.0, oks E R xs ys h.1)

pub of_collected :
    {A B E : Type 0} (R : A → B → Type 0) (xs : List A) (rs : List (Result B E)) (all : List B) →
    AllZip (λ x y. IfOk {T = B} {E = E} y (R x)) xs rs → (ys : List B) → rs ≡ map Ok ys →
    all ≡ ys → AllZip R xs all
of_collected {E = E} R xs rs all h ys worked same =
    subst (AllZip R xs) (sym same)
    (oks E R xs ys (subst (AllZip (λ x y. IfOk y (R x)) xs) worked h))

-- drops the states between results from what is known of them
pub of_states :
    {A B : Type 0} (S : Type 0) (R : A → B → Type 0) (xs : List A) (ys : List B) →
    AllZip (λ x y. (before after : S) × R x y) xs ys → AllZip R xs ys
of_states S R [] [] h = tt
of_states S R [] (y ∷ ys) h = absurd h
of_states S R (x ∷ xs) [] h = absurd h
of_states S R (x ∷ xs) (y ∷ ys) h = (h.0.2, of_states S R xs ys h.1)

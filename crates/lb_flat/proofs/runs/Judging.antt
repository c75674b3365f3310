-- The verdict of a flat program's run and of its beginnings.
use Rattle.lb_flat.proofs.Words
use Words.{◌≡◌, ℕ, zero, suc, ◌+◌, ◌<◌, inl, inr, Bool, true, false, refl, sym, subst, arith}
use Words.{Program, History, or_later, ◌≤◌, ◌||◌, Option, Some, List, [], ◌∷◌, map, length, drop}
use Words.{get_or, ap, ap₂, ◌∙◌, drop-cons, drop_of_length-le, Passed, Stream, Inputs, is_bad}
use Words.{is_nil, is_false, FlatEquation, column, FlatSolves, Row, cell, advanced, Ready, row_of}
use Words.{run, FlatProgram, some_in, row_judged, rows_judged, flat_verdict, IsWatched, ◌&&◌, None}
use Words.{◌++◌, take, replicate, Every, zip2, Declaration, Instance, Path, variables, shows}
use Words.{AgreeAt, FlatClock, Always, Where, instants, streams_of, Layout, history_of, slice_get}
use Words.{if◌then◌else◌}
use Rattle.lb_check.specs.{Scalars.Cell, Verdicts.{Ends, judged, verdict_from, is_fault}}
use Rattle.lb_check.specs.Verdicts.{is_undefined, is_failed, is_violated, decides, some_at}
use Rattle.lb_check.specs.declared.verdict.Verdict.TheVariants.{Fault, Undefined, Assertion, False}
use Rattle.{lb_check.proofs.programs.SameHistories.compared, lb_flat.specs.Judging.named_elements}
use Rattle.lb_flat.specs.{Judging.truth_elements, Prefixes.IsPrefixAt}
use Rattle.lb_flat.proofs.runs.Running.{after_first, column_step, step_of, ready_advanced, exists}

-- The verdict of a history is the one that is found by looking at one instant after another.

module _ (P : Program) (H : History) (count : ℕ) where
  -- nothing happens before instant t
  abbrev IsQuiet : ℕ → Type 0
  IsQuiet t = (s : ℕ) → s < t → decides P H s ≡ false

  quiet_on : (t : ℕ) → IsQuiet t → decides P H t ≡ false → IsQuiet (suc t)
  quiet_on t q e s lt =
      elim (compared s t) [
        | inl less ↦ q s less
        | inr r ↦ elim r [
          | inl same ↦ subst (λ u. decides P H u ≡ false) (sym same) e
          | inr more ↦ absurd (omega arith)
        ]
      ]

  -- one step of the search for the verdict, from an instant before which nothing happened
  step :
      (t n : ℕ) (f u a v : Bool) → t < count → IsQuiet t → is_fault P H t ≡ f →
      is_undefined P H t ≡ u → is_failed P H t ≡ a → is_violated P H t ≡ v →
      (IsQuiet (suc t) → Ends P H count (verdict_from P H (suc t) n)) →
      Ends P H count (or_later (judged P H t) (verdict_from P H (suc t) n))
  step t n true u a v lt q p z r s later =
      rw p (record { within = lt; happens = rw p refl; not_before = q }, p)
  step t n false true a v lt q p z r s later =
      rw (p, z) (record { within = lt; happens = rw (p, z) refl; not_before = q }, p, z)
  step t n false false true v lt q p z r s later =
      rw (p, z, r) (record { within = lt; happens = rw (p, z, r) refl; not_before = q }, p, z, r)
  step t n false false false true lt q p z r s later =
      rw (p, z, r, s)
      (record { within = lt; happens = rw (p, z, r, s) refl; not_before = q }, p, z, r)
  step t n false false false false lt q p z r s later =
      rw (p, z, r, s) (later (quiet_on t q (rw (p, z, r, s) refl)))

  ends_from : (t n : ℕ) → t + n ≡ count → IsQuiet t → Ends P H count (verdict_from P H t n)
  ends_from t zero e q = λ s lt. q s (omega (arith, e))
  ends_from t (suc n) e q =
      step t n _ _ _ _ (omega (arith, e)) q refl refl refl refl
      (λ r. ends_from (suc t) n (omega (arith, e)) r)

  -- the verdict that is found in this way is the verdict of the history
  pub ends : Ends P H count (verdict_from P H 0 count)
  ends = ends_from 0 count (omega arith) (λ s lt. absurd (omega (arith, lt)))

-- The verdict of the rows of a flat program in order is that of the history of its program.

-- ## The rows of a solution

pub length-run : (size : ℕ) (Q : List FlatEquation) (X : Inputs) → length (run size Q X) ≡ length X
length-run size Q [] = refl
length-run size Q (given ∷ X) = ap suc (length-run size (map (advanced (row_of size Q given)) Q) X)

-- the cell of an element's stream at an instant is its cell in the row of that instant
cell_at :
    (size : ℕ) (X : Inputs) (Q : List FlatEquation) (F : List Stream) → Ready size [] Q →
    FlatSolves size Q X F → (t : ℕ) → t < length X → (i : ℕ) →
    slice_get (column X F i) t ≡ Some (cell (get_or (run size Q X) t []) i)
cell_at size [] Q F ready s t lt i = absurd (omega arith)
cell_at size (given ∷ X) Q F ready s zero lt i =
    let step = step_of size given X Q F ready s in
    ap (λ xs. slice_get xs 0) (column_step given X F s.as_long i)
    ∙ ap (λ row. Some (cell row i)) step.row
cell_at size (given ∷ X) Q F ready s (suc t) lt i =
    let step = step_of size given X Q F ready s in
    ap (λ xs. slice_get xs (suc t)) (column_step given X F s.as_long i)
    ∙ cell_at size X _ (after_first F) (ready_advanced size _ [] Q ready) step.rest t
    (omega arith) i

module _ (size : ℕ) (X : Inputs) (Q : List FlatEquation) (F : List Stream)
    (ready : Ready size [] Q) (s : FlatSolves size Q X F) (t : ℕ) (lt : t < length X) where
  some_same :
      (test : Option Cell → Bool) (is : List ℕ) →
      some_at test t (map (column X F) is) ≡ some_in test (get_or (run size Q X) t []) is
  some_same test [] = refl
  some_same test (i ∷ is) =
      ap₂ (λ x b. test x || b) (cell_at size X Q F ready s t lt i) (some_same test is)

-- ## The verdict of the rows

verdict_same :
    (a b c d e g h k : Bool) (t : ℕ) → a ≡ b → c ≡ d → e ≡ g → h ≡ k →
    (if a then Fault t else if c then Undefined t else
    if e then Assertion t else if h then False t else Passed)
    ≡ (if b then Fault t else if d then Undefined t else
    if g then Assertion t else if k then False t else Passed)
verdict_same a b c d e g h k t p q r s = cc

module _ (P : Program) (f : FlatProgram) (X : Inputs) (F : List Stream) (H : History)
    (ready : Ready f.size [] f.equations) (s : FlatSolves f.size f.equations X F)
    (watched : (t : ℕ) → t < length X → IsWatched P f X F H t) where
  abbrev rows : List Row
  rows = run f.size f.equations X

  judged_same : (t : ℕ) → t < length X → judged P H t ≡ row_judged f t (get_or rows t [])
  judged_same t lt =
      let w = watched t lt in
      let same = some_same f.size X f.equations F ready s t lt in
      verdict_same _ _ _ _ _ _ _ _ t
      (w.fault ∙ same is_bad (named_elements f)) (w.undefined ∙ same is_nil (truth_elements f))
      (w.failed ∙ same is_false f.asserted)
      (w.violated ∙ same is_false (f.property ∷ []))

  verdict_from_rows :
      (t n : ℕ) → t + n ≡ length X → verdict_from P H t n ≡ rows_judged f t (drop t rows)
  verdict_from_rows t zero e =
      let past : length rows ≤ t = omega (arith, e, length-run f.size f.equations X) in
      let none : drop t rows ≡ [] = drop_of_length-le rows past in
      sym (ap (rows_judged f t) none)
  verdict_from_rows t (suc n) e =
      let lt : t < length X = omega (arith, e) in
      let within : t < length rows = omega (arith, lt, length-run f.size f.equations X) in
      ap₂ or_later (judged_same t lt) (verdict_from_rows (suc t) n (omega (arith, e)))
      ∙ sym (ap (rows_judged f t) (drop-cons rows t [] within))

  pub flat_ends : Ends P H (length X) (flat_verdict f X)
  flat_ends =
      subst (Ends P H (length X)) (verdict_from_rows 0 (length X) (omega arith))
      (ends P H (length X))

-- The run of a flat program on the beginning of a trace is the beginning of its run on the whole
-- trace; and so it is for the histories that stand for both.

-- ## Lists

none_taken : (F : List Stream) → map (take 0) F ≡ replicate (length F) []
none_taken [] = refl
none_taken (xs ∷ F) = ap (λ ys. [] ∷ ys) (none_taken F)

before_taken :
    (n : ℕ) (row : Row) (F : List Stream) →
    map (take (suc n)) (zip2 (λ x xs. x ∷ xs) row F)
    ≡ zip2 (λ x xs. x ∷ xs) row (map (take n) F)
before_taken n (x ∷ row) (xs ∷ F) = ap (λ ys. (x ∷ take n xs) ∷ ys) (before_taken n row F)
before_taken n _ _ = refl

zip_taken :
    {A B C : Type 0} (f : A → B → C) (n : ℕ) (xs : List A) (ys : List B) →
    take n (zip2 f xs ys) ≡ zip2 f (take n xs) (take n ys)
zip_taken f (suc n) (x ∷ xs) (y ∷ ys) = ap (λ zs. f x y ∷ zs) (zip_taken f n xs ys)
zip_taken f _ _ _ = refl

module _ (Z : Inputs) where
  replicate_taken :
      {A : Type 0} (x : A) (X : Inputs) →
      take (length X) (replicate (length (X ++ Z)) x) ≡ replicate (length X) x
  replicate_taken x [] = refl
  replicate_taken x (given ∷ X) = ap (λ xs. x ∷ xs) (replicate_taken x X)

  -- ## Streams

  -- the streams of the run on a prefix are the beginnings of the streams of the whole run
  pub streams_taken :
      (size : ℕ) (Q : List FlatEquation) (X : Inputs) → Ready size [] Q →
      streams_of size (run size Q X)
      ≡ map (take (length X)) (streams_of size (run size Q (X ++ Z)))
  streams_taken size Q [] ready =
      let F = streams_of size (run size Q Z) in
      ap (λ n. replicate n []) (sym (exists size Z Q ready).elements) ∙ sym (none_taken F)
  streams_taken size Q (given ∷ X) ready =
      let row = row_of size Q given in
      let later = map (advanced row) Q in
      ap (λ F. zip2 (λ x xs. x ∷ xs) row F)
      (streams_taken size later X (ready_advanced size row [] Q ready))
      ∙ sym (before_taken (length X) row (streams_of size (run size later (X ++ Z))))

  module _ (X : Inputs) where
    abbrev cut : Stream → Stream
    cut xs = take (length X) xs

    column_taken : (F : List Stream) (i : ℕ) → column X (map cut F) i ≡ cut (column (X ++ Z) F i)
    column_taken [] i = sym (replicate_taken None X)
    column_taken (xs ∷ F) zero = refl
    column_taken (xs ∷ F) (suc i) = column_taken F i

    columns_taken :
        (F : List Stream) (is : List ℕ) →
        map (column X (map cut F)) is ≡ map cut (map (column (X ++ Z) F) is)
    columns_taken F [] = refl
    columns_taken F (i ∷ is) = ap₂ (λ x xs. x ∷ xs) (column_taken F i) (columns_taken F is)

    instants_taken :
        (F : List Stream) (k : FlatClock) →
        instants X (map cut F) k ≡ take (length X) (instants (X ++ Z) F k)
    instants_taken F Always = sym (replicate_taken true X)
    instants_taken F (Where k i sign) =
        ap₂ (zip2 (λ b x. b && shows sign x)) (instants_taken F k) (column_taken F i)
        ∙ sym (zip_taken (λ b x. b && shows sign x) (length X) (instants (X ++ Z) F k)
        (column (X ++ Z) F i))

    -- ## Histories

    module _ (Y : Layout) (F G : List Stream) (prefix : G ≡ map cut F) (H' H : History) where
      abbrev Whole : History
      Whole = history_of Y (X ++ Z) F

      abbrev Part : History
      Part = history_of Y X G

      variables_prefix :
          (p : Path) (ds : List Declaration) →
          Every (λ d. Part.columns p d.name ≡ H'.columns p d.name) ds →
          Every (λ d. Whole.columns p d.name ≡ H.columns p d.name) ds →
          Every (λ d. H'.columns p d.name ≡ map cut (H.columns p d.name)) ds
      variables_prefix p [] h g = tt
      variables_prefix p (d ∷ ds) h g = (
        sym h.0 ∙ ap (λ E. map (column X E) (Y.places p d.name)) prefix
            ∙ columns_taken F (Y.places p d.name) ∙ ap (map cut) g.0,
        variables_prefix p ds h.1 g.1,
      )

      pub instances_prefix :
          (is : List Instance) → Every (AgreeAt Part H') is → Every (AgreeAt Whole H) is →
          Every (IsPrefixAt H' H (length X)) is
      instances_prefix [] h g = tt
      instances_prefix (here ∷ is) h g = (
        record {
          ticks =
              sym h.0.ticks ∙ ap (λ E. instants X E (Y.runs here.path)) prefix
              ∙ instants_taken F (Y.runs here.path) ∙ ap (take (length X)) g.0.ticks;
          columns = variables_prefix here.path (variables here.node) h.0.columns g.0.columns;
        },
        instances_prefix is h.1 g.1,
      )

-- Code that has one more instruction.
use Rattle.std.proofs.Common.{arith, ◌+◌}
use Rattle.std.proofs.Common.{◌≡◌, ℕ, ◌<◌, ◌≤◌, List, [], ◌∷◌, ◌++◌, sym, ap, ◌∙◌}
use Rattle.std.proofs.Common.{subst, cond, refl, Bool, true, false, ℤ}
use Rattle.std.specs.List.{AllByRecursion}
use Rattle.lb_machine.specs.declared.code.Code.{Code}
use Rattle.lb_machine.specs.declared.instruction.Comparison.{Comparison}
use Rattle.lb_machine.specs.declared.instruction.Instruction.{Instruction}
use Rattle.lb_machine.specs.declared.instruction.Instruction.TheVariants.{Compare, Choose}
use Rattle.lb_machine.specs.declared.instruction.PlaneId.{PlaneId}
use Rattle.lb_machine.specs.declared.instruction.WordId.{WordId}
use Rattle.lb_machine.specs.Correct.{IsGrown, IsPlaneFor, IsWordFor}
use Rattle.lb_machine.specs.Listed.{listed}
use Rattle.lb_machine.specs.Meaning.{Lane, IsDone, HasRun}
use Rattle.lb_machine.specs.Straight.{IsNext, planes_after, words_after, IsStraight}

-- straight code with one more instruction is straight
pub straight_more :
    (p w : ℕ) (is : List Instruction) (P W : ℕ) (i : Instruction) → IsStraight p w is P W →
    IsNext P W i → (P' W' : ℕ) → planes_after P i ≡ P' → words_after W i ≡ W' →
    IsStraight p w (is ++ i ∷ []) P' W'
straight_more p w [] P W i h n P' W' ep ew = (
  subst (λ q. IsNext q w i) (sym h.0) (subst (λ v. IsNext P v i) (sym h.1) n),
  (
    ap (λ q. planes_after q i) h.0 ∙ ep,
    ap (λ v. words_after v i) h.1 ∙ ew,
  ),
)
straight_more p w (j ∷ is) P W i h n P' W' ep ew =
    (h.0, straight_more (planes_after p j) (words_after w j) is P W i h.1 n P' W' ep ew)

done_before :
    (s : Lane) (is more : List Instruction) → AllByRecursion (IsDone s) (is ++ more) →
    AllByRecursion (IsDone s) is
done_before s [] more d = tt
done_before s (j ∷ is) more d = (d.0, done_before s is more d.1)

done_last :
    (s : Lane) (is : List Instruction) (i : Instruction) →
    AllByRecursion (IsDone s) (is ++ i ∷ []) → IsDone s i
done_last s [] i d = d.0
done_last s (j ∷ is) i d = done_last s is i d.1

-- where code with one more instruction has been run, the code before it has been run, and the
-- instruction has been done
pub run_before :
    (is js : List Instruction) (i : Instruction) → js ≡ is ++ i ∷ [] → (s : Lane) → HasRun js s →
    HasRun is s
run_before is js i e s h = record {
  constants = h.constants;
  done = done_before s is (i ∷ []) (subst (AllByRecursion (IsDone s)) e h.done);
}

pub run_last :
    (is js : List Instruction) (i : Instruction) → js ≡ is ++ i ∷ [] → (s : Lane) → HasRun js s →
    IsDone s i
run_last is js i e s h = done_last s is i (subst (AllByRecursion (IsDone s)) e h.done)

-- code with one more instruction has grown
pub grown_by :
    (before after : Code) (i : Instruction) → after.first_plane ≡ before.first_plane →
    after.first_word ≡ before.first_word → before.planes ≤ after.planes →
    before.words ≤ after.words →
    (listed after.instructions) ≡ (listed before.instructions) ++ i ∷ [] → IsGrown before after
grown_by before after i fp fw hp hw e = record {
  first_plane = fp;
  first_word = fw;
  planes = hp;
  words = hw;
  runs = run_before (listed before.instructions) (listed after.instructions) i e;
}

-- a plane that the added instruction writes holds what that instruction computes
pub plane_by :
    (before after : Code) (i : Instruction) (value : Lane → Bool) (p : PlaneId) →
    (listed after.instructions) ≡ (listed before.instructions) ++ i ∷ [] → p.0 < after.planes →
    ((s : Lane) → IsDone s i → s.bits p.0 ≡ value s) → IsPlaneFor after value p
plane_by before after i value p e lt means = record {
  within = lt;
  means = λ s h.
      means s (run_last (listed before.instructions) (listed after.instructions) i e s h);
}

-- a word that the added instruction writes holds what that instruction computes
pub word_by :
    (before after : Code) (i : Instruction) (value : Lane → ℤ) (w : WordId) →
    (listed after.instructions) ≡ (listed before.instructions) ++ i ∷ [] → w.0 < after.words →
    ((s : Lane) → IsDone s i → s.ints w.0 ≡ value s) → IsWordFor after value w
word_by before after i value w e lt means = record {
  within = lt;
  means = λ s h.
      means s (run_last (listed before.instructions) (listed after.instructions) i e s h);
}

-- ## A test that chooses, too

module _ (test : Comparison) (x y a b out : WordId) (m : PlaneId) where
  -- straight code whose last test is replaced by a test that chooses is straight
  pub chosen_straight :
      (p w : ℕ) (is : List Instruction) (P W W' : ℕ) →
      IsStraight p w (is ++ Compare test x y m ∷ []) P W → a.0 < W → b.0 < W → out.0 ≡ W →
      W + 1 ≡ W' → IsStraight p w (is ++ Choose test x y a b m out ∷ []) P W'
  chosen_straight p w [] P W W' h la lb lo e = (
    (
      h.0.0,
      h.0.1,
      omega (arith, la, h.1.1),
      omega (arith, lb, h.1.1),
      h.0.2,
      omega (arith, lo, h.1.1),
    ),
    (h.1.0, omega (arith, e, h.1.1)),
  )
  chosen_straight p w (j ∷ is) P W W' h la lb lo e =
      (h.0, chosen_straight (planes_after p j) (words_after w j) is P W W' h.1 la lb lo e)

  tested_before :
      (s : Lane) (is : List Instruction) →
      AllByRecursion (IsDone s) (is ++ Choose test x y a b m out ∷ []) →
      AllByRecursion (IsDone s) (is ++ Compare test x y m ∷ [])
  tested_before s [] d = (d.0.0, tt)
  tested_before s (j ∷ is) d = (d.0, tested_before s is d.1)

  -- where code with the test that chooses has been run, the code with the test alone has been run
  pub chosen_run :
      (is js ks : List Instruction) → js ≡ is ++ Compare test x y m ∷ [] →
      ks ≡ is ++ Choose test x y a b m out ∷ [] → (s : Lane) → HasRun ks s → HasRun js s
  chosen_run is js ks ej ek s h = record {
    constants = h.constants;
    done =
        subst (AllByRecursion (IsDone s)) (sym ej)
        (tested_before s is (subst (AllByRecursion (IsDone s)) ek h.done));
  }

-- ## Copies

pub either_plane : (b v : Bool) → cond b v v ≡ v
either_plane true v = refl
either_plane false v = refl

pub either_same : (b : Bool) (v : ℤ) → cond b v v ≡ v
either_same true v = refl
either_same false v = refl

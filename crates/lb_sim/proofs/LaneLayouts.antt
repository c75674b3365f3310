-- A lane before the code runs, from one instant to the next, and its verdict.
use Rattle.std.proofs.Common.{◌≡◌, ◌<◌, ◌≤◌, ◌+◌, ℕ, suc, Bool, true, false, not, ◌&&◌, List}
use Rattle.std.proofs.Common.{[], ◌∷◌, map, length, All, refl, sym, ap, ap₂, ◌∙◌, inl, inr}
use Rattle.std.proofs.Common.{arith}
use Rattle.std.specs.Prelude.{if◌then◌else◌}
use Rattle.std.proofs.Math.Bool.{and-true, and-false}
use Rattle.lb_syntax.specs.declared.tree.Kind.{Kind}
use Rattle.lb_syntax.specs.declared.tree.Kind.TheVariants.{Int as Int_kind, Bool as Bool_kind}
use Rattle.lb_check.specs.Scalars.{Scalar, Integer, Boolean}
use Rattle.lb_check.specs.declared.verdict.Verdict.{Verdict}
use Rattle.lb_check.specs.declared.verdict.Verdict.TheVariants.{Passed, Fault, Undefined, Assertion}
use Rattle.lb_check.specs.declared.verdict.Verdict.TheVariants.{False}
use Rattle.lb_flat.specs.Judging.{FlatProgram}
use Rattle.lb_machine.specs.Meaning.{Lane}
use Rattle.lb_machine.specs.declared.code.Code.{Code}
use Rattle.lb_sim.specs.Compiled.{IsHome, IsHomeAt}
use Rattle.lb_sim.specs.InputRows.{places_of, truth_columns, number_columns}
use Rattle.lb_sim.specs.LaneStates.{HoldSame, StandsAt, is_passed, settled}
use Rattle.lb_sim.specs.Showing.{value_at}
use Rattle.lb_sim.specs.States.{equation_in}
use Rattle.lb_sim.specs.declared.place.Holding.{Holding}
use Rattle.lb_sim.proofs.LaneSteps.{state_same}

-- inputs at first places are the same in two lanes that agree at these places
pub inputs_same :
    (s s' : Lane) (P W p w j : ℕ) (kinds : List Kind) →
    ((k : ℕ) → k < P → s'.bits k ≡ s.bits k) → ((k : ℕ) → k < W → s'.ints k ≡ s.ints k) →
    p + length (truth_columns j kinds) ≤ P → w + length (number_columns j kinds) ≤ W →
    map (value_at s') (places_of p w kinds) ≡ map (value_at s) (places_of p w kinds)
inputs_same s s' P W p w j [] bits ints planes words = refl
inputs_same s s' P W p w j (Bool_kind ∷ kinds) bits ints planes words =
    ap₂ (λ (x : Scalar) (xs : List Scalar). x ∷ xs)
    (ap Boolean (bits p (omega (arith, planes))))
    (inputs_same s s' P W (suc p) w (suc j) kinds bits ints (omega (arith, planes)) words)
inputs_same s s' P W p w j (Int_kind ∷ kinds) bits ints planes words =
    ap₂ (λ (x : Scalar) (xs : List Scalar). x ∷ xs)
    (ap Integer (ints w (omega (arith, words))))
    (inputs_same s s' P W p (suc w) (suc j) kinds bits ints planes (omega (arith, words)))

-- the memories do not change when inputs are copied in and the code is run
pub hold_same :
    (code : Code) (mp mw np nw : ℕ) (s0 s1 s2 : Lane) → 2 + np ≤ mp → 1 + nw ≤ mw →
    ((k : ℕ) → k < 2 → s1.bits k ≡ s0.bits k) →
    ((k : ℕ) → 2 + np ≤ k → s1.bits k ≡ s0.bits k) →
    ((k : ℕ) → k < 1 → s1.ints k ≡ s0.ints k) →
    ((k : ℕ) → 1 + nw ≤ k → s1.ints k ≡ s0.ints k) →
    ((k : ℕ) → k < code.first_plane → s2.bits k ≡ s1.bits k) →
    ((k : ℕ) → k < code.first_word → s2.ints k ≡ s1.ints k) → HoldSame code mp mw s0 s2
hold_same code mp mw np nw s0 s1 s2 planes words fp op fw ow ran_planes ran_words = record {
  planes = plane;
  words = word;
}
  where
    plane : (k : ℕ) → IsHomeAt mp code.first_plane k → s2.bits k ≡ s0.bits k
    plane k (inl e) =
        ran_planes k (omega (arith, e, code.constants)) ∙ fp k (omega (arith, e))
    plane k (inr h) = ran_planes k (h.1) ∙ op k (omega (arith, planes, h.0))

    word : (k : ℕ) → IsHomeAt mw code.first_word k → s2.ints k ≡ s0.ints k
    word k (inl e) = ran_words k (omega (arith, e, code.zero)) ∙ fw k (omega (arith, e))
    word k (inr h) = ran_words k (h.1) ∙ ow k (omega (arith, words, h.0))

-- before the first instant a lane stands for the empty trace
pub stands_empty :
    (f : FlatProgram) (code : Code) (mp mw : ℕ) (kept : List Holding) →
    All (IsHome code mp mw) kept → (start s : Lane) → HoldSame code mp mw start s →
    map (equation_in start kept) f.equations ≡ f.equations → (active : Bool) →
    StandsAt f kept s Passed active 0 []
stands_empty f code mp mw kept homes start s same first active = record {
  verdict_is = refl;
  as_long = λ on. refl;
  state = λ on. state_same code mp mw start s same f kept homes [] (sym first);
}

-- ## Verdicts and activity

once : (j v : Verdict) (b c : Bool) →
    (if b && not (b && c) then j else v) ≡ (if b && not c then j else v)
once j v true c = refl
once j v false c = refl

passed_after : (v j : Verdict) →
    (is_passed v && is_passed j) ≡ is_passed (settled (is_passed v) j v)
passed_after Passed Passed = refl
passed_after Passed (Fault t) = refl
passed_after Passed (Undefined t) = refl
passed_after Passed (Assertion t) = refl
passed_after Passed (False t) = refl
passed_after (Fault t) j = refl
passed_after (Undefined t) j = refl
passed_after (Assertion t) j = refl
passed_after (False t) j = refl

-- a step of a lane: whether it takes part, the verdict of the instant, and its new verdict
module _ (v j v' : Verdict) (active live passed : Bool)
    (is_p : passed ≡ ((active && live) && is_passed j))
    (is_v : v' ≡ (if (active && live) && not passed then j else v)) where
  -- whether a live lane has passed after the step
  pub live_passed : live ≡ true → active ≡ is_passed v → passed ≡ (is_passed v && is_passed j)
  live_passed on was =
      is_p
      ∙ ap (λ b. (active && b) && is_passed j) on
      ∙ ap (λ b. b && is_passed j) (and-true active)
      ∙ ap (λ b. b && is_passed j) was

  pub live_verdict : live ≡ true → active ≡ is_passed v → v' ≡ settled (is_passed v) j v
  live_verdict on was =
      is_v
      ∙ ap (λ b. if (active && b) && not passed then j else v) on
      ∙ ap (λ b. if b && not passed then j else v) (and-true active)
      ∙ ap₂ (λ b c. if b && not c then j else v) was (live_passed on was)
      ∙ once j v (is_passed v) (is_passed j)

  pub live_active : live ≡ true → active ≡ is_passed v → passed ≡ is_passed v'
  live_active on was =
      live_passed on was ∙ passed_after v j ∙ sym (ap is_passed (live_verdict on was))

  -- a lane that is not live is not active after the step
  pub resting_passed : live ≡ false → passed ≡ false
  resting_passed off =
      is_p
      ∙ ap (λ b. (active && b) && is_passed j) off
      ∙ ap (λ b. b && is_passed j) (and-false active)

  pub resting_verdict : live ≡ false → v' ≡ v
  resting_verdict off =
      is_v
      ∙ ap (λ b. if (active && b) && not passed then j else v) off
      ∙ ap (λ b. if b && not passed then j else v) (and-false active)

use Rattle.std.proofs.Common.{◌≡◌, ◌<◌, ◌+◌, ◌++◌, ◌∷◌, [], List, ℕ, get_or, length, take, sym}
use Rattle.std.proofs.Common.{ap, ◌∙◌, subst, arith}
use Rattle.std.proofs.lemmas.List.{get_or-map, length-map, take_all, take_more}
use Rattle.lb_flat.specs.Programs.{numbers_of}
use Rattle.lb_flat.specs.declared.equation.ElementId.{ElementId}
use Rattle.lb_sim.specs.ReadInputs.{AreMarkedToo}
use Rattle.lb_sim.proofs.ReadElements.{none_marked, one_marked}
use Rattle.lb_sim.proofs.read_inputs.mark_all.Goals as goal

number_at : (xs : List ElementId) (i : ℕ) (d : ElementId) → i < length xs →
    get_or (numbers_of xs) i d.0 ≡ (get_or xs i d).0
number_at xs i d lt = get_or-map (λ (a : ElementId). a.0) xs i d d.0 lt

as_many : (xs : List ElementId) → length (numbers_of xs) ≡ length xs
as_many xs = length-map xs (λ (a : ElementId). a.0)

pub loop-i-init : goal.loop-i-init
loop-i-init c = none_marked c.args.marks.now

pub bounds-marks-element : goal.bounds-marks-element
bounds-marks-element c =
    let none : ElementId = record { 0 = 0 } in
    let lt = c.requires c.loop-i.i none c.loop-i-test.true in
    omega (arith, lt, c.loop-i.auto.marks)

pub loop-i-preserved : goal.loop-i-preserved
loop-i-preserved c =
    let xs = c.args.elements.now in
    let i = c.loop-i.i in
    let none : ElementId = record { 0 = 0 } in
    let lt = c.requires i none c.loop-i-test.true in
    let long = as_many xs in
    let more : take (i + 1) (numbers_of xs) ≡ take i (numbers_of xs) ++ (get_or xs i none).0 ∷ [] =
    take_more (numbers_of xs) i 0 (omega (arith, c.loop-i-test.true, long))
    ∙ ap (λ n. take i (numbers_of xs) ++ n ∷ []) (number_at xs i none c.loop-i-test.true) in
    subst (AreMarkedToo c.args.marks.now _) (sym more)
    (one_marked c.args.marks.now c.loop-i.marks (take i (numbers_of xs)) _
    (omega (arith, lt, c.loop-i.auto.marks)) c.loop-i.invariant)

pub returns : goal.returns
returns c =
    let xs = c.args.elements.now in
    let long = as_many xs in
    subst (AreMarkedToo c.args.marks.now c.loop-i.marks)
    (take_all c.loop-i.i (numbers_of xs) (omega (arith, c.loop-i-test.false, long)))
    c.loop-i.invariant

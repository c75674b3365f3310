-- A bound on the planes and words before the code: those of inputs and of memories are counted.
use Rattle.std.proofs.Common.{◌≡◌, ℕ, zero, suc, ◌+◌, ◌*◌, ◌<◌, ◌≤◌, Bool, true, false, List, []}
use Rattle.std.proofs.Common.{◌∷◌, length, take, set, replicate, refl, ap, ◌∙◌, arith, length-set}
use Rattle.std.proofs.Common.{inl, inr}
use Rattle.std.proofs.lemmas.List.{length-map, length-replicate}
use Rattle.lb_syntax.specs.declared.tree.Kind.{Kind}
use Rattle.lb_syntax.specs.declared.tree.Kind.TheVariants.{Int as Int_kind, Bool as Bool_kind}
use Rattle.lb_syntax.proofs.TruthValues.{contrary}
use Rattle.lb_flat.specs.Bounds.{IsBounded}
use Rattle.lb_flat.specs.Flat.{FlatEquation}
use Rattle.lb_flat.specs.InOrder.{is_done, is_in_order}
use Rattle.lb_flat.specs.Ordering.{left}
use Rattle.lb_flat.specs.Programs.{flat_equations, program_of}
use Rattle.lb_flat.specs.Run.{Ready}
use Rattle.lb_flat.specs.Values.{equation_of}
use Rattle.lb_flat.specs.declared.program.FlatProgram as code
use Rattle.lb_flat.proofs.ordering.Ordering.{AreMarks, marks_more, ready_of, unmarked}
use Rattle.lb_sim.specs.Homes.{IsRow, plane_row, word_row}
use Rattle.lb_sim.specs.InputRows.{truth_columns, number_columns}
use Rattle.lb_sim.specs.Layouts.{AreAllotted}
use Rattle.lb_sim.specs.declared.allotted.Allotted.{Allotted}
use Rattle.lb_sim.specs.declared.place.Holding.{Holding}

-- ## Rows

pub row_short : (p m : ℕ) (xs : List ℕ) → IsRow p xs m → m ≤ p + length xs
row_short p m [] h = omega (arith, h)
row_short p m (x ∷ xs) (inl h) = omega (arith, row_short p m xs h.1)
row_short p m (x ∷ xs) (inr h) = omega (arith, row_short (suc p) m xs h.1)

take_short : {A : Type 0} (i : ℕ) (xs : List A) → length (take i xs) ≤ i
take_short zero xs = omega arith
take_short (suc i) [] = omega arith
take_short (suc i) (x ∷ xs) = omega (arith, take_short i xs)

plane_row_long :
    (kept : List Holding) (Q : List FlatEquation) → length (plane_row kept Q) ≡ 3 * length Q
plane_row_long kept [] = refl
plane_row_long kept (q ∷ Q) = omega (arith, plane_row_long kept Q)

word_row_long :
    (kept : List Holding) (Q : List FlatEquation) → length (word_row kept Q) ≡ length Q
word_row_long kept [] = refl
word_row_long kept (q ∷ Q) = omega (arith, word_row_long kept Q)

-- the memories of the first `i` equations take at most three planes each
pub planes_few :
    (kept : List Holding) (Q : List FlatEquation) (i first end : ℕ) →
    IsRow first (plane_row kept (take i Q)) end → end ≤ first + 3 * i
planes_few kept Q i first end row =
    let short = row_short first end (plane_row kept (take i Q)) row in
    let long = plane_row_long kept (take i Q) in
    let few = take_short i Q in
    omega (arith, short, long, few)

pub words_few :
    (kept : List Holding) (Q : List FlatEquation) (i first end : ℕ) →
    IsRow first (word_row kept (take i Q)) end → end ≤ first + i
words_few kept Q i first end row =
    let short = row_short first end (word_row kept (take i Q)) row in
    let long = word_row_long kept (take i Q) in
    let few = take_short i Q in
    omega (arith, short, long, few)

-- the memories of all equations take at most three planes each
pub all_planes_few : (kept : List Holding) (Q : List FlatEquation) (first end : ℕ) →
    IsRow first (plane_row kept Q) end → end ≤ first + 3 * length Q
all_planes_few kept Q first end row =
    let short = row_short first end (plane_row kept Q) row in
    let long = plane_row_long kept Q in
    omega (arith, short, long)

pub all_words_few : (kept : List Holding) (Q : List FlatEquation) (first end : ℕ) →
    IsRow first (word_row kept Q) end → end ≤ first + length Q
all_words_few kept Q first end row =
    let short = row_short first end (word_row kept Q) row in
    let long = word_row_long kept Q in
    omega (arith, short, long)

-- ## Inputs

pub truths_few : (j : ℕ) (kinds : List Kind) → length (truth_columns j kinds) ≤ length kinds
truths_few j [] = omega arith
truths_few j (Bool_kind ∷ kinds) = omega (arith, truths_few (suc j) kinds)
truths_few j (Int_kind ∷ kinds) = omega (arith, truths_few (suc j) kinds)

pub numbers_few : (j : ℕ) (kinds : List Kind) → length (number_columns j kinds) ≤ length kinds
numbers_few j [] = omega arith
numbers_few j (Bool_kind ∷ kinds) = omega (arith, numbers_few (suc j) kinds)
numbers_few j (Int_kind ∷ kinds) = omega (arith, numbers_few (suc j) kinds)

pub first_truths_few :
    (kinds : List Kind) (i : ℕ) → length (truth_columns 0 (take i kinds)) ≤ i
first_truths_few kinds i =
    let few = truths_few 0 (take i kinds) in
    let short = take_short i kinds in
    omega (arith, few, short)

pub first_numbers_few :
    (kinds : List Kind) (i : ℕ) → length (number_columns 0 (take i kinds)) ≤ i
first_numbers_few kinds i =
    let few = numbers_few 0 (take i kinds) in
    let short = take_short i kinds in
    omega (arith, few, short)

-- ## Equations

-- one more mark leaves one element fewer without a mark
left_set :
    (done : List Bool) (e : ℕ) → e < length done → is_done done e ≡ false →
    suc (left (set done e true)) ≡ left done
left_set [] e lt new = absurd (omega (arith, lt))
left_set (true ∷ done) zero lt new = absurd (contrary true refl new)
left_set (false ∷ done) zero lt new = refl
left_set (true ∷ done) (suc e) lt new = left_set done e (omega (arith, lt)) new
left_set (false ∷ done) (suc e) lt new = ap suc (left_set done e (omega (arith, lt)) new)

left_all : (n : ℕ) → left (replicate n false) ≡ n
left_all zero = refl
left_all (suc n) = ap suc (left_all n)

not_marked : (b : Bool) → (b ≡ true → ⊥) → b ≡ false
not_marked true h = absurd (h refl)
not_marked false h = refl

-- each equation marks an element that was not marked
each_marks :
    (size : ℕ) (done : List Bool) (before : List ℕ) (Q : List FlatEquation) →
    length done ≡ size → AreMarks done before → Ready size before Q → length Q ≤ left done
each_marks size done before [] long marks ready = omega arith
each_marks size done before (q ∷ Q) long marks ready =
    let lt : q.element < length done = omega (arith, ready.0.is_element, long) in
    let new = not_marked (is_done done q.element)
    (λ old. ready.0.is_new (marks.given q.element old)) in
    let rest = each_marks size (set done q.element true) (q.element ∷ before) Q
    (length-set done q.element true ∙ long) (marks_more done before q.element lt marks) ready.1 in
    let fewer = left_set done q.element lt new in
    omega (arith, rest, fewer)

-- there are no more equations than elements
pub equations_few : (size : ℕ) (Q : List FlatEquation) → Ready size [] Q → length Q ≤ size
equations_few size Q ready =
    let none : AreMarks (replicate size false) [] =
    record {
      given = λ i is. absurd (contrary _ is (unmarked size i));
      marked = λ i is. absurd is;
    } in
    let few = each_marks size (replicate size false) [] Q (length-replicate size false) none
    ready in
    let all = left_all size in
    omega (arith, few, all)

-- a program has at most as many equations as elements are allowed
pub program_few :
    (p : code.FlatProgram) → IsBounded p →
    Ready p.size [] (flat_equations p.clocks.items p.equations.items) →
    length p.equations.items ≤ 327680
program_few p bounded ready =
    let few = equations_few p.size (flat_equations p.clocks.items p.equations.items) ready in
    let long = length-map p.equations.items (equation_of p.clocks.items) in
    omega (arith, few, long, bounded.elements)

-- there is room for the code of a program behind its inputs, constants and memories
pub room_for_code :
    (p : code.FlatProgram) → IsBounded p →
    is_in_order (replicate p.size false) (flat_equations p.clocks.items p.equations.items)
    ≡ true →
    (a : Allotted) → AreAllotted (program_of p) a →
    length a.preset.planes.items + length a.preset.words.items
    + (25 * length p.equations.items + 10 * length p.clocks.items + 76 * p.size + 18)
    ≤ 4294967295
room_for_code p bounded order a allotted =
    let ready = ready_of p.size (flat_equations p.clocks.items p.equations.items) order in
    let few = program_few p bounded ready in
    let long = length-map p.equations.items (equation_of p.clocks.items) in
    omega (
      arith,
      few,
      long,
      allotted.few,
      bounded.elements,
      bounded.inputs,
      bounded.clock_count,
    )

-- The memories of a program's operators, in a lane that holds the state of the flat program: each
-- is the memory by the history that the run stands for.
use Rattle.std.proofs.Common.{◌≡◌, ℕ, Bool, false, List, [], ◌∷◌, map}
use Rattle.std.proofs.Common.{length}
use Rattle.std.proofs.Common.{refl, sym, ap, ap₂, ◌∙◌, subst, inl, inr, is_some, arith}
use Rattle.std.specs.List.{list_any}
use Rattle.lb_syntax.specs.Lists.{Every, In, zip2}
use Rattle.lb_syntax.specs.declared.tree.Kind.{Kind}
use Rattle.lb_syntax.proofs.ListPlaces.{heads_same, tails_same}
use Rattle.lb_static.specs.Instances.{Program, Instance}
use Rattle.lb_static.specs.DataTypes.{input_kinds}
use Rattle.lb_check.specs.Clocks.{Clock}
use Rattle.lb_check.specs.Occurrences.{Occurrence}
use Rattle.lb_check.specs.Scalars.{Scalar, Nil, Stream}
use Rattle.lb_check.specs.Solutions.{Inputs}
use Rattle.lb_flat.specs.Flat.{FlatClock, Operation, FirstThen, Previous, Latest, FlatEquation}
use Rattle.lb_flat.specs.Flat.{column}
use Rattle.lb_flat.specs.FlatSolutions.{IsFlatSolution}
use Rattle.lb_flat.specs.Flattening.{history_of}
use Rattle.lb_flat.specs.Judging.{FlatProgram}
use Rattle.lb_flat.specs.Layouts.{Layout, flat_clock}
use Rattle.lb_flat.specs.MemoryPlaces.{equations_at, KeepsOperand, KeepsFlag, newest_of}
use Rattle.lb_flat.specs.MemoryPlaces.{remembers}
use Rattle.lb_flat.specs.Run.{Row, run, streams_of}
use Rattle.lb_sim.proofs.RunMemories.{equation_after, after_is, run_cells}
use Rattle.lb_machine.specs.Meaning.{Lane}
use Rattle.lb_sim.specs.Promise.{HoldsOperand, HoldsFlag}
use Rattle.lb_sim.specs.Showing.{scalar_at}
use Rattle.lb_sim.specs.States.{kept_at, flag_at, with_memory, equation_in, IsStateAfter}
use Rattle.lb_sim.specs.declared.place.Holding.{Holding}

same_at : {A B : Type 0} (g h : A → B) (xs : List A) → map g xs ≡ map h xs → (x : A) → In x xs →
    g x ≡ h x
same_at g h [] e x i = absurd i
same_at g h (y ∷ xs) e x (inl p) =
    subst (λ z. g z ≡ h z) p (heads_same (g y) (h y) (map g xs) (map h xs) e)
same_at g h (y ∷ xs) e x (inr r) =
    same_at g h xs (tails_same (g y) (h y) (map g xs) (map h xs) e) x r

previous_memory : (v w : Scalar) (a b : ℕ) → Previous v a ≡ Previous w b → v ≡ w
previous_memory v w a b e = cc

latest_memory : (v w : Scalar) (a b : ℕ) → Latest v a ≡ Latest w b → v ≡ w
latest_memory v w a b e = cc

first_flag : (m n : Bool) (a b c d : ℕ) → FirstThen m a b ≡ FirstThen n c d → m ≡ n
first_flag m n a b c d e = cc

module _ (f : FlatProgram) (kept : List Holding) (s : Lane) (X : Inputs)
    (state : IsStateAfter f kept s X) where
  abbrev rows : List Row
  rows = run f.size f.equations X

  abbrev own : List Stream
  own = streams_of f.size rows

  -- the memory in a lane is the memory after the rows of the run
  memory_is : (q : FlatEquation) → In q f.equations →
      remembers rows q.operation ≡ with_memory s (kept_at kept q.element) q.operation
  memory_is q i =
      ap (λ (q : FlatEquation). q.operation)
      (same_at (equation_after rows) (equation_in s kept) f.equations
      (sym (after_is rows f.equations) ∙ state) q i)

  module _ (k : FlatClock) where
    pub previous_held : (e a : ℕ) →
        In (record { element = e; clock = k; operation = Previous Nil a }) f.equations →
        scalar_at s (kept_at kept e) ≡ newest_of Nil (column X own a)
    previous_held e a i =
        sym (previous_memory _ _ a a
        (memory_is (record { element = e; clock = k; operation = Previous Nil a }) i))
        ∙ ap (newest_of Nil) (sym (run_cells f.size X f.equations a))

    pub latest_held : (e a : ℕ) →
        In (record { element = e; clock = k; operation = Latest Nil a }) f.equations →
        scalar_at s (kept_at kept e) ≡ newest_of Nil (column X own a)
    latest_held e a i =
        sym (latest_memory _ _ a a
        (memory_is (record { element = e; clock = k; operation = Latest Nil a }) i))
        ∙ ap (newest_of Nil) (sym (run_cells f.size X f.equations a))

    pub flag_held : (e a b : ℕ) →
        In (record { element = e; clock = k; operation = FirstThen false a b }) f.equations →
        flag_at s (kept_at kept e) ≡ list_any is_some (column X own a)
    flag_held e a b i =
        sym (first_flag _ _ a b a b
        (memory_is (record { element = e; clock = k; operation = FirstThen false a b }) i))
        ∙ ap (list_any is_some) (sym (run_cells f.size X f.equations a))

    -- the memories of an operand hold the newest cells, element by element
    pub all_held :
        (o : ℕ → Operation) →
        ((e a : ℕ) → In (record { element = e; clock = k; operation = o a }) f.equations →
        scalar_at s (kept_at kept e) ≡ newest_of Nil (column X own a)) →
        (es ops : List ℕ) → length es ≡ length ops →
        Every (λ q. In q f.equations) (equations_at k es (map o ops)) →
        map (λ e. scalar_at s (kept_at kept e)) es
        ≡ map (newest_of Nil) (map (column X own) ops)
    all_held o one [] [] e there = refl
    all_held o one [] (a ∷ ops) e there = absurd (omega arith)
    all_held o one (p ∷ es) [] e there = absurd (omega arith)
    all_held o one (p ∷ es) (a ∷ ops) e there =
        ap₂ (λ x xs. x ∷ xs) (one p a there.0) (all_held o one es ops (omega arith) there.1)

    pub flags_held :
        (es ops bs : List ℕ) → length es ≡ length ops → length bs ≡ length ops →
        Every (λ q. In q f.equations) (equations_at k es (zip2 (FirstThen false) ops bs)) →
        map (λ e. flag_at s (kept_at kept e)) es
        ≡ map (list_any is_some) (map (column X own) ops)
    flags_held [] [] bs e g there = refl
    flags_held [] (a ∷ ops) bs e g there = absurd (omega arith)
    flags_held (p ∷ es) [] bs e g there = absurd (omega arith)
    flags_held (p ∷ es) (a ∷ ops) [] e g there = absurd (omega arith)
    flags_held (p ∷ es) (a ∷ ops) (b ∷ bs) e g there =
        ap₂ (λ x xs. x ∷ xs) (flag_held p a b there.0)
        (flags_held es ops bs (omega arith) (omega arith) there.1)

  -- the memories of the operands of a program are those of the history of the run
  module _ (P : Program) (Y : Layout) (kinds : ℕ → Kind)
      (solution : IsFlatSolution (input_kinds P) kinds f X own) (here : Instance) where
    abbrev memory : ℕ → Scalar
    memory e = scalar_at s (kept_at kept e)

    abbrev flag : ℕ → Bool
    flag e = flag_at s (kept_at kept e)

    pub operand_held :
        (k : Clock) (a : Occurrence) (o : ℕ → Operation) →
        ((e a : ℕ) →
        In (record { element = e; clock = flat_clock Y here.path k; operation = o a })
        f.equations →
        scalar_at s (kept_at kept e) ≡ newest_of Nil (column X own a)) →
        (h : KeepsOperand P Y kinds f here k a o) →
        HoldsOperand P Y kinds f memory flag (history_of Y X own) here k a o h
    operand_held k a o one h =
        all_held (flat_clock Y here.path k) o one h.places h.operands h.as_many h.equations
        ∙ ap (map (newest_of Nil)) (h.streams X own solution)

    pub flag_operand_held :
        (k : Clock) (a : Occurrence) (h : KeepsFlag P Y kinds f here k a) →
        HoldsFlag P Y kinds f memory flag (history_of Y X own) here k a h
    flag_operand_held k a h =
        flags_held (flat_clock Y here.path k) h.places h.firsts h.thens h.as_many h.both
        h.equations
        ∙ ap (map (list_any is_some)) (h.streams X own solution)

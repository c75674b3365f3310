-- The clocks that are done stand before those that are left.
use Rattle.lb_check.proofs.Words.{Compared, List, None, Option, Some, Variable, VariableId, [], ap}
use Rattle.lb_check.proofs.Words.{drop, either_or, expected, get_or, given_in, length, map, refl}
use Rattle.lb_check.proofs.Words.{sym, ℕ, ◌++◌, ◌+◌, ◌<◌, ◌∙◌, ◌∷◌, ◌≡◌}
use Rattle.{lb_check.proofs.lists.ListPairs.{mapped_end, mapped_next}, std.specs.Option.unwrap_or}
use Rattle.lb_check.proofs.placed_clock.argument_clocks.Goals as goal

abbrev clock_of : Compared → (ℕ → Option VariableId) → Variable → Compared
clock_of base given v = either_or (expected (Some base) given v.clock) base

either_is : (o : Option Compared) (own : Compared) → unwrap_or o own ≡ either_or o own
either_is None own = refl
either_is (Some k) own = refl

one_more : (base : Compared) (given : ℕ → Option VariableId) (vs : List Variable) (i : ℕ)
    (v : Variable) (o : Option Compared) (k : Compared) (done more whole : List Compared)
    → i < length vs → o ≡ expected (Some base) given (get_or vs i v).clock
    → k ≡ unwrap_or o base → more ≡ done ++ (k ∷ [])
    → whole ≡ done ++ map (clock_of base given) (drop i vs)
    → whole ≡ more ++ map (clock_of base given) (drop (i + 1) vs)
one_more base given vs i v o k done more whole lt is here pushed known =
    mapped_next (clock_of base given) vs i v done more whole k lt
    (here ∙ either_is o base ∙ ap (λ p. either_or p base) is) pushed known

pub loop-input-preserved : goal.loop-input-preserved
loop-input-preserved c =
    let l = c.loop-input in
    one_more c.args.base (given_in c.args.given.now) c.inputs_of-input-items.result.now
    l.input-index _ c.expected.result c.unwrap_or.result l.clocks.items c.push.new.self.items _
    c.loop-input-test.true c.expected.ensures c.unwrap_or.ensures c.in_ok-push.ensures.items
    l.invariant

pub returns : goal.returns
returns c =
    let l = c.loop-input in
    let inputs = c.inputs_of-input-items.result.now in
    let each = clock_of c.args.base (given_in c.args.given.now) in
    sym (mapped_end each inputs l.input-index l.clocks.items _ c.loop-input-test.false
    l.invariant)
    ∙ ap (map each) c.inputs_of-input-items.ensures

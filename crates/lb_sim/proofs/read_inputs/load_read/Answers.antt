-- The input of an operation is loaded.
use Rattle.std.proofs.Common.{◌≡◌, ◌<◌, ℕ, Bool, List, length, get_or, refl, sym, subst, rules}
use Rattle.std.specs.Prelude.{slice_get, Some}
use Rattle.std.proofs.lemmas.List.{get_or_default}
use Rattle.std.proofs.lemmas.Option.{slice_get_read}
use Rattle.lb_flat.specs.Values.{operation_of}
use Rattle.lb_flat.specs.declared.equation.InputId.{InputId}
use Rattle.lb_flat.specs.declared.equation.Operation.{Operation}
use Rattle.lb_flat.specs.declared.equation.Operation.TheVariants.{Input}
use Rattle.lb_sim.specs.ReadInputs.{IsLoadedAt, IsLoadedFor}
use Rattle.lb_sim.specs.declared.place.Value.{Value}
use Rattle.lb_sim.proofs.read_inputs.load_read.Goals as goal

same_place :
    (inputs : List Value) (j : ℕ) (v w : Value) → slice_get inputs j ≡ Some v →
    slice_get inputs j ≡ Some w → v ≡ w
same_place inputs j v w a b = cc

loaded_for :
    (read : Bool) (inputs : List Value) (numbers : List ℕ) (truths : Bool) (o : Operation)
    (j : InputId) (d : Value) → o ≡ Input j → j.0 < length inputs →
    IsLoadedAt numbers truths (get_or inputs j.0 d) →
    IsLoadedFor read inputs numbers truths (operation_of o)
loaded_for read inputs numbers truths o j d is lt loaded =
    let there : slice_get inputs j.0 ≡ Some (get_or inputs j.0 d) =
    slice_get_read inputs (length inputs) j.0 _ refl lt (get_or_default _ _ _ _ lt) in
    subst (λ (x : Operation). IsLoadedFor read inputs numbers truths (operation_of x)) (sym is)
    (λ marked v found.
    subst (IsLoadedAt numbers truths) (same_place inputs j.0 _ v there found) loaded)

pub returns-clause-loaded : goal.returns-clause-loaded
returns-clause-loaded c =
    let lt : c.in-Input.j.0 < length c.args.inputs.now = search rules in
    loaded_for c.args.read c.args.inputs.now c.load_too.new.found.numbers.items
    c.load_too.new.found.truths c.args.operation c.in-Input.j _ c.in-Input.is lt
    c.in_ok-load_too.ensures.loaded

-- The values of the first constant of each name are the values of all names.
use Rattle.std.proofs.Common.{◌≡◌, map, length, subst}
use Rattle.std.specs.Prelude.{Result, Ok, Err, IfOk}
use Rattle.lb_syntax.specs.SourceView.{view_constant}
use Rattle.lb_static.specs.ConstantValues.{read_constants, value_held, AreStable, IsSound}
use Rattle.lb_static.specs.StaticValues.{constant_value}
use Rattle.lb_static.proofs.ConstantSteps.{all_values}
use Rattle.lb_static.proofs.constants.known_values.Goals as goal

both : {A E : Type 0} (r : Result A E) (C D F : A → Type 0) → IfOk r C → IfOk r D
    → ((x : A) → C x → D x → F x) → IfOk r F
both (Ok x) C D F c d f = f x c d
both (Err e) C D F c d f = tt

pub returns : goal.returns
returns c =
    let firsts = c.first_of_each.new.firsts.items in
    let names = c.first_of_each.new.names in
    let constants = c.args.constants.now in
    let values = c.values_of.result in
    let told = c.in_ok-first_of_each.ensures in
    both values (λ v. IsSound (read_constants firsts) v.items)
    (λ v. AreStable (read_constants firsts) v.items)
    (λ v. value_held names v.items
    ≡ constant_value (map view_constant constants) (length constants))
    (subst (λ l. IfOk values (λ v. IsSound (read_constants l) v.items)) c.deref.ensures.value
    c.values_of.ensures.sound)
    (subst (λ l. IfOk values (λ v. AreStable (read_constants l) v.items)) c.deref.ensures.value
    c.values_of.ensures.stable)
    (λ v sound stable. all_values firsts constants names v.items told.same_names told.first
    told.few sound stable)

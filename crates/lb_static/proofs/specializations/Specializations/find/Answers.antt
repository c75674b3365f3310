-- The key that is found is the key of the node with the values.
use Rattle.std.proofs.Common.{◌≡◌, ◌<◌, ◌∙◌, ap, arith, length, sym, subst}
use Rattle.std.specs.Prelude.{option_map, slice_get}
use Rattle.std.proofs.lemmas.List.{length-map}
use Rattle.std.proofs.lemmas.Option.{slice_get-map, slice_get_within}
use Rattle.lb_static.specs.KeyedSpecializations.{IsUnknown}
use Rattle.lb_static.specs.Instantiated.{IsKnown}
use Rattle.lb_static.specs.declared.specializations.Key.{Key}
use Rattle.lb_static.specs.declared.table.Specialization.{Specialization}
use Rattle.lb_static.proofs.KeyedSpecializations.{known_at, unknown}
use Rattle.lb_static.proofs.specializations.Specializations.find.Goals as goal

pub returns-in-Some-clause-found : goal.returns-in-Some-clause-found
returns-in-Some-clause-found c =
    let es = c.self.inside.keyed.entries in
    let key = c.in_ok-key.key in
    let told = c.in_ok-key.ensures in
    let known = known_at es c.self.invariant key c.in-Some.place
    (sym c.get_full.ensures.index ∙ ap (option_map (λ p. p.0)) c.in-Some.is) in
    subst (λ l. IsKnown l c.args.node c.args.values.now (record { 0 = c.in-Some.place }))
    c.self.view_is
    (rw (← told.0, ← told.1) known)

pub returns-in-Some-clause-there : goal.returns-in-Some-clause-there
returns-in-Some-clause-there c =
    let es = c.self.inside.keyed.entries in
    let place = c.in-Some.place in
    ap (λ l. slice_get l place) (sym c.self.view_is)
    ∙ slice_get-map (λ (e : Key × Specialization). e.1) es place
    ∙ ap (option_map (λ (e : Key × Specialization). e.1)) c.in-Some.ensures.entry

pub returns-clause-found : goal.returns-clause-found
returns-clause-found c =
    let es = c.self.inside.keyed.entries in
    let told = c.in_ok-key.ensures in
    let none = unknown es c.self.invariant c.in_ok-key.key
    (sym c.get_full.ensures.index ∙ ap (option_map (λ p. p.0)) c.in-None.is) in
    subst (λ l. IsUnknown l c.args.node c.args.values.now) c.self.view_is
    (rw (← told.0, ← told.1) none)

pub overflow_cast-result : goal.overflow_cast-result
overflow_cast-result c =
    let es = c.self.inside.keyed.entries in
    let many : length es ≡ length c.args.self.now =
    sym (length-map es (λ e. e.1)) ∙ ap length c.self.view_is in
    let below : c.in-Some.place < length es =
    slice_get_within es c.in-Some.place _ c.in-Some.ensures.entry in
    record { fits = omega (arith, c.requires.few) }

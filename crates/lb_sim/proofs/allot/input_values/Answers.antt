use Rattle.std.proofs.Common.{◌<◌, ◌≤◌, length, ap, ◌∙◌, arith}
use Rattle.std.proofs.lemmas.List.{get_or_default}
use Rattle.lb_syntax.specs.declared.tree.Kind.TheVariants.{Int as Int_kind}
use Rattle.lb_sim.specs.declared.preset.Preset.{Preset}
use Rattle.lb_sim.proofs.FewPlaces.{first_numbers_few, first_truths_few}
use Rattle.lb_sim.proofs.InputPlaces.{inputs_all, inputs_same, inputs_truth, inputs_number}
use Rattle.lb_sim.proofs.allot.input_values.Goals.{in-Bool+in_ok-plane-in-Bool+in_ok-push-in-Bool}
use Rattle.lb_sim.proofs.allot.input_values.Goals.{in-Int+in_ok-word-in-Int+in_ok-push-in-Int}
use Rattle.lb_sim.proofs.allot.input_values.Goals as goal

pub plane-requires : goal.plane-requires
plane-requires c =
    let lt : c.loop-j.j < length c.args.kinds.now =
    omega (arith, c.loop-j-test.true) in
    let few = first_truths_few c.args.kinds.now c.loop-j.j in
    omega (arith, c.loop-j.invariant.planes_are, few, lt, c.requires.few)

pub word-requires : goal.word-requires
word-requires c =
    let lt : c.loop-j.j < length c.args.kinds.now =
    omega (arith, c.loop-j-test.true) in
    let few = first_numbers_few c.args.kinds.now c.loop-j.j in
    omega (arith, c.loop-j.invariant.words_are, few, lt, c.requires.few)

pub loop-j-preserved : goal.loop-j-preserved
loop-j-preserved c =
    let kinds = c.args.kinds.now in
    let l = c.loop-j in
    let lt : c.loop-j.j < length c.args.kinds.now =
    omega (arith, c.loop-j-test.true) in
    elim c.match-kinds-j.branch [
      | in-Bool+in_ok-plane-in-Bool+in_ok-push-in-Bool w ↦
          let made = w.in_ok-plane-in-Bool.ensures in
          inputs_same _ _ _ _ _ _ _
          (ap (λ v. v.items) w.values-is ∙ w.in_ok-push-in-Bool.ensures.items)
          (ap (λ (p : Preset). length p.planes.items) w.preset-is)
          (ap (λ (p : Preset). length p.words.items) w.preset-is ∙ ap length made.words)
          (inputs_truth kinds l.j l.values.items (length l.preset.planes.items)
          (length l.preset.words.items) l.invariant lt w.in_ok-plane-in-Bool.plane.0 _
          (get_or_default kinds l.j Int_kind _ lt ∙ w.in-Bool.is) made.place made.planes)
      | in-Int+in_ok-word-in-Int+in_ok-push-in-Int w ↦
          let made = w.in_ok-word-in-Int.ensures in
          inputs_same _ _ _ _ _ _ _
          (ap (λ v. v.items) w.values-is ∙ w.in_ok-push-in-Int.ensures.items)
          (ap (λ (p : Preset). length p.planes.items) w.preset-is ∙ ap length made.planes)
          (ap (λ (p : Preset). length p.words.items) w.preset-is)
          (inputs_number kinds l.j l.values.items (length l.preset.planes.items)
          (length l.preset.words.items) l.invariant lt w.in_ok-word-in-Int.word.0 _
          (get_or_default kinds l.j Int_kind _ lt ∙ w.in-Int.is) made.place made.words)
    ]

pub returns-clause-values : goal.returns-clause-values
returns-clause-values c =
    let le : length c.args.kinds.now ≤ c.loop-j.j = omega (arith, c.loop-j-test.false) in
    let all = inputs_all c.args.kinds.now c.loop-j.j _ _ _ c.loop-j.invariant le in
    all.values_are

pub returns-clause-planes : goal.returns-clause-planes
returns-clause-planes c =
    let le : length c.args.kinds.now ≤ c.loop-j.j = omega (arith, c.loop-j-test.false) in
    let all = inputs_all c.args.kinds.now c.loop-j.j _ _ _ c.loop-j.invariant le in
    all.planes_are

pub returns-clause-words : goal.returns-clause-words
returns-clause-words c =
    let le : length c.args.kinds.now ≤ c.loop-j.j = omega (arith, c.loop-j-test.false) in
    let all = inputs_all c.args.kinds.now c.loop-j.j _ _ _ c.loop-j.invariant le in
    all.words_are

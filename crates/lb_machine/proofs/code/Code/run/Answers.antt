use Rattle.std.proofs.Common.{◌<◌, ◌≤◌, ◌+◌, [], length, get_or, ap, arith}
use Rattle.std.proofs.Common.{refl}
use Rattle.lb_machine.specs.declared.instructions.Choice.{Choice}
use Rattle.lb_machine.proofs.Running.{fits, goes_on, ends, next_choice, no_choice}
use Rattle.lb_machine.proofs.code.Code.run.Goals as goal

abbrev nothing : Choice
nothing = record { mask = record { 0 = 0 }; a = record { 0 = 0 }; b = record { 0 = 0 } }

pub choose-requires : goal.choose-requires
choose-requires c =
    let b = c.index-block.result.now in
    let k = c.choices.k in
    let same = c.as_slice-row.ensures.value in
    let lt : c.choices.k < length b.choices.items =
    omega (arith, ap length same, c.choices-test.true) in
    fits _ _ _ _ _ _ _ _ _ _ _ c.choices.invariant _ _
    (next_choice b.choices.items _ b.first k (b.first + k) nothing _
    (ap (λ cs. get_or cs k nothing) same) lt refl)

pub choices-preserved : goal.choices-preserved
choices-preserved c =
    let b = c.index-block.result.now in
    let k = c.choices.k in
    let same = c.as_slice-row.ensures.value in
    let lt : c.choices.k < length b.choices.items =
    omega (arith, ap length same, c.choices-test.true) in
    goes_on _ _ _ _ _ _ _ _ _ _ _ c.choices.invariant _ _
    (next_choice b.choices.items _ b.first k (b.first + k) nothing _
    (ap (λ cs. get_or cs k nothing) same) lt refl) c.choose.new.planes c.outer.words
    c.choose.ensures.planes refl
    (λ lane l. c.choose.ensures.done lane (omega (arith, l, c.args.width.few)))
    c.choose.ensures.other_planes (λ k h. refl)

pub execute-requires : goal.execute-requires
execute-requires c =
    let b = c.index-block.result.now in
    let le : length b.choices.items ≤ c.choices.k =
    omega (arith, ap length c.as_slice-row.ensures.value, c.choices-test.false) in
    fits _ _ _ _ _ _ _ _ _ _ _ c.choices.invariant b.last _
    (no_choice b.choices.items _ b.first c.choices.k le)

pub outer-preserved : goal.outer-preserved
outer-preserved c =
    let b = c.index-block.result.now in
    let le : length b.choices.items ≤ c.choices.k =
    omega (arith, ap length c.as_slice-row.ensures.value, c.choices-test.false) in
    let e = c.execute.ensures in
    goes_on _ _ _ _ _ _ _ _ _ _ _ c.choices.invariant b.last _
    (no_choice b.choices.items _ b.first c.choices.k le) c.execute.new.planes c.execute.new.words
    e.planes e.words e.done e.other_planes e.other_words

pub choose-requires-in-rest : goal.choose-requires-in-rest
choose-requires-in-rest c =
    let is = c.args.self.now.instructions in
    let k = c.rest.k in
    let same = c.as_slice-behind.ensures.value in
    let lt : c.rest.k < length is.choices.items =
    omega (arith, ap length same, c.rest-test.true) in
    fits _ _ _ _ _ _ _ _ _ _ _ c.rest.invariant _ _
    (next_choice is.choices.items [] is.first k (is.first + k) nothing _
    (ap (λ cs. get_or cs k nothing) same) lt refl)

pub rest-preserved : goal.rest-preserved
rest-preserved c =
    let is = c.args.self.now.instructions in
    let k = c.rest.k in
    let same = c.as_slice-behind.ensures.value in
    let lt : c.rest.k < length is.choices.items =
    omega (arith, ap length same, c.rest-test.true) in
    let d = c.choose-in-rest.ensures in
    goes_on _ _ _ _ _ _ _ _ _ _ _ c.rest.invariant _ _
    (next_choice is.choices.items [] is.first k (is.first + k) nothing _
    (ap (λ cs. get_or cs k nothing) same) lt refl) c.choose-in-rest.new.planes c.outer.words
    d.planes refl (λ lane l. d.done lane (omega (arith, l, c.args.width.few))) d.other_planes
    (λ k h. refl)

pub returns-clause-done : goal.returns-clause-done
returns-clause-done c =
    let is = c.args.self.now.instructions in
    let le : length is.choices.items ≤ c.rest.k =
    omega (arith, ap length c.as_slice-behind.ensures.value, c.rest-test.false) in
    ends _ _ _ _ _ _ _ _ _ _ _ c.rest.invariant
    (no_choice is.choices.items [] is.first c.rest.k le)

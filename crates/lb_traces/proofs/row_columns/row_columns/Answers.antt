-- The columns so far are those of the first kinds.
use Rattle.std.proofs.Common.{◌≡◌, ◌<◌, length, ap, ◌∙◌, arith, rules}
use Rattle.std.proofs.lemmas.Option.{get_or_from_slice_get, slice_get_within}
use Rattle.lb_syntax.specs.declared.tree.Kind.TheVariants.{Int as Int_kind, Bool as Bool_kind}
use Rattle.lb_static.specs.Signature.{kinds_of}
use Rattle.lb_traces.proofs.KindColumns.{truths_few, integers_few, columns_truth, columns_integer}
use Rattle.lb_traces.proofs.row_columns.row_columns.Goals.{
  in-Bool+in_ok-push-in-Bool+in_ok-push-in-Bool-2,
}
use Rattle.lb_traces.proofs.row_columns.row_columns.Goals.{
  in-Int+in_ok-push-in-Int+in_ok-push-in-Int-2,
}
use Rattle.lb_traces.proofs.row_columns.row_columns.Goals as goal

pub overflow_cast-len : goal.overflow_cast-len
overflow_cast-len c =
    let kinds = kinds_of c.args.signature.now in
    let lt = slice_get_within kinds c.loop-j.j c.kind.result c.kind.ensures in
    let count : c.len.result ≡ length c.loop-j.truths.items = search rules in
    let few = truths_few kinds c.loop-j.j c.loop-j.integers.items c.loop-j.truths.items
    c.loop-j.places.items c.loop-j.invariant lt in
    let small : c.loop-j.j < 4294967296 = search rules in
    let fits : c.len.result < 4294967296 = omega (arith, few, small, count) in
    record { fits = fits }

pub overflow_cast-len-in-Int : goal.overflow_cast-len-in-Int
overflow_cast-len-in-Int c =
    let kinds = kinds_of c.args.signature.now in
    let lt = slice_get_within kinds c.loop-j.j c.kind.result c.kind.ensures in
    let count : c.len-in-Int.result ≡ length c.loop-j.integers.items = search rules in
    let few = integers_few kinds c.loop-j.j c.loop-j.integers.items c.loop-j.truths.items
    c.loop-j.places.items c.loop-j.invariant lt in
    let small : c.loop-j.j < 4294967296 = search rules in
    let fits : c.len-in-Int.result < 4294967296 = omega (arith, few, small, count) in
    record { fits = fits }

pub loop-j-preserved : goal.loop-j-preserved
loop-j-preserved c =
    let kinds = kinds_of c.args.signature.now in
    let j = c.loop-j.j in
    let lt = slice_get_within kinds c.loop-j.j c.kind.result c.kind.ensures in
    elim c.match-kind.branch [
      | in-Bool+in_ok-push-in-Bool+in_ok-push-in-Bool-2 w ↦
          let count : w.len.result ≡ length c.loop-j.truths.items = search rules in
          let made = columns_truth kinds j c.loop-j.integers.items c.loop-j.truths.items
          c.loop-j.places.items c.loop-j.invariant lt w.len.result
          (get_or_from_slice_get kinds j c.kind.result Bool_kind c.kind.ensures ∙ w.in-Bool.is)
          count in
          record {
            integers_are = ap (λ v. v.items) w.integers-is ∙ made.integers_are;
            truths_are =
                ap (λ v. v.items) w.truths-is ∙ w.in_ok-push-in-Bool-2.ensures.items
                ∙ made.truths_are;
            places_are =
                ap (λ v. v.items) w.places-is ∙ w.in_ok-push-in-Bool.ensures.items
                ∙ made.places_are;
          }
      | in-Int+in_ok-push-in-Int+in_ok-push-in-Int-2 w ↦
          let count : w.len-in-Int.result ≡ length c.loop-j.integers.items = search rules in
          let made = columns_integer kinds j c.loop-j.integers.items c.loop-j.truths.items
          c.loop-j.places.items c.loop-j.invariant lt w.len-in-Int.result
          (get_or_from_slice_get kinds j c.kind.result Int_kind c.kind.ensures ∙ w.in-Int.is)
          count in
          record {
            integers_are =
                ap (λ v. v.items) w.integers-is ∙ w.in_ok-push-in-Int-2.ensures.items
                ∙ made.integers_are;
            truths_are = ap (λ v. v.items) w.truths-is ∙ made.truths_are;
            places_are =
                ap (λ v. v.items) w.places-is ∙ w.in_ok-push-in-Int.ensures.items
                ∙ made.places_are;
          }
    ]

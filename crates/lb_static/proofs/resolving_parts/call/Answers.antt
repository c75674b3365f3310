-- A call with its callee and its static arguments.
use Rattle.std.proofs.Common.{◌≡◌, true, ap, length, refl, sym, subst}
use Rattle.std.specs.Prelude.{nat_lt, option_map}
use Rattle.std.proofs.lemmas.List.{length-map}
use Rattle.std.proofs.lemmas.Result.{err_from_is_err_and}
use Rattle.lb_syntax.specs.View.{view_static, view_statics}
use Rattle.lb_static.specs.NodeNames.{program_in, IsCallee}
use Rattle.lb_static.specs.NodeProgress.{callees, program_of, texts}
use Rattle.lb_static.specs.Progressed.{progress}
use Rattle.lb_static.specs.ReachedNodes.{source_names}
use Rattle.lb_static.specs.ResolvedTerms.{static_at}
use Rattle.lb_static.specs.StaticParts.{arguments_of}
use Rattle.lb_static.specs.declared.resolved.CallSite.{CallSite}
use Rattle.lb_static.proofs.RefusedParts.{callee_fault}
use Rattle.lb_static.proofs.Resolutions.{call_resolved, site_placed}
use Rattle.lb_static.proofs.resolving_parts.call.Goals as goal

pub push_call-requires : goal.push_call-requires
push_call-requires c =
    let before = progress c.args.here.now in
    let mid = progress c.all_statics.new.here in
    let found = c.in_ok-first_argument.ensures in
    let names : length (callees before) ≡ length (callees mid) =
    ap (λ s. length (callees s)) (sym found.0) in
    let callee : nat_lt c.in_ok-callee.callee.0 (length (callees before)) ≡ true =
    subst (λ P. nat_lt c.in_ok-callee.callee.0 (length (source_names P)) ≡ true)
    c.node_scope.ensures.source c.in_ok-callee.ensures.ok.1 in
    -- the goal does not speak of the offset
    let site : CallSite = record {
      callee = c.in_ok-callee.callee;
      offset = 0;
      first_argument = c.in_ok-first_argument.first_argument;
      arguments = c.in_ok-first_argument.arguments;
      count = c.args.count;
    } in
    site_placed before mid (arguments_of (view_statics c.args.arguments.now))
    (view_statics c.args.arguments.now)
    (c.in_ok-first_argument.first_argument, c.in_ok-first_argument.arguments) site found.0 found.1
    refl refl c.requires
    (subst (λ n. nat_lt c.in_ok-callee.callee.0 n ≡ true) names callee)

pub returns : goal.returns
returns c =
    let before = progress c.args.here.now in
    let mid = progress c.all_statics.new.here in
    let args = view_statics c.args.arguments.now in
    let f = c.args.name.now in
    let callee = c.in_ok-callee.callee in
    let long = sym (length-map c.args.arguments.now view_static) in
    let called : IsCallee (program_of before) f (length args) callee =
    subst (λ P. IsCallee P f (length args) callee) c.node_scope.ensures.source
    (subst (λ k. IsCallee (program_in c.node_scope.result.now) f k callee) long
    c.in_ok-callee.ensures.ok) in
    let found = c.in_ok-first_argument.ensures in
    call_resolved before (progress c.push_call.new.self) f args
    (c.in_ok-first_argument.first_argument, c.in_ok-first_argument.arguments) c.args.count callee
    called c.requires
    mid c.push_call.result found.0 found.1 found.2 c.push_call.ensures.after c.push_call.ensures.id
    c.push_call.ensures.err

pub returns-in_err-callee : goal.returns-in_err-callee
returns-in_err-callee c =
    let p = err_from_is_err_and c.from_residual.result c.from_residual.ensures.1 in
    let s = progress c.args.here.now in
    rw (p.1, p.2) (callee_fault s c.in_err-callee.field-0.0 (program_in c.node_scope.result.now)
    c.args.name.now c.args.arguments.now (option_map (static_at (texts s).statics) c.args.count)
    c.node_scope.ensures.source c.in_err-callee.ensures.err)

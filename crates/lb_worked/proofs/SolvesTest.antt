-- A test of whether a history solves a program on a trace, and with it the verdict of the trace.
use Rattle.std.proofs.Common.{◌≡◌, ℕ, ◌+◌, Bool, true, Option, Some, None, IfSome, List, [], ◌∷◌}
use Rattle.std.proofs.Common.{◌++◌, length, replicate, flat_map, subst}
use Rattle.std.specs.List.{range_with_len}
use Rattle.lb_syntax.specs.declared.tree.ArrayIterator.{ArrayIterator}
use Rattle.lb_syntax.specs.Lists.{Every}
use Rattle.lb_syntax.specs.Tree.{Name, Node_named, Expr, Call, Iterate, Exprs, Declaration, Node}
use Rattle.lb_syntax.specs.Tree.{Statement, Equation, Assertion}
use Rattle.lb_static.specs.Instances.{Program, Instance, Path, Root, Observer, Child, instance_at}
use Rattle.lb_static.specs.Instances.{node_named, instances}
use Rattle.lb_static.specs.DataTypes.{variables, width, input_kinds}
use Rattle.lb_check.specs.Scalars.{Stream}
use Rattle.lb_check.specs.Clocks.{Clock, base_clock, argument_clocks}
use Rattle.lb_check.specs.Occurrences.{Occurrence, node_occurrences, statements}
use Rattle.lb_check.specs.Streams.{History, presence, all_streams, argument_streams, number}
use Rattle.lb_check.specs.Solutions.{Inputs, Receives, iterator_inputs, IsCallJoined}
use Rattle.lb_check.specs.Solutions.{IsIteratorJoined, IsJoinedAt, IsJoined, AreEqual, streams_at}
use Rattle.lb_check.specs.Solutions.{fits, variable_presence, Fits, is_row, columns_of, columns_at}
use Rattle.lb_check.specs.Solutions.{IsObserved, IsGiven, SolvesAt, Solves}
use Rattle.lb_check.specs.Verdicts.{HasVerdict, Ends, verdict_from}
use Rattle.lb_check.specs.declared.verdict.Verdict.{Verdict}
use Rattle.lb_worked.proofs.Tests.{Test, holds, fails, is_so, so, both, each, if_some, equal_nats}
use Rattle.lb_worked.proofs.Tests.{equal_columns, equal_ticks}
use Rattle.lb_worked.proofs.Verdicts.{ends}

module _ (H : History) where
  abbrev receives :
      (p : Path) (ds : List Declaration) (xss : List (List Stream)) → Test (Receives H p ds xss)
  receives p [] [] = holds tt
  receives p (d ∷ ds) (xs ∷ xss) =
      both (equal_columns (H.columns p d.name) xs) (receives p ds xss)
  receives p ds xss = fails

  -- a test that the instance at `p` runs at the instants `bs` and receives the streams `xss`
  abbrev called :
      (p : Path) (bs : List Bool) (ds : List Declaration) (xss : List (List Stream)) →
      Test ((H.ticks p ≡ bs) × Receives H p ds xss)
  called p bs ds xss = both (equal_ticks (H.ticks p) bs) (receives p ds xss)

module _ (P : Program) (H : History) (here : Instance) where
  abbrev call_joined :
      (k : Clock) (n : ℕ) (es : Exprs) (o : Option Node) → Test (IsCallJoined P H here k n es o)
  call_joined k n es None = holds tt
  call_joined k n es (Some callee) =
      let args = argument_streams P H here (argument_clocks k callee es) (n + 1) es in
      called H (Child here.path n 0) (presence H here.path (base_clock k callee))
      callee.inputs args

  abbrev iterator_joined :
      (k : Clock) (n : ℕ) (it : ArrayIterator) (m : ℕ) (es : Exprs) (o : Option Node) →
      Test (IsIteratorJoined P H here k n it m es o)
  iterator_joined k n it m es None = holds tt
  iterator_joined k n it m es (Some callee) =
      let outputs : ℕ → Name → List Stream = λ i x. H.columns (Child here.path n i) x in
      let args = all_streams P H here k (n + 1) es in
      each
      (λ i.
      (H.ticks (Child here.path n i) ≡ presence H here.path k)
      × Receives H (Child here.path n i) callee.inputs
      (iterator_inputs outputs m it callee.outputs args i))
      (λ i.
      called H (Child here.path n i) (presence H here.path k) callee.inputs
      (iterator_inputs outputs m it callee.outputs args i))
      (range_with_len 0 m)

  abbrev joined_at : (k : Clock) (n : ℕ) (e : Expr) → Test (IsJoinedAt P H here k n e)
  joined_at k n (Call f statics es) = call_joined k n es (node_named P f)
  joined_at k n (Iterate it (Node_named f statics) m es) =
      iterator_joined k n it (number P here m) es (node_named P f)
  joined_at k n e = holds tt

  abbrev equal : (s : Statement) (o : Occurrence) → Test (AreEqual P H here s o)
  equal (Equation lefts e) o =
      equal_columns (flat_map (H.columns here.path) lefts) (streams_at P H here o)
  equal (Assertion e) o = holds tt

  abbrev fitting : (d : Declaration) → Test (Fits P H here d)
  fitting d =
      let columns = H.columns here.path d.name in
      let bs = variable_presence H here d in
      so (λ f. record { width = f.0; cells = f.1 })
      (both (equal_nats (length columns) (width P here d))
      (each (λ xs. fits d.kind bs xs ≡ true) (λ xs. is_so (fits d.kind bs xs)) columns))

  abbrev solves_at : Test (SolvesAt P H here)
  solves_at =
      so (λ s. record { variables = s.0; equations = s.1.0; calls = s.1.1 })
      (both (each (Fits P H here) fitting (variables here.node))
      (both
      (each (λ s. AreEqual P H here s.0 s.1) (λ s. equal s.0 s.1) (statements P here.node))
      (each (IsJoined P H here) (λ o. joined_at o.clock o.calls_before o.expr)
      (node_occurrences P here.node))))

module _ (P : Program) (X : Inputs) (H : History) where
  abbrev lawful_rows : Test (Every (λ row. is_row (input_kinds P) row ≡ true) X)
  lawful_rows =
      each (λ row. is_row (input_kinds P) row ≡ true) (λ row. is_so (is_row (input_kinds P) row))
      X

  abbrev given : (root : Instance) → Test (IsGiven P X H root)
  given root =
      equal_columns (flat_map (λ d. H.columns Root d.name) root.node.inputs)
      (columns_of (length (input_kinds P)) X)

  abbrev observed : (root : Instance) → Test (IfSome (instance_at P Observer) (IsObserved H root))
  observed root =
      if_some (IsObserved H root)
      (λ observer.
      receives H Observer observer.node.inputs
      (columns_at H Root (root.node.inputs ++ root.node.outputs)))
      (instance_at P Observer)

  -- a test that the history `H` solves the program `P` on the trace `X`
  abbrev pub solves : Test (Solves P X H)
  solves =
      so (λ s. record {
        rows = s.0;
        root_runs = s.1.0;
        observer_runs = s.1.1.0;
        inputs = s.1.1.1.0;
        observed = s.1.1.1.1.0;
        instances = s.1.1.1.1.1;
      })
      (both lawful_rows
      (both (equal_ticks (H.ticks Root) (replicate (length X) true))
      (both (equal_ticks (H.ticks Observer) (replicate (length X) true))
      (both (if_some (IsGiven P X H) given (instance_at P Root))
      (both
      (if_some (λ root. IfSome (instance_at P Observer) (IsObserved H root)) observed
      (instance_at P Root))
      (each (SolvesAt P H) (solves_at P H) (instances P)))))))

-- if `H` solves `P` on `X`, and `v` is the verdict found in `H`, then `v` is the verdict of `X`
pub by_history :
    (P : Program) (X : Inputs) (v : Verdict) (H : History) →
    (solves P X H).passed ≡ true → verdict_from P H 0 (length X) ≡ v → HasVerdict P X v
by_history P X v H s e =
    (H, (solves P X H).shows s, subst (Ends P H (length X)) e (ends P H (length X)))

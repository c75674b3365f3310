-- The words that the proof files of this crate share, each from where it is defined.
pub use Rattle.lb_check.proofs.{definitions.BrokenRules.{kept, second_none}, lists.Members.Every-at}
pub use Rattle.lb_check.proofs.lists.Members.{Every-from, in_first}
pub use Rattle.lb_check.proofs.programs.{InstancePaths.path_is, SolutionStreams.length-both}
pub use Rattle.lb_check.proofs.programs.SolutionStreams.{solves_same}
pub use Rattle.lb_check.specs.{Acceptance.check_refusal, Needs.{Element, Needs}}
pub use Rattle.lb_check.specs.{Occurrences.{Occurrence, node_occurrences}, Scalars.{Bad, Boolean}}
pub use Rattle.lb_check.specs.Scalars.{Integer, Scalar, Stream, is_given, is_of_kind, one_scalar}
pub use Rattle.lb_check.specs.{Scalars.{or_fault, strict, two_scalars}, Solutions.AgreeAt}
pub use Rattle.lb_check.specs.{Solutions.{AreSame, Inputs, Solves, fits, is_row}, Streams.History}
pub use Rattle.lb_check.specs.Streams.{along, along_two, choice, constantly, first_cell, first_then}
pub use Rattle.lb_check.specs.Streams.{held, latest, newest, one_cell, previous, sample, shows}
pub use Rattle.lb_check.specs.{Streams.two_cells, Verdicts.{is_bad, is_false, is_nil, or_later}}
pub use Rattle.lb_check.specs.declared.verdict.Verdict.{Verdict, TheVariants.Passed}
pub use Rattle.lb_flat.specs.Correct.{HasReads, IsExpansionOf, IsOrderOf, IsOrderingOf}
pub use Rattle.lb_flat.specs.Flat.{Always, ApplyBinary, ApplyUnary, AreLong, Choose, Constant, Copy}
pub use Rattle.lb_flat.specs.Flat.{FirstThen, FlatClock, FlatEquation, FlatSolves, Holds, Input}
pub use Rattle.lb_flat.specs.Flat.{Latest, Operation, Previous, Sample, Where, column, instants}
pub use Rattle.lb_flat.specs.{Flat.operate, FlatPrograms.IsFlatOf, FlatSolutions.IsCellFit}
pub use Rattle.lb_flat.specs.{FlatSolutions.IsFlatSolution, Flattening.{IsTrace, IsWatched}}
pub use Rattle.lb_flat.specs.{Flattening.history_of, GivenOnce.IsGiven, InOrder.is_done}
pub use Rattle.lb_flat.specs.{Inputs.{inputs_of, scalar_in, scalars_in}, Judging.FlatProgram}
pub use Rattle.lb_flat.specs.Judging.{flat_verdict, row_judged, rows_judged, some_in}
pub use Rattle.lb_flat.specs.{Layouts.Layout, MemoryPlaces.{HasAllMemories, HasMemories, KeepsFlag}}
pub use Rattle.lb_flat.specs.{MemoryPlaces.KeepsOperand, NumberedLayouts.layout}
pub use Rattle.lb_flat.specs.Ordering.{AreOrdered, AreScheduled, IsLeft, IsScheduled, IsStuckAt}
pub use Rattle.lb_flat.specs.{Ordering.{IsTableOf, awaited, first_left, left}, Prepared.AreFixed}
pub use Rattle.lb_flat.specs.Prepared.{fixed_in, has_memory, inputs_in, is_fixed, is_input, is_step}
pub use Rattle.lb_flat.specs.Prepared.{memory_places, on_base, place_equation, steps_in}
pub use Rattle.lb_flat.specs.{Programs.{flat_equations, numbers_of, program_of}, Reading.Chain}
pub use Rattle.lb_flat.specs.Reading.{IsCertificate, IsReadCycle, Leads, NeedsAt, by_way}
pub use Rattle.lb_flat.specs.{Reading.{more_reads, one_read, reads_it}, Run.{IsNext, Ready, Row}}
pub use Rattle.lb_flat.specs.Run.{advanced, cell, chosen_cell, clock_reads, equation_reads, filled}
pub use Rattle.lb_flat.specs.Run.{is_now, keeps, now, reads, remembered, row_of, run, streams_of}
pub use Rattle.lb_flat.specs.{TemporaryKinds.kind_among, Values.{cell_of, clock_from, clock_of}}
pub use Rattle.lb_flat.specs.{Values.{clock_within, equation_of, operation_of}, Within.AreClocks}
pub use Rattle.lb_flat.specs.{Within.{IsClock, IsWithin}, declared.cell.Cell.Cell}
pub use Rattle.lb_flat.specs.declared.equation.{Clock.Clock, ClockId.ClockId, ElementId.ElementId}
pub use Rattle.lb_flat.specs.declared.{equation.InputPlace.InputPlace, error.Cycle.Cycle}
pub use Rattle.lb_static.specs.{Arithmetic.is_int, DataTypes.{input_kinds, signature, variables}}
pub use Rattle.lb_static.specs.Instances.{Instance, Observer, Path, Program, Root, instance_at}
pub use Rattle.lb_static.specs.{Instances.instances, Instantiation.has_no_parameters}
pub use Rattle.lb_static.specs.Instantiation.{instantiation_refusal, is_root, static_refusal}
pub use Rattle.lb_static.specs.{Names.{is_well_founded, keeps_names}, Signature.Elements}
pub use Rattle.{lb_static.specs.Signature.kinds_of, lb_syntax.proofs.TruthValues.and_first}
pub use Rattle.lb_syntax.{proofs.TruthValues.{and_second, contrary}, specs.Lists.{AreApart, Every}}
pub use Rattle.lb_syntax.specs.Lists.{In, copies, holds, joined, tail_of, where_true, zip2}
pub use Rattle.lb_syntax.specs.{Refusals.{E4, E7, E8, unless}, Tree.{Arrow, Current, Declaration}}
pub use Rattle.lb_syntax.specs.{Tree.{Expr, Fby, Pre}, declared.tree.BinaryOperator.BinaryOperator}
pub use Rattle.lb_syntax.specs.declared.tree.BinaryOperator.TheVariants.{Divide, Minus, Modulo}
pub use Rattle.lb_syntax.specs.declared.tree.{BinaryOperator.TheVariants.{Plus, Times}, Kind.Kind}
pub use Rattle.lb_syntax.specs.declared.tree.{Kind.TheVariants.Int, UnaryOperator.UnaryOperator}
pub use Rattle.lb_syntax.specs.declared.tree.UnaryOperator.TheVariants.{Negate, Not}
pub use Rattle.lb_traces.specs.Traces.{IsCell, IsRecording, Recording, trace_at}
pub use Rattle.std.proofs.Common.{All, Bool, Global, IfSome, List, None, Option, Some, Vec, []}
pub use Rattle.std.proofs.Common.{add-one, ap, ap₂, arith, cond, drop, false, get_or, inl, inr}
pub use Rattle.std.proofs.Common.{is_some, length, length-set, map, not, pos, refl, replicate}
pub use Rattle.std.proofs.Common.{rules, set, subst, suc, sym, take, true, zero, ℕ, ℤ, ⊎_elim, ◌&&◌}
pub use Rattle.std.proofs.Common.{◌++◌, ◌+◌, ◌-◌, ◌/◌, ◌<◌, ◌||◌, ◌∙◌, ◌∷◌, ◌≡◌, ◌≢◌, ◌≤◌, ◌⊎◌}
pub use Rattle.std.proofs.Math.{ListN.{drop_of_length-le, get_or-eq_default}, Seq.drop-cons}
pub use Rattle.std.proofs.lemmas.Bool.{and_from, cases_eq, cases_lt, lt-ltb, ltb-true, not-true}
pub use Rattle.std.proofs.lemmas.List.{append-nil, append_assoc, get_or-map, get_or-set_other}
pub use Rattle.std.proofs.lemmas.List.{get_or-set_same, length-append, length-map, length-replicate}
pub use Rattle.std.proofs.lemmas.List.{map-append, take_more, Elements.All-push}
pub use Rattle.std.proofs.lemmas.List.FromFn.{get_or-map-range_with_len, length-map-range_with_len}
pub use Rattle.std.proofs.lemmas.Option.{get_or_from_slice_get, same_Some, slice_get-get_or}
pub use Rattle.std.proofs.lemmas.Option.{slice_get_past, slice_get_within}
pub use Rattle.std.{proofs.lemmas.Result.err_from_is_err_and, specs.List.{filter, list_all}}
pub use Rattle.std.specs.{List.range_with_len, Prelude.{if◌then◌else◌, nat_lt, slice_get, ◌↔◌}}
unfoldable pub use Rattle.lb_check.specs.Elements.{program_elements}

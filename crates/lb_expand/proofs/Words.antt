-- The words that the proof files of this crate share, each from where it is defined.
pub use Rattle.lb_check.proofs.clocking.{ClockDepths.get_name, ClockTests.clock_same}
pub use Rattle.lb_check.proofs.clocking.{ClockTests.declared_within, DeclaredClocks.IsOwn}
pub use Rattle.lb_check.proofs.clocking.{DeclaredClocks.declared_own, GivenParameters.found_in}
pub use Rattle.lb_check.proofs.clocking.NamedClocks.{IsOver, OfCalled, count_of, declared_over}
pub use Rattle.lb_check.proofs.definitions.BrokenRules.{instantiation_kept, kept, names_kept}
pub use Rattle.lb_check.proofs.definitions.{BrokenRules.second_none, CallNumbers.call_of}
pub use Rattle.lb_check.proofs.{definitions.CallNumbers.own_right, lists.ListPairs.get_mapped}
pub use Rattle.lb_check.proofs.lists.Members.{Every-all, Every-append, Every-at, Every-both}
pub use Rattle.lb_check.proofs.lists.Members.{Every-first, Every-from, Every-map, Every-second}
pub use Rattle.lb_check.proofs.lists.Members.{distinct_at, held_at, in_either, in_first, in_second}
pub use Rattle.lb_check.proofs.lists.Members.{of_pieces, to_pieces}
pub use Rattle.lb_check.proofs.programs.AcceptedElements.{element_values, kinds_at_numbers}
pub use Rattle.lb_check.proofs.programs.AcceptedElements.{length_kinds, number_of, numbers_below}
pub use Rattle.lb_check.proofs.programs.AcceptedElements.{pieces_count, values_at_numbers}
pub use Rattle.lb_check.proofs.programs.AcceptedRules.{all_typed, clocked, statements_typed}
pub use Rattle.lb_check.proofs.programs.InstancePaths.{at_path, called, callee_node, find_in}
pub use Rattle.lb_check.proofs.programs.InstancePaths.{in_instances, instances_apart, path_is}
pub use Rattle.lb_check.proofs.programs.InstancePaths.{same_instance, same_path, variables_distinct}
pub use Rattle.lb_check.proofs.programs.Numbers.{found_some, length_elements}
pub use Rattle.lb_check.proofs.programs.OccurrenceSites.{call_of_site, node_calls, own_site}
pub use Rattle.lb_check.proofs.programs.SameHistories.{IsEntered, all_called, all_children}
pub use Rattle.lb_check.proofs.programs.{SameHistories.all_entered, SiteOccurrences.IsInstanceOf}
pub use Rattle.lb_check.proofs.programs.SiteOccurrences.{instance_there, site_occurs}
pub use Rattle.lb_check.proofs.programs.SolutionStreams.{length-both, solves_same}
pub use Rattle.lb_check.proofs.programs.TypedOccurrences.{HasTypes, IsVariable, found_name}
pub use Rattle.lb_check.proofs.programs.TypedOccurrences.{occurrence_fits, occurrences_typed}
pub use Rattle.lb_check.proofs.programs.TypedOccurrences.{own_variables}
pub use Rattle.lb_check.proofs.typing.FittedTypes.{specialized_instance, unfound, values_at}
pub use Rattle.lb_check.proofs.typing.{OperandTypes.{bound, first_of_all, truly}, TypeRows.row_in}
pub use Rattle.lb_check.specs.{Acceptance.check_refusal, ClockRules.are_declared_clocks}
pub use Rattle.lb_check.specs.ClockRules.{are_on_results, is_clock, is_occurrence_clocked}
pub use Rattle.lb_check.specs.{ClockRules.{is_statement_clocked, left_clocks}, Clocks.{Base, Given}}
pub use Rattle.lb_check.specs.Clocks.{On, argument_clocks, as_variable, base_clock, clock_or}
pub use Rattle.lb_check.specs.Clocks.{declared_clock, given_outputs, outer, ungrouped}
pub use Rattle.lb_check.specs.Elements.{found_from, instance_elements, numbers_from}
pub use Rattle.lb_check.specs.{FoundTerms.{HasFoundClocks, pair_names}, LawfulPrograms.IsChecked}
pub use Rattle.lb_check.specs.Needs.{Always as Always_whole, Definition, Element, Needs}
pub use Rattle.lb_check.specs.Needs.{Where as Where_whole, WholeClock, all_needs, both, call_at}
pub use Rattle.lb_check.specs.Needs.{call_definitions, clock_definitions, defined_as, definitions}
pub use Rattle.lb_check.specs.Needs.{definitions_at, elements, elements_named, equation_definitions}
pub use Rattle.lb_check.specs.Needs.{given_to, is_site, itself, observer_definitions}
pub use Rattle.lb_check.specs.Needs.{output_elements, runs_on, serving, site_clock, waits_for}
pub use Rattle.lb_check.specs.{Needs.whole_clock, Occurrences.{Occurrence, at, call_clocks}}
pub use Rattle.lb_check.specs.Occurrences.{call_count, node_occurrences, occurrences}
pub use Rattle.lb_check.specs.Occurrences.{occurrences_each, occurrences_in, right_sides}
pub use Rattle.lb_check.specs.{Occurrences.{statement_clock, statements}, OwnClocks.HasClocks}
pub use Rattle.lb_check.specs.{OwnClocks.{clock_in, is_clock_within, name_in}, Scalars.Bad}
pub use Rattle.lb_check.specs.Scalars.{Boolean, Integer, Scalar, Stream, at_most_one, first_value}
pub use Rattle.lb_check.specs.Scalars.{is_of_kind, none_true, one_scalar, or_fault, strict}
pub use Rattle.lb_check.specs.{Scalars.two_scalars, Solutions.{AgreeAt, AreEqual, AreSame, Fits}}
pub use Rattle.lb_check.specs.Solutions.{Inputs, IsCallJoined, IsIteratorJoined, IsJoined, Receives}
pub use Rattle.lb_check.specs.Solutions.{Solves, SolvesAt, accumulated, column_of, columns_at, fits}
pub use Rattle.lb_check.specs.Solutions.{is_row, iterator_inputs, streams_at, variable_presence}
pub use Rattle.lb_check.specs.Streams.{History, across, all_streams, along, along_two}
pub use Rattle.lb_check.specs.Streams.{argument_streams, choice, choices, constantly, data_type}
pub use Rattle.lb_check.specs.Streams.{first_cell, first_then, gathered, held, iterated, last_of}
pub use Rattle.lb_check.specs.Streams.{latest, newest, number, outputs_of, part_count, presence}
pub use Rattle.lb_check.specs.Streams.{previous, sample, shows, signed, streams, symbols}
pub use Rattle.lb_check.specs.{TermClocks.declared_in, TypeRules.{expression_size, instance_size}}
pub use Rattle.lb_check.specs.TypeRules.{is_clock_typed, is_small, is_statement_typed, is_typed}
pub use Rattle.lb_check.specs.{TypeRules.{size, type_of_name}, Types.{all_types, are_ints}}
pub use Rattle.lb_check.specs.Types.{are_truths, array_of, binary_type, common_type, constant_type}
pub use Rattle.lb_check.specs.Types.{data_types, element_of, element_with, from_one, from_truths}
pub use Rattle.lb_check.specs.Types.{index_type, is_arithmetic, is_logical, iterator_types}
pub use Rattle.lb_check.specs.Types.{join_type, list_type, name_data_type, only, operator_types}
pub use Rattle.lb_check.specs.Types.{red_types, singly, slice_type, symbol_types, unary_type}
pub use Rattle.lb_check.specs.Verdicts.{clock_variables, is_bad, is_false, is_nil, property_path}
pub use Rattle.lb_check.specs.{Verdicts.variable_columns, declared.checked.Checking.Checking}
pub use Rattle.lb_check.specs.declared.found_clocks.CallClock.{CallClock}
pub use Rattle.lb_check.specs.declared.found_clocks.GivenVariable.{GivenVariable}
pub use Rattle.lb_check.specs.declared.found_clocks.NodeClocks.{NodeClocks}
pub use Rattle.lb_check.specs.declared.found_types.NodeTypes.{NodeTypes}
pub use Rattle.lb_expand.specs.ClockPlaces.{path_before, path_place, path_runs, row_number}
pub use Rattle.lb_expand.specs.{ClockPlaces.variable_place, ClockTables.{IsClockTable, clock_place}}
pub use Rattle.lb_expand.specs.{ClockTables.sign_place, ClockUses.{HasFlags, clock_numbers}}
pub use Rattle.lb_expand.specs.ClockUses.{clocks_named, declared_when, flagged_below, is_among}
pub use Rattle.lb_expand.specs.{ClockUses.{statement_whens, whens_in, whens_in_all}, Emit.Emitted}
pub use Rattle.lb_expand.specs.Emit.{EmittedAll, State, Target, after, before_instances}
pub use Rattle.lb_expand.specs.Emit.{call_copies, chosen_by, clock_places, copied, emit_all}
pub use Rattle.lb_expand.specs.Emit.{emit_at_most_one, emit_each, emit_name, emit_nor, emit_symbol}
pub use Rattle.lb_expand.specs.Emit.{expanded, from_inputs, given_inputs, gives, iterator_copies}
pub use Rattle.lb_expand.specs.Emit.{negated, numbered, numbers, observed, observed_places}
pub use Rattle.lb_expand.specs.{Emit.{property_places, push, received, targets}, EmitRows.HasRow}
pub use Rattle.lb_expand.specs.EmitRows.{HasRows, IsCounted, body_in, with_body}
pub use Rattle.lb_expand.specs.EmitTerms.{Context, Cursor, PlacedEmitted, PlacedState, accumulator}
pub use Rattle.lb_expand.specs.EmitTerms.{call, choose, constant, each, emit_row, first_place}
pub use Rattle.lb_expand.specs.EmitTerms.{gathered_at, index_copies, index_outputs, input_targets}
pub use Rattle.lb_expand.specs.EmitTerms.{iterate, left_targets, literal, memory, next_call}
pub use Rattle.lb_expand.specs.EmitTerms.{next_term, pairs, part_copies, picked, placed, red}
pub use Rattle.lb_expand.specs.EmitTerms.{row_place, symbol, with_all, with_one, with_two}
pub use Rattle.lb_expand.specs.EmitWhole.{IsReady, begun_at, clocks_in, given_at, is_start}
pub use Rattle.lb_expand.specs.EmitWhole.{observed_at, outputs_at, parameter_targets, places_from}
pub use Rattle.lb_expand.specs.EmitWhole.{start_in, start_of, variable_targets, whole}
pub use Rattle.lb_expand.specs.Frames.{HasPlaces, HasRoom, elements_of, place_of, stacked}
pub use Rattle.lb_expand.specs.{Frames.{targets_of, with_copies}, Operators.{pair_of, unary_of}}
pub use Rattle.lb_expand.specs.RowContexts.{RowClocks, parameters_of, row_context, value_at}
pub use Rattle.lb_expand.specs.RowFrames.{found_row, frame_contexts, held_below, held_value}
pub use Rattle.lb_expand.specs.{RowFrames.{read_clocks, row_read}, RowKinds.declared_kinds}
pub use Rattle.lb_expand.specs.{RowKinds.{kinds_in, table_kinds}, Rows.{AreAdded, called_row}}
pub use Rattle.lb_expand.specs.Rows.{child_numbers, child_row, count_at, declared_width}
pub use Rattle.lb_expand.specs.Rows.{element_total, first_of_row, numbers_at, numbers_between}
pub use Rattle.lb_expand.specs.Rows.{row_numbers, sum_of, variables_before, widths_in}
pub use Rattle.lb_expand.specs.{SizeFaults.Counts, TableClocks.{IsLayoutOf, Sources, all_clocks}}
pub use Rattle.lb_expand.specs.TableClocks.{all_runs, all_serving, caller_number, clock_id}
pub use Rattle.lb_expand.specs.TableClocks.{clocks_among, found_call, given_for, no_element}
pub use Rattle.lb_expand.specs.TableClocks.{node_at, node_clocks, own_element, row_runs}
pub use Rattle.lb_expand.specs.TableClocks.{row_serving, serving_element, signed_clock, sources_of}
pub use Rattle.lb_expand.specs.TableClocks.{table_runs, table_serving, variable_clocks}
pub use Rattle.lb_expand.specs.{TableClocks.variable_number, TableSizes.{lent_size, term_total}}
pub use Rattle.lb_expand.specs.TermEmissions.{above, emitted_of, on_three, on_top, on_two, onto}
pub use Rattle.lb_expand.specs.TermEmissions.{pushed, state_of, with_asserted, with_kept, without}
pub use Rattle.lb_expand.specs.declared.{children.Children.Children, clocks.Clocks.Clocks}
pub use Rattle.lb_expand.specs.declared.expansion.{frame.Callee.Callee, start.Start.Start}
pub use Rattle.lb_expand.specs.declared.expansion.term_emission.TermEmission.{TermEmission}
pub use Rattle.lb_flat.specs.{Bounds.{AreWhole, IsBounded}, Correct.{HasReads, IsExpansionOf}}
pub use Rattle.lb_flat.specs.{Fitting.class_on_truths, Flat.{Always, ApplyBinary, ApplyUnary}}
pub use Rattle.lb_flat.specs.Flat.{AreLong, Choose, Constant, Copy, FirstThen, FlatClock}
pub use Rattle.lb_flat.specs.Flat.{FlatEquation, FlatSolves, Holds, Input, Latest, Operation}
pub use Rattle.lb_flat.specs.Flat.{Previous, Sample, Where, column, instants, operate}
pub use Rattle.lb_flat.specs.{FlatPrograms.IsFlatOf, FlatSolutions.{IsCellFit, IsFlatSolution}}
pub use Rattle.lb_flat.specs.{Flattening.{IsWatched, history_of}, GivenOnce.IsGiven}
pub use Rattle.lb_flat.specs.{Judging.FlatProgram, Layouts.{Layout, flat_clock, where_signed}}
pub use Rattle.lb_flat.specs.MemoryPlaces.{HasAllMemories, HasMemories, KeepsFlag, KeepsOperand}
pub use Rattle.lb_flat.specs.NumberedLayouts.{layout, numbered_clock, signs_of}
pub use Rattle.lb_flat.specs.{Programs.{flat_equations, numbers_of, program_of}, Reading.Chain}
pub use Rattle.lb_flat.specs.Reading.{Leads, NeedsAt, by_way, more_reads, one_read, reads_it}
pub use Rattle.lb_flat.specs.Run.{clock_reads, equation_reads, keeps, reads}
pub use Rattle.lb_flat.specs.TemporaryKinds.{kind_among, kinds_from, operation_kind}
pub use Rattle.lb_flat.specs.Values.{clock_from, clock_of, clock_within, equation_of, operation_of}
pub use Rattle.lb_flat.specs.Within.{AreClocks, IsClock, IsTableClock, IsWithin}
pub use Rattle.lb_flat.specs.declared.equation.{Clock.Clock, ClockId.ClockId, ElementId.ElementId}
pub use Rattle.lb_flat.specs.declared.error.Cycle.{Cycle}
pub use Rattle.lb_static.proofs.{DeclaredTypes.declared_is, Members.{any_in, in_at, in_map, map_in}}
pub use Rattle.lb_static.proofs.{Members.place_in, Options.length-all_some}
pub use Rattle.lb_static.{proofs.TestedItems.found_passes, specs.Arithmetic.is_int}
pub use Rattle.lb_static.specs.DataTypes.{DataType, are_types, element_count, input_kinds}
pub use Rattle.lb_static.specs.DataTypes.{input_types, int, is_kind, is_type, product, same_sizes}
pub use Rattle.lb_static.specs.DataTypes.{scalar_elements, signature, truth, variable_type}
pub use Rattle.lb_static.specs.{DataTypes.{variables, width}, Elaborated.elaborated_program}
pub use Rattle.lb_static.specs.InstanceTable.{IsSpecialized, IsTable, instance_of, paths_of}
pub use Rattle.lb_static.specs.{InstanceTable.specialized_at, Instances.{Child, Instance, Observer}}
pub use Rattle.lb_static.specs.Instances.{Path, Program, Root, Site, call_site, callee_of, children}
pub use Rattle.lb_static.specs.Instances.{instance_at, instance_count, instances, is_path}
pub use Rattle.lb_static.specs.Instances.{name_value, node_named, node_sites, numbered_sites, sites}
pub use Rattle.lb_static.specs.Instances.{sites_in, start_at, statement_sites, static_count}
pub use Rattle.lb_static.specs.{Instances.static_value, Instantiation.{are_same, fits_observer}}
pub use Rattle.lb_static.specs.Instantiation.{has_no_parameters, has_plain_clocks, has_property}
pub use Rattle.lb_static.specs.Instantiation.{instantiation_refusal, is_between, is_root, level}
pub use Rattle.lb_static.specs.{Instantiation.static_refusal, Names.{are_distinct, is_well_founded}}
pub use Rattle.lb_static.specs.{Names.keeps_names, Parts.{among, clock_names, left_names}}
pub use Rattle.lb_static.specs.Parts.{node_parts, node_sizes, parts, parts_in, right_side}
pub use Rattle.lb_static.specs.{Parts.variable_names, ReachedNodes.{IsReached, callee_in}}
pub use Rattle.lb_static.specs.{ReachedNodes.source_names, ResolvedNodes.{IsResolved, counts_of}}
pub use Rattle.lb_static.specs.{ResolvedNodes.{node_of, statics_of, texts_of}, ResolvedTerms.Texts}
pub use Rattle.lb_static.specs.ResolvedTerms.{are_within, declaration_of, expr_of, is_call}
pub use Rattle.lb_static.specs.ResolvedTerms.{is_no_variable, is_statement_within, is_static}
pub use Rattle.lb_static.specs.ResolvedTerms.{is_variable, is_within, name_at, named_value, site_at}
pub use Rattle.lb_static.specs.{ResolvedTerms.{statement_of, static_at}, Signature.kinds_of}
pub use Rattle.lb_static.specs.{Specialized.times_sizes, StaticValues.named, TermForms.IsPair}
pub use Rattle.lb_static.specs.{TermForms.IsRow, declared.reachable.Reached.Reached}
pub use Rattle.lb_static.specs.declared.resolved.{CallId.CallId, ResolvedNode.ResolvedNode}
pub use Rattle.lb_static.specs.declared.resolved.ResolvedStatement.{ResolvedStatement}
pub use Rattle.lb_static.specs.declared.resolved.{StaticId.StaticId, Term.{Array', Arrow'}}
pub use Rattle.lb_static.specs.declared.resolved.Term.{AtMostOne', Binary', Call', Current', Fby'}
pub use Rattle.lb_static.specs.declared.resolved.Term.{Group', If', Index', IterateNode}
pub use Rattle.lb_static.specs.declared.resolved.Term.{IterateNode', IterateSymbol, IterateSymbol'}
pub use Rattle.lb_static.specs.declared.resolved.Term.{Join', Nor', Pre', Replicate', Row_of-Term}
pub use Rattle.lb_static.specs.declared.resolved.Term.{Slice', Term, Unary', Value, When'}
pub use Rattle.lb_static.specs.declared.resolved.Term.{end_of-Term, items-the_row-Term}
pub use Rattle.lb_static.specs.declared.resolved.Term.{items_hidden-the_row-Term-0, more_of-Term}
pub use Rattle.lb_static.specs.declared.resolved.Variable.{Variable as Declared}
pub use Rattle.lb_static.specs.declared.resolved.VariableId.{VariableId}
pub use Rattle.lb_static.specs.declared.table.{InstanceId.InstanceId, Origin.Origin}
pub use Rattle.lb_static.specs.declared.table.{Specialization.Specialization, Table.Table}
pub use Rattle.lb_syntax.proofs.ListPlaces.{all_at, all_in, get_first, get_later, heads_same}
pub use Rattle.lb_syntax.proofs.ListPlaces.{item_at, mapped_from, tails_same}
pub use Rattle.lb_syntax.{proofs.TruthValues.{and_first, and_second, implied}, specs.Lists.AreApart}
pub use Rattle.lb_syntax.specs.Lists.{Every, In, all_some, copies, either_or, holds, joined, listed}
pub use Rattle.lb_syntax.specs.Lists.{or_else, part, some_of, tail_of, where_true, zip2, ◌>>=◌}
pub use Rattle.lb_syntax.specs.{Operators.class_of, Refusals.{E4, E7, E8, unless}, Tree.Array}
pub use Rattle.lb_syntax.specs.Tree.{Arrow, Assertion, AtMostOne, Binary, Call, Cons, Current}
pub use Rattle.lb_syntax.specs.Tree.{Declaration, Equation, Expr, Exprs, Fby, Group, If, Index}
pub use Rattle.lb_syntax.specs.Tree.{Iterate, Join, Literal, Name, Named, Nil, Node, Node_named}
pub use Rattle.lb_syntax.specs.Tree.{Nor, Pre, Replicate, Slice, Statement, Static, Symbol, Truth}
pub use Rattle.lb_syntax.specs.Tree.{Unary, Variable, When, Whole}
pub use Rattle.lb_syntax.specs.declared.tree.ArrayIterator.{ArrayIterator, TheVariants.{Fill, Map}}
pub use Rattle.lb_syntax.specs.declared.tree.ArrayIterator.TheVariants.{Red}
pub use Rattle.lb_syntax.specs.declared.tree.BinaryOperator.{BinaryOperator, TheVariants.{And, Or}}
pub use Rattle.lb_syntax.specs.declared.tree.Kind.{Kind, TheVariants.{Bool as Truth_kind, Int}}
pub use Rattle.lb_syntax.specs.declared.tree.OperatorClass.{OperatorClass, TheVariants.Logical}
pub use Rattle.lb_syntax.specs.declared.tree.UnaryOperator.{UnaryOperator, TheVariants.Negate}
pub use Rattle.{lb_syntax.specs.declared.tree.UnaryOperator.TheVariants.Not, std.proofs.Common.All}
pub use Rattle.std.proofs.Common.{Bool, Box, Err, Global, IfOk, IfSome, List, None, OnOk, Option}
pub use Rattle.std.proofs.Common.{Some, Vec, [], ap, ap₂, arith, cond, drop, false, flat_map, fold}
pub use Rattle.std.proofs.Common.{get_or, inl, inr, is_some, length, length-set, map, min, nat_eq}
pub use Rattle.std.proofs.Common.{not, option_map, pos, refl, replicate, rules, set, subst, subst₂}
pub use Rattle.std.proofs.Common.{suc, sym, take, true, zero, zip, ℕ, ℤ, ◌&&◌, ◌*◌, ◌++◌, ◌+◌, ◌-◌}
pub use Rattle.std.proofs.{Common.{◌/◌, ◌<◌, ◌^◌, ◌||◌, ◌∙◌, ◌∷◌, ◌≡◌, ◌≤◌, ◌⊎◌}, Math.Bool.or-true}
pub use Rattle.std.proofs.Math.{ListN.get_or-eq_default, Nat.{add-sub_cancel_left, min-le_left}}
pub use Rattle.std.proofs.Math.Nat.{min-le_right, mul-div_cancel_left, mul-le-mul_right}
pub use Rattle.std.proofs.{Math.Seq.{drop-append_seam, take-append_seam}, lemmas.Bool.and_from}
pub use Rattle.std.proofs.lemmas.Bool.{cases_lt, eqb-true, le-leb, leb-true, lt-ltb, ltb-false}
pub use Rattle.std.proofs.lemmas.Bool.{ltb-true, not-true, Decides.nat_tests}
pub use Rattle.std.proofs.lemmas.{Grind.flat_map-append, List.{append-nil, append_assoc}}
pub use Rattle.std.proofs.lemmas.List.{drop-append-le, drop-drop, drop-map, drop_all, drop_min}
pub use Rattle.std.proofs.lemmas.List.{drop_more, get_or-append-add, get_or-drop, get_or-map}
pub use Rattle.std.proofs.lemmas.List.{get_or-set_other, get_or-set_same, length-append}
pub use Rattle.std.proofs.lemmas.List.{length-drop, length-map, length-replicate, length-take-le}
pub use Rattle.std.proofs.lemmas.List.{map-append, take-append-drop, take-append-le, take-map}
pub use Rattle.std.proofs.lemmas.List.{take_all, take_min, take_more, Elements.All-append}
pub use Rattle.std.proofs.lemmas.List.Elements.{All-drop, All-push, All-take, All-weaker}
pub use Rattle.std.proofs.lemmas.List.FromFn.{get_or-map-range_with_len, get_or-range_with_len}
pub use Rattle.std.proofs.lemmas.List.FromFn.{length-map-range_with_len, length-range_with_len}
pub use Rattle.std.proofs.lemmas.List.Sums.{sum_by-append, sum_by-cons, sum_by_more}
pub use Rattle.std.proofs.lemmas.Option.{get_or_from_slice_get, same_Some, slice_get-map}
pub use Rattle.std.proofs.lemmas.Option.{slice_get_past, slice_get_read, slice_get_within}
pub use Rattle.std.proofs.lemmas.Result.{IfOk-weaker as then_ok, err_from_is_err_and}
pub use Rattle.std.{proofs.lemmas.Slice.Eq.bytes_eq-Decides, specs.List.{filter, list_all}}
pub use Rattle.std.specs.{List.{range_with_len, slice_range}, Option.ForSome, Prelude.Result}
pub use Rattle.std.specs.Prelude.{count_by, find, if◌then◌else◌, nat_le, nat_lt, slice_get, sum_by}
pub use Rattle.std.specs.{Prelude.◌==◌, Str.bytes_eq}
unfoldable pub use Rattle.lb_check.specs.{Elements.{element_kinds, program_elements}, Needs.needs}
unfoldable pub use Rattle.lb_expand.specs.Emit.{add, assert, chained, emit, emit_body}
unfoldable pub use Rattle.lb_expand.specs.Emit.{emit_instances, joins, keep, twice}
unfoldable pub use Rattle.lb_expand.specs.{EmitRows.bodies, EmitTerms.{emit_list, emit_rows}}
unfoldable pub use Rattle.lb_expand.specs.EmitTerms.{emit_statement, emit_statements, emit_term}
unfoldable pub use Rattle.lb_expand.specs.EmitWhole.{row_clocks, start_from}

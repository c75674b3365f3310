-- The words that the proof files of this crate share, each from where it is defined.
pub use mathlib.Core.{Bool.beq, Former.Count}
pub use Rattle.std.specs.{List.{Contains, list_all, list_any, range_with_len, zip}, Prelude.IfSome}
pub use Rattle.std.specs.Prelude.{Result, filter, find, if◌then◌else◌, is_some, nat_eq, nat_le}
pub use Rattle.std.specs.Prelude.{nat_lt, not, option_map, pos, reverse, slice_get, slice_index_or}
pub use Rattle.std.{specs.{Prelude.{sum_by, ℤ, ◌&&◌, ◌==◌, ◌||◌}, Str.bytes_eq}, proofs.Common.Bool}
pub use Rattle.std.proofs.Common.{Box, Global, IfOk, List, None, OnOk, Option, Some, Vec, [], ap}
pub use Rattle.std.proofs.Common.{ap₂, arith, cond, drop, false, flat_map, get_or, inl, inr, length}
pub use Rattle.std.proofs.Common.{map, min, refl, replicate, rules, slice_index, subst, suc, sym}
pub use Rattle.std.proofs.Common.{take, true, zero, ℕ, ◌*◌, ◌++◌, ◌+◌, ◌-◌, ◌<◌, ◌∙◌, ◌∷◌, ◌≡◌, ◌≢◌}
pub use Rattle.std.proofs.{Common.{◌≤◌, ◌⊎◌}, Math.Bool.{and-false, and-true, and_assoc}}
pub use Rattle.std.proofs.Math.{ListN.set, Nat.add-sub_cancel_left, Seq.take-append_seam}
pub use Rattle.std.proofs.lemmas.Bool.{and_from, eq-eqb, eqb-true, false_from_ne_true, le-ltb}
pub use Rattle.std.proofs.lemmas.Bool.{lt-ltb, ltb-true, not-false, not-true, or_right}
pub use Rattle.std.proofs.lemmas.{Bool.Decides.nat_tests, Grind.flat_map-append, List.append-nil}
pub use Rattle.std.proofs.lemmas.List.{append_assoc, drop-map, drop_all, drop_more, length-append}
pub use Rattle.std.proofs.lemmas.List.{length-drop, length-map, length-replicate, length-take}
pub use Rattle.std.proofs.lemmas.List.{length-take-le, map-append, places, reverse-append}
pub use Rattle.std.proofs.lemmas.List.{reverse-reverse, with_items_is, Folds.list_all-append}
pub use Rattle.std.proofs.lemmas.List.Sums.{sum_by-cons, sum_by_more}
pub use Rattle.std.proofs.lemmas.Option.{get_or_from_slice_get, same_Some, slice_get-get_or}
pub use Rattle.std.proofs.lemmas.Option.{slice_get-map, slice_get_past, slice_get_read}
pub use Rattle.std.proofs.lemmas.{Option.slice_get_within, Slice.Eq.bytes_eq-Decides}
pub use Rattle.lb_syntax.specs.Lists.{Every, In, all_some, either_or, holds, listed, or_else}
pub use Rattle.lb_syntax.specs.{Lists.{some_of, tail_of, where_true, zip2, ◌>>=◌}, Refusals.E10}
pub use Rattle.lb_syntax.specs.{Refusals.{E12, E5, E6, E9, unless}, Tree.{Array, Arrow, Assertion}}
pub use Rattle.lb_syntax.specs.Tree.{AtMostOne, Binary, Call, Cons, Current, Declaration, Equation}
pub use Rattle.lb_syntax.specs.Tree.{Expr, Exprs, Fby, Group, If, Index, Iterate, Join, Name, Nil}
pub use Rattle.lb_syntax.specs.Tree.{Node, Node_named, Nor, Pre, Replicate, Slice, Statement}
pub use Rattle.lb_syntax.specs.Tree.{Static, Symbol, Unary, When, Whole}
pub use Rattle.lb_syntax.specs.declared.tree.ArrayIterator.{ArrayIterator, TheVariants.{Fill, Map}}
pub use Rattle.lb_syntax.specs.declared.tree.ArrayIterator.TheVariants.{Red}
pub use Rattle.lb_syntax.specs.declared.tree.{BinaryOperator.BinaryOperator, Kind.Kind}
pub use Rattle.lb_syntax.specs.declared.tree.Kind.TheVariants.{Bool as Bool_kind, Int as Int_kind}
pub use Rattle.lb_syntax.{specs.declared.tree.UnaryOperator.UnaryOperator, proofs.ListPlaces.all_at}
pub use Rattle.lb_syntax.proofs.ListPlaces.{all_from, all_in, get_first, get_later, item_at}
pub use Rattle.lb_syntax.proofs.{ListPlaces.mapped_from, Readers.bind_some, SameNames.same_number}
pub use Rattle.lb_syntax.proofs.TruthValues.{and_first, and_second, both_ways, implied, or_first}
pub use Rattle.{lb_syntax.proofs.TruthValues.or_second, lb_static.specs.Arithmetic.is_int}
pub use Rattle.lb_static.specs.{CalledSpecializations.called_by, DataTypes.{DataType, are_types}}
pub use Rattle.lb_static.specs.DataTypes.{element_count, input_types, int, is_type, output_types}
pub use Rattle.lb_static.specs.DataTypes.{product, total, truth, variable_type, variables, width}
pub use Rattle.lb_static.specs.{Elaborated.{IsLawful, elaborated_program}, InstanceTable.IsTable}
pub use Rattle.lb_static.specs.{InstanceTable.{instance_of, specialized_at}, Instances.Child}
pub use Rattle.lb_static.specs.Instances.{Instance, Observer, Path, Program, Root, Site, call_site}
pub use Rattle.lb_static.specs.Instances.{callee_of, children, instance_at, instance_count}
pub use Rattle.lb_static.specs.Instances.{instances, instances_from, is_path, name_value}
pub use Rattle.lb_static.specs.Instances.{node_named, node_sites, numbered_sites, site_instances}
pub use Rattle.lb_static.specs.Instances.{sites, sites_in, start_at, statement_sites, static_count}
pub use Rattle.lb_static.specs.{Instances.static_value, Instantiation.{are_same, has_values}}
pub use Rattle.lb_static.specs.Instantiation.{instance_refusal, instantiation_refusal, is_between}
pub use Rattle.lb_static.specs.Instantiation.{is_in_range, may_enter, static_refusal}
pub use Rattle.lb_static.specs.Names.{are_distinct, declares_once, is_named, keeps_names}
pub use Rattle.lb_static.specs.{Names.reached_nodes, Parts.{among, clock_names, left_names}}
pub use Rattle.lb_static.specs.Parts.{node_parts, node_sizes, parts, parts_in, right_side}
pub use Rattle.lb_static.specs.{Parts.variable_names, ReachedNodes.{IsReached, callee_in, id_at}}
pub use Rattle.lb_static.specs.ReachedNodes.{source_names, tree_at, trees}
pub use Rattle.lb_static.specs.ResolvedNodes.{IsResolved, counts_of, node_of, statics_of, texts_of}
pub use Rattle.lb_static.specs.ResolvedTerms.{Counts, Texts, are_statics, are_unhidden, are_within}
pub use Rattle.lb_static.specs.ResolvedTerms.{declaration_of, expr_of, exprs_of, is_call}
pub use Rattle.lb_static.specs.ResolvedTerms.{is_declared_within, is_no_variable}
pub use Rattle.lb_static.specs.ResolvedTerms.{is_sampling_within, is_statement_unhidden}
pub use Rattle.lb_static.specs.ResolvedTerms.{is_statement_within, is_static, is_unhidden}
pub use Rattle.lb_static.specs.ResolvedTerms.{is_variable, is_within, name_at, named_value, no_site}
pub use Rattle.lb_static.specs.ResolvedTerms.{row_of, sampling_of, site_at, site_of, statement_of}
pub use Rattle.lb_static.specs.{ResolvedTerms.static_at, StaticValues.{named, natural}}
pub use Rattle.lb_static.specs.StoredTypes.{declared_type, declared_types, naturals, view_type}
pub use Rattle.lb_static.specs.TermForms.{IsPair, IsRow, IsSingle}
pub use Rattle.lb_static.specs.declared.{elab.Elaboration.Elaboration, reachable.NodeId.NodeId}
pub use Rattle.lb_static.specs.declared.{reachable.Reached.Reached, resolved.CallId.CallId}
pub use Rattle.lb_static.specs.declared.resolved.{CallSite.CallSite, ResolvedNode.ResolvedNode}
pub use Rattle.lb_static.specs.declared.resolved.ResolvedStatement.{ResolvedStatement}
pub use Rattle.lb_static.specs.declared.resolved.{Sampling.Sampling, StaticId.StaticId, Term.Array'}
pub use Rattle.lb_static.specs.declared.resolved.Term.{Arrow', AtMostOne', Binary', Call', Current'}
pub use Rattle.lb_static.specs.declared.resolved.Term.{Fby', Group', If', Index', IterateNode}
pub use Rattle.lb_static.specs.declared.resolved.Term.{IterateNode', IterateSymbol, IterateSymbol'}
pub use Rattle.lb_static.specs.declared.resolved.Term.{Join', Literal, Nor', Pre', Replicate'}
pub use Rattle.lb_static.specs.declared.resolved.Term.{Row_of-Term, Slice', Term, Truth, Unary'}
pub use Rattle.lb_static.specs.declared.resolved.Term.{Value, When', end_of-Term}
pub use Rattle.lb_static.specs.declared.resolved.Term.{items-the_row-Term}
pub use Rattle.lb_static.specs.declared.resolved.Term.{items_hidden-the_row-Term-0, more_of-Term}
pub use Rattle.lb_static.specs.declared.resolved.{Term.size-Term, Variable.Variable as Declared}
pub use Rattle.lb_static.specs.declared.resolved.{Variable.Variable, VariableId.VariableId}
pub use Rattle.lb_static.specs.declared.table.{Specialization.Specialization, Table.Table}
pub use Rattle.lb_static.proofs.Members.{any_in, in_any, in_at, in_filter, in_map, map_in, place_in}
pub use Rattle.lb_static.proofs.{Options.length-all_some, ReachedPlaces.distinct_last}
pub use Rattle.{lb_static.proofs.TestedItems.found_passes, lb_check.specs.Acceptance.check_refusal}
pub use Rattle.lb_check.specs.BrokenParts.{at_place, first_broken, is_part_clocked, is_part_defined}
pub use Rattle.lb_check.specs.{BrokenParts.is_part_typed, CallClocks.is_variable_at}
pub use Rattle.lb_check.specs.ClockDepths.{AreDepths, IsCircle, IsKnown, awaited, waits_below}
pub use Rattle.lb_check.specs.ClockRules.{are_clocks, are_declared_clocks, are_given_variables}
pub use Rattle.lb_check.specs.ClockRules.{are_on_results, if_node, is_base_clocked_node}
pub use Rattle.lb_check.specs.ClockRules.{is_call_clocked, is_clock, is_clocked, is_clocked_by}
pub use Rattle.lb_check.specs.ClockRules.{is_given_variable, is_occurrence_clocked, is_on_clock}
pub use Rattle.lb_check.specs.ClockRules.{is_statement_clocked, left_clocks}
pub use Rattle.lb_check.specs.ClockSets.{AreClockSets, IsClockSet, SeesClocks, are_single}
pub use Rattle.lb_check.specs.ClockSets.{calls_single, is_clocked_on, is_statement_single}
pub use Rattle.lb_check.specs.Clocks.{Clock, Given, On, above, argument_clocks, as_variable}
pub use Rattle.lb_check.specs.Clocks.{base_clock, base_from, base_from_arguments, called_clock}
pub use Rattle.lb_check.specs.Clocks.{clock_of, clock_or, clock_within, declared_clock, depth}
pub use Rattle.lb_check.specs.Clocks.{each_clock, first_result_clock, given_inputs, given_name}
pub use Rattle.lb_check.specs.Clocks.{given_outputs, outer, own_depth, parent, result_clocks}
pub use Rattle.lb_check.specs.Clocks.{sampled, ungrouped, variable_clock}
pub use Rattle.lb_check.specs.{DefinitionRules.is_defined, Elements.{instance_elements, numbers_of}}
pub use Rattle.lb_check.specs.FoundParts.{IsDeclaredClock, IsIllClocked, IsIllDefined}
pub use Rattle.lb_check.specs.FoundTerms.{HasTermClocks, HasTypes, is_call_within, pair_names}
pub use Rattle.lb_check.specs.{JudgedPrograms.IsJudged, Needs.{Always, Element, Where, WholeClock}}
pub use Rattle.lb_check.specs.Needs.{call_at, elements, given_parameters, given_to}
pub use Rattle.lb_check.specs.Needs.{is_clock_parameter, is_site, lefts_at, runs_on, serves}
pub use Rattle.lb_check.specs.{Needs.{serving, site_clock, whole_clock}, NodeClocks.is_clocked_at}
pub use Rattle.lb_check.specs.NodeDefinitions.{calls_function, count_left, count_statement}
pub use Rattle.lb_check.specs.NodeDefinitions.{count_statements, is_defined_at}
pub use Rattle.lb_check.specs.{NodeDefinitions.is_statement_memoryless, Occurrences.Occurrence}
pub use Rattle.lb_check.specs.Occurrences.{at, call_clocks, call_count, node_occurrences}
pub use Rattle.lb_check.specs.Occurrences.{occurrences, occurrences_each, occurrences_in}
pub use Rattle.lb_check.specs.Occurrences.{right_sides, statement_clock, statements}
pub use Rattle.lb_check.specs.OwnClocks.{HasClocks, clock_in, is_clock_within, name_in}
pub use Rattle.lb_check.specs.PlacedClocks.{FoundCall, FoundTerm, IsPlaced, called}
pub use Rattle.lb_check.specs.PlacedClocks.{determined_clock, given_from, given_variable}
pub use Rattle.lb_check.specs.PlacedClocks.{given_variables, is_awaited, nested_call, node_terms}
pub use Rattle.lb_check.specs.PlacedClocks.{nothing_found, pair_at, part, placed_all}
pub use Rattle.lb_check.specs.PlacedClocks.{placed_arguments, placed_call, placed_each, placed_row}
pub use Rattle.lb_check.specs.PlacedClocks.{placed_statement, row_term, side_call, side_clocks}
pub use Rattle.lb_check.specs.{PlacedClocks.with_terms, PlacedTypes.{FoundNode, FoundTypes}}
pub use Rattle.lb_check.specs.PlacedTypes.{IsWalked, Kept, found_in, found_of, kept, kept_in}
pub use Rattle.lb_check.specs.PlacedTypes.{node_types, noted, part_in, part_size, parts_of}
pub use Rattle.lb_check.specs.PlacedTypes.{placed_all_types, placed_row_types, size_of}
pub use Rattle.lb_check.specs.PlacedTypes.{specialization_types, statement_types, with_parts}
pub use Rattle.lb_check.specs.{PlacedTypes.{with_row, with_term}, Scalars.same}
pub use Rattle.lb_check.specs.SharedTypes.{AreSettled, IsJudgedPart, is_part_shared}
pub use Rattle.lb_check.specs.Solutions.{AgreeAt, AreSame, Inputs, Solves, streams_at}
pub use Rattle.lb_check.specs.{StoredClocks.{clocks_of, given_in}, StoredTypes.context_in}
pub use Rattle.lb_check.specs.Streams.{History, all_streams, number, part_count, presence, signed}
pub use Rattle.lb_check.specs.TermClocks.{Context, accepts_clock, all_fit, are_given, base_of, both}
pub use Rattle.lb_check.specs.TermClocks.{call_clock_set, clock_set_on, clock_sets, clock_with}
pub use Rattle.lb_check.specs.TermClocks.{declared_in, expected, first_result, given_at}
pub use Rattle.lb_check.specs.TermClocks.{input_clocks, is_base_clocked, is_body_clocked, is_given}
pub use Rattle.lb_check.specs.TermClocks.{is_resolved_statement_clocked, is_same, left_clock}
pub use Rattle.lb_check.specs.TermClocks.{left_clock_sets, operand_of, operands_in, operands_of}
pub use Rattle.lb_check.specs.TermClocks.{output_clocks, raised, result_base, row_clock_set}
pub use Rattle.lb_check.specs.{TermClocks.{stands_for, together}, TermOperands.{IsGiven, IsLeaf}}
pub use Rattle.lb_check.specs.TermSignatures.{Signature, are_met, are_one, arrays, calls_in, common}
pub use Rattle.lb_check.specs.TermSignatures.{evaluated, given_of, has_arity, like_later, list_of}
pub use Rattle.lb_check.specs.TermSignatures.{outcome, row_in, signature_in, type_at}
pub use Rattle.lb_check.specs.TermTypes.{CallTypes, are_equal, are_typed, call_types_at}
pub use Rattle.lb_check.specs.TermTypes.{call_types_of, callee_types, constant_at, count_at}
pub use Rattle.lb_check.specs.TermTypes.{is_node_typed, is_resolved_statement_typed}
pub use Rattle.lb_check.specs.TermTypes.{is_specialization_typed, is_variable_typed, left_types}
pub use Rattle.lb_check.specs.TermTypes.{one_type, repeats_of, row_results, types_in, when_both}
pub use Rattle.lb_check.specs.{TermTypes.when_truth, TypeRules.{expression_size, is_clock_typed}}
pub use Rattle.lb_check.specs.TypeRules.{is_small, is_statement_typed, is_typed, size, type_of_name}
pub use Rattle.lb_check.specs.Types.{all_types, array_of, binary_type, common_type, constant_type}
pub use Rattle.lb_check.specs.Types.{data_types, from_one, from_truths, from_two, index_type}
pub use Rattle.lb_check.specs.Types.{is_arithmetic, is_logical, iterator_types, join_type}
pub use Rattle.lb_check.specs.Types.{list_type, name_data_type, only, operator_types, singly}
pub use Rattle.lb_check.specs.Types.{slice_type, symbol_types, unary_type}
pub use Rattle.lb_check.specs.{Verdicts.memory_operand, WalkedClocks.{IsRowWalked, known_among}}
pub use Rattle.lb_check.specs.declared.clock_set.ClockSet.{ClockSet, TheVariants.AnyClock}
pub use Rattle.lb_check.specs.declared.clock_set.ClockSet.TheVariants.{NoClock, OneClock}
pub use Rattle.lb_check.specs.declared.clock_set.Operand.{Operand}
pub use Rattle.lb_check.specs.declared.found_clocks.GivenVariable.{GivenVariable}
pub use Rattle.lb_check.specs.declared.found_types.{NodeTypes.NodeTypes, TermType.TermType}
pub use Rattle.lb_check.specs.declared.own_clock.Clock.{Clock as Compared, TheVariants.Base}
pub use Rattle.lb_check.specs.declared.part.Part.{Part}
unfoldable pub use Rattle.lb_check.specs.{CallClocks.variable_of, ClockDepths.{HasDepth, LeadsTo}}
unfoldable pub use Rattle.lb_check.specs.ClockSets.{is_single, is_single_within}
unfoldable pub use Rattle.lb_check.specs.{Elements.program_elements, PlacedClocks.placed_side}
unfoldable pub use Rattle.lb_check.specs.{PlacedClocks.placed_terms, PlacedTypes.placed_types}
unfoldable pub use Rattle.lb_check.specs.TermClocks.{context_of, infer_clock, is_equation_clocked}
unfoldable pub use Rattle.lb_check.specs.{TermTypes.{results, type_of}, WalkedClocks.known_operands}

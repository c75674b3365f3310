use Rattle.std.proofs.Common.{List, [], Some, None, refl, arith}
use Rattle.lb_syntax.specs.declared.token.Token.{Token}
use Rattle.lb_syntax.specs.Limits.{runs}
use Rattle.lb_syntax.specs.ListReading.{at_next_group, at_next_local, at_next_statement, any_at}
use Rattle.lb_syntax.specs.Programs.{left_at, kind_at, when_at, group_at, groups_at, inputs_at}
use Rattle.lb_syntax.specs.Programs.{closed_group_at, locals_at, parameter_at, parameters_at}
use Rattle.lb_syntax.specs.Programs.{statement_at, heading_at, body_at, node_at, constant_at}
use Rattle.lb_syntax.specs.Programs.{part_at, parts_at, source_at}
use Rattle.lb_syntax.specs.Readers.{expect, name_at}
use Rattle.lb_syntax.specs.Reading.{expression_at, static_at, tree_at, level_at, first, named}
use Rattle.lb_syntax.specs.Reading.{marked, climb, takes, choice, until, infix_at, list_until}
use Rattle.lb_syntax.specs.Reading.{list_at, tail_at, clock_at, clock_name_at, operands, items}
use Rattle.lb_syntax.specs.Reading.{iterate, iterator_of, applied_at, operator_at, separator}
use Rattle.lb_syntax.specs.Reading.{static_tree, static_level_at, static_first, static_takes}
use Rattle.lb_syntax.specs.Reading.{arguments_at}
use Rattle.lb_syntax.specs.Tokens.{tokens, word, value_of, piece, pieces_after}
use Rattle.lb_syntax.proofs.Parses.{only_program}
use Rattle.lb_worked.specs.WorkedPrograms.{whole_text, whole_tree}
use Rattle.lb_worked.proofs.programs.whole_program.Goals as goal

-- the tokens of `whole_text`
whole_tokens : List Token
unfolding word value_of piece pieces_after
whole_tokens = elim (tokens whole_text) as (λ o. List Token) [ None ↦ [] | Some ts ↦ ts ]

pub returns : goal.returns
unfolding whole_tokens word value_of piece pieces_after runs expression_at static_at tree_at
    level_at first named marked climb takes choice until infix_at list_until list_at tail_at
    clock_at clock_name_at operands items iterate iterator_of applied_at operator_at separator
    static_tree static_level_at static_first static_takes arguments_at expect name_at at_next_group
    at_next_local at_next_statement any_at left_at kind_at when_at group_at groups_at inputs_at
    closed_group_at locals_at parameter_at parameters_at statement_at heading_at body_at node_at
    constant_at part_at parts_at source_at
returns c = only_program whole_text whole_tokens whole_tree
    (record { short = omega arith; tokens_are = refl; limits_kept = refl })
    refl

use Rattle.lb_check.proofs.Words.{ap, ◌∙◌, find, not, NodeId, Specialization, is_part_defined}
use Rattle.lb_check.proofs.Words.{is_defined, IsIllDefined, is_defined_at, List, map}
use Rattle.lb_check.proofs.definitions.BrokenRules.{both_found, find_mapped, if_found, not_all}
use Rattle.lb_check.proofs.definitions.BrokenRules.{part_named}
use Rattle.lb_check.proofs.typing.Specializations.{all_specializations}
use Rattle.lb_check.proofs.definition_rules.ill_defined.Goals as goal

pub returns-clause-judged : goal.returns-clause-judged
returns-clause-judged c P j =
    let r = c.args.reached.now in
    let ss = c.args.table.now.specializations.items in
    let node = λ (s : Specialization). s.node in
    let broken = λ (id : NodeId). not (is_defined_at P r id) in
    let same =
    ap (find broken) c.deref-2.ensures.value ∙ c.in_ok-ids.ensures broken
    ∙ ap (λ (ss : List Specialization). find broken (map node ss)) c.deref.ensures.value
    ∙ find_mapped node broken ss in
    if_found c.first_ill_defined.result _ _ (c.first_ill_defined.ensures.first P j.names j.reached)
    (λ found e. not_all node (λ s. is_defined_at P r s.node) ss (λ f. f.node) found (e ∙ same)
    ∙ ap not (all_specializations P r c.args.table.now j.table (is_defined P)))

pub returns-clause-named : goal.returns-clause-named
returns-clause-named c P j =
    let r = c.args.reached.now in
    let broken = λ (id : NodeId). not (is_defined_at P r id) in
    let same =
    ap (find broken) c.deref-2.ensures.value ∙ c.in_ok-ids.ensures broken
    ∙ ap (λ (ss : List Specialization). find broken (map (λ s. s.node) ss)) c.deref.ensures.value in
    both_found c.first_ill_defined.result _ _ _
    (c.first_ill_defined.ensures.first P j.names j.reached)
    (c.first_ill_defined.ensures.part P j.names j.reached)
    (λ found e told. part_named P r c.args.table.now j (is_defined P) (is_part_defined P)
    (is_defined_at P r) (IsIllDefined P r) (λ i s at fails earlier. fails)
    (λ i s at fails earlier p fact. fact.1) found (e ∙ same) told)

use Rattle.std.proofs.Common.{ap, sym, ◌∙◌, map, drop}
use Rattle.std.proofs.lemmas.List.{take_rest, drop-map}
use Rattle.lb_static.specs.StoredTypes.{view_type}
use Rattle.lb_static.proofs.interface.Interface.outputs.Goals as goal

pub returns : goal.returns
returns c =
    let n = c.args.self.now.inputs in
    ap (map view_type) (take_rest c.deref.result.now n)
    ∙ ap (λ l. map view_type (drop n l)) c.deref.ensures.value
    ∙ sym (drop-map view_type n c.args.self.now.data_types.items)

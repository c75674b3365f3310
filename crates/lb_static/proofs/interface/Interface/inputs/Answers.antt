use Rattle.std.proofs.Common.{ap, sym, ◌∙◌, map, take}
use Rattle.std.proofs.lemmas.List.{take-map}
use Rattle.lb_static.specs.StoredTypes.{view_type}
use Rattle.lb_static.proofs.interface.Interface.inputs.Goals as goal

pub returns : goal.returns
returns c =
    ap (λ l. map view_type (take c.args.self.now.inputs l)) c.deref.ensures.value
    ∙ sym (take-map view_type c.args.self.now.inputs c.args.self.now.data_types.items)

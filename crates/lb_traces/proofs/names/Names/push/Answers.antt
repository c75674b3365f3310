-- The text has grown by the name, and the places by its end.
use Rattle.std.proofs.Common.{rules, arith, ◌≡◌, ◌<◌, ◌≤◌, ◌++◌, ◌∷◌, [], length, is_ok, true}
use Rattle.std.proofs.Common.{length-append, ◌+◌, ap, ◌∙◌}
use Rattle.std.specs.Prelude.{string_bytes}
use Rattle.std.specs.List.{slice_range}
use Rattle.lb_traces.specs.Ledger.{cut}
use Rattle.lb_traces.proofs.Ledgers.{cut-push, length-pieces}
use Rattle.lb_traces.proofs.NameTexts.{AreNames-push}
use Rattle.lb_traces.proofs.names.Names.push.Goals as goal

text_is : (c : goal.After-push) → string_bytes c.push_str.new.self ≡ string_bytes c.self.inside.text
    ++ c.args.name.now
text_is c = c.in_ok-push_str.ensures.bytes

end_is : (c : goal.After-push) → c.len.result ≡ length (string_bytes c.self.inside.text) + length
    c.args.name.now
end_is c = let long : length (string_bytes c.self.inside.text ++ c.args.name.now)
    ≡ length (string_bytes c.self.inside.text) + length c.args.name.now =
    length-append (string_bytes c.self.inside.text) c.args.name.now in
    let is : c.len.result ≡ length (string_bytes c.push_str.new.self) = search rules in
    is ∙ ap length (text_is c) ∙ long

ends_are : (c : goal.After-push) → c.push.new.self.items ≡ c.self.inside.ends.items ++ c.len.result
    ∷ []
ends_are c =
    let room : is_ok c.push.result ≡ true = c.push.ensures.succeeds
    (omega (arith, c.in_ok-reserve.ensures.ok)) in
    rw (← c.in_ok-reserve.ensures.items) (rw room at c.push.ensures.items)

few : (c : goal.After-push) → length c.self.inside.ends.items ≤ 1000000
few c = let pieces : _ = length-pieces (slice_range (string_bytes c.self.inside.text))
    c.self.inside.ends.items in
    let n : length (cut c.self.inside.ends.items (string_bytes c.self.inside.text)) < 1000000 =
    rw c.self.view_is c.requires.room in omega (arith, pieces)

pub invariant_of-self-2 : goal.invariant_of-self-2
invariant_of-self-2 c = rw (text_is c, ends_are c)
    (AreNames-push _ _ _ _ c.self.invariant c.requires.name (few c) (end_is c))

pub returns-clause-ok : goal.returns-clause-ok
returns-clause-ok c = rw (text_is c, ends_are c, ← c.self.view_is)
    (cut-push c.self.inside.ends.items (string_bytes c.self.inside.text) c.args.name.now
    c.len.result c.self.invariant.ledger c.self.invariant.all (end_is c))

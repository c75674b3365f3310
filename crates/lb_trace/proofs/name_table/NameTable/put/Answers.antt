-- The name gets a place, or is put among the others.
use Rattle.std.proofs.Common.{◌≡◌, ℕ, ◌<◌, List, [], length, get_or, true, string_bytes, cond}
use Rattle.std.proofs.Common.{sym, ap, ◌∙◌, rules}
use Rattle.std.proofs.lemmas.List.{get_or_default}
use Rattle.std.specs.BTreeSet.{contains_text}
use Rattle.std.specs.Str.{bytes_eq}
use Rattle.std.proofs.lemmas.Map.Text.{btree_set_updates_text}
use Rattle.lb_trace.specs.NamePlaces.{first_among, second_among}
use Rattle.lb_trace.proofs.NamePlacing.{put_first, put_second, put_other}
use Rattle.lb_trace.proofs.name_table.NameTable.put.Goals as goal

pub returns-then-index-eq0-clause-put : goal.returns-then-index-eq0-clause-put
returns-then-index-eq0-clause-put c names is inside h =
    let places = c.args.self.now.places.items in
    let p = c.place_among-first.result in
    let within : p < length places = search rules in
    put_first places (contains_text c.args.self.now.others) names c.args.before h p within
    (get_or_default places p 0 c.index.result.now within ∙ sym c.index.ensures
    ∙ c.if-index-eq0.true)
    (search rules)

-- a place is taken where the number that was read there is not 0
taken_at :
    (places : List ℕ) (p q v : ℕ) → p < length places → p ≡ q → v ≡ get_or places p v →
    (v ≡ 0 → ⊥) → get_or places q 0 ≡ 0 → ⊥
taken_at places p q v within is read some none =
    some
    (read ∙ get_or_default places p v 0 within ∙ ap (λ i. get_or places i 0) is ∙ none)

pub returns-then-index-eq0-2-clause-put : goal.returns-then-index-eq0-2-clause-put
returns-then-index-eq0-2-clause-put c names is inside h =
    let places = c.args.self.now.places.items in
    let nm = get_or names c.args.before [] in
    let p = c.place_among-first.result in
    let p' = c.place_among-second.result in
    let within : p < length places = search rules in
    let within' : p' < length places = search rules in
    let place_is : p ≡ first_among (length places) nm = search rules in
    put_second places (contains_text c.args.self.now.others) names c.args.before h p' within'
    (get_or_default places p' 0 c.index-2.result.now within' ∙ sym c.index-2.ensures
    ∙ c.if-index-eq0-2.true)
    (search rules)
    (taken_at places p (first_among (length places) nm) c.index.result.now within place_is
    c.index.ensures c.if-index-eq0.false)

pub returns-clause-put : goal.returns-clause-put
returns-clause-put c names is inside h =
    let places = c.args.self.now.places.items in
    let nm = get_or names c.args.before [] in
    let p = c.place_among-first.result in
    let p' = c.place_among-second.result in
    let within : p < length places = search rules in
    let within' : p' < length places = search rules in
    let place_is : p ≡ first_among (length places) nm = search rules in
    let place_is' : p' ≡ second_among (length places) nm = search rules in
    let key : string_bytes c.in-Ok.key ≡ nm = c.in-Ok.ensures.ok ∙ sym is in
    put_other places (contains_text c.args.self.now.others) names c.args.before h
    (contains_text c.insert.new.self) inside
    (taken_at places p (first_among (length places) nm) c.index.result.now within place_is
    c.index.ensures c.if-index-eq0.false)
    (taken_at places p' (second_among (length places) nm) c.index-2.result.now within' place_is'
    c.index-2.ensures c.if-index-eq0-2.false)
    (λ q.
    btree_set_updates_text (string_bytes c.in-Ok.key) c.args.self.now.others
    c.insert.new.self true c.in-Ok-insert.ensures.updates q
    ∙ ap (λ bs. cond (bytes_eq bs q) true (contains_text c.args.self.now.others q)) key)

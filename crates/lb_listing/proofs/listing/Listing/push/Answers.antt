use Rattle.std.proofs.Common.{◌≡◌, [], ◌∷◌, Some, None, Option, ap, sym, ◌∙◌, cond}
use Rattle.std.proofs.Common.{List, map}
use Rattle.std.specs.Str.{bytes_eq}
use Rattle.std.proofs.lemmas.List.{map-append}
use Rattle.std.proofs.lemmas.Map.Text.{btree_map_updates_str}
use Rattle.lb_check.specs.declared.verdict.Verdict.{Verdict}
use Rattle.lb_listing.specs.Indexed.{listed}
use Rattle.lb_listing.specs.Listings.{Line, line_of, verdict_in}
use Rattle.lb_listing.proofs.Cuts.{none_of}
use Rattle.lb_listing.proofs.Listed.{verdict-push}
use Rattle.lb_listing.proofs.listing.Listing.push.Goals as goal

pub returns-clause-indexed : goal.returns-clause-indexed
returns-clause-indexed c = λ fresh name.
    let old = c.args.self.now in
    let entry = c.args.entry in
    let none : verdict_in entry.name.now (listed old) ≡ None =
    sym c.verdict_of.ensures ∙ none_of c.verdict_of.result (cc) in
    btree_map_updates_str entry.name.now old.by_name c.insert.new.self (Some entry.verdict)
    c.in_ok-insert.ensures.updates name
    ∙ ap (λ (o : Option Verdict). cond (bytes_eq entry.name.now name) (Some entry.verdict) o)
    (c.requires name)
    ∙ sym (verdict-push name (listed old) (line_of entry) none)
    ∙ ap (λ (ls : List Line). verdict_in name ls)
    (sym (ap (λ es. map line_of es) c.in_ok-push.ensures.items
    ∙ map-append line_of old.entries.items (entry ∷ [])))

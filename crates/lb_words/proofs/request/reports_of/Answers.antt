use Rattle.std.proofs.Common.{◌∙◌, ap, codes, List, map, Option, [], ℕ}
use Rattle.std.specs.Prelude.{unwrap_or}
use Rattle.std.specs.Borrow.{Bor}
use Rattle.std.proofs.lemmas.Result.{IfOk-weaker}
use Rattle.clap.specs.Words.{Text, found_of}
use Rattle.clap.proofs.WalkLemmas.{raw_values-rows}
use Rattle.lb_words.proofs.request.reports_of.Goals as goal

pub returns-in-Some : goal.returns-in-Some
returns-in-Some c =
    let rows = c.in-Some.ensures ∙ raw_values-rows (found_of c.args.matches.now) (codes "merge") in
    IfOk-weaker c.copied.result _ _
    (λ copy is. ap (λ (paths : List (Bor (List ℕ))). map (λ (s : Bor (List ℕ)). s.now) paths) is
    ∙ ap (λ (o : Option (List Text)). unwrap_or o []) rows)
    c.copied.ensures

pub returns-in-None : goal.returns-in-None
returns-in-None c =
    let rows = c.in-None.ensures ∙ raw_values-rows (found_of c.args.matches.now) (codes "merge") in
    ap (λ (paths : List (Bor (List ℕ))). map (λ (s : Bor (List ℕ)). s.now) paths)
    c.new.ensures.items
    ∙ ap (λ (o : Option (List Text)). unwrap_or o []) rows

-- The names that are done stand before those that are left.
use Rattle.std.proofs.Common.{◌≡◌, ◌∷◌, [], ◌++◌, ◌+◌, ◌<◌, ℕ, List, Bor, ap, sym, ◌∙◌, drop}
use Rattle.std.proofs.Common.{get_or, length, map}
use Rattle.std.proofs.Math.ListN.{drop_of_length-le}
use Rattle.std.proofs.lemmas.List.{append-nil, append_assoc, drop_more, map-append}
use Rattle.lb_syntax.specs.Grammar.{declared}
use Rattle.lb_syntax.specs.SourceView.{view_groups}
use Rattle.lb_static.proofs.ElementNames.{group_names}
use Rattle.lb_static.proofs.interface.input_names.Goals as goal

pub loop-name-init : goal.loop-name-init
loop-name-init c =
    group_names (map (λ x. x.now) c.loop-group.names.items) c.deref-group-items.result.now
    c.loop-group.group-index c.group-item.result c.deref-name-items.result.now _
    c.loop-group-test.true c.group-item.is c.deref-name-items.ensures.value c.loop-group.invariant

-- one name more stands among those that are done
one_name : {A : Type 0} (done after : List (Bor A)) (x : Bor A) (xs : List A) (i : ℕ)
    (rest all : List A) → i < length xs → x.now ≡ get_or xs i x.now → after ≡ done ++ x ∷ []
    → map (λ y. y.now) done ++ (drop i xs ++ rest) ≡ all
    → map (λ y. y.now) after ++ (drop (i + 1) xs ++ rest) ≡ all
one_name done after x xs i rest all below is more h =
    let left = drop (i + 1) xs in
    ap (λ l. map (λ y. y.now) l ++ (left ++ rest)) more
    ∙ ap (λ l. l ++ (left ++ rest)) (map-append (λ y. y.now) done (x ∷ []))
    ∙ append_assoc (map (λ y. y.now) done) (x.now ∷ []) (left ++ rest)
    ∙ ap (λ l. map (λ y. y.now) done ++ (l ++ rest))
    (sym (drop_more xs i x.now below ∙ ap (λ y. y ∷ left) (sym is))) ∙ h

pub loop-name-preserved : goal.loop-name-preserved
loop-name-preserved c =
    one_name c.loop-name.names.items c.push.new.self.items _ c.deref-name-items.result.now
    c.loop-name.name-index _ _ c.loop-name-test.true c.name-item.is c.in_ok-push.ensures.items
    c.loop-name.invariant

pub loop-group-preserved : goal.loop-group-preserved
loop-group-preserved c =
    let rest = drop (c.loop-group.group-index + 1) c.deref-group-items.result.now in
    ap (λ l. map (λ x. x.now) c.loop-name.names.items
    ++ (l ++ map (λ d. d.name) (declared (view_groups rest))))
    (sym (drop_of_length-le c.deref-name-items.result.now c.loop-name-test.false))
    ∙ c.loop-name.invariant

pub returns : goal.returns
returns c =
    let names = map (λ x. x.now) c.loop-group.names.items in
    sym (append-nil names)
    ∙ ap (λ l. names ++ map (λ d. d.name) (declared (view_groups l)))
    (sym (drop_of_length-le c.deref-group-items.result.now c.loop-group-test.false))
    ∙ c.loop-group.invariant

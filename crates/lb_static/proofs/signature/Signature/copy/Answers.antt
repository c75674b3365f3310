-- One more element.
use Rattle.std.proofs.Common.{◌≡◌, ℕ, ◌+◌, ◌<◌, List, [], ◌∷◌, ◌++◌, length, map, take, get_or}
use Rattle.std.proofs.Common.{string_bytes, sym, ap, ap₂, ◌∙◌, rules}
use Rattle.std.proofs.lemmas.List.{map-append, take_more}
use Rattle.lb_static.specs.declared.signature.Element.{Element}
use Rattle.lb_static.proofs.signature.Signature.copy.Goals as goal

mapped_more :
    {A B : Type 0} (f : A → B) (xs : List A) (i : ℕ) (x : A) → i < length xs →
    x ≡ get_or xs i x → map f (take i xs) ++ f x ∷ [] ≡ map f (take (i + 1) xs)
mapped_more f xs i x lt is =
    ap (λ y. map f (take i xs) ++ f y ∷ []) is
    ∙ sym (ap (map f) (take_more xs i x lt) ∙ map-append f (take i xs) (get_or xs i x ∷ []))

pub loop-element-preserved : goal.loop-element-preserved
loop-element-preserved c =
    let x = c.element-item.result in
    let name : string_bytes c.in_ok-name.name ≡ string_bytes x.name = search rules in
    let within : c.loop-element.element-index < length c.deref-element-items.result.now =
    search rules in
    c.in_ok-push.ensures.ok
    ∙ (ap₂ (λ before e. before ++ e ∷ []) c.loop-element.invariant
    (ap (λ bytes. (bytes, x.kind)) name)
    ∙ mapped_more (λ (e : Element). (string_bytes e.name, e.kind))
    c.deref-element-items.result.now c.loop-element.element-index x within c.element-item.is)

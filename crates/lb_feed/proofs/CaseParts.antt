-- The parts of a case text, byte after byte.
use Rattle.std.proofs.Common.{ℕ, ◌≡◌, ◌∙◌, ◌+◌, ◌<◌, ◌==◌, Bool, if◌then◌else◌, List, [], ◌∷◌, ◌++◌}
use Rattle.std.proofs.Common.{None, Option, ap, append_assoc, drop, get_or, length, sym, take}
use Rattle.std.proofs.lemmas.List.{drop_more, take_more}
use Rattle.lb_feed.specs.Cases.{Parts, marker, parts_by, parts_from}

-- the marker line at a place of a text, if a line begins there
abbrev pub marker_at : (at_start : Bool) → List ℕ → Option ℕ
marker_at at_start text = if at_start then marker text else None

-- a byte at which no marker line begins is a byte of the source
one_byte : (at_start : Bool) (b : ℕ) (rest : List ℕ) → marker_at at_start (b ∷ rest) ≡ None
    → parts_from at_start (b ∷ rest) ≡ parts_by b rest None (parts_from (b == 10) rest)
one_byte at_start b rest none =
    ap (λ found. parts_by b rest found (parts_from (b == 10) rest)) none

module _ (text : List ℕ) (i : ℕ) (at_start : Bool) (below : i < length text)
    (none : marker_at at_start (drop i text) ≡ None) where
  abbrev later : Parts
  later = parts_from (get_or text i 0 == 10) (drop (i + 1) text)

  next : parts_from at_start (drop i text)
      ≡ parts_by (get_or text i 0) (drop (i + 1) text) None later
  next =
      let here : drop i text ≡ get_or text i 0 ∷ drop (i + 1) text = drop_more text i 0 below in
      ap (parts_from at_start) here
      ∙ one_byte at_start (get_or text i 0) (drop (i + 1) text)
      (ap (marker_at at_start) (sym here) ∙ none)

  pub next_source : (source : List ℕ)
      → take i text ++ (parts_from at_start (drop i text)).source ≡ source
      → take (i + 1) text ++ later.source ≡ source
  next_source source is =
      ap (λ front. front ++ later.source) (take_more text i 0 below)
      ∙ append_assoc (take i text) (get_or text i 0 ∷ []) later.source
      ∙ ap (λ parts. take i text ++ parts.source) (sym next)
      ∙ is

  pub next_traces : (traces : List ℕ) → (parts_from at_start (drop i text)).traces ≡ traces
      → later.traces ≡ traces
  next_traces traces is = ap (λ parts. parts.traces) (sym next) ∙ is

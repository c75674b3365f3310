-- A list of traces that can be looked up by their names.
-- This file says how the code keeps such a list; no definition of a report stands on it.
use Rattle.std.specs.Prelude.{◌≡◌, ℕ, List, map}
use Rattle.std.specs.BTreeMap.{get_by}
use Rattle.std.specs.Cmp.Lexicographic.{slice_cmp}
use Rattle.std.specs.Ordering.{nat_cmp}
use Rattle.lb_listing.specs.Listings.{Line, line_of, verdict_in}
use Rattle.lb_listing.specs.declared.listing.Listing.{Listing}

-- the traces of a list, in order
abbrev pub listed : Listing → List Line
listed l = map line_of l.entries.items

-- the map has for each name the verdict of its trace
abbrev pub IsIndexed : Listing → Type 0
IsIndexed l = (name : List ℕ)
    → get_by (λ k. slice_cmp nat_cmp name k.now) l.by_name ≡ verdict_in name (listed l)

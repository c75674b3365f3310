-- Several reports in one.
-- Source: this project's rule.
use Rattle.std.specs.Prelude.{◌≡◌, ◌≢◌, ℕ, ◌<◌, ◌^◌, ◌++◌, List, [], flat_map, get_or, length, map}
use Rattle.std.specs.Prelude.{Vec}
use Rattle.std.specs.Global.{Global}
use Rattle.std.specs.List.{All, AllPairs, AllZip}
use Rattle.lb_listing.specs.Listings.{IsFault, IsLine, Line, Lists, lines_of, names_of, total_of}
use Rattle.lb_listing.specs.declared.merge_text.MergeError.{MergeError}
use Rattle.lb_listing.specs.declared.merge_text.MergeError.TheVariants.{Memory, Fault, Twice}

abbrev pub texts_of : List (Vec ℕ Global) → List (List ℕ)
texts_of texts = map (λ text. text.items) texts

-- the traces of some reports, one report after the other
abbrev pub joined : List (List Line) → List Line
joined lists = flat_map (λ listed. listed) lists

-- a text is the report on all traces of these reports, in their order
pub record IsMerged (texts : List (List ℕ)) (text : List ℕ) : Type 0 where
  pub lists : List (List Line)
  pub each : AllZip Lists texts lists
  pub all : Lists text (joined lists)

-- the texts are reports, and two of their traces have one name
pub record HaveTwice (texts : List (List ℕ)) : Type 0 where
  pub lists : List (List Line)
  pub each : AllZip Lists texts lists
  pub twice : AllPairs (λ a b. a ≢ b) (names_of (joined lists)) → ⊥

-- the reason why some texts are not merged
abbrev pub IsUnmerged : (texts : List (List ℕ)) → MergeError → Type 0
IsUnmerged texts (Memory e) = Unit {0}
IsUnmerged texts (Fault file number) =
    (file < length texts) × IsFault (get_or texts file []) number
IsUnmerged texts (Twice file number) = HaveTwice texts

-- the texts are reports, `listed` has all their traces, and `text` is the text of their lines
pub record AreJoined (texts : List (List ℕ)) (listed : List Line) (text : List ℕ) : Type 0 where
  pub lists : List (List Line)
  pub each : AllZip Lists texts lists
  pub all : listed ≡ joined lists
  pub lawful : All IsLine listed
  pub lines : text ≡ lines_of listed

-- the text has the lines of all traces of these reports, and the last line behind them
pub record IsWhole (texts : List (List ℕ)) (text : List ℕ) : Type 0 where
  pub listed : List Line
  pub lines : List ℕ
  pub joined : AreJoined texts listed lines
  pub few : length listed < 2 ^ 64
  pub whole : text ≡ lines ++ total_of listed

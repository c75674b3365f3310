-- The view of a seat at first and after each step: the limit, its shares of 64, whether it was told
-- that no number is left, and the numbers that it has drawn.
-- Source: this project's rule.
use Rattle.std.specs.Prelude.{ℕ, ◌+◌, ◌-◌, ◌/◌, List, [], ◌++◌, Bool, false, ◌||◌, min}
use Rattle.lb_board.specs.declared.views.View.{View}

abbrev pub view : ℕ → ℕ → Bool → List ℕ → View
view limit shares told drawn = record {
  limit = limit;
  shares = shares;
  told = told;
  drawn = drawn;
}

-- the first seat has all shares
abbrev pub first_view : ℕ → View
first_view n = view n 64 false []

-- a split leaves all draws with the first seat
abbrev pub larger_half : View → View
larger_half v = view v.limit (v.shares - v.shares / 2) v.told v.drawn

abbrev pub smaller_half : View → View
smaller_half v = view v.limit (v.shares / 2) v.told []

-- a join puts shares and draws together
abbrev pub both : View → View → View
both v w = view v.limit (min 64 (v.shares + w.shares)) (v.told || w.told) (v.drawn ++ w.drawn)

-- the view of a seat that was joined away
abbrev pub spent : View
spent = view 0 0 false []

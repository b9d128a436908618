-- The lines of a script. Assumes nothing.
use Rattle.std.specs.Prelude.{ℕ, Bool, not, List, [], ◌∷◌, cond, ◌==◌}
use Rattle.std.specs.List.{prefix_len}

-- any byte but a newline, 10, is part of a line
abbrev pub in_line : ℕ → Bool
in_line b = not (b == 10)

-- how many bytes the first line has
abbrev pub line_length : List ℕ → ℕ
line_length bs = prefix_len in_line bs

-- the byte is the first of the first line
abbrev pub begun_with : ℕ → List (List ℕ) → List (List ℕ)
begun_with b [] = (b ∷ []) ∷ []
begun_with b (l ∷ ls) = (b ∷ l) ∷ ls

-- what stands between newlines, with nothing behind the last of them
unfoldable pub lines : List ℕ → List (List ℕ)
lines [] = []
lines (b ∷ bs) = cond (in_line b) (begun_with b (lines bs)) ([] ∷ lines bs)

-- The words of a line, and the number that a word writes. Assumes nothing.
use Rattle.std.specs.Prelude.{ℕ, ◌+◌, ◌-◌, ◌*◌, cond, ◌&&◌, List, [], ◌∷◌, ◌++◌, Some, None, fold, Option, ◌==◌, nat_le}
use Rattle.std.specs.Str.{all_ascii_digits}

-- a word comes to an end; no byte is no word
abbrev pub closed : List ℕ → List (List ℕ) → List (List ℕ)
closed [] ws = ws
closed (b ∷ bs) ws = (b ∷ bs) ∷ ws

-- the words of the bytes, where the word w has begun; a space, 32, ends it, and any other byte goes on with it
unfoldable pub words_from : List ℕ → List ℕ → List (List ℕ)
words_from w [] = closed w []
words_from w (b ∷ bs) = cond (b == 32) (closed w (words_from [] bs)) (words_from (w ++ b ∷ []) bs)

-- the words of a line: what stands between spaces
abbrev pub words : List ℕ → List (List ℕ)
words bs = words_from [] bs

-- the value of the digits behind a value so far
abbrev pub value_from : ℕ → List ℕ → ℕ
value_from v bs = fold (λ a b. a * 10 + (b - 48)) v bs

-- digits alone, and what they write fits 32 bits
unfoldable pub decimal_from : ℕ → List ℕ → Option ℕ
decimal_from v bs = cond (all_ascii_digits bs && nat_le (value_from v bs) 4294967295) (Some (value_from v bs)) None

-- the number that a word writes: at least one digit
abbrev pub decimal : List ℕ → Option ℕ
decimal [] = None
decimal (b ∷ bs) = decimal_from 0 (b ∷ bs)

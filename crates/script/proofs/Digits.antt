-- A word's digits, one by one.
use Rattle.std.proofs.Common.{◌≡◌, ℕ, ◌+◌, ◌-◌, ◌*◌, ◌<◌, ◌≤◌, true, false, ◌&&◌, leb, List, [], ◌∷◌, length, get_or, drop, Some, None, refl, ◌∙◌, arith}
use Rattle.std.proofs.lemmas.List.{drop_all, at_drop_more}
use Rattle.std.proofs.lemmas.Bool.{le-leb, lt-leb, and_right}
use Rattle.std.specs.Char.{is_ascii_digit}
use Rattle.std.specs.Str.{all_ascii_digits}
use Rattle.script.specs.Words.{value_from, decimal_from, decimal}

-- the value never falls
value_grows : (bs : List ℕ) (v : ℕ) → v ≤ value_from v bs
value_grows [] v = omega arith
value_grows (b ∷ bs) v = omega (arith, value_grows bs (v * 10 + (b - 48)))

pub digit-more : (v : ℕ) (bs : List ℕ) (i : ℕ) → i < length bs → is_ascii_digit (get_or bs i 0) ≡ true → decimal_from v (drop i bs) ≡ decimal_from (v * 10 + (get_or bs i 0 - 48)) (drop (i + 1) bs)
unfolding decimal_from
digit-more v bs i h d = at_drop_more (decimal_from v) bs i 0 h ∙ rw d

pub digit-none : (v : ℕ) (bs : List ℕ) (i : ℕ) → i < length bs → is_ascii_digit (get_or bs i 0) ≡ false → decimal_from v (drop i bs) ≡ None
unfolding decimal_from
digit-none v bs i h d = at_drop_more (decimal_from v) bs i 0 h ∙ rw d

pub too_large : (v : ℕ) (bs : List ℕ) → 4294967295 < v → decimal_from v bs ≡ None
unfolding decimal_from
too_large v bs h =
    let more : 4294967295 < value_from v bs = omega (arith, value_grows bs v) in
    let n : (all_ascii_digits bs && leb (value_from v bs) 4294967295) ≡ false = and_right _ _ (lt-leb _ _ more) in
    rw n

pub digits-end : (v : ℕ) (bs : List ℕ) (i : ℕ) → length bs ≤ i → v ≤ 4294967295 → decimal_from v (drop i bs) ≡ Some v
unfolding decimal_from
digits-end v bs i h f =
    let s = le-leb v 4294967295 f in
    rw (drop_all i bs h, s)

-- a word with a byte in it
pub some_word : (bs : List ℕ) → 0 < length bs → decimal bs ≡ decimal_from 0 bs
some_word [] h = absurd (omega arith)
some_word (b ∷ bs) h = refl

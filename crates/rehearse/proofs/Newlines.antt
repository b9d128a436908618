-- The first newline, and the lines from it on. Assumes nothing.
use Rattle.std.proofs.Common.{◌≡◌, ℕ, suc, ◌+◌, ◌-◌, ◌<◌, ◌≤◌, Bool, true, false, eqb, cond, ltb, List, [], ◌∷◌, Some, None, unwrap_or, length, take, drop, ltb-false, refl, ap, ◌∙◌, ⊎_elim, arith, one-add, length-drop, drop-drop}
use Rattle.std.specs.List.{position, position_or_len}
use Rattle.std.proofs.lemmas.Bool.{cases_Bool}
use Rattle.std.proofs.lemmas.List.Sums.{prefix_len-le-length}
use Rattle.rehearse.specs.Lines.{in_line, line_length, begun_with, lines}

abbrev pub is_newline : ℕ → Bool
is_newline b = eqb b 10

-- the place of the first newline, or the end
pub first-newline : (bs : List ℕ) → unwrap_or (position is_newline bs) (length bs) ≡ line_length bs
first-newline bs = from (ltb (position_or_len is_newline bs) (length bs)) refl
  where
    from : (b : Bool) → ltb (position_or_len is_newline bs) (length bs) ≡ b → unwrap_or (cond b (Some (position_or_len is_newline bs)) None) (length bs) ≡ line_length bs
    from true t = refl
    from false t = omega (arith, ltb-false _ _ t, prefix_len-le-length in_line bs)

-- the first line, and those behind the newline that ends it
pub first-line : (b : ℕ) (bs : List ℕ) → lines (b ∷ bs) ≡ take (line_length (b ∷ bs)) (b ∷ bs) ∷ lines (drop (suc (line_length (b ∷ bs))) (b ∷ bs))
unfolding lines
first-line b [] = ⊎_elim (λ (e : in_line b ≡ true). rw e refl) (λ (e : in_line b ≡ false). rw e refl) (cases_Bool (in_line b))
first-line b (c ∷ cs) = ⊎_elim
    (λ (e : in_line b ≡ true). rw (e, one-add (line_length (c ∷ cs))) (ap (begun_with b) (first-line c cs)))
    (λ (e : in_line b ≡ false). rw e refl)
    (cases_Bool (in_line b))

some-line : (bs : List ℕ) → 0 < length bs → lines bs ≡ take (line_length bs) bs ∷ lines (drop (suc (line_length bs)) bs)
some-line [] l = absurd (omega arith)
some-line (b ∷ bs) l = first-line b bs

-- the line from a place on, and those behind its end
pub next-line : (bs : List ℕ) (at end : ℕ) → at < length bs → end ≡ at + line_length (drop at bs) → lines (drop at bs) ≡ take (end - at) (drop at bs) ∷ lines (drop (end + 1) bs)
next-line bs at end l e =
    let n : ℕ = line_length (drop at bs) in
    some-line (drop at bs) (omega (arith, length-drop at bs, l))
    ∙ ap (λ k. take k (drop at bs) ∷ lines (drop (suc n) (drop at bs))) {x = n} {y = end - at} (omega (arith, e))
    ∙ ap (λ ds. take (end - at) (drop at bs) ∷ lines ds) (drop-drop (suc n) at bs)
    ∙ ap (λ k. take (end - at) (drop at bs) ∷ lines (drop k bs)) {x = at + suc n} {y = end + 1} (omega (arith, e))

-- each line has a byte, or the newline behind it
pub fewer-lines : (bs : List ℕ) → length (lines bs) ≤ length bs
unfolding lines
fewer-lines [] = omega arith
fewer-lines (b ∷ bs) = ⊎_elim
    (λ (e : in_line b ≡ true). rw e (begun (lines bs) (fewer-lines bs)))
    (λ (e : in_line b ≡ false). rw e (let few = fewer-lines bs in omega (arith, few)))
    (cases_Bool (in_line b))
  where
    begun : (ls : List (List ℕ)) → length ls ≤ length bs → length (begun_with b ls) ≤ suc (length bs)
    begun [] few = omega arith
    begun (l ∷ ls) few = omega (arith, few)

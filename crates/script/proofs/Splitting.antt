-- Words found by two scans: for a byte that is no space, then for a space.
use Rattle.std.proofs.Common.{◌≡◌, ℕ, suc, ◌-◌, ◌<◌, ◌≤◌, Bool, true, false, not, eqb, cond, ltb, List, [], ◌∷◌, ◌++◌, Some, None, unwrap_or, length, get_or, take, drop, ltb-false, sym, refl, ap, ◌∙◌, ⊎_elim, arith, add-zero, one-add, append_assoc, append-nil, get_or-drop, length-drop}
use Rattle.std.specs.List.{list_all, position, position_or_len}
use Rattle.std.proofs.lemmas.Bool.{cases_Bool, cond_both}
use Rattle.std.proofs.lemmas.List.{drop_all, take_all}
use Rattle.std.proofs.lemmas.List.Quantifiers.{position-Some}
use Rattle.std.proofs.lemmas.List.Sums.{prefix_len-le-length}
use Rattle.script.specs.Words.{closed, words_from, words}
use Rattle.script.specs.Parse.{got, bad, word, none}

abbrev pub is_space : ℕ → Bool
is_space b = eqb b 32

abbrev pub in_word : ℕ → Bool
in_word b = not (eqb b 32)

-- a word that has begun is there
begun-some : (b : ℕ) (w bs : List ℕ) → none (words_from (b ∷ w) bs) ≡ false
unfolding words_from
begun-some b w [] = refl
begun-some b w (c ∷ bs) = cond_both (eqb c 32) (closed (b ∷ w) (words_from [] bs)) (words_from (b ∷ (w ++ c ∷ [])) bs) (λ ws. none ws ≡ false) (λ e. refl) (λ e. begun-some b (w ++ c ∷ []) bs)

-- spaces alone are no word
pub all-spaces : (bs : List ℕ) → list_all is_space bs ≡ none (words bs)
unfolding words_from
all-spaces [] = refl
all-spaces (b ∷ bs) = ⊎_elim (λ (e : eqb b 32 ≡ true). rw e (all-spaces bs)) (λ (e : eqb b 32 ≡ false). rw e (sym (begun-some b [] bs))) (cases_Bool (eqb b 32))

-- spaces in front change nothing
skip-spaces : (bs : List ℕ) → words (drop (position_or_len in_word bs) bs) ≡ words bs
unfolding words_from
skip-spaces [] = refl
skip-spaces (b ∷ bs) = ⊎_elim
    (λ (e : eqb b 32 ≡ true). rw (e, one-add (position_or_len in_word bs)) (skip-spaces bs))
    (λ (e : eqb b 32 ≡ false). let here : position_or_len in_word (b ∷ bs) ≡ 0 = rw e in ap (λ n. words (drop n (b ∷ bs))) here)
    (cases_Bool (eqb b 32))

-- a space ends the word w
space-ends : (w : List ℕ) (b : ℕ) (bs : List ℕ) → eqb b 32 ≡ true → words_from w (b ∷ bs) ≡ closed w (words (b ∷ bs))
unfolding words_from
space-ends w b bs e = rw e

-- the bytes before the next space go on with the word w
word-goes : (w bs : List ℕ) → words_from w bs ≡ closed (w ++ take (position_or_len is_space bs) bs) (words (drop (position_or_len is_space bs) bs))
unfolding words_from
word-goes w [] = ap (λ v. closed v []) (sym (append-nil w))
word-goes w (b ∷ bs) = ⊎_elim
    (λ (e : eqb b 32 ≡ true).
    let here : position_or_len is_space (b ∷ bs) ≡ 0 = rw e in
    space-ends w b bs e ∙ ap (λ v. closed v (words (b ∷ bs))) (sym (append-nil w)) ∙ ap (λ n. closed (w ++ take n (b ∷ bs)) (words (drop n (b ∷ bs)))) (sym here))
    (λ (e : eqb b 32 ≡ false).
    let n : ℕ = position_or_len is_space bs in
    let more : position_or_len is_space (b ∷ bs) ≡ suc n = rw e (one-add n) in
    let on : words_from w (b ∷ bs) ≡ words_from (w ++ b ∷ []) bs = rw e in
    on ∙ word-goes (w ++ b ∷ []) bs ∙ ap (λ v. closed v (words (drop n bs))) (append_assoc w (b ∷ []) (take n bs)) ∙ ap (λ k. closed (w ++ take k (b ∷ bs)) (words (drop k (b ∷ bs)))) (sym more))
    (cases_Bool (eqb b 32))

-- a word stands in front
front-word : (bs : List ℕ) → 0 < length bs → in_word (get_or bs 0 0) ≡ true → words bs ≡ take (position_or_len is_space bs) bs ∷ words (drop (position_or_len is_space bs) bs)
front-word [] h e = absurd (omega arith)
front-word (b ∷ bs) h e =
    let n : ℕ = position_or_len is_space bs in
    let more : position_or_len is_space (b ∷ bs) ≡ suc n = rw e (one-add n) in
    word-goes [] (b ∷ bs) ∙ ap (λ k. closed (take k (b ∷ bs)) (words (drop k (b ∷ bs)))) more ∙ ap (λ k. take k (b ∷ bs) ∷ words (drop k (b ∷ bs))) (sym more)

-- what the library's position says: the place that it found, or that all of them were looked at
found : (p : ℕ → Bool) (bs : List ℕ) (i : ℕ) → position p bs ≡ Some i → position_or_len p bs ≡ i
found p bs i e = from (ltb (position_or_len p bs) (length bs)) e
  where
    from : (b : Bool) → cond b (Some (position_or_len p bs)) None ≡ Some i → position_or_len p bs ≡ i
    from true e = cc
    from false e = cc

not_found : (p : ℕ → Bool) (bs : List ℕ) → position p bs ≡ None → length bs ≤ position_or_len p bs
not_found p bs e = from (ltb (position_or_len p bs) (length bs)) refl e
  where
    from : (b : Bool) → ltb (position_or_len p bs) (length bs) ≡ b → cond b (Some (position_or_len p bs)) None ≡ None → length bs ≤ position_or_len p bs
    from true t e = absurd cc
    from false t e = ltb-false _ _ t

or_len : (p : ℕ → Bool) (bs : List ℕ) → unwrap_or (position p bs) (length bs) ≡ position_or_len p bs
or_len p bs = ⊎_elim
    (λ (e : ltb (position_or_len p bs) (length bs) ≡ true). rw e)
    (λ (e : ltb (position_or_len p bs) (length bs) ≡ false).
    let all : length bs ≡ position_or_len p bs = omega (arith, ltb-false _ _ e, prefix_len-le-length (λ b. not (p b)) bs) in
    rw e all)
    (cases_Bool (ltb (position_or_len p bs) (length bs)))

-- no byte but spaces, or a word from place i on, n bytes long
pub no_word : (bs : List ℕ) → position in_word bs ≡ None → bad ≡ word (words bs)
unfolding words_from
no_word bs e =
    let none : words bs ≡ [] = sym (skip-spaces bs) ∙ ap words (drop_all (position_or_len in_word bs) bs (not_found in_word bs e)) in
    sym (ap word none)

pub word_here : (bs rest : List ℕ) (i n : ℕ) → position in_word bs ≡ Some i → rest ≡ take (length bs - i) (drop i bs) → n ≡ unwrap_or (position is_space rest) (length rest) → got (take n rest) (words (drop n rest)) ≡ word (words bs)
word_here bs rest i n e r f =
    let at = position-Some in_word bs i 0 e in
    let tail : rest ≡ drop i bs = r ∙ take_all (length bs - i) (drop i bs) (simp length-drop (omega arith)) in
    let some : 0 < length rest = rw tail (simp length-drop (omega (arith, at.0))) in
    let first : in_word (get_or rest 0 0) ≡ true = ap (λ xs. in_word (get_or xs 0 0)) tail ∙ ap in_word (get_or-drop i bs 0 0 ∙ ap (λ k. get_or bs k 0) (add-zero i)) ∙ at.1 in
    let here : words bs ≡ words rest = sym (skip-spaces bs) ∙ ap (λ k. words (drop k bs)) (found in_word bs i e) ∙ ap words (sym tail) in
    ap (λ k. got (take k rest) (words (drop k rest))) (f ∙ or_len is_space rest) ∙ sym (ap word (here ∙ front-word rest some first))

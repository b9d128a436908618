-- What entries are read from bytes. Assumes nothing.
use Rattle.std.proofs.Common.{◌≡◌, ℕ, zero, suc, ◌+◌, ◌*◌, ◌<◌, ◌≤◌, List, [], ◌∷◌, ◌++◌, length, get_or, drop, sym, refl, ap, ◌∙◌, ⊎_elim, arith, length-drop, get_or-drop, drop-drop}
use Rattle.std.proofs.lemmas.List.{nil_from_length}
use Rattle.std.proofs.lemmas.Bool.{cases_lt}
use Rattle.orders.specs.declared.Entry.{Entry}
use Rattle.orders.specs.Parse.{Got, got, cut, bad, bind, number, entry, entries}

-- a whole answer comes of whole parts
pub bind-got : {A B : Type 0} (m : Got A) (f : A → List ℕ → Got B) (b : B) (rest : List ℕ) → bind m f ≡ got b rest → (a : A) × (bs : List ℕ) × (m ≡ got a bs) × (f a bs ≡ got b rest)
bind-got (got a bs) f b rest e = (a, bs, refl, e)
bind-got cut f b rest e = let z : ◌≡◌ {A = ℕ} 0 1 = cc in absurd (omega arith)
bind-got (bad k) f b rest e = let z : ◌≡◌ {A = ℕ} 0 1 = cc in absurd (omega arith)

number-front : (bs : List ℕ) → 4 ≤ length bs → number bs ≡ got (get_or bs 0 0 * 16777216 + get_or bs 1 0 * 65536 + get_or bs 2 0 * 256 + get_or bs 3 0) (drop 4 bs)
number-front [] h = absurd (omega arith)
number-front (a ∷ []) h = absurd (omega arith)
number-front (a ∷ b ∷ []) h = absurd (omega arith)
number-front (a ∷ b ∷ c ∷ []) h = absurd (omega arith)
number-front (a ∷ b ∷ c ∷ d ∷ bs) h = refl

-- one entry more, at the end
pub entries-push : (n : ℕ) (bs rest rest' : List ℕ) (es : List Entry) (e : Entry) → entries n bs ≡ got es rest → entry rest ≡ got e rest' → entries (suc n) bs ≡ got (es ++ e ∷ []) rest'
unfolding entries
entries-push zero bs rest rest' es e p q =
    let a : bs ≡ rest = cc in
    let b : es ≡ [] = cc in
    rw (a, q, b)
entries-push (suc n) bs rest rest' es e p q =
    let i = bind-got _ _ _ _ p in
    let j = bind-got _ _ _ _ i.3 in
    let same : j.1 ≡ rest = cc in
    let front : es ≡ i.0 ∷ j.0 = cc in
    let t : entry bs ≡ got i.0 i.1 = i.2 in
    let more : entries (suc n) i.1 ≡ got (j.0 ++ e ∷ []) rest' = entries-push n i.1 j.1 rest' j.0 e j.2 (ap entry same ∙ q) in
    rw (t, more) (ap (λ xs. got (xs ++ e ∷ []) rest') (sym front))

-- what is too short is cut
number_short : (bs : List ℕ) → length bs < 4 → number bs ≡ cut
number_short [] h = refl
number_short (a ∷ []) h = refl
number_short (a ∷ b ∷ []) h = refl
number_short (a ∷ b ∷ c ∷ []) h = refl
number_short (a ∷ b ∷ c ∷ d ∷ bs) h = absurd (omega arith)

number-long : (bs : List ℕ) → 4 ≤ length bs → (v : ℕ) × (number bs ≡ got v (drop 4 bs))
number-long bs h = (_, number-front bs h)

entry-short : (bs : List ℕ) → length bs < 8 → entry bs ≡ cut
unfolding entry
entry-short bs h =
    ⊎_elim
    (λ (l : length bs < 4). rw (number_short bs l))
    (λ (l : 4 ≤ length bs). let more : length (drop 4 bs) < 4 = simp length-drop (omega arith) in rw (number-front bs l, number_short (drop 4 bs) more))
    (cases_lt (length bs) 4)

entry-long : (bs : List ℕ) → 8 ≤ length bs → (e : Entry) × (entry bs ≡ got e (drop 8 bs))
unfolding entry
entry-long bs h =
    let more : 4 ≤ length (drop 4 bs) = simp length-drop (omega arith) in
    let k = number-long bs (omega arith) in
    let a = number-long (drop 4 bs) more in
    (record { key = k.0; amount = a.0 }, rw (k.1, a.1, drop-drop))

pub entries-short : (n : ℕ) (bs : List ℕ) → length bs < 8 * n → entries n bs ≡ cut
unfolding entries
entries-short zero bs h = absurd (omega arith)
entries-short (suc n) bs h =
    ⊎_elim
    (λ l. rw (entry-short bs l))
    (λ l. let e = entry-long bs l in let less : length (drop 8 bs) < 8 * n = simp length-drop (omega arith) in rw (e.1, entries-short n (drop 8 bs) less))
    (cases_lt (length bs) 8)

-- the two numbers of an entry's eight bytes
pub entry-eight : (bs : List ℕ) → length bs ≡ 8 →
    entry bs ≡ got (record { key = get_or bs 0 0 * 16777216 + get_or bs 1 0 * 65536 + get_or bs 2 0 * 256 + get_or bs 3 0; amount = get_or bs 4 0 * 16777216 + get_or bs 5 0 * 65536 + get_or bs 6 0 * 256 + get_or bs 7 0 }) []
unfolding entry
entry-eight bs h =
    let k = number-front bs (omega arith) in
    let a = number-front (drop 4 bs) (simp length-drop (omega arith)) in
    let none : drop 4 (drop 4 bs) ≡ [] = nil_from_length (drop 4 (drop 4 bs)) (simp length-drop (omega arith)) in
    rw (k, a, none) (simp get_or-drop)

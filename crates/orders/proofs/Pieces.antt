-- Entries read from pieces of eight bytes. Assumes nothing.
use Rattle.std.proofs.Common.{◌≡◌, ℕ, zero, suc, ◌+◌, ◌*◌, ◌/◌, ◌<◌, ◌≤◌, List, [], length, get_or, take, drop, set, sym, refl, ap, ◌∙◌, subst, add-one, arith, length-take-le, drop-drop, take-append-drop}
use Rattle.std.specs.Simd.{first_chunks}
use Rattle.std.proofs.lemmas.List.{take_more_set, drop_all}
use Rattle.orders.specs.declared.Entry.{Entry}
use Rattle.orders.specs.Parse.{got, entry, entries}
use Rattle.orders.proofs.Reading.{entries-push}
use Rattle.orders.proofs.Longer.{more-left, entry-steady, entries-steady}

piece-at : (bs : List ℕ) (n i : ℕ) → i < n → get_or (first_chunks 8 n bs) i [] ≡ take 8 (drop (8 * i) bs)
piece-at bs zero i h = absurd (omega arith)
piece-at bs (suc n) zero h = refl
piece-at bs (suc n) (suc i) h = piece-at (drop 8 bs) n i (omega arith) ∙ ap (λ xs. take 8 xs) (drop-drop (8 * i) 8 bs ∙ ap (λ k. drop k bs) (omega arith))

pub entries_none : (bs : List ℕ) → entries 0 bs ≡ got [] bs
unfolding entries
entries_none bs = refl

pub pieces-are : (bs front : List ℕ) (pieces : List (List ℕ)) (n : ℕ) → front ≡ take (8 * n) bs → length front ≡ 8 * n → pieces ≡ first_chunks 8 (length front / 8) front → pieces ≡ first_chunks 8 n (take (8 * n) bs)
pieces-are bs front pieces n e l p =
    let many : length front / 8 ≡ n = omega arith in
    p ∙ (λ i. first_chunks 8 (many i) (e i))

-- one piece more
pub entries-more : (bs : List ℕ) (pieces : List (List ℕ)) (n i : ℕ) (xs : List Entry) (e : Entry) → pieces ≡ first_chunks 8 n bs → i < n → i < length xs → entries i bs ≡ got (take i xs) (drop (8 * i) bs) → entry (get_or pieces i []) ≡ got e [] →
    entries (i + 1) bs ≡ got (take (i + 1) (set xs i e)) (drop (8 * (i + 1)) bs)
entries-more bs pieces n i xs e are l h p q =
    let ys = drop (8 * i) bs in
    let piece : entry (take 8 ys) ≡ got e [] = ap entry (sym (ap (λ ps. get_or ps i []) are ∙ piece-at bs n i l)) ∙ q in
    let next : drop 8 ys ≡ drop (8 * (i + 1)) bs = drop-drop 8 (8 * i) bs ∙ ap (λ k. drop k bs) (omega arith) in
    let is : entry ys ≡ got e (drop (8 * (i + 1)) bs) = ap entry (sym (take-append-drop 8 ys)) ∙ more-left entry entry-steady (take 8 ys) (drop 8 ys) [] e piece ∙ ap (got e) next in
    ap (λ n. entries n bs) (add-one i) ∙ entries-push i bs _ _ _ e p is ∙ ap (λ es. got es (drop (8 * (i + 1)) bs)) (sym (take_more_set xs i e h))

-- all pieces of the front
pub entries_end : (bs rest : List ℕ) (n i : ℕ) (xs : List Entry) → i ≡ n → 8 * n ≤ length bs → rest ≡ drop (8 * n) bs → entries i (take (8 * n) bs) ≡ got (take i xs) (drop (8 * i) (take (8 * n) bs)) → got (take n xs) rest ≡ entries n bs
entries_end bs rest n i xs all h r p =
    let q : entries n (take (8 * n) bs) ≡ got (take n xs) (drop (8 * n) (take (8 * n) bs)) = subst (λ j. entries j (take (8 * n) bs) ≡ got (take j xs) (drop (8 * j) (take (8 * n) bs))) all p in
    let none : drop (8 * n) (take (8 * n) bs) ≡ [] = drop_all (8 * n) (take (8 * n) bs) (omega (arith, length-take-le (8 * n) bs h)) in
    ap (got (take n xs)) r ∙ sym (ap (entries n) (sym (take-append-drop (8 * n) bs)) ∙ more-left (entries n) (entries-steady n) (take (8 * n) bs) (drop (8 * n) bs) [] (take n xs) (q ∙ ap (got (take n xs)) none))

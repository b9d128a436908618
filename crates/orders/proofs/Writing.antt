-- The loop that fills a slice with entries, one right behind the other. Assumes nothing.
use Rattle.std.proofs.Common.{◌≡◌, ℕ, ◌+◌, ◌-◌, ◌*◌, ◌<◌, ◌≤◌, List, [], ◌++◌, length, get_or, take, drop, sym, refl, ap, ◌∙◌, append_assoc, append-nil, arith, length-append, length-take-le, take_all, drop-drop, take_at, drop_at}
use borrow.Rule.Slice.PartMut.{put_mid}
use Rattle.std.specs.List.{flat_map}
use Rattle.std.proofs.lemmas.List.{take_more, drop_all, flat_map_more}
use Rattle.std.proofs.lemmas.List.Recursion.{same_from_clauses}
use Rattle.orders.specs.declared.Entry.{Entry}
use Rattle.orders.specs.Encode.{entry_bytes, entries_bytes}
use Rattle.orders.specs.Room.{over}
use Rattle.orders.proofs.Lengths.{length-entry, length-entries}

in-order : (es : List Entry) → entries_bytes es ≡ flat_map entry_bytes es
unfolding entries_bytes
in-order es = same_from_clauses entries_bytes (flat_map entry_bytes) (λ (e : Entry) (bs : List ℕ). entry_bytes e ++ bs) refl (λ _ _. refl) (λ _ _. refl) es

entries-push : (es : List Entry) (i : ℕ) (e : Entry) → i < length es → entries_bytes (take (i + 1) es) ≡ entries_bytes (take i es) ++ entry_bytes (get_or es i e)
entries-push es i e h = in-order (take (i + 1) es) ∙ ap (flat_map entry_bytes) (take_more es i e h) ∙ sym (flat_map_more entry_bytes [] (take i es) (get_or es i e)) ∙ ap (λ w. w ++ entry_bytes (get_or es i e)) (sym (in-order (take i es)))

-- x has xs in front of what bs has there, and ys is put behind that
over-part : (bs xs ys : List ℕ) (at n : ℕ) → length xs ≡ at → length ys ≡ n → put_mid at n (over xs bs) ys ≡ over (xs ++ ys) bs
over-part bs xs ys at n here long =
    let rest = drop (length xs) bs in
    let front : take at (xs ++ rest) ≡ xs = take_at xs rest at here in
    let back : drop n (drop at (xs ++ rest)) ≡ drop (length (xs ++ ys)) bs = ap (drop n) (drop_at xs rest at here) ∙ drop-drop n (length xs) bs ∙ ap (λ k. drop k bs) (omega (arith, length-append xs ys)) in
    (λ i. front i ++ (ys ++ back i)) ∙ sym (append_assoc xs ys (drop (length (xs ++ ys)) bs))

pub put-none : (bs : List ℕ) → bs ≡ over (entries_bytes []) bs
unfolding entries_bytes
put-none bs = refl

pub put-more : (bs x y : List ℕ) (i : ℕ) (es : List Entry) (e : Entry) → i < length es → x ≡ over (entries_bytes (take i es)) bs → y ≡ entry_bytes (get_or es i e) →
    put_mid (8 * i) (8 * i + 8 - 8 * i) x y ≡ over (entries_bytes (take (i + 1) es)) bs
put-more bs x y i es e l p q =
    let at : length (entries_bytes (take i es)) ≡ 8 * i = length-entries (take i es) ∙ ap (λ k. 8 * k) (length-take-le i es (omega arith)) in
    let long : length (entry_bytes (get_or es i e)) ≡ 8 * i + 8 - 8 * i = length-entry (get_or es i e) ∙ omega arith in
    (λ j. put_mid (8 * i) (8 * i + 8 - 8 * i) (p j) (q j)) ∙ over-part bs _ _ (8 * i) _ at long ∙ ap (λ w. over w bs) (sym (entries-push es i e l))

pub put_all : (bs x : List ℕ) (i : ℕ) (es : List Entry) → length bs ≡ 8 * length es → length es ≤ i → x ≡ over (entries_bytes (take i es)) bs → x ≡ entries_bytes es
put_all bs x i es h l p =
    let none : drop (length (entries_bytes es)) bs ≡ [] = drop_all _ bs (omega (arith, length-entries es)) in
    p ∙ ap (λ w. over (entries_bytes w) bs) (take_all i es l) ∙ ap (λ w. entries_bytes es ++ w) none ∙ append-nil (entries_bytes es)

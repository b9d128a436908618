-- Entries read one by one behind those read so far.
use Rattle.std.proofs.Common.{◌≡◌, ℕ, suc, ◌+◌, ◌-◌, ◌<◌, ◌≤◌, cond, leb, List, [], ◌∷◌, ◌++◌, length, take, set, sym, refl, ap, ◌∙◌, append_assoc, arith}
use Rattle.std.proofs.lemmas.Bool.{le-leb, cond-true}
use Rattle.std.proofs.lemmas.List.{take_more_set, append-nil, take-append-le}
use Rattle.orders.specs.declared.Entry.{Entry}
use Rattle.script.specs.Parse.{Got, got, bad, bind, entry, entries}

-- es and so many entries more
unfoldable pub after : List Entry → ℕ → List (List ℕ) → Got (List Entry)
after es n ws = bind (entries n ws) (λ fs ws. got (es ++ fs) ws)

pub after_none : (n : ℕ) (ws : List (List ℕ)) → after [] n ws ≡ entries n ws
unfolding after
after_none n ws = same (entries n ws)
  where
    same : (g : Got (List Entry)) → bind g (λ fs ws. got ([] ++ fs) ws) ≡ g
    same (got es ws) = refl
    same bad = refl

pub after-all : (es : List Entry) (ws : List (List ℕ)) → after es 0 ws ≡ got es ws
unfolding after entries
after-all es ws = ap (λ xs. got xs ws) (append-nil es)

pub after_more : (es : List Entry) (n : ℕ) (ws vs : List (List ℕ)) (e : Entry) → got e vs ≡ entry ws → after (es ++ e ∷ []) n vs ≡ after es (suc n) ws
unfolding after entries
after_more es n ws vs e p = front (entries n vs) ∙ ap (λ g. bind (bind g (λ f us. bind (entries n us) (λ fs us. got (f ∷ fs) us))) (λ fs us. got (es ++ fs) us)) p
  where
    front : (g : Got (List Entry)) → bind g (λ fs us. got ((es ++ e ∷ []) ++ fs) us) ≡ bind (bind g (λ fs us. got (e ∷ fs) us)) (λ fs us. got (es ++ fs) us)
    front (got fs us) = ap (λ xs. got xs us) (append_assoc es (e ∷ []) fs)
    front bad = refl

pub after-bad : (es : List Entry) (n : ℕ) (ws : List (List ℕ)) → bad ≡ entry ws → bad ≡ after es (suc n) ws
unfolding after entries
after-bad es n ws p = ap (λ g. bind (bind g (λ f us. bind (entries n us) (λ fs us. got (f ∷ fs) us))) (λ fs us. got (es ++ fs) us)) p

-- the loop over n entries: entry i is out of form, or it is read, or all are read
pub turn-bad : (es : List Entry) (i n : ℕ) (ws vs : List (List ℕ)) → i < n → after es (n - i) vs ≡ after [] n ws → bad ≡ entry vs → bad ≡ entries n ws
turn-bad es i n ws vs l inv p =
    let one : suc (n - (i + 1)) ≡ n - i = omega arith in
    after-bad es (n - (i + 1)) vs p ∙ ap (λ k. after es k vs) one ∙ inv ∙ after_none n ws

pub turn_more : (xs : List Entry) (i n : ℕ) (ws vs us : List (List ℕ)) (e : Entry) → i < n → i < length xs → after (take i xs) (n - i) vs ≡ after [] n ws → got e us ≡ entry vs →
    after (take (i + 1) (set xs i e)) (n - (i + 1)) us ≡ after [] n ws
turn_more xs i n ws vs us e l h inv p =
    let one : suc (n - (i + 1)) ≡ n - i = omega arith in
    ap (λ es. after es (n - (i + 1)) us) (take_more_set xs i e h) ∙ after_more (take i xs) (n - (i + 1)) vs us e p ∙ ap (λ k. after (take i xs) k vs) one ∙ inv

pub turn_end : (xs ys : List Entry) (i n : ℕ) (ws vs : List (List ℕ)) → i ≡ n → length xs ≡ n → after (take i xs) (n - i) vs ≡ after [] n ws → got (take n (xs ++ ys)) vs ≡ entries n ws
turn_end xs ys i n ws vs e l inv =
    let none : n - i ≡ 0 = omega arith in
    let front : take n (xs ++ ys) ≡ take i xs = take-append-le n xs ys (omega arith) ∙ ap (λ k. take k xs) (sym e) in
    ap (λ es. got es vs) front ∙ sym (after-all (take i xs) vs) ∙ ap (λ k. after (take i xs) k vs) (sym none) ∙ inv ∙ after_none n ws

pub few-entries : (n : ℕ) (ws : List (List ℕ)) (g : Got (List Entry)) → n ≤ 16 → g ≡ entries n ws → g ≡ cond (leb n 16) (entries n ws) bad
few-entries n ws g h e = e ∙ sym (cond-true (leb n 16) (entries n ws) bad (le-leb n 16 h))

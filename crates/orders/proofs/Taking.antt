-- What a reader leaves is what stands behind the bytes that it took. Assumes nothing.
use Rattle.std.proofs.Common.{◌≡◌, ℕ, zero, suc, ◌≤◌, Bool, true, false, cond, eqb, leb, List, [], ◌∷◌, ◌++◌, length, sym, refl, ap, ◌∙◌, append_assoc, arith, length-append}
use Rattle.protocol.specs.declared.Name.{Name}
use Rattle.orders.specs.Order.{rec_ok}
use Rattle.orders.specs.Parse.{Got, got, cut, bad, bind, byte, number, count, name, entry, entries, body, order, kind, form, parse}

-- at least so many bytes were taken from the front of bs
abbrev pub Takes : {A : Type 0} → ℕ → List ℕ → Got A → Type 0
Takes j bs (got a rest) = (xs : List ℕ) × (bs ≡ xs ++ rest) × (j ≤ length xs)
Takes j bs cut = Unit {0}
Takes j bs (bad k) = Unit {0}

abbrev Taker : {A : Type 0} → (List ℕ → Got A) → Type 0
Taker P = (bs : List ℕ) → Takes 0 bs (P bs)

further : {A : Type 0} (j : ℕ) (bs xs cs : List ℕ) (g : Got A) → bs ≡ xs ++ cs → j ≤ length xs → Takes 0 cs g → Takes j bs g
further j bs xs cs (got a rest) e l h = (xs ++ h.0, e ∙ ap (λ z. xs ++ z) h.1 ∙ sym (append_assoc xs h.0 rest), omega (arith, length-append xs h.0))
further j bs xs cs cut e l h = tt
further j bs xs cs (bad k) e l h = tt

bind-takes : {A B : Type 0} (j : ℕ) (bs : List ℕ) (g : Got A) (f : A → List ℕ → Got B) → Takes j bs g → ((a : A) → Taker (f a)) → Takes j bs (bind g f)
bind-takes j bs (got a cs) f h k = further j bs h.0 cs (f a cs) h.1 h.2 (k a cs)
bind-takes j bs cut f h k = tt
bind-takes j bs (bad k') f h k = tt

bind-taker : {A B : Type 0} (P : List ℕ → Got A) (f : A → List ℕ → Got B) → Taker P → ((a : A) → Taker (f a)) → Taker (λ bs. bind (P bs) f)
bind-taker P f h k bs = bind-takes 0 bs (P bs) f (h bs) k

cond-taker : {A : Type 0} (b : Bool) (P Q : List ℕ → Got A) → Taker P → Taker Q → Taker (λ bs. cond b (P bs) (Q bs))
cond-taker true P Q h k = h
cond-taker false P Q h k = k

byte-takes : (bs : List ℕ) → Takes 1 bs (byte bs)
byte-takes [] = tt
byte-takes (b ∷ bs) = (b ∷ [], refl, omega arith)

byte-taker : Taker byte
byte-taker [] = tt
byte-taker (b ∷ bs) = (b ∷ [], refl, omega arith)

number-taker : Taker number
number-taker [] = tt
number-taker (a ∷ []) = tt
number-taker (a ∷ b ∷ []) = tt
number-taker (a ∷ b ∷ c ∷ []) = tt
number-taker (a ∷ b ∷ c ∷ d ∷ bs) = (a ∷ b ∷ c ∷ d ∷ [], refl, omega arith)

count-taker : Taker count
unfolding count
count-taker = bind-taker byte _ byte-taker (λ k. cond-taker (leb k 16) _ _ (λ bs. ([], refl, omega arith)) (λ bs. tt))

name-taker : Taker name
unfolding name
name-taker = bind-taker byte _ byte-taker (λ a. bind-taker number _ number-taker (λ b. bind-taker number _ number-taker (λ c bs. ([], refl, omega arith))))

entry-taker : Taker entry
unfolding entry
entry-taker = bind-taker number _ number-taker (λ b. bind-taker number _ number-taker (λ c bs. ([], refl, omega arith)))

entries-taker : (n : ℕ) → Taker (entries n)
unfolding entries
entries-taker zero bs = ([], refl, omega arith)
entries-taker (suc n) bs = bind-taker entry _ entry-taker (λ e. bind-taker (entries n) _ (entries-taker n) (λ es cs. ([], refl, omega arith))) bs

body-taker : (d : Name) (r w : ℕ) → Taker (body d r w)
unfolding body
body-taker d r w = bind-taker (entries r) _ (entries-taker r) (λ rs. bind-taker (entries w) _ (entries-taker w) (λ ws bs. ([], refl, omega arith)))

order-taker : Taker order
unfolding order
order-taker = bind-taker name _ name-taker (λ d. bind-taker count _ count-taker (λ r. bind-taker count _ count-taker (λ w. body-taker d r w)))

kind-taker : (k : ℕ) → Taker (kind k)
unfolding kind
kind-taker k =
    cond-taker (eqb k 1) _ _ (λ bs. ([], refl, omega arith))
    (cond-taker (eqb k 2) _ _ (bind-taker order _ order-taker (λ o bs. ([], refl, omega arith)))
    (cond-taker (eqb k 3) _ _ (bind-taker name _ name-taker (λ d bs. ([], refl, omega arith)))
    (cond-taker (eqb k 4) _ _ (bind-taker name _ name-taker (λ d bs. ([], refl, omega arith)))
    (cond-taker (eqb k 5) _ _ (bind-taker order _ order-taker (λ o bs. ([], refl, omega arith))) (λ bs. tt)))))

pub form-takes : (bs : List ℕ) → Takes 1 bs (form bs)
unfolding form
form-takes bs = bind-takes 1 bs (byte bs) kind (byte-takes bs) kind-taker

pub parse-takes : (n : ℕ) (bs : List ℕ) → Takes 1 bs (parse n bs)
parse-takes n bs = bind-takes 1 bs (form bs) _ (form-takes bs) (λ r. cond-taker (rec_ok n r) _ _ (λ cs. ([], refl, omega arith)) (λ cs. tt))

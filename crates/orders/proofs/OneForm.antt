-- Whatever is read is the encoding of what it gave. Assumes nothing.
use Rattle.std.proofs.Common.{◌≡◌, ℕ, zero, suc, ◌+◌, ◌*◌, ◌/◌, ◌%◌, Bool, true, false, cond, eqb, leb, List, [], ◌∷◌, ◌++◌, length, sym, refl, ap, ◌∙◌, subst, append_assoc, arith}
use Rattle.std.proofs.lemmas.Bool.{eqb-true}
use Rattle.protocol.specs.declared.Name.{Name}
use Rattle.protocol.specs.House.{Began, Held, Done, Dropped, Ruled}
use Rattle.orders.specs.declared.Entry.{Entry}
use Rattle.orders.specs.Order.{Order, Rec, rec_ok}
use Rattle.orders.specs.Parse.{Got, got, bad, bind, byte, number, count, name, entry, entries, body, order, kind, form}
use Rattle.orders.specs.Encode.{number_bytes, name_bytes, entry_bytes, entries_bytes, order_bytes, rec_bytes}
use Rattle.orders.specs.Laws.{Bytes, OneForm}
use Rattle.orders.proofs.Reading.{bind-got}
use Rattle.orders.proofs.Digits.{digit-3, digit-2, digit-1, digit-0}

pub bytes_rest : (xs ys : List ℕ) → Bytes (xs ++ ys) → Bytes ys
bytes_rest [] ys h = h
bytes_rest (x ∷ xs) ys h = bytes_rest xs ys h.1

-- the reader P takes exactly what the writer enc makes
abbrev pub Exact : {A : Type 0} → (List ℕ → Got A) → (A → List ℕ) → Type 0
Exact {A = A} P enc = (bs rest : List ℕ) (a : A) → Bytes bs → P bs ≡ got a rest → bs ≡ enc a ++ rest

pub byte_one : Exact byte (λ b. b ∷ [])
byte_one [] rest a h e = let z : ◌≡◌ {A = ℕ} 0 1 = cc in absurd (omega arith)
byte_one (b ∷ bs) rest a h e = cc

number-one : Exact number number_bytes
number-one [] rest v h e = let z : ◌≡◌ {A = ℕ} 0 1 = cc in absurd (omega arith)
number-one (a ∷ []) rest v h e = let z : ◌≡◌ {A = ℕ} 0 1 = cc in absurd (omega arith)
number-one (a ∷ b ∷ []) rest v h e = let z : ◌≡◌ {A = ℕ} 0 1 = cc in absurd (omega arith)
number-one (a ∷ b ∷ c ∷ []) rest v h e = let z : ◌≡◌ {A = ℕ} 0 1 = cc in absurd (omega arith)
number-one (a ∷ b ∷ c ∷ d ∷ bs) rest v h e =
    let is : a * 16777216 + b * 65536 + c * 256 + d ≡ v = cc in
    let left : bs ≡ rest = cc in
    let x3 = sym (digit-3 a b c d h.0 h.1.0 h.1.1.0 h.1.1.1.0) ∙ ap (λ w. w / 16777216 % 256) is in
    let x2 = sym (digit-2 a b c d h.0 h.1.0 h.1.1.0 h.1.1.1.0) ∙ ap (λ w. w / 65536 % 256) is in
    let x1 = sym (digit-1 a b c d h.0 h.1.0 h.1.1.0 h.1.1.1.0) ∙ ap (λ w. w / 256 % 256) is in
    let x0 = sym (digit-0 a b c d h.0 h.1.0 h.1.1.0 h.1.1.1.0) ∙ ap (λ w. w % 256) is in
    (λ i. x3 i ∷ x2 i ∷ x1 i ∷ x0 i ∷ left i)

-- one reader after the other
pub then_one : {A B : Type 0} (P : List ℕ → Got A) (f : A → List ℕ → Got B) (enc : A → List ℕ) (bs rest : List ℕ) (b : B) (G : Type 0) → Exact P enc → Bytes bs → bind (P bs) f ≡ got b rest →
    ((a : A) (cs : List ℕ) → P bs ≡ got a cs → bs ≡ enc a ++ cs → Bytes cs → f a cs ≡ got b rest → G) → G
then_one P f enc bs rest b G ex h e go =
    let i = bind-got (P bs) f b rest e in
    let split = ex bs i.1 i.0 h i.2 in
    go i.0 i.1 i.2 split (bytes_rest (enc i.0) i.1 (subst Bytes split h)) i.3

pub cond-got : {A : Type 0} (b : Bool) (x : Got A) (k : ℕ) (a : A) (rest : List ℕ) → cond b x (bad k) ≡ got a rest → (b ≡ true) × (x ≡ got a rest)
cond-got true x k a rest e = (refl, e)
cond-got false x k a rest e = let z : ◌≡◌ {A = ℕ} 0 1 = cc in absurd (omega arith)

count-one : Exact count (λ k. k ∷ [])
unfolding count
count-one bs rest a h e =
    then_one byte _ (λ k. k ∷ []) bs rest a _ byte_one h e (λ k cs p s hc ec.
    let x = (cond-got (leb k 16) _ 1 a rest ec).1 in
    let is : k ≡ a = cc in
    let left : cs ≡ rest = cc in
    s ∙ (λ i. is i ∷ left i))

pub name-one : Exact name name_bytes
unfolding name name_bytes
name-one bs rest d h e =
    then_one byte _ (λ b. b ∷ []) bs rest d _ byte_one h e (λ a cs p s hc ec.
    then_one number _ number_bytes cs rest d _ number-one hc ec (λ b ds q t hd ed.
    then_one number _ number_bytes ds rest d _ number-one hd ed (λ c fs r u hf ef.
    let is : record { home = a; start = b; number = c } ≡ d = cc in
    let left : fs ≡ rest = cc in
    s ∙ ap (λ w. a ∷ w) (t ∙ ap (λ w. number_bytes b ++ w) u) ∙ (λ i. name_bytes (is i) ++ left i))))

entry-one : Exact entry entry_bytes
unfolding entry entry_bytes
entry-one bs rest e h p =
    then_one number _ number_bytes bs rest e _ number-one h p (λ b ds q t hd ed.
    then_one number _ number_bytes ds rest e _ number-one hd ed (λ c fs r u hf ef.
    let is : record { key = b; amount = c } ≡ e = cc in
    let left : fs ≡ rest = cc in
    t ∙ ap (λ w. number_bytes b ++ w) u ∙ (λ i. entry_bytes (is i) ++ left i)))

entries-one : (n : ℕ) → Exact (entries n) entries_bytes
unfolding entries entries_bytes
entries-one zero bs rest es h p =
    let none : [] ≡ es = cc in
    let left : bs ≡ rest = cc in
    left ∙ ap (λ w. entries_bytes w ++ rest) none
entries-one (suc n) bs rest es h p =
    then_one entry _ entry_bytes bs rest es _ entry-one h p (λ e cs q s hc ec.
    then_one (entries n) _ entries_bytes cs rest es _ (entries-one n) hc ec (λ fs ds r t hd ed.
    let is : e ∷ fs ≡ es = cc in
    let left : ds ≡ rest = cc in
    s ∙ ap (λ w. entry_bytes e ++ w) t ∙ sym (append_assoc (entry_bytes e) (entries_bytes fs) ds) ∙ (λ i. entries_bytes (is i) ++ left i)))

entries-count : (n : ℕ) (bs rest : List ℕ) (es : List Entry) → entries n bs ≡ got es rest → length es ≡ n
unfolding entries
entries-count zero bs rest es p = let none : [] ≡ es = cc in sym (ap length none)
entries-count (suc n) bs rest es p =
    let i = bind-got (entry bs) _ es rest p in
    let j = bind-got (entries n i.1) _ es rest i.3 in
    let is : i.0 ∷ j.0 ≡ es = cc in
    sym (ap length is) ∙ ap suc (entries-count n i.1 j.1 j.0 j.2)

-- the two lists of entries, with their counts in front
body-one : (d : Name) (r w : ℕ) (bs rest : List ℕ) (o : Order) → Bytes bs → body d r w bs ≡ got o rest → name_bytes d ++ (r ∷ w ∷ bs) ≡ order_bytes o ++ rest
unfolding body order_bytes
body-one d r w bs rest o h e =
    then_one (entries r) _ entries_bytes bs rest o _ (entries-one r) h e (λ rs cs p s hc ec.
    then_one (entries w) _ entries_bytes cs rest o _ (entries-one w) hc ec (λ ws ds q t hd ed.
    let is : record { name = d; reads = rs; writes = ws } ≡ o = cc in
    let left : ds ≡ rest = cc in
    let x = sym (entries-count r bs cs rs p) in
    let y = sym (entries-count w cs ds ws q) in
    (λ i. name_bytes d ++ (x i ∷ y i ∷ s i)) ∙ ap (λ z. name_bytes d ++ (length rs ∷ length ws ∷ (entries_bytes rs ++ z))) t
    ∙ ap (λ z. name_bytes d ++ (length rs ∷ length ws ∷ z)) (sym (append_assoc (entries_bytes rs) (entries_bytes ws) ds))
    ∙ sym (append_assoc (name_bytes d) (length rs ∷ length ws ∷ (entries_bytes rs ++ entries_bytes ws)) ds)
    ∙ (λ i. order_bytes (is i) ++ left i)))

pub order-one : Exact order order_bytes
unfolding order
order-one bs rest o h e =
    then_one name _ name_bytes bs rest o _ name-one h e (λ d cs p s hc ec.
    then_one count _ (λ k. k ∷ []) cs rest o _ count-one hc ec (λ r ds q t hd ed.
    then_one count _ (λ k. k ∷ []) ds rest o _ count-one hd ed (λ w fs v u hf ef.
    s ∙ ap (λ z. name_bytes d ++ z) (t ∙ ap (λ z. r ∷ z) u) ∙ body-one d r w fs rest o hf ef)))

pub cond_cases : {A : Type 0} (b : Bool) (x y z : A) (G : Type 0) → cond b x y ≡ z → (b ≡ true → x ≡ z → G) → (b ≡ false → y ≡ z → G) → G
cond_cases true x y z G e p q = p refl e
cond_cases false x y z G e p q = q refl e

-- a kind, and then what it asks for
pub kind-with : {A R : Type 0} (P : List ℕ → Got A) (C : A → R) (enc : A → List ℕ) (all : R → List ℕ) (k₀ : ℕ) → Exact P enc → ((a : A) → all (C a) ≡ k₀ ∷ enc a) → (k : ℕ) (cs rest : List ℕ) (r : R) → eqb k k₀ ≡ true → Bytes cs →
    bind (P cs) (λ a ds. got (C a) ds) ≡ got r rest → k ∷ cs ≡ all r ++ rest
kind-with P C enc all k₀ ex is k cs rest r t h e =
    then_one P _ enc cs rest r _ ex h e (λ a ds p s hd ed.
    let x : k ≡ k₀ = eqb-true k k₀ t in
    let same : C a ≡ r = cc in
    let left : ds ≡ rest = cc in
    (λ i. x i ∷ s i) ∙ ap (λ z. z ++ ds) (sym (is a)) ∙ (λ i. all (same i) ++ left i))

kind-one : (k : ℕ) (cs rest : List ℕ) (r : Rec) → Bytes cs → kind k cs ≡ got r rest → k ∷ cs ≡ rec_bytes r ++ rest
unfolding kind
kind-one k cs rest r h e =
    cond_cases (eqb k 1) _ _ _ _ e
    (λ t x. let same : Began ≡ r = cc in let left : cs ≡ rest = cc in let is : k ≡ 1 = eqb-true k 1 t in (λ i. is i ∷ left i) ∙ ap (λ z. rec_bytes z ++ rest) same)
    (λ _ e2. cond_cases (eqb k 2) _ _ _ _ e2 (λ t x. kind-with order Held order_bytes rec_bytes 2 order-one (λ a. refl) k cs rest r t h x)
    (λ _ e3. cond_cases (eqb k 3) _ _ _ _ e3 (λ t x. kind-with name Done name_bytes rec_bytes 3 name-one (λ a. refl) k cs rest r t h x)
    (λ _ e4. cond_cases (eqb k 4) _ _ _ _ e4 (λ t x. kind-with name Dropped name_bytes rec_bytes 4 name-one (λ a. refl) k cs rest r t h x)
    (λ _ e5. cond_cases (eqb k 5) _ _ _ _ e5 (λ t x. kind-with order Ruled order_bytes rec_bytes 5 order-one (λ a. refl) k cs rest r t h x)
    (λ _ e6. let z : ◌≡◌ {A = ℕ} 0 1 = cc in absurd (omega arith))))))

form-one : Exact form rec_bytes
unfolding form
form-one bs rest r h e = then_one byte kind (λ b. b ∷ []) bs rest r _ byte_one h e (λ k cs p s hc ec. s ∙ kind-one k cs rest r hc ec)

pub one_form : OneForm
one_form n bs rest r h e = then_one form _ rec_bytes bs rest r _ form-one h e (λ q cs p s hc ec.
    let x = (cond-got (rec_ok n q) _ 2 r rest ec).1 in
    let same : q ≡ r = cc in
    let left : cs ≡ rest = cc in
    s ∙ (λ i. rec_bytes (same i) ++ left i))

-- With more bytes behind, a whole answer and a refusal stay; so a whole record with fewer bytes is cut. Assumes nothing.
use Rattle.std.proofs.Common.{◌≡◌, ℕ, zero, suc, ◌<◌, Bool, true, false, cond, eqb, ltb, leb, List, [], ◌∷◌, ◌++◌, length, take, drop, sym, refl, ap, ◌∙◌, subst, append-nil, arith, length-append, length-drop, take-append-drop}
use Rattle.protocol.specs.declared.Name.{Name}
use Rattle.orders.specs.Order.{Msg, rec_ok}
use Rattle.orders.specs.Parse.{Got, got, cut, bad, bind, byte, number, count, flag, name, entry, entries, body, order, kind, form, parse, mkind, mform}
use Rattle.orders.specs.Encode.{rec_bytes, msg_bytes}
use Rattle.orders.specs.Laws.{CutShort, MoreBehind, StaysRefused}
use Rattle.orders.proofs.Fits.{FitMsg, rec-fit}
use Rattle.orders.proofs.ReadBack.{form-back, mform-back}

abbrev pub Longer : {A : Type 0} → List ℕ → Got A → Got A → Type 0
Longer q (got a r) y = y ≡ got a (r ++ q)
Longer q cut y = Unit {0}
Longer q (bad k) y = y ≡ bad k

abbrev pub Steady : {A : Type 0} → (List ℕ → Got A) → Type 0
Steady P = (p q : List ℕ) → Longer q (P p) (P (p ++ q))

-- a whole answer, with more bytes left
pub more-left : {A : Type 0} (P : List ℕ → Got A) → Steady P → (p q rest : List ℕ) (a : A) → P p ≡ got a rest → P (p ++ q) ≡ got a (rest ++ q)
more-left P h p q rest a e = subst (λ (z : Got _). Longer q z (P (p ++ q))) e (h p q)

byte-steady : Steady byte
byte-steady [] q = tt
byte-steady (b ∷ p) q = refl

number-steady : Steady number
number-steady [] q = tt
number-steady (a ∷ []) q = tt
number-steady (a ∷ b ∷ []) q = tt
number-steady (a ∷ b ∷ c ∷ []) q = tt
number-steady (a ∷ b ∷ c ∷ d ∷ p) q = refl

bind-longer : {A B : Type 0} (q : List ℕ) (x y : Got A) (f : A → List ℕ → Got B) → Longer q x y → ((a : A) → Steady (f a)) → Longer q (bind x f) (bind y f)
bind-longer {B = B} q (got a r) y f e h = subst (λ (z : Got _). Longer q (f a r) (bind z f)) (sym e) (h a r q)
bind-longer q cut y f e h = tt
bind-longer q (bad k) y f e h = ap (λ z. bind z f) e

bind-steady : {A B : Type 0} (P : List ℕ → Got A) (f : A → List ℕ → Got B) → Steady P → ((a : A) → Steady (f a)) → Steady (λ bs. bind (P bs) f)
bind-steady P f h k p q = bind-longer q (P p) (P (p ++ q)) f (h p q) k

cond-steady : {A : Type 0} (b : Bool) (P Q : List ℕ → Got A) → Steady P → Steady Q → Steady (λ bs. cond b (P bs) (Q bs))
cond-steady true P Q h k = h
cond-steady false P Q h k = k

count-steady : Steady count
unfolding count
count-steady = bind-steady byte _ byte-steady (λ k. cond-steady (leb k 16) _ _ (λ p q. refl) (λ p q. refl))

flag-steady : Steady flag
unfolding flag
flag-steady = bind-steady byte _ byte-steady (λ k. cond-steady (ltb k 2) _ _ (λ p q. refl) (λ p q. refl))

name-steady : Steady name
unfolding name
name-steady = bind-steady byte _ byte-steady (λ a. bind-steady number _ number-steady (λ b. bind-steady number _ number-steady (λ c p q. refl)))

pub entry-steady : Steady entry
unfolding entry
entry-steady = bind-steady number _ number-steady (λ b. bind-steady number _ number-steady (λ c p q. refl))

pub entries-steady : (n : ℕ) → Steady (entries n)
unfolding entries
entries-steady zero p q = refl
entries-steady (suc n) p q = bind-steady entry _ entry-steady (λ e. bind-steady (entries n) _ (entries-steady n) (λ es r s. refl)) p q

body-steady : (d : Name) (r w : ℕ) → Steady (body d r w)
unfolding body
body-steady d r w = bind-steady (entries r) _ (entries-steady r) (λ rs. bind-steady (entries w) _ (entries-steady w) (λ ws p q. refl))

order-steady : Steady order
unfolding order
order-steady = bind-steady name _ name-steady (λ d. bind-steady count _ count-steady (λ r. bind-steady count _ count-steady (λ w. body-steady d r w)))

kind-steady : (k : ℕ) → Steady (kind k)
unfolding kind
kind-steady k =
    cond-steady (eqb k 1) _ _ (λ p q. refl)
    (cond-steady (eqb k 2) _ _ (bind-steady order _ order-steady (λ o p q. refl))
    (cond-steady (eqb k 3) _ _ (bind-steady name _ name-steady (λ d p q. refl))
    (cond-steady (eqb k 4) _ _ (bind-steady name _ name-steady (λ d p q. refl))
    (cond-steady (eqb k 5) _ _ (bind-steady order _ order-steady (λ o p q. refl)) (λ p q. refl)))))

form-steady : Steady form
unfolding form
form-steady = bind-steady byte kind byte-steady kind-steady

mkind-steady : (k : ℕ) → Steady (mkind k)
unfolding mkind
mkind-steady k =
    cond-steady (eqb k 6) _ _ (bind-steady order _ order-steady (λ o p q. refl))
    (cond-steady (eqb k 7) _ _ (bind-steady byte _ byte-steady (λ h. bind-steady name _ name-steady (λ d p q. refl)))
    (cond-steady (eqb k 8) _ _ (bind-steady flag _ flag-steady (λ b. bind-steady name _ name-steady (λ d p q. refl))) (λ p q. refl)))

mform-steady : Steady mform
unfolding mform
mform-steady = bind-steady byte mkind byte-steady mkind-steady

-- whole with all its bytes and none left, so cut with fewer
fewer : {A : Type 0} (x y : Got A) (a : A) (q : List ℕ) → Longer q x y → y ≡ got a [] → 0 < length q → x ≡ cut
fewer (got b r) y a q e f h =
    let none : r ++ q ≡ [] = cc in
    absurd (omega (arith, ap length none, length-append r q))
fewer cut y a q e f h = refl
fewer (bad k) y a q e f h = let z : ◌≡◌ {A = ℕ} 0 1 = cc in absurd (omega arith)

cut-front : {A : Type 0} (P : List ℕ → Got A) → Steady P → (bs : List ℕ) (a : A) (k : ℕ) → P (bs ++ []) ≡ got a [] → k < length bs → P (take k bs) ≡ cut
cut-front P steady bs a k whole h =
    let all : P (take k bs ++ drop k bs) ≡ got a [] = ap P (take-append-drop k bs ∙ sym (append-nil bs)) ∙ whole in
    fewer (P (take k bs)) _ a (drop k bs) (steady (take k bs) (drop k bs)) all (simp length-drop (omega arith))

pub message-cut : (m : Msg) (k : ℕ) → FitMsg m → k < length (msg_bytes m) → mform (take k (msg_bytes m)) ≡ cut
message-cut m k fit h = cut-front mform mform-steady (msg_bytes m) m k (mform-back m [] fit) h

pub cut_short : CutShort
cut_short n r k ok h = rw (cut-front form form-steady (rec_bytes r) r k (form-back r [] (rec-fit n r ok)) h)

parse-steady : (n : ℕ) → Steady (parse n)
parse-steady n = bind-steady form _ form-steady (λ r. cond-steady (rec_ok n r) _ _ (λ p q. refl) (λ p q. refl))

pub more-behind : MoreBehind
more-behind n bs rest q r e = more-left (parse n) (parse-steady n) bs q rest r e

pub stays-refused : StaysRefused
stays-refused n k bs q e = subst (λ (z : Got _). Longer q z (parse n (bs ++ q))) e (parse-steady n bs q)

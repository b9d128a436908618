-- The laws of messages. Assumes nothing.
use Rattle.std.proofs.Common.{◌≡◌, ℕ, zero, suc, ◌<◌, true, cond, eqb, ltb, List, [], ◌∷◌, ◌++◌, sym, refl, ap, ◌∙◌, append-nil, arith}
use Rattle.std.proofs.lemmas.Bool.{ltb-true, eqb-true}
use Rattle.protocol.specs.declared.Name.{Name}
use Rattle.protocol.specs.Net.{Hold, Yes, Told}
use Rattle.orders.specs.Order.{Msg, msg_ok}
use Rattle.orders.specs.Parse.{Got, got, cut, bad, bind, byte, flag, name, order, mkind, mform, Taken, taken, refused, exact, wholly, limit}
use Rattle.orders.specs.Encode.{name_bytes, order_bytes, msg_bytes}
use Rattle.orders.specs.Laws.{Bytes, MessageReadsBack, MessageOneForm, MessageCutShort, MessageMoreBehind}
use Rattle.orders.proofs.Fits.{msg-fit}
use Rattle.orders.proofs.ReadBack.{mform-back}
use Rattle.orders.proofs.Longer.{message-cut}
use Rattle.orders.proofs.OneForm.{Exact, byte_one, name-one, order-one, then_one, kind-with, cond-got, cond_cases}

pub message-reads-back : MessageReadsBack
unfolding wholly
message-reads-back n m ok = let whole : mform (msg_bytes m) ≡ got m [] = ap mform (sym (append-nil (msg_bytes m))) ∙ mform-back m [] (msg-fit n m ok) in rw (whole, ok)

pub message-cut-short : MessageCutShort
unfolding wholly
message-cut-short n m k ok h = rw (message-cut m k (msg-fit n m ok) h)

pub message-more-behind : MessageMoreBehind
unfolding wholly
message-more-behind n m b bs ok = rw (mform-back m (b ∷ bs) (msg-fit n m ok))

exact-taken : (g : Got Msg) (m : Msg) → exact g ≡ taken m → g ≡ got m []
exact-taken (got q []) m e = let same : q ≡ m = cc in ap (λ z. got z []) same
exact-taken (got q (b ∷ bs)) m e = let z : ◌≡◌ {A = ℕ} 0 1 = cc in absurd (omega arith)
exact-taken cut m e = let z : ◌≡◌ {A = ℕ} 0 1 = cc in absurd (omega arith)
exact-taken (bad k) m e = let z : ◌≡◌ {A = ℕ} 0 1 = cc in absurd (omega arith)

limit-taken : (n : ℕ) (x : Taken) (m : Msg) → limit n x ≡ taken m → x ≡ taken m
limit-taken n (taken q) m e = cond_cases (msg_ok n q) _ _ _ _ e (λ t x. x) (λ t x. let z : ◌≡◌ {A = ℕ} 0 1 = cc in absurd (omega arith))
limit-taken n (refused k) m e = e

-- 0 or 1 is the byte of what it says
flag-byte : (k : ℕ) → k < 2 → k ≡ cond (eqb k 1) 1 0
flag-byte zero l = refl
flag-byte (suc zero) l = refl
flag-byte (suc (suc k)) l = absurd (omega arith)

flag_one : Exact flag (λ b. cond b 1 0 ∷ [])
unfolding flag
flag_one bs rest b h e =
    then_one byte _ (λ k. k ∷ []) bs rest b _ byte_one h e (λ k cs p s hc ec.
    let x = cond-got (ltb k 2) _ 1 b rest ec in
    let y : k ≡ cond (eqb k 1) 1 0 = flag-byte k (ltb-true k 2 x.0) in
    let z = x.1 in
    let is : eqb k 1 ≡ b = cc in
    let left : cs ≡ rest = cc in
    s ∙ (λ i. y i ∷ cs) ∙ (λ i. cond (is i) 1 0 ∷ left i))

-- a byte and a name behind the kind
pair_one : {A : Type 0} (P : List ℕ → Got A) (enc : A → ℕ) (C : A → Name → Msg) (k₀ : ℕ) → Exact P (λ a. enc a ∷ []) → ((a : A) (d : Name) → msg_bytes (C a d) ≡ k₀ ∷ enc a ∷ name_bytes d) → (k : ℕ) (cs rest : List ℕ) (m : Msg) → eqb k k₀ ≡ true → Bytes cs →
    bind (P cs) (λ a bs. bind (name bs) (λ d bs. got (C a d) bs)) ≡ got m rest → k ∷ cs ≡ msg_bytes m ++ rest
pair_one P enc C k₀ ex is k cs rest m t h e =
    then_one P _ (λ a. enc a ∷ []) cs rest m _ ex h e (λ a ds p s hd ed.
    then_one name _ name_bytes ds rest m _ name-one hd ed (λ d fs q u hf ef.
    let x : k ≡ k₀ = eqb-true k k₀ t in
    let same : C a d ≡ m = cc in
    let left : fs ≡ rest = cc in
    (λ i. x i ∷ s i) ∙ ap (λ z. k₀ ∷ enc a ∷ z) u ∙ ap (λ z. z ++ fs) (sym (is a d)) ∙ (λ i. msg_bytes (same i) ++ left i)))

mkind-one : (k : ℕ) (cs rest : List ℕ) (m : Msg) → Bytes cs → mkind k cs ≡ got m rest → k ∷ cs ≡ msg_bytes m ++ rest
unfolding mkind
mkind-one k cs rest m h e =
    cond_cases (eqb k 6) _ _ _ _ e (λ t x. kind-with order Hold order_bytes msg_bytes 6 order-one (λ a. refl) k cs rest m t h x)
    (λ _ e2. cond_cases (eqb k 7) _ _ _ _ e2 (λ t x. pair_one byte (λ b. b) Yes 7 byte_one (λ a d. refl) k cs rest m t h x)
    (λ _ e3. cond_cases (eqb k 8) _ _ _ _ e3 (λ t x. pair_one flag (λ b. cond b 1 0) (λ b d. Told d b) 8 flag_one (λ a d. refl) k cs rest m t h x)
    (λ _ e4. let z : ◌≡◌ {A = ℕ} 0 1 = cc in absurd (omega arith))))

pub message-one-form : MessageOneForm
unfolding wholly mform
message-one-form n bs m h e =
    then_one byte mkind (λ b. b ∷ []) bs [] m _ byte_one h (exact-taken (mform bs) m (limit-taken n (wholly bs) m e)) (λ k cs p s hc ec. s ∙ mkind-one k cs [] m hc ec ∙ append-nil (msg_bytes m))

-- A record written into a buffer and appended, and what backs a message once it is synced.
use Rattle.std.proofs.Common.{◌≡◌, ℕ, ◌+◌, ◌-◌, Bool, true, false, cond, leb, List, ◌++◌, length, take, drop, Ok, Err, Result, sym, ap, ◌∙◌, append-nil, arith, take_all}
use mathlib.Core.Path.{subst⁻¹}
use lib.Seq.{take-append-add}
use Rattle.orders.specs.declared.Refusal.{Refusal}
use Rattle.orders.specs.declared.Refusal.TheVariants.{FileFull}
use Rattle.orders.specs.Order.{Msg}
use Rattle.orders.specs.Room.{size_in, over_in, over}
use Rattle.steps.specs.Hosts.{World, Backed, appended, synced}

take-front : (xs ys : List ℕ) (n : ℕ) → n ≡ length xs → take (n - 0) (xs ++ ys) ≡ xs
take-front xs ys n e = ap (λ (k : ℕ). take k (xs ++ ys)) (let z : n - 0 ≡ length xs + 0 = omega (arith, e) in z) ∙ take-append-add xs ys 0 ∙ append-nil xs

front-is : (b : Bool) (xs bs out : List ℕ) (len : ℕ) → cond {A = Result ℕ Refusal} b (Ok (length xs)) (Err FileFull) ≡ Ok len → out ≡ cond b (over xs bs) bs → take (len - 0) out ≡ xs
front-is true xs bs out len e o = let l : len ≡ length xs = cc in ap (λ (w : List ℕ). take (len - 0) w) o ∙ take-front xs (drop (length xs) bs) len l
front-is false xs bs out len e o = let z : ◌≡◌ {A = ℕ} 0 1 = cc in absurd (omega arith)

-- what was written in front of the buffer
pub written : (xs bs out : List ℕ) (len : ℕ) (r : Result ℕ Refusal) → r ≡ Ok len → r ≡ size_in xs bs → out ≡ over_in xs bs → take (len - 0) out ≡ xs
written xs bs out len r e s o = front-is (leb (length xs) (length bs)) xs bs out len (sym s ∙ e) o

-- after an append and a sync all of the file is durable
pub backed-synced : (m : Msg) (bs : List ℕ) (x y z : World) → y ≡ appended bs x → z ≡ synced y → Backed m (x.file ++ bs) → Backed m (take z.durable z.file)
backed-synced m bs x y z a s b =
    let e : take z.durable z.file ≡ x.file ++ bs =
    ap (λ (w : World). take w.durable w.file) s ∙ take_all (length y.file) y.file (omega arith) ∙ ap (λ (w : World). w.file) a in
    subst⁻¹ (λ (w : List ℕ). Backed m w) e b

-- A number below 2^32 and its four digits to the base 256. Assumes nothing.
use Rattle.std.proofs.Common.{◌≡◌, ℕ, ◌+◌, ◌*◌, ◌/◌, ◌%◌, ◌<◌, sym, ap, ◌∙◌, arith}
use native.Mathlib.Nat.{div-div-eq-div-mul}
use Rattle.std.proofs.lemmas.Nat.{div-add-mod'}

pub digits : (v : ℕ) → v < 4294967296 → v / 16777216 % 256 * 16777216 + v / 65536 % 256 * 65536 + v / 256 % 256 * 256 + v % 256 ≡ v
digits v h =
    let top : v / 16777216 % 256 ≡ v / 16777216 = omega arith in
    let two : v / 65536 * 256 + v / 256 % 256 ≡ v / 256 = ap (λ w. w * 256 + v / 256 % 256) (sym (div-div-eq-div-mul v 256 256)) ∙ div-add-mod' (v / 256) 256 in
    let three : v / 16777216 * 256 + v / 65536 % 256 ≡ v / 65536 = ap (λ w. w * 256 + v / 65536 % 256) (sym (div-div-eq-div-mul v 65536 256)) ∙ div-add-mod' (v / 65536) 256 in
    ap (λ w. w * 16777216 + v / 65536 % 256 * 65536 + v / 256 % 256 * 256 + v % 256) top ∙ sum v _ _ _ _ _ _ (div-add-mod' v 256) two three
  where
    sum : (x q1 q2 q3 r0 r1 r2 : ℕ) → q1 * 256 + r0 ≡ x → q2 * 256 + r1 ≡ q1 → q3 * 256 + r2 ≡ q2 → q3 * 16777216 + r2 * 65536 + r1 * 256 + r0 ≡ x
    sum x q1 q2 q3 r0 r1 r2 a b c = omega arith

module _ (a b c d : ℕ) (p : a < 256) (q : b < 256) (r : c < 256) (s : d < 256) where
  pub digit-3 : (a * 16777216 + b * 65536 + c * 256 + d) / 16777216 % 256 ≡ a
  digit-3 = omega arith

  pub digit-2 : (a * 16777216 + b * 65536 + c * 256 + d) / 65536 % 256 ≡ b
  digit-2 = omega arith

  pub digit-1 : (a * 16777216 + b * 65536 + c * 256 + d) / 256 % 256 ≡ c
  digit-1 = omega arith

  pub digit-0 : (a * 16777216 + b * 65536 + c * 256 + d) % 256 ≡ d
  digit-0 = omega arith

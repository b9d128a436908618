-- A stop that keeps the bytes of some whole records keeps those records.
use mathlib.Core.Path.{◌≡◌, refl, sym, ◌∙◌, ap, ap₂}
use mathlib.Core.Bool.{Bool, cond}
use mathlib.Core.List.{List, [], ◌∷◌}
use Prim.Native.Nat.{ℕ, zero, suc, ◌+◌, ◌-◌, ◌≤◌, ◌<◌}
use native.Mathlib.Omega.{arith}
use native.Mathlib.Decide.{dec_le}
use lib.Dec.{leb, le→leb, leb→le}
use lib.ListN.{length, take, drop, length-drop}
use lib.Seq.{take_all, length-take-le}
use Rattle.protocol.specs.Model.{Model}
use Rattle.protocol.specs.House.{Rec, Began, Held, Done, Dropped, Ruled}
use Rattle.protocol.specs.State.{rec_size, file_size}
use Rattle.protocol.specs.Plan.{whole_in}
use Rattle.protocol.proofs.Basics.{is_true, is_false}

module _ (M : Model) where
  some_size : (r : Rec M) → 0 < rec_size M r
  some_size Began = omega arith
  some_size (Held t) = omega arith
  some_size (Done d) = omega arith
  some_size (Dropped d) = omega arith
  some_size (Ruled t) = omega arith

  whole-none : (rs : List (Rec M)) → whole_in M 0 rs ≡ 0
  unfolding whole_in
  whole-none [] = refl
  whole-none (r ∷ rs) = ap (λ (c : Bool). cond c (whole_in M (0 - rec_size M r) rs + 1) 0) (is_false (leb (rec_size M r) 0) (λ t. omega (arith, some_size r, leb→le (rec_size M r) 0 t)))

  -- the bytes of the first records are those records
  pub whole_in_lem : (c : ℕ) (rs : List (Rec M)) → whole_in M (file_size M (take c rs)) rs ≡ length (take c rs)
  unfolding whole_in file_size
  whole_in_lem zero rs = whole-none rs
  whole_in_lem (suc c) [] = refl
  whole_in_lem (suc c) (r ∷ rs) =
      let k = rec_size M r in
      let x = file_size M (take c rs) in
      ap₂ (λ (b : Bool) (y : ℕ). cond b (whole_in M y rs + 1) 0) (is_true (leb k (k + x)) (le→leb k (k + x) (omega arith))) (let e : k + x - k ≡ x = omega arith in e)
      ∙ (let e : whole_in M x rs + 1 ≡ suc (length (take c rs)) = omega (arith, whole_in_lem c rs) in e)

  pub size-take : (c : ℕ) (rs : List (Rec M)) → file_size M (take c rs) ≤ file_size M rs
  unfolding file_size
  size-take zero rs = omega arith
  size-take (suc c) [] = omega arith
  size-take (suc c) (r ∷ rs) = omega (arith, size-take c rs)

  -- as a place in the whole file
  pub take-kept : (d c : ℕ) (f : List (Rec M)) → take (d + length (take c (drop d f))) f ≡ take (d + c) f
  take-kept d c f = elim (dec_le c (length (drop d f))) [
    | yes l ↦ ap (λ (k : ℕ). take (d + k) f) (length-take-le c (drop d f) l)
    | no g ↦
        let e : length (take c (drop d f)) ≡ length (drop d f) = ap (λ (x : List (Rec M)). length x) (take_all c (drop d f) (omega arith)) in
        take_all (d + length (take c (drop d f))) f (omega (arith, e, length-drop d f)) ∙ sym (take_all (d + c) f (omega (arith, length-drop d f)))
  ]

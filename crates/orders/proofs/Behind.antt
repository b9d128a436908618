-- The place behind a record that was read. Assumes nothing.
use Rattle.std.proofs.Common.{◌≡◌, ℕ, ◌+◌, ◌-◌, ◌<◌, ◌≤◌, true, cond, List, length, take, drop, sym, ap, ◌∙◌, subst, arith, length-append, length-drop, drop-drop}
use Rattle.std.proofs.lemmas.List.{drop_all, take_rest}
use Rattle.std.proofs.Math.Seq.{drop-append_seam}
use Rattle.orders.specs.Order.{Rec, rec_ok}
use Rattle.orders.specs.Parse.{got, cut, bad, bind, form, parse}
use Rattle.orders.proofs.Taking.{Takes, form-takes}

pub past-end : (n : ℕ) (bs : List ℕ) (at : ℕ) → length bs ≤ at → cut ≡ parse n (drop at bs)
unfolding form
past-end n bs at h = rw (drop_all at bs h)

-- the bytes xs at a place begin with a record, and rest is left
module _ (bs : List ℕ) (at : ℕ) (xs rest : List ℕ) (r : Rec) (d : xs ≡ take (length bs - at) (drop at bs)) (e : got r rest ≡ form xs) where
  same : xs ≡ drop at bs
  same = d ∙ take_rest bs at

  split : Takes 1 (drop at bs) (got r rest)
  split = subst (Takes 1 (drop at bs)) (ap form (sym same) ∙ sym e) (form-takes (drop at bs))

  long : length bs - at ≡ length split.0 + length rest
  long = sym (length-drop at bs) ∙ ap length split.1 ∙ length-append split.0 rest

  pub behind-within : length rest ≤ length bs
  behind-within = omega (arith, long)

  pub behind-on : at < length bs - length rest
  behind-on = omega (arith, long, split.2)

  pub behind-is : (n : ℕ) → true ≡ rec_ok n r → got r (drop (length bs - length rest) bs) ≡ parse n (drop at bs)
  behind-is n ok =
      let to : length bs - length rest ≡ at + length split.0 = omega (arith, long, split.2) in
      let left : drop (length bs - length rest) bs ≡ rest = ap (λ k. drop k bs) to ∙ sym (drop-drop (length split.0) at bs) ∙ ap (drop (length split.0)) split.1 ∙ drop-append_seam split.0 rest in
      ap (got r) left ∙ ap (λ b. cond b (got r rest) (bad 2)) ok ∙ ap (λ g. bind g (λ q ys. cond (rec_ok n q) (got q ys) (bad 2))) (e ∙ ap form same)

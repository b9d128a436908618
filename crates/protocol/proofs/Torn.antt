-- What a machine reads after a stop is some first part of the records, at least all that were synced.
use mathlib.Core.Path.{◌≡◌, refl, sym, ◌∙◌, ap}
use mathlib.Core.List.{List, [], ◌∷◌, ◌++◌}
use mathlib.Core.Option.{Option, none}
use Prim.Native.Nat.{ℕ, zero, suc, ◌+◌, ◌-◌, ◌≤◌, ◌<◌}
use native.Mathlib.Omega.{arith}
use native.Mathlib.Decide.{dec_le}
use lib.Dec.{T}
use lib.ListN.{length, take, length-append}
use lib.Seq.{take-nil, take-append-le, take-append-add}
use Rattle.protocol.specs.Model.{Model}
use Rattle.protocol.specs.House.{Rec, Began}
use Rattle.protocol.specs.Crash.{Codec, AllFit, bytes, read_one, read_back}

module _ (M : Model) (C : Codec M) where
  some_bytes : (r : Rec M) → T (C.fits r) → 0 < length (C.put r)
  some_bytes Began y = omega (arith, C.size Began y)
  some_bytes (Rec.Held t) y = omega (arith, C.size (Rec.Held t) y)
  some_bytes (Rec.Done d) y = omega (arith, C.size (Rec.Done d) y)
  some_bytes (Rec.Dropped d) y = omega (arith, C.size (Rec.Dropped d) y)
  some_bytes (Rec.Ruled t) y = omega (arith, C.size (Rec.Ruled t) y)

  read_none : (k : ℕ) (bs : List ℕ) → C.get bs ≡ none → read_back C k bs ≡ []
  unfolding read_back
  read_none zero bs e = refl
  read_none (suc k) bs e = ap (λ (o : Option (Rec M × List ℕ)). read_one o (read_back C k)) e

  read_some : (k : ℕ) (r : Rec M) (bs : List ℕ) → T (C.fits r) → read_back C (suc k) (C.put r ++ bs) ≡ r ∷ read_back C k bs
  unfolding read_back
  read_some k r bs y = ap (λ (o : Option (Rec M × List ℕ)). read_one o (read_back C k)) (C.whole r bs y)

  read-end : (k : ℕ) → read_back C k [] ≡ []
  read-end k = read_none k [] (C.torn Began 0 C.began (some_bytes Began C.began))

  abbrev Kept : List (Rec M) → ℕ → List (Rec M) → Type 0
  Kept f durable g = (k : ℕ) × (durable ≤ k) × (g ≡ take k f)

  kept-short : (fuel b durable : ℕ) (r : Rec M) (f : List (Rec M)) → T (C.fits r) → b < length (C.put r) → length (bytes C (take durable (r ∷ f))) ≤ b → Kept (r ∷ f) durable (read_back C fuel (take b (C.put r ++ bytes C f)))
  unfolding bytes
  kept-short fuel b zero r f y l h =
      (0, omega arith, ap (λ (x : List ℕ). read_back C fuel x) (take-append-le b (C.put r) (bytes C f) (omega arith)) ∙ read_none fuel (take b (C.put r)) (C.torn r b y l))
  kept-short fuel b (suc s) r f y l h = absurd (omega (arith, length-append (C.put r) (bytes C (take s f))))

  cut_at : (c : ℕ) (xs ys : List ℕ) (b : ℕ) → b ≡ length xs + c → take b (xs ++ ys) ≡ xs ++ take c ys
  cut_at c xs ys b e = ap (λ (x : ℕ). take x (xs ++ ys)) e ∙ take-append-add xs ys c

  kept-one : (fuel b c : ℕ) (r : Rec M) (f : List (Rec M)) → T (C.fits r) → b ≡ length (C.put r) + c → read_back C (suc fuel) (take b (C.put r ++ bytes C f)) ≡ r ∷ read_back C fuel (take c (bytes C f))
  kept-one fuel b c r f y e = ap (λ (x : List ℕ). read_back C (suc fuel) x) (cut_at c (C.put r) (bytes C f) b e) ∙ read_some fuel r (take c (bytes C f)) y

  kept_next : (fuel b durable : ℕ) (r : Rec M) (f : List (Rec M)) → T (C.fits r) → length (C.put r) ≤ b → b ≤ fuel → length (bytes C (take durable (r ∷ f))) ≤ b →
      ((fuel c s : ℕ) → c ≤ fuel → length (bytes C (take s f)) ≤ c → Kept f s (read_back C fuel (take c (bytes C f)))) → Kept (r ∷ f) durable (read_back C fuel (take b (C.put r ++ bytes C f)))
  unfolding bytes
  kept_next zero b durable r f y l q h more = absurd (omega (arith, some_bytes r y))
  kept_next (suc fuel) b zero r f y l q h more =
      let c = b - length (C.put r) in
      let w = more fuel c 0 (omega (arith, some_bytes r y)) (omega arith) in
      (suc w.0, omega arith, kept-one fuel b c r f y (omega arith) ∙ ap (λ (x : List (Rec M)). r ∷ x) w.2)
  kept_next (suc fuel) b (suc s) r f y l q h more =
      let c = b - length (C.put r) in
      let w = more fuel c s (omega (arith, some_bytes r y)) (omega (arith, length-append (C.put r) (bytes C (take s f)))) in
      (suc w.0, omega (arith, w.1), kept-one fuel b c r f y (omega arith) ∙ ap (λ (x : List (Rec M)). r ∷ x) w.2)

  pub read_kept : (f : List (Rec M)) (fuel b durable : ℕ) → AllFit C f → b ≤ fuel → length (bytes C (take durable f)) ≤ b → Kept f durable (read_back C fuel (take b (bytes C f)))
  unfolding bytes
  read_kept [] fuel b durable y q h = (durable, omega arith, ap (λ (x : List ℕ). read_back C fuel x) (take-nil b) ∙ read-end fuel ∙ sym (take-nil durable))
  read_kept (r ∷ f) fuel b durable y q h = elim (dec_le (length (C.put r)) b) [
    | no g ↦ kept-short fuel b durable r f y.0 (omega arith) h
    | yes l ↦ kept_next fuel b durable r f y.0 l q h (λ fuel c s u v. read_kept f fuel c s y.1 u v)
  ]

  pub fit-left : (f g : List (Rec M)) → AllFit C (f ++ g) → AllFit C f
  fit-left [] g y = tt
  fit-left (r ∷ f) g y = (y.0, fit-left f g y.1)

  pub fit-both : (f g : List (Rec M)) → AllFit C f → AllFit C g → AllFit C (f ++ g)
  fit-both [] g x y = y
  fit-both (r ∷ f) g x y = (x.0, fit-both f g x.1 y)

  pub fit-take : (k : ℕ) (f : List (Rec M)) → AllFit C f → AllFit C (take k f)
  fit-take zero f y = tt
  fit-take (suc k) [] y = tt
  fit-take (suc k) (r ∷ f) y = (y.0, fit-take k f y.1)

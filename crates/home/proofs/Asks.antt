-- The order of a name among those asked about: found, voted on, and taken out.
use Rattle.std.proofs.Common.{◌≡◌, ℕ, suc, ◌+◌, ◌<◌, Bool, true, false, cond, not, ◌||◌, T, eqb, ltb, List, [], ◌∷◌, map, length, get_or, set, Some, None, sym, refl, ap, ◌∙◌, subst, arith}
use mathlib.Core.Path.{fun_ext}
use mathlib.Core.Option.{Option, none, some}
use Rattle.std.proofs.lemmas.Bool.{or_parts, false≢true}
use Rattle.std.proofs.lemmas.Bool.Decides.{nat_tests}
use Rattle.std.proofs.lemmas.Option.{cond_some}
use Rattle.std.specs.List.{remove, position, position_or_len}
use Rattle.protocol.specs.declared.Name.{Name}
use Rattle.protocol.specs.Model.{same_name}
use Rattle.protocol.proofs.Basics.{same-eq}
use Rattle.protocol.specs.Net.{Asking, asked, drop_ask, voted}
use Rattle.protocol.specs.Plan.{ask_of}
use Rattle.orders.specs.Order.{entry_model}
use Rattle.entries.specs.Named.{named_of}
use Rattle.home.specs.declared.asked.Asked.{Asked}
use Rattle.home.specs.Memory.{asking_of, asked_of}
use Rattle.home.proofs.Marks.{set-mark}

module _ (d : Name) where
  -- how many stand before the first order of that name
  abbrev before : List Asked → ℕ
  before xs = position_or_len (asked_of d) xs

  -- a search says whether the name is asked about
  pub place-asked : (xs : List Asked) → ltb (before xs) (length xs) ≡ asked entry_model d (map asking_of xs)
  unfolding asked
  place-asked [] = refl
  place-asked (x ∷ xs) = by (asked_of d x) (place-asked xs)
    where
      by : (b : Bool) {a : Bool} → ltb (before xs) (length xs) ≡ a → ltb (cond (not b) (1 + before xs) 0) (suc (length xs)) ≡ (b || a)
      by true e = grind (arith, nat_tests)
      by false e = grind (arith, nat_tests)

  pub place-none : (xs : List Asked) → None ≡ position (asked_of d) xs → asked entry_model d (map asking_of xs) ≡ false
  place-none xs e = grind (arith, place-asked xs)

  pub place-some : (xs : List Asked) (i : ℕ) → Some i ≡ position (asked_of d) xs → (asked entry_model d (map asking_of xs) ≡ true) × (before xs ≡ i)
  place-some xs i e =
      let p = cond_some (ltb (before xs) (length xs)) (before xs) i (sym e) in
      (sym (place-asked xs) ∙ p.0, p.1)

  pub none-asked : (qs : List (Asking entry_model)) → asked entry_model d qs ≡ false → ask_of entry_model d qs ≡ none
  unfolding asked ask_of
  none-asked [] e = refl
  none-asked (a ∷ rest) e =
      let q = or_parts (same_name d a.order.name) (asked entry_model d rest) e in
      ap (λ b. cond b (some a) (ask_of entry_model d rest)) q.0 ∙ none-asked rest q.1

  -- an order of that name
  abbrev Some-of : Option (Asking entry_model) → Type 0
  Some-of o = (q : Asking entry_model) × ((o ≡ some q) × (q.order.name ≡ d))

  pub some-asked : (qs : List (Asking entry_model)) → asked entry_model d qs ≡ true → Some-of (ask_of entry_model d qs)
  unfolding asked ask_of
  some-asked [] e = absurd (false≢true e)
  some-asked (a ∷ rest) e = by (same_name d a.order.name) refl e (some-asked rest)
    where
      by : (b : Bool) → same_name d a.order.name ≡ b → (b || asked entry_model d rest) ≡ true → (asked entry_model d rest ≡ true → Some-of (ask_of entry_model d rest)) → Some-of (cond b (some a) (ask_of entry_model d rest))
      by true t e k = (a, (refl, sym (same-eq d a.order.name (subst T (sym t) tt))))
      by false t e k = k e

  pub none_dropped : (qs : List (Asking entry_model)) → asked entry_model d qs ≡ false → drop_ask entry_model d qs ≡ qs
  unfolding asked drop_ask
  none_dropped [] e = refl
  none_dropped (a ∷ rest) e =
      let q = or_parts (same_name d a.order.name) (asked entry_model d rest) e in
      ap (λ b. cond b rest (a ∷ drop_ask entry_model d rest)) q.0 ∙ ap (λ (qs : List (Asking entry_model)). a ∷ qs) (none_dropped rest q.1)

  one-more : (n : ℕ) → 1 + n ≡ suc n
  one-more n = omega arith

  out-dropped : (xs : List Asked) → map asking_of (remove xs (before xs)) ≡ drop_ask entry_model d (map asking_of xs)
  unfolding drop_ask
  out-dropped [] = refl
  out-dropped (x ∷ xs) = by (asked_of d x) (out-dropped xs)
    where
      by : (b : Bool) → map asking_of (remove xs (before xs)) ≡ drop_ask entry_model d (map asking_of xs) → map asking_of (remove (x ∷ xs) (cond (not b) (1 + before xs) 0)) ≡ cond b (map asking_of xs) (asking_of x ∷ drop_ask entry_model d (map asking_of xs))
      by true k = refl
      by false k = ap (λ n. map asking_of (remove (x ∷ xs) n)) (one-more (before xs)) ∙ ap (λ (qs : List (Asking entry_model)). asking_of x ∷ qs) k

  pub place-dropped : (xs ys : List Asked) (i : ℕ) → Some i ≡ position (asked_of d) xs → ys ≡ remove xs i → map asking_of ys ≡ drop_ask entry_model d (map asking_of xs)
  place-dropped xs ys i e r = ap (λ (zs : List Asked). map asking_of zs) r ∙ ap (λ n. map asking_of (remove xs n)) (sym (place-some xs i e).1) ∙ out-dropped xs

  -- the order with the yes of one more house
  abbrev with-mark : ℕ → Asked → Asking entry_model
  with-mark j x = record { order = named_of x.order; yes = λ k. eqb k j || get_or x.yes k false }

  with-yes : (j : ℕ) (x y : Asked) → j < length x.yes → y.order ≡ x.order → y.yes ≡ set x.yes j true → asking_of y ≡ with-mark j x
  with-yes j x y l o e = λ i. record {
    order = named_of (o i);
    yes = (fun_ext (λ k. ap (λ (marks : List Bool). get_or marks k false) e ∙ set-mark x.yes j k l)) i;
  }

  -- a house's yes is noted at the first order of that name
  module _ (j : ℕ) (x y : Asked) (l : j < length x.yes) (o : y.order ≡ x.order) (s : y.yes ≡ set x.yes j true) where
    in-voted : (xs : List Asked) → x ≡ get_or xs (before xs) x → map asking_of (set xs (before xs) y) ≡ voted entry_model j d (map asking_of xs)
    unfolding voted
    in-voted [] e = refl
    in-voted (z ∷ xs) e = by (asked_of d z) e (in-voted xs)
      where
        by : (b : Bool) → x ≡ get_or (z ∷ xs) (cond (not b) (1 + before xs) 0) x → (x ≡ get_or xs (before xs) x → map asking_of (set xs (before xs) y) ≡ voted entry_model j d (map asking_of xs)) →
            map asking_of (set (z ∷ xs) (cond (not b) (1 + before xs) 0) y) ≡ cond b (with-mark j z ∷ map asking_of xs) (asking_of z ∷ voted entry_model j d (map asking_of xs))
        by true e k = (λ t. with-yes j x y l o s t ∷ map asking_of xs) ∙ ap (λ (w : Asked). with-mark j w ∷ map asking_of xs) e
        by false e k =
            ap (λ n. map asking_of (set (z ∷ xs) n y)) (one-more (before xs))
            ∙ ap (λ (qs : List (Asking entry_model)). asking_of z ∷ qs) (k (e ∙ ap (λ n. get_or (z ∷ xs) n x) (one-more (before xs))))

    pub place-voted : (xs : List Asked) (i : ℕ) → Some i ≡ position (asked_of d) xs → x ≡ get_or xs i x → map asking_of (set xs i y) ≡ voted entry_model j d (map asking_of xs)
    place-voted xs i e g =
        let n = (place-some xs i e).1 in
        ap (λ k. map asking_of (set xs k y)) (sym n) ∙ in-voted xs (g ∙ ap (λ k. get_or xs k x) (sym n))

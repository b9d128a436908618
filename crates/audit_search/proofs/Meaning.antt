-- What the search's answers mean. Assumes nothing.
use Rattle.std.proofs.Common.{◌≡◌, ℕ, zero, suc, ◌+◌, ◌<◌, Bool, true, false, cond, not, ◌&&◌, ◌⊎◌, List, [], ◌∷◌, map, length, get_or, Some, None, Option, sym, refl, ap, ◌∙◌, subst, inl, inr, arith}
use mathlib.Core.List.Memᴰ
use mathlib.Core.List.{Memᴰ}
use Rattle.std.proofs.lemmas.Bool.{and_parts, not-true, not-false, false≢true}
use Rattle.std.proofs.lemmas.List.{length-map}
use Rattle.protocol.specs.declared.Name.{Name}
use Rattle.protocol.specs.House.{Began, Held, Done, Dropped, Ruled, ruled}
use Rattle.orders.specs.declared.Entry.{Entry}
use Rattle.orders.specs.Order.{Order, Rec, entry_model, party}
use Rattle.audit_search.specs.declared.faults.Fault.{Fault}
use Rattle.audit_search.specs.declared.faults.Fault.TheVariants.{DoneWithoutRuling, RuledAndMissing}
use Rattle.audit_search.specs.Account.{Account, account_of, no_account, keeps, lacks}
use Rattle.audit_search.specs.Search.{or_else, done_fault, ruling_fault, ruled_at, first_lacking, first_in, first_over, first_done, first_ruling, finding_of, faulty, sound, search, shelves_from, stocked}
use Rattle.audit_search.specs.Sound.{DonesRuled, RulingsKept, Shows, SoundExactly, FaultsThere}

-- one answer or the other
none_both : (o z : Option Fault) → or_else o z ≡ None → (o ≡ None) × (z ≡ None)
none_both None z e = (refl, e)
none_both (Some x) z e = (e, absurd (never x e))
  where
    never : (y : Fault) → ◌≡◌ {A = Option Fault} (Some y) None → ⊥
    never y f = let n : ◌≡◌ {A = ℕ} 0 1 = cc in omega arith

some_one : (o z : Option Fault) (x : Fault) → or_else o z ≡ Some x → (o ≡ Some x) ⊎ ((o ≡ None) × (z ≡ Some x))
some_one None z x e = inr (refl, e)
some_one (Some y) z x e = inl e

-- nothing is found in a file exactly if no record of it shows a fault
module _ (f : Rec → Option Fault) where
  in-none : (rs : List Rec) → ((r : Rec) → Memᴰ r rs → f r ≡ None) → first_in f rs ≡ None
  unfolding first_in
  in-none [] h = refl
  in-none (r ∷ rs) h = ap (λ o. or_else o (first_in f rs)) (h r (Memᴰ.head refl)) ∙ in-none rs (λ q m. h q (Memᴰ.tail m))

  none_in : (rs : List Rec) → first_in f rs ≡ None → (r : Rec) → Memᴰ r rs → f r ≡ None
  unfolding first_in
  none_in [] e r m = absurd (Memᴰ.not-nil m)
  none_in (q ∷ rs) e r m =
      let p = none_both (f q) (first_in f rs) e in
      elim (Memᴰ.cases_cons m) [
        | inl s ↦ ap f s ∙ p.0
        | inr n ↦ none_in rs p.1 r n
      ]

  some_in : (rs : List Rec) (x : Fault) → first_in f rs ≡ Some x → (r : Rec) × Memᴰ r rs × (f r ≡ Some x)
  unfolding first_in
  some_in [] x e = let n : ◌≡◌ {A = ℕ} 0 1 = cc in absurd (omega arith)
  some_in (q ∷ rs) x e = elim (some_one (f q) (first_in f rs) x e) [
    | inl s ↦ (q, Memᴰ.head refl, s)
    | inr n ↦ let w = some_in rs x n.1 in (w.0, Memᴰ.tail w.1, w.2)
  ]

-- the same of all files
module _ (f : ℕ → Rec → Option Fault) where
  over_none : (i : ℕ) (rss : List (List Rec)) → ((k j : ℕ) (r : Rec) → Memᴰ r (get_or rss j []) → f k r ≡ None) → first_over f i rss ≡ None
  unfolding first_over
  over_none i [] h = refl
  over_none i (rs ∷ rss) h = ap (λ o. or_else o (first_over f (i + 1) rss)) (in-none (f i) rs (λ r m. h i zero r m)) ∙ over_none (i + 1) rss (λ k j r m. h k (suc j) r m)

  none_over : (i : ℕ) (rss : List (List Rec)) → first_over f i rss ≡ None → (j : ℕ) (r : Rec) → Memᴰ r (get_or rss j []) → (k : ℕ) × (f k r ≡ None)
  unfolding first_over
  none_over i [] e j r m = absurd (Memᴰ.not-nil m)
  none_over i (rs ∷ rss) e zero r m = (i, none_in (f i) rs (none_both (first_in (f i) rs) (first_over f (i + 1) rss) e).0 r m)
  none_over i (rs ∷ rss) e (suc j) r m = none_over (i + 1) rss (none_both (first_in (f i) rs) (first_over f (i + 1) rss) e).1 j r m

  some-over : (i : ℕ) (rss : List (List Rec)) (x : Fault) → first_over f i rss ≡ Some x → (k : ℕ) × (j : ℕ) × (k ≡ i + j) × (r : Rec) × Memᴰ r (get_or rss j []) × (f k r ≡ Some x)
  unfolding first_over
  some-over i [] x e = let n : ◌≡◌ {A = ℕ} 0 1 = cc in absurd (omega arith)
  some-over i (rs ∷ rss) x e = elim (some_one (first_in (f i) rs) (first_over f (i + 1) rss) x e) [
    | inl s ↦ let w = some_in (f i) rs x s in (i, zero, omega arith, w.0, w.1, w.2)
    | inr n ↦ let w = some-over (i + 1) rss x n.1 in let q = w.2 in (w.0, suc w.1, omega arith, w.3, w.4, w.5)
  ]

-- no house lacks the order exactly if the search for one finds none
module _ (t : Order) where
  lack-none : (j : ℕ) (hs : List Account) → ((k i : ℕ) → i ≡ j + k → k < length hs → lacks t i (get_or hs k no_account) ≡ false) → first_lacking t j hs ≡ None
  unfolding first_lacking
  lack-none j [] h = refl
  lack-none j (a ∷ hs) h =
      ap (λ b. cond b (Some (RuledAndMissing j t.name)) (first_lacking t (j + 1) hs)) (h zero j (omega arith) (omega arith))
      ∙ lack-none (j + 1) hs (λ k i e l. h (suc k) i (omega arith) (omega arith))

  none-lack : (j : ℕ) (hs : List Account) → first_lacking t j hs ≡ None → (k i : ℕ) → i ≡ j + k → k < length hs → lacks t i (get_or hs k no_account) ≡ false
  unfolding first_lacking
  none-lack j [] e k i s l = absurd (omega arith)
  none-lack j (a ∷ hs) e zero i s l = let z : j ≡ i = omega arith in subst (λ m. lacks t m a ≡ false) z (first (lacks t j a) e)
    where
      first : (b : Bool) → cond b (Some (RuledAndMissing j t.name)) (first_lacking t (j + 1) hs) ≡ None → b ≡ false
      first true q = let n : ◌≡◌ {A = ℕ} 0 1 = cc in absurd (omega arith)
      first false q = refl
  none-lack j (a ∷ hs) e (suc k) i s l = none-lack (j + 1) hs (rest (lacks t j a) e) k i (omega arith) (omega arith)
    where
      rest : (b : Bool) → cond b (Some (RuledAndMissing j t.name)) (first_lacking t (j + 1) hs) ≡ None → first_lacking t (j + 1) hs ≡ None
      rest true q = let n : ◌≡◌ {A = ℕ} 0 1 = cc in absurd (omega arith)
      rest false q = q

  some-lack : (j : ℕ) (hs : List Account) (x : Fault) → first_lacking t j hs ≡ Some x → (k i : ℕ) × (i ≡ j + k) × (k < length hs) × (lacks t i (get_or hs k no_account) ≡ true) × (RuledAndMissing i t.name ≡ x)
  unfolding first_lacking
  some-lack j [] x e = let n : ◌≡◌ {A = ℕ} 0 1 = cc in absurd (omega arith)
  some-lack j (a ∷ hs) x e = elim (which (lacks t j a) e) [
    | inl s ↦ (zero, j, omega arith, omega arith, s.0, s.1)
    | inr s ↦ let w = some-lack (j + 1) hs x s in let q = w.2 in let l = w.3 in (suc w.0, w.1, omega arith, omega arith, w.4, w.5)
  ]
    where
      which : (b : Bool) → cond b (Some (RuledAndMissing j t.name)) (first_lacking t (j + 1) hs) ≡ Some x → ((b ≡ true) × (RuledAndMissing j t.name ≡ x)) ⊎ (first_lacking t (j + 1) hs ≡ Some x)
      which true q = let n : RuledAndMissing j t.name ≡ x = cc in inl (refl, n)
      which false q = inr q

get_d-account : (fs : List (List Rec)) (k : ℕ) → get_or (map account_of fs) k no_account ≡ account_of (get_or fs k [])
get_d-account [] k = refl
get_d-account (f ∷ fs) zero = refl
get_d-account (f ∷ fs) (suc k) = get_d-account fs k

module _ (fs : List (List Rec)) where
  abbrev hs : List Account
  hs = map account_of fs

  ruled-there : (d : Name) → ruled_at hs d ≡ ruled entry_model d (get_or fs d.home [])
  ruled-there d = ap (λ (a : Account). a.ruled d) (get_d-account fs d.home)

  -- a done record shows no fault exactly if its home ruled it
  done_none : DonesRuled fs → (k j : ℕ) (r : Rec) → Memᴰ r (get_or fs j []) → done_fault hs k r ≡ None
  done_none h k j Began m = refl
  done_none h k j (Held t) m = refl
  done_none h k j (Done d) m = ap (λ b. cond b None (Some (DoneWithoutRuling k d))) (ruled-there d ∙ h j d m)
  done_none h k j (Dropped d) m = refl
  done_none h k j (Ruled t) m = refl

  none_done : (k : ℕ) (d : Name) → done_fault hs k (Done d) ≡ None → ruled entry_model d (get_or fs d.home []) ≡ true
  none_done k d e = sym (ruled-there d) ∙ pick (ruled_at hs d) e
    where
      pick : (b : Bool) → cond b None (Some (DoneWithoutRuling k d)) ≡ None → b ≡ true
      pick true q = refl
      pick false q = let n : ◌≡◌ {A = ℕ} 0 1 = cc in absurd (omega arith)

  dones-none : DonesRuled fs → first_done fs ≡ None
  dones-none h = over_none (done_fault hs) 0 fs (done_none h)

  none-dones : first_done fs ≡ None → DonesRuled fs
  none-dones e i d m = let w = none_over (done_fault hs) 0 fs e i (Done d) m in none_done w.0 d w.1

  -- a ruled order is missing nowhere exactly if each house of it keeps it
  kept : (t : Order) (k j : ℕ) → k ≡ j → lacks t j (get_or hs k no_account) ≡ (party j t && not (keeps t (account_of (get_or fs j []))))
  kept t k j e = ap (lacks t j) (get_d-account fs k ∙ ap (λ m. account_of (get_or fs m [])) e)

  no-lack : (b c : Bool) → (b ≡ true → c ≡ true) → (b && not c) ≡ false
  no-lack true c h = ap not (h refl)
  no-lack false c h = refl

  ruling-none : RulingsKept fs → (k j : ℕ) (r : Rec) → Memᴰ r (get_or fs j []) → ruling_fault hs r ≡ None
  ruling-none h k j Began m = refl
  ruling-none h k j (Held t) m = refl
  ruling-none h k j (Done d) m = refl
  ruling-none h k j (Dropped d) m = refl
  ruling-none h k j (Ruled t) m =
      lack-none t 0 hs (λ l i e below. let s : l ≡ i = omega arith in
      let b : i < length fs = subst (λ w. w < length fs) s (subst (λ w. l < w) (length-map fs account_of) below) in
      kept t l i s ∙ no-lack (party i t) (keeps t (account_of (get_or fs i []))) (h j t m i b))

  rulings-none : RulingsKept fs → first_ruling fs ≡ None
  rulings-none h = over_none (λ k r. ruling_fault hs r) 0 fs (ruling-none h)

  none-rulings : first_ruling fs ≡ None → RulingsKept fs
  none-rulings e i t m j l here =
      let w = none_over (λ k r. ruling_fault hs r) 0 fs e i (Ruled t) m in
      let q = none-lack t 0 hs w.1 j j (omega arith) (subst (λ n. j < n) (sym (length-map fs account_of)) l) in
      keeps-it (party j t) (keeps t (account_of (get_or fs j []))) here (sym (kept t j j refl) ∙ q)
    where
      keeps-it : (b c : Bool) → b ≡ true → (b && not c) ≡ false → c ≡ true
      keeps-it true c h q = not-false c q
      keeps-it false c h q = absurd (false≢true h)

  sound-of : DonesRuled fs → RulingsKept fs → search fs ≡ sound (stocked 0 (shelves_from 0 fs))
  sound-of a b = ap (λ o. finding_of (or_else o (first_ruling fs)) fs) (dones-none a) ∙ ap (λ o. finding_of o fs) (rulings-none b)

  nothing : (o : Option Fault) (es : List Entry) → finding_of o fs ≡ sound es → o ≡ None
  nothing None es e = refl
  nothing (Some x) es e = let n : ◌≡◌ {A = ℕ} 0 1 = cc in absurd (omega arith)

  of-sound : (es : List Entry) → search fs ≡ sound es → DonesRuled fs × RulingsKept fs
  of-sound es e =
      let p = none_both (first_done fs) (first_ruling fs) (nothing (or_else (first_done fs) (first_ruling fs)) es e) in
      (none-dones p.0, none-rulings p.1)

  something : (o : Option Fault) (x : Fault) → finding_of o fs ≡ faulty x → o ≡ Some x
  something None x e = let n : ◌≡◌ {A = ℕ} 0 1 = cc in absurd (omega arith)
  something (Some y) x e = let n : y ≡ x = cc in ap (λ z. Some z) n

  -- a record of house k's file that shows a fault in the first pass, and in the second
  done-there : (k : ℕ) (r : Rec) (x : Fault) → Memᴰ r (get_or fs k []) → done_fault hs k r ≡ Some x → Shows fs x
  done-there k Began x m e = let n : ◌≡◌ {A = ℕ} 0 1 = cc in absurd (omega arith)
  done-there k (Held t) x m e = let n : ◌≡◌ {A = ℕ} 0 1 = cc in absurd (omega arith)
  done-there k (Done d) x m e = let p = pick (ruled_at hs d) e in subst (Shows fs) p.1 (m, sym (ruled-there d) ∙ p.0)
    where
      pick : (b : Bool) → cond b None (Some (DoneWithoutRuling k d)) ≡ Some x → (b ≡ false) × (DoneWithoutRuling k d ≡ x)
      pick true q = let n : ◌≡◌ {A = ℕ} 0 1 = cc in absurd (omega arith)
      pick false q = let n : DoneWithoutRuling k d ≡ x = cc in (refl, n)
  done-there k (Dropped d) x m e = let n : ◌≡◌ {A = ℕ} 0 1 = cc in absurd (omega arith)
  done-there k (Ruled t) x m e = let n : ◌≡◌ {A = ℕ} 0 1 = cc in absurd (omega arith)

  ruling-there : (k : ℕ) (r : Rec) (x : Fault) → DonesRuled fs → Memᴰ r (get_or fs k []) → ruling_fault hs r ≡ Some x → Shows fs x
  ruling-there k Began x a m e = let n : ◌≡◌ {A = ℕ} 0 1 = cc in absurd (omega arith)
  ruling-there k (Held t) x a m e = let n : ◌≡◌ {A = ℕ} 0 1 = cc in absurd (omega arith)
  ruling-there k (Done d) x a m e = let n : ◌≡◌ {A = ℕ} 0 1 = cc in absurd (omega arith)
  ruling-there k (Dropped d) x a m e = let n : ◌≡◌ {A = ℕ} 0 1 = cc in absurd (omega arith)
  ruling-there k (Ruled t) x a m e =
      let w = some-lack t 0 hs x e in
      let i = w.1 in
      let z = w.2 in
      let s : w.0 ≡ i = omega arith in
      let both = and_parts (party i t) (not (keeps t (account_of (get_or fs i [])))) (sym (kept t w.0 i s) ∙ w.4) in
      subst (Shows fs) w.5 (a, (k, t, m, refl, subst (λ y. y < length fs) s (subst (λ y. w.0 < y) (length-map fs account_of) w.3), both.0, not-true (keeps t (account_of (get_or fs i []))) both.1))

  fault-there : (x : Fault) → search fs ≡ faulty x → Shows fs x
  fault-there x e = elim (some_one (first_done fs) (first_ruling fs) x (something (or_else (first_done fs) (first_ruling fs)) x e)) [
    | inl s ↦ let w = some-over (done_fault hs) 0 fs x s in let q = w.2 in let z : w.1 ≡ w.0 = omega arith in done-there w.0 w.3 x (subst (λ j. Memᴰ w.3 (get_or fs j [])) z w.4) w.5
    | inr s ↦ let w = some-over (λ k r. ruling_fault hs r) 0 fs x s.1 in ruling-there w.1 w.3 x (none-dones s.0) w.4 w.5
  ]

pub sound-exactly : SoundExactly
sound-exactly fs = (sound-of fs, of-sound fs)

pub faults-there : FaultsThere
faults-there fs x e = fault-there fs x e

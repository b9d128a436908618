-- The marks of the numbers tried, and of the houses that said yes.
use Rattle.std.proofs.Common.{◌≡◌, ℕ, zero, suc, ◌<◌, Bool, true, false, ◌&&◌, ◌||◌, ◌==◌, eqb, List, length, get_or, set, replicate, sym, refl, ap, ◌∙◌, ⊎_elim, eq-eqb, ne_eqb}
use mathlib.Core.Path.{fun_ext}
use Rattle.std.proofs.lemmas.Bool.{cases_eq, and_right, and_parts, eqb-true}
use Rattle.std.proofs.lemmas.List.{get_or-set_same, get_or-set_other}
use Rattle.std.proofs.lemmas.List.Recursion.{and_from_places, and_fails_at}
use Rattle.protocol.specs.declared.Name.{Name}
use Rattle.protocol.specs.Model.{same_name}
use Rattle.protocol.specs.Plan.{all_said}
use Rattle.orders.specs.declared.Entry.{Entry}
use Rattle.orders.specs.Order.{houses_of, entry_model}
use Rattle.home.specs.Memory.{tried_of, marked}

pub all-false : (n j : ℕ) → get_or (replicate n false) j false ≡ false
all-false zero j = refl
all-false (suc n) zero = refl
all-false (suc n) (suc j) = all-false n j

pub tried-none : (h s n : ℕ) → tried_of h s (replicate n false) ≡ (λ d. false)
tried-none h s n = fun_ext (λ d. and_right (eqb d.home h && eqb d.start s) (get_or (replicate n false) d.number false) (all-false n d.number))

-- one more mark is set
pub set-mark : (marks : List Bool) (k j : ℕ) → k < length marks → get_or (set marks k true) j false ≡ (eqb j k || get_or marks j false)
set-mark marks k j l =
    ⊎_elim
    (λ (q : j ≡ k). ap (λ x. get_or (set marks k true) x false) q ∙ get_or-set_same marks k true false l ∙ sym (ap (λ b. b || get_or marks j false) (eq-eqb j k q)))
    (λ (q : j ≡ k → ⊥). get_or-set_other marks k j true false q ∙ sym (ap (λ b. b || get_or marks j false) (ne_eqb j k q)))
    (cases_eq j k)

-- one more name is tried
pub tried-set : (h s : ℕ) (marks : List Bool) (n : Name) → (n.home == h && n.start == s) ≡ true → n.number < length marks → tried_of h s (set marks n.number true) ≡ (λ d. same_name d n || tried_of h s marks d)
tried-set h s marks n own l =
    let q = and_parts (n.home == h) (n.start == s) own in
    let eh : h ≡ n.home = sym (eqb-true n.home h q.0) in
    let es : s ≡ n.start = sym (eqb-true n.start s q.1) in
    fun_ext (λ d.
    ap (λ b. (eqb d.home h && eqb d.start s) && b) (set-mark marks n.number d.number l)
    ∙ spread (eqb d.home h && eqb d.start s) (eqb d.number n.number) (get_or marks d.number false)
    ∙ (λ i. ((eqb d.home (eh i) && eqb d.start (es i)) && eqb d.number n.number) || tried_of h s marks d))
  where
    spread : (a b c : Bool) → (a && (b || c)) ≡ ((a && b) || (a && c))
    spread true b c = refl
    spread false b c = refl

module _ (marks : List Bool) where
  -- whether the house of each entry is marked
  abbrev all-marked : List Entry → Bool
  all-marked es = all_said entry_model (houses_of es) (λ j. get_or marks j false)

  pub all_said-all : (es : List Entry) → ((k : ℕ) (d : Entry) → k < length es → marked marks (get_or es k d) ≡ true) → all-marked es ≡ true
  unfolding all_said houses_of
  all_said-all es h =
      let d : Entry = record { key = 0; amount = 0 } in
      and_from_places all-marked (marked marks) refl (λ _ _. refl) es d (λ k l. h k d l)

  pub all_said-one : (es : List Entry) (k : ℕ) (d : Entry) → k < length es → marked marks (get_or es k d) ≡ false → all-marked es ≡ false
  unfolding all_said houses_of
  all_said-one es k d l e = and_fails_at all-marked (marked marks) refl (λ _ _. refl) es k d l e

-- What opening the files and the two searches of their records found is what the audit answers. Assumes nothing.
use Rattle.std.proofs.Common.{◌≡◌, ℕ, ◌<◌, false, List, map, length, Some, None, Option, Ok, Err, Result, Vec, vec_items, sym, refl, ap, ◌∙◌, subst, arith}
use Rattle.std.specs.declared.alloc.Global.{Global}
use Rattle.std.proofs.lemmas.Bool.Decides.{nat_tests}
use Rattle.protocol.specs.Model.{houses_ok}
use Rattle.orders.specs.declared.Entry.{Entry}
use Rattle.orders.specs.Order.{Rec}
use Rattle.orders.specs.File.{records}
use Rattle.audit_search.specs.declared.faults.Fault.{Fault}
use Rattle.audit_search.specs.declared.faults.Fault.TheVariants.{Refused, DoneWithoutRuling, RuledAndMissing, NoMemory}
use Rattle.audit_search.specs.declared.houses.Houses.{Houses}
use Rattle.audit_search.specs.Account.{Account, account_of}
use Rattle.audit_search.specs.Search.{or_else, checked, done_fault, ruling_fault, first_over, first_ruling, finding_of, search, sound, faulty, stocked}
use Rattle.audit_search.specs.Audited.{AllOpened, Answered, Audited, stopped, searched, accounts, all_shelves}
use Rattle.audit_search.proofs.Meaning.{faults-there}
use Rattle.audit_search.proofs.Stand.{only-files}

-- what a check found by its answer
found-none : (o : Option Fault) → Ok tt ≡ checked o → None ≡ o
found-none None e = refl
found-none (Some x) e = let n : ◌≡◌ {A = ℕ} 0 1 = cc in absurd (omega arith)

found-some : (x : Fault) (o : Option Fault) → Err x ≡ checked o → Some x ≡ o
found-some x None e = let n : ◌≡◌ {A = ℕ} 0 1 = cc in absurd (omega arith)
found-some x (Some y) e = let n : x ≡ y = cc in ap (λ z. Some z) n

-- a number that is no byte is no number of houses
pub many : (n : ℕ) → (n < 256 → ⊥) → houses_ok n ≡ false
many n h = grind (arith, nat_tests)

pub shut : (fs : List (List ℕ)) (x : Fault) → AllOpened fs (Err x) → Answered fs (Err x)
shut fs (Refused f h) p = stopped h f p.1.0 p.0 p.1.1 p.2
shut fs (DoneWithoutRuling h d) p = absurd p
shut fs (RuledAndMissing h d) p = absurd p
shut fs NoMemory p = tt

module _ (fs : List (List ℕ)) (hs : Houses) (p : AllOpened fs (Ok hs)) (n : ℕ) (all : n ≡ length fs) where
  abbrev rss : List (List Rec)
  rss = p.records

  -- what the search of the records finds is what the audit answers
  named : (x : Fault) → search rss ≡ faulty x → Answered fs (Err x)
  named (Refused f h) e = absurd (faults-there rss (Refused f h) e)
  named (DoneWithoutRuling h d) e = subst (Audited fs) e (searched rss p.opened)
  named (RuledAndMissing h d) e = subst (Audited fs) e (searched rss p.opened)
  named NoMemory e = tt

  -- a search of all files answers r, where f says what a record shows
  abbrev Sought : (List Account → ℕ → Rec → Option Fault) → Result (Unit {0}) Fault → Type 0
  Sought f r = r ≡ checked (first_over (f (accounts hs)) 0 (map (records n) fs))

  by-records : (f : List Account → ℕ → Rec → Option Fault) (r : Result (Unit {0}) Fault) → Sought f r → r ≡ checked (first_over (f (map account_of rss)) 0 rss)
  by-records f r s =
      s ∙ ap (λ accounts. checked (first_over (f accounts) 0 (map (records n) fs))) p.accounts
      ∙ ap (λ qss. checked (first_over (f (map account_of rss)) 0 qss)) (ap (λ m. map (records m) fs) all ∙ only-files fs rss p.opened)

  pub found-done : (x : Fault) → Sought done_fault (Err x) → Answered fs (Err x)
  found-done x s = named x (ap (λ o. finding_of (or_else o (first_ruling rss)) rss) (sym (found-some x _ (by-records done_fault (Err x) s))))

  module _ (done : Sought done_fault (Ok tt)) where
    no-done : search rss ≡ finding_of (first_ruling rss) rss
    no-done = ap (λ o. finding_of (or_else o (first_ruling rss)) rss) (sym (found-none _ (by-records done_fault (Ok tt) done)))

    pub found-ruling : (x : Fault) → Sought (λ hs i. ruling_fault hs) (Err x) → Answered fs (Err x)
    found-ruling x s = named x (no-done ∙ ap (λ o. finding_of o rss) (sym (found-some x _ (by-records (λ hs i. ruling_fault hs) (Err x) s))))

    pub all-sound : Sought (λ hs i. ruling_fault hs) (Ok tt) → (es : Vec Entry Global) → vec_items es ≡ stocked 0 (all_shelves hs) → Answered fs (Ok es)
    all-sound s es e =
        subst (λ w. Audited fs (sound w)) (sym (e ∙ ap (stocked 0) p.shelves))
        (subst (Audited fs) (no-done ∙ ap (λ o. finding_of o rss) (sym (found-none _ (by-records (λ hs i. ruling_fault hs) (Ok tt) s)))) (searched rss p.opened))

-- The promise of the whole and its parts, for orders that read and write entries.
use mathlib.Core.Path.{◌≡◌, refl, sym, ◌∙◌, ap}
use mathlib.Core.Logic.{inl, inr}
use mathlib.Core.List.{List, [], ◌∷◌, Memᴰ}
use Prim.Native.Nat.{ℕ, zero, suc}
use native.Mathlib.Omega.{arith}
use lib.ListN.{get_or, replicate, length-replicate}
use Rattle.protocol.specs.Model.{same_name, played_all}
use Rattle.protocol.specs.House.{Held, Dropped, Ruled, stock}
use Rattle.protocol.specs.Run as run
use Rattle.protocol.proofs.Basics.{decide, same-eq, eq-same}
use Rattle.protocol.proofs.Reached as reached
use Rattle.protocol.proofs.Runs as runs
use Rattle.protocol.proofs.Valid.{done-valid}
use Rattle.orders.specs.Order.{Order, item_of, entry_model}
use Rattle.promise.specs.Promise.{Net, Reach, after, Always, OnRuns, held_back, nothing, write_all, played, Serial, Whole, Main, MainRun, OneName, AllOrNone, Final, Apart, Answers, KeptBetween, Kept, KeptRun, total, KeepsSum, Conserved, Parts}
use Rattle.promise.proofs.OrderLaws.{order-laws, fit-clear}
use Rattle.promise.proofs.Keys.{Linked, AllItems, order-items, linked-played, linked-serial, settle-still}

zeros : (n i : ℕ) → ◌≡◌ {A = ℕ} (get_or (replicate n 0) i 0) 0
zeros zero i = refl
zeros (suc n) zero = refl
zeros (suc n) (suc i) = zeros n i

empty-linked : Linked (λ i. entry_model.empty) nothing
empty-linked = record { all = λ h. length-replicate {A = ℕ} 4096 0; same = λ k. zeros 4096 (item_of k) }

module _ (n : ℕ) (s : Net) (p : Reach n s) where
  items : AllItems s.done
  items t k = order-items n t (done-valid entry_model n order-laws s p t k)

  whole-at : Whole n s
  whole-at =
      let w = reached.whole entry_model order-laws n s p in
      record {
        serial = linked-serial s.done (λ i. entry_model.empty) nothing items empty-linked w.serial;
        shelves = λ i k b e still.
            sym (settle-still i s.done (held_back s i) (stock entry_model i (s.house i).file) k e still)
            ∙ ap (λ (m : List ℕ). get_or m (item_of k) 0) (w.shelves i)
            ∙ ap (λ (j : ℕ). get_or (played_all entry_model (λ i. entry_model.empty) s.done j) (item_of k) 0) (sym e)
            ∙ (linked-played s.done (λ i. entry_model.empty) nothing items empty-linked).same k;
      }

pub main : Main
main n s p = whole-at n s p

one_name : Always OneName
one_name n s p = reached.one_name entry_model order-laws n s p

final : Always Final
final n s p = reached.final entry_model order-laws n s p

all-or-none : Always AllOrNone
all-or-none n s p = record {
  did = λ i d b. reached.done-ruled entry_model order-laws n s p i d;
  dropped = λ i d b k t m e. final n s p d ((reached.reach-keeps entry_model order-laws n s p).recs i (Dropped d) k) t m e;
  holds = λ i t b. reached.ruled-held entry_model order-laws n s p i t;
}

apart : Always Apart
apart n s p i b t u k l c = elim (decide (same_name t.name u.name)) [
  | inl e ↦ reached.held-once entry_model order-laws n s p i t u k l (same-eq _ _ e)
  | inr e ↦ absurd (fit-clear i _ _ (reached.fits entry_model order-laws n s p i) t u k l (λ q. e (eq-same _ _ q)) c)
]

answers : Always Answers
answers n s p i b = reached.answers entry_model order-laws n s p i

pub kept : Kept
kept n s t p q i b u = (reached.step-hard entry_model order-laws n s t p q i (Ruled u) tt, reached.step-hard entry_model order-laws n s t p q i (Held u) tt)

total-played : (ts : List Order) (m : ℕ → ℕ) (ks : List ℕ) → Serial m ts → ((t : Order) → Memᴰ t ts → KeepsSum ks t) → total (played m ts) ks ≡ total m ks
unfolding played Serial
total-played [] m ks q f = refl
total-played (t ∷ ts) m ks q f = total-played ts (write_all t.writes m) ks q.1 (λ u k. f u (Memᴰ.tail k)) ∙ f t (Memᴰ.head refl) m q.0

total-nothing : (ks : List ℕ) → total nothing ks ≡ 0
unfolding total
total-nothing [] = refl
total-nothing (k ∷ ks) = omega (arith, total-nothing ks)

conserved : Always Conserved
conserved n s p ks f = total-played s.done nothing ks (main n s p).serial f ∙ total-nothing ks

pub parts : Parts Always
parts = record { one = one_name; all = all-or-none; last = final; apart = apart; answers = answers; conserved = conserved }

-- what holds of all that the relation reaches holds of every list of commands
on-runs : (P : ℕ → Net → Type 0) → Always P → OnRuns P
on-runs P p n cs = p n (after n cs) (runs.run-start entry_model order-laws n cs)

pub main-run : MainRun
main-run = on-runs Whole main

pub parts-run : Parts OnRuns
parts-run = record {
  one = on-runs OneName one_name;
  all = on-runs AllOrNone all-or-none;
  last = on-runs Final final;
  apart = on-runs Apart apart;
  answers = on-runs Answers answers;
  conserved = on-runs Conserved conserved;
}

pub kept_run : KeptRun
kept_run n cs c =
    let s = after n cs in
    runs.by-moved entry_model order-laws n s (λ t. KeptBetween n s t) (λ i b u. (λ k. k, λ k. k)) (λ t q. kept n s t (runs.run-start entry_model order-laws n cs) q)
    (run.step entry_model n c s).0 (run.step entry_model n c s).1 (runs.step-moves entry_model order-laws n c s)
